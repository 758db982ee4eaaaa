-- `key_lists::copies::copy_row` meets its contract: two stores and two copies. Assumes nothing.
use Rattle.rules.specs.TableQueries.{row_of}
use Rattle.kvs.specs.Places.{pair_at}
use Rattle.key_lists.proofs.Answers.{two_lens, two-copies}
use Rattle.key_lists.proofs.copies.copy_row.Goals as goal

pub returns : goal.returns
unfolding row_of
returns c =
    let x = row_of (pair_at c.args.i c.args.keys.now) in
    record { lens_after = two_lens _ _ _ x _ c.key-key.ensures.value c.value-value.ensures.value c.requires.j_in_bounds.0; out_after = two-copies _ _ _ x _ _ _ c.key-key.ensures.value c.value-value.ensures.value c.copy_in.ensures c.copy_in-2.ensures }
