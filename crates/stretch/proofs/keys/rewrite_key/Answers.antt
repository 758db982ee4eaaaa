-- `stretch::keys::rewrite_key` meets its contract. Assumes nothing.
use Rattle.cells.specs.Part.{part}
use Rattle.stretch.specs.Stretch.{key_count, key_rows_at}
use Rattle.stretch.proofs.KeyWays.{rewriting}
use Rattle.stretch.proofs.Reaches.{lent-keys-leave}
use Rattle.stretch.proofs.keys.rewrite_key.Goals as goal

pub returns : goal.returns
unfolding key_count key_rows_at part
returns c =
    record { changed_at = rewriting _ c.args.p.now c.args.b.now _ c.requires c.rewrite_key.auto.rows _ _ _ _ c.rewrite_key.ensures; p_unchanged = lent-keys-leave c.args.keys_at c.args.p.now c.rewrite_key.new.rows c.requires.numbers c.rewrite_key.auto.rows }
