-- `key_lists::copies::copy_stretch` meets its contract: after each turn the first j rows of the stretch are laid in. Assumes nothing.
use mathlib.Core.Path.{refl, ap, ◌∙◌}
use Prim.Native.Nat.{◌+◌}
use Rattle.key_lists.specs.Lists.{row_lens, row_bytes}
use Rattle.key_lists.proofs.Stretched.{stretch-none, stretch-more}
use borrow.Author.Rules.{rules}
use Rattle.key_lists.proofs.copies.copy_stretch.Goals as goal

pub loop-j-init : goal.loop-j-init
loop-j-init c = (refl, refl, refl, stretch-none row_lens _, stretch-none row_bytes _)

pub loop-j-preserved : goal.loop-j-preserved
loop-j-preserved c =
    let more = stretch-more c.args.keys.now c.args.low c.args.high c.args.backwards (search rules) (search rules) in
    let i = ap (λ k. c.args.low + k) c.place_of.ensures.value in (
      search rules,
      c.copy_row.auto.lens ∙ c.loop-j.invariant.1,
      c.copy_row.auto.out ∙ c.loop-j.invariant.2,
      more row_lens c.loop-j.j _ _ _ _ (search rules) i c.loop-j.invariant.3 c.copy_row.ensures.lens_after,
      more row_bytes c.loop-j.j _ _ _ _ (search rules) i c.loop-j.invariant.4 c.copy_row.ensures.out_after,
    )
