-- `lists::cleaned_at` meets its contract. Assumes nothing.
use mathlib.Core.Path.{sym}
use Rattle.cells.specs.PartLaws.{get_or-part}
use Rattle.lists.specs.Rest.{cleaned_in}
use Rattle.lists.proofs.cleaned_at.Goals as goal

pub returns : goal.returns
unfolding cleaned_in
returns c = sym (get_or-part 3 _ c.args.ys.now c.args.j 0 c.requires.j_bound.0)
