-- `stretch::header::write_head` meets its contract. Assumes nothing.
use mathlib.Core.Path.{◌∙◌}
use Rattle.stretch.specs.Stretch.{head_numbers}
use Rattle.stretch.specs.StretchLaws.{three-numbers}
use Rattle.stretch.proofs.header.write_head.Goals as goal

pub returns : goal.returns
unfolding head_numbers
returns c = c.copy_in.ensures ∙ rw (c.span_numbers-told.ensures, ← three-numbers c.args.head.atomic_group)
