-- `key_lists::copies::copy_chosen` meets its contract: what is written and the rows that are left give the whole. Assumes nothing.
use mathlib.Core.Path.{◌≡◌}
use lib.ListN.{length}
use Rattle.key_lists.proofs.Answers.{Copying}
use Rattle.key_lists.proofs.copies.copy_chosen.Given as goal

abbrev pub invariant-loop-s : goal.invariant-loop-s
invariant-loop-s l = (length l.lens ≡ length l.initial.lens) × (length l.out ≡ length l.initial.out) × Copying l.which l.keys l.backwards l.limit l.initial.lens l.initial.out l.s l.j l.lens l.out
