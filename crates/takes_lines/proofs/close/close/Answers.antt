-- `takes_lines::close::close` meets its contract. Assumes nothing.
use Rattle.takes_lines.proofs.close.close.Goals as goal
use Rattle.takes_lines.proofs.close.close.Goals.{in-Letter, in-Group+in_ok-line-in-Group, in-First+in_ok-ok_or-in-First, in-Index+in_ok-line-in-Index, in-File+in_ok-line-in-File, in-Key+else-is_some}

-- no field's digit that waits is changed
pub invariant_of-line-2-clause-is_digit : goal.invariant_of-line-2-clause-is_digit
invariant_of-line-2-clause-is_digit c =
    elim c.match-line.branch [
      | in-Letter w ↦ rw w.line-is c.args.line.is_digit
      | in-Group+in_ok-line-in-Group w ↦ rw w.line-is c.args.line.is_digit
      | in-First+in_ok-ok_or-in-First w ↦ rw w.line-is c.args.line.is_digit
      | in-Index+in_ok-line-in-Index w ↦ rw w.line-is c.args.line.is_digit
      | in-File+in_ok-line-in-File w ↦ rw w.line-is c.args.line.is_digit
      | in-Key+else-is_some w ↦ rw w.line-is c.args.line.is_digit
    ]
