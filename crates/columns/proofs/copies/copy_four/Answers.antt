-- `columns::copies::copy_four` meets its contract. Assumes nothing.
use native.Mathlib.Omega.{arith}
use Rattle.columns.proofs.ColumnWays.{four-laid}
use Rattle.columns.proofs.copies.copy_four.Goals as goal

pub returns : goal.returns
returns c = four-laid c.args.out.now c.args.at c.args.part.now c.args.from c.args.cell (omega arith)
