-- `memtable::scans::count_to_size` meets its contract. Assumes nothing.
use mathlib.Core.Path.{sym, ◌∙◌}
use Rattle.memtable.specs.ScanLaws.{all-fit}
use borrow.Author.Rules.{rules}
use Rattle.memtable.proofs.scans.count_to_size.Goals as goal

pub returns-then-all_fit : goal.returns-then-all_fit
returns-then-all_fit c = (all-fit _ c.args.count _ (sym c.all_fit.ensures ∙ c.if-all_fit.true), search rules)
