-- `queries::files::min_file_seq` meets its contract. Assumes nothing.
use mathlib.Core.Path.{◌∙◌, sym, ap}
use Rattle.rules.specs.Causes.{Ok}
use Rattle.queries.specs.PlaceLaws.{passed-on, asked_at}
use Rattle.queries.proofs.files.min_file_seq.Goals as goal

pub returns-in_err-k : goal.returns-in_err-k
returns-in_err-k c = rw (← c.area.view_is) (passed-on _ (c.place_of.ensures.stands _ c.area.invariant) c.in_err-k.was c.from_residual.result c.from_residual.ensures.1)

pub min_file_seq_at-requires-clause-wf : goal.min_file_seq_at-requires-clause-wf
min_file_seq_at-requires-clause-wf c = ((c.place_of.ensures.stands _ c.area.invariant).at _ c.in_ok-k.was).wf

pub returns : goal.returns
returns c = rw (← c.area.view_is) (ap Ok c.min_file_seq_at.ensures ∙ sym (asked_at _ _ _ _ _ ((c.place_of.ensures.stands _ c.area.invariant).at _ c.in_ok-k.was)))
