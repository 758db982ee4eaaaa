-- `kvs::delete` meets its contract. Assumes nothing.
use mathlib.Core.Path.{sym, ◌∙◌}
use Rattle.kvs.proofs.Puts.{delete_at, delete-absent}
use Rattle.kvs.proofs.delete.Goals as goal

pub returns-in_default : goal.returns-in_default
returns-in_default c = delete-absent _ _ _ _ c.requires c.in_default.field-0 (rw c.new.ensures at (sym c.find-place.ensures.place ∙ c.in_default.is))

pub returns : goal.returns
returns c = rw (c.close_row.ensures.rows_after, c.close_row.ensures.bytes_after) (delete_at _ _ _ _ c.requires c.in-Ok.i (rw c.new.ensures at (sym c.find-place.ensures.place ∙ c.in-Ok.is)))
