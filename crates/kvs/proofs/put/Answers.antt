-- `kvs::put` meets its contract. Assumes nothing.
use mathlib.Core.Path.{sym, ◌∙◌}
use native.Mathlib.Omega.{arith}
use Rattle.kvs.specs.Calls.{held_by}
use Rattle.kvs.proofs.Puts.{put_at, put-before, put_full, no_rows, no_bytes}
use Rattle.kvs.proofs.put.Goals as goal

pub returns-then-rows-n-lt-ROW_WIDTH : goal.returns-then-rows-n-lt-ROW_WIDTH
returns-then-rows-n-lt-ROW_WIDTH c = put_full _ _ _ _ (held_by _ _ _) c.requires.wf c.in-Err.i (rw c.new.ensures at (sym c.find-place.ensures.place ∙ c.in-Err.is)) (no_rows _ _ _ (omega (arith, c.requires)))

pub returns-then-bytes-n-lt-ROW_BYTES : goal.returns-then-bytes-n-lt-ROW_BYTES
returns-then-bytes-n-lt-ROW_BYTES c = put_full _ _ _ _ (held_by _ _ _) c.requires.wf c.in-Err.i (rw c.new.ensures at (sym c.find-place.ensures.place ∙ c.in-Err.is)) (no_bytes _ _ _ (omega (arith, c.requires)))

pub returns-in-Ok : goal.returns-in-Ok
returns-in-Ok c =
    rw (c.write_row.ensures.rows_after, c.write_row.ensures.bytes_after) (put_at _ _ _ _ (held_by _ _ _) c.requires.wf c.requires.key_len_bound.0 c.requires.key_len_bound.1 c.in-Ok.i (rw c.new.ensures at (sym c.find-place.ensures.place ∙ c.in-Ok.is)))

pub returns-else-bytes-n-lt-ROW_BYTES : goal.returns-else-bytes-n-lt-ROW_BYTES
returns-else-bytes-n-lt-ROW_BYTES c =
    rw (c.insert_row.ensures.rows_after, c.insert_row.ensures.bytes_after) (put-before _ _ _ _ (held_by _ _ _) c.requires.wf c.requires.key_len_bound.0 c.requires.key_len_bound.1 c.in-Err.i (rw c.new.ensures at (sym c.find-place.ensures.place ∙ c.in-Err.is)) (omega (arith, c.requires)) (omega (arith, c.requires)))
