-- `kvs::rows::write_row` meets its contract: four stores and two copies. Assumes nothing.
use native.Mathlib.Omega.{arith}
use Rattle.kvs.specs.Calls.{held_by}
use Rattle.kvs.proofs.Written.{rows_written, bytes-written}
use Rattle.kvs.proofs.rows.write_row.Goals as goal

pub returns : goal.returns
returns c =
    record { rows_after = rows_written _ c.from.result _ (held_by _ _ _) _ c.from.ensures (omega (arith, c.requires)); bytes_after = bytes-written _ _ (held_by _ _ _) _ _ _ c.copy_in.ensures c.copy_in-2.ensures }
