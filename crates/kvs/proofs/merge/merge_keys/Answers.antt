-- `kvs::merge::merge_keys` meets its contract. Assumes nothing.
use Rattle.kvs.proofs.Merges.{merge-full, merge-done}
use Rattle.kvs.proofs.Puts.{fits_if, no_rows, no_bytes}
use Rattle.kvs.proofs.merge.merge_keys.Goals as goal

pub returns-then-rows-all : goal.returns-then-rows-all
returns-then-rows-all c = merge-full _ _ _ _ _ (rw c.new.ensures at c.count_over-all.ensures.value) (no_rows _ _ _ c.if-rows-all.true)

pub returns-then-bytes-all : goal.returns-then-bytes-all
returns-then-bytes-all c = merge-full _ _ _ _ _ (rw c.new.ensures at c.count_over-all.ensures.value) (no_bytes _ _ _ c.if-bytes-all.true)

pub lay_over-requires-clause-bytes_value : goal.lay_over-requires-clause-bytes_value
lay_over-requires-clause-bytes_value c = rw (← c.new.ensures, ← c.count_over-all.ensures.value) (fits_if _ _ _ c.if-rows-all.false c.if-bytes-all.false)

pub returns : goal.returns
returns c = merge-done _ _ _ _ _ (rw c.new.ensures at c.count_over-all.ensures.value) (fits_if _ _ _ c.if-rows-all.false c.if-bytes-all.false) _ _ _ c.lay_over.ensures
