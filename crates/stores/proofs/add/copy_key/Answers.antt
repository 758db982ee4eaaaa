-- `stores::add::copy_key` meets its contract: the key, and the value behind it. Assumes nothing.
use Rattle.stores.proofs.WrittenLaws.{value-copied}
use native.Mathlib.Omega.{arith}
use Rattle.stores.proofs.add.copy_key.Goals as goal

pub returns : goal.returns
returns c =
    let e = rw c.bytes_of.ensures.result_value at c.copy_in.ensures in
    let f = rw c.bytes_of-2.ensures.result_value at c.copy_in-2.ensures in
    let h = c.requires.at_in_bounds in
    value-copied c.args.kv c.args.at _ _ _ e _ _ c.in-Some.is c.requires.key_len_in_bounds.0 (omega arith) f
