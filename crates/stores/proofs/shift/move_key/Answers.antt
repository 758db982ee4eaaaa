-- `stores::shift::move_key` meets its contract: the key moves down first, and leaves the value as it was. Assumes nothing.
use Rattle.stores.proofs.WrittenLaws.{key-copied, value-moved}
use Rattle.stores.proofs.shift.move_key.Goals as goal

pub returns-in_default : goal.returns-in_default
returns-in_default c = key-copied c.args.kv c.args.to _ _ _ c.shift.ensures c.in_default.is

pub returns : goal.returns
returns c =
    let b = rw c.in-Some.is at c.requires.to_bound.1 in
    value-moved c.args.kv c.args.to _ _ c.shift.ensures c.requires.key_len_in_bounds.0 c.requires.to_bound.0 _ _ c.in-Some.is b c.shift-2.ensures
