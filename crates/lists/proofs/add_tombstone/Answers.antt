-- `lists::add_tombstone` meets its contract: the rows and the bytes are lent to the store, and come back with one more. Assumes nothing.
use Rattle.lists.proofs.CallLaws.{tombstone-added}
use Rattle.lists.proofs.add_tombstone.Goals as goal

pub returns : goal.returns
returns c =
    tombstone-added c.args.ys.now c.args.cs.now _ _ _ c.args.item c.args.entries.now c.args.bytes.now _
    c.requires.wf c.requires.content_value c.add.ensures
