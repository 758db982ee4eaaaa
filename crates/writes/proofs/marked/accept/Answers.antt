-- `writes::marked::accept` meets its contract. Assumes nothing.
use mathlib.Core.Path.{ap}
use Rattle.rules.specs.Items.{status_of}
use Rattle.log_batch.specs.Batch.{items_in}
use Rattle.room.specs.Batches.{unmarked}
use Rattle.room.specs.Parts.{part_for}
use Rattle.writes.proofs.StoredWays.{lent-room}
use Rattle.writes.proofs.FinishWays.{part-from, accepted_back}
use Rattle.writes.proofs.marked.accept.Goals as goal

pub accept_batch-requires : goal.accept_batch-requires
accept_batch-requires c = lent-room c.args.xs.now c.args.bs.now c.requires.formed

pub returns : goal.returns
returns c =
    let its = unmarked (items_in c.args.replay.now.batch) in
    let byte = c.args.mark.byte in
    let seq = c.args.seq in
    let accepted = rw (part-from _ byte seq its (ap status_of c.from.ensures)) at c.accept_batch.ensures in
    accepted_back c.args.xs.now c.args.bs.now c.requires.formed c.args.mark.raft_group_id (part_for byte seq its) c.accept_batch.result c.accept_batch.new.ws c.accept_batch.new.vs c.accept_batch.auto.ws c.accept_batch.auto.vs accepted
