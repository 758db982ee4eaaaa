-- `staging::finishes::close_part` meets its contract. Assumes nothing.
use Rattle.staging.specs.Finishings.{ending_span}
use Rattle.staging.proofs.FinishingWays.{lent-ready, lent-closed}
use Rattle.staging.proofs.finishes.close_part.Goals as goal

pub replay_part-requires : goal.replay_part-requires
replay_part-requires c =
    let p = c.requires in let all = lent-ready c.args.ending.newer c.args.ys.now c.args.cs.now c.args.p.now c.args.b.now (p.wf, (p.ys_len.2, p.replayable)) in record { wf = all.0; room_wf = all.1.0; replayable = all.1.1 }

pub returns : goal.returns
returns c =
    lent-closed c.args.ending.newer c.args.ys.now c.args.cs.now c.args.p.now c.args.b.now (ending_span c.args.ending) c.replay_part.new.p c.replay_part.new.b c.set_span.result c.set_span.new.p c.replay_part.new.b c.replay_part.ensures (c.set_span.ensures c.replay_part.new.b c.replay_part.ensures.wf)
