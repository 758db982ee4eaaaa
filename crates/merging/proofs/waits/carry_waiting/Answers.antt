-- `merging::waits::carry_waiting` meets its contract. Assumes nothing.
use Rattle.merging.proofs.FinishWays.{begun-given, begun-is-ready, staged-given, staged_worked, carried-out}
use Rattle.merging.proofs.waits.carry_waiting.Goals as goal

pub stage_all-flags-requires : goal.stage_all-flags-requires
stage_all-flags-requires c = record { given = begun-given _ _ _ _ _ _ c.requires c.begin.ensures; ready = begun-is-ready _ _ _ _ _ _ c.requires c.begin.ensures }

pub finish_waiting-requires : goal.finish_waiting-requires
finish_waiting-requires c =
    record { given = staged-given _ _ _ _ _ _ c.requires c.begin.ensures _ _ _ c.stage_all-flags.ensures; ready = c.stage_all-flags.ensures.ready; worked = staged_worked _ _ _ _ _ _ c.requires c.begin.ensures _ _ _ c.stage_all-flags.ensures }

pub returns : goal.returns
returns c = carried-out _ _ _ _ _ _ c.requires c.begin.ensures _ _ _ c.stage_all-flags.ensures _ _ _ c.finish_waiting.ensures
