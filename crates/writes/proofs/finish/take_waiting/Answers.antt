-- `writes::finish::take_waiting` meets its contract. Assumes nothing.
use Rattle.writes.proofs.StoredWays.{lent-room}
use Rattle.writes.proofs.FinishWays.{lent_above, took_back}
use Rattle.writes.proofs.finish.take_waiting.Goals as goal

pub take_part-requires : goal.take_part-requires
take_part-requires c = record { room_wf = (lent-room c.args.xs.now c.args.bs.now c.requires.formed).room; k_lt_cells = (c.requires.k_bound.0, lent_above c.args.xs.now _ c.requires.k_bound.1) }

pub returns : goal.returns
returns c = λ g p ps e. took_back c.args.xs.now c.args.bs.now c.requires.formed c.args.k c.requires.k_bound.0 c.take_part.new.ws c.take_part.new.vs c.take_part.auto.ws c.take_part.auto.vs c.take_part.ensures g p ps e
