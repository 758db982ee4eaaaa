-- `staging::finishes::finish_with` meets its contract. Assumes nothing.
use mathlib.Core.Path.{sym, ◌∙◌}
use borrow.Author.Rules.{part_to_end}
use Rattle.parts.specs.ItemLaws.{few-items}
use Rattle.staging.proofs.FinishingWays.{ended-none, older-ready, newer-ready, ended_lent}
use Rattle.staging.proofs.finishes.finish_with.Goals as goal

pub any_item-requires : goal.any_item-requires
any_item-requires c = let g = c.requires in record { xs_len = (g.numbers-are, g.newer-numbers); xs_bound = (few-items _ _ g.room, few-items _ _ g.newer-room) }

pub returns-then-not-any_item : goal.returns-then-not-any_item
returns-then-not-any_item c = let g = c.requires in ended-none _ _ _ _ _ g (sym (c.any_item.ensures _ _ g.room g.newer-room) ∙ c.if-not-any_item.true)

pub replay_older-requires : goal.replay_older-requires
replay_older-requires c = let g = c.requires in record { xs_len = (g.numbers-are, g.bytes-are); room_wf = g.room; wf = g.table; replayable = older-ready _ _ _ _ _ g }

pub close_part-requires : goal.close_part-requires
close_part-requires c =
    let g = c.requires in rw (part_to_end c.replay_older.new.xs 13509, part_to_end c.replay_older.new.bs 28672) (record { wf = c.replay_older.ensures.becomes.wf; ys_len = (g.newer-numbers, g.newer-bytes, g.newer-room); replayable = newer-ready _ _ _ _ _ g _ _ c.replay_older.ensures })

pub returns : goal.returns
returns c =
    let g = c.requires in ended_lent c.args.ending c.args.xs.now c.args.bs.now c.args.ys.now c.args.cs.now g c.replay_older.new.xs c.replay_older.new.bs c.replay_older.ensures c.close_part.result c.close_part.new.p c.close_part.new.b (sym (c.any_item.ensures _ _ g.room g.newer-room) ∙ c.if-not-any_item.false) c.close_part.ensures
