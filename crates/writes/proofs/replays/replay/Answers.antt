-- `writes::replays::replay` meets its contract. Assumes nothing.
use lib.ListN.{drop}
use mathlib.Core.Path.{refl, sym, ◌∙◌}
use borrow.Author.Rules.{part_to_end}
use Rattle.rules.specs.Checks.{is_rewrite_replay}
use Rattle.log_batch.specs.Judged.{call_of}
use Rattle.contexts.specs.AreaLaws.{formed_of}
use Rattle.batches.specs.OwnLaws.{keeping-other, keeping-rewrite}
use Rattle.writes.proofs.CallLaws.{zero_below}
use Rattle.writes.proofs.WriteWays.{plain-written, replay-written}
use Rattle.writes.proofs.ReplayWays.{replay_wrong-kind, replay-append-queue, replay-rewrite-queue, rewrite-kept}
use Rattle.writes.proofs.replays.replay.Goals as goal

pub kind_in-kind-requires : goal.kind_in-kind-requires
kind_in-kind-requires c = rw (part_to_end c.args.xs.now 9376) (zero_below (drop 9376 c.args.xs.now) c.requires.rest.numbers-are)

pub returns-then-not-is_context : goal.returns-then-not-is_context
returns-then-not-is_context c = rw c.from.ensures (replay_wrong-kind c.args.xs.now c.args.bs.now _ c.kind_in-kind.ensures c.args.file _ _ _ c.requires (sym c.is_context.ensures ∙ c.if-not-is_context.true))

pub write-requires : goal.write-requires
unfolding is_rewrite_replay call_of
write-requires c = record { formed = formed_of _ _ c.requires; keeping = keeping-other _ _ refl }

pub write-requires-in-Rewrite : goal.write-requires-in-Rewrite
write-requires-in-Rewrite c =
    record { formed = formed_of _ _ c.requires; keeping = keeping-rewrite _ _ (rewrite-kept c.args.xs.now c.args.bs.now _ c.kind_in-kind.ensures _ c.requires c.in-Rewrite.is (sym c.is_context.ensures ∙ c.if-not-is_context.false)) }

pub returns-in-Append : goal.returns-in-Append
unfolding call_of is_rewrite_replay
returns-in-Append c =
    replay-append-queue c.args.xs.now c.args.bs.now _ c.kind_in-kind.ensures c.args.file _ _ _ c.requires (sym c.is_context.ensures ∙ c.if-not-is_context.false) c.in-Append.is _ _ _ (plain-written c.args.file _ _ _ _ _ _ _ _ _ c.args.file.seq refl c.write.ensures)

pub returns-in-Rewrite : goal.returns-in-Rewrite
unfolding call_of
returns-in-Rewrite c =
    replay-rewrite-queue c.args.xs.now c.args.bs.now _ c.kind_in-kind.ensures c.args.file _ _ _ c.requires (sym c.is_context.ensures ∙ c.if-not-is_context.false) c.in-Rewrite.is _ _ _ (replay-written c.args.file _ _ _ _ _ _ _ _ c.write-in-Rewrite.ensures)
