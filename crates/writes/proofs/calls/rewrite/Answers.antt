-- `writes::calls::rewrite` meets its contract. Assumes nothing.
use lib.ListN.{drop}
use mathlib.Core.Path.{refl, sym, ◌∙◌}
use borrow.Author.Rules.{part_to_end}
use Rattle.rules.specs.Checks.{is_rewrite_replay}
use Rattle.log_batch.specs.Judged.{call_of}
use Rattle.contexts.specs.AreaLaws.{formed_of}
use Rattle.batches.specs.OwnLaws.{keeping-other}
use Rattle.writes.proofs.CallLaws.{zero_below, rewrite_wrong, rewrite-right}
use Rattle.writes.proofs.WriteWays.{plain-written}
use Rattle.writes.proofs.calls.rewrite.Goals as goal

pub kind_in-kind-requires : goal.kind_in-kind-requires
kind_in-kind-requires c = rw (part_to_end c.args.xs.now 9376) (zero_below (drop 9376 c.args.xs.now) c.requires.rest.numbers-are)

pub returns-then-not-takes : goal.returns-then-not-takes
returns-then-not-takes c = rw c.from.ensures (rewrite_wrong c.args.xs.now c.args.bs.now _ c.kind_in-kind.ensures c.args.file _ _ _ _ c.requires (sym c.takes.ensures ∙ c.if-not-takes.true))

pub write-requires : goal.write-requires
unfolding is_rewrite_replay call_of
write-requires c = record { formed = formed_of _ _ c.requires; keeping = keeping-other _ _ refl }

pub returns : goal.returns
unfolding call_of is_rewrite_replay
returns c =
    rewrite-right c.args.xs.now c.args.bs.now _ c.kind_in-kind.ensures c.args.file _ _ _ _ _ _ _ c.requires (sym c.takes.ensures ∙ c.if-not-takes.false) (plain-written c.args.file _ _ _ _ _ _ _ _ _ c.args.file.seq refl c.write.ensures)
