-- `writes::finish::finish` meets its contract. Assumes nothing.
use native.Mathlib.Omega.{arith}
use Rattle.contexts.specs.AreaLaws.{area-length}
use Rattle.batches.specs.OwnLaws.{keeping-rewrite}
use Rattle.std.proofs.lemmas.Result.{err_from_is_err_and}
use Rattle.writes.proofs.FinishWays.{finish-passed, finish-refused, finish-asks, finish-cell, finish-taken}
use Rattle.writes.proofs.finish.finish.Goals as goal

pub head_number-tag-requires : goal.head_number-tag-requires
head_number-tag-requires c = (area-length _ _ c.requires.formed, c.requires.finishing.inside, omega arith)

pub head_number-start-requires : goal.head_number-start-requires
head_number-start-requires c = (area-length _ _ c.requires.formed, c.requires.finishing.inside, omega arith)

pub finish_items-requires : goal.finish_items-requires
finish_items-requires c =
    record { formed = c.requires.formed; bs_value = finish-passed (record { at = c.args.mark.at; group = c.args.mark.raft_group_id; byte = c.args.mark.byte }) c.args.seq _ c.args.xs.now c.args.bs.now c.requires.formed c.args.k c.requires.finishing _ _ (c.head_number-tag.ensures _) (c.head_number-start.ensures _) c.requires.kept_at.kept; keeping = keeping-rewrite _ _ c.requires.kept_at }

pub returns-in_err-finish_items : goal.returns-in_err-finish_items
returns-in_err-finish_items c =
    let x = err_from_is_err_and c.from_residual.result c.from_residual.ensures.1 in
    rw (x.1, x.2) (finish-refused (record { at = c.args.mark.at; group = c.args.mark.raft_group_id; byte = c.args.mark.byte }) c.args.seq _ c.args.xs.now c.args.bs.now c.requires.formed c.args.k c.requires.finishing _ _ (c.head_number-tag.ensures _) (c.head_number-start.ensures _) _ _ _ _ (rw c.in_err-finish_items.was at c.finish_items.ensures))

pub take_waiting-requires : goal.take_waiting-requires
take_waiting-requires c =
    let all = finish-asks (record { at = c.args.mark.at; group = c.args.mark.raft_group_id; byte = c.args.mark.byte }) c.args.seq _ c.args.xs.now c.args.bs.now c.requires.formed c.args.k c.requires.finishing _ _ (c.head_number-tag.ensures _) (c.head_number-start.ensures _) _ _ (rw c.in_ok-finish_items.was at c.finish_items.ensures) in record { xs_len = all.0; formed = all.1.0; k_bound = all.1.1 }

pub returns : goal.returns
returns c =
    finish-taken (record { at = c.args.mark.at; group = c.args.mark.raft_group_id; byte = c.args.mark.byte }) c.args.seq _ c.args.xs.now c.args.bs.now c.requires.formed c.args.k c.requires.finishing _ _ (c.head_number-tag.ensures _) (c.head_number-start.ensures _) _ _ (rw c.in_ok-finish_items.was at c.finish_items.ensures) _ _ (c.take_waiting.ensures _ _ _ (finish-cell (record { at = c.args.mark.at; group = c.args.mark.raft_group_id; byte = c.args.mark.byte }) c.args.seq _ c.args.xs.now c.args.bs.now c.requires.formed c.args.k c.requires.finishing _ _ (c.head_number-tag.ensures _) (c.head_number-start.ensures _) _ _ (rw c.in_ok-finish_items.was at c.finish_items.ensures)))
