-- `staging::work::work` meets its contract. Assumes nothing.
use Rattle.std.proofs.lemmas.Result.{err_from_is_err_and}
use native.Mathlib.Omega.{arith}
use borrow.Author.Rules.{part_to_end}
use Rattle.staging.proofs.GroupWays.{parts-given, numbers_stay, bytes_stay, part-refused, part_room, part_for_lem, group_lent}
use Rattle.staging.proofs.work.work.Goals as goal

pub finish_part-requires : goal.finish_part-requires
finish_part-requires c = parts-given _ _ _ _ _ _ c.requires _ _ c.load_older.ensures

pub returns-in_err-finish_part : goal.returns-in_err-finish_part
returns-in_err-finish_part c =
    let p = err_from_is_err_and c.from_residual.result c.from_residual.ensures.1 in
    rw (p.1, p.2) (part-refused _ _ _ _ _ _ c.requires _ _ c.load_older.ensures _ _ _ c.finish_part.ensures _ c.in_err-finish_part.was)

pub slice_bounds-work_loaded-count : goal.slice_bounds-work_loaded-count
slice_bounds-work_loaded-count c = let n = numbers_stay _ _ _ _ _ _ c.requires _ _ c.load_older.ensures _ _ _ c.finish_part.ensures in omega (arith, n)

pub slice_bounds-work_loaded-start : goal.slice_bounds-work_loaded-start
slice_bounds-work_loaded-start c = let n = numbers_stay _ _ _ _ _ _ c.requires _ _ c.load_older.ensures _ _ _ c.finish_part.ensures in omega (arith, n)

pub slice_bounds-work_loaded-count-2 : goal.slice_bounds-work_loaded-count-2
slice_bounds-work_loaded-count-2 c = let n = bytes_stay _ _ _ _ _ _ c.requires _ _ c.load_older.ensures _ _ _ c.finish_part.ensures in omega (arith, n)

pub slice_bounds-work_loaded-start-2 : goal.slice_bounds-work_loaded-start-2
slice_bounds-work_loaded-start-2 c = let n = bytes_stay _ _ _ _ _ _ c.requires _ _ c.load_older.ensures _ _ _ c.finish_part.ensures in omega (arith, n)

pub work_loaded-requires : goal.work_loaded-requires
work_loaded-requires c =
    rw (part_to_end c.finish_part.new.xs 13509, part_to_end c.finish_part.new.bs 28672) (record { wf = c.finish_part.ensures.ends.wf; within = part_room _ _ _ _ _ _ c.requires _ _ c.load_older.ensures _ _ _ c.finish_part.ensures c.in_ok-finish_part.was; older_for = part_for_lem _ _ _ _ _ _ c.requires _ _ c.load_older.ensures _ _ _ c.finish_part.ensures c.in_ok-finish_part.was; wf_2 = c.requires.newer-wf; cs_value = c.requires.newer-kind })

pub returns : goal.returns
returns c =
    group_lent c.args.mode c.args.group c.args.xs.now c.args.bs.now c.args.ys.now c.args.cs.now c.requires c.load_older.new.xs c.load_older.new.bs c.load_older.ensures c.finish_part.result c.finish_part.new.xs c.finish_part.new.bs c.finish_part.ensures c.in_ok-finish_part.was c.work_loaded.result c.work_loaded.new.p c.work_loaded.new.b c.work_loaded.ensures
