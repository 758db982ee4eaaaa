-- `merging::growth::grow_merged` meets its contract. Assumes nothing.
use Rattle.merging.proofs.GrowthWays.{grown-before, grown-bytes-before, lent-lists, lists-grown}
use Rattle.merging.proofs.growth.grow_merged.Goals as goal

pub slice_bounds-merge_lists-count : goal.slice_bounds-merge_lists-count
slice_bounds-merge_lists-count c = grown-before c.args.xs.now c.args.bs.now c.requires.rest

pub slice_bounds-merge_lists-start : goal.slice_bounds-merge_lists-start
slice_bounds-merge_lists-start c = grown-before c.args.xs.now c.args.bs.now c.requires.rest

pub slice_bounds-merge_lists-count-2 : goal.slice_bounds-merge_lists-count-2
slice_bounds-merge_lists-count-2 c = grown-bytes-before c.args.xs.now c.args.bs.now c.requires.rest

pub slice_bounds-merge_lists-start-2 : goal.slice_bounds-merge_lists-start-2
slice_bounds-merge_lists-start-2 c = grown-bytes-before c.args.xs.now c.args.bs.now c.requires.rest

pub slice_bounds-merge_lists-count-3 : goal.slice_bounds-merge_lists-count-3
slice_bounds-merge_lists-count-3 c = grown-before c.args.ys.now c.args.cs.now c.requires.newer-rest

pub slice_bounds-merge_lists-start-3 : goal.slice_bounds-merge_lists-start-3
slice_bounds-merge_lists-start-3 c = grown-before c.args.ys.now c.args.cs.now c.requires.newer-rest

pub slice_bounds-merge_lists-count-4 : goal.slice_bounds-merge_lists-count-4
slice_bounds-merge_lists-count-4 c = grown-bytes-before c.args.ys.now c.args.cs.now c.requires.newer-rest

pub slice_bounds-merge_lists-start-4 : goal.slice_bounds-merge_lists-start-4
slice_bounds-merge_lists-start-4 c = grown-bytes-before c.args.ys.now c.args.cs.now c.requires.newer-rest

pub merge_lists-requires : goal.merge_lists-requires
merge_lists-requires c = let all = lent-lists _ _ _ _ c.requires in record { wf = all.0; wf_2 = all.1.0; its_ys_bound = all.1.1 }

pub returns : goal.returns
returns c = lists-grown _ _ _ _ c.requires _ _ c.merge_lists.ensures
