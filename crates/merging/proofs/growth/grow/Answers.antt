-- `merging::growth::grow` meets its contract. Assumes nothing.
use Rattle.merging.proofs.GrowthWays.{merge_mergeable, join_growable, join-numbers, merge-grown}
use Rattle.merging.proofs.JoinWays.{cleaned-few, join-grown}
use Rattle.merging.proofs.growth.grow.Goals as goal

pub grow_merged-requires : goal.grow_merged-requires
grow_merged-requires c = merge_mergeable _ _ _ _ _ c.requires c.in-Append.is

pub grow_joined-requires : goal.grow_joined-requires
grow_joined-requires c =
    let joins = join_growable _ _ _ _ _ c.requires c.in-Join.is in
    record { xs_len = (join-numbers c.args.xs.now c.args.bs.now joins.rest, join-numbers c.args.ys.now c.args.cs.now joins.newer-rest); ys_bound = cleaned-few _ _ _ _ joins }

pub returns-in-Append : goal.returns-in-Append
returns-in-Append c = merge-grown _ _ _ _ _ c.requires _ _ c.grow_merged.ensures c.in-Append.is

pub returns-in-Join : goal.returns-in-Join
returns-in-Join c = join-grown _ _ _ _ _ _ _ c.in-Join.is (c.grow_joined.ensures _ _ (join_growable _ _ _ _ _ c.requires c.in-Join.is))
