-- `merging::growth::merge_lists` meets its contract. Assumes nothing.
use Rattle.merging.proofs.GrowthWays.{cleaned-still, merged-lists}
use Rattle.merging.proofs.growth.merge_lists.Goals as goal

pub add_all_cleaned-requires : goal.add_all_cleaned-requires
add_all_cleaned-requires c = record { ys_len = (c.add_tombstones.ensures.wf.numbers-are, c.requires.wf_2.numbers-are); its_ys_bound = cleaned-still _ _ _ _ _ _ c.requires.wf c.add_tombstones.ensures c.requires.its_ys_bound.1 }

pub returns : goal.returns
returns c = merged-lists _ _ _ _ _ _ c.requires.wf c.add_tombstones.ensures _ (c.add_all_cleaned.ensures _ c.add_tombstones.ensures.wf)
