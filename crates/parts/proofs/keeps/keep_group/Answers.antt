-- `parts::keeps::keep_group` meets its contract. Assumes nothing.
use Rattle.parts.proofs.KeepWays.{older_room, newer_room, kept_both}
use Rattle.parts.proofs.keeps.keep_group.Goals as goal

pub keep_part-requires-clause-vs_bound : goal.keep_part-requires-clause-vs_bound
keep_part-requires-clause-vs_bound c =
    older_room _ _ _ _ _ c.requires.room_wf c.requires.room_wf_2 _ c.find_finishing.ensures _ _ c.requires.wf _ c.in-Some.is c.requires.ds_bound

pub keep_part-requires-in-Some-clause-vs_bound : goal.keep_part-requires-in-Some-clause-vs_bound
keep_part-requires-in-Some-clause-vs_bound c =
    newer_room _ _ _ _ _ c.requires.room_wf c.requires.room_wf_2 _ c.find_finishing.ensures _ _ c.requires.wf _ c.in-Some.is c.requires.ds_bound _ _ c.keep_part.ensures

pub returns-in-Some : goal.returns-in-Some
returns-in-Some c = kept_both _ _ _ _ _ c.requires.room_wf c.requires.room_wf_2 _ c.find_finishing.ensures _ _ c.requires.wf _ c.in-Some.is c.requires.ds_bound _ _ c.keep_part.ensures _ _ c.keep_part-in-Some.ensures
