-- `groups::calls::remove` meets its contract. Assumes nothing.
use Rattle.groups.specs.Laws.{found_at_lem, found-free, found-full}
use Rattle.groups.proofs.Applying.{at-removed, free-removed, full-removed}
use Rattle.groups.proofs.calls.remove.Goals as goal

pub free_at-requires : goal.free_at-requires
free_at-requires c = ((found_at_lem _ _ _ _ c.requires.found c.in-At.is).inside, c.requires.in_bounds)

pub returns-in-At : goal.returns-in-At
returns-in-At c = λ bs w. rw (c.free_at.ensures, c.in-At.is) (at-removed _ _ _ bs w (found_at_lem _ _ _ _ c.requires.found c.in-At.is))

pub returns-in-Free : goal.returns-in-Free
returns-in-Free c = λ bs w. rw c.in-Free.is (free-removed _ _ _ bs w (found-free _ _ _ _ c.requires.found c.in-Free.is))

pub returns-in-Full : goal.returns-in-Full
returns-in-Full c = λ bs w. rw c.in-Full.is (full-removed _ _ bs w (found-full _ _ _ c.requires.found c.in-Full.is))
