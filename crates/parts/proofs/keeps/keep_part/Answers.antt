-- `parts::keeps::keep_part` meets its contract. Assumes nothing.
use Rattle.parts.proofs.keeps.keep_part.Goals as goal

pub keep_tag-requires-clause-room : goal.keep_tag-requires-clause-room
keep_tag-requires-clause-room c = rw c.items_in.ensures.value c.requires.vs_bound

pub returns : goal.returns
returns c = rw c.items_in.ensures.value at c.keep_tag.ensures
