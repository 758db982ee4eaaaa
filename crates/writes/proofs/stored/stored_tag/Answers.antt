-- `writes::stored::stored_tag` meets its contract. Assumes nothing.
use Rattle.cells.specs.Part.{part}
use Rattle.writes.proofs.stored.stored_tag.Goals as goal

pub returns : goal.returns
unfolding part
returns c = λ bs h. record { is = λ z. c.tag_at.ensures (part 20480 8192 bs) z h }
