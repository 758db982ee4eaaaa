-- `parts::endings::has_items` meets its contract. Assumes nothing.
use mathlib.Core.Path.{◌∙◌}
use Rattle.log_batch.proofs.PlaceLaws.{lent-part}
use Rattle.parts.proofs.PartWays.{has-tag}
use Rattle.parts.proofs.endings.has_items.Goals as goal

pub returns : goal.returns
returns c = λ vs w. rw (lent-part 162 _ c.args.ws.now) at c.contains.ensures.value ∙ has-tag _ _ vs w
