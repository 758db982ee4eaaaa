-- `log_batch::causes::least_of_content` meets its contract. Assumes nothing.
use mathlib.Core.Path.{sym, ◌∙◌}
use Rattle.log_batch.proofs.PlainLaws.{plain-least}
use Rattle.log_batch.proofs.causes.least_of_content.Goals as goal

pub returns-then-is_plain_content : goal.returns-then-is_plain_content
returns-then-is_plain_content c = λ bytes. sym (plain-least _ c.args.content c.args.entries.now bytes (sym c.is_plain_content.ensures ∙ c.if-is_plain_content.true))
