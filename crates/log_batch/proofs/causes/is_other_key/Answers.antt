-- `log_batch::causes::is_other_key` meets its contract. Assumes nothing.
use mathlib.Core.Path.{sym, ◌∙◌}
use Rattle.maps.specs.Lists.{or_else}
use Rattle.rules.specs.Checks.{other_file, is_other_queue}
use Rattle.log_batch.specs.Lent.{key_content, key_change, change_of}
use Rattle.log_batch.specs.Queues.{same_as}
use Rattle.log_batch.proofs.causes.is_other_key.Goals as goal

pub returns-in-Put-Some : goal.returns-in-Put-Some
unfolding is_other_queue key_content key_change change_of other_file or_else
returns-in-Put-Some c =
    λ bytes. rw (sym c.is_live_rewrite.ensures ∙ c.if-is_live_rewrite.false, c.in-Put-Some.is-0, c.in-Put-Some.is-1, ← c.writes.ensures, ← same_as) c.ne.ensures
