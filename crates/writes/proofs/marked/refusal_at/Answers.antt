-- `writes::marked::refusal_at` meets its contract. Assumes nothing.
use Rattle.std.specs.Prelude.{eqb}
use Rattle.maps.specs.OrderLaws.{split}
use Rattle.rules.specs.Causes.{number_of, LimitPassed}
use Rattle.writes.specs.Accepting.{refusal_at}
use Rattle.writes.specs.AcceptLaws.{limit-is}
use Rattle.writes.proofs.marked.refusal_at.Goals as goal

pub returns-in-LimitPassed : goal.returns-in-LimitPassed
unfolding refusal_at
returns-in-LimitPassed c = rw c.in-LimitPassed.is

pub returns-in_default : goal.returns-in_default
unfolding refusal_at
returns-in_default c =
    split (eqb (number_of c.args.cause) (number_of LimitPassed))
    (λ t. absurd (c.in_default.not-LimitPassed (limit-is _ t)))
    (λ f. rw f)
