-- `batches::singles::is_plain_put` meets its contract. Assumes nothing.
use mathlib.Core.Path.{sym, ◌∙◌}
use native.Mathlib.Omega.{arith}
use Rattle.maps.specs.BoolLaws.{clash}
use Rattle.batches.specs.SingleLaws.{put-single}
use Rattle.batches.proofs.singles.is_plain_put.Goals as goal

pub returns-then-row-ne-HAS_VALUE : goal.returns-then-row-ne-HAS_VALUE
returns-then-row-ne-HAS_VALUE c = λ entries e. absurd (clash e)

pub returns-then-row-from : goal.returns-then-row-from
returns-then-row-from c = λ entries e. absurd (clash e)

pub returns-then-key_len-eq-RESERVED_LEN : goal.returns-then-key_len-eq-RESERVED_LEN
returns-then-key_len-eq-RESERVED_LEN c = λ entries e. absurd (clash e)

pub returns-then-not-has_bytes : goal.returns-then-not-has_bytes
returns-then-not-has_bytes c = λ entries e. absurd (clash e)

pub returns : goal.returns
returns c =
    λ entries e. put-single c.args.call c.args.row.now entries c.args.bytes.now c.requires.0 c.requires.1 c.if-row-ne-HAS_VALUE.false (rw (c.from.ensures, c.writes.ensures) at c.if-row-from.false) (λ e. omega (arith, e)) (sym c.has_bytes.ensures ∙ c.if-not-has_bytes.false) (sym c.has_bytes-2.ensures ∙ e)
