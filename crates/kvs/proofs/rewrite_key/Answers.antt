-- `kvs::rewrite_key` meets its contract. Assumes nothing.
use mathlib.Core.Path.{sym, ◌∙◌}
use Rattle.kvs.proofs.Rewrites.{rewrite-absent, ungated, above_gate, up_to_gate, lower, not_lower}
use Rattle.kvs.proofs.rewrite_key.Goals as goal

pub returns-in_default : goal.returns-in_default
returns-in_default c = rewrite-absent _ _ _ _ _ _ c.requires _ (rw c.new.ensures at (sym c.find-place.ensures.place ∙ c.in_default.is))

pub returns-in_default-gate : goal.returns-in_default-gate
returns-in_default-gate c = rw c.in_default-gate.is (ungated _ _ _ _ _ c.requires _ (rw c.new.ensures at (sym c.find-place.ensures.place ∙ c.in-Ok.is)) c.if-queue-eq-APPEND.true)

pub returns-then-highest-held : goal.returns-then-highest-held
returns-then-highest-held c = rw c.in-Some.is (above_gate _ _ _ _ _ c.requires _ (rw c.new.ensures at (sym c.find-place.ensures.place ∙ c.in-Ok.is)) _ c.if-queue-eq-APPEND.true c.if-highest-held.true)

pub returns-then-queue-eq-APPEND : goal.returns-then-queue-eq-APPEND
returns-then-queue-eq-APPEND c = rw (c.in-Some.is, c.move_file.ensures) (up_to_gate _ _ _ _ _ c.requires _ (rw c.new.ensures at (sym c.find-place.ensures.place ∙ c.in-Ok.is)) _ c.if-queue-eq-APPEND.true c.if-highest-held.false)

pub returns-then-seq-held : goal.returns-then-seq-held
returns-then-seq-held c = lower _ _ _ _ _ c.requires _ (rw c.new.ensures at (sym c.find-place.ensures.place ∙ c.in-Ok.is)) _ c.if-queue-eq-APPEND.false c.if-seq-held.true

pub returns : goal.returns
returns c = rw c.move_file-2.ensures (not_lower _ _ _ _ _ c.requires _ (rw c.new.ensures at (sym c.find-place.ensures.place ∙ c.in-Ok.is)) _ c.if-queue-eq-APPEND.false c.if-seq-held.false)
