-- `log_batch::plain::are_plain` meets its contract: what is left from row i on gives the whole answer. Assumes nothing.
use mathlib.Core.Bool.{true, false}
use mathlib.Core.Path.{◌≡◌, sym, ◌∙◌}
use Prim.Native.Nat.{◌+◌, ◌*◌}
use lib.ListN.{drop}
use Rattle.log_batch.specs.Plain.{plain_row}
use Rattle.log_batch.proofs.PlaceLaws.{lent_back}
use Rattle.log_batch.proofs.PlainLaws.{plain_end, plain_more}
use Rattle.log_batch.proofs.plain.are_plain.Goals as goal

pub returns-then-not-is_plain : goal.returns-then-not-is_plain
returns-then-not-is_plain c =
    let e : plain_row c.args.queue (c.args.first + c.loop-i.i) (drop (c.loop-i.i * 8) c.args.rows.now) ≡ false = sym (rw (lent_back (c.loop-i.i * 8) c.args.rows.now) at c.is_plain.ensures) ∙ c.if-not-is_plain.true in sym (c.loop-i.invariant ∙ plain_more c.args.queue c.args.first c.args.count c.loop-i.i c.args.rows.now c.loop-i-test.true ∙ rw e)

pub loop-i-preserved : goal.loop-i-preserved
loop-i-preserved c =
    let e : plain_row c.args.queue (c.args.first + c.loop-i.i) (drop (c.loop-i.i * 8) c.args.rows.now) ≡ true = sym (rw (lent_back (c.loop-i.i * 8) c.args.rows.now) at c.is_plain.ensures) ∙ c.if-not-is_plain.false in c.loop-i.invariant ∙ plain_more c.args.queue c.args.first c.args.count c.loop-i.i c.args.rows.now c.loop-i-test.true ∙ rw e

pub returns : goal.returns
returns c = sym (c.loop-i.invariant ∙ plain_end _ _ _ c.loop-i.i _ c.loop-i-test.false)
