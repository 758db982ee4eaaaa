-- `log_batch::entries::any_entry` meets its contract: what is left from row i on gives the whole answer. Assumes nothing.
use mathlib.Core.Path.{sym, ◌∙◌}
use Prim.Native.Nat.{◌*◌}
use Rattle.log_batch.proofs.PlaceLaws.{lent_back}
use Rattle.log_batch.proofs.RowLaws.{any_here, any-more, any-end}
use Rattle.log_batch.proofs.entries.any_entry.Goals as goal

pub returns-then-entry_meets : goal.returns-then-entry_meets
returns-then-entry_meets c =
    let turn = c.loop-i in
    sym (turn.invariant ∙ any_here _ turn.i _ _ c.loop-i-test.true (sym (rw (lent_back (turn.i * 8) c.args.rows.now) at c.entry_meets.ensures) ∙ c.if-entry_meets.true))

pub loop-i-preserved : goal.loop-i-preserved
loop-i-preserved c =
    let turn = c.loop-i in
    turn.invariant ∙ any-more _ turn.i _ _ c.loop-i-test.true (sym (rw (lent_back (turn.i * 8) c.args.rows.now) at c.entry_meets.ensures) ∙ c.if-entry_meets.false)

pub returns : goal.returns
returns c = sym (c.loop-i.invariant ∙ any-end _ c.loop-i.i _ _ c.loop-i-test.false)
