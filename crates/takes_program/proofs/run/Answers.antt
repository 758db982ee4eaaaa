-- `takes_program::run` meets its contract. Assumes nothing.
use Rattle.std.proofs.Common.{arith}
use Rattle.std.proofs.lemmas.Result.{on_ok_weaker}
use lib.ListN.{length-take}
use Rattle.takes_program.proofs.RunLaws.{fits, running_none, running_more, all_printed}
use Rattle.takes_program.proofs.run.Goals as goal

pub loop-read-init : goal.loop-read-init
loop-read-init g c = running_none _ _ _ c.begin.ensures

pub end-printed-requires-clause-fit : goal.end-printed-requires-clause-fit
end-printed-requires-clause-fit g c = fits c.loop-read.invariant.so_far

pub returns-then-n-eq0 : goal.returns-then-n-eq0
returns-then-n-eq0 g c =
    on_ok_weaker _ (all_printed _ _ _ _ _ _ c.loop-read.invariant _ _ _ _ (rw c.if-n-eq0.true at c.in_ok-n.ensures.bytes.0) (c.in_ok-n.ensures.bytes.1 c.if-n-eq0.true (omega arith)) c.end-printed.ensures) c.write_all.ensures.bytes

pub take_block-printed-requires-clause-fit : goal.take_block-printed-requires-clause-fit
take_block-printed-requires-clause-fit g c = fits c.loop-read.invariant.so_far

pub loop-read-preserved : goal.loop-read-preserved
loop-read-preserved g c =
    running_more _ _ _ _ _ _ c.loop-read.invariant _ _ _ _ _ _ c.in_ok-n.ensures.bytes.0 c.take_block-printed.ensures.stepped c.in_ok-write_all.ensures.bytes (omega (arith, length-take c.in_ok-n.n c.read.new.buf)) c.take_block-printed.ensures.lines_bound
