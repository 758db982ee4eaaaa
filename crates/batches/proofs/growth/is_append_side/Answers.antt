-- `batches::growth::is_append_side` meets its contract. Assumes nothing.
use Rattle.rules.specs.Items.{same_queue, writes}
use Rattle.log_batch.specs.Judged.{call_of}
use Rattle.batches.proofs.growth.is_append_side.Goals as goal

pub returns-in-ReplayAppend : goal.returns-in-ReplayAppend
unfolding same_queue writes call_of
returns-in-ReplayAppend c = rw c.in-ReplayAppend.is

pub returns-in-ReplayRewrite : goal.returns-in-ReplayRewrite
unfolding same_queue writes call_of
returns-in-ReplayRewrite c = rw c.in-ReplayRewrite.is

pub returns-in-LiveAppend : goal.returns-in-LiveAppend
unfolding same_queue writes call_of
returns-in-LiveAppend c = rw c.in-LiveAppend.is

pub returns-in-LiveRewrite : goal.returns-in-LiveRewrite
unfolding same_queue writes call_of
returns-in-LiveRewrite c = rw c.in-LiveRewrite.is
