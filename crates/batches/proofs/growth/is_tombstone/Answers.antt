-- `batches::growth::is_tombstone` meets its contract. Assumes nothing.
use Rattle.rules.specs.Items.{is_tombstone}
use Rattle.log_batch.specs.Lent.{content_of, key_content, key_change, change_of}
use Rattle.batches.proofs.growth.is_tombstone.Goals as goal

pub returns-in-EntryIndexes : goal.returns-in-EntryIndexes
unfolding is_tombstone content_of
returns-in-EntryIndexes c = λ es bs. rw c.in-EntryIndexes.is

pub returns-in-Command : goal.returns-in-Command
unfolding is_tombstone content_of
returns-in-Command c = λ es bs. rw c.in-Command.is

pub returns-in-Put : goal.returns-in-Put
unfolding is_tombstone content_of key_content key_change change_of
returns-in-Put c = λ es bs. rw (c.in-Kv.is, c.in-Put.is)

pub returns-in-Del : goal.returns-in-Del
unfolding is_tombstone content_of key_content key_change change_of
returns-in-Del c = λ es bs. rw (c.in-Kv.is, c.in-Del.is)
