-- `batches::growth::is_clean` meets its contract. Assumes nothing.
use Rattle.rules.specs.Items.{is_clean}
use Rattle.log_batch.specs.Lent.{content_of, key_content, command_of}
use Rattle.batches.proofs.growth.is_clean.Goals as goal

pub returns-in-EntryIndexes : goal.returns-in-EntryIndexes
unfolding is_clean content_of
returns-in-EntryIndexes c = λ es bs. rw c.in-EntryIndexes.is

pub returns-in-Clean : goal.returns-in-Clean
unfolding is_clean content_of command_of
returns-in-Clean c = λ es bs. rw (c.in-Command.is, c.in-Clean.is)

pub returns-in-Compact : goal.returns-in-Compact
unfolding is_clean content_of command_of
returns-in-Compact c = λ es bs. rw (c.in-Command.is, c.in-Compact.is)

pub returns-in-Kv : goal.returns-in-Kv
unfolding is_clean content_of key_content
returns-in-Kv c = λ es bs. rw c.in-Kv.is
