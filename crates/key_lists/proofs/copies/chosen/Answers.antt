-- `key_lists::copies::chosen` meets its contract. Assumes nothing.
use Rattle.kvs.proofs.Queues.{same_queue_is}
use Rattle.key_lists.specs.Lists.{meets}
use Rattle.key_lists.proofs.copies.chosen.Goals as goal

pub returns-else-eq : goal.returns-else-eq
unfolding meets
returns-else-eq c = rw (c.in-UpTo.is, ← c.file-file.ensures, ← same_queue_is, ← c.eq.ensures, c.if-eq.false)

pub returns-in-OfRewrite : goal.returns-in-OfRewrite
unfolding meets
returns-in-OfRewrite c = rw (c.in-OfRewrite.is, ← c.file-file.ensures, ← same_queue_is) c.eq-in-OfRewrite.ensures
