-- `deeds::deed_of` meets its contract. Assumes nothing.
use mathlib.Core.Path.{sym, ◌∙◌}
use Rattle.rules.specs.Items.{is_reserved}
use Rattle.log_batch.specs.Lent.{content_of, key_content}
use Rattle.deeds.specs.declared.Deed.TheVariants as deed
use Rattle.deeds.specs.Deeds.{deed_of}
use Rattle.deeds.proofs.deed_of.Goals as goal

pub returns-then-is_reserved : goal.returns-then-is_reserved
unfolding deed_of content_of key_content is_reserved
returns-then-is_reserved c = rw c.in-Kv.is (rw (sym (c.is_reserved.ensures c.args.entries.now) ∙ c.if-is_reserved.true))

pub returns-else-is_reserved : goal.returns-else-is_reserved
unfolding deed_of content_of key_content is_reserved
returns-else-is_reserved c = rw c.in-Kv.is (rw (sym (c.is_reserved.ensures c.args.entries.now) ∙ c.if-is_reserved.false) c.key_deed.ensures)
