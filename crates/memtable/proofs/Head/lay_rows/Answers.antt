-- `memtable::Head::lay_rows` meets its contract. Assumes nothing.
use borrow.Author.Rules.{rules}
use Rattle.memtable.proofs.AppendWays.{lay-full, lay-rewrite, lay-append}
use Rattle.memtable.proofs.Head.lay_rows.Goals as goal

pub returns-then-part-at : goal.returns-then-part-at
returns-then-part-at c = lay-full _ _ _ _ _ c.requires.wf c.requires.kept_le_len.0 c.requires.kept_le_len.1 c.requires.lent c.if-part-at.true

pub returns-then-rewrite : goal.returns-then-rewrite
returns-then-rewrite c =
    lay-rewrite _ _ _ _ _ c.requires.wf c.requires.kept_le_len.0 c.requires.kept_le_len.1 (rw c.if-rewrite.true at c.requires.lent) c.if-part-at.false _ c.copy_in.ensures (search rules) (rw c.if-rewrite.true at c.requires.kept_le_len.2)

pub returns : goal.returns
returns c =
    lay-append _ _ _ _ _ c.requires.wf c.requires.kept_le_len.0 c.requires.kept_le_len.1 (rw c.if-rewrite.false at c.requires.lent) c.if-part-at.false _ c.copy_in.ensures (search rules) _ (search rules)
