-- `worktable::laying::lay_entries` meets its contract. Assumes nothing.
use Rattle.worktable.specs.Calls.{newer_queue, HeadFor, entries_over}
use Rattle.worktable.specs.LayLaws.{held-few, lent-held, lent-window}
use Rattle.worktable.proofs.laying.lay_entries.Goals as goal

pub rows_of-rows-requires : goal.rows_of-rows-requires
rows_of-rows-requires c = (c.requires.numbers_wf.numbers-are, rw c.head_in-head.ensures (held-few _ c.requires.numbers_wf))

pub append-requires : goal.append-requires
unfolding newer_queue
append-requires c = rw (c.rows_of-rows.ensures, c.head_in-head.ensures) (record { numbers_at = c.requires.numbers_at; lent = lent-held _ c.requires.numbers_wf _ (rw c.in-Append.is at c.requires.all_of) })

pub replay_rewrite-requires : goal.replay_rewrite-requires
unfolding newer_queue HeadFor
replay_rewrite-requires c =
    rw (c.rows_of-rows.ensures, c.head_in-head.ensures) (record { numbers_at = c.requires.numbers_at; lent = lent-held _ c.requires.numbers_wf _ (rw c.in-Rewrite.is at c.requires.all_of); p_bound = rw c.in-Rewrite.is at c.requires.head_for })

pub join-requires : goal.join-requires
unfolding newer_queue
join-requires c = rw (c.rows_of-rows.ensures, c.head_in-head.ensures) (record { numbers_at = c.requires.numbers_at; lent = lent-held _ c.requires.numbers_wf _ (rw c.in-Join.is at c.requires.all_of) })

pub returns-in-Append : goal.returns-in-Append
unfolding entries_over
returns-in-Append c = λ b w. rw c.in-Append.is (rw (c.rows_of-rows.ensures, c.head_in-head.ensures, lent-window _ c.requires.numbers_wf) at (c.append.ensures.by_index b w))

pub returns-in-Rewrite : goal.returns-in-Rewrite
unfolding entries_over
returns-in-Rewrite c = λ b w. rw c.in-Rewrite.is (rw (c.rows_of-rows.ensures, c.head_in-head.ensures, lent-window _ c.requires.numbers_wf) at (c.replay_rewrite.ensures.by_index b w))

pub returns-in-Join : goal.returns-in-Join
unfolding entries_over
returns-in-Join c = λ b w. rw c.in-Join.is (rw (c.rows_of-rows.ensures, c.head_in-head.ensures, lent-window _ c.requires.numbers_wf) at (c.join.ensures b w))
