-- The items of a finished part replayed on the work table, one after the other.
use Rattle.std.specs.Prelude.{Bool, true, List, ◌≡◌, ℕ, ◌+◌, ◌≤◌, length}
use Rattle.std.specs.Prelude.{Option}
use Rattle.maps.specs.Lists.{every, sum}
use Rattle.rules.specs.Causes.{left}
use Rattle.rules.specs.Items.{Rewrite, LogItem, replay_rewrite}
use Rattle.rules.specs.Table.{Table, made}
use Rattle.rules.specs.Context.{context, entries_in}
use Rattle.rules_by_group.specs.Group.{changed, replayed_items}
use Rattle.rules_by_group.specs.Kept.{entry_by, each_entry, is_passed}
use Rattle.worktable.specs.Work.{long_entries, long_keys, work_in, Wf}

-- an entry of the Rewrite queue
abbrev pub of_rewrite : Rattle.rules.specs.Items.EntryIndex → Bool
of_rewrite = entry_by (context Rewrite)

-- what one item makes of its group's table; Rewrite replay refuses none
unfoldable pub replayed : LogItem → Option Table → Option Table
replayed x o = left o (changed replay_rewrite x.content o)

-- items that passed the checks, for whose entries and keys there is room
pub record Replayable (xs : List LogItem) (o : Option Table) : Type 0 where
  pub passed : every is_passed xs ≡ true
  pub own : every (λ (it : LogItem). each_entry of_rewrite it.content) xs ≡ true
  pub older : every of_rewrite (made o).entries ≡ true
  pub rows : length (made o).entries + sum entries_in xs ≤ long_entries
  pub keys : length (made o).keys + length xs ≤ long_keys

-- of the items xs those of `rest` are left to replay on the work table, which was o
pub record Replaying (xs : List LogItem) (o : Option Table) (rest : List LogItem) (p b : List ℕ) : Type 0 where
  pub whole : replayed_items rest (work_in p b) ≡ replayed_items xs o
  pub ready : Replayable rest (work_in p b)
  pub wf : Wf p b
