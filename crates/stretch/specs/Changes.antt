-- What an item does to its group's table, as the rules' change of a table, and what a stretch is after it.
use Rattle.memtable.specs.declared.Head.{Head}
use Rattle.std.specs.Prelude.{Bool, cond, true, ◌&&◌, List, ◌≡◌, ℕ, ◌/◌, ◌≤◌, leb, length, take}
use Rattle.maps.specs.Lists.{every}
use Rattle.maps.specs.Maps.{Map}
use Rattle.pipe_log.specs.Rows.{window}
use Rattle.rules.specs.Causes.{Cause, ByCause, Result, Ok, Err, refuse, and_then, LimitPassed}
use Rattle.rules.specs.Items.{is_rewrite}
use Rattle.rules.specs.Table.{Held, Table, with_keys, over_keys, appended, replayed_rewrite, rewritten, compacted, put_key, delete_key, rewritten_key}
use Rattle.rules.specs.Context.{table_fits}
use Rattle.kvs.specs.Rows.{fits}
use Rattle.kvs.specs.Calls.{held_by}
use Rattle.memtable.specs.Appends.{Lent}
use Rattle.stretch.specs.declared.Change.{Change}
use Rattle.stretch.specs.declared.Change.TheVariants as change
use Rattle.cells.specs.Part.{put}
use Rattle.stretch.specs.Stretch.{head_numbers, entry_rows_at, key_rows_at, table_at, WfAt, table_in, Wf}

-- the rules' change of a table; `rows` are a list's entries, `key` and `value` those of a key change
unfoldable pub rule_of : Change → List ℕ → List ℕ → List ℕ → Table → Result Table
rule_of (change.Append first live) rows key value t = appended live (window first (length rows / 8) rows) t
rule_of (change.ReplayRewrite first) rows key value t = Ok (replayed_rewrite (window first (length rows / 8) rows) t)
rule_of (change.Rewrite first gate) rows key value t = rewritten gate (window first (length rows / 8) rows) t
rule_of (change.Compact index) rows key value t = Ok (compacted index t)
rule_of (change.Put queue seq) rows key value t = Ok (put_key key (held_by value queue seq) t)
rule_of change.Delete rows key value t = Ok (delete_key key t)
rule_of (change.RewriteKey gate seq) rows key value t = rewritten_key key gate seq t
rule_of change.Make rows key value t = Ok t

-- what a change asks of what is lent with it, and of the table: a replayed rewrite finds Rewrite entries alone
unfoldable pub Ready : Change → List ℕ → List ℕ → List ℕ → Table → Type 0
Ready (change.Append first live) rows key value t = Lent 0 first rows
Ready (change.ReplayRewrite first) rows key value t = Lent 1 first rows × (every is_rewrite t.entries ≡ true)
Ready (change.Rewrite first gate) rows key value t = Lent 1 first rows
Ready (change.Compact index) rows key value t = Unit {0}
Ready (change.Put queue seq) rows key value t = (length key ≤ 32) × (length value ≤ 32)
Ready change.Delete rows key value t = Unit {0}
Ready (change.RewriteKey gate seq) rows key value t = Unit {0}
Ready change.Make rows key value t = Unit {0}

-- a newer table's keys laid over
unfoldable pub keys_laid : Map (List ℕ) Held → Table → Result Table
keys_laid newer t = Ok (with_keys (over_keys t.keys newer) t)

-- a table that passes a limit is refused by 18
unfoldable pub limited_table : Result Table → Result Table
limited_table r = and_then r (λ t. cond (table_fits t) (Ok t) (refuse LimitPassed))

-- the result for each answer: what was accepted, or the refusal
abbrev pub outcome_as : {A : Type 0} → ByCause (Unit {0}) → A → Result A
outcome_as (Ok _) a = Ok a
outcome_as (Err n) a = refuse n

-- whether a stretch with its bytes has room for a table
unfoldable pub room_at : ℕ → List ℕ → List ℕ → Table → Bool
room_at w p b t = leb (length t.entries) (length (entry_rows_at w p) / 8) && fits (length t.keys) (key_rows_at w p) b

-- a table for which there is no room is refused by 18
unfoldable pub limited_at : ℕ → List ℕ → List ℕ → Result Table → Result Table
limited_at w p b r = and_then r (λ t. cond (room_at w p b t) (Ok t) (refuse LimitPassed))

-- a stretch p of any width with its bytes b changed by a rule; p' and b' are at exit
pub record ChangedAt (w : ℕ) (by : Table → Result Table) (p b : List ℕ) (r : ByCause (Unit {0})) (p' b' : List ℕ) : Type 0 where
  pub rule : outcome_as r (table_at w p' b') ≡ limited_at w p b (by (table_at w p b))
  -- used and the group's number stay
  pub front : take 2 p' ≡ take 2 p
  -- refused: all as it was
  pub left : (n : Cause) → r ≡ Err n → (p' ≡ p) × (b' ≡ b)
  pub wf : WfAt w p' b'

-- the same of a group's stretch
pub record Changed (by : Table → Result Table) (p b : List ℕ) (r : ByCause (Unit {0})) (p' b' : List ℕ) : Type 0 where
  pub rule : outcome_as r (table_in p' b') ≡ limited_table (by (table_in p b))
  -- used and the group's number stay
  pub front : take 2 p' ≡ take 2 p
  -- refused: all as it was
  pub left : (n : Cause) → r ≡ Err n → (p' ≡ p) × (b' ≡ b)
  pub wf : Wf p' b'

-- ---- what the tables' answers become: the answer, and the header with the head that they give

abbrev pub laid_outcome : ByCause Head → ByCause (Unit {0})
laid_outcome (Ok h) = Ok tt
laid_outcome (Err e) = Err e

abbrev pub laid_numbers : ByCause Head → List ℕ → List ℕ
laid_numbers (Ok h) p = put p 2 (head_numbers h)
laid_numbers (Err e) p = p
