-- The calls that lay lent rows over a group's entries: `append`, `replay_rewrite` and the join's laying over.
use Rattle.std.specs.Prelude.{Bool, true, false, cond, not, ◌&&◌, List, [], ◌∷◌, ◌≡◌, ℕ, ◌+◌, ◌-◌, ◌*◌, ◌/◌, ◌≤◌, ◌^◌, leb, length}
use Rattle.cells.specs.Part.{put}
use Rattle.maps.specs.Maps.{Map}
use Rattle.rules.specs.Causes.{BelowFirst, AboveLast, ByCause, Err, Result, Ok, refuse, and_then, LimitPassed}
use Rattle.rules.specs.Items.{EntryIndex}
use Rattle.rules.specs.Table.{Held, Table, with_entries, is_below_first, is_above_last, over}
use Rattle.memtable.specs.declared.Head.{Head}
use Rattle.memtable.specs.Views.{table_of, Rows, Wf}

-- the number of the queue that rows are of
abbrev pub queue_bit : Bool → ℕ
queue_bit true = 1
queue_bit false = 0

-- how many Rewrite entries there must be, of n, for Rewrite rows to stand behind them
abbrev pub rewrites_before : Bool → ℕ → ℕ
rewrites_before true n = n
rewrites_before false n = 0

-- lent rows: whole ones, records of queue q, and no index from s on above 2^63 − 1
pub record Lent (q s : ℕ) (rows : List ℕ) : Type 0 where
  pub whole : length rows / 8 * 8 ≡ length rows
  pub index : s + length rows / 8 ≤ 2 ^ 63
  pub are : Rows q 0 (length rows / 8) rows

-- the head after the call
abbrev pub head_after : Head → ByCause Head → Head
head_after h (Ok g) = g
head_after h (Err e) = h

-- the part after the call: the rows laid in as the last ones, or all as it was
abbrev pub part_after : ByCause Head → List ℕ → List ℕ → List ℕ
part_after (Ok h) xs rows = put xs (h.len * 8 - length rows) rows
part_after (Err e) xs rows = xs

-- the rules' result for each answer: 13, 14, and 18 where the part has no room
abbrev pub appended_of : ByCause Head → List ℕ → Map (List ℕ) Held → Bool → Result Table
appended_of (Ok h) xs keys counted = Ok (table_of h xs keys counted)
appended_of (Err e) xs keys counted = refuse e

-- a result with more entries than there is room for is refused
unfoldable pub fitting : ℕ → Result Table → Result Table
fitting room r = and_then r (λ t. cond (leb (length t.entries) room) (Ok t) (refuse LimitPassed))

-- of head h and part xs, with rows laid over by a rule; ys is the part at exit
pub record Laying (by : Table → Result Table) (h : Head) (xs rows : List ℕ) (r : ByCause Head) (ys : List ℕ) : Type 0 where
  pub rule : (keys : Map (List ℕ) Held) (counted : Bool) → appended_of r ys keys counted ≡ fitting (length xs / 8) (by (table_of h xs keys counted))
  pub laid : ys ≡ part_after r xs rows
  -- without entries the first index is the one before the call
  pub first : (head_after h r).len ≡ 0 → (head_after h r).first_index ≡ h.first_index
  pub wf : Wf (head_after h r) ys

-- a list laid over, where a start below the first entry drops all or is refused, and a gap drops all or is refused
unfoldable pub laid_by : Bool → Bool → List EntryIndex → Table → Result Table
laid_by overwrite hole [] t = Ok t
laid_by overwrite hole (e ∷ es) t =
    cond (not overwrite && is_below_first e.index t.entries)
    (refuse BelowFirst)
    (cond (is_above_last e.index t.entries)
    (cond hole (Ok (with_entries (e ∷ es) t)) (refuse AboveLast))
    (Ok (with_entries (over t.entries (e ∷ es)) t)))
