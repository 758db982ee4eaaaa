-- What the calls on a group's keys answer, and what the parts are and stand for at exit.
use Rattle.kvs.specs.Places.{Sought}
use Rattle.std.specs.Prelude.{Bool, false, cond, List, [], ◌∷◌, ◌≡◌, ℕ, ◌+◌, ◌*◌, leb, length}
use Rattle.std.specs.Prelude.{Option, None, Some}
use Rattle.cells.specs.Part.{put}
use Rattle.maps.specs.Lists.{map_option, or_else}
use Rattle.maps.specs.Maps.{Map, lookup, insert, remove, bytes}
use Rattle.rules.specs.Causes.{LimitPassed, ByCause, Err, Result, Ok, refuse}
use Rattle.rules.specs.Items.{LogQueue, Append, same_queue}
use Rattle.rules.specs.Table.{Held, Table, with_keys, rewritten_key}
use Rattle.rules.specs.TableQueries.{keys_of, least_seq}
use Rattle.kvs.specs.Rows.{keys_in, Wf, fits}
use Rattle.kvs.specs.Places.{place_of, below_at}
use Rattle.kvs.specs.Writes.{written_rows, written_bytes, opened, closed}

-- a value with its file
abbrev pub held_by : List ℕ → LogQueue → ℕ → Held
held_by v q s = record { value = v; file = record { queue = q; seq = s } }

-- the parts are those of n keys, and stand for a map
pub record Holds (n : ℕ) (rows bs : List ℕ) (keys : Map (List ℕ) Held) : Type 0 where
  pub wf : Wf n rows bs
  pub is : keys_in n rows bs ≡ keys

-- the answer of a call whose result has m keys: they fit, or the part is full
unfoldable pub room_for : ℕ → List ℕ → List ℕ → ByCause ℕ
room_for m rows bs = cond (fits m rows bs) (Ok m) (Err LimitPassed)

-- what the parts stand for after such a call; where the part is full they are as they were
unfoldable pub Stands : ByCause ℕ → List ℕ → List ℕ → Map (List ℕ) Held → Type 0
Stands (Ok m) rows bs keys = Holds m rows bs keys
Stands (Err e) rows bs keys = Unit {0}

-- ---- `put`

-- the parts after a key is put at its place: the row is written where it is, or those from it up are moved first
unfoldable pub put_rows : ByCause ℕ → Sought → ℕ → List ℕ → Held → List ℕ → List ℕ
put_rows (Ok m) (Ok i) n k h rows = written_rows i k h rows
put_rows (Ok m) (Err i) n k h rows = written_rows i k h (opened 4 n i rows)
put_rows (Err e) p n k h rows = rows

unfoldable pub put_bytes : ByCause ℕ → Sought → ℕ → List ℕ → Held → List ℕ → List ℕ
put_bytes (Ok m) (Ok i) n k h bs = written_bytes i k h bs
put_bytes (Ok m) (Err i) n k h bs = written_bytes i k h (opened 64 n i bs)
put_bytes (Err e) p n k h bs = bs

pub record PutKey (n : ℕ) (rows bs k : List ℕ) (h : Held) (r : ByCause ℕ) (rows' bs' : List ℕ) : Type 0 where
  pub answer : r ≡ room_for (length (insert bytes k h (keys_in n rows bs))) rows bs
  pub rows_are : rows' ≡ put_rows r (place_of k (keys_in n rows bs)) n k h rows
  pub bytes-are : bs' ≡ put_bytes r (place_of k (keys_in n rows bs)) n k h bs
  pub stands : Stands r rows' bs' (insert bytes k h (keys_in n rows bs))

-- ---- `delete`

-- a part of rows of w after the key at a place is taken out
unfoldable pub deleted : ℕ → Sought → ℕ → List ℕ → List ℕ
deleted w (Ok i) n l = closed w n i l
deleted w (Err i) n l = l

pub record DeleteKey (n : ℕ) (rows bs k : List ℕ) (r : ℕ) (rows' bs' : List ℕ) : Type 0 where
  pub answer : r ≡ length (remove bytes k (keys_in n rows bs))
  pub rows_are : rows' ≡ deleted 4 (place_of k (keys_in n rows bs)) n rows
  pub bytes-are : bs' ≡ deleted 64 (place_of k (keys_in n rows bs)) n bs
  pub holds : Holds r rows' bs' (remove bytes k (keys_in n rows bs))

-- ---- `get`

-- what may be absent, as a flag and a value
unfoldable pub given : {A : Type 0} → Bool → A → Option A
given b a = cond b (Some a) None

-- the value, where the key is there
abbrev pub GetKey : Map (List ℕ) Held → List ℕ → Option (List ℕ) → Type 0
GetKey keys k r = r ≡ map_option (λ (h : Held). h.value) (lookup bytes k keys)

-- ---- `rewrite_key`

-- 17, or the table with the key's file moved
unfoldable pub rewritten_as : ByCause (Unit {0}) → Table → Result Table
rewritten_as (Ok _) t = Ok t
rewritten_as (Err e) t = refuse e

-- whether the key's file becomes Rewrite file s
unfoldable pub moves : Option ℕ → ℕ → Held → Bool
moves gate s h = cond (same_queue h.file.queue Append) (or_else false (leb h.file.seq) gate) (leb h.file.seq s)

-- the numbers after it: row i's queue and sequence number
unfoldable pub moved_rows : ℕ → ℕ → List ℕ → List ℕ
moved_rows i s rows = put rows (i * 4 + 2) (1 ∷ s ∷ [])

unfoldable pub rewritten_rows : Sought → Option Held → Option ℕ → ℕ → List ℕ → List ℕ
rewritten_rows p h gate s rows = or_else rows (λ h. cond (moves gate s h) (moved_rows (below_at p) s rows) rows) h

pub record RewriteKey (n : ℕ) (rows bs k : List ℕ) (gate : Option ℕ) (s : ℕ) (r : ByCause (Unit {0})) (rows' : List ℕ) : Type 0 where
  pub answer : (t : Table) → t.keys ≡ keys_in n rows bs → rewritten_key k gate s t ≡ rewritten_as r (with_keys (keys_in n rows' bs) t)
  pub rows_are : rows' ≡ rewritten_rows (place_of k (keys_in n rows bs)) (lookup bytes k (keys_in n rows bs)) gate s rows
  pub wf : Wf n rows' bs

-- ---- `least_seq` and `count_of`, which read the numbers alone

abbrev pub LeastSeq : ℕ → List ℕ → LogQueue → Option ℕ → Type 0
LeastSeq n rows q r = (t : Table) (bs : List ℕ) → t.keys ≡ keys_in n rows bs → least_seq (keys_of q t) ≡ r

abbrev pub CountOf : ℕ → List ℕ → LogQueue → ℕ → Type 0
CountOf n rows q r = (t : Table) (bs : List ℕ) → t.keys ≡ keys_in n rows bs → length (keys_of q t) ≡ r
