-- The laws of stretches that a crate above cites: a group's stretch as one of any width, as a cell of a map, as a group that was just
-- made, and by what is in use. Assumes nothing.
use Rattle.std.specs.Prelude.{Bool, true, false, cond, List, [], ◌∷◌, ◌≡◌, refl, ℕ, ◌+◌, ◌-◌, ◌*◌, ◌/◌, ◌≤◌, ◌<◌, leb, length, get_or, take}
use Rattle.std.specs.Prelude.{Option, None, Some}
use Rattle.std.proofs.Math.Path.{sym}
use Rattle.std.proofs.Common.{ap, ◌∙◌, arith, get_or-take, take-take, le-leb, leb-true, leb-false}
use Rattle.std.proofs.Math.Nat.{add-zero}
use Rattle.std.proofs.lemmas.Bool.{lt-leb}
use Rattle.cells.specs.Part.{part, put}
use Rattle.cells.specs.PartLaws.{length_part, length-put, take_put, get_or-put-in, get_or-part, part-put_same, part-put-after, part-front, part-part}
use Rattle.maps.specs.BoolLaws.{and-false}
use Rattle.maps.specs.OrderLaws.{split}
use Rattle.maps.specs.Lists.{or_else, map_option, first, last}
use Rattle.maps.specs.Maps.{lookup, bytes}
use Rattle.maps.specs.MapLaws.{pair, ascending-nil}
use Rattle.pipe_log.specs.Rows.{window}
use Rattle.rules.specs.Causes.{ByCause, Result, Ok, Err, refuse, and_then, LimitPassed}
use Rattle.rules.specs.Items.{EntryIndex}
use Rattle.rules.specs.Context.{table_fits}
use Rattle.rules.specs.Table.{Held, Table, empty_table, first_index_of, last_index, is_below_first, is_above_last, with_entries, over, appended, rewritten, rewritten_key}
use Rattle.kvs.specs.Rows.{rows_from, keys_in, RowsOk, fits}
use Rattle.kvs.specs.Rows as kvs
use Rattle.kvs.specs.RowLaws.{Same, length-keys}
use Rattle.kvs.specs.SameLaws as keys
use Rattle.memtable.specs.declared.Head.{Head}
use Rattle.memtable.specs.Views.{table_of}
use Rattle.memtable.specs.Views as memtable
use Rattle.memtable.specs.SameLaws as entries
use Rattle.memtable.specs.WindowLaws.{length-window}
use Rattle.stretch.specs.declared.Change.{Change}
use Rattle.stretch.specs.declared.Change.TheVariants as change
use Rattle.stretch.specs.Stretch.{is_used, group_in, span_in, head_part, key_count, is_counted, made_header, entry_rows_at, key_rows_at, table_at, WfAt, entry_rows, key_rows, table_in, cell_of, Wf}
use Rattle.stretch.specs.StretchLaws.{Holds, own, length-entries, table_of_lem, wf_of, head_same}
use Rattle.stretch.specs.StretchLaws as any
use Rattle.stretch.specs.Changes.{rule_of, Ready, room_at, limited_at, ChangedAt, limited_table, outcome_as, Changed}

-- ---- a group's stretch is one whose rows of keys begin at place 522

short-keys : (p : List ℕ) → length p ≡ 586 → key_rows_at 522 p ≡ key_rows p
unfolding key_rows_at key_rows
short-keys p l = rw l

short-entries : (p : List ℕ) → entry_rows_at 522 p ≡ entry_rows p
unfolding entry_rows_at entry_rows
short-entries p = refl

pub table-short : (p b : List ℕ) → length p ≡ 586 → table_at 522 p b ≡ table_in p b
unfolding table_at table_in
table-short p b l = rw (short-keys p l, short-entries p)

pub wf_any : (p b : List ℕ) → Wf p b → WfAt 522 p b
wf_any p b w =
    let l = w.numbers.numbers-are in
    record {
      numbers = record { from = omega arith; to = omega arith; entries = rw (short-entries p) w.numbers.entries };
      keys = rw (short-keys p l) w.keys;
    }

pub wf-short : (p b : List ℕ) → length p ≡ 586 → length b ≡ 1024 → WfAt 522 p b → Wf p b
wf-short p b l m w =
    record {
      numbers = record { numbers-are = l; entries = rw (short-entries p) at w.numbers.entries };
      bytes-are = m;
      keys = rw (short-keys p l) at w.keys;
    }

-- it has room for what is within the limits
few-keys : (n : ℕ) (rows b : List ℕ) → length rows ≡ 64 → length b ≡ 1024 → fits n rows b ≡ leb n 16
unfolding fits
few-keys n rows b l m =
    rw (l, m)
    (split (leb n 16)
    (λ y. let u = leb-true n 16 y in rw (y, le-leb (n * 4) 64 (omega arith), le-leb (n * 64) 1024 (omega arith)))
    (λ y. let u = leb-false n 16 y in rw (y, lt-leb (n * 4) 64 (omega arith))))

pub room-short : (p b : List ℕ) → length p ≡ 586 → length b ≡ 1024 → (t : Table) → room_at 522 p b t ≡ table_fits t
unfolding room_at table_fits
room-short p b l m t =
    rw (
      length-entries 522 p (omega arith) (omega arith),
      few-keys (length t.keys) (key_rows_at 522 p) b (any.length-keys 522 p (omega arith) ∙ rw l) m,
    )

limited-short : (p b : List ℕ) → length p ≡ 586 → length b ≡ 1024 → (r : Result Table) → limited_at 522 p b r ≡ limited_table r
unfolding limited_at limited_table
limited-short p b l m r = ap (λ (f : Table → Bool). and_then r (λ t. cond (f t) (Ok t) (refuse LimitPassed))) (λ i t. room-short p b l m t i)

pub changed-short : {by : Table → Result Table} {p b : List ℕ} {r : (ByCause (Unit {0}))} {p' b' : List ℕ} → length p ≡ 586 → length b ≡ 1024 → length p' ≡ length p → length b' ≡ length b → ChangedAt 522 by p b r p' b' → Changed by p b r p' b'
changed-short {by} {p} {b} {r} {p'} {b'} l m k n c =
    record {
      rule =
          ap (outcome_as r) (sym (table-short p' b' (k ∙ l)))
          ∙ c.rule
          ∙ limited-short p b l m (by (table_at 522 p b))
          ∙ ap (λ t. limited_table (by t)) (table-short p b l);
      front = c.front;
      left = c.left;
      wf = wf-short p' b' (k ∙ l) (n ∙ m) c.wf;
    }

-- ---- a stretch as a cell

pub cell-used : (p b : List ℕ) → is_used p ≡ true → cell_of p b ≡ Some (pair (group_in p) (table_in p b))
unfolding cell_of
cell-used p b u = rw u

pub cell_free : (p b : List ℕ) → is_used p ≡ false → cell_of p b ≡ None
unfolding cell_of
cell_free p b u = rw u

-- used and the group's number are the first two numbers
pub front-used : (p q : List ℕ) → take 2 q ≡ take 2 p → is_used q ≡ is_used p
unfolding is_used
front-used p q e = rw (sym (get_or-take 2 q 0 0 (omega arith)) ∙ ap (λ (l : List ℕ). get_or l 0 0) e ∙ get_or-take 2 p 0 0 (omega arith))

pub front-group : (p q : List ℕ) → take 2 q ≡ take 2 p → group_in q ≡ group_in p
unfolding group_in
front-group p q e = sym (get_or-take 2 q 1 0 (omega arith)) ∙ ap (λ (l : List ℕ). get_or l 1 0) e ∙ get_or-take 2 p 1 0 (omega arith)

pub changed-cell : {by : Table → Result Table} {p b : List ℕ} {r : (ByCause (Unit {0}))} {p' b' : List ℕ} → Changed by p b r p' b' → is_used p ≡ true → cell_of p' b' ≡ Some (pair (group_in p) (table_in p' b'))
changed-cell {p = p} {p' = p'} {b' = b'} c u =
    cell-used p' b' (front-used p p' c.front ∙ u) ∙ rw (front-group p p' c.front)

-- ---- limits

-- a stretch has room for its own table
pub room-own : (w : ℕ) (p b : List ℕ) → WfAt w p b → room_at w p b (table_at w p b) ≡ true
unfolding room_at table_at table_of fits
room-own w p b o =
    let h = head_part p in
    let r = o.numbers.entries.room in
    rw (
      length-window h.first_index h.len (entry_rows_at w p),
      length-keys (key_count p) (key_rows_at w p) b,
      le-leb h.len (length (entry_rows_at w p) / 8) (omega arith),
      le-leb (key_count p * 4) (length (key_rows_at w p)) o.keys.rows_fit,
      le-leb (key_count p * 64) (length b) o.keys.bytes_fit,
    )

-- what is accepted within the limits is not refused by them
pub limited_same : (w : ℕ) (p b : List ℕ) (x : Result Table) → ((u : Table) → x ≡ Ok u → room_at w p b u ≡ true) → limited_at w p b x ≡ x
unfolding limited_at and_then
limited_same w p b (Ok u) f = rw (f u refl)
limited_same w p b (Err r) f = refl

-- a group that is there already is made by doing nothing
pub unchanged : (w : ℕ) (p b : List ℕ) → WfAt w p b → ChangedAt w (λ t. Ok t) p b (Ok tt) p b
unchanged w p b o =
    record {
      rule = sym (limited_same w p b (Ok (table_at w p b)) (λ u e. (let s : table_at w p b ≡ u = cc in rw (← s) (room-own w p b o))));
      front = refl;
      left = λ n d. (refl, refl);
      wf = o;
    }

-- room depends on the lengths alone
pub room_same : (w : ℕ) (p b p' b' : List ℕ) → 10 ≤ w → w ≤ length p → length p' ≡ length p → length b' ≡ length b → (t : Table) → room_at w p' b' t ≡ room_at w p b t
unfolding room_at fits
room_same w p b p' b' f o l m t =
    rw (
      length-entries w p f o,
      length-entries w p' f (omega arith),
      any.length-keys w p o,
      any.length-keys w p' (omega arith),
      l,
      m,
    )

pub wf-fits : (p b : List ℕ) → Wf p b → table_fits (table_in p b) ≡ true
wf-fits p b w =
    let l = w.numbers.numbers-are in
    rw (← table-short p b l) (sym (room-short p b l w.bytes-are (table_at 522 p b)) ∙ room-own 522 p b (wf_any p b w))

-- ---- a group that was just made

-- no entries and no span
abbrev pub no_entries : Head
no_entries = record { first_index = 0; len = 0; rewrite_count = 0; atomic_group = None }

no-entries : (xs : List ℕ) → memtable.Wf no_entries xs
no-entries xs =
    record {
      room = omega arith;
      front = omega arith;
      index = omega arith;
      rewritten = λ i l m. absurd (omega arith);
      appended = λ i l m. absurd (omega arith);
    }

no_keys : (rows bs : List ℕ) → kvs.Wf 0 rows bs
unfolding RowsOk rows_from keys_in
no_keys rows bs =
    record { rows_fit = omega arith; bytes_fit = omega arith; ok = tt; ascending = ascending-nil Held bytes }

module _ (g : ℕ) (p : List ℕ) (l : 10 ≤ length p) where
  made_at : (i : ℕ) → i < 10 → get_or (put p 0 (made_header g)) (0 + i) 0 ≡ get_or (made_header g) i 0
  unfolding made_header
  made_at i h = get_or-put-in p 0 (made_header g) i 0 h (omega arith)

  pub made-used : is_used (put p 0 (made_header g)) ≡ true
  unfolding is_used made_header
  made-used = rw (made_at 0 (omega arith))

  made-group : group_in (put p 0 (made_header g)) ≡ g
  unfolding group_in made_header
  made-group = made_at 1 (omega arith)

  pub made-length : length (put p 0 (made_header g)) ≡ length p
  unfolding made_header
  made-length = length-put p 0 (made_header g) (omega arith)

  made_holds : (w : ℕ) → 10 ≤ w → w ≤ length p → Holds w (put p 0 (made_header g)) no_entries (entry_rows_at w p) 0 (key_rows_at w p) true
  unfolding head_part span_in entry_rows_at key_rows_at key_count is_counted made_header
  made_holds w a b =
      let s = made_header g in
      let m = made-length in
      record {
        from = a;
        to = omega arith;
        head = rw (made_at 2 (omega arith), made_at 3 (omega arith), made_at 4 (omega arith), made_at 5 (omega arith));
        entries = part-put-after 10 (w - 10) p 0 s (omega arith) (omega arith);
        count = made_at 8 (omega arith);
        keys = rw m (part-put-after w (length p - w) p 0 s (omega arith) (omega arith));
        counted = rw (made_at 9 (omega arith));
      }

empty-table : (xs rows b : List ℕ) → table_of no_entries xs (keys_in 0 rows b) true ≡ empty_table
unfolding table_of window keys_in rows_from empty_table
empty-table xs rows b = refl

-- a stretch of any width that was just made
module _ (w g : ℕ) (p b : List ℕ) (f : 10 ≤ w) (t : w ≤ length p) where
  pub make-table : table_at w (put p 0 (made_header g)) b ≡ empty_table
  make-table =
      table_of_lem w (put p 0 (made_header g)) no_entries (entry_rows_at w p) 0 (key_rows_at w p) true (made_holds g p (omega arith) w f t) b
      ∙ empty-table (entry_rows_at w p) (key_rows_at w p) b

  pub make_wf : WfAt w (put p 0 (made_header g)) b
  make_wf =
      wf_of w (put p 0 (made_header g)) no_entries (entry_rows_at w p) 0 (key_rows_at w p) true (made_holds g p (omega arith) w f t) b (no-entries (entry_rows_at w p))
      (no_keys (key_rows_at w p) b)

pub make-cell : (g : ℕ) (p b : List ℕ) → length p ≡ 586 → length b ≡ 1024 → (cell_of (put p 0 (made_header g)) b ≡ Some (pair g empty_table)) × Wf (put p 0 (made_header g)) b
make-cell g p b l n =
    let q = put p 0 (made_header g) in
    let a : 10 ≤ length p = omega arith in
    let m : length q ≡ 586 = made-length g p a ∙ l in (
      cell-used q b (made-used g p a) ∙ rw (made-group g p a, ← table-short q b m, make-table 522 g p b (omega arith) (omega arith)),
      wf-short q b m n (make_wf 522 g p b (omega arith) (omega arith)),
    )

-- a group that was just made takes every change that may be asked of it
appended_empty : (live : Bool) (es : List EntryIndex) → (t : Table) × (appended live es empty_table ≡ Ok t)
unfolding appended empty_table is_below_first is_above_last first_index_of last_index map_option or_else first last
appended_empty live [] = (empty_table, refl)
appended_empty live (e ∷ es) = (with_entries (over [] (e ∷ es)) empty_table, rw (and-false live))

or_same : {A B : Type 0} (b : B) (o : Option A) → or_else b (λ (a : A). b) o ≡ b
unfolding or_else
or_same b None = refl
or_same b (Some a) = refl

no-first : first_index_of [] ≡ None
unfolding first_index_of map_option first
no-first = refl

rewritten_empty : (gate : Option ℕ) (rs : List EntryIndex) → rewritten gate rs empty_table ≡ Ok empty_table
unfolding rewritten empty_table or_else
rewritten_empty gate rs = rw no-first (or_same (Ok empty_table) (first_index_of rs))

key_empty : (k : List ℕ) (gate : Option ℕ) (s : ℕ) → rewritten_key k gate s empty_table ≡ Ok empty_table
unfolding rewritten_key empty_table lookup or_else
key_empty k gate s = refl

pub empty-taken : (c : Change) (rows key value : List ℕ) → Ready c rows key value empty_table → (t : Table) × (rule_of c rows key value empty_table ≡ Ok t)
unfolding rule_of
empty-taken (change.Append first live) rows key value r = appended_empty live (window first (length rows / 8) rows)
empty-taken (change.ReplayRewrite first) rows key value r = (_, refl)
empty-taken (change.Rewrite first gate) rows key value r = (empty_table, rewritten_empty gate (window first (length rows / 8) rows))
empty-taken (change.Compact index) rows key value r = (_, refl)
empty-taken (change.Put queue seq) rows key value r = (_, refl)
empty-taken change.Delete rows key value r = (_, refl)
empty-taken (change.RewriteKey gate seq) rows key value r = (empty_table, key_empty key gate seq)
empty-taken change.Make rows key value r = (_, refl)

-- ---- a stretch depends on its header and its rows in use alone

-- q is a stretch of any width, and has what is in use of p
module _ (w v : ℕ) (p b q d : List ℕ) (o : WfAt w p b) (f : 10 + (head_part p).len * 8 ≤ v) (l : v + key_count p * 4 ≤ length q) (m : key_count p * 64 ≤ length d)
    (front : take (10 + (head_part p).len * 8) q ≡ take (10 + (head_part p).len * 8) p)
    (rows : part v (key_count p * 4) q ≡ part w (key_count p * 4) p)
    (bytes-are : take (key_count p * 64) d ≡ take (key_count p * 64) b) where
  front_at : (i : ℕ) → i < 10 + (head_part p).len * 8 → get_or q i 0 ≡ get_or p i 0
  front_at i h =
      let k = 10 + (head_part p).len * 8 in
      sym (get_or-take k q i 0 h) ∙ ap (λ (s : List ℕ). get_or s i 0) front ∙ get_or-take k p i 0 h

  front-holds : Holds v q (head_part p) (entry_rows_at v q) (key_count p) (key_rows_at v q) (is_counted p)
  unfolding key_count is_counted
  front-holds =
      record {
        from = omega arith;
        to = omega arith;
        head = head_same p q (λ i h. front_at i (omega arith));
        entries = refl;
        count = front_at 8 (omega arith);
        keys = refl;
        counted = rw (front_at 9 (omega arith));
      }

  entries-room : (head_part p).len * 8 ≤ w - 10
  entries-room = let e = length-entries w p o.numbers.from o.numbers.to in omega (arith, o.numbers.entries.room)

  keys-room : key_count p * 4 ≤ length p - w
  keys-room = let e = any.length-keys w p o.numbers.to in omega (arith, o.keys.rows_fit)

  same_entries : (k : ℕ) → k < (head_part p).len * 8 → get_or (entry_rows_at v q) k 0 ≡ get_or (entry_rows_at w p) k 0
  unfolding entry_rows_at
  same_entries k h =
      let r = entries-room in
      get_or-part 10 (v - 10) q k 0 (omega arith) ∙ front_at (10 + k) (omega arith) ∙ sym (get_or-part 10 (w - 10) p k 0 (omega arith))

  same_keys : Same 0 0 (key_count p) (key_rows_at v q) d (key_rows_at w p) b
  unfolding key_rows_at
  same_keys =
      let r = keys-room in
      let n = key_count p in
      record {
        numbers =
            part-part 0 (n * 4) v (length q - v) q (omega arith)
            ∙ rw (add-zero v, add-zero w) rows
            ∙ sym (part-part 0 (n * 4) w (length p - w) p (omega arith));
        bytes = sym (part-front (n * 64) d) ∙ bytes-are ∙ part-front (n * 64) b;
      }

  pub front-table : table_at v q d ≡ table_at w p b
  front-table =
      table_of_lem v q (head_part p) (entry_rows_at v q) (key_count p) (key_rows_at v q) (is_counted p) front-holds d
      ∙ entries.table_same (head_part p) (entry_rows_at w p) (entry_rows_at v q) same_entries (keys_in (key_count p) (key_rows_at v q) d) (is_counted p)
      ∙ rw (keys.keys_same (key_count p) (key_rows_at w p) b (key_rows_at v q) d same_keys)
      (sym (table_of_lem w p (head_part p) (entry_rows_at w p) (key_count p) (key_rows_at w p) (is_counted p) (own w p o.numbers.from o.numbers.to) b))

  pub front_wf : WfAt v q d
  front_wf =
      let x = length-entries v q (omega arith) (omega arith) in
      let y = any.length-keys v q (omega arith) in
      wf_of v q (head_part p) (entry_rows_at v q) (key_count p) (key_rows_at v q) (is_counted p) front-holds d
      (entries.wf_same (head_part p) (entry_rows_at w p) (entry_rows_at v q) same_entries (omega arith) o.numbers.entries)
      (keys.wf_same (key_count p) (key_rows_at w p) b (key_rows_at v q) d same_keys (omega arith) m o.keys)

  front_two : take 2 q ≡ take 2 p
  front_two =
      let k = 10 + (head_part p).len * 8 in
      sym (take-take 2 k q (omega arith)) ∙ ap (take 2) front ∙ take-take 2 k p (omega arith)

  pub same-used : is_used q ≡ is_used p
  same-used = front-used p q front_two

  pub same-group : group_in q ≡ group_in p
  same-group = front-group p q front_two

-- both are groups' stretches
pub same-front : (p b q d : List ℕ) → Wf p b → length q ≡ 586 → length d ≡ 1024 → take (10 + (head_part p).len * 8) q ≡ take (10 + (head_part p).len * 8) p
    → part 522 (key_count p * 4) q ≡ part 522 (key_count p * 4) p → take (key_count p * 64) d ≡ take (key_count p * 64) b → (cell_of q d ≡ cell_of p b) × Wf q d
unfolding cell_of
same-front p b q d w l m front rows bytes-are =
    let o = wf_any p b w in
    let n = w.numbers.numbers-are in
    let e = length-entries 522 p (omega arith) (omega arith) in
    let k = any.length-keys 522 p (omega arith) in
    let r = o.numbers.entries.room in
    let s = o.keys.rows_fit in
    let f : 10 + (head_part p).len * 8 ≤ 522 = omega arith in
    let g : 522 + key_count p * 4 ≤ length q = omega arith in
    let h : key_count p * 64 ≤ length d = omega arith in (
      rw (
        same-used 522 522 p b q d o f g h front rows bytes-are,
        same-group 522 522 p b q d o f g h front rows bytes-are,
        ← table-short q d l,
        front-table 522 522 p b q d o f g h front rows bytes-are,
        table-short p b n,
      ),
      wf-short q d l m (front_wf 522 522 p b q d o f g h front rows bytes-are),
    )

-- ---- a stretch copied to another width: the header with the rows of entries in use, the rows of keys in use, and their bytes

module _ (w v : ℕ) (p b q d : List ℕ) (o : WfAt w p b) (f : 10 + (head_part p).len * 8 ≤ v) (l : v + key_count p * 4 ≤ length q) (m : key_count p * 64 ≤ length d) where
  abbrev pub copied_numbers : List ℕ
  copied_numbers = put (put q 0 (part 0 (10 + (head_part p).len * 8) p)) v (part w (key_count p * 4) p)

  abbrev pub copied_bytes : List ℕ
  copied_bytes = put d 0 (part 0 (key_count p * 64) b)

  in_use : (10 + (head_part p).len * 8 ≤ length p) × (w + key_count p * 4 ≤ length p)
  in_use =
      let e = length-entries w p o.numbers.from o.numbers.to in
      let k = any.length-keys w p o.numbers.to in
      let r = o.numbers.entries.room in
      let s = o.keys.rows_fit in
      let g = o.numbers.from in
      let t = o.numbers.to in
      (omega arith, omega arith)

  length_front : length (part 0 (10 + (head_part p).len * 8) p) ≡ 10 + (head_part p).len * 8
  length_front = let u = in_use in length_part 0 (10 + (head_part p).len * 8) p (omega arith)

  length-rows : length (part w (key_count p * 4) p) ≡ key_count p * 4
  length-rows = length_part w (key_count p * 4) p in_use.1

  length_once : length (put q 0 (part 0 (10 + (head_part p).len * 8) p)) ≡ length q
  length_once = let e = length_front in length-put q 0 (part 0 (10 + (head_part p).len * 8) p) (omega arith)

  pub copied-length : length copied_numbers ≡ length q
  copied-length =
      let e = length_once in
      let k = length-rows in
      length-put (put q 0 (part 0 (10 + (head_part p).len * 8) p)) v (part w (key_count p * 4) p) (omega arith) ∙ e

  copied-front : take (10 + (head_part p).len * 8) copied_numbers ≡ take (10 + (head_part p).len * 8) p
  copied-front =
      let n = 10 + (head_part p).len * 8 in
      let e = length_once in
      take_put n (put q 0 (part 0 n p)) v (part w (key_count p * 4) p) f (omega arith)
      ∙ part-front n (put q 0 (part 0 n p))
      ∙ part-put_same n q 0 (part 0 n p) length_front (omega arith)
      ∙ sym (part-front n p)

  copied-rows : part v (key_count p * 4) copied_numbers ≡ part w (key_count p * 4) p
  copied-rows =
      let e = length_once in
      part-put_same (key_count p * 4) (put q 0 (part 0 (10 + (head_part p).len * 8) p)) v (part w (key_count p * 4) p) length-rows (omega arith)

  length-bytes : length (part 0 (key_count p * 64) b) ≡ key_count p * 64
  length-bytes = let u = o.keys.bytes_fit in length_part 0 (key_count p * 64) b (omega arith)

  pub copied-bytes-length : length copied_bytes ≡ length d
  copied-bytes-length = let e = length-bytes in length-put d 0 (part 0 (key_count p * 64) b) (omega arith)

  copied-bytes : take (key_count p * 64) copied_bytes ≡ take (key_count p * 64) b
  copied-bytes =
      let n = key_count p * 64 in
      part-front n copied_bytes ∙ part-put_same n d 0 (part 0 n b) length-bytes (omega arith) ∙ sym (part-front n b)

  room-rows : v + key_count p * 4 ≤ length copied_numbers
  room-rows = omega (arith, copied-length)

  room-bytes : key_count p * 64 ≤ length copied_bytes
  room-bytes = omega (arith, copied-bytes-length)

  pub copied-table : table_at v copied_numbers copied_bytes ≡ table_at w p b
  copied-table = front-table w v p b copied_numbers copied_bytes o f room-rows room-bytes copied-front copied-rows copied-bytes

  pub copied_wf : WfAt v copied_numbers copied_bytes
  copied_wf = front_wf w v p b copied_numbers copied_bytes o f room-rows room-bytes copied-front copied-rows copied-bytes

  pub copied-used : is_used copied_numbers ≡ is_used p
  copied-used = same-used w v p b copied_numbers copied_bytes o f room-rows room-bytes copied-front copied-rows copied-bytes

  pub copied-group : group_in copied_numbers ≡ group_in p
  copied-group = same-group w v p b copied_numbers copied_bytes o f room-rows room-bytes copied-front copied-rows copied-bytes
