-- What each change leaves as it was, from what the tables' functions say of the rows at exit. Assumes nothing.
use mathlib.Core.Bool.{Bool, true}
use mathlib.Core.List.{List, [], ◌∷◌, ◌++◌}
use Rattle.std.specs.Prelude.{Option}
use mathlib.Core.Path.{◌≡◌, refl, sym, ap, ◌∙◌}
use Prim.Native.Nat.{ℕ, suc, ◌+◌, ◌-◌, ◌*◌, ◌/◌, ◌≤◌, ◌<◌, min}
use native.Mathlib.Decide.{dec_lt}
use native.Mathlib.Omega.{arith}
use lib.Dec.{leb}
use lib.ListN.{length, take, set, length-append}
use lib.Seq.{take-nil}
use borrow.Author.Tests.{le-ltb, leb-true}
use borrow.Rule.Slice.PartMut.{put_mid}
use Rattle.cells.specs.Part.{put}
use Rattle.cells.specs.PartLaws.{length-put, take_put, put-nil, part_none, part-put_same, part-put-before, part-put-after, part-set-before, loan-put}
use Rattle.maps.specs.BoolLaws.{and-false}
use Rattle.maps.specs.Lists.{front}
use Rattle.maps.specs.Maps.{Map}
use Rattle.maps.specs.OrderLaws.{split}
use Rattle.pipe_log.specs.Rows.{window, with_index}
use Rattle.rules.specs.Causes.{ByCause, Err, Result, Ok, and_then}
use Rattle.rules.specs.Items.{EntryIndex}
use Rattle.rules.specs.Table.{Held, Table, with_entries, entries_from, over, over_gap, appended, replayed_rewrite}
use Rattle.memtable.specs.declared.Head.{Head}
use Rattle.memtable.specs.Appends.{Lent, fitting, Laying}
use Rattle.memtable.specs.Rewrites.{moved, replaced_part, Rewriting}
use Rattle.memtable.specs.Views.{table_of}
use Rattle.memtable.specs.Views as memtable
use Rattle.memtable.specs.WindowLaws.{length-window, below-window, from-window, is_below_first-window, is_above_last-window}
use Rattle.stretch.specs.Stretch.{head_part, head_numbers, entry_rows_at, key_rows_at, NumbersAt}
use Rattle.stretch.specs.StretchLaws.{length-entries, length-keys, length-head, keys-after}
use Rattle.stretch.specs.Changes.{laid_numbers}
use Rattle.stretch.specs.Reach.{kept_before, LeavesRows, LeavesAt}

-- ---- rows laid over

-- a rule that keeps the entries before rows that start among them or right behind them
abbrev pub Keeps : (Table → Result Table) → Head → List ℕ → ℕ → List ℕ → Type 0
Keeps by h xs s rows =
    (keys : Map (List ℕ) Held) (counted : Bool) → h.first_index < s → s ≤ h.first_index + h.len → 0 < length rows / 8
    → by (table_of h xs keys counted) ≡ Ok (with_entries (window h.first_index (s - h.first_index) xs ++ window s (length rows / 8) rows) (table_of h xs keys counted))

module _ (h : Head) (xs : List ℕ) (s m : ℕ) (rows : List ℕ) (keys : Map (List ℕ) Held) (counted : Bool) (a : h.first_index < s) (b : s ≤ h.first_index + h.len) where
  within : min (s - h.first_index) h.len ≡ s - h.first_index
  within = omega arith

  kept_append : (live : Bool) → appended live (window s (suc m) rows) (table_of h xs keys counted)
      ≡ Ok (with_entries (window h.first_index (s - h.first_index) xs ++ window s (suc m) rows) (table_of h xs keys counted))
  unfolding appended with_entries table_of window with_index over
  kept_append live =
      rw (
        is_below_first-window s h.first_index h.len xs (omega arith),
        le-ltb s h.first_index (omega arith),
        and-false live,
        is_above_last-window s h.first_index h.len xs (omega arith),
        le-ltb (h.first_index + h.len) s b,
        below-window s h.first_index h.len xs,
        within,
      )

  kept-replay : replayed_rewrite (window s (suc m) rows) (table_of h xs keys counted)
      ≡ with_entries (window h.first_index (s - h.first_index) xs ++ window s (suc m) rows) (table_of h xs keys counted)
  unfolding replayed_rewrite with_entries table_of window with_index over over_gap
  kept-replay =
      rw (
        is_above_last-window s h.first_index h.len xs (omega arith),
        le-ltb (h.first_index + h.len) s b,
        below-window s h.first_index h.len xs,
        within,
      )

pub append-keeps : (live : Bool) (h : Head) (xs : List ℕ) (s : ℕ) (rows : List ℕ) → Keeps (appended live (window s (length rows / 8) rows)) h xs s rows
append-keeps live h xs s rows keys counted a b n =
    let e : length rows / 8 ≡ suc (length rows / 8 - 1) = omega arith in
    rw e (kept_append h xs s (length rows / 8 - 1) rows keys counted a b live)

pub replay-keeps : (h : Head) (xs : List ℕ) (s : ℕ) (rows : List ℕ) → Keeps (λ t. Ok (replayed_rewrite (window s (length rows / 8) rows) t)) h xs s rows
replay-keeps h xs s rows keys counted a b n =
    let e : length rows / 8 ≡ suc (length rows / 8 - 1) = omega arith in
    rw e (ap Ok (kept-replay h xs s (length rows / 8 - 1) rows keys counted a b))

-- the table that was accepted within the room
accepted_len : (room : ℕ) (t u : Table) → Ok t ≡ fitting room (Ok u) → length t.entries ≡ length u.entries
unfolding fitting and_then
accepted_len room t u e =
    split (leb (length u.entries) room)
    (λ f. let d : t ≡ u = (let g : Ok t ≡ Ok u = rw f at e in cc) in ap (λ (x : Table). length x.entries) d)
    (λ f. let z : ◌≡◌ {A = ℕ} 0 1 = (let g = rw f at e in cc) in absurd (omega arith))

module _ (by : Table → Result Table) (h : Head) (xs : List ℕ) (s : ℕ) (rows ys : List ℕ) (w : memtable.Wf h xs) (whole : length rows / 8 * 8 ≡ length rows) (keeps : Keeps by h xs s rows) where
  -- the rows stand behind the entries that stay
  laid-length : (g : Head) → Laying by h xs rows (Ok g) ys → h.first_index < s → s ≤ h.first_index + h.len → 0 < length rows / 8 → g.len ≡ s - h.first_index + length rows / 8
  unfolding table_of with_entries
  laid-length g t a b n =
      let e = t.rule [] true ∙ ap (fitting (length xs / 8)) (keeps [] true a b n) in
      sym (length-window g.first_index g.len ys)
      ∙ accepted_len (length xs / 8) (table_of g ys [] true) _ e
      ∙ length-append (window h.first_index (s - h.first_index) xs) (window s (length rows / 8) rows)
      ∙ rw (length-window h.first_index (s - h.first_index) xs, length-window s (length rows / 8) rows)

  no_rows : (l : List ℕ) → length l ≡ 0 → l ≡ []
  no_rows [] e = refl
  no_rows (x ∷ l) e = absurd (omega arith)

  done_below : (g : Head) → Laying by h xs rows (Ok g) ys → s ≤ h.first_index + h.len → take ((s - h.first_index) * 8) ys ≡ take ((s - h.first_index) * 8) xs
  done_below g t b =
      elim (dec_lt h.first_index s) [
        | yes a ↦
            elim (dec_lt 0 (length rows / 8)) [
              | yes n ↦
                  let e = laid-length g t a b n in
                  let z : g.len * 8 - length rows ≡ (s - h.first_index) * 8 = omega arith in
                  rw (t.laid, z) (take_put ((s - h.first_index) * 8) xs ((s - h.first_index) * 8) rows (omega arith) (omega (arith, w.room)))
              | no n ↦ rw (t.laid, no_rows rows (omega arith), put-nil xs)
            ]
        | no a ↦ (let z : (s - h.first_index) * 8 ≡ 0 = omega arith in rw z)
      ]

  pub laid_below : (a : ByCause Head) → Laying by h xs rows a ys → take (kept_before h s * 8) ys ≡ take (kept_before h s * 8) xs
  unfolding kept_before
  laid_below (Ok g) t =
      split (leb s (h.first_index + h.len))
      (λ e. rw e (done_below g t (leb-true s (h.first_index + h.len) e)))
      (λ e. rw e)
  laid_below (Err e) t = rw t.laid

-- ---- entries rewritten

-- no entries from s on, none of them moved
moved_none : (gate : Option ℕ) (rs : List EntryIndex) → moved gate [] rs ≡ 0
unfolding moved front
moved_none gate rs = rw (take-nil (length rs))

none_from : (h : Head) (xs : List ℕ) (s : ℕ) → h.len ≤ s - h.first_index → entries_from s (window h.first_index h.len xs) ≡ []
unfolding window
none_from h xs s l =
    let z : h.len - min (s - h.first_index) h.len ≡ 0 = omega arith in from-window s h.first_index h.len xs ∙ rw z

module _ (gate : Option ℕ) (h : Head) (xs : List ℕ) (s : ℕ) (rows ys : List ℕ) (w : memtable.Wf h xs) where
  replaced_below : take ((s - h.first_index) * 8) (replaced_part gate h xs s rows) ≡ take ((s - h.first_index) * 8) xs
  unfolding replaced_part
  replaced_below =
      elim (dec_lt (s - h.first_index) h.len) [
        | yes l ↦ take_put ((s - h.first_index) * 8) xs ((s - h.first_index) * 8) _ (omega arith) (omega (arith, w.room))
        | no l ↦ rw (none_from h xs s (omega arith), moved_none gate (entries_from h.first_index (window s (length rows / 8) rows)), part_none ((h.first_index - s) * 8) rows, put-nil xs ((s - h.first_index) * 8))
      ]

  pub moved_below : (a : ByCause Head) → Rewriting gate h xs s rows a ys → take ((s - h.first_index) * 8) ys ≡ take ((s - h.first_index) * 8) xs
  moved_below (Ok g) t = rw t.laid replaced_below
  moved_below (Err e) t = rw t.laid

-- ---- the stretch after the loan of its rows of entries

module _ (w : ℕ) (p ys : List ℕ) (f : 10 ≤ w) (t : w ≤ length p) (k : length ys ≡ length (entry_rows_at w p)) where
  loan-length : length ys ≡ w - 10
  loan-length = k ∙ length-entries w p f t

  loan-is : put_mid 10 (w - 10) p ys ≡ put p 10 ys
  loan-is = loan-put 10 (w - 10) p ys loan-length

  loan_all : length (put_mid 10 (w - 10) p ys) ≡ length p
  loan_all = let n = loan-length in rw loan-is (length-put p 10 ys (omega arith))

  loan-rows : entry_rows_at w (put_mid 10 (w - 10) p ys) ≡ ys
  unfolding entry_rows_at
  loan-rows = let n = loan-length in rw loan-is (part-put_same (w - 10) p 10 ys n (omega arith))

  loan-keys : key_rows_at w (put_mid 10 (w - 10) p ys) ≡ key_rows_at w p
  loan-keys = let n = loan-length in rw loan-is (keys-after w p 10 ys (omega arith) t)

-- a head is written in front of the rows
module _ (w : ℕ) (q : List ℕ) (g : Head) (f : 10 ≤ w) (t : w ≤ length q) where
  head_rows : entry_rows_at w (put q 2 (head_numbers g)) ≡ entry_rows_at w q
  unfolding entry_rows_at
  head_rows = let n = length-head g in part-put-after 10 (w - 10) q 2 (head_numbers g) (omega arith) (omega arith)

  head-keys : key_rows_at w (put q 2 (head_numbers g)) ≡ key_rows_at w q
  head-keys = let n = length-head g in keys-after w q 2 (head_numbers g) (omega arith) t

module _ (w n : ℕ) (p ys : List ℕ) (f : 10 ≤ w) (t : w ≤ length p) (k : length ys ≡ length (entry_rows_at w p)) (e : take (n * 8) ys ≡ take (n * 8) (entry_rows_at w p)) where
  leaves-loan : LeavesRows w n p (put_mid 10 (w - 10) p ys)
  leaves-loan = record { rows = rw (loan-rows w p ys f t k) e; keys = loan-keys w p ys f t k }

  leaves-head : (g : Head) → LeavesRows w n p (put (put_mid 10 (w - 10) p ys) 2 (head_numbers g))
  leaves-head g =
      let m : w ≤ length (put_mid 10 (w - 10) p ys) = omega (arith, loan_all w p ys f t k) in
      record {
        rows = rw (head_rows w (put_mid 10 (w - 10) p ys) g f m, loan-rows w p ys f t k) e;
        keys = head-keys w (put_mid 10 (w - 10) p ys) g f m ∙ loan-keys w p ys f t k;
      }

  leaves-laid : (a : ByCause Head) → LeavesRows w n p (laid_numbers a (put_mid 10 (w - 10) p ys))
  leaves-laid (Ok g) = leaves-head g
  leaves-laid (Err e) = leaves-loan

  leaves-moved : (a : ByCause Head) → LeavesRows w n p (laid_numbers a (put_mid 10 (w - 10) p ys))
  leaves-moved (Ok g) = leaves-head g
  leaves-moved (Err e) = leaves-loan

-- ---- each way

module _ (w : ℕ) (p ys : List ℕ) (o : NumbersAt w p) (k : length ys ≡ length (entry_rows_at w p)) (p' : List ℕ) where
  pub laying-leaves : (by : Table → Result Table) (q s : ℕ) (rows : List ℕ) → Lent q s rows → Keeps by (head_part p) (entry_rows_at w p) s rows → (a : ByCause Head) → Laying by (head_part p) (entry_rows_at w p) rows a ys
      → p' ≡ laid_numbers a (put_mid 10 (w - 10) p ys) → LeavesRows w (kept_before (head_part p) s) p p'
  laying-leaves by q s rows l f a t e =
      rw e
      (leaves-laid w (kept_before (head_part p) s) p ys o.from o.to k
      (laid_below by (head_part p) (entry_rows_at w p) s rows ys o.entries l.whole f a t) a)

  pub moving-leaves : (gate : Option ℕ) (s : ℕ) (rows : List ℕ) (a : ByCause Head) → Rewriting gate (head_part p) (entry_rows_at w p) s rows a ys
      → p' ≡ laid_numbers a (put_mid 10 (w - 10) p ys) → LeavesRows w (s - (head_part p).first_index) p p'
  moving-leaves gate s rows a t e =
      rw e
      (leaves-moved w (s - (head_part p).first_index) p ys o.from o.to k
      (moved_below gate (head_part p) (entry_rows_at w p) s rows ys o.entries a t) a)

  pub compacting-leaves : (g : Head) → p' ≡ put (put_mid 10 (w - 10) p ys) 2 (head_numbers g) → LeavesRows w 0 p p'
  compacting-leaves g e = rw e (leaves-head w 0 p ys o.from o.to k refl g)

-- ---- the stretch after the loan of its rows of keys

count-rows : (w : ℕ) (q : List ℕ) (m : ℕ) → entry_rows_at w (set q 8 m) ≡ entry_rows_at w q
unfolding entry_rows_at
count-rows w q m = part-set-before 10 (w - 10) q 8 m (omega arith)

module _ (w : ℕ) (p rows : List ℕ) (o : NumbersAt w p) (k : length rows ≡ length (key_rows_at w p)) where
  pub lent-keys-leave : entry_rows_at w (put_mid w (length p - w) p rows) ≡ entry_rows_at w p
  unfolding entry_rows_at
  lent-keys-leave =
      let f = o.from in
      let t = o.to in
      rw (loan-put w (length p - w) p rows (k ∙ length-keys w p t)) (part-put-before 10 (w - 10) p w rows (omega arith) t)

  pub counted-keys-leave : (m : ℕ) → entry_rows_at w (set (put_mid w (length p - w) p rows) 8 m) ≡ entry_rows_at w p
  counted-keys-leave m = count-rows w (put_mid w (length p - w) p rows) m ∙ lent-keys-leave

-- ---- as a change says it

pub all_left : (w n : ℕ) (written : Bool) (p b : List ℕ) → LeavesAt w n written p b p b
all_left w n written p b = record { rows = refl; keys = λ e. (refl, refl) }
