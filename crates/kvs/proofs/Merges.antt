-- The newer keys counted and put one after the other. Assumes nothing.
use Rattle.kvs.specs.Places.{Sought}
use Rattle.rules.specs.Causes.{Cause, LimitPassed, ByCause, Ok, Err}
use Prim.Native.Nat.{ℕ, suc, ◌+◌, ◌*◌, ◌≤◌, ◌<◌}
use native.Mathlib.Numerals.{add-one}
use native.Mathlib.Nat.{add-zero}
use native.Mathlib.Omega.{arith}
use mathlib.Core.Bool.{true, false, cond}
use mathlib.Core.Path.{◌≡◌, refl, sym, ap, ◌∙◌}
use mathlib.Core.List.{List, [], ◌∷◌}
use Rattle.std.specs.Prelude.{Option, None, Some}
use lib.Dec.{leb}
use lib.ListN.{length, drop, drop_of_length-le}
use borrow.Author.Tests.{leb-true}
use Rattle.maps.specs.Lists.{select, or_else}
use Rattle.maps.specs.Maps.{Map, lookup, insert, merge_with, bytes}
use Rattle.maps.specs.OrderLaws.{split, and_both, bytes_lawful, above-differs}
use Rattle.maps.specs.MapLaws.{Ascending, AllBelow, ascending-head, ascending-tail, ascending-insert, lookup-insert-other, length-insert-none, length-insert-some, length-older}
use Rattle.rules.specs.Table.{Held, over_keys}
use Rattle.kvs.specs.Rows.{keys_in, Wf, fits}
use Rattle.kvs.specs.RowLaws.{length-keys}
use Rattle.kvs.specs.Places.{place_of, pair_at}
use Rattle.kvs.specs.PlaceLaws.{pairs_from}
use Rattle.kvs.specs.Calls.{Holds, room_for, Stands, put_rows, put_bytes, PutKey}
use Rattle.kvs.specs.Merge.{put_pair, put_all, parts, is_absent, missing, LaidOver, merged_parts, MergeKeys}
use Rattle.kvs.proofs.Puts.{fits_if}
use Rattle.kvs.proofs.Found.{found_in, absent_in}
use Rattle.kvs.proofs.Selected.{selected, selected_all, selected_none, count_more}

-- ---- one key

module _ (older : Map (List ℕ) Held) (k : List ℕ) (a : Ascending bytes older) (i : ℕ) where
  pub absent : place_of k older ≡ Err i → is_absent k older ≡ true
  unfolding is_absent or_else
  absent e = rw (absent_in older k a i e)

  pub present : place_of k older ≡ Ok i → is_absent k older ≡ false
  unfolding is_absent or_else
  present e = rw (found_in older k a i e)

-- ---- the count

-- the newer keys that the map lacks, from place j on
module _ (older newer : Map (List ℕ) Held) where
  pub lacks : ℕ → ℕ
  lacks j = length (selected (λ x. is_absent x.key older) newer j)

  lacks_all : lacks 0 ≡ missing older newer
  unfolding lacks missing
  lacks_all = ap length (selected_all (λ x. is_absent x.key older) newer)

  pub lacks_none : (j : ℕ) → length newer ≤ j → lacks j ≡ 0
  unfolding lacks
  lacks_none j h = ap length (selected_none (λ x. is_absent x.key older) newer j h)

  pub lacks_more : (j : ℕ) → j < length newer → lacks j ≡ cond (is_absent (pair_at j newer).key older) 1 0 + lacks (j + 1)
  unfolding lacks
  lacks_more j h = count_more (λ x. is_absent x.key older) newer j h

-- putting a key leaves those above it absent or present
still : (k : List ℕ) (h : Held) (older m : Map (List ℕ) Held) → AllBelow bytes k m → select (λ x. is_absent x.key (insert bytes k h older)) m ≡ select (λ x. is_absent x.key older) m
unfolding select AllBelow is_absent
still k h older [] a = refl
still k h older (x ∷ xs) a =
    rw (lookup-insert-other bytes bytes_lawful x.key k h older (above-differs bytes bytes_lawful k x.key a.0), still k h older xs a.1)

length-put : (k : List ℕ) (h : Held) (older : Map (List ℕ) Held) → Ascending bytes older → length (insert bytes k h older) ≡ length older + cond (is_absent k older) 1 0
unfolding is_absent or_else
length-put k h older a = by (lookup bytes k older) refl
  where
    by : (o : Option Held) → lookup bytes k older ≡ o → length (insert bytes k h older) ≡ length older + cond (or_else true (λ (h : Held). false) o) 1 0
    by None e = length-insert-none bytes bytes_lawful k h older e ∙ omega arith
    by (Some b) e = length-insert-some bytes bytes_lawful k h b older e a ∙ omega arith

length-missing : (older newer : Map (List ℕ) Held) → Ascending bytes older → Ascending bytes newer → length (over_keys older newer) ≡ length older + missing older newer
unfolding over_keys merge_with missing select
length-missing older [] a b = sym (add-zero (length older))
length-missing older (x ∷ xs) a b =
    let k = x.key in
    let rest = length-missing (insert bytes k x.val older) xs (ascending-insert bytes bytes_lawful k x.val older a) (ascending-tail bytes x xs b) in
    let l = length-put k x.val older a in
    rest ∙ rw (still k x.val older xs (ascending-head bytes x xs b), l)
    (split (is_absent k older) (λ e. rw e (omega arith)) (λ e. rw e (omega arith)))

pub length_over : (older newer : Map (List ℕ) Held) → Ascending bytes older → Ascending bytes newer → length (over_keys older newer) ≡ length older + lacks older newer 0
length_over older newer a b = rw lacks_all (length-missing older newer a b)

-- ---- the turns

fits-less : (a b : ℕ) (rows bs : List ℕ) → a ≤ b → fits b rows bs ≡ true → fits a rows bs ≡ true
unfolding fits
fits-less a b rows bs l e =
    and_both (leb (b * 4) (length rows)) (leb (b * 64) (length bs)) e
    (λ p q. fits_if a rows bs (omega (arith, leb-true (b * 4) (length rows) p)) (omega (arith, leb-true (b * 64) (length bs) q)))

pub fits_same : (a : ℕ) (rows bs rows' bs' : List ℕ) → length rows ≡ length rows' → length bs ≡ length bs' → fits a rows bs ≡ fits a rows' bs'
unfolding fits
fits_same a rows bs rows' bs' p q = rw (p, q)

any-rows : (a : ℕ) (p : Sought) (n : ℕ) (k : List ℕ) (h : Held) (rows : List ℕ) → put_rows (Ok a) p n k h rows ≡ put_rows (Ok 0) p n k h rows
unfolding put_rows
any-rows a (Ok i) n k h rows = refl
any-rows a (Err i) n k h rows = refl

any-bytes : (a : ℕ) (p : Sought) (n : ℕ) (k : List ℕ) (h : Held) (bs : List ℕ) → put_bytes (Ok a) p n k h bs ≡ put_bytes (Ok 0) p n k h bs
unfolding put_bytes
any-bytes a (Ok i) n k h bs = refl
any-bytes a (Err i) n k h bs = refl

-- what holds after j of the newer keys were put: the rest laid over gives the whole
pub record Laying (n : ℕ) (rows bs : List ℕ) (newer : Map (List ℕ) Held) (j count : ℕ) (rows' bs' : List ℕ) : Type 0 where
  pub wf : Wf count rows' bs'
  pub keys : over_keys (keys_in count rows' bs') (drop j newer) ≡ over_keys (keys_in n rows bs) newer
  pub parts_are : put_all (drop j newer) (parts count rows' bs') ≡ put_all newer (parts n rows bs)

pub laying_none : (n : ℕ) (rows bs : List ℕ) (newer : Map (List ℕ) Held) → Wf n rows bs → Laying n rows bs newer 0 n rows bs
laying_none n rows bs newer w = record { wf = w; keys = refl; parts_are = refl }

pub laying_all : (n : ℕ) (rows bs : List ℕ) (newer : Map (List ℕ) Held) (j count : ℕ) (rows' bs' : List ℕ) → length newer ≤ j → Laying n rows bs newer j count rows' bs' → LaidOver n rows bs newer count rows' bs'
unfolding over_keys merge_with put_all
laying_all n rows bs newer j count rows' bs' l h =
    let e : drop j newer ≡ [] = drop_of_length-le newer l in
    record { parts_are = rw e at h.parts_are; holds = record { wf = h.wf; is = rw e at h.keys } }

module _ (n : ℕ) (rows bs : List ℕ) (newer : Map (List ℕ) Held) (j : ℕ) (b : j < length newer) (count : ℕ) (rows' bs' : List ℕ) (h : Laying n rows bs newer j count rows' bs') where
  -- the map that the turn makes
  next : Map (List ℕ) Held
  next = insert bytes (pair_at j newer).key (pair_at j newer).val (keys_in count rows' bs')

  over-next : over_keys next (drop (suc j) newer) ≡ over_keys (keys_in n rows bs) newer
  unfolding over_keys merge_with next
  over-next = rw (pairs_from j newer b) at h.keys

  module _ (f : fits (length (over_keys (keys_in n rows bs) newer)) rows bs ≡ true) (p : length rows' ≡ length rows) (q : length bs' ≡ length bs) where
    next_fits : fits (length next) rows' bs' ≡ true
    unfolding over_keys
    next_fits =
        rw (fits_same (length next) rows' bs' rows bs p q)
        (fits-less (length next) (length (over_keys (keys_in n rows bs) newer)) rows bs
        (rw over-next at (length-older bytes bytes_lawful (λ o a. a) next (drop (suc j) newer)))
        f)

    module _ (r : ByCause ℕ) (rows'' bs'' : List ℕ) (put : PutKey count rows' bs' (pair_at j newer).key (pair_at j newer).val r rows'' bs'') where
      answer : r ≡ Ok (length next)
      unfolding room_for next
      answer = put.answer ∙ rw next_fits

      -- there is room for every turn
      pub never_full : (e : Cause) → r ≡ Err e → ⊥
      never_full x e = let z : ◌≡◌ {A = ByCause ℕ} (Err x) (Ok (length next)) = sym e ∙ answer in let y : ◌≡◌ {A = ℕ} 0 1 = cc in omega arith

      pub laying_more : (k : ℕ) → r ≡ Ok k → Laying n rows bs newer (j + 1) k rows'' bs''
      unfolding Stands put_all put_pair next
      laying_more k e =
          let x = pair_at j newer in
          let d : Ok k ≡ Ok (length next) = sym e ∙ answer in
          let l : k ≡ length next = cc in
          let holds : Holds k rows'' bs'' next = rw e at put.stands in
          let place = place_of x.key (keys_in count rows' bs') in
          let rs : rows'' ≡ put_rows (Ok 0) place count x.key x.val rows' =
          rw e at put.rows_are ∙ any-rows k place count x.key x.val rows' in
          let ys : bs'' ≡ put_bytes (Ok 0) place count x.key x.val bs' =
          rw e at put.bytes-are ∙ any-bytes k place count x.key x.val bs' in
          let same : parts k rows'' bs'' ≡ put_pair x (parts count rows' bs') = λ i. record { count = l i; rows = rs i; bytes = ys i } in
          record {
            wf = holds.wf;
            keys = rw (add-one j, holds.is) over-next;
            parts_are = rw (add-one j, same) (rw (pairs_from j newer b) at h.parts_are);
          }

-- ---- `merge_keys`

module _ (n : ℕ) (rows bs : List ℕ) (newer : Map (List ℕ) Held) (all : ℕ) (e : all ≡ length (over_keys (keys_in n rows bs) newer)) where
  pub merge-full : fits all rows bs ≡ false → MergeKeys n rows bs newer (Err LimitPassed) rows bs
  unfolding room_for merged_parts Stands
  merge-full f = record { answer = rw (← e, f); rows_are = refl; bytes-are = refl; stands = tt }

  pub merge-done : fits all rows bs ≡ true → (r : ℕ) (rows' bs' : List ℕ) → LaidOver n rows bs newer r rows' bs' → MergeKeys n rows bs newer (Ok r) rows' bs'
  unfolding room_for merged_parts Stands
  merge-done f r rows' bs' h =
      let l : r ≡ all = sym (length-keys r rows' bs') ∙ ap length h.holds.is ∙ sym e in
      record {
        answer = rw (← e, f) (ap Ok l);
        rows_are = ap (λ p. p.rows) h.parts_are;
        bytes-are = ap (λ p. p.bytes) h.parts_are;
        stands = h.holds;
      }
