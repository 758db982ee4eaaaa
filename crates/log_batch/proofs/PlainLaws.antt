-- A list that one pass finds plain meets none of 3 to 6. Assumes nothing.
use mathlib.Core.Bool.{true, false, ◌&&◌}
use mathlib.Core.Path.{◌≡◌, refl}
use mathlib.Core.List.{List, [], ◌∷◌}
use Rattle.std.specs.Prelude.{None}
use Prim.Native.Nat.{ℕ, zero, suc, ◌+◌, ◌-◌, ◌*◌, ◌≤◌, ◌<◌, ◌^◌}
use native.Mathlib.Omega.{arith}
use lib.Dec.{eqb, leb, ltb}
use lib.ListN.{get_or, drop}
use lib.Seq.{drop-drop}
use borrow.Author.Tests.{eqb-true, ltb-true, leb-true, lt-ltb, le-ltb, eq-eqb}
use Rattle.cells.specs.Part.{part}
use Rattle.maps.specs.BoolLaws.{clash, and-false, both_left, both_right}
use Rattle.maps.specs.Lists.{any}
use Rattle.pipe_log.specs.declared.EntryIndex.{EntryIndex}
use Rattle.pipe_log.specs.Numbers.{queue_number}
use Rattle.pipe_log.specs.Rows.{is_record, entry_of, entries_of, queue_at}
use Rattle.rules.specs.Items.{LogQueue, Append, Rewrite, same_queue, Call, writes, entries, is_tombstone}
use Rattle.rules.specs.Checks.{consecutive, is_incomplete, is_out_of_range, is_other_queue, is_not_rewritable}
use Rattle.log_batch.specs.declared.entries.EntryTest.{TheVariants.WithoutFile, TheVariants.OutOfRange, TheVariants.OtherQueue}
use Rattle.log_batch.specs.declared.item.LogItemContent as content
use Rattle.log_batch.specs.Lent.{content_of}
use Rattle.log_batch.specs.Judged.{entry_meets, least_content}
use Rattle.log_batch.specs.Plain.{plain_row, plain_rows, plain_list, plain_content}
use Rattle.log_batch.proofs.RowLaws.{has-file, record-queue}

queue-small : (q : LogQueue) → queue_number q < 2
queue-small Append = omega arith
queue-small Rewrite = omega arith

queue_same : (q : LogQueue) → same_queue (queue_at (queue_number q)) q ≡ true
unfolding same_queue queue_at
queue_same Append = refl
queue_same Rewrite = refl

-- what a plain row's numbers are
record Numbers (q i : ℕ) (xs : List ℕ) : Type 0 where
  index : get_or xs 0 0 ≡ i
  queue : get_or xs 1 0 ≡ q
  compression : get_or xs 5 0 < 2
  len : get_or xs 7 0 ≤ 2 ^ 25
  offset : get_or xs 6 0 < 2 ^ 32

numbers : (q i : ℕ) (xs : List ℕ) → plain_row q i xs ≡ true → Numbers q i xs
unfolding plain_row
numbers q i xs e =
    let t₆ = ltb (get_or xs 6 0) (2 ^ 32) in
    let t₇ = leb (get_or xs 7 0) (2 ^ 25) in
    let t₅ = ltb (get_or xs 5 0) 2 in
    let t₁ = eqb (get_or xs 1 0) q in
    let t₀ = eqb (get_or xs 0 0) i in
    let e₁ = both_right t₀ (t₁ && (t₅ && (t₇ && t₆))) e in
    let e₅ = both_right t₁ (t₅ && (t₇ && t₆)) e₁ in
    let e₇ = both_right t₅ (t₇ && t₆) e₅ in
    record {
      index = eqb-true (get_or xs 0 0) i (both_left t₀ (t₁ && (t₅ && (t₇ && t₆))) e);
      queue = eqb-true (get_or xs 1 0) q (both_left t₁ (t₅ && (t₇ && t₆)) e₁);
      compression = ltb-true (get_or xs 5 0) 2 (both_left t₅ (t₇ && t₆) e₅);
      len = leb-true (get_or xs 7 0) (2 ^ 25) (both_left t₇ t₆ e₇);
      offset = ltb-true (get_or xs 6 0) (2 ^ 32) (both_right t₇ t₆ e₇);
    }

module _ (q : LogQueue) where
  -- a plain row's entry meets no test of one entry
  module _ (i : ℕ) (xs : List ℕ) (n : Numbers (queue_number q) i xs) (b : i < 2 ^ 63) where
    is_record_lem : is_record xs ≡ true
    unfolding is_record
    is_record_lem =
        rw (
          lt-ltb (get_or xs 1 0) 2 (omega (arith, n.queue, queue-small q)),
          lt-ltb (get_or xs 5 0) 2 n.compression,
          lt-ltb (get_or xs 6 0) (2 ^ 32) n.offset,
        )

    has_one : entry_meets WithoutFile (entry_of xs) ≡ false
    unfolding entry_meets
    has_one = rw (has-file xs, is_record_lem)

    in-range : entry_meets OutOfRange (entry_of xs) ≡ false
    unfolding entry_meets entry_of
    in-range = rw (le-ltb (2 ^ 63 - 1) (get_or xs 0 0) (omega (arith, n.index)), le-ltb (2 ^ 25) (get_or xs 7 0) n.len)

    of-queue : entry_meets (OtherQueue q) (entry_of xs) ≡ false
    unfolding entry_meets
    of-queue = rw (has-file xs, is_record_lem, record-queue xs is_record_lem, n.queue, queue_same q)

  -- none of the tests of a list is met
  pub record Unmet (es : List EntryIndex) : Type 0 where
    pub filed : any (entry_meets WithoutFile) es ≡ false
    pub order : consecutive es ≡ true
    pub range : any (entry_meets OutOfRange) es ≡ false
    pub queue : any (entry_meets (OtherQueue q)) es ≡ false

  -- one plain row before such a list
  more : (i : ℕ) (xs : List ℕ) (es : List EntryIndex) → Numbers (queue_number q) i xs → i < 2 ^ 63 → consecutive (entry_of xs ∷ es) ≡ true → Unmet es → Unmet (entry_of xs ∷ es)
  unfolding any
  more i xs es n b o u =
      record {
        filed = rw (has_one i xs n b) u.filed;
        order = o;
        range = rw (in-range i xs n b) u.range;
        queue = rw (of-queue i xs n b) u.queue;
      }

  follow : (i : ℕ) (xs ys : List ℕ) (es : List EntryIndex) → get_or xs 0 0 ≡ i → get_or ys 0 0 ≡ suc i → consecutive (entry_of ys ∷ es) ≡ true → consecutive (entry_of xs ∷ (entry_of ys ∷ es)) ≡ true
  unfolding consecutive entry_of
  follow i xs ys es p r o = rw (eq-eqb (get_or ys 0 0) (suc (get_or xs 0 0)) (omega arith)) o

  one : (e : EntryIndex) → consecutive (e ∷ []) ≡ true
  unfolding consecutive
  one e = refl

  empty : Unmet []
  unfolding any consecutive
  empty = record { filed = refl; order = refl; range = refl; queue = refl }

  plain_unmet : (n i : ℕ) (xs : List ℕ) → plain_rows (queue_number q) i n xs ≡ true → i + n ≤ 2 ^ 63 → Unmet (entries_of n xs)
  unfolding plain_rows entries_of
  plain_unmet zero i xs e b = empty
  plain_unmet (suc zero) i xs e b = more i xs [] (numbers (queue_number q) i xs (both_left (plain_row (queue_number q) i xs) true e)) (omega arith) (one (entry_of xs)) empty
  plain_unmet (suc (suc n)) i xs e b =
      let here = plain_row (queue_number q) i xs in
      let next = plain_row (queue_number q) (suc i) (drop 8 xs) in
      let behind = plain_rows (queue_number q) (suc (suc i)) n (drop 8 (drop 8 xs)) in
      let d = both_right here (next && behind) e in
      let first = numbers (queue_number q) i xs (both_left here (next && behind) e) in
      let second = numbers (queue_number q) (suc i) (drop 8 xs) (both_left next behind d) in
      let rest = plain_unmet (suc n) (suc i) (drop 8 xs) d (omega arith) in
      more i xs (entries_of (suc n) (drop 8 xs)) first (omega arith)
      (follow i xs (drop 8 xs) (entries_of n (drop 8 (drop 8 xs))) first.index second.index rest.order)
      rest

-- such a list meets none of 3 to 6
list-least : (call : Call) (es : List EntryIndex) → Unmet (writes call) es → least_content call (entries es) ≡ None
unfolding least_content is_incomplete is_out_of_range is_other_queue is_not_rewritable is_tombstone entry_meets
list-least call es u = rw (u.filed, u.order, u.range, u.queue, and-false)

pub plain-least : (call : Call) (c : content.LogItemContent) (es bs : List ℕ) → plain_content (writes call) c es ≡ true → least_content call (content_of c es bs) ≡ None
unfolding plain_content plain_list content_of
plain-least call (content.TheVariants.EntryIndexes e) es bs p =
    let xs = part (e.at * 8) (e.count * 8) es in
    let fits = leb (get_or xs 0 0 + e.count) (2 ^ 63) in
    let rows = plain_rows (queue_number (writes call)) (get_or xs 0 0) e.count xs in
    let r = both_right (ltb 0 e.count) (fits && rows) p in
    list-least call (entries_of e.count xs)
    (plain_unmet (writes call) e.count (get_or xs 0 0) xs (both_right fits rows r) (leb-true (get_or xs 0 0 + e.count) (2 ^ 63) (both_left fits rows r)))
plain-least call (content.TheVariants.Command c) es bs p = absurd (clash p)
plain-least call (content.TheVariants.Kv k) es bs p = absurd (clash p)

-- ---- the turns of the pass

module _ (q f n i : ℕ) (xs : List ℕ) where
  pub plain_end : n ≤ i → plain_rows q (f + i) (n - i) (drop (i * 8) xs) ≡ true
  unfolding plain_rows
  plain_end h = let e : n - i ≡ 0 = omega arith in rw e

  pub plain_more : i < n → plain_rows q (f + i) (n - i) (drop (i * 8) xs) ≡ (plain_row q (f + i) (drop (i * 8) xs) && plain_rows q (f + (i + 1)) (n - (i + 1)) (drop ((i + 1) * 8) xs))
  unfolding plain_rows
  plain_more h =
      let e : n - i ≡ suc (n - (i + 1)) = omega arith in
      let s : (i + 1) * 8 ≡ i * 8 + 8 = omega arith in
      let g : suc (f + i) ≡ f + (i + 1) = omega arith in
      rw (e, s, drop-drop 8 (i * 8) xs, g)
