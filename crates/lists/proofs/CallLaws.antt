-- What the calls write makes the lists that their contracts name. Assumes nothing.
use mathlib.Core.Bool.{true}
use mathlib.Core.Path.{◌≡◌, refl, sym, ap, ◌∙◌}
use mathlib.Core.Logic.{◌≢◌}
use mathlib.Core.List.{List, [], ◌∷◌, ◌++◌}
use Prim.Native.Nat.{ℕ, ◌+◌, ◌-◌, ◌/◌, ◌≤◌, ◌<◌}
use native.Mathlib.Omega.{arith}
use lib.ListN.{length, get_or, set, take, drop, length-set}
use lib.Seq.{get_or-set_same, get_or-set_other, drop-set-lt, length-take-le}
use borrow.Rule.Slice.PartMut.{put_mid}
use borrow.Author.Tests.{lt-ltb}
use Rattle.maps.specs.Lists.{sum}
use Rattle.cells.specs.Part.{part, put}
use Rattle.cells.specs.PartLaws.{length_part, part_none, part-append, part-set-before, length-put, set-put, put-append, get_or-put-before, part-put_same, part-put-before, part-put-after, drop-put, part_of_back, shorter_back, loan-put, loan-front}
use Rattle.pipe_log.specs.Numbers.{queue_number}
use Rattle.rules.specs.Items as rules
use Rattle.rules.specs.Context.{context, fresh, with_tombstones, with_cleaned, entries_in}
use Rattle.rules.specs.Calls.{index_of}
use Rattle.log_batch.specs.declared.item.LogItem.{LogItem}
use Rattle.log_batch.specs.Lent.{item_of, items_from}
use Rattle.stores.specs.declared.Store.{Store}
use Rattle.stores.specs.Written.{count_of}
use Rattle.stores.specs.Stores.{Area, area, store_items, entries_before, Stored, has_room, Added, AddedAll}
use Rattle.stores.specs.StoreLaws.{kept_all, entries-count, length-stored, stored-total, added_none, added_more}
use Rattle.lists.specs.Rest.{kind_of, tombstone_store, tombstone_area, tombstones_in, cleaned_in, rest_of, Wf, cut_to}
use Rattle.lists.specs.Calls.{Behind, Becomes, TombstonesAdded, TombstoneAdded, AllCleanedAdded, CleanedAdded}
use Rattle.lists.proofs.FrontLaws.{store_of, store_is, area-is, tombstones-are, cleaned-are, rest-is, Fronts, places-fit, keeps-fronts}

-- the bytes that are lent to the store of the tombstones
pub bytes_lent : (cs : List ℕ) → length cs ≡ 22528 → 4096 ≡ length (take 4096 cs)
bytes_lent cs e = sym (length-take-le 4096 cs (omega arith))

-- ---- cut

pub cut_is : (ys : List ℕ) (t n : ℕ) → 3 ≤ length ys → set (set ys 1 t) 2 n ≡ cut_to t n ys
unfolding cut_to
cut_is ys t n h =
    rw (set-put ys 1 t (omega arith))
    (set-put (put ys 1 (t ∷ [])) 2 n (rw (length-put ys 1 (t ∷ []) (omega arith)) h)
    ∙ sym (put-append ys 1 (t ∷ []) (n ∷ []) (omega arith)))

-- ---- clear

-- a queue's number stands for a context of it
queue-kind : (q : rules.LogQueue) → kind_of (queue_number q) ≡ context q
unfolding kind_of
queue-kind rules.Append = refl
queue-kind rules.Rewrite = refl

no-tombstones : (a : Area) → store_items (store_of 0) a ≡ []
unfolding store_items items_from
no-tombstones a = refl

none-stored : (ys cs : List ℕ) → length ys ≡ 7855 → length cs ≡ 22528 → Stored (store_of 0) (tombstone_area ys cs)
unfolding entries_before
none-stored ys cs e f =
    record {
      rows = omega arith;
      lists = omega arith;
      places = places-fit ys cs e f;
      each = λ j h. absurd (omega arith);
      total = refl;
    }

module _ (ys cs : List ℕ) (e : length ys ≡ 7855) (f : length cs ≡ 22528) (q : rules.LogQueue) (k : get_or ys 0 0 ≡ queue_number q) (t : get_or ys 1 0 ≡ 0) (n : get_or ys 2 0 ≡ 0) where
  -- lists of no elements are a fresh context's
  fresh-lists : (xs : List ℕ) → drop 643 ys ≡ drop 643 xs → Becomes (fresh q) xs cs ys
  unfolding fresh
  fresh-lists xs b =
      record {
        behind = record { numbers = b; bytes = refl };
        rest =
            rest-is ys cs _ [] [] k (tombstones-are ys cs (store_of 0) (tombstone_area ys cs) (store_is ys 0 t) refl ∙ no-tombstones _) (cleaned-are ys 0 [] n (part_none 3 ys))
            ∙ rw (queue-kind q);
        wf =
            record {
              numbers-are = e;
              bytes-are = f;
              tombstones = rw (store_is ys 0 t) (none-stored ys cs e f);
              cleaned-fit = omega arith;
            };
      }

pub cleared : (ys : List ℕ) (q : rules.LogQueue) (k : ℕ) → length ys ≡ 7855 → k ≡ queue_number q → (cs : List ℕ) → length cs ≡ 22528 → Becomes (fresh q) ys cs (set (set (set ys 0 k) 1 0) 2 0)
cleared ys q k e f cs h =
    let a = set ys 0 k in
    let b = set a 1 0 in
    let la : length a ≡ 7855 = length-set ys 0 k ∙ e in
    let lb : length b ≡ 7855 = length-set a 1 0 ∙ la in
    fresh-lists (set b 2 0) cs (length-set b 2 0 ∙ lb) h q
    (get_or-set_other b 2 0 0 0 (λ z. omega arith) ∙ get_or-set_other a 1 0 0 0 (λ z. omega arith) ∙ get_or-set_same ys 0 k 0 (omega arith) ∙ f)
    (get_or-set_other b 2 1 0 0 (λ z. omega arith) ∙ get_or-set_same a 1 0 0 (omega arith))
    (get_or-set_same b 2 0 0 (omega arith)) ys
    (drop-set-lt 643 b 2 0 (omega arith) ∙ drop-set-lt 643 a 1 0 (omega arith) ∙ drop-set-lt 643 ys 0 k (omega arith))

-- ---- add_cleaned

-- numbers gs are laid in behind the cleaned ones
module _ (ys gs : List ℕ) (e : length ys ≡ 7855) (h : get_or ys 2 0 + length gs ≤ 64) (cs : List ℕ) (w : Wf ys cs) where
  abbrev count : ℕ
  count = get_or ys 2 0

  abbrev total : ℕ
  total = count + length gs

  abbrev numbered : List ℕ
  numbered = put ys (3 + count) gs

  abbrev after : List ℕ
  after = set numbered 2 total

  number-length : length numbered ≡ 7855
  number-length = length-put ys (3 + count) gs (omega arith) ∙ e

  kind-stays : get_or after 0 0 ≡ get_or ys 0 0
  kind-stays = get_or-set_other numbered 2 0 total 0 (λ z. omega arith) ∙ get_or-put-before ys (3 + count) gs 0 0 (omega arith) (omega arith)

  tombstones_stay : get_or after 1 0 ≡ get_or ys 1 0
  tombstones_stay = get_or-set_other numbered 2 1 total 0 (λ z. omega arith) ∙ get_or-put-before ys (3 + count) gs 1 0 (omega arith) (omega arith)

  now-total : get_or after 2 0 ≡ total
  now-total = let l = number-length in get_or-set_same numbered 2 total 0 (omega arith)

  rows_stay : part 67 576 after ≡ part 67 576 ys
  rows_stay = part-set-before 67 576 numbered 2 total (omega arith) ∙ part-put-after 67 576 ys (3 + count) gs (omega arith) (omega arith)

  earlier_stay : part 3 count after ≡ part 3 count ys
  earlier_stay = part-set-before 3 count numbered 2 total (omega arith) ∙ part-put-before 3 count ys (3 + count) gs (omega arith) (omega arith)

  new-numbered : part (3 + count) (length gs) after ≡ gs
  new-numbered = part-set-before (3 + count) (length gs) numbered 2 total (omega arith) ∙ part-put_same (length gs) ys (3 + count) gs refl (omega arith)

  now-cleaned : part 3 total after ≡ cleaned_in ys ++ gs
  unfolding cleaned_in
  now-cleaned = sym (part-append 3 count (length gs) after) ∙ rw (earlier_stay, new-numbered)

  area-stays : tombstone_area after cs ≡ tombstone_area ys cs
  unfolding tombstone_area
  area-stays = rw rows_stay

  store-stays : tombstone_store after ≡ tombstone_store ys
  unfolding tombstone_store
  store-stays = ap store_of tombstones_stay

  cleaned-fronts : Fronts ys cs after cs
  cleaned-fronts =
      let t = tombstones_stay in
      let m = now-total in
      record {
        numbers-are = length-set numbered 2 total ∙ number-length;
        bytes-are = w.bytes-are;
        kind = kind-stays;
        tombstones = rw area-stays (kept_all (tombstone_store ys) (tombstone_area ys cs));
        cleaned = earlier_stay;
        tombstones-grow = omega arith;
        cleaned-grow = omega arith;
      }

  cleaned-rest : rest_of after cs ≡ with_cleaned (cleaned_in ys ++ gs) (rest_of ys cs)
  unfolding with_cleaned rest_of tombstones_in
  cleaned-rest = rest-is after cs (get_or ys 0 0) (tombstones_in ys cs) _ kind-stays (tombstones-are after cs _ _ store-stays area-stays) (cleaned-are after total _ now-total now-cleaned)

  pub all-cleaned-added : AllCleanedAdded gs ys cs after
  all-cleaned-added =
      let m = now-total in
      record {
        rest = cleaned-rest;
        keeps = keeps-fronts ys cs after cs e cleaned-fronts;
        behind = record { numbers = drop-set-lt 643 numbered 2 total (omega arith) ∙ drop-put 643 ys (3 + count) gs (omega arith) (omega arith); bytes = refl };
        wf =
            record {
              numbers-are = cleaned-fronts.numbers-are;
              bytes-are = w.bytes-are;
              tombstones = rw (store-stays, area-stays) w.tombstones;
              cleaned-fit = omega arith;
            };
      }

-- one number
pub cleaned-added : (ys : List ℕ) (g : ℕ) → length ys ≡ 7855 → get_or ys 2 0 < 64 → (cs : List ℕ) → Wf ys cs → CleanedAdded g ys cs (set (set ys (3 + get_or ys 2 0) g) 2 (get_or ys 2 0 + 1))
cleaned-added ys g e h cs w =
    rw (set-put ys (3 + get_or ys 2 0) g (omega arith)) (all-cleaned-added ys (g ∷ []) e (omega arith) cs w)

-- ---- add_tombstone

no-elements : (l : List ℕ) → length l ≡ 0 → l ≡ []
no-elements [] e = refl
no-elements (x ∷ l) e = absurd (omega arith)

same_store : (t : Store) (n : ℕ) → t.items ≡ n → t.entries ≡ 0 → t ≡ store_of n
same_store t n p q = λ i. record { items = p i; entries = q i }

-- there is a row for one more, and it has no entries
pub tombstone_room : (ys : List ℕ) (k : ℕ) → length ys ≡ 7855 → get_or ys 1 0 < 64 → k ≡ 0 → has_room k (store_of (get_or ys 1 0)) (length (take 576 (drop 67 ys))) 0 ≡ true
unfolding has_room part
tombstone_room ys k e h z =
    let l : length (take 576 (drop 67 ys)) ≡ 576 = length_part 67 576 ys (omega arith) in
    rw (l, z, lt-ltb (get_or ys 1 0) (576 / 9) (omega arith))

module _ (ys cs xs bs : List ℕ) (its : List rules.LogItem) (m : ℕ) (w : Wf ys cs) (a : AddedAll (tombstone_store ys) (tombstone_area ys cs) its (store_of (get_or ys 1 0 + m)) (area xs [] bs)) where
  abbrev laid : List ℕ
  laid = put ys 67 xs

  abbrev told : List ℕ
  told = set laid 1 (get_or ys 1 0 + m)

  abbrev bytes : List ℕ
  bytes = put cs 0 bs

  length-rows : length xs ≡ 576
  unfolding tombstone_area
  length-rows = let n = w.numbers-are in a.sized.rows ∙ length_part 67 576 ys (omega arith)

  length-bytes : length bs ≡ 4096
  unfolding tombstone_area
  length-bytes = let n = w.bytes-are in a.sized.places ∙ length_part 0 4096 cs (omega arith)

  length-laid : length laid ≡ 7855
  length-laid = let n = w.numbers-are in let l = length-rows in length-put ys 67 xs (omega arith) ∙ n

  before-rows : (i : ℕ) → i ≢ 1 → i < 67 → get_or told i 0 ≡ get_or ys i 0
  before-rows i d h =
      let n = w.numbers-are in
      get_or-set_other laid 1 i (get_or ys 1 0 + m) 0 d ∙ get_or-put-before ys 67 xs i 0 h (omega arith)

  told-count : get_or told 1 0 ≡ get_or ys 1 0 + m
  told-count = let l = length-laid in get_or-set_same laid 1 (get_or ys 1 0 + m) 0 (omega arith)

  told-rows : part 67 576 told ≡ xs
  told-rows =
      let n = w.numbers-are in
      part-set-before 67 576 laid 1 (get_or ys 1 0 + m) (omega arith) ∙ part-put_same 576 ys 67 xs length-rows (omega arith)

  told-cleaned : part 3 (get_or ys 2 0) told ≡ part 3 (get_or ys 2 0) ys
  told-cleaned =
      let n = w.numbers-are in
      let f = w.cleaned-fit in
      part-set-before 3 (get_or ys 2 0) laid 1 (get_or ys 1 0 + m) (omega arith) ∙ part-put-before 3 (get_or ys 2 0) ys 67 xs (omega arith) (omega arith)

  told-area : tombstone_area told bytes ≡ area xs [] bs
  told-area = area-is told bytes xs bs told-rows (part-put_same 4096 cs 0 bs length-bytes (omega arith))

  told-store : tombstone_store told ≡ store_of (get_or ys 1 0 + m)
  told-store = store_is told _ told-count

  tombstone-fronts : Fronts ys cs told bytes
  tombstone-fronts =
      let n = w.bytes-are in
      let l = length-bytes in
      let c = told-count in
      let d : get_or told 2 0 ≡ get_or ys 2 0 = before-rows 2 (λ z. omega arith) (omega arith) in
      record {
        numbers-are = length-set laid 1 (get_or ys 1 0 + m) ∙ length-laid;
        bytes-are = length-put cs 0 bs (omega arith) ∙ n;
        kind = before-rows 0 (λ z. omega arith) (omega arith);
        tombstones = rw told-area a.kept;
        cleaned = told-cleaned;
        tombstones-grow = omega arith;
        cleaned-grow = omega arith;
      }

  tombstone-rest : rest_of told bytes ≡ with_tombstones (tombstones_in ys cs ++ its) (rest_of ys cs)
  unfolding with_tombstones rest_of tombstones_in cleaned_in
  tombstone-rest =
      rest-is told bytes (get_or ys 0 0) _ (cleaned_in ys) (before-rows 0 (λ z. omega arith) (omega arith))
      (tombstones-are told bytes _ _ told-store told-area ∙ a.items)
      (cleaned-are told (get_or ys 2 0) _ (before-rows 2 (λ z. omega arith) (omega arith)) told-cleaned)

  told-behind : Behind ys cs told bytes
  told-behind =
      let n = w.numbers-are in
      let r = length-rows in
      let b = length-bytes in
      record {
        numbers = drop-set-lt 643 laid 1 (get_or ys 1 0 + m) (omega arith) ∙ drop-put 643 ys 67 xs (omega arith) (omega arith);
        bytes = drop-put 4096 cs 0 bs (omega arith) (omega arith);
      }

  tombstones-put : TombstonesAdded its ys cs told bytes
  tombstones-put =
      let f = tombstone-fronts in
      record {
        rest = tombstone-rest;
        keeps = keeps-fronts ys cs told bytes w.numbers-are f;
        behind = told-behind;
        wf =
            record {
              numbers-are = f.numbers-are;
              bytes-are = f.bytes-are;
              tombstones = rw (told-store, told-area) a.wf;
              cleaned-fit = rw (before-rows 2 (λ z. omega arith) (omega arith)) w.cleaned-fit;
            };
      }

-- a store without entries has m items more, as the calls say it
module _ (ys cs xs es bs : List ℕ) (its : List rules.LogItem) (t : Store) (w : Wf ys cs) (a : AddedAll (tombstone_store ys) (tombstone_area ys cs) its t (area xs es bs)) where
  more-stored : (m : ℕ) → length its ≡ m → sum entries_in its ≡ 0 → AddedAll (tombstone_store ys) (tombstone_area ys cs) its (store_of (get_or ys 1 0 + m)) (area xs [] bs)
  unfolding tombstone_store tombstone_area
  more-stored m n z =
      let e : es ≡ [] = no-elements es a.sized.lists in
      let p : t.items ≡ get_or ys 1 0 + length its = a.count in
      let q : t.entries ≡ 0 + sum entries_in its = a.total in
      let c : t ≡ store_of (get_or ys 1 0 + m) = same_store t (get_or ys 1 0 + m) (omega arith) (omega arith) in
      rw (e, c) at a

  -- what comes back of the loans
  pub tombstones-added : (m : ℕ) → length its ≡ m → sum entries_in its ≡ 0 → TombstonesAdded its ys cs (set (put_mid 67 576 ys xs) 1 (get_or ys 1 0 + m)) (bs ++ drop 4096 cs)
  tombstones-added m n z =
      let b = more-stored m n z in
      let l = length-rows ys cs xs bs its m w b in
      let k = length-bytes ys cs xs bs its m w b in
      rw (loan-put 67 576 ys xs l, loan-front 4096 cs bs k) (tombstones-put ys cs xs bs its m w b)

pub tombstone-added : (ys cs xs es bs : List ℕ) (it : LogItem) (ns zs : List ℕ) (t : Store) → Wf ys cs → count_of it.content ≡ 0 → Added (store_of (get_or ys 1 0)) (area (take 576 (drop 67 ys)) [] (take 4096 cs)) (item_of it ns zs) t (area xs es bs) → TombstoneAdded (item_of it ns zs) ys cs (set (put_mid 67 576 ys xs) 1 (get_or ys 1 0 + 1)) (bs ++ drop 4096 cs)
unfolding tombstone_store tombstone_area part sum
tombstone-added ys cs xs es bs it ns zs t w z a =
    let s = store_of (get_or ys 1 0) in
    let d = area (part 67 576 ys) [] (part 0 4096 cs) in
    let b = added_more s d [] s d (added_none s d w.tombstones) (item_of it ns zs) t (area xs es bs) a in
    let n : entries_in (item_of it ns zs) ≡ 0 = entries-count it ns zs ∙ z in
    tombstones-added ys cs xs es bs (item_of it ns zs ∷ []) t w b 1 refl (rw n)

-- ---- add_tombstones

-- the tombstones of other lists us and vs
module _ (ys cs us vs : List ℕ) (w : Wf ys cs) (v : Wf us vs) (h : get_or ys 1 0 + get_or us 1 0 ≤ 64) where
  pub tombstones_room : (get_or ys 1 0 + get_or us 1 0 ≤ length (take 576 (drop 67 ys)) / 9) × (0 + 0 ≤ 0 / 8)
  unfolding part
  tombstones_room =
      let n = w.numbers-are in
      let l : length (take 576 (drop 67 ys)) ≡ 576 = length_part 67 576 ys (omega arith) in
      (omega arith, omega arith)

  pub others-added : (xs es bs : List ℕ) (t : Store) → AddedAll (store_of (get_or ys 1 0)) (area (take 576 (drop 67 ys)) [] (take 4096 cs)) (store_items (store_of (get_or us 1 0)) (area (take 576 (drop 67 us)) [] (take 4096 vs))) t (area xs es bs) → TombstonesAdded (tombstones_in us vs) ys cs (set (put_mid 67 576 ys xs) 1 (get_or ys 1 0 + get_or us 1 0)) (bs ++ drop 4096 cs)
  unfolding tombstones_in tombstone_store tombstone_area part
  others-added xs es bs t a =
      let s = store_of (get_or us 1 0) in
      let d = area (part 67 576 us) [] (part 0 4096 vs) in
      tombstones-added ys cs xs es bs (tombstones_in us vs) t w a (get_or us 1 0) (length-stored s d v.tombstones) (stored-total s d v.tombstones)

-- ---- the index, and no cleaned numbers

-- a list of ys whose first three numbers alone differ
module _ (ys cs us : List ℕ) (w : Wf ys cs) (e : length us ≡ 7855) (k : drop 3 us ≡ drop 3 ys) where
  same-behind : Behind ys cs us cs
  same-behind = record { numbers = shorter_back 3 643 us ys (omega arith) k; bytes = refl }

  same_area : tombstone_area us cs ≡ tombstone_area ys cs
  unfolding tombstone_area
  same_area = rw (part_of_back 67 576 3 us ys k (omega arith))

  -- the tombstones are gone, and the kind is the index's
  pub index_now : get_or us 0 0 ≡ 2 → get_or us 1 0 ≡ 0 → get_or us 2 0 ≡ get_or ys 2 0 → Becomes (index_of [] (rest_of ys cs)) ys cs us
  unfolding index_of rest_of kind_of cleaned_in
  index_now p t n =
      record {
        rest =
            rest-is us cs 2 [] (cleaned_in ys) p
            (tombstones-are us cs (store_of 0) (tombstone_area us cs) (store_is us 0 t) refl ∙ no-tombstones _)
            (cleaned-are us (get_or ys 2 0) (cleaned_in ys) n (part_of_back 3 (get_or ys 2 0) 3 us ys k (omega arith)));
        behind = same-behind;
        wf =
            record {
              numbers-are = e;
              bytes-are = w.bytes-are;
              tombstones = rw (store_is us 0 t) (none-stored us cs e w.bytes-are);
              cleaned-fit = rw n w.cleaned-fit;
            };
      }

  -- the cleaned numbers are gone
  pub uncleaned_now : get_or us 0 0 ≡ get_or ys 0 0 → get_or us 1 0 ≡ get_or ys 1 0 → get_or us 2 0 ≡ 0 → Becomes (with_cleaned [] (rest_of ys cs)) ys cs us
  unfolding with_cleaned rest_of tombstones_in tombstone_store
  uncleaned_now p t n =
      record {
        rest =
            rest-is us cs (get_or ys 0 0) (tombstones_in ys cs) [] p
            (tombstones-are us cs (store_of (get_or ys 1 0)) (tombstone_area ys cs) (store_is us (get_or ys 1 0) t) same_area)
            (cleaned-are us 0 [] n (part_none 3 us));
        behind = same-behind;
        wf =
            record {
              numbers-are = e;
              bytes-are = w.bytes-are;
              tombstones = rw (store_is us (get_or ys 1 0) t, same_area) w.tombstones;
              cleaned-fit = omega arith;
            };
      }

pub become-index : (ys : List ℕ) → length ys ≡ 7855 → (cs : List ℕ) → Wf ys cs → Becomes (index_of [] (rest_of ys cs)) ys cs (set (set ys 0 2) 1 0)
become-index ys e cs w =
    let a = set ys 0 2 in
    let l : length a ≡ 7855 = length-set ys 0 2 ∙ e in
    index_now ys cs (set a 1 0) w (length-set a 1 0 ∙ l) (drop-set-lt 3 a 1 0 (omega arith) ∙ drop-set-lt 3 ys 0 2 (omega arith))
    (get_or-set_other a 1 0 0 0 (λ z. omega arith) ∙ get_or-set_same ys 0 2 0 (omega arith))
    (get_or-set_same a 1 0 0 (omega arith))
    (get_or-set_other a 1 2 0 0 (λ z. omega arith) ∙ get_or-set_other ys 0 2 2 0 (λ z. omega arith))

pub drop-cleaned : (ys : List ℕ) → length ys ≡ 7855 → (cs : List ℕ) → Wf ys cs → Becomes (with_cleaned [] (rest_of ys cs)) ys cs (set ys 2 0)
drop-cleaned ys e cs w =
    uncleaned_now ys cs (set ys 2 0) w (length-set ys 2 0 ∙ e) (drop-set-lt 3 ys 2 0 (omega arith))
    (get_or-set_other ys 2 0 0 0 (λ z. omega arith))
    (get_or-set_other ys 2 1 0 0 (λ z. omega arith))
    (get_or-set_same ys 2 0 0 (omega arith))

-- ---- add_all_cleaned

pub others-cleaned : (ys us : List ℕ) → length ys ≡ 7855 → length us ≡ 7855 → get_or ys 2 0 + get_or us 2 0 ≤ 64 → (cs : List ℕ) → Wf ys cs → AllCleanedAdded (cleaned_in us) ys cs (set (put ys (3 + get_or ys 2 0) (take (3 + get_or us 2 0 - 3) (drop 3 us))) 2 (get_or ys 2 0 + get_or us 2 0))
unfolding cleaned_in part
others-cleaned ys us e f h cs w =
    let d : 3 + get_or us 2 0 - 3 ≡ get_or us 2 0 = omega arith in
    let l : length (take (get_or us 2 0) (drop 3 us)) ≡ get_or us 2 0 = length_part 3 (get_or us 2 0) us (omega arith) in
    rw d (rw l at (all-cleaned-added ys (take (get_or us 2 0) (drop 3 us)) e (omega arith) cs w))
