-- Where the fronts in use stay, whatever could be gone back to can be gone back to still. Assumes nothing.
use mathlib.Core.Path.{◌≡◌, sym, ap, ◌∙◌}
use mathlib.Core.List.{List, []}
use Prim.Native.Nat.{ℕ, ◌*◌, ◌/◌, ◌≤◌}
use native.Mathlib.Omega.{arith}
use lib.ListN.{length, get_or, take}
use Rattle.cells.specs.Part.{part}
use Rattle.cells.specs.PartLaws.{take_part, length_part}
use Rattle.rules.specs.Items.{LogItem}
use Rattle.rules.specs.Context.{Context}
use Rattle.stores.specs.declared.Store.{Store}
use Rattle.stores.specs.Stores.{Area, area, store_items, Stored, Kept}
use Rattle.stores.specs.StoreLaws.{kept_all, kept_then, kept-items, kept-stored}
use Rattle.lists.specs.Rest.{kind_of, tombstone_store, tombstone_area, tombstones_in, cleaned_in, rest_of, Wf, cut_to}
use Rattle.lists.specs.Calls.{Back, Keeps}
use Rattle.lists.specs.Laws.{length_cut, kind-cut, tombstones-cut, cleaned-cut, behind-cut}

-- ---- the views by what they read

-- a store of t tombstones
abbrev pub store_of : ℕ → Store
store_of t = record { items = t; entries = 0 }

pub store_is : (ys : List ℕ) (t : ℕ) → get_or ys 1 0 ≡ t → tombstone_store ys ≡ store_of t
unfolding tombstone_store
store_is ys t e = ap store_of e

pub area-is : (ys cs xs bs : List ℕ) → part 67 576 ys ≡ xs → part 0 4096 cs ≡ bs → tombstone_area ys cs ≡ area xs [] bs
unfolding tombstone_area
area-is ys cs xs bs e f = rw (e, f)

pub tombstones-are : (ys cs : List ℕ) (s : Store) (a : Area) → tombstone_store ys ≡ s → tombstone_area ys cs ≡ a → tombstones_in ys cs ≡ store_items s a
unfolding tombstones_in
tombstones-are ys cs s a e f = rw (e, f)

pub cleaned-are : (ys : List ℕ) (n : ℕ) (l : List ℕ) → get_or ys 2 0 ≡ n → part 3 n ys ≡ l → cleaned_in ys ≡ l
unfolding cleaned_in
cleaned-are ys n l e f = rw e f

pub rest-is : (ys cs : List ℕ) (k : ℕ) (ts : List LogItem) (l : List ℕ) → get_or ys 0 0 ≡ k → tombstones_in ys cs ≡ ts → cleaned_in ys ≡ l → rest_of ys cs ≡ record { kind = kind_of k; groups = []; tombstones = ts; cleaned = l; waiting = [] }
unfolding rest_of
rest-is ys cs k ts l e f g = rw (e, f, g)

-- ---- the lists cut back, by the lists

module _ (t n : ℕ) (ys cs : List ℕ) (e : length ys ≡ 7855) where
  store-cut : tombstone_store (cut_to t n ys) ≡ store_of t
  store-cut = store_is (cut_to t n ys) t (tombstones-cut t n ys e)

  area-cut : tombstone_area (cut_to t n ys) cs ≡ tombstone_area ys cs
  unfolding tombstone_area
  area-cut = rw (behind-cut t n ys e 67 576 (omega arith))

  rest-cut : rest_of (cut_to t n ys) cs ≡ record { kind = kind_of (get_or ys 0 0); groups = []; tombstones = store_items (store_of t) (tombstone_area ys cs); cleaned = part 3 n ys; waiting = [] }
  rest-cut =
      rest-is (cut_to t n ys) cs _ _ _ (kind-cut t n ys e) (tombstones-are (cut_to t n ys) cs _ _ store-cut area-cut)
      (cleaned-are (cut_to t n ys) n _ (cleaned-cut t n ys e) (behind-cut t n ys e 3 n (omega arith)))

  stored_cut : Wf (cut_to t n ys) cs → Stored (store_of t) (tombstone_area ys cs)
  stored_cut w = rw (store-cut, area-cut) at w.tombstones

  wf-cut : length cs ≡ 22528 → Stored (store_of t) (tombstone_area ys cs) → n ≤ 64 → Wf (cut_to t n ys) cs
  wf-cut b s h =
      record {
        numbers-are = length_cut t n ys e;
        bytes-are = b;
        tombstones = rw (store-cut, area-cut) s;
        cleaned-fit = rw (cleaned-cut t n ys e) h;
      }

-- ---- the fronts stay

-- the kind, the tombstones' rows and bytes and the cleaned numbers that are in use stay, and there are no fewer of them
pub record Fronts (ys cs ys' cs' : List ℕ) : Type 0 where
  pub numbers-are : length ys' ≡ 7855
  pub bytes-are : length cs' ≡ 22528
  pub kind : get_or ys' 0 0 ≡ get_or ys 0 0
  pub tombstones : Kept (tombstone_store ys) (tombstone_area ys cs) (tombstone_area ys' cs')
  pub cleaned : part 3 (get_or ys 2 0) ys' ≡ part 3 (get_or ys 2 0) ys
  pub tombstones-grow : get_or ys 1 0 ≤ get_or ys' 1 0
  pub cleaned-grow : get_or ys 2 0 ≤ get_or ys' 2 0

-- there are 64 bytes for each row
pub places-fit : (ys cs : List ℕ) → length ys ≡ 7855 → length cs ≡ 22528 → length (tombstone_area ys cs).items / 9 * 64 ≤ length (tombstone_area ys cs).bytes
unfolding tombstone_area
places-fit ys cs e f =
    let p : length (part 67 576 ys) ≡ 576 = length_part 67 576 ys (omega arith) in
    let q : length (part 0 4096 cs) ≡ 4096 = length_part 0 4096 cs (omega arith) in
    rw (p, q) (omega arith)

module _ (ys cs ys' cs' : List ℕ) (e : length ys ≡ 7855) (f : Fronts ys cs ys' cs') (t n : ℕ) (r : Context) (h : t ≤ get_or ys 1 0) (l : n ≤ get_or ys 2 0) (b : Back t n r ys cs) where
  fewer-kept : Kept (store_of t) (tombstone_area ys cs) (tombstone_area ys' cs')
  unfolding tombstone_store
  fewer-kept =
      kept_then (store_of t) (tombstone_store ys) (tombstone_area ys cs) (tombstone_area ys cs) (tombstone_area ys' cs') h (omega arith)
      (kept_all (store_of t) (tombstone_area ys cs)) f.tombstones

  fewer-cleaned : part 3 n ys' ≡ part 3 n ys
  fewer-cleaned = sym (take_part n 3 (get_or ys 2 0) ys' l) ∙ ap (take n) f.cleaned ∙ take_part n 3 (get_or ys 2 0) ys l

  was-stored : Stored (store_of t) (tombstone_area ys cs)
  was-stored = stored_cut t n ys cs e b.wf

  same_rest : rest_of (cut_to t n ys') cs' ≡ rest_of (cut_to t n ys) cs
  same_rest =
      rw (rest-cut t n ys' cs' f.numbers-are, rest-cut t n ys cs e, f.kind, kept-items (store_of t) (tombstone_area ys cs) (tombstone_area ys' cs') was-stored fewer-kept, fewer-cleaned)

  back-still : Back t n r ys' cs'
  back-still =
      let fit = rw (cleaned-cut t n ys e) at b.wf.cleaned-fit in
      record {
        rest = same_rest ∙ b.rest;
        wf =
            wf-cut t n ys' cs' f.numbers-are f.bytes-are
            (kept-stored (store_of t) (tombstone_area ys cs) (tombstone_area ys' cs') was-stored fewer-kept (places-fit ys' cs' f.numbers-are f.bytes-are)) fit;
      }

pub keeps-fronts : (ys cs ys' cs' : List ℕ) → length ys ≡ 7855 → Fronts ys cs ys' cs' → Keeps ys cs ys' cs'
keeps-fronts ys cs ys' cs' e f =
    record {
      back = λ t n r h l b. back-still ys cs ys' cs' e f t n r h l b;
      tombstones-grow = f.tombstones-grow;
      cleaned-grow = f.cleaned-grow;
    }
