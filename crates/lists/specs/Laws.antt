-- The laws of a context's lists: what a cut leaves, the lengths, the kind, and what stays within reach. Assumes nothing.
use Rattle.std.specs.Prelude.{◌≡◌, List, [], ◌∷◌, ℕ, ◌*◌, ◌≤◌, ◌<◌, length, get_or, take}
use Rattle.std.proofs.Math.Path.{refl}
use Rattle.std.proofs.Common.{sym, ap, ◌∙◌, arith, get_or-take}
use Rattle.cells.specs.Part.{part}
use Rattle.cells.specs.PartLaws.{length_part, part-cons, part_none, length-put, put-part, get_or-put-in, get_or-put-before, part-put-after, part_of-front, drop-put}
use Rattle.rules.specs.Items.{LogItem, Append, Rewrite}
use Rattle.rules.specs.Context.{Kind, context, index, Context, with_tombstones, with_cleaned}
use Rattle.stores.specs.StoreLaws.{length-stored}
use Rattle.lists.specs.Rest.{kind_of, kind_number, tombstone_store, tombstone_area, tombstones_in, cleaned_in, rest_of, Wf, cut_to}
use Rattle.lists.specs.Calls.{Behind, Back, Keeps, TombstoneAdded, CleanedAdded}

-- ---- the kind

pub rest-kind : (ys cs : List ℕ) → (rest_of ys cs).kind ≡ kind_of (get_or ys 0 0)
unfolding rest_of
rest-kind ys cs = refl

-- a kind's number stands for it
pub kind_number_lem : (k : Kind) → kind_of (kind_number k) ≡ k
unfolding kind_of kind_number
kind_number_lem (context Append) = refl
kind_number_lem (context Rewrite) = refl
kind_number_lem index = refl

-- one more tombstone or cleaned number leaves the kind
pub tombstone-kind : (it : LogItem) (ys cs ys' cs' : List ℕ) → TombstoneAdded it ys cs ys' cs' → (rest_of ys' cs').kind ≡ (rest_of ys cs).kind
unfolding with_tombstones
tombstone-kind it ys cs ys' cs' a = ap (λ (r : Context). r.kind) a.rest

pub cleaned-kind : (g : ℕ) (ys cs ys' : List ℕ) → CleanedAdded g ys cs ys' → (rest_of ys' cs).kind ≡ (rest_of ys cs).kind
unfolding with_cleaned
cleaned-kind g ys cs ys' a = ap (λ (r : Context). r.kind) a.rest

-- ---- the lengths

-- there are rows for 64 tombstones
pub tombstones-fit : (ys cs : List ℕ) → Wf ys cs → get_or ys 1 0 ≤ 64
unfolding tombstone_store tombstone_area
tombstones-fit ys cs w =
    let n = w.numbers-are in
    let e : length (part 67 576 ys) ≡ 576 = length_part 67 576 ys (omega arith) in
    let l : get_or ys 1 0 * 9 ≤ length (part 67 576 ys) = w.tombstones.rows in
    omega arith

-- each list has as many elements as its count says, and at most 64
pub lengths : (ys cs : List ℕ) → Wf ys cs → (length (tombstones_in ys cs) ≡ get_or ys 1 0) × (length (cleaned_in ys) ≡ get_or ys 2 0) × (get_or ys 1 0 ≤ 64) × (get_or ys 2 0 ≤ 64)
unfolding tombstones_in cleaned_in tombstone_store
lengths ys cs w =
    let n = w.numbers-are in
    let f = w.cleaned-fit in
    (length-stored (tombstone_store ys) (tombstone_area ys cs) w.tombstones, length_part 3 (get_or ys 2 0) ys (omega arith), tombstones-fit ys cs w, f)

-- ---- a cut writes the two counts, and leaves all else

module _ (t n : ℕ) (ys : List ℕ) (e : length ys ≡ 7855) where
  pub length_cut : length (cut_to t n ys) ≡ 7855
  unfolding cut_to
  length_cut = length-put ys 1 (t ∷ n ∷ []) (omega arith) ∙ e

  pub kind-cut : get_or (cut_to t n ys) 0 0 ≡ get_or ys 0 0
  unfolding cut_to
  kind-cut = get_or-put-before ys 1 (t ∷ n ∷ []) 0 0 (omega arith) (omega arith)

  pub tombstones-cut : get_or (cut_to t n ys) 1 0 ≡ t
  unfolding cut_to
  tombstones-cut = get_or-put-in ys 1 (t ∷ n ∷ []) 0 0 (omega arith) (omega arith)

  pub cleaned-cut : get_or (cut_to t n ys) 2 0 ≡ n
  unfolding cut_to
  cleaned-cut = get_or-put-in ys 1 (t ∷ n ∷ []) 1 0 (omega arith) (omega arith)

  pub lists-cut : (cs : List ℕ) → Behind ys cs (cut_to t n ys) cs
  unfolding cut_to
  lists-cut cs = record { numbers = drop-put 643 ys 1 (t ∷ n ∷ []) (omega arith) (omega arith); bytes = refl }

  pub behind-cut : (a k : ℕ) → 3 ≤ a → part a k (cut_to t n ys) ≡ part a k ys
  unfolding cut_to
  behind-cut a k h = part-put-after a k ys 1 (t ∷ n ∷ []) h (omega arith)

-- ---- what lies behind the lists

pub behind_all : (ys cs : List ℕ) → Behind ys cs ys cs
behind_all ys cs = record { numbers = refl; bytes = refl }

pub behind-then : (ys cs ys' cs' ys'' cs'' : List ℕ) → Behind ys cs ys' cs' → Behind ys' cs' ys'' cs'' → Behind ys cs ys'' cs''
behind-then ys cs ys' cs' ys'' cs'' p q = record { numbers = q.numbers ∙ p.numbers; bytes = q.bytes ∙ p.bytes }

-- the lists are what their own numbers and bytes say
module _ (ys cs ys' cs' : List ℕ) (w : Wf ys cs) (n : take 643 ys' ≡ take 643 ys) (b : take 4096 cs' ≡ take 4096 cs) where
  cell-is : (i : ℕ) → i < 643 → get_or ys' i 0 ≡ get_or ys i 0
  cell-is i h = sym (get_or-take 643 ys' i 0 h) ∙ ap (λ (l : List ℕ). get_or l i 0) n ∙ get_or-take 643 ys i 0 h

  area-is : tombstone_area ys' cs' ≡ tombstone_area ys cs
  unfolding tombstone_area
  area-is = rw (part_of-front 67 576 643 ys' ys n (omega arith), part_of-front 0 4096 4096 cs' cs b (omega arith))

  store_is : tombstone_store ys' ≡ tombstone_store ys
  unfolding tombstone_store
  store_is = rw (cell-is 1 (omega arith))

  cleaned-is : cleaned_in ys' ≡ cleaned_in ys
  unfolding cleaned_in
  cleaned-is = let f = w.cleaned-fit in rw (cell-is 2 (omega arith), part_of-front 3 (get_or ys 2 0) 643 ys' ys n (omega arith))

  pub front_rest : rest_of ys' cs' ≡ rest_of ys cs
  unfolding rest_of tombstones_in
  front_rest = rw (cell-is 0 (omega arith), store_is, area-is, cleaned-is)

  pub front_wf : length ys' ≡ 7855 → length cs' ≡ 22528 → Wf ys' cs'
  front_wf p q =
      record {
        numbers-are = p;
        bytes-are = q;
        tombstones = rw (store_is, area-is) w.tombstones;
        cleaned-fit = rw (cell-is 2 (omega arith)) w.cleaned-fit;
      }

-- ---- what can be gone back to

counts-are : (ys : List ℕ) → 3 ≤ length ys → part 1 2 ys ≡ get_or ys 1 0 ∷ get_or ys 2 0 ∷ []
counts-are ys h =
    sym (part-cons 1 1 ys 0 (omega arith))
    ∙ ap (λ (l : List ℕ). get_or ys 1 0 ∷ l) (sym (part-cons 2 0 ys 0 (omega arith)) ∙ ap (λ (l : List ℕ). get_or ys 2 0 ∷ l) (part_none 3 ys))

-- a cut to the counts that the lists have changes nothing
pub cut_now : (ys : List ℕ) → 3 ≤ length ys → cut_to (get_or ys 1 0) (get_or ys 2 0) ys ≡ ys
unfolding cut_to
cut_now ys h = rw (← counts-are ys h) (put-part 1 2 ys h)

pub back_now : (ys cs : List ℕ) → Wf ys cs → Back (get_or ys 1 0) (get_or ys 2 0) (rest_of ys cs) ys cs
back_now ys cs w =
    let n = w.numbers-are in
    let e = cut_now ys (omega arith) in
    record { rest = ap (λ (l : List ℕ). rest_of l cs) e; wf = rw e w }

pub keeps_all : (ys cs : List ℕ) → Keeps ys cs ys cs
keeps_all ys cs = record { back = λ t n r h l b. b; tombstones-grow = omega arith; cleaned-grow = omega arith }

pub keeps_then : (ys cs ys' cs' ys'' cs'' : List ℕ) → Keeps ys cs ys' cs' → Keeps ys' cs' ys'' cs'' → Keeps ys cs ys'' cs''
keeps_then ys cs ys' cs' ys'' cs'' p q =
    let a = p.tombstones-grow in
    let b = p.cleaned-grow in
    let c = q.tombstones-grow in
    let d = q.cleaned-grow in
    record {
      back = λ t n r h l k. q.back t n r (omega arith) (omega arith) (p.back t n r h l k);
      tombstones-grow = omega arith;
      cleaned-grow = omega arith;
    }
