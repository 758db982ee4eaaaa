-- What the lists of a context depend on: the first 643 numbers and the first 4,096 bytes. Assumes nothing.
use Rattle.std.specs.Prelude.{List, ◌≡◌, ℕ, ◌+◌, ◌≤◌, ◌<◌, length, get_or}
use Rattle.std.proofs.Common.{sym, ap, ◌∙◌, zero-add, arith}
use Rattle.cells.specs.Part.{part}
use Rattle.cells.specs.PartLaws.{get_or-part, part-part}
use Rattle.lists.specs.Rest.{list_numbers, list_bytes, tombstone_store, tombstone_area, tombstones_in, cleaned_in, rest_of, Wf}

module _ (ys cs ys' cs' : List ℕ) (p : part 0 list_numbers ys' ≡ part 0 list_numbers ys) (q : part 0 list_bytes cs' ≡ part 0 list_bytes cs) where
  number_same : (i : ℕ) → i < list_numbers → get_or ys' i 0 ≡ get_or ys i 0
  number_same i l =
      rw (zero-add i) at (sym (get_or-part 0 list_numbers ys' i 0 l) ∙ ap (λ (l : List ℕ). get_or l i 0) p ∙ get_or-part 0 list_numbers ys i 0 l)

  part_same : (a n : ℕ) → a ≤ list_numbers → a + n ≤ list_numbers → part a n ys' ≡ part a n ys
  part_same a n h l =
      rw (zero-add a) at (sym (part-part a n 0 list_numbers ys' l) ∙ ap (part a n) p ∙ part-part a n 0 list_numbers ys l)

  store_same : tombstone_store ys' ≡ tombstone_store ys
  unfolding tombstone_store
  store_same = rw (number_same 1 (omega arith))

  area_same : tombstone_area ys' cs' ≡ tombstone_area ys cs
  unfolding tombstone_area
  area_same = rw (part_same 67 576 (omega arith) (omega arith), q)

  module _ (w : Wf ys cs) where
    cleaned_same : cleaned_in ys' ≡ cleaned_in ys
    unfolding cleaned_in
    cleaned_same = rw (number_same 2 (omega arith)) (part_same 3 (get_or ys 2 0) (omega arith) (omega (arith, w.cleaned-fit)))

    tombstones_same : tombstones_in ys' cs' ≡ tombstones_in ys cs
    unfolding tombstones_in
    tombstones_same = rw (store_same, area_same)

    pub rest_same : rest_of ys' cs' ≡ rest_of ys cs
    unfolding rest_of
    rest_same = rw (number_same 0 (omega arith), tombstones_same, cleaned_same)

    pub wf_same : length ys' ≡ length ys → length cs' ≡ length cs → Wf ys' cs'
    wf_same m n =
        record {
          numbers-are = m ∙ w.numbers-are;
          bytes-are = n ∙ w.bytes-are;
          tombstones = rw (store_same, area_same) w.tombstones;
          cleaned-fit = rw (number_same 2 (omega arith)) w.cleaned-fit;
        }
