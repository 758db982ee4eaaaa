-- Lists of entries as rows: what a row says of its entry, and scans over the rows from row i on. Assumes nothing.
use Rattle.std.specs.Prelude.{None, Some}
use mathlib.Core.Bool.{Bool, true, false, cond, ◌&&◌}
use mathlib.Core.Path.{◌≡◌, refl}
use mathlib.Core.List.{List, [], ◌∷◌}
use Prim.Native.Nat.{ℕ, zero, suc, ◌+◌, ◌*◌, ◌-◌, ◌≤◌, ◌<◌}
use native.Mathlib.Decide.{dec_le}
use native.Mathlib.Omega.{arith}
use lib.Dec.{eqb}
use lib.ListN.{get_or, drop}
use lib.Seq.{drop-drop, get_or-drop}
use Rattle.maps.specs.Lists.{any}
use Rattle.pipe_log.specs.declared.EntryIndex.{EntryIndex}
use Rattle.pipe_log.specs.declared.FileBlockHandle.{FileBlockHandle}
use Rattle.pipe_log.specs.Rows.{is_record, block_at, entry_of, entries_of, queue_at}
use Rattle.rules.specs.Items.{has_file, block_file, file_of}
use Rattle.rules.specs.Checks.{consecutive}

has_block : (b : Bool) (h : FileBlockHandle) → has_file (cond b (Some h) None) ≡ b
unfolding has_file
has_block true h = refl
has_block false h = refl

-- an entry has a file if its row is a record, and then the file's queue is the row's
pub has-file : (xs : List ℕ) → has_file (entry_of xs).entries ≡ is_record xs
unfolding entry_of
has-file xs = has_block (is_record xs) (block_at xs)

pub record-queue : (xs : List ℕ) → is_record xs ≡ true → (file_of (entry_of xs)).queue ≡ queue_at (get_or xs 1 0)
unfolding file_of block_file entry_of block_at
record-queue xs h = rw h

module _ (n i : ℕ) (xs : List ℕ) where
  pub rows_end : n ≤ i → entries_of (n - i) (drop (i * 8) xs) ≡ []
  unfolding entries_of
  rows_end h = let e : n - i ≡ 0 = omega arith in rw e

  pub rows_more : i < n → entries_of (n - i) (drop (i * 8) xs) ≡ entry_of (drop (i * 8) xs) ∷ entries_of (n - (i + 1)) (drop ((i + 1) * 8) xs)
  unfolding entries_of
  rows_more h =
      let e : n - i ≡ suc (n - (i + 1)) = omega arith in
      let s : (i + 1) * 8 ≡ i * 8 + 8 = omega arith in
      rw (e, s, drop-drop 8 (i * 8) xs)

  module _ (p : EntryIndex → Bool) where
    pub any-end : n ≤ i → any p (entries_of (n - i) (drop (i * 8) xs)) ≡ false
    unfolding any
    any-end h = rw (rows_end h)

    pub any_here : i < n → p (entry_of (drop (i * 8) xs)) ≡ true → any p (entries_of (n - i) (drop (i * 8) xs)) ≡ true
    unfolding any
    any_here h t = rw (rows_more h, t)

    pub any-more : i < n → p (entry_of (drop (i * 8) xs)) ≡ false → any p (entries_of (n - i) (drop (i * 8) xs)) ≡ any p (entries_of (n - (i + 1)) (drop ((i + 1) * 8) xs))
    unfolding any
    any-more h t = rw (rows_more h, t)

module _ (n i : ℕ) (xs : List ℕ) where
  pub consecutive-end : n ≤ i + 1 → consecutive (entries_of (n - i) (drop (i * 8) xs)) ≡ true
  unfolding consecutive
  consecutive-end h =
      elim (dec_le n i) [
        | yes l ↦ rw (rows_end n i xs l)
        | no l ↦ rw (rows_more n i xs (omega arith), rows_end n (i + 1) xs h)
      ]

  index_here : (k : ℕ) → (entry_of (drop k xs)).index ≡ get_or xs (k + 0) 0
  unfolding entry_of
  index_here k = get_or-drop k xs 0 0

  consecutive_two : i + 1 < n → consecutive (entries_of (n - i) (drop (i * 8) xs)) ≡ eqb (entry_of (drop ((i + 1) * 8) xs)).index (suc (entry_of (drop (i * 8) xs)).index) && consecutive (entries_of (n - (i + 1)) (drop ((i + 1) * 8) xs))
  unfolding consecutive
  consecutive_two h = rw (rows_more n i xs (omega arith), rows_more n (i + 1) xs h)

  pub consecutive-more : (b : Bool) → i + 1 < n → b ≡ eqb (get_or xs (i * 8 + 8) 0) (suc (get_or xs (i * 8) 0)) → consecutive (entries_of (n - i) (drop (i * 8) xs)) ≡ b && consecutive (entries_of (n - (i + 1)) (drop ((i + 1) * 8) xs))
  consecutive-more b h t =
      let k : (i + 1) * 8 + 0 ≡ i * 8 + 8 = omega arith in
      let z : i * 8 + 0 ≡ i * 8 = omega arith in
      rw (consecutive_two h, index_here ((i + 1) * 8), index_here (i * 8), k, z, t)

-- the same with row i - 1 at the front
module _ (n : ℕ) (xs : List ℕ) where
  pub consecutive-next : (i : ℕ) (b : Bool) → 1 ≤ i → i < n → b ≡ eqb (get_or xs (i * 8) 0) (suc (get_or xs ((i - 1) * 8) 0)) → consecutive (entries_of (n - (i - 1)) (drop ((i - 1) * 8) xs)) ≡ b && consecutive (entries_of (n - i) (drop (i * 8) xs))
  consecutive-next zero b l h t = absurd (omega arith)
  consecutive-next (suc i) b l h t =
      let j : i + 1 ≡ suc i = omega arith in
      let k : suc i * 8 ≡ i * 8 + 8 = omega arith in
      let p : suc i - 1 ≡ i = omega arith in
      rw p (rw j at (consecutive-more n i xs b (omega arith) (rw (k, p) at t)))
