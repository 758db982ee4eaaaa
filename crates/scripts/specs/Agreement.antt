-- What holds where a comparison comes out true.
use Rattle.std.specs.Prelude.{None, Some, Option, Bool, true, List, [], ◌∷◌, ◌≡◌, ℕ, ◌+◌, ◌≤◌, ◌<◌, length, get_or}
use Rattle.pipe_log.specs.Numbers.{queue_number, compression_number}
use Rattle.pipe_log.specs.declared.FileBlockHandle.{FileBlockHandle}
use Rattle.pipe_log.specs.declared.EntryIndex.{EntryIndex}

-- the first n of a list are stored from a place on
pub record Agree (got : List ℕ) (n : ℕ) (want : List ℕ) (at : ℕ) : Type 0 where
  pub same : (i : ℕ) → i < n → get_or want (at + i) 0 ≡ get_or got i 0

pub record SameNumbers (got : List ℕ) (n : ℕ) (want : List ℕ) (at : ℕ) (r : Bool) : Type 0 where
  pub same : r ≡ true → Agree got n want at
  pub there : r ≡ true → at + n ≤ length want

-- a comparison comes out true only where an answer, which has three numbers at least, is stored
pub record Stored (want : List ℕ) (r : Bool) : Type 0 where
  pub there : r ≡ true → 3 ≤ length want

-- the row of a record; one without a block has the queue 2
abbrev row_from : ℕ → Option FileBlockHandle → ℕ → ℕ → ℕ → List ℕ
row_from i None c o l = i ∷ 2 ∷ 0 ∷ 0 ∷ 0 ∷ c ∷ o ∷ l ∷ []
row_from i (Some b) c o l =
    i ∷ queue_number b.id.queue ∷ b.id.seq ∷ b.offset ∷ b.len ∷ c ∷ o ∷ l ∷ []

abbrev pub row_of : EntryIndex → List ℕ
row_of e = row_from e.index e.entries (compression_number e.compression_type) e.entry_offset e.entry_len
