-- The groups of a merge or join that are worked so far. They stand in the spare stretches of the older area, which are read as
-- stretches are.
use Rattle.std.specs.Prelude.{false, cond, List, ◌≡◌, ℕ, ◌+◌, ◌≤◌, ◌<◌, eqb, length, set, take, drop}
use Rattle.std.specs.Prelude.{Option}
use Rattle.cells.specs.Part.{part}
use Rattle.rules.specs.Causes.{Result}
use Rattle.rules.specs.Table.{Table}
use Rattle.rules_by_group.specs.Stage.{Staged, stage_all}
use Rattle.groups.specs.Area.{slots, numbers_in_use, bytes_in_use, stretch_at, groups_of}
use Rattle.groups.specs.Area as groups
use Rattle.groups.specs.Undo.{live_numbers, live_bytes, mark_at}
use Rattle.staging.specs.declared.Flags.{Flags}

-- where the long stretch begins, in which a group is worked
abbrev pub long_numbers : ℕ
long_numbers = 13509

abbrev pub long_bytes : ℕ
long_bytes = 28672

-- what stands between the spare stretches and the long one: the lists and the waiting parts
unfoldable pub between : List ℕ → List ℕ
between xs = part 9376 4133 xs

unfoldable pub between_bytes : List ℕ → List ℕ
between_bytes bs = part 16384 12288 bs

-- no group is refused, and no limit passed
abbrev pub no_flags : Flags
no_flags = record { clashed = false; passed = false }

unfoldable pub staged_in : Flags → List ℕ → List ℕ → Staged
staged_in f xs bs =
    record {
      groups = groups_of (drop live_numbers xs) (drop live_bytes bs);
      clashed = f.clashed;
      passed = f.passed;
    }

-- what holds of the spare stretches: they are as stretches must be
pub record Ready (xs bs : List ℕ) : Type 0 where
  pub staged : groups.Wf (drop live_numbers xs) (drop live_bytes bs)

-- all but the spare stretches and the long one is as it was
pub record Beside (xs bs xs' bs' : List ℕ) : Type 0 where
  pub live : take live_numbers xs' ≡ take live_numbers xs
  pub live-bytes : take live_bytes bs' ≡ take live_bytes bs
  pub middle : between xs' ≡ between xs
  pub middle-bytes : between_bytes bs' ≡ between_bytes bs
  pub numbers-length : length xs' ≡ length xs
  pub bytes-length : length bs' ≡ length bs

-- all but the long stretch is as it was
pub record Working (xs bs xs' bs' : List ℕ) : Type 0 where
  pub front : take long_numbers xs' ≡ take long_numbers xs
  pub front_bytes : take long_bytes bs' ≡ take long_bytes bs
  pub numbers-length : length xs' ≡ length xs
  pub bytes-length : length bs' ≡ length bs

-- the numbers gs are staged, one after the other, each with its own result
pub record Staging (at : ℕ → Result (Option Table)) (gs : List ℕ) (f : Flags) (xs bs : List ℕ) (r : Flags) (xs' bs' : List ℕ) : Type 0 where
  pub staged : staged_in r xs' bs' ≡ stage_all at gs (staged_in f xs bs)
  pub ready : Ready xs' bs'
  pub beside : Beside xs bs xs' bs'

-- the first n spare stretches hold no group
pub record Begun (n : ℕ) (xs xs' : List ℕ) : Type 0 where
  pub marks : (k : ℕ) → k < n → mark_at k xs' ≡ 0
  pub live : take live_numbers xs' ≡ take live_numbers xs
  pub behind : drop numbers_in_use xs' ≡ drop numbers_in_use xs
  pub length-is : length xs' ≡ length xs

-- the mark of a spare stretch with the first number m: it holds a whole stretch, or none
unfoldable pub sealed_mark : ℕ → ℕ
sealed_mark m = cond (eqb m 1) 3 1

-- the first n spare stretches have their marks
pub record Sealed (n : ℕ) (xs xs' : List ℕ) : Type 0 where
  pub sealed : (k : ℕ) → k < n → stretch_at (slots + k) xs' ≡ set (stretch_at (slots + k) xs) 0 (sealed_mark (mark_at k xs))
  pub still : (k : ℕ) → n ≤ k → k < slots → stretch_at (slots + k) xs' ≡ stretch_at (slots + k) xs
  pub live : take live_numbers xs' ≡ take live_numbers xs
  pub behind : drop numbers_in_use xs' ≡ drop numbers_in_use xs
  pub length-is : length xs' ≡ length xs
