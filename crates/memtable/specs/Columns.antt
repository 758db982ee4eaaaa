-- Fetched records as parallel slices of numbers, one for each field in the order of a row.
use Rattle.std.specs.Prelude.{None, Some, Option, cond, List, [], ◌∷◌, map, ◌≡◌, ℕ, zero, suc, leb, length, get_or, drop}
use Rattle.cells.specs.Part.{put}
use Rattle.pipe_log.specs.Numbers.{queue_number, compression_number}
use Rattle.rules.specs.Causes.{by_cause, ListTooShort, ByCause, Result, Ok, Err, refuse, and_then}
use Rattle.rules.specs.Items.{EntryIndex, FileBlockHandle, file_of}

-- the eight lent slices
pub record Columns : Type 0 where
  pub index : List ℕ
  pub queue : List ℕ
  pub seq : List ℕ
  pub offset : List ℕ
  pub len : List ℕ
  pub compression : List ℕ
  pub entry_offset : List ℕ
  pub entry_len : List ℕ

abbrev pub columns : List ℕ → List ℕ → List ℕ → List ℕ → List ℕ → List ℕ → List ℕ → List ℕ → Columns
columns a b c d e f g h =
    record { index = a; queue = b; seq = c; offset = d; len = e; compression = f; entry_offset = g; entry_len = h }

unfoldable pub block_offset : Option FileBlockHandle → ℕ
block_offset None = 0
block_offset (Some block) = block.offset

unfoldable pub block_len : Option FileBlockHandle → ℕ
block_len None = 0
block_len (Some block) = block.len

-- the slices with records laid in from their first place, everything else as it was
unfoldable pub laid_into : Columns → List EntryIndex → Columns
laid_into out es =
    columns
    (put out.index 0 (map (λ (e : EntryIndex). e.index) es))
    (put out.queue 0 (map (λ (e : EntryIndex). queue_number (file_of e).queue) es))
    (put out.seq 0 (map (λ (e : EntryIndex). (file_of e).seq) es))
    (put out.offset 0 (map (λ (e : EntryIndex). block_offset e.entries) es))
    (put out.len 0 (map (λ (e : EntryIndex). block_len e.entries) es))
    (put out.compression 0 (map (λ (e : EntryIndex). compression_number e.compression_type) es))
    (put out.entry_offset 0 (map (λ (e : EntryIndex). e.entry_offset) es))
    (put out.entry_len 0 (map (λ (e : EntryIndex). e.entry_len) es))

-- an answer longer than the lent list, which has room for n records, is refused (rules' `answered`)
unfoldable pub judged : ℕ → Result (List EntryIndex) → Result (List EntryIndex)
judged n r = and_then r (λ es. cond (leb (length es) n) (Ok es) (refuse ListTooShort))

-- the slices after the call
unfoldable pub columns_after : Columns → Result (List EntryIndex) → Columns
columns_after out (Ok es) = laid_into out es
columns_after out (Err r) = out

-- the slices have one length
pub record SameLength (out : Columns) : Type 0 where
  pub queue : length out.queue ≡ length out.index
  pub seq : length out.seq ≡ length out.index
  pub offset : length out.offset ≡ length out.index
  pub len : length out.len ≡ length out.index
  pub compression : length out.compression ≡ length out.index
  pub entry_offset : length out.entry_offset ≡ length out.index
  pub entry_len : length out.entry_len ≡ length out.index

-- an answer of the rules, given in lent slices: r is returned, and exits are the slices at exit
pub record Answered (answer : Result (List EntryIndex)) (out : Columns) (r : ByCause ℕ) (exits : Columns) : Type 0 where
  pub number : by_cause r ≡ and_then (judged (length out.index) answer) (λ es. Ok (length es))
  pub slices : exits ≡ columns_after out (judged (length out.index) answer)

-- cell k of each of the first n rows
unfoldable pub column : ℕ → ℕ → List ℕ → List ℕ
column k zero xs = []
column k (suc n) xs = get_or xs k 0 ∷ column k n (drop 8 xs)

-- n numbers from f up
unfoldable pub up_from : ℕ → ℕ → List ℕ
up_from f zero = []
up_from f (suc n) = f ∷ up_from (suc f) n
