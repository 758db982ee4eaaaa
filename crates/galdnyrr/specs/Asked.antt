-- Answers to queries as numbers: the number that is returned, and what stands in what is lent at exit.
use Rattle.std.specs.Prelude.{Bool, cond, List, ◌≡◌, ℕ, leb, length}
use Rattle.std.specs.Prelude.{Option, None, Some}
use Rattle.cells.specs.Part.{put}
use Rattle.pipe_log.specs.Causes as causes
use Rattle.rules.specs.Causes.{Result, Ok, Err, refuse, ListTooShort, and_then}
use Rattle.rules.specs.Items.{EntryIndex}
use Rattle.rules.specs.TableQueries.{KeyValue}
use Rattle.rules.specs.Queries.{answered, lent_after, take_cleaned, after_taking}
use Rattle.key_lists.specs.Lists.{lent_list, lens_after, bytes_after}
use Rattle.memtable.specs.Columns.{Columns, columns_after}
use Rattle.contexts.specs.Contexts.{context_of, Wf}
use Rattle.columns.specs.Slices.{records_in}
use Rattle.records.specs.Rows.{row_of, lent_rows, rows_after}
use Rattle.galdnyrr.specs.Told.{number_of}

-- what is returned for an answer that is absent; no cause has this number
abbrev pub absent : ℕ
absent = 0xffff_ffff_ffff_ffff

-- 0 for what is there
unfoldable pub number_or_absent : {A : Type 0} → Result (Option A) → ℕ
number_or_absent (Ok None) = absent
number_or_absent (Ok (Some a)) = 0
number_or_absent (Err r) = causes.number_of r.cause

-- ---- a number

unfoldable pub value_after : ℕ → Result ℕ → ℕ
value_after v (Ok n) = n
value_after v (Err r) = v

unfoldable pub found_after : ℕ → Result (Option ℕ) → ℕ
found_after v (Ok None) = v
found_after v (Ok (Some n)) = n
found_after v (Err r) = v

pub record ValueTold (answer : Result ℕ) (value number value' : ℕ) : Type 0 where
  pub number_is : number ≡ number_of answer
  pub value-is : value' ≡ value_after value answer

pub record FoundTold (answer : Result (Option ℕ)) (value number value' : ℕ) : Type 0 where
  pub number_is : number ≡ number_or_absent answer
  pub value-is : value' ≡ found_after value answer

-- 1 for true and 0 for false
unfoldable pub flag_of : Bool → ℕ
flag_of b = cond b 1 0

unfoldable pub flagged : Result Bool → Result ℕ
flagged r = and_then r (λ b. Ok (flag_of b))

-- ---- a record, as a row of eight numbers (`row_of`)

-- a record that finds no room in the lent row
unfoldable pub in_row : List ℕ → Result (Option EntryIndex) → Result (Option EntryIndex)
in_row row (Ok None) = Ok None
in_row row (Ok (Some e)) = cond (leb 8 (length row)) (Ok (Some e)) (refuse ListTooShort)
in_row row (Err r) = Err r

unfoldable pub row_after : List ℕ → Result (Option EntryIndex) → List ℕ
row_after row (Ok None) = row
row_after row (Ok (Some e)) = put row 0 (row_of e)
row_after row (Err r) = row

pub record EntryTold (answer : Result (Option EntryIndex)) (row : List ℕ) (number : ℕ) (row' : List ℕ) : Type 0 where
  pub number_is : number ≡ number_or_absent (in_row row answer)
  pub row_is : row' ≡ row_after row (in_row row answer)

-- ---- lent lists: the number of rows that were filled is lent too

pub record EntriesTold (answer : Result (List EntryIndex)) (out : Columns) (count number count' : ℕ) (exits : Columns) : Type 0 where
  pub told : ValueTold (and_then (answered (records_in out) answer) (λ es. Ok (length es))) count number count'
  pub slices : exits ≡ columns_after out (answered (records_in out) answer)
  -- the records of the list at exit are those that the rules leave there
  pub records-are : records_in exits ≡ lent_after (records_in out) (answered (records_in out) answer)

-- the same in one list of rows
pub record RowsTold (answer : Result (List EntryIndex)) (out : List ℕ) (count number count' : ℕ) (exits : List ℕ) : Type 0 where
  pub told : ValueTold (and_then (answered (lent_rows out) answer) (λ es. Ok (length es))) count number count'
  pub rows : exits ≡ rows_after out (answered (lent_rows out) answer)

pub record KeysTold (answer : Result (List KeyValue)) (lens out : List ℕ) (count number count' : ℕ) (lens' out' : List ℕ) : Type 0 where
  pub told : ValueTold (and_then (answered (lent_list lens out) answer) (λ rows. Ok (length rows))) count number count'
  pub lens-are : lens' ≡ lens_after (answered (lent_list lens out) answer) lens
  pub bytes-are : out' ≡ bytes_after (answered (lent_list lens out) answer) out
  -- and so are the rows of keys
  pub rows_are : lent_list lens' out' ≡ lent_after (lent_list lens out) (answered (lent_list lens out) answer)

pub record NumbersTold (answer : Result (List ℕ)) (lent : List ℕ) (count number count' : ℕ) (lent' : List ℕ) : Type 0 where
  pub told : ValueTold (and_then answer (λ rows. Ok (length rows))) count number count'
  pub list-is : lent' ≡ lent_after lent answer

-- the cleaned numbers of the index: the area stands for the index that the rules leave
pub record CleanedTold (xs bs lent : List ℕ) (count number count' : ℕ) (xs' lent' : List ℕ) : Type 0 where
  pub told : ValueTold (and_then (take_cleaned lent (context_of xs bs)) (λ rows. Ok (length rows))) count number count'
  pub list-is : lent' ≡ lent_after lent (take_cleaned lent (context_of xs bs))
  pub leaves : context_of xs' bs ≡ after_taking (take_cleaned lent (context_of xs bs)) (context_of xs bs)
  pub wf : Wf xs' bs

-- ---- a value, copied to the front of lent bytes

-- a value that finds no room in them
unfoldable pub in_bytes : List ℕ → Result (Option (List ℕ)) → Result (Option (List ℕ))
in_bytes out (Ok None) = Ok None
in_bytes out (Ok (Some v)) = cond (leb (length v) (length out)) (Ok (Some v)) (refuse ListTooShort)
in_bytes out (Err r) = Err r

unfoldable pub copy_after : List ℕ → Result (Option (List ℕ)) → List ℕ
copy_after out (Ok None) = out
copy_after out (Ok (Some v)) = put out 0 v
copy_after out (Err r) = out

unfoldable pub length_after : ℕ → Result (Option (List ℕ)) → ℕ
length_after n (Ok None) = n
length_after n (Ok (Some v)) = length v
length_after n (Err r) = n

pub record GotTold (answer : Result (Option (List ℕ))) (out : List ℕ) (len number : ℕ) (out' : List ℕ) (len' : ℕ) : Type 0 where
  pub number_is : number ≡ number_or_absent (in_bytes out answer)
  pub copy_is : out' ≡ copy_after out (in_bytes out answer)
  pub length-is : len' ≡ length_after len (in_bytes out answer)
