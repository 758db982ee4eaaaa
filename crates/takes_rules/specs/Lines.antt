-- What a line of 01's program `takes` says: the next run, a batch of one item, or nothing, if it is malformed. One definition a letter, in 01's order.
use Rattle.std.specs.Prelude.{cond, List, [], ◌∷◌, ℕ, suc, ◌^◌, eqb, ltb}
use Rattle.std.specs.Prelude.{Option, None, Some}
use Rattle.pipe_log.specs.declared.CompressionType.TheVariants as compression
use Rattle.rules.specs.Items.{FileId, Append, EntryIndex, clean, compact, put, del, Content, entries, command, kv, Batch}
use Rattle.takes_rules.specs.Fields.{bind, number, hexadecimal, first_field, other_fields}

-- lengths are below 2^32, other numbers below 2^64
abbrev pub length_limit : ℕ
length_limit = 2 ^ 32

abbrev pub number_limit : ℕ
number_limit = 2 ^ 64

-- files are of the Append queue
unfoldable pub append_file : ℕ → FileId
append_file n = record { queue = Append; seq = n }

-- offsets and block lengths are 0
unfoldable pub entry_at : ℕ → ℕ → ℕ → EntryIndex
entry_at index file length =
    record {
      index = index;
      entries = Some (record { id = append_file file; offset = 0; len = 0 });
      compression_type = compression.None;
      entry_offset = 0;
      entry_len = length;
    }

-- each line but M is a batch of one item
unfoldable pub batch_of_one : ℕ → ℕ → Content → Batch
batch_of_one file group c = record { file = append_file file; items = record { group = group; content = c } ∷ [] }

-- ---- E,group,first,file,lengths: entries by consecutive indexes from `first`, none of which passes 2^64−1

unfoldable pub entries_from : ℕ → ℕ → List (List ℕ) → Option (List EntryIndex)
entries_from index file [] = Some []
entries_from index file (length ∷ lengths) =
    bind (number length_limit length)
    (λ n. cond (ltb index number_limit) (bind (entries_from (suc index) file lengths) (λ es. Some (entry_at index file n ∷ es))) None)

-- there is at least one length
unfoldable pub entries_line : List (List ℕ) → Option Batch
entries_line [] = None
entries_line (group ∷ []) = None
entries_line (group ∷ (first ∷ [])) = None
entries_line (group ∷ (first ∷ (file ∷ []))) = None
entries_line (group ∷ (first ∷ (file ∷ (length ∷ lengths)))) =
    bind (number number_limit group)
    (λ g. bind (number number_limit first)
    (λ i. bind (number number_limit file)
    (λ f. bind (entries_from i f (length ∷ lengths)) (λ es. Some (batch_of_one f g (entries es))))))

-- ---- P,group,file,key,value

unfoldable pub put_line : List (List ℕ) → Option Batch
put_line [] = None
put_line (group ∷ []) = None
put_line (group ∷ (file ∷ [])) = None
put_line (group ∷ (file ∷ (key ∷ []))) = None
put_line (group ∷ (file ∷ (key ∷ (value ∷ [])))) =
    bind (number number_limit group)
    (λ g. bind (number number_limit file)
    (λ f. bind (hexadecimal key)
    (λ k. bind (hexadecimal value) (λ v. Some (batch_of_one f g (kv k (put (Some v) (Some (append_file f)))))))))
put_line (group ∷ (file ∷ (key ∷ (value ∷ (extra ∷ more))))) = None

-- ---- D,group,key. Of a line without a file the batch has file 0, which nothing reads.

unfoldable pub del_line : List (List ℕ) → Option Batch
del_line [] = None
del_line (group ∷ []) = None
del_line (group ∷ (key ∷ [])) = bind (number number_limit group) (λ g. bind (hexadecimal key) (λ k. Some (batch_of_one 0 g (kv k del))))
del_line (group ∷ (key ∷ (extra ∷ more))) = None

-- ---- C,group,index

unfoldable pub compact_line : List (List ℕ) → Option Batch
compact_line [] = None
compact_line (group ∷ []) = None
compact_line (group ∷ (index ∷ [])) =
    bind (number number_limit group) (λ g. bind (number number_limit index) (λ i. Some (batch_of_one 0 g (command (compact i)))))
compact_line (group ∷ (index ∷ (extra ∷ more))) = None

-- ---- X,group

unfoldable pub clean_line : List (List ℕ) → Option Batch
clean_line [] = None
clean_line (group ∷ []) = bind (number number_limit group) (λ g. Some (batch_of_one 0 g (command clean)))
clean_line (group ∷ (extra ∷ more)) = None

-- ---- a line

pub data Line : Type 0 where
  malformed : Line
  next_run : Line
  batch : Batch → Line

unfoldable pub batch_line : Option Batch → Line
batch_line None = malformed
batch_line (Some b) = batch b

-- M
unfoldable pub merge_line : List (List ℕ) → Line
merge_line [] = next_run
merge_line (extra ∷ more) = malformed

abbrev pub letter_e : ℕ
letter_e = 69

abbrev pub letter_p : ℕ
letter_p = 80

abbrev pub letter_d : ℕ
letter_d = 68

abbrev pub letter_c : ℕ
letter_c = 67

abbrev pub letter_x : ℕ
letter_x = 88

abbrev pub letter_m : ℕ
letter_m = 77

unfoldable pub letter_line : ℕ → List (List ℕ) → Line
letter_line l fs =
    cond (eqb l letter_e) (batch_line (entries_line fs))
    (cond (eqb l letter_p) (batch_line (put_line fs))
    (cond (eqb l letter_d) (batch_line (del_line fs))
    (cond (eqb l letter_c) (batch_line (compact_line fs))
    (cond (eqb l letter_x) (batch_line (clean_line fs)) (cond (eqb l letter_m) (merge_line fs) malformed)))))

-- the first field is the letter, and nothing else
unfoldable pub fields_line : List ℕ → List (List ℕ) → Line
fields_line [] fs = malformed
fields_line (l ∷ []) fs = letter_line l fs
fields_line (l ∷ (b ∷ s)) fs = malformed

-- a line, without its newline
unfoldable pub line_of : List ℕ → Line
line_of s = fields_line (first_field s) (other_fields s)
