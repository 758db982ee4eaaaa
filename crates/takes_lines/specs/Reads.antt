-- The theorem that a line read byte by byte says what the line says, as far as it is kept. Assumes nothing.
use Rattle.std.specs.Prelude.{cond, ◌≡◌, ℕ, zero, suc, ◌+◌, ◌*◌, ◌-◌, ◌≤◌, ◌<◌, eqb, ltb, length, take}
use Rattle.std.proofs.Math.Bool.{true, false}
use Rattle.std.proofs.lemmas.Bool.{false≢true}
use Rattle.std.proofs.Math.Path.{refl}
use Rattle.std.proofs.Common.{ap, ◌∙◌, arith, ltb-true, ltb-false, lt-ltb, le-ltb, eqb-true}
use mathlib.Core.List.{List, [], ◌∷◌, ◌++◌, append-nil}
use Rattle.std.specs.Prelude.{Option, None, Some, unwrap_or}
use Rattle.std.proofs.Math.Seq.{append_snoc}
use Rattle.maps.specs.OrderLaws.{split}
use Rattle.rules.specs.Items.{EntryIndex, entries, Batch}
use Rattle.takes_lines.specs.declared.fields.Field.{Field}
use Rattle.takes_lines.specs.declared.fields.Field.TheVariants.{Letter, Group, First, Index, File, Length, Key, Value, Extra}
use Rattle.takes_rules.specs.Fields.{bind, comma, first_field, other_fields, is_digit_byte, decimal_from, below, number, hex_digit, hexadecimal}
use Rattle.takes_rules.specs.Lines.{length_limit, number_limit, entry_at, batch_of_one, entries_from, entries_line, put_line, del_line, compact_line, clean_line, Line, malformed, batch_line, merge_line, letter_e, letter_p, letter_d, letter_c, letter_x, letter_m, letter_line, fields_line, line_of}
use Rattle.takes_lines.specs.Reading.{kept_most, Digits, Named, Reading, no_digits, nothing, with_group, with_first, with_index, with_file, keep, with_entry, with_key_byte, with_value_byte, is_letter, add_letter, add_digit, pair, add_hex, add_to, close_number, close_length, close_bytes, close_as, close, after, next_field, add_byte, read_byte, read_bytes, begin, is_last, said_by, whole, whole_line, end_line}
use Rattle.takes_lines.specs.Kept.{kept_content, kept_change, kept_item, kept_items, kept_batch, kept_line}

-- ---- field by field: the bytes of a field without its comma, then its end; the other fields behind it

unfoldable add_all : List ℕ → Option Reading → Option Reading
add_all [] r = r
add_all (b ∷ s) r = add_all s (bind r (λ x. add_to x.field x b))

unfoldable read_field : List ℕ → Option Reading → Option Reading
read_field f r = bind (add_all f r) close

unfoldable read_rest : Option Reading → List (List ℕ) → Option Reading
read_rest r [] = r
read_rest r (f ∷ fs) = read_rest (read_field f (next_field r)) fs

add_none : (s : List ℕ) → add_all s None ≡ None
unfolding add_all bind
add_none [] = refl
add_none (b ∷ s) = add_none s

rest-none : (fs : List (List ℕ)) → read_rest None fs ≡ None
unfolding read_rest read_field next_field bind
rest-none [] = refl
rest-none (f ∷ fs) = rw (add_none f) (rest-none fs)

module _ (b : ℕ) where
  comma-ends : (r : Option Reading) → eqb b comma ≡ true → read_byte r b ≡ next_field (bind r close)
  unfolding read_byte add_byte bind next_field
  comma-ends None e = refl
  comma-ends (Some x) e = rw e

  other-adds : (r : Option Reading) → eqb b comma ≡ false → read_byte r b ≡ bind r (λ x. add_to x.field x b)
  unfolding read_byte add_byte bind
  other-adds None e = refl
  other-adds (Some x) e = rw e

-- reading byte by byte is reading field by field
fields_read : (s : List ℕ) (r : Option Reading) → bind (read_bytes s r) close ≡ read_rest (read_field (first_field s) r) (other_fields s)
unfolding read_bytes first_field other_fields read_rest read_field add_all
fields_read [] r = refl
fields_read (b ∷ s) r =
    split (eqb b comma)
    (λ e. fields_read s (read_byte r b) ∙ rw (comma-ends b r e, e))
    (λ e. fields_read s (read_byte r b) ∙ rw (other-adds b r e, e))

-- ---- a number

abbrev reading : ℕ → Field → Digits → Named → Reading
reading l field d n = record { letter = l; field = field; digits = d; named = n }

-- with a digit
abbrev numbered : ℕ → Digits
numbered v = record { number = Some v; high = None }

-- a value that has reached the limit stays there
decimal_above : (limit v : ℕ) (s : List ℕ) → limit ≤ v → below limit (decimal_from v s) ≡ None
unfolding below bind decimal_from
decimal_above limit v [] h = rw (le-ltb v limit h)
decimal_above limit v (b ∷ s) h =
    split (is_digit_byte b)
    (λ e. rw e (decimal_above limit (v * 10 + (b - 48)) s (omega arith)))
    (λ e. rw e)

module _ (limit l : ℕ) (field : Field) (n : Named) (is : (r : Reading) (b : ℕ) → add_to field r b ≡ add_digit limit r b) where
  -- one digit, and what the digits behind it make of its value
  digit-added : (o : Option ℕ) (b : ℕ) (s : List ℕ) → ((u : ℕ) → u < limit → add_all s (Some (reading l field (numbered u) n)) ≡ bind (below limit (decimal_from u s)) (λ w. Some (reading l field (numbered w) n))) → add_all (b ∷ s) (Some (reading l field (record { number = o; high = None }) n)) ≡ bind (below limit (decimal_from (unwrap_or o 0) (b ∷ s))) (λ w. Some (reading l field (numbered w) n))
  unfolding add_all below bind decimal_from add_digit
  digit-added o b s more =
      let v = unwrap_or o 0 * 10 + (b - 48) in
      split (is_digit_byte b)
      (λ e. split (ltb v limit)
      (λ t. rw (is (reading l field (record { number = o; high = None }) n) b, e, t) (more v (ltb-true _ _ t)))
      (λ t. rw (is (reading l field (record { number = o; high = None }) n) b, e, t, add_none s, decimal_above limit v s (ltb-false _ _ t))))
      (λ e. rw (is (reading l field (record { number = o; high = None }) n) b, e, add_none s))

  digits-added : (s : List ℕ) (v : ℕ) → v < limit → add_all s (Some (reading l field (numbered v) n)) ≡ bind (below limit (decimal_from v s)) (λ w. Some (reading l field (numbered w) n))
  unfolding add_all below bind decimal_from
  digits-added [] v h = rw (lt-ltb v limit h)
  digits-added (b ∷ s) v h = digit-added (Some v) b s (digits-added s)

  -- a field without digits is closed by none
  number_read : close (reading l field no_digits n) ≡ None → (s : List ℕ) → read_field s (Some (reading l field no_digits n)) ≡ bind (number limit s) (λ v. close (reading l field (numbered v) n))
  unfolding read_field add_all number bind
  number_read e [] = e
  number_read e (b ∷ s) = rw (digit-added None b s (digits-added s)) (again (below limit (decimal_from 0 (b ∷ s))))
    where
      again : (o : Option ℕ) → bind (bind o (λ w. Some (reading l field (numbered w) n))) close ≡ bind o (λ v. close (reading l field (numbered v) n))
      again None = refl
      again (Some v) = refl

-- ---- bytes

unfoldable add_bytes : (ℕ → Named → Named) → List ℕ → Named → Named
add_bytes with_byte [] n = n
add_bytes with_byte (b ∷ bs) n = add_bytes with_byte bs (with_byte b n)

none_read : (s : List ℕ) → read_field s None ≡ None
unfolding read_field bind
none_read s = rw (add_none s)

module _ (l : ℕ) (field : Field) (with_byte : ℕ → Named → Named) (is : (r : Reading) (b : ℕ) → add_to field r b ≡ add_hex with_byte r b) (ends : (r : Reading) → close_as field r ≡ close_bytes r) where
  -- what a field of bytes makes of the fields before it
  unfoldable bytes_from : Named → List ℕ → Option Reading
  bytes_from n s = bind (hexadecimal s) (λ bs. Some (reading l field no_digits (add_bytes with_byte bs n)))

  -- a digit that waits
  unfoldable waiting : Named → ℕ → Reading
  waiting n h = reading l field (record { number = None; high = Some h }) n

  module _ (n : Named) where
    one-digit : (d : Option ℕ) → bind (bind d (λ h. Some (waiting n h))) close ≡ None
    unfolding bind close close_bytes waiting
    one-digit None = refl
    one-digit (Some h) = ends _

    module _ (s : List ℕ) (more : (m : Named) → read_field s (Some (reading l field no_digits m)) ≡ bytes_from m s) where
      second-digit : (h : ℕ) (d : Option ℕ) → read_field s (bind d (λ e. Some (reading l field no_digits (with_byte (h * 16 + e) n)))) ≡ bind (bind d (λ e. bind (hexadecimal s) (λ bs. Some ((h * 16 + e) ∷ bs)))) (λ bs. Some (reading l field no_digits (add_bytes with_byte bs n)))
      unfolding bind bytes_from add_bytes
      second-digit h None = none_read s
      second-digit h (Some d) = more (with_byte (h * 16 + d) n) ∙ again (hexadecimal s)
        where
          again : (o : Option (List ℕ)) → bind o (λ bs. Some (reading l field no_digits (add_bytes with_byte bs (with_byte (h * 16 + d) n)))) ≡ bind (bind o (λ bs. Some ((h * 16 + d) ∷ bs))) (λ bs. Some (reading l field no_digits (add_bytes with_byte bs n)))
          again None = refl
          again (Some bs) = refl

      first-digit : (b : ℕ) (d : Option ℕ) → read_field (b ∷ s) (bind d (λ h. Some (waiting n h))) ≡ bind (bind d (λ h. bind (hex_digit b) (λ e. bind (hexadecimal s) (λ bs. Some ((h * 16 + e) ∷ bs))))) (λ bs. Some (reading l field no_digits (add_bytes with_byte bs n)))
      unfolding bind read_field add_all add_hex pair waiting
      first-digit b None = none_read (b ∷ s)
      first-digit b (Some h) = rw (is (waiting n h) b) (second-digit h (hex_digit b))

  bytes_read : (s : List ℕ) (n : Named) → read_field s (Some (reading l field no_digits n)) ≡ bytes_from n s
  unfolding read_field add_all bind hexadecimal close close_bytes add_hex pair add_bytes bytes_from waiting
  bytes_read [] n = ends _
  bytes_read (a ∷ []) n = rw (is (reading l field no_digits n) a) (one-digit n (hex_digit a))
  bytes_read (a ∷ (b ∷ s)) n = rw (is (reading l field no_digits n) a) (first-digit n s (bytes_read s) b (hex_digit a))

-- ---- what is kept

module _ {A : Type 0} where
  unfoldable keep_all : List A → List A → List A
  keep_all xs [] = xs
  keep_all xs (y ∷ ys) = keep_all (keep xs y) ys

  take-kept : (n : ℕ) (xs ys : List A) → take n (take n xs ++ ys) ≡ take n (xs ++ ys)
  take-kept zero xs ys = refl
  take-kept (suc n) [] ys = refl
  take-kept (suc n) (x ∷ xs) ys = ap (λ (l : List A). x ∷ l) (take-kept n xs ys)

  kept_from : (ys xs : List A) → keep_all (take kept_most xs) ys ≡ take kept_most (xs ++ ys)
  unfolding keep_all keep
  kept_from [] xs = rw append-nil
  kept_from (y ∷ ys) xs = rw (take-kept kept_most xs (y ∷ [])) (kept_from ys (xs ++ (y ∷ [])) ∙ rw append_snoc)

  all-kept : (ys : List A) → keep_all [] ys ≡ take kept_most ys
  all-kept ys = kept_from ys []

key-bytes : (bs : List ℕ) (n : Named) → add_bytes with_key_byte bs n ≡ record { group = n.group; next = n.next; index = n.index; file = n.file; entries = n.entries; key = keep_all n.key bs; value = n.value }
unfolding add_bytes keep_all
key-bytes [] n = refl
key-bytes (b ∷ bs) n = key-bytes bs (with_key_byte b n)

value-bytes : (bs : List ℕ) (n : Named) → add_bytes with_value_byte bs n ≡ record { group = n.group; next = n.next; index = n.index; file = n.file; entries = n.entries; key = n.key; value = keep_all n.value bs }
unfolding add_bytes keep_all
value-bytes [] n = refl
value-bytes (b ∷ bs) n = value-bytes bs (with_value_byte b n)

-- ---- one field of a line: what it says goes into the batch, or there is none whatever it says

module _ {A : Type 0} (o : Option Reading) (x : Option A) (k : A → Option Reading) (fs : List (List ℕ)) (is : o ≡ bind x k) where
  field-says : (j : A → Option Batch) → ((a : A) → whole_line (read_rest (k a) fs) ≡ kept_line (batch_line (j a))) → whole_line (read_rest o fs) ≡ kept_line (batch_line (bind x j))
  unfolding bind whole_line kept_line batch_line
  field-says j h = rw is (by x)
    where
      by : (y : Option A) → whole_line (read_rest (bind y k) fs) ≡ kept_line (batch_line (bind y j))
      by None = rw (rest-none fs)
      by (Some a) = h a

  field-fails : ((a : A) → whole_line (read_rest (k a) fs) ≡ malformed) → whole_line (read_rest o fs) ≡ malformed
  unfolding bind whole_line
  field-fails h = rw is (by x)
    where
      by : (y : Option A) → whole_line (read_rest (bind y k) fs) ≡ malformed
      by None = rw (rest-none fs)
      by (Some a) = h a

-- ---- each field by its name

module _ (l : ℕ) (n : Named) (s : List ℕ) where
  group-read : read_field s (Some (reading l Group no_digits n)) ≡ bind (number number_limit s) (λ v. Some (reading l Group no_digits (with_group v n)))
  unfolding add_to close close_as close_number bind
  group-read = number_read number_limit l Group n (λ r b. refl) refl s

  first_read : read_field s (Some (reading l First no_digits n)) ≡ bind (number number_limit s) (λ v. Some (reading l First no_digits (with_first v n)))
  unfolding add_to close close_as close_number bind
  first_read = number_read number_limit l First n (λ r b. refl) refl s

  index_read : read_field s (Some (reading l Index no_digits n)) ≡ bind (number number_limit s) (λ v. Some (reading l Index no_digits (with_index v n)))
  unfolding add_to close close_as close_number bind
  index_read = number_read number_limit l Index n (λ r b. refl) refl s

  file-read : read_field s (Some (reading l File no_digits n)) ≡ bind (number number_limit s) (λ v. Some (reading l File no_digits (with_file v n)))
  unfolding add_to close close_as close_number bind
  file-read = number_read number_limit l File n (λ r b. refl) refl s

  length-read : read_field s (Some (reading l Length no_digits n)) ≡ bind (number length_limit s) (λ v. cond (ltb n.next number_limit) (Some (reading l Length no_digits (with_entry v n))) None)
  unfolding add_to close close_as close_number close_length bind
  length-read = number_read length_limit l Length n (λ r b. refl) (split (ltb n.next number_limit) (λ e. rw e) (λ e. rw e)) s

  key-read : read_field s (Some (reading l Key no_digits n)) ≡ bind (hexadecimal s) (λ bs. Some (reading l Key no_digits (add_bytes with_key_byte bs n)))
  unfolding add_to close_as bytes_from
  key-read = bytes_read l Key with_key_byte (λ r b. refl) (λ r. refl) s n

  value_read : read_field s (Some (reading l Value no_digits n)) ≡ bind (hexadecimal s) (λ bs. Some (reading l Value no_digits (add_bytes with_value_byte bs n)))
  unfolding add_to close_as bytes_from
  value_read = bytes_read l Value with_value_byte (λ r b. refl) (λ r. refl) s n

  extra-read : read_field s (Some (reading l Extra no_digits n)) ≡ None
  unfolding read_field bind add_all add_to close close_as
  extra-read = ended s
    where
      ended : (t : List ℕ) → bind (add_all t (Some (reading l Extra no_digits n))) close ≡ None
      ended [] = refl
      ended (b ∷ t) = rw (add_none t)

  -- a field that the line's letter does not have
  extra-fails : (more : List (List ℕ)) → whole_line (read_rest (read_field s (Some (reading l Extra no_digits n))) more) ≡ malformed
  unfolding whole_line
  extra-fails more = rw (extra-read, rest-none more)

-- ---- E,group,first,file,lengths

-- what lengths behind the fields n say
unfoldable lengths_say : Named → Option (List EntryIndex) → Line
lengths_say n o = batch_line (bind o (λ es. Some (batch_of_one n.file n.group (entries (keep_all n.entries es)))))

module _ (ls : List (List ℕ)) (n : Named) (more : (m : Named) → whole_line (read_rest (Some (reading letter_e Length no_digits m)) ls) ≡ lengths_say m (entries_from m.next m.file ls)) where
  entry_kept : (v : ℕ) (o : Option (List EntryIndex)) → lengths_say (with_entry v n) o ≡ lengths_say n (bind o (λ es. Some (entry_at n.next n.file v ∷ es)))
  unfolding lengths_say bind batch_line keep_all
  entry_kept v None = refl
  entry_kept v (Some es) = refl

  length-says : (o : Option ℕ) → whole_line (read_rest (bind o (λ v. cond (ltb n.next number_limit) (Some (reading letter_e Length no_digits (with_entry v n))) None)) ls) ≡ lengths_say n (bind o (λ v. cond (ltb n.next number_limit) (bind (entries_from (suc n.next) n.file ls) (λ es. Some (entry_at n.next n.file v ∷ es))) None))
  unfolding lengths_say bind whole_line batch_line
  length-says None = rw (rest-none ls)
  length-says (Some v) =
      split (ltb n.next number_limit)
      (λ e. rw e (more (with_entry v n) ∙ entry_kept v (entries_from (suc n.next) n.file ls)))
      (λ e. rw (e, rest-none ls))

lengths_read : (ls : List (List ℕ)) (n : Named) → whole_line (read_rest (Some (reading letter_e Length no_digits n)) ls) ≡ lengths_say n (entries_from n.next n.file ls)
unfolding read_rest next_field bind after whole_line whole is_last said_by batch_line entries_from keep_all lengths_say
lengths_read [] n = refl
lengths_read (l ∷ ls) n = rw (length-read letter_e n l) (length-says ls n (lengths_read ls) (number length_limit l))

module _ (g i f : ℕ) where
  entries-kept : (o : Option (List EntryIndex)) → lengths_say (with_file f (with_first i (with_group g nothing))) o ≡ kept_line (batch_line (bind o (λ es. Some (batch_of_one f g (entries es)))))
  unfolding lengths_say bind batch_line kept_line kept_batch kept_items kept_item kept_content batch_of_one
  entries-kept None = refl
  entries-kept (Some es) = rw (all-kept es)

entries-read : (fs : List (List ℕ)) → whole_line (read_rest (Some (reading letter_e Letter no_digits nothing)) fs) ≡ kept_line (batch_line (entries_line fs))
unfolding read_rest next_field after whole_line whole is_last said_by kept_line batch_line entries_line
entries-read [] = refl
entries-read (group ∷ []) = field-fails _ _ _ [] (group-read letter_e nothing group) (λ g. refl)
entries-read (group ∷ (first ∷ [])) =
    field-fails _ _ _ (first ∷ []) (group-read letter_e nothing group)
    (λ g. field-fails _ _ _ [] (first_read letter_e (with_group g nothing) first) (λ i. refl))
entries-read (group ∷ (first ∷ (file ∷ []))) =
    field-fails _ _ _ (first ∷ (file ∷ [])) (group-read letter_e nothing group)
    (λ g. field-fails _ _ _ (file ∷ []) (first_read letter_e (with_group g nothing) first)
    (λ i. field-fails _ _ _ [] (file-read letter_e (with_first i (with_group g nothing)) file) (λ f. refl)))
entries-read (group ∷ (first ∷ (file ∷ (length ∷ lengths)))) =
    field-says _ _ _ (first ∷ (file ∷ (length ∷ lengths))) (group-read letter_e nothing group) _
    (λ g. field-says _ _ _ (file ∷ (length ∷ lengths)) (first_read letter_e (with_group g nothing) first) _
    (λ i. field-says _ _ _ (length ∷ lengths) (file-read letter_e (with_first i (with_group g nothing)) file) _
    (λ f. lengths_read (length ∷ lengths) (with_file f (with_first i (with_group g nothing))) ∙ entries-kept g i f (entries_from i f (length ∷ lengths)))))

-- ---- P,group,file,key,value

put-read : (fs : List (List ℕ)) → whole_line (read_rest (Some (reading letter_p Letter no_digits nothing)) fs) ≡ kept_line (batch_line (put_line fs))
unfolding read_rest next_field after whole_line whole is_last said_by kept_line batch_line put_line kept_batch kept_items kept_item kept_content kept_change batch_of_one
put-read [] = refl
put-read (group ∷ []) = field-fails _ _ _ [] (group-read letter_p nothing group) (λ g. refl)
put-read (group ∷ (file ∷ [])) =
    field-fails _ _ _ (file ∷ []) (group-read letter_p nothing group)
    (λ g. field-fails _ _ _ [] (file-read letter_p (with_group g nothing) file) (λ f. refl))
put-read (group ∷ (file ∷ (key ∷ []))) =
    field-fails _ _ _ (file ∷ (key ∷ [])) (group-read letter_p nothing group)
    (λ g. field-fails _ _ _ (key ∷ []) (file-read letter_p (with_group g nothing) file)
    (λ f. field-fails _ _ _ [] (key-read letter_p (with_file f (with_group g nothing)) key) (λ k. refl)))
put-read (group ∷ (file ∷ (key ∷ (value ∷ [])))) =
    field-says _ _ _ (file ∷ (key ∷ (value ∷ []))) (group-read letter_p nothing group) _
    (λ g. field-says _ _ _ (key ∷ (value ∷ [])) (file-read letter_p (with_group g nothing) file) _
    (λ f. field-says _ _ _ (value ∷ []) (key-read letter_p (with_file f (with_group g nothing)) key) _
    (λ k. field-says _ _ _ [] (value_read letter_p (add_bytes with_key_byte k (with_file f (with_group g nothing))) value) _
    (λ v. rw (value-bytes v (add_bytes with_key_byte k (with_file f (with_group g nothing))), key-bytes k (with_file f (with_group g nothing)), all-kept k, all-kept v)))))
put-read (group ∷ (file ∷ (key ∷ (value ∷ (extra ∷ more))))) =
    field-fails _ _ _ (file ∷ (key ∷ (value ∷ (extra ∷ more)))) (group-read letter_p nothing group)
    (λ g. field-fails _ _ _ (key ∷ (value ∷ (extra ∷ more))) (file-read letter_p (with_group g nothing) file)
    (λ f. field-fails _ _ _ (value ∷ (extra ∷ more)) (key-read letter_p (with_file f (with_group g nothing)) key)
    (λ k. field-fails _ _ _ (extra ∷ more) (value_read letter_p (add_bytes with_key_byte k (with_file f (with_group g nothing))) value)
    (λ v. extra-fails letter_p (add_bytes with_value_byte v (add_bytes with_key_byte k (with_file f (with_group g nothing)))) extra more))))

-- ---- D,group,key

del-read : (fs : List (List ℕ)) → whole_line (read_rest (Some (reading letter_d Letter no_digits nothing)) fs) ≡ kept_line (batch_line (del_line fs))
unfolding read_rest next_field after whole_line whole is_last said_by kept_line batch_line del_line kept_batch kept_items kept_item kept_content kept_change batch_of_one
del-read [] = refl
del-read (group ∷ []) = field-fails _ _ _ [] (group-read letter_d nothing group) (λ g. refl)
del-read (group ∷ (key ∷ [])) =
    field-says _ _ _ (key ∷ []) (group-read letter_d nothing group) _
    (λ g. field-says _ _ _ [] (key-read letter_d (with_group g nothing) key) _
    (λ k. rw (key-bytes k (with_group g nothing), all-kept k)))
del-read (group ∷ (key ∷ (extra ∷ more))) =
    field-fails _ _ _ (key ∷ (extra ∷ more)) (group-read letter_d nothing group)
    (λ g. field-fails _ _ _ (extra ∷ more) (key-read letter_d (with_group g nothing) key)
    (λ k. extra-fails letter_d (add_bytes with_key_byte k (with_group g nothing)) extra more))

-- ---- C,group,index

compact-read : (fs : List (List ℕ)) → whole_line (read_rest (Some (reading letter_c Letter no_digits nothing)) fs) ≡ kept_line (batch_line (compact_line fs))
unfolding read_rest next_field after whole_line whole is_last said_by kept_line batch_line compact_line kept_batch kept_items kept_item kept_content batch_of_one
compact-read [] = refl
compact-read (group ∷ []) = field-fails _ _ _ [] (group-read letter_c nothing group) (λ g. refl)
compact-read (group ∷ (index ∷ [])) =
    field-says _ _ _ (index ∷ []) (group-read letter_c nothing group) _
    (λ g. field-says _ _ _ [] (index_read letter_c (with_group g nothing) index) _ (λ i. refl))
compact-read (group ∷ (index ∷ (extra ∷ more))) =
    field-fails _ _ _ (index ∷ (extra ∷ more)) (group-read letter_c nothing group)
    (λ g. field-fails _ _ _ (extra ∷ more) (index_read letter_c (with_group g nothing) index)
    (λ i. extra-fails letter_c (with_index i (with_group g nothing)) extra more))

-- ---- X,group

clean-read : (fs : List (List ℕ)) → whole_line (read_rest (Some (reading letter_x Letter no_digits nothing)) fs) ≡ kept_line (batch_line (clean_line fs))
unfolding read_rest next_field after whole_line whole is_last said_by kept_line batch_line clean_line kept_batch kept_items kept_item kept_content batch_of_one
clean-read [] = refl
clean-read (group ∷ []) = field-says _ _ _ [] (group-read letter_x nothing group) _ (λ g. refl)
clean-read (group ∷ (extra ∷ more)) =
    field-fails _ _ _ (extra ∷ more) (group-read letter_x nothing group) (λ g. extra-fails letter_x (with_group g nothing) extra more)

-- ---- M

merge-read : (fs : List (List ℕ)) → whole_line (read_rest (Some (reading letter_m Letter no_digits nothing)) fs) ≡ kept_line (merge_line fs)
unfolding read_rest next_field after whole_line whole is_last said_by kept_line merge_line
merge-read [] = refl
merge-read (extra ∷ more) = extra-fails letter_m nothing extra more

-- ---- a line

-- no letter is 0
letter-not-zero : (l : ℕ) → is_letter l ≡ true → eqb l 0 ≡ false
unfolding is_letter
letter-not-zero l e = split (eqb l 0) (λ z. absurd (false≢true (rw (eqb-true l 0 z) at e))) (λ z. z)

module _ (fs : List (List ℕ)) where
  no-letter-read : whole_line (read_rest (read_field [] (Some begin)) fs) ≡ malformed
  unfolding read_field read_rest add_all bind close close_as next_field after whole_line whole is_last said_by
  no-letter-read = by fs
    where
      by : (gs : List (List ℕ)) → whole_line (read_rest (Some begin) gs) ≡ malformed
      by [] = refl
      by (extra ∷ more) = extra-fails 0 nothing extra more

  letter-read : (l : ℕ) → whole_line (read_rest (read_field (l ∷ []) (Some begin)) fs) ≡ kept_line (letter_line l fs)
  unfolding read_field add_all bind add_to add_letter close close_as is_letter letter_line kept_line whole_line
  letter-read l =
      split (eqb l letter_e) (λ e. rw (eqb-true l letter_e e) (entries-read fs))
      (λ e. split (eqb l letter_p) (λ p. rw (eqb-true l letter_p p) (put-read fs))
      (λ p. split (eqb l letter_d) (λ d. rw (eqb-true l letter_d d) (del-read fs))
      (λ d. split (eqb l letter_c) (λ c. rw (eqb-true l letter_c c) (compact-read fs))
      (λ c. split (eqb l letter_x) (λ x. rw (eqb-true l letter_x x) (clean-read fs))
      (λ x. split (eqb l letter_m) (λ m. rw (eqb-true l letter_m m) (merge-read fs))
      (λ m. rw (e, p, d, c, x, m, rest-none fs)))))))

  -- a letter with a byte behind it
  long-letter-read : (l b : ℕ) (s : List ℕ) → whole_line (read_rest (read_field (l ∷ (b ∷ s)) (Some begin)) fs) ≡ malformed
  unfolding read_field add_all bind add_to add_letter whole_line
  long-letter-read l b s =
      split (is_letter l)
      (λ e. rw (e, letter-not-zero l e, add_none s, rest-none fs))
      (λ e. rw (e, add_none s, rest-none fs))

  first-field-read : (f : List ℕ) → whole_line (read_rest (read_field f (Some begin)) fs) ≡ kept_line (fields_line f fs)
  unfolding fields_line kept_line
  first-field-read [] = no-letter-read
  first-field-read (l ∷ []) = letter-read l
  first-field-read (l ∷ (b ∷ s)) = long-letter-read l b s

-- a line read byte by byte says what the line says, as far as it is kept
pub line_read : (s : List ℕ) → end_line (read_bytes s (Some begin)) ≡ kept_line (line_of s)
unfolding end_line line_of
line_read s = rw (fields_read s (Some begin)) (first-field-read (other_fields s) (first_field s))

-- one byte more
pub read_more : (s : List ℕ) (b : ℕ) (r : Option Reading) → read_bytes (s ++ (b ∷ [])) r ≡ read_byte (read_bytes s r) b
unfolding read_bytes
read_more [] b r = refl
read_more (c ∷ s) b r = read_more s b (read_byte r c)
