-- A query of a group that stands at stretch k, by what the head and the parts of the stretch answer. Assumes nothing.
use mathlib.Core.Bool.{Bool}
use mathlib.Core.List.{List}
use Rattle.std.specs.Prelude.{Option, IsErrAnd}
use Rattle.std.proofs.lemmas.Result.{err_from_is_err_and}
use mathlib.Core.Path.{◌≡◌, refl, sym, ◌∙◌}
use Prim.Native.Nat.{ℕ, ◌*◌, ◌/◌, ◌≤◌, ◌<◌}
use lib.ListN.{length, take}
use Rattle.maps.specs.Maps.{Map}
use Rattle.rules.specs.Causes.{Cause, ByCause, Err, Result, Ok, and_then}
use Rattle.rules.specs.Items.{LogQueue}
use Rattle.rules.specs.Table.{Held, Table, first_index_of, last_index}
use Rattle.rules.specs.TableQueries.{KeyValue, rewrite_count, get_key, min_file_seq}
use Rattle.rules.specs.Queries.{in_group, answered, lent_after}
use Rattle.kvs.specs.Rows.{keys_in}
use Rattle.kvs.specs.Rows as kvs
use Rattle.kvs.specs.RowLaws.{length-keys}
use Rattle.kvs.specs.SameLaws.{keys_used}
use Rattle.kvs.specs.Calls.{GetKey}
use Rattle.key_lists.specs.Lists.{lens_after, bytes_after, Fetches}
use Rattle.memtable.specs.declared.Head.{Head}
use Rattle.memtable.specs.Views.{table_of}
use Rattle.memtable.specs.Views as memtable
use Rattle.memtable.specs.Queries.{FirstAnswer, LastAnswer, RewriteCountAnswer}
use Rattle.memtable.specs.Whole.{MinFileSeq}
use Rattle.memtable.specs.WindowLaws.{length-window}
use Rattle.stretch.specs.Stretch.{head_part, entry_rows, key_count, key_rows, is_counted, table_in}
use Rattle.stretch.specs.Stretch as stretch
use Rattle.groups.specs.Area.{stretch_at, bytes_at}
use Rattle.contexts.specs.Contexts.{context_of, Wf}
use Rattle.queries.specs.Fetches.{KeysFetched}
use Rattle.queries.specs.Places.{StandsAt, Stands}
use Rattle.queries.specs.PlaceLaws.{asked_at, asked-absent}
use Rattle.queries.proofs.RowLists.{Short, rows_left}

module _ {g : ℕ} {xs bs : List ℕ} {k : ℕ} (s : StandsAt g xs bs k) where
  -- stretch k is within the numbers and the bytes
  pub numbers-there : Wf xs bs → (k < 8) × (9376 ≤ length xs)
  numbers-there w = (s.inside, w.groups.numbers_fit)

  pub bytes-there : Wf xs bs → (k < 8) × (16384 ≤ length bs)
  bytes-there w = (s.inside, w.groups.bytes_fit)

  module _ {h : Head} (e : h ≡ head_part (stretch_at k xs)) where
    pub entries_wf : {rows : List ℕ} → rows ≡ entry_rows (stretch_at k xs) → memtable.Wf h rows
    entries_wf d = rw (e, d) s.wf.numbers.entries

    pub own_wf : memtable.Wf h (entry_rows (stretch_at k xs))
    own_wf = entries_wf refl

    -- what the head and the rows of entries answer, whatever keys are beside them, the group answers
    pub by_entries_lem : {A : Type 0} (query : Table → Result A) {rows : List ℕ} → rows ≡ entry_rows (stretch_at k xs) → (a : Result A) → ((keys : Map (List ℕ) Held) (counted : Bool) → a ≡ query (table_of h rows keys counted)) → a ≡ in_group g query (context_of xs bs)
    unfolding table_in
    by_entries_lem query d a f =
        let p = stretch_at k xs in
        rw (e, d) at (f (keys_in (key_count p) (key_rows p) (bytes_at k bs)) (is_counted p)) ∙ sym (asked_at g query xs bs k s)

    pub first-there : (f : Option ℕ) → FirstAnswer h f → Ok f ≡ in_group g (λ t. Ok (first_index_of t.entries)) (context_of xs bs)
    unfolding table_of
    first-there f a = by_entries_lem (λ t. Ok (first_index_of t.entries)) {rows = entry_rows (stretch_at k xs)} refl (Ok f) (λ keys counted. rw (a (entry_rows (stretch_at k xs))))

    pub last-there : (f : Option ℕ) → LastAnswer h f → Ok f ≡ in_group g (λ t. Ok (last_index t.entries)) (context_of xs bs)
    unfolding table_of
    last-there f a = by_entries_lem (λ t. Ok (last_index t.entries)) {rows = entry_rows (stretch_at k xs)} refl (Ok f) (λ keys counted. rw (a (entry_rows (stretch_at k xs))))

    pub rewritten-there : (n : ℕ) → RewriteCountAnswer h n → Ok n ≡ in_group g (λ t. Ok (rewrite_count t)) (context_of xs bs)
    rewritten-there n a =
        by_entries_lem (λ t. Ok (rewrite_count t)) {rows = entry_rows (stretch_at k xs)} refl (Ok n) (λ keys counted. rw (a (entry_rows (stretch_at k xs)) own_wf keys counted))

    pub count-there : Ok h.len ≡ in_group g (λ t. Ok (length t.entries)) (context_of xs bs)
    unfolding table_of
    count-there =
        by_entries_lem (λ t. Ok (length t.entries)) {rows = entry_rows (stretch_at k xs)} refl (Ok h.len) (λ keys counted. rw (length-window h.first_index h.len (entry_rows (stretch_at k xs))))

  -- ---- keys

  module _ {n : ℕ} {rows b : List ℕ} (c : n ≡ key_count (stretch_at k xs)) (d : rows ≡ key_rows (stretch_at k xs)) (e : b ≡ bytes_at k bs) where
    pub keys_wf : kvs.Wf n rows b
    keys_wf = rw (c, d, e) s.wf.keys

    keys-are : (table_in (stretch_at k xs) (bytes_at k bs)).keys ≡ keys_in n rows b
    unfolding table_in table_of
    keys-are = rw (c, d, e)

    pub keys-there : (query : Table → Result (List KeyValue)) (lens out lens' out' : List ℕ) (r : ByCause ℕ) → ((t : Table) → t.keys ≡ keys_in n rows b → Fetches (query t) lens out r lens' out') → ((t : Table) → t.keys ≡ keys_in n rows b → Short (query t)) → KeysFetched (in_group g query (context_of xs bs)) lens out r lens' out'
    keys-there query lens out lens' out' r a h =
        let t = table_in (stretch_at k xs) (bytes_at k bs) in
        let u = a t keys-are in
        rw (asked_at g query xs bs k s)
        (record {
          number = u.answer;
          lens-are = u.lens-are;
          bytes-are = u.bytes-are;
          rows_are = rw (u.lens-are, u.bytes-are) (rows_left lens out (query t) (h t keys-are));
        })

  pub keys-counted : {n : ℕ} → n ≡ key_count (stretch_at k xs) → Ok n ≡ in_group g (λ t. Ok (length t.keys)) (context_of xs bs)
  unfolding table_in table_of
  keys-counted c =
      rw (asked_at g (λ t. Ok (length t.keys)) xs bs k s, length-keys (key_count (stretch_at k xs)) (key_rows (stretch_at k xs)) (bytes_at k bs), c)

-- ---- a group that is absent, as a `?` passes it on: the lists are as they were

pub keys-absent : {g : ℕ} {xs bs : List ℕ} {place : ByCause ℕ} {e : Cause} (query : Table → Result (List KeyValue)) {lens out : List ℕ} → Stands g xs bs place → place ≡ Err e → (r : ByCause ℕ) → IsErrAnd r (λ y. y ≡ e) → KeysFetched (in_group g query (context_of xs bs)) lens out r lens out
unfolding answered and_then lens_after bytes_after lent_after
keys-absent query s h r p =
    let q = err_from_is_err_and r p in
    rw (q.1, q.2, ← asked-absent _ _ _ _ _ _ s h) (record { number = refl; lens-are = refl; bytes-are = refl; rows_are = refl })

-- ---- `get` and `min_file_seq` in the stretch p with its bytes d

module _ (p d : List ℕ) where
  module _ {h : Head} {es : List ℕ} {n : ℕ} {rows : List ℕ} (a : h ≡ head_part p) (b : es ≡ entry_rows p) (c : n ≡ key_count p) (e : rows ≡ key_rows p) (w : stretch.Wf p d) where
    pub min-fits : memtable.Wf h es
    min-fits = rw (a, b) w.numbers.entries

    rows-fit : n * 4 ≤ length rows
    rows-fit = rw (c, e) w.keys.rows_fit

    pub min-there : (q : LogQueue) (f : Option ℕ) → MinFileSeq h es (length (take (n * 4) rows) / 4) (take (n * 4) rows) q f → f ≡ min_file_seq q (table_in p d)
    unfolding table_in
    min-there q f m =
        let k : keys_in (length (take (n * 4) rows) / 4) (take (n * 4) rows) d ≡ keys_in n rows d = keys_used n rows d (take (n * 4) rows) rows-fit refl in
        m d (is_counted p) ∙ rw (k, a, b, c, e)

  pub got-there : {n : ℕ} {rows b : List ℕ} → n ≡ key_count p → rows ≡ key_rows p → b ≡ d → (key : List ℕ) (value : Option (List ℕ)) → GetKey (keys_in n rows b) key value → value ≡ get_key key (table_in p d)
  unfolding table_in table_of get_key
  got-there c e f key value g = rw (c, e, f) at g
