-- Each way through the changes of a group's keys. The rows were lent and came back as rows', the bytes as b'. Assumes nothing.
use Rattle.kvs.specs.Places.{Sought}
use mathlib.Core.Bool.{false}
use mathlib.Core.List.{List, [], ◌∷◌}
use Rattle.std.specs.Prelude.{Option, None, Some}
use mathlib.Core.Path.{◌≡◌, refl, sym, ap, ◌∙◌}
use Prim.Native.Nat.{ℕ, ◌-◌, ◌/◌, ◌≤◌}
use native.Mathlib.Omega.{arith}
use lib.Dec.{leb, ltb}
use lib.ListN.{length, take, set}
use borrow.Author.Tests.{lt-leb, ltb-true}
use Rattle.cells.specs.Part.{put}
use borrow.Rule.Slice.PartMut.{put_mid}
use Rattle.cells.specs.PartLaws.{length-put, put-part, loan-put, set-put}
use Rattle.maps.specs.BoolLaws.{and-false}
use Rattle.maps.specs.Lists.{or_else}
use Rattle.maps.specs.Maps.{Map, insert, remove, bytes}
use Rattle.maps.specs.OrderLaws.{split}
use Rattle.rules.specs.Causes.{Cause, ByCause, LimitPassed, Refusal, Ok, Err, and_then}
use Rattle.rules.specs.Items.{LogQueue, Append, Rewrite, same_queue}
use Rattle.rules.specs.Table.{Held, Table, with_keys, put_key, delete_key, over_keys, rewrite_file, rewritten_key}
use Rattle.kvs.specs.Rows.{keys_in, fits}
use Rattle.kvs.specs.Rows as rows
use Rattle.kvs.specs.Merge.{merged_parts, MergeKeys}
use Rattle.kvs.specs.Calls as calls
use Rattle.kvs.specs.Calls.{room_for, put_rows, put_bytes, PutKey, DeleteKey, rewritten_as, moves, rewritten_rows, RewriteKey}
use Rattle.memtable.specs.Views.{table_of}
use Rattle.stretch.specs.Stretch.{head_part, key_count, is_counted, entry_rows_at, key_rows_at, table_at, WfAt}
use Rattle.stretch.specs.StretchLaws.{Holds, own, length-keys, with_keys_lem, with-count, table_of_lem, wf_of, front-put}
use Rattle.stretch.specs.Changes.{room_at, limited_at, keys_laid, ChangedAt}
use Rattle.stretch.proofs.Outcomes.{Kept, never, done_by, is-refused, refused_by}

-- rows that came back as they were
keys_back : (w : ℕ) (p rows' : List ℕ) → w ≤ length p → rows' ≡ key_rows_at w p → put p w rows' ≡ p
unfolding key_rows_at
keys_back w p rows' m e = rw e (put-part w (length p - w) p (omega arith))

-- the stretch after the loan: rows' is as long as what was lent
module _ (w : ℕ) (p b rows' : List ℕ) (o : WfAt w p b) (k : length rows' ≡ length (key_rows_at w p)) where
  rows-kept : length rows' ≡ length p - w
  rows-kept = k ∙ length-keys w p o.numbers.to

  length-rows : length (put p w rows') ≡ length p
  length-rows = let l = rows-kept in let t = o.numbers.to in length-put p w rows' (omega arith)

  after-loan : put_mid w (length p - w) p rows' ≡ put p w rows'
  after-loan = loan-put w (length p - w) p rows' rows-kept

  -- the number of keys is written then
  after-count : (m : ℕ) → set (put_mid w (length p - w) p rows') 8 m ≡ put (put p w rows') 8 (m ∷ [])
  after-count m =
      let n = length-rows in
      let f = o.numbers.from in
      let t = o.numbers.to in
      rw after-loan (set-put (put p w rows') 8 m (omega arith))

  -- rows' is what was lent
  as_before : rows' ≡ key_rows_at w p → put_mid w (length p - w) p rows' ≡ p
  as_before e = after-loan ∙ keys_back w p rows' o.numbers.to e

module _ (w : ℕ) (p b rows' b' : List ℕ) (o : WfAt w p b) (l : length rows' ≡ length (key_rows_at w p)) where
  holds_rows : Holds w (put p w rows') (head_part p) (entry_rows_at w p) (key_count p) rows' (is_counted p)
  holds_rows = with_keys_lem w p (head_part p) (entry_rows_at w p) (key_count p) (key_rows_at w p) (is_counted p) (own w p o.numbers.from o.numbers.to) rows' l

  front-rows : take 2 (put p w rows') ≡ take 2 p
  front-rows = let f = o.numbers.from in front-put p w rows' (omega arith) o.numbers.to

  -- the stretch with m keys in the rows
  module _ (m : ℕ) where
    holds-keys : Holds w (put (put p w rows') 8 (m ∷ [])) (head_part p) (entry_rows_at w p) m rows' (is_counted p)
    holds-keys = with-count w (put p w rows') (head_part p) (entry_rows_at w p) (key_count p) rows' (is_counted p) holds_rows m

    wf-keys : rows.Wf m rows' b' → WfAt w (put (put p w rows') 8 (m ∷ [])) b'
    wf-keys k = wf_of w (put (put p w rows') 8 (m ∷ [])) (head_part p) (entry_rows_at w p) m rows' (is_counted p) holds-keys b' o.numbers.entries k

    table-keys : table_at w (put (put p w rows') 8 (m ∷ [])) b' ≡ with_keys (keys_in m rows' b') (table_at w p b)
    unfolding table_at table_of with_keys
    table-keys = table_of_lem w (put (put p w rows') 8 (m ∷ [])) (head_part p) (entry_rows_at w p) m rows' (is_counted p) holds-keys b'

    front-keys : take 2 (put (put p w rows') 8 (m ∷ [])) ≡ take 2 p
    front-keys =
        let k = length-rows w p b rows' o l in
        let f = o.numbers.from in
        let t = o.numbers.to in
        front-put (put p w rows') 8 (m ∷ []) (omega arith) (omega arith) ∙ front-rows

    kept-keys : length b' ≡ length b → Kept p b (put (put p w rows') 8 (m ∷ [])) b'
    kept-keys n =
        let k = length-rows w p b rows' o l in
        let f = o.numbers.from in
        let t = o.numbers.to in
        record { numbers = length-put (put p w rows') 8 (m ∷ []) (omega arith) ∙ k; bytes = n }

-- ---- keys changed by a function of the map

module _ (w : ℕ) (p b rows' b' : List ℕ) (o : WfAt w p b) (l : length rows' ≡ length (key_rows_at w p)) (by : Map (List ℕ) Held → Map (List ℕ) Held) where
  keys-done : (m : ℕ) → length b' ≡ length b → calls.Holds m rows' b' (by (keys_in (key_count p) (key_rows_at w p) b))
      → ChangedAt w (λ t. Ok (with_keys (by t.keys) t)) p b (Ok tt) (set (put_mid w (length p - w) p rows') 8 m) b'
  unfolding table_at table_of
  keys-done m n t =
      rw (after-count w p b rows' o l m)
      (done_by w (λ t. Ok (with_keys (by t.keys) t)) p b o (put (put p w rows') 8 (m ∷ [])) b' (kept-keys w p b rows' b' o l m n) (wf-keys w p b rows' b' o l m t.wf) (front-keys w p b rows' b' o l m)
      (ap Ok (table-keys w p b rows' b' o l m ∙ ap (λ x. with_keys x (table_at w p b)) t.is)))

  -- keys for which there are no rows
  no_room : (n : Cause) → Err n ≡ room_for (length (by (keys_in (key_count p) (key_rows_at w p) b))) (key_rows_at w p) b → (n ≡ LimitPassed) × (room_at w p b (with_keys (by (table_at w p b).keys) (table_at w p b)) ≡ false)
  unfolding room_at with_keys room_for table_at table_of
  no_room n f =
      let c = length (by (keys_in (key_count p) (key_rows_at w p) b)) in
      split (fits c (key_rows_at w p) b)
      (λ y. let z : ◌≡◌ {A = ℕ} 0 1 = (let g : ◌≡◌ {A = ByCause ℕ} (Err n) (Ok c) = rw y at f in cc) in absurd (omega arith))
      (λ y. let g : ◌≡◌ {A = ByCause ℕ} (Err n) (Err LimitPassed) = rw y at f in (cc, rw y (and-false (leb (length (table_at w p b).entries) (length (entry_rows_at w p) / 8)))))

  keys-full : (n : Cause) → Err n ≡ room_for (length (by (keys_in (key_count p) (key_rows_at w p) b))) (key_rows_at w p) b → rows' ≡ key_rows_at w p → b' ≡ b
      → ChangedAt w (λ t. Ok (with_keys (by t.keys) t)) p b (Err n) (put_mid w (length p - w) p rows') b'
  unfolding limited_at and_then
  keys-full n f r e =
      let x = no_room n f in
      rw (as_before w p b rows' o l r, e, x.0) (is-refused w (λ t. Ok (with_keys (by t.keys) t)) p b o LimitPassed (rw x.1))

-- ---- `put`

module _ (w : ℕ) (p b rows' b' : List ℕ) (o : WfAt w p b) (l : length rows' ≡ length (key_rows_at w p)) (k : List ℕ) (h : Held) where
  pub put-done : (m : ℕ) → length b' ≡ length b → PutKey (key_count p) (key_rows_at w p) b k h (Ok m) rows' b'
      → ChangedAt w (λ t. Ok (put_key k h t)) p b (Ok tt) (set (put_mid w (length p - w) p rows') 8 m) b'
  unfolding calls.Stands put_key
  put-done m n t = keys-done w p b rows' b' o l (insert bytes k h) m n t.stands

  pub put_full : (n : Cause) → PutKey (key_count p) (key_rows_at w p) b k h (Err n) rows' b' → ChangedAt w (λ t. Ok (put_key k h t)) p b (Err n) (put_mid w (length p - w) p rows') b'
  unfolding put_rows put_bytes put_key
  put_full n t = keys-full w p b rows' b' o l (insert bytes k h) n t.answer t.rows_are t.bytes-are

-- ---- `delete`

pub deleting : (w : ℕ) (p b rows' b' : List ℕ) → WfAt w p b → length rows' ≡ length (key_rows_at w p) → length b' ≡ length b → (k : List ℕ) (m : ℕ) → DeleteKey (key_count p) (key_rows_at w p) b k m rows' b'
    → ChangedAt w (λ t. Ok (delete_key k t)) p b (Ok tt) (set (put_mid w (length p - w) p rows') 8 m) b'
unfolding delete_key
deleting w p b rows' b' o l n k m t = keys-done w p b rows' b' o l (remove bytes k) m n t.holds

-- ---- `lay_keys`

module _ (w : ℕ) (p b rows' b' : List ℕ) (o : WfAt w p b) (l : length rows' ≡ length (key_rows_at w p)) (newer : Map (List ℕ) Held) where
  pub merge-done : (m : ℕ) → length b' ≡ length b → MergeKeys (key_count p) (key_rows_at w p) b newer (Ok m) rows' b'
      → ChangedAt w (keys_laid newer) p b (Ok tt) (set (put_mid w (length p - w) p rows') 8 m) b'
  unfolding calls.Stands keys_laid
  merge-done m n t = keys-done w p b rows' b' o l (λ x. over_keys x newer) m n t.stands

  pub merge-full : (n : Cause) → MergeKeys (key_count p) (key_rows_at w p) b newer (Err n) rows' b' → ChangedAt w (keys_laid newer) p b (Err n) (put_mid w (length p - w) p rows') b'
  unfolding merged_parts keys_laid
  merge-full n t = keys-full w p b rows' b' o l (λ x. over_keys x newer) n t.answer t.rows_are t.bytes-are

-- ---- `rewrite_key`

-- a key whose file would go back stays
no_move : (k : List ℕ) (gate : Option ℕ) (s : ℕ) (t : Table) (q : LogQueue) (h : Held) {u : Refusal} → h.file.queue ≡ q
    → and_then (rewrite_file q gate s h) (λ g. Ok (put_key k g t)) ≡ Err u → moves gate s h ≡ false
unfolding rewrite_file and_then moves same_queue
no_move k None s t Append h e f = absurd (never (sym f))
no_move k (Some g) s t Append h e f = absurd (never (sym f))
no_move k gate s t Rewrite h e f =
    split (ltb s h.file.seq)
    (λ y. rw e (lt-leb h.file.seq s (ltb-true s h.file.seq y)))
    (λ y. absurd (never (sym (rw y at f))))

stays : (k : List ℕ) (gate : Option ℕ) (s : ℕ) (t : Table) (i : Sought) (rows : List ℕ) (o : Option Held) {u : Refusal}
    → or_else (Ok t) (λ h. and_then (rewrite_file h.file.queue gate s h) (λ g. Ok (put_key k g t))) o ≡ Err u → rewritten_rows i o gate s rows ≡ rows
unfolding or_else rewritten_rows
stays k gate s t i rows None e = refl
stays k gate s t i rows (Some h) e = rw (no_move k gate s t h.file.queue h refl e)

module _ (w : ℕ) (p b rows' : List ℕ) (o : WfAt w p b) (l : length rows' ≡ length (key_rows_at w p)) (k : List ℕ) (gate : Option ℕ) (s : ℕ) where
  rewrite-done : RewriteKey (key_count p) (key_rows_at w p) b k gate s (Ok tt) rows' → ChangedAt w (rewritten_key k gate s) p b (Ok tt) (put_mid w (length p - w) p rows') b
  unfolding rewritten_as table_at table_of with_keys
  rewrite-done t =
      let q = put p w rows' in
      let h = holds_rows w p b rows' b o l in
      rw (after-loan w p b rows' o l)
      (done_by w (rewritten_key k gate s) p b o q b
      (record { numbers = length-rows w p b rows' o l; bytes = refl })
      (wf_of w q (head_part p) (entry_rows_at w p) (key_count p) rows' (is_counted p) h b o.numbers.entries t.wf)
      (front-rows w p b rows' b o l)
      (ap Ok (table_of_lem w q (head_part p) (entry_rows_at w p) (key_count p) rows' (is_counted p) h b) ∙ sym (t.answer (table_at w p b) refl)))

  rewrite_back : (n : Cause) → RewriteKey (key_count p) (key_rows_at w p) b k gate s (Err n) rows' → ChangedAt w (rewritten_key k gate s) p b (Err n) (put_mid w (length p - w) p rows') b
  unfolding rewritten_as rewritten_key table_at table_of
  rewrite_back n t =
      let e = t.answer (table_at w p b) refl in
      rw (as_before w p b rows' o l (t.rows_are ∙ stays k gate s (table_at w p b) _ (key_rows_at w p) _ e)) (refused_by w (rewritten_key k gate s) p b o n (sym e))

  pub rewriting : (r : ByCause (Unit {0})) → RewriteKey (key_count p) (key_rows_at w p) b k gate s r rows' → ChangedAt w (rewritten_key k gate s) p b r (put_mid w (length p - w) p rows') b
  rewriting (Ok _) t = rewrite-done t
  rewriting (Err n) t = rewrite_back n t
