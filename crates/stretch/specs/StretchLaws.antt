-- A stretch taken apart into what it holds, and what it holds after a head, rows or a number of keys are laid in. Assumes nothing.
use Rattle.pipe_log.specs.declared.Span.{Span}
use Rattle.std.specs.Prelude.{Option, Some, None, Bool, cond, ◌≡◌, refl, eqb, get_or, take}
use mathlib.Core.List.{List, [], ◌∷◌}
use Rattle.std.proofs.Common.{sym, ◌∙◌, arith}
use Rattle.std.proofs.Math.Path.{ap}
use Prim.Native.Nat.{ℕ, ◌+◌, ◌-◌, ◌≤◌, ◌<◌}
use Rattle.std.proofs.Math.ListN.{length}
use Rattle.cells.specs.Part.{put}
use Rattle.cells.specs.PartLaws.{length_part, length-put, take_put, get_or-put-in, get_or-put-before, get_or-put-after, part-put_same, part-put-before, part-put-after}
use Rattle.kvs.specs.Rows.{keys_in}
use Rattle.kvs.specs.Rows as kvs
use Rattle.memtable.specs.declared.Head.{Head}
use Rattle.memtable.specs.Views.{table_of}
use Rattle.memtable.specs.Views as memtable
use Rattle.stretch.specs.Stretch.{span_in, head_part, key_count, is_counted, span_numbers, head_numbers, entry_rows_at, key_rows_at, table_at, WfAt}

-- the head, the rows of entries, the number of keys, their rows and the mark of counting that the numbers hold
pub record Holds (w : ℕ) (q : List ℕ) (h : Head) (xs : List ℕ) (n : ℕ) (rows : List ℕ) (c : Bool) : Type 0 where
  pub from : 10 ≤ w
  pub to : w ≤ length q
  pub head : head_part q ≡ h
  pub entries : entry_rows_at w q ≡ xs
  pub count : key_count q ≡ n
  pub keys : key_rows_at w q ≡ rows
  pub counted : is_counted q ≡ c

pub own : (w : ℕ) (p : List ℕ) → 10 ≤ w → w ≤ length p → Holds w p (head_part p) (entry_rows_at w p) (key_count p) (key_rows_at w p) (is_counted p)
own w p a b = record { from = a; to = b; head = refl; entries = refl; count = refl; keys = refl; counted = refl }

-- how long the rows are
pub length-entries : (w : ℕ) (p : List ℕ) → 10 ≤ w → w ≤ length p → length (entry_rows_at w p) ≡ w - 10
unfolding entry_rows_at
length-entries w p a b = length_part 10 (w - 10) p (omega arith)

pub length-keys : (w : ℕ) (p : List ℕ) → w ≤ length p → length (key_rows_at w p) ≡ length p - w
unfolding key_rows_at
length-keys w p b = length_part w (length p - w) p (omega arith)

-- ---- the numbers of a head

length-span : (a : Option Span) → length (span_numbers a) ≡ 3
unfolding span_numbers
length-span None = refl
length-span (Some s') = refl

pub length-head : (h : Head) → length (head_numbers h) ≡ 6
unfolding head_numbers
length-head h = rw (length-span h.atomic_group)

-- they are 3
pub three-numbers : (a : Option Span) → span_numbers a ≡ get_or (span_numbers a) 0 0 ∷ get_or (span_numbers a) 1 0 ∷ get_or (span_numbers a) 2 0 ∷ []
unfolding span_numbers
three-numbers None = refl
three-numbers (Some s') = refl

span-back : (a : Option Span) → cond (eqb (get_or (span_numbers a) 0 0) 0) None (Some (record { start = (get_or (span_numbers a) 1 0); end = (get_or (span_numbers a) 2 0) })) ≡ a
unfolding span_numbers
span-back None = refl
span-back (Some s') = refl

-- a head depends on the header's first 8 numbers alone
pub head_same : (p q : List ℕ) → ((i : ℕ) → i < 8 → get_or q i 0 ≡ get_or p i 0) → head_part q ≡ head_part p
unfolding head_part span_in
head_same p q e =
    rw (e 2 (omega arith), e 3 (omega arith), e 4 (omega arith), e 5 (omega arith), e 6 (omega arith), e 7 (omega arith))

-- a head that was written is read
head-put : (q : List ℕ) (h : Head) → 2 ≤ length q → head_part (put q 2 (head_numbers h)) ≡ h
unfolding head_part span_in head_numbers
head-put q h l =
    let s = head_numbers h in
    let n : length s ≡ 6 = length-head h in
    let e : (i : ℕ) → i < 6 → get_or (put q 2 s) (2 + i) 0 ≡ get_or s i 0 = λ i b. get_or-put-in q 2 s i 0 (omega arith) l in
    let a : span_in (put q 2 s) ≡ h.atomic_group =
    rw (e 3 (omega arith), e 4 (omega arith), e 5 (omega arith)) (span-back h.atomic_group) in
    λ j. record {
      first_index = e 0 (omega arith) j;
      len = e 1 (omega arith) j;
      rewrite_count = e 2 (omega arith) j;
      atomic_group = a j;
    }

-- ---- what is laid in

-- what is laid in before the rows of keys leaves them
pub keys-after : (w : ℕ) (q : List ℕ) (at : ℕ) (s : List ℕ) → at + length s ≤ w → w ≤ length q → key_rows_at w (put q at s) ≡ key_rows_at w q
unfolding key_rows_at
keys-after w q at s a b = rw (length-put q at s (omega arith)) (part-put-after w (length q - w) q at s a (omega arith))

module _ (w : ℕ) (q : List ℕ) (h : Head) (xs : List ℕ) (n : ℕ) (rows : List ℕ) (c : Bool) (o : Holds w q h xs n rows c) where
  pub with-head : (g : Head) → Holds w (put q 2 (head_numbers g)) g xs n rows c
  unfolding entry_rows_at key_count is_counted
  with-head g =
      let s = head_numbers g in
      let l : length s ≡ 6 = length-head g in
      let a = o.from in
      let b = o.to in
      let m : length (put q 2 s) ≡ length q = length-put q 2 s (omega arith) in
      record {
        from = a;
        to = omega arith;
        head = head-put q g (omega arith);
        entries = part-put-after 10 (w - 10) q 2 s (omega arith) (omega arith) ∙ o.entries;
        count = get_or-put-after q 2 s 8 0 (omega arith) (omega arith) ∙ o.count;
        keys = keys-after w q 2 s (omega arith) b ∙ o.keys;
        counted = rw (get_or-put-after q 2 s 9 0 (omega arith) (omega arith)) o.counted;
      }

  pub with_entries_lem : (ys : List ℕ) → length ys ≡ length xs → Holds w (put q 10 ys) h ys n rows c
  unfolding entry_rows_at key_count is_counted
  with_entries_lem ys l =
      let a = o.from in
      let b = o.to in
      let k : length ys ≡ w - 10 = l ∙ ap length (sym o.entries) ∙ length-entries w q a b in
      let m : length (put q 10 ys) ≡ length q = length-put q 10 ys (omega arith) in
      record {
        from = a;
        to = omega arith;
        head = head_same q (put q 10 ys) (λ i d. get_or-put-before q 10 ys i 0 (omega arith) (omega arith)) ∙ o.head;
        entries = part-put_same (w - 10) q 10 ys k (omega arith);
        count = get_or-put-before q 10 ys 8 0 (omega arith) (omega arith) ∙ o.count;
        keys = keys-after w q 10 ys (omega arith) b ∙ o.keys;
        counted = rw (get_or-put-before q 10 ys 9 0 (omega arith) (omega arith)) o.counted;
      }

  pub with-count : (m : ℕ) → Holds w (put q 8 (m ∷ [])) h xs m rows c
  unfolding entry_rows_at key_count is_counted
  with-count m =
      let s : List ℕ = m ∷ [] in
      let a = o.from in
      let b = o.to in
      let k : length (put q 8 s) ≡ length q = length-put q 8 s (omega arith) in
      record {
        from = a;
        to = omega arith;
        head = head_same q (put q 8 s) (λ i d. get_or-put-before q 8 s i 0 d (omega arith)) ∙ o.head;
        entries = part-put-after 10 (w - 10) q 8 s (omega arith) (omega arith) ∙ o.entries;
        count = get_or-put-in q 8 s 0 0 (omega arith) (omega arith);
        keys = keys-after w q 8 s (omega arith) b ∙ o.keys;
        counted = rw (get_or-put-after q 8 s 9 0 (omega arith) (omega arith)) o.counted;
      }

  pub with-counted : (m : ℕ) → Holds w (put q 9 (m ∷ [])) h xs n rows (eqb m 1)
  unfolding entry_rows_at key_count is_counted
  with-counted m =
      let s : List ℕ = m ∷ [] in
      let a = o.from in
      let b = o.to in
      let k : length (put q 9 s) ≡ length q = length-put q 9 s (omega arith) in
      record {
        from = a;
        to = omega arith;
        head = head_same q (put q 9 s) (λ i d. get_or-put-before q 9 s i 0 (omega arith) (omega arith)) ∙ o.head;
        entries = part-put-after 10 (w - 10) q 9 s (omega arith) (omega arith) ∙ o.entries;
        count = get_or-put-before q 9 s 8 0 (omega arith) (omega arith) ∙ o.count;
        keys = keys-after w q 9 s (omega arith) b ∙ o.keys;
        counted = rw (get_or-put-in q 9 s 0 0 (omega arith) (omega arith));
      }

  pub with_keys_lem : (r : List ℕ) → length r ≡ length rows → Holds w (put q w r) h xs n r c
  unfolding entry_rows_at key_rows_at key_count is_counted
  with_keys_lem r l =
      let a = o.from in
      let b = o.to in
      let k : length r ≡ length q - w = l ∙ ap length (sym o.keys) ∙ length-keys w q b in
      let m : length (put q w r) ≡ length q = length-put q w r (omega arith) in
      record {
        from = a;
        to = omega arith;
        head = head_same q (put q w r) (λ i d. get_or-put-before q w r i 0 (omega arith) b) ∙ o.head;
        entries = part-put-before 10 (w - 10) q w r (omega arith) b ∙ o.entries;
        count = get_or-put-before q w r 8 0 (omega arith) b ∙ o.count;
        keys = rw m (part-put_same (length q - w) q w r k b);
        counted = rw (get_or-put-before q w r 9 0 (omega arith) b) o.counted;
      }

  -- ---- what the stretch stands for

  pub table_of_lem : (b : List ℕ) → table_at w q b ≡ table_of h xs (keys_in n rows b) c
  unfolding table_at
  table_of_lem b = rw (o.head, o.entries, o.count, o.keys, o.counted)

  pub wf_of : (b : List ℕ) → memtable.Wf h xs → kvs.Wf n rows b → WfAt w q b
  wf_of b e k =
      record {
        numbers = record { from = o.from; to = o.to; entries = rw (o.head, o.entries) e };
        keys = rw (o.count, o.keys) k;
      }

-- used and the group's number stay where something is laid in behind them
pub front-put : (q : List ℕ) (at : ℕ) (s : List ℕ) → 2 ≤ at → at ≤ length q → take 2 (put q at s) ≡ take 2 q
front-put q at s b l = take_put 2 q at s b l
