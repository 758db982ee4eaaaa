-- Each way through `rewrite_key`. Assumes nothing.
use Prim.Native.Nat.{ℕ, suc, ◌+◌, ◌*◌, ◌-◌, ◌≤◌, ◌<◌}
use native.Mathlib.Nat.{zero-mul}
use native.Mathlib.Omega.{arith}
use mathlib.Core.Bool.{true, false}
use mathlib.Core.Path.{◌≡◌, refl, sym, ap, ◌∙◌}
use mathlib.Core.List.{List, [], ◌∷◌, ◌++◌}
use Rattle.std.specs.Prelude.{Option, None, Some}
use lib.ListN.{length, get_or, set, take, drop}
use borrow.Author.Tests.{le-leb, lt-leb, lt-ltb, le-ltb, ne_eqb}
use Rattle.cells.specs.Part.{part, put}
use Rattle.cells.specs.PartLaws.{length-put, length_part, part-put-before, part-put-after, part-put-around, get_or-put-before, get_or-put-in, set-put, put-snoc}
use Rattle.pipe_log.specs.Rows.{queue_at}
use Rattle.maps.specs.Lists.{or_else}
use Rattle.maps.specs.Maps.{Map, lookup, insert, bytes}
use Rattle.maps.specs.OrderLaws.{bytes_lawful}
use Rattle.maps.specs.MapLaws.{pair, insert-again}
use Rattle.rules.specs.Causes.{Err, Ok, refuse, KeyGoesBack, and_then}
use Rattle.rules.specs.Items.{Append, Rewrite, same_queue}
use Rattle.rules.specs.Table.{Held, Table, with_keys, put_key, rewrite_file, rewritten_key}
use Rattle.kvs.specs.Rows.{row_at, key_of, value_of, held_of, pair_of, keys_in, RowOk, Wf}
use Rattle.kvs.specs.RowLaws.{Same}
use Rattle.kvs.specs.RowIn.{RowIn, row_in, number_at}
use Rattle.kvs.specs.Places.{place_of, laid_at, below_at}
use Rattle.kvs.specs.PlaceLaws.{insert-place}
use Rattle.kvs.specs.Calls.{held_by, Holds, rewritten_as, moves, moved_rows, rewritten_rows, RewriteKey}
use Rattle.kvs.proofs.Search.{at_below}
use Rattle.kvs.proofs.Puts.{put_holds}
use Rattle.kvs.proofs.Found.{absent_in, found_at_lem, found_key}

-- two stores are one put
pub two_stores : (i s : ℕ) (rows : List ℕ) → i * 4 + 4 ≤ length rows → set (set rows (i * 4 + 2) 1) (i * 4 + 2 + 1) s ≡ moved_rows i s rows
unfolding moved_rows
two_stores i s rows p = rw (set-put rows (i * 4 + 2) 1 (omega arith)) (put-snoc rows (i * 4 + 2) (1 ∷ []) s (omega arith))

-- ---- the row whose file is moved

module _ (i s : ℕ) (rows bs : List ℕ) (p : i * 4 + 4 ≤ length rows) where
  length_moved : length (moved_rows i s rows) ≡ length rows
  unfolding moved_rows
  length_moved = length-put rows (i * 4 + 2) _ (omega arith)

  numbers-moved : (row_at i (moved_rows i s rows) bs).numbers ≡ put (row_at i rows bs).numbers 2 (1 ∷ s ∷ [])
  unfolding row_at moved_rows
  numbers-moved = part-put-around (i * 4) 4 rows 2 (1 ∷ s ∷ []) (omega arith) p

  long : 4 ≡ length (row_at i rows bs).numbers
  unfolding row_at
  long = sym (length_part (i * 4) 4 rows p)

  kept : (j : ℕ) → j < 2 → get_or (row_at i (moved_rows i s rows) bs).numbers j 0 ≡ get_or (row_at i rows bs).numbers j 0
  kept j h = rw numbers-moved (get_or-put-before (row_at i rows bs).numbers 2 (1 ∷ s ∷ []) j 0 h (omega (arith, long)))

  queue-moved : get_or (row_at i (moved_rows i s rows) bs).numbers 2 0 ≡ 1
  queue-moved = rw numbers-moved (get_or-put-in (row_at i rows bs).numbers 2 (1 ∷ s ∷ []) 0 0 (omega arith) (omega (arith, long)))

  seq-moved : get_or (row_at i (moved_rows i s rows) bs).numbers 3 0 ≡ s
  seq-moved = rw numbers-moved (get_or-put-in (row_at i rows bs).numbers 2 (1 ∷ s ∷ []) 1 0 (omega arith) (omega (arith, long)))

  bytes-kept : (row_at i (moved_rows i s rows) bs).bytes ≡ (row_at i rows bs).bytes
  unfolding row_at
  bytes-kept = refl

  pair-moved : pair_of (row_at i (moved_rows i s rows) bs) ≡ pair (key_of (row_at i rows bs)) (held_by (value_of (row_at i rows bs)) Rewrite s)
  unfolding pair_of held_of key_of value_of queue_at
  pair-moved =
      let queue = ap queue_at queue-moved in
      λ j. record { key = take (kept 0 (omega arith) j) (part 0 32 (bytes-kept j)); val = record { value = take (kept 1 (omega arith) j) (part 32 32 (bytes-kept j)); file = record { queue = queue j; seq = seq-moved j } } }

  ok-moved : RowOk (row_at i rows bs) → RowOk (row_at i (moved_rows i s rows) bs)
  ok-moved o =
      record {
        key_fits = rw (kept 0 (omega arith)) o.key_fits;
        value-fits = rw (kept 1 (omega arith)) o.value-fits;
        queue-known = rw queue-moved (omega arith);
      }

  before-moved : Same 0 0 i (moved_rows i s rows) bs rows bs
  unfolding moved_rows
  before-moved =
      record { numbers = rw zero-mul (part-put-before 0 (i * 4) rows (i * 4 + 2) _ (omega arith) (omega arith)); bytes = refl }

  after-moved : (m : ℕ) → Same (suc i) (suc i) m (moved_rows i s rows) bs rows bs
  unfolding moved_rows
  after-moved m =
      record { numbers = part-put-after (suc i * 4) (m * 4) rows (i * 4 + 2) _ (omega arith) (omega arith); bytes = refl }

-- ---- the ways

same_keys : (m : Map (List ℕ) Held) (t : Table) → t.keys ≡ m → with_keys m t ≡ t
unfolding with_keys
same_keys m t e = rw (← e)

module _ (n : ℕ) (rows bs k : List ℕ) (gate : Option ℕ) (s : ℕ) (w : Wf n rows bs) (i : ℕ) where
  pub rewrite-absent : place_of k (keys_in n rows bs) ≡ Err i → RewriteKey n rows bs k gate s (Ok tt) rows
  unfolding rewritten_key rewritten_as rewritten_rows or_else
  rewrite-absent e =
      record {
        answer = λ t g.
            let look : lookup bytes k t.keys ≡ None = ap (lookup bytes k) g ∙ absent_in (keys_in n rows bs) k w.ascending i e in
            rw look (ap Ok (sym (same_keys (keys_in n rows bs) t g)));
        rows_are = rw (absent_in (keys_in n rows bs) k w.ascending i e);
        wf = w;
      }

  module _ (e : place_of k (keys_in n rows bs) ≡ Ok i) where
    found : lookup bytes k (keys_in n rows bs) ≡ Some (held_of (row_at i rows bs))
    found = found_at_lem n rows bs k i e w

    module _ (held : Held) (h : held ≡ held_of (row_at i rows bs)) where
      -- the file is kept
      stays : rewrite_file held.file.queue gate s held ≡ Ok held → moves gate s held ≡ false → RewriteKey n rows bs k gate s (Ok tt) rows
      unfolding rewritten_key rewritten_as rewritten_rows or_else and_then put_key
      stays f g =
          let look : lookup bytes k (keys_in n rows bs) ≡ Some held = found ∙ ap Some (sym h) in
          record {
            answer = λ t q.
                let there : lookup bytes k t.keys ≡ Some held = ap (lookup bytes k) q ∙ look in
                rw (there, f)
                (ap (λ m. Ok (with_keys m t)) (ap (insert bytes k held) q ∙ insert-again bytes bytes_lawful k held (keys_in n rows bs) look w.ascending));
            rows_are = rw (look, g);
            wf = w;
          }

      -- it would go back
      goes_back : rewrite_file held.file.queue gate s held ≡ refuse KeyGoesBack → moves gate s held ≡ false → RewriteKey n rows bs k gate s (Err KeyGoesBack) rows
      unfolding rewritten_key rewritten_as rewritten_rows or_else and_then
      goes_back f g =
          let look : lookup bytes k (keys_in n rows bs) ≡ Some held = found ∙ ap Some (sym h) in
          record {
            answer = λ t q. let there : lookup bytes k t.keys ≡ Some held = ap (lookup bytes k) q ∙ look in rw (there, f);
            rows_are = rw (look, g);
            wf = w;
          }

      -- it is moved
      moved : rewrite_file held.file.queue gate s held ≡ Ok (held_by held.value Rewrite s) → moves gate s held ≡ true → RewriteKey n rows bs k gate s (Ok tt) (moved_rows i s rows)
      unfolding rewritten_key rewritten_as rewritten_rows or_else and_then put_key laid_at below_at held_of
      moved f g =
          let K = keys_in n rows bs in
          let look : lookup bytes k K ≡ Some held = found ∙ ap Some (sym h) in
          let b : i < n = at_below n rows bs k i e in
          let r : RowIn i rows bs = row_in n i rows bs w b in
          let p : i * 4 + 4 ≤ length rows = r.rows_fit in
          let m : i + suc (n - suc i) ≡ n = omega arith in
          let l : length (moved_rows i s rows) ≡ length rows = length_moved i s rows bs p in
          let g' = held_by held.value Rewrite s in
          let pr : pair_of (row_at i (moved_rows i s rows) bs) ≡ pair k g' =
          rw h (pair-moved i s rows bs p ∙ rw (found_key n rows bs k i e)) in
          let ins : insert bytes k g' K ≡ take i K ++ (pair k g' ∷ drop (suc i) K) = insert-place k g' K ∙ rw e in
          let holds : Holds n (moved_rows i s rows) bs (insert bytes k g' K) =
          rw m at (put_holds n rows bs k g' w i (suc i) (moved_rows i s rows) bs (omega arith) b
          (before-moved i s rows bs p)
          (after-moved i s rows bs p (n - suc i))
          pr
          (ok-moved i s rows bs p r.ok)
          (rw (m, l) w.rows_fit)
          (rw m w.bytes_fit)
          ins) in
          record {
            answer = λ t q.
                let there : lookup bytes k t.keys ≡ Some held = ap (lookup bytes k) q ∙ look in
                rw (there, f) (ap (λ m. Ok (with_keys m t)) (ap (insert bytes k g') q ∙ sym holds.is));
            rows_are = rw (look, g, e);
            wf = holds.wf;
          }

-- ---- by the numbers of the row

module _ (i : ℕ) (rows bs : List ℕ) where
  held-append : get_or rows (i * 4 + 2) 0 ≡ 0 → held_by (value_of (row_at i rows bs)) Append (get_or rows (i * 4 + 3) 0) ≡ held_of (row_at i rows bs)
  unfolding held_of queue_at
  held-append e = rw (number_at i rows bs 2 (omega arith), number_at i rows bs 3 (omega arith), e)

  held-rewrite : (get_or rows (i * 4 + 2) 0 ≡ 0 → ⊥) → held_by (value_of (row_at i rows bs)) Rewrite (get_or rows (i * 4 + 3) 0) ≡ held_of (row_at i rows bs)
  unfolding held_of queue_at
  held-rewrite e = rw (number_at i rows bs 2 (omega arith), number_at i rows bs 3 (omega arith), ne_eqb (get_or rows (i * 4 + 2) 0) 0 e)

module _ (n : ℕ) (rows bs k : List ℕ) (s : ℕ) (w : Wf n rows bs) (i : ℕ) (e : place_of k (keys_in n rows bs) ≡ Ok i) where
  pub ungated : get_or rows (i * 4 + 2) 0 ≡ 0 → RewriteKey n rows bs k None s (Ok tt) rows
  unfolding rewrite_file moves same_queue or_else
  ungated q = stays n rows bs k None s w i e _ (held-append i rows bs q) refl refl

  module _ (g : ℕ) (q : get_or rows (i * 4 + 2) 0 ≡ 0) where
    pub above_gate : g < get_or rows (i * 4 + 3) 0 → RewriteKey n rows bs k (Some g) s (Ok tt) rows
    unfolding rewrite_file moves same_queue or_else
    above_gate l =
        let f = lt-leb (get_or rows (i * 4 + 3) 0) g l in
        stays n rows bs k (Some g) s w i e _ (held-append i rows bs q) (rw f) (rw f)

    pub up_to_gate : get_or rows (i * 4 + 3) 0 ≤ g → RewriteKey n rows bs k (Some g) s (Ok tt) (moved_rows i s rows)
    unfolding rewrite_file moves same_queue or_else
    up_to_gate l =
        let f = le-leb (get_or rows (i * 4 + 3) 0) g l in
        moved n rows bs k (Some g) s w i e _ (held-append i rows bs q) (rw f) (rw f)

  module _ (gate : Option ℕ) (q : get_or rows (i * 4 + 2) 0 ≡ 0 → ⊥) where
    pub lower : s < get_or rows (i * 4 + 3) 0 → RewriteKey n rows bs k gate s (Err KeyGoesBack) rows
    unfolding rewrite_file moves same_queue
    lower l =
        goes_back n rows bs k gate s w i e _ (held-rewrite i rows bs q)
        (rw (lt-ltb s (get_or rows (i * 4 + 3) 0) l))
        (rw (lt-leb (get_or rows (i * 4 + 3) 0) s l))

    pub not_lower : get_or rows (i * 4 + 3) 0 ≤ s → RewriteKey n rows bs k gate s (Ok tt) (moved_rows i s rows)
    unfolding rewrite_file moves same_queue
    not_lower l =
        moved n rows bs k gate s w i e _ (held-rewrite i rows bs q)
        (rw (le-ltb s (get_or rows (i * 4 + 3) 0) l))
        (rw (le-leb (get_or rows (i * 4 + 3) 0) s l))
