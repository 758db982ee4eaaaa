-- Each way through `put` (at the key's row, before a row, and where there is no room) and `delete`. Assumes nothing.
use Rattle.rules.specs.Causes.{LimitPassed, Ok, Err}
use Prim.Native.Nat.{ℕ, suc, ◌+◌, ◌*◌, ◌-◌, ◌≤◌, ◌<◌}
use native.Mathlib.Omega.{arith}
use mathlib.Core.Bool.{true, false, and-false}
use mathlib.Core.Path.{◌≡◌, refl, sym, ap, ◌∙◌}
use mathlib.Core.List.{List, ◌∷◌, ◌++◌, map}
use lib.ListN.{length, take, drop, length-append, length-take, length-drop}
use lib.Dec.{leb}
use borrow.Author.Tests.{le-leb, lt-leb}
use Rattle.maps.specs.Maps.{Pair, insert, remove, bytes}
use Rattle.maps.specs.OrderLaws.{bytes_lawful}
use Rattle.maps.specs.MapLaws.{pair, ascending-insert, ascending-remove}
use Rattle.rules.specs.Table.{Held}
use Rattle.kvs.specs.Rows.{Row, row_at, rows_from, pair_of, keys_in, RowOk, RowsOk, Wf, fits}
use Rattle.kvs.specs.RowLaws.{Same, with_row, without-row, map-append, map-take, map-drop, length-keys, ok-append, ok-take, ok-drop, ok-cons}
use Rattle.kvs.specs.Writes.{written_rows, written_bytes, opened, closed}
use Rattle.kvs.specs.Places.{place_of, laid_at, taken_at, Within}
use Rattle.kvs.specs.PlaceLaws.{place-within, insert-place, remove-place}
use Rattle.kvs.specs.Calls.{Holds, room_for, Stands, put_rows, put_bytes, PutKey, deleted, DeleteKey}
use Rattle.kvs.proofs.Written.{length-written-rows, length-written-bytes, pair-written, ok-written, before-written, after-written, length-opened-rows, length-opened-bytes, before-opened, after-opened, length-closed-rows, length-closed-bytes, before-closed, after-closed}

-- ---- room

pub fits_if : (m : ℕ) (rows bs : List ℕ) → m * 4 ≤ length rows → m * 64 ≤ length bs → fits m rows bs ≡ true
unfolding fits
fits_if m rows bs p q = rw (le-leb (m * 4) (length rows) p, le-leb (m * 64) (length bs) q)

pub no_rows : (m : ℕ) (rows bs : List ℕ) → length rows < m * 4 → fits m rows bs ≡ false
unfolding fits
no_rows m rows bs p = rw (lt-leb (m * 4) (length rows) p)

pub no_bytes : (m : ℕ) (rows bs : List ℕ) → length bs < m * 64 → fits m rows bs ≡ false
unfolding fits
no_bytes m rows bs p = rw (lt-leb (m * 64) (length bs) p) (and-false (leb (m * 4) (length rows)))

-- ---- stretches

pub same-trans : (a b c n : ℕ) {rows bs rows' bs' rows'' bs'' : List ℕ} → Same a b n rows bs rows' bs' → Same b c n rows' bs' rows'' bs'' → Same a c n rows bs rows'' bs''
same-trans a b c n p q = record { numbers = p.numbers ∙ q.numbers; bytes = p.bytes ∙ q.bytes }

-- the keys of rows with a row laid in
keys_with : (i j : ℕ) (R S : List Row) (r : Row) (x : Pair (List ℕ) Held) → S ≡ take i R ++ (r ∷ drop j R) → pair_of r ≡ x → map pair_of S ≡ take i (map pair_of R) ++ (x ∷ drop j (map pair_of R))
keys_with i j R S r x e f =
    rw (e, map-append pair_of (take i R) (r ∷ drop j R), map-take pair_of i R, map-drop pair_of j R, f)

ok_with : (i j : ℕ) (R S : List Row) (r : Row) → S ≡ take i R ++ (r ∷ drop j R) → RowOk r → RowsOk R → RowsOk S
ok_with i j R S r e o a = rw e (ok-append (take i R) (r ∷ drop j R) (ok-take i R a) (ok-cons r (drop j R) o (ok-drop j R a)))

-- ---- what is put

module _ (n : ℕ) (rows bs k : List ℕ) (h : Held) (w : Wf n rows bs) where
  -- parts in which the key's row stands in place of those from row i up to row j stand for the map with the key
  pub put_holds : (i j : ℕ) (rows' bs' : List ℕ) → i ≤ n → j ≤ n → Same 0 0 i rows' bs' rows bs → Same (suc i) j (n - j) rows' bs' rows bs
      → pair_of (row_at i rows' bs') ≡ pair k h → RowOk (row_at i rows' bs')
      → (i + suc (n - j)) * 4 ≤ length rows' → (i + suc (n - j)) * 64 ≤ length bs'
      → insert bytes k h (keys_in n rows bs) ≡ take i (keys_in n rows bs) ++ (pair k h ∷ drop j (keys_in n rows bs))
      → Holds (i + suc (n - j)) rows' bs' (insert bytes k h (keys_in n rows bs))
  unfolding keys_in
  put_holds i j rows' bs' b b' p q e o u v f =
      let R = rows_from 0 n rows bs in
      let S = rows_from 0 (i + suc (n - j)) rows' bs' in
      let g : S ≡ take i R ++ (row_at i rows' bs' ∷ drop j R) = with_row rows bs rows' bs' n i j b b' p q in
      let is : map pair_of S ≡ insert bytes k h (map pair_of R) = keys_with i j R S (row_at i rows' bs') (pair k h) g e ∙ sym f in
      record {
        wf =
            record {
              rows_fit = u;
              bytes_fit = v;
              ok = ok_with i j R S (row_at i rows' bs') g o w.ok;
              ascending = rw is (ascending-insert bytes bytes_lawful k h (map pair_of R) w.ascending);
            };
        is = is;
      }

  module _ (u : length k ≤ 32) (v : length h.value ≤ 32) where
    -- the key is there: its row is written
    pub put_at : (i : ℕ) → place_of k (keys_in n rows bs) ≡ Ok i → PutKey n rows bs k h (Ok n) (written_rows i k h rows) (written_bytes i k h bs)
    unfolding laid_at Within room_for Stands put_rows put_bytes
    put_at i e =
        let K = keys_in n rows bs in
        let b : i < n = rw length-keys at (rw e at (place-within k K)) in
        let f : insert bytes k h K ≡ take i K ++ (pair k h ∷ drop (suc i) K) = insert-place k h K ∙ rw e in
        let p : i * 4 + 4 ≤ length rows = omega (arith, w.rows_fit) in
        let q : i * 64 + 64 ≤ length bs = omega (arith, w.bytes_fit) in
        let m : i + suc (n - suc i) ≡ n = omega arith in
        let lr = length-written-rows i k h rows bs p in
        let lb = length-written-bytes i k h rows bs u v p q in
        let holds : Holds (i + suc (n - suc i)) (written_rows i k h rows) (written_bytes i k h bs) (insert bytes k h K) =
        put_holds i (suc i) (written_rows i k h rows) (written_bytes i k h bs) (omega arith) b
        (before-written i k h rows bs u v p q)
        (after-written i k h rows bs u v p q (n - suc i))
        (pair-written i k h rows bs u v p q)
        (ok-written i k h rows bs u v p q)
        (rw (m, lr) w.rows_fit)
        (rw (m, lb) w.bytes_fit)
        f in
        let holds' : Holds n (written_rows i k h rows) (written_bytes i k h bs) (insert bytes k h K) = rw m at holds in
        let l : length (insert bytes k h K) ≡ n = sym (ap length holds'.is) ∙ length-keys n _ _ in
        record {
          answer = rw (l, fits_if n rows bs w.rows_fit w.bytes_fit);
          rows_are = rw e;
          bytes-are = rw e;
          stands = holds';
        }

    -- it is not, and there is room: the rows from its place are moved up, and its row is written
    pub put-before : (i : ℕ) → place_of k (keys_in n rows bs) ≡ Err i → n * 4 + 4 ≤ length rows → n * 64 + 64 ≤ length bs
        → PutKey n rows bs k h (Ok (n + 1)) (written_rows i k h (opened 4 n i rows)) (written_bytes i k h (opened 64 n i bs))
    unfolding laid_at Within room_for Stands put_rows put_bytes
    put-before i e x y =
        let K = keys_in n rows bs in
        let X = opened 4 n i rows in
        let Y = opened 64 n i bs in
        let b : i ≤ n = rw length-keys at (rw e at (place-within k K)) in
        let f : insert bytes k h K ≡ take i K ++ (pair k h ∷ drop i K) = insert-place k h K ∙ rw e in
        let ox : length X ≡ length rows = length-opened-rows n i rows bs b x y in
        let oy : length Y ≡ length bs = length-opened-bytes n i rows bs b x y in
        let p : i * 4 + 4 ≤ length X = omega arith in
        let q : i * 64 + 64 ≤ length Y = omega arith in
        let m : i + suc (n - i) ≡ n + 1 = omega arith in
        let lr = length-written-rows i k h X Y p in
        let lb = length-written-bytes i k h X Y u v p q in
        let holds : Holds (i + suc (n - i)) (written_rows i k h X) (written_bytes i k h Y) (insert bytes k h K) =
        put_holds i i (written_rows i k h X) (written_bytes i k h Y) b b
        (same-trans 0 0 0 i (before-written i k h X Y u v p q) (before-opened n i rows bs b x y))
        (same-trans (suc i) (suc i) i (n - i) (after-written i k h X Y u v p q (n - i)) (after-opened n i rows bs b x y))
        (pair-written i k h X Y u v p q)
        (ok-written i k h X Y u v p q)
        (rw (m, lr) (omega arith))
        (rw (m, lb) (omega arith))
        f in
        let holds' : Holds (n + 1) (written_rows i k h X) (written_bytes i k h Y) (insert bytes k h K) = rw m at holds in
        let l : length (insert bytes k h K) ≡ n + 1 = sym (ap length holds'.is) ∙ length-keys (n + 1) _ _ in
        record {
          answer = rw (l, fits_if (n + 1) rows bs (omega arith) (omega arith));
          rows_are = rw e;
          bytes-are = rw e;
          stands = holds';
        }

  -- it is not, and there is no room
  pub put_full : (i : ℕ) → place_of k (keys_in n rows bs) ≡ Err i → fits (n + 1) rows bs ≡ false → PutKey n rows bs k h (Err LimitPassed) rows bs
  unfolding laid_at Within room_for Stands put_rows put_bytes
  put_full i e x =
      let K = keys_in n rows bs in
      let b : i ≤ n = rw length-keys at (rw e at (place-within k K)) in
      let f : insert bytes k h K ≡ take i K ++ (pair k h ∷ drop i K) = insert-place k h K ∙ rw e in
      let l : length (insert bytes k h K) ≡ n + 1 =
      rw (f, length-append, length-take i K, length-drop i K, length-keys n rows bs) (omega arith) in
      record { answer = rw (l, x); rows_are = refl; bytes-are = refl; stands = tt }

-- ---- what is deleted

module _ (n : ℕ) (rows bs k : List ℕ) (w : Wf n rows bs) where
  pub delete_at : (i : ℕ) → place_of k (keys_in n rows bs) ≡ Ok i → DeleteKey n rows bs k (n - 1) (closed 4 n i rows) (closed 64 n i bs)
  unfolding keys_in taken_at Within deleted
  delete_at i e =
      let K = keys_in n rows bs in
      let R = rows_from 0 n rows bs in
      let b : i < n = rw length-keys at (rw e at (place-within k K)) in
      let m : i + (n - suc i) ≡ n - 1 = omega arith in
      let rows' = closed 4 n i rows in
      let bs' = closed 64 n i bs in
      let lr : length rows' ≡ length rows = length-closed-rows n i rows bs b w.rows_fit w.bytes_fit in
      let lb : length bs' ≡ length bs = length-closed-bytes n i rows bs b w.rows_fit w.bytes_fit in
      let g : rows_from 0 (n - 1) rows' bs' ≡ take i R ++ drop (suc i) R =
      rw m at (without-row rows bs rows' bs' n i b (before-closed n i rows bs b w.rows_fit w.bytes_fit) (after-closed n i rows bs b w.rows_fit w.bytes_fit)) in
      let is : keys_in (n - 1) rows' bs' ≡ remove bytes k K =
      rw (g, map-append pair_of (take i R) (drop (suc i) R), map-take pair_of i R, map-drop pair_of (suc i) R) (sym (remove-place k K w.ascending ∙ rw e)) in
      record {
        answer = sym (sym (ap length is) ∙ length-keys (n - 1) rows' bs');
        rows_are = rw e;
        bytes-are = rw e;
        holds =
            record {
              wf =
                  record {
                    rows_fit = omega (arith, w.rows_fit);
                    bytes_fit = omega (arith, w.bytes_fit);
                    ok = rw g (ok-append (take i R) (drop (suc i) R) (ok-take i R w.ok) (ok-drop (suc i) R w.ok));
                    ascending = rw is (ascending-remove bytes bytes_lawful k K w.ascending);
                  };
              is = is;
            };
      }

  pub delete-absent : (i : ℕ) → place_of k (keys_in n rows bs) ≡ Err i → DeleteKey n rows bs k n rows bs
  unfolding taken_at deleted
  delete-absent i e =
      let f : remove bytes k (keys_in n rows bs) ≡ keys_in n rows bs = remove-place k (keys_in n rows bs) w.ascending ∙ rw e in
      record {
        answer = rw f (sym (length-keys n rows bs));
        rows_are = rw e;
        bytes-are = rw e;
        holds = record { wf = w; is = sym f };
      }
