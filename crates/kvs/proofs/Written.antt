-- The row that is written, and the rows around it. Assumes nothing.
use Prim.Native.Nat.{ℕ, suc, ◌+◌, ◌*◌, ◌-◌, ◌≤◌, ◌<◌}
use native.Mathlib.Nat.{add-zero, zero-mul}
use native.Mathlib.Omega.{arith}
use mathlib.Core.Path.{◌≡◌, refl, ap, ◌∙◌}
use mathlib.Core.List.{List, [], ◌∷◌}
use lib.ListN.{length, get_or, set}
use Rattle.cells.specs.Part.{part, put}
use Rattle.cells.specs.PartLaws.{length_part, length-put, part-part, take_part, part-put_same, part-put-before, part-put-after, set-put, put-snoc}
use Rattle.pipe_log.specs.declared.LogQueue.{LogQueue}
use Rattle.pipe_log.specs.declared.LogQueue.TheVariants.{Append, Rewrite}
use Rattle.pipe_log.specs.Numbers.{queue_number}
use Rattle.pipe_log.specs.Rows.{queue_at}
use Rattle.maps.specs.MapLaws.{pair}
use Rattle.rules.specs.Table.{Held}
use Rattle.kvs.specs.Rows.{row_at, key_of, value_of, held_of, pair_of, RowOk}
use Rattle.kvs.specs.RowLaws.{Same}
use Rattle.kvs.specs.Writes.{numbers_of, written_rows, written_bytes, opened, closed}

queue_back : (q : LogQueue) → queue_at (queue_number q) ≡ q
unfolding queue_at
queue_back Append = refl
queue_back Rewrite = refl

queue_below : (q : LogQueue) → queue_number q < 2
queue_below Append = omega arith
queue_below Rewrite = omega arith

-- four stores are one put
pub four-stores : (d : List ℕ) (at : ℕ) (a b c e : ℕ) → at + 4 ≤ length d → set (set (set (set d at a) (at + 1) b) (at + 2) c) (at + 3) e ≡ put d at (a ∷ b ∷ c ∷ e ∷ [])
four-stores d at a b c e h =
    rw (
      set-put d at a (omega arith),
      put-snoc d at (a ∷ []) b (omega arith),
      put-snoc d at (a ∷ b ∷ []) c (omega arith),
      put-snoc d at (a ∷ b ∷ c ∷ []) e (omega arith),
    )

-- ---- the row itself

module _ (i : ℕ) (k : List ℕ) (h : Held) (rows bs : List ℕ) where
  pub length-written-rows : i * 4 + 4 ≤ length rows → length (written_rows i k h rows) ≡ length rows
  unfolding written_rows numbers_of
  length-written-rows p = length-put rows (i * 4) _ p

  module _ (u : length k ≤ 32) (v : length h.value ≤ 32) (p : i * 4 + 4 ≤ length rows) (q : i * 64 + 64 ≤ length bs) where
    length_key : length (put bs (i * 64) k) ≡ length bs
    length_key = length-put bs (i * 64) k (omega arith)

    pub length-written-bytes : length (written_bytes i k h bs) ≡ length bs
    unfolding written_bytes
    length-written-bytes = length-put (put bs (i * 64) k) (i * 64 + 32) h.value (rw length_key (omega arith)) ∙ length_key

    numbers-written : (row_at i (written_rows i k h rows) (written_bytes i k h bs)).numbers ≡ numbers_of k h
    unfolding row_at written_rows numbers_of
    numbers-written = part-put_same 4 rows (i * 4) _ refl (omega arith)

    key-written : part 0 32 (row_at i (written_rows i k h rows) (written_bytes i k h bs)).bytes ≡ part (i * 64) 32 (put bs (i * 64) k)
    unfolding row_at written_bytes
    key-written =
        rw (part-part 0 32 (i * 64) 64 (put (put bs (i * 64) k) (i * 64 + 32) h.value) (omega arith), add-zero (i * 64))
        (part-put-before (i * 64) 32 (put bs (i * 64) k) (i * 64 + 32) h.value (omega arith) (rw length_key (omega arith)))

    value_written : part 32 32 (row_at i (written_rows i k h rows) (written_bytes i k h bs)).bytes ≡ part (i * 64 + 32) 32 (put (put bs (i * 64) k) (i * 64 + 32) h.value)
    unfolding row_at written_bytes
    value_written = part-part 32 32 (i * 64) 64 (put (put bs (i * 64) k) (i * 64 + 32) h.value) (omega arith)

    key-is : key_of (row_at i (written_rows i k h rows) (written_bytes i k h bs)) ≡ k
    unfolding key_of numbers_of
    key-is =
        rw (numbers-written, key-written, take_part (length k) (i * 64) 32 (put bs (i * 64) k) u)
        (part-put_same (length k) bs (i * 64) k refl (omega arith))

    value-is : value_of (row_at i (written_rows i k h rows) (written_bytes i k h bs)) ≡ h.value
    unfolding value_of numbers_of
    value-is =
        rw (numbers-written, value_written, take_part (length h.value) (i * 64 + 32) 32 (put (put bs (i * 64) k) (i * 64 + 32) h.value) v)
        (part-put_same (length h.value) (put bs (i * 64) k) (i * 64 + 32) h.value refl (rw length_key (omega arith)))

    number_is : (j : ℕ) → get_or (row_at i (written_rows i k h rows) (written_bytes i k h bs)).numbers j 0 ≡ get_or (numbers_of k h) j 0
    number_is j = rw numbers-written

    pub pair-written : pair_of (row_at i (written_rows i k h rows) (written_bytes i k h bs)) ≡ pair k h
    unfolding pair_of held_of numbers_of
    pair-written =
        let queue = ap queue_at (number_is 2) ∙ queue_back h.file.queue in
        λ j. record { key = key-is j; val = record { value = value-is j; file = record { queue = queue j; seq = number_is 3 j } } }

    pub ok-written : RowOk (row_at i (written_rows i k h rows) (written_bytes i k h bs))
    unfolding numbers_of
    ok-written =
        record {
          key_fits = rw (number_is 0) u;
          value-fits = rw (number_is 1) v;
          queue-known = rw (number_is 2) (queue_below h.file.queue);
        }

  -- ---- the rows before it and after it

  module _ (u : length k ≤ 32) (v : length h.value ≤ 32) (p : i * 4 + 4 ≤ length rows) (q : i * 64 + 64 ≤ length bs) where
    pub before-written : Same 0 0 i (written_rows i k h rows) (written_bytes i k h bs) rows bs
    unfolding written_rows written_bytes
    before-written =
        record {
          numbers = rw zero-mul (part-put-before 0 (i * 4) rows (i * 4) (numbers_of k h) (omega arith) (omega arith));
          bytes =
              rw (
                zero-mul,
                part-put-before 0 (i * 64) (put bs (i * 64) k) (i * 64 + 32) h.value (omega arith) (rw (length_key u v p q) (omega arith)),
              )
              (part-put-before 0 (i * 64) bs (i * 64) k (omega arith) (omega arith));
        }

    pub after-written : (m : ℕ) → Same (suc i) (suc i) m (written_rows i k h rows) (written_bytes i k h bs) rows bs
    unfolding written_rows written_bytes numbers_of
    after-written m =
        record {
          numbers = part-put-after (suc i * 4) (m * 4) rows (i * 4) _ (omega arith) (omega arith);
          bytes =
              rw (part-put-after (suc i * 64) (m * 64) (put bs (i * 64) k) (i * 64 + 32) h.value (omega arith) (rw (length_key u v p q) (omega arith)))
              (part-put-after (suc i * 64) (m * 64) bs (i * 64) k (omega arith) (omega arith));
        }

-- ---- rows moved up and down

module _ (n i : ℕ) (rows bs : List ℕ) (p : i ≤ n) (q : n * 4 + 4 ≤ length rows) (r : n * 64 + 64 ≤ length bs) where
  pub length-opened-rows : length (opened 4 n i rows) ≡ length rows
  unfolding opened
  length-opened-rows = length-put rows (i * 4 + 4) _ (rw (length_part (i * 4) ((n - i) * 4) rows (omega arith)) (omega arith))

  pub length-opened-bytes : length (opened 64 n i bs) ≡ length bs
  unfolding opened
  length-opened-bytes = length-put bs (i * 64 + 64) _ (rw (length_part (i * 64) ((n - i) * 64) bs (omega arith)) (omega arith))

  pub before-opened : Same 0 0 i (opened 4 n i rows) (opened 64 n i bs) rows bs
  unfolding opened
  before-opened =
      record {
        numbers = rw zero-mul (part-put-before 0 (i * 4) rows (i * 4 + 4) _ (omega arith) (omega arith));
        bytes = rw zero-mul (part-put-before 0 (i * 64) bs (i * 64 + 64) _ (omega arith) (omega arith));
      }

  pub after-opened : Same (suc i) i (n - i) (opened 4 n i rows) (opened 64 n i bs) rows bs
  unfolding opened
  after-opened =
      let a : suc i * 4 ≡ i * 4 + 4 = omega arith in
      let b : suc i * 64 ≡ i * 64 + 64 = omega arith in
      record {
        numbers = rw a (part-put_same ((n - i) * 4) rows (i * 4 + 4) _ (length_part (i * 4) ((n - i) * 4) rows (omega arith)) (omega arith));
        bytes = rw b (part-put_same ((n - i) * 64) bs (i * 64 + 64) _ (length_part (i * 64) ((n - i) * 64) bs (omega arith)) (omega arith));
      }

module _ (n i : ℕ) (rows bs : List ℕ) (p : i < n) (q : n * 4 ≤ length rows) (r : n * 64 ≤ length bs) where
  long : (w : ℕ) (l : List ℕ) → i * w + w + (n - (i + 1)) * w ≤ length l → length (part (i * w + w) ((n - (i + 1)) * w) l) ≡ (n - (i + 1)) * w
  long w l h = length_part (i * w + w) ((n - (i + 1)) * w) l h

  pub length-closed-rows : length (closed 4 n i rows) ≡ length rows
  unfolding closed
  length-closed-rows = length-put rows (i * 4) _ (rw (long 4 rows (omega arith)) (omega arith))

  pub length-closed-bytes : length (closed 64 n i bs) ≡ length bs
  unfolding closed
  length-closed-bytes = length-put bs (i * 64) _ (rw (long 64 bs (omega arith)) (omega arith))

  pub before-closed : Same 0 0 i (closed 4 n i rows) (closed 64 n i bs) rows bs
  unfolding closed
  before-closed =
      record {
        numbers = rw zero-mul (part-put-before 0 (i * 4) rows (i * 4) _ (omega arith) (omega arith));
        bytes = rw zero-mul (part-put-before 0 (i * 64) bs (i * 64) _ (omega arith) (omega arith));
      }

  pub after-closed : Same i (suc i) (n - suc i) (closed 4 n i rows) (closed 64 n i bs) rows bs
  unfolding closed
  after-closed =
      let a : suc i * 4 ≡ i * 4 + 4 = omega arith in
      let b : suc i * 64 ≡ i * 64 + 64 = omega arith in
      let e : n - suc i ≡ n - (i + 1) = omega arith in
      record {
        numbers = rw (a, e) (part-put_same ((n - (i + 1)) * 4) rows (i * 4) _ (long 4 rows (omega arith)) (omega arith));
        bytes = rw (b, e) (part-put_same ((n - (i + 1)) * 64) bs (i * 64) _ (long 64 bs (omega arith)) (omega arith));
      }

-- ---- the stores and copies of a row

pub rows_written : (i q : ℕ) (k : List ℕ) (h : Held) (rows : List ℕ) → q ≡ queue_number h.file.queue → i * 4 + 4 ≤ length rows
    → set (set (set (set rows (i * 4) (length k)) (i * 4 + 1) (length h.value)) (i * 4 + 2) q) (i * 4 + 3) h.file.seq ≡ written_rows i k h rows
unfolding written_rows numbers_of
rows_written i q k h rows e p = rw e (four-stores rows (i * 4) (length k) (length h.value) _ h.file.seq p)

pub bytes-written : (i : ℕ) (k : List ℕ) (h : Held) (bs a b : List ℕ) → a ≡ put bs (i * 64) k → b ≡ put a (i * 64 + 32) h.value → b ≡ written_bytes i k h bs
unfolding written_bytes
bytes-written i k h bs a b e f = rw e at f
