-- The rows copied to a lent list, and the answers of the queries. Assumes nothing.
use Prim.Native.Nat.{ℕ, zero, suc, ◌+◌, ◌*◌, ◌-◌, ◌/◌, ◌≤◌, ◌<◌, min}
use native.Mathlib.Numerals.{add-one}
use native.Mathlib.Nat.{add-zero, sub-zero}
use native.Mathlib.Omega.{arith}
use mathlib.Core.Bool.{Bool, true, false, cond, ◌&&◌, ◌||◌}
use mathlib.Core.Path.{◌≡◌, refl, sym, ap, ◌∙◌}
use mathlib.Core.List.{List, [], ◌∷◌, map}
use Rattle.std.specs.Prelude.{Option}
use lib.Dec.{ltb, leb, eqb}
use lib.ListN.{length, set, take, length-take, length-map}
use lib.Seq.{take_all, take-nil}
use borrow.Author.Tests.{ltb-true, ltb-false, leb-true, leb-false, lt-ltb, le-ltb, le-leb, lt-leb, eq-eqb, ne_eqb}
use Rattle.cells.specs.Part.{part, put}
use Rattle.cells.specs.PartLaws.{set-put, put-snoc}
use Rattle.maps.specs.Lists.{select}
use Rattle.maps.specs.Maps.{Map, bytes}
use Rattle.maps.specs.OrderLaws.{split}
use Rattle.maps.specs.MapLaws.{Ascending}
use Rattle.maps.specs.ListLaws.{select-select, length-select}
use Rattle.rules.specs.Causes.{BadRange, ListTooShort, ByCause, Err, Ok, refuse, and_then}
use Rattle.rules.specs.Items.{Append, same_queue}
use Rattle.rules.specs.Table.{Held, Table}
use Rattle.rules.specs.TableQueries.{KeyValue, row_of, in_bounds, start_above_end, in_direction, scan, keys_of, fetch_kvs_before, fetch_rewritten_kvs}
use Rattle.rules.specs.Queries.{answered}
use Rattle.key_lists.specs.declared.Which.{Which}
use Rattle.key_lists.specs.declared.Which.TheVariants.{UpTo, OfRewrite}
use Rattle.kvs.specs.Places.{pair_at, below_bound}
use Rattle.kvs.specs.Stretches.{in-stretch}
use Rattle.key_lists.specs.Lists.{meets, in_list, stretch, row_lens, row_bytes, laid_by, lent_lens, lent_bytes, list_from, lent_list, lens_after, bytes_after, Fetches, taken, CopyIf}
use Rattle.kvs.proofs.Selected.{left, left_all, left-none, left-more}
use Rattle.key_lists.proofs.Stretched.{length_direction, length-stretch}

-- ---- one row copied

pub two_lens : (j : ℕ) (k v : List ℕ) (x : KeyValue) (lens : List ℕ) → k ≡ x.key → v ≡ x.value → j * 2 + 2 ≤ length lens → set (set lens (j * 2) (length k)) (j * 2 + 1) (length v) ≡ row_lens j x lens
unfolding row_lens
two_lens j k v x lens e f h =
    rw (set-put lens (j * 2) (length k) (omega arith), ← e, ← f) (put-snoc lens (j * 2) (length k ∷ []) (length v) (omega arith))

pub two-copies : (j : ℕ) (k v : List ℕ) (x : KeyValue) (out a b : List ℕ) → k ≡ x.key → v ≡ x.value → a ≡ put out (j * 64) k → b ≡ put a (j * 64 + 32) v → b ≡ row_bytes j x out
unfolding row_bytes
two-copies j k v x out a b e f p q = rw (← e, ← f, ← p) q

-- ---- a turn

module _ (asked : Bool) (x : KeyValue) (limit j : ℕ) (lens out : List ℕ) where
  pub copy-past : limit ≤ j → CopyIf asked x limit j lens out j lens out
  unfolding taken laid_by
  copy-past h =
      let f : ltb j limit ≡ false = le-ltb j limit h in
      let g : (asked && ltb j limit) ≡ false = rw f (and_no asked) in
      record { next = rw g (sym (add-zero j)); lens-are = rw g; bytes-are = rw g }
    where
      and_no : (b : Bool) → (b && false) ≡ false
      and_no true = refl
      and_no false = refl

  pub copy-not : asked ≡ false → CopyIf asked x limit j lens out j lens out
  unfolding taken laid_by
  copy-not e = record { next = rw e (sym (add-zero j)); lens-are = rw e; bytes-are = rw e }

  pub copy_yes : asked ≡ true → j < limit → CopyIf asked x limit j lens out (j + 1) (row_lens j x lens) (row_bytes j x out)
  unfolding taken laid_by
  copy_yes e h = record { next = rw (e, lt-ltb j limit h); lens-are = rw (e, lt-ltb j limit h); bytes-are = rw (e, lt-ltb j limit h) }

-- what is laid in so far and the rows that are left give the whole
module _ (f : ℕ → KeyValue → List ℕ → List ℕ) (asked : Bool) (x : KeyValue) (limit j : ℕ) (h : j ≤ limit) (rest : List KeyValue) (l : List ℕ) where
  lay_step : laid_by f (j + length (taken asked x limit j)) (take (limit - (j + length (taken asked x limit j))) rest) (laid_by f j (taken asked x limit j) l)
      ≡ laid_by f j (take (limit - j) (cond asked (x ∷ rest) rest)) l
  unfolding taken laid_by
  lay_step =
      split asked
      (λ a. split (ltb j limit)
      (λ b.
      let c : limit - j ≡ suc (limit - suc j) = omega (arith, ltb-true j limit b) in
      rw (a, b, add-one j, c))
      (λ b.
      let c : limit - j ≡ 0 = omega (arith, ltb-false j limit b) in
      rw (a, b, add-zero j, c)))
      (λ a. rw (a, add-zero j))

pub turn-next : (asked : Bool) (x : KeyValue) (limit j : ℕ) → j ≤ limit → j + length (taken asked x limit j) ≤ limit
unfolding taken
turn-next asked x limit j h =
    split asked
    (λ a. split (ltb j limit) (λ b. rw (a, b) (omega (arith, ltb-true j limit b))) (λ b. rw (a, b) (omega arith)))
    (λ a. rw a (omega arith))

turn : (f : ℕ → KeyValue → List ℕ → List ℕ) (asked : Bool) (x : KeyValue) (limit j : ℕ) → j ≤ limit → (rest now : List KeyValue) (l l' : List ℕ) (r : ℕ)
    → r ≡ j + length (taken asked x limit j) → l' ≡ laid_by f j (taken asked x limit j) l → now ≡ cond asked (x ∷ rest) rest
    → laid_by f r (take (limit - r) rest) l' ≡ laid_by f j (take (limit - j) now) l
turn f asked x limit j h rest now l l' r e g k = rw (e, g, k) (lay_step f asked x limit j h rest l)

-- what holds after s turns, with j rows written
pub record Copying (which : Which) (m : Map (List ℕ) Held) (b : Bool) (limit : ℕ) (lens out : List ℕ) (s j : ℕ) (lens' out' : List ℕ) : Type 0 where
  pub below : j ≤ limit
  pub lens-are : lent_lens j (take (limit - j) (left (meets which) m b s)) lens' ≡ lent_lens 0 (take limit (in_list which b m)) lens
  pub bytes-are : lent_bytes j (take (limit - j) (left (meets which) m b s)) out' ≡ lent_bytes 0 (take limit (in_list which b m)) out

module _ (which : Which) (m : Map (List ℕ) Held) (b : Bool) (limit : ℕ) (lens out : List ℕ) where
  pub copying-none : Copying which m b limit lens out 0 0 lens out
  unfolding in_list
  copying-none =
      let e = left_all (meets which) m b in
      record { below = omega arith; lens-are = rw (sub-zero limit, e); bytes-are = rw (sub-zero limit, e) }

  pub copying-more : (s j i : ℕ) (lens' out' : List ℕ) → Copying which m b limit lens out s j lens' out' → s < length m → i ≡ cond b (length m - 1 - s) s
      → (r : ℕ) (lens'' out'' : List ℕ) → CopyIf (meets which (pair_at i m)) (row_of (pair_at i m)) limit j lens' out' r lens'' out''
      → Copying which m b limit lens out (s + 1) r lens'' out''
  copying-more s j i lens' out' h q e r lens'' out'' g =
      let asked = meets which (pair_at i m) in
      let x = row_of (pair_at i m) in
      let rest = left (meets which) m b (suc s) in
      let now = left-more (meets which) m b s i q e in
      record {
        below = rw g.next (turn-next asked x limit j h.below);
        lens-are = rw (add-one s) (turn row_lens asked x limit j h.below rest _ lens' lens'' r g.next g.lens-are now ∙ h.lens-are);
        bytes-are = rw (add-one s) (turn row_bytes asked x limit j h.below rest _ out' out'' r g.next g.bytes-are now ∙ h.bytes-are);
      }

  module _ (s j : ℕ) (lens' out' : List ℕ) (h : Copying which m b limit lens out s j lens' out') (q : length m ≤ s) where
    pub lens_done : lens' ≡ lent_lens 0 (take limit (in_list which b m)) lens
    unfolding laid_by
    lens_done = rw (left-none (meets which) m b s q, take-nil {A = KeyValue} (limit - j)) at h.lens-are

    pub bytes-done : out' ≡ lent_bytes 0 (take limit (in_list which b m)) out
    unfolding laid_by
    bytes-done = rw (left-none (meets which) m b s q, take-nil {A = KeyValue} (limit - j)) at h.bytes-are

-- ---- the answer

length_list : (j n : ℕ) (lens out : List ℕ) → length (list_from j n lens out) ≡ n
unfolding list_from
length_list j zero lens out = refl
length_list j (suc n) lens out = ap suc (length_list (suc j) n lens out)

pub length_lent : (lens out : List ℕ) → length (lent_list lens out) ≡ min (length lens / 2) (length out / 64)
unfolding lent_list
length_lent lens out = length_list 0 _ lens out

module _ (A : List KeyValue) (lens out : List ℕ) where
  pub too_short : length (lent_list lens out) < length A → Fetches (Ok A) lens out (Err ListTooShort) lens out
  unfolding answered and_then lens_after bytes_after
  too_short h =
      let f = lt-leb (length A) (length (lent_list lens out)) h in
      record { answer = rw f; lens-are = rw f; bytes-are = rw f }

  pub all-rows : length A ≤ length (lent_list lens out) → Fetches (Ok A) lens out (Ok (length A)) (lent_lens 0 A lens) (lent_bytes 0 A out)
  unfolding answered and_then lens_after bytes_after
  all-rows h =
      let f = le-leb (length A) (length (lent_list lens out)) h in
      record { answer = rw f; lens-are = rw f; bytes-are = rw f }

  pub bad-range : Fetches (refuse BadRange) lens out (Err BadRange) lens out
  unfolding answered and_then lens_after bytes_after
  bad-range = record { answer = refl; lens-are = refl; bytes-are = refl }

-- up to `count` of the rows L
module _ (L : List KeyValue) (count limit : ℕ) (l : limit ≡ min count (length L)) where
  length-limited : length (take count L) ≡ limit
  length-limited = length-take count L ∙ rw l

  limited : take limit L ≡ take count L
  limited =
      split (leb count (length L))
      (λ t. let c : limit ≡ count = omega (arith, leb-true count (length L) t) in rw c)
      (λ t. let f = leb-false count (length L) t in take_all limit L (omega arith) ∙ sym (take_all count L (omega arith)))

  pub rows_short : (lens out : List ℕ) → min (length lens / 2) (length out / 64) < limit → Fetches (Ok (take count L)) lens out (Err ListTooShort) lens out
  rows_short lens out h = too_short (take count L) lens out (rw (length_lent lens out, length-limited) h)

  pub rows-full : (lens out lens' out' : List ℕ) → limit ≤ min (length lens / 2) (length out / 64)
      → lens' ≡ lent_lens 0 (take limit L) lens → out' ≡ lent_bytes 0 (take limit L) out → Fetches (Ok (take count L)) lens out (Ok limit) lens' out'
  rows-full lens out lens' out' h p q =
      rw (p, q, limited) (rw length-limited at (all-rows (take count L) lens out (rw (length_lent lens out, length-limited) h)))

module _ (which : Which) (b : Bool) (m : Map (List ℕ) Held) where
  pub length-in : length (in_list which b m) ≡ length (select (meets which) m)
  unfolding in_list
  length-in = length_direction b (map row_of (select (meets which) m)) ∙ length-map (select (meets which) m) row_of

  module _ (count limit : ℕ) (l : limit ≡ min count (length (select (meets which) m))) where
    by_list : limit ≡ min count (length (in_list which b m))
    by_list = rw length-in l

    pub list-short : (lens out : List ℕ) → min (length lens / 2) (length out / 64) < limit → Fetches (Ok (take count (in_list which b m))) lens out (Err ListTooShort) lens out
    list-short = rows_short (in_list which b m) count limit by_list

    pub list_full : (lens out lens' out' : List ℕ) → limit ≤ min (length lens / 2) (length out / 64)
        → lens' ≡ lent_lens 0 (take limit (in_list which b m)) lens → out' ≡ lent_bytes 0 (take limit (in_list which b m)) out
        → Fetches (Ok (take count (in_list which b m))) lens out (Ok limit) lens' out'
    list_full = rows-full (in_list which b m) count limit by_list

-- ... of a stretch
module _ (m : Map (List ℕ) Held) (low high : ℕ) (b : Bool) (count limit : ℕ) (g : low ≤ high) (h : high ≤ length m) (l : limit ≡ min count (high - low)) where
  by-stretch : limit ≡ min count (length (stretch low high b m))
  by-stretch = rw (length-stretch m low high b g h) l

  pub stretch-short : (lens out : List ℕ) → min (length lens / 2) (length out / 64) < limit → Fetches (Ok (take count (stretch low high b m))) lens out (Err ListTooShort) lens out
  stretch-short = rows_short (stretch low high b m) count limit by-stretch

  pub stretch-full : (lens out lens' out' : List ℕ) → limit ≤ min (length lens / 2) (length out / 64)
      → lens' ≡ lent_lens 0 (take limit (stretch low high b m)) lens → out' ≡ lent_bytes 0 (take limit (stretch low high b m)) out
      → Fetches (Ok (take count (stretch low high b m))) lens out (Ok limit) lens' out'
  stretch-full = rows-full (stretch low high b m) count limit by-stretch

-- ---- the queries

module _ (K : Map (List ℕ) Held) (t : Table) (k : t.keys ≡ K) where
  pub scan-is : (start end : Option (List ℕ)) (backwards : Bool) (count : ℕ)
      → scan start end backwards count t ≡ cond (start_above_end start end || eqb count 0) (refuse BadRange) (Ok (take count (in_direction backwards (map row_of (select (λ p. in_bounds start end p.key) K)))))
  unfolding scan
  scan-is start end backwards count = rw k

  pub before-is : (gate : ℕ) → fetch_kvs_before gate t ≡ in_list (UpTo gate) false K
  unfolding fetch_kvs_before keys_of in_list in_direction meets
  before-is gate = rw k (ap (map row_of) (select-select (λ p. leb p.val.file.seq gate) (λ p. same_queue p.val.file.queue Append) K))

  pub rewritten-is : fetch_rewritten_kvs t ≡ in_list OfRewrite false K
  unfolding fetch_rewritten_kvs keys_of in_list in_direction meets
  rewritten-is = rw k

  module _ (start end : Option (List ℕ)) (backwards : Bool) (count : ℕ) (lens out : List ℕ) where
    pub scan-bounds : start_above_end start end ≡ true → Fetches (scan start end backwards count t) lens out (Err BadRange) lens out
    scan-bounds h = rw (scan-is start end backwards count, h) (bad-range [] lens out)

    pub scan-none : start_above_end start end ≡ false → count ≡ 0 → Fetches (scan start end backwards count t) lens out (Err BadRange) lens out
    scan-none h z = rw (scan-is start end backwards count, h, eq-eqb count 0 z) (bad-range [] lens out)

    -- the rows between the places of the bounds
    pub scan-stretch : (r : ByCause ℕ) (lens' out' : List ℕ) (n low high : ℕ) → Ascending bytes K → start_above_end start end ≡ false → (count ≡ 0 → ⊥)
        → length K ≡ n → low ≡ below_bound 0 start K → high ≡ below_bound n end K
        → Fetches (Ok (take count (stretch low high backwards K))) lens out r lens' out'
        → Fetches (scan start end backwards count t) lens out r lens' out'
    unfolding stretch
    scan-stretch r lens' out' n low high a h z e p q f =
        let g : select (λ x. in_bounds start end x.key) K ≡ part low (high - low) K = rw (p, q, ← e) (in-stretch K a start end h) in
        rw (scan-is start end backwards count, h, ne_eqb count 0 z, g) f

  whole : (which : Which) (n : ℕ) → length K ≤ n → take n (in_list which false K) ≡ in_list which false K
  whole which n h =
      take_all n (in_list which false K) (rw (length-in which false K) (omega (arith, length-select (meets which) K)))

  pub before-rows : (gate : ℕ) (n : ℕ) (lens out : List ℕ) (r : ByCause ℕ) (lens' out' : List ℕ) → length K ≡ n
      → Fetches (Ok (take n (in_list (UpTo gate) false K))) lens out r lens' out' → Fetches (Ok (fetch_kvs_before gate t)) lens out r lens' out'
  before-rows gate n lens out r lens' out' l f = rw (before-is gate) (rw (whole (UpTo gate) n (omega arith)) at f)

  pub rewritten-rows : (n : ℕ) (lens out : List ℕ) (r : ByCause ℕ) (lens' out' : List ℕ) → length K ≡ n
      → Fetches (Ok (take n (in_list OfRewrite false K))) lens out r lens' out' → Fetches (Ok (fetch_rewritten_kvs t)) lens out r lens' out'
  rewritten-rows n lens out r lens' out' l f = rw (rewritten-is) (rw (whole OfRewrite n (omega arith)) at f)
