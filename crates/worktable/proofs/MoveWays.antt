-- A stretch of one width that is copied to a place of another width in the same area. Assumes nothing.
use mathlib.Core.Bool.{true}
use mathlib.Core.List.{List, [], ◌∷◌}
use mathlib.Core.Path.{◌≡◌, sym, ap, ◌∙◌}
use Prim.Native.Nat.{ℕ, ◌+◌, ◌-◌, ◌*◌, ◌≤◌, ◌<◌}
use native.Mathlib.Nat.{add-zero}
use native.Mathlib.Omega.{arith}
use lib.ListN.{length, get_or, set}
use Rattle.cells.specs.Part.{part, put}
use Rattle.cells.specs.PartLaws.{length_part, length-put, get_or-part, get_or-put-in, get_or-put-before, get_or-put-after, part-part, part-put-before, part-put-after, part-put-around, put-in-part, put-put, set-put}
use Rattle.rules.specs.Table.{Table, made}
use Rattle.rules.specs.Context.{table_fits}
use Rattle.rules_by_group.proofs.RoomLaws.{table-room}
use Rattle.memtable.specs.Views.{table_of}
use Rattle.memtable.specs.WindowLaws.{length-window}
use Rattle.kvs.specs.RowLaws.{length-keys}
use Rattle.stretch.specs.Stretch.{is_used, group_in, span_in, head_part, key_count, is_counted, entry_rows_at, key_rows_at, table_at, WfAt}
use Rattle.stretch.specs.Stretch as stretch
use Rattle.stretch.specs.StretchLaws.{Holds, own, table_of_lem, wf_of}
use Rattle.stretch.specs.Laws.{table-short, wf_any, wf-short, cell-used, copied-length, copied-bytes-length, copied-table, copied_wf, copied-used}
use Rattle.groups.specs.Area.{stretch_at, bytes_at, cell_at}
use Rattle.worktable.specs.Work.{long_keys_at, long_numbers, long_bytes, work_in}
use Rattle.worktable.specs.Moves.{work_at, work_bytes_at, area_numbers, area_bytes, long_in, long_bytes_in, Loaded, Fitting, Unloaded}
use Rattle.worktable.specs.WorkLaws.{few_of, stands-own}
use Rattle.worktable.proofs.LayWays.{header_few}

-- s is laid in at place i of the n numbers from place c on
module _ (c n i : ℕ) (l s : List ℕ) (h : i + length s ≤ n) (m : c + n ≤ length l) where
  in_place : part c n (put l (c + i) s) ≡ put (part c n l) i s
  in_place = part-put-around c n l i s h m

  place-only : put l (c + i) s ≡ put l c (part c n (put l (c + i) s))
  place-only = sym (put-in-part c n l i s h m) ∙ ap (λ (t : List ℕ). put l c t) (sym in_place)

-- the m numbers from place a on are a stretch whose keys begin at w, the n numbers from place c on take it with keys from v on
module _ (w v a m c n : ℕ) (xs : List ℕ) (x : a + m ≤ length xs) (y : c + n ≤ length xs) (e k : ℕ) (f : 10 + e * 8 ≤ v) (g : v + k * 4 ≤ n) (i : 10 + e * 8 ≤ m) (j : w + k * 4 ≤ m) where
  abbrev front : List ℕ
  front = part a (10 + e * 8) xs

  abbrev once : List ℕ
  once = put xs c front

  abbrev rows : List ℕ
  rows = part (a + w) (k * 4) once

  abbrev twice : List ℕ
  twice = put once (c + v) rows

  length_front : length front ≡ 10 + e * 8
  length_front = length_part a (10 + e * 8) xs (omega arith)

  pub length_once : length once ≡ length xs
  length_once = let l = length_front in length-put xs c front (omega arith)

  length-rows : length rows ≡ k * 4
  length-rows = let l = length_once in length_part (a + w) (k * 4) once (omega arith)

  front-is : front ≡ part 0 (10 + e * 8) (part a m xs)
  front-is = sym (part-part 0 (10 + e * 8) a m xs (omega arith) ∙ rw (add-zero a))

  once-in : part c n once ≡ put (part c n xs) 0 (part 0 (10 + e * 8) (part a m xs))
  once-in = let l = length_front in rw (← front-is) (rw (add-zero c) at (in_place c n 0 xs front (omega arith) y))

  module _ (stay : rows ≡ part (a + w) (k * 4) xs) where
    pub twice_in : part c n twice ≡ put (put (part c n xs) 0 (part 0 (10 + e * 8) (part a m xs))) v (part w (k * 4) (part a m xs))
    twice_in =
        let l = length_once in
        let r = length-rows in
        in_place c n v once rows (omega arith) (omega arith)
        ∙ ap (λ (t : List ℕ). put t v rows) once-in
        ∙ ap (λ (t : List ℕ). put (put (part c n xs) 0 (part 0 (10 + e * 8) (part a m xs))) v t) (stay ∙ sym (part-part w (k * 4) a m xs j))

  pub twice-length : length twice ≡ length xs
  twice-length = let l = length_once in let r = length-rows in length-put once (c + v) rows (omega arith) ∙ l

  pub twice-only : twice ≡ put xs c (part c n twice)
  twice-only =
      let l = length_front in
      let o = length_once in
      let r = length-rows in
      let p : length (part c n once) ≡ n = length_part c n once (omega arith) in
      let t = twice-length in
      let q : length (part c n twice) ≡ n = length_part c n twice (omega arith) in
      place-only c n v once rows (omega arith) (omega arith)
      ∙ ap (λ (s : List ℕ). put s c (part c n twice)) (rw (add-zero c) at (place-only c n 0 xs front (omega arith) y))
      ∙ put-put xs c (part c n once) (part c n twice) (omega arith) (omega arith)

-- the same of bytes
module _ (a m c n : ℕ) (bs : List ℕ) (x : a + m ≤ length bs) (y : c + n ≤ length bs) (k : ℕ) (g : k * 64 ≤ n) (i : k * 64 ≤ m) where
  abbrev bytes : List ℕ
  bytes = part a (k * 64) bs

  length-bytes : length bytes ≡ k * 64
  length-bytes = length_part a (k * 64) bs (omega arith)

  pub bytes-in : part c n (put bs c bytes) ≡ put (part c n bs) 0 (part 0 (k * 64) (part a m bs))
  bytes-in =
      let l = length-bytes in
      rw (part-part 0 (k * 64) a m bs (omega arith), add-zero a) (rw (add-zero c) at (in_place c n 0 bs bytes (omega arith) y))

  pub bytes-only : put bs c bytes ≡ put bs c (part c n (put bs c bytes))
  bytes-only = let l = length-bytes in rw (add-zero c) at (place-only c n 0 bs bytes (omega arith) y)

-- ---- `load`

-- the header's numbers of entries and of keys
entries-in : (k : ℕ) (xs : List ℕ) → (head_part (stretch_at k xs)).len ≡ get_or xs (k * 586 + 3) 0
unfolding head_part stretch_at
entries-in k xs = get_or-part (k * 586) 586 xs 3 0 (omega arith)

keys_in_lem : (k : ℕ) (xs : List ℕ) → key_count (stretch_at k xs) ≡ get_or xs (k * 586 + 8) 0
unfolding key_count stretch_at
keys_in_lem k xs = get_or-part (k * 586) 586 xs 8 0 (omega arith)

few-held : (q d : List ℕ) → stretch.Wf q d → ((head_part q).len ≤ 64) × (key_count q ≤ 16)
unfolding head_part key_count
few-held q d w = header_few q d w

pub load_few : (k : ℕ) (xs bs : List ℕ) → stretch.Wf (stretch_at k xs) (bytes_at k bs) → (get_or xs (k * 586 + 3) 0 ≤ 64) × (get_or xs (k * 586 + 8) 0 ≤ 16)
load_few k xs bs w =
    let f = few-held (stretch_at k xs) (bytes_at k bs) w in
    let a = entries-in k xs in
    let b = keys_in_lem k xs in
    (omega (arith, f, a), omega (arith, f, b))

module _ (k : ℕ) (xs bs : List ℕ) (h : k < 8) (x : area_numbers ≤ length xs) (y : area_bytes ≤ length bs) (w : stretch.Wf (stretch_at k xs) (bytes_at k bs)) (u : is_used (stretch_at k xs) ≡ true) where
  module _ (e n : ℕ) (a : (head_part (stretch_at k xs)).len ≡ e) (b : key_count (stretch_at k xs) ≡ n) where
    few : (e ≤ 64) × (n ≤ 16)
    few = let f = few-held (stretch_at k xs) (bytes_at k bs) w in (omega (arith, f, a), omega (arith, f, b))

    abbrev moved : List ℕ
    moved = put (put xs work_at (part (k * 586) (10 + e * 8) xs)) (work_at + long_keys_at) (part (k * 586 + 522) (n * 4) (put xs work_at (part (k * 586) (10 + e * 8) xs)))

    abbrev moved_bytes : List ℕ
    moved_bytes = put bs work_bytes_at (part (k * 1024) (n * 64) bs)

    long-is : long_in moved ≡ put (put (long_in xs) 0 (part 0 (10 + e * 8) (stretch_at k xs))) long_keys_at (part 522 (n * 4) (stretch_at k xs))
    unfolding long_in stretch_at
    long-is =
        let f = few in
        twice_in 522 long_keys_at (k * 586) 586 work_at long_numbers xs (omega arith) (omega arith) e n (omega arith) (omega arith) (omega arith) (omega arith)
        (part-put-before (k * 586 + 522) (n * 4) xs work_at (part (k * 586) (10 + e * 8) xs) (omega arith) (omega arith))

    long-bytes-are : long_bytes_in moved_bytes ≡ put (long_bytes_in bs) 0 (part 0 (n * 64) (bytes_at k bs))
    unfolding long_bytes_in bytes_at
    long-bytes-are = let f = few in bytes-in (k * 1024) 1024 work_bytes_at long_bytes bs (omega arith) (omega arith) n (omega arith) (omega arith)

    long-length : length (long_in xs) ≡ long_numbers
    unfolding long_in
    long-length = length_part work_at long_numbers xs (omega arith)

    long-bytes-length : length (long_bytes_in bs) ≡ long_bytes
    unfolding long_bytes_in
    long-bytes-length = length_part work_bytes_at long_bytes bs (omega arith)

    loaded_all : Loaded k xs bs moved moved_bytes
    unfolding long_in long_bytes_in
    loaded_all =
        let f = few in
        let o = wf_any (stretch_at k xs) (bytes_at k bs) w in
        let l = long-length in
        let m = long-bytes-length in
        let p = stretch_at k xs in
        let d = bytes_at k bs in
        let a₁ : 10 + (head_part p).len * 8 ≤ long_keys_at = omega (arith, f, a) in
        let a₂ : long_keys_at + key_count p * 4 ≤ length (long_in xs) = omega (arith, f, b, l) in
        let a₃ : key_count p * 64 ≤ length (long_bytes_in bs) = omega (arith, f, b, m) in
        record {
          stands =
              rw (long-is, long-bytes-are, ← a, ← b)
              (record {
                numbers-are = copied-length 522 long_keys_at p d (long_in xs) (long_bytes_in bs) o a₁ a₂ a₃ ∙ l;
                bytes-are = copied-bytes-length 522 long_keys_at p d (long_in xs) (long_bytes_in bs) o a₁ a₂ a₃ ∙ m;
                used = copied-used 522 long_keys_at p d (long_in xs) (long_bytes_in bs) o a₁ a₂ a₃ ∙ u;
                table = copied-table 522 long_keys_at p d (long_in xs) (long_bytes_in bs) o a₁ a₂ a₃ ∙ table-short p d w.numbers.numbers-are;
                wf = copied_wf 522 long_keys_at p d (long_in xs) (long_bytes_in bs) o a₁ a₂ a₃;
              });
          only =
              record {
                numbers = twice-only 522 long_keys_at (k * 586) 586 work_at long_numbers xs (omega arith) (omega arith) e n (omega arith) (omega arith) (omega arith) (omega arith);
                bytes = bytes-only (k * 1024) 1024 work_bytes_at long_bytes bs (omega arith) (omega arith) n (omega arith) (omega arith);
              };
        }

  pub loaded : (e n : ℕ) (ys zs ds : List ℕ) → get_or xs (k * 586 + 3) 0 ≡ e → get_or xs (k * 586 + 8) 0 ≡ n → ys ≡ put xs work_at (part (k * 586) (10 + e * 8) xs) → zs ≡ put ys (work_at + long_keys_at) (part (k * 586 + 522) (n * 4) ys) → ds ≡ put bs work_bytes_at (part (k * 1024) (n * 64) bs) → Loaded k xs bs zs ds
  loaded e n ys zs ds a b p q r = rw (r, q, p) (loaded_all e n (entries-in k xs ∙ a) (keys_in_lem k xs ∙ b))

-- ---- `unload`

-- the group's number is no part of the table
module _ (w g : ℕ) (q : List ℕ) (f : 10 ≤ w) (t : w ≤ length q) where
  abbrev named : List ℕ
  named = put q 1 (g ∷ [])

  named-length : length named ≡ length q
  named-length = length-put q 1 (g ∷ []) (omega arith)

  named_at : (i : ℕ) → 1 < i → get_or named i 0 ≡ get_or q i 0
  named_at i l = get_or-put-after q 1 (g ∷ []) i 0 (omega arith) (omega arith)

  named-head : head_part named ≡ head_part q
  unfolding head_part span_in
  named-head =
      rw (named_at 2 (omega arith), named_at 3 (omega arith), named_at 4 (omega arith), named_at 5 (omega arith), named_at 6 (omega arith), named_at 7 (omega arith))

  named-holds : Holds w named (head_part q) (entry_rows_at w q) (key_count q) (key_rows_at w q) (is_counted q)
  unfolding entry_rows_at key_rows_at key_count is_counted
  named-holds =
      let l = named-length in
      record {
        from = f;
        to = omega arith;
        head = named-head;
        entries = part-put-after 10 (w - 10) q 1 (g ∷ []) (omega arith) (omega arith);
        count = named_at 8 (omega arith);
        keys = rw l (part-put-after w (length q - w) q 1 (g ∷ []) (omega arith) (omega arith));
        counted = rw (named_at 9 (omega arith));
      }

  named_table : (b : List ℕ) → table_at w named b ≡ table_at w q b
  named_table b =
      table_of_lem w named (head_part q) (entry_rows_at w q) (key_count q) (key_rows_at w q) (is_counted q) named-holds b
      ∙ sym (table_of_lem w q (head_part q) (entry_rows_at w q) (key_count q) (key_rows_at w q) (is_counted q) (own w q f t) b)

  named_wf : (b : List ℕ) → WfAt w q b → WfAt w named b
  named_wf b o =
      wf_of w named (head_part q) (entry_rows_at w q) (key_count q) (key_rows_at w q) (is_counted q) named-holds b o.numbers.entries o.keys

  named-used : is_used named ≡ is_used q
  unfolding is_used
  named-used = rw (get_or-put-before q 1 (g ∷ []) 0 0 (omega arith) (omega arith))

  named-group : group_in named ≡ g
  unfolding group_in
  named-group = get_or-put-in q 1 (g ∷ []) 0 0 (omega arith) (omega arith)

-- the header's numbers of entries and of keys
long-entries : (xs : List ℕ) → (head_part (long_in xs)).len ≡ get_or xs (work_at + 3) 0
unfolding head_part long_in
long-entries xs = get_or-part work_at long_numbers xs 3 0 (omega arith)

long-keys : (xs : List ℕ) → key_count (long_in xs) ≡ get_or xs (work_at + 8) 0
unfolding key_count long_in
long-keys xs = get_or-part work_at long_numbers xs 8 0 (omega arith)

few-work : (p b : List ℕ) → table_fits (table_at long_keys_at p b) ≡ true → ((head_part p).len ≤ 64) × (key_count p ≤ 16)
few-work p b t =
    let f = few_of 64 16 (table_at long_keys_at p b) (table-room (table_at long_keys_at p b) t) in (
      rw (← length-window (head_part p).first_index (head_part p).len (entry_rows_at long_keys_at p)) (unfold table_at table_of in f.0),
      rw (← length-keys (key_count p) (key_rows_at long_keys_at p) b) (unfold table_at table_of in f.1),
    )

work-few : (xs bs : List ℕ) → Fitting xs bs → ((head_part (long_in xs)).len ≤ 64) × (key_count (long_in xs) ≤ 16)
work-few xs bs t =
    let s = stands-own (long_in xs) (long_bytes_in bs) t.wf t.used in
    few-work (long_in xs) (long_bytes_in bs) (ap table_fits s.table ∙ t.fits)

pub unload_few : (xs bs : List ℕ) → Fitting xs bs → (get_or xs (work_at + 3) 0 ≤ 64) × (get_or xs (work_at + 8) 0 ≤ 16)
unload_few xs bs t =
    let f = work-few xs bs t in
    let a = long-entries xs in
    let b = long-keys xs in
    (omega (arith, f, a), omega (arith, f, b))

-- a table stands in a group's stretch
record Spared (t : Table) (p b : List ℕ) : Type 0 where
  numbers-are : length p ≡ 586
  bytes-are : length b ≡ 1024
  table : table_at 522 p b ≡ t
  used : is_used p ≡ true
  wf : WfAt 522 p b

module _ (k g : ℕ) (xs bs : List ℕ) (h : k < 8) (x : area_numbers ≤ length xs) (y : area_bytes ≤ length bs) (t : Fitting xs bs) where
  module _ (e n : ℕ) (a : (head_part (long_in xs)).len ≡ e) (b : key_count (long_in xs) ≡ n) where
    few-out : (e ≤ 64) × (n ≤ 16)
    few-out = let f = work-few xs bs t in (omega (arith, f, a), omega (arith, f, b))

    abbrev first : List ℕ
    first = put xs ((8 + k) * 586) (part work_at (10 + e * 8) xs)

    abbrev out : List ℕ
    out = put first ((8 + k) * 586 + 522) (part (work_at + long_keys_at) (n * 4) first)

    abbrev out_bytes : List ℕ
    out_bytes = put bs ((8 + k) * 1024) (part work_bytes_at (n * 64) bs)

    -- the spare stretch, before the group's number is written
    abbrev spare : List ℕ
    spare = put (put (stretch_at (8 + k) xs) 0 (part 0 (10 + e * 8) (long_in xs))) 522 (part long_keys_at (n * 4) (long_in xs))

    abbrev spare_bytes : List ℕ
    spare_bytes = put (bytes_at (8 + k) bs) 0 (part 0 (n * 64) (long_bytes_in bs))

    out-length : length out ≡ length xs
    out-length =
        let f = few-out in
        twice-length long_keys_at 522 work_at long_numbers ((8 + k) * 586) 586 xs (omega arith) (omega arith) e n (omega arith) (omega arith) (omega arith) (omega arith)

    spare-is : stretch_at (8 + k) out ≡ spare
    unfolding stretch_at long_in
    spare-is =
        let f = few-out in
        let l : length (part work_at (10 + e * 8) xs) ≡ 10 + e * 8 = length_part work_at (10 + e * 8) xs (omega arith) in
        twice_in long_keys_at 522 work_at long_numbers ((8 + k) * 586) 586 xs (omega arith) (omega arith) e n (omega arith) (omega arith) (omega arith) (omega arith)
        (part-put-after (work_at + long_keys_at) (n * 4) xs ((8 + k) * 586) (part work_at (10 + e * 8) xs) (omega arith) (omega arith))

    spare-bytes-are : bytes_at (8 + k) out_bytes ≡ spare_bytes
    unfolding bytes_at long_bytes_in
    spare-bytes-are = let f = few-out in bytes-in work_bytes_at long_bytes ((8 + k) * 1024) 1024 bs (omega arith) (omega arith) n (omega arith) (omega arith)

    slot-length : length (stretch_at (8 + k) xs) ≡ 586
    unfolding stretch_at
    slot-length = length_part ((8 + k) * 586) 586 xs (omega arith)

    slot-bytes-length : length (bytes_at (8 + k) bs) ≡ 1024
    unfolding bytes_at
    slot-bytes-length = length_part ((8 + k) * 1024) 1024 bs (omega arith)

    -- the group's number
    abbrev done : List ℕ
    done = put out ((8 + k) * 586 + 1) (g ∷ [])

    done-is : stretch_at (8 + k) done ≡ put spare 1 (g ∷ [])
    unfolding stretch_at
    done-is =
        let l = out-length in
        in_place ((8 + k) * 586) 586 1 out (g ∷ []) (omega arith) (omega arith) ∙ ap (λ (s : List ℕ). put s 1 (g ∷ [])) spare-is

    done-only : done ≡ put xs ((8 + k) * 586) (stretch_at (8 + k) done)
    unfolding stretch_at
    done-only =
        let f = few-out in
        let l = out-length in
        let m : length done ≡ length out = length-put out ((8 + k) * 586 + 1) (g ∷ []) (omega arith) in
        let p : length (part ((8 + k) * 586) 586 out) ≡ 586 = length_part ((8 + k) * 586) 586 out (omega arith) in
        let q : length (part ((8 + k) * 586) 586 done) ≡ 586 = length_part ((8 + k) * 586) 586 done (omega arith) in
        place-only ((8 + k) * 586) 586 1 out (g ∷ []) (omega arith) (omega arith)
        ∙ ap (λ (s : List ℕ). put s ((8 + k) * 586) (part ((8 + k) * 586) 586 done))
        (twice-only long_keys_at 522 work_at long_numbers ((8 + k) * 586) 586 xs (omega arith) (omega arith) e n (omega arith) (omega arith) (omega arith) (omega arith))
        ∙ put-put xs ((8 + k) * 586) (part ((8 + k) * 586) 586 out) (part ((8 + k) * 586) 586 done) (omega arith) (omega arith)

    bytes-done : out_bytes ≡ put bs ((8 + k) * 1024) (bytes_at (8 + k) out_bytes)
    unfolding bytes_at
    bytes-done = let f = few-out in bytes-only work_bytes_at long_bytes ((8 + k) * 1024) 1024 bs (omega arith) (omega arith) n (omega arith) (omega arith)

    abbrev work : Table
    work = made (work_in (long_in xs) (long_bytes_in bs))

    spared : Spared work spare spare_bytes
    spared =
        let f = few-out in
        let s = stands-own (long_in xs) (long_bytes_in bs) t.wf t.used in
        let l = slot-length in
        let m = slot-bytes-length in
        let p = long_in xs in
        let d = long_bytes_in bs in
        let q = stretch_at (8 + k) xs in
        let c = bytes_at (8 + k) bs in
        let a₁ : 10 + (head_part p).len * 8 ≤ 522 = omega (arith, f, a) in
        let a₂ : 522 + key_count p * 4 ≤ length q = omega (arith, f, b, l) in
        let a₃ : key_count p * 64 ≤ length c = omega (arith, f, b, m) in
        rw (← a, ← b)
        (record {
          numbers-are = copied-length long_keys_at 522 p d q c s.wf a₁ a₂ a₃ ∙ l;
          bytes-are = copied-bytes-length long_keys_at 522 p d q c s.wf a₁ a₂ a₃ ∙ m;
          table = copied-table long_keys_at 522 p d q c s.wf a₁ a₂ a₃ ∙ s.table;
          used = copied-used long_keys_at 522 p d q c s.wf a₁ a₂ a₃ ∙ s.used;
          wf = copied_wf long_keys_at 522 p d q c s.wf a₁ a₂ a₃;
        })

    unloaded_all : Unloaded k g xs bs done out_bytes
    unfolding cell_at
    unloaded_all =
        let s = spared in
        let l = s.numbers-are in
        let q = put spare 1 (g ∷ []) in
        let m : length q ≡ 586 = named-length 522 g spare (omega arith) (omega arith) ∙ l in
        record {
          cell =
              rw (done-is, spare-bytes-are)
              (cell-used q spare_bytes (named-used 522 g spare (omega arith) (omega arith) ∙ s.used)
              ∙ rw (named-group 522 g spare (omega arith) (omega arith), ← table-short q spare_bytes m, named_table 522 g spare (omega arith) (omega arith) spare_bytes, s.table));
          wf = rw (done-is, spare-bytes-are) (wf-short q spare_bytes m s.bytes-are (named_wf 522 g spare (omega arith) (omega arith) spare_bytes s.wf));
          only = record { numbers = done-only; bytes = bytes-done };
        }

  pub unloaded : (e n : ℕ) (ys zs ds : List ℕ) → get_or xs (work_at + 3) 0 ≡ e → get_or xs (work_at + 8) 0 ≡ n → ys ≡ put xs ((8 + k) * 586) (part work_at (10 + e * 8) xs) → zs ≡ put ys ((8 + k) * 586 + 522) (part (work_at + long_keys_at) (n * 4) ys) → ds ≡ put bs ((8 + k) * 1024) (part work_bytes_at (n * 64) bs) → Unloaded k g xs bs (set zs ((8 + k) * 586 + 1) g) ds
  unloaded e n ys zs ds a b p q r =
      let c = long-entries xs ∙ a in
      let d = long-keys xs ∙ b in
      let l = out-length e n c d in
      rw (r, q, p, set-put (out e n c d) ((8 + k) * 586 + 1) g (omega arith)) (unloaded_all e n c d)
