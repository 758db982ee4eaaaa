-- The fronts in use, copied, make the same store. Assumes nothing.
use mathlib.Core.Path.{◌≡◌}
use mathlib.Core.List.{List}
use Prim.Native.Nat.{ℕ, ◌*◌, ◌≤◌}
use native.Mathlib.Omega.{arith}
use lib.ListN.{length, take, drop}
use lib.Seq.{length-take-le}
use Rattle.cells.specs.Part.{put}
use Rattle.cells.specs.PartLaws.{part-front, part-put_same, drop-put, length-put}
use Rattle.stores.specs.declared.Store.{Store}
use Rattle.stores.specs.Stores.{Area, Stored, Fitting, Copied, Kept}
use Rattle.stores.specs.StoreLaws.{kept-items, kept-stored}

-- list d with the first n elements of another: what lies behind them is as it was
record FrontCopied (n : ℕ) (from d e : List ℕ) : Type 0 where
  front : take n e ≡ take n from
  back : drop n e ≡ drop n d
  sized : length e ≡ length d

front-copied : (n : ℕ) (from d e : List ℕ) → n ≤ length from → n ≤ length d → e ≡ put d 0 (take n from) → FrontCopied n from d e
front-copied n from d e h l q =
    let k = length-take-le n from h in
    record {
      front = rw (q, part-front n (put d 0 (take n from))) (part-put_same n d 0 (take n from) k (omega arith));
      back = rw q (drop-put n d 0 (take n from) (omega arith) (omega arith));
      sized = rw q (length-put d 0 (take n from) (omega arith));
    }

module _ (s : Store) (a d b : Area) (w : Stored s a) (f : Fitting s d) where
  bytes-used : (s.items * 64 ≤ length a.bytes) × (s.items * 64 ≤ length d.bytes)
  bytes-used =
      let p = w.places in
      let q = w.rows in
      let r = f.places in
      let t = f.rows in
      (omega arith, omega arith)

  pub copied : b.items ≡ put d.items 0 (take (s.items * 9) a.items) → b.entries ≡ put d.entries 0 (take (s.entries * 8) a.entries) → b.bytes ≡ put d.bytes 0 (take (s.items * 64) a.bytes) → Copied s a d b
  copied p q r =
      let i = front-copied (s.items * 9) a.items d.items b.items w.rows f.rows p in
      let e = front-copied (s.entries * 8) a.entries d.entries b.entries w.lists f.lists q in
      let c = front-copied (s.items * 64) a.bytes d.bytes b.bytes bytes-used.0 bytes-used.1 r in
      let kept : Kept s a b = record { rows = i.front; lists = e.front; places = c.front } in
      let m = i.sized in
      let n = c.sized in
      let p = f.places in
      record {
        items = kept-items s a b w kept;
        wf = kept-stored s a b w kept (rw (m, n) p);
        kept = kept;
        rest = record { rows = i.back; lists = e.back; places = c.back };
        sized = record { rows = m; lists = e.sized; places = n };
      }
