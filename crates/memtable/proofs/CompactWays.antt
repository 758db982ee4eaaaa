-- Each way through `compact_to` gives what its contract says. Assumes nothing.
use mathlib.Core.List.{List}
use mathlib.Core.Path.{◌≡◌, refl, sym, ap, ◌∙◌}
use Prim.Native.Nat.{ℕ, ◌+◌, ◌-◌, ◌*◌, ◌≤◌, ◌<◌, min}
use native.Mathlib.Nat.{zero-add, add-zero}
use native.Mathlib.Omega.{arith}
use lib.ListN.{length, get_or, drop}
use lib.Seq.{get_or-drop}
use Rattle.cells.specs.Part.{part, put}
use Rattle.cells.specs.PartLaws.{length_part, get_or-part, length-put, get_or-put-in, put-part}
use Rattle.rules.specs.Items.{EntryIndex}
use Rattle.rules.specs.Table.{with_entries, compacted, compacted_count}
use Rattle.memtable.specs.declared.Head.{Head}
use Rattle.memtable.specs.Views.{table_of, Row, Wf}
use Rattle.memtable.specs.Compaction.{Compaction}
use Rattle.memtable.specs.RowLaws.{row_moved}
use Rattle.memtable.specs.WindowLaws.{length-window, window_same, from_all, below_none, below-window, from-window}

-- the head after c entries were dropped, g of them Rewrite ones
abbrev dropped : Head → ℕ → ℕ → Head
dropped h c g =
    record {
      first_index = h.first_index + c;
      len = h.len - c;
      rewrite_count = h.rewrite_count - g;
      atomic_group = h.atomic_group;
    }

module _ (h : Head) (xs : List ℕ) (i : ℕ) (w : Wf h xs) where
  pub compact-none : i ≤ h.first_index → Compaction h xs i (record { head = h; count = 0 }) xs
  unfolding compacted compacted_count with_entries table_of
  compact-none l =
      record {
        rule = λ keys counted. ap (λ (es : List EntryIndex). with_entries es (table_of h xs keys counted)) (sym (from_all i h.first_index h.len xs l));
        count = λ keys counted. rw (below_none i h.first_index h.len xs l);
        first = sym (add-zero h.first_index);
        rows = sym (put-part 0 (h.len * 8) xs (omega (arith, w.room)));
        wf = w;
      }

  module _ (c g : ℕ) (e : c ≡ min (i - h.first_index) h.len) (z : g ≡ min c h.rewrite_count) (ys : List ℕ) (d : ys ≡ put xs 0 (part (c * 8) ((h.len - c) * 8) xs)) where
    moved : (k : ℕ) → k < (h.len - c) * 8 → get_or ys k 0 ≡ get_or xs (c * 8 + k) 0
    moved k l =
        let n : length (part (c * 8) ((h.len - c) * 8) xs) ≡ (h.len - c) * 8 = length_part (c * 8) ((h.len - c) * 8) xs (omega (arith, w.room)) in
        let a : get_or (put xs 0 (part (c * 8) ((h.len - c) * 8) xs)) (0 + k) 0 ≡ get_or (part (c * 8) ((h.len - c) * 8) xs) k 0 =
        get_or-put-in xs 0 (part (c * 8) ((h.len - c) * 8) xs) k 0 (omega arith) (omega arith) in
        rw d (rw (zero-add k) at a ∙ get_or-part (c * 8) ((h.len - c) * 8) xs k 0 l)

    row : {q : ℕ} (j : ℕ) → j < h.len - c → Row q xs (c + j) → Row q ys j
    row j l =
        row_moved xs ys j (c + j) (λ k b. let a : c * 8 + (j * 8 + k) ≡ (c + j) * 8 + k = omega arith in rw a at (moved (j * 8 + k) (omega arith)))

    kept : Wf (dropped h c g) ys
    kept =
        let n : length (part (c * 8) ((h.len - c) * 8) xs) ≡ (h.len - c) * 8 = length_part (c * 8) ((h.len - c) * 8) xs (omega (arith, w.room)) in
        let m : length ys ≡ length xs = rw d (length-put xs 0 (part (c * 8) ((h.len - c) * 8) xs) (omega (arith, w.room))) in
        record {
          room = omega (arith, w.room);
          front = omega (arith, w.front);
          index = omega (arith, w.index);
          rewritten = λ j a b. row j (omega (arith, w.front)) (w.rewritten (c + j) (omega arith) (omega arith));
          appended = λ j a b. row j b (w.appended (c + j) (omega arith) (omega arith));
        }

    pub compact-some : Compaction h xs i (record { head = dropped h c g; count = c }) ys
    unfolding compacted compacted_count with_entries table_of
    compact-some =
        record {
          rule = λ keys counted. rw (from-window i h.first_index h.len xs, ← e, window_same (h.first_index + c) (h.len - c) ys (drop (c * 8) xs) (λ k l. rw (get_or-drop (c * 8) xs k 0) (moved k l)));
          count = λ keys counted. rw (below-window i h.first_index h.len xs, ← e) (sym (length-window h.first_index c xs));
          first = refl;
          rows = d;
          wf = kept;
        }
