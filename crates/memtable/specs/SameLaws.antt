-- A table depends on its head and on the rows in use alone. Assumes nothing.
use Rattle.std.specs.Prelude.{Bool, true, List, ◌≡◌, ℕ, ◌+◌, ◌*◌, ◌≤◌, ◌<◌, length, get_or}
use Rattle.std.proofs.Common.{sym, ◌∙◌, arith}
use Rattle.std.proofs.Math.Decide.{dec_le}
use Rattle.maps.specs.BoolLaws.{clash}
use Rattle.maps.specs.Lists.{every}
use Rattle.maps.specs.Maps.{Map}
use Rattle.pipe_log.specs.Rows.{window}
use Rattle.rules.specs.Items.{is_rewrite}
use Rattle.rules.specs.Table.{Held}
use Rattle.memtable.specs.declared.Head.{Head}
use Rattle.memtable.specs.Views.{table_of, Wf}
use Rattle.memtable.specs.RowLaws.{row_moved, row_at-append}
use Rattle.memtable.specs.WindowLaws.{window_same, window-every}

-- ys has the rows in use of xs
module _ (h : Head) (xs ys : List ℕ) (e : (k : ℕ) → k < h.len * 8 → get_or ys k 0 ≡ get_or xs k 0) where
  pub table_same : (keys : Map (List ℕ) Held) (counted : Bool) → table_of h ys keys counted ≡ table_of h xs keys counted
  unfolding table_of
  table_same keys counted = rw (window_same h.first_index h.len ys xs e)

  pub wf_same : h.len * 8 ≤ length ys → Wf h xs → Wf h ys
  wf_same r w =
      let front = w.front in
      record {
        room = r;
        front = w.front;
        index = w.index;
        rewritten = λ i l m. row_moved xs ys i i (λ k b. e (i * 8 + k) (omega arith)) (w.rewritten i l m);
        appended = λ i l m. row_moved xs ys i i (λ k b. e (i * 8 + k) (omega arith)) (w.appended i l m);
      }

-- where every entry is a Rewrite one, the Rewrite entries are all
pub all-rewritten : (h : Head) (xs : List ℕ) → Wf h xs → every is_rewrite (window h.first_index h.len xs) ≡ true → h.len ≤ h.rewrite_count
all-rewritten h xs w a =
    elim (dec_le h.len h.rewrite_count) [
      | yes l ↦ l
      | no l ↦
          absurd (clash (sym (row_at-append h.first_index xs h.rewrite_count (w.appended h.rewrite_count (omega arith) (omega arith)))
          ∙ window-every is_rewrite h.first_index h.len xs h.rewrite_count (omega arith) a))
    ]
