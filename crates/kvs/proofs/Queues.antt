-- The keys of a queue, counted and compared from row to row. Assumes nothing.
use Prim.Native.Nat.{ℕ, ◌+◌, ◌*◌, ◌≤◌, ◌<◌}
use native.Mathlib.Numerals.{add-one}
use mathlib.Core.Bool.{Bool, cond}
use mathlib.Core.Path.{◌≡◌, refl, sym, ap, ◌∙◌}
use denote.Enum.Bare.{sameb}
use Rattle.pipe_log.specs.contracts.LogQueue.{the_type}
use mathlib.Core.List.{List, []}
use Rattle.std.specs.Prelude.{Some}
use lib.ListN.{length, get_or}
use Rattle.pipe_log.specs.Rows.{queue_at}
use Rattle.maps.specs.Lists.{select, least}
use Rattle.maps.specs.Maps.{Pair, Map}
use Rattle.maps.specs.OrderLaws.{split}
use Rattle.rules.specs.Items.{LogQueue, Append, Rewrite, same_queue}
use Rattle.rules.specs.Table.{Held, Table}
use Rattle.rules.specs.TableQueries.{keys_of, least_seq}
use Rattle.kvs.specs.Rows.{keys_in}
use Rattle.kvs.specs.RowLaws.{length-keys}
use Rattle.kvs.specs.Places.{pair_at}
use Rattle.kvs.proofs.Read.{file_is}
use Rattle.kvs.proofs.Selected.{selected, selected_all, selected_none, selected-more, count_more}

-- ---- one queue

pub same_queue_is : (p q : LogQueue) → sameb the_type p q ≡ same_queue p q
unfolding same_queue
same_queue_is Append Append = refl
same_queue_is Append Rewrite = refl
same_queue_is Rewrite Append = refl
same_queue_is Rewrite Rewrite = refl

-- ---- from row i on

-- whether a pair is of the queue
abbrev is_of : LogQueue → Pair (List ℕ) Held → Bool
is_of q p = same_queue p.val.file.queue q

module _ (n : ℕ) (rows : List ℕ) (q : LogQueue) where
  -- the queue's keys from row i on
  abbrev pub rest : List ℕ → ℕ → Map (List ℕ) Held
  rest bs i = selected (is_of q) (keys_in n rows bs) i

  pub rest_all : (bs : List ℕ) (t : Table) → t.keys ≡ keys_in n rows bs → keys_of q t ≡ rest bs 0
  unfolding keys_of
  rest_all bs t e = ap (select (is_of q)) e ∙ sym (selected_all (is_of q) (keys_in n rows bs))

  pub rest_none : (bs : List ℕ) (i : ℕ) → n ≤ i → rest bs i ≡ []
  rest_none bs i h = selected_none (is_of q) (keys_in n rows bs) i (rw length-keys h)

  module _ (bs : List ℕ) (i : ℕ) (h : i < n) where
    within : i < length (keys_in n rows bs)
    within = rw length-keys h

    file : (pair_at i (keys_in n rows bs)).val.file ≡ record { queue = queue_at (get_or rows (i * 4 + 2) 0); seq = get_or rows (i * 4 + 3) 0 }
    file = sym (file_is n rows bs (keys_in n rows bs) refl i within _ (refl, refl))

    pub count_rest : length (rest bs i) ≡ cond (same_queue (queue_at (get_or rows (i * 4 + 2) 0)) q) 1 0 + length (rest bs (i + 1))
    count_rest = rw file at (count_more (is_of q) (keys_in n rows bs) i within)

    pub least_more : least_seq (rest bs i) ≡ cond (same_queue (queue_at (get_or rows (i * 4 + 2) 0)) q) (least (Some (get_or rows (i * 4 + 3) 0)) (least_seq (rest bs (i + 1)))) (least_seq (rest bs (i + 1)))
    unfolding least_seq
    least_more =
        split (same_queue (queue_at (get_or rows (i * 4 + 2) 0)) q)
        (λ e. rw (selected-more (is_of q) (keys_in n rows bs) i within, file, e, add-one i))
        (λ e. rw (selected-more (is_of q) (keys_in n rows bs) i within, file, e, add-one i))
