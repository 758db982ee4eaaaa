-- Live counts of an Append context: all that it holds counts to the Append queue, and nothing to the Rewrite queue.
-- Assumes nothing.
use mathlib.Core.Path.{◌≡◌, refl, sym, ap, ◌∙◌}
use mathlib.Core.Bool.{true, false, cond, not, false≢true}
use mathlib.Core.List.{List, [], ◌∷◌}
use Rattle.std.specs.Prelude.{Some}
use Prim.Native.Nat.{ℕ, ◌+◌}
use lib.ListN.{length}
use Rattle.maps.specs.Lists.{sum}
use Rattle.maps.specs.Maps.{Pair, Map, lookup, numbers}
use Rattle.maps.specs.ListLaws.{every-from, select_all, select-none}
use Rattle.maps.specs.OrderLaws.{split, numbers_lawful}
use Rattle.maps.specs.MapLaws.{pair, Ascending, ascending-head, ascending-tail, lookup_below, lookup_head}
use Rattle.rules.specs.Items.{LogQueue, Append, Rewrite, EntryIndex, same_queue, file_of}
use Rattle.rules.specs.Table.{Held, Table}
use Rattle.rules.specs.TableQueries.{keys_of, live_of}
use Rattle.rules.specs.Context.{Context}
use Rattle.rules.specs.Queries.{live_entries}
use Rattle.history.specs.Demand3.{number_held}
use Rattle.history.proofs.Basics.{some-not-none}
use Rattle.history.proofs.Group.{Good, GoodIf}
use Rattle.history.proofs.Contexts.{GoodContext}

-- sums over a map of two functions that agree on what is held
sum_by : (f g : Pair ℕ Table → ℕ) (m : Map ℕ Table) → Ascending numbers m → ((k : ℕ) (t : Table) → lookup numbers k m ≡ Some t → f (pair k t) ≡ g (pair k t)) → sum f m ≡ sum g m
unfolding sum
sum_by f g [] asc h = refl
sum_by f g (x ∷ xs) asc h =
    λ i. h x.key x.val (lookup_head numbers numbers_lawful x xs) i + sum_by f g xs (ascending-tail numbers x xs asc) later i
  where
    not_first : (k : ℕ) (t : Table) → lookup numbers k xs ≡ Some t → numbers.same k x.key ≡ false
    not_first k t e =
        split (numbers.same k x.key)
        (λ u. absurd (some-not-none (sym e ∙ ap (λ j. lookup numbers j xs) (numbers_lawful.same-eq k x.key u) ∙ lookup_below numbers numbers_lawful x.key xs (ascending-head numbers x xs asc))))
        (λ u. u)

    behind : (k : ℕ) (t : Table) → lookup numbers k xs ≡ Some t → lookup numbers k (x ∷ xs) ≡ Some t
    behind k t e = unfold lookup in rw (not_first k t e) e

    later : (k : ℕ) (t : Table) → lookup numbers k xs ≡ Some t → f (pair k t) ≡ g (pair k t)
    later k t e = h k t (behind k t e)

sum-zero : (m : Map ℕ Table) → sum (λ p. 0) m ≡ 0
unfolding sum
sum-zero [] = refl
sum-zero (x ∷ xs) = ap (λ n. 0 + n) (sum-zero xs)

not-rewrite : (q : LogQueue) → same_queue q Append ≡ true → not (same_queue q Rewrite) ≡ true
unfolding same_queue
not-rewrite Append h = refl
not-rewrite Rewrite h = absurd (false≢true h)

module _ (t : Table) (g : Good t) where
  live_all : live_of Append t ≡ length t.entries + length t.keys
  unfolding live_of keys_of
  live_all =
      λ i. length (select_all (λ e. same_queue (file_of e).queue Append) t.entries g.append-entries i) + length (select_all (λ p. same_queue p.val.file.queue Append) t.keys g.append-keys i)

  live-none : live_of Rewrite t ≡ 0
  unfolding live_of keys_of
  live-none =
      λ i. length (select-none (λ e. same_queue (file_of e).queue Rewrite) t.entries (every-from (λ (e : EntryIndex). same_queue (file_of e).queue Append) (λ e. not (same_queue (file_of e).queue Rewrite)) t.entries (λ e. not-rewrite (file_of e).queue) g.append-entries) i) + length (select-none (λ p. same_queue p.val.file.queue Rewrite) t.keys (every-from (λ (p : Pair (List ℕ) Held). same_queue p.val.file.queue Append) (λ p. not (same_queue p.val.file.queue Rewrite)) t.keys (λ p. not-rewrite p.val.file.queue) g.append-keys) i)

  counts : (n : ℕ) → cond t.counted n 0 ≡ n
  counts n = rw g.is-counted

module _ (c : Context) (g : GoodContext c) where
  table-good : (k : ℕ) (t : Table) → lookup numbers k c.groups ≡ Some t → Good t
  table-good k t e = unfold GoodIf in rw e at (g.tables k)

  pub live-append : live_entries Append c ≡ number_held c
  unfolding live_entries number_held
  live-append =
      sum_by (λ p. cond p.val.counted (live_of Append p.val) 0) (λ p. length p.val.entries + length p.val.keys) c.groups g.ascend
      (λ k t e. counts t (table-good k t e) (live_of Append t) ∙ live_all t (table-good k t e))

  pub live-rewrite : live_entries Rewrite c ≡ 0
  unfolding live_entries
  live-rewrite =
      sum_by (λ p. cond p.val.counted (live_of Rewrite p.val) 0) (λ p. 0) c.groups g.ascend
      (λ k t e. counts t (table-good k t e) (live_of Rewrite t) ∙ live-none t (table-good k t e))
      ∙ sum-zero c.groups
