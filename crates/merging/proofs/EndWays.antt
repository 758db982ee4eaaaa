-- The ways through the functions that end a merge or join: the limits of the lists, and of all but the groups.
-- Assumes nothing.
use mathlib.Core.Bool.{Bool, true, false, ◌&&◌}
use mathlib.Core.List.{List, [], ◌++◌}
use mathlib.Core.Path.{◌≡◌, refl, sym, ◌∙◌}
use Prim.Native.Nat.{ℕ, ◌+◌, ◌-◌}
use native.Mathlib.Nat.{add-zero}
use lib.Dec.{leb}
use lib.ListN.{length, get_or, take, drop, length-append}
use borrow.Author.Rules.{part_to_end}
use Rattle.maps.specs.Lists.{sum}
use Rattle.maps.specs.Maps.{Map}
use Rattle.rules.specs.Context.{Part, Context, with_groups, with_waiting, waiting_fits}
use Rattle.rules_by_group.specs.Stage.{rest_fits, merged_rest, joined_rest, finished_tombs}
use Rattle.lists.specs.declared.Counts.{Counts}
use Rattle.lists.specs.Rest.{rest_of, tombstones_in, cleaned_in}
use Rattle.lists.specs.Rest as lists
use Rattle.lists.specs.Laws.{lengths}
use Rattle.contexts.specs.Contexts.{rest_at, context_of, Wf}
use Rattle.worktable.specs.declared.Mode.{Mode}
use Rattle.worktable.specs.declared.Mode.TheVariants as mode
use Rattle.staging.specs.Modes.{rest_by, counts_fit, counts_of, Few, Plain}

-- ---- the limits of the lists

and-true : (b : Bool) → b ≡ (b && true)
and-true true = refl
and-true false = refl

-- the counts, as they are read
pub counts-are : (xs : List ℕ) (n : Counts) → n.tombstones ≡ get_or (take (length xs - 9376) (drop 9376 xs)) 1 0 → n.cleaned ≡ get_or (take (length xs - 9376) (drop 9376 xs)) 2 0 → n ≡ counts_of xs
unfolding counts_of
counts-are xs n p q =
    let t : n.tombstones ≡ get_or (drop 9376 xs) 1 0 = rw (part_to_end xs 9376) at p in
    let c : n.cleaned ≡ get_or (drop 9376 xs) 2 0 = rw (part_to_end xs 9376) at q in
    λ i. record { tombstones = t i; cleaned = c i }

pub few-counts : (xs bs : List ℕ) → Wf xs bs → Few (counts_of xs)
unfolding counts_of
few-counts xs bs w =
    let l = lengths (drop 9376 xs) (drop 16384 bs) w.rest in record { tombstones = l.2; cleaned = l.3 }

-- ---- the limits of the rest

-- the rest does not depend on the groups
pub merged_by_lem : (newer : Context) (q : Map ℕ (List Part)) (xs bs : List ℕ) → merged_rest newer q (rest_at xs bs) ≡ merged_rest newer q (context_of xs bs)
unfolding context_of with_groups merged_rest
merged_by_lem newer q xs bs = refl

module _ (xs bs ys cs : List ℕ) (w : lists.Wf (drop 9376 xs) (drop 16384 bs)) (v : lists.Wf (drop 9376 ys) (drop 16384 cs)) where
  abbrev c : Context
  c = context_of xs bs

  abbrev newer : Context
  newer = context_of ys cs

  pub both-tombstones : length (tombstones_in (drop 9376 xs) (drop 16384 bs) ++ tombstones_in (drop 9376 ys) (drop 16384 cs)) ≡ (counts_of xs).tombstones + (counts_of ys).tombstones
  unfolding counts_of
  both-tombstones =
      length-append (tombstones_in (drop 9376 xs) (drop 16384 bs)) (tombstones_in (drop 9376 ys) (drop 16384 cs))
      ∙ rw ((lengths (drop 9376 xs) (drop 16384 bs) w).0, (lengths (drop 9376 ys) (drop 16384 cs) v).0)

  tombstones-length : length (c.tombstones ++ newer.tombstones) ≡ (counts_of xs).tombstones + (counts_of ys).tombstones
  unfolding context_of rest_at with_waiting with_groups rest_of
  tombstones-length = both-tombstones

  cleaned-length : length (c.cleaned ++ newer.cleaned) ≡ (counts_of xs).cleaned + (counts_of ys).cleaned
  unfolding context_of rest_at with_waiting with_groups rest_of counts_of
  cleaned-length =
      length-append (cleaned_in (drop 9376 xs)) (cleaned_in (drop 9376 ys))
      ∙ rw ((lengths (drop 9376 xs) (drop 16384 bs) w).1, (lengths (drop 9376 ys) (drop 16384 cs) v).1)

  -- those of the lists with the tombstones that finish, and of what waits
  pub merged-fits : (q : Map ℕ (List Part)) → rest_fits (merged_rest newer q c) ≡ (leb ((counts_of xs).tombstones + (counts_of ys).tombstones + length (finished_tombs newer.waiting c.waiting)) 64 && leb ((counts_of xs).cleaned + (counts_of ys).cleaned) 64 && waiting_fits q)
  unfolding rest_fits merged_rest
  merged-fits q =
      rw (length-append (c.tombstones ++ newer.tombstones) (finished_tombs newer.waiting c.waiting), tombstones-length, cleaned-length)

  joined-fits : rest_fits (joined_rest newer c) ≡ leb ((counts_of xs).cleaned + (counts_of ys).cleaned) 64
  unfolding rest_fits joined_rest waiting_fits sum
  joined-fits = rw cleaned-length (sym (and-true _))

-- ---- where nothing waits in the newer context they are those of the lists

module _ (m : Mode) (xs bs ys cs : List ℕ) (g : Plain m xs bs ys cs) where
  waits-fit : waiting_fits (context_of xs bs).waiting ≡ true
  unfolding context_of rest_at with_waiting with_groups
  waits-fit = g.given.wf.waiting.fits

  no-tombs : finished_tombs (context_of ys cs).waiting (context_of xs bs).waiting ≡ []
  unfolding finished_tombs
  no-tombs = rw g.none-waits

  plain_fits : rest_fits (merged_rest (context_of ys cs) (context_of xs bs).waiting (context_of xs bs)) ≡ (leb ((counts_of xs).tombstones + (counts_of ys).tombstones) 64 && leb ((counts_of xs).cleaned + (counts_of ys).cleaned) 64)
  plain_fits =
      merged-fits xs bs ys cs g.given.wf.rest g.given.newer-wf.rest (context_of xs bs).waiting
      ∙ rw (no-tombs, add-zero ((counts_of xs).tombstones + (counts_of ys).tombstones), waits-fit) (sym (and-true _))

pub rest-fits : (m : Mode) (xs bs ys cs : List ℕ) → Plain m xs bs ys cs → rest_fits (rest_by m (context_of ys cs) (context_of xs bs)) ≡ counts_fit m (counts_of xs) (counts_of ys)
unfolding rest_by counts_fit
rest-fits mode.Append xs bs ys cs g = plain_fits mode.Append xs bs ys cs g
rest-fits mode.Rewrite xs bs ys cs g = plain_fits mode.Rewrite xs bs ys cs g
rest-fits mode.Join xs bs ys cs g = joined-fits xs bs ys cs g.given.wf.rest g.given.newer-wf.rest
