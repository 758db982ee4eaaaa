-- A query of one group goes by the table of the stretch where the group stands. Assumes nothing.
use Rattle.std.specs.Prelude.{List, ◌≡◌, refl, ℕ, None, IsErrAnd}
use Rattle.std.proofs.lemmas.Result.{err_from_is_err_and}
use Rattle.maps.specs.Lists.{or_else}
use Rattle.maps.specs.Maps.{lookup, numbers}
use Rattle.rules.specs.Causes.{Cause, ByCause, Result, Ok, Err, by_cause, refuse, GroupAbsent}
use Rattle.rules.specs.Table.{Table}
use Rattle.rules.specs.Context.{with_groups}
use Rattle.rules.specs.Queries.{in_group}
use Rattle.stretch.specs.Stretch.{table_in}
use Rattle.cells.specs.declared.Slot.{Slot}
use Rattle.cells.specs.declared.Slot.TheVariants as slot
use Rattle.groups.specs.Area.{stretch_at, bytes_at, groups_of, Found}
use Rattle.groups.specs.Laws.{found_at_lem, found-free, found-full, lookup-found, lookup-free, lookup-full}
use Rattle.contexts.specs.Contexts.{context_of, Wf}
use Rattle.queries.specs.Places.{StandsAt, Stands}

-- the groups of a context are those of its stretches
pub context-groups : (xs bs : List ℕ) → (context_of xs bs).groups ≡ groups_of xs bs
unfolding context_of with_groups
context-groups xs bs = refl

-- ---- where a group stands

module _ (g : ℕ) (xs bs : List ℕ) (w : Wf xs bs) where
  pub place_at : (r : Slot) (k : ℕ) → Found g xs r → r ≡ slot.At k → Stands g xs bs (Ok k)
  place_at r k f e =
      let a = found_at_lem g k xs r f e in
      let s : StandsAt g xs bs k = record {
        inside = a.inside;
        wf = w.groups.used k a.inside a.used;
        table = rw (context-groups xs bs) (lookup-found g k xs bs w.groups a);
      } in
      record { at = λ j h. let same : k ≡ j = cc in rw (← same) s; absent = λ e h. absurd (cc) }

  absent : lookup numbers g (groups_of xs bs) ≡ None → Stands g xs bs (Err GroupAbsent)
  absent l = record { at = λ j h. absurd (cc); absent = λ e h. ((cc), rw (context-groups xs bs) l) }

  pub place-none : (r : Slot) → Found g xs r → ((k : ℕ) → r ≡ slot.At k → ⊥) → Stands g xs bs (Err GroupAbsent)
  place-none (slot.At k) f n = absurd (n k refl)
  place-none (slot.Free k) f n = absent (lookup-free g k xs bs (found-free g k xs (slot.Free k) f refl))
  place-none slot.Full f n = absent (lookup-full g xs bs (found-full g xs slot.Full f refl))

-- ---- what is asked of it

-- a group that stands at stretch k answers by its table
pub asked_at : {A : Type 0} (g : ℕ) (query : Table → Result A) (xs bs : List ℕ) (k : ℕ) → StandsAt g xs bs k → in_group g query (context_of xs bs) ≡ query (table_in (stretch_at k xs) (bytes_at k bs))
unfolding in_group or_else
asked_at g query xs bs k s = rw s.table

-- the refusal of one that stands nowhere is the group's answer
pub asked-absent : {A : Type 0} (g : ℕ) (query : Table → Result A) (xs bs : List ℕ) (r : ByCause ℕ) (e : Cause) → Stands g xs bs r → r ≡ Err e → refuse e ≡ in_group g query (context_of xs bs)
unfolding in_group or_else
asked-absent g query xs bs r e s h = let a = s.absent e h in rw (a.0, a.1)

-- as a `?` passes it on
pub passed-on : {A : Type 0} {g : ℕ} (query : Table → Result A) {xs bs : List ℕ} {r : ByCause ℕ} {e : Cause} → Stands g xs bs r → r ≡ Err e → (x : ByCause A) → IsErrAnd x (λ y. y ≡ e) → by_cause x ≡ in_group g query (context_of xs bs)
passed-on query s h x p = let q = err_from_is_err_and x p in rw (q.1, q.2) (asked-absent _ _ _ _ _ _ s h)
