-- A deed on the groups of an area: what finding, securing and changing a group give together. Assumes nothing.
use Rattle.std.specs.Prelude.{Bool, true, List, ◌≡◌, refl, ℕ}
use Rattle.std.proofs.Common.{sym, ◌∙◌, arith}
use Rattle.std.proofs.Math.Path.{ap}
use Rattle.maps.specs.BoolLaws.{clash}
use Rattle.maps.specs.Maps.{lookup, remove, numbers}
use Rattle.maps.specs.Cells.{map_of}
use Rattle.rules.specs.Causes.{Cause, ByCause, Err, Result, Ok}
use Rattle.rules.specs.Table.{Table, made}
use Rattle.stretch.specs.Changes.{rule_of, Ready}
use Rattle.cells.specs.declared.Slot.{Slot}
use Rattle.groups.specs.Area.{groups_of, Wf, Found, OnlySlot}
use Rattle.groups.specs.Calls.{on_group, ChangedGroup, RemovedGroup, LeavesSlot}
use Rattle.groups.specs.Undo.{undone_cells, Undoable, ReadyFor, ReadyToGo, Securing}
use Rattle.groups.specs.Laws.{live-found, slot-behind, left-undone, changed-undone, removed-undone}
use Rattle.stretch.specs.declared.Change.{Change}
use Rattle.deeds.specs.declared.Deed as deed
use Rattle.batches.specs.Acts.{deed_on, UndoKept, BehindKept, SecuredUnless, Acted}
use Rattle.deeds.specs.Deeds.{DeedReady}

-- nothing is secured where no item follows
pub unsecured : (last : Bool) (asked : List ℕ → Type 0) (xs bs : List ℕ) → last ≡ true → Wf xs bs → Undoable xs bs → SecuredUnless last asked xs bs xs bs
unsecured last asked xs bs e w u =
    record {
      live = refl;
      cells_stay = refl;
      undone = refl;
      undoable = u;
      secured = λ f. absurd (clash (sym f ∙ e));
      behind = record { numbers = refl; bytes = refl };
      wf = w;
    }

pub secured_by : (last : Bool) (asked : List ℕ → Type 0) (xs bs ys ds : List ℕ) → Securing asked xs bs ys ds → SecuredUnless last asked xs bs ys ds
secured_by last asked xs bs ys ds s =
    record {
      live = s.live;
      cells_stay = s.cells_stay;
      undone = s.undone;
      undoable = s.undoable;
      secured = λ f. s.secured;
      behind = record { numbers = s.behind; bytes = s.behind-bytes };
      wf = s.wf;
    }

-- done is no refusal
pub done-not-refused : (n : Cause) → ◌≡◌ {A = ByCause (Unit {0})} (Ok tt) (Err n) → ⊥
done-not-refused n e = let z : ◌≡◌ {A = ℕ} 0 1 = cc in omega arith

pub skipped : (last : Bool) (xs bs : List ℕ) → Wf xs bs → Undoable xs bs → Acted (λ m. Ok m) last xs bs (Ok tt) xs bs
skipped last xs bs w u =
    record {
      rule = refl;
      left = λ n e. refl;
      left-undo = λ n e. record { undone = refl; undoable = u };
      kept = λ f. record { undone = refl; undoable = u };
      behind = record { numbers = refl; bytes = refl };
      wf = w;
    }

module _ (g : ℕ) (slot : Slot) (last : Bool) (asked : List ℕ → Type 0) (xs bs ys ds : List ℕ) (f : Found g xs slot) (s : SecuredUnless last asked xs bs ys ds) where
  -- the group is found where it was
  pub found-still : Found g ys slot
  found-still = live-found g slot xs ys s.live f

  pub groups_stay : groups_of ys ds ≡ groups_of xs bs
  unfolding groups_of
  groups_stay = ap map_of s.cells_stay

  behind_all : (zs es : List ℕ) → OnlySlot slot ys ds zs es → BehindKept xs bs zs es
  behind_all zs es o =
      let b = slot-behind g slot ys ds zs es found-still s.wf.numbers_fit s.wf.bytes_fit o in
      record { numbers = b.numbers ∙ s.behind.numbers; bytes = b.bytes ∙ s.behind.bytes }

  -- what they went back to before the slot was secured
  undo-kept : (zs es : List ℕ) → (undone_cells zs es ≡ undone_cells ys ds) × Undoable zs es → UndoKept xs bs zs es
  undo-kept zs es k = record { undone = k.0 ∙ s.undone; undoable = k.1 }

  -- what a change asks of the group is there still
  pub ready-still : (P : Table → Type 0) → P (made (lookup numbers g (groups_of xs bs))) → P (made (lookup numbers g (groups_of ys ds)))
  ready-still P r = rw groups_stay r

module _ (g : ℕ) (slot : Slot) (last : Bool) (xs bs ys ds : List ℕ) (f : Found g xs slot) where
  pub acted-clean : SecuredUnless last (ReadyToGo slot) xs bs ys ds → (zs : List ℕ) → RemovedGroup g slot ys ds zs → Acted (λ m. Ok (remove numbers g m)) last xs bs (Ok tt) zs ds
  acted-clean s zs r =
      let found = found-still g slot last (ReadyToGo slot) xs bs ys ds f s in
      record {
        rule = ap Ok (r.rule ∙ ap (remove numbers g) (groups_stay g slot last (ReadyToGo slot) xs bs ys ds f s));
        left = λ n e. absurd (done-not-refused n e);
        left-undo = λ n e. absurd (done-not-refused n e);
        kept =
            λ l.
            undo-kept g slot last (ReadyToGo slot) xs bs ys ds f s zs ds
            (removed-undone g slot ys ds zs found s.wf.numbers_fit s.wf.bytes_fit r.only r.leaves (s.secured l) s.undoable);
        behind = behind_all g slot last (ReadyToGo slot) xs bs ys ds f s zs ds r.only;
        wf = r.wf;
      }

  pub acted-change : (c : Change) (by : Table → Result Table) → SecuredUnless last (ReadyFor c slot) xs bs ys ds → (r : ByCause (Unit {0})) (zs es : List ℕ) → ChangedGroup by g slot ys ds r zs es → LeavesSlot c slot ys ds r zs es → Acted (on_group by g) last xs bs r zs es
  acted-change c by s r zs es a v =
      let found = found-still g slot last (ReadyFor c slot) xs bs ys ds f s in
      let p = s.wf.numbers_fit in
      let q = s.wf.bytes_fit in
      record {
        rule = a.rule ∙ ap (on_group by g) (groups_stay g slot last (ReadyFor c slot) xs bs ys ds f s);
        left = λ n e. a.left n e ∙ s.cells_stay;
        left-undo =
            λ n e.
            undo-kept g slot last (ReadyFor c slot) xs bs ys ds f s zs es
            (left-undone g slot ys ds zs es found p q a.only (v.refused n e) (a.left n e) s.undoable);
        kept =
            λ l.
            undo-kept g slot last (ReadyFor c slot) xs bs ys ds f s zs es
            (changed-undone c g slot ys ds zs es found p q a.only v.done (s.secured l) s.undoable);
        behind = behind_all g slot last (ReadyFor c slot) xs bs ys ds f s zs es a.only;
        wf = a.wf;
      }

-- ---- by the deed

module _ (last : Bool) (g : ℕ) (rows key value xs bs ys ds : List ℕ) (r : ByCause (Unit {0})) where
  pub act-skip : (d : deed.Deed) → d ≡ deed.TheVariants.Skip → Acted (λ m. Ok m) last xs bs r ys ds → Acted (deed_on d g rows key value) last xs bs r ys ds
  unfolding deed_on
  act-skip d e a = rw e a

  pub act-clean : (d : deed.Deed) → d ≡ deed.TheVariants.Clean → Acted (λ m. Ok (remove numbers g m)) last xs bs r ys ds → Acted (deed_on d g rows key value) last xs bs r ys ds
  unfolding deed_on
  act-clean d e a = rw e a

  pub act-change : (d : deed.Deed) (ch : Change) → d ≡ deed.TheVariants.Change ch → Acted (on_group (rule_of ch rows key value) g) last xs bs r ys ds → Acted (deed_on d g rows key value) last xs bs r ys ds
  unfolding deed_on
  act-change d ch e a = rw e a

pub change-ready : (d : deed.Deed) (ch : Change) (rows key value : List ℕ) (t : Table) → d ≡ deed.TheVariants.Change ch → DeedReady d rows key value t → Ready ch rows key value t
unfolding DeedReady
change-ready d ch rows key value t e r = rw e at r
