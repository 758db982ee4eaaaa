-- The span of a group's stretch, as the loan gives it. Assumes nothing.
use Rattle.rules.specs.Causes.{ByCause}
use mathlib.Core.List.{List}
use Rattle.std.specs.Prelude.{None, Some}
use mathlib.Core.Path.{◌≡◌, refl, sym, ◌∙◌}
use Prim.Native.Nat.{ℕ, ◌+◌, ◌-◌, ◌*◌, ◌≤◌, ◌<◌}
use native.Mathlib.Omega.{arith}
use lib.ListN.{length, take, drop}
use borrow.Rule.Slice.PartMut.{put_mid}
use Rattle.cells.specs.Part.{part}
use Rattle.cells.specs.PartLaws.{length_part, put-part, loan-put}
use Rattle.maps.specs.Maps.{lookup, numbers}
use Rattle.rules.specs.Table.{Span, Table, spanned}
use Rattle.stretch.specs.Layout.{keys_at}
use Rattle.stretch.specs.Stretch.{WfAt}
use Rattle.stretch.specs.Changes as any
use Rattle.stretch.specs.Laws.{wf_any}
use Rattle.cells.specs.declared.Slot.{Slot}
use Rattle.cells.specs.declared.Slot.TheVariants.{Free, Full}
use Rattle.groups.specs.Area.{stretch_at, bytes_at, groups_of, Wf, Found, AtSlot}
use Rattle.groups.specs.AreaLaws.{only-drop}
use Rattle.groups.specs.Calls.{ChangedAt}
use Rattle.groups.specs.Laws.{found-free, found-full, lookup-free, lookup-full}
use Rattle.groups.proofs.Applying.{lent_numbers, lent-bytes, changed_back, at-changed}
use Rattle.writes.specs.Finishes.{SpannedGroup}

module _ (k : ℕ) (s : Span) (xs p : List ℕ) (r : ByCause (Unit {0})) (l : k < 8) (h : 9376 ≤ length xs)
    (same : length p ≡ length (take (k * 586 + 586 - k * 586) (drop (k * 586) xs)))
    (c : (w : ℕ) (b : List ℕ) → WfAt w (take (k * 586 + 586 - k * 586) (drop (k * 586) xs)) b → any.ChangedAt w (spanned s) (take (k * 586 + 586 - k * 586) (drop (k * 586) xs)) b r p b) where
  -- the area after it
  abbrev ys : List ℕ
  ys = put_mid (k * 586) (k * 586 + 586 - k * 586) xs p

  module _ (g : ℕ) (bs : List ℕ) (w : Wf xs bs) (a : AtSlot g xs k) where
    lent_wf : WfAt keys_at (take (k * 586 + 586 - k * 586) (drop (k * 586) xs)) (take (k * 1024 + 1024 - k * 1024) (drop (k * 1024) bs))
    lent_wf = rw (lent_numbers k xs, lent-bytes k bs) (wf_any (stretch_at k xs) (bytes_at k bs) (w.used k l a.used))

    width : (n m : ℕ) → n + m - n ≡ m
    width n m = omega arith

    bytes_same : put_mid (k * 1024) (k * 1024 + 1024 - k * 1024) bs (take (k * 1024 + 1024 - k * 1024) (drop (k * 1024) bs)) ≡ bs
    unfolding part
    bytes_same =
        let b = w.bytes_fit in
        rw (width (k * 1024) 1024)
        (loan-put (k * 1024) 1024 bs (part (k * 1024) 1024 bs) (length_part (k * 1024) 1024 bs (omega arith)) ∙ put-part (k * 1024) 1024 bs (omega arith))

    changed : ChangedAt (spanned s) k xs bs r ys bs
    changed =
        rw bytes_same at
        (changed_back (spanned s) k xs bs r p (take (k * 1024 + 1024 - k * 1024) (drop (k * 1024) bs)) l h w.bytes_fit same refl (c keys_at _ lent_wf))

    numbers_same : p ≡ take (k * 586 + 586 - k * 586) (drop (k * 586) xs) → ys ≡ xs
    unfolding part
    numbers_same e =
        rw (e, width (k * 586) 586)
        (loan-put (k * 586) 586 xs (part (k * 586) 586 xs) (length_part (k * 586) 586 xs (omega arith)) ∙ put-part (k * 586) 586 xs (omega arith))

    pub spanned_at : SpannedGroup g s xs bs r ys
    spanned_at =
        let d = at-changed (spanned s) g k xs bs r ys bs w a changed in
        record {
          rule = d.rule;
          left = λ n e. numbers_same ((c keys_at _ lent_wf).left n e).0;
          behind = only-drop (omega arith) h w.bytes_fit changed.only 9376 (omega arith);
          wf = d.wf;
        }

-- a group that is there stands at a stretch
none-not : {A : Type 0} {t : A} → None ≡ Some t → ⊥
none-not e = let z : ◌≡◌ {A = ℕ} 0 1 = cc in omega arith

pub not_free : {P : Type 0} (g k : ℕ) (xs bs : List ℕ) (slot : Slot) (t : Table) → Found g xs slot → slot ≡ Free k → lookup numbers g (groups_of xs bs) ≡ Some t → P
not_free g k xs bs slot t f e h = absurd (none-not (sym (lookup-free g k xs bs (found-free g k xs slot f e)) ∙ h))

pub not_full : {P : Type 0} (g : ℕ) (xs bs : List ℕ) (slot : Slot) (t : Table) → Found g xs slot → slot ≡ Full → lookup numbers g (groups_of xs bs) ≡ Some t → P
not_full g xs bs slot t f e h = absurd (none-not (sym (lookup-full g xs bs (found-full g xs slot f e)) ∙ h))
