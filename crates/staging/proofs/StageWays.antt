-- How the work on a group is taken into the staged groups. Assumes nothing.
use mathlib.Core.Bool.{Bool, true, false}
use mathlib.Core.Logic.{◌⊎◌, ⊎_elim}
use mathlib.Core.List.{List, [], ◌∷◌}
use Rattle.std.specs.Prelude.{Option, Some}
use Rattle.std.specs.Result.{is_err}
use mathlib.Core.Path.{◌≡◌, refl, sym, ap, ◌∙◌}
use Prim.Native.Nat.{ℕ, ◌-◌, ◌≤◌, ◌<◌}
use native.Mathlib.Omega.{arith}
use lib.ListN.{length, take, drop, length-drop}
use borrow.Author.Rules.{part_to_end}
use Rattle.maps.specs.BoolLaws.{clash}
use Rattle.maps.specs.Lists.{or_else}
use Rattle.rules.specs.Causes.{ByCause, Result, Ok, Err}
use Rattle.rules.specs.Table.{Table, made}
use Rattle.rules.specs.Context.{table_fits}
use Rattle.stretch.specs.Stretch.{is_used, table_at}
use Rattle.cells.specs.declared.Slot.TheVariants.{At, Free, Full}
use Rattle.groups.specs.Area.{slots, Found, FreeSlot}
use Rattle.groups.specs.Laws.{found-free, found-full, Absent}
use Rattle.worktable.specs.Work.{long_keys_at, work_in}
use Rattle.worktable.specs.Work as work
use Rattle.worktable.specs.WorkLaws.{work-some, work_none}
use Rattle.worktable.specs.Calls.{Ends}
use Rattle.worktable.specs.Moves as moves
use Rattle.staging.specs.declared.Flags.{Flags}
use Rattle.staging.specs.Staging.{Ready, Staging, Working}
use Rattle.staging.specs.StagingLaws.{working-ready, working-found, working_staging}
use Rattle.staging.specs.Modes.{group_by}
use Rattle.staging.specs.Works.{WorkedAs}
use Rattle.contexts.specs.Contexts.{context_of}
use Rattle.contexts.specs.Contexts as areas
use Rattle.contexts.specs.AreaLaws.{formed_of, area-length, area-bytes}
use Rattle.worktable.specs.declared.Mode.{Mode}
use Rattle.cells.specs.declared.Slot.{Slot}
use Rattle.staging.proofs.Settling.{settled-none, settled-clashed, settled-large, settled-full, settled-put}
use Rattle.staging.proofs.WorkWays.{long-is}

-- ---- how the work ended

ends-done : (x : Result (Option Table)) (o : ByCause (Unit {0})) (p b : List ℕ) → is_err o ≡ false → Ends x o p b → x ≡ Ok (work_in p b)
ends-done x (Ok _) p b e d = sym d.rule
ends-done x (Err n) p b e d = absurd (clash (sym e))

found_inside : (g k : ℕ) (xs : List ℕ) → Found g xs (Free k) → k < slots
found_inside g k xs f = (found-free g k xs (Free k) f refl).inside

-- a group that is not staged has no spare stretch
not-staged : (g : ℕ) (xs : List ℕ) (slot : Slot) → Found g xs slot → ((k : ℕ) → slot ≡ At k → ⊥) → Absent g xs
unfolding Found
not-staged g xs (At k) f n = absurd (n k refl)
not-staged g xs (Free k) f n = f.absent
not-staged g xs Full f n = f.absent

-- the area's long stretch, as it is lent
pub long_inside : (xs : List ℕ) → length xs ≡ 17231 → 13509 ≤ length xs
long_inside xs n = omega arith

pub lent_head : (xs : List ℕ) → length xs ≡ 17231 → 10 ≤ length (take (length xs - 13509) (drop 13509 xs))
lent_head xs n = rw (part_to_end xs 13509, length-drop 13509 xs) (omega arith)

pub lent-used : (xs : List ℕ) (b : _) → b ≡ is_used (take (length xs - 13509) (drop 13509 xs)) → b ≡ is_used (drop 13509 xs)
lent-used xs b e = rw (part_to_end xs 13509) at e

made_some : (t : Table) → made (Some t) ≡ t
unfolding made or_else
made_some t = refl

ends-refused : (at : ℕ → Result (Option Table)) (g : ℕ) (f : Flags) (xs bs : List ℕ) → Ready xs bs → Absent g (drop 4688 xs) → (o : ByCause (Unit {0})) → is_err o ≡ true → Ends (at g) o (drop 13509 xs) (drop 28672 bs) → Staging at (g ∷ []) f xs bs (record { clashed = true; passed = f.passed }) xs bs
ends-refused at g f xs bs r absent (Ok _) e d = absurd (clash e)
ends-refused at g f xs bs r absent (Err n) e d = settled-clashed at g f xs bs r absent _ (sym d.rule)

module _ (at : ℕ → Result (Option Table)) (g : ℕ) (f : Flags) (xs bs : List ℕ) (r : Ready xs bs) where
  abbrev p : List ℕ
  p = drop 13509 xs

  abbrev b : List ℕ
  b = drop 28672 bs

  module _ (slot : Slot) (found : Found g (drop 4688 xs) slot) (n : (k : ℕ) → slot ≡ At k → ⊥) (o : ByCause (Unit {0})) where
    absent : Absent g (drop 4688 xs)
    absent = not-staged g (drop 4688 xs) slot found n

    pub settle-clashed : is_err o ≡ true → Ends (at g) o p b → Staging at (g ∷ []) f xs bs (record { clashed = true; passed = f.passed }) xs bs
    settle-clashed = ends-refused at g f xs bs r absent o

    module _ (e : is_err o ≡ false) (d : Ends (at g) o p b) where
      pub settle-done : at g ≡ Ok (work_in p b)
      settle-done = ends-done (at g) o p b e d

      pub settle-none : is_used p ≡ false → Staging at (g ∷ []) f xs bs f xs bs
      settle-none u = settled-none at g f xs bs r absent (settle-done ∙ ap Ok (work_none p b u))

      pub settle-full : ((k : ℕ) × (slot ≡ At k)) ⊎ (slot ≡ Full) → is_used p ≡ true → Staging at (g ∷ []) f xs bs (record { clashed = f.clashed; passed = true }) xs bs
      settle-full s u = ⊎_elim (λ k. absurd (n k.0 k.1)) (λ h. settled-full at g f xs bs r absent _ (settle-done ∙ ap Ok (work-some p b u)) (found-full g (drop 4688 xs) slot found h)) s

  -- ---- a spare stretch is free

  module _ (k : ℕ) (found : Found g (drop 4688 xs) (Free k)) (u : is_used p ≡ true) (e : at g ≡ Ok (work_in p b)) where
    free : FreeSlot g (drop 4688 xs) k
    free = found-free g k (drop 4688 xs) (Free k) found refl

    abbrev t : Table
    t = made (work_in p b)

    is_some : work_in p b ≡ Some t
    is_some = let s = work-some p b u in s ∙ ap Some (sym (ap made s ∙ made_some (table_at long_keys_at p b)))

    pub put-large : table_fits t ≡ false → Staging at (g ∷ []) f xs bs (record { clashed = f.clashed; passed = true }) xs bs
    put-large n = settled-large at g f xs bs r free.absent t (e ∙ ap Ok is_some) n

    pub put-fits : table_fits t ≡ true → length xs ≡ 17231 → length bs ≡ 38912 → (xs' bs' : List ℕ) → moves.Unloaded k g xs bs xs' bs' → Staging at (g ∷ []) f xs bs f xs' bs'
    unfolding moves.long_in moves.long_bytes_in
    put-fits y n m xs' bs' l =
        settled-put at g f xs bs r free.absent t (e ∙ ap Ok is_some) k xs' bs' free y (l.cell ∙ rw (long-is 13509 3722 xs n, long-is 28672 10240 bs m)) l.wf l.only

-- ---- what the work table asks to be put into a spare stretch

work-fitting : (xs bs : List ℕ) → length xs ≡ 17231 → length bs ≡ 38912 → work.Wf (drop 13509 xs) (drop 28672 bs) → is_used (drop 13509 xs) ≡ true → table_fits (made (work_in (drop 13509 xs) (drop 28672 bs))) ≡ true → moves.Fitting xs bs
unfolding moves.long_in moves.long_bytes_in
work-fitting xs bs n m w u y =
    let a = long-is 13509 3722 xs n in
    let c = long-is 28672 10240 bs m in
    record { wf = rw (a, c) w; used = rw a u; fits = rw (a, c) y }

pub unload-given : (g k : ℕ) (xs bs : List ℕ) → Found g (drop 4688 xs) (Free k) → (length xs ≡ 17231) × (length bs ≡ 38912) → work.Wf (drop 13509 xs) (drop 28672 bs) × (is_used (drop 13509 xs) ≡ true) → table_fits (made (work_in (drop 13509 xs) (drop 28672 bs))) ≡ true → ((k < 8) × (17231 ≤ length xs) × (38912 ≤ length bs)) × moves.Fitting xs bs
unload-given g k xs bs f n w y = ((found_inside g k (drop 4688 xs) f, omega (arith, n), omega (arith, n)), work-fitting xs bs n.0 n.1 w.0 w.1 y)

-- whether it is within the limits, asked of the work table as it is lent
pub lent_fits : (xs bs : List ℕ) (r : Bool) → ((b : List ℕ) → is_used (take (length xs - 13509) (drop 13509 xs)) ≡ true → r ≡ table_fits (made (work_in (take (length xs - 13509) (drop 13509 xs)) b))) → is_used (drop 13509 xs) ≡ true → r ≡ table_fits (made (work_in (drop 13509 xs) (drop 28672 bs)))
lent_fits xs bs r h u = (rw (part_to_end xs 13509) at h) (drop 28672 bs) u

-- ---- a group that is worked

-- what taking it in asks
pub settle-given : (g : ℕ) (xs bs xs' bs' : List ℕ) (slot : Slot) → areas.Wf xs bs → Ready xs bs → Working xs bs xs' bs' → Found g (drop 4688 xs) slot → Ready xs' bs' × (Found g (drop 4688 xs') slot × ((length xs' ≡ 17231) × (length bs' ≡ 38912)))
settle-given g xs bs xs' bs' slot a r w f =
    (working-ready w r, (working-found w g slot f, (w.numbers-length ∙ area-length xs bs (formed_of xs bs a), w.bytes-length ∙ area-bytes xs bs (formed_of xs bs a))))

-- it is staged when the work is taken in
pub worked_staging : (m : Mode) (g : ℕ) (f r : Flags) (xs bs ys cs xs₁ bs₁ : List ℕ) (o : ByCause (Unit {0})) (xs₂ bs₂ : List ℕ) → WorkedAs (group_by m (context_of ys cs) (context_of xs bs) g) xs bs o xs₁ bs₁ → ((at : ℕ → Result (Option Table)) → Ends (at g) o (drop 13509 xs₁) (drop 28672 bs₁) → Staging at (g ∷ []) f xs₁ bs₁ r xs₂ bs₂) → Staging (group_by m (context_of ys cs) (context_of xs bs)) (g ∷ []) f xs bs r xs₂ bs₂
worked_staging m g f r xs bs ys cs xs₁ bs₁ o xs₂ bs₂ w s = working_staging _ _ _ _ _ _ _ _ _ _ w.working (s (group_by m (context_of ys cs) (context_of xs bs)) w.ends)
