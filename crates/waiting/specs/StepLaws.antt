-- The steps are what `accept` makes of a part. Assumes nothing.
use Rattle.std.specs.Prelude.{Bool, true, false, cond, List, ◌∷◌, ◌++◌, ◌≡◌, ltb, leb}
use Rattle.std.proofs.Math.Path.{refl, sym, ap}
use Rattle.std.proofs.Common.{◌∙◌, arith}
use Prim.Native.Nat.{ℕ, ◌≤◌}
use Rattle.std.proofs.Math.Decide.{dec_lt}
use borrow.Author.Tests.{lt-ltb, le-ltb, le-leb, lt-leb}
use Rattle.rules.specs.Items.{Status, begin, middle, end}
use Rattle.rules.specs.Context.{Part}
use Rattle.rules.specs.Waiting.{wait, finish, back, joined, accept_by, accept}
use Rattle.waiting.specs.declared.Form as form
use Rattle.waiting.specs.declared.Step as step
use Rattle.waiting.specs.Steps.{step_by, joined_status, joined_part, form_parts, stepped}

-- files that go back, by the two tests
back_or : {A : Type 0} (a e : ℕ) (x y : A) → cond (leb e a) x y ≡ cond (ltb a e) y x
back_or a e x y =
    elim (dec_lt a e) [
      | yes l ↦ rw (lt-ltb a e l, lt-leb e a l)
      | no l ↦ let m : e ≤ a = omega arith in rw (le-ltb a e m, le-leb e a m)
    ]

wait_or : (b : Bool) (s : step.Step) (p : Part) (ps : List Part) (new : Part) → stepped (cond b step.TheVariants.Back s) p ps new ≡ cond b back (stepped s p ps new)
unfolding stepped
wait_or true s p ps new = refl
wait_or false s p ps new = refl

module _ (p new : Part) (ps : List Part) where
  join_is : (s : Status) → joined_status p.status new.status ≡ s → joined_part p new ≡ record { status = s; items = p.items ++ new.items; start = p.start; end = new.end }
  unfolding joined_part
  join_is s e i = record { status = e i; items = p.items ++ new.items; start = p.start; end = new.end }

  join_step : stepped (step.TheVariants.Wait form.TheVariants.Join) p ps new ≡ wait (joined_part p new ∷ ps)
  unfolding stepped form_parts
  join_step = refl

  finish_step : stepped step.TheVariants.Finish p ps new ≡ finish p ps
  unfolding stepped
  finish_step = refl

  join_with : (s : Status) → joined_status p.status new.status ≡ s → joined s p new ps ≡ stepped (cond (ltb new.start p.end) step.TheVariants.Back (step.TheVariants.Wait form.TheVariants.Join)) p ps new
  unfolding joined
  join_with s e =
      back_or new.start p.end _ back
      ∙ sym (wait_or (ltb new.start p.end) (step.TheVariants.Wait form.TheVariants.Join) p ps new ∙ ap (cond (ltb new.start p.end) back) (join_step ∙ ap (λ (x : Part). wait (x ∷ ps)) (join_is s e)))

  finish_with_lem : cond (leb p.end new.start) (finish p ps) back ≡ stepped (cond (ltb new.start p.end) step.TheVariants.Back step.TheVariants.Finish) p ps new
  finish_with_lem =
      back_or new.start p.end (finish p ps) back
      ∙ sym (wait_or (ltb new.start p.end) step.TheVariants.Finish p ps new ∙ ap (cond (ltb new.start p.end) back) finish_step)

  by_statuses : (old st : Status) → joined_status p.status new.status ≡ joined_status old st → accept_by old st p new ps ≡ stepped (step_by st new.start old p.end) p ps new
  unfolding accept_by step_by joined_status
  by_statuses begin begin e = unfold stepped form_parts in refl
  by_statuses middle begin e = unfold stepped form_parts in refl
  by_statuses end begin e = unfold stepped form_parts in refl
  by_statuses begin middle e = join_with begin e
  by_statuses middle middle e = join_with middle e
  by_statuses end middle e = unfold stepped in refl
  by_statuses begin end e = finish_with_lem
  by_statuses middle end e = join_with end e
  by_statuses end end e = unfold stepped in refl

  -- what `accept` makes of a part that comes to the newest one
  pub accept_step : accept (p ∷ ps) new ≡ stepped (step_by new.status new.start p.status p.end) p ps new
  unfolding accept
  accept_step = by_statuses p.status new.status refl
