-- The lines are all those of the text.
use Rattle.std.proofs.Common.{◌≡◌, ◌∷◌, [], ◌++◌, List, ℕ, All, flat_map, length, take, length-append, lit<, arith, ap, sym, ◌∙◌, eqb, subst, true, refl}
use Rattle.std.specs.List.{slice_split}
use Rattle.std.proofs.lemmas.Iterator.Consumers.{YieldsList-at, YieldsList-end}
use Rattle.std.proofs.lemmas.Iterator.Splits.{YieldsList-from_str_split}
use Rattle.std.proofs.lemmas.List.{map_push}
use Rattle.std.proofs.lemmas.List.Elements.{All-push}
use Rattle.std.proofs.lemmas.Str.Pattern.{starts_char, strip_suffix_char}
use Rattle.std.proofs.lemmas.Grind.{common_steps}
use Rattle.text.specs.Decimals.{IsWellFormed, lines_of, numbers_told}
use Rattle.text.proofs.read_all.Goals as goal

without-end : (b : ℕ) (bs lines : List ℕ) → b ∷ bs ≡ lines ++ (10 ∷ []) → take (length bs) (b ∷ bs) ≡ lines
without-end b bs lines e = grind (arith, common_steps)

ended : (text lines : List ℕ) → text ≡ lines ++ (10 ∷ []) → slice_split (λ b. eqb b 10) lines ≡ lines_of text
ended [] lines e = absurd (omega (arith, length-append lines (10 ∷ []), ap length e))
ended (b ∷ bs) lines e = ap (slice_split (λ c. eqb c 10)) (sym (without-end b bs lines e))

pub returns : goal.returns
returns c =
    let pieces = YieldsList-at c.into_iter-line-iterator.ensures.into_iter_gives (YieldsList-from_str_split 10 c.in_ok-lines.lines.now (lit< tt) c.split-line-items.ensures.text c.split-line-items.ensures.has_more c.split-line-items.ensures.pattern) in
    let suffix = strip_suffix_char 10 c.in-Ok.told.now c.strip_suffix.result c.strip_suffix.ensures.cases (lit< tt) in
    let all = (YieldsList-end pieces c.loop-line.yielded _ c.loop-line.yielded_by _ _ c.in-None.is c.next.ensures.steps).0 ∙ ended c.in-Ok.told.now c.in_ok-lines.lines.now (rw c.in_ok-lines.ensures.ok_part at suffix) ∙ ap lines_of c.in-Ok.ensures.cases.0 in
    record { lines = subst (All IsWellFormed) all c.loop-line.invariant.lines; numbers = c.loop-line.invariant.numbers ∙ ap (flat_map numbers_told) all }

pub loop-line-preserved-in-Continue-branch-2 : goal.loop-line-preserved-in-Continue-branch-2
loop-line-preserved-in-Continue-branch-2 c = record {
  lines = rw map_push (All-push IsWellFormed _ _ c.loop-line.invariant.lines (λ _. c.in_ok-add_numbers.ensures.words));
  numbers = grind (arith, common_steps);
}

pub loop-line-preserved : goal.loop-line-preserved
loop-line-preserved c = record {
  lines = rw map_push (All-push IsWellFormed _ _ c.loop-line.invariant.lines (λ other. absurd (other ((starts_char 35 _ true c.if-not-starts_with.ensures.cases (lit< tt) (lit< tt)).0 refl))));
  numbers = grind (arith, common_steps);
}
