-- The words are all those of the line.
use Rattle.std.proofs.Common.{◌++◌, map, All, lit<, ap, ◌∙◌, subst, refl, sym, append-nil, arith, rules}
use Rattle.std.proofs.lemmas.Iterator.Consumers.{YieldsList-at, YieldsList-end}
use Rattle.std.proofs.lemmas.Iterator.Splits.{YieldsList-from_str_split}
use Rattle.std.proofs.lemmas.List.{map_push}
use Rattle.std.proofs.lemmas.List.Elements.{All-push}
use Rattle.std.proofs.lemmas.Grind.{common_steps}
use Rattle.std.specs.Str.Parse.{digits_value}
use Rattle.text.specs.Decimals.{IsNumber}
use Rattle.text.proofs.add_numbers.Goals as goal

pub returns : goal.returns
returns c =
    let words = YieldsList-at c.into_iter-word-iterator.ensures.into_iter_gives (YieldsList-from_str_split 32 c.args.line.now (lit< tt) c.split-word-items.ensures.text c.split-word-items.ensures.has_more c.split-word-items.ensures.pattern) in
    let all = YieldsList-end words c.loop-word.yielded _ c.loop-word.yielded_by _ _ c.in-None.is c.next.ensures.steps in
    record { words = subst (All IsNumber) all.0 c.loop-word.invariant.words; numbers = c.loop-word.invariant.numbers ∙ ap (λ l. c.args.numbers.now.items ++ map (digits_value 10) l) all.0 }

pub loop-word-init : goal.loop-word-init
loop-word-init c = record { words = λ k d low. absurd (omega (arith, low)); numbers = sym (append-nil _) }

pub loop-word-preserved : goal.loop-word-preserved
loop-word-preserved c = record {
  words = rw map_push (All-push IsNumber _ _ c.loop-word.invariant.words (search rules));
  numbers = grind (arith, common_steps);
}
