-- A digit more goes on with the value; the byte that ends the number parts the text.
use Rattle.std.proofs.Common.{◌≡◌, ◌<◌, ◌^◌, ◌+◌, ◌*◌, ◌∷◌, ◌++◌, [], ℕ, take, slice_index_or, refl, sym, subst, ◌∙◌, lit<, arith}
use Rattle.std.proofs.lemmas.Grind.{common_steps}
use Rattle.std.proofs.lemmas.List.{take_more}
use Rattle.std.proofs.lemmas.Str.{digit_value_digit}
use Rattle.std.specs.Char.{digit_value}
use Rattle.std.specs.Str.Parse.{AllDigits, digits_value}
use Rattle.text.proofs.Digits.{value_after, one_more_digit, parted}
use Rattle.text.proofs.number_at.Goals as goal

pub loop-i-init : goal.loop-i-init
loop-i-init c = (tt, refl, lit< tt)

pub returns-then-i-gt0 : goal.returns-then-i-gt0
returns-then-i-gt0 c = record {
  word = take c.loop-i.i c.args.text.now;
  parts = parted c.args.text.now c.loop-i.i c.args.end (omega (arith, c.loop-i-test.true)) c.if-b-end.true;
  number = (((grind (arith, common_steps), c.loop-i.invariant.0), subst (λ n. n < 2 ^ 64) c.loop-i.invariant.1 c.loop-i.invariant.2), c.loop-i.invariant.1);
}

pub loop-i-preserved : goal.loop-i-preserved
loop-i-preserved c =
    let text = c.args.text.now in
    let b = slice_index_or text c.loop-i.i 0 in
    let digit = digit_value_digit b (omega (arith, c.if-b-lt48.false), omega (arith, c.if-b-gt57.false)) in
    let more = take_more text c.loop-i.i 0 (omega (arith, c.loop-i-test.true)) in
    let value : c.in_ok-value.value ≡ digits_value 10 (take c.loop-i.i text) * 10 + digit_value b = omega (arith, c.in_ok-value.ensures.1, c.in_ok-checked_mul.ensures.1, c.from.ensures, c.loop-i.invariant.1, digit) in
    rw more (one_more_digit (take c.loop-i.i text) b c.loop-i.invariant.0 (omega (arith, digit, c.if-b-gt57.false)), value ∙ sym (value_after 0 (take c.loop-i.i text) b), omega (arith, c.in_ok-value.ensures.0, c.in_ok-value.ensures.1))
