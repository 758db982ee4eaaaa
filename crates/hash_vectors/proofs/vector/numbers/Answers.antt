-- The line is the two numbers with the bytes that end them.
use Rattle.std.proofs.Common.{◌≡◌, ◌<◌, ◌++◌, ◌∷◌, [], List, ℕ, length, ap, ◌∙◌, refl, arith, length-append}
use Rattle.std.proofs.lemmas.Grind.{common_steps}
use Rattle.hash_vectors.proofs.vector.numbers.Goals as goal

behind : (output rest : List ℕ) → output ++ (10 ∷ rest) ≡ (output ++ (10 ∷ [])) ++ rest
behind [] rest = refl
behind (b ∷ bs) rest = ap (λ l. b ∷ l) (behind bs rest)

joined : (input output rest : List ℕ) → input ++ (32 ∷ (output ++ (10 ∷ rest))) ≡ (input ++ (32 ∷ (output ++ (10 ∷ [])))) ++ rest
joined [] output rest = ap (λ l. 32 ∷ l) (behind output rest)
joined (b ∷ bs) output rest = ap (λ l. b ∷ l) (joined bs output rest)

shorter : (input output rest : List ℕ) → length rest < length (input ++ (32 ∷ (output ++ (10 ∷ rest))))
shorter input output rest = grind (arith, common_steps)

pub returns : goal.returns
returns c =
    let input = c.in_ok-input.ensures in
    let output = c.in_ok-output.ensures in
    record {
      vector = (
        input.word ++ (32 ∷ (output.word ++ (10 ∷ []))),
        input.parts ∙ ap (λ l. input.word ++ (32 ∷ l)) output.parts ∙ joined input.word output.word c.in_ok-output.rest.now,
        record { input = input.word; output = output.word; line_is = refl; input_is = input.number; output_is = output.number },
      );
      shorter = rw (input.parts, output.parts) (shorter input.word output.word c.in_ok-output.rest.now);
    }
