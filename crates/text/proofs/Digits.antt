-- Digits read one after the other.
use Rattle.std.proofs.Common.{◌≡◌, ◌<◌, ◌≤◌, ◌+◌, ◌-◌, ◌*◌, ◌++◌, ◌∷◌, [], List, ℕ, length, take, drop, slice_index_or, ap, sym, ◌∙◌, refl, subst, suc, arith}
use Rattle.std.proofs.Math.Seq.{split_at}
use Rattle.std.proofs.lemmas.List.{take_all}
use Rattle.std.proofs.lemmas.Grind.{common_steps}
use Rattle.std.specs.Char.{digit_value}
use Rattle.std.specs.Str.Parse.{AllDigits, digits_value_after}

pub value_after : (n : ℕ) (ds : List ℕ) (c : ℕ) → digits_value_after 10 n (ds ++ (c ∷ [])) ≡ digits_value_after 10 n ds * 10 + digit_value c
value_after n [] c = refl
value_after n (d ∷ ds) c = value_after (n * 10 + digit_value d) ds c

pub one_more_digit : (ds : List ℕ) (c : ℕ) → AllDigits 10 ds → digit_value c < 10 → AllDigits 10 (ds ++ (c ∷ []))
one_more_digit [] c all low = (low, tt)
one_more_digit (d ∷ ds) c all low = (all.0, one_more_digit ds c all.1 low)

short_rest : (text : List ℕ) (i : ℕ) → length (drop (i + 1) text) ≤ length text - (i + 1)
short_rest text i = grind (arith, common_steps)

-- a text around the byte e at place i
pub parted : (text : List ℕ) (i e : ℕ) → i < length text → slice_index_or text i 0 ≡ e → text ≡ take i text ++ (e ∷ take (length text - (i + 1)) (drop (i + 1) text))
parted text i e low at =
    let next : suc i ≡ i + 1 = omega arith in
    subst (λ n. text ≡ take i text ++ (slice_index_or text i 0 ∷ drop n text)) next (split_at text i 0 low)
    ∙ ap (λ b. take i text ++ (b ∷ drop (i + 1) text)) at
    ∙ ap (λ rest. take i text ++ (e ∷ rest)) (sym (take_all _ (drop (i + 1) text) (short_rest text i)))
