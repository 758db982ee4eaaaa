-- The bytes of a text one after another. Assumes nothing.
use mathlib.Core.List.{List, [], ◌∷◌, ◌++◌, append_assoc, append-nil}
use mathlib.Core.Path.{◌≡◌, refl, sym, ap, ◌∙◌}
use Prim.Native.Nat.{ℕ, ◌+◌, ◌*◌, ◌-◌, ◌^◌, ◌≤◌, ◌<◌}
use native.Mathlib.Numerals.{add-one}
use native.Mathlib.Omega.{arith}
use lib.ListN.{length, take, drop, get_or}
use lib.Seq.{take-suc, take_all}
use borrow.Rule.Slice.PartMut.{put_mid}
use Rattle.takes_lines.specs.Bytes.{Reached, take_byte, take_bytes}
use Rattle.takes_runs.specs.declared.bytes.Held.{Held}
use Rattle.takes_runs.specs.Steps.{Fit}
use Rattle.takes_runs.specs.Reading.{Holds, Stepped}
use Rattle.takes_runs.proofs.OutLaws.{length_lent, printed-behind, lent_length}

-- ---- a text

takes-snoc : (l : List ℕ) (b : ℕ) (s : Reached) → take_bytes (l ++ (b ∷ [])) s ≡ take_byte b (take_bytes l s)
unfolding take_bytes
takes-snoc [] b s = refl
takes-snoc (c ∷ l) b s = takes-snoc l b (take_byte c s)

-- the loop over the bytes: i of them are taken
pub record Taking (h₀ : Held) (text out₀ : List ℕ) (h : Held) (n i : ℕ) (out : List ℕ) : Type 0 where
  pub steps : Stepped (take_bytes (take i text)) h₀ n out h
  pub inside : i ≤ length text
  pub lines-few : h.known.lines ≤ h₀.known.lines + i
  pub bound : n ≤ 44 * i
  pub out-is : length out ≡ length out₀
  pub out-fits : length out₀ < 2 ^ 64

module _ (h₀ : Held) (text out₀ : List ℕ) where
  pub taking-none : Fit h₀.runs → length out₀ < 2 ^ 64 → Taking h₀ text out₀ h₀ 0 0 out₀
  taking-none f small =
      record {
        steps = record {
          goes = λ s a. unfold take_bytes in a;
          prints = λ s a. unfold take_bytes in sym (append-nil s.takes.printed);
          few = omega arith;
          fit = f;
        };
        inside = omega arith;
        lines-few = omega arith;
        bound = omega arith;
        out-is = refl;
        out-fits = small;
      }

  module _ (room : 44 * length text ≤ length out₀) (h : Held) (n i : ℕ) (out : List ℕ) (t : Taking h₀ text out₀ h n i out) where
    pub taking-room : i < length text → n + 44 ≤ length out
    taking-room l = omega (arith, t.bound, t.out-is)

    pub taking_all : length text ≤ i → Stepped (take_bytes text) h₀ n out h
    taking_all e = rw (take_all i text e) at t.steps

    module _ (r : ℕ) (p : List ℕ) (z : Held) (more : i < length text)
        (one : Stepped (take_byte (get_or text i 0)) h r p z) (same : length p ≡ length (take (n + 44 - n) (drop n out))) where
      abbrev out' : List ℕ
      out' = put_mid n (n + 44 - n) out p

      len : length p ≡ n + 44 - n
      len = omega (arith, same, lent_length n 44 out (taking-room more))

      lent : n + (n + 44 - n) ≤ length out
      lent = omega (arith, taking-room more)

      one_more_lem : (s : Reached) → take_bytes (take (i + 1) text) s ≡ take_byte (get_or text i 0) (take_bytes (take i text) s)
      one_more_lem s = ap (λ l. take_bytes l s) (ap (λ j. take j text) (add-one i) ∙ take-suc text i 0 more) ∙ takes-snoc (take i text) (get_or text i 0) s

      more-printed : (s : Reached) → Holds s h₀ → (take_bytes (take (i + 1) text) s).takes.printed ≡ s.takes.printed ++ take (n + r) out'
      more-printed s a =
          ap (λ (x : Reached). x.takes.printed) (one_more_lem s)
          ∙ one.prints (take_bytes (take i text) s) (t.steps.goes s a)
          ∙ ap (λ l. l ++ take r p) (t.steps.prints s a)
          ∙ append_assoc s.takes.printed (take n out) (take r p)
          ∙ ap (λ l. s.takes.printed ++ l) (sym (printed-behind n (n + 44 - n) out p len lent r (omega (arith, one.few, len))))

      more-goes : (s : Reached) → Holds s h₀ → Holds (take_bytes (take (i + 1) text) s) z
      more-goes s a = rw (one_more_lem s) (one.goes (take_bytes (take i text) s) (t.steps.goes s a))

      pub taking-more : z.known.lines ≤ h.known.lines + 1 → Taking h₀ text out₀ z (n + r) (i + 1) out'
      taking-more a =
          record {
            steps = record {
              goes = more-goes;
              prints = more-printed;
              few = omega (arith, one.few, len, lent, length_lent n (n + 44 - n) out p len lent);
              fit = one.fit;
            };
            inside = omega arith;
            lines-few = omega (arith, t.lines-few);
            bound = omega (arith, t.bound, one.few, len);
            out-is = length_lent n (n + 44 - n) out p len lent ∙ t.out-is;
            out-fits = t.out-fits;
          }
