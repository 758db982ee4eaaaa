-- The end of the input. Assumes nothing.
use mathlib.Core.Bool.{true, false, true≢false, false≢true}
use mathlib.Core.List.{List, [], ◌∷◌, ◌++◌, append_assoc, append-nil}
use mathlib.Core.Path.{◌≡◌, refl, sym, ap, ◌∙◌}
use Prim.Native.Nat.{ℕ, ◌+◌, ◌-◌, ◌≤◌}
use native.Mathlib.Omega.{arith}
use lib.ListN.{length, take, drop}
use borrow.Rule.Slice.PartMut.{put_mid}
use Rattle.rules.specs.Items.{Append, Rewrite}
use Rattle.rules.specs.Context.{Context}
use Rattle.rules.specs.Queries.{live_entries}
use Rattle.contexts.specs.Contexts.{context_of}
use Rattle.takes_rules.specs.Lines.{next_run}
use Rattle.takes_rules.specs.Output.{live_line}
use Rattle.takes_rules.specs.Program.{Takes, take_line, groups_text, totals}
use Rattle.takes_lines.specs.Bytes.{Reached, end_of_line, last_line, at_end}
use Rattle.takes_runs.specs.declared.runs.Runs.{Runs}
use Rattle.takes_runs.specs.declared.bytes.Held.{Held}
use Rattle.takes_runs.specs.Steps.{Says, Fit, TookLine}
use Rattle.takes_runs.specs.Reading.{has_byte, Holds, Stepped, EndedInput, PrintedAll, end_of_input}
use Rattle.takes_runs.proofs.OutLaws.{take-front, length_lent, printed-behind, lent_length, front_length, whole_length}

-- ---- the last line

last-open : (l : List ℕ) (s : Reached) → has_byte l ≡ true → last_line l s ≡ end_of_line s
unfolding has_byte last_line
last-open [] s h = absurd (false≢true h)
last-open (b ∷ l) s h = refl

last_none : (l : List ℕ) (s : Reached) → has_byte l ≡ false → last_line l s ≡ s
unfolding has_byte last_line
last_none [] s h = refl
last_none (b ∷ l) s h = absurd (true≢false h)

module _ (h : Held) where
  -- the open line has a byte
  pub line-open : (r : ℕ) (out' : List ℕ) (z : Held) → h.known.begun ≡ true → Stepped end_of_line h r out' z → Stepped end_of_input h r out' z
  line-open r out' z e w =
      record {
        goes = λ s a. rw (last-open s.text s (sym a.begun-is ∙ e)) (w.goes s a);
        prints = λ s a. rw (last-open s.text s (sym a.begun-is ∙ e)) (w.prints s a);
        few = w.few;
        fit = w.fit;
      }

  -- it has none
  pub line_empty : (out : List ℕ) → h.known.begun ≡ false → Fit h.runs → Stepped end_of_input h 0 out h
  line_empty out e f =
      record {
        goes = λ s a. rw (last_none s.text s (sym a.begun-is ∙ e)) a;
        prints = λ s a. rw (last_none s.text s (sym a.begun-is ∙ e)) (sym (append-nil s.takes.printed));
        few = omega arith;
        fit = f;
      }

  -- the last line prints into the first 44 bytes of out, and the merge behind it
  module _ (r : ℕ) (front : List ℕ) (h₁ : Held) (one : Stepped end_of_input h r front h₁)
      (out : List ℕ) (first : length front ≡ length (take 44 out)) (long : 88 ≤ length out) where
    abbrev out₁ : List ℕ
    out₁ = front ++ drop 44 out

    pub few-first : r ≤ 44
    few-first = omega (arith, one.few, front_length 44 out front first (omega arith))

    pub room-behind : r + 44 ≤ length out₁
    room-behind = omega (arith, few-first, whole_length 44 out front first (omega arith))

    module _ (m : ℕ) (p : List ℕ) (z : Runs) (two : TookLine h₁.known.lines next_run h₁.runs m p z) (same : length p ≡ length (take (r + 44 - r) (drop r out₁))) where
      abbrev out₂ : List ℕ
      out₂ = put_mid r (r + 44 - r) out₁ p

      len : length p ≡ r + 44 - r
      len = omega (arith, same, lent_length r 44 out₁ room-behind)

      lent : r + (r + 44 - r) ≤ length out₁
      lent = omega (arith, room-behind)

      both-printed : take (r + m) out₂ ≡ take r front ++ take m p
      both-printed =
          printed-behind r (r + 44 - r) out₁ p len lent m (omega (arith, two.few, len))
          ∙ ap (λ l. l ++ take m p) (take-front r front (drop 44 out) one.few)

      pub all-length : length out₂ ≡ length out
      all-length = length_lent r (r + 44 - r) out₁ p len lent ∙ whole_length 44 out front first (omega arith)

      at-end : (s : Reached) → Holds s h → at_end s ≡ record { merged = context_of z.xs z.bs; run = context_of z.ys z.cs; printed = (end_of_input s).takes.printed ++ take m p }
      at-end s a =
          let t : Reached = end_of_input s in
          let b : Holds t h₁ = one.goes s a in
          let before : record { merged = context_of h₁.runs.xs h₁.runs.bs; run = context_of h₁.runs.ys h₁.runs.cs; printed = t.takes.printed } ≡ t.takes = λ i. record { merged = b.merged-is i; run = b.run_is i; printed = t.takes.printed } in
          let here : at_end s ≡ take_line t.lines next_run t.takes = unfold at_end take_line in refl in
          here
          ∙ ap (take_line t.lines next_run) (sym before)
          ∙ ap (λ n. take_line n next_run (record { merged = context_of h₁.runs.xs h₁.runs.bs; run = context_of h₁.runs.ys h₁.runs.cs; printed = t.takes.printed })) (sym b.lines_are)
          ∙ two.line-is.takes t.takes.printed

      pub input-ended : EndedInput h (r + m) out₂ z
      input-ended =
          record {
            ends = λ s a. sym (ap (λ (x : Takes). x.merged) (at-end s a));
            prints = λ s a. ap (λ (x : Takes). x.printed) (at-end s a) ∙ ap (λ l. l ++ take m p) (one.prints s a) ∙ append_assoc s.takes.printed (take r front) (take m p) ∙ ap (λ l. s.takes.printed ++ l) (sym both-printed);
            few = omega (arith, two.few, len, few-first, all-length);
            merged-area = two.fit.merged-area;
          }

-- ---- the groups and the live counts

abbrev totals_of : Context → List ℕ
totals_of c = groups_text c.groups ++ live_line (live_entries Append c) (live_entries Rewrite c)

module _ (h : Held) (r : ℕ) (front : List ℕ) (z : Runs) (one : EndedInput h r front z)
    (out : List ℕ) (first : length front ≡ length (take 88 out)) (long : 820 ≤ length out) where
  abbrev written : List ℕ
  written = front ++ drop 88 out

  pub few-before : r ≤ 88
  few-before = omega (arith, one.few, front_length 88 out front first (omega arith))

  pub room-left : r + 732 ≤ length written
  room-left = omega (arith, few-before, whole_length 88 out front first (omega arith))

  module _ (m : ℕ) (p : List ℕ) (two : Says (totals_of (context_of z.xs z.bs)) m p) (same : length p ≡ length (take (r + 732 - r) (drop r written))) where
    abbrev whole : List ℕ
    whole = put_mid r (r + 732 - r) written p

    fits : length p ≡ r + 732 - r
    fits = omega (arith, same, lent_length r 732 written room-left)

    inside : r + (r + 732 - r) ≤ length written
    inside = omega (arith, room-left)

    all_said : take (r + m) whole ≡ take r front ++ totals_of (context_of z.xs z.bs)
    all_said =
        printed-behind r (r + 732 - r) written p fits inside m (omega (arith, two.few, fits))
        ∙ ap (λ l. l ++ take m p) (take-front r front (drop 88 out) one.few)
        ∙ ap (λ l. take r front ++ l) two.said

    pub same_whole : length whole ≡ length out
    same_whole = length_lent r (r + 732 - r) written p fits inside ∙ whole_length 88 out front first (omega arith)

    totals-are : (t : Takes) → totals t ≡ t.printed ++ totals_of t.merged
    unfolding totals
    totals-are t = refl

    all-prints : (s : Reached) → Holds s h → totals (at_end s) ≡ s.takes.printed ++ take (r + m) whole
    all-prints s a =
        totals-are (at_end s)
        ∙ ap (λ c. (at_end s).printed ++ totals_of c) (sym (one.ends s a))
        ∙ ap (λ l. l ++ totals_of (context_of z.xs z.bs)) (one.prints s a)
        ∙ append_assoc s.takes.printed (take r front) (totals_of (context_of z.xs z.bs))
        ∙ ap (λ l. s.takes.printed ++ l) (sym all_said)

    pub printed_all : PrintedAll h (r + m) whole
    printed_all =
        record {
          prints = all-prints;
          few = omega (arith, two.few, fits, few-before, same_whole);
        }
