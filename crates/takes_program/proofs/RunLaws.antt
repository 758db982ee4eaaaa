-- The loop over the blocks of the input. Assumes nothing.
use Rattle.std.specs.Prelude.{List, [], ◌++◌, ◌≡◌, ℕ, ◌+◌, ◌*◌, ◌≤◌, length, take, Option, None, Some, IfSome}
use Rattle.std.proofs.Common.{ap, ◌∙◌, append-nil, arith}
use Rattle.std.specs.Io.KnownBytes.{Appends, Consumes, IsAtEnd}
use Rattle.std.proofs.KnownBytes.{Appends-nil, Appends-trans, Consumes-nil, Consumes-trans}
use Rattle.takes_rules.specs.Program.{takes}
use Rattle.takes_runs.specs.declared.bytes.Held.{Held}
use Rattle.takes_runs.specs.Steps.{Fit}
use Rattle.takes_runs.specs.Reading.{Starts, PrintedAll}
use Rattle.takes_runs.proofs.KindLaws.{fresh-area}
use Rattle.takes_whole.specs.Whole.{Took, ReadSoFar}
use Rattle.takes_whole.proofs.Theorem.{whole}

pub fits : {read printed : List ℕ} {h : Held} → ReadSoFar read printed h → Fit h.runs
fits (ReadSoFar.started h s) = record { merged-area = fresh-area h.runs.xs h.runs.bs s.merged-area; run-area = fresh-area h.runs.ys h.runs.cs s.run-area }
fits (ReadSoFar.block b n out z p t) = t.fit

-- what was read since the program began, what was written, and how many lines have ended at most; `left` are the bytes that the
-- reader has left, and `made` those that the writer holds
pub record Running (left₀ made₀ left made : Option (List ℕ)) (h : Held) (blocks : ℕ) : Type 0 where
  pub read : List ℕ
  pub printed : List ℕ
  pub so_far : ReadSoFar read printed h
  pub consumed : Consumes left₀ left read
  pub appended : Appends made₀ made printed
  pub lines_few : h.known.lines ≤ 4096 * blocks

-- nothing was read yet
pub running_none : (left made : Option (List ℕ)) (h : Held) → Starts h → Running left made left made h 0
running_none left made h s =
    record {
      read = [];
      printed = [];
      so_far = ReadSoFar.started h s;
      consumed = Consumes-nil left;
      appended = Appends-nil made;
      lines_few = omega (arith, s.no_line);
    }

module _ (left₀ made₀ left made : Option (List ℕ)) (h : Held) (blocks : ℕ) (l : Running left₀ made₀ left made h blocks) where
  -- one more block
  pub running_more : (left' made' : Option (List ℕ)) (b : List ℕ) (n : ℕ) (p : List ℕ) (z : Held) → Consumes left left' b → Took b h n p z → Appends made made' (take n p) → length b ≤ 4096 → z.known.lines ≤ h.known.lines + length b → Running left₀ made₀ left' made' z (blocks + 1)
  running_more left' made' b n p z c t a few more =
      record {
        read = l.read ++ b;
        printed = l.printed ++ take n p;
        so_far = ReadSoFar.block b n p z l.so_far t;
        consumed = Consumes-trans _ _ _ _ _ l.consumed c;
        appended = Appends-trans _ _ _ _ _ l.appended a;
        lines_few = omega (arith, l.lines_few);
      }

  -- the input is at its end, and the rest is printed
  pub all_printed : (left' made' : Option (List ℕ)) (n : ℕ) (p : List ℕ) → Consumes left left' [] → IsAtEnd left' → PrintedAll h n p → Appends made made' (take n p) → IfSome left₀ (λ bytes. Appends made₀ made' (takes bytes))
  all_printed left' made' n p c e t a = all left₀ left' (l.read ++ []) (Consumes-trans _ _ _ _ _ l.consumed c) e (ap takes (append-nil l.read) ∙ whole l.read l.printed h n p l.so_far t)
    where
      all : (x y : Option (List ℕ)) (read : List ℕ) → Consumes x y read → IsAtEnd y → takes read ≡ l.printed ++ take n p → IfSome x (λ bytes. Appends made₀ made' (takes bytes))
      all None y read c e w = tt
      all (Some x) None read c e w = absurd c
      all (Some x) (Some y) read c e w = rw (c, e, append-nil, w) (Appends-trans _ _ _ _ _ l.appended a)
