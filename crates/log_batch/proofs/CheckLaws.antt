-- One pass over the items finds what the rules' chain of checks finds. Assumes nothing.
use mathlib.Core.Bool.{Bool, true, false, cond}
use mathlib.Core.Path.{◌≡◌, refl, sym, ap, ◌∙◌}
use mathlib.Core.List.{List}
use Rattle.std.specs.Prelude.{Option, None, Some}
use Prim.Native.Nat.{ℕ, zero, suc, ◌+◌, ◌*◌, ◌-◌, ◌≤◌, ◌<◌}
use native.Mathlib.Decide.{dec_le}
use native.Mathlib.Omega.{arith}
use lib.Dec.{leb}
use lib.ListN.{drop}
use borrow.Author.Tests.{leb-true, leb-false}
use Rattle.maps.specs.Lists.{find_from}
use Rattle.rules.specs.Causes.{Cause, number_of, Refusal, TooLong}
use Rattle.rules.specs.Items.{LogItem, Call, replay_append, replay_rewrite, live_append, live_rewrite}
use Rattle.rules.specs.Checks.{Mark, is_rewrite_replay, meets7, first_mark, or_next, checks}
use Rattle.log_batch.specs.Lent.{row_count_of, item_at, items_from, items_of}
use Rattle.log_batch.specs.Judged.{judge, least_of, lesser_of, mark_for}
use Rattle.log_batch.proofs.ItemLaws.{items-start, find-end, find_here, find-more}
use Rattle.log_batch.proofs.LeastLaws.{bound, cause_at, Least, least_of_lem}

-- ---- the chain by numbers

-- k causes from number n on, each with the place where it is met first
abbrev chain : (ℕ → Option ℕ) → ℕ → ℕ → Option Refusal
chain found zero n = None
chain found (suc k) n = or_next (cause_at n) (found n) (chain found k (suc n))

module _ (found : ℕ → Option ℕ) (b p e : ℕ) (met : found b ≡ Some p) where
  chain-refused : (k n : ℕ) → n + k ≡ e → n ≤ b → b < e → ((m : ℕ) → n ≤ m → m < b → found m ≡ None) → chain found k n ≡ Some (record { cause = cause_at b; place = Some p })
  unfolding or_next
  chain-refused zero n h l u below = absurd (omega arith)
  chain-refused (suc k) n h l u below =
      elim (dec_le b n) [
        | yes q ↦ let same : b ≡ n = omega arith in rw (← same, met)
        | no q ↦ rw (below n (omega arith) (omega arith)) (chain-refused k (suc n) (omega arith) (omega arith) u (λ m a c. below m (omega arith) c))
      ]

chain-passed : (found : ℕ → Option ℕ) (k n : ℕ) → ((m : ℕ) → n ≤ m → m < n + k → found m ≡ None) → chain found k n ≡ None
unfolding or_next
chain-passed found zero n below = refl
chain-passed found (suc k) n below =
    rw (below n (omega arith) (omega arith)) (chain-passed found k (suc n) (λ m a c. below m (omega arith) (omega arith)))

module _ (items : List LogItem) where
  -- marks are looked at in Rewrite replay alone
  seventh : (call : Call) → find_from (meets7 call (first_mark 0 items)) 0 items ≡ find_from (judge call (mark_for call items) 7) 0 items
  unfolding meets7 judge mark_for is_rewrite_replay
  seventh replay_append = refl
  seventh replay_rewrite = refl
  seventh live_append = refl
  seventh (live_rewrite g s) = refl

  checks_chain : (call : Call) → checks call items ≡ chain (λ (n : ℕ). find_from (judge call (mark_for call items) n) 0 items) 6 2
  unfolding checks judge
  checks_chain call = rw (seventh call)

-- ---- the pass

abbrev cause_in : Option Refusal → Option Cause
cause_in None = None
cause_in (Some r) = Some r.cause

module _ (call : Call) (m : Option Mark) (xs es bs : List ℕ) where
  -- the best refusal is met first at its place
  pub record Met_at (r : Refusal) : Type 0 where
    pub low : 2 ≤ number_of r.cause
    pub high : number_of r.cause < 8
    pub named : cause_at (number_of r.cause) ≡ r.cause
    pub at : ℕ
    pub place : r.place ≡ Some at
    pub met : find_from (judge call m (number_of r.cause)) 0 (items_of xs es bs) ≡ Some at

  abbrev pub IfMet_at : Option Refusal → Type 0
  IfMet_at None = Unit
  IfMet_at (Some r) = Met_at r

  -- after i items: no number below the best one was met, and the best one is met first at its place
  pub record Scanned (rows : ℕ) (b : Option Refusal) (i : ℕ) : Type 0 where
    pub below : (n : ℕ) → 2 ≤ n → n < bound (cause_in b) → find_from (judge call m n) 0 (items_of xs es bs) ≡ find_from (judge call m n) i (items_from es bs (rows - i) (drop (i * 9) xs))
    pub best : IfMet_at b

  pub scan-start : (rows : ℕ) → rows ≡ row_count_of xs → Scanned rows None 0
  unfolding items_of
  scan-start rows e =
      record { below = λ n a c. rw e (ap (find_from (judge call m n) 0) (items-start es bs (row_count_of xs) xs)); best = tt }

  module _ (rows : ℕ) (i : ℕ) (h : i < rows) where
    -- item i meets a cause below the best one first, or none below it
    takes : (b : Option Refusal) (c : Cause) → Scanned rows b i → number_of c < bound (cause_in b) → Least (λ (n : ℕ). judge call m n i (item_at es bs (drop (i * 9) xs))) 2 (Some c) → Scanned rows (Some (record { cause = c; place = Some i })) (i + 1)
    takes b c s u l =
        record {
          below = λ n a d. s.below n a (omega arith) ∙ find-more es bs rows i xs (judge call m n) h (l.below n a d);
          best = record {
            low = l.low;
            high = l.met.high;
            named = l.met.named;
            at = i;
            place = refl;
            met = s.below _ l.low u ∙ find_here es bs rows i xs (judge call m _) h l.met.met;
          };
        }

    keeps : (b : Option Refusal) (o : Option Cause) → Scanned rows b i → bound (cause_in b) ≤ bound o → Least (λ (n : ℕ). judge call m n i (item_at es bs (drop (i * 9) xs))) 2 o → Scanned rows b (i + 1)
    keeps b o s u l =
        record {
          below = λ n a d. s.below n a d ∙ find-more es bs rows i xs (judge call m n) h (l.below n a (omega arith));
          best = s.best;
        }

    scan_by : (b : Option Refusal) (o : Option Cause) → Scanned rows b i → Least (λ (n : ℕ). judge call m n i (item_at es bs (drop (i * 9) xs))) 2 o → Scanned rows (lesser_of b o i) (i + 1)
    unfolding lesser_of
    scan_by None None s l = keeps None None s (omega arith) l
    scan_by (Some r) None s l = keeps (Some r) None s (omega (arith, s.best.high)) l
    scan_by None (Some c) s l = takes None c s l.met.high l
    scan_by (Some r) (Some c) s l = by (leb (number_of r.cause) (number_of c)) refl
      where
        by : (t : Bool) → leb (number_of r.cause) (number_of c) ≡ t → Scanned rows (cond t (Some r) (Some (record { cause = c; place = Some i }))) (i + 1)
        by true e = keeps (Some r) (Some c) s (leb-true _ _ e) l
        by false e = takes (Some r) c s (leb-false _ _ e) l

    pub scan-more : (b : Option Refusal) (o : Option Cause) (d : Option Refusal) → Scanned rows b i → o ≡ least_of call m i (item_at es bs (drop (i * 9) xs)) → d ≡ lesser_of b o i → Scanned rows d (i + 1)
    scan-more b o d s e f = rw (f, e) (scan_by b _ s (least_of_lem call m i _))

  module _ (rows : ℕ) (i : ℕ) (marks : m ≡ mark_for call (items_of xs es bs)) where
    refused_if : (r : Refusal) → Met_at r → ((n : ℕ) → 2 ≤ n → n < number_of r.cause → find_from (judge call m n) 0 (items_of xs es bs) ≡ None) → Some r ≡ checks call (items_of xs es bs)
    refused_if r w below =
        let e = chain-refused (λ (n : ℕ). find_from (judge call m n) 0 (items_of xs es bs)) (number_of r.cause) w.at 8 w.met 6 2 refl w.low w.high below in
        sym (rw (checks_chain (items_of xs es bs) call, ← marks) (rw (w.named, ← w.place) at e))

    -- the least number of all
    pub refused-2 : (r : Refusal) → r.cause ≡ TooLong → Scanned rows (Some r) i → Some r ≡ checks call (items_of xs es bs)
    refused-2 r e s = let two = ap number_of e in refused_if r s.best (λ n a c. absurd (omega arith))

    module _ (h : rows ≤ i) where
      pub refused_at-end : (r : Refusal) → Scanned rows (Some r) i → Some r ≡ checks call (items_of xs es bs)
      refused_at-end r s = refused_if r s.best (λ n a c. s.below n a c ∙ find-end es bs rows i xs (judge call m n) h)

      pub passed_at-end : Scanned rows None i → None ≡ checks call (items_of xs es bs)
      passed_at-end s =
          sym (rw (checks_chain (items_of xs es bs) call, ← marks) (chain-passed (λ (n : ℕ). find_from (judge call m n) 0 (items_of xs es bs)) 6 2 (λ n a c. s.below n a c ∙ find-end es bs rows i xs (judge call m n) h)))
