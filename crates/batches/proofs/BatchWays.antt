-- The way back of an area, as the loans give it. Assumes nothing.
use mathlib.Core.List.{List}
use mathlib.Core.Path.{◌≡◌, refl, sym, ap, ◌∙◌}
use Prim.Native.Nat.{ℕ, ◌+◌, ◌-◌, ◌*◌, ◌≤◌, ◌<◌}
use native.Mathlib.Omega.{arith}
use lib.ListN.{length, take, drop}
use borrow.Author.Rules.{part_to_end}
use borrow.Rule.Slice.PartMut.{put_mid}
use Rattle.groups.specs.Undo.{Begun, Undone}
use Rattle.lists.specs.Rest.{cut_to}
use Rattle.lists.specs.Rest as lists
use Rattle.std.specs.Prelude.{None, Some}
use lib.Dec.{eqb}
use lib.ListN.{get_or}
use borrow.Author.Tests.{ne_eqb}
use Rattle.rules.specs.Causes.{Cause, Ok, Err, left}
use Rattle.rules.specs.Items.{LogItem, Call, placed_from}
use Rattle.rules.specs.Checks.{checks}
use Rattle.rules.specs.Context.{limited, run}
use Rattle.log_batch.specs.Lent.{row_count_of, item_at, items_of}
use Rattle.contexts.specs.Contexts.{context_of, Formed, answer_as, Answered}
use Rattle.batches.specs.Runs.{Keeping, Stepped, Going, WentBack}
use Rattle.batches.specs.OwnLaws.{keeping_step, item-clear}
use Rattle.batches.specs.BatchLaws.{begun-formed, begun-context, begun-going, going_on, gone_back, run_from, run-start, run_end, run-done, run-refused}
use Rattle.contexts.specs.AreaLaws.{before_back, behind_back}

pub went_back : (t n : ℕ) (xs bs ys ds s : List ℕ) → Formed xs bs → lists.Wf (cut_to t n (drop 9376 xs)) (drop 16384 bs) → Undone xs bs ys ds → s ≡ cut_to t n (take (length ys - 9376) (drop 9376 ys)) → WentBack t n xs bs (put_mid 9376 (length ys - 9376) ys s) ds
went_back t n xs bs ys ds s f w u e =
    gone_back t n xs bs ys ds (put_mid 9376 (length ys - 9376) ys s) f w u
    (before_back 9376 ys s u.wf.numbers_fit)
    (behind_back 9376 ys s u.wf.numbers_fit ∙ rw (part_to_end ys 9376) at e)

-- ---- the items in order

-- a batch that began at ys and ds in context c0, before item i
pub record Under (c : Call) (items es bs : List ℕ) (n t m : ℕ) (ys ds : List ℕ) (i : ℕ) (xs fs : List ℕ) : Type 0 where
  pub rest : run_from c items es bs n i (context_of xs fs) ≡ run_from c items es bs n 0 (context_of ys ds)
  pub formed : Formed xs fs
  pub going : i < n → Going t m (context_of ys ds) xs fs
  pub inside : i ≤ n
  pub own : Keeping c (context_of xs fs)

module _ (c : Call) (items es bs : List ℕ) (n : ℕ) where
  module _ (xs ds ys : List ℕ) (t m : ℕ) (w : Formed xs ds) (b : Begun xs ds ys)
      (et : t ≡ get_or (take (length xs - 9376) (drop 9376 xs)) 1 0) (em : m ≡ get_or (take (length xs - 9376) (drop 9376 xs)) 2 0) where
    pub under-start : Keeping c (context_of xs ds) → Under c items es bs n t m ys ds 0 ys ds
    under-start k =
        let g = begun-going xs ds ys w b in
        record {
          rest = refl;
          formed = begun-formed xs ds ys w b;
          going = λ l. rw (et, em, part_to_end xs 9376, begun-context xs ds ys w b) g;
          inside = omega arith;
          own = rw (begun-context xs ds ys w b) k;
        }

  module _ (t m : ℕ) (ys ds : List ℕ) (i : ℕ) (xs fs : List ℕ) (u : Under c items es bs n t m ys ds i xs fs) (l : i < n) where
    abbrev here : LogItem
    here = item_at es bs (drop (i * 9) items)

    pub under_more : n ≡ row_count_of items → checks c (items_of items es bs) ≡ None → (zs gs : List ℕ) → Stepped c here (eqb (i + 1) n) xs fs (Ok tt) zs gs → Under c items es bs n t m ys ds (i + 1) zs gs
    under_more q p zs gs s =
        record {
          rest = sym (run-done c items es bs n i (context_of xs fs) (context_of zs gs) l (sym (s.rule (Some i)))) ∙ u.rest;
          formed = s.formed;
          going = λ k. going_on t m (context_of ys ds) xs fs zs gs (u.going l) (s.kept (ne_eqb (i + 1) n (λ e. omega arith)));
          inside = omega arith;
          own = keeping_step c (record { item = here; place = Some i }) (context_of xs fs) (context_of zs gs) (item-clear c items es bs i p (rw q at l)) u.own (sym (s.rule (Some i)));
        }

    -- refused: the area can go back
    pub under_back : (k : Cause) (zs gs : List ℕ) → Stepped c here (eqb (i + 1) n) xs fs (Err k) zs gs → Going t m (context_of ys ds) zs gs
    under_back k zs gs s = going_on t m (context_of ys ds) xs fs zs gs (u.going l) (s.left k refl)

    -- and has gone back
    pub under-refused : (k : Cause) (zs gs vs hs : List ℕ) → Stepped c here (eqb (i + 1) n) xs fs (Err k) zs gs → WentBack t m zs gs vs hs → (xs₁ bs₁ : List ℕ) → context_of ys ds ≡ context_of xs₁ bs₁ → n ≡ row_count_of items → Answered (run limited c (placed_from 0 (items_of items es bs))) xs₁ bs₁ (Err (record { cause = k; place = Some i })) vs hs
    unfolding answer_as left
    under-refused k zs gs vs hs s b xs₁ bs₁ e q =
        let going = under_back k zs gs s in
        let r = sym (run-refused c items es bs n i (context_of xs fs) _ l (sym (s.rule (Some i)))) ∙ u.rest ∙ run-start c items es bs n (context_of ys ds) q in
        record {
          answers = r ∙ ap (run limited c (placed_from 0 (items_of items es bs))) e;
          leaves = b.context-is ∙ going.back ∙ e ∙ ap (left (context_of xs₁ bs₁)) (r ∙ ap (run limited c (placed_from 0 (items_of items es bs))) e);
          formed = b.formed;
        }

  pub under_all : (t m : ℕ) (ys ds : List ℕ) (i : ℕ) (xs fs : List ℕ) → Under c items es bs n t m ys ds i xs fs → n ≤ i → (xs₁ bs₁ : List ℕ) → context_of ys ds ≡ context_of xs₁ bs₁ → n ≡ row_count_of items → Answered (run limited c (placed_from 0 (items_of items es bs))) xs₁ bs₁ (Ok tt) xs fs
  unfolding answer_as left
  under_all t m ys ds i xs fs u l xs₁ bs₁ e q =
      let r = sym (run_end c items es bs n i (context_of xs fs) l) ∙ u.rest ∙ run-start c items es bs n (context_of ys ds) q ∙ ap (run limited c (placed_from 0 (items_of items es bs))) e in
      record { answers = r; leaves = ap (left (context_of xs₁ bs₁)) r; formed = u.formed }
