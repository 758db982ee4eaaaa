-- Waiting parts of one group: what `accept` keeps of their shape and of their items' groups.
-- Assumes nothing.
use Rattle.std.specs.Prelude.{◌≡◌, true, false, cond, ℕ, leb}
use Rattle.std.proofs.Math.Path.{refl}
use Rattle.std.proofs.Common.{sym, ap, ◌∙◌, true≢false}
use Rattle.std.proofs.lemmas.Bool.{false≢true}
use mathlib.Core.List.{List, [], ◌∷◌, ◌++◌, reverse, reverse-cons}
use Rattle.std.specs.Prelude.{Option, None, Some}
use Rattle.std.proofs.lemmas.Option.{none-some}
use Rattle.maps.specs.Lists.{every, or_else}
use Rattle.maps.specs.BoolLaws.{both, both_left, both_right}
use Rattle.maps.specs.ListLaws.{every_append, every-head, every-tail, every-cons}
use Rattle.maps.specs.OrderLaws.{split}
use Rattle.rules.specs.Causes.{Refusal, Ok, Err, refuse, FilesGoBack}
use Rattle.rules.specs.Items.{LogItem, Status, begin, middle, end}
use Rattle.rules.specs.Context.{Part}
use Rattle.rules.specs.Waiting.{Accepted, wait, finish, back, joined, accept_by, accept, some_parts}
use Rattle.rules_by_group.specs.Group.{parts_of, waits, accept_part}
use Rattle.rules_by_group.specs.Kept.{is_begin, is_end, behind, shaped, is_own, own_items, own_parts}
use Rattle.rules_by_group.proofs.ResultLaws.{ok_inj, one-refusal, refusal_of, refused_not_ok}

-- ---- the items are the group's own

pub own-items-append : (g : ℕ) (xs ys : List LogItem) → own_items g xs ≡ true → own_items g ys ≡ true → own_items g (xs ++ ys) ≡ true
unfolding own_items
own-items-append g xs ys a b = every_append (is_own g) xs ys ∙ both a b

pub own-head : (g : ℕ) (p : Part) (ps : List Part) → own_parts g (p ∷ ps) ≡ true → own_items g p.items ≡ true
unfolding own_parts
own-head g p ps h = every-head (λ (p : Part). own_items g p.items) p ps h

pub own-tail : (g : ℕ) (p : Part) (ps : List Part) → own_parts g (p ∷ ps) ≡ true → own_parts g ps ≡ true
unfolding own_parts
own-tail g p ps h = every-tail (λ (p : Part). own_items g p.items) p ps h

pub own-cons : (g : ℕ) (p : Part) (ps : List Part) → own_items g p.items ≡ true → own_parts g ps ≡ true → own_parts g (p ∷ ps) ≡ true
unfolding own_parts
own-cons g p ps a h = every-cons (λ (p : Part). own_items g p.items) p ps a h

pub own-nil : (g : ℕ) → own_parts g [] ≡ true
unfolding own_parts every
own-nil g = refl

-- what waits afterwards, and what finishes, has items of the group alone
unfoldable pub OwnAccepted : ℕ → Accepted → Type 0
OwnAccepted g (wait ps) = own_parts g ps ≡ true
OwnAccepted g (finish old ps) = (own_items g old.items ≡ true) × (own_parts g ps ≡ true)
OwnAccepted g back = Unit {0}

pub own_old : (g : ℕ) (old : Part) (ps : List Part) → OwnAccepted g (finish old ps) → own_items g old.items ≡ true
unfolding OwnAccepted
own_old g old ps h = h.0

module _ (g : ℕ) (old new : Part) (ps : List Part) (ho : own_items g old.items ≡ true) (hn : own_items g new.items ≡ true) (h : own_parts g ps ≡ true) where
  joined-own : (s : Status) → OwnAccepted g (joined s old new ps)
  unfolding joined
  joined-own s =
      split (leb old.end new.start)
      (λ e. rw e (unfold OwnAccepted in own-cons g (record { status = s; items = old.items ++ new.items; start = old.start; end = new.end }) ps (own-items-append g old.items new.items ho hn) h))
      (λ e. rw e (unfold OwnAccepted in tt))

  finish-own : OwnAccepted g (cond (leb old.end new.start) (finish old ps) back)
  unfolding OwnAccepted
  finish-own = split (leb old.end new.start) (λ e. rw e (ho, h)) (λ e. rw e tt)

  by-own : (s r : Status) → OwnAccepted g (accept_by s r old new ps)
  unfolding accept_by
  by-own begin begin = unfold OwnAccepted in own-cons g new ps hn h
  by-own middle begin = unfold OwnAccepted in own-cons g new ps hn h
  by-own end begin = unfold OwnAccepted in own-cons g new (old ∷ ps) hn (own-cons g old ps ho h)
  by-own begin middle = joined-own begin
  by-own middle middle = joined-own middle
  by-own end middle = unfold OwnAccepted in own-cons g old ps ho h
  by-own begin end = finish-own
  by-own middle end = joined-own end
  by-own end end = unfold OwnAccepted in own-cons g old ps ho h

pub accept-own : (g : ℕ) (ps : List Part) (new : Part) → own_parts g ps ≡ true → own_items g new.items ≡ true → OwnAccepted g (accept ps new)
unfolding accept
accept-own g [] new h hn = unfold OwnAccepted in own-cons g new [] hn (own-nil g)
accept-own g (p ∷ ps) new h hn = by-own g p new ps (own-head g p ps h) hn (own-tail g p ps h) p.status new.status

-- ---- the shape

-- parts that may be none
unfoldable pub Shaped : List Part → Type 0
Shaped [] = Unit {0}
Shaped (p ∷ ps) = shaped (p ∷ ps) ≡ true

unfoldable pub ShapedAccepted : Accepted → Type 0
ShapedAccepted (wait ps) = Shaped ps
ShapedAccepted (finish old ps) = Shaped ps
ShapedAccepted back = Unit {0}

-- behind a part that is no Begin stands nothing
behind-none : (s r : Status) (ps : List Part) → is_begin s ≡ false → behind s ps ≡ true → behind r ps ≡ true
unfolding behind
behind-none s r [] n h = refl
behind-none s r (o ∷ []) n h = absurd (true≢false (sym (both_left (is_begin s) (is_end o.status) h) ∙ n))
behind-none s r (o ∷ (p ∷ ps)) n h = absurd (false≢true h)

behind-begin : (s : Status) (ps : List Part) → behind s ps ≡ true → behind begin ps ≡ true
unfolding behind is_begin
behind-begin s [] h = refl
behind-begin s (o ∷ []) h = both_right (is_begin s) (is_end o.status) h
behind-begin s (o ∷ (r ∷ rs)) h = h

behind-end : (s : Status) (old : Part) (ps : List Part) → is_begin s ≡ false → behind s ps ≡ true → is_end old.status ≡ true → behind begin (old ∷ ps) ≡ true
unfolding behind
behind-end s old [] n h e = unfold is_begin in e
behind-end s old (o ∷ []) n h e = absurd (true≢false (sym (both_left (is_begin s) (is_end o.status) h) ∙ n))
behind-end s old (o ∷ (p ∷ ps)) n h e = absurd (false≢true h)

behind-shaped : (s : Status) (ps : List Part) → behind s ps ≡ true → Shaped ps
unfolding Shaped behind
behind-shaped s [] h = tt
behind-shaped s (o ∷ []) h = unfold shaped behind in refl
behind-shaped s (o ∷ (r ∷ rs)) h = absurd (false≢true h)

shaped-cons : (p : Part) (ps : List Part) → behind p.status ps ≡ true → Shaped (p ∷ ps)
unfolding Shaped shaped
shaped-cons p ps h = h

module _ (old new : Part) (ps : List Part) where
  joined-shaped : (s : Status) → behind s ps ≡ true → ShapedAccepted (joined s old new ps)
  unfolding joined ShapedAccepted
  joined-shaped s h =
      split (leb old.end new.start)
      (λ e. rw e (shaped-cons (record { status = s; items = old.items ++ new.items; start = old.start; end = new.end }) ps h))
      (λ e. rw e tt)

  finish-shaped : behind begin ps ≡ true → ShapedAccepted (cond (leb old.end new.start) (finish old ps) back)
  unfolding ShapedAccepted
  finish-shaped h = split (leb old.end new.start) (λ e. rw e (behind-shaped begin ps h)) (λ e. rw e tt)

  by-shaped : (s r : Status) → old.status ≡ s → new.status ≡ r → behind s ps ≡ true → ShapedAccepted (accept_by s r old new ps)
  unfolding accept_by
  by-shaped begin begin eo en h = unfold ShapedAccepted in shaped-cons new ps (ap (λ z. behind z ps) en ∙ h)
  by-shaped middle begin eo en h = unfold ShapedAccepted in shaped-cons new ps (ap (λ z. behind z ps) en ∙ behind-begin middle ps h)
  by-shaped end begin eo en h =
      unfold ShapedAccepted in
      shaped-cons new (old ∷ ps) (ap (λ z. behind z (old ∷ ps)) en ∙ behind-end end old ps (unfold is_begin in refl) h (ap is_end eo ∙ (unfold is_end in refl)))
  by-shaped begin middle eo en h = joined-shaped begin h
  by-shaped middle middle eo en h = joined-shaped middle h
  by-shaped end middle eo en h = unfold ShapedAccepted in shaped-cons old ps (ap (λ z. behind z ps) eo ∙ h)
  by-shaped begin end eo en h = finish-shaped h
  by-shaped middle end eo en h = joined-shaped end (behind-none middle end ps (unfold is_begin in refl) h)
  by-shaped end end eo en h = unfold ShapedAccepted in shaped-cons old ps (ap (λ z. behind z ps) eo ∙ h)

accept-behind : (p new : Part) (ps : List Part) → Shaped (p ∷ ps) → behind p.status ps ≡ true
unfolding Shaped shaped
accept-behind p new ps h = h

pub accept-shaped : (ps : List Part) (new : Part) → Shaped ps → ShapedAccepted (accept ps new)
unfolding accept
accept-shaped [] new h = unfold ShapedAccepted in shaped-cons new [] (unfold behind in refl)
accept-shaped (p ∷ ps) new h = by-shaped p new ps p.status new.status refl refl (accept-behind p new ps h)

-- ---- a Begin waits

begin_by : (s r : Status) (old new : Part) (ps : List Part) → is_begin r ≡ true → (qs : List Part) × (accept_by s r old new ps ≡ wait qs)
unfolding accept_by
begin_by begin begin old new ps h = (new ∷ ps, refl)
begin_by middle begin old new ps h = (new ∷ ps, refl)
begin_by end begin old new ps h = (new ∷ (old ∷ ps), refl)
begin_by begin middle old new ps h = absurd (false≢true (unfold is_begin in h))
begin_by middle middle old new ps h = absurd (false≢true (unfold is_begin in h))
begin_by end middle old new ps h = absurd (false≢true (unfold is_begin in h))
begin_by begin end old new ps h = absurd (false≢true (unfold is_begin in h))
begin_by middle end old new ps h = absurd (false≢true (unfold is_begin in h))
begin_by end end old new ps h = absurd (false≢true (unfold is_begin in h))

pub begin-waits : (ps : List Part) (new : Part) → is_begin new.status ≡ true → (qs : List Part) × (accept ps new ≡ wait qs)
unfolding accept
begin-waits [] new h = (new ∷ [], refl)
begin-waits (p ∷ ps) new h = begin_by p.status new.status p new ps h

-- ---- the parts of a group, as they are kept

parts-some : (ps : List Part) → parts_of (some_parts ps) ≡ ps
unfolding parts_of some_parts or_else
parts-some [] = refl
parts-some (p ∷ ps) = refl

-- a group's parts: own, of a shape, and absent if there are none
pub record PartsKept (g : ℕ) (o : Option (List Part)) : Type 0 where
  pub own : own_parts g (parts_of o) ≡ true
  pub shape : Shaped (parts_of o)
  pub filled : some_parts (parts_of o) ≡ o

kept-some : (g : ℕ) (ps : List Part) → own_parts g ps ≡ true → Shaped ps → PartsKept g (some_parts ps)
kept-some g ps h s = record { own = ap (own_parts g) (parts-some ps) ∙ h; shape = rw (parts-some ps) s; filled = ap some_parts (parts-some ps) }

pub waits_kept : (g : ℕ) (a : Accepted) (o : Option (List Part)) → OwnAccepted g a → ShapedAccepted a → waits a ≡ Ok o → PartsKept g o
unfolding waits OwnAccepted ShapedAccepted
waits_kept g (wait ps) o h s e = rw (← (ok_inj e)) (kept-some g ps h s)
waits_kept g (finish old ps) o h s e = rw (← (ok_inj e)) (kept-some g ps h.1 s)
waits_kept g back o h s e = absurd (refused_not_ok e)

pub accept-kept : (g : ℕ) (new : Part) (o p : Option (List Part)) → own_items g new.items ≡ true → PartsKept g o → accept_part new o ≡ Ok p → PartsKept g p
unfolding accept_part
accept-kept g new o p h k e =
    waits_kept g (accept (parts_of o) new) p (accept-own g (parts_of o) new k.own h) (accept-shaped (parts_of o) new k.shape) e

waits-refused : (a : Accepted) (x : Refusal) → waits a ≡ Err x → x ≡ refusal_of FilesGoBack
unfolding waits
waits-refused (wait ps) x e = absurd (refused_not_ok (sym e))
waits-refused (finish old ps) x e = absurd (refused_not_ok (sym e))
waits-refused back x e = one-refusal (refuse FilesGoBack) x (refusal_of FilesGoBack) e refl

-- files that go back are 8
pub accept-refused : (new : Part) (o : Option (List Part)) (x : Refusal) → accept_part new o ≡ Err x → x ≡ refusal_of FilesGoBack
unfolding accept_part
accept-refused new o x e = waits-refused (accept (parts_of o) new) x e

pub own-reverse : (g : ℕ) (ps : List Part) → own_parts g ps ≡ true → every (λ (p : Part). own_items g p.items) (reverse ps) ≡ true
own-reverse g [] h = unfold every in refl
own-reverse g (p ∷ ps) h =
    ap (every (λ (p : Part). own_items g p.items)) (reverse-cons p ps)
    ∙ every_append (λ (p : Part). own_items g p.items) (reverse ps) (p ∷ [])
    ∙ both (own-reverse g ps (own-tail g p ps h)) (every-cons (λ (p : Part). own_items g p.items) p [] (own-head g p ps h) (unfold every in refl))

shaped-some : (ps : List Part) → shaped ps ≡ true → Shaped ps
unfolding Shaped shaped
shaped-some [] h = tt
shaped-some (p ∷ ps) h = h

filled-some : (ps : List Part) → shaped ps ≡ true → some_parts (parts_of (Some ps)) ≡ Some ps
unfolding shaped some_parts parts_of or_else
filled-some [] h = absurd (false≢true h)
filled-some (p ∷ ps) h = refl

kept-none : (g : ℕ) → PartsKept g None
unfolding parts_of or_else Shaped some_parts
kept-none g = record { own = own-nil g; shape = tt; filled = refl }

kept-parts : (g : ℕ) (ps : List Part) → own_parts g ps ≡ true → shaped ps ≡ true → PartsKept g (Some ps)
kept-parts g ps h s = record { own = unfold parts_of or_else in h; shape = unfold parts_of or_else in shaped-some ps s; filled = filled-some ps s }

-- the group's own parts, given by their tests
pub kept_if : (g : ℕ) (o : Option (List Part)) → ((ps : List Part) → o ≡ Some ps → own_parts g ps ≡ true) → ((ps : List Part) → o ≡ Some ps → shaped ps ≡ true) → PartsKept g o
kept_if g None h s = kept-none g
kept_if g (Some ps) h s = kept-parts g ps (h ps refl) (s ps refl)

some-shaped : (ps : List Part) → Shaped ps → some_parts ps ≡ Some ps → shaped ps ≡ true
unfolding Shaped some_parts
some-shaped [] s e = absurd (none-some [] e)
some-shaped (p ∷ ps) s e = s

pub kept-own : (g : ℕ) (ps : List Part) → PartsKept g (Some ps) → own_parts g ps ≡ true
unfolding parts_of or_else
kept-own g ps k = k.own

pub kept-shaped : (g : ℕ) (ps : List Part) → PartsKept g (Some ps) → shaped ps ≡ true
unfolding parts_of or_else
kept-shaped g ps k = some-shaped ps k.shape k.filled
