-- The counts by which the limits are judged. Assumes nothing.
use mathlib.Core.Bool.{cond}
use mathlib.Core.List.{List}
use mathlib.Core.Path.{◌≡◌, refl, ◌∙◌}
use Prim.Native.Nat.{ℕ, suc, ◌+◌, ◌-◌, ◌*◌, ◌≤◌, ◌<◌}
use native.Mathlib.Nat.{add-zero}
use native.Mathlib.Numerals.{add-one}
use native.Mathlib.Omega.{arith}
use lib.Dec.{eqb}
use lib.ListN.{get_or}
use borrow.Author.Tests.{ne_eqb}
use Rattle.cells.specs.Part.{part}
use Rattle.stores.specs.declared.Store.{Store}
use Rattle.stores.specs.Stores.{entries_before}
use Rattle.stores.specs.Tags.{count_tag}
use Rattle.stores.specs.CountLaws.{count_below}
use Rattle.room.specs.Rooms.{head_at, count_in}
use Rattle.room.specs.HeadLaws.{head_number}
use Rattle.waiting.specs.Forms.{used_from}

-- ---- cells in use

abbrev used_at : ℕ → List ℕ → ℕ
used_at k hs = cond (eqb (count_in (head_at k hs)) 0) 0 1

module _ (n : ℕ) (ws : List ℕ) (k : ℕ) (l : k < n) where
  count_of : count_in (head_at k (part 2 (n * 10) ws)) ≡ get_or ws (2 + k * 10) 0
  unfolding count_in
  count_of = head_number n ws k 0 l (omega arith) ∙ rw (add-zero (2 + k * 10))

  pub used_none : get_or ws (2 + k * 10) 0 ≡ 0 → 0 ≡ used_at k (part 2 (n * 10) ws)
  used_none e = rw (count_of, e)

  pub used_some : (get_or ws (2 + k * 10) 0 ≡ 0 → ⊥) → 1 ≡ used_at k (part 2 (n * 10) ws)
  used_some d = rw (count_of, ne_eqb (get_or ws (2 + k * 10) 0) 0 d)

-- the first k of n cells are counted
pub record Using (n : ℕ) (hs : List ℕ) (used k : ℕ) : Type 0 where
  pub rest : used + used_from (n - k) k hs ≡ used_from n 0 hs
  pub few : used ≤ k
  pub most : k ≤ n

from_here : (m k : ℕ) (hs : List ℕ) → used_from (suc m) k hs ≡ used_at k hs + used_from m (suc k) hs
unfolding used_from
from_here m k hs = refl

pub using_more : (n : ℕ) (hs : List ℕ) (used k c : ℕ) → k < n → c ≡ used_at k hs → c ≤ 1 → Using n hs used k → Using n hs (used + c) (k + 1)
using_more n hs used k c l e b u =
    let m : n - k ≡ suc (n - (k + 1)) = omega arith in
    let f = rw m at u.rest in
    let h = from_here (n - (k + 1)) k hs in
    let few = u.few in
    record { rest = rw (add-one k) (omega (arith, rw (add-one k) at h, rw (add-one k) at f)); few = omega arith; most = omega arith }

-- ---- the items of a tag

module _ (s c : Store) (tag : ℕ) (items tags : List ℕ) (e : c ≡ count_tag tag s.items items tags) (t : entries_before s.items items ≡ s.entries) where
  pub counted_below : (c.items ≤ s.items) × (c.entries ≤ s.entries)
  counted_below =
      let b = count_below tag s.items items tags in
      rw e (b.0, rw t at b.1)

  pub counted-left : (told : ℕ) → told ≡ tag → (s.items - c.items + (count_tag told s.items items tags).items ≡ s.items) × (s.entries - c.entries + (count_tag told s.items items tags).entries ≡ s.entries)
  counted-left told x =
      let b = counted_below in
      let b0 = b.0 in
      let b1 = b.1 in
      rw (x, ← e) (omega arith, omega arith)
