-- Accepted parts: one after the other, and that they add no more than they have. Assumes nothing.
use Rattle.std.specs.Prelude.{cond, ◌≡◌, leb, Option, None, Some}
use mathlib.Core.List.{List, [], ◌∷◌, ◌++◌, reverse, reverse-cons}
use Rattle.std.proofs.Math.Path.{refl, sym, ap}
use Rattle.std.proofs.Common.{◌∙◌, arith}
use Prim.Native.Nat.{ℕ, ◌+◌, ◌≤◌}
use Rattle.std.proofs.Math.ListN.{length, length-append}
use Rattle.maps.specs.Lists.{sum, or_else}
use Rattle.maps.specs.ListLaws.{sum-append}
use Rattle.maps.specs.Maps.{Pair, Map, lookup, store, numbers}
use Rattle.maps.specs.MapLaws.{pair, Ascending, lookup-store_same, store-store, sum-store, length-insert-most, length-remove-le}
use Rattle.maps.specs.OrderLaws.{split, numbers_lawful}
use Rattle.rules.specs.Causes.{Refusal, Result, Ok, Err, and_then, in_order}
use Rattle.rules.specs.Items.{LogItem, Status, begin, middle, end}
use Rattle.rules.specs.Context.{Part, entries_in}
use Rattle.rules.specs.Waiting.{Accepted, wait, finish, back, joined, accept_by, accept, some_parts}
use Rattle.rules_by_group.specs.Group.{parts_of, waits, accept_part}
use Rattle.rules_by_group.specs.Stage.{accept_parts_of}
use Rattle.rules_by_group.proofs.ResultLaws.{ok_inj, refused_not_ok, and_then_ok, and_then_of, and_then-refused, and_then_same, and_then-unit}
use Rattle.rules_by_group.proofs.WaitingLaws.{after_is}
use Rattle.room.specs.Rooms.{item_count, entry_count, waiting_items, waiting_entries}
use Rattle.room.specs.Batches.{counts_for}
use Rattle.room.specs.Layout.{waiting_of}
use Rattle.waiting.specs.Merges.{RoomFor}
use Rattle.parts.specs.Takings.{RoomForAll}

-- ---- the parts of a group, one after the other

module _ (g : ℕ) (w : Map ℕ (List Part)) where
  abbrev before : Option (List Part)
  before = lookup numbers g w

  one-in-order : (p : Part) (o : Option (List Part)) → in_order accept_part (p ∷ []) o ≡ accept_part p o
  unfolding in_order
  one-in-order p o = and_then_same (accept_part p o) (in_order accept_part []) (λ q. Ok q) (λ q. refl) ∙ and_then-unit (accept_part p o)

  one-is : (p : Part) → accept_parts_of (pair g (p ∷ [])) w ≡ and_then (accept_part p before) (λ o. Ok (store numbers g o w))
  unfolding accept_parts_of
  one-is p = ap (λ (r : Result (Option (List Part))). and_then r (λ o. Ok (store numbers g o w))) (one-in-order p before)

  pub one-taken : (p : Part) (o : Option (List Part)) → accept_part p before ≡ Ok o → accept_parts_of (pair g (p ∷ [])) w ≡ Ok (store numbers g o w)
  one-taken p o e = one-is p ∙ and_then_of (accept_part p before) (λ q. Ok (store numbers g q w)) o e

  pub one-refused : (p : Part) (x : Refusal) → accept_part p before ≡ Err x → accept_parts_of (pair g (p ∷ [])) w ≡ Err x
  one-refused p x e = one-is p ∙ and_then-refused (accept_part p before) (λ q. Ok (store numbers g q w)) x e

  module _ (p old : Part) where
    two_is : accept_parts_of (pair g (p ∷ old ∷ [])) w ≡ and_then (and_then (accept_part old before) (in_order accept_part (p ∷ []))) (λ o. Ok (store numbers g o w))
    unfolding accept_parts_of in_order
    two_is = refl

    pub two-refused : (x : Refusal) → accept_part old before ≡ Err x → accept_parts_of (pair g (p ∷ old ∷ [])) w ≡ Err x
    two-refused x e =
        two_is
        ∙ and_then-refused (and_then (accept_part old before) (in_order accept_part (p ∷ []))) (λ o. Ok (store numbers g o w)) x (and_then-refused (accept_part old before) (in_order accept_part (p ∷ [])) x e)

    -- the older part is stored, and then the newer one accepted
    pub two-taken : Ascending numbers w → (o : Option (List Part)) → accept_part old before ≡ Ok o → accept_parts_of (pair g (p ∷ old ∷ [])) w ≡ accept_parts_of (pair g (p ∷ [])) (store numbers g o w)
    unfolding accept_parts_of
    two-taken up o e =
        two_is
        ∙ ap (λ (r : Result (Option (List Part))). and_then r (λ q. Ok (store numbers g q w))) (and_then_of (accept_part old before) (in_order accept_part (p ∷ [])) o e)
        ∙ and_then_same (in_order accept_part (p ∷ []) o) (λ q. Ok (store numbers g q w)) (λ q. Ok (store numbers g q (store numbers g o w))) (λ q. ap (λ (m : Map ℕ (List Part)). Ok m) (sym (store-store numbers numbers_lawful g q o w up)))
        ∙ ap (λ (x : Option (List Part)). and_then (in_order accept_part (p ∷ []) x) (λ q. Ok (store numbers g q (store numbers g o w)))) (sym (lookup-store_same numbers numbers_lawful g o w up))

-- ---- a count of items, by the count of a list

module _ (size : List LogItem → ℕ) where
  unfoldable total : List Part → ℕ
  total ps = sum (λ (p : Part). size p.items) ps

  abbrev total_of : Option (List Part) → ℕ
  total_of o = or_else 0 total o

  abbrev total_in : Map ℕ (List Part) → ℕ
  total_in w = sum (λ (x : Pair ℕ (List Part)). total x.val) w

  total-nil : total [] ≡ 0
  unfolding total sum
  total-nil = refl

  total-cons : (p : Part) (ps : List Part) → total (p ∷ ps) ≡ size p.items + total ps
  unfolding total sum
  total-cons p ps = refl

  total-some : (ps : List Part) → total_of (some_parts ps) ≡ total ps
  unfolding or_else some_parts
  total-some [] = sym total-nil
  total-some (p ∷ ps) = refl

  total-parts : (o : Option (List Part)) → total (parts_of o) ≡ total_of o
  unfolding parts_of or_else
  total-parts None = total-nil
  total-parts (Some ps) = refl

  total-reverse : (ps : List Part) → total (reverse ps) ≡ total ps
  total-reverse [] = refl
  total-reverse (p ∷ ps) =
      let a : total (reverse ps ++ (p ∷ [])) ≡ total (reverse ps) + total (p ∷ []) = unfold total in sum-append (λ (q : Part). size q.items) (reverse ps) (p ∷ []) in
      let b = total-cons p [] in
      let c = total-cons p ps in
      let n = total-nil in
      let ih = total-reverse ps in
      ap total (reverse-cons p ps) ∙ a ∙ omega (arith, b, c, n, ih)

  module _ (append : (xs ys : List LogItem) → size (xs ++ ys) ≡ size xs + size ys) where
    -- what waits afterwards counts no more than n
    unfoldable Most : ℕ → Accepted → Type 0
    Most n (wait ps) = total ps ≤ n
    Most n (finish old ps) = total ps ≤ n
    Most n back = Unit {0}

    module _ (old new : Part) (ps : List Part) where
      abbrev all : ℕ
      all = total (old ∷ ps) + size new.items

      both_most : (s : Status) → total (record { status = s; items = old.items ++ new.items; start = old.start; end = new.end } ∷ ps) ≤ all
      both_most s =
          let a = total-cons (record { status = s; items = old.items ++ new.items; start = old.start; end = new.end }) ps in
          let b = append old.items new.items in
          let c = total-cons old ps in
          omega (arith, a, b, c)

      joined-most : (s : Status) → Most all (joined s old new ps)
      unfolding joined Most
      joined-most s =
          split (leb old.end new.start)
          (λ e. rw e (both_most s))
          (λ e. rw e tt)

      finish-most : Most all (cond (leb old.end new.start) (finish old ps) back)
      unfolding Most
      finish-most =
          let c = total-cons old ps in
          split (leb old.end new.start)
          (λ e. rw e (omega (arith, c)))
          (λ e. rw e tt)

      new-most : total (new ∷ ps) ≤ all
      new-most = let a = total-cons new ps in let c = total-cons old ps in omega (arith, a, c)

      front-most : total (new ∷ old ∷ ps) ≤ all
      front-most = let a = total-cons new (old ∷ ps) in omega (arith, a)

      old-most : total (old ∷ ps) ≤ all
      old-most = omega arith

      by_most : (s r : Status) → Most all (accept_by s r old new ps)
      unfolding accept_by
      by_most begin begin = unfold Most in new-most
      by_most middle begin = unfold Most in new-most
      by_most end begin = unfold Most in front-most
      by_most begin middle = joined-most begin
      by_most middle middle = joined-most middle
      by_most end middle = unfold Most in old-most
      by_most begin end = finish-most
      by_most middle end = joined-most end
      by_most end end = unfold Most in old-most

    accept-most : (ps : List Part) (new : Part) → Most (total ps + size new.items) (accept ps new)
    unfolding accept
    accept-most [] new = let a = total-cons new [] in let n = total-nil in unfold Most in omega (arith, a, n)
    accept-most (p ∷ ps) new = by_most p new ps p.status new.status

    waits-most : (n : ℕ) (a : Accepted) (o : Option (List Part)) → Most n a → waits a ≡ Ok o → total_of o ≤ n
    unfolding waits Most
    waits-most n (wait ps) o h e = let t = total-some ps in rw (← (ok_inj e)) (omega (arith, t, h))
    waits-most n (finish old ps) o h e = let t = total-some ps in rw (← (ok_inj e)) (omega (arith, t, h))
    waits-most n back o h e = absurd (refused_not_ok e)

    part-most : (new : Part) (o q : Option (List Part)) → accept_part new o ≡ Ok q → total_of q ≤ total_of o + size new.items
    unfolding accept_part
    part-most new o q e = rw (← (total-parts o)) (waits-most (total (parts_of o) + size new.items) (accept (parts_of o) new) q (accept-most (parts_of o) new) e)

    parts-most : (ps : List Part) (o q : Option (List Part)) → in_order accept_part ps o ≡ Ok q → total_of q ≤ total_of o + total ps
    unfolding in_order
    parts-most [] o q e = rw (← (ok_inj e)) (omega arith)
    parts-most (p ∷ ps) o q e =
        let s = and_then_ok (accept_part p o) (in_order accept_part ps) q e in
        let a = part-most p o s.0 s.1 in
        let b = parts-most ps s.0 q s.2 in
        let c = total-cons p ps in
        omega (arith, a, b, c)

    -- what waits after a group's newer parts
    after-most : (x : Pair ℕ (List Part)) (w v : Map ℕ (List Part)) → Ascending numbers w → accept_parts_of x w ≡ Ok v → total_in v ≤ total_in w + total x.val
    after-most x w v up e =
        let s = after_is x w v e in
        let a = parts-most (reverse x.val) (lookup numbers x.key w) s.0 s.1 in
        let b = total-reverse x.val in
        let c = sum-store numbers numbers_lawful (λ (y : Pair ℕ (List Part)). total y.val) x.key s.0 w up in
        rw s.2 (omega (arith, a, b, c))

-- ---- the counts of what waits

items-are : (w : Map ℕ (List Part)) → waiting_items w ≡ total_in length w
unfolding waiting_items item_count total
items-are w = refl

entries-are : (w : Map ℕ (List Part)) → waiting_entries w ≡ total_in (sum entries_in) w
unfolding waiting_entries entry_count total
entries-are w = refl

groups-most : (g : ℕ) (o : Option (List Part)) (w : Map ℕ (List Part)) → length (store numbers g o w) ≤ length w + 1
unfolding store
groups-most g None w = let l = length-remove-le numbers numbers_lawful g w in omega (arith, l)
groups-most g (Some ps) w = let l = length-insert-most numbers numbers_lawful g ps w in omega (arith, l)

-- a group with no parts afterwards has no cell
groups-left : (g : ℕ) (o : Option (List Part)) (w : Map ℕ (List Part)) → Ascending numbers w → lookup numbers g (store numbers g o w) ≡ None → length (store numbers g o w) ≤ length w
unfolding store
groups-left g o w up e = rw (sym (lookup-store_same numbers numbers_lawful g o w up) ∙ e) (length-remove-le numbers numbers_lawful g w)

-- ---- there is room

module _ (x : Pair ℕ (List Part)) (more w : Map ℕ (List Part)) where
  items-cons : waiting_items (x ∷ more) ≡ total length x.val + waiting_items more
  unfolding waiting_items item_count total sum
  items-cons = refl

  entries-cons : waiting_entries (x ∷ more) ≡ total (sum entries_in) x.val + waiting_entries more
  unfolding waiting_entries entry_count total sum
  entries-cons = refl

  pub room_here : RoomForAll (x ∷ more) w → RoomForAll (x ∷ []) w
  unfolding waiting_items waiting_entries sum
  room_here r =
      let a = r.groups in
      let b = r.items in
      let c = r.entries in
      record { groups = omega (arith, a); items = omega (arith, b); entries = omega (arith, c) }

  -- the group's parts are accepted, and there is room for the others
  pub room_next : Ascending numbers w → (v : Map ℕ (List Part)) → accept_parts_of x w ≡ Ok v → RoomForAll (x ∷ more) w → RoomForAll more v
  room_next up v e r =
      let s = after_is x w v e in
      let n : length v ≤ length w + 1 = rw s.2 (groups-most x.key s.0 w) in
      let i = after-most length length-append x w v up e in
      let k = after-most (sum entries_in) (sum-append entries_in) x w v up e in
      let a = r.groups in
      let b = r.items in
      let c = r.entries in
      let p = items-cons in
      let q = entries-cons in
      let iw = items-are w in
      let iv = items-are v in
      let ew = entries-are w in
      let ev = entries-are v in
      record { groups = omega (arith, a, n); items = omega (arith, b, i, p, iw, iv); entries = omega (arith, c, k, q, ew, ev) }

-- for the only part of a group
pub room-one : (g : ℕ) (p : Part) (ws vs : List ℕ) → RoomForAll (pair g (p ∷ []) ∷ []) (waiting_of ws vs) → RoomFor g p.items ws vs
unfolding waiting_items waiting_entries item_count entry_count counts_for sum
room-one g p ws vs r =
    let a = r.groups in
    let b = r.items in
    let c = r.entries in
    record { groups = λ e. omega (arith, a); items = omega (arith, b); entries = omega (arith, c) }

-- for the older of two parts, and then for the newer one
module _ (g : ℕ) (p old : Part) (ws vs : List ℕ) (r : RoomForAll (pair g (p ∷ old ∷ []) ∷ []) (waiting_of ws vs)) where
  pub room-older : RoomFor g old.items ws vs
  unfolding waiting_items waiting_entries item_count entry_count counts_for sum
  room-older =
      let a = r.groups in
      let b = r.items in
      let c = r.entries in
      record { groups = λ e. omega (arith, a); items = omega (arith, b); entries = omega (arith, c) }

  pub room-newer : Ascending numbers (waiting_of ws vs) → (ws' vs' : List ℕ) → accept_parts_of (pair g (old ∷ [])) (waiting_of ws vs) ≡ Ok (waiting_of ws' vs') → RoomFor g p.items ws' vs'
  unfolding waiting_items waiting_entries item_count entry_count counts_for sum total
  room-newer up ws' vs' e =
      let w = waiting_of ws vs in
      let v = waiting_of ws' vs' in
      let x = pair g (old ∷ []) in
      let s = after_is x w v e in
      let n : lookup numbers g v ≡ None → length v ≤ length w = λ z. rw s.2 (groups-left g s.0 w up (rw s.2 at z)) in
      let i = after-most length length-append x w v up e in
      let k = after-most (sum entries_in) (sum-append entries_in) x w v up e in
      let a = r.groups in
      let b = r.items in
      let c = r.entries in
      record { groups = λ z. let m = n z in omega (arith, a, m); items = omega (arith, b, i); entries = omega (arith, c, k) }
