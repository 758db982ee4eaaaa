-- What waits after the newest part of a cell is changed. Assumes nothing.
use Rattle.std.specs.Prelude.{List, [], ◌∷◌, ◌++◌, map, ◌≡◌, ℕ, ◌+◌, ◌-◌, ◌*◌, ◌/◌, ◌≤◌, ◌<◌, eqb, length, get_or}
use Rattle.std.proofs.lemmas.List.{map-append}
use Rattle.std.proofs.Common.{append-nil, sym, ap, ◌∙◌, eq-eqb, ne_eqb, eqb-true}
use Rattle.std.specs.Prelude.{None, Some}
use Rattle.std.proofs.Math.Path.{refl}
use native.Mathlib.Omega.{arith}
use Rattle.std.proofs.lemmas.Bool.{eqb-false}
use Rattle.cells.specs.Part.{put}
use Rattle.maps.specs.Lists.{select, sum}
use Rattle.maps.specs.ListLaws.{select-append}
use Rattle.maps.specs.Maps.{lookup, numbers}
use Rattle.maps.specs.MapLaws.{pair}
use Rattle.maps.specs.OrderLaws.{split}
use Rattle.rules.specs.Items as rules
use Rattle.rules.specs.Items.{status_of}
use Rattle.rules.specs.Context.{Part}
use Rattle.stores.specs.declared.Store.{Store}
use Rattle.stores.specs.Stores.{Stored}
use Rattle.stores.specs.Tags.{Tagged, has_tag, items_with}
use Rattle.room.specs.Rooms.{Room, area_in, items_in, head_at, count_in, group_in, newest_tag, older_tag, newest, older, parts_of, cell_of, cell_count, waiting_in, item_count, entry_count, Tag, first_tag, other_tag, NoPart, OnePart, TwoParts, Counted, CellWf, Wf}
use Rattle.room.specs.Batches.{counts_for, tag_with}
use Rattle.room.specs.RoomLaws.{free-cell}
use Rattle.room.specs.Changes.{OnlyCell, Became}
use Rattle.room.specs.ChangeLaws.{other_tag_lem, first-came, others-came, all_left}
use Rattle.room.specs.Parts.{first_head, front_head, renewed_head, left_head, WroteIn}

-- ---- items of a tag behind others

pub with_append : (t : ℕ) (xs ys : List Tagged) → items_with t (xs ++ ys) ≡ items_with t xs ++ items_with t ys
unfolding items_with
with_append t xs ys = rw (select-append (has_tag t) xs ys) (map-append (λ (x : Tagged). x.item) (select (has_tag t) xs) (select (has_tag t) ys))

all_with : (t : ℕ) (its : List rules.LogItem) → items_with t (map (tag_with t) its) ≡ its
unfolding items_with select has_tag
all_with t [] = refl
all_with t (x ∷ xs) = rw (eq-eqb t t refl) (ap (◌∷◌ x) (all_with t xs))

none_with : (u t : ℕ) (its : List rules.LogItem) → (u ≡ t → ⊥) → items_with u (map (tag_with t) its) ≡ []
unfolding items_with select has_tag
none_with u t [] d = refl
none_with u t (x ∷ xs) d = rw (ne_eqb t u (λ e. d (sym e))) (none_with u t xs d)

module _ (t : ℕ) (xs : List Tagged) (its : List rules.LogItem) where
  pub tag-more : items_with t (xs ++ map (tag_with t) its) ≡ items_with t xs ++ its
  tag-more = with_append t xs (map (tag_with t) its) ∙ ap (λ (l : List rules.LogItem). items_with t xs ++ l) (all_with t its)

  pub tag-other : (u : ℕ) → (u ≡ t → ⊥) → items_with u (xs ++ map (tag_with t) its) ≡ items_with u xs
  tag-other u d =
      with_append u xs (map (tag_with t) its) ∙ ap (λ (l : List rules.LogItem). items_with u xs ++ l) (none_with u t its d) ∙ append-nil (items_with u xs)

-- ---- counts of parts

abbrev part : ℕ → List rules.LogItem → ℕ → ℕ → Part
part status its start last = record { status = status_of status; items = its; start = start; end = last }

pub counts-cons : (p : Part) (ps : List Part) → (item_count (p ∷ ps) ≡ (counts_for p.items).items + item_count ps) × (entry_count (p ∷ ps) ≡ (counts_for p.items).entries + entry_count ps)
unfolding item_count entry_count counts_for sum
counts-cons p ps = (refl, refl)

pub counts-nil : (item_count [] ≡ 0) × (entry_count [] ≡ 0)
unfolding item_count entry_count sum
counts-nil = (refl, refl)

-- ---- the cells that are written

first_cell : (k g status start last : ℕ) (xs : List Tagged) → cell_of (first_head k g status start last) xs ≡ Some (pair g (part status (items_with (first_tag k) xs) start last ∷ []))
unfolding cell_of parts_of newest older count_in group_in newest_tag older_tag first_head
first_cell k g status start last xs = refl

front-cell : (k status start last : ℕ) (h : List ℕ) (xs : List Tagged) → cell_of (front_head k status start last h) xs ≡ Some (pair (group_in h) (part status (items_with (other_tag k (newest_tag h)) xs) start last ∷ newest h xs ∷ []))
unfolding cell_of parts_of newest older count_in group_in newest_tag older_tag front_head
front-cell k status start last h xs = refl

-- ---- a cell with parts, by its number of parts

pub one_cell : (h : List ℕ) (xs : List Tagged) → count_in h ≡ 1 → cell_of h xs ≡ Some (pair (group_in h) (newest h xs ∷ []))
unfolding cell_of parts_of
one_cell h xs e = rw e

pub two-cell : (h : List ℕ) (xs : List Tagged) → count_in h ≡ 2 → cell_of h xs ≡ Some (pair (group_in h) (newest h xs ∷ older h xs ∷ []))
unfolding cell_of parts_of
two-cell h xs e = rw e

module _ (status start last : ℕ) (h : List ℕ) where
  abbrev again : List ℕ
  again = renewed_head status start last h

  renewed-count : (count_in again ≡ count_in h) × (group_in again ≡ group_in h) × (newest_tag again ≡ newest_tag h) × (older_tag again ≡ older_tag h) × (length again ≡ 10) × (get_or again 3 0 ≡ status) × (get_or again 7 0 ≡ get_or h 7 0)
  unfolding count_in group_in newest_tag older_tag renewed_head
  renewed-count = (refl, refl, refl, refl, refl, refl, refl)

  renewed-newest : (xs : List Tagged) → newest again xs ≡ part status (items_with (newest_tag h) xs) start last
  unfolding newest newest_tag renewed_head
  renewed-newest xs = refl

  renewed-older : (xs : List Tagged) → older again xs ≡ older h xs
  unfolding older older_tag renewed_head
  renewed-older xs = refl

-- ---- writes

module _ (k : ℕ) (h : List ℕ) (tag : ℕ) (its : List rules.LogItem) (s : Store) (r : Room) (t : Store) (q : Room) (w : Wf s r) (o : WroteIn k h tag its s r t q) where
  pub wrote-only : length h ≡ 10 → Tag k tag → CellWf k h (items_in t q) → OnlyCell k h s r t q
  wrote-only e a c =
      let x = o.tags in
      let y = o.rows in
      let z = w.tags-are in
      record {
        heads = o.heads;
        width = e;
        sized = rw (x, y) z;
        stored = o.stored;
        others = λ u d. rw o.items (tag-other tag (items_in s r) its u (λ v. d (rw v a)));
        cell = c;
      }

-- the first part of a group
module _ (k g status start last : ℕ) (its : List rules.LogItem) (s : Store) (r : Room) (t : Store) (q : Room) (w : Wf s r) (l : k < cell_count r.heads) (z : count_in (head_at k r.heads) ≡ 0) (o : WroteIn k (first_head k g status start last) (first_tag k) its s r t q) where
  free-before : NoPart k (items_in s r)
  unfolding CellWf Counted
  free-before = rw z at (w.cells k l)

  first-items : items_with (first_tag k) (items_in t q) ≡ its
  first-items = rw o.items (tag-more (first_tag k) (items_in s r) its ∙ ap (λ (m : List rules.LogItem). m ++ its) (free-before.free (first_tag k) (record { from = omega arith; to = omega arith })))

  first-free : items_with (other_tag k (first_tag k)) (items_in t q) ≡ []
  first-free =
      rw o.items
      (tag-other (first_tag k) (items_in s r) its (other_tag k (first_tag k)) (λ v. omega arith)
      ∙ free-before.free (other_tag k (first_tag k)) (other_tag_lem k (first_tag k) (record { from = omega arith; to = omega arith })))

  first_wf : CellWf k (first_head k g status start last) (items_in t q)
  unfolding CellWf Counted first_head count_in newest_tag
  first_wf = record { tag = record { from = omega arith; to = omega arith }; free = first-free }

  first-length : length (first_head k g status start last) ≡ 10
  unfolding first_head
  first-length = refl

  pub first-waits : lookup numbers g (waiting_in s r) ≡ None → Became g (Some (part status its start last ∷ [])) s r t q
  first-waits n =
      let c = counts-cons (part status its start last) [] in
      let c0 = c.0 in
      let c1 = c.1 in
      let d = counts-nil in
      let d0 = d.0 in
      let d1 = d.1 in
      let x = o.count in
      let y = o.total in
      first-came k (first_head k g status start last) s r t q w l
      (wrote-only k (first_head k g status start last) (first_tag k) its s r t q w o first-length (record { from = omega arith; to = omega arith }) first_wf)
      g (part status its start last ∷ []) z n
      (first_cell k g status start last (items_in t q) ∙ ap (λ (m : List rules.LogItem). Some (pair g (part status m start last ∷ []))) first-items)
      (omega arith) (omega arith)

-- one more part in front of an End
module _ (k start last : ℕ) (its : List rules.LogItem) (s : Store) (r : Room) (t : Store) (q : Room) (w : Wf s r) (l : k < cell_count r.heads) (z : count_in (head_at k r.heads) ≡ 1) (ends : 2 ≤ get_or (head_at k r.heads) 3 0) (o : WroteIn k (front_head k 0 start last (head_at k r.heads)) (other_tag k (newest_tag (head_at k r.heads))) its s r t q) where
  abbrev h : List ℕ
  h = head_at k r.heads

  one-before : OnePart k h (items_in s r)
  unfolding CellWf Counted
  one-before = rw z at (w.cells k l)

  front_items : items_with (other_tag k (newest_tag h)) (items_in t q) ≡ its
  front_items = rw o.items (tag-more (other_tag k (newest_tag h)) (items_in s r) its ∙ ap (λ (m : List rules.LogItem). m ++ its) one-before.free)

  front-older : newest h (items_in t q) ≡ newest h (items_in s r)
  unfolding newest
  front-older =
      let a = one-before.tag in
      let x = a.from in
      let y = a.to in
      rw o.items (rw (tag-other (other_tag k (newest_tag h)) (items_in s r) its (newest_tag h) (λ v. omega arith)))

  front_wf : CellWf k (front_head k 0 start last h) (items_in t q)
  unfolding CellWf Counted front_head count_in newest_tag older_tag
  front_wf =
      let a = one-before.tag in
      let x = a.from in
      let y = a.to in
      record { tag = record { from = omega arith; to = omega arith }; other = omega arith; begins = refl; ends = ends }

  front_length : length (front_head k 0 start last h) ≡ 10
  unfolding front_head
  front_length = refl

  pub front-waits : Became (group_in h) (Some (part 0 its start last ∷ newest h (items_in s r) ∷ [])) s r t q
  front-waits =
      let new = part 0 its start last in
      let old = newest h (items_in s r) in
      let c = counts-cons new (old ∷ []) in
      let c0 = c.0 in
      let c1 = c.1 in
      let x = o.count in
      let y = o.total in
      others-came k (front_head k 0 start last h) s r t q w l
      (wrote-only k (front_head k 0 start last h) (other_tag k (newest_tag h)) its s r t q w o front_length (other_tag_lem k (newest_tag h) one-before.tag) front_wf)
      (group_in h) (old ∷ []) (one_cell h (items_in s r) z) (new ∷ old ∷ [])
      (front-cell k 0 start last h (items_in t q) ∙ rw (front_items, front-older))
      (omega arith) (omega arith)

-- ---- the newest part is changed

-- cell k gets head h; of its items those with its tag alone change, and are its afterwards
pub record Retagged (k : ℕ) (h : List ℕ) (tag : ℕ) (its : List rules.LogItem) (s : Store) (r : Room) (t : Store) (q : Room) : Type 0 where
  pub heads : q.heads ≡ put r.heads (k * 10) h
  pub sized : length q.tags ≡ length q.items / 9
  pub stored : Stored t (area_in q)
  pub others : (u : ℕ) → (u ≡ tag → ⊥) → items_with u (items_in t q) ≡ items_with u (items_in s r)
  pub mine : items_with tag (items_in t q) ≡ its
  pub count : t.items + (counts_for (items_with tag (items_in s r))).items ≡ (counts_for its).items + s.items
  pub total : t.entries + (counts_for (items_with tag (items_in s r))).entries ≡ (counts_for its).entries + s.entries

retagged-only : (k : ℕ) (h : List ℕ) (tag : ℕ) (its : List rules.LogItem) (s : Store) (r : Room) (t : Store) (q : Room) → Retagged k h tag its s r t q → length h ≡ 10 → Tag k tag → CellWf k h (items_in t q) → OnlyCell k h s r t q
retagged-only k h tag its s r t q o e a c =
    record { heads = o.heads; width = e; sized = o.sized; stored = o.stored; others = λ u d. o.others u (λ v. d (rw v a)); cell = c }

no_wf : (k : ℕ) (h : List ℕ) (xs : List Tagged) → count_in h ≡ 0 → NoPart k xs → CellWf k h xs
unfolding CellWf Counted
no_wf k h xs z w = rw z w

one_wf : (k : ℕ) (h : List ℕ) (xs : List Tagged) → count_in h ≡ 1 → OnePart k h xs → CellWf k h xs
unfolding CellWf Counted
one_wf k h xs z w = rw z w

two_wf : (k : ℕ) (h : List ℕ) (xs : List Tagged) → count_in h ≡ 2 → TwoParts k h → CellWf k h xs
unfolding CellWf Counted
two_wf k h xs z w = rw z w

pub one-part : (k : ℕ) (h : List ℕ) (xs : List Tagged) → count_in h ≡ 1 → CellWf k h xs → OnePart k h xs
unfolding CellWf Counted
one-part k h xs z w = rw z at w

pub two-parts : (k : ℕ) (h : List ℕ) (xs : List Tagged) → count_in h ≡ 2 → CellWf k h xs → TwoParts k h
unfolding CellWf Counted
two-parts k h xs z w = rw z at w

older_with : (h : List ℕ) (xs ys : List Tagged) → items_with (older_tag h) ys ≡ items_with (older_tag h) xs → older h ys ≡ older h xs
unfolding older
older_with h xs ys e = rw e

newest-items : (h : List ℕ) (xs : List Tagged) → (newest h xs).items ≡ items_with (newest_tag h) xs
unfolding newest
newest-items h xs = refl

counts-newest : (h : List ℕ) (xs : List Tagged) (ps : List Part) → (item_count (newest h xs ∷ ps) ≡ (counts_for (items_with (newest_tag h) xs)).items + item_count ps) × (entry_count (newest h xs ∷ ps) ≡ (counts_for (items_with (newest_tag h) xs)).entries + entry_count ps)
counts-newest h xs ps =
    let a = counts-cons (newest h xs) ps in
    let e = newest-items h xs in
    (a.0 ∙ ap (λ (l : List rules.LogItem). (counts_for l).items + item_count ps) e, a.1 ∙ ap (λ (l : List rules.LogItem). (counts_for l).entries + entry_count ps) e)

module _ (k status start last : ℕ) (its : List rules.LogItem) (s : Store) (r : Room) (t : Store) (q : Room) (w : Wf s r) (l : k < cell_count r.heads) (o : Retagged k (renewed_head status start last (head_at k r.heads)) (newest_tag (head_at k r.heads)) its s r t q) where
  abbrev head : List ℕ
  head = head_at k r.heads

  abbrev renewed : List ℕ
  renewed = renewed_head status start last head

  renewed-items : newest renewed (items_in t q) ≡ part status its start last
  renewed-items = renewed-newest status start last head (items_in t q) ∙ ap (λ (m : List rules.LogItem). part status m start last) o.mine

  module _ (ps : List Part) where
    renewed-counts : (t.items + item_count (newest head (items_in s r) ∷ ps) ≡ item_count (part status its start last ∷ ps) + s.items) × (t.entries + entry_count (newest head (items_in s r) ∷ ps) ≡ entry_count (part status its start last ∷ ps) + s.entries)
    renewed-counts =
        let a = counts-newest head (items_in s r) ps in
        let b = counts-cons (part status its start last) ps in
        let a0 = a.0 in
        let a1 = a.1 in
        let b0 = b.0 in
        let b1 = b.1 in
        let x = o.count in
        let y = o.total in
        (omega arith, omega arith)

  pub renewed-one : count_in head ≡ 1 → Became (group_in head) (Some (part status its start last ∷ [])) s r t q
  renewed-one z =
      let n = renewed-count status start last head in
      let one = one-part k head (items_in s r) z (w.cells k l) in
      let a = one.tag in
      let a0 = a.from in
      let a1 = a.to in
      let free : items_with (other_tag k (newest_tag head)) (items_in t q) ≡ [] = o.others (other_tag k (newest_tag head)) (λ v. omega arith) ∙ one.free in
      let wf = one_wf k renewed (items_in t q) (n.0 ∙ z) (record { tag = rw n.2 a; free = rw n.2 free }) in
      let c = renewed-counts [] in
      others-came k renewed s r t q w l
      (retagged-only k renewed (newest_tag head) its s r t q o n.4 a wf)
      (group_in head) (newest head (items_in s r) ∷ []) (one_cell head (items_in s r) z) (part status its start last ∷ [])
      (one_cell renewed (items_in t q) (n.0 ∙ z) ∙ rw (n.1, renewed-items))
      c.0 c.1

  pub renewed_two : count_in head ≡ 2 → status ≡ 0 → Became (group_in head) (Some (part status its start last ∷ older head (items_in s r) ∷ [])) s r t q
  renewed_two z b =
      let n = renewed-count status start last head in
      let two = two-parts k head (items_in s r) z (w.cells k l) in
      let wf = two_wf k renewed (items_in t q) (n.0 ∙ z) (record { tag = rw n.2 two.tag; other = rw (n.2, n.3) two.other; begins = n.5 ∙ b; ends = rw n.6 two.ends }) in
      let a0 = two.tag.from in
      let a1 = two.tag.to in
      let d = two.other in
      let stays : older head (items_in t q) ≡ older head (items_in s r) = older_with head (items_in s r) (items_in t q) (o.others (older_tag head) (λ v. omega arith)) in
      let c = renewed-counts (older head (items_in s r) ∷ []) in
      others-came k renewed s r t q w l
      (retagged-only k renewed (newest_tag head) its s r t q o n.4 two.tag wf)
      (group_in head) (newest head (items_in s r) ∷ older head (items_in s r) ∷ []) (two-cell head (items_in s r) z) (part status its start last ∷ older head (items_in s r) ∷ [])
      (two-cell renewed (items_in t q) (n.0 ∙ z) ∙ rw (n.1, renewed-items, renewed-older status start last head (items_in t q), stays))
      c.0 c.1

-- ---- the newest part leaves

module _ (h : List ℕ) where
  left-count : (count_in (left_head h) ≡ count_in h - 1) × (group_in (left_head h) ≡ group_in h) × (newest_tag (left_head h) ≡ older_tag h) × (length (left_head h) ≡ 10)
  unfolding count_in group_in newest_tag older_tag left_head
  left-count = (refl, refl, refl, refl)

  left-newest : (xs : List Tagged) → newest (left_head h) xs ≡ older h xs
  unfolding newest older newest_tag older_tag left_head
  left-newest xs = refl

module _ (k : ℕ) (s : Store) (r : Room) (t : Store) (q : Room) (w : Wf s r) (l : k < cell_count r.heads) (o : Retagged k (left_head (head_at k r.heads)) (newest_tag (head_at k r.heads)) [] s r t q) where
  abbrev had : List ℕ
  had = head_at k r.heads

  no-counts : ((counts_for []).items ≡ 0) × ((counts_for []).entries ≡ 0)
  unfolding counts_for sum
  no-counts = (refl, refl)

  left-counts : (ps : List Part) → (t.items + item_count (newest had (items_in s r) ∷ ps) ≡ item_count ps + s.items) × (t.entries + entry_count (newest had (items_in s r) ∷ ps) ≡ entry_count ps + s.entries)
  left-counts ps =
      let a = counts-newest had (items_in s r) ps in
      let a0 = a.0 in
      let a1 = a.1 in
      let n = no-counts in
      let n0 = n.0 in
      let n1 = n.1 in
      let x = o.count in
      let y = o.total in
      (omega arith, omega arith)

  -- both tags of the cell have no items
  both-free : count_in had ≡ 1 → (u : ℕ) → Tag k u → items_with u (items_in t q) ≡ []
  both-free z u b =
      let one = one-part k had (items_in s r) z (w.cells k l) in
      let a0 = one.tag.from in
      let a1 = one.tag.to in
      let b0 = b.from in
      let b1 = b.to in
      split (eqb u (newest_tag had))
      (λ e. rw (eqb-true u (newest_tag had) e) o.mine)
      (λ e.
      let d = eqb-false u (newest_tag had) e in
      let same : u ≡ other_tag k (newest_tag had) = omega (arith, d) in
      o.others u d ∙ rw same one.free)

  pub left-none : count_in had ≡ 1 → Became (group_in had) None s r t q
  left-none z =
      let n = left-count had in
      let zero_left : count_in (left_head had) ≡ 0 = n.0 ∙ rw z in
      let wf = no_wf k (left_head had) (items_in t q) zero_left (record { free = both-free z }) in
      let c = left-counts [] in
      let d = counts-nil in
      let d0 = d.0 in
      let d1 = d.1 in
      let c0 = c.0 in
      let c1 = c.1 in
      all_left k (left_head had) s r t q w l
      (retagged-only k (left_head had) (newest_tag had) [] s r t q o n.3 (one-part k had (items_in s r) z (w.cells k l)).tag wf)
      (group_in had) (newest had (items_in s r) ∷ []) (one_cell had (items_in s r) z)
      (free-cell (left_head had) (items_in t q) zero_left) (omega arith) (omega arith)

  pub left_one : count_in had ≡ 2 → Became (group_in had) (Some (older had (items_in s r) ∷ [])) s r t q
  left_one z =
      let n = left-count had in
      let two = two-parts k had (items_in s r) z (w.cells k l) in
      let a0 = two.tag.from in
      let a1 = two.tag.to in
      let b = two.other in
      let one_left : count_in (left_head had) ≡ 1 = n.0 ∙ rw z in
      let back : other_tag k (older_tag had) ≡ newest_tag had = omega arith in
      let tag : Tag k (older_tag had) = rw b (other_tag_lem k (newest_tag had) two.tag) in
      let wf = one_wf k (left_head had) (items_in t q) one_left (record { tag = rw n.2 tag; free = rw (n.2, back) o.mine }) in
      let c = left-counts (older had (items_in s r) ∷ []) in
      let stays : older had (items_in t q) ≡ older had (items_in s r) = older_with had (items_in s r) (items_in t q) (o.others (older_tag had) (λ v. omega arith)) in
      others-came k (left_head had) s r t q w l
      (retagged-only k (left_head had) (newest_tag had) [] s r t q o n.3 two.tag wf)
      (group_in had) (newest had (items_in s r) ∷ older had (items_in s r) ∷ []) (two-cell had (items_in s r) z) (older had (items_in s r) ∷ [])
      (one_cell (left_head had) (items_in t q) one_left ∙ rw (n.1, left-newest had (items_in t q), stays))
      c.0 c.1
