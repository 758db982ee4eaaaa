-- A part is put into a cell of a room in two slices. Assumes nothing.
use mathlib.Core.List.{List, [], ◌∷◌}
use Rattle.std.specs.Prelude.{Some}
use mathlib.Core.Path.{◌≡◌, refl, sym, ◌∙◌}
use Prim.Native.Nat.{ℕ, zero, suc, ◌+◌, ◌*◌, ◌≤◌, ◌<◌}
use native.Mathlib.Nat.{add-zero}
use native.Mathlib.Omega.{arith}
use lib.ListN.{get_or}
use borrow.Author.Tests.{ne_eqb}
use Rattle.cells.specs.Part.{part}
use Rattle.rules.specs.Items as rules
use Rattle.rules.specs.Items.{begin, middle, end, status_of}
use Rattle.rules.specs.Context.{Part}
use Rattle.stores.specs.declared.Store.{Store}
use Rattle.room.specs.Rooms.{Room, items_in, head_at, newest_tag, waiting_in, waiting_items, waiting_entries, cell_count, other_tag}
use Rattle.room.specs.Layout.{store_of, room_of, RoomWf}
use Rattle.room.specs.LayoutLaws.{cell-count}
use Rattle.room.specs.HeadLaws.{heads-are, head_number}
use Rattle.room.specs.Batches.{counts_for}
use Rattle.room.specs.Changes.{Became}
use Rattle.room.specs.Parts.{front_head, renewed_head, WroteIn}
use Rattle.room.specs.PartLaws.{one-part, two-parts}
use Rattle.waiting.specs.declared.PartHead.{PartHead}
use Rattle.waiting.specs.declared.Form as form
use Rattle.waiting.specs.Steps.{form_parts}
use Rattle.waiting.specs.Accepts.{parts_at}
use Rattle.waiting.specs.Forms.{FormAt, with_part, form_tag, Tagging, joined_number, form_head, part_with, Freed}
use Rattle.waiting.specs.FormLaws.{by_parts, form-waits}
use Rattle.waiting.specs.JudgeLaws.{counts_with-part, freed-left}

-- ---- heads

module _ (n : ℕ) (ws : List ℕ) (k : ℕ) (l : k < n) where
  abbrev head : List ℕ
  head = head_at k (part 2 (n * 10) ws)

  pub number : (i : ℕ) → i < 10 → get_or ws (2 + k * 10 + i) 0 ≡ get_or head i 0
  number i h = sym (head_number n ws k i l h)

  pub tag-there : get_or ws (2 + k * 10 + 2) 0 ≡ newest_tag head
  unfolding newest_tag
  tag-there = number 2 (omega arith)

  pub front_is : (tag status start last : ℕ) → tag ≡ other_tag k (newest_tag head) → 2 ∷ get_or ws (2 + k * 10 + 1) 0 ∷ tag ∷ status ∷ start ∷ last ∷ get_or ws (2 + k * 10 + 2) 0 ∷ get_or ws (2 + k * 10 + 3) 0 ∷ get_or ws (2 + k * 10 + 4) 0 ∷ get_or ws (2 + k * 10 + 5) 0 ∷ [] ≡ front_head k status start last head
  unfolding front_head newest_tag
  front_is tag status start last e = rw (e, number 1 (omega arith), number 2 (omega arith), number 3 (omega arith), number 4 (omega arith), number 5 (omega arith))

  pub renewed_is : (status start last : ℕ) → get_or ws (2 + k * 10) 0 ∷ get_or ws (2 + k * 10 + 1) 0 ∷ get_or ws (2 + k * 10 + 2) 0 ∷ status ∷ start ∷ last ∷ get_or ws (2 + k * 10 + 6) 0 ∷ get_or ws (2 + k * 10 + 7) 0 ∷ get_or ws (2 + k * 10 + 8) 0 ∷ get_or ws (2 + k * 10 + 9) 0 ∷ [] ≡ renewed_head status start last head
  unfolding renewed_head
  renewed_is status start last =
      let zero_is : get_or head 0 0 ≡ get_or ws (2 + k * 10) 0 = head_number n ws k 0 l (omega arith) ∙ rw (add-zero (2 + k * 10)) in
      rw (zero_is, number 1 (omega arith), number 2 (omega arith), number 6 (omega arith), number 7 (omega arith), number 8 (omega arith), number 9 (omega arith))

-- ---- the number of a joined part's status

pub joined_begin : (old st : ℕ) → begin ≡ status_of st → st ≡ joined_number old st
unfolding status_of joined_number
joined_begin old zero e = refl
joined_begin old (suc zero) e = cc
joined_begin old (suc (suc m)) e = cc

pub joined_middle : (old st : ℕ) → middle ≡ status_of st → old ≡ joined_number old st
unfolding status_of joined_number
joined_middle old zero e = cc
joined_middle old (suc zero) e = refl
joined_middle old (suc (suc m)) e = cc

pub joined_end : (old st : ℕ) → end ≡ status_of st → st ≡ joined_number old st
unfolding status_of joined_number
joined_end old zero e = cc
joined_end old (suc zero) e = cc
joined_end old (suc (suc m)) e = rw (ne_eqb (suc (suc m)) 1 (λ z. omega arith))

-- ---- the form in a room

pub form-inside : (f : form.Form) (g n : ℕ) (hs : List ℕ) (k : ℕ) (hd : PartHead) → FormAt f g n hs k hd → k < n
form-inside form.TheVariants.First g n hs k hd a = a.inside
form-inside form.TheVariants.Front g n hs k hd a = a.0.inside
form-inside form.TheVariants.Replace g n hs k hd a = a.0.inside
form-inside form.TheVariants.Join g n hs k hd a = a.0.inside

module _ (n : ℕ) (ws vs : List ℕ) (w : RoomWf n ws vs) (f : form.Form) (g k : ℕ) (hd : PartHead) (a : FormAt f g n (part 2 (n * 10) ws) k hd) where
  abbrev s : Store
  s = store_of ws

  abbrev r : Room
  r = room_of n ws vs

  pub form_in : FormAt f g (cell_count r.heads) r.heads k hd
  form_in = rw (cell-count n ws vs w.numbers-are w.bytes-are, heads-are n ws vs) a

  module _ (its : List rules.LogItem) (tag : ℕ) (x : tag ≡ form_tag f k (head_at k (part 2 (n * 10) ws))) (t : Store) (q : Room) (e : Freed f s r tag t q) where
    abbrev new : Part
    new = part_with hd its

    tag_in : tag ≡ form_tag f k (head_at k r.heads)
    tag_in = rw (heads-are n ws vs) x

    freed-in : Freed f s r (form_tag f k (head_at k r.heads)) t q
    freed-in = rw tag_in at e

    pub freed_rows : waiting_items (with_part f g new (waiting_in s r)) ≤ n * 8 → waiting_entries (with_part f g new (waiting_in s r)) ≤ n * 16 → (t.items + (counts_for its).items ≤ n * 8) × (t.entries + (counts_for its).entries ≤ n * 16)
    freed_rows i j =
        let c = counts_with-part s r w.wf f g new t (freed-left s r w.wf g k hd f t q form_in freed-in) in
        let c0 = c.0 in
        let c1 = c.1 in
        (omega arith, omega arith)

    pub wrote_form : (h : List ℕ) (u : Store) (p : Room) → h ≡ form_head f k g hd (head_at k (part 2 (n * 10) ws)) → WroteIn k h tag its t q u p → Became g (Some (form_parts f (parts_at g (waiting_in s r)) new)) s r u p
    wrote_form h u p y o =
        let y' : h ≡ form_head f k g hd (head_at k r.heads) = rw (heads-are n ws vs) y in
        form-waits s r w.wf g k hd its t q u p f form_in freed-in (rw (y', tag_in) at o)

-- the other tag is a number
front-tagging : (n : ℕ) (ws vs : List ℕ) → RoomWf n ws vs → (g k : ℕ) (hd : PartHead) → FormAt form.TheVariants.Front g n (part 2 (n * 10) ws) k hd → Tagging form.TheVariants.Front k (head_at k (part 2 (n * 10) ws))
front-tagging n ws vs w g k hd a =
    let b = form_in n ws vs w form.TheVariants.Front g k hd a in
    let r = room_of n ws vs in
    let in_Cell = b.0.inside in
    let t : newest_tag (head_at k r.heads) ≤ k * 4 + 1 =
    by_parts (store_of ws) r w.wf g k in_Cell b.0.here
    (λ z. let y = (one-part k (head_at k r.heads) (items_in (store_of ws) r) z (w.wf.cells k in_Cell)).tag.to in omega arith)
    (λ z. let y = (two-parts k (head_at k r.heads) (items_in (store_of ws) r) z (w.wf.cells k in_Cell)).tag.to in omega arith) in
    rw (heads-are n ws vs) at t

pub tagging : (n : ℕ) (ws vs : List ℕ) → RoomWf n ws vs → (f : form.Form) (g k : ℕ) (hd : PartHead) → FormAt f g n (part 2 (n * 10) ws) k hd → Tagging f k (head_at k (part 2 (n * 10) ws))
tagging n ws vs w form.TheVariants.First g k hd a = tt
tagging n ws vs w form.TheVariants.Front g k hd a = front-tagging n ws vs w g k hd a
tagging n ws vs w form.TheVariants.Replace g k hd a = tt
tagging n ws vs w form.TheVariants.Join g k hd a = tt
