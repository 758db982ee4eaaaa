-- How a part that waits is put into a cell: as the first of its group, in front of the newest part, in its place, or joined to it.
use Rattle.std.specs.Prelude.{cond, List, [], ◌∷◌, ◌≡◌, ℕ, zero, suc, ◌+◌, ◌*◌, ◌≤◌, eqb, get_or, Some}
use Rattle.maps.specs.Maps.{Map, store, numbers}
use Rattle.rules.specs.Items as rules
use Rattle.rules.specs.Items.{status_of}
use Rattle.rules.specs.Context.{Part}
use Rattle.stores.specs.declared.Store.{Store}
use Rattle.stores.specs.Tags.{count_tag}
use Rattle.room.specs.Rooms.{Room, head_at, count_in, newest_tag, first_tag, other_tag}
use Rattle.room.specs.Items.{TakenIn}
use Rattle.room.specs.Parts.{first_head, front_head, renewed_head}
use Rattle.waiting.specs.declared.PartHead.{PartHead}
use Rattle.waiting.specs.declared.Form as form
use Rattle.waiting.specs.declared.Step as step
use Rattle.waiting.specs.Steps.{FreeCell, AtCell, step_of, form_parts}
use Rattle.waiting.specs.Accepts.{parts_at}

-- where the form serves: a part with this head comes to cell k
abbrev pub FormAt : form.Form → ℕ → ℕ → List ℕ → ℕ → PartHead → Type 0
FormAt form.TheVariants.First g n hs k new = FreeCell g n hs k
FormAt form.TheVariants.Front g n hs k new = AtCell g n hs k × (step_of new (head_at k hs) ≡ step.TheVariants.Wait form.TheVariants.Front)
FormAt form.TheVariants.Replace g n hs k new = AtCell g n hs k × (step_of new (head_at k hs) ≡ step.TheVariants.Wait form.TheVariants.Replace)
FormAt form.TheVariants.Join g n hs k new = AtCell g n hs k × (step_of new (head_at k hs) ≡ step.TheVariants.Wait form.TheVariants.Join)

-- what waits with it
unfoldable pub with_part : form.Form → ℕ → Part → Map ℕ (List Part) → Map ℕ (List Part)
with_part f g new w = store numbers g (Some (form_parts f (parts_at g w) new)) w

-- ---- the tag and the head that it gets; h is the head of the cell

unfoldable pub form_tag : form.Form → ℕ → List ℕ → ℕ
form_tag form.TheVariants.First k h = first_tag k
form_tag form.TheVariants.Front k h = other_tag k (newest_tag h)
form_tag form.TheVariants.Replace k h = newest_tag h
form_tag form.TheVariants.Join k h = newest_tag h

-- the other tag is a number
abbrev pub Tagging : form.Form → ℕ → List ℕ → Type 0
Tagging form.TheVariants.First k h = Unit
Tagging form.TheVariants.Front k h = newest_tag h ≤ k * 4 + 1
Tagging form.TheVariants.Replace k h = Unit
Tagging form.TheVariants.Join k h = Unit

-- the status of a joined part, as a number
unfoldable pub joined_number : ℕ → ℕ → ℕ
joined_number old status = cond (eqb status 1) old status

unfoldable pub form_head : form.Form → ℕ → ℕ → PartHead → List ℕ → List ℕ
form_head form.TheVariants.First k g new h = first_head k g new.status new.start new.end
form_head form.TheVariants.Front k g new h = front_head k new.status new.start new.end h
form_head form.TheVariants.Replace k g new h = renewed_head new.status new.start new.end h
form_head form.TheVariants.Join k g new h = renewed_head (joined_number (get_or h 3 0) new.status) (get_or h 4 0) new.end h

-- the part with this head and these items
abbrev pub part_with : PartHead → List rules.LogItem → Part
part_with new its = record { status = status_of new.status; items = its; start = new.start; end = new.end }

-- ---- the items that leave for it

-- those of the part that is replaced
unfoldable pub lost_by : form.Form → List Part → List rules.LogItem
lost_by form.TheVariants.First ps = []
lost_by form.TheVariants.Front ps = []
lost_by form.TheVariants.Replace [] = []
lost_by form.TheVariants.Replace (p ∷ ps) = p.items
lost_by form.TheVariants.Join ps = []

-- they are taken out
abbrev pub Freed : form.Form → Store → Room → ℕ → Store → Room → Type 0
Freed form.TheVariants.First s r tag t q = (t ≡ s) × (q ≡ r)
Freed form.TheVariants.Front s r tag t q = (t ≡ s) × (q ≡ r)
Freed form.TheVariants.Replace s r tag t q = TakenIn s r tag t q
Freed form.TheVariants.Join s r tag t q = (t ≡ s) × (q ≡ r)

-- the counts t of what is left, from those of all items and of the tag's
abbrev pub Keeps : form.Form → ℕ → List ℕ → List ℕ → Store → Store → Type 0
Keeps form.TheVariants.First tag items tags s t = t ≡ s
Keeps form.TheVariants.Front tag items tags s t = t ≡ s
Keeps form.TheVariants.Replace tag items tags s t = (t.items + (count_tag tag s.items items tags).items ≡ s.items) × (t.entries + (count_tag tag s.items items tags).entries ≡ s.entries)
Keeps form.TheVariants.Join tag items tags s t = t ≡ s

-- ---- the groups that wait

-- how many of the n cells from k on are in use
unfoldable pub used_from : ℕ → ℕ → List ℕ → ℕ
used_from zero k hs = 0
used_from (suc n) k hs = cond (eqb (count_in (head_at k hs)) 0) 0 1 + used_from n (suc k) hs

unfoldable pub form_groups : form.Form → ℕ → ℕ
form_groups form.TheVariants.First n = suc n
form_groups form.TheVariants.Front n = n
form_groups form.TheVariants.Replace n = n
form_groups form.TheVariants.Join n = n
