-- Where the parts of a group wait, and what becomes of a part that comes to them.
use Rattle.std.specs.Prelude.{Option, Some, None, Bool, true, false, cond, ◌&&◌, not, List, [], ◌∷◌, ◌++◌, ◌≡◌, ℕ, ◌<◌, eqb, ltb, get_or}
use Rattle.cells.specs.declared.Slot.{Slot}
use Rattle.cells.specs.declared.Slot.TheVariants.{At, Free, Full}
use Rattle.rules.specs.Items.{Status, begin, middle, end, status_of}
use Rattle.rules.specs.Context.{Part}
use Rattle.rules.specs.Waiting.{Accepted, wait, finish, back}
use Rattle.room.specs.Rooms.{head_at, count_in, group_in}
use Rattle.waiting.specs.declared.PartHead.{PartHead}
use Rattle.waiting.specs.declared.Form as form
use Rattle.waiting.specs.declared.Step as step

-- a cell has parts of group g; a cell has none
unfoldable pub is_of : ℕ → List ℕ → Bool
is_of g h = not (eqb (count_in h) 0) && eqb (group_in h) g

unfoldable pub is_free_cell : List ℕ → Bool
is_free_cell h = eqb (count_in h) 0

-- the first of n cells that meets p, if one does
pub record FirstAt (p : List ℕ → Bool) (n : ℕ) (hs : List ℕ) (k : ℕ) : Type 0 where
  pub inside : k < n
  pub here : p (head_at k hs) ≡ true
  pub before : (j : ℕ) → j < k → p (head_at j hs) ≡ false

abbrev pub FirstOf : (List ℕ → Bool) → ℕ → List ℕ → Option ℕ → Type 0
FirstOf p n hs (Some k) = FirstAt p n hs k
FirstOf p n hs None = (j : ℕ) → j < n → p (head_at j hs) ≡ false

pub record AtCell (g n : ℕ) (hs : List ℕ) (k : ℕ) : Type 0 where
  pub inside : k < n
  pub here : is_of g (head_at k hs) ≡ true

pub record FreeCell (g n : ℕ) (hs : List ℕ) (k : ℕ) : Type 0 where
  pub inside : k < n
  pub free : is_free_cell (head_at k hs) ≡ true
  pub absent : (j : ℕ) → j < n → is_of g (head_at j hs) ≡ false

pub record NoCell (g n : ℕ) (hs : List ℕ) : Type 0 where
  pub full : (j : ℕ) → j < n → is_free_cell (head_at j hs) ≡ false
  pub absent : (j : ℕ) → j < n → is_of g (head_at j hs) ≡ false

unfoldable pub Found : ℕ → ℕ → List ℕ → Slot → Type 0
Found g n hs (At k) = AtCell g n hs k
Found g n hs (Free k) = FreeCell g n hs k
Found g n hs Full = NoCell g n hs

-- ---- the step, by the status and the first file of the part that comes, and the status and the last file of the newest one

unfoldable pub step_by : Status → ℕ → Status → ℕ → step.Step
step_by begin start begin last = step.TheVariants.Wait form.TheVariants.Replace
step_by begin start middle last = step.TheVariants.Wait form.TheVariants.Replace
step_by begin start end last = step.TheVariants.Wait form.TheVariants.Front
step_by middle start begin last = cond (ltb start last) step.TheVariants.Back (step.TheVariants.Wait form.TheVariants.Join)
step_by middle start middle last = cond (ltb start last) step.TheVariants.Back (step.TheVariants.Wait form.TheVariants.Join)
step_by middle start end last = step.TheVariants.Drop
step_by end start begin last = cond (ltb start last) step.TheVariants.Back step.TheVariants.Finish
step_by end start middle last = cond (ltb start last) step.TheVariants.Back (step.TheVariants.Wait form.TheVariants.Join)
step_by end start end last = step.TheVariants.Drop

-- the step of a part at a cell with head h
unfoldable pub step_of : PartHead → List ℕ → step.Step
step_of new h = step_by (status_of new.status) new.start (status_of (get_or h 3 0)) (get_or h 5 0)

-- an End that joins makes an End
unfoldable pub joined_status : Status → Status → Status
joined_status old begin = old
joined_status old middle = old
joined_status old end = end

unfoldable pub joined_part : Part → Part → Part
joined_part old new = record { status = joined_status old.status new.status; items = old.items ++ new.items; start = old.start; end = new.end }

-- a group's parts with the new one
unfoldable pub form_parts : form.Form → List Part → Part → List Part
form_parts form.TheVariants.First ps new = new ∷ ps
form_parts form.TheVariants.Front ps new = new ∷ ps
form_parts form.TheVariants.Replace [] new = new ∷ []
form_parts form.TheVariants.Replace (p ∷ ps) new = new ∷ ps
form_parts form.TheVariants.Join [] new = new ∷ []
form_parts form.TheVariants.Join (p ∷ ps) new = joined_part p new ∷ ps

-- what a step makes of a group's parts: the newest, the older ones and the one that comes
unfoldable pub stepped : step.Step → Part → List Part → Part → Accepted
stepped (step.TheVariants.Wait f) p ps new = wait (form_parts f (p ∷ ps) new)
stepped step.TheVariants.Drop p ps new = wait (p ∷ ps)
stepped step.TheVariants.Finish p ps new = finish p ps
stepped step.TheVariants.Back p ps new = back
