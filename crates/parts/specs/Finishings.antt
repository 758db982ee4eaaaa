-- What a merge finishes of a group, told from the heads of the parts.
use Rattle.std.specs.Prelude.{Bool, true, false, cond, List, [], ◌∷◌, ◌++◌, ℕ, eqb, Option, None, Some}
use Rattle.rules.specs.Items.{LogItem}
use Rattle.rules.specs.Context.{Part}
use Rattle.rules_by_group.specs.Group.{Finished}
use Rattle.stores.specs.Tags.{Tagged, items_with}
use Rattle.room.specs.Rooms.{count_in, newest, older}
use Rattle.waiting.specs.declared.Step as step
use Rattle.parts.specs.declared.Ending.{Ending}

-- the finished atomic group: items of the older room xs and of the newer room ys, and the files
unfoldable pub finished_as : Option Ending → List Tagged → List Tagged → Option Finished
finished_as None xs ys = None
finished_as (Some e) xs ys =
    Some (record { items = items_with e.older xs ++ items_with e.newer ys; span = record { start = e.start; end = e.end } })

-- where the oldest part of a cell begins
unfoldable pub oldest_at : List ℕ → ℕ
oldest_at h = cond (eqb (count_in h) 1) 2 6

-- the oldest part of a cell
unfoldable pub oldest : List ℕ → List Tagged → Part
oldest h xs = cond (eqb (count_in h) 1) (newest h xs) (older h xs)

unfoldable pub is_finish : step.Step → Bool
is_finish (step.TheVariants.Wait f) = false
is_finish step.TheVariants.Drop = false
is_finish step.TheVariants.Finish = true
is_finish step.TheVariants.Back = false

-- whether there is an item
unfoldable pub has_items : List LogItem → Bool
has_items [] = false
has_items (x ∷ xs) = true
