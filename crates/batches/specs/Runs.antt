-- A batch on an area, item by item: what one item does, and the context that a refused batch goes back to.
use Rattle.std.specs.Prelude.{Bool, true, false, List, ◌≡◌, ℕ, ◌≤◌, drop, get_or, length}
use Rattle.std.specs.Prelude.{Option}
use Rattle.maps.specs.Cells.{map_of}
use Rattle.rules.specs.Causes.{Cause, ByCause, Result, Ok, Err}
use Rattle.rules.specs.Items.{Rewrite, LogItem, Call, is_reserved}
use Rattle.rules.specs.Checks.{is_rewrite_replay}
use Rattle.rules.specs.Context.{context, Context, with_groups, with_waiting, limited, step}
use Rattle.rules_by_group.specs.Kept.{KeptAt}
use Rattle.log_batch.specs.declared.item.LogItem as lent
use Rattle.log_batch.specs.Lent.{item_of}
use Rattle.log_batch.specs.OpenLaws.{Bare}
use Rattle.stores.specs.Written.{Lent}
use Rattle.groups.specs.Area.{numbers_in_use, bytes_in_use}
use Rattle.groups.specs.Undo.{undone_cells, Undoable}
use Rattle.lists.specs.Rest.{rest_of, cut_to}
use Rattle.lists.specs.Rest as lists
use Rattle.lists.specs.Calls.{Keeps}
use Rattle.room.specs.Layout.{waiting_of}
use Rattle.batches.specs.Acts.{UndoKept}
use Rattle.contexts.specs.Contexts.{waiting_numbers, waiting_bytes, context_of, Formed, RoomKept}
use Rattle.deeds.specs.DeedLaws.{Clear}

-- what is known of an item of a batch that passed the checks
pub record ItemReady (c : Call) (it : lent.LogItem) (es bs : List ℕ) : Type 0 where
  pub lent_is : Lent it (length es) (length bs)
  pub bare : Bare it.content
  pub clear : is_reserved (item_of it es bs).content ≡ false → Clear c (item_of it es bs).content

-- in a Rewrite replay the context keeps what a Rewrite context keeps
pub record Keeping (c : Call) (x : Context) : Type 0 where
  pub own : is_rewrite_replay c ≡ true → KeptAt (context Rewrite) x

-- the result of an item at its place
abbrev pub outcome_at : Option ℕ → ByCause (Unit {0}) → Context → Result Context
outcome_at p (Ok _) c = Ok c
outcome_at p (Err n) c = Err (record { cause = n; place = p })

-- the context that an area goes back to, with t tombstones and n cleaned numbers
unfoldable pub back_to : ℕ → ℕ → List ℕ → List ℕ → Context
back_to t n xs bs =
    with_groups (map_of (undone_cells xs bs))
    (with_waiting (waiting_of (waiting_numbers xs) (waiting_bytes bs)) (rest_of (cut_to t n (drop numbers_in_use xs)) (drop bytes_in_use bs)))

-- what an area goes back to is as it was
pub record BackKept (xs bs xs' bs' : List ℕ) : Type 0 where
  pub undo : UndoKept xs bs xs' bs'
  pub lists-keep : Keeps (drop numbers_in_use xs) (drop bytes_in_use bs) (drop numbers_in_use xs') (drop bytes_in_use bs')
  pub room : RoomKept xs bs xs' bs'

-- one item: the rules' step. Err, the context is as it was; and unless it was the last item, the batch can go back.
pub record Stepped (c : Call) (it : LogItem) (last : Bool) (xs bs : List ℕ) (r : ByCause (Unit {0})) (xs' bs' : List ℕ) : Type 0 where
  pub rule : (p : Option ℕ) → outcome_at p r (context_of xs' bs') ≡ step limited c (record { item = it; place = p }) (context_of xs bs)
  pub left : (n : Cause) → r ≡ Err n → BackKept xs bs xs' bs'
  pub kept : last ≡ false → BackKept xs bs xs' bs'
  pub formed : Formed xs' bs'

-- a batch under way, which began with t tombstones and n cleaned numbers in context c
pub record Going (t n : ℕ) (c : Context) (xs bs : List ℕ) : Type 0 where
  pub back : back_to t n xs bs ≡ c
  pub undoable : Undoable xs bs
  pub lists-wf : lists.Wf (cut_to t n (drop numbers_in_use xs)) (drop bytes_in_use bs)
  pub tombstones-grow : t ≤ get_or (drop numbers_in_use xs) 1 0
  pub cleaned-grow : n ≤ get_or (drop numbers_in_use xs) 2 0

-- an area that has gone back
pub record WentBack (t n : ℕ) (xs bs xs' bs' : List ℕ) : Type 0 where
  pub context-is : context_of xs' bs' ≡ back_to t n xs bs
  pub formed : Formed xs' bs'
