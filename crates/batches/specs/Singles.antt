-- A batch of one list of entries or one Put, and what the only item of a batch does to an area.
use Rattle.std.specs.Prelude.{Some, Bool, true, false, List, ◌≡◌, ℕ, ◌/◌, ◌<◌, get_or, length}
use Rattle.std.specs.Prelude.{Option, None}
use Rattle.maps.specs.Maps.{Map}
use Rattle.rules.specs.Causes.{Cause, ByCause, Ok, Err, Result}
use Rattle.rules.specs.Items.{LogItem, Call, writes}
use Rattle.rules.specs.Checks.{checks}
use Rattle.rules.specs.Table.{Table}
use Rattle.rules.specs.Context.{limited, step}
use Rattle.log_batch.specs.declared.causes.Call as call
use Rattle.log_batch.specs.declared.item.LogItem as lent
use Rattle.log_batch.specs.declared.item.LogItemContent.{TheVariants.EntryIndexes, TheVariants.Kv}
use Rattle.log_batch.specs.declared.item.OpType as op
use Rattle.log_batch.specs.Lent.{opened_row, item_of, items_of}
use Rattle.log_batch.specs.Judged.{call_of, mark_for}
use Rattle.stretch.specs.Changes.{outcome_as}
use Rattle.groups.specs.Area.{groups_of}
use Rattle.groups.specs.Area as groups
use Rattle.contexts.specs.Contexts.{context_of, Formed}
use Rattle.batches.specs.Steps.{adds_tombstone, adds_cleaned}
use Rattle.batches.specs.Acts.{BehindKept}
use Rattle.batches.specs.Runs.{outcome_at}

-- the item of a row that is a list of entries
abbrev pub list_item : List ℕ → lent.LogItem
list_item row = record { raft_group_id = get_or row 0 0; content = EntryIndexes (record { at = get_or row 2 0; count = get_or row 3 0 }) }

-- the item of a row that is a Put with a value and a file of the queue that the call writes
abbrev pub put_item : call.Call → List ℕ → lent.LogItem
put_item c row =
    record {
      raft_group_id = get_or row 0 0;
      content =
          Kv
          (record {
            op_type = op.TheVariants.Put;
            key_at = get_or row 2 0;
            key_len = get_or row 3 0;
            value = Some (record { at = (get_or row 5 0); len = (get_or row 6 0) });
            file_id = Some (record { queue = writes (call_of c); seq = get_or row 8 0 });
          });
    }

-- an item that adds nothing to the lists
pub record AddsNothing (c : Call) (it : LogItem) : Type 0 where
  pub no-tombstone : adds_tombstone c it ≡ false
  pub no-cleaned : adds_cleaned c it ≡ false

-- a batch that is one item, meets none of the checks and adds nothing to the lists
pub record Single (c : call.Call) (it : lent.LogItem) (items es bs : List ℕ) : Type 0 where
  pub nine : length items ≡ 9
  pub opens : opened_row items (length es / 8) (length bs) ≡ Ok it
  pub passes : checks (call_of c) (items_of items es bs) ≡ None
  pub unmarked : mark_for (call_of c) (items_of items es bs) ≡ None
  pub adds : AddsNothing (call_of c) (item_of it es bs)

-- such a batch that is a list of at least one entry
pub record SingleList (c : call.Call) (items es bs : List ℕ) : Type 0 where
  pub held : 0 < get_or items 3 0
  pub single : Single c (list_item items) items es bs

-- the call of an append, live or replayed
unfoldable pub append_call : Bool → call.Call
append_call true = call.TheVariants.LiveAppend
append_call false = call.TheVariants.ReplayAppend

-- the groups are changed by a rule, with nothing to go back to. Err, they are as they were.
pub record ActedAlone (to : Map ℕ Table → Result (Map ℕ Table)) (xs bs : List ℕ) (r : ByCause (Unit {0})) (xs' bs' : List ℕ) : Type 0 where
  pub rule : outcome_as r (groups_of xs' bs') ≡ to (groups_of xs bs)
  pub left : (n : Cause) → r ≡ Err n → groups_of xs' bs' ≡ groups_of xs bs
  pub behind : BehindKept xs bs xs' bs'
  pub wf : groups.Wf xs' bs'

-- one item: the rules' step. Err, the context is as it was.
pub record Alone (c : Call) (it : LogItem) (xs bs : List ℕ) (r : ByCause (Unit {0})) (xs' bs' : List ℕ) : Type 0 where
  pub rule : (p : Option ℕ) → outcome_at p r (context_of xs' bs') ≡ step limited c (record { item = it; place = p }) (context_of xs bs)
  pub left : (n : Cause) → r ≡ Err n → context_of xs' bs' ≡ context_of xs bs
  pub formed : Formed xs' bs'

-- the answer to a batch of one item
unfoldable pub answer_of : ByCause (Unit {0}) → Result (Unit {0})
answer_of (Ok _) = Ok tt
answer_of (Err n) = Err (record { cause = n; place = Some 0 })
