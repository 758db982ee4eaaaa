-- A tombstone's deed on a group's table is what the rules say of it, and tombstones are taken one after the other. Assumes nothing.
use Rattle.pipe_log.specs.declared.FileId.{FileId}
use Rattle.log_batch.specs.declared.item.Bytes.{Bytes}
use Rattle.std.specs.Prelude.{true, false, cond, List, [], ◌∷◌, ◌++◌, ◌≡◌, refl, ℕ, eqb}
use Rattle.std.specs.Prelude.{Option}
use Rattle.cells.specs.Part.{part}
use Rattle.maps.specs.BoolLaws.{clash}
use Rattle.maps.specs.Maps.{equal_bytes}
use Rattle.maps.specs.OrderLaws.{split}
use Rattle.rules.specs.Limits.{reserved_key}
use Rattle.rules.specs.Causes.{Ok, and_then, left}
use Rattle.rules.specs.Items as rules
use Rattle.rules.specs.Table.{Table}
use Rattle.rules_by_group.specs.Group.{effect, effected, tombed}
use Rattle.rules_by_group.specs.Kept.{Within}
use Rattle.log_batch.specs.declared.causes.Call as call
use Rattle.log_batch.specs.declared.item.Command as command
use Rattle.log_batch.specs.declared.item.OpType as op
use Rattle.log_batch.specs.declared.item.LogItemContent as content
use Rattle.log_batch.specs.Lent.{content_of, key_content, key_change, change_of, command_of}
use Rattle.stretch.specs.Changes.{rule_of, Ready}
use Rattle.deeds.specs.declared.Deed as deed
use Rattle.deeds.specs.Deeds.{rows_in, key_in, value_in, command_deed, op_deed, deed_of}
use Rattle.worktable.specs.Calls.{deed_to, ReadyTo}

-- ---- one tombstone

-- what a deed that is never refused asks and gives
pub record Buries (d : deed.Deed) (rows key value : List ℕ) (x : rules.Content) (o : Option Table) : Type 0 where
  pub ready : ReadyTo d rows key value o
  pub rule : deed_to d rows key value o ≡ Ok (effected x o)

command_buries : (m : command.Command) (o : Option Table) → Buries (command_deed call.TheVariants.ReplayAppend m) [] [] [] (rules.command (command_of m)) o
unfolding command_of deed_to ReadyTo rule_of Ready and_then effected effect rules.is_reserved
command_buries command.TheVariants.Clean o = record { ready = tt; rule = refl }
command_buries (command.TheVariants.Compact i) o = record { ready = tt; rule = refl }

delete_buries : (key value : List ℕ) (o : Option Table) → equal_bytes key reserved_key ≡ false → Buries (deed.TheVariants.Change Rattle.stretch.specs.declared.Change.TheVariants.Delete) [] key value (rules.kv key rules.del) o
unfolding deed_to ReadyTo rule_of Ready and_then effected effect rules.is_reserved
delete_buries key value o r = record { ready = tt; rule = rw r }

skip_buries : (rows key value : List ℕ) (x : rules.Content) (o : Option Table) → rules.is_reserved x ≡ true → Buries deed.TheVariants.Skip rows key value x o
unfolding deed_to ReadyTo effected
skip_buries rows key value x o r = record { ready = tt; rule = rw r }

op_buries : (u : op.OpType) (v : Option Bytes) (f : Option FileId) (key value bs : List ℕ) (o : Option Table) → rules.is_tombstone (rules.kv key (change_of u v f bs)) ≡ true → equal_bytes key reserved_key ≡ false → Buries (op_deed call.TheVariants.ReplayAppend u f) [] key value (rules.kv key (change_of u v f bs)) o
unfolding change_of rules.is_tombstone
op_buries op.TheVariants.Put v f key value bs o t r = absurd (clash t)
op_buries op.TheVariants.Del v f key value bs o t r = delete_buries key value o r

pub deed_buries : (x : content.LogItemContent) (es bs : List ℕ) (o : Option Table) → rules.is_tombstone (content_of x es bs) ≡ true → Buries (deed_of call.TheVariants.ReplayAppend x es bs) (rows_in x es) (key_in x bs) (value_in x bs) (content_of x es bs) o
unfolding deed_of content_of key_content key_change rules.is_reserved rules.is_tombstone
deed_buries (content.TheVariants.EntryIndexes e) es bs o t = absurd (clash t)
deed_buries (content.TheVariants.Command m) es bs o t = command_buries m o
deed_buries (content.TheVariants.Kv k) es bs o t =
    split (equal_bytes (part k.key_at k.key_len bs) reserved_key)
    (λ y. rw y (skip_buries [] _ _ _ o y))
    (λ n. rw n (op_buries k.op_type k.value k.file_id _ _ bs o t n))

-- what the work table asks of such a deed
pub buries-taken : (e n : ℕ) (d : deed.Deed) (rows key value : List ℕ) (x : rules.Content) (o : Option Table) → Buries d rows key value x o → Within e n (effected x o) → (left o (deed_to d rows key value o) ≡ effected x o) × (deed_to d rows key value o ≡ Ok (left o (deed_to d rows key value o)))
unfolding left
buries-taken e n d rows key value x o b w = (rw b.rule, rw b.rule)

-- ---- one after the other

-- what one tombstone does to group g
unfoldable pub buried : ℕ → rules.LogItem → Option Table → Option Table
buried g x o = cond (eqb x.group g) (effected x.content o) o

pub tombed-more : (g : ℕ) (xs : List rules.LogItem) (x : rules.LogItem) (o : Option Table) → tombed g (xs ++ (x ∷ [])) o ≡ buried g x (tombed g xs o)
unfolding tombed buried
tombed-more g [] x o = refl
tombed-more g (y ∷ ys) x o = tombed-more g ys x (cond (eqb y.group g) (effected y.content o) o)

pub tombed-none : (g : ℕ) (o : Option Table) → tombed g [] o ≡ o
unfolding tombed
tombed-none g o = refl
