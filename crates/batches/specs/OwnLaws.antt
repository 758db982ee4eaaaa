-- A Rewrite replay item by item: the context keeps what a Rewrite context keeps, so that each group has Rewrite entries alone.
-- Assumes nothing.
use Rattle.std.specs.Prelude.{true, false, not, List, ◌≡◌, refl, ℕ, ◌*◌, ◌<◌, drop}
use Rattle.std.specs.Prelude.{None}
use Rattle.std.proofs.Common.{sym, ap, ◌∙◌}
use Rattle.maps.specs.BoolLaws.{clash, neither_left}
use Rattle.maps.specs.Lists.{any}
use Rattle.maps.specs.Maps.{lookup, numbers}
use Rattle.rules.specs.Causes.{Ok}
use Rattle.rules.specs.Items.{Rewrite, has_file, Content, entries, command, kv, Placed, is_reserved, Call, replay_append, replay_rewrite, live_append, live_rewrite, writes}
use Rattle.rules.specs.Checks.{consecutive, is_incomplete, is_other_queue, is_rewrite_replay, checks}
use Rattle.rules.specs.Table.{made}
use Rattle.rules.specs.Context.{context, Context, with_groups, limited, step}
use Rattle.rules_by_group.specs.Kept.{entry_by, each_entry}
use Rattle.rules_by_group.proofs.KindLaws.{rewrite-made}
use Rattle.rules_by_group.proofs.RunLaws.{rewrite-keeps, step_keeps, queue-files}
use Rattle.rules_by_group.specs.Kept.{KeptAt}
use Rattle.log_batch.specs.Lent.{row_count_of, item_at, items_of, item_of}
use Rattle.log_batch.specs.OpenLaws.{item-opened}
use Rattle.log_batch.specs.PassedLaws.{passed-opens}
use Rattle.groups.specs.Area.{groups_of}
use Rattle.deeds.specs.DeedLaws.{Clear, passed-clear, OnlyRewrite}
use Rattle.contexts.specs.Contexts.{context_of}
use Rattle.batches.specs.Runs.{Keeping}

-- the one call that is a Rewrite replay
is-replay : (c : Call) → is_rewrite_replay c ≡ true → c ≡ replay_rewrite
unfolding is_rewrite_replay
is-replay replay_append e = absurd (clash e)
is-replay replay_rewrite e = refl
is-replay live_append e = absurd (clash e)
is-replay (live_rewrite g s) e = absurd (clash e)

-- no other call asks for anything
pub keeping-other : (c : Call) (x : Context) → is_rewrite_replay c ≡ false → Keeping c x
keeping-other c x f = record { own = λ y. absurd (clash (sym f ∙ y)) }

pub keeping-rewrite : (c : Call) (x : Context) → KeptAt (context Rewrite) x → Keeping c x
keeping-rewrite c x k = record { own = λ y. k }

-- the group of an item has Rewrite entries alone
pub keeping-table : (c : Call) (xs bs : List ℕ) → Keeping c (context_of xs bs) → (g : ℕ) → OnlyRewrite c (made (lookup numbers g (groups_of xs bs)))
unfolding context_of with_groups
keeping-table c xs bs k g y = rewrite-made (context_of xs bs) (k.own y).kept (k.own y).is-kind g

-- the entries of an item that passed the checks are of the Rewrite queue
pub clear-own : (x : Content) → (is_reserved x ≡ false → Clear replay_rewrite x) → each_entry (entry_by (context Rewrite)) x ≡ true
unfolding each_entry entry_by is_reserved is_incomplete is_other_queue writes
clear-own (entries es) k =
    queue-files Rewrite es (neither_left (any (λ e. not (has_file e.entries)) es) (not (consecutive es)) (k refl).complete) (k refl).own-queue
clear-own (command c) k = refl
clear-own (kv y c) k = refl

-- one item that is taken
pub keeping_step : (c : Call) (x : Placed) (y z : Context) → (is_rewrite_replay c ≡ true → is_reserved x.item.content ≡ false → Clear replay_rewrite x.item.content) → Keeping c y → step limited c x y ≡ Ok z → Keeping c z
keeping_step c x y z k h e =
    record {
      own = λ r.
          step_keeps (context Rewrite) replay_rewrite rewrite-keeps x y z (clear-own x.item.content (k r)) (h.own r) (ap (λ (d : Call). step limited d x y) (sym (is-replay c r)) ∙ e);
    }

-- item i of a batch that passed the checks
pub item-clear : (c : Call) (items es bs : List ℕ) (i : ℕ) → checks c (items_of items es bs) ≡ None → i < row_count_of items → is_rewrite_replay c ≡ true → is_reserved (item_at es bs (drop (i * 9) items)).content ≡ false → Clear replay_rewrite (item_at es bs (drop (i * 9) items)).content
item-clear c items es bs i p h r =
    let o = passed-opens c items es bs p i h in
    let e = item-opened es bs _ o.item o.opens in
    rw e (λ f. ap-call (is-replay c r) (passed-clear c (items_of items es bs) i (item_of o.item es bs) o.passed f))
  where
    ap-call : {d : Call} {x : Content} → d ≡ replay_rewrite → Clear d x → Clear replay_rewrite x
    ap-call e k = rw e at k
