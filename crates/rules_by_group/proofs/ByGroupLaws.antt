-- Merge and join of the rules, over any list of numbers that covers, are the answers read off the staged groups.
-- Assumes nothing.
use Rattle.std.specs.Prelude.{◌≡◌, List, ◌++◌, ℕ}
use Rattle.std.proofs.Common.{ap, ◌∙◌}
use Rattle.maps.specs.Maps.{Map}
use Rattle.rules.specs.Causes.{Cause, Refusal, Ok, Err, refuse, FilesGoBack}
use Rattle.rules.specs.Items.{LogQueue, Append, Rewrite, same_queue}
use Rattle.rules.specs.Context.{context, is_context, Part, Context, with_tombstones}
use Rattle.rules.specs.Calls.{clash, merge_contexts, both, merge, join_contexts, join}
use Rattle.rules_by_group.specs.Stage.{stage_all, none_staged, answer, waiting_after, merged_rest, merged_at, merged_by, joined_by, Covers}
use Rattle.rules_by_group.specs.Kept.{Kept}
use Rattle.rules_by_group.proofs.MergeLaws.{Accepts, merge_by-accepts}
use Rattle.rules_by_group.proofs.WaitingLaws.{all-kept, accepts_all, waiting-refused}
use Rattle.rules_by_group.proofs.ResultLaws.{and_then_of, and_then-refused}
use Rattle.rules_by_group.proofs.JoinLaws.{join_contexts_by-group}

-- the newer waiting parts of a context, accepted by another
pub kept-accepts : (newer c : Context) → Kept newer → Kept c → Accepts newer.waiting (with_tombstones (c.tombstones ++ newer.tombstones) c)
unfolding with_tombstones
kept-accepts newer c kn kc =
    accepts_all newer.waiting (with_tombstones (c.tombstones ++ newer.tombstones) c) kn.waiting-ascends kn.own-items kn.shapes kc.groups-ascend kc.waiting-ascends (all-kept c.waiting kc.own-items kc.shapes)

pub merge_contexts_by-group : (q : LogQueue) (newer c : Context) (gs : List ℕ) → Kept newer → Kept c → newer.kind ≡ context q → Covers gs newer c → merge_contexts q newer c ≡ merged_by q newer c gs
merge_contexts_by-group q newer c gs kn kc is v = merge_by-accepts q newer c kn kc is (kept-accepts newer c kn kc) gs v

-- two contexts of queue q are merged
pub merge-is : (q : LogQueue) (newer c : Context) → newer.kind ≡ context q → c.kind ≡ context q → merge newer c ≡ merge_contexts q newer c
unfolding merge both is_context same_queue
merge-is Append newer c n o = rw (n, o)
merge-is Rewrite newer c n o = rw (n, o)

pub merge_by-group : (q : LogQueue) (newer c : Context) (gs : List ℕ) → Kept newer → Kept c → newer.kind ≡ context q → c.kind ≡ context q → Covers gs newer c → merge newer c ≡ merged_by q newer c gs
merge_by-group q newer c gs kn kc n o v = merge-is q newer c n o ∙ merge_contexts_by-group q newer c gs kn kc n v

join_is : (newer c : Context) → newer.kind ≡ context Append → c.kind ≡ context Rewrite → join newer c ≡ join_contexts newer c
unfolding join is_context same_queue
join_is newer c n o = rw (n, o)

pub join_by-group : (n : Cause) (newer c : Context) (gs : List ℕ) → Kept newer → Kept c → newer.kind ≡ context Append → c.kind ≡ context Rewrite → Covers gs newer c → join newer c ≡ joined_by n newer c gs
join_by-group n newer c gs kn kc a r v = join_is newer c a r ∙ join_contexts_by-group newer c kn kc a n gs v

-- files of waiting parts that go back are 8, whatever the groups are
pub merged_back : (q : LogQueue) (newer c : Context) (gs : List ℕ) (x : Refusal) → waiting_after newer.waiting c.waiting ≡ Err x → merged_by q newer c gs ≡ refuse FilesGoBack
unfolding merged_by
merged_back q newer c gs x e =
    and_then-refused (waiting_after newer.waiting c.waiting) (λ w. answer (clash q) (merged_rest newer w c) (stage_all (merged_at q newer c) gs none_staged)) x e
    ∙ ap (λ y. Err y) (waiting-refused newer.waiting c.waiting x e)

-- what waits otherwise is w
pub merged-waiting : (q : LogQueue) (newer c : Context) (gs : List ℕ) (w : Map ℕ (List Part)) → waiting_after newer.waiting c.waiting ≡ Ok w → merged_by q newer c gs ≡ answer (clash q) (merged_rest newer w c) (stage_all (merged_at q newer c) gs none_staged)
unfolding merged_by
merged-waiting q newer c gs w e =
    and_then_of (waiting_after newer.waiting c.waiting) (λ v. answer (clash q) (merged_rest newer v c) (stage_all (merged_at q newer c) gs none_staged)) w e
