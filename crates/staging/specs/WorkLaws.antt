-- What becomes of one group, step by step. Assumes nothing.
use Rattle.std.specs.Prelude.{true, List, [], ◌≡◌, ℕ}
use Rattle.std.specs.Prelude.{Option, None, Some}
use Rattle.std.proofs.lemmas.Option.{none-some}
use Rattle.std.proofs.Math.Path.{refl}
use Rattle.std.proofs.Common.{sym, ◌∙◌}
use native.Mathlib.Omega.{arith}
use Rattle.maps.specs.Lists.{every, last, or_else}
use Rattle.maps.specs.Maps.{Map, lookup, numbers}
use Rattle.maps.specs.MapLaws.{laid}
use Rattle.maps.specs.OrderLaws.{numbers_lawful}
use Rattle.maps.specs.MapLaws.{every-lookup}
use Rattle.rules.specs.Causes.{Ok, and_then}
use Rattle.rules.specs.Items.{Rewrite, is_rewrite}
use Rattle.rules.specs.Table.{Table, made, empty_table}
use Rattle.rules.specs.Context.{context, Context, table_fits}
use Rattle.rules_by_group.specs.Group.{Finished, parts_of, finished_of, finish_table, lay_over, merged_group, joined_group, tombed}
use Rattle.rules_by_group.specs.Stage.{merged_at, joined_at}
use Rattle.rules_by_group.specs.Kept.{entry_by, Kept}
use Rattle.rules_by_group.proofs.KindLaws.{append-waits, own-made, queue-table}
use Rattle.rules_by_group.proofs.EntryLaws.{tombed-meets}
use Rattle.rules_by_group.proofs.ResultLaws.{by_option}
use Rattle.rules_by_group.proofs.RoomLaws.{table-room}
use Rattle.rules_by_group.specs.Kept.{Within}
use Rattle.worktable.specs.declared.Mode.{Mode}
use Rattle.worktable.specs.declared.Mode.TheVariants as mode
use Rattle.worktable.specs.Calls.{laid_over, newer_queue, AllOf, OlderFor}
use Rattle.staging.specs.Modes.{older_kind, newer_kind, group_by}
use Rattle.staging.specs.Works.{laid_by}
use Rattle.staging.specs.Replays.{of_rewrite}
use Rattle.staging.specs.Finishings.{finished_at}

-- ---- a newer table laid over

pub laid_none : (m : Mode) (o : Option Table) → Ok o ≡ laid_by m None o
unfolding laid_by lay_over laid
laid_none mode.Append o = refl
laid_none mode.Rewrite o = refl
laid_none mode.Join o = refl

pub laid-some : (m : Mode) (t : Table) (o : Option Table) → laid_over m t o ≡ laid_by m (Some t) o
unfolding laid_by laid_over
laid-some mode.Append t o = refl
laid-some mode.Rewrite t o = refl
laid-some mode.Join t o = refl

-- ---- the group

nothing-finishes : (g : ℕ) (newer c : Context) → newer.waiting ≡ [] → finished_at g newer c ≡ None
unfolding finished_at finished_of parts_of lookup or_else last
nothing-finishes g newer c e = rw e

module _ (g : ℕ) (newer c : Context) (k : Kept newer) where
  pub group-is : (m : Mode) → newer.kind ≡ newer_kind m → group_by m newer c g ≡ and_then (finish_table (finished_at g newer c) (lookup numbers g c.groups)) (λ o. laid_by m (lookup numbers g newer.groups) (tombed g newer.tombstones o))
  unfolding group_by laid_by merged_at joined_at merged_group newer_kind
  group-is mode.Append e = unfold finished_at in refl
  group-is mode.Rewrite e = unfold finished_at in refl
  group-is mode.Join e = rw (nothing-finishes g newer c (append-waits newer k e)) (unfold finish_table and_then joined_group in refl)

  -- a part finishes in a Rewrite context alone
  pub finishes-in : (m : Mode) → newer.kind ≡ newer_kind m → c.kind ≡ older_kind m → (f : Finished) → finished_at g newer c ≡ Some f → c.kind ≡ context Rewrite
  unfolding newer_kind older_kind
  finishes-in mode.Append e o f h = absurd (none-some f (sym (nothing-finishes g newer c (append-waits newer k e)) ∙ h))
  finishes-in mode.Rewrite e o f h = o
  finishes-in mode.Join e o f h = o

-- ---- what laying over asks

newer-queue : (m : Mode) → newer_kind m ≡ context (newer_queue m)
unfolding newer_kind newer_queue
newer-queue mode.Append = refl
newer-queue mode.Rewrite = refl
newer-queue mode.Join = refl

pub newer-of : (m : Mode) (newer : Context) (g : ℕ) (t : Table) → Kept newer → newer.kind ≡ newer_kind m → lookup numbers g newer.groups ≡ Some t → AllOf (newer_queue m) t.entries
newer-of m newer g t k e l = queue-table (newer_queue m) newer k (e ∙ newer-queue m) g t l

pub older-of : (m : Mode) (c : Context) (g : ℕ) (xs : List _) (o : Option Table) → Kept c → c.kind ≡ older_kind m → (every of_rewrite (made (lookup numbers g c.groups)).entries ≡ true → every of_rewrite (made o).entries ≡ true) → OlderFor m (tombed g xs o)
unfolding OlderFor older_kind is_rewrite
older-of mode.Append c g xs o k e f = tt
older-of mode.Rewrite c g xs o k e f = tombed-meets is_rewrite g xs o (unfold entry_by in f (own-made c (context Rewrite) k e g))
older-of mode.Join c g xs o k e f = tt

-- a group of a context is within the limits
pub group-room : (g : ℕ) (m : Map ℕ Table) → every (λ p. table_fits p.val) m ≡ true → Within 64 16 (lookup numbers g m)
group-room g m f =
    by_option (lookup numbers g m)
    (λ e. rw e (record { few-entries = unfold made or_else empty_table in omega arith; few-keys = unfold made or_else empty_table in omega arith }))
    (λ t e. rw e (table-room t (every-lookup numbers numbers_lawful (λ p. table_fits p.val) g t m f e)))
