-- Related contexts: merging the newer one into the older one gives the pass.
-- Assumes nothing.
use mathlib.Core.Path.{◌≡◌, refl, sym, ap, ◌∙◌}
use mathlib.Core.Bool.{true, false}
use mathlib.Core.List.{List, [], ◌∷◌, ◌++◌, append-nil}
use Rattle.std.specs.Prelude.{Option, None, Some}
use Prim.Native.Nat.{ℕ}
use Rattle.maps.specs.Lists.{every, first, map_option, or_else}
use Rattle.maps.specs.Maps.{Pair, Map, lookup, numbers}
use Rattle.maps.specs.OrderLaws.{numbers_lawful}
use Rattle.maps.specs.MapLaws.{ascending-nil, laid, every_intro}
use Rattle.rules.specs.Causes.{Ok, in_order}
use Rattle.rules.specs.Items.{Append, EntryIndex}
use Rattle.rules.specs.Checks.{consecutive}
use Rattle.rules.specs.Table.{Table, made, first_index_of}
use Rattle.rules.specs.Context.{context, Part, Context, with_groups, limited}
use Rattle.rules.specs.Calls.{clashes, merge_table, merge}
use Rattle.rules_by_group.specs.Group.{tombed, lay_over}
use Rattle.rules_by_group.specs.Stage.{waiting_after, finished_tombs, merged_rest, merged_at}
use Rattle.rules_by_group.specs.Kept.{entry_by, KeptBy, Kept}
use Rattle.rules_by_group.proofs.KindLaws.{kept_by_lem}
use Rattle.rules_by_group.proofs.ItemLaws.{limited-fits}
use Rattle.rules_by_group.proofs.MergeLaws.{unfinished, merge_of-groups}
use Rattle.rules_by_group.proofs.ByGroupLaws.{kept-accepts, merge-is}
use Rattle.history.proofs.Windows.{no_gap}
use Rattle.history.proofs.Group.{Good, GoodIf, lay, lay-made, merged-entries}
use Rattle.history.proofs.Contexts.{GoodContext, Related}

-- a table that is laid without a gap does not clash
no-clash : (o : Option Table) (t : Table) → consecutive (merge_table Append o t).entries ≡ true → clashes Append o t ≡ false
no-clash o t c = by_entries t.entries refl
  where
    by_entries : (es : List EntryIndex) → t.entries ≡ es → clashes Append o t ≡ false
    by_entries [] e = unfold clashes first_index_of first map_option or_else in rw e
    by_entries (h ∷ es) e = unfold clashes first_index_of first map_option or_else in rw e (no_gap (made o).entries es h (rw (merged-entries o t, e) at c))

good-table : (t : Table) → GoodIf (Some t) → Good t
unfolding GoodIf
good-table t g = g

-- what every Append context is, every context keeps
good-kept : (c : Context) → GoodContext c → Kept c
good-kept c g =
    record {
      groups-ascend = g.ascend;
      waiting-ascends = rw g.none-waits (ascending-nil (List Part) numbers);
      own-items = rw g.none-waits (unfold every in refl);
      shapes = rw g.none-waits (unfold every in refl);
      own-entries = rw g.is-append (every_intro numbers numbers_lawful (λ (x : Pair ℕ Table). every (entry_by (context Append)) x.val.entries) c.groups g.ascend (λ k t e. unfold entry_by in (good-table t (rw e at (g.tables k))).append-entries));
      tombstones-only = g.tombs;
      by_kind = kept_by_lem c (context Append) g.is-append (unfold KeptBy in (g.none-waits, g.cleaned-is));
    }

none-accepted : (newer older : Map ℕ (List Part)) → newer ≡ [] → waiting_after newer older ≡ Ok older
unfolding waiting_after in_order
none-accepted newer older e = rw e

none-finished : (newer older : Map ℕ (List Part)) → newer ≡ [] → finished_tombs newer older ≡ []
unfolding finished_tombs
none-finished newer older e = rw e

-- a newer table that does not clash is laid over
laid-over : (o n : Option Table) → ((t : Table) → n ≡ Some t → clashes Append o t ≡ false) → lay_over Append n o ≡ Ok (lay o n)
unfolding lay_over lay laid
laid-over o None h = refl
laid-over o (Some t) h = rw (h t refl)

module _ (older pass newer : Context) (r : Related older pass newer) where
  abbrev tombed_older : ℕ → Option Table
  tombed_older g = tombed g newer.tombstones (lookup numbers g older.groups)

  none-clash : (g : ℕ) (t : Table) → lookup numbers g newer.groups ≡ Some t → clashes Append (tombed_older g) t ≡ false
  none-clash g t e =
      no-clash (tombed_older g) t
      (good-table (merge_table Append (tombed_older g) t) (rw (r.same-groups g ∙ ap (lay (tombed_older g)) e ∙ lay-made (tombed_older g) t) at (r.good-pass.tables g))).window

  -- each group of the merge is the pass's
  own-merged : (g : ℕ) → merged_at Append newer older g ≡ Ok (lookup numbers g pass.groups)
  own-merged g =
      unfinished Append newer older g r.good-newer.none-waits
      ∙ laid-over (tombed_older g) (lookup numbers g newer.groups) (none-clash g)
      ∙ ap (λ o. Ok o) (sym (r.same-groups g))

  more-tombs : (older.tombstones ++ newer.tombstones) ++ finished_tombs newer.waiting older.waiting ≡ pass.tombstones
  more-tombs =
      ap (λ l. (older.tombstones ++ newer.tombstones) ++ l) (none-finished newer.waiting older.waiting r.good-newer.none-waits)
      ∙ append-nil (older.tombstones ++ newer.tombstones)
      ∙ sym r.same-tombs

  -- the context with the merged groups is the pass
  merged-context : with_groups pass.groups (merged_rest newer older.waiting older) ≡ pass
  unfolding with_groups merged_rest
  merged-context =
      λ i. record {
        kind = (r.good-older.is-append ∙ sym r.good-pass.is-append) i;
        groups = pass.groups;
        tombstones = more-tombs i;
        cleaned = sym r.same-cleaned i;
        waiting = (r.good-older.none-waits ∙ sym r.good-pass.none-waits) i;
      }

  -- merging the newer context into the older one gives the pass
  pub merge-related : merge newer older ≡ Ok pass
  merge-related =
      let kn = good-kept newer r.good-newer in
      let ko = good-kept older r.good-older in
      merge-is Append newer older r.good-newer.is-append r.good-older.is-append
      ∙ merge_of-groups Append newer older kn ko r.good-newer.is-append (kept-accepts newer older kn ko) older.waiting pass.groups (none-accepted newer.waiting older.waiting r.good-newer.none-waits) r.good-pass.ascend own-merged
      ∙ ap (limited None) merged-context
      ∙ limited-fits None pass r.good-pass.within
