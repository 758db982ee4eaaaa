-- A join group by group.
-- Assumes nothing.
use Rattle.std.specs.Prelude.{◌≡◌, refl, false, ℕ}
use Rattle.std.proofs.Math.Path.{sym, ap}
use Rattle.std.proofs.Common.{◌∙◌}
use mathlib.Core.List.{List, [], ◌∷◌, ◌++◌, map}
use Rattle.std.specs.Prelude.{Option, None, Some}
use Rattle.maps.specs.Lists.{any, or_else}
use Rattle.maps.specs.Maps.{Pair, Map, lookup, merge_with, numbers}
use Rattle.maps.specs.MapLaws.{laid}
use Rattle.rules.specs.Causes.{Cause, WrongKind, Refusal, Result, Ok, Err, and_then}
use Rattle.rules.specs.Items.{Append, same_queue, live_append, writes, is_live_rewrite}
use Rattle.rules.specs.Table.{Table}
use Rattle.rules.specs.Context.{context, index, Context, with_groups, limited}
use Rattle.rules.specs.Calls.{join_table, index_of, join_contexts}
use Rattle.rules_by_group.specs.Group.{tombed, joined_group}
use Rattle.rules_by_group.specs.Stage.{joined_rest, joined_at, joined_by, is_in, Covers}
use Rattle.rules_by_group.specs.Kept.{Kept}
use Rattle.rules_by_group.proofs.KindLaws.{append-cleaned}
use Rattle.rules_by_group.proofs.ResultLaws.{refused_not_ok, and_then_of, and_then_same, and_then-assoc, and_then-map}
use Rattle.rules_by_group.proofs.DeedLaws.{Deed, do_all, do-append, deeds_of, own, own-append, own-map, ByGroup, by_group-ext, deeds_by-group}
use Rattle.rules_by_group.proofs.ItemLaws.{tomb_deed, own-tombs, cleans_by, replayed_to, tombs-replayed, tombed-other}
use Rattle.rules_by_group.proofs.LayLaws.{lay_by, lay_all, lookup_uncovered}
use Rattle.rules_by_group.proofs.StageLaws.{staged}

-- an Append table is laid over or adopted, never refused
abbrev joins : ℕ → Table → Option Table → Result (Option Table)
joins = lay_by (λ o t. false) (record { cause = WrongKind; place = None }) join_table

never : (xs : Map ℕ Table) → any (λ (p : Pair ℕ Table). false) xs ≡ false
unfolding any
never [] = refl
never (x ∷ xs) = never xs

abbrev join_deeds : Context → List (Deed Table)
join_deeds newer = map tomb_deed newer.tombstones ++ deeds_of joins newer.groups

joins-laid : (g : ℕ) (n : Option Table) (o : Option Table) → or_else (Ok o) (λ t. joins g t o) n ≡ Ok (laid join_table o n)
unfolding or_else laid lay_by
joins-laid g None o = refl
joins-laid g (Some t) o = refl

module _ (newer c : Context) (kn : Kept newer) (kc : Kept c) (is : newer.kind ≡ context Append) where
  cleaned-is : cleans_by live_append newer.tombstones ≡ newer.cleaned
  unfolding cleans_by writes same_queue
  cleaned-is = sym (append-cleaned newer kn is)

  own-joined : (g : ℕ) → joined_at newer c g ≡ own g (join_deeds newer) (lookup numbers g c.groups)
  unfolding joined_at joined_group
  own-joined g =
      sym
      (own-append g (map tomb_deed newer.tombstones) (deeds_of joins newer.groups) (lookup numbers g c.groups)
      ∙ and_then_of (own g (map tomb_deed newer.tombstones) (lookup numbers g c.groups)) (own g (deeds_of joins newer.groups)) (tombed g newer.tombstones (lookup numbers g c.groups)) (own-tombs g newer.tombstones (lookup numbers g c.groups))
      ∙ own-map joins g newer.groups (tombed g newer.tombstones (lookup numbers g c.groups)) kn.groups-ascend
      ∙ joins-laid g (lookup numbers g newer.groups) (tombed g newer.tombstones (lookup numbers g c.groups)))

  abbrev from_groups : Map ℕ Table → Result Context
  from_groups n = limited None (with_groups n (joined_rest newer c))

  index_is : (m n : Map ℕ Table) → index_of n (replayed_to (cleans_by live_append newer.tombstones) c m) ≡ with_groups n (joined_rest newer c)
  unfolding index_of with_groups joined_rest
  index_is m n = λ i. record { kind = index; groups = n; tombstones = []; cleaned = c.cleaned ++ cleaned-is i; waiting = [] }

  all_laid : (m : Map ℕ Table) → do_all (deeds_of joins newer.groups) m ≡ Ok (merge_with numbers join_table m newer.groups)
  all_laid m = lay_all (λ o t. false) (record { cause = WrongKind; place = None }) join_table newer.groups m kn.groups-ascend ∙ rw (never newer.groups)

  -- the tables are laid over what the tombstones left
  laid_then : (m : Map ℕ Table) → limited None (index_of (merge_with numbers join_table m newer.groups) (replayed_to (cleans_by live_append newer.tombstones) c m)) ≡ and_then (do_all (deeds_of joins newer.groups) m) from_groups
  laid_then m =
      ap (limited None) (index_is m (merge_with numbers join_table m newer.groups))
      ∙ sym (and_then_of (do_all (deeds_of joins newer.groups) m) from_groups (merge_with numbers join_table m newer.groups) (all_laid m))

  pub joined_deeds : join_contexts newer c ≡ and_then (do_all (join_deeds newer) c.groups) from_groups
  unfolding join_contexts
  joined_deeds =
      let tombs = do_all (map tomb_deed newer.tombstones) c.groups in
      let index-of : Context → Result Context = λ d. limited None (index_of (merge_with numbers join_table d.groups newer.groups) d) in
      let after-tombs = replayed_to (cleans_by live_append newer.tombstones) c in
      ap (λ r. and_then r index-of) (tombs-replayed live_append (unfold is_live_rewrite in refl) newer.tombstones c kc.groups-ascend kn.tombstones-only)
      ∙ and_then-map tombs after-tombs index-of
      ∙ and_then_same tombs (λ m. index-of (after-tombs m)) (λ m. and_then (do_all (deeds_of joins newer.groups) m) from_groups) laid_then
      ∙ sym (and_then-assoc tombs (do_all (deeds_of joins newer.groups)) from_groups)
      ∙ ap (λ r. and_then r from_groups) (sym (do-append (map tomb_deed newer.tombstones) (deeds_of joins newer.groups) c.groups))

  joined-out : (gs : List ℕ) → Covers gs newer c → (g : ℕ) → is_in g gs ≡ false → joined_at newer c g ≡ Ok None
  unfolding joined_at joined_group laid
  joined-out gs v g n =
      rw (lookup_uncovered gs g newer.groups v.newer-groups n, lookup_uncovered gs g c.groups v.older-groups n, tombed-other (λ k. is_in k gs) g newer.tombstones None v.newer-tombstones n)

  never-refused : (g : ℕ) (x : Refusal) → joined_at newer c g ≡ Err x → ⊥
  unfolding joined_at
  never-refused g x e = refused_not_ok (sym e)

  joined_by-group : ByGroup (joined_at newer c) (do_all (join_deeds newer) c.groups)
  joined_by-group =
      by_group-ext (joined_at newer c) (λ g. own g (join_deeds newer) (lookup numbers g c.groups)) (do_all (join_deeds newer) c.groups) own-joined (deeds_by-group (join_deeds newer) c.groups kc.groups-ascend)

  -- over any list of numbers that covers, the join is the answer read off the staged groups
  pub join_contexts_by-group : (n : Cause) (gs : List ℕ) → Covers gs newer c → join_contexts newer c ≡ joined_by n newer c gs
  unfolding joined_by
  join_contexts_by-group n gs v =
      joined_deeds
      ∙ staged (joined_at newer c) (do_all (join_deeds newer) c.groups) gs n (joined_rest newer c) joined_by-group (λ g x e. absurd (never-refused g x e)) (joined-out gs v)
