-- The ways of keeping the tombstones among the items that finish. Assumes nothing.
use mathlib.Core.Bool.{true, false}
use mathlib.Core.List.{List, [], ◌∷◌, ◌++◌, append-nil, append_assoc}
use Rattle.std.specs.Prelude.{None, Option, Some}
use mathlib.Core.Path.{◌≡◌, refl, sym, ap, ◌∙◌, subst}
use Prim.Native.Nat.{ℕ, suc, ◌+◌, ◌*◌, ◌≤◌, ◌<◌}
use native.Mathlib.Omega.{arith}
use lib.ListN.{length, get_or, drop, length-append}
use Rattle.cells.specs.Part.{part}
use Rattle.maps.specs.BoolLaws.{clash}
use Rattle.maps.specs.Lists.{or_else}
use Rattle.maps.specs.ListLaws.{select-append}
use Rattle.maps.specs.Maps.{Map, lookup, numbers}
use Rattle.maps.specs.MapLaws.{pair}
use Rattle.rules.specs.Items as rules
use Rattle.rules.specs.Context.{Part, Context, with_tombstones}
use Rattle.rules_by_group.specs.Group.{finished_of}
use Rattle.rules_by_group.specs.Stage.{tombs_in, finished_tombs}
use Rattle.log_batch.specs.declared.item.LogItem.{LogItem}
use Rattle.log_batch.specs.declared.item.LogItemContent as content
use Rattle.log_batch.specs.Lent.{item_of, content_of}
use Rattle.stores.specs.declared.Store.{Store}
use Rattle.stores.specs.Stores.{Area, Stored, ItemAt}
use Rattle.stores.specs.Tags.{store_tagged, items_with}
use Rattle.stores.specs.Written.{count_of}
use Rattle.lists.specs.Rest.{tombstones_in, rest_of}
use Rattle.lists.specs.Rest as lists
use Rattle.lists.specs.Calls.{TombstonesAdded}
use Rattle.lists.specs.Laws.{lengths, behind-then, keeps_all, keeps_then}
use Rattle.room.specs.Layout.{waiting_of, tagged, RoomWf}
use Rattle.parts.specs.declared.Ending.{Ending}
use Rattle.parts.specs.Finishings.{finished_as}
use Rattle.parts.specs.Finals.{tombs_of, finished_in, Keeping}
use Rattle.parts.specs.Walks.{beyond_of, Least, LeastAt}
use Rattle.parts.specs.ItemLaws.{here-is, past_is, end_is, an_item}
use Rattle.parts.proofs.WalkWays.{walked_all, none_left, next-group, lookup-group}
use Rattle.parts.proofs.FinalWays.{tomb-in, tomb-out, no-tombs, tombs-nil}

-- ---- tombstones added one after the other

pub added_none : (ys cs : List ℕ) → lists.Wf ys cs → TombstonesAdded [] ys cs ys cs
added_none ys cs w =
    record {
      rest = rw (append-nil (tombstones_in ys cs)) (unfold rest_of with_tombstones in refl);
      keeps = keeps_all ys cs;
      behind = record { numbers = refl; bytes = refl };
      wf = w;
    }

-- the tombstones afterwards
tombs-after : (a : List rules.LogItem) (ys cs ys' cs' : List ℕ) → TombstonesAdded a ys cs ys' cs' → tombstones_in ys' cs' ≡ tombstones_in ys cs ++ a
unfolding rest_of with_tombstones
tombs-after a ys cs ys' cs' k = ap (λ (c : Context). c.tombstones) k.rest

with-twice : (l m : List rules.LogItem) (c : Context) → with_tombstones l (with_tombstones m c) ≡ with_tombstones l c
unfolding with_tombstones
with-twice l m c = refl

pub added_then : (a b : List rules.LogItem) (ys cs ys' cs' ys'' cs'' : List ℕ) → TombstonesAdded a ys cs ys' cs' → TombstonesAdded b ys' cs' ys'' cs'' → TombstonesAdded (a ++ b) ys cs ys'' cs''
added_then a b ys cs ys' cs' ys'' cs'' k n =
    record {
      rest =
          n.rest
          ∙ ap (λ (c : Context). with_tombstones (tombstones_in ys' cs' ++ b) c) k.rest
          ∙ with-twice (tombstones_in ys' cs' ++ b) (tombstones_in ys cs ++ a) (rest_of ys cs)
          ∙ ap (λ (l : List rules.LogItem). with_tombstones l (rest_of ys cs)) (ap (λ (l : List rules.LogItem). l ++ b) (tombs-after a ys cs ys' cs' k) ∙ append_assoc (tombstones_in ys cs) a b);
      keeps = keeps_then ys cs ys' cs' ys'' cs'' k.keeps n.keeps;
      behind = behind-then ys cs ys' cs' ys'' cs'' k.behind n.behind;
      wf = n.wf;
    }

count-after : (a : List rules.LogItem) (ys cs ys' cs' : List ℕ) → lists.Wf ys cs → TombstonesAdded a ys cs ys' cs' → get_or ys' 1 0 ≡ get_or ys 1 0 + length a
count-after a ys cs ys' cs' w k =
    let p = (lengths ys' cs' k.wf).0 in
    let q = (lengths ys cs w).0 in
    let r = length-append (tombstones_in ys cs) a in
    let s : length (tombstones_in ys' cs') ≡ length (tombstones_in ys cs ++ a) = ap length (tombs-after a ys cs ys' cs' k) in
    omega (arith, p, q, r, s)

-- ---- the items of a tag

pub no_entries : (x : content.LogItemContent) (es bs : List ℕ) → rules.is_tombstone (content_of x es bs) ≡ true → count_of x ≡ 0
unfolding rules.is_tombstone content_of
no_entries (content.TheVariants.EntryIndexes e) es bs h = absurd (clash h)
no_entries (content.TheVariants.Command c) es bs h = refl
no_entries (content.TheVariants.Kv k) es bs h = refl

pub keeping_none : (xs : List rules.LogItem) (ys cs : List ℕ) → lists.Wf ys cs → Keeping xs xs ys cs ys cs
keeping_none xs ys cs w = record { front = []; splits = refl; added = added_none ys cs w }

pub keeping_then : (xs rest more : List rules.LogItem) (ys cs ys' cs' ys'' cs'' : List ℕ) → Keeping xs rest ys cs ys' cs' → Keeping rest more ys' cs' ys'' cs'' → Keeping xs more ys cs ys'' cs''
keeping_then xs rest more ys cs ys' cs' ys'' cs'' k n =
    record {
      front = k.front ++ n.front;
      splits = k.splits ∙ ap (λ (l : List rules.LogItem). k.front ++ l) n.splits ∙ sym (append_assoc k.front n.front (tombs_of more));
      added = added_then k.front n.front ys cs ys' cs' ys'' cs'' k.added n.added;
    }

pub keeping_room : (xs rest : List rules.LogItem) (ys cs ys' cs' : List ℕ) → lists.Wf ys cs → get_or ys 1 0 + length (tombs_of xs) ≤ 64 → Keeping xs rest ys cs ys' cs' → get_or ys' 1 0 + length (tombs_of rest) ≤ 64
keeping_room xs rest ys cs ys' cs' w h k =
    let p = count-after k.front ys cs ys' cs' w k.added in
    let q = length-append k.front (tombs_of rest) in
    let r : length (tombs_of xs) ≡ length (k.front ++ tombs_of rest) = ap length k.splits in
    omega (arith, h, p, q, r)

keeping_all : (xs rest : List rules.LogItem) (ys cs ys' cs' : List ℕ) → rest ≡ [] → Keeping xs rest ys cs ys' cs' → TombstonesAdded (tombs_of xs) ys cs ys' cs'
keeping_all xs rest ys cs ys' cs' e k =
    let q : tombs_of xs ≡ k.front = k.splits ∙ ap (λ (l : List rules.LogItem). k.front ++ l) (ap tombs_of e ∙ no-tombs) ∙ append-nil k.front in
    subst (λ (l : List rules.LogItem). TombstonesAdded l ys cs ys' cs') (sym q) k.added

module _ (s : Store) (a : Area) (ts : List ℕ) (v : Stored s a) (n : s.items ≤ length ts) (t j : ℕ) (l : j < s.items) (ys cs : List ℕ) (w : lists.Wf ys cs) where
  abbrev rest : ℕ → List rules.LogItem
  rest i = items_with t (drop i (store_tagged s a ts))

  pub keep_past : (get_or ts j 0 ≡ t → ⊥) → Keeping (rest j) (rest (j + 1)) ys cs ys cs
  keep_past e = record { front = []; splits = ap tombs_of (past_is s a ts v n t j l an_item e); added = added_none ys cs w }

  module _ (it : LogItem) (at : ItemAt s a j it) (e : get_or ts j 0 ≡ t) where
    abbrev x : rules.LogItem
    x = item_of it a.entries a.bytes

    pub keep_not : rules.is_tombstone (content_of it.content a.entries a.bytes) ≡ false → Keeping (rest j) (rest (j + 1)) ys cs ys cs
    keep_not f =
        record {
          front = [];
          splits = ap tombs_of (here-is s a ts v n t j l an_item it at e) ∙ tomb-out x (rest (j + 1)) (unfold item_of in f);
          added = added_none ys cs w;
        }

    module _ (f : rules.is_tombstone (content_of it.content a.entries a.bytes) ≡ true) where
      here : tombs_of (rest j) ≡ x ∷ tombs_of (rest (j + 1))
      here = ap tombs_of (here-is s a ts v n t j l an_item it at e) ∙ tomb-in x (rest (j + 1)) (unfold item_of in f)

      pub keep_room : get_or ys 1 0 + length (tombs_of (rest j)) ≤ 64 → get_or ys 1 0 < 64
      keep_room h = let q : length (tombs_of (rest j)) ≡ suc (length (tombs_of (rest (j + 1)))) = ap length here in omega (arith, h, q)

      pub keep_one : (ys' cs' : List ℕ) → TombstonesAdded (x ∷ []) ys cs ys' cs' → Keeping (rest j) (rest (j + 1)) ys cs ys' cs'
      keep_one ys' cs' k = record { front = x ∷ []; splits = here; added = k }

pub kept_tag : (s : Store) (a : Area) (ts : List ℕ) → Stored s a → s.items ≤ length ts → (t j : ℕ) (ys cs ys' cs' : List ℕ) → s.items ≤ j → Keeping (items_with t (store_tagged s a ts)) (items_with t (drop j (store_tagged s a ts))) ys cs ys' cs' → TombstonesAdded (tombs_of (items_with t (store_tagged s a ts))) ys cs ys' cs'
kept_tag s a ts v n t j ys cs ys' cs' h k = keeping_all _ _ ys cs ys' cs' (end_is s a ts v n t j an_item h) k

-- ---- a group

module _ (g : ℕ) (ws vs us ds : List ℕ) (w : RoomWf 16 ws vs) (u : RoomWf 16 us ds) (r : Option Ending) (is : (ys es : List ℕ) → RoomWf 16 ws ys → RoomWf 16 us es → finished_in g ws ys us es ≡ finished_as r (tagged ws ys) (tagged us es)) (ys cs : List ℕ) (f : lists.Wf ys cs) where
  none-there : r ≡ None → tombs_in (finished_in g ws vs us ds) ≡ []
  unfolding tombs_in
  none-there e = rw (is vs ds w u, e) (unfold finished_as or_else in refl)

  pub kept_none : r ≡ None → TombstonesAdded (tombs_in (finished_in g ws vs us ds)) ys cs ys cs
  kept_none e = subst (λ (l : List rules.LogItem). TombstonesAdded l ys cs ys cs) (sym (none-there e)) (added_none ys cs f)

  module _ (e : Ending) (q : r ≡ Some e) where
    abbrev older : List rules.LogItem
    older = tombs_of (items_with e.older (tagged ws vs))

    abbrev newer : List rules.LogItem
    newer = tombs_of (items_with e.newer (tagged us ds))

    some-there : tombs_in (finished_in g ws vs us ds) ≡ older ++ newer
    unfolding tombs_in tombs_of
    some-there = rw (is vs ds w u, q) (unfold finished_as or_else in select-append (λ (it : rules.LogItem). rules.is_tombstone it.content) (items_with e.older (tagged ws vs)) (items_with e.newer (tagged us ds)))

    module _ (h : get_or ys 1 0 + length (tombs_in (finished_in g ws vs us ds)) ≤ 64) where
      sums : length (tombs_in (finished_in g ws vs us ds)) ≡ length older + length newer
      sums = ap length some-there ∙ length-append older newer

      pub older_room : get_or ys 1 0 + length older ≤ 64
      older_room = let s = sums in omega (arith, h, s)

      module _ (ys' cs' : List ℕ) (k : TombstonesAdded older ys cs ys' cs') where
        pub newer_room : get_or ys' 1 0 + length newer ≤ 64
        newer_room = let s = sums in let p = count-after older ys cs ys' cs' f k in omega (arith, h, s, p)

        pub kept_both : (ys'' cs'' : List ℕ) → TombstonesAdded newer ys' cs' ys'' cs'' → TombstonesAdded (tombs_in (finished_in g ws vs us ds)) ys cs ys'' cs''
        kept_both ys'' cs'' m = subst (λ (l : List rules.LogItem). TombstonesAdded l ys cs ys'' cs'') (sym some-there) (added_then older newer ys cs ys' cs' ys'' cs'' k m)

-- ---- all groups

-- those of the groups so far are kept
pub record KeepingAll (b : Option ℕ) (ws vs us ds ys cs ys' cs' : List ℕ) : Type 0 where
  pub front : List rules.LogItem
  pub whole : finished_tombs (waiting_of us ds) (waiting_of ws vs) ≡ front ++ finished_tombs (beyond_of b (waiting_of us ds)) (waiting_of ws vs)
  pub added : TombstonesAdded front ys cs ys' cs'
  pub room : get_or ys' 1 0 + length (finished_tombs (beyond_of b (waiting_of us ds)) (waiting_of ws vs)) ≤ 64

tombs-cons : (g : ℕ) (ps : List Part) (w o : Map ℕ (List Part)) → finished_tombs (pair g ps ∷ w) o ≡ tombs_in (finished_of (Some ps) (lookup numbers g o)) ++ finished_tombs w o
unfolding finished_tombs
tombs-cons g ps w o = refl

module _ (ws vs us ds : List ℕ) (u : RoomWf 16 us ds) (ys cs : List ℕ) (f : lists.Wf ys cs) where
  abbrev all : List rules.LogItem
  all = finished_tombs (waiting_of us ds) (waiting_of ws vs)

  pub keeping_start : get_or ys 1 0 + length all ≤ 64 → KeepingAll None ws vs us ds ys cs ys cs
  keeping_start h =
      let q = walked_all (waiting_of us ds) in
      record { front = []; whole = rw q; added = added_none ys cs f; room = rw q h }

  module _ (b : Option ℕ) (ys' cs' : List ℕ) (c : KeepingAll b ws vs us ds ys cs ys' cs') where
    pub kept_all : Least b 16 (part 2 160 us) None → TombstonesAdded all ys cs ys' cs'
    kept_all l =
        let q : all ≡ c.front = c.whole ∙ ap (λ (l : List rules.LogItem). c.front ++ l) (ap (λ (m : Map ℕ (List Part)). finished_tombs m (waiting_of ws vs)) (none_left b us ds u l) ∙ tombs-nil (waiting_of ws vs)) ∙ append-nil c.front in
        subst (λ (l : List rules.LogItem). TombstonesAdded l ys cs ys' cs') (sym q) c.added

    module _ (k : ℕ) (l : LeastAt b 16 (part 2 160 us) k) (g : ℕ) (e : g ≡ get_or us (2 + k * 10 + 1) 0) where
      group_here : finished_tombs (beyond_of b (waiting_of us ds)) (waiting_of ws vs) ≡ tombs_in (finished_in g ws vs us ds) ++ finished_tombs (beyond_of (Some g) (waiting_of us ds)) (waiting_of ws vs)
      group_here =
          ap (λ (m : Map ℕ (List Part)). finished_tombs m (waiting_of ws vs)) (next-group b us ds u k l g e)
          ∙ tombs-cons g _ _ (waiting_of ws vs)
          ∙ ap (λ (o : Option (List Part)). tombs_in (finished_of o (lookup numbers g (waiting_of ws vs))) ++ finished_tombs (beyond_of (Some g) (waiting_of us ds)) (waiting_of ws vs)) (sym (lookup-group b us ds u k l g e))

      group-sums : length (finished_tombs (beyond_of b (waiting_of us ds)) (waiting_of ws vs)) ≡ length (tombs_in (finished_in g ws vs us ds)) + length (finished_tombs (beyond_of (Some g) (waiting_of us ds)) (waiting_of ws vs))
      group-sums = ap length group_here ∙ length-append (tombs_in (finished_in g ws vs us ds)) _

      pub group_fits : get_or ys' 1 0 + length (tombs_in (finished_in g ws vs us ds)) ≤ 64
      group_fits = let s = group-sums in let r = c.room in omega (arith, s, r)

      pub kept_more : (ys'' cs'' : List ℕ) → TombstonesAdded (tombs_in (finished_in g ws vs us ds)) ys' cs' ys'' cs'' → KeepingAll (Some g) ws vs us ds ys cs ys'' cs''
      kept_more ys'' cs'' k =
          let s = group-sums in
          let r = c.room in
          let p = count-after (tombs_in (finished_in g ws vs us ds)) ys' cs' ys'' cs'' c.added.wf k in
          record {
            front = c.front ++ tombs_in (finished_in g ws vs us ds);
            whole = c.whole ∙ ap (λ (x : List rules.LogItem). c.front ++ x) group_here ∙ sym (append_assoc c.front (tombs_in (finished_in g ws vs us ds)) _);
            added = added_then c.front (tombs_in (finished_in g ws vs us ds)) ys cs ys' cs' ys'' cs'' c.added k;
            room = omega (arith, s, r, p);
          }
