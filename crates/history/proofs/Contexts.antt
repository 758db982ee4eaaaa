-- Append contexts: what an accepted step does, and the relation of one pass, an older context and the newer context that is merged into it.
-- Assumes nothing.
use mathlib.Core.Path.{◌≡◌, refl, sym, ap, ◌∙◌}
use mathlib.Core.Logic.{◌⊎◌, ⊎_elim}
use mathlib.Core.Bool.{Bool, true, false, cond, ◌&&◌, true≢false, false≢true}
use mathlib.Core.List.{List, [], ◌∷◌, ◌++◌, append_assoc, append-nil}
use Rattle.std.specs.Prelude.{Option, None, Some}
use Prim.Native.Nat.{ℕ, ◌≤◌}
use native.Mathlib.Omega.{arith}
use lib.Dec.{leb, eqb}
use lib.ListN.{length, length-append}
use borrow.Author.Tests.{leb-true, le-leb, eqb-true, eq-eqb, ne_eqb, eqb-false}
use Rattle.maps.specs.Lists.{every, sum}
use Rattle.maps.specs.Maps.{Pair, Map, lookup, store, numbers, bytes}
use Rattle.maps.specs.OrderLaws.{split, numbers_lawful, bytes_lawful}
use Rattle.maps.specs.MapLaws.{Ascending, laid, ascending-nil, ascending-store, lookup-store, every_intro, every-lookup, length-sub, length-newer}
use Rattle.rules.specs.Limits.{max_groups, max_entries, max_keys, max_tombstones, max_cleaned}
use Rattle.rules.specs.Causes.{Ok}
use Rattle.rules.specs.Items.{Append, same_queue, put, del, Content, entries, command, kv, LogItem, Placed, is_reserved, is_tombstone, writes, replay_append}
use Rattle.rules.specs.Table.{Table, made, over_keys}
use Rattle.rules.specs.Context.{context, Context, fresh, table_fits, waiting_fits, fits, limited, keeps, step}
use Rattle.rules.specs.Calls.{merge_table}
use Rattle.maps.specs.BoolLaws.{both_left, both_right, both}
use Rattle.rules_by_group.specs.Group.{changed, effect, effected, tombed, tomb_of, clean_of, cleans_of}
use Rattle.rules_by_group.specs.Kept.{all_tombstones}
use Rattle.rules_by_group.proofs.ItemLaws.{cleaned_by, kept_by, after, step_of, limited-fits, step-taken}
use Rattle.rules_by_group.proofs.RunLaws.{cleans-append, clean_tomb, tombs-append, tombs-nil, every_tomb}
use Rattle.rules_by_group.proofs.ResultLaws.{ok_inj}
use Rattle.history.proofs.Basics.{some-not-none, cond_same}
use Rattle.history.proofs.Windows.{length_over}
use Rattle.history.proofs.Group.{Good, GoodIf, Fit, Leaves, lay, lay-made, merged-entries, merged-keys, Simulated, simulate, good-change, good-effect}

-- ---- items, a reserved one being skipped

unfoldable pub FitIf : Content → Type 0
FitIf x = (is_reserved x ≡ true) ⊎ Fit x

-- ---- what every Append context is

pub record GoodContext (c : Context) : Type 0 where
  pub is-append : c.kind ≡ context Append
  pub none-waits : c.waiting ≡ []
  pub ascend : Ascending numbers c.groups
  pub tables : (g : ℕ) → GoodIf (lookup numbers g c.groups)
  pub cleaned-is : c.cleaned ≡ cleans_of c.tombstones
  pub tombs : all_tombstones c.tombstones ≡ true
  pub within : fits c ≡ true

good-changed : (x : Content) (o t : Option Table) → GoodIf o → FitIf x → changed replay_append x o ≡ Ok t → GoodIf t
unfolding FitIf changed
good-changed x o t g f h =
    split (is_reserved x)
    (λ e. rw (ok_inj (rw e at h)) at g)
    (λ e. ⊎_elim (λ (u : is_reserved x ≡ true). absurd (true≢false (sym u ∙ e))) (λ (u : Fit x). good-change x o t g u (rw e at h)) f)

-- the tables after a store
tables-store : (k : ℕ) (t : Option Table) (m : Map ℕ Table) → Ascending numbers m → ((g : ℕ) → GoodIf (lookup numbers g m)) → GoodIf t → (g : ℕ) → GoodIf (lookup numbers g (store numbers k t m))
tables-store k t m asc tables gt g =
    rw (lookup-store numbers numbers_lawful g k t m asc)
    (split (eqb g k) (λ e. rw e gt) (λ e. rw e (tables g)))

-- an accepted step leaves a good context
pub good_step : (x : Placed) (c d : Context) → GoodContext c → FitIf x.item.content → step limited replay_append x c ≡ Ok d → GoodContext d
good_step x c d g f h =
    let s = step-taken replay_append x c d g.ascend h in
    rw s.2 (good-after s.0 s.1 (rw s.2 at s.3))
  where
    good-after : (t : Option Table) → changed replay_append x.item.content (lookup numbers x.item.group c.groups) ≡ Ok t → fits (after replay_append x.item t c) ≡ true → GoodContext (after replay_append x.item t c)
    good-after t e w =
        record {
          is-append = unfold after kept_by cleaned_by keeps writes same_queue in g.is-append;
          none-waits = unfold after kept_by cleaned_by keeps writes same_queue in g.none-waits;
          ascend = unfold after kept_by cleaned_by keeps writes same_queue in ascending-store numbers numbers_lawful x.item.group t c.groups g.ascend;
          tables = unfold after kept_by cleaned_by keeps writes same_queue in tables-store x.item.group t c.groups g.ascend g.tables (good-changed x.item.content (lookup numbers x.item.group c.groups) t (g.tables x.item.group) f e);
          cleaned-is = unfold after kept_by cleaned_by keeps writes same_queue in (ap (λ l. l ++ clean_of x.item) g.cleaned-is ∙ ap (λ l. cleans_of c.tombstones ++ l) (sym (clean_tomb x.item)) ∙ sym (cleans-append c.tombstones (tomb_of x.item)));
          tombs = unfold after kept_by cleaned_by keeps writes same_queue in tombs-append c.tombstones (tomb_of x.item) g.tombs (every_tomb x.item);
          within = w;
        }

pub good-fresh : GoodContext (fresh Append)
unfolding fresh lookup GoodIf cleans_of every fits waiting_fits sum
good-fresh =
    record {
      is-append = refl;
      none-waits = refl;
      ascend = ascending-nil Table numbers;
      tables = λ g. tt;
      cleaned-is = refl;
      tombs = tombs-nil;
      within = refl;
    }

-- ---- the newer table takes what the laid one takes

leaves_reserved : (x : Content) (o : Option Table) → is_reserved x ≡ true → Leaves x o
unfolding is_reserved Leaves
leaves_reserved (entries es) o h = absurd (false≢true h)
leaves_reserved (command c) o h = absurd (false≢true h)
leaves_reserved (kv k c) o h = tt

pub record SimulatedIf (x : Content) (o n s : Option Table) : Type 0 where
  pub next : Option Table
  pub taken : changed replay_append x n ≡ Ok next
  pub again : s ≡ lay (effected x o) next
  pub leaves : Leaves x n

pub simulate_if : (x : Content) (o n s : Option Table) → GoodIf o → GoodIf n → FitIf x → Leaves x (lay o n) → changed replay_append x (lay o n) ≡ Ok s → SimulatedIf x o n s
unfolding FitIf changed effected
simulate_if x o n s go gn f l h = split (is_reserved x) skipped taken
  where
    skipped : is_reserved x ≡ true → SimulatedIf x o n s
    skipped e =
        record { next = n; taken = rw e; again = rw e (sym (ok_inj (rw e at h))); leaves = leaves_reserved x n e }

    done : is_reserved x ≡ false → Simulated x o n s → SimulatedIf x o n s
    done e t = record { next = t.next; taken = rw e t.taken; again = rw e t.again; leaves = t.leaves }

    taken : is_reserved x ≡ false → SimulatedIf x o n s
    taken e =
        ⊎_elim (λ (u : is_reserved x ≡ true). absurd (true≢false (sym u ∙ e))) (λ (u : Fit x). done e (simulate x o n s go gn u l (rw e at h))) f

good-effected : (x : Content) (o : Option Table) → GoodIf o → GoodIf (effected x o)
unfolding effected
good-effected x o g = split (is_reserved x) (λ e. rw e g) (λ e. rw e (good-effect x o g))

-- ---- tombstones of the newer context, on the older context's group

tombed-append : (g : ℕ) (xs ys : List LogItem) (o : Option Table) → tombed g (xs ++ ys) o ≡ tombed g ys (tombed g xs o)
unfolding tombed
tombed-append g [] ys o = refl
tombed-append g (x ∷ xs) ys o = tombed-append g xs ys (cond (eqb x.group g) (effected x.content o) o)

-- what is no tombstone leaves the older table
no-effect : (x : Content) (o : Option Table) → is_tombstone x ≡ false → effected x o ≡ o
unfolding is_tombstone effected effect
no-effect (entries es) o h = unfold is_reserved in refl
no-effect (command c) o h = absurd (true≢false h)
no-effect (kv k del) o h = absurd (true≢false h)
no-effect (kv k (put v f)) o h = split (is_reserved (kv k (put v f))) (λ e. rw e) (λ e. rw e)

tombed_step : (g : ℕ) (xs : List LogItem) (it : LogItem) (o : Option Table) → tombed g (xs ++ tomb_of it) o ≡ cond (eqb it.group g) (effected it.content (tombed g xs o)) (tombed g xs o)
unfolding tomb_of
tombed_step g xs it o =
    tombed-append g xs (tomb_of it) o
    ∙ split (is_tombstone it.content)
    (λ e. rw e (unfold tombed in refl))
    (λ e. rw (e, no-effect it.content (tombed g xs o) e, cond_same (eqb it.group g) (tombed g xs o)) (unfold tombed in refl))

good-tombed : (g : ℕ) (xs : List LogItem) (o : Option Table) → GoodIf o → GoodIf (tombed g xs o)
unfolding tombed
good-tombed g [] o h = h
good-tombed g (x ∷ xs) o h =
    good-tombed g xs (cond (eqb x.group g) (effected x.content o) o)
    (split (eqb x.group g) (λ e. rw e (good-effected x.content o h)) (λ e. rw e h))

-- ---- one pass from the older context, and the newer context that took the same items

pub record Related (older pass newer : Context) : Type 0 where
  pub good-older : GoodContext older
  pub good-pass : GoodContext pass
  pub good-newer : GoodContext newer
  pub same-tombs : pass.tombstones ≡ older.tombstones ++ newer.tombstones
  pub same-cleaned : pass.cleaned ≡ older.cleaned ++ newer.cleaned
  pub same-groups : (g : ℕ) → lookup numbers g pass.groups ≡ lay (tombed g newer.tombstones (lookup numbers g older.groups)) (lookup numbers g newer.groups)

pub related-start : (c : Context) → GoodContext c → Related c c (fresh Append)
related-start c g =
    record {
      good-older = g;
      good-pass = g;
      good-newer = good-fresh;
      same-tombs = unfold fresh in sym (append-nil c.tombstones);
      same-cleaned = unfold fresh in sym (append-nil c.cleaned);
      same-groups = λ k. unfold fresh lay laid tombed lookup in refl;
    }

-- ---- limits: what is newer is no larger

pub record Fits (c : Context) : Type 0 where
  pub few-groups : length c.groups ≤ max_groups
  pub small-tables : every (λ (p : Pair ℕ Table). table_fits p.val) c.groups ≡ true
  pub few-tombs : length c.tombstones ≤ max_tombstones
  pub few-cleaned : length c.cleaned ≤ max_cleaned
  pub few-waiting : waiting_fits c.waiting ≡ true

five : (a b c d e : Bool) → (a && b && c && d && e) ≡ true → (a ≡ true) × (b ≡ true) × (c ≡ true) × (d ≡ true) × (e ≡ true)
five a b c d e h =
    let p = both_left (a && b && c && d) e h in
    let q = both_left (a && b && c) d p in
    let r = both_left (a && b) c q in
    (both_left a b r, both_right a b r, both_right (a && b) c q, both_right (a && b && c) d p, both_right (a && b && c && d) e h)

fits-parts : (c : Context) → fits c ≡ true → Fits c
unfolding fits
fits-parts c h =
    let p =
    five (leb (length c.groups) max_groups) (every (λ (p : Pair ℕ Table). table_fits p.val) c.groups) (leb (length c.tombstones) max_tombstones) (leb (length c.cleaned) max_cleaned) (waiting_fits c.waiting) h in
    record {
      few-groups = leb-true (length c.groups) max_groups p.0;
      small-tables = p.1;
      few-tombs = leb-true (length c.tombstones) max_tombstones p.2;
      few-cleaned = leb-true (length c.cleaned) max_cleaned p.3;
      few-waiting = p.4;
    }

fits_of : (c : Context) → Fits c → fits c ≡ true
unfolding fits
fits_of c p =
    both
    (both
    (both
    (both (le-leb (length c.groups) max_groups p.few-groups) p.small-tables)
    (le-leb (length c.tombstones) max_tombstones p.few-tombs))
    (le-leb (length c.cleaned) max_cleaned p.few-cleaned))
    p.few-waiting

table_fits_lem : (t u : Table) → length t.entries ≤ length u.entries → length t.keys ≤ length u.keys → table_fits u ≡ true → table_fits t ≡ true
unfolding table_fits
table_fits_lem t u e k h =
    let p = leb-true (length u.entries) max_entries (both_left (leb (length u.entries) max_entries) (leb (length u.keys) max_keys) h) in
    let q = leb-true (length u.keys) max_keys (both_right (leb (length u.entries) max_entries) (leb (length u.keys) max_keys) h) in
    both (le-leb (length t.entries) max_entries (omega arith)) (le-leb (length t.keys) max_keys (omega arith))

-- a newer table is no larger than what it is laid over to
merged-larger : (o : Option Table) (t : Table) → Ascending bytes t.keys → table_fits (merge_table Append o t) ≡ true → table_fits t ≡ true
merged-larger o t asc h =
    table_fits_lem t (merge_table Append o t)
    (rw (merged-entries o t) (length_over (made o).entries t.entries))
    (rw (merged-keys o t) (unfold over_keys in length-newer bytes bytes_lawful (λ a b. b) (made o).keys t.keys asc))
    h

-- the newer context is within the limits where the pass is
module _ (pass newer : Context) (older : ℕ → Option Table) (groups : (g : ℕ) → lookup numbers g pass.groups ≡ lay (older g) (lookup numbers g newer.groups)) (asc : Ascending numbers newer.groups) (good : (g : ℕ) → GoodIf (lookup numbers g newer.groups)) where
  pass-has : (g : ℕ) (t : Table) → lookup numbers g newer.groups ≡ Some t → lookup numbers g pass.groups ≡ Some (merge_table Append (older g) t)
  pass-has g t e = groups g ∙ ap (lay (older g)) e ∙ lay-made (older g) t

  none-newer : (g : ℕ) → lookup numbers g pass.groups ≡ None → lookup numbers g newer.groups ≡ None
  none-newer g h = go (lookup numbers g newer.groups) refl
    where
      go : (n : Option Table) → lookup numbers g newer.groups ≡ n → lookup numbers g newer.groups ≡ None
      go None e = e
      go (Some t) e = absurd (some-not-none (sym (pass-has g t e) ∙ h))

  small-newer : every (λ (p : Pair ℕ Table). table_fits p.val) pass.groups ≡ true → every (λ (p : Pair ℕ Table). table_fits p.val) newer.groups ≡ true
  small-newer h =
      every_intro numbers numbers_lawful (λ (p : Pair ℕ Table). table_fits p.val) newer.groups asc
      (λ g t e. merged-larger (older g) t (good_of t (rw e at (good g))).ascend (every-lookup numbers numbers_lawful (λ (p : Pair ℕ Table). table_fits p.val) g (merge_table Append (older g) t) pass.groups h (pass-has g t e)))
    where
      good_of : (t : Table) → GoodIf (Some t) → Good t
      good_of t g = unfold GoodIf in g

  pub fits-newer : length newer.tombstones ≤ length pass.tombstones → length newer.cleaned ≤ length pass.cleaned → newer.waiting ≡ pass.waiting → fits pass ≡ true → fits newer ≡ true
  fits-newer lt lc w h =
      let p = fits-parts pass h in
      let l = length-sub numbers numbers_lawful newer.groups pass.groups asc none-newer in
      fits_of newer (record { few-groups = omega arith; small-tables = small-newer p.small-tables; few-tombs = omega arith; few-cleaned = omega arith; few-waiting = ap waiting_fits w ∙ p.few-waiting })

-- ---- a step of the pass is a step of the newer context

-- the group's table where the step is made leaves an entry or has none
unfoldable pub LeavesAt : LogItem → Context → Type 0
LeavesAt it c = Leaves it.content (lookup numbers it.group c.groups)

pub record Stepped (older pass newer : Context) (x : Placed) : Type 0 where
  pub next : Context
  pub taken : step limited replay_append x newer ≡ Ok next
  pub related : Related older pass next
  pub leaves : LeavesAt x.item newer

-- one group: at the item's own number, and at another
at-group : (g k : ℕ) (x : Content) (o s n p m : Option Table) → (eqb g k ≡ true → s ≡ lay (effected x o) n) → p ≡ lay o m → cond (eqb g k) s p ≡ lay (cond (eqb k g) (effected x o) o) (cond (eqb g k) n m)
at-group g k x o s n p m h e =
    split (eqb g k)
    (λ u. rw (u, eq-eqb k g (sym (eqb-true g k u))) (h u))
    (λ u. rw (u, ne_eqb k g (λ z. eqb-false g k u (sym z))) e)

module _ (older pass newer : Context) (x : Placed) (r : Related older pass newer) where
  abbrev tombed_older : ℕ → Option Table
  tombed_older g = tombed g newer.tombstones (lookup numbers g older.groups)

  -- after the step the pass's groups are the newer ones laid over the older ones
  next-groups : (s n : Option Table) → s ≡ lay (effected x.item.content (tombed_older x.item.group)) n → (g : ℕ) → lookup numbers g (store numbers x.item.group s pass.groups) ≡ lay (tombed g (newer.tombstones ++ tomb_of x.item) (lookup numbers g older.groups)) (lookup numbers g (store numbers x.item.group n newer.groups))
  next-groups s n e g =
      lookup-store numbers numbers_lawful g x.item.group s pass.groups r.good-pass.ascend
      ∙ at-group g x.item.group x.item.content (tombed_older g) s n (lookup numbers g pass.groups) (lookup numbers g newer.groups) (λ u. rw (eqb-true g x.item.group u) e) (r.same-groups g)
      ∙ ap (λ o. lay o (cond (eqb g x.item.group) n (lookup numbers g newer.groups))) (sym (tombed_step g newer.tombstones x.item (lookup numbers g older.groups)))
      ∙ ap (lay (tombed g (newer.tombstones ++ tomb_of x.item) (lookup numbers g older.groups))) (sym (lookup-store numbers numbers_lawful g x.item.group n newer.groups r.good-newer.ascend))

  -- the newer context after the item
  module _ (f : FitIf x.item.content) (s : Option Table) (w : fits (after replay_append x.item s pass) ≡ true) (v : SimulatedIf x.item.content (tombed_older x.item.group) (lookup numbers x.item.group newer.groups) s) where
    next-tombs : pass.tombstones ++ tomb_of x.item ≡ older.tombstones ++ (newer.tombstones ++ tomb_of x.item)
    next-tombs = ap (λ l. l ++ tomb_of x.item) r.same-tombs ∙ append_assoc older.tombstones newer.tombstones (tomb_of x.item)

    next-cleaned : pass.cleaned ++ clean_of x.item ≡ older.cleaned ++ (newer.cleaned ++ clean_of x.item)
    next-cleaned = ap (λ l. l ++ clean_of x.item) r.same-cleaned ∙ append_assoc older.cleaned newer.cleaned (clean_of x.item)

    longer : {A : Type 0} (l m n : List A) → l ≡ m ++ n → length n ≤ length l
    longer l m n e = rw (e, length-append m n) (omega arith)

    next_fits : fits (after replay_append x.item v.next newer) ≡ true
    next_fits =
        unfold after kept_by cleaned_by keeps writes same_queue in
        fits-newer (after replay_append x.item s pass) (after replay_append x.item v.next newer) (λ g. tombed g (newer.tombstones ++ tomb_of x.item) (lookup numbers g older.groups)) (next-groups s v.next v.again) (ascending-store numbers numbers_lawful x.item.group v.next newer.groups r.good-newer.ascend) (tables-store x.item.group v.next newer.groups r.good-newer.ascend r.good-newer.tables (good-changed x.item.content (lookup numbers x.item.group newer.groups) v.next (r.good-newer.tables x.item.group) f v.taken)) (longer (pass.tombstones ++ tomb_of x.item) older.tombstones (newer.tombstones ++ tomb_of x.item) next-tombs) (longer (pass.cleaned ++ clean_of x.item) older.cleaned (newer.cleaned ++ clean_of x.item) next-cleaned) (r.good-newer.none-waits ∙ sym r.good-pass.none-waits) w

    next_step : step limited replay_append x newer ≡ Ok (after replay_append x.item v.next newer)
    next_step = step_of limited replay_append x newer r.good-newer.ascend v.next v.taken ∙ limited-fits x.place (after replay_append x.item v.next newer) next_fits

  -- a step that the pass takes, the newer context takes, and they stay related
  pub related_step : (next-pass : Context) → FitIf x.item.content → LeavesAt x.item pass → step limited replay_append x pass ≡ Ok next-pass → Stepped older next-pass newer x
  unfolding LeavesAt after kept_by cleaned_by keeps writes same_queue
  related_step next-pass f l h =
      let t = step-taken replay_append x pass next-pass r.good-pass.ascend h in
      let here = r.same-groups x.item.group in
      let v =
      simulate_if x.item.content (tombed_older x.item.group) (lookup numbers x.item.group newer.groups) t.0 (good-tombed x.item.group newer.tombstones (lookup numbers x.item.group older.groups) (r.good-older.tables x.item.group)) (r.good-newer.tables x.item.group) f (rw here at l) ((sym (ap (changed replay_append x.item.content) here) ∙ t.1)) in
      let w = rw t.2 at t.3 in
      rw t.2
      (record {
        next = after replay_append x.item v.next newer;
        taken = next_step f t.0 w v;
        related = record {
          good-older = r.good-older;
          good-pass = rw t.2 at (good_step x pass next-pass r.good-pass f h);
          good-newer = good_step x newer (after replay_append x.item v.next newer) r.good-newer f (next_step f t.0 w v);
          same-tombs = next-tombs f t.0 w v;
          same-cleaned = next-cleaned f t.0 w v;
          same-groups = next-groups t.0 v.next v.again;
        };
        leaves = v.leaves;
      })
