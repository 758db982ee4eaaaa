-- The ways of the work on one group: what is lent of the areas, and what comes back. Assumes nothing.
use Rattle.rules.specs.Causes.{ByCause, Ok}
use mathlib.Core.Bool.{true}
use mathlib.Core.Logic.{◌⊎◌, ⊎_elim}
use mathlib.Core.List.{List, []}
use Rattle.std.specs.Prelude.{Option, None, Some}
use mathlib.Core.Path.{◌≡◌, refl, sym, ap, ◌∙◌}
use Prim.Native.Nat.{ℕ, ◌+◌, ◌-◌, ◌*◌, ◌≤◌}
use native.Mathlib.Omega.{arith}
use lib.ListN.{length, get_or, take, drop, length-drop}
use lib.Seq.{get_or-drop}
use borrow.Rule.Slice.PartMut.{put_mid}
use Rattle.cells.specs.Part.{part}
use Rattle.cells.specs.PartLaws.{part-is, part_back, part-drop, length-put, take_put, loan-put}
use Rattle.maps.specs.Maps.{lookup, numbers}
use Rattle.rules.specs.Table.{Table}
use Rattle.rules.specs.Context.{with_groups, with_waiting}
use Rattle.rules_by_group.specs.Group.{tombed}
use Rattle.rules_by_group.specs.Kept.{all_tombstones}
use Rattle.rules_by_group.proofs.RoomLaws.{tombed-room}
use Rattle.rules_by_group.specs.Kept.{Within}
use Rattle.stores.specs.declared.Store.{Store}
use Rattle.stores.specs.Stores.{Area, area, store_items, Stored}
use Rattle.stretch.specs.Layout.{stretch_width, bytes_width}
use Rattle.stretch.specs.Stretch.{table_in}
use Rattle.cells.specs.declared.Slot.{Slot}
use Rattle.cells.specs.declared.Slot.TheVariants.{At, Free, Full}
use Rattle.groups.specs.Area.{stretch_at, bytes_at, groups_of, Found}
use Rattle.groups.specs.Laws.{found_at_lem, found-free, found-full, lookup-found, lookup-free, lookup-full}
use Rattle.lists.specs.Rest.{tombstone_store, tombstone_area, tombstones_in, rest_of}
use Rattle.contexts.specs.Contexts.{rest_at, context_of, Wf}
use Rattle.contexts.specs.AreaLaws.{before_back, behind_back}
use Rattle.worktable.specs.declared.Mode.{Mode}
use Rattle.worktable.specs.Work.{work_in}
use Rattle.worktable.specs.Work as work
use Rattle.worktable.specs.WorkLaws.{becomes}
use Rattle.worktable.specs.Moves as moves
use Rattle.worktable.specs.Calls.{Becomes, Ends, laid_over, Layable, OlderFor}
use Rattle.staging.specs.Staging.{long_numbers, long_bytes, Working}
use Rattle.staging.specs.Modes.{newer_kind}
use Rattle.staging.specs.Works.{laid_by, Loaded}
use Rattle.staging.specs.WorkLaws.{laid_none, laid-some, newer-of}

-- ---- the long stretch, as it is lent

-- what is lent from a on, and has its length, changes nothing before it
length_back : (a : ℕ) (d s : List ℕ) → a ≤ length d → length s ≡ length d - a → length (put_mid a (length d - a) d s) ≡ length d
length_back a d s h e = ap length (loan-put a (length d - a) d s e) ∙ length-put d a s (omega arith)

-- the long stretch's bytes come back
pub long-bytes_back : (bs b : List ℕ) → length bs ≡ 38912 → length b ≡ 10240 → length (put_mid 28672 (length bs - 28672) bs b) ≡ length bs
long-bytes_back bs b m l = length_back 28672 bs b (omega arith) (omega arith)

pub long_bytes_length : (bs : List ℕ) → length bs ≡ 38912 → length (drop 28672 bs) ≡ 10240
long_bytes_length bs m = omega (arith, length-drop 28672 bs)

module _ (xs : List ℕ) (p : List ℕ) (n : length xs ≡ 17231) (k : length p ≡ 3722) where
  pub long-front : take long_numbers (put_mid 13509 (length xs - 13509) xs p) ≡ take long_numbers xs
  long-front = before_back 13509 xs p (omega arith)

  pub long_back : drop long_numbers (put_mid 13509 (length xs - 13509) xs p) ≡ p
  long_back = behind_back 13509 xs p (omega arith)

  pub long-length : length (put_mid 13509 (length xs - 13509) xs p) ≡ length xs
  long-length = length_back 13509 xs p (omega arith) (omega arith)

  pub cleared_loaded : (bs : List ℕ) → length bs ≡ 38912 → ((b : List ℕ) → length b ≡ 10240 → Becomes None p b) → Loaded None xs bs (put_mid 13509 (length xs - 13509) xs p) bs
  cleared_loaded bs m f =
      record {
        becomes = rw long_back (f (drop long_bytes bs) (long_bytes_length bs m));
        working = record { front = long-front; front_bytes = refl; numbers-length = long-length; bytes-length = refl };
      }

  module _ (bs b : List ℕ) (m : length bs ≡ 38912) (l : length b ≡ 10240) where
    pub lent-working : Working xs bs (put_mid 13509 (length xs - 13509) xs p) (put_mid 28672 (length bs - 28672) bs b)
    lent-working =
        record {
          front = long-front;
          front_bytes = before_back 28672 bs b (omega arith);
          numbers-length = long-length;
          bytes-length = long-bytes_back bs b m l;
        }

    pub lent_back : drop long_bytes (put_mid 28672 (length bs - 28672) bs b) ≡ b
    lent_back = behind_back 28672 bs b (omega arith)

-- ---- the older table

-- the long stretch is the end of an area
pub long-is : (a n : ℕ) (xs : List ℕ) → length xs ≡ a + n → part a n xs ≡ drop a xs
long-is a n xs e = let k : length xs - a ≡ n = omega arith in sym (part_back a xs ∙ rw k)

pub load-loaded : (k : ℕ) (xs bs xs' bs' : List ℕ) → length xs ≡ 17231 → length bs ≡ 38912 → length xs' ≡ length xs → length bs' ≡ length bs → moves.Loaded k xs bs xs' bs' → Loaded (Some (table_in (stretch_at k xs) (bytes_at k bs))) xs bs xs' bs'
unfolding moves.long_in moves.long_bytes_in
load-loaded k xs bs xs' bs' n m p q l =
    record {
      becomes = rw (long-is 13509 3722 xs' (p ∙ n), long-is 28672 10240 bs' (q ∙ m)) at (becomes (table_in (stretch_at k xs) (bytes_at k bs)) _ _ l.stands);
      working = record {
        front = ap (take 13509) l.only.numbers ∙ take_put 13509 xs 13509 _ (omega arith) (omega arith);
        front_bytes = ap (take 28672) l.only.bytes ∙ take_put 28672 bs 28672 _ (omega arith) (omega arith);
        numbers-length = p;
        bytes-length = q;
      };
    }

module _ (g : ℕ) (xs bs : List ℕ) (w : Wf xs bs) (slot : Slot) (f : Found g xs slot) where
  pub loaded_at : (k : ℕ) (xs' bs' : List ℕ) → slot ≡ At k → Loaded (Some (table_in (stretch_at k xs) (bytes_at k bs))) xs bs xs' bs' → Loaded (lookup numbers g (groups_of xs bs)) xs bs xs' bs'
  loaded_at k xs' bs' e l = rw (lookup-found g k xs bs w.groups (found_at_lem g k xs slot f e)) l

  pub loaded-none : ((k : ℕ) × (slot ≡ Free k)) ⊎ (slot ≡ Full) → (xs' bs' : List ℕ) → Loaded None xs bs xs' bs' → Loaded (lookup numbers g (groups_of xs bs)) xs bs xs' bs'
  loaded-none n xs' bs' l = rw (⊎_elim (λ h. lookup-free g h.0 xs bs (found-free g h.0 xs slot f h.1)) (λ e. lookup-full g xs bs (found-full g xs slot f e)) n) l

-- ---- the newer tombstones

abbrev pub OnlyTombs : Store → Area → Type 0
OnlyTombs s a = Stored s a × (all_tombstones (store_items s a) ≡ true)

-- the newer tombstones, as they are lent
module _ (ys cs : List ℕ) where
  abbrev lent_store : Store
  lent_store = record { items = get_or ys 9377 0; entries = 0 }

  abbrev lent_area : Area
  lent_area = area (take 576 (drop 9443 ys)) [] (take 4096 (drop 16384 cs))

  store_is : lent_store ≡ tombstone_store (drop 9376 ys)
  unfolding tombstone_store
  store_is = ap (λ (i : ℕ). record { items = i; entries = 0 }) (sym (get_or-drop 9376 ys 1 0))

  area-is : lent_area ≡ tombstone_area (drop 9376 ys) (drop 16384 cs)
  unfolding tombstone_area
  area-is = rw (part-is 9443 576 ys, part-is 16384 4096 cs, part-drop 67 576 9376 ys, part-drop 0 4096 16384 cs)

  lent-tombstones : store_items lent_store lent_area ≡ (context_of ys cs).tombstones
  unfolding context_of rest_at with_waiting with_groups rest_of tombstones_in
  lent-tombstones = rw (store_is, area-is)

  pub lent-tombed : (g : ℕ) (p b p' b' : List ℕ) → Becomes (tombed g (store_items lent_store lent_area) (work_in p b)) p' b' → Becomes (tombed g (context_of ys cs).tombstones (work_in p b)) p' b'
  lent-tombed g p b p' b' k = rw lent-tombstones at k

  pub lent-only : Wf ys cs → OnlyTombs lent_store lent_area
  lent-only w = (rw (store_is, area-is) w.rest.tombstones, rw lent-tombstones w.kept.tombstones-only)

-- ---- the newer table

-- stretch k and its bytes, as they are lent
pub lent_stretch : (k : ℕ) (ys : List ℕ) → take ((k + 1) * stretch_width - k * stretch_width) (drop (k * stretch_width) ys) ≡ stretch_at k ys
unfolding stretch_at part
lent_stretch k ys = let e : (k + 1) * stretch_width - k * stretch_width ≡ stretch_width = omega arith in rw e

pub lent_bytes : (k : ℕ) (cs : List ℕ) → take ((k + 1) * bytes_width - k * bytes_width) (drop (k * bytes_width) cs) ≡ bytes_at k cs
unfolding bytes_at part
lent_bytes k cs = let e : (k + 1) * bytes_width - k * bytes_width ≡ bytes_width = omega arith in rw e

pub context-groups : (xs bs : List ℕ) → (context_of xs bs).groups ≡ groups_of xs bs
unfolding context_of rest_at with_waiting with_groups
context-groups xs bs = refl

module _ (m : Mode) (g : ℕ) (ys cs p b : List ℕ) (w : Wf ys cs) (slot : Slot) (f : Found g ys slot) where
  newer-there : (k : ℕ) → slot ≡ At k → lookup numbers g (groups_of ys cs) ≡ Some (table_in (stretch_at k ys) (bytes_at k cs))
  newer-there k e = lookup-found g k ys cs w.groups (found_at_lem g k ys slot f e)

  pub newer_layable : (k : ℕ) → slot ≡ At k → (context_of ys cs).kind ≡ newer_kind m → Within 320 144 (work_in p b) → OlderFor m (work_in p b) → Layable m (table_in (stretch_at k ys) (bytes_at k cs)) (work_in p b)
  newer_layable k e n r o =
      record {
        newer-of = newer-of m (context_of ys cs) g _ w.kept n (ap (lookup numbers g) (context-groups ys cs) ∙ newer-there k e);
        older-of = o;
        room = r;
      }

  pub newer_laid : (k : ℕ) → slot ≡ At k → (r : ByCause (Unit {0})) (p' b' : List ℕ) → Ends (laid_over m (table_in (stretch_at k ys) (bytes_at k cs)) (work_in p b)) r p' b' → Ends (laid_by m (lookup numbers g (groups_of ys cs)) (work_in p b)) r p' b'
  newer_laid k e r p' b' d = rw (newer-there k e, ← laid-some m (table_in (stretch_at k ys) (bytes_at k cs)) (work_in p b)) d

  stays : lookup numbers g (groups_of ys cs) ≡ None → work.Wf p b → Ends (laid_by m (lookup numbers g (groups_of ys cs)) (work_in p b)) (Ok tt) p b
  stays e v = record { rule = rw e (laid_none m (work_in p b)); wf = v }

  pub newer-none : ((k : ℕ) × (slot ≡ Free k)) ⊎ (slot ≡ Full) → work.Wf p b → Ends (laid_by m (lookup numbers g (groups_of ys cs)) (work_in p b)) (Ok tt) p b
  newer-none n v = stays (⊎_elim (λ h. lookup-free g h.0 ys cs (found-free g h.0 ys slot f h.1)) (λ e. lookup-full g ys cs (found-full g ys slot f e)) n) v

-- ---- both

module _ (g : ℕ) (ts : List _) (p b p' b' : List ℕ) (k : Becomes (tombed g ts (work_in p b)) p' b') where
  pub buried-within : Within 320 144 (work_in p b) → Within 320 144 (work_in p' b')
  buried-within w = rw k.is (tombed-room 320 144 g ts (work_in p b) w)

  pub buried_for : (m : Mode) → OlderFor m (tombed g ts (work_in p b)) → OlderFor m (work_in p' b')
  buried_for m o = rw k.is o

  pub buried_laid : (m : Mode) (newer : Option Table) (r : ByCause (Unit {0})) (p'' b'' : List ℕ) → Ends (laid_by m newer (work_in p' b')) r p'' b'' → Ends (laid_by m newer (tombed g ts (work_in p b))) r p'' b''
  buried_laid m newer r p'' b'' e = rw k.is at e
