-- A finished atomic group, as the loans of an area give it. Assumes nothing.
use mathlib.Core.Bool.{true}
use mathlib.Core.List.{List, ◌∷◌}
use Rattle.std.specs.Prelude.{Option, Some}
use mathlib.Core.Path.{◌≡◌, refl, sym, ap, ◌∙◌}
use Prim.Native.Nat.{ℕ, ◌+◌, ◌-◌, ◌*◌, ◌≤◌, ◌<◌}
use native.Mathlib.Omega.{arith}
use lib.ListN.{length, get_or, take, drop}
use borrow.Author.Rules.{part_to_end}
use borrow.Rule.Slice.PartMut.{put_mid}
use Rattle.cells.specs.Part.{part}
use Rattle.cells.specs.PartLaws.{get_or-part, loan-put}
use Rattle.maps.specs.Lists.{every}
use Rattle.maps.specs.MapLaws.{pair}
use Rattle.rules.specs.Causes.{Cause, ByCause, Ok, Err, Result}
use Rattle.rules.specs.Items.{LogItem, placed_from, status_of}
use Rattle.rules.specs.Checks.{Mark}
use Rattle.rules.specs.Context.{Part, Context}
use Rattle.rules.specs.Waiting.{replay_marked}
use Rattle.rules_by_group.specs.Kept.{is_passed, Kept}
use Rattle.groups.specs.Undo.{Begun}
use Rattle.room.specs.Rooms.{head_at, newest_tag, newest, cell_of}
use Rattle.room.specs.Batches.{unmarked}
use Rattle.room.specs.Parts.{part_for, TookPart}
use Rattle.room.specs.Layout.{context_cells, tagged, head_part}
use Rattle.room.specs.HeadLaws.{heads-are, head_number}
use Rattle.waiting.specs.Accepts.{Finishing, AcceptedAs}
use Rattle.waiting.specs.Forms.{part_with}
use Rattle.contexts.specs.Contexts.{waiting_numbers, waiting_bytes, context_of, Formed, Answered}
use Rattle.contexts.specs.AreaLaws.{area-length, area-bytes}
use Rattle.batches.specs.Runs.{Going}
use Rattle.batches.specs.BatchLaws.{begun-going}
use Rattle.writes.specs.Finishes.{waiting_count, stored_from, finish_stored, AnsweredKept, TookWaiting}
use Rattle.writes.specs.MarkedLaws.{passed-so, marked_refused, marked-finished, count_above, took-waiting}
use Rattle.writes.specs.Accepting.{AcceptedIn}
use Rattle.writes.specs.AcceptLaws.{accepted-in}
use Rattle.writes.proofs.StoredWays.{few-wait}

pub room_most : (xs bs : List ℕ) → Formed xs bs → waiting_count xs ≤ 128
room_most xs bs w = let f = few-wait xs bs w in omega arith

-- a batch that has begun can go back
pub finish-going : (xs bs ys : List ℕ) (t m : ℕ) → Formed xs bs → Begun xs bs ys → t ≡ get_or (take (length xs - 9376) (drop 9376 xs)) 1 0 → m ≡ get_or (take (length xs - 9376) (drop 9376 xs)) 2 0 → Going t m (context_of xs bs) ys bs
finish-going xs bs ys t m w b et em = rw (et, em, part_to_end xs 9376) (begun-going xs bs ys w b)

-- ---- the part that is taken out

pub lent_above : (xs : List ℕ) (k : ℕ) → 0 < get_or (waiting_numbers xs) (2 + k * 10) 0 → 0 < get_or (take 3490 (drop 10019 xs)) (2 + k * 10) 0
unfolding part
lent_above xs k h = h

pub took_back : (xs bs : List ℕ) → Formed xs bs → (k : ℕ) → k < 16 → (ws vs : List ℕ) → length ws ≡ length (take 3490 (drop 10019 xs)) → length vs ≡ length (take 8192 (drop 20480 bs)) → TookPart context_cells k (take 3490 (drop 10019 xs)) (take 8192 (drop 20480 bs)) ws vs → (g : ℕ) (p : Part) (ps : List Part) → cell_of (head_part k (waiting_numbers xs) (waiting_bytes bs)) (tagged (waiting_numbers xs) (waiting_bytes bs)) ≡ Some (pair g (p ∷ ps)) → TookWaiting g ps xs bs (put_mid 10019 3490 xs ws) (put_mid 20480 8192 bs vs)
unfolding part
took_back xs bs w k l ws vs n m t g p ps e =
    let a : length ws ≡ 3490 = n ∙ w.waiting.room.numbers-are in
    let b : length vs ≡ 8192 = m ∙ w.waiting.room.bytes-are in
    rw (loan-put 10019 3490 xs ws a, loan-put 20480 8192 bs vs b) (took-waiting xs bs w k l ws vs a b t g p ps e)

pub head-is : (xs vs : List ℕ) (k i : ℕ) → k < 16 → i < 10 → get_or xs (10019 + 2 + k * 10 + i) 0 ≡ get_or (head_part k (waiting_numbers xs) vs) i 0
head-is xs vs k i h l =
    let p : 10019 + (2 + k * 10 + i) ≡ 10019 + 2 + k * 10 + i = omega arith in
    sym
    (ap (λ (hs : List ℕ). get_or (head_at k hs) i 0) (heads-are context_cells (waiting_numbers xs) vs)
    ∙ head_number context_cells (waiting_numbers xs) k i h l
    ∙ get_or-part 10019 3490 xs (2 + k * 10 + i) 0 (omega arith)
    ∙ ap (λ (n : ℕ). get_or xs n 0) p)

-- ---- the part that is finished, with its tag and start as they are read

module _ (m : Mark) (seq : ℕ) (its : List LogItem) (xs bs : List ℕ) (w : Formed xs bs) (k : ℕ)
    (f : Finishing m.group (part_for m.byte seq (unmarked its)) k (waiting_numbers xs) (waiting_bytes bs)) (tag start : ℕ)
    (et : tag ≡ get_or (head_part k (waiting_numbers xs) (waiting_bytes bs)) 2 0) (es : start ≡ get_or (head_part k (waiting_numbers xs) (waiting_bytes bs)) 4 0) where
  pub finish-passed : Kept (context_of xs bs) → every is_passed (stored_from tag 0 xs bs) ≡ true
  unfolding newest_tag
  finish-passed kept = rw et (passed-so m seq its xs bs w k f kept)

  abbrev finishes : Context → Result Context
  finishes = finish_stored m.at tag m.group (record { start = start; end = seq }) its xs bs

  pub finish-refused : (n : Cause) (p : Option ℕ) (ys ds : List ℕ) → AnsweredKept finishes xs bs (Err (record { cause = n; place = p })) ys ds → Answered (replay_marked m seq (placed_from 0 its)) xs bs (Err (record { cause = n; place = p })) ys ds
  unfolding newest_tag newest
  finish-refused n p ys ds a = marked_refused m seq its xs bs w k f n p ys ds (rw (et, es) at a)

  module _ (ys ds : List ℕ) (a : AnsweredKept finishes xs bs (Ok tt) ys ds) where
    pub finish-cell : cell_of (head_part k (waiting_numbers ys) (waiting_bytes ds)) (tagged (waiting_numbers ys) (waiting_bytes ds)) ≡ Some (pair m.group (newest (head_part k (waiting_numbers xs) (waiting_bytes bs)) (tagged (waiting_numbers xs) (waiting_bytes bs)) ∷ f.others))
    finish-cell = let r = a.room refl in rw (r.numbers, r.bytes) f.cell

    -- what taking it out asks
    pub finish-asks : ((length ys ≡ 17231) × (length ds ≡ 38912)) × (Formed ys ds × ((k < 16) × (0 < get_or (waiting_numbers ys) (2 + k * 10) 0)))
    finish-asks =
        let v = a.answered.formed in
        ((area-length ys ds v, area-bytes ys ds v), (v, (f.inside, count_above ys ds v k f.inside _ _ finish-cell)))

    pub finish-taken : (zs es : List ℕ) → TookWaiting m.group f.others ys ds zs es → Answered (replay_marked m seq (placed_from 0 its)) xs bs (Ok tt) zs es
    unfolding newest_tag newest
    finish-taken zs gs t = marked-finished m seq its xs bs w k f ys ds (rw (et, es) at a) zs gs t

-- ---- the part of a batch that comes

-- its head, by the byte of the mark and the file; numbers of one status make one part
pub part-from : (st byte seq : ℕ) (its : List LogItem) → status_of st ≡ status_of byte → part_with (record { status = st; start = seq; end = seq }) its ≡ part_for byte seq its
unfolding part_for
part-from st byte seq its e = rw e

pub accepted_back : (xs bs : List ℕ) → Formed xs bs → (g : ℕ) (new : Part) (r : ByCause (Option ℕ)) (ws vs : List ℕ) → length ws ≡ length (take 3490 (drop 10019 xs)) → length vs ≡ length (take 8192 (drop 20480 bs)) → AcceptedAs g new (take 3490 (drop 10019 xs)) (take 8192 (drop 20480 bs)) r ws vs → AcceptedIn g new xs bs r (put_mid 10019 3490 xs ws) (put_mid 20480 8192 bs vs)
unfolding part
accepted_back xs bs w g new r ws vs n m a =
    let p : length ws ≡ 3490 = n ∙ w.waiting.room.numbers-are in
    let q : length vs ≡ 8192 = m ∙ w.waiting.room.bytes-are in
    rw (loan-put 10019 3490 xs ws p, loan-put 20480 8192 bs vs q) (accepted-in xs bs w g new r ws vs p q a)
