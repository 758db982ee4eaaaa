-- Laws of an area: its lengths, and what is lent of it from a place on.
-- Assumes nothing.
use Rattle.std.specs.Prelude.{true, List, [], ◌++◌, ◌≡◌, refl, ℕ, ◌-◌, ◌≤◌, length, take, drop}
use Rattle.std.proofs.Common.{append-nil, sym, ap, ◌∙◌, arith, length-drop, length-take-le, take_at, drop_at, le-leb}
use Rattle.std.proofs.Math.Seq.{drop-length}
use borrow.Rule.Slice.PartMut.{put_mid}
use Rattle.cells.specs.PartLaws.{part-drop, part_of_back}
use Rattle.maps.specs.BoolLaws.{both}
use Rattle.maps.specs.Lists.{sum}
use Rattle.rules.specs.Causes.{Result, Ok}
use Rattle.rules.specs.Context.{Context, with_groups, with_waiting, waiting_fits, fits}
use Rattle.rules_by_group.specs.Kept.{Kept}
use Rattle.rules_by_group.proofs.KeptLaws.{left-kept}
use Rattle.groups.specs.Laws.{groups-fit}
use Rattle.lists.specs.Rest.{tombstones_in, cleaned_in, rest_of}
use Rattle.lists.specs.Calls.{Behind}
use Rattle.lists.specs.Laws.{lengths}
use Rattle.room.specs.Layout.{context_cells, waiting_of, ContextRoom, Empty}
use Rattle.contexts.specs.Contexts.{rest_at, context_of, waiting_numbers, waiting_bytes, Formed, Wf, RoomKept, Answered, Called}

-- what is lent from a on comes back behind what lies before it
pub before_back : (a : ℕ) (d s : List ℕ) → a ≤ length d → take a (put_mid a (length d - a) d s) ≡ take a d
before_back a d s h = take_at (take a d) _ a (length-take-le a d h)

pub behind_back : (a : ℕ) (d s : List ℕ) → a ≤ length d → drop a (put_mid a (length d - a) d s) ≡ s
behind_back a d s h =
    drop_at (take a d) _ a (length-take-le a d h)
    ∙ ap (λ (l : List ℕ). s ++ l) (rw (← length-drop a d) (drop-length (drop a d)))
    ∙ append-nil s

-- ---- an area between calls and while a call is under way

pub formed_of : (xs bs : List ℕ) → Wf xs bs → Formed xs bs
formed_of xs bs w = record { groups = w.groups; rest = w.rest; waiting = w.waiting }

pub wf_of : (xs bs : List ℕ) → Formed xs bs → Kept (context_of xs bs) → Wf xs bs
wf_of xs bs f k = record { groups = f.groups; rest = f.rest; waiting = f.waiting; kept = k }

-- a call keeps what every context keeps
pub answered-called : (call : Context → Result Context) (xs bs : List ℕ) (r : Result (Unit {0})) (xs' bs' : List ℕ) → Wf xs bs → ((d : Context) → call (context_of xs bs) ≡ Ok d → Kept d) → Answered call xs bs r xs' bs' → Called call xs bs r xs' bs'
answered-called call xs bs r xs' bs' w k a =
    record {
      answers = a.answers;
      leaves = a.leaves;
      wf = wf_of xs' bs' a.formed (rw a.leaves (left-kept (context_of xs bs) (call (context_of xs bs)) w.kept k));
    }

-- ---- the lengths of an area

pub area-length : (xs bs : List ℕ) → Formed xs bs → length xs ≡ 17231
area-length xs bs w = omega (arith, w.groups.numbers_fit, w.rest.numbers-are, length-drop 9376 xs)

pub area-bytes : (xs bs : List ℕ) → Formed xs bs → length bs ≡ 38912
area-bytes xs bs w = omega (arith, w.groups.bytes_fit, w.rest.bytes-are, length-drop 16384 bs)

pub same-lengths : {a b n : ℕ} → a ≡ n → b ≡ n → a ≡ b
same-lengths p q = p ∙ sym q

-- ---- the room of the waiting parts

-- what lies behind the groups is as it was, and so is the room
pub behind-room : (xs bs xs' bs' : List ℕ) → drop 9376 xs' ≡ drop 9376 xs → drop 16384 bs' ≡ drop 16384 bs → RoomKept xs bs xs' bs'
behind-room xs bs xs' bs' n b =
    record { numbers = part_of_back 10019 3490 9376 xs' xs n (omega arith); bytes = part_of_back 20480 8192 16384 bs' bs b (omega arith) }

-- what lies behind the lists is as it was, and so is the room
pub lists-room : (xs bs xs' bs' : List ℕ) → Behind (drop 9376 xs) (drop 16384 bs) (drop 9376 xs') (drop 16384 bs') → RoomKept xs bs xs' bs'
lists-room xs bs xs' bs' b =
    record {
      numbers = sym (part-drop 643 3490 9376 xs') ∙ part_of_back 643 3490 643 (drop 9376 xs') (drop 9376 xs) b.numbers (omega arith) ∙ part-drop 643 3490 9376 xs;
      bytes = sym (part-drop 4096 8192 16384 bs') ∙ part_of_back 4096 8192 4096 (drop 16384 bs') (drop 16384 bs) b.bytes (omega arith) ∙ part-drop 4096 8192 16384 bs;
    }

pub room_all : (xs bs : List ℕ) → RoomKept xs bs xs bs
room_all xs bs = record { numbers = refl; bytes = refl }

pub room-then : (xs bs ys cs zs ds : List ℕ) → RoomKept xs bs ys cs → RoomKept ys cs zs ds → RoomKept xs bs zs ds
room-then xs bs ys cs zs ds p q = record { numbers = q.numbers ∙ p.numbers; bytes = q.bytes ∙ p.bytes }

pub room_wf : (xs bs xs' bs' : List ℕ) → RoomKept xs bs xs' bs' → ContextRoom (waiting_numbers xs) (waiting_bytes bs) → ContextRoom (waiting_numbers xs') (waiting_bytes bs')
room_wf xs bs xs' bs' k w = rw (k.numbers, k.bytes) w

pub room-waiting : (xs bs xs' bs' : List ℕ) → RoomKept xs bs xs' bs' → waiting_of (waiting_numbers xs') (waiting_bytes bs') ≡ waiting_of (waiting_numbers xs) (waiting_bytes bs)
room-waiting xs bs xs' bs' k = rw (k.numbers, k.bytes)

-- ---- the limits

-- a room where nothing waits passes none
pub none-wait : (ws vs : List ℕ) → Empty context_cells ws vs → ContextRoom ws vs
none-wait ws vs e =
    let w : waiting_of ws vs ≡ [] = unfold waiting_of in e.waiting in
    record { room = e.wf; fits = rw w (unfold waiting_fits sum in refl) }

-- an area that is formed passes no limit
pub context-fits : (xs bs : List ℕ) → Formed xs bs → fits (context_of xs bs) ≡ true
unfolding fits context_of rest_at with_waiting with_groups rest_of
context-fits xs bs w =
    let g = groups-fit xs bs w.groups in
    let l = lengths (drop 9376 xs) (drop 16384 bs) w.rest in
    let t : length (tombstones_in (drop 9376 xs) (drop 16384 bs)) ≤ 64 = omega (arith, l) in
    let n : length (cleaned_in (drop 9376 xs)) ≤ 64 = omega (arith, l) in
    both (both (both (both (le-leb _ 8 g.0) g.1) (le-leb _ 64 t)) (le-leb _ 64 n)) w.waiting.fits
