-- An area read as the rules' context or index, what holds of it between calls, and what the calls promise.
use Rattle.std.specs.Prelude.{List, ◌≡◌, ℕ, ◌*◌, ◌<◌, drop, get_or, length}
use Rattle.rules.specs.Causes.{Result, Ok, Err, left}
use Rattle.rules.specs.Items.{LogQueue}
use Rattle.rules.specs.Context.{Context, fresh, with_groups, with_waiting}
use Rattle.rules_by_group.specs.Kept.{Kept}
use Rattle.cells.specs.Part.{part}
use Rattle.groups.specs.Area.{numbers_in_use, bytes_in_use, groups_of}
use Rattle.groups.specs.Area as groups
use Rattle.lists.specs.Rest.{rest_of}
use Rattle.lists.specs.Rest as lists
use Rattle.room.specs.Layout.{waiting_of, ContextRoom}

-- the numbers and the bytes of an area
abbrev pub area_numbers : ℕ
area_numbers = 17231

abbrev pub area_bytes : ℕ
area_bytes = 38912

-- the room of its waiting parts
abbrev pub waiting_numbers : List ℕ → List ℕ
waiting_numbers xs = part 10019 3490 xs

abbrev pub waiting_bytes : List ℕ → List ℕ
waiting_bytes bs = part 20480 8192 bs

-- all of the context but its groups: the lists and the waiting parts
unfoldable pub rest_at : List ℕ → List ℕ → Context
rest_at xs bs =
    with_waiting (waiting_of (waiting_numbers xs) (waiting_bytes bs)) (rest_of (drop numbers_in_use xs) (drop bytes_in_use bs))

-- the context or index that an area stands for
unfoldable pub context_of : List ℕ → List ℕ → Context
context_of xs bs = with_groups (groups_of xs bs) (rest_at xs bs)

-- what holds of an area while a call is under way
pub record Formed (xs bs : List ℕ) : Type 0 where
  pub groups : groups.Wf xs bs
  pub rest : lists.Wf (drop numbers_in_use xs) (drop bytes_in_use bs)
  pub waiting : ContextRoom (waiting_numbers xs) (waiting_bytes bs)

-- what holds of an area between calls
pub record Wf (xs bs : List ℕ) : Type 0 where
  pub groups : groups.Wf xs bs
  pub rest : lists.Wf (drop numbers_in_use xs) (drop bytes_in_use bs)
  pub waiting : ContextRoom (waiting_numbers xs) (waiting_bytes bs)
  pub kept : Kept (context_of xs bs)

-- the room of the waiting parts is as it was
pub record RoomKept (xs bs xs' bs' : List ℕ) : Type 0 where
  pub numbers : waiting_numbers xs' ≡ waiting_numbers xs
  pub bytes : waiting_bytes bs' ≡ waiting_bytes bs

-- ---- answers

-- the rules' result for each answer: the state that the call ends with, or the refusal
unfoldable pub answer_as : Result (Unit {0}) → Context → Result Context
answer_as (Ok _) c = Ok c
answer_as (Err r) c = Err r

-- the answer is the rules', the area stands for the state that the rules leave, and it is formed
pub record Answered (call : Context → Result Context) (xs bs : List ℕ) (r : Result (Unit {0})) (xs' bs' : List ℕ) : Type 0 where
  pub answers : answer_as r (context_of xs' bs') ≡ call (context_of xs bs)
  pub leaves : context_of xs' bs' ≡ left (context_of xs bs) (call (context_of xs bs))
  pub formed : Formed xs' bs'

-- a call that writes: the answer is the rules', and the area stands for the state that the rules leave
pub record Called (call : Context → Result Context) (xs bs : List ℕ) (r : Result (Unit {0})) (xs' bs' : List ℕ) : Type 0 where
  pub answers : answer_as r (context_of xs' bs') ≡ call (context_of xs bs)
  pub leaves : context_of xs' bs' ≡ left (context_of xs bs) (call (context_of xs bs))
  pub wf : Wf xs' bs'

-- ---- a fresh context

-- the first n stretches are free
pub record Cleared (n : ℕ) (xs xs' : List ℕ) : Type 0 where
  pub free : (k : ℕ) → k < n → get_or xs' (k * 586) 0 ≡ 0
  pub length-is : length xs' ≡ length xs

pub record FreshArea (q : LogQueue) (xs bs : List ℕ) : Type 0 where
  pub context-is : context_of xs bs ≡ fresh q
  pub wf : Wf xs bs
