-- 01's causes, a refusal, and the result of a call that may be refused.
use Rattle.std.specs.Prelude.{List, [], ◌∷◌, ℕ, Option, None}
use Rattle.std.specs.Prelude as std
pub use Rattle.std.specs.Prelude.{Ok, Err}
pub use Rattle.pipe_log.specs.declared.causes.Cause.{Cause}
pub use Rattle.pipe_log.specs.declared.causes.Cause.TheVariants.{WrongKind, TooLong, Incomplete, OutOfRange, WrongQueue, NotRewritable, BadMark, FilesGoBack, GroupAbsent, BadRange, EntryCompacted, EntryNotFound, BelowFirst, AboveLast, AppendLeft, AlreadyRewritten, KeyGoesBack, LimitPassed, ListTooShort}
-- the causes' numbers
pub use Rattle.pipe_log.specs.Causes.{number_of}
-- what is returned of a refused call: the cause, and the item position where the cause has one
pub use Rattle.pipe_log.specs.declared.causes.Refusal.{Refusal}

abbrev pub Result : Type 0 → Type 0
Result A = std.Result A Refusal

-- what a function of the code answers that is refused with a cause alone, and the result that it stands for
abbrev pub ByCause : Type 0 → Type 0
ByCause A = std.Result A Cause

abbrev pub refuse_at : {A : Type 0} → Cause → Option ℕ → Result A
refuse_at n p = Err (record { cause = n; place = p })

abbrev pub refuse : {A : Type 0} → Cause → Result A
refuse n = refuse_at n None

abbrev pub by_cause : {A : Type 0} → ByCause A → Result A
by_cause (Ok a) = Ok a
by_cause (Err n) = refuse n

-- go on with what was accepted; the first refusal is the result
unfoldable pub and_then : {A B : Type 0} → Result A → (A → Result B) → Result B
and_then (Ok a) f = f a
and_then (Err r) f = Err r

-- f for each element in order, up to the first refusal
unfoldable pub in_order : {A C : Type 0} → (A → C → Result C) → List A → C → Result C
in_order f [] c = Ok c
in_order f (x ∷ xs) c = and_then (f x c) (in_order f xs)

-- a refusal inside an item is given with the item's place
unfoldable pub placed : {A : Type 0} → Option ℕ → Result A → Result A
placed p (Ok a) = Ok a
placed p (Err r) = Err (record { cause = r.cause; place = p })

-- 'Left as it was': the state after a call that was made on c
unfoldable pub left : {A : Type 0} → A → Result A → A
left c (Ok d) = d
left c (Err r) = c
