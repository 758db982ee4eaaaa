-- Short terms for entries, items, batches and runs, and what a result holds of group 7.
use mathlib.Core.List.{List, [], ◌∷◌, map}
use Rattle.std.specs.Prelude.{Option, None, Some}
use Prim.Native.Nat.{ℕ, zero, suc, ◌-◌}
use Rattle.std.specs.Prelude.{◌≡◌, refl, get_or}
use Rattle.pipe_log.specs.declared.CompressionType.TheVariants as compression
use Rattle.rules.specs.Limits.{reserved_key}
use Rattle.rules.specs.Causes.{Result, Cause, number_of, refuse, refuse_at, Ok, and_then, in_order, WrongKind, TooLong, Incomplete, OutOfRange, WrongQueue, NotRewritable, BadMark, FilesGoBack, GroupAbsent, BadRange, EntryCompacted, EntryNotFound, BelowFirst, AboveLast, AppendLeft, AlreadyRewritten, KeyGoesBack, LimitPassed, ListTooShort}
use Rattle.rules.specs.Items.{LogQueue, Append, Rewrite, EntryIndex, Content, entries, kv, put, LogItem, Batch}
use Rattle.rules.specs.Context.{Context, fresh}
use Rattle.rules.specs.Calls.{replay, merge, join, append}
use Rattle.rules.specs.Queries.{group_numbers}
use Rattle.maps.specs.Lists.{or_else}
use Rattle.maps.specs.Maps.{lookup, numbers}

-- an entry of length n
abbrev pub sized_entry : LogQueue → ℕ → ℕ → ℕ → EntryIndex
sized_entry q seq i n =
    record { index = i; entries = Some (record { id = record { queue = q; seq = seq }; offset = 0; len = 0 }); compression_type = compression.None; entry_offset = 0; entry_len = n }

abbrev pub entry : LogQueue → ℕ → ℕ → EntryIndex
entry q seq i = sized_entry q seq i 1

-- n entries of one file from index i up
abbrev pub several : LogQueue → ℕ → ℕ → ℕ → List EntryIndex
several q seq i zero = []
several q seq i (suc n) = entry q seq i ∷ several q seq (suc i) n

abbrev pub indexes : List EntryIndex → List ℕ
indexes es = map (λ (e : EntryIndex). e.index) es

abbrev pub item : ℕ → Content → LogItem
item g c = record { group = g; content = c }

-- a Put of a key with its value and file
abbrev pub key_put : List ℕ → List ℕ → LogQueue → ℕ → Content
key_put k v q seq = kv k (put (Some v) (Some (record { queue = q; seq = seq })))

-- a mark of status b
abbrev pub mark : ℕ → Content
mark b = kv reserved_key (put (Some (b ∷ [])) None)

abbrev pub batch_of : LogQueue → ℕ → List LogItem → Batch
batch_of q seq xs = record { file = record { queue = q; seq = seq }; items = xs }

-- a batch of group 7
abbrev pub batch : LogQueue → ℕ → List Content → Batch
batch q seq cs = batch_of q seq (map (item 7) cs)

-- a marked batch of status b in file seq, with the entry at i
abbrev pub part : ℕ → ℕ → ℕ → Batch
part b seq i = batch Rewrite seq (mark b ∷ entries (several Rewrite seq i 1) ∷ [])

-- a run: batches replayed into a fresh context
abbrev pub recovered : LogQueue → List Batch → Result Context
recovered q bs = in_order replay bs (fresh q)

abbrev pub merged : Result Context → Result Context → Result Context
merged older newer = and_then older (λ c. and_then newer (λ d. merge d c))

-- a Rewrite context joined with an Append one, and live appends to an index
abbrev pub joined : Result Context → Result Context → Result Context
joined older newer = and_then older (λ c. and_then newer (λ d. join d c))

abbrev pub empty_index : Result Context
empty_index = joined (Ok (fresh Rewrite)) (Ok (fresh Append))

abbrev pub appended_to : Result Context → List Batch → Result Context
appended_to r bs = and_then r (in_order append bs)

-- the causes in the order of their numbers, and the cause that a number stands for
abbrev pub causes : List Cause
causes =
    WrongKind ∷ TooLong ∷ Incomplete ∷ OutOfRange ∷ WrongQueue ∷ NotRewritable ∷ BadMark ∷ FilesGoBack ∷ GroupAbsent ∷ BadRange
    ∷ EntryCompacted ∷ EntryNotFound ∷ BelowFirst ∷ AboveLast ∷ AppendLeft ∷ AlreadyRewritten ∷ KeyGoesBack ∷ LimitPassed ∷ ListTooShort
    ∷ []

pub causes-numbered : map number_of causes ≡ 1 ∷ 2 ∷ 3 ∷ 4 ∷ 5 ∷ 6 ∷ 7 ∷ 8 ∷ 9 ∷ 10 ∷ 11 ∷ 12 ∷ 13 ∷ 14 ∷ 15 ∷ 16 ∷ 17 ∷ 18 ∷ 19 ∷ []
causes-numbered = refl

abbrev pub cause_at : ℕ → Cause
cause_at n = get_or causes (n - 1) WrongKind

-- refusals by 01's number, without and with a position
abbrev pub no : {A : Type 0} → ℕ → Result A
no n = refuse (cause_at n)

abbrev pub no_at : {A : Type 0} → ℕ → ℕ → Result A
no_at n p = refuse_at (cause_at n) (Some p)

abbrev pub groups_in : Result Context → Result (List ℕ)
groups_in r = and_then r (λ c. Ok (group_numbers c))

-- the indexes that group 7 holds
abbrev pub held : Result Context → Result (List ℕ)
held r = and_then r (λ c. Ok (or_else [] (λ t. indexes t.entries) (lookup numbers 7 c.groups)))
