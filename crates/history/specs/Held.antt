-- Demand 3's rule of what is held, over a list of items. Later goes by the list's order.
use Rattle.std.specs.Prelude.{◌≡◌, Bool, true, false, cond, not, ◌&&◌, ◌⊎◌, List, [], ◌∷◌, ◌++◌, ℕ, ltb, leb, eqb}
use Rattle.std.specs.Prelude.{Option, None, Some}
use Rattle.maps.specs.Lists.{select, every, or_else}
use Rattle.maps.specs.Maps.{equal_bytes}
use Rattle.rules.specs.Items.{FileId, EntryIndex, clean, compact, put, del, Content, entries, command, kv, LogItem}
use Rattle.rules.specs.Table.{Held}

-- ---- entries

-- whether an entry at index i ends by a later content: a clean, an append that starts at or below it, a compaction that goes above it
unfoldable pub ends_entry : ℕ → Content → Bool
ends_entry i (entries []) = false
ends_entry i (entries (e ∷ es)) = leb e.index i
ends_entry i (command clean) = true
ends_entry i (command (compact j)) = ltb i j
ends_entry i (kv k c) = false

-- an entry of group g at index i is held through the later items
unfoldable pub entry_stays : ℕ → ℕ → List LogItem → Bool
entry_stays g i later = every (λ it. not (eqb it.group g && ends_entry i it.content)) later

-- the entries that an item appends to group g
unfoldable pub list_of : Content → List EntryIndex
list_of (entries es) = es
list_of (command c) = []
list_of (kv k c) = []

unfoldable pub appended_to : ℕ → LogItem → List EntryIndex
appended_to g it = cond (eqb it.group g) (list_of it.content) []

-- the entries of group g that are held after the items: each that was appended and stays
unfoldable pub entries_held : ℕ → List LogItem → List EntryIndex
entries_held g [] = []
entries_held g (it ∷ later) = select (λ e. entry_stays g e.index later) (appended_to g it) ++ entries_held g later

-- ---- keys

-- whether a key ends by a later content: a clean, a delete of it
unfoldable pub ends_key : List ℕ → Content → Bool
ends_key k (entries es) = false
ends_key k (command clean) = true
ends_key k (command (compact j)) = false
ends_key k (kv j (put v f)) = false
ends_key k (kv j del) = equal_bytes k j

unfoldable pub key_stays : ℕ → List ℕ → List LogItem → Bool
key_stays g k later = every (λ it. not (eqb it.group g && ends_key k it.content)) later

-- what a Put with its value and file gives
unfoldable pub held_of : Option (List ℕ) → Option FileId → Option Held
held_of v f = or_else None (λ b. or_else None (λ i. Some (record { value = b; file = i })) f) v

-- what a content puts at key k
unfoldable pub put_of : List ℕ → Content → Option Held
put_of k (entries es) = None
put_of k (command c) = None
put_of k (kv j del) = None
put_of k (kv j (put v f)) = cond (equal_bytes k j) (held_of v f) None

unfoldable pub put_to : ℕ → List ℕ → LogItem → Option Held
put_to g k it = cond (eqb it.group g) (put_of k it.content) None

-- what key k of group g holds after the items: the last put of it that stays
unfoldable pub key_held : ℕ → List ℕ → List LogItem → Option Held
key_held g k [] = None
key_held g k (it ∷ later) = or_else (cond (key_stays g k later) (put_to g k it) None) Some (key_held g k later)

-- ---- the premise

-- a compaction that follows these items leaves its group an entry or finds none
unfoldable pub LeavesOrFindsNone : List LogItem → LogItem → Type 0
LeavesOrFindsNone before it =
    (entries_held it.group before ≡ []) ⊎ (entries_held it.group (before ++ (it ∷ [])) ≡ [] → ⊥)

-- each compaction in the list leaves its group an entry or finds none
unfoldable pub Premise : List LogItem → Type 0
Premise items =
    (before later : List LogItem) (it : LogItem) (i : ℕ) → items ≡ before ++ (it ∷ later) → it.content ≡ command (compact i) → LeavesOrFindsNone before it
