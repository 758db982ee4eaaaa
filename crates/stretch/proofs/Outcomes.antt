-- What a change of a stretch comes to: done, or refused with all as it was; and when a result passes a limit. Assumes nothing.
use mathlib.Core.Bool.{true, ◌&&◌}
use mathlib.Core.List.{List}
use mathlib.Core.Path.{◌≡◌, refl, sym, ◌∙◌}
use Prim.Native.Nat.{ℕ, ◌/◌}
use native.Mathlib.Omega.{arith}
use lib.Dec.{leb}
use lib.ListN.{length, take}
use Rattle.maps.specs.OrderLaws.{split}
use Rattle.rules.specs.Causes.{Cause, refuse, Refusal, Result, Ok, Err, and_then}
use Rattle.rules.specs.Table.{Table}
use Rattle.memtable.specs.Appends.{fitting}
use Rattle.kvs.specs.Rows.{fits}
use Rattle.stretch.specs.Stretch.{entry_rows_at, key_rows_at, table_at, WfAt}
use Rattle.stretch.specs.Laws.{limited_same, room_same, room-own}
use Rattle.stretch.specs.Changes.{room_at, limited_at, ChangedAt}

-- ---- limits

-- where there is room for the keys, the room for entries is the limit
pub limited-fitting : (w : ℕ) (p b : List ℕ) (x : Result Table) → ((u : Table) → fitting (length (entry_rows_at w p) / 8) x ≡ Ok u → room_at w p b u ≡ true)
    → limited_at w p b x ≡ fitting (length (entry_rows_at w p) / 8) x
unfolding limited_at fitting and_then room_at
limited-fitting w p b (Err r) f = refl
limited-fitting w p b (Ok u) f =
    let n = length (entry_rows_at w p) / 8 in
    let k = fits (length u.keys) (key_rows_at w p) b in
    split (leb (length u.entries) n)
    (λ t. let e : (leb (length u.entries) n && k) ≡ true = f u (rw t) in rw t (rw (rw t at e)))
    (λ t. rw t)

-- what is refused is not accepted
pub never : {r : Refusal} {u : Table} → Err r ≡ Ok u → ⊥
never e = let z : ◌≡◌ {A = ℕ} 0 1 = cc in omega arith

-- ---- the two outcomes

-- both slices are as long at exit as at entry
pub record Kept (p b p' b' : List ℕ) : Type 0 where
  pub numbers : length p' ≡ length p
  pub bytes : length b' ≡ length b

module _ (w : ℕ) (by : Table → Result Table) (p b : List ℕ) (o : WfAt w p b) where
  pub is-done : (p' b' : List ℕ) → WfAt w p' b' → take 2 p' ≡ take 2 p → Ok (table_at w p' b') ≡ limited_at w p b (by (table_at w p b)) → ChangedAt w by p b (Ok tt) p' b'
  is-done p' b' v f e =
      record { rule = e; front = f; left = λ n d. (let z : ◌≡◌ {A = ℕ} 0 1 = cc in absurd (omega arith)); wf = v }

  room_after : (p' b' : List ℕ) → Kept p b p' b' → WfAt w p' b' → room_at w p b (table_at w p' b') ≡ true
  room_after p' b' k v =
      sym (room_same w p b p' b' o.numbers.from o.numbers.to k.numbers k.bytes (table_at w p' b')) ∙ room-own w p' b' v

  -- a result that is a table within the limits
  pub done_by : (p' b' : List ℕ) → Kept p b p' b' → WfAt w p' b' → take 2 p' ≡ take 2 p → Ok (table_at w p' b') ≡ by (table_at w p b) → ChangedAt w by p b (Ok tt) p' b'
  done_by p' b' k v f e =
      is-done p' b' v f
      (e ∙ sym (limited_same w p b (by (table_at w p b)) (λ u d. (let s : table_at w p' b' ≡ u = cc in rw (← s) (room_after p' b' k v)))))

  -- the same of a result that has room for its entries
  pub done-fitting : (p' b' : List ℕ) → Kept p b p' b' → WfAt w p' b' → take 2 p' ≡ take 2 p → Ok (table_at w p' b') ≡ fitting (length (entry_rows_at w p) / 8) (by (table_at w p b)) → ChangedAt w by p b (Ok tt) p' b'
  done-fitting p' b' k v f e =
      is-done p' b' v f
      (e ∙ sym (limited-fitting w p b (by (table_at w p b)) (λ u d. (let s : table_at w p' b' ≡ u = cc in rw (← s) (room_after p' b' k v)))))

  module _ (n : Cause) where
    pub is-refused : refuse n ≡ limited_at w p b (by (table_at w p b)) → ChangedAt w by p b (Err n) p b
    is-refused e = record { rule = e; front = refl; left = λ m d. (refl, refl); wf = o }

    pub refused_by : refuse n ≡ by (table_at w p b) → ChangedAt w by p b (Err n) p b
    refused_by e =
        is-refused
        (e ∙ sym (limited_same w p b (by (table_at w p b)) (λ u d. (let s : ◌≡◌ {A = Result Table} (refuse n) (Ok u) = e ∙ d in absurd (never s)))))

    pub refused-fitting : refuse n ≡ fitting (length (entry_rows_at w p) / 8) (by (table_at w p b)) → ChangedAt w by p b (Err n) p b
    refused-fitting e =
        is-refused
        (e ∙ sym (limited-fitting w p b (by (table_at w p b)) (λ u d. (let s : ◌≡◌ {A = Result Table} (refuse n) (Ok u) = e ∙ d in absurd (never s)))))
