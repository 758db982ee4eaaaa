-- Rows of parts by the keys that they stand for. Assumes nothing.
use Prim.Native.Nat.{ℕ, ◌+◌, ◌*◌, ◌<◌}
use native.Mathlib.Nat.{add-zero}
use native.Mathlib.Omega.{arith}
use mathlib.Core.Path.{◌≡◌, sym, ap, ◌∙◌}
use mathlib.Core.List.{List}
use lib.ListN.{length, get_or, drop}
use lib.Seq.{get_or-drop}
use Rattle.maps.specs.Maps.{Map}
use Rattle.pipe_log.specs.Rows.{queue_at}
use Rattle.rules.specs.Items.{FileId}
use Rattle.rules.specs.Table.{Held}
use Rattle.kvs.specs.Rows.{row_at, key_of, value_of, held_of, pair_of, keys_in, Wf}
use Rattle.kvs.specs.RowLaws.{length-keys, keys_from}
use Rattle.kvs.specs.RowIn.{RowIn, row_in, number_at}
use Rattle.kvs.specs.Places.{no_pair, pair_at}

module _ (n : ℕ) (rows bs : List ℕ) (m : Map (List ℕ) Held) (v : keys_in n rows bs ≡ m) where
  pub count_is : n ≡ length m
  count_is = sym (length-keys n rows bs) ∙ ap length v

  module _ (i : ℕ) (h : i < length m) where
    pub row_in_lem : Wf n rows bs → RowIn i rows bs
    row_in_lem w = let e = count_is in row_in n i rows bs w (omega arith)

    pub pair_is : pair_of (row_at i rows bs) ≡ pair_at i m
    unfolding pair_at
    pair_is =
        let c = count_is in
        let e : get_or (drop i (keys_in n rows bs)) 0 no_pair ≡ pair_of (row_at i rows bs) = rw (keys_from n i rows bs (omega arith)) in
        sym e ∙ get_or-drop i (keys_in n rows bs) 0 no_pair ∙ rw (add-zero i, v)

    pub key_is : key_of (row_at i rows bs) ≡ (pair_at i m).key
    unfolding pair_of
    key_is = ap (λ p. p.key) pair_is

    pub value_is : value_of (row_at i rows bs) ≡ (pair_at i m).val.value
    unfolding pair_of held_of
    value_is = ap (λ p. p.val.value) pair_is

    pub file_is : (f : FileId) → (f.queue ≡ queue_at (get_or rows (i * 4 + 2) 0)) × (f.seq ≡ get_or rows (i * 4 + 3) 0) → f ≡ (pair_at i m).val.file
    unfolding pair_of held_of
    file_is f h =
        let a = number_at i rows bs 2 (omega arith) in
        let b = number_at i rows bs 3 (omega arith) in
        let e : (held_of (row_at i rows bs)).file ≡ (pair_at i m).val.file = ap (λ p. p.val.file) pair_is in
        (λ j. record { queue = (h.0 ∙ ap queue_at (sym a)) j; seq = (h.1 ∙ sym b) j }) ∙ e
