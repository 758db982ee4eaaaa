-- Facts that tell the rules from the versions that 01 calls tempting. For the fourth, a true minimum in `min_file_seq`, see case 9 of
-- `Bench`.
use mathlib.Core.Path.{◌≡◌, refl}
use mathlib.Core.List.{List, [], ◌∷◌}
use Rattle.std.specs.Prelude.{Option, Some}
use Prim.Native.Nat.{ℕ}
use Rattle.rules.specs.Limits.{reserved_key}
use Rattle.rules.specs.Causes.{Result, Ok, and_then}
use Rattle.rules.specs.Items.{LogQueue, Append, Rewrite, entries, command, clean, compact, kv, del}
use Rattle.rules.specs.TableQueries.{get_key}
use Rattle.rules.specs.Context.{Context}
use Rattle.rules.specs.Queries.{in_group}
use Rattle.rules.proofs.Opened.{opened}
use Rattle.rules.proofs.Terms.{several, key_put, batch, part, recovered, merged, groups_in, held}

-- the value of a key of group 7
abbrev pub value_at : List ℕ → Result Context → Result (Option (List ℕ))
value_at k r = and_then r (λ c. in_group 7 (λ t. Ok (get_key k t)) c)

-- a run of one batch that puts a key with the one-byte value v
abbrev pub put_run : LogQueue → ℕ → List ℕ → ℕ → Result Context
put_run q seq k v = recovered q (batch q seq (key_put k (v ∷ []) q seq ∷ []) ∷ [])

-- "k"; "__" and then byte 2; "__", byte 1 and byte 1
abbrev pub plain : List ℕ
plain = 0x6b ∷ []

abbrev pub other_byte : List ℕ
other_byte = 0x5f ∷ 0x5f ∷ 0x02 ∷ []

abbrev pub longer : List ℕ
longer = 0x5f ∷ 0x5f ∷ 0x01 ∷ 0x01 ∷ []

-- run 1: 1..3
abbrev pub older : Result Context
older = recovered Append (batch Append 1 (entries (several Append 1 1 3) ∷ []) ∷ [])

pub record Examples : Type 0 where
  -- a Begin that a Middle joined stays Begin: End finishes it, and all parts are replayed
  pub begin-finishes : held (recovered Rewrite (part 0 1 1 ∷ part 1 2 2 ∷ part 2 3 3 ∷ [])) ≡ Ok (1 ∷ 2 ∷ 3 ∷ [])
  -- a Middle that an End joined waits
  pub middle-waits : held (recovered Rewrite (part 1 1 1 ∷ part 2 2 2 ∷ [])) ≡ Ok []
  -- tombstones before tables: run 2 cleans and holds 5..6; it compacts to 3 and holds 2..4; it deletes a key and puts it again
  pub clean-first : held (merged older (recovered Append (batch Append 2 (command clean ∷ entries (several Append 2 5 2) ∷ []) ∷ []))) ≡ Ok (5 ∷ 6 ∷ [])
  pub compact-first : held (merged older (recovered Append (batch Append 2 (command (compact 3) ∷ entries (several Append 2 2 3) ∷ []) ∷ []))) ≡ Ok (2 ∷ 3 ∷ 4 ∷ [])
  pub delete-first : value_at plain (merged (put_run Append 1 plain 1) (recovered Append (batch Append 2 (kv plain del ∷ key_put plain (2 ∷ []) Append 2 ∷ []) ∷ []))) ≡ Ok (Some (2 ∷ []))
  -- reserved is one key alone: it makes no group, and neither another third byte nor a longer key is reserved or a mark
  pub reserved-skipped : groups_in (put_run Append 1 reserved_key 0) ≡ Ok []
  pub other-byte-kept : value_at other_byte (put_run Append 1 other_byte 0) ≡ Ok (Some (0 ∷ []))
  pub longer-kept : value_at longer (put_run Append 1 longer 0) ≡ Ok (Some (0 ∷ []))
  pub longer-no-mark : value_at longer (put_run Rewrite 1 longer 0) ≡ Ok (Some (0 ∷ []))

pub examples : Examples
unfolding opened
examples =
    record {
      begin-finishes = refl;
      middle-waits = refl;
      clean-first = refl;
      compact-first = refl;
      delete-first = refl;
      reserved-skipped = refl;
      other-byte-kept = refl;
      longer-kept = refl;
      longer-no-mark = refl;
    }
