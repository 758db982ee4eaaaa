-- The ways of `galdnyrr_get`: a refusal, an absent key, lent bytes that are too short, or the value copied. Assumes nothing.
use mathlib.Core.List.{List}
use Rattle.std.specs.Prelude.{None, Some}
use mathlib.Core.Path.{◌≡◌, refl}
use Prim.Native.Nat.{ℕ, ◌≤◌, ◌<◌}
use lib.ListN.{length}
use borrow.Author.Tests.{le-leb, lt-leb}
use Rattle.cells.specs.Part.{put}
use Rattle.rules.specs.Causes.{Cause, Ok, refuse, number_of, ListTooShort}
use Rattle.galdnyrr.specs.Asked.{absent, number_or_absent, in_bytes, copy_after, length_after, GotTold}

module _ (out : List ℕ) (len : ℕ) where
  pub got_refused : (e : Cause) → GotTold (refuse e) out len (number_of e) out len
  unfolding number_or_absent in_bytes copy_after length_after
  got_refused e = record { number_is = refl; copy_is = refl; length-is = refl }

  pub got_none : GotTold (Ok None) out len absent out len
  unfolding number_or_absent in_bytes copy_after length_after
  got_none = record { number_is = refl; copy_is = refl; length-is = refl }

  pub got_short : (v : List ℕ) → length out < length v → GotTold (Ok (Some v)) out len (number_of ListTooShort) out len
  unfolding number_or_absent in_bytes copy_after length_after
  got_short v l =
      record {
        number_is = rw (lt-leb (length v) (length out) l);
        copy_is = rw (lt-leb (length v) (length out) l);
        length-is = rw (lt-leb (length v) (length out) l);
      }

  pub got_copied : (v : List ℕ) → length v ≤ length out → (out' : List ℕ) → out' ≡ put out 0 v → GotTold (Ok (Some v)) out len 0 out' (length v)
  unfolding number_or_absent in_bytes copy_after length_after
  got_copied v l out' p =
      record {
        number_is = rw (le-leb (length v) (length out) l);
        copy_is = rw (le-leb (length v) (length out) l) p;
        length-is = rw (le-leb (length v) (length out) l);
      }
