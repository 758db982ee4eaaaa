-- The least number that one item meets. Assumes nothing.
use Rattle.pipe_log.specs.declared.FileId.{FileId}
use Rattle.log_batch.specs.declared.item.Bytes.{Bytes}
use Rattle.rules.specs.Causes.{Err, Cause, number_of, TooLong, Incomplete, OutOfRange, WrongQueue, NotRewritable, BadMark}
use mathlib.Core.Bool.{Bool, true, false, cond, ◌||◌}
use mathlib.Core.Path.{◌≡◌, refl}
use mathlib.Core.List.{List}
use Rattle.std.specs.Prelude.{Some, None, Option}
use Prim.Native.Nat.{ℕ, suc, ◌≤◌, ◌<◌}
use native.Mathlib.Decide.{dec_le}
use native.Mathlib.Omega.{arith}
use lib.Dec.{eqb}
use lib.ListN.{length}
use borrow.Author.Tests.{ne_eqb}
use Rattle.cells.specs.PartLaws.{length_part}
use Rattle.maps.specs.Lists.{any, or_else}
use Rattle.rules.specs.Items.{has_file, LogItem, is_reserved, Call}
use Rattle.rules.specs.Checks.{Mark, long_change, long, is_incomplete, is_out_of_range, is_other_queue, is_not_rewritable, meets3, unless_reserved}
use Rattle.log_batch.specs.declared.item.OpType as op
use Rattle.log_batch.specs.declared.item.LogItemContent as content
use Rattle.log_batch.specs.Lent.{value_of, change_of, key_change, key_content, content_of, without_file, opened_of, ValueWithin, BytesWithin}
use Rattle.log_batch.specs.OpenLaws.{length-entries}
use Rattle.log_batch.specs.Judged.{long_value, long_key, long_places, incomplete_mark, least_content, least_mark, judge, least_of}

-- ---- `long` by the places

long-value : (o : op.OpType) (v : Option Bytes) (f : Option FileId) (bs : List ℕ) → ValueWithin v (length bs) → long_value o v ≡ long_change (change_of o v f bs)
unfolding long_value long_change change_of value_of or_else
long-value op.TheVariants.Del v f bs w = refl
long-value op.TheVariants.Put None f bs w = refl
long-value op.TheVariants.Put (Some b) f bs w = rw (length_part b.at b.len bs w)

pub long-is : (c : content.LogItemContent) (es bs : List ℕ) → BytesWithin c (length bs) → long_places c ≡ long (content_of c es bs)
unfolding long_places long_key long content_of key_content key_change
long-is (content.TheVariants.EntryIndexes e) es bs w = rw (length-entries e.count _)
long-is (content.TheVariants.Command c) es bs w = refl
long-is (content.TheVariants.Kv k) es bs w =
    rw (length_part k.key_at k.key_len bs w.0, long-value k.op_type k.value k.file_id bs w.1)

-- ---- `least_of` by the tests of its content

abbrev pub or_cause : Option Cause → Option Cause → Option Cause
or_cause None o = o
or_cause (Some c) o = Some c

chosen : (a b c d : Bool) (o : Option Cause) → cond a (Some Incomplete) (cond b (Some OutOfRange) (cond c (Some WrongQueue) (cond d (Some NotRewritable) o))) ≡ or_cause (cond a (Some Incomplete) (cond b (Some OutOfRange) (cond c (Some WrongQueue) (cond d (Some NotRewritable) None)))) o
chosen true b c d o = refl
chosen false true c d o = refl
chosen false false true d o = refl
chosen false false false true o = refl
chosen false false false false o = refl

module _ (call : Call) (m : Option Mark) (i : ℕ) (it : LogItem) where
  pub least_by : least_of call m i it ≡ cond (eqb i 32 || long it.content) (Some TooLong) (cond (is_reserved it.content) (cond (incomplete_mark call it) (Some Incomplete) (least_mark call m i it)) (or_cause (least_content call it.content) (least_mark call m i it)))
  unfolding least_of judge meets3 unless_reserved incomplete_mark least_content least_mark
  least_by = by (is_reserved it.content) refl
    where
      by : (r : Bool) → is_reserved it.content ≡ r → least_of call m i it ≡ cond (eqb i 32 || long it.content) (Some TooLong) (cond r (cond (incomplete_mark call it) (Some Incomplete) (least_mark call m i it)) (or_cause (least_content call it.content) (least_mark call m i it)))
      by true e = rw e
      by false e = rw (e, chosen (is_incomplete call it.content) (is_out_of_range it.content) (is_other_queue call it.content) (is_not_rewritable call it.content) _)

-- a refused row is incomplete
pub least-refused : (call : Call) (m : Option Mark) (i g : ℕ) (es bs : List ℕ) → (i ≡ 32 → ⊥) → least_of call m i (opened_of (Err (record { raft_group_id = g })) es bs) ≡ Some Incomplete
unfolding least_of judge opened_of without_file long meets3 is_reserved is_incomplete any has_file
least-refused call m i g es bs h = rw (ne_eqb i 32 h)

-- ---- the first cause of a run of numbers that meets a test

-- the causes TooLong to BadMark by their numbers
abbrev pub cause_at : ℕ → Cause
cause_at n =
    cond (eqb n 2) TooLong
    (cond (eqb n 3) Incomplete
    (cond (eqb n 4) OutOfRange (cond (eqb n 5) WrongQueue (cond (eqb n 6) NotRewritable BadMark))))

-- the number of a cause, and 8 for none
abbrev pub bound : Option Cause → ℕ
bound None = 8
bound (Some c) = number_of c

pub record Met (j : ℕ → Bool) (c : Cause) : Type 0 where
  pub high : number_of c < 8
  pub named : cause_at (number_of c) ≡ c
  pub met : j (number_of c) ≡ true

abbrev pub IfMet : (ℕ → Bool) → Option Cause → Type 0
IfMet j None = Unit
IfMet j (Some c) = Met j c

pub record Least (j : ℕ → Bool) (n : ℕ) (o : Option Cause) : Type 0 where
  pub low : n ≤ bound o
  pub below : (k : ℕ) → n ≤ k → k < bound o → j k ≡ false
  pub met : IfMet j o

module _ (j : ℕ → Bool) where
  least-none : Least j 8 None
  least-none = record { low = omega arith; below = λ k a b. absurd (omega arith); met = tt }

  least_more : (c : Cause) (o : Option Cause) (b : Bool) → number_of c < 8 → cause_at (number_of c) ≡ c → j (number_of c) ≡ b → Least j (suc (number_of c)) o → Least j (number_of c) (cond b (Some c) o)
  least_more c o true h s t next =
      record { low = omega arith; below = λ k a b. absurd (omega arith); met = record { high = h; named = s; met = t } }
  least_more c o false h s t next =
      record {
        low = omega (arith, next.low);
        below = λ k a b.
            elim (dec_le k (number_of c)) [ yes q ↦ let same : k ≡ number_of c = omega arith in rw same t | no q ↦ next.below k (omega arith) b ];
        met = next.met;
      }

pub least_of_lem : (call : Call) (m : Option Mark) (i : ℕ) (it : LogItem) → Least (λ (n : ℕ). judge call m n i it) 2 (least_of call m i it)
unfolding least_of
least_of_lem call m i it =
    let j : ℕ → Bool = λ n. judge call m n i it in
    least_more j TooLong _ (j 2) (omega arith) refl refl
    (least_more j Incomplete _ (j 3) (omega arith) refl refl
    (least_more j OutOfRange _ (j 4) (omega arith) refl refl
    (least_more j WrongQueue _ (j 5) (omega arith) refl refl
    (least_more j NotRewritable _ (j 6) (omega arith) refl refl (least_more j BadMark _ (j 7) (omega arith) refl refl (least-none j))))))
