-- A batch that passed the checks 2 to 7: what is known of each item. Assumes nothing.
use Rattle.log_batch.specs.Lent.{Opened}
use Rattle.std.specs.Prelude.{Bool, true, false, ◌||◌, ◌≡◌, List, ℕ, ◌*◌, ◌/◌, ◌<◌, length, get_or, drop}
use Rattle.std.proofs.Math.Path.{refl}
use Rattle.std.proofs.Common.{sym, ◌∙◌, zero-add}
use Rattle.std.specs.Prelude.{Option, None, Some}
use Rattle.maps.specs.ListLaws.{some-none}
use Rattle.std.proofs.Math.Dec.{eqb}
use Rattle.maps.specs.BoolLaws.{clash, neither_left, neither_right}
use Rattle.maps.specs.Lists.{any, find_from}
use Rattle.maps.specs.ListLaws.{find_from-none}
use Rattle.rules.specs.Causes.{Ok, Err, Cause, Refusal}
use Rattle.rules.specs.Items.{LogItem, has_file, is_reserved, Call}
use Rattle.rules.specs.Checks.{long, is_incomplete, is_out_of_range, is_other_queue, is_not_rewritable, meets3, meets7, unless_reserved, first_mark, or_next, checks}
use Rattle.log_batch.specs.declared.item.LogItem as lent
use Rattle.log_batch.specs.Lent.{row_count_of, opened_row, opened_of, without_file, item_of, item_at, items_of}
use Rattle.log_batch.specs.OpenLaws.{length-items, items_at, item-is, item-opened}

module _ (c : Cause) (x : Option Refusal) where
  first-none : (o : Option ℕ) → or_next c o x ≡ None → o ≡ None
  unfolding or_next
  first-none None e = refl
  first-none (Some p) e = absurd (some-none _ e)

  next-none : (o : Option ℕ) → or_next c o x ≡ None → x ≡ None
  unfolding or_next
  next-none None e = e
  next-none (Some p) e = absurd (some-none _ e)

-- what item i of a list meets none of
pub record Passed (call : Call) (items : List LogItem) (i : ℕ) (it : LogItem) : Type 0 where
  pub early : eqb i 32 ≡ false
  pub short : long it.content ≡ false
  pub complete : meets3 call it.content ≡ false
  pub ranged : unless_reserved is_out_of_range i it ≡ false
  pub queued : unless_reserved (is_other_queue call) i it ≡ false
  pub rewritable : unless_reserved (is_not_rewritable call) i it ≡ false
  pub marked : meets7 call (first_mark 0 items) i it ≡ false

module _ (call : Call) (items : List LogItem) (passed : checks call items ≡ None) (i : ℕ) (z : LogItem) (h : i < length items) where
  met-none : (p : ℕ → LogItem → Bool) → find_from p 0 items ≡ None → p i (get_or items i z) ≡ false
  met-none p e = rw zero-add at (find_from-none p 0 items i z e h)

  pub passed-item : Passed call items i (get_or items i z)
  unfolding checks
  passed-item =
      let r2 = next-none _ _ _ passed in
      let r3 = next-none _ _ _ r2 in
      let r4 = next-none _ _ _ r3 in
      let r5 = next-none _ _ _ r4 in
      let r6 = next-none _ _ _ r5 in
      let two = met-none (λ i it. eqb i 32 || long it.content) (first-none _ _ _ passed) in
      record {
        early = neither_left (eqb i 32) _ two;
        short = neither_right (eqb i 32) _ two;
        complete = met-none (λ i it. meets3 call it.content) (first-none _ _ _ r2);
        ranged = met-none (unless_reserved is_out_of_range) (first-none _ _ _ r3);
        queued = met-none (unless_reserved (is_other_queue call)) (first-none _ _ _ r4);
        rewritable = met-none (unless_reserved (is_not_rewritable call)) (first-none _ _ _ r5);
        marked = met-none (meets7 call (first_mark 0 items)) (first-none _ _ _ r6);
      }

-- ---- every row is an item

refused_incomplete : (call : Call) (g : ℕ) (es bs : List ℕ) → meets3 call (opened_of (Err (record { raft_group_id = g })) es bs).content ≡ true
unfolding opened_of without_file meets3 is_reserved is_incomplete any has_file
refused_incomplete call g es bs = refl

-- the item that row i opens into, and what is known of what it stands for
pub record OpenedAt (call : Call) (xs es bs : List ℕ) (i : ℕ) : Type 0 where
  pub item : lent.LogItem
  pub opens : opened_row (drop (i * 9) xs) (length es / 8) (length bs) ≡ Ok item
  pub passed : Passed call (items_of xs es bs) i (item_of item es bs)

module _ (call : Call) (xs es bs : List ℕ) (passed : checks call (items_of xs es bs) ≡ None) (i : ℕ) (h : i < row_count_of xs) where
  passed_at : Passed call (items_of xs es bs) i (item_at es bs (drop (i * 9) xs))
  unfolding items_of
  passed_at =
      let here = item_at es bs (drop (i * 9) xs) in
      let n = length-items es bs (row_count_of xs) xs in
      let e = items_at es bs (row_count_of xs) xs i here h in
      rw e at (passed-item call (items_of xs es bs) passed i here (rw n h))

  opened_by : (o : Opened) → opened_row (drop (i * 9) xs) (length es / 8) (length bs) ≡ o → OpenedAt call xs es bs i
  opened_by (Ok it) e =
      record { item = it; opens = e; passed = rw (item-opened es bs (drop (i * 9) xs) it e) at passed_at }
  opened_by (Err u) e =
      let here = rw (item-is es bs (drop (i * 9) xs) (Err (record { raft_group_id = u.raft_group_id })) e) at passed_at in
      absurd (clash (sym here.complete ∙ refused_incomplete call u.raft_group_id es bs))

  pub passed-opens : OpenedAt call xs es bs i
  passed-opens = opened_by _ refl
