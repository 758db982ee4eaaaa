-- The laws of a newer table laid over: its rows as a lent list, the room that each step needs, and that the steps are the rules'.
-- Assumes nothing.
use Rattle.std.specs.Prelude.{true, false, ◌≡◌, refl, ℕ, ◌+◌, ◌*◌, ◌/◌, ◌≤◌, ◌<◌, get_or}
use mathlib.Core.List.{List, [], ◌∷◌}
use Rattle.std.specs.Prelude.{Option, None, Some}
use Rattle.std.proofs.Math.Path.{sym, ap}
use Rattle.std.proofs.Common.{◌∙◌}
use Rattle.std.proofs.Math.Decide.{dec_lt}
use native.Mathlib.Omega.{arith}
use Rattle.std.proofs.Math.ListN.{length}
use Rattle.cells.specs.Part.{part}
use Rattle.cells.specs.PartLaws.{length_part, get_or-part}
use Rattle.maps.specs.BoolLaws.{clash}
use Rattle.maps.specs.Lists.{or_else}
use Rattle.maps.specs.Maps.{Map}
use Rattle.maps.specs.MapLaws.{laid}
use Rattle.maps.specs.OrderLaws.{split}
use Rattle.pipe_log.specs.Numbers.{queue_number}
use Rattle.pipe_log.specs.Rows.{queue_at, window}
use Rattle.rules.specs.Causes.{ByCause, Result, Ok, Err, and_then}
use Rattle.rules.specs.Items.{LogQueue, Append, Rewrite, EntryIndex, file_of, same_queue, is_rewrite}
use Rattle.rules.specs.Table.{Held, Span, Table, made, with_entries, with_keys, with_span, uncounted, is_above_last, over, over_gap, over_keys, appended, replayed_rewrite, span_goes_back, spanned}
use Rattle.rules.specs.Calls.{over_of, merge_table, join_table}
use Rattle.rules_by_group.proofs.RoomLaws.{laid-room}
use Rattle.rules_by_group.specs.Kept.{Within}
use Rattle.rules_by_group.specs.Group.{keys_over, span_over, spanned_by}
use Rattle.rules_by_group.proofs.TableLaws.{lay-append, lay-rewrite, join-over}
use Rattle.memtable.specs.declared.Head.{Head}
use Rattle.memtable.specs.Appends.{Lent}
use Rattle.memtable.specs.Views.{Row, Rows}
use Rattle.memtable.specs.Views as memtable
use Rattle.memtable.specs.RowLaws.{row_moved, row_at-queue}
use Rattle.memtable.specs.SameLaws.{all-rewritten}
use Rattle.memtable.specs.WindowLaws.{window_same, window-every}
use Rattle.stretch.specs.Stretch.{head_part, entry_rows, table_at, NumbersWf}
use Rattle.stretch.specs.Changes.{outcome_as}
use Rattle.worktable.specs.declared.Mode.{Mode}
use Rattle.worktable.specs.declared.Mode.TheVariants as mode
use Rattle.worktable.specs.Work.{long_keys_at, long_entries, long_keys, work_in}
use Rattle.worktable.specs.Calls.{Becomes, Ends, AllOf, laid_over, OlderFor, Layable, entries_held, HeadFor, entries_over, span_laid, table_over, TableEnds}
use Rattle.worktable.specs.WorkLaws.{few_of, not-ok, same_ok, becomes}

-- ---- a table's rows in use, lent as a list of its queue

module _ (h : Head) (xs rows : List ℕ) (w : memtable.Wf h xs) (e : (k : ℕ) → k < h.len * 8 → get_or rows k 0 ≡ get_or xs k 0) where
  moved : {q : ℕ} (i : ℕ) → i < h.len → Row q xs i → Row q rows i
  moved i l r = row_moved xs rows i i (λ k b. e (i * 8 + k) (omega arith)) r

  other : (i : ℕ) → i < h.len → i < h.rewrite_count → AllOf Append (window h.first_index h.len xs) → ⊥
  unfolding queue_at same_queue
  other i l m a =
      clash (sym (ap (λ q. same_queue q Append) (row_at-queue h.first_index xs i (omega arith) (w.rewritten i (omega arith) m)))
      ∙ window-every (λ (x : EntryIndex). same_queue (file_of x).queue Append) h.first_index h.len xs i l a)

  rows_are : (q : LogQueue) → AllOf q (window h.first_index h.len xs) → Rows (queue_number q) 0 h.len rows
  unfolding is_rewrite
  rows_are Append a =
      λ i z l.
      elim (dec_lt i h.rewrite_count) [
        | yes m ↦ absurd (other i l m a)
        | no m ↦ moved i l (w.appended i (omega arith) l)
      ]
  rows_are Rewrite a = λ i z l. (let f = all-rewritten h xs w a in moved i l (w.rewritten i z (omega arith)))

  lent_of : (q : LogQueue) → length rows ≡ h.len * 8 → AllOf q (window h.first_index h.len xs) → Lent (queue_number q) h.first_index rows
  lent_of q l a =
      let n : length rows / 8 ≡ h.len = omega arith in
      let i = w.index in
      record { whole = omega arith; index = omega arith; are = rw n (rows_are q a) }

-- those of a group's stretch
module _ (s : List ℕ) (w : NumbersWf s) where
  abbrev lent_rows : List ℕ
  lent_rows = part 10 ((head_part s).len * 8) s

  pub held-few : (head_part s).len ≤ 64
  unfolding entry_rows
  held-few =
      let l = w.numbers-are in
      let m : length (entry_rows s) ≡ 512 = length_part 10 512 s (omega arith) in
      let r = w.entries.room in
      omega arith

  lent_length : length lent_rows ≡ (head_part s).len * 8
  lent_length = let f = held-few in let l = w.numbers-are in length_part 10 ((head_part s).len * 8) s (omega arith)

  lent_same : (k : ℕ) → k < (head_part s).len * 8 → get_or lent_rows k 0 ≡ get_or (entry_rows s) k 0
  unfolding entry_rows
  lent_same k b =
      let f = held-few in
      get_or-part 10 ((head_part s).len * 8) s k 0 b ∙ sym (get_or-part 10 512 s k 0 (omega arith))

  pub lent-held : (q : LogQueue) → AllOf q (entries_held s) → Lent (queue_number q) (head_part s).first_index lent_rows
  lent-held q a = lent_of (head_part s) (entry_rows s) lent_rows w.entries lent_same q lent_length a

  pub lent-window : window (head_part s).first_index (length lent_rows / 8) lent_rows ≡ entries_held s
  lent-window =
      let l = lent_length in
      let n : length lent_rows / 8 ≡ (head_part s).len = omega arith in
      rw n (window_same (head_part s).first_index (head_part s).len lent_rows (entry_rows s) lent_same)

-- ---- room

abbrev only : List EntryIndex → Map (List ℕ) Held → Table
only es ks = record { entries = es; keys = ks; span = None; counted = true }

self-within : (t : Table) → Within (length t.entries) (length t.keys) (Some t)
unfolding made or_else
self-within t = record { few-entries = omega arith; few-keys = omega arith }

over-few : (t : Table) (es : List EntryIndex) → length (over t.entries es) ≤ length t.entries + length es
over-few t es =
    unfold made or_else merge_table with_span with_keys over_of with_entries in
    (laid-room Append (length t.entries) (length t.keys) (Some t) (only es []) (self-within t)).few-entries

gap-few : (t : Table) (es : List EntryIndex) → length (over_gap t.entries es) ≤ length t.entries + length es
gap-few t es =
    unfold made or_else merge_table with_span with_keys over_of with_entries in
    (laid-room Rewrite (length t.entries) (length t.keys) (Some t) (only es []) (self-within t)).few-entries

keys-few : (t : Table) (ks : Map (List ℕ) Held) → length (over_keys t.keys ks) ≤ length t.keys + length ks
keys-few t ks =
    unfold made or_else merge_table with_span with_keys over_of with_entries in
    (laid-room Append (length t.entries) (length t.keys) (Some t) (only [] ks) (self-within t)).few-keys

-- entries laid over add no more than they are, and leave the keys
pub record Grown (es : List EntryIndex) (t u : Table) : Type 0 where
  pub entries : length u.entries ≤ length t.entries + length es
  pub keys : u.keys ≡ t.keys

appended-grown : (es : List EntryIndex) (t u : Table) → appended false es t ≡ Ok u → Grown es t u
unfolding appended with_entries
appended-grown [] t u e = let h = same_ok t u e in rw (← h) (record { entries = omega arith; keys = refl })
appended-grown (x ∷ es) t u e =
    split (is_above_last x.index t.entries)
    (λ y. absurd (not-ok (rw y at e)))
    (λ y. let h = same_ok (with_entries (over t.entries (x ∷ es)) t) u (rw y at e) in rw (← h) (record { entries = over-few t (x ∷ es); keys = refl }))

replayed-grown : (es : List EntryIndex) (t u : Table) → ◌≡◌ {A = Result Table} (Ok (replayed_rewrite es t)) (Ok u) → Grown es t u
unfolding replayed_rewrite with_entries
replayed-grown es t u e =
    let h = same_ok (with_entries (over_gap t.entries es) t) u e in rw (← h) (record { entries = gap-few t es; keys = refl })

pub entries-grown : (m : Mode) (es : List EntryIndex) (t u : Table) → entries_over m es t ≡ Ok u → Grown es t u
unfolding entries_over
entries-grown mode.Append es t u e = appended-grown es t u e
entries-grown mode.Rewrite es t u e = replayed-grown es t u e
entries-grown mode.Join es t u e = replayed-grown es t u e

-- a span is set beside the entries and the keys
pub record Beside (t u : Table) : Type 0 where
  pub entries : u.entries ≡ t.entries
  pub keys : u.keys ≡ t.keys

span_same : (s : Option Span) (t : Table) → Beside t (span_over s t)
unfolding span_over with_span
span_same None t = record { entries = refl; keys = refl }
span_same (Some s) t = record { entries = refl; keys = refl }

spanned_same : (s : Option Span) (t u : Table) → spanned_by s t ≡ Ok u → Beside t u
unfolding spanned_by spanned with_span
spanned_same None t u e = let h = same_ok t u e in rw (← h) (record { entries = refl; keys = refl })
spanned_same (Some s) t u e =
    split (span_goes_back t.span s)
    (λ y. absurd (not-ok (rw y at e)))
    (λ y. let h = same_ok (with_span (Some s) t) u (rw y at e) in rw (← h) (record { entries = refl; keys = refl }))

pub span-beside : (m : Mode) (s : Option Span) (t u : Table) → span_laid m s t ≡ Ok u → Beside t u
unfolding span_laid
span-beside mode.Append s t u e = let h = same_ok (span_over s t) u e in rw (← h) (span_same s t)
span-beside mode.Rewrite s t u e = spanned_same s t u e
span-beside mode.Join s t u e = let h = same_ok t u e in rw (← h) (record { entries = refl; keys = refl })

pub within_of : (t : Table) → length t.entries ≤ long_entries → length t.keys ≤ long_keys → Within long_entries long_keys (Some t)
unfolding made or_else
within_of t a b = record { few-entries = a; few-keys = b }

-- there is room for each step
module _ (newer t u : Table) (few : (length newer.entries ≤ 64) × (length newer.keys ≤ 16)) (room : Within 320 144 (Some t)) (g : Grown newer.entries t u) where
  pub room-entries : Within long_entries long_keys (Some u)
  room-entries =
      let f = few_of 320 144 t room in
      let e = g.entries in
      let k : length u.keys ≡ length t.keys = ap length g.keys in
      within_of u (omega (arith, few, f, e)) (omega (arith, f, k))

  pub room-keys : Within long_entries long_keys (Some (keys_over newer u))
  unfolding keys_over with_keys
  room-keys =
      let f = few_of 320 144 t room in
      let e = g.entries in
      let k : length u.keys ≡ length t.keys = ap length g.keys in
      let l = keys-few u newer.keys in
      within_of (keys_over newer u) (omega (arith, few, f, e)) (omega (arith, few, f, k, l))

pub room-beside : (t u : Table) → Within long_entries long_keys (Some t) → Beside t u → Within long_entries long_keys (Some u)
room-beside t u w b =
    let f = few_of long_entries long_keys t w in
    let e : length u.entries ≡ length t.entries = ap length b.entries in
    let k : length u.keys ≡ length t.keys = ap length b.keys in
    within_of u (omega (arith, f, e)) (omega (arith, f, k))

-- ---- the steps are the rules'

pub head_for : (m : Mode) (h : Head) (xs : List ℕ) → memtable.Wf h xs → (t : Table) → t.entries ≡ window h.first_index h.len xs → OlderFor m (Some t) → HeadFor m h
unfolding HeadFor OlderFor made or_else
head_for mode.Append h xs w t e o = tt
head_for mode.Rewrite h xs w t e o = all-rewritten h xs w (rw e at o)
head_for mode.Join h xs w t e o = tt

older-made : (m : Mode) (o : Option Table) → OlderFor m o → OlderFor m (Some (made o))
unfolding OlderFor made or_else
older-made mode.Append o a = tt
older-made mode.Rewrite o a = a
older-made mode.Join o a = tt

pub layable-made : (m : Mode) (newer : Table) (o : Option Table) → Layable m newer o → Layable m newer (Some (made o))
unfolding made or_else
layable-made m newer o l =
    record {
      newer-of = l.newer-of;
      older-of = older-made m o l.older-of;
      room = record { few-entries = l.room.few-entries; few-keys = l.room.few-keys };
    }

some_of : (x : Result Table) (r : ByCause (Unit {0})) (p b : List ℕ) → work_in p b ≡ Some (table_at long_keys_at p b) → outcome_as r (table_at long_keys_at p b) ≡ x → outcome_as r (work_in p b) ≡ and_then x (λ t. Ok (Some t))
unfolding and_then
some_of x (Ok _) p b w e = rw (← e) (ap Ok w)
some_of x (Err n) p b w e = rw (← e) refl

pub ends : (x : Result Table) (r : ByCause (Unit {0})) (p b : List ℕ) → TableEnds x r p b → Ends (and_then x (λ t. Ok (Some t))) r p b
ends x r p b t =
    let c = becomes (table_at long_keys_at p b) p b t.stands in
    record { rule = some_of x r p b c.is t.rule; wf = c.wf }

then_same : {A B : Type 0} (x : Result A) (f : A → B) (g : B → Option Table) → and_then (and_then x (λ a. Ok (f a))) (λ b. Ok (g b)) ≡ and_then x (λ a. Ok (g (f a)))
unfolding and_then
then_same (Ok a) f g = refl
then_same (Err r) f g = refl

over-append : (newer : Table) (o : Option Table) → and_then (table_over mode.Append newer (made o)) (λ t. Ok (Some t)) ≡ laid_over mode.Append newer o
unfolding table_over entries_over span_laid laid_over
over-append newer o =
    then_same (appended false newer.entries (made o)) (λ u. span_over newer.span (keys_over newer u)) (λ t. Some t) ∙ sym (lay-append newer o)

over-rewrite : (newer : Table) (o : Option Table) → and_then (table_over mode.Rewrite newer (made o)) (λ t. Ok (Some t)) ≡ laid_over mode.Rewrite newer o
unfolding table_over entries_over span_laid laid_over and_then
over-rewrite newer o = sym (lay-rewrite newer o)

over-join : (newer older : Table) → and_then (table_over mode.Join newer (made (Some older))) (λ t. Ok (Some t)) ≡ laid_over mode.Join newer (Some older)
unfolding table_over entries_over span_laid laid_over and_then made or_else laid
over-join newer older = ap (λ t. Ok (Some t)) (sym (join-over newer older))

-- a merge lays over what may be absent, the join what is there
pub ends-append : (newer : Table) (o : Option Table) (r : ByCause (Unit {0})) (p b : List ℕ) → TableEnds (table_over mode.Append newer (made o)) r p b → Ends (laid_over mode.Append newer o) r p b
ends-append newer o r p b t = rw (← over-append newer o) (ends (table_over mode.Append newer (made o)) r p b t)

pub ends-rewrite : (newer : Table) (o : Option Table) (r : ByCause (Unit {0})) (p b : List ℕ) → TableEnds (table_over mode.Rewrite newer (made o)) r p b → Ends (laid_over mode.Rewrite newer o) r p b
ends-rewrite newer o r p b t = rw (← over-rewrite newer o) (ends (table_over mode.Rewrite newer (made o)) r p b t)

pub ends_there : (m : Mode) (newer older : Table) (r : ByCause (Unit {0})) (p b : List ℕ) → TableEnds (table_over m newer (made (Some older))) r p b → Ends (laid_over m newer (Some older)) r p b
ends_there mode.Append newer older r p b t = ends-append newer (Some older) r p b t
ends_there mode.Rewrite newer older r p b t = ends-rewrite newer (Some older) r p b t
ends_there mode.Join newer older r p b t = rw (← over-join newer older) (ends (table_over mode.Join newer (made (Some older))) r p b t)

adopts : (newer : Table) → laid_over mode.Join newer None ≡ Ok (Some (uncounted newer))
unfolding laid_over laid join_table
adopts newer = refl

pub ends-adopted : (newer : Table) (p b : List ℕ) → Becomes (Some (uncounted newer)) p b → Ends (laid_over mode.Join newer None) (Ok tt) p b
ends-adopted newer p b c = record { rule = ap Ok c.is ∙ sym (adopts newer); wf = c.wf }
