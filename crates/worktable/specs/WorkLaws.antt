-- The laws of the work table: present or absent, made, and one change of it after another. Assumes nothing.
use Rattle.std.specs.Prelude.{true, false, List, ◌≡◌, refl, ℕ, ◌*◌, ◌≤◌, length, set}
use Rattle.std.specs.Prelude.{Option, None, Some}
use Rattle.std.proofs.Common.{sym, ap, ◌∙◌, arith, length-set, get_or-set_same, le-leb}
use Rattle.cells.specs.Part.{put}
use Rattle.maps.specs.BoolLaws.{clash}
use Rattle.maps.specs.Lists.{or_else}
use Rattle.rules.specs.Causes.{ByCause, Refusal, Result, Ok, Err, and_then, left}
use Rattle.rules.specs.Table.{Table, empty_table, made}
use Rattle.rules_by_group.specs.Kept.{Within}
use Rattle.kvs.specs.Rows.{fits}
use Rattle.stretch.specs.declared.Change.{Change}
use Rattle.stretch.specs.Stretch.{is_used, made_header, key_rows_at, table_at}
use Rattle.stretch.specs.StretchLaws.{length-entries, length-keys}
use Rattle.stretch.specs.Changes.{rule_of, room_at, outcome_as, ChangedAt}
use Rattle.stretch.specs.Laws.{limited_same, front-used, made-used, made-length, make-table, make_wf}
use Rattle.deeds.specs.declared.Deed as deed
use Rattle.worktable.specs.Work.{long_keys_at, long_numbers, long_bytes, long_entries, long_keys, work_in, Wf, Stands}
use Rattle.worktable.specs.Calls.{Becomes, deed_to, Taken}

-- ---- present and absent

pub work-some : (p b : List ℕ) → is_used p ≡ true → work_in p b ≡ Some (table_at long_keys_at p b)
unfolding work_in
work-some p b u = rw u

pub work_none : (p b : List ℕ) → is_used p ≡ false → work_in p b ≡ None
unfolding work_in
work_none p b u = rw u

pub made_some : (t : Table) → made (Some t) ≡ t
unfolding made or_else
made_some t = refl

-- the table that is there
pub stands-own : (p b : List ℕ) → Wf p b → is_used p ≡ true → Stands (made (work_in p b)) p b
stands-own p b w u =
    record {
      numbers-are = w.numbers-are;
      bytes-are = w.bytes-are;
      used = u;
      table = sym (ap made (work-some p b u) ∙ made_some (table_at long_keys_at p b));
      wf = w.used u;
    }

made_none : made None ≡ empty_table
unfolding made or_else
made_none = refl

-- an absent one that was made
pub stands-made : (p b : List ℕ) → Wf p b → is_used p ≡ false → Stands (made (work_in p b)) (put p 0 (made_header 0)) b
stands-made p b w u =
    let l = w.numbers-are in
    record {
      numbers-are = made-length 0 p (omega arith) ∙ l;
      bytes-are = w.bytes-are;
      used = made-used 0 p (omega arith);
      table = make-table long_keys_at 0 p b (omega arith) (omega arith) ∙ sym (ap made (work_none p b u) ∙ made_none);
      wf = make_wf long_keys_at 0 p b (omega arith) (omega arith);
    }

pub becomes : (t : Table) (p b : List ℕ) → Stands t p b → Becomes (Some t) p b
becomes t p b s =
    record {
      is = work-some p b s.used ∙ ap Some s.table;
      wf = record { numbers-are = s.numbers-are; bytes-are = s.bytes-are; used = λ u. s.wf };
    }

first-set : (p : List ℕ) → 1 ≤ length p → is_used (set p 0 0) ≡ false
unfolding is_used
first-set p l = rw (get_or-set_same p 0 0 0 (omega arith))

pub cleared : (p b : List ℕ) → length p ≡ long_numbers → length b ≡ long_bytes → Becomes None (set p 0 0) b
cleared p b l m =
    let u = first-set p (omega arith) in
    record {
      is = work_none (set p 0 0) b u;
      wf = record { numbers-are = length-set p 0 0 ∙ l; bytes-are = m; used = λ v. absurd (clash (sym u ∙ v)) };
    }

pub skipped : (p b : List ℕ) → Wf p b → Becomes (work_in p b) p b
skipped p b w = record { is = refl; wf = w }

-- ---- room

pub few_of : (e k : ℕ) (t : Table) → Within e k (Some t) → (length t.entries ≤ e) × (length t.keys ≤ k)
unfolding made or_else
few_of e k t w = (w.few-entries, w.few-keys)

room-long : (p b : List ℕ) (t : Table) → length p ≡ long_numbers → length b ≡ long_bytes → Within long_entries long_keys (Some t) → room_at long_keys_at p b t ≡ true
unfolding room_at fits
room-long p b t l m w =
    let f = few_of long_entries long_keys t w in
    let k = length-keys long_keys_at p (omega arith) in
    rw (
      length-entries long_keys_at p (omega arith) (omega arith),
      le-leb (length t.entries) long_entries f.0,
      le-leb (length t.keys * 4) (length (key_rows_at long_keys_at p)) (omega arith),
      le-leb (length t.keys * 64) (length b) (omega arith),
    )

-- ---- one change after another

-- what is accepted is the table at exit
told : (r : ByCause (Unit {0})) (x u : Table) → outcome_as r x ≡ Ok u → x ≡ u
told (Ok _) x u e = cc
told (Err n) x u e = let z : ◌≡◌ {A = ℕ} 0 1 = cc in absurd (omega arith)

module _ (t : Table) (p b : List ℕ) (s : Stands t p b) (by : Table → Result Table) (r : ByCause (Unit {0})) (p' b' : List ℕ) (c : ChangedAt long_keys_at by p b r p' b') (kp : length p' ≡ length p) (kb : length b' ≡ length b)
    (few : (u : Table) → by t ≡ Ok u → Within long_entries long_keys (Some u)) where
  -- the limit is not met
  pub step-rule : outcome_as r (table_at long_keys_at p' b') ≡ by t
  step-rule =
      c.rule
      ∙ limited_same long_keys_at p b (by (table_at long_keys_at p b)) (λ u e. room-long p b u s.numbers-are s.bytes-are (few u (ap by (sym s.table) ∙ e)))
      ∙ ap by s.table

  pub step-stands : Stands (table_at long_keys_at p' b') p' b'
  step-stands =
      record {
        numbers-are = kp ∙ s.numbers-are;
        bytes-are = kb ∙ s.bytes-are;
        used = front-used p p' c.front ∙ s.used;
        table = refl;
        wf = c.wf;
      }

  pub step_to : (u : Table) → by t ≡ Ok u → Stands u p' b'
  step_to u e =
      let x = told r (table_at long_keys_at p' b') u (step-rule ∙ e) in
      let y = step-stands in
      record { numbers-are = y.numbers-are; bytes-are = y.bytes-are; used = y.used; table = x; wf = y.wf }

-- ---- a deed

pub not-ok : {A : Type 0} {c : Refusal} {a : A} → Err c ≡ Ok a → ⊥
not-ok e = let z : ◌≡◌ {A = ℕ} 0 1 = cc in omega arith

pub same_ok : {A : Type 0} (a b : A) → ◌≡◌ {A = Result A} (Ok a) (Ok b) → a ≡ b
same_ok a b e = cc

module _ (o : Option Table) (by : Table → Result Table) (p b : List ℕ) (s : Stands (made o) p b) (r : ByCause (Unit {0})) (p' b' : List ℕ) (c : ChangedAt long_keys_at by p b r p' b') (kp : length p' ≡ length p) (kb : length b' ≡ length b) where
  acted_by : (x : Result Table) → by (made o) ≡ x → and_then x (λ t. Ok (Some t)) ≡ Ok (left o (and_then x (λ t. Ok (Some t)))) → Within long_entries long_keys (left o (and_then x (λ t. Ok (Some t)))) → Becomes (left o (and_then x (λ t. Ok (Some t)))) p' b'
  unfolding and_then left
  acted_by (Ok u) e t w =
      becomes u p' b' (step_to (made o) p b s by r p' b' c kp kb (λ v d. (let h = same_ok u v (sym e ∙ d) in rw (← h) w)) u e)
  acted_by (Err d) e t w = absurd (not-ok t)

pub acted : (o : Option Table) (ch : Change) (rows key value p b : List ℕ) → Taken (deed.TheVariants.Change ch) rows key value o → Stands (made o) p b → (r : ByCause (Unit {0})) (p' b' : List ℕ) → ChangedAt long_keys_at (rule_of ch rows key value) p b r p' b' → length p' ≡ length p → length b' ≡ length b → Becomes (left o (deed_to (deed.TheVariants.Change ch) rows key value o)) p' b'
unfolding deed_to
acted o ch rows key value p b t s r p' b' c kp kb =
    acted_by o (rule_of ch rows key value) p b s r p' b' c kp kb (rule_of ch rows key value (made o)) refl t.taken t.room
