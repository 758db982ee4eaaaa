-- The ways of a tombstone on the work table, and the tombstones one after the other. Assumes nothing.
use mathlib.Core.Bool.{Bool, true}
use mathlib.Core.List.{List, [], ◌∷◌, ◌++◌}
use Rattle.std.specs.Prelude.{Option}
use mathlib.Core.Path.{◌≡◌, refl, sym, ap, ◌∙◌}
use Prim.Native.Nat.{ℕ, zero, suc, ◌+◌, ◌*◌, ◌<◌}
use native.Mathlib.Omega.{arith}
use lib.ListN.{length, get_or, drop}
use borrow.Author.Tests.{eq-eqb, ne_eqb}
use Rattle.maps.specs.Lists.{every}
use Rattle.maps.specs.BoolLaws.{both_left, both_right}
use Rattle.rules.specs.Causes.{Ok, left}
use Rattle.rules.specs.Items as rules
use Rattle.rules.specs.Table.{Table}
use Rattle.rules_by_group.specs.Group.{effected, tombed}
use Rattle.rules_by_group.specs.Kept.{all_tombstones}
use Rattle.rules_by_group.proofs.RoomLaws.{within_more, tomb-room, tombed-room}
use Rattle.rules_by_group.specs.Kept.{Within}
use Rattle.log_batch.specs.declared.causes.Call as call
use Rattle.log_batch.specs.declared.item.LogItem.{LogItem}
use Rattle.log_batch.specs.Lent.{item_of, content_of}
use Rattle.log_batch.specs.OpenLaws.{item-opened}
use Rattle.stores.specs.declared.Store.{Store}
use Rattle.stores.specs.Stores.{Area, store_items, first_items, ItemAt}
use Rattle.stores.specs.StoreLaws.{first-none, first_more, first_all}
use Rattle.deeds.specs.declared.Deed.{Deed}
use Rattle.deeds.specs.Deeds.{rows_in, key_in, value_in, deed_of}
use Rattle.worktable.specs.Work.{work_in, Wf}
use Rattle.worktable.specs.Calls.{Becomes, deed_to, Taken}
use Rattle.staging.specs.TombLaws.{Buries, deed_buries, buried, tombed-more, tombed-none}

-- ---- one tombstone

module _ (g : ℕ) (it : LogItem) (es bs : List ℕ) (o : Option Table) where
  buried-other : (it.raft_group_id ≡ g → ⊥) → buried g (item_of it es bs) o ≡ o
  unfolding buried item_of
  buried-other n = rw (ne_eqb it.raft_group_id g n)

  buried-own : it.raft_group_id ≡ g → buried g (item_of it es bs) o ≡ effected (content_of it.content es bs) o
  unfolding buried item_of
  buried-own e = rw (eq-eqb it.raft_group_id g e)

  module _ (t : rules.is_tombstone (content_of it.content es bs) ≡ true) where
    abbrev its : Deed
    its = deed_of call.TheVariants.ReplayAppend it.content es bs

    says : Buries its (rows_in it.content es) (key_in it.content bs) (value_in it.content bs) (content_of it.content es bs) o
    says = deed_buries it.content es bs o t

    gives : left o (deed_to its (rows_in it.content es) (key_in it.content bs) (value_in it.content bs) o) ≡ effected (content_of it.content es bs) o
    gives = ap (left o) says.rule ∙ (unfold left in refl)

    -- what the work table asks
    pub buried-taken : Within 320 144 o → Taken its (rows_in it.content es) (key_in it.content bs) (value_in it.content bs) o
    buried-taken w =
        record {
          ready = says.ready;
          taken = says.rule ∙ ap Ok (sym gives);
          room = rw gives (within_more 320 144 384 160 (effected (content_of it.content es bs) o) (omega arith) (omega arith) (tomb-room 320 144 o w (content_of it.content es bs)));
        }

    pub buried_becomes : it.raft_group_id ≡ g → (p b : List ℕ) → Becomes (left o (deed_to its (rows_in it.content es) (key_in it.content bs) (value_in it.content bs) o)) p b → Becomes (buried g (item_of it es bs) o) p b
    buried_becomes e p b k = record { is = k.is ∙ gives ∙ sym (buried-own e); wf = k.wf }

pub buried_stays : (g : ℕ) (it : LogItem) (es bs p b : List ℕ) → (it.raft_group_id ≡ g → ⊥) → Wf p b → Becomes (buried g (item_of it es bs) (work_in p b)) p b
buried_stays g it es bs p b n w = record { is = sym (buried-other g it es bs (work_in p b) n); wf = w }

-- ---- one after the other

-- the first j tombstones are carried out
pub record Buried (g : ℕ) (a : Area) (o : Option Table) (j : ℕ) (p b : List ℕ) : Type 0 where
  pub becomes : Becomes (tombed g (store_items (first_items j a) a) o) p b
  pub room : Within 320 144 o

module _ (g : ℕ) (s : Store) (a : Area) (p₀ b₀ : List ℕ) where
  pub buried_none : Wf p₀ b₀ → Within 320 144 (work_in p₀ b₀) → Buried g a (work_in p₀ b₀) 0 p₀ b₀
  buried_none w r =
      record {
        becomes = record { is = sym (ap (λ l. tombed g l (work_in p₀ b₀)) (first-none a) ∙ tombed-none g (work_in p₀ b₀)); wf = w };
        room = r;
      }

  module _ (j : ℕ) (p b : List ℕ) (k : Buried g a (work_in p₀ b₀) j p b) where
    pub buried-room : Within 320 144 (work_in p b)
    buried-room = rw k.becomes.is (tombed-room 320 144 g (store_items (first_items j a) a) (work_in p₀ b₀) k.room)

    pub buried-more : (it : LogItem) (p' b' : List ℕ) → ItemAt s a j it → Becomes (buried g (item_of it a.entries a.bytes) (work_in p b)) p' b' → Buried g a (work_in p₀ b₀) (j + 1) p' b'
    buried-more it p' b' at n =
        record {
          becomes = record {
            is =
                n.is
                ∙ ap (buried g (item_of it a.entries a.bytes)) k.becomes.is
                ∙ sym (tombed-more g (store_items (first_items j a) a) (item_of it a.entries a.bytes) (work_in p₀ b₀))
                ∙ ap (λ l. tombed g l (work_in p₀ b₀)) (sym (first_more a j ∙ ap (λ x. store_items (first_items j a) a ++ (x ∷ [])) (item-opened a.entries a.bytes (drop (j * 9) a.items) it at.opens)));
            wf = n.wf;
          };
          room = k.room;
        }

    pub buried_all : j ≡ s.items → Becomes (tombed g (store_items s a) (work_in p₀ b₀)) p b
    buried_all e = record { is = k.becomes.is ∙ ap (λ l. tombed g l (work_in p₀ b₀)) (first_all s a j e); wf = k.becomes.wf }

-- each of the tombstones is one
every_at : (P : rules.LogItem → Bool) (l : List rules.LogItem) (j : ℕ) (z : rules.LogItem) → j < length l → every P l ≡ true → P (get_or l j z) ≡ true
unfolding every
every_at P [] j z l e = absurd (omega arith)
every_at P (x ∷ xs) zero z l e = both_left (P x) (every P xs) e
every_at P (x ∷ xs) (suc j) z l e = every_at P xs j z (omega arith) (both_right (P x) (every P xs) e)

pub tombstone_at : (s : Store) (a : Area) (j : ℕ) (it : LogItem) → ItemAt s a j it → j < length (store_items s a) → all_tombstones (store_items s a) ≡ true → rules.is_tombstone (content_of it.content a.entries a.bytes) ≡ true
unfolding all_tombstones item_of
tombstone_at s a j it at l e =
    let z = item_of it a.entries a.bytes in
    ap (λ (x : rules.LogItem). rules.is_tombstone x.content) (sym (at.is z)) ∙ every_at (λ (x : rules.LogItem). rules.is_tombstone x.content) (store_items s a) j z l e
