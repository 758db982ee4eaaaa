-- One item of a batch by its deed: where the lists have room the deed decides, and otherwise it is refused by 18. Assumes nothing.
use Rattle.std.specs.Prelude.{Bool, true, false, ◌&&◌, List, ◌≡◌, refl, ℕ, length}
use Rattle.std.specs.Prelude.{Option}
use Rattle.std.proofs.Common.{sym, ◌∙◌}
use Rattle.maps.specs.BoolLaws.{clash, both_right}
use Rattle.maps.specs.OrderLaws.{split}
use Rattle.maps.specs.Maps.{lookup, numbers}
use Rattle.rules.specs.Limits.{max_tombstones, max_cleaned}
use Rattle.rules.specs.Causes.{Ok, refuse_at, and_then, placed, LimitPassed}
use Rattle.rules.specs.Items.{LogItem, Call, is_tombstone}
use Rattle.rules.specs.Table.{Table, made}
use Rattle.rules.specs.Context.{Context, with_groups, fits, limited, keeps, step}
use Rattle.stretch.specs.Changes.{rule_of}
use Rattle.deeds.specs.declared.Deed as deed
use Rattle.batches.specs.Steps.{adds_tombstone, adds_cleaned, grown, room_if, lists_have_room, step_skip, step-clean, step-change, step-full}
use Rattle.batches.specs.Acts.{deed_on}
use Rattle.deeds.specs.Deeds.{DeedReady}
use Rattle.deeds.specs.DeedLaws.{OnlyRewrite, DeedSays}

-- a list without room is one that the item adds to
adds_to : (b : Bool) (n most : ℕ) → room_if b n most ≡ false → b ≡ true
unfolding room_if
adds_to true n most e = refl
adds_to false n most e = absurd (clash (sym e))

and-false-right : (a b : Bool) → (a && b) ≡ false → a ≡ true → b ≡ false
and-false-right true b e t = e
and-false-right false b e t = absurd (clash t)

module _ (call : Call) (it : LogItem) (p : Option ℕ) (c : Context) (h : fits c ≡ true) (rows key value : List ℕ) where
  -- an item that changes its group and finds no room adds a tombstone
  is_tombstone_lem : adds_cleaned call it ≡ false → lists_have_room call it c ≡ false → is_tombstone it.content ≡ true
  unfolding lists_have_room adds_tombstone
  is_tombstone_lem k e =
      let a = room_if (adds_tombstone call it) (length c.tombstones) max_tombstones in
      let b = room_if (adds_cleaned call it) (length c.cleaned) max_cleaned in
      split a
      (λ t. absurd (clash (sym k ∙ adds_to (adds_cleaned call it) (length c.cleaned) max_cleaned (and-false-right a b e t))))
      (λ f. both_right (keeps call) (is_tombstone it.content) (adds_to (adds_tombstone call it) (length c.tombstones) max_tombstones f))

  pub step_room : (d : deed.Deed) → DeedSays d call it.content rows key value → lists_have_room call it c ≡ true → step limited call (record { item = it; place = p }) c ≡ placed p (and_then (deed_on d it.group rows key value c.groups) (λ m. Ok (grown call it (with_groups m c))))
  unfolding DeedSays deed_on and_then placed with_groups
  step_room deed.TheVariants.Skip s y = step_skip call it p c h s ∙ rw y
  step_room deed.TheVariants.Clean s y = step-clean call it p c h s.0 s.1 ∙ rw y
  step_room (deed.TheVariants.Change ch) s y =
      step-change call it p c h (rule_of ch rows key value) s.not-reserved (s.rule (lookup numbers it.group c.groups)) y

  pub step_no-room : (d : deed.Deed) → DeedSays d call it.content rows key value → lists_have_room call it c ≡ false → step limited call (record { item = it; place = p }) c ≡ refuse_at LimitPassed p
  unfolding DeedSays adds_cleaned
  step_no-room deed.TheVariants.Skip s y = step_skip call it p c h s ∙ rw y
  step_no-room deed.TheVariants.Clean s y = step-clean call it p c h s.0 s.1 ∙ rw y
  step_no-room (deed.TheVariants.Change ch) s y =
      let t = made (lookup numbers it.group c.groups) in
      let u = s.taken (is_tombstone_lem s.not-cleaned y) t in
      step-full call it p c h (rule_of ch rows key value) s.not-reserved (s.rule (lookup numbers it.group c.groups)) y u.0 u.1

-- what a deed asks is there
pub deed-ready : (call : Call) (it : LogItem) (rows key value : List ℕ) (t : Table) → OnlyRewrite call t → (d : deed.Deed) → DeedSays d call it.content rows key value → DeedReady d rows key value t
unfolding DeedSays DeedReady
deed-ready call it rows key value t o deed.TheVariants.Skip s = tt
deed-ready call it rows key value t o deed.TheVariants.Clean s = tt
deed-ready call it rows key value t o (deed.TheVariants.Change ch) s = s.ready t o
