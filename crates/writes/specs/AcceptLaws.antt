-- A marked batch whose part waits, passes a limit or goes back; and the call of a replay. Assumes nothing.
use Rattle.maps.specs.OrderLaws.{split}
use Rattle.std.specs.Prelude.{eqb, Option, None, true, false, ◌&&◌, List, ◌≡◌, leb, length}
use Rattle.std.specs.Prelude.{Some}
use Rattle.std.proofs.Math.Path.{refl, sym, ap}
use Rattle.std.proofs.Common.{true≢false, ◌∙◌, arith}
use Prim.Native.Nat.{ℕ}
use Rattle.cells.specs.Part.{put}
use Rattle.cells.specs.PartLaws.{put-part}
use Rattle.maps.specs.BoolLaws.{clash, and-false}
use Rattle.maps.specs.Lists.{every}
use Rattle.maps.specs.Maps.{Pair, Map, store, numbers}
use Rattle.rules.specs.Limits.{max_groups, max_tombstones, max_cleaned}
use Rattle.rules.specs.Causes.{number_of, WrongKind, TooLong, Incomplete, OutOfRange, WrongQueue, NotRewritable, BadMark, GroupAbsent, BadRange, EntryCompacted, EntryNotFound, BelowFirst, AboveLast, AppendLeft, AlreadyRewritten, KeyGoesBack, ListTooShort, Cause, FilesGoBack, LimitPassed, ByCause, Refusal, Result, Ok, Err, left}
use Rattle.rules.specs.Items.{Append, Rewrite, same_queue, LogItem, placed_from}
use Rattle.rules.specs.Checks.{Mark}
use Rattle.rules.specs.Table.{Table}
use Rattle.rules.specs.Context.{Kind, context, index, is_context, Part, Context, with_groups, with_waiting, table_fits, waiting_fits, fits, limited}
use Rattle.rules.specs.Waiting.{Accepted, wait, back, accept, some_parts, set_waiting, become, replay_marked}
use Rattle.rules_by_group.proofs.ItemLaws.{limited-fits}
use Rattle.rules_by_group.specs.Kept.{KeptAt}
use Rattle.room.specs.Layout.{waiting_of}
use Rattle.room.specs.Batches.{unmarked}
use Rattle.room.specs.Parts.{part_for}
use Rattle.waiting.specs.Accepts.{parts_at, Refusing, Finishing, AcceptedAs}
use Rattle.contexts.specs.Contexts.{waiting_numbers, waiting_bytes, rest_at, context_of, answer_as, Formed, Answered}
use Rattle.contexts.specs.AreaLaws.{area-length, area-bytes, context-fits}
use Rattle.writes.specs.WaitsLaws.{plain, waiting-fits, fits_with}
use Rattle.writes.specs.Accepting.{refusal_at, WaitedIn, AllSame, AcceptedIn}
use Rattle.writes.specs.MarkedLaws.{room-written, marked-is}

-- ---- the room of an area

module _ (xs bs : List ℕ) (w : Formed xs bs) where
  same-room : (ws vs : List ℕ) → ws ≡ waiting_numbers xs → vs ≡ waiting_bytes bs → AllSame xs bs (put xs 10019 ws) (put bs 20480 vs)
  same-room ws vs n m =
      let k = area-length xs bs w in
      let l = area-bytes xs bs w in
      record {
        numbers = rw n (put-part 10019 3490 xs (omega arith));
        bytes = rw m (put-part 20480 8192 bs (omega arith));
      }

  pub accepted-in : (g : ℕ) (new : Part) (r : ByCause (Option ℕ)) (ws vs : List ℕ) → length ws ≡ 3490 → length vs ≡ 8192 → AcceptedAs g new (waiting_numbers xs) (waiting_bytes bs) r ws vs → AcceptedIn g new xs bs r (put xs 10019 ws) (put bs 20480 vs)
  accepted-in g new (Ok None) ws vs n m a =
      let v = room-written xs bs ws vs w n m a.room in
      record {
        parts = a.parts;
        accepts = a.accepts;
        fits = rw (← a.waiting) a.room.fits;
        context-is = v.context-is ∙ ap (λ (x : Map ℕ (List Part)). with_waiting x (context_of xs bs)) a.waiting;
        formed = v.formed;
      }
  accepted-in g new (Err e) ws vs n m a = (a.0, same-room ws vs a.1 a.2)
  accepted-in g new (Ok (Some k)) ws vs n m a = (a.0, same-room ws vs a.1 a.2)

-- what holds of an area that is as it was
module _ {xs bs ys ds : List ℕ} (s : AllSame xs bs ys ds) where
  pub moved-formed : Formed xs bs → Formed ys ds
  moved-formed w = rw (s.numbers, s.bytes) w

  pub moved-kept : {k : Kind} → KeptAt k (context_of xs bs) → KeptAt k (context_of ys ds)
  moved-kept k = rw (s.numbers, s.bytes) k

  pub moved-finish : {g : ℕ} {p : Part} {k : ℕ} → Finishing g p k (waiting_numbers xs) (waiting_bytes bs) → Finishing g p k (waiting_numbers ys) (waiting_bytes ds)
  moved-finish f = rw (s.numbers, s.bytes) f

  pub moved-answer : {to : Context → Result Context} {r : (Result (Unit {0}))} {zs es : List ℕ} → Answered to ys ds r zs es → Answered to xs bs r zs es
  moved-answer a = rw (s.numbers, s.bytes) at a

-- the cause of number 18
pub limit-is : (e : Cause) → eqb (number_of e) (number_of LimitPassed) ≡ true → e ≡ LimitPassed
limit-is WrongKind t = absurd (clash t)
limit-is TooLong t = absurd (clash t)
limit-is Incomplete t = absurd (clash t)
limit-is OutOfRange t = absurd (clash t)
limit-is WrongQueue t = absurd (clash t)
limit-is NotRewritable t = absurd (clash t)
limit-is BadMark t = absurd (clash t)
limit-is FilesGoBack t = absurd (clash t)
limit-is GroupAbsent t = absurd (clash t)
limit-is BadRange t = absurd (clash t)
limit-is EntryCompacted t = absurd (clash t)
limit-is EntryNotFound t = absurd (clash t)
limit-is BelowFirst t = absurd (clash t)
limit-is AboveLast t = absurd (clash t)
limit-is AppendLeft t = absurd (clash t)
limit-is AlreadyRewritten t = absurd (clash t)
limit-is KeyGoesBack t = absurd (clash t)
limit-is LimitPassed t = refl
limit-is ListTooShort t = absurd (clash t)

-- ---- the marked batch

passing : (w : Map ℕ (List Part)) (c : Context) → waiting_fits w ≡ false → fits (with_waiting w c) ≡ false
unfolding fits with_waiting
passing w c f =
    rw f
    (and-false (leb (length c.groups) max_groups && every (λ (p : Pair ℕ Table). table_fits p.val) c.groups && leb (length c.tombstones) max_tombstones && leb (length c.cleaned) max_cleaned))

module _ (m : Mark) (seq : ℕ) (its : List LogItem) (xs bs : List ℕ) (w : Formed xs bs) where
  abbrev new : Part
  new = part_for m.byte seq (unmarked its)

  abbrev marked : Context → Result Context
  marked = replay_marked m seq (placed_from 0 its)

  abbrev waits : Map ℕ (List Part)
  waits = waiting_of (waiting_numbers xs) (waiting_bytes bs)

  waiting-is : (context_of xs bs).waiting ≡ waits
  unfolding context_of rest_at with_groups with_waiting
  waiting-is = refl

  -- by what becomes of the part
  becomes : (a : Accepted) → accept (parts_at m.group waits) new ≡ a → marked (context_of xs bs) ≡ become limited (Some m.at) m.group new (plain (placed_from 0 its)) (context_of xs bs) a
  becomes a e =
      marked-is m seq its (context_of xs bs)
      ∙ ap (become limited (Some m.at) m.group new (plain (placed_from 0 its)) (context_of xs bs)) (rw waiting-is e)

  waits_to : (ps : List Part) → accept (parts_at m.group waits) new ≡ wait ps → marked (context_of xs bs) ≡ limited (Some m.at) (with_waiting (store numbers m.group (some_parts ps) waits) (context_of xs bs))
  unfolding become set_waiting
  waits_to ps e =
      becomes (wait ps) e
      ∙ ap (λ (v : Map ℕ (List Part)). limited (Some m.at) (with_waiting (store numbers m.group (some_parts ps) v) (context_of xs bs))) waiting-is

  pub marked-waits : (ys ds : List ℕ) → WaitedIn m.group new xs bs ys ds → Answered marked xs bs (Ok tt) ys ds
  unfolding answer_as left
  marked-waits ys ds a =
      let f = context-fits xs bs w in
      let g = fits_with (store numbers m.group (some_parts a.parts) waits) a.fits (context_of xs bs) (waiting-fits (context_of xs bs) f) ∙ f in
      let q = ap Ok a.context-is ∙ sym (waits_to a.parts a.accepts ∙ limited-fits (Some m.at) _ g) in
      record { answers = q; leaves = ap (left (context_of xs bs)) q; formed = a.formed }

  refuses : (r : Result (Unit {0})) (x : Refusal) (ys ds : List ℕ) → AllSame xs bs ys ds → marked (context_of xs bs) ≡ Err x → ((c : Context) → answer_as r c ≡ Err x) → Answered marked xs bs r ys ds
  unfolding left
  refuses r x ys ds s e a =
      rw (s.numbers, s.bytes)
      (record { answers = a (context_of xs bs) ∙ sym e; leaves = sym (ap (left (context_of xs bs)) e); formed = w })

  pub marked-refused : (e : Cause) (ys ds : List ℕ) → Refusing m.group new (waiting_numbers xs) (waiting_bytes bs) e × AllSame xs bs ys ds → Answered marked xs bs (Err (refusal_at e m.at)) ys ds
  unfolding answer_as limited become refusal_at
  marked-refused e ys ds a =
      split (eqb (number_of e) (number_of LimitPassed))
      (λ t.
      let l = limit-is e t in
      let p = a.0.passes l in
      rw (t, l)
      (refuses (Err (record { cause = LimitPassed; place = Some m.at })) _ ys ds a.1
      (waits_to p.parts p.accepts ∙ rw (passing (store numbers m.group (some_parts p.parts) waits) (context_of xs bs) p.passes))
      (λ c. refl)))
      (λ f.
      let b = a.0.goes_back (λ l. absurd (true≢false (rw l at f))) in
      rw (f, b.0) (refuses (Err (record { cause = FilesGoBack; place = None })) _ ys ds a.1 (becomes back b.1) (λ c. refl)))

-- ---- the kind

pub rewrite-is : (k : Kind) → is_context Rewrite k ≡ true → k ≡ context Rewrite
unfolding is_context same_queue
rewrite-is (context Append) h = absurd (clash h)
rewrite-is (context Rewrite) h = refl
rewrite-is index h = absurd (clash h)
