-- A group's line, by the contracts of the queries. Assumes nothing.
use Rattle.std.specs.Prelude.{Option, None, Some, unwrap_or}
use Rattle.std.specs.Result.{result_unwrap_or}
use mathlib.Core.List.{List, [], ◌∷◌, ◌++◌, append_assoc, append-nil, map}
use mathlib.Core.Path.{◌≡◌, refl, sym, ap, ◌∙◌}
use Prim.Native.Nat.{ℕ, ◌+◌, ◌*◌, ◌-◌, ◌≤◌, ◌<◌}
use native.Mathlib.Numerals.{add-one}
use native.Mathlib.Omega.{arith}
use lib.ListN.{length, take, drop, get_or, length-append, length-drop, length-map, get_or-map}
use lib.Seq.{take-suc, take_all}
use borrow.Author.Tests.{le-leb}
use borrow.Rule.Slice.PartMut.{put_mid}
use Rattle.maps.specs.Lists.{or_else}
use Rattle.maps.specs.Maps.{Map, Pair, lookup, numbers}
use Rattle.maps.specs.OrderLaws.{numbers_lawful}
use Rattle.maps.specs.MapLaws.{Ascending, lookup-get_or}
use Rattle.rules.specs.Causes.{by_cause, GroupAbsent, ByCause, Err, Ok, refuse, and_then}
use Rattle.rules.specs.Items.{Append, Rewrite}
use Rattle.rules.specs.Table.{Table, made, first_index_of}
use Rattle.rules.specs.Context.{Context, with_groups}
use Rattle.rules.specs.Queries.{in_group, answered, lent_after, group_numbers, live_entries}
use Rattle.rules_by_group.proofs.ResultLaws.{ok_inj, refused_not_ok}
use Rattle.groups.specs.Laws.{groups-fit}
use Rattle.contexts.specs.Contexts.{context_of, Wf}
use Rattle.queries.specs.Fetches.{NumbersFetched}
use Rattle.takes_rules.specs.Output.{group_line, live_line}
use Rattle.takes_rules.specs.Program.{groups_text}
use Rattle.takes_lines.specs.Written.{Written}
use Rattle.takes_runs.specs.Steps.{Says}
use Rattle.takes_runs.specs.Totals.{first_of, group_text}
use Rattle.takes_runs.proofs.StepLaws.{written-few}
use Rattle.takes_runs.proofs.OutLaws.{take-front, length_lent, printed-behind, lent_length}

-- what a query of a group's table answers, or d of an absent group
answered-or : {A : Type 0} (f : Table → A) (d : A) (r : ByCause A) (o : Option Table) → by_cause r ≡ or_else (refuse GroupAbsent) (λ t. Ok (f t)) o → result_unwrap_or r d ≡ or_else d f o
unfolding or_else
answered-or f d (Ok a) None e = absurd (refused_not_ok (sym e))
answered-or f d (Ok a) (Some t) e = ok_inj e
answered-or f d (Err x) None e = refl
answered-or f d (Err x) (Some t) e = absurd (refused_not_ok e)

or-0 : (o : Option ℕ) → unwrap_or o 0 ≡ or_else 0 (λ (i : ℕ). i) o
unfolding or_else
or-0 None = refl
or-0 (Some n) = refl

first-or-0 : (o : Option Table) → unwrap_or (or_else None (λ (t : Table). first_index_of t.entries) o) 0 ≡ or_else 0 first_of o
unfolding or_else first_of
first-or-0 None = refl
first-or-0 (Some t) = or-0 (first_index_of t.entries)

pub group-says : (c : Context) (g : ℕ) (a : ByCause (Option ℕ)) (b d : ByCause ℕ) (first entries keys : ℕ) → by_cause a ≡ in_group g (λ t. Ok (first_index_of t.entries)) c → by_cause b ≡ in_group g (λ t. Ok (length t.entries)) c → by_cause d ≡ in_group g (λ t. Ok (length t.keys)) c → first ≡ unwrap_or (result_unwrap_or a None) 0 → entries ≡ result_unwrap_or b 0 → keys ≡ result_unwrap_or d 0 → (out : List ℕ) (r : ℕ) (out' : List ℕ) → Written out (group_line g first entries keys) r out' → Says (group_text g (lookup numbers g c.groups)) r out'
unfolding in_group group_text
group-says c g a b d first entries keys h k l x y z out r out' w =
    let o = lookup numbers g c.groups in
    let f = x ∙ ap (λ n. unwrap_or n 0) (answered-or (λ (t : Table). first_index_of t.entries) None a o h) ∙ first-or-0 o in
    let n = y ∙ answered-or (λ (t : Table). length t.entries) 0 b o k in
    let m = z ∙ answered-or (λ (t : Table). length t.keys) 0 d o l in
    record { said = w.front ∙ rw (f, n, m); few = written-few out _ r out' w }

-- ---- all groups

abbrev line_for : Pair ℕ Table → List ℕ
line_for p =
    group_line p.key (or_else 0 (λ (i : ℕ). i) (first_index_of p.val.entries)) (length p.val.entries) (length p.val.keys)

text-append : (m n : Map ℕ Table) → groups_text (m ++ n) ≡ groups_text m ++ groups_text n
unfolding groups_text
text-append [] n = refl
text-append (p ∷ m) n = ap (λ l. line_for p ++ l) (text-append m n) ∙ sym (append_assoc (line_for p) (groups_text m) (groups_text n))

text-one : (p : Pair ℕ Table) → groups_text (p ∷ []) ≡ group_text p.key (Some p.val)
unfolding groups_text group_text first_of or_else
text-one p = append-nil (line_for p)

abbrev no_pair : Pair ℕ Table
no_pair = record { key = 0; val = made None }

abbrev keys_of : Map ℕ Table → List ℕ
keys_of m = map (λ (p : Pair ℕ Table). p.key) m

text-more : (m : Map ℕ Table) (i : ℕ) → Ascending numbers m → i < length m → groups_text (take i m) ++ group_text (get_or (keys_of m) i 0) (lookup numbers (get_or (keys_of m) i 0) m) ≡ groups_text (take (i + 1) m)
text-more m i a h =
    let p : Pair ℕ Table = get_or m i no_pair in
    let key : get_or (keys_of m) i 0 ≡ p.key = get_or-map (λ (x : Pair ℕ Table). x.key) m i no_pair in
    ap (λ g. groups_text (take i m) ++ group_text g (lookup numbers g m)) key
    ∙ ap (λ o. groups_text (take i m) ++ group_text p.key o) (lookup-get_or numbers numbers_lawful m i no_pair a h)
    ∙ ap (λ l. groups_text (take i m) ++ l) (sym (text-one p))
    ∙ sym (text-append (take i m) (p ∷ []))
    ∙ ap groups_text (sym (ap (λ j. take j m) (add-one i) ∙ take-suc m i no_pair h))

length-keys : (m : Map ℕ Table) → length (keys_of m) ≡ length m
length-keys m = length-map m (λ (p : Pair ℕ Table). p.key)

numbers-are : (c : Context) → group_numbers c ≡ keys_of c.groups
unfolding group_numbers
numbers-are c = refl

-- the loop over the groups: the lines of the first i are printed
pub record Printing (m : Map ℕ Table) (out₀ out : List ℕ) (at i : ℕ) : Type 0 where
  pub said : take at out ≡ groups_text (take i m)
  pub inside : i ≤ length m
  pub bound : at ≤ 86 * i
  pub same : length out ≡ length out₀

module _ (xs bs : List ℕ) (w : Wf xs bs) where
  few-groups : length (group_numbers (context_of xs bs)) ≤ 8
  unfolding context_of with_groups
  few-groups = omega (arith, ap length (numbers-are (context_of xs bs)) ∙ length-keys (context_of xs bs).groups, (groups-fit xs bs w.groups).0)

  module _ (list out₀ : List ℕ) (are : list ≡ group_numbers (context_of xs bs)) (room : 688 ≤ length out₀) where
    abbrev m : Map ℕ Table
    m = (context_of xs bs).groups

    listed : length list ≡ length m
    listed = ap length (are ∙ numbers-are (context_of xs bs)) ∙ length-keys m

    listed-few : length list ≤ 8
    listed-few = omega (arith, ap length are, few-groups)

    pub printing-none : Printing m out₀ out₀ 0 0
    printing-none = record { said = unfold groups_text in refl; inside = omega arith; bound = omega arith; same = refl }

    module _ (out : List ℕ) (at i : ℕ) (h : Printing m out₀ out at i) where
      pub printing-room : i < length list → at + 86 ≤ length out
      printing-room l = omega (arith, h.bound, h.same, listed-few)

      pub printing-more : (l : i < length list) (r : ℕ) (p : List ℕ) → length p ≡ length (take (at + 86 - at) (drop at out)) → Says (group_text (get_or list i 0) (lookup numbers (get_or list i 0) m)) r p → Printing m out₀ (put_mid at (at + 86 - at) out p) (at + r) (i + 1)
      printing-more l r p same s =
          let len : length p ≡ at + 86 - at = omega (arith, same, lent_length at 86 out (printing-room l)) in
          let inside : at + (at + 86 - at) ≤ length out = omega (arith, printing-room l) in
          let n : i < length m = omega (arith, listed) in
          record {
            said = printed-behind at (at + 86 - at) out p len inside r (omega (arith, s.few, len)) ∙ ap (λ x. x ++ take r p) h.said ∙ ap (λ x. groups_text (take i m) ++ x) s.said ∙ ap (λ ns. groups_text (take i m) ++ group_text (get_or ns i 0) (lookup numbers (get_or ns i 0) m)) (are ∙ numbers-are (context_of xs bs)) ∙ text-more m i w.kept.groups-ascend n;
            inside = omega arith;
            bound = omega (arith, s.few, len, h.bound);
            same = length_lent at (at + 86 - at) out p len inside ∙ h.same;
          }

      pub printed-few : at ≤ 688
      printed-few = omega (arith, h.bound, h.inside, listed, listed-few)

      pub printing_all : length list ≤ i → Says (groups_text m) at out
      printing_all e =
          let n : length m ≤ i = omega (arith, listed) in
          record { said = h.said ∙ ap groups_text (take_all i m n); few = omega (arith, printed-few, h.same) }

-- ---- the numbers of all groups

filled_is : (n : ℕ) (r : ByCause ℕ) → by_cause r ≡ Ok n → result_unwrap_or r 0 ≡ n
filled_is n (Ok k) e = ok_inj e
filled_is n (Err x) e = absurd (refused_not_ok e)

module _ (xs bs : List ℕ) (w : Wf xs bs) (list list' : List ℕ) (len : length list ≡ 8) (r : ByCause ℕ) (f : NumbersFetched (answered list (Ok (group_numbers (context_of xs bs)))) list r list') where
  abbrev ns : List ℕ
  ns = group_numbers (context_of xs bs)

  taken : answered list (Ok ns) ≡ Ok ns
  unfolding answered and_then
  taken = rw (le-leb (length ns) (length list) (omega (arith, few-groups xs bs w, len)))

  filled : result_unwrap_or r 0 ≡ length ns
  filled = filled_is (length ns) r (f.number ∙ ap (λ x. and_then x (λ (rows : List ℕ). Ok (length rows))) taken ∙ unfold and_then in refl)

  list-is : list' ≡ ns ++ drop (length ns) list
  list-is = f.list-is ∙ ap (lent_after list) taken ∙ unfold lent_after in refl

  pub filled-few : result_unwrap_or r 0 ≤ 8
  filled-few = omega (arith, filled, few-groups xs bs w)

  pub filled-length : length list' ≡ 8
  filled-length = omega (arith, ap length list-is, length-append ns (drop (length ns) list), length-drop (length ns) list, few-groups xs bs w, len)

  pub filled_with : take (result_unwrap_or r 0) list' ≡ ns
  filled_with =
      ap (λ n. take n list') filled
      ∙ ap (take (length ns)) list-is
      ∙ take-front (length ns) ns (drop (length ns) list) (omega arith)
      ∙ take_all (length ns) ns (omega arith)

-- ---- the groups, and the live counts behind them

module _ (s t out p : List ℕ) (at r : ℕ) (a : Says s at out) (b : Says t r p) (room : at + 44 ≤ length out) (same : length p ≡ length (take (at + 44 - at) (drop at out))) where
  behind-length : length p ≡ at + 44 - at
  behind-length = omega (arith, same, lent_length at 44 out room)

  behind-fits : at + (at + 44 - at) ≤ length out
  behind-fits = omega (arith, room)

  pub both-length : length (put_mid at (at + 44 - at) out p) ≡ length out
  both-length = length_lent at (at + 44 - at) out p behind-length behind-fits

  pub says_both : Says (s ++ t) (at + r) (put_mid at (at + 44 - at) out p)
  says_both =
      record {
        said = printed-behind at (at + 44 - at) out p behind-length behind-fits r (omega (arith, b.few, behind-length)) ∙ ap (λ x. x ++ take r p) a.said ∙ ap (λ x. s ++ x) b.said;
        few = omega (arith, b.few, behind-length, room, both-length);
      }

pub live-says : (c : Context) (a b : ℕ) → a ≡ live_entries Append c → b ≡ live_entries Rewrite c → (out : List ℕ) (r : ℕ) (out' : List ℕ) → Written out (live_line a b) r out' → Says (live_line (live_entries Append c) (live_entries Rewrite c)) r out'
live-says c a b x y out r out' w =
    record { said = w.front ∙ ap (λ n. live_line n b) x ∙ ap (live_line (live_entries Append c)) y; few = written-few out (live_line a b) r out' w }
