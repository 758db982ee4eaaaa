-- The laws of opened rows: what an opened item is, what it depends on, and the list of items by their places. Assumes nothing.
use Rattle.pipe_log.specs.declared.FileId.{FileId}
use Rattle.log_batch.specs.declared.item.Bytes.{Bytes}
use Rattle.log_batch.specs.Lent.{Opened}
use Rattle.rules.specs.Causes.{Ok, Err}
use Rattle.std.specs.Prelude.{Option, Some, None, Bool, ◌&&◌, ◌≡◌, List, [], ◌∷◌, ◌++◌, ltb, eqb, length, take, drop}
use Rattle.std.proofs.Math.Bool.{true, false, cond}
use Rattle.std.proofs.Math.Path.{refl, ap}
use Rattle.std.proofs.Common.{sym, ◌∙◌, get_or-take, le-leb, leb-true, le-ltb}
use Prim.Native.Nat.{ℕ, zero, suc, ◌+◌, ◌*◌, ◌/◌, ◌≤◌, ◌<◌}
use native.Mathlib.Omega.{arith}
use Rattle.std.proofs.Math.Dec.{leb}
use Rattle.std.proofs.Math.ListN.{get_or}
use Rattle.std.proofs.Math.Seq.{drop-drop}
use Rattle.cells.specs.Part.{part}
use Rattle.cells.specs.PartLaws.{part_of-front, part_of_back}
use Rattle.maps.specs.BoolLaws.{both_left, both_right, both}
use Rattle.pipe_log.specs.Rows.{entries_of}
use Rattle.rules.specs.Items as rules
use Rattle.log_batch.specs.declared.item.Command as command
use Rattle.log_batch.specs.declared.item.OpType as op
use Rattle.log_batch.specs.declared.item.LogItemContent as content
use Rattle.log_batch.specs.declared.item.LogItem.{LogItem}
use Rattle.log_batch.specs.Lent.{item_if, value_fits, value_at, file_at, opened_entries, opened_put, opened_del, opened_row, content_of, item_of, opened_of, key_content, key_change, change_of, value_of, item_at, items_from, ValueWithin, Within, OpenedWithin}

-- ---- what holds of every way in which a row is opened

module _ (P : Opened → Type 0) (row : List ℕ) where
  either : (b : Bool) (x y : Opened) → P x → P y → P (cond b x y)
  either true x y p q = p
  either false x y p q = q

  pub if-fits : (b : Bool) (c : content.LogItemContent) → (b ≡ true → P (Ok (record { raft_group_id = get_or row 0 0; content = c }))) → P (Err (record { raft_group_id = (get_or row 0 0) })) → P (item_if b row c)
  unfolding item_if
  if-fits true c h r = h refl
  if-fits false c h r = r

  module _ (rows bytes : ℕ) (refused : P (Err (record { raft_group_id = (get_or row 0 0) }))) where
    pub by-tag : P (opened_entries row rows) → ((c : command.Command) → P (item_if true row (content.TheVariants.Command c))) → P (opened_put row bytes) → P (opened_del row bytes) → P (opened_row row rows bytes)
    unfolding opened_row
    by-tag list told put del =
        either (ltb (length row) 9) _ _ refused
        (either (eqb (get_or row 1 0) 0) _ _ list
        (either (eqb (get_or row 1 0) 1) _ _ (told command.TheVariants.Clean)
        (either (eqb (get_or row 1 0) 2) _ _ (told (command.TheVariants.Compact (get_or row 2 0)))
        (either (eqb (get_or row 1 0) 3) _ _ put (either (eqb (get_or row 1 0) 4) _ _ del refused)))))

-- ---- the places of an opened item are within the slices

value-within : (nb : ℕ) (z o : Bool) (a n : ℕ) → cond z true (o && leb (a + n) nb) ≡ true → ValueWithin (cond z None (Some (record { at = a; len = n }))) nb
value-within nb true o a n h = tt
value-within nb false o a n h = leb-true _ _ (both_right o _ h)

pub opened-within : (ne nb : ℕ) (row : List ℕ) → OpenedWithin (opened_row row (ne / 8) nb) ne nb
unfolding opened_entries opened_put opened_del value_fits value_at
opened-within ne nb row =
    let P : Opened → Type 0 = λ o. OpenedWithin o ne nb in
    let keyed = leb (get_or row 2 0 + get_or row 3 0) nb in
    by-tag P row (ne / 8) nb tt
    (if-fits P row _ _ (λ h. let l = leb-true (get_or row 2 0 + get_or row 3 0) (ne / 8) h in record { rows = omega arith; places = tt }) tt)
    (λ c. if-fits P row true (content.TheVariants.Command c) (λ h. record { rows = tt; places = tt }) tt)
    (if-fits P row _ _ (λ h.
    record {
      rows = tt;
      places =
          (leb-true _ _ (both_left keyed _ h), value-within nb (eqb (get_or row 4 0) 0) (eqb (get_or row 4 0) 1) (get_or row 5 0) (get_or row 6 0) (both_right keyed _ h));
    }) tt)
    (if-fits P row _ _ (λ h. record { rows = tt; places = (leb-true _ _ h, tt) }) tt)

-- ---- a Del that was opened has no value

abbrev pub BareOp : op.OpType → Option Bytes → Type 0
BareOp op.TheVariants.Put v = Unit
BareOp op.TheVariants.Del v = v ≡ None

abbrev pub Bare : content.LogItemContent → Type 0
Bare (content.TheVariants.EntryIndexes e) = Unit
Bare (content.TheVariants.Command c) = Unit
Bare (content.TheVariants.Kv k) = BareOp k.op_type k.value

abbrev OpenedBare : Opened → Type 0
OpenedBare (Ok it) = Bare it.content
OpenedBare (Err u) = Unit

bare-row : (row : List ℕ) (rows bytes : ℕ) → OpenedBare (opened_row row rows bytes)
unfolding opened_entries opened_put opened_del
bare-row row rows bytes =
    by-tag OpenedBare row rows bytes tt
    (if-fits OpenedBare row _ _ (λ h. tt) tt)
    (λ c. if-fits OpenedBare row true (content.TheVariants.Command c) (λ h. tt) tt)
    (if-fits OpenedBare row _ _ (λ h. tt) tt)
    (if-fits OpenedBare row _ _ (λ h. refl) tt)

pub opened_bare : (row : List ℕ) (rows bytes : ℕ) (it : LogItem) → opened_row row rows bytes ≡ Ok it → Bare it.content
opened_bare row rows bytes it e = rw e at (bare-row row rows bytes)

-- ---- a row that opens stays open in longer slices

pub refused-item : {P : Type 0} (g : ℕ) (it : LogItem) → ◌≡◌ {A = Opened} (Err (record { raft_group_id = g })) (Ok it) → P
refused-item g it e = cc

module _ (it : LogItem) where
  opens_by : (b : Bool) (x y x' y' : Opened) → (x ≡ Ok it → x' ≡ Ok it) → (y ≡ Ok it → y' ≡ Ok it) → cond b x y ≡ Ok it → cond b x' y' ≡ Ok it
  opens_by true x y x' y' p q e = p e
  opens_by false x y x' y' p q e = q e

  opens_if : (b b' : Bool) (row : List ℕ) (c : content.LogItemContent) → (b ≡ true → b' ≡ true) → item_if b row c ≡ Ok it → item_if b' row c ≡ Ok it
  unfolding item_if
  opens_if true b' row c h e = rw (h refl) e
  opens_if false b' row c h e = refused-item _ it e

  leb-longer : (a b b' : ℕ) → b ≤ b' → leb a b ≡ true → leb a b' ≡ true
  leb-longer a b b' h e = let l = leb-true a b e in le-leb a b' (omega arith)

  value-longer : (row : List ℕ) (b b' : ℕ) → b ≤ b' → value_fits row b ≡ true → value_fits row b' ≡ true
  unfolding value_fits
  value-longer row b b' h e = by (eqb (get_or row 4 0) 0) (eqb (get_or row 4 0) 1) e
    where
      by : (x y : Bool) → cond x true (y && leb (get_or row 5 0 + get_or row 6 0) b) ≡ true → cond x true (y && leb (get_or row 5 0 + get_or row 6 0) b') ≡ true
      by true y e = refl
      by false y e = both (both_left y _ e) (leb-longer _ b b' h (both_right y _ e))

  pub open-longer : (row : List ℕ) (r b r' b' : ℕ) → r ≤ r' → b ≤ b' → opened_row row r b ≡ Ok it → opened_row row r' b' ≡ Ok it
  unfolding opened_row opened_entries opened_put opened_del
  open-longer row r b r' b' h k =
      let keyed : leb (get_or row 2 0 + get_or row 3 0) b ≡ true → leb (get_or row 2 0 + get_or row 3 0) b' ≡ true = leb-longer _ b b' k in
      let fits = leb (get_or row 2 0 + get_or row 3 0) b in
      opens_by (ltb (length row) 9) _ _ _ _ (λ e. e)
      (opens_by (eqb (get_or row 1 0) 0) _ _ _ _ (opens_if _ _ row _ (leb-longer _ r r' h))
      (opens_by (eqb (get_or row 1 0) 1) _ _ _ _ (λ e. e)
      (opens_by (eqb (get_or row 1 0) 2) _ _ _ _ (λ e. e)
      (opens_by (eqb (get_or row 1 0) 3) _ _ _ _ (opens_if _ _ row _ (λ e. both (keyed (both_left fits _ e)) (value-longer row b b' k (both_right fits _ e))))
      (opens_by (eqb (get_or row 1 0) 4) _ _ _ _ (opens_if _ _ row _ keyed) (λ e. e))))))

-- ---- a row is its first nine numbers

short-front : (row : List ℕ) → ltb (length (take 9 row)) 9 ≡ ltb (length row) 9
short-front [] = refl
short-front (a ∷ []) = refl
short-front (a ∷ (b ∷ [])) = refl
short-front (a ∷ (b ∷ (c ∷ []))) = refl
short-front (a ∷ (b ∷ (c ∷ (d ∷ [])))) = refl
short-front (a ∷ (b ∷ (c ∷ (d ∷ (e ∷ []))))) = refl
short-front (a ∷ (b ∷ (c ∷ (d ∷ (e ∷ (f ∷ [])))))) = refl
short-front (a ∷ (b ∷ (c ∷ (d ∷ (e ∷ (f ∷ (g ∷ []))))))) = refl
short-front (a ∷ (b ∷ (c ∷ (d ∷ (e ∷ (f ∷ (g ∷ (h ∷ [])))))))) = refl
short-front (a ∷ (b ∷ (c ∷ (d ∷ (e ∷ (f ∷ (g ∷ (h ∷ (i ∷ row))))))))) = sym (le-ltb (length (a ∷ b ∷ c ∷ d ∷ e ∷ f ∷ g ∷ h ∷ i ∷ row)) 9 (omega arith))

row-front : (row : List ℕ) (r b : ℕ) → opened_row (take 9 row) r b ≡ opened_row row r b
unfolding opened_row opened_entries opened_put opened_del item_if value_fits value_at file_at
row-front row r b =
    rw (
      short-front row,
      get_or-take 9 row 0 0 (omega arith),
      get_or-take 9 row 1 0 (omega arith),
      get_or-take 9 row 2 0 (omega arith),
      get_or-take 9 row 3 0 (omega arith),
      get_or-take 9 row 4 0 (omega arith),
      get_or-take 9 row 5 0 (omega arith),
      get_or-take 9 row 6 0 (omega arith),
      get_or-take 9 row 7 0 (omega arith),
      get_or-take 9 row 8 0 (omega arith),
    )

pub rows-open_same : (row row' : List ℕ) (r b : ℕ) → take 9 row ≡ take 9 row' → opened_row row r b ≡ opened_row row' r b
rows-open_same row row' r b e = sym (row-front row r b) ∙ ap (λ (l : List ℕ). opened_row l r b) e ∙ row-front row' r b

-- ---- an item's meaning depends on its own places alone

-- the places of an item's rows and of its bytes, each the first and how many
abbrev pub ValueIn : (ℕ → ℕ → Type 0) → Option Bytes → Type 0
ValueIn B None = Unit
ValueIn B (Some b) = B b.at b.len

abbrev pub PlacesIn : (ℕ → ℕ → Type 0) → (ℕ → ℕ → Type 0) → content.LogItemContent → Type 0
PlacesIn R B (content.TheVariants.EntryIndexes e) = R (e.at * 8) (e.count * 8)
PlacesIn R B (content.TheVariants.Command c) = Unit
PlacesIn R B (content.TheVariants.Kv k) = B k.key_at k.key_len × ValueIn B k.value

module _ (R B : ℕ → ℕ → Type 0) (es bs es' bs' : List ℕ) (e : (a n : ℕ) → R a n → part a n es ≡ part a n es') (b : (a n : ℕ) → B a n → part a n bs ≡ part a n bs') where
  value_same : (v : Option Bytes) → ValueIn B v → value_of v bs ≡ value_of v bs'
  unfolding value_of
  value_same None w = refl
  value_same (Some v) w = rw (b v.at v.len w)

  change_same : (o : op.OpType) (v : Option Bytes) (f : Option FileId) → ValueIn B v → change_of o v f bs ≡ change_of o v f bs'
  unfolding change_of
  change_same op.TheVariants.Put v f w = rw (value_same v w)
  change_same op.TheVariants.Del v f w = refl

  content_same : (c : content.LogItemContent) → PlacesIn R B c → content_of c es bs ≡ content_of c es' bs'
  unfolding content_of key_content key_change
  content_same (content.TheVariants.EntryIndexes x) w = rw (e (x.at * 8) (x.count * 8) w)
  content_same (content.TheVariants.Command c) w = refl
  content_same (content.TheVariants.Kv k) w =
      rw (b k.key_at k.key_len w.0, change_same k.op_type k.value k.file_id w.1)

  pub item_same : (it : LogItem) → PlacesIn R B it.content → item_of it es bs ≡ item_of it es' bs'
  unfolding item_of
  item_same it w = rw (content_same it.content w)

-- where the fronts are the same
module _ (ne nb : ℕ) where
  value-in-front : (v : Option Bytes) → ValueWithin v nb → ValueIn (λ a n. a + n ≤ nb) v
  value-in-front None w = tt
  value-in-front (Some b) w = w

  in-front : (c : content.LogItemContent) → Within c ne nb → PlacesIn (λ a n. a + n ≤ ne) (λ a n. a + n ≤ nb) c
  in-front (content.TheVariants.EntryIndexes x) w = let h = w.rows in omega arith
  in-front (content.TheVariants.Command c) w = tt
  in-front (content.TheVariants.Kv k) w = (w.places.0, value-in-front k.value w.places.1)

  pub item-front : (es bs es' bs' : List ℕ) → take ne es ≡ take ne es' → take nb bs ≡ take nb bs' → (it : LogItem) → Within it.content ne nb → item_of it es bs ≡ item_of it es' bs'
  item-front es bs es' bs' e b it w =
      item_same (λ a n. a + n ≤ ne) (λ a n. a + n ≤ nb) es bs es' bs' (λ a n h. part_of-front a n ne es es' e h) (λ a n h. part_of-front a n nb bs bs' b h) it (in-front it.content w)

-- where the backs are the same
pub item_back : (ne nb : ℕ) (es bs es' bs' : List ℕ) → drop ne es ≡ drop ne es' → drop nb bs ≡ drop nb bs' → (it : LogItem) → PlacesIn (λ a n. ne ≤ a) (λ a n. nb ≤ a) it.content → item_of it es bs ≡ item_of it es' bs'
item_back ne nb es bs es' bs' e b it w =
    item_same (λ a n. ne ≤ a) (λ a n. nb ≤ a) es bs es' bs' (λ a n h. part_of_back a n ne es es' e h) (λ a n h. part_of_back a n nb bs bs' b h) it w

pub length-entries : (n : ℕ) (xs : List ℕ) → length (entries_of n xs) ≡ n
unfolding entries_of
length-entries zero xs = refl
length-entries (suc n) xs = ap suc (length-entries n _)

-- ---- the list of items by their places

module _ (es bs : List ℕ) where
  -- what a row is opened into is its item
  pub item-is : (row : List ℕ) (o : Opened) → opened_row row (length es / 8) (length bs) ≡ o → item_at es bs row ≡ opened_of o es bs
  unfolding item_at
  item-is row o e = rw e

  pub item-opened : (row : List ℕ) (it : LogItem) → opened_row row (length es / 8) (length bs) ≡ Ok it → item_at es bs row ≡ item_of it es bs
  unfolding opened_of
  item-opened row it e = item-is row (Ok it) e

  -- one item more
  pub items-snoc : (n : ℕ) (xs : List ℕ) → items_from es bs (suc n) xs ≡ items_from es bs n xs ++ (item_at es bs (drop (n * 9) xs) ∷ [])
  unfolding items_from
  items-snoc zero xs = refl
  items-snoc (suc n) xs =
      let s : suc n * 9 ≡ 9 + n * 9 = omega arith in
      rw (s, ← drop-drop (n * 9) 9 xs) (ap (λ l. item_at es bs xs ∷ l) (items-snoc n (drop 9 xs)))

  pub length-items : (n : ℕ) (xs : List ℕ) → length (items_from es bs n xs) ≡ n
  unfolding items_from
  length-items zero xs = refl
  length-items (suc n) xs = ap suc (length-items n (drop 9 xs))

  -- item j
  pub items_at : (n : ℕ) (xs : List ℕ) (j : ℕ) (z : rules.LogItem) → j < n → get_or (items_from es bs n xs) j z ≡ item_at es bs (drop (j * 9) xs)
  unfolding items_from
  items_at zero xs j z h = absurd (omega arith)
  items_at (suc n) xs zero z h = refl
  items_at (suc n) xs (suc j) z h =
      let s : suc j * 9 ≡ 9 + j * 9 = omega arith in
      rw (s, ← drop-drop (j * 9) 9 xs) (items_at n (drop 9 xs) j z (omega arith))

module _ (es bs es' bs' xs xs' : List ℕ) where
  pub items-same : (n : ℕ) → ((j : ℕ) → j < n → item_at es bs (drop (j * 9) xs) ≡ item_at es' bs' (drop (j * 9) xs')) → items_from es bs n xs ≡ items_from es' bs' n xs'
  unfolding items_from
  items-same zero f = refl
  items-same (suc n) f =
      rw (items-snoc es bs n xs, items-snoc es' bs' n xs', items-same n (λ j h. f j (omega arith)), f n (omega arith))
