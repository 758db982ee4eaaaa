-- The ways through the functions that write a line. Assumes nothing.
use Rattle.std.proofs.Common.{◌≡◌, refl, sym, ap, ◌∙◌, List, [], ◌∷◌, ◌++◌, append_assoc, append-nil, ℕ, suc, zero, ◌+◌, ◌*◌, ◌/◌, ◌%◌, ◌^◌, ◌≤◌, ◌<◌, zero-add, add-one, arith, length, take, get_or, length-append, ltb, lt-ltb, le-ltb, ltb-false}
use lib.ListN.{set}
use lib.Seq.{take-suc}
use Rattle.maps.specs.OrderLaws.{split}
use Rattle.cells.specs.Part.{put}
use Rattle.cells.specs.PartLaws.{length-put, part-front, part-put_same, put-nil, put-append, put-snoc, set-put}
use Rattle.takes_rules.specs.Fields.{comma}
use Rattle.takes_rules.specs.Output.{digits_before, decimal, fields_text, line_text}
use Rattle.takes_lines.specs.Written.{WrittenAt, Written, tenth, more-digits, decimal-most}

-- ---- digits

digits_split : (k n : ℕ) (s : List ℕ) → digits_before k n s ≡ digits_before k n [] ++ s
unfolding digits_before
digits_split zero n s = refl
digits_split (suc k) n s =
    split (ltb n 10)
    (λ t. rw t)
    (λ t. rw t
    (digits_split k (n / 10) ((48 + n % 10) ∷ s)
    ∙ sym (rw (digits_split k (n / 10) ((48 + n % 10) ∷ []), append_assoc))))

-- one more than the most digits makes no difference
digits_same : (k n : ℕ) (s : List ℕ) → n < 10 ^ k → 0 < k → digits_before k n s ≡ digits_before (suc k) n s
unfolding digits_before
digits_same zero n s h p = absurd (omega arith)
digits_same (suc k) n s h p =
    split (ltb n 10)
    (λ t. rw t)
    (λ t. rw t (digits_same k (n / 10) ((48 + n % 10) ∷ s) (tenth k n h) (more-digits k n h (ltb-false n 10 t))))

pub decimal_one : (n : ℕ) → n < 10 → decimal n ≡ (48 + n) ∷ []
unfolding decimal digits_before
decimal_one n h = rw (lt-ltb n 10 h)

pub decimal_last : (n : ℕ) → 10 ≤ n → n < 2 ^ 64 → decimal n ≡ decimal (n / 10) ++ ((48 + n % 10) ∷ [])
unfolding decimal
decimal_last n h f =
    unfold digits_before in rw (le-ltb n 10 h) (digits_split 19 (n / 10) ((48 + n % 10) ∷ [])) ∙ ap (λ (l : List ℕ). l ++ ((48 + n % 10) ∷ [])) (digits_same 19 (n / 10) [] (omega arith) (omega arith))

module _ (out : List ℕ) (at n : ℕ) where
  pub digit-written : n < 10 → at < length out → WrittenAt out at (decimal n) (at + 1) (set out at (48 + n))
  digit-written h f = rw (decimal_one n h) (record { laid = set-put out at (48 + n) f; end = refl })

  -- behind the digits but the last there is room for it
  pub last-fits : 10 ≤ n → n < 2 ^ 64 → at + length (decimal n) ≤ length out → at + length (decimal (n / 10)) < length out
  last-fits h f room = omega (arith, simp length-append at (ap length (decimal_last n h f)))

  pub digits-length : (last : ℕ) (out₁ : List ℕ) → 10 ≤ n → n < 2 ^ 64 → at + length (decimal n) ≤ length out → WrittenAt out at (decimal (n / 10)) last out₁ → last < length out₁
  digits-length last out₁ h f room w = rw (w.laid, w.end, length-put out at (decimal (n / 10)) (omega (arith, last-fits h f room))) (last-fits h f room)

  pub digits-written : (last : ℕ) (out₁ : List ℕ) → 10 ≤ n → n < 2 ^ 64 → at + length (decimal n) ≤ length out → WrittenAt out at (decimal (n / 10)) last out₁ → WrittenAt out at (decimal n) (last + 1) (set out₁ last (48 + n % 10))
  digits-written last out₁ h f room w =
      rw (decimal_last n h f, w.laid, w.end)
      (record { laid = put-snoc out at (decimal (n / 10)) (48 + n % 10) (last-fits h f room); end = simp length-append (omega arith) })

-- ---- a line

fields_snoc : (ns : List ℕ) (n : ℕ) → fields_text (ns ++ (n ∷ [])) ≡ fields_text ns ++ (comma ∷ decimal n)
unfolding fields_text
fields_snoc [] n = ap (λ (l : List ℕ). comma ∷ l) (append-nil (decimal n))
fields_snoc (m ∷ ns) n = rw (fields_snoc ns n, append_assoc)

-- the first i numbers are written, from place 1 on
pub record Writing (out ns : List ℕ) (i at : ℕ) (out' : List ℕ) : Type 0 where
  pub inside : i ≤ length ns
  pub written : WrittenAt out 1 (fields_text (take i ns)) at out'
  pub bound : at ≤ 1 + 21 * i

module _ (out ns : List ℕ) (room : 2 + 21 * length ns ≤ length out) where
  pub write-start : Writing out ns 0 1 out
  unfolding fields_text
  write-start = record { inside = omega arith; written = record { laid = sym (put-nil out 1); end = refl }; bound = omega arith }

  -- the slice stays as long
  pub writing-length : (i at : ℕ) (out' : List ℕ) → Writing out ns i at out' → length out' ≡ length out
  writing-length i at out' w =
      rw w.written.laid (length-put out 1 (fields_text (take i ns)) (omega (arith, w.inside, w.written.end, w.bound)))

  -- a comma and a number
  pub write-more : (i at : ℕ) (out₁ : List ℕ) (e : ℕ) (out₂ : List ℕ) → i < length ns → Writing out ns i at out₁ → WrittenAt (set out₁ at comma) (at + 1) (decimal (get_or ns i 0)) e out₂ → Writing out ns (i + 1) e out₂
  write-more i at out₁ e out₂ h w s =
      let number = comma ∷ decimal (get_or ns i 0) in
      let few : length (decimal (get_or ns i 0)) ≤ 20 = decimal-most (get_or ns i 0) in
      let fits : at < length out₁ = omega (arith, writing-length i at out₁ w, w.bound) in
      let here : out₂ ≡ put out₁ at number = s.laid ∙ rw set-put (sym (put-append out₁ at (comma ∷ []) (decimal (get_or ns i 0)) (omega arith))) in
      let same : fields_text (take (i + 1) ns) ≡ fields_text (take i ns) ++ number = rw (add-one i, take-suc ns i 0 h) (fields_snoc (take i ns) (get_or ns i 0)) in
      record {
        inside = omega arith;
        written = record {
          laid = here ∙ rw (w.written.laid, w.written.end, same) (sym (put-append out 1 (fields_text (take i ns)) number (omega arith)));
          end = rw same (simp length-append (omega (arith, w.written.end, s.end)));
        };
        bound = omega (arith, w.bound, s.end);
      }

  -- the letter before the numbers, and the newline behind them
  module _ (letter e : ℕ) (out₁ : List ℕ) (w : WrittenAt (set out 0 letter) 1 (fields_text ns) e out₁) (most : e ≤ 1 + 21 * length ns) where
    numbers-laid : out₁ ≡ put out 0 (letter ∷ fields_text ns)
    numbers-laid = w.laid ∙ rw (set-put out 0 letter (omega arith)) (sym (put-append out 0 (letter ∷ []) (fields_text ns) (omega arith)))

    pub numbers-length : length out₁ ≡ length out
    numbers-length = rw numbers-laid (length-put out 0 (letter ∷ fields_text ns) (omega (arith, w.end)))

    pub line-written : Written out (line_text letter ns) (e + 1) (set out₁ e 10)
    unfolding line_text
    line-written =
        let text = letter ∷ fields_text ns in
        let line = text ++ (10 ∷ []) in
        let end : e ≡ length text = omega (arith, w.end) in
        let whole : set out₁ e 10 ≡ put out 0 line = set-put out₁ e 10 (omega (arith, numbers-length)) ∙ rw (numbers-laid, end) (sym (rw zero-add at (put-append out 0 text (10 ∷ []) (omega arith)))) in
        let count : e + 1 ≡ length line = simp length-append (omega arith) in
        record {
          laid = whole;
          count = count;
          front = rw (whole, part-front (e + 1) (put out 0 line)) (part-put_same (e + 1) out 0 line (sym count) (omega arith));
        }
