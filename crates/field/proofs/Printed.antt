-- A number printed with zeros in front is its digits.
use Rattle.std.proofs.Common.{◌≡◌, ℕ, zero, suc, ◌+◌, ◌-◌, ◌*◌, ◌/◌, ◌%◌, ◌^◌, ◌<◌, ◌≤◌, false, List, [], ◌∷◌, ◌++◌, length, map, lit<, refl, sym, ap, ◌∙◌, ap₂, subst, pow-suc, mul_comm, arith}
use Rattle.std.proofs.Math.Nat.{pow-zero, one-mul, add-zero, div-one, zero-div, zero-mod, div-eq_of_lt, le-div_iff_mul-le, div-div-eq-div-mul}
use Rattle.std.proofs.Math.Logic.{⊎_elim}
use Rattle.std.proofs.lemmas.List.{append_assoc, append-nil, map-append}
use Rattle.std.specs.Prelude.{replicate}
use Rattle.std.proofs.lemmas.Nat.{div_below}
use Rattle.std.proofs.lemmas.Bool.{cases_lt, cond-true, cond-false, eq-eqb, ne_eqb}
use Rattle.std.specs.Fmt.{digit_glyph, digits_onto, padded_integral, format_spec, char_count, digits as numeral}
use Rattle.field.specs.Digits.{digits}
use Rattle.field.specs.Texts.{digits_text}
use Rattle.field.proofs.Digits.{digits_append, digits_mod}

module _ (base : ℕ) (big : 1 < base) where
  zeros : (k : ℕ) → digits_text base k 0 ≡ replicate k 48
  unfolding digits
  zeros zero = refl
  zeros (suc k) =
      ap₂ (λ (d : ℕ) (ds : List ℕ). digit_glyph false d ∷ ds)
      (ap (λ (q : ℕ). q % base) (zero-div (base ^ k)) ∙ zero-mod base)
      (zeros k)

  -- the lowest digit last
  last : (k n : ℕ) → digits_text base (suc k) n ≡ digits_text base k (n / base) ++ (digit_glyph false (n % base) ∷ [])
  unfolding digits
  last zero n = ap (λ (q : ℕ). digit_glyph false (q % base) ∷ []) (ap (λ (p : ℕ). n / p) (pow-zero base) ∙ div-one n)
  last (suc k) n =
      ap₂ (λ (q : ℕ) (ds : List ℕ). digit_glyph false (q % base) ∷ ds)
      (ap (λ (p : ℕ). n / p) (pow-suc base k ∙ mul_comm (base ^ k) base) ∙ sym (div-div-eq-div-mul n base (base ^ k)))
      (last k n)

  -- the digits of a number as std prints them, before a text
  abbrev digits_before : ℕ → ℕ → List ℕ → List ℕ
  digits_before fuel n acc = digits_onto fuel base false n acc

  -- a text with zeros in front up to a width
  abbrev zeros_before : ℕ → List ℕ → List ℕ
  zeros_before width ds = replicate (width - length ds) 48 ++ ds

  -- one digit
  one : (fuel k n : ℕ) (acc : List ℕ) → n < base
      → zeros_before (suc k + length acc) (digits_before (suc fuel) n acc) ≡ digits_text base (suc k) n ++ acc
  one fuel k n acc small =
      let glyph : ℕ = digit_glyph false (n % base) in
      let none : n / base ≡ 0 = div-eq_of_lt small in
      ap (zeros_before (suc k + length acc)) (cond-true _ _ _ (eq-eqb _ 0 none))
      ∙ ap (λ (z : ℕ). replicate z 48 ++ (glyph ∷ acc)) {x = suc k + length acc - suc (length acc)} {y = k} (omega arith)
      ∙ ap (λ (ds : List ℕ). ds ++ (glyph ∷ acc)) (sym (ap (digits_text base k) none ∙ zeros k))
      ∙ sym (ap (λ (ds : List ℕ). ds ++ acc) (last k n) ∙ append_assoc (digits_text base k (n / base)) (glyph ∷ []) acc)

  -- one digit more
  more : (fuel k n : ℕ) (acc : List ℕ) → base ≤ n
      → zeros_before (suc k + suc (length acc)) (digits_before fuel (n / base) (digit_glyph false (n % base) ∷ acc))
      ≡ digits_text base (suc k) (n / base) ++ (digit_glyph false (n % base) ∷ acc)
      → zeros_before (suc (suc k) + length acc) (digits_before (suc fuel) n acc) ≡ digits_text base (suc (suc k)) n ++ acc
  more fuel k n acc large rest =
      let glyph : ℕ = digit_glyph false (n % base) in
      let front : 0 < n / base = (le-div_iff_mul-le {k = base} {x = 1} {y = n} (omega arith)).1 (omega arith) in
      let some : n / base ≡ 0 → ⊥ = λ none. omega arith in
      ap (zeros_before (suc (suc k) + length acc)) (cond-false _ _ _ (ne_eqb _ 0 some))
      ∙ ap (λ (width : ℕ). zeros_before width (digits_before fuel (n / base) (glyph ∷ acc)))
      {x = suc (suc k) + length acc} {y = suc k + suc (length acc)} (omega arith)
      ∙ rest
      ∙ sym (ap (λ (ds : List ℕ). ds ++ acc) (last (suc k) n) ∙ append_assoc (digits_text base (suc k) (n / base)) (glyph ∷ []) acc)

  -- fuel bounds the recursion by which std spells a number
  padded : (fuel k n : ℕ) (acc : List ℕ) → k < fuel → n < base ^ suc k
      → zeros_before (suc k + length acc) (digits_before fuel n acc) ≡ digits_text base (suc k) n ++ acc
  padded zero k n acc room fits = absurd (omega arith)
  padded (suc fuel) zero n acc room fits =
      one fuel zero n acc
      (subst (λ (p : ℕ). n < p) (pow-suc base zero ∙ ap (λ (p : ℕ). p * base) (pow-zero base) ∙ one-mul base) fits)
  padded (suc fuel) (suc k) n acc room fits =
      let glyph : ℕ = digit_glyph false (n % base) in
      let shorter : n / base < base ^ suc k =
      div_below n base (base ^ suc k) (omega arith) (subst (λ (p : ℕ). n < p) (pow-suc base (suc k)) fits) in
      let rest = padded fuel k (n / base) (glyph ∷ acc) (omega arith) shorter in
      ⊎_elim (one fuel (suc k) n acc) (λ large. more fuel k n acc large rest) (cases_lt n base)

  from_nothing : (fuel k n : ℕ) → k < fuel → n < base ^ suc k
      → zeros_before (suc k) (digits_before fuel n []) ≡ digits_text base (suc k) n
  from_nothing fuel k n room fits =
      ap (λ (width : ℕ). zeros_before width (digits_before fuel n [])) (sym (add-zero (suc k)))
      ∙ padded fuel k n [] room fits
      ∙ append-nil (digits_text base (suc k) n)

  -- under a width, filled by zeros
  padded_integral-zeros : (width : ℕ) (ds : List ℕ)
      → padded_integral (format_spec 32 0 4 width (2 ^ 64 - 1)) false [] ds ≡ zeros_before width ds
  unfolding padded_integral char_count
  padded_integral-zeros width ds =
      ap₂ (λ (zeros : ℕ) (tail : List ℕ). replicate zeros 48 ++ tail)
      {x = width - length ds - 0 - 0} {y = width - length ds} (omega arith) (append-nil ds)

  pub zero_filled : (k n : ℕ) → k < 64 → n < base ^ suc k
      → padded_integral (format_spec 32 0 4 (suc k) (2 ^ 64 - 1)) false [] (numeral base false n) ≡ digits_text base (suc k) n
  unfolding numeral
  zero_filled k n room fits = padded_integral-zeros (suc k) (numeral base false n) ∙ from_nothing 64 k n room fits

-- 32 hexadecimal digits, by halves
pub halves : (v : ℕ) → digits_text 16 16 (v / 2 ^ 64) ++ digits_text 16 16 (v % 2 ^ 64) ≡ digits_text 16 32 v
halves v =
    ap (λ (low : List ℕ). digits_text 16 16 (v / 2 ^ 64) ++ map (digit_glyph false) low) (digits_mod 16 (lit< tt) 16 v)
    ∙ sym
    (ap (map (digit_glyph false)) (digits_append 16 16 16 v)
    ∙ map-append (digit_glyph false) (digits 16 16 (v / 16 ^ 16)) (digits 16 16 v))
