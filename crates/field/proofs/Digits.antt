-- Digits in any base, and the numbers that they write.
use Rattle.std.proofs.Common.{◌≡◌, ℕ, zero, suc, ◌+◌, ◌*◌, ◌/◌, ◌%◌, ◌^◌, ◌<◌, List, [], ◌∷◌, ◌++◌, length, get_or, sym, refl, ap, ◌∙◌, subst, ap₂, add_assoc, mod-lt, mod-eq_of_lt, mul_assoc, mul_comm, add-mul, add_comm, suc-add, mul-pos, pow-suc, div-add-mod', zero-add, zero-mul, arith, length-append, pow-add}
use Rattle.std.proofs.Math.Nat.{pow-zero, mod-one, mul-add-mod_self_right, div-div-eq-div-mul}
use Rattle.std.proofs.Math.Arith.{digits_lt, digits_div, mod-mul}
use Rattle.field.specs.Digits.{numeral, digits}

-- a list, spelled out by its elements
abbrev pub spelled : {X : Type 0} → ℕ → (ℕ → X) → List X
spelled zero at = []
spelled (suc n) at = at zero ∷ spelled n (λ k. at (suc k))

spells_list : {X : Type 0} (none : X) (xs : List X) → xs ≡ spelled (length xs) (λ k. get_or xs k none)
spells_list none [] = refl
spells_list none (x ∷ xs) = ap (λ ys. x ∷ ys) (spells_list none xs)

-- the same where the length is known
pub spells_length : {X : Type 0} (none : X) (xs : List X) (n : ℕ) → length xs ≡ n → xs ≡ spelled n (λ k. get_or xs k none)
spells_length none xs n long = spells_list none xs ∙ ap (λ (k : ℕ). spelled k (λ i. get_or xs i none)) long

pub spells : (xs : List ℕ) → xs ≡ spelled (length xs) (λ k. get_or xs k 0)
spells = spells_list 0

pub length_digits : (base n v : ℕ) → length (digits base n v) ≡ n
unfolding digits
length_digits base zero v = refl
length_digits base (suc n) v = ap suc (length_digits base n v)

pub numeral_append : (base : ℕ) (xs ys : List ℕ) → numeral base (xs ++ ys) ≡ numeral base xs * base ^ length ys + numeral base ys
unfolding numeral
numeral_append base [] ys = sym (ap (λ (x : ℕ). x + numeral base ys) (zero-mul (base ^ length ys)) ∙ zero-add (numeral base ys))
numeral_append base (x ∷ xs) ys =
    ap₂ (λ (p r : ℕ). x * p + r)
    (ap (λ (n : ℕ). base ^ n) (length-append xs ys) ∙ pow-add base (length xs) (length ys))
    (numeral_append base xs ys)
    ∙ sym (add_assoc (x * (base ^ length xs * base ^ length ys)) (numeral base xs * base ^ length ys) (numeral base ys))
    ∙ ap (λ (p : ℕ). p + numeral base ys)
    (ap (λ (p : ℕ). p + numeral base xs * base ^ length ys) (sym (mul_assoc x (base ^ length xs) (base ^ length ys)))
    ∙ sym (add-mul (x * base ^ length xs) (numeral base xs) (base ^ length ys)))

-- the digits of the higher part, then those of the lower
pub digits_append : (base s t v : ℕ) → digits base (s + t) v ≡ digits base s (v / base ^ t) ++ digits base t v
unfolding digits
digits_append base zero t v = ap (λ (n : ℕ). digits base n v) (zero-add t)
digits_append base (suc s) t v =
    ap (λ (n : ℕ). digits base n v) (suc-add s t)
    ∙ ap₂ (λ (d : ℕ) (ds : List ℕ). d % base ∷ ds)
    (ap (λ (n : ℕ). v / base ^ n) (add_comm s t)
    ∙ ap (λ (n : ℕ). v / n) (pow-add base t s)
    ∙ sym (div-div-eq-div-mul v (base ^ t) (base ^ s)))
    (digits_append base s t v)

module _ (base : ℕ) (positive : zero < base) where
  pub pow_positive : (n : ℕ) → zero < base ^ n
  pow_positive zero = rw pow-zero (omega arith)
  pow_positive (suc n) = subst (λ (p : ℕ). zero < p) (sym (pow-suc base n)) (mul-pos (pow_positive n) positive)

  abbrev pub AreDigits : List ℕ → Type 0
  AreDigits xs = (k : ℕ) → get_or xs k 0 < base

  pub numeral_lt : (xs : List ℕ) → AreDigits xs → numeral base xs < base ^ length xs
  unfolding numeral
  numeral_lt [] small = rw pow-zero (omega arith)
  numeral_lt (x ∷ xs) small =
      subst (λ (n : ℕ). x * base ^ length xs + numeral base xs < n)
      (mul_comm base (base ^ length xs) ∙ sym (pow-suc base (length xs)))
      (digits_lt (small zero) (numeral_lt xs (λ k. small (suc k))))

  -- what lies above the n lowest digits does not matter
  pub digits_high : (n q r : ℕ) → digits base n (q * base ^ n + r) ≡ digits base n r
  unfolding digits
  digits_high zero q r = refl
  digits_high (suc n) q r =
      let apart : q * base ^ suc n + r ≡ q * base * base ^ n + r =
      ap (λ (x : ℕ). x + r)
      (ap (λ (x : ℕ). q * x) (pow-suc base n ∙ mul_comm (base ^ n) base) ∙ sym (mul_assoc q base (base ^ n))) in
      let split : r ≡ r / base ^ n * base ^ n + r % base ^ n = sym (div-add-mod' r (base ^ n)) in
      let joined : q * base * base ^ n + r ≡ (q * base + r / base ^ n) * base ^ n + r % base ^ n =
      ap (λ (x : ℕ). q * base * base ^ n + x) split
      ∙ sym (add_assoc (q * base * base ^ n) (r / base ^ n * base ^ n) (r % base ^ n))
      ∙ ap (λ (x : ℕ). x + r % base ^ n) (sym (add-mul (q * base) (r / base ^ n) (base ^ n))) in
      ap₂ (λ (x : ℕ) (xs : List ℕ). x ∷ xs)
      (ap (λ (x : ℕ). x / base ^ n % base) (apart ∙ joined)
      ∙ ap (λ (x : ℕ). x % base) (digits_div (q * base + r / base ^ n) (mod-lt r (pow_positive n)))
      ∙ mul-add-mod_self_right q base (r / base ^ n))
      (ap (digits base n) apart ∙ digits_high n (q * base) r)

  pub digits_mod : (n v : ℕ) → digits base n (v % base ^ n) ≡ digits base n v
  digits_mod n v = sym (digits_high n (v / base ^ n) (v % base ^ n)) ∙ ap (digits base n) (div-add-mod' v (base ^ n))

  pub digits_numeral : (xs : List ℕ) → AreDigits xs → digits base (length xs) (numeral base xs) ≡ xs
  unfolding digits numeral
  digits_numeral [] small = refl
  digits_numeral (x ∷ xs) small =
      ap₂ (λ (y : ℕ) (ys : List ℕ). y ∷ ys)
      (ap (λ (n : ℕ). n % base) (digits_div x (numeral_lt xs (λ k. small (suc k)))) ∙ mod-eq_of_lt (small zero))
      (digits_high (length xs) x (numeral base xs) ∙ digits_numeral xs (λ k. small (suc k)))

  pub numeral_digits : (n v : ℕ) → numeral base (digits base n v) ≡ v % base ^ n
  unfolding digits numeral
  numeral_digits zero v = sym (ap (λ (m : ℕ). v % m) (pow-zero base) ∙ mod-one v)
  numeral_digits (suc n) v =
      ap₂ (λ (k r : ℕ). v / base ^ n % base * base ^ k + r) (length_digits base n v) (numeral_digits n v)
      ∙ sym (mod-mul v positive (pow_positive n))
      ∙ ap (λ (m : ℕ). v % m) (mul_comm base (base ^ n) ∙ sym (pow-suc base n))
