-- How the coefficients of a shape are tested, flipped and counted among the bits of a number.
use Rattle.std.specs.Prelude.{◌≡◌, ℕ, zero, suc, ◌+◌, ◌-◌, ◌*◌, ◌/◌, ◌%◌, ◌^◌, ◌<◌, ◌≤◌, Bool, true, false, if◌then◌else◌, not, ◌==◌, bit_and, bit_xor, nat_eq, refl}
use Rattle.std.proofs.Common.{sym, ap, ap₂, ◌∙◌, add_comm, div-one, mod-eq_of_lt, mod-lt, mul-div_cancel, one-mul, pow-suc, lt_of_lt_of_le, one-add, arith, pow_pos, shr-shr}
use Rattle.std.proofs.Math.Nat.{div-eq_of_lt, mod-one, mul-mod_left}
use Rattle.std.proofs.lemmas.Bool.{lt-ltb}
use Rattle.std.proofs.lemmas.Nat.{and_mask, xor_lt, ones_cat, mod-pow-add}
use Rattle.std.specs.Int.Count.{ones}
use Rattle.std.proofs.Math.Dec.{eqb-suc-suc, eqb-suc-zero, eqb-zero-suc}
use Rattle.std.proofs.Math.Pow.{pow-lt, split}
use Rattle.std.proofs.lemmas.Bool.Decides.{nat_tests}
use Rattle.field.specs.Binary.{FieldShape}
use Rattle.field.specs.Residues.{Residues, value_below}
use Rattle.field.specs.Orders.{bit_additive}
use Rattle.polynomial.specs.Bits.{bit_in, bits_after_flip, ones_below}
use Rattle.polynomial.specs.Coefficients.{HasPlaces, same_ones}

two : zero < 2
two = omega arith

-- ---- one digit

-- a power of two has its one digit in its place
power_digit : (s t : ℕ) → 2 ^ t / 2 ^ s % 2 ≡ (if s == t then 1 else 0)
power_digit zero zero = refl
power_digit zero (suc t) =
    ap (λ (n : ℕ). n % 2) (div-one (2 ^ suc t) ∙ pow-suc 2 t) ∙ mul-mod_left (2 ^ t) 2
    ∙ ap (λ (b : Bool). if b then 1 else 0) (sym (eqb-zero-suc t))
power_digit (suc s) zero =
    ap (λ (n : ℕ). n % 2) (div-eq_of_lt (pow-lt {i = zero} {j = suc s} (omega arith)))
    ∙ ap (λ (b : Bool). if b then 1 else 0) (sym (eqb-suc-zero s))
power_digit (suc s) (suc t) =
    ap (λ (n : ℕ). n % 2)
    (ap (λ (n : ℕ). 2 ^ suc t / 2 ^ n) (sym (one-add s)) ∙ sym (shr-shr (2 ^ suc t) 1 s)
    ∙ ap (λ (n : ℕ). n / 2 ^ s) (ap (λ (n : ℕ). n / 2) (pow-suc 2 t) ∙ mul-div_cancel (2 ^ t) two))
    ∙ power_digit s t
    ∙ ap (λ (b : Bool). if b then 1 else 0) (sym (eqb-suc-suc s t))

bit_xor-flip : (d : ℕ) (b : Bool) → d < 2 → (bit_xor d (if b then 1 else 0) == 1) ≡ (if b then not (d == 1) else d == 1)
bit_xor-flip zero true h = refl
bit_xor-flip zero false h = refl
bit_xor-flip (suc zero) true h = refl
bit_xor-flip (suc zero) false h = refl
bit_xor-flip (suc (suc d)) b h = absurd (omega arith)

-- adding 2 ^ t changes the digit in place t and no other
digit-flip : (a s t : ℕ)
    → (bit_xor a (2 ^ t) / 2 ^ s % 2 == 1) ≡ (if s == t then not (a / 2 ^ s % 2 == 1) else a / 2 ^ s % 2 == 1)
digit-flip a s t =
    ap (λ (n : ℕ). nat_eq n 1) (bit_additive s a (2 ^ t) ∙ ap (bit_xor (a / 2 ^ s % 2)) (power_digit s t))
    ∙ bit_xor-flip (a / 2 ^ s % 2) (s == t) (mod-lt (a / 2 ^ s) two)

one_digit : (d : ℕ) → d < 2 → (if d == 1 then 1 else 0) ≡ ones d
unfolding ones
one_digit zero h = refl
one_digit (suc zero) h = refl
one_digit (suc (suc d)) h = absurd (omega arith)

-- ---- counts

at_most_one : (b : Bool) → (if b then 1 else 0) ≤ 1
at_most_one true = omega arith
at_most_one false = omega arith

pub ones_at_most : (n : ℕ) (f : ℕ → Bool) → ones_below n f ≤ n
unfolding ones_below
ones_at_most zero f = omega arith
ones_at_most (suc n) f = let last : (if f n then 1 else 0) ≤ 1 = at_most_one (f n) in omega (arith, ones_at_most n f, last)

ones_low : (n v : ℕ) → ones_below n (λ s. nat_eq (v / 2 ^ s % 2) 1) ≡ ones (v % 2 ^ n)
unfolding ones_below ones
ones_low zero v = ap ones (sym (mod-one v))
ones_low (suc n) v =
    ap₂ (λ (x y : ℕ). x + y) (ones_low n v) (one_digit (v / 2 ^ n % 2) (mod-lt (v / 2 ^ n) two))
    ∙ add_comm (ones (v % 2 ^ n)) (ones (v / 2 ^ n % 2))
    ∙ sym (ones_cat n (v / 2 ^ n % 2) (v % 2 ^ n) (mod-lt v (pow_pos n)))
    ∙ ap ones (sym (mod-pow-add v 1 n) ∙ ap (λ (m : ℕ). v % 2 ^ m) (one-add n))

-- the two parts of a number are counted apart
pub ones_parts : (k v u w mask : ℕ) → u ≡ v → w ≡ v → mask ≡ 2 ^ k - 1 → ones (u / 2 ^ k) + ones (bit_and w mask) ≡ ones v
ones_parts k v u w mask e e' low =
    ap₂ (λ (m n : ℕ). ones (m / 2 ^ k) + ones (bit_and w n)) e low
    ∙ ap (λ (n : ℕ). ones (v / 2 ^ k) + ones n) (and_mask w k ∙ ap (λ (n : ℕ). n % 2 ^ k) e')
    ∙ sym (ones_cat k (v / 2 ^ k) (v % 2 ^ k) (mod-lt v (pow_pos k)))
    ∙ ap ones (split v k)

-- ---- the coefficients of an element

-- an element whose number has its coefficients in their places
module _ {V : Type 0} {shape : FieldShape} (placed : HasPlaces shape) (residues : Residues V (2 ^ shape.width)) (x : V) where
  abbrev number : ℕ
  number = residues.value x

  bit_digit : (k : ℕ) → k < shape.width → bit_in shape number k ≡ (number / 2 ^ placed.place k % 2 == 1)
  bit_digit k h =
      ap (λ (b : Bool). if b then shape.digit number k == 1 else false) (lt-ltb k shape.width h)
      ∙ ap (λ (d : ℕ). nat_eq d 1) (placed.digit number k)

  -- the test of one bit
  pub bit_in-test : (k u t : ℕ) → k < shape.width → u ≡ number → t ≡ placed.place k
      → (bit_and (u / 2 ^ t) 1 == 1) ≡ bit_in shape number k
  bit_in-test k u t h e e' =
      ap (λ (n : ℕ). nat_eq n 1) (and_mask (u / 2 ^ t) 1 ∙ ap₂ (λ (n s : ℕ). n / 2 ^ s % 2) e e') ∙ sym (bit_digit k h)

  -- the flip of one bit
  pub bit_in-flip : (y : V) (k u t room : ℕ) → y ≡ residues.enter (bit_xor u (1 * 2 ^ t % 2 ^ room)) → shape.width ≤ room
      → k < shape.width → u ≡ number → t ≡ placed.place k
      → (j : ℕ) → bit_in shape (residues.value y) j ≡ bits_after_flip shape.width (bit_in shape number) k j
  bit_in-flip y k u t room made wide h e e' j =
      let place : ℕ = placed.place k in
      let one : 1 * 2 ^ t % 2 ^ room ≡ 2 ^ place =
      ap (λ (s : ℕ). 1 * 2 ^ s % 2 ^ room) e' ∙ ap (λ (n : ℕ). n % 2 ^ room) (one-mul (2 ^ place))
      ∙ mod-eq_of_lt (pow-lt (lt_of_lt_of_le (placed.within k h) wide)) in
      let whole : residues.value y ≡ bit_xor number (2 ^ place) =
      ap residues.value (made ∙ ap₂ (λ (m n : ℕ). residues.enter (bit_xor m n)) e one)
      ∙ value_below residues (bit_xor number (2 ^ place))
      (xor_lt shape.width number (2 ^ place) (residues.fits x) (pow-lt (placed.within k h))) in
      let after : shape.digit (residues.value y) j ≡ bit_xor number (2 ^ place) / 2 ^ placed.place j % 2 =
      placed.digit (residues.value y) j ∙ ap (λ (n : ℕ). n / 2 ^ placed.place j % 2) whole in
      let before = placed.digit number j in
      let turn = digit-flip number (placed.place j) place in
      let apart = placed.apart j k in
      grind (arith, nat_tests)

  -- the count of the ones
  pub ones_below-count : (w : ℕ) → w ≡ ones number → w ≡ ones_below shape.width (bit_in shape number)
  ones_below-count w e =
      e ∙ ap ones (sym (mod-eq_of_lt (residues.fits x))) ∙ sym (ones_low shape.width number)
      ∙ sym (placed.every (λ s. nat_eq (number / 2 ^ s % 2) 1))
      ∙ sym (same_ones shape.width (bit_in shape number) (λ k. nat_eq (number / 2 ^ placed.place k % 2) 1) bit_digit)
