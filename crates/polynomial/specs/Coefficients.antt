-- Where the coefficients of a shape stand among the bits of a number.
use Rattle.std.specs.Prelude.{◌≡◌, ℕ, zero, suc, ◌+◌, ◌-◌, ◌*◌, ◌/◌, ◌%◌, ◌^◌, ◌<◌, Bool, true, false, if◌then◌else◌, ◌==◌, nat_lt, refl}
use Rattle.std.proofs.Common.{sym, ap, ap₂, ◌∙◌, arith, pow_pos}
use Rattle.std.proofs.Math.Nat.{div-eq_of_lt}
use Rattle.std.specs.Int.Bits.{xor_self}
use Rattle.field.specs.Binary.{FieldShape, high_first, low_first}
use Rattle.field.specs.Kinds.{block_shape, nibble_shape, ring_of}
use Rattle.field.specs.Residues.{Residues, value_below}
use Rattle.polynomial.specs.Bits.{BinaryLaws, bit_in, ones_below}

-- bits that agree have as many ones
pub same_ones : (n : ℕ) (f g : ℕ → Bool) → ((k : ℕ) → k < n → f k ≡ g k) → ones_below n f ≡ ones_below n g
unfolding ones_below
same_ones zero f g same = refl
same_ones (suc n) f g same =
    ap₂ (λ (x : ℕ) (b : Bool). x + (if b then 1 else 0)) (same_ones n f g (λ k h. same k (omega arith))) (same n (omega arith))

-- the first bit, counted apart
first_one : (n : ℕ) (f : ℕ → Bool) → ones_below (suc n) f ≡ ones_below n (λ k. f (suc k)) + (if f zero then 1 else 0)
unfolding ones_below
first_one zero f = refl
first_one (suc n) f = omega (arith, first_one n f)

-- read backwards, the bits have as many ones
pub reversed_ones : (n : ℕ) (f : ℕ → Bool) → ones_below n (λ k. f (n - suc k)) ≡ ones_below n f
unfolding ones_below
reversed_ones zero f = refl
reversed_ones (suc n) f =
    let inner : (k : ℕ) → k < n → f (suc n - suc k) ≡ f (suc (n - suc k)) =
    λ k h. let e : suc n - suc k ≡ suc (n - suc k) = omega arith in ap f e in
    let last : suc n - suc n ≡ zero = omega arith in
    ap₂ (λ (x m : ℕ). x + (if f m then 1 else 0))
    (same_ones n (λ k. f (suc n - suc k)) (λ k. f (suc (n - suc k))) inner ∙ reversed_ones n (λ k. f (suc k)))
    last
    ∙ sym (first_one n f)

-- Where a shape has its coefficients among the bits of a number: each in a place of its own, and one in each place below the width.
pub record HasPlaces (shape : FieldShape) : Type 0 where
  -- where the coefficient of index k stands, counted from the lowest bit
  pub place : ℕ → ℕ
  pub digit : (v k : ℕ) → shape.digit v k ≡ v / 2 ^ place k % 2
  pub within : (k : ℕ) → k < shape.width → place k < shape.width
  pub apart : (j k : ℕ) → j < shape.width → k < shape.width → place j ≡ place k → j ≡ k
  -- so that all places are counted with the coefficients
  pub every : (f : ℕ → Bool) → ones_below shape.width (λ k. f (place k)) ≡ ones_below shape.width f

abbrev pub high_places : (width rest : ℕ) → HasPlaces (high_first width rest)
high_places width rest = record {
  place = λ k. width - suc k;
  digit = λ v k. refl;
  within = λ k h. omega arith;
  apart = λ j k h h' e. omega arith;
  every = reversed_ones width;
}

abbrev pub low_places : (width rest : ℕ) → HasPlaces (low_first width rest)
low_places width rest = record {
  place = λ k. k;
  digit = λ v k. refl;
  within = λ k h. h;
  apart = λ j k h h' e. e;
  every = λ f. refl;
}

abbrev pub block_places : HasPlaces block_shape
block_places = high_places 128 (0xE1 * 2 ^ 120)

abbrev pub nibble_places : HasPlaces nibble_shape
nibble_places = low_places 4 3

either_way : (b : Bool) (x : Bool) → (if b then x else x) ≡ x
either_way true x = refl
either_way false x = refl

-- the number zero has no ones
pub no_ones : {shape : FieldShape} (placed : HasPlaces shape) (k : ℕ) → bit_in shape 0 k ≡ false
no_ones {shape} placed k =
    let none : shape.digit 0 k ≡ 0 = placed.digit 0 k ∙ ap (λ (n : ℕ). n % 2) (div-eq_of_lt (pow_pos (placed.place k))) in
    ap (λ (d : ℕ). if nat_lt k shape.width then d == 1 else false) none ∙ either_way (nat_lt k shape.width) false

-- a shape that has some coefficient makes a binary kind
pub binary_laws : {V : Type 0} {shape : FieldShape} (placed : HasPlaces shape) (residues : Residues V (2 ^ shape.width))
    → 0 < shape.width
    → BinaryLaws (ring_of shape residues.value residues.enter) shape.width (λ v. bit_in shape (residues.value v))
binary_laws {V} {shape} placed residues wide = record {
  wide = wide;
  blank = λ k. ap (λ (n : ℕ). bit_in shape n k) (value_below residues zero (pow_pos shape.width)) ∙ no_ones placed k;
  even = λ x. ap residues.enter (xor_self (residues.value x));
}
