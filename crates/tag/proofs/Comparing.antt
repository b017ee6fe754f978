-- Bytes compared by the bits in which they differ.
use Rattle.std.proofs.Common.{◌≡◌, ◌≤◌, ℕ, Bool, true, false, ◌&&◌, eqb, List, [], ◌∷◌, fold, zip, length, refl, ap, ◌∙◌, ap₂, arith, rules, eq-eqb, ne_eqb, eqb-true}
use borrow.Author.Tests.{eqb-false}
use lib.Bits.{bit_or, bit_xor, and_le_l, and_le_r, or_add_and, xor_add_and, xor_self, or_zero_l}
use Rattle.std.specs.List.{starts_with}

-- numbers that are zero and equal, from an or of no bits
no_bits : (d x y : ℕ) → bit_or d (bit_xor x y) ≡ 0 → (d ≡ 0) × (x ≡ y)
no_bits d x y none =
    let or = or_add_and d (bit_xor x y) in
    let xor = xor_add_and x y in
    let p = and_le_l d (bit_xor x y) in
    let q = and_le_r d (bit_xor x y) in
    let r = and_le_l x y in
    let s = and_le_r x y in
    (omega (arith, none, or, p, q), omega (arith, none, or, p, q, xor, r, s))

-- one more pair of bytes
one_more : (d x y : ℕ) (rest : Bool) → (eqb (bit_or d (bit_xor x y)) 0 && rest) ≡ (eqb d 0 && (eqb x y && rest))
one_more d x y rest = by_tests (eqb d 0) (eqb x y) refl refl where
  by_tests : (p q : Bool) → eqb d 0 ≡ p → eqb x y ≡ q → (eqb (bit_or d (bit_xor x y)) 0 && rest) ≡ (p && (q && rest))
  by_tests true true zero same =
      let none : bit_or d (bit_xor x y) ≡ 0 =
      ap₂ (λ (a b : ℕ). bit_or a (bit_xor b y)) (eqb-true d 0 zero) (eqb-true x y same) ∙ or_zero_l (bit_xor y y) ∙ xor_self y in
      ap (λ (t : Bool). t && rest) (eq-eqb (bit_or d (bit_xor x y)) 0 none)
  by_tests true false zero other = ap (λ (t : Bool). t && rest) (ne_eqb (bit_or d (bit_xor x y)) 0 (λ e. eqb-false x y other (no_bits d x y e).1))
  by_tests false q some other = ap (λ (t : Bool). t && rest) (ne_eqb (bit_or d (bit_xor x y)) 0 (λ e. eqb-false d 0 some (no_bits d x y e).0))

-- the bits in which bytes have differed, after one more pair
abbrev pub with_pair : ℕ → ℕ × ℕ → ℕ
with_pair d p = bit_or d (bit_xor p.0 p.1)

-- no bit is left where the second list begins with the first
pub fold-with_pair : (d : ℕ) (xs ys : List ℕ) → length xs ≤ length ys → eqb (fold with_pair d (zip xs ys)) 0 ≡ (eqb d 0 && starts_with eqb ys xs)
fold-with_pair d [] ys enough = search rules
fold-with_pair d (x ∷ xs) [] enough = absurd (omega arith)
fold-with_pair d (x ∷ xs) (y ∷ ys) enough = fold-with_pair (bit_or d (bit_xor x y)) xs ys (omega arith) ∙ one_more d x y (starts_with eqb ys xs)
