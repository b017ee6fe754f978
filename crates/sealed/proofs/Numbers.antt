-- Numbers as bytes, and blocks of bytes.
use Rattle.std.proofs.Common.{◌≡◌, ℕ, ◌/◌, ◌%◌, List, ◌∷◌, [], length, ap, ◌∙◌, div-one, arith, append-nil, mod-eq_of_lt, lit<, subst, ◌++◌, replicate, ◌-◌, ◌^◌, ◌<◌}
use Rattle.message.specs.Blocks.{AreBytes, filled_piece}
use Rattle.field.specs.Bytes.{block_of}
use Rattle.field.proofs.Digits.{numeral_lt}
use Rattle.field.specs.Digits.{numeral, digits}

-- a full piece is its own block
pub block_bits : (xs : List ℕ) → AreBytes xs → length xs ≡ 16 → (block_of (filled_piece xs)).bits ≡ numeral 256 xs
block_bits xs small long =
    let none : 16 - length xs ≡ 0 = omega arith in
    let same : filled_piece xs ≡ xs = ap (λ (n : ℕ). xs ++ replicate n 0) none ∙ append-nil xs in
    let below : numeral 256 xs < 256 ^ 16 = subst (λ (n : ℕ). numeral 256 xs < 256 ^ n) long (numeral_lt 256 (lit< tt) xs small) in
    ap (λ (ys : List ℕ). (block_of ys).bits) same ∙ mod-eq_of_lt below

pub two_digits : (v : ℕ) → digits 256 2 v ≡ v / 256 % 256 ∷ (v % 256 ∷ [])
unfolding digits
two_digits v = ap (λ (x : ℕ). v / 256 % 256 ∷ (x % 256 ∷ [])) (div-one v)

pub four_digits : (v : ℕ) → digits 256 4 v ≡ v / 16777216 % 256 ∷ (v / 65536 % 256 ∷ (v / 256 % 256 ∷ (v % 256 ∷ [])))
unfolding digits
four_digits v = ap (λ (x : ℕ). v / 16777216 % 256 ∷ (v / 65536 % 256 ∷ (v / 256 % 256 ∷ (x % 256 ∷ [])))) (div-one v)
