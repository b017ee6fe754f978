-- Lists of zeros, and the first places of a list.
use Rattle.std.proofs.Common.{◌≡◌, ℕ, zero, suc, ◌≤◌, true, eqb, List, [], ◌∷◌, ◌++◌, length, get_or, drop, replicate, refl, ap, ap₂, arith}
use Rattle.std.proofs.lemmas.Bool.{and_parts, eqb-true}
use Rattle.field.proofs.Digits.{spelled}
use Rattle.format.specs.Faults.{is_all_zero}

pub zeros_zero : (n : ℕ) → is_all_zero (replicate n 0) ≡ true
zeros_zero zero = refl
zeros_zero (suc n) = zeros_zero n

pub zeros_from : (xs : List ℕ) → is_all_zero xs ≡ true → xs ≡ replicate (length xs) 0
zeros_from [] e = refl
zeros_from (x ∷ xs) e =
    let parts = and_parts (eqb x 0) (is_all_zero xs) e in
    ap₂ (λ (y : ℕ) (ys : List ℕ). y ∷ ys) (eqb-true x 0 parts.0) (zeros_from xs parts.1)

-- the first n elements spelled out, and the rest
pub heads : (n : ℕ) (xs : List ℕ) → n ≤ length xs → xs ≡ spelled n (λ k. get_or xs k 0) ++ drop n xs
heads zero xs long = refl
heads (suc n) [] long = absurd (omega arith)
heads (suc n) (x ∷ xs) long = ap (λ (ys : List ℕ). x ∷ ys) (heads n xs (omega arith))
