-- Numbers of two and four bytes.
use Rattle.std.proofs.Common.{◌≡◌, ℕ, ◌+◌, ◌*◌, ◌≤◌, List, length, get_or, take, drop, ap, ◌∙◌, arith}
use Rattle.std.proofs.lemmas.List.{length-drop, get_or-drop}
use Rattle.field.proofs.Digits.{spelled, spells}
use Rattle.format.proofs.Zeros.{heads}
use Rattle.field.specs.Digits.{numeral}

pub two_bytes : (bs : List ℕ) → 2 ≤ length bs → numeral 256 (take 2 bs) ≡ get_or bs 0 0 * 256 + get_or bs 1 0
unfolding numeral
two_bytes bs long = ap (λ (xs : List ℕ). numeral 256 (take 2 xs)) (heads 2 bs long) ∙ omega arith

-- two bytes further on
pub two_bytes_at : (k : ℕ) (bs : List ℕ) → k + 2 ≤ length bs
    → numeral 256 (take 2 (drop k bs)) ≡ get_or bs (k + 0) 0 * 256 + get_or bs (k + 1) 0
two_bytes_at k bs long =
    let left : 2 ≤ length (drop k bs) = omega (arith, length-drop k bs) in
    two_bytes (drop k bs) left ∙ (λ i. get_or-drop k bs 0 0 i * 256 + get_or-drop k bs 1 0 i)

pub four_bytes : (bs : List ℕ) → length bs ≡ 4
    → numeral 256 bs ≡ get_or bs 0 0 * 16777216 + get_or bs 1 0 * 65536 + get_or bs 2 0 * 256 + get_or bs 3 0
unfolding numeral
four_bytes bs long = ap (numeral 256) (spells bs ∙ ap (λ (n : ℕ). spelled n (λ k. get_or bs k 0)) long) ∙ omega arith

-- the last four bytes
pub four_bytes_at : (k : ℕ) (bs : List ℕ) → length bs ≡ k + 4
    → numeral 256 (drop k bs)
    ≡ get_or bs (k + 0) 0 * 16777216 + get_or bs (k + 1) 0 * 65536 + get_or bs (k + 2) 0 * 256 + get_or bs (k + 3) 0
four_bytes_at k bs long =
    let four : length (drop k bs) ≡ 4 = omega (arith, length-drop k bs) in
    four_bytes (drop k bs) four
    ∙ (λ i.
    get_or-drop k bs 0 0 i * 16777216 + get_or-drop k bs 1 0 i * 65536 + get_or-drop k bs 2 0 i * 256
    + get_or-drop k bs 3 0 i)
