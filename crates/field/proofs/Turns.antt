-- One turn of a loop that multiplies two polynomials over the bits.
use Rattle.std.proofs.Common.{◌≡◌, ℕ, zero, suc, ◌+◌, ◌-◌, ◌*◌, ◌/◌, ◌%◌, ◌^◌, ◌<◌, sym, ap, ◌∙◌, ap₂, mod-eq_of_lt, one-mul, zero-mul, add-one, mod-lt, pow_pos, pow-add, arith}
use Rattle.std.proofs.Math.Arith.{digits_div}
use Rattle.std.proofs.Math.Nat.{mul-div-mul_right}
use Rattle.std.proofs.lemmas.Nat.{and_mask, mod-pow-add}
use Rattle.std.specs.Prelude.{bit_xor, bit_and}
use Rattle.std.specs.Int.Bits.{and_zero_r}
use Rattle.field.specs.Binary.{FieldShape, times_bit, times_x_power, bit_product}

-- a mask of ones or zeros in place of a branch
pub mask-times_bit : (bit v width : ℕ) → bit < 2 → v < 2 ^ width → bit_and v (bit * (2 ^ width - 1)) ≡ times_bit bit v
mask-times_bit zero v width h below = ap (bit_and v) (zero-mul (2 ^ width - 1)) ∙ and_zero_r v
mask-times_bit (suc zero) v width h below = ap (bit_and v) (one-mul (2 ^ width - 1)) ∙ and_mask v width ∙ mod-eq_of_lt below
mask-times_bit (suc (suc bit)) v width h below = absurd (omega arith)

-- the top bit of a number moved up, where j places are left
pub moved_top : (n k j : ℕ) → n * 2 ^ k % 2 ^ (1 + (j + k)) / 2 ^ (j + k) ≡ n / 2 ^ j % 2
moved_top n k j =
    let moved : ℕ = n * 2 ^ k in
    ap (λ (x : ℕ). x / 2 ^ (j + k)) (mod-pow-add moved 1 (j + k))
    ∙ digits_div (moved / 2 ^ (j + k) % 2 ^ 1) (mod-lt moved (pow_pos (j + k)))
    ∙ ap (λ (x : ℕ). moved / x % 2) (pow-add 2 j k)
    ∙ ap (λ (x : ℕ). x % 2) (mul-div-mul_right n (2 ^ j) (pow_pos k))

module _ (shape : FieldShape) (n a b : ℕ) where
  pub one_more_power : (v next : ℕ) → v ≡ times_x_power shape.step n b → next ≡ shape.step v
      → next ≡ times_x_power shape.step (n + 1) b
  unfolding times_x_power
  one_more_power v next e e' = e' ∙ ap shape.step e ∙ ap (λ (m : ℕ). times_x_power shape.step m b) (sym (add-one n))

  pub one_more_term : (z v next : ℕ) → z ≡ bit_product shape n a b → v ≡ times_x_power shape.step n b
      → next ≡ bit_xor z (times_bit (shape.digit a n) v) → next ≡ bit_product shape (n + 1) a b
  unfolding bit_product
  one_more_term z v next e e₁ e₂ =
      e₂
      ∙ ap₂ (λ (x y : ℕ). bit_xor x (times_bit (shape.digit a n) y)) e e₁
      ∙ ap (λ (m : ℕ). bit_product shape m a b) (sym (add-one n))
