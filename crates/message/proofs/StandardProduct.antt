-- The standard's product of two strings is the product of two blocks.
use Rattle.std.proofs.Common.{◌≡◌, ℕ, zero, suc, ◌+◌, ◌-◌, ◌*◌, ◌/◌, ◌%◌, ◌^◌, ◌<◌, List, sym, refl, ap, ◌∙◌, ap₂, arith}
use lib.Bits.{bit_xor}
use Rattle.field.specs.Binary.{times_bit, times_x_power, bit_product}
use Rattle.field.specs.Digits.{digits}
use Rattle.field.specs.Kinds.{block_shape}
use Rattle.field.specs.Instances.{block_lawful}
use Rattle.field.specs.Products.{times_x_power_fits}
use Rattle.message.specs.Standard.{bits, xor, select, shift_right, R, next_v, product_from, product, zeros}
use Rattle.message.proofs.Strings.{select_bits, last_bit_bits, shift_right_bits}

R_bits : R ≡ bits 128 (0xE1 * 2 ^ 120)
unfolding R digits
R_bits = refl

pub zeros_bits : zeros 128 ≡ bits 128 0
unfolding digits
zeros_bits = refl

next_v_bits : (v : ℕ) → v < 2 ^ 128 → next_v (bits 128 v) ≡ bits 128 (block_shape.step v)
next_v_bits v below =
    let moved : shift_right (bits 128 v) ≡ bits 128 (v / 2) = shift_right_bits 127 v below in
    ap₂ (λ (d : ℕ) (xs : List ℕ). select d xs (xor xs R)) (last_bit_bits 127 v) moved
    ∙ ap (λ (r : List ℕ). select (v % 2) (bits 128 (v / 2)) (xor (bits 128 (v / 2)) r)) R_bits
    ∙ select_bits 128 (v % 2) (v / 2) (0xE1 * 2 ^ 120)

module _ (a b : ℕ) (below : b < 2 ^ 128) where
  abbrev sum : ℕ → List ℕ
  sum k = bits 128 (bit_product block_shape k a b)

  abbrev power : ℕ → List ℕ
  power k = bits 128 (times_x_power block_shape.step k b)

  -- with j bits of a to go, after k of them
  from_there : (j k : ℕ) → j + k ≡ 128 → product_from (bits j a) (sum k) (power k) ≡ sum 128
  unfolding bit_product times_x_power digits
  from_there zero k e = let all : k ≡ 128 = omega arith in ap sum all
  from_there (suc j) k e =
      let on : j + suc k ≡ 128 = omega arith in
      let place : 128 - suc k ≡ j = omega arith in
      let v : ℕ = times_x_power block_shape.step k b in
      ap₂ (λ (z w : List ℕ). product_from (bits j a) z w)
      (select_bits 128 (a / 2 ^ j % 2) (bit_product block_shape k a b) v
      ∙ ap (λ (m : ℕ). bits 128 (bit_xor (bit_product block_shape k a b) (times_bit (a / 2 ^ m % 2) v))) (sym place))
      (next_v_bits v (times_x_power_fits block_shape block_lawful k b below))
      ∙ from_there j (suc k) on

  pub product_bits : product (bits 128 a) (bits 128 b) ≡ bits 128 (bit_product block_shape 128 a b)
  unfolding product bit_product times_x_power
  product_bits =
      ap (λ (z : List ℕ). product_from (bits 128 a) z (bits 128 b)) zeros_bits ∙ from_there 128 0 refl
