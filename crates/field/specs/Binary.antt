-- Polynomials in x with coefficients 0 and 1, written as numbers, and their product modulo a polynomial of degree `width`.
-- NIST SP 800-38D, section 6.3, multiplies two blocks so.
use Rattle.std.specs.Prelude.{ℕ, zero, suc, ◌-◌, ◌*◌, ◌/◌, ◌%◌, ◌^◌, bit_xor}

-- a bit times a polynomial: the polynomial where the bit is one, else zero
abbrev pub times_bit : ℕ → ℕ → ℕ
times_bit zero v = zero
times_bit (suc bit) v = v

-- How such polynomials are written, and what they are taken modulo.
pub record FieldShape : Type 0 where
  -- how many coefficients a polynomial has, those of x^0 to x^(width - 1)
  pub width : ℕ
  -- the polynomial 1
  pub unit : ℕ
  -- x times a polynomial, modulo the polynomial of degree `width`
  pub step : ℕ → ℕ
  -- in a polynomial, the coefficient of x^k
  pub digit : ℕ → ℕ → ℕ

-- The coefficient of x^0 is the highest bit, so that x times a polynomial is a shift to the right. The bit that falls out stands
-- for x^width, which is `rest`, the modulus without its highest term, and that is xored in.
abbrev pub high_first : ℕ → ℕ → FieldShape
high_first width rest = record {
  width = width;
  unit = 2 ^ (width - 1);
  step = λ v. bit_xor (v / 2) (times_bit (v % 2) rest);
  digit = λ a k. a / 2 ^ (width - suc k) % 2;
}

-- The coefficient of x^0 is the lowest bit, so that x times a polynomial is a shift to the left. The bit that falls out stands
-- for x^width, which is `rest`, the modulus without its highest term, and that is xored in.
abbrev pub low_first : ℕ → ℕ → FieldShape
low_first width rest = record {
  width = width;
  unit = 1;
  step = λ v. bit_xor (v * 2 % 2 ^ width) (times_bit (v / 2 ^ (width - 1) % 2) rest);
  digit = λ a k. a / 2 ^ k % 2;
}

-- x^k times a polynomial: x times it, k times over
unfoldable pub times_x_power : (ℕ → ℕ) → ℕ → ℕ → ℕ
times_x_power step zero v = v
times_x_power step (suc k) v = step (times_x_power step k v)

-- The sum, over k below n, of the coefficient of x^k in a, times x^k, times b. At n = width it is the product of a and b.
unfoldable pub bit_product : FieldShape → ℕ → ℕ → ℕ → ℕ
bit_product shape zero a b = zero
bit_product shape (suc n) a b = bit_xor (bit_product shape n a b) (times_bit (shape.digit a n) (times_x_power shape.step n b))
