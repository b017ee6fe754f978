-- Both orders of bits are lawful, at every width and for every modulus.
use Rattle.std.specs.Prelude.{◌≡◌, ℕ, zero, suc, ◌+◌, ◌-◌, ◌*◌, ◌/◌, ◌%◌, ◌^◌, ◌<◌, ◌≤◌, bit_xor}
use Rattle.std.proofs.Math.Path.{refl, sym, ap, ap₂, subst}
use Rattle.std.proofs.Common.{arith, ◌∙◌, add-suc, suc-add, zero-add, pow-suc, mod-lt, div-one, mul_assoc, mul_comm, mul-one, zero-mul, one-mul, mul-div_cancel, add-mul, div-add-mod', lt_of_le_of_lt, le_refl, add-one, one-add, pow_pos, shr-shr}
use Rattle.std.proofs.Math.Nat.{add-zero, mod-one, mod-eq_of_lt, div-eq_of_lt, mul-mod_left}
use Rattle.std.specs.Int.Bits.{xor_comm, xor_self, xor_zero_r, xor_shifted}
use Rattle.std.proofs.lemmas.Nat.{xor_lt, xor_shr, xor_mod, xor_block, shr_le, mod-pow-add}
use Rattle.std.proofs.Math.Pow.{pow-lt}
use Rattle.field.specs.Binary.{times_bit, times_x_power, bit_product, high_first, low_first}
use Rattle.field.specs.Products.{Additive, Lawful, xor_four, times_bit-lt}

two : zero < 2
two = omega arith

times_bit-xor : (c d v : ℕ) → c < 2 → d < 2 → times_bit (bit_xor c d) v ≡ bit_xor (times_bit c v) (times_bit d v)
times_bit-xor zero d v hc hd = refl
times_bit-xor (suc zero) zero v hc hd = sym (xor_zero_r v)
times_bit-xor (suc zero) (suc zero) v hc hd = sym (xor_self v)
times_bit-xor (suc zero) (suc (suc d)) v hc hd = absurd (omega arith)
times_bit-xor (suc (suc c)) d v hc hd = absurd (omega arith)

pub times_bit-eq : (c v : ℕ) → c < 2 → times_bit c v ≡ c * v
times_bit-eq zero v h = sym (zero-mul v)
times_bit-eq (suc zero) v h = sym (one-mul v)
times_bit-eq (suc (suc c)) v h = absurd (omega arith)

-- the coefficient in place k of a sum
pub bit_additive : (k a b : ℕ) → bit_xor a b / 2 ^ k % 2 ≡ bit_xor (a / 2 ^ k % 2) (b / 2 ^ k % 2)
bit_additive k a b = ap (λ (x : ℕ). x % 2) (xor_shr a b k) ∙ xor_mod (a / 2 ^ k) (b / 2 ^ k) 1

-- ---- the coefficient of x^0 highest

module _ (width rest : ℕ) where
  abbrev high_step : ℕ → ℕ
  high_step = (high_first width rest).step

  high_additive : Additive high_step
  high_additive a b =
      ap₂ bit_xor (xor_shr a b 1)
      (ap (λ (x : ℕ). times_bit x rest) (xor_mod a b 1) ∙ times_bit-xor (a % 2) (b % 2) rest (mod-lt a two) (mod-lt b two))
      ∙ xor_four (a / 2) (b / 2) (times_bit (a % 2) rest) (times_bit (b % 2) rest)

  high_fits : rest < 2 ^ width → (v : ℕ) → v < 2 ^ width → high_step v < 2 ^ width
  high_fits hr v hv =
      xor_lt width (v / 2) (times_bit (v % 2) rest) (lt_of_le_of_lt (shr_le v 1) hv) (times_bit-lt (v % 2) rest width hr)

  -- x^k is one bit
  high_power : (j k : ℕ) → times_x_power high_step k (2 ^ (j + k)) ≡ 2 ^ j
  unfolding times_x_power
  high_power j zero = ap (λ (n : ℕ). 2 ^ n) (add-zero j)
  high_power j (suc k) =
      ap (λ (n : ℕ). high_step (times_x_power high_step k (2 ^ n))) (add-suc j k ∙ sym (suc-add j k))
      ∙ ap high_step (high_power (suc j) k)
      ∙ ap high_step (pow-suc 2 j)
      ∙ ap₂ (λ (x y : ℕ). bit_xor x (times_bit y rest)) (mul-div_cancel (2 ^ j) two) (mul-mod_left (2 ^ j) 2)
      ∙ xor_zero_r (2 ^ j)

  -- a bit below a number's higher bits
  high_join : (a j : ℕ) → bit_xor (a / 2 ^ suc j * 2 ^ suc j) (times_bit (a / 2 ^ j % 2) (2 ^ j)) ≡ a / 2 ^ j * 2 ^ j
  high_join a j =
      let q : ℕ = a / 2 ^ j in
      let half : a / 2 ^ suc j ≡ q / 2 = ap (λ (n : ℕ). a / 2 ^ n) (sym (add-one j)) ∙ sym (shr-shr a j 1) in
      xor_shifted (a / 2 ^ suc j) (suc j) (times_bit (q % 2) (2 ^ j))
      (times_bit-lt (q % 2) (2 ^ j) (suc j) (pow-lt {i = j} {j = suc j} (omega arith)))
      ∙ ap₂ (λ (x y : ℕ). x + y)
      (ap₂ (λ (x y : ℕ). x * y) half (pow-suc 2 j ∙ mul_comm (2 ^ j) 2) ∙ sym (mul_assoc (q / 2) 2 (2 ^ j)))
      (times_bit-eq (q % 2) (2 ^ j) (mod-lt q two))
      ∙ sym (add-mul (q / 2 * 2) (q % 2) (2 ^ j))
      ∙ ap (λ (x : ℕ). x * 2 ^ j) (div-add-mod' q 2)

  -- the n highest bits
  high_sum : (a n j : ℕ) → j + n ≡ width → a < 2 ^ width
      → bit_product (high_first width rest) n a (2 ^ (width - 1)) ≡ a / 2 ^ j * 2 ^ j
  unfolding bit_product
  high_sum a zero j e h =
      let h' : a < 2 ^ j = subst (λ (n : ℕ). a < 2 ^ n) (sym e ∙ add-zero j) h in
      sym (zero-mul (2 ^ j)) ∙ ap (λ (x : ℕ). x * 2 ^ j) (sym (div-eq_of_lt h'))
  high_sum a (suc n) j e h =
      let e₁ : suc j + n ≡ width = omega arith in
      let e₂ : width - suc n ≡ j = omega arith in
      let e₃ : width - 1 ≡ j + n = omega arith in
      ap₂ bit_xor (high_sum a n (suc j) e₁ h)
      (ap₂ times_bit (ap (λ (m : ℕ). a / 2 ^ m % 2) e₂)
      (ap (λ (m : ℕ). times_x_power high_step n (2 ^ m)) e₃ ∙ high_power j n))
      ∙ high_join a j

  high_spanned : (a : ℕ) → a < 2 ^ width → bit_product (high_first width rest) width a (2 ^ (width - 1)) ≡ a
  high_spanned a h = high_sum a width zero (zero-add width) h ∙ mul-one (a / 1) ∙ div-one a

  pub high_lawful : zero < width → rest < 2 ^ width → Lawful (high_first width rest)
  high_lawful wide short = record {
    additive = high_additive;
    step_fits = high_fits short;
    unit_fits = pow-lt {i = width - 1} {j = width} (omega arith);
    spanned = high_spanned;
  }

-- ---- the coefficient of x^0 lowest

double_additive : (a b : ℕ) → bit_xor a b * 2 ≡ bit_xor (a * 2) (b * 2)
double_additive a b =
    sym (add-zero (bit_xor a b * 2)) ∙ sym (xor_block 1 a b zero zero two two)
    ∙ ap₂ bit_xor (add-zero (a * 2)) (add-zero (b * 2))

module _ (width rest : ℕ) where
  abbrev low_step : ℕ → ℕ
  low_step = (low_first width rest).step

  abbrev top : ℕ → ℕ
  top v = v / 2 ^ (width - 1) % 2

  low_additive : Additive low_step
  low_additive a b =
      ap₂ bit_xor (ap (λ (x : ℕ). x % 2 ^ width) (double_additive a b) ∙ xor_mod (a * 2) (b * 2) width)
      (ap (λ (x : ℕ). times_bit x rest) (bit_additive (width - 1) a b)
      ∙ times_bit-xor (top a) (top b) rest (mod-lt (a / 2 ^ (width - 1)) two) (mod-lt (b / 2 ^ (width - 1)) two))
      ∙ xor_four (a * 2 % 2 ^ width) (b * 2 % 2 ^ width) (times_bit (top a) rest) (times_bit (top b) rest)

  pub low_fits : rest < 2 ^ width → (v : ℕ) → low_step v < 2 ^ width
  low_fits hr v =
      xor_lt width (v * 2 % 2 ^ width) (times_bit (top v) rest)
      (mod-lt (v * 2) (pow_pos width)) (times_bit-lt (top v) rest width hr)

  low_power : (k : ℕ) → k < width → times_x_power low_step k 1 ≡ 2 ^ k
  unfolding times_x_power
  low_power zero h = refl
  low_power (suc k) h =
      let below : k < width - 1 = omega arith in
      let before : k < width = omega arith in
      ap low_step (low_power k before)
      ∙ ap₂ (λ (x y : ℕ). bit_xor x (times_bit (y % 2) rest))
      (ap (λ (x : ℕ). x % 2 ^ width) (sym (pow-suc 2 k)) ∙ mod-eq_of_lt (pow-lt h))
      (div-eq_of_lt (pow-lt below))
      ∙ xor_zero_r (2 ^ suc k)

  low_sum : (a n : ℕ) → n ≤ width → bit_product (low_first width rest) n a 1 ≡ a % 2 ^ n
  unfolding bit_product
  low_sum a zero h = sym (mod-one a)
  low_sum a (suc n) h =
      let before : n ≤ width = omega arith in
      ap₂ bit_xor (low_sum a n before)
      (ap (times_bit (a / 2 ^ n % 2)) (low_power n h) ∙ times_bit-eq (a / 2 ^ n % 2) (2 ^ n) (mod-lt (a / 2 ^ n) two))
      ∙ xor_comm (a % 2 ^ n) (a / 2 ^ n % 2 * 2 ^ n)
      ∙ xor_shifted (a / 2 ^ n % 2) n (a % 2 ^ n) (mod-lt a (pow_pos n))
      ∙ sym (mod-pow-add a 1 n)
      ∙ ap (λ (m : ℕ). a % 2 ^ m) (one-add n)

  low_spanned : (a : ℕ) → a < 2 ^ width → bit_product (low_first width rest) width a 1 ≡ a
  low_spanned a h = low_sum a width (le_refl width) ∙ mod-eq_of_lt h

  pub low_lawful : zero < width → rest < 2 ^ width → Lawful (low_first width rest)
  low_lawful wide short = record {
    additive = low_additive;
    step_fits = λ v _. low_fits short v;
    unit_fits = pow-lt {i = zero} {j = width} wide;
    spanned = low_spanned;
  }
