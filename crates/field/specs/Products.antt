-- The laws of the product of polynomials over the bits, for every shape whose multiplication by x is additive.
use Rattle.std.specs.Prelude.{◌≡◌, ℕ, zero, suc, ◌^◌, ◌<◌, bit_xor}
use Rattle.std.proofs.Math.Path.{refl, ap, ap₂}
use Rattle.std.proofs.Common.{sym, ◌∙◌}
use Rattle.std.specs.Int.Bits.{xor_assoc, xor_self, xor_lt}
use Rattle.std.proofs.lemmas.Nat.{xor_comm}
use Rattle.std.proofs.Math.Pow.{pow_pos}
use Rattle.field.specs.Binary.{FieldShape, times_bit, times_x_power, bit_product}

-- a map of a sum is the sum of the maps
abbrev pub Additive : (ℕ → ℕ) → Type 0
Additive f = (a b : ℕ) → f (bit_xor a b) ≡ bit_xor (f a) (f b)

-- four terms of a sum, those in the middle exchanged
pub xor_four : (a b c d : ℕ) → bit_xor (bit_xor a b) (bit_xor c d) ≡ bit_xor (bit_xor a c) (bit_xor b d)
xor_four a b c d =
    xor_assoc a b (bit_xor c d)
    ∙ ap (bit_xor a) (sym (xor_assoc b c d) ∙ ap (λ (x : ℕ). bit_xor x d) (xor_comm b c) ∙ xor_assoc c b d)
    ∙ sym (xor_assoc a c (bit_xor b d))

-- zero goes to zero
pub through_zero : (f : ℕ → ℕ) → Additive f → f zero ≡ zero
through_zero f additive = additive zero zero ∙ xor_self (f zero)

-- a bit may be multiplied before or after
pub through_times_bit : (f : ℕ → ℕ) → Additive f → (bit v : ℕ) → f (times_bit bit v) ≡ times_bit bit (f v)
through_times_bit f additive zero v = through_zero f additive
through_times_bit f additive (suc bit) v = refl

times_bit-additive : (bit : ℕ) → Additive (times_bit bit)
times_bit-additive zero a b = refl
times_bit-additive (suc bit) a b = refl

pub times_bit-lt : (bit v width : ℕ) → v < 2 ^ width → times_bit bit v < 2 ^ width
times_bit-lt zero v width h = pow_pos width
times_bit-lt (suc bit) v width h = h

-- What makes a shape's polynomials a ring.
pub record Lawful (shape : FieldShape) : Type 0 where
  -- x times a sum is the sum of x times each
  pub additive : Additive shape.step
  pub step_fits : (v : ℕ) → v < 2 ^ shape.width → shape.step v < 2 ^ shape.width
  pub unit_fits : shape.unit < 2 ^ shape.width
  -- a polynomial is the sum of its terms
  pub spanned : (a : ℕ) → a < 2 ^ shape.width → bit_product shape shape.width a shape.unit ≡ a

module _ (shape : FieldShape) (lawful : Lawful shape) where
  times_x_power_additive : (k : ℕ) → Additive (times_x_power shape.step k)
  unfolding times_x_power
  times_x_power_additive zero a b = refl
  times_x_power_additive (suc k) a b =
      ap shape.step (times_x_power_additive k a b) ∙ lawful.additive (times_x_power shape.step k a) (times_x_power shape.step k b)

  -- distributivity
  pub bit_product_additive : (n a : ℕ) → Additive (bit_product shape n a)
  unfolding bit_product
  bit_product_additive zero a u v = refl
  bit_product_additive (suc n) a u v =
      ap₂ bit_xor (bit_product_additive n a u v)
      (ap (times_bit (shape.digit a n)) (times_x_power_additive n u v)
      ∙ times_bit-additive (shape.digit a n) (times_x_power shape.step n u) (times_x_power shape.step n v))
      ∙ xor_four (bit_product shape n a u) (bit_product shape n a v)
      (times_bit (shape.digit a n) (times_x_power shape.step n u)) (times_bit (shape.digit a n) (times_x_power shape.step n v))

  -- an additive map that commutes with the step commutes with every product
  module _ (f : ℕ → ℕ) (f-additive : Additive f) (f-step : (v : ℕ) → f (shape.step v) ≡ shape.step (f v)) where
    through_times_x_power : (k v : ℕ) → f (times_x_power shape.step k v) ≡ times_x_power shape.step k (f v)
    unfolding times_x_power
    through_times_x_power zero v = refl
    through_times_x_power (suc k) v = f-step (times_x_power shape.step k v) ∙ ap shape.step (through_times_x_power k v)

    through_product : (n a v : ℕ) → f (bit_product shape n a v) ≡ bit_product shape n a (f v)
    unfolding bit_product
    through_product zero a v = through_zero f f-additive
    through_product (suc n) a v =
        f-additive (bit_product shape n a v) (times_bit (shape.digit a n) (times_x_power shape.step n v))
        ∙ ap₂ bit_xor (through_product n a v)
        (through_times_bit f f-additive (shape.digit a n) (times_x_power shape.step n v)
        ∙ ap (times_bit (shape.digit a n)) (through_times_x_power n v))

  bit_product_step : (n a v : ℕ) → bit_product shape n a (shape.step v) ≡ shape.step (bit_product shape n a v)
  bit_product_step n a v = sym (through_product shape.step lawful.additive (λ u. refl) n a v)

  -- two factors of a product may be exchanged
  products_swap : (n a b v : ℕ) → bit_product shape n a (bit_product shape n b v) ≡ bit_product shape n b (bit_product shape n a v)
  products_swap n a b v =
      through_product (bit_product shape n a) (bit_product_additive n a) (bit_product_step n a) n b v

  pub times_x_power_fits : (k v : ℕ) → v < 2 ^ shape.width → times_x_power shape.step k v < 2 ^ shape.width
  unfolding times_x_power
  times_x_power_fits zero v h = h
  times_x_power_fits (suc k) v h = lawful.step_fits (times_x_power shape.step k v) (times_x_power_fits k v h)

  pub bit_product_fits : (n a b : ℕ) → b < 2 ^ shape.width → bit_product shape n a b < 2 ^ shape.width
  unfolding bit_product
  bit_product_fits zero a b h = pow_pos shape.width
  bit_product_fits (suc n) a b h =
      xor_lt shape.width (bit_product shape n a b) (times_bit (shape.digit a n) (times_x_power shape.step n b))
      (bit_product_fits n a b h)
      (times_bit-lt (shape.digit a n) (times_x_power shape.step n b) shape.width (times_x_power_fits n b h))

  abbrev times : ℕ → ℕ → ℕ
  times a b = bit_product shape shape.width a b

  -- the ring's laws, for polynomials of the width
  pub times_comm : (a b : ℕ) → a < 2 ^ shape.width → b < 2 ^ shape.width → times a b ≡ times b a
  times_comm a b ha hb =
      ap (times a) (sym (lawful.spanned b hb))
      ∙ products_swap shape.width a b shape.unit
      ∙ ap (times b) (lawful.spanned a ha)

  pub times_assoc : (a b c : ℕ) → b < 2 ^ shape.width → c < 2 ^ shape.width → times (times a b) c ≡ times a (times b c)
  times_assoc a b c hb hc =
      times_comm (times a b) c (bit_product_fits shape.width a b hb) hc
      ∙ products_swap shape.width c a b
      ∙ ap (times a) (times_comm c b hc hb)
