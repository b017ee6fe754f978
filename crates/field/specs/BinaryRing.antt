-- The polynomials of a lawful shape are a commutative ring, in any type whose values are the residues below 2 ^ width.
use Rattle.std.specs.Prelude.{◌≡◌, ℕ, zero, ◌^◌, bit_xor}
use Rattle.std.proofs.Common.{sym, ap, ap₂, ◌∙◌, pow_pos}
use Rattle.std.specs.Int.Bits.{xor_assoc, xor_self, xor_zero_r}
use Rattle.std.proofs.lemmas.Nat.{xor_comm, xor_lt}
use Rattle.field.specs.Ring.{CommutativeRing}
use Rattle.field.specs.Binary.{FieldShape, bit_product}
use Rattle.field.specs.Kinds.{ring_of}
use Rattle.field.specs.Residues.{Residues, value_below}
use Rattle.field.specs.Products.{Lawful, bit_product_additive, bit_product_fits, times_comm, times_assoc}
use Rattle.field.specs.declared.element.Element.{Ghosts}

module _ {V : Type 0} (shape : FieldShape) (lawful : Lawful shape) (residues : Residues V (2 ^ shape.width)) where
  abbrev number : V → ℕ
  number = residues.value

  abbrev ring : Ghosts V
  ring = ring_of shape residues.value residues.enter

  abbrev times : ℕ → ℕ → ℕ
  times a b = bit_product shape shape.width a b

  -- a sum and a product fit, so that they enter as they are
  pub sum_number : (u v : V) → number (ring.sum u v) ≡ bit_xor (number u) (number v)
  sum_number u v =
      value_below residues (bit_xor (number u) (number v))
      (xor_lt shape.width (number u) (number v) (residues.fits u) (residues.fits v))

  pub product_number : (u v : V) → number (ring.product u v) ≡ times (number u) (number v)
  product_number u v =
      value_below residues (times (number u) (number v))
      (bit_product_fits shape lawful shape.width (number u) (number v) (residues.fits v))

  pub zero_number : number ring.zero ≡ zero
  zero_number = value_below residues zero (pow_pos shape.width)

  one_number : number ring.one ≡ shape.unit
  one_number = value_below residues shape.unit lawful.unit_fits

  pub binary_ring : CommutativeRing ring.zero ring.one ring.sum ring.product
  binary_ring = record {
    sum_zero = λ x. residues.same _ x
        (sum_number x ring.zero ∙ ap (bit_xor (number x)) zero_number ∙ xor_zero_r (number x));
    sum_comm = λ x y. residues.same _ _ (sum_number x y ∙ xor_comm (number x) (number y) ∙ sym (sum_number y x));
    sum_assoc = λ x y z. residues.same _ _
        (sum_number (ring.sum x y) z
        ∙ ap (λ (n : ℕ). bit_xor n (number z)) (sum_number x y)
        ∙ xor_assoc (number x) (number y) (number z)
        ∙ sym (sum_number x (ring.sum y z) ∙ ap (bit_xor (number x)) (sum_number y z)));
    negative = λ x. x;
    sum_negative = λ x. residues.same _ _ (sum_number x x ∙ xor_self (number x) ∙ sym zero_number);
    product_one = λ x. residues.same _ x
        (product_number x ring.one
        ∙ ap (times (number x)) one_number
        ∙ lawful.spanned (number x) (residues.fits x));
    product_comm = λ x y. residues.same _ _
        (product_number x y
        ∙ times_comm shape lawful (number x) (number y) (residues.fits x) (residues.fits y)
        ∙ sym (product_number y x));
    product_assoc = λ x y z. residues.same _ _
        (product_number (ring.product x y) z
        ∙ ap (λ (n : ℕ). times n (number z)) (product_number x y)
        ∙ times_assoc shape lawful (number x) (number y) (number z) (residues.fits y) (residues.fits z)
        ∙ sym (product_number x (ring.product y z) ∙ ap (times (number x)) (product_number y z)));
    product_sum = λ x y z. residues.same _ _
        (product_number x (ring.sum y z)
        ∙ ap (times (number x)) (sum_number y z)
        ∙ bit_product_additive shape lawful shape.width (number x) (number y) (number z)
        ∙ sym (sum_number (ring.product x y) (ring.product x z) ∙ ap₂ bit_xor (product_number x y) (product_number x z)));
  }
