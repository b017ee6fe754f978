-- The residues below m are a commutative ring, with sum and product modulo m, in any type whose values are those residues.
use Rattle.std.specs.Prelude.{◌≡◌, ℕ, zero, ◌+◌, ◌-◌, ◌*◌, ◌%◌, ◌<◌}
use Rattle.std.proofs.Common.{sym, ap, ap₂, ◌∙◌, add_assoc, add_comm, add-zero, mul_assoc, mul_comm, mul-one, mul-add, mod-eq_of_lt, arith}
use Rattle.std.proofs.Math.Nat.{mod-add-mod, add-mod-mod, mod_self}
use Rattle.std.proofs.lemmas.Nat.{mul-mod_first, mul-mod_second}
use Rattle.field.specs.Ring.{CommutativeRing}
use Rattle.field.specs.Residues.{Residues, value_below}
use Rattle.field.specs.declared.element.Element.{Ghosts}

module _ {V : Type 0} {m : ℕ} (residues : Residues V m) (above-one : 1 < m) where
  abbrev number : V → ℕ
  number = residues.value

  abbrev ring : Ghosts V
  ring = record {
    zero = residues.enter zero;
    one = residues.enter 1;
    sum = λ u v. residues.enter (number u + number v);
    product = λ u v. residues.enter (number u * number v);
  }

  -- what is missing to the modulus
  abbrev negative : V → V
  negative u = residues.enter (m - number u)

  -- a sum and a product enter by their remainders
  sum_number : (u v : V) → number (ring.sum u v) ≡ (number u + number v) % m
  sum_number u v = residues.value_enter (number u + number v)

  product_number : (u v : V) → number (ring.product u v) ≡ (number u * number v) % m
  product_number u v = residues.value_enter (number u * number v)

  zero_number : number ring.zero ≡ zero
  zero_number = value_below residues zero (omega arith)

  back : (x : V) → number x + (m - number x) ≡ m
  back x = let h : number x < m = residues.fits x in omega arith

  pub modular_ring : CommutativeRing ring.zero ring.one ring.sum ring.product
  modular_ring = record {
    sum_zero = λ x. residues.same _ x
        (sum_number x ring.zero
        ∙ ap (λ (n : ℕ). (number x + n) % m) zero_number
        ∙ ap (λ (n : ℕ). n % m) (add-zero (number x))
        ∙ mod-eq_of_lt (residues.fits x));
    sum_comm = λ x y. residues.same _ _
        (sum_number x y ∙ ap (λ (n : ℕ). n % m) (add_comm (number x) (number y)) ∙ sym (sum_number y x));
    sum_assoc = λ x y z. residues.same _ _
        (sum_number (ring.sum x y) z
        ∙ ap (λ (n : ℕ). (n + number z) % m) (sum_number x y)
        ∙ mod-add-mod (number x + number y) m (number z)
        ∙ ap (λ (n : ℕ). n % m) (add_assoc (number x) (number y) (number z))
        ∙ sym (sum_number x (ring.sum y z)
        ∙ ap (λ (n : ℕ). (number x + n) % m) (sum_number y z)
        ∙ add-mod-mod (number x) (number y + number z) m));
    negative = negative;
    sum_negative = λ x. residues.same _ _
        (sum_number x (negative x)
        ∙ ap (λ (n : ℕ). (number x + n) % m) (residues.value_enter (m - number x))
        ∙ add-mod-mod (number x) (m - number x) m
        ∙ ap (λ (n : ℕ). n % m) (back x)
        ∙ mod_self m
        ∙ sym zero_number);
    product_one = λ x. residues.same _ x
        (product_number x ring.one
        ∙ ap (λ (n : ℕ). (number x * n) % m) (value_below residues 1 above-one)
        ∙ ap (λ (n : ℕ). n % m) (mul-one (number x))
        ∙ mod-eq_of_lt (residues.fits x));
    product_comm = λ x y. residues.same _ _
        (product_number x y ∙ ap (λ (n : ℕ). n % m) (mul_comm (number x) (number y)) ∙ sym (product_number y x));
    product_assoc = λ x y z. residues.same _ _
        (product_number (ring.product x y) z
        ∙ ap (λ (n : ℕ). (n * number z) % m) (product_number x y)
        ∙ mul-mod_first (number x * number y) (number z) m
        ∙ ap (λ (n : ℕ). n % m) (mul_assoc (number x) (number y) (number z))
        ∙ sym (product_number x (ring.product y z)
        ∙ ap (λ (n : ℕ). (number x * n) % m) (product_number y z)
        ∙ mul-mod_second (number x) (number y * number z) m));
    product_sum = λ x y z. residues.same _ _
        (product_number x (ring.sum y z)
        ∙ ap (λ (n : ℕ). (number x * n) % m) (sum_number y z)
        ∙ mul-mod_second (number x) (number y + number z) m
        ∙ ap (λ (n : ℕ). n % m) (mul-add (number x) (number y) (number z))
        ∙ sym (sum_number (ring.product x y) (ring.product x z)
        ∙ ap₂ (λ (p q : ℕ). (p + q) % m) (product_number x y) (product_number x z)
        ∙ mod-add-mod (number x * number y) m ((number x * number z) % m)
        ∙ add-mod-mod (number x * number y) (number x * number z) m));
  }
