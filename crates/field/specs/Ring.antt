-- The laws of a commutative ring with one.
use Rattle.std.specs.Prelude.{◌≡◌}

pub record CommutativeRing {R : Type 0} (zero one : R) (sum product : R → R → R) : Type 0 where
  pub sum_zero : (x : R) → sum x zero ≡ x
  pub sum_comm : (x y : R) → sum x y ≡ sum y x
  pub sum_assoc : (x y z : R) → sum (sum x y) z ≡ sum x (sum y z)
  pub negative : R → R
  pub sum_negative : (x : R) → sum x (negative x) ≡ zero
  pub product_one : (x : R) → product x one ≡ x
  pub product_comm : (x y : R) → product x y ≡ product y x
  pub product_assoc : (x y z : R) → product (product x y) z ≡ product x (product y z)
  pub product_sum : (x y z : R) → product x (sum y z) ≡ sum (product x y) (product x z)
