use Rattle.std.proofs.Common.{◌≡◌}
use Rattle.field.specs.Binary.{bit_product, times_x_power}
use Rattle.field.proofs.binary.product.Given as goal

-- the sum over the coefficients so far, and the next x^k·b
abbrev pub invariant-loop-k : goal.invariant-loop-k
invariant-loop-k g l = record {
  sum_so_far : l.sum ≡ bit_product g.P.Polynomial.shape l.k l.a l.b;
  power_so_far : l.power ≡ times_x_power g.P.Polynomial.shape.step l.k l.b;
}
