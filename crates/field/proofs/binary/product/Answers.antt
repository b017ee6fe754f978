use Rattle.std.proofs.Common.{ℕ, ◌^◌, ◌<◌, sym, refl, ap, ◌∙◌, subst}
use Rattle.std.specs.Prelude.{bit_xor}
use Rattle.field.specs.Binary.{FieldShape, times_bit, bit_product, times_x_power}
use Rattle.field.specs.Products.{times_x_power_fits, bit_product_fits}
use Rattle.field.proofs.Turns.{one_more_term, one_more_power}
use Rattle.field.proofs.binary.product.Goals as goal

pub loop-k-init : goal.loop-k-init
unfolding bit_product times_x_power
loop-k-init g c = record { sum_so_far = refl; power_so_far = refl }

pub times_x-power-requires : goal.times_x-power-requires
times_x-power-requires g c =
    let shape : FieldShape = g.P.Polynomial.shape in
    subst (λ (n : ℕ). n < 2 ^ shape.width) (sym c.loop-k.invariant.power_so_far)
    (times_x_power_fits shape g.met.P.Polynomial.lawful c.loop-k.k c.args.b c.requires)

pub loop-k-preserved : goal.loop-k-preserved
loop-k-preserved g c =
    let shape : FieldShape = g.P.Polynomial.shape in
    let sum : ℕ = c.loop-k.sum in
    let power : ℕ = c.loop-k.power in record {
      sum_so_far =
          one_more_term shape c.loop-k.k c.args.a c.args.b sum power _ c.loop-k.invariant.sum_so_far c.loop-k.invariant.power_so_far
          (ap (bit_xor sum) (c.masked-sum.ensures ∙ ap (λ (d : ℕ). times_bit d power) c.coefficient.ensures.value));
      power_so_far =
          one_more_power shape c.loop-k.k c.args.a c.args.b power _ c.loop-k.invariant.power_so_far c.times_x-power.ensures;
    }

pub returns-clause-fits : goal.returns-clause-fits
returns-clause-fits g c =
    let shape : FieldShape = g.P.Polynomial.shape in
    subst (λ (n : ℕ). n < 2 ^ shape.width) (sym c.loop-k.invariant.sum_so_far)
    (bit_product_fits shape g.met.P.Polynomial.lawful c.loop-k.k c.args.a c.args.b c.requires)
