use Rattle.std.proofs.Common.{◌≡◌, [], ◌∷◌, ap, ◌∙◌, rules}
use Rattle.field.specs.Kinds.{block_ring}
use Rattle.field.specs.declared.block.Block.{Block}
use Rattle.field.specs.Instances.{block_ring_laws}
use Rattle.polynomial.specs.Blocks.{AcceptedBlock, coefficients_of}
use Rattle.polynomial.specs.Polynomials.{value_at, coefficient_list}
use Rattle.division.specs.Divisions.{divisor_of, polynomial_of, dividend, LeavesRemainder}
use Rattle.division.specs.Remainders.{sum_of, times_t}
use Rattle.division.specs.declared.ring.Ring.{Ring}
use Rattle.division.proofs.OneRemainder.{only_remainder}
use Rattle.division.proofs.RemainderValues.{value_at-remainder, value_at-times_t, value_at-add_constant, value_at-divisor}
use Rattle.polynomial.proofs.Values.{length-coefficient_list}
use Rattle.division.proofs.division.DivisionEngine.absorb.Goals as goal

-- the remainder has the value that the step of the hash wants, since the divisor is zero at the subkey
stepped : (a : AcceptedBlock) (w w' : Ring) (p : Block) → LeavesRemainder a w p w'
    → value_at block_ring a.subkey (polynomial_of w') ≡ block_ring.product (block_ring.sum (value_at block_ring a.subkey (polynomial_of w)) p) a.subkey
stepped a w w' p divided =
    let h : Block = a.subkey in
    value_at-remainder block_ring block_ring_laws h (times_t block_ring (sum_of block_ring (polynomial_of w) (p ∷ []))) (divisor_of a) (polynomial_of w') 128 divided
    (value_at-divisor block_ring block_ring_laws h 128 (coefficients_of a.coefficients) a.annihilates)
    ∙ value_at-times_t block_ring block_ring_laws h (sum_of block_ring (polynomial_of w) (p ∷ []))
    ∙ ap (block_ring.product h) (value_at-add_constant block_ring block_ring_laws h (polynomial_of w) p)
    ∙ block_ring_laws.product_comm h (block_ring.sum (value_at block_ring h (polynomial_of w)) p)

pub returns-clause-value : goal.returns-clause-value
returns-clause-value c =
    stepped c.args.self.now.divisor.polynomial c.args.self.now.ring c.absorb.new.self c.args.block c.absorb.ensures.divided

pub returns-clause-whole : goal.returns-clause-whole
returns-clause-whole c =
    let a : AcceptedBlock = c.args.self.now.divisor.polynomial in
    record {
      kept = search rules;
      divided = c.absorb.ensures.divided;
      only =
          only_remainder block_ring block_ring_laws (dividend c.args.self.now.ring c.args.block)
          (coefficient_list block_ring 128 (coefficients_of a.coefficients)) (polynomial_of c.absorb.new.self) 128
          (length-coefficient_list block_ring block_ring_laws 128 (coefficients_of a.coefficients)) c.absorb.ensures.divided;
      turn = c.absorb.ensures.turn;
    }
