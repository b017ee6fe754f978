use Rattle.std.proofs.Common.{◌≡◌, List, ◌∷◌, replicate, ap, ap₂, ◌∙◌, append-nil}
use Rattle.field.specs.Kinds.{block_ring}
use Rattle.field.specs.declared.block.Block.{Block}
use Rattle.field.specs.Instances.{block_ring_laws}
use Rattle.polynomial.specs.Polynomials.{value_at}
use Rattle.division.specs.Divisions.{polynomial_of}
use Rattle.division.specs.Rotation.{rotation}
use Rattle.division.proofs.RemainderValues.{value_at-constant}
use Rattle.division.proofs.division.DivisionEngine.resume.Goals as goal

pub returns-clause-value : goal.returns-clause-value
unfolding rotation
returns-clause-value c =
    let h : Block = c.args.self.now.divisor.polynomial.subkey in
    let row : polynomial_of c.restart.new.self ≡ c.args.value ∷ replicate 127 block_ring.zero =
    ap₂ (λ (s : List Block) b. rotation b s) c.restart.ensures.coefficients c.restart.ensures.front ∙ append-nil _ in
    ap (value_at block_ring h) row ∙ value_at-constant block_ring block_ring_laws h c.args.value 127
