use Rattle.field.specs.Instances.{block_residues}
use Rattle.polynomial.specs.Coefficients.{block_places}
use Rattle.polynomial.proofs.Coefficients.{ones_parts, ones_below-count}
use Rattle.polynomial.proofs.block.BlockBinary.weight.Goals as goal

pub returns : goal.returns
returns c =
    ones_below-count block_places block_residues c.args.self _
    (ones_parts 64 c.args.self.bits _ _ _ c.bits-bits.ensures c.bits-bits.ensures c.from.ensures)
