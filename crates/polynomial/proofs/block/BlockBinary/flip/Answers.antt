use Rattle.std.proofs.Common.{arith, lit≤}
use Rattle.field.specs.Instances.{block_residues}
use Rattle.polynomial.specs.Coefficients.{block_places}
use Rattle.polynomial.proofs.Coefficients.{bit_in-flip}
use Rattle.polynomial.proofs.block.BlockBinary.flip.Goals as goal

pub returns-then-k-lt128 : goal.returns-then-k-lt128
returns-then-k-lt128 c =
    bit_in-flip block_places block_residues c.args.self _ c.args.k _ _ 128 c.new.ensures
    (lit≤ tt) (omega arith) (omega arith) (omega arith)
