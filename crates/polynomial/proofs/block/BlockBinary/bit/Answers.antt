use Rattle.std.proofs.Common.{arith}
use Rattle.field.specs.Instances.{block_residues}
use Rattle.polynomial.specs.Coefficients.{block_places}
use Rattle.polynomial.proofs.Coefficients.{bit_in-test}
use Rattle.polynomial.proofs.block.BlockBinary.bit.Goals as goal

pub returns-then-k-lt128 : goal.returns-then-k-lt128
returns-then-k-lt128 c = bit_in-test block_places block_residues c.args.self c.args.k _ _ (omega arith) (omega arith) (omega arith)
