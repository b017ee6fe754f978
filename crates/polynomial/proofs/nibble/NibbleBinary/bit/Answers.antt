use Rattle.std.proofs.Common.{arith}
use Rattle.field.specs.Instances.{nibble_residues}
use Rattle.polynomial.specs.Coefficients.{nibble_places}
use Rattle.polynomial.proofs.Coefficients.{bit_in-test}
use Rattle.polynomial.proofs.nibble.NibbleBinary.bit.Goals as goal

pub returns-then-k-lt4 : goal.returns-then-k-lt4
returns-then-k-lt4 c = bit_in-test nibble_places nibble_residues c.args.self c.args.k _ _ (omega arith) (omega arith) (omega arith)
