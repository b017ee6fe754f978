use Rattle.std.proofs.Common.{arith, lit≤}
use Rattle.field.specs.Instances.{nibble_residues}
use Rattle.polynomial.specs.Coefficients.{nibble_places}
use Rattle.polynomial.proofs.Coefficients.{bit_in-flip}
use Rattle.polynomial.proofs.nibble.NibbleBinary.flip.Goals as goal

pub returns-then-k-lt4 : goal.returns-then-k-lt4
returns-then-k-lt4 c =
    bit_in-flip nibble_places nibble_residues c.args.self _ c.args.k _ _ 8 c.new.ensures
    (lit≤ tt) (omega arith) (omega arith) (omega arith)
