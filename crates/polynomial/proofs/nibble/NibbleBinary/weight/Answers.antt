use Rattle.std.proofs.Common.{ap, arith}
use Rattle.std.specs.Int.Count.{ones}
use Rattle.field.specs.Instances.{nibble_residues}
use Rattle.polynomial.specs.Coefficients.{nibble_places}
use Rattle.polynomial.proofs.Coefficients.{ones_below-count}
use Rattle.polynomial.proofs.nibble.NibbleBinary.weight.Goals as goal

pub returns : goal.returns
returns c = ones_below-count nibble_places nibble_residues c.args.self _ (omega (arith, ap ones c.bits.ensures))
