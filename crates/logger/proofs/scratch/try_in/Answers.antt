use Rattle.std.proofs.Common.{arith}
use Rattle.polynomial.specs.Blocks.{coefficients_of}
use Rattle.polynomial.proofs.Coefficients.{ones_at_most}
use Rattle.logger.proofs.scratch.try_in.Goals as goal

-- a weight is small
pub overflow_cast-result : goal.overflow_cast-result
overflow_cast-result c = omega (arith, c.in_ok-trial.ensures.value.counted, ones_at_most 128 (coefficients_of c.args.proposal))
