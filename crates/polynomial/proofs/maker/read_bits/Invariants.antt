use Rattle.std.proofs.Common.{◌≡◌, ℕ, ◌<◌, ◌≤◌, false, get_or}
use Rattle.polynomial.specs.Polynomials.{element}
use Rattle.polynomial.proofs.maker.read_bits.Given as goal

-- the coefficients below k are the proposal's own, and the proposal has no one from k on
abbrev pub invariant-loop-k : goal.invariant-loop-k
invariant-loop-k g l =
    ((j : ℕ) → j < l.k → get_or l.coefficients j g.K.Element.zero ≡ element g.K.Element (g.K.Binary.bits l.proposal j))
    × ((j : ℕ) → l.k ≤ j → g.K.Binary.bits l.proposal j ≡ false)
