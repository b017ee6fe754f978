use Rattle.std.proofs.Common.{◌≡◌}
use Rattle.polynomial.specs.Blocks.{coefficients_of}
use Rattle.division.specs.Places.{one_places}
use Rattle.division.proofs.divisor.Divisor.new.Given as goal

-- the places of the ones below this place are found
abbrev pub invariant-loop-place : goal.invariant-loop-place
invariant-loop-place l = l.places.items ≡ one_places l.place (coefficients_of l.polynomial.coefficients)
