use Rattle.std.proofs.Common.{◌≡◌, ◌++◌, take, drop}
use Rattle.polynomial.specs.Steps.{lower_linear_from, lower_times_linear}
use Rattle.polynomial.proofs.maker.multiply.Given as goal

-- what is written and what the rest will give make the whole, and the rest is not touched yet
abbrev pub invariant-loop-coefficient : goal.invariant-loop-coefficient
invariant-loop-coefficient g l =
    (lower_times_linear g.E.Element l.root l.initial.coefficients
    ≡ take l.coefficient-index l.coefficients
    ++ lower_linear_from g.E.Element l.root l.below (drop l.coefficient-index l.initial.coefficients) g.E.Element.one)
    × (drop l.coefficient-index l.coefficients ≡ drop l.coefficient-index l.initial.coefficients)
