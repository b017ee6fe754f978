use Rattle.std.proofs.Common.{◌≡◌, ◌^◌, ◌++◌, drop}
use Rattle.field.specs.Evaluation.{power}
use Rattle.polynomial.specs.Steps.{lower_conjugates}
use Rattle.polynomial.proofs.maker.expand.Given as goal

-- the next root, and the product of the factors so far before what is not written yet
abbrev pub invariant-loop-degree : goal.invariant-loop-degree
invariant-loop-degree g l =
    (l.root ≡ power g.E.Element l.initial.root (2 ^ l.degree))
    × (l.coefficients ≡ lower_conjugates g.E.Element l.initial.root l.degree ++ drop l.degree l.initial.coefficients)
