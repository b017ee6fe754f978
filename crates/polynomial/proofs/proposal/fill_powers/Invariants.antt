use Rattle.std.proofs.Common.{◌≡◌, ◌++◌, map, drop}
use Rattle.std.specs.List.{range_with_len}
use Rattle.field.specs.Evaluation.{power}
use Rattle.polynomial.proofs.proposal.fill_powers.Given as goal

-- the next power, and the powers so far before what is not written yet
abbrev pub invariant-loop-power : goal.invariant-loop-power
invariant-loop-power g l =
    (l.next ≡ power g.E.Element l.key l.power-index)
    × (l.powers ≡ map (power g.E.Element l.key) (range_with_len 0 l.power-index) ++ drop l.power-index l.initial.powers)
