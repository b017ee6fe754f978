use Rattle.std.proofs.Common.{◌≡◌, ◌++◌, length, drop}
use Rattle.reading.proofs.Pieces.{joined}
use Rattle.reading.proofs.section.Section.copy_to.Given as goal

abbrev pub invariant-loop-piece : goal.invariant-loop-piece
invariant-loop-piece l =
    (goal.iterator-loop-piece).can_next l.piece-iterator ×
    (goal.iterator-loop-piece).is_finite l.piece-iterator ×
    (l.at ≡ length (joined l.yielded)) × (l.output ≡ joined l.yielded ++ drop l.at l.initial.output)
