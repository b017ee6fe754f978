use Rattle.reading.proofs.Pieces.{joined}
use Rattle.sealed.proofs.feeding.feed_part.Given as goal

abbrev pub invariant-loop-piece : goal.invariant-loop-piece
invariant-loop-piece g l =
    (goal.iterator-loop-piece g).can_next l.piece-iterator ×
    (goal.iterator-loop-piece g).is_finite l.piece-iterator ×
    g.J.Takes.fed l.initial.job (joined l.yielded) l.job
