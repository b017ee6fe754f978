use Rattle.std.proofs.Common.{◌≡◌, drop}
use Rattle.field.specs.Kinds.{block_ring}
use Rattle.division.specs.Divisions.{polynomial_of}
use Rattle.division.specs.Places.{sum_at_places}
use Rattle.division.proofs.ring.Ring.add_at.Given as goal

-- adding at the places to come makes the whole sum, and the ring begins where it did
abbrev pub invariant-loop-place : goal.invariant-loop-place
invariant-loop-place l =
    (sum_at_places block_ring l.block (drop l.place-index l.places) (polynomial_of l.self)
    ≡ sum_at_places block_ring l.block l.places (polynomial_of l.initial.self))
    × (l.self.base ≡ l.base)
