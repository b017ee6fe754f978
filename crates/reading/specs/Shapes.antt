-- A block's shape, as the block after it sees it.
use Rattle.std.specs.Prelude.{Some, None, Option}
use Rattle.format.specs.Faults.{Predecessor, no_predecessor}
use Rattle.format.specs.Kinds.{kind_number}
use Rattle.reading.specs.declared.shape.Shape.{Shape}

abbrev pub shape_as_predecessor : Shape → Predecessor
shape_as_predecessor s = record { kind = kind_number s.kind; used = s.used }

-- before the first block stands none
abbrev pub predecessor_of : Option Shape → Predecessor
predecessor_of None = no_predecessor
predecessor_of (Some s) = shape_as_predecessor s
