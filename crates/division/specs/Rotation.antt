-- A ring that begins at some place of a list and goes on from the list's end to its front.
use Rattle.std.specs.Prelude.{ℕ, List, ◌++◌, take, drop}

-- the elements in the ring's order
unfoldable pub rotation : {K : Type 0} → ℕ → List K → List K
rotation base state = drop base state ++ take base state
