-- Digits in a base, the highest first: bytes at base 256, bits at base 2.
use Rattle.std.specs.Prelude.{ℕ, zero, suc, ◌+◌, ◌*◌, ◌/◌, ◌%◌, ◌^◌, List, [], ◌∷◌, length}

-- the number that digits write
unfoldable pub numeral : ℕ → List ℕ → ℕ
numeral base [] = 0
numeral base (d ∷ ds) = d * base ^ length ds + numeral base ds

-- the n lowest digits of a number
unfoldable pub digits : ℕ → ℕ → ℕ → List ℕ
digits base zero v = []
digits base (suc n) v = v / base ^ n % base ∷ digits base n v
