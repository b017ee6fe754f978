-- The places of a divisor's ones, and a polynomial with a constant added at places.
use Rattle.std.specs.Prelude.{ℕ, Bool, List, [], ◌∷◌, filter, slice_index_or, slice_set}
use Rattle.std.specs.List.{range_with_len}
use Rattle.field.specs.declared.element.Element.{Ghosts}

-- each place below n whose coefficient is one, the lowest first
unfoldable pub one_places : ℕ → (ℕ → Bool) → List ℕ
one_places n bits = filter bits (range_with_len 0 n)

-- the coefficients with x added at each of these places in turn
abbrev pub sum_at_places : {K : Type 0} → Ghosts K → K → List ℕ → List K → List K
sum_at_places m x [] cs = cs
sum_at_places m x (place ∷ places) cs =
    sum_at_places m x places (slice_set cs place (m.sum (slice_index_or cs place m.zero) x))
