-- Division of polynomials in t over a ring. A polynomial is the list of its coefficients, that of t^0 first.
use Rattle.std.specs.Prelude.{◌≡◌, ℕ, List, [], ◌∷◌, map, length}
use Rattle.field.specs.declared.element.Element.{Ghosts}

module _ {K : Type 0} (m : Ghosts K) where
  -- the sum of two polynomials, coefficient by coefficient
  abbrev pub sum_of : List K → List K → List K
  sum_of [] ds = ds
  sum_of (c ∷ cs) [] = c ∷ cs
  sum_of (c ∷ cs) (d ∷ ds) = m.sum c d ∷ sum_of cs ds

  -- a constant times a polynomial
  abbrev pub scalar_multiple : K → List K → List K
  scalar_multiple c ds = map (m.product c) ds

  -- t times a polynomial: each coefficient one place higher
  abbrev pub times_t : List K → List K
  times_t cs = m.zero ∷ cs

  -- the product of two polynomials: (c + t·C)·D is c·D + t·(C·D)
  abbrev pub product_of : List K → List K → List K
  product_of [] ds = []
  product_of (c ∷ cs) ds = sum_of (scalar_multiple c ds) (times_t (product_of cs ds))

  -- Dividing leaves a remainder: the dividend is some quotient times the divisor, and the remainder added to it. The remainder
  -- has a coefficient for each power of t below the divisor's degree.
  pub record IsRemainder (dividend divisor remainder : List K) (degree : ℕ) : Type 0 where
    pub quotient : List K
    pub whole : dividend ≡ sum_of (product_of quotient divisor) remainder
    pub short : length remainder ≡ degree

  -- whatever this division leaves is this remainder
  abbrev pub IsOnlyRemainder : List K → List K → List K → ℕ → Type 0
  IsOnlyRemainder dividend divisor remainder degree =
      (other : List K) → IsRemainder dividend divisor other degree → other ≡ remainder
