-- Polynomials in t, as lists of coefficients, that of t^0 first.
use Rattle.std.specs.Prelude.{◌≡◌, ℕ, zero, suc, ◌^◌, ◌<◌, Bool, if◌then◌else◌, List, [], ◌∷◌, ◌++◌, map, length, drop, replicate, ◌≢◌, slice_index_or}
use Rattle.std.specs.List.{range_with_len}
use Rattle.field.specs.Evaluation.{power}
use Rattle.field.specs.declared.element.Element.{Ghosts}

module _ {K : Type 0} (m : Ghosts K) where
  -- c_0·r^j + c_1·r^(j+1) + ..
  abbrev pub value_from : K → ℕ → List K → K
  value_from r j [] = m.zero
  value_from r j (c ∷ cs) = m.sum (m.product c (power m r j)) (value_from r (suc j) cs)

  -- the value at r
  abbrev pub value_at : K → List K → K
  value_at r cs = value_from r 0 cs

  -- a bit as a coefficient
  abbrev pub element : Bool → K
  element bit = if bit then m.one else m.zero

  -- the first n coefficients of a proposal
  unfoldable pub coefficient_list : ℕ → (ℕ → Bool) → List K
  coefficient_list n bits = map (λ k. element (bits k)) (range_with_len 0 n)

  -- the value at r of a proposal of n bits, but for its highest term
  abbrev pub lower_value : ℕ → (ℕ → Bool) → K → K
  lower_value n bits r = value_at r (coefficient_list n bits)

  -- A proposal of n bits stands for t^n + the sum of all c_j·t^j. This is its value at r.
  abbrev pub proposal_value : ℕ → (ℕ → Bool) → K → K
  proposal_value n bits r = m.sum (power m r n) (lower_value n bits r)

  -- a proposal annihilates r where its value there is zero
  abbrev pub Annihilates : ℕ → (ℕ → Bool) → K → Type 0
  Annihilates n bits r = proposal_value n bits r ≡ m.zero

  -- t + z times a polynomial; `before` is the coefficient below the next one
  abbrev pub linear_from : K → K → List K → List K
  linear_from z before [] = before ∷ []
  linear_from z before (c ∷ cs) = m.sum before (m.product z c) ∷ linear_from z c cs

  abbrev pub times_linear : K → List K → List K
  times_linear z cs = linear_from z m.zero cs

  -- the product of t + r^(2^i) for i below n
  abbrev pub conjugates : K → ℕ → List K
  conjugates r zero = m.one ∷ []
  conjugates r (suc n) = times_linear (power m r (2 ^ n)) (conjugates r n)

  -- the product of the values of these factors at a point
  abbrev pub factors_at : K → K → ℕ → K
  factors_at point r zero = m.one
  factors_at point r (suc n) = m.product (m.sum point (power m r (2 ^ n))) (factors_at point r n)

  -- at every point, the value of the product of the factors is the product of their values there
  abbrev pub IsProductOfFactors : K → Type 0
  IsProductOfFactors r = (point : K) (n : ℕ) → value_at point (conjugates r n) ≡ factors_at point r n

  -- some coefficient is neither zero nor one
  abbrev pub SomeNeither : List K → Type 0
  SomeNeither cs =
      (k : ℕ) × (k < length cs)
      × (slice_index_or cs k m.zero ≢ m.zero)
      × (slice_index_or cs k m.zero ≢ m.one)

  -- a scratch whose first n elements are zero and whose others stay
  abbrev pub zeroed_scratch : ℕ → List K → List K
  zeroed_scratch n scratch = replicate n m.zero ++ drop n scratch
