-- What the steps of the trial and of the maker leave in the scratch and answer; only private functions cite these.
use Rattle.std.specs.Prelude.{◌≡◌, ℕ, zero, suc, ◌^◌, Bool, List, [], ◌∷◌, map, length, Option, Some, None}
use Rattle.std.specs.List.{range_with_len}
use Rattle.field.specs.Evaluation.{power}
use Rattle.field.specs.declared.element.Element.{Ghosts}
use Rattle.polynomial.specs.Polynomials.{coefficient_list, lower_value, SomeNeither}

module _ {K : Type 0} (m : Ghosts K) where
  -- the powers of r from the zeroth on, n of them
  abbrev pub power_list : K → ℕ → List K
  power_list r n = map (power m r) (range_with_len 0 n)

  -- where a row holds the powers of some r, this is the value at r of a proposal with as many bits, but for its highest term
  abbrev pub SumsPowers : (ℕ → Bool) → List K → K → Type 0
  SumsPowers bits powers sum =
      (r : K) → powers ≡ power_list r (length powers) → sum ≡ lower_value m (length powers) bits r

  -- t + z times cs and a highest coefficient `top`, without the highest of the product, which is `top` again
  abbrev pub lower_linear_from : K → K → List K → K → List K
  lower_linear_from z before [] top = m.sum before (m.product z top) ∷ []
  lower_linear_from z before (c ∷ cs) top = m.sum before (m.product z c) ∷ lower_linear_from z c cs top

  -- t + z times a polynomial whose highest coefficient is one; neither that one nor the product's own is listed
  abbrev pub lower_times_linear : K → List K → List K
  lower_times_linear z cs = lower_linear_from z m.zero cs m.one

  -- the product of t + r^(2^i) for i below n, without its highest coefficient, which is one
  abbrev pub lower_conjugates : K → ℕ → List K
  lower_conjugates r zero = []
  lower_conjugates r (suc n) = lower_times_linear (power m r (2 ^ n)) (lower_conjugates r n)

  -- the proposal whose n bits are these coefficients, or none where some coefficient is neither zero nor one
  abbrev pub Reads : (K → ℕ → Bool) → ℕ → List K → Option K → Type 0
  Reads bits n cs None = SomeNeither m cs
  Reads bits n cs (Some proposal) = coefficient_list m n (bits proposal) ≡ cs
