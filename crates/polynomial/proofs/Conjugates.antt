-- The product of the factors, coefficient by coefficient below its highest, which is one.
use Rattle.std.proofs.Common.{◌≡◌, ℕ, zero, suc, ◌+◌, ◌^◌, List, [], ◌∷◌, ◌++◌, length, sym, refl, ap, ◌∙◌, pow-suc, arith}
use Rattle.field.specs.Ring.{CommutativeRing}
use Rattle.field.specs.Evaluation.{power}
use Rattle.field.specs.declared.element.Element.{Ghosts}
use Rattle.polynomial.specs.Polynomials.{linear_from, times_linear, conjugates}
use Rattle.polynomial.specs.Steps.{lower_linear_from, lower_conjugates}
use Rattle.polynomial.proofs.Values.{power_add}

module _ {K : Type 0} (m : Ghosts K) where
  length_lower_linear : (z before : K) (cs : List K) (top : K) → length (lower_linear_from m z before cs top) ≡ suc (length cs)
  length_lower_linear z before [] top = refl
  length_lower_linear z before (c ∷ cs) top = ap suc (length_lower_linear z c cs top)

  pub length_lower : (r : K) (n : ℕ) → length (lower_conjugates m r n) ≡ n
  length_lower r zero = refl
  length_lower r (suc n) =
      length_lower_linear (power m r (2 ^ n)) m.zero (lower_conjugates m r n) m.one ∙ ap suc (length_lower r n)

  -- the highest coefficient stays
  linear_lower : (z before : K) (cs : List K) (top : K)
      → linear_from m z before (cs ++ top ∷ []) ≡ lower_linear_from m z before cs top ++ top ∷ []
  linear_lower z before [] top = refl
  linear_lower z before (c ∷ cs) top = ap (λ (xs : List K). m.sum before (m.product z c) ∷ xs) (linear_lower z c cs top)

  pub conjugates_lower : (r : K) (n : ℕ) → conjugates m r n ≡ lower_conjugates m r n ++ m.one ∷ []
  conjugates_lower r zero = refl
  conjugates_lower r (suc n) =
      let root : K = power m r (2 ^ n) in
      ap (times_linear m root) (conjugates_lower r n) ∙ linear_lower root m.zero (lower_conjugates m r n) m.one

module _ {K : Type 0} (m : Ghosts K) (laws : CommutativeRing m.zero m.one m.sum m.product) where
  -- the next square
  pub power_square : (r : K) (n : ℕ) → m.product (power m r (2 ^ n)) (power m r (2 ^ n)) ≡ power m r (2 ^ suc n)
  power_square r n =
      let twice : 2 ^ n + 2 ^ n ≡ 2 ^ suc n = rw pow-suc (omega arith) in
      sym (power_add m laws r (2 ^ n) (2 ^ n)) ∙ ap (power m r) twice
