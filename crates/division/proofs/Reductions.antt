-- A step of the division, coefficient by coefficient, is division with remainder.
use Rattle.std.proofs.Common.{◌≡◌, ℕ, zero, suc, ◌<◌, Bool, true, false, cond, List, [], ◌∷◌, ◌++◌, map, length, get_or, set, sym, refl, ap, ◌∙◌, ap₂, add-one, arith}
use Rattle.std.specs.List.{range_with_len}
use Rattle.field.specs.Ring.{CommutativeRing}
use Rattle.field.specs.declared.element.Element.{Ghosts}
use Rattle.field.proofs.Horner.{product_zero}
use Rattle.polynomial.specs.Polynomials.{element, coefficient_list}
use Rattle.division.specs.Remainders.{sum_of, scalar_multiple, times_t, product_of, IsRemainder}

-- The remainder from the coefficient of t^j on. The coefficients of a polynomial move one place up, so that this one is `below`, and
-- `top`, which moved to the divisor's highest place, is added where the divisor has a one.
abbrev pub remainder_from : {K : Type 0} → Ghosts K → K → (ℕ → Bool) → ℕ → K → List K → List K
remainder_from m top bits j below [] = []
remainder_from m top bits j below (c ∷ cs) =
    m.sum below (cond (bits j) top m.zero) ∷ remainder_from m top bits (suc j) c cs

-- the last of an element and those after it
abbrev pub last_of : {K : Type 0} → K → List K → K
last_of c [] = c
last_of c (d ∷ ds) = last_of d ds

module _ {K : Type 0} (m : Ghosts K) (laws : CommutativeRing m.zero m.one m.sum m.product) (even : (x : K) → m.sum x x ≡ m.zero)
    (top : K) (bits : ℕ → Bool) where
  product-element : (b : Bool) → m.product top (element m b) ≡ cond b top m.zero
  product-element true = laws.product_one top
  product-element false = product_zero m laws top

  -- what is added twice is not there
  sum-twice : (x y : K) → m.sum x (m.sum y x) ≡ y
  sum-twice x y =
      ap (m.sum x) (laws.sum_comm y x) ∙ sym (laws.sum_assoc x x y) ∙ ap (λ z. m.sum z y) (even x)
      ∙ laws.sum_comm m.zero y ∙ laws.sum_zero y

  -- n coefficients of the divisor, from that of t^j on
  abbrev coefficients : ℕ → ℕ → List K
  coefficients j n = map (λ k. element m (bits k)) (range_with_len j n)

  -- the same and the highest, one
  abbrev divisor : ℕ → ℕ → List K
  divisor j n = coefficients j n ++ (m.one ∷ [])

  -- `top` times the divisor and the remainder come to the dividend: at each place `top` is in both sums or in none.
  parts_sum : (j : ℕ) (below : K) (cs : List K) → last_of below cs ≡ top
      → below ∷ cs ≡ sum_of m (scalar_multiple m top (divisor j (length cs))) (remainder_from m top bits j below cs)
  parts_sum j below [] last = ap (λ x. x ∷ []) (last ∙ sym (laws.product_one top))
  parts_sum j below (c ∷ cs) last =
      let added : K = cond (bits j) top m.zero in
      let rest : List K = remainder_from m top bits (suc j) c cs in
      ap₂ (λ x xs. x ∷ xs)
      (sym (ap (λ x. m.sum x (m.sum below added)) (product-element (bits j)) ∙ sum-twice added below))
      (parts_sum (suc j) c cs last
      ∙ ap (λ n. sum_of m (scalar_multiple m top (divisor n (length cs))) rest) (sym (add-one j)))

  sum_of-none : (cs : List K) → sum_of m cs [] ≡ cs
  sum_of-none [] = refl
  sum_of-none (c ∷ cs) = refl

  -- the quotient is a constant
  product_of-constant : (cs : List K) (d : K)
      → product_of m (top ∷ []) (cs ++ (d ∷ [])) ≡ scalar_multiple m top (cs ++ (d ∷ []))
  product_of-constant [] d = ap (λ x. x ∷ []) (laws.sum_zero (m.product top d))
  product_of-constant (c ∷ cs) d =
      ap₂ (λ x xs. x ∷ xs) (laws.sum_zero (m.product top c)) (sum_of-none (scalar_multiple m top (cs ++ (d ∷ []))))

  length-remainder_from : (j : ℕ) (below : K) (cs : List K) → length (remainder_from m top bits j below cs) ≡ length cs
  length-remainder_from j below [] = refl
  length-remainder_from j below (c ∷ cs) = ap suc (length-remainder_from (suc j) c cs)

  pub IsRemainder-remainder_from : (cs : List K) (n : ℕ) → length cs ≡ n → last_of m.zero cs ≡ top
      → IsRemainder m (times_t m cs) (coefficient_list m n bits ++ (m.one ∷ [])) (remainder_from m top bits 0 m.zero cs) n
  unfolding coefficient_list
  IsRemainder-remainder_from cs n long last =
      let rest : List K = remainder_from m top bits 0 m.zero cs in
      record {
        quotient = top ∷ [];
        whole =
            parts_sum 0 m.zero cs last
            ∙ ap (λ k. sum_of m (scalar_multiple m top (divisor 0 k)) rest) long
            ∙ ap (λ ds. sum_of m ds rest) (sym (product_of-constant (coefficients 0 n) m.one));
        short = length-remainder_from 0 m.zero cs ∙ long;
      }

-- the last element by its place
pub last_of-get_or : {K : Type 0} (c d : K) (cs : List K) (n : ℕ) → length cs ≡ suc n → last_of c cs ≡ get_or cs n d
last_of-get_or c d [] n e = absurd (omega arith)
last_of-get_or c d (x ∷ []) zero e = refl
last_of-get_or c d (x ∷ []) (suc n) e = absurd (omega arith)
last_of-get_or c d (x ∷ (y ∷ cs)) zero e = absurd (omega arith)
last_of-get_or c d (x ∷ (y ∷ cs)) (suc n) e = last_of-get_or x d (y ∷ cs) n (omega arith)

-- a constant added to a polynomial changes its lowest coefficient
pub set-add_constant : {K : Type 0} (m : Ghosts K) (cs : List K) (p x v : K) → zero < length cs → x ≡ get_or cs 0 x → v ≡ m.sum x p
    → set cs 0 v ≡ sum_of m cs (p ∷ [])
set-add_constant m [] p x v some read made = absurd (omega arith)
set-add_constant m (c ∷ []) p x v some read made = ap (λ y. y ∷ []) (made ∙ ap (λ y. m.sum y p) read)
set-add_constant m (c ∷ (d ∷ cs)) p x v some read made = ap (λ y. y ∷ (d ∷ cs)) (made ∙ ap (λ y. m.sum y p) read)
