-- A block taken into a ring leaves the remainder there: the block is added to the lowest coefficient, the beginning moves one place
-- back, and the highest coefficient, which stands there, is taken out and added at the places of the divisor's ones.
use Rattle.std.proofs.Common.{◌≡◌, ℕ, suc, ◌<◌, Bool, List, [], ◌∷◌, ◌++◌, length, get_or, take, set, sym, ap, ◌∙◌, subst, ap₂, inl, arith, length-set}
use Rattle.field.specs.Ring.{CommutativeRing}
use Rattle.field.specs.declared.element.Element.{Ghosts}
use Rattle.polynomial.specs.Polynomials.{coefficient_list}
use Rattle.division.specs.Places.{one_places, sum_at_places}
use Rattle.division.specs.Remainders.{sum_of, times_t, IsRemainder}
use Rattle.division.specs.Rotation.{rotation}
use Rattle.division.proofs.Additions.{sum_at_places-one_places}
use Rattle.division.proofs.Reductions.{remainder_from, IsRemainder-remainder_from, last_of, last_of-get_or, set-add_constant}
use Rattle.division.proofs.Rotations.{Stands, length-rotation, rotation-set, get_or-rotation, rotation-one_back}

-- A ring of n + 1 places that begins at `base`; the place before that is `back`, where the coefficient of t^n stands.
module _ {K : Type 0} (m : Ghosts K) (laws : CommutativeRing m.zero m.one m.sum m.product) (even : (x : K) → m.sum x x ≡ m.zero)
    (n base back : ℕ) (bits : ℕ → Bool) (state : List K) (inside : base < suc n) (inside' : back < suc n)
    (long : length state ≡ suc n) (stands : Stands (suc n) base n back) where
  first : (at : ℕ) → at < suc n → Stands (suc n) at 0 at
  first at lt = inl (omega arith, omega arith)

  -- `low` is the lowest coefficient, `new` is it with the block p added, and `top` is what stands one place back then.
  pub IsRemainder-step : (p low new top blank : K) (after : List K)
      → low ≡ get_or state base low
      → new ≡ m.sum low p
      → top ≡ get_or (set state base new) back top
      → blank ≡ m.zero
      → after ≡ sum_at_places m top (one_places (suc n) bits) (rotation back (set (set state base new) back blank))
      → IsRemainder m (times_t m (sum_of m (rotation base state) (p ∷ [])))
      (coefficient_list m (suc n) bits ++ (m.one ∷ [])) after (suc n)
  IsRemainder-step p low new top blank after read made read-top cleared added =
      let state' : List K = set state base new in
      let long' : length state' ≡ suc n = length-set state base new ∙ long in
      let w : List K = rotation base state in
      let w' : List K = rotation base state' in
      let w-long : length w ≡ suc n = length-rotation (suc n) base inside state long in
      let w'-long : length w' ≡ suc n = length-rotation (suc n) base inside state' long' in
      let lowest : low ≡ get_or w 0 low =
      read ∙ sym (get_or-rotation (suc n) base inside state long 0 base low (omega arith) (first base inside)) in
      let with-block : w' ≡ sum_of m w (p ∷ []) =
      rotation-set (suc n) base inside state long 0 base new (omega arith) (first base inside)
      ∙ set-add_constant m w p low new (omega arith) lowest made in
      let highest : last_of m.zero w' ≡ top =
      last_of-get_or m.zero top w' n w'-long
      ∙ get_or-rotation (suc n) base inside state' long' n back top (omega arith) stands
      ∙ sym read-top in
      let moved : rotation back (set state' back blank) ≡ m.zero ∷ take n w' =
      rotation-set (suc n) back inside' state' long' 0 back blank (omega arith) (first back inside')
      ∙ ap₂ (λ cs c. set cs 0 c) (rotation-one_back n base back state' top inside long' stands) cleared in
      let left : after ≡ remainder_from m top bits 0 m.zero w' =
      added
      ∙ ap (sum_at_places m top (one_places (suc n) bits)) moved
      ∙ sum_at_places-one_places m laws top bits (suc n) w' w'-long in
      let divisor : List K = coefficient_list m (suc n) bits ++ (m.one ∷ []) in
      subst (λ (cs : List K). IsRemainder m (times_t m cs) divisor after (suc n)) with-block
      (subst (λ (cs : List K). IsRemainder m (times_t m w') divisor cs (suc n)) (sym left)
      (IsRemainder-remainder_from m laws even top bits w' (suc n) w'-long highest))
