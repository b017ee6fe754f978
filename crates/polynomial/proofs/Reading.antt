-- Coefficients that are zero or one, read as bits.
use Rattle.std.proofs.Common.{◌≡◌, ℕ, ◌+◌, ◌<◌, ◌≤◌, Bool, true, false, not, ◌≢◌, List, get_or, sym, refl, ap, ◌∙◌, arith, below_more}
use Rattle.std.proofs.lemmas.Bool.{cond-true, cond-false, eq-eqb, ne_eqb, lt-ltb}
use Rattle.field.specs.Ring.{CommutativeRing}
use Rattle.field.specs.declared.element.Element.{Ghosts}
use Rattle.polynomial.specs.Bits.{bits_after_flip}
use Rattle.polynomial.specs.Polynomials.{element}

pub flip_other : (width : ℕ) (bits : ℕ → Bool) (k j : ℕ) → j ≢ k → bits_after_flip width bits k j ≡ bits j
flip_other width bits k j apart = cond-false _ _ _ (ne_eqb j k apart)

pub flip_same : (width : ℕ) (bits : ℕ → Bool) (k : ℕ) → k < width → bits_after_flip width bits k k ≡ not (bits k)
flip_same width bits k below = cond-true _ _ _ (eq-eqb k k refl) ∙ cond-true _ _ _ (lt-ltb k width below)

module _ {K : Type 0} (m : Ghosts K) (laws : CommutativeRing m.zero m.one m.sum m.product)
    (even : (x : K) → m.sum x x ≡ m.zero) where
  -- plus one is zero exactly at one
  pub one_from_sum : (x : K) → m.sum x m.one ≡ m.zero → x ≡ m.one
  one_from_sum x e =
      sym (laws.sum_zero x)
      ∙ ap (m.sum x) (sym (even m.one))
      ∙ sym (laws.sum_assoc x m.one m.one)
      ∙ ap (λ y. m.sum y m.one) e
      ∙ laws.sum_comm m.zero m.one
      ∙ laws.sum_zero m.one

  pub sum_from_one : (x : K) → x ≡ m.one → m.sum x m.one ≡ m.zero
  sum_from_one x e = ap (λ y. m.sum y m.one) e ∙ even m.one

  -- the coefficients below k are read, and no bit from k on is set
  abbrev pub ReadTo : List K → ℕ → (ℕ → Bool) → Type 0
  ReadTo xs k bits =
      ((j : ℕ) → j < k → get_or xs j m.zero ≡ element m (bits j)) × ((j : ℕ) → k ≤ j → bits j ≡ false)

  pub read_zero : (xs : List K) (k : ℕ) (bits : ℕ → Bool) → ReadTo xs k bits → get_or xs k m.zero ≡ m.zero → ReadTo xs (k + 1) bits
  read_zero xs k bits so_far here =
      let from : k ≤ k = omega arith in (
        below_more (λ j. get_or xs j m.zero ≡ element m (bits j)) k so_far.0 (here ∙ ap (element m) (sym (so_far.1 k from))),
        λ j late. so_far.1 j (omega arith),
      )

  pub read_one : (xs : List K) (width k : ℕ) (bits after : ℕ → Bool) → k < width → ReadTo xs k bits → get_or xs k m.zero ≡ m.one
      → ((j : ℕ) → after j ≡ bits_after_flip width bits k j) → ReadTo xs (k + 1) after
  read_one xs width k bits after below so_far here flips =
      let from : k ≤ k = omega arith in
      let other : (j : ℕ) → j ≢ k → after j ≡ bits j = λ j apart. flips j ∙ flip_other width bits k j apart in
      let set : after k ≡ true = flips k ∙ flip_same width bits k below ∙ ap not (so_far.1 k from) in (
        below_more (λ j. get_or xs j m.zero ≡ element m (after j)) k
            (λ j early. so_far.0 j early ∙ ap (element m) (sym (other j (omega arith))))
            (here ∙ ap (element m) (sym set)),
        λ j late. other j (omega arith) ∙ so_far.1 j (omega arith),
      )
