-- Values of the polynomials of a division: a remainder has the dividend's value at a point where the divisor is zero.
use Rattle.std.proofs.Common.{◌≡◌, ℕ, zero, suc, Bool, List, [], ◌∷◌, ◌++◌, replicate, reverse, fold, sym, refl, ap, ◌∙◌, ap₂}
use Rattle.std.proofs.lemmas.List.{reverse-append}
use Rattle.std.proofs.lemmas.List.Sums.{fold-append}
use Rattle.field.specs.Ring.{CommutativeRing}
use Rattle.field.specs.Evaluation.{power}
use Rattle.field.specs.declared.element.Element.{Ghosts}
use Rattle.field.proofs.Horner.{zero_sum, sum_product, product_zero, zero_product}
use Rattle.polynomial.specs.Polynomials.{value_from, value_at, coefficient_list, Annihilates}
use Rattle.polynomial.proofs.Values.{value_at-proposal}
use Rattle.division.specs.Remainders.{sum_of, scalar_multiple, times_t, product_of, IsRemainder}

module _ {K : Type 0} (m : Ghosts K) (laws : CommutativeRing m.zero m.one m.sum m.product) (r : K) where
  -- the two in the middle change places
  sum-sum : (a b c d : K) → m.sum (m.sum a b) (m.sum c d) ≡ m.sum (m.sum a c) (m.sum b d)
  sum-sum a b c d =
      laws.sum_assoc a b (m.sum c d)
      ∙ ap (m.sum a) (sym (laws.sum_assoc b c d) ∙ ap (λ x. m.sum x d) (laws.sum_comm b c) ∙ laws.sum_assoc c b d)
      ∙ sym (laws.sum_assoc a c (m.sum b d))

  -- ---- the parts of a dividend

  value_from-sum_of : (j : ℕ) (cs ds : List K) → value_from m r j (sum_of m cs ds) ≡ m.sum (value_from m r j cs) (value_from m r j ds)
  value_from-sum_of j [] ds = sym (zero_sum m laws (value_from m r j ds))
  value_from-sum_of j (c ∷ cs) [] = sym (laws.sum_zero (value_from m r j (c ∷ cs)))
  value_from-sum_of j (c ∷ cs) (d ∷ ds) =
      ap₂ m.sum (sum_product m laws c d (power m r j)) (value_from-sum_of (suc j) cs ds)
      ∙ sum-sum (m.product c (power m r j)) (m.product d (power m r j)) (value_from m r (suc j) cs) (value_from m r (suc j) ds)

  value_from-scalar_multiple : (j : ℕ) (c : K) (ds : List K) → value_from m r j (scalar_multiple m c ds) ≡ m.product c (value_from m r j ds)
  value_from-scalar_multiple j c [] = sym (product_zero m laws c)
  value_from-scalar_multiple j c (d ∷ ds) =
      ap₂ m.sum (laws.product_assoc c d (power m r j)) (value_from-scalar_multiple (suc j) c ds)
      ∙ sym (laws.product_sum c (m.product d (power m r j)) (value_from m r (suc j) ds))

  -- from one power higher on
  value_from-suc : (j : ℕ) (cs : List K) → value_from m r (suc j) cs ≡ m.product r (value_from m r j cs)
  value_from-suc j [] = sym (product_zero m laws r)
  value_from-suc j (c ∷ cs) =
      ap₂ m.sum
      (sym (laws.product_assoc c r (power m r j)) ∙ ap (λ x. m.product x (power m r j)) (laws.product_comm c r) ∙ laws.product_assoc r c (power m r j))
      (value_from-suc (suc j) cs)
      ∙ sym (laws.product_sum r (m.product c (power m r j)) (value_from m r (suc j) cs))

  pub value_at-times_t : (cs : List K) → value_at m r (times_t m cs) ≡ m.product r (value_at m r cs)
  value_at-times_t cs =
      ap₂ m.sum (zero_product m laws m.one) (value_from-suc zero cs) ∙ zero_sum m laws (m.product r (value_at m r cs))

  value_at-product_of : (cs ds : List K) → value_at m r (product_of m cs ds) ≡ m.product (value_at m r cs) (value_at m r ds)
  value_at-product_of [] ds = sym (zero_product m laws (value_at m r ds))
  value_at-product_of (c ∷ cs) ds =
      let v : K = value_at m r ds in
      let w : K = value_at m r cs in
      value_from-sum_of zero (scalar_multiple m c ds) (times_t m (product_of m cs ds))
      ∙ ap₂ m.sum (value_from-scalar_multiple zero c ds)
      (value_at-times_t (product_of m cs ds) ∙ ap (m.product r) (value_at-product_of cs ds) ∙ sym (laws.product_assoc r w v))
      ∙ sym (sum_product m laws c (m.product r w) v)
      ∙ ap (λ x. m.product x v) (ap₂ m.sum (sym (laws.product_one c)) (sym (value_from-suc zero cs)))

  -- a constant added
  pub value_at-add_constant : (cs : List K) (p : K) → value_at m r (sum_of m cs (p ∷ [])) ≡ m.sum (value_at m r cs) p
  value_at-add_constant cs p =
      value_from-sum_of zero cs (p ∷ []) ∙ ap (m.sum (value_at m r cs)) (laws.sum_zero (m.product p m.one) ∙ laws.product_one p)

  -- where the divisor is zero at r, dividend and remainder have one value
  pub value_at-remainder : (dividend divisor remainder : List K) (n : ℕ) → IsRemainder m dividend divisor remainder n
      → value_at m r divisor ≡ m.zero → value_at m r remainder ≡ value_at m r dividend
  value_at-remainder dividend divisor remainder n divided vanishes =
      sym
      (ap (value_at m r) divided.whole
      ∙ value_from-sum_of zero (product_of m divided.quotient divisor) remainder
      ∙ ap (λ x. m.sum x (value_at m r remainder))
      (value_at-product_of divided.quotient divisor ∙ ap (m.product (value_at m r divided.quotient)) vanishes
      ∙ product_zero m laws (value_at m r divided.quotient))
      ∙ zero_sum m laws (value_at m r remainder))

  -- ---- the value by Horner's rule

  -- the lowest coefficient apart
  pub value_at-cons : (c : K) (cs : List K) → value_at m r (c ∷ cs) ≡ m.sum c (m.product r (value_at m r cs))
  value_at-cons c cs = ap₂ m.sum (laws.product_one c) (value_from-suc zero cs)

  -- from the highest coefficient down
  pub fold-reverse : (cs : List K) → fold (λ s c. m.sum c (m.product r s)) m.zero (reverse cs) ≡ value_at m r cs
  fold-reverse [] = refl
  fold-reverse (c ∷ cs) =
      let step : K → K → K = λ s d. m.sum d (m.product r s) in
      ap (fold step m.zero) (reverse-append (c ∷ []) cs)
      ∙ fold-append step m.zero (reverse cs) (c ∷ [])
      ∙ ap (λ s. step s c) (fold-reverse cs)
      ∙ sym (value_at-cons c cs)

  -- ---- a constant, and a divisor

  value_from-replicate : (j n : ℕ) → value_from m r j (replicate n m.zero) ≡ m.zero
  value_from-replicate j zero = refl
  value_from-replicate j (suc n) =
      ap₂ m.sum (zero_product m laws (power m r j)) (value_from-replicate (suc j) n) ∙ laws.sum_zero m.zero

  -- a constant polynomial
  pub value_at-constant : (v : K) (n : ℕ) → value_at m r (v ∷ replicate n m.zero) ≡ v
  value_at-constant v n =
      ap₂ m.sum (laws.product_one v) (value_from-replicate 1 n) ∙ laws.sum_zero v

  -- a divisor is zero at r where its polynomial, whose highest term is not among its bits, annihilates r
  pub value_at-divisor : (n : ℕ) (bits : ℕ → Bool) → Annihilates m n bits r → value_at m r (coefficient_list m n bits ++ (m.one ∷ [])) ≡ m.zero
  value_at-divisor n bits zero-there = value_at-proposal m laws r n bits ∙ zero-there
