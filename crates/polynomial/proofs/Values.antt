-- Values of polynomials at a point, from the laws of a commutative ring.
use Rattle.std.proofs.Common.{◌≡◌, ℕ, zero, suc, ◌+◌, ◌^◌, Bool, true, false, if◌then◌else◌, List, [], ◌∷◌, ◌++◌, map, filter, fold, length, sym, ap, ◌∙◌, ap₂, add-zero, add-suc, suc-add, zero-add}
use Rattle.std.specs.List.{range_with_len, enumerate_from}
use Rattle.std.proofs.lemmas.List.FromFn.{length-map-range_with_len}
use Rattle.field.specs.Ring.{CommutativeRing}
use Rattle.field.specs.Evaluation.{power}
use Rattle.field.specs.declared.element.Element.{Ghosts}
use Rattle.field.proofs.Horner.{zero_sum, sum_product, product_zero, zero_product}
use Rattle.polynomial.specs.Polynomials.{value_from, value_at, element, coefficient_list, linear_from, times_linear, conjugates, factors_at, lower_value, proposal_value}
use Rattle.polynomial.specs.Steps.{power_list}

module _ {K : Type 0} (m : Ghosts K) (laws : CommutativeRing m.zero m.one m.sum m.product) where
  pub one_product : (x : K) → m.product m.one x ≡ x
  one_product x = laws.product_comm m.one x ∙ laws.product_one x

  product_swap : (x y z : K) → m.product x (m.product y z) ≡ m.product y (m.product x z)
  product_swap x y z =
      sym (laws.product_assoc x y z) ∙ ap (λ p. m.product p z) (laws.product_comm x y) ∙ laws.product_assoc y x z

  pub power_add : (r : K) (i j : ℕ) → power m r (i + j) ≡ m.product (power m r i) (power m r j)
  power_add r zero j = ap (power m r) (zero-add j) ∙ sym (one_product (power m r j))
  power_add r (suc i) j =
      ap (power m r) (suc-add i j) ∙ ap (m.product r) (power_add r i j) ∙ sym (laws.product_assoc r (power m r i) (power m r j))

  -- one coefficient more at the end
  pub value_push : (r : K) (j : ℕ) (cs : List K) (c : K)
      → value_from m r j (cs ++ (c ∷ [])) ≡ m.sum (value_from m r j cs) (m.product c (power m r (j + length cs)))
  value_push r j [] c =
      laws.sum_zero (m.product c (power m r j))
      ∙ ap (λ n. m.product c (power m r n)) (sym (add-zero j))
      ∙ sym (zero_sum m laws (m.product c (power m r (j + zero))))
  value_push r j (d ∷ cs) c =
      ap (m.sum (m.product d (power m r j)))
      (value_push r (suc j) cs c
      ∙ ap (λ n. m.sum (value_from m r (suc j) cs) (m.product c (power m r n)))
      (suc-add j (length cs) ∙ sym (add-suc j (length cs))))
      ∙ sym (laws.sum_assoc (m.product d (power m r j)) (value_from m r (suc j) cs) (m.product c (power m r (j + suc (length cs)))))

  pub length-coefficient_list : (n : ℕ) (bits : ℕ → Bool) → length (coefficient_list m n bits) ≡ n
  unfolding coefficient_list
  length-coefficient_list n bits = length-map-range_with_len (λ k. element m (bits k)) 0 n

  -- the stored coefficients and a one after them are those of the whole polynomial
  pub value_at-proposal : (r : K) (n : ℕ) (bits : ℕ → Bool)
      → value_at m r (coefficient_list m n bits ++ (m.one ∷ [])) ≡ proposal_value m n bits r
  value_at-proposal r n bits =
      let cs : List K = coefficient_list m n bits in
      let long : 0 + length cs ≡ n = zero-add (length cs) ∙ length-coefficient_list n bits in
      value_push r 0 cs m.one
      ∙ ap (m.sum (value_at m r cs)) (one_product (power m r (0 + length cs)) ∙ ap (power m r) long)
      ∙ laws.sum_comm (value_at m r cs) (power m r n)

  -- t + z times a polynomial has r + z times its value
  linear_value : (r z : K) (j : ℕ) (b : K) (cs : List K)
      → value_from m r j (linear_from m z b cs) ≡ m.sum (m.product b (power m r j)) (m.product (m.sum r z) (value_from m r j cs))
  linear_value r z j b [] = ap (m.sum (m.product b (power m r j))) (sym (product_zero m laws (m.sum r z)))
  linear_value r z j b (c ∷ cs) =
      let p : K = power m r j in
      let x : K = m.product c p in
      let w : K = value_from m r (suc j) cs in
      let s : K = m.sum r z in
      let first : m.product (m.sum b (m.product z c)) p ≡ m.sum (m.product b p) (m.product z x) =
      sum_product m laws b (m.product z c) p ∙ ap (m.sum (m.product b p)) (laws.product_assoc z c p) in
      let rest : value_from m r (suc j) (linear_from m z c cs) ≡ m.sum (m.product r x) (m.product s w) =
      linear_value r z (suc j) c cs ∙ ap (λ y. m.sum y (m.product s w)) (product_swap c r p) in
      let together : m.sum (m.product z x) (m.sum (m.product r x) (m.product s w)) ≡ m.product s (m.sum x w) =
      sym (laws.sum_assoc (m.product z x) (m.product r x) (m.product s w))
      ∙ ap (λ y. m.sum y (m.product s w)) (laws.sum_comm (m.product z x) (m.product r x) ∙ sym (sum_product m laws r z x))
      ∙ sym (laws.product_sum s x w) in
      ap₂ m.sum first rest
      ∙ laws.sum_assoc (m.product b p) (m.product z x) (m.sum (m.product r x) (m.product s w))
      ∙ ap (m.sum (m.product b p)) together

  times_linear_value : (r z : K) (cs : List K) → value_at m r (times_linear m z cs) ≡ m.product (m.sum r z) (value_at m r cs)
  times_linear_value r z cs =
      linear_value r z 0 m.zero cs
      ∙ ap (λ y. m.sum y (m.product (m.sum r z) (value_at m r cs))) (zero_product m laws m.one)
      ∙ zero_sum m laws (m.product (m.sum r z) (value_at m r cs))

  -- the value of the product is the product of the values
  pub conjugates_value : (point r : K) (n : ℕ) → value_at m point (conjugates m r n) ≡ factors_at m point r n
  conjugates_value point r zero = laws.sum_zero (m.product m.one m.one) ∙ laws.product_one m.one
  conjugates_value point r (suc n) =
      times_linear_value point (power m r (2 ^ n)) (conjugates m r n)
      ∙ ap (m.product (m.sum point (power m r (2 ^ n)))) (conjugates_value point r n)

  -- the factor t + r is among them, where twice anything is zero
  pub factors_vanish : ((x : K) → m.sum x x ≡ m.zero) → (r : K) (n : ℕ) → factors_at m r r (suc n) ≡ m.zero
  factors_vanish even r zero =
      laws.product_one (m.sum r (power m r 1)) ∙ ap (m.sum r) (laws.product_one r) ∙ even r
  factors_vanish even r (suc n) =
      let factor : K = m.sum r (power m r (2 ^ suc n)) in
      ap (m.product factor) (factors_vanish even r n) ∙ product_zero m laws factor

  product-element : (b : Bool) (p : K) → m.product (element m b) p ≡ (if b then p else m.zero)
  product-element true p = one_product p
  product-element false p = zero_product m laws p

  -- one power more, taken only where its bit is one
  fold-bit : (b : Bool) (p s v : K) (k : ℕ) (rest : List (ℕ × K)) → ((t : K) → fold (λ t x. m.sum t x.1) t rest ≡ m.sum t v)
      → fold (λ t x. m.sum t x.1) s (if b then (k, p) ∷ rest else rest) ≡ m.sum s (m.sum (m.product (element m b) p) v)
  fold-bit true p s v k rest more =
      more (m.sum s p) ∙ laws.sum_assoc s p v ∙ ap (λ q. m.sum s (m.sum q v)) (sym (product-element true p))
  fold-bit false p s v k rest more =
      more s ∙ ap (m.sum s) (sym (zero_sum m laws v)) ∙ ap (λ q. m.sum s (m.sum q v)) (sym (product-element false p))

  fold-filter_bits : (bits : ℕ → Bool) (r : K) (n j : ℕ) (s : K)
      → fold (λ t x. m.sum t x.1) s (filter (λ x. bits x.0) (enumerate_from j (map (power m r) (range_with_len j n))))
      ≡ m.sum s (value_from m r j (map (λ k. element m (bits k)) (range_with_len j n)))
  fold-filter_bits bits r zero j s = sym (laws.sum_zero s)
  fold-filter_bits bits r (suc n) j s =
      let cs : List K = map (λ k. element m (bits k)) (range_with_len (j + 1) n) in
      fold-bit (bits j) (power m r j) s (value_from m r (suc j) cs) j
      (filter (λ x. bits x.0) (enumerate_from (j + 1) (map (power m r) (range_with_len (j + 1) n))))
      (λ t. fold-filter_bits bits r n (j + 1) t ∙ ap (λ i. m.sum t (value_from m r i cs)) (add-suc j 0 ∙ ap suc (add-zero j)))

  -- a proposal's value is the sum of the powers where it has a one
  pub coefficients_value : (bits : ℕ → Bool) (r : K) (n : ℕ)
      → fold (λ t x. m.sum t x.1) m.zero (filter (λ x. bits x.0) (enumerate_from 0 (power_list m r n))) ≡ lower_value m n bits r
  unfolding coefficient_list
  coefficients_value bits r n = fold-filter_bits bits r n 0 m.zero ∙ zero_sum m laws (value_at m r (coefficient_list m n bits))
