-- Horner's rule, from the laws of a commutative ring.
use Rattle.std.proofs.Common.{◌≡◌, suc, List, [], ◌∷◌, ◌++◌, fold, length, sym, refl, ap, ◌∙◌, ap₂, append_assoc, append-nil, add-one, length-append}
use Rattle.field.specs.Ring.{CommutativeRing}
use Rattle.field.specs.Evaluation.{power, eval, eval_from, horner}
use Rattle.field.specs.declared.element.Element.{Ghosts}

module _ {R : Type 0} (m : Ghosts R) (laws : CommutativeRing m.zero m.one m.sum m.product) where
  pub zero_sum : (x : R) → m.sum m.zero x ≡ x
  zero_sum x = laws.sum_comm m.zero x ∙ laws.sum_zero x

  pub sum_product : (x y z : R) → m.product (m.sum x y) z ≡ m.sum (m.product x z) (m.product y z)
  sum_product x y z =
      laws.product_comm (m.sum x y) z
      ∙ laws.product_sum z x y
      ∙ ap₂ m.sum (laws.product_comm z x) (laws.product_comm z y)

  -- one item more at the end
  pub eval_push : (r : R) (ps : List R) (q : R) → eval m r (ps ++ (q ∷ [])) ≡ m.product (m.sum (eval m r ps) q) r
  eval_push r [] q =
      sym
      (ap (λ x. m.product x r) (zero_sum q)
      ∙ ap (m.product q) (sym (laws.product_one r))
      ∙ sym (laws.sum_zero (m.product q (m.product r m.one))))
  eval_push r (p ∷ ps) q =
      let e : R = eval m r ps in
      let w : R = power m r (suc (length ps)) in
      let longer : length (ps ++ (q ∷ [])) ≡ suc (length ps) = length-append ps (q ∷ []) ∙ add-one (length ps) in
      sym
      (ap (λ x. m.product x r) (laws.sum_assoc (m.product p w) e q)
      ∙ sum_product (m.product p w) (m.sum e q) r
      ∙ ap₂ m.sum
      (laws.product_assoc p w r
      ∙ ap (m.product p) (laws.product_comm w r)
      ∙ ap (λ n. m.product p (m.product r (power m r n))) (sym longer))
      (sym (eval_push r ps q)))

  pub horner_append : (r v : R) (ps qs : List R) → horner m r v (ps ++ qs) ≡ horner m r (horner m r v ps) qs
  horner_append r v [] qs = refl
  horner_append r v (p ∷ ps) qs = horner_append r (m.product (m.sum v p) r) ps qs

  -- what went in before and what goes in now make one evaluation
  pub horner_eval : (r : R) (ps qs : List R) → horner m r (eval m r ps) qs ≡ eval m r (ps ++ qs)
  horner_eval r ps [] = ap (eval m r) (sym (append-nil ps))
  horner_eval r ps (q ∷ qs) =
      ap (λ v. horner m r v qs) (sym (eval_push r ps q))
      ∙ horner_eval r (ps ++ (q ∷ [])) qs
      ∙ ap (eval m r) (append_assoc ps (q ∷ []) qs)

  -- a fold takes the items in
  pub fold_horner : (r v : R) (ps : List R) → fold (λ w p. m.product (m.sum w p) r) v ps ≡ horner m r v ps
  fold_horner r v [] = refl
  fold_horner r v (p ∷ ps) = fold_horner r (m.product (m.sum v p) r) ps

  -- what items taken in one by one from a value on come to, by powers
  pub horner_from : (r v : R) (ps : List R) → horner m r v ps ≡ eval_from m r v ps
  horner_from r v [] = sym (laws.sum_zero (m.product v m.one) ∙ laws.product_one v)
  horner_from r v (p ∷ ps) =
      let w : R = power m r (length ps) in
      let moved : (x : R) → m.product (m.product x r) w ≡ m.product x (m.product r w) = λ x. laws.product_assoc x r w in
      horner_from r (m.product (m.sum v p) r) ps
      ∙ ap (λ x. m.sum x (eval m r ps)) (moved (m.sum v p) ∙ sum_product v p (m.product r w))
      ∙ laws.sum_assoc (m.product v (m.product r w)) (m.product p (m.product r w)) (eval m r ps)

  pub fold_from : (r v : R) (ps : List R) → fold (λ w p. m.product (m.sum w p) r) v ps ≡ eval_from m r v ps
  fold_from r v ps = fold_horner r v ps ∙ horner_from r v ps

  pub product_zero : (x : R) → m.product x m.zero ≡ m.zero
  product_zero x =
      let p : R = m.product x m.zero in
      let twice : m.sum p p ≡ p = sym (laws.product_sum x m.zero m.zero) ∙ ap (m.product x) (laws.sum_zero m.zero) in
      sym (laws.sum_zero p)
      ∙ ap (m.sum p) (sym (laws.sum_negative p))
      ∙ sym (laws.sum_assoc p p (laws.negative p))
      ∙ ap (λ y. m.sum y (laws.negative p)) twice
      ∙ laws.sum_negative p

  pub zero_product : (x : R) → m.product m.zero x ≡ m.zero
  zero_product x = laws.product_comm m.zero x ∙ product_zero x

  -- from zero on, a row comes to its evaluation
  pub eval_from_zero : (r : R) (ps : List R) → eval_from m r m.zero ps ≡ eval m r ps
  eval_from_zero r ps =
      ap (λ x. m.sum x (eval m r ps)) (zero_product (power m r (length ps))) ∙ zero_sum (eval m r ps)
