-- A division by a polynomial whose highest coefficient is one leaves one remainder.
use Rattle.std.proofs.Common.{◌≡◌, ℕ, suc, ◌≤◌, List, [], ◌∷◌, ◌++◌, length, get_or, drop, sym, refl, ap, ◌∙◌, ap₂, arith}
use Rattle.field.specs.Ring.{CommutativeRing}
use Rattle.field.specs.declared.element.Element.{Ghosts}
use Rattle.division.specs.Remainders.{sum_of, scalar_multiple, product_of, IsRemainder, IsOnlyRemainder}

module _ {K : Type 0} (m : Ghosts K) (laws : CommutativeRing m.zero m.one m.sum m.product) where
  back : (x y : K) → m.sum (m.sum x y) (laws.negative x) ≡ y
  back x y =
      ap (λ u. m.sum u (laws.negative x)) (laws.sum_comm x y) ∙ laws.sum_assoc y x (laws.negative x)
      ∙ ap (m.sum y) (laws.sum_negative x) ∙ laws.sum_zero y

  cancel : (x y z : K) → m.sum x y ≡ m.sum x z → y ≡ z
  cancel x y z same = sym (back x y) ∙ ap (λ u. m.sum u (laws.negative x)) same ∙ back x z

  sum_comm : (xs ys : List K) → sum_of m xs ys ≡ sum_of m ys xs
  sum_comm [] [] = refl
  sum_comm [] (y ∷ ys) = refl
  sum_comm (x ∷ xs) [] = refl
  sum_comm (x ∷ xs) (y ∷ ys) = ap₂ (λ z zs. z ∷ zs) (laws.sum_comm x y) (sum_comm xs ys)

  sum_swap : (xs ys zs : List K) → sum_of m (sum_of m xs ys) zs ≡ sum_of m ys (sum_of m xs zs)
  sum_swap [] ys zs = refl
  sum_swap (x ∷ xs) [] zs = refl
  sum_swap (x ∷ xs) (y ∷ ys) [] = sum_comm (x ∷ xs) (y ∷ ys)
  sum_swap (x ∷ xs) (y ∷ ys) (z ∷ zs) =
      ap₂ (λ u us. u ∷ us) (ap (λ u. m.sum u z) (laws.sum_comm x y) ∙ laws.sum_assoc y x z) (sum_swap xs ys zs)

  -- ---- lengths

  left_length : (xs ys : List K) → length xs ≤ length (sum_of m xs ys)
  left_length [] ys = omega arith
  left_length (x ∷ xs) [] = omega arith
  left_length (x ∷ xs) (y ∷ ys) = omega (arith, left_length xs ys)

  -- c times the divisor: its highest coefficient is c·1
  abbrev multiple : K → List K → List K
  multiple c ds = scalar_multiple m c (ds ++ (m.one ∷ []))

  length_multiple : (c : K) (ds : List K) → length (multiple c ds) ≡ suc (length ds)
  length_multiple c [] = refl
  length_multiple c (d ∷ ds) = ap suc (length_multiple c ds)

  length_sum : (c : K) (ds r : List K) → length r ≡ length ds → length (sum_of m (multiple c ds) r) ≡ suc (length ds)
  length_sum c [] [] short = refl
  length_sum c [] (x ∷ r) short = absurd (omega arith)
  length_sum c (d ∷ ds) [] short = absurd (omega arith)
  length_sum c (d ∷ ds) (x ∷ r) short = ap suc (length_sum c ds r (omega arith))

  -- a quotient that is not empty makes a polynomial of the divisor's degree at least
  long_whole : (c : K) (cs ds r : List K) → suc (length ds) ≤ length (sum_of m (product_of m (c ∷ cs) (ds ++ (m.one ∷ []))) r)
  long_whole c cs ds r =
      omega (
        arith,
        length_multiple c ds,
        left_length (multiple c ds) (m.zero ∷ product_of m cs (ds ++ (m.one ∷ []))),
        left_length (product_of m (c ∷ cs) (ds ++ (m.one ∷ []))) r,
      )

  -- ---- one multiple of the divisor and what is left below it

  same_top : (c b : K) (ds r s : List K) → length r ≡ length ds → length s ≡ length ds
      → sum_of m (multiple c ds) r ≡ sum_of m (multiple b ds) s → m.product c m.one ≡ m.product b m.one
  same_top c b [] [] [] short short' same = ap (λ xs. get_or xs 0 m.zero) same
  same_top c b [] [] (y ∷ s) short short' same = absurd (omega arith)
  same_top c b [] (x ∷ r) s short short' same = absurd (omega arith)
  same_top c b (d ∷ ds) [] s short short' same = absurd (omega arith)
  same_top c b (d ∷ ds) (x ∷ r) [] short short' same = absurd (omega arith)
  same_top c b (d ∷ ds) (x ∷ r) (y ∷ s) short short' same = same_top c b ds r s (omega arith) (omega arith) (ap (drop 1) same)

  same_rest : (c : K) (ds r s : List K) → length r ≡ length ds → length s ≡ length ds
      → sum_of m (multiple c ds) r ≡ sum_of m (multiple c ds) s → r ≡ s
  same_rest c [] [] [] short short' same = refl
  same_rest c [] [] (y ∷ s) short short' same = absurd (omega arith)
  same_rest c [] (x ∷ r) s short short' same = absurd (omega arith)
  same_rest c (d ∷ ds) [] s short short' same = absurd (omega arith)
  same_rest c (d ∷ ds) (x ∷ r) [] short short' same = absurd (omega arith)
  same_rest c (d ∷ ds) (x ∷ r) (y ∷ s) short short' same =
      ap₂ (λ z zs. z ∷ zs)
      (cancel (m.product c d) x y (ap (λ xs. get_or xs 0 m.zero) same))
      (same_rest c ds r s (omega arith) (omega arith) (ap (drop 1) same))

  -- ---- any quotient

  -- The lowest coefficient of a quotient leaves, above the lowest of the whole, a division by the others.
  same_remainder : (ds q o r s : List K) → length r ≡ length ds → length s ≡ length ds
      → sum_of m (product_of m q (ds ++ (m.one ∷ []))) r ≡ sum_of m (product_of m o (ds ++ (m.one ∷ []))) s → r ≡ s
  same_remainder ds [] [] r s short short' same = same
  same_remainder ds [] (b ∷ bs) r s short short' same = absurd (omega (arith, ap length same, long_whole b bs ds s))
  same_remainder ds (c ∷ cs) [] r s short short' same = absurd (omega (arith, ap length same, long_whole c cs ds r))
  same_remainder [] (c ∷ cs) (b ∷ bs) [] [] short short' same = refl
  same_remainder [] (c ∷ cs) (b ∷ bs) [] (y ∷ s) short short' same = absurd (omega arith)
  same_remainder [] (c ∷ cs) (b ∷ bs) (x ∷ r) s short short' same = absurd (omega arith)
  same_remainder (d ∷ ds) (c ∷ cs) (b ∷ bs) [] s short short' same = absurd (omega arith)
  same_remainder (d ∷ ds) (c ∷ cs) (b ∷ bs) (x ∷ r) [] short short' same = absurd (omega arith)
  same_remainder (d ∷ ds) (c ∷ cs) (b ∷ bs) (x ∷ r) (y ∷ s) short short' same =
      let divisor : List K = d ∷ (ds ++ (m.one ∷ [])) in
      let above : sum_of m (product_of m cs divisor) (sum_of m (multiple c ds) r) ≡ sum_of m (product_of m bs divisor) (sum_of m (multiple b ds) s) =
      sym (sum_swap (multiple c ds) (product_of m cs divisor) r) ∙ ap (drop 1) same ∙ sum_swap (multiple b ds) (product_of m bs divisor) s in
      let left : sum_of m (multiple c ds) r ≡ sum_of m (multiple b ds) s =
      same_remainder (d ∷ ds) cs bs (sum_of m (multiple c ds) r) (sum_of m (multiple b ds) s)
      (length_sum c ds r (omega arith)) (length_sum b ds s (omega arith)) above in
      let top : b ≡ c =
      sym (laws.product_one b) ∙ sym (same_top c b ds r s (omega arith) (omega arith) left) ∙ laws.product_one c in
      let lowest : m.sum (m.sum (m.product c d) m.zero) x ≡ m.sum (m.sum (m.product c d) m.zero) y =
      ap (λ xs. get_or xs 0 m.zero) same ∙ ap (λ u. m.sum (m.sum (m.product u d) m.zero) y) top in
      ap₂ (λ z zs. z ∷ zs)
      (cancel (m.sum (m.product c d) m.zero) x y lowest)
      (same_rest c ds r s (omega arith) (omega arith) (left ∙ ap (λ u. sum_of m (multiple u ds) s) top))

  pub only_remainder : (dividend ds r : List K) (n : ℕ) → length ds ≡ n → IsRemainder m dividend (ds ++ (m.one ∷ [])) r n
      → IsOnlyRemainder m dividend (ds ++ (m.one ∷ [])) r n
  only_remainder dividend ds r n long a s b =
      same_remainder ds b.quotient a.quotient s r (b.short ∙ sym long) (a.short ∙ sym long) (sym b.whole ∙ a.whole)
