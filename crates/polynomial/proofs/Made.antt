-- What the maker answers annihilates the subkey; what it refuses is seen below the highest coefficient.
use Rattle.std.proofs.Common.{◌≡◌, ℕ, zero, suc, ◌<◌, ◌≤◌, Bool, List, [], ◌∷◌, ◌++◌, length, sym, refl, ap, ◌∙◌, subst, inr, Option, Some, None, IfOk, arith, length-append}
use Rattle.std.specs.Option.{ok_or}
use Rattle.std.proofs.lemmas.List.{get_or_append_left}
use Rattle.field.specs.Ring.{CommutativeRing}
use Rattle.field.specs.declared.element.Element.{Ghosts}
use Rattle.polynomial.specs.Bits.{BinaryLaws}
use Rattle.polynomial.specs.Polynomials.{value_at, coefficient_list, Annihilates, conjugates, SomeNeither}
use Rattle.refusal.specs.declared.Refusal.TheVariants.{NotBinary}
use Rattle.polynomial.specs.Outcomes.{Makes}
use Rattle.polynomial.specs.Steps.{lower_conjugates, Reads}
use Rattle.polynomial.specs.declared.binary.Binary as binary
use Rattle.polynomial.proofs.Conjugates.{conjugates_lower}
use Rattle.polynomial.proofs.Values.{conjugates_value, factors_vanish, value_at-proposal}

neither_above : {K : Type 0} (m : Ghosts K) (xs ys : List K) → SomeNeither m xs → SomeNeither m (xs ++ ys)
neither_above m xs ys (k, within, not-zero, not-one) =
    let same = get_or_append_left xs ys m.zero k within in
    let longer : k < length (xs ++ ys) = subst (λ n. k < n) (sym (length-append xs ys)) (omega arith) in
    (k, longer, (λ e. not-zero (sym same ∙ e)), (λ e. not-one (sym same ∙ e)))

pub neither_conjugates : {K : Type 0} (m : Ghosts K) (r : K) (n : ℕ)
    → SomeNeither m (lower_conjugates m r n) → SomeNeither m (conjugates m r n)
neither_conjugates m r n some =
    subst (λ xs. SomeNeither m xs) (sym (conjugates_lower m r n)) (neither_above m (lower_conjugates m r n) (m.one ∷ []) some)

module _ {K : Type 0} (m : Ghosts K) (laws : CommutativeRing m.zero m.one m.sum m.product) (b : binary.Ghosts K) (r : K) where
  -- the stored coefficients, with the highest after them, are the product
  made_product : (bits : ℕ → Bool) → coefficient_list m b.width bits ≡ lower_conjugates m r b.width
      → coefficient_list m b.width bits ++ m.one ∷ [] ≡ conjugates m r b.width
  made_product bits same = ap (λ (cs : List K). cs ++ m.one ∷ []) same ∙ sym (conjugates_lower m r b.width)

  pub found_made : (room : ℕ) (found : Option K) → b.width ≤ room
      → Reads m b.bits b.width (lower_conjugates m r b.width) found → Makes b m room r (ok_or found NotBinary)
  found_made room (Some p) wide same = record { has_room = wide; product = made_product (b.bits p) same }
  found_made room None wide some = inr (refl, wide, neither_conjugates m r b.width some)

  module _ (binary-laws : BinaryLaws m b.width b.bits) where
    vanishes : (n : ℕ) → zero < n → value_at m r (conjugates m r n) ≡ m.zero
    vanishes zero some = absurd (omega arith)
    vanishes (suc n) some = conjugates_value m laws r r (suc n) ∙ factors_vanish m laws binary-laws.even r n

    pub made_annihilates : (bits : ℕ → Bool) → coefficient_list m b.width bits ++ m.one ∷ [] ≡ conjugates m r b.width
        → Annihilates m b.width bits r
    made_annihilates bits made =
        sym (value_at-proposal m laws r b.width bits) ∙ ap (value_at m r) made ∙ vanishes b.width binary-laws.wide

    pub found_annihilates : (found : Option K) → Reads m b.bits b.width (lower_conjugates m r b.width) found
        → IfOk (ok_or found NotBinary) (λ p. Annihilates m b.width (b.bits p) r)
    found_annihilates (Some p) same = made_annihilates (b.bits p) (made_product (b.bits p) same)
    found_annihilates None none = tt
