use Rattle.std.proofs.Common.{◌≡◌, ℕ, ◌+◌, Bool, true, false, cond, List, [], ◌∷◌, ◌++◌, length, sym, ap, ◌∙◌, ap₂, append-nil, arith}
use Rattle.field.specs.declared.block.Block.{Block}
use Rattle.polynomial.specs.Blocks.{coefficients_of}
use Rattle.division.specs.Places.{one_places}
use Rattle.division.proofs.Additions.{one_places-add_one, length-one_places}
use Rattle.division.proofs.divisor.Divisor.new.Goals as goal
use Rattle.division.proofs.divisor.Divisor.new.Goals.{then-bit, else-bit}

pub loop-place-init : goal.loop-place-init
unfolding one_places
loop-place-init c = c.new-places.ensures

pub push-requires : goal.push-requires
push-requires c =
    omega (arith, ap length c.loop-place.invariant, length-one_places c.loop-place.place (coefficients_of c.args.polynomial.coefficients))

pub loop-place-preserved : goal.loop-place-preserved
loop-place-preserved c =
    let j : ℕ = c.loop-place.place in
    let ps : List ℕ = c.loop-place.places.items in
    let bits : ℕ → Bool = coefficients_of c.args.polynomial.coefficients in
    let tested : c.bit.result ≡ bits j =
    c.bit.ensures ∙ ap₂ (λ (k : Block) (i : ℕ). coefficients_of k i) c.coefficients-coefficients.ensures c.from.ensures in
    let more : (b : Bool) → c.bit.result ≡ b → one_places (j + 1) bits ≡ ps ++ cond b (j ∷ []) [] =
    λ b e. one_places-add_one j bits ∙ ap₂ (λ (qs : List ℕ) (x : Bool). qs ++ cond x (j ∷ []) []) (sym c.loop-place.invariant) (sym tested ∙ e) in
    elim c.if-bit.branch [
      | then-bit w ↦ ap (λ v. v.items) w.places-is ∙ w.push.ensures.items ∙ sym (more true w.if-bit.true)
      | else-bit w ↦ ap (λ v. v.items) w.places-is ∙ sym (more false w.if-bit.false ∙ append-nil ps)
    ]
