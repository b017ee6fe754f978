use Rattle.std.proofs.Common.{◌≡◌, ℕ, ◌+◌, ◌<◌, ◌^◌, List, ◌++◌, length, take, drop, sym, refl, ap, ◌∙◌, ap₂, add-one, arith, drop-drop, length-take-le}
use Rattle.std.proofs.lemmas.List.{take_at, drop_at}
use Rattle.field.specs.Evaluation.{power}
use Rattle.polynomial.specs.Steps.{lower_times_linear, lower_conjugates}
use Rattle.polynomial.proofs.Conjugates.{length_lower, power_square}
use Rattle.polynomial.proofs.Fill.{fill_more}
use Rattle.polynomial.proofs.maker.expand.Goals as goal

pub loop-degree-preserved : goal.loop-degree-preserved
loop-degree-preserved g c =
    let m = g.E.Element in
    let r : g.row.E.Denot = c.args.subkey in
    let i : ℕ = c.loop-degree.degree in
    let old : List g.row.E.Denot = c.args.coefficients.now in
    let now : List g.row.E.Denot = c.loop-degree.coefficients in
    let within : i < length now = omega arith in
    let size = length_lower m r i in
    let so_far = c.loop-degree.invariant.1 in
    let front : take i now ≡ lower_conjugates m r i = ap (take i) so_far ∙ take_at (lower_conjugates m r i) (drop i old) i size in
    let back : drop i now ≡ drop i old = ap (drop i) so_far ∙ drop_at (lower_conjugates m r i) (drop i old) i size in
    let on : drop (i + 1) now ≡ drop (i + 1) old = sym (drop-drop 1 i now) ∙ ap (drop 1) back ∙ drop-drop 1 i old in
    let long : length c.multiply.new.coefficients ≡ i = c.multiply.auto.coefficients ∙ length-take-le i now (omega arith) in (
      c.times-root.ensures ∙ ap (λ x. m.product x x) c.loop-degree.invariant.0 ∙ power_square m g.met.E.Element.ring r i
          ∙ ap (λ (n : ℕ). power m r (2 ^ n)) (sym (add-one i)),
      fill_more now c.multiply.new.coefficients i c.multiply.result within long
          ∙ ap₂ (λ xs ys. xs ++ ys)
          (c.multiply.ensures
          ∙ ap₂ (lower_times_linear m) c.loop-degree.invariant.0 front
          ∙ ap (lower_conjugates m r) (sym (add-one i)))
          on,
    )

pub loop-degree-init : goal.loop-degree-init
loop-degree-init g c = (sym (g.met.E.Element.ring.product_one c.args.subkey), refl)
