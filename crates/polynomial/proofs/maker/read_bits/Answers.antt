use Rattle.std.proofs.Common.{ℕ, ◌+◌, ◌<◌, List, length, sym, ap, ◌∙◌, subst, refl, arith}
use Rattle.std.proofs.lemmas.List.FromFn.{fill_by_all}
use Rattle.std.proofs.lemmas.List.{get_or_read}
use Rattle.polynomial.specs.Polynomials.{coefficient_list, element}
use Rattle.polynomial.proofs.Reading.{ReadTo, read_zero, read_one, one_from_sum, sum_from_one}
use Rattle.polynomial.proofs.maker.read_bits.Goals as goal
use Rattle.polynomial.proofs.maker.read_bits.Goals.{then-not-is_zero+else-not-is_zero-2, else-not-is_zero}

pub loop-k-init : goal.loop-k-init
loop-k-init g c = (
  λ j early. absurd (omega arith),
  λ j late. ap (λ p. g.K.Binary.bits p j) c.zero-proposal.ensures ∙ g.met.K.Binary.laws.blank j,
)

pub loop-k-preserved : goal.loop-k-preserved
loop-k-preserved g c =
    let m = g.K.Element in
    let ring = g.met.K.Element.ring in
    let even = g.met.K.Binary.laws.even in
    let xs : List g.row.K.Denot = c.args.coefficients.now in
    let k : ℕ = c.loop-k.k in
    let within : k < length xs = omega arith in
    let below : k < g.K.Binary.width = omega (arith, c.requires) in
    let read = sym (get_or_read xs k c.index-coefficients-k.result within c.index-coefficients-k.is m.zero) in
    elim c.if-not-is_zero.branch [
      | then-not-is_zero+else-not-is_zero-2 w ↦
          let sum = sym (w.plus.ensures ∙ ap (m.sum c.index-coefficients-k.result) w.one.ensures) ∙ w.if-not-is_zero-2.ensures in
          let one = one_from_sum m ring even c.index-coefficients-k.result sum in
          subst (λ p. ReadTo m ring even xs (k + 1) (g.K.Binary.bits p)) (sym w.proposal-is)
          (read_one m ring even xs g.K.Binary.width k (g.K.Binary.bits c.loop-k.proposal) (g.K.Binary.bits w.flip-proposal.result)
          below c.loop-k.invariant (read ∙ one) w.flip-proposal.ensures)
      | else-not-is_zero w ↦
          subst (λ p. ReadTo m ring even xs (k + 1) (g.K.Binary.bits p)) (sym w.proposal-is)
          (read_zero m ring even xs k (g.K.Binary.bits c.loop-k.proposal) c.loop-k.invariant (read ∙ w.if-not-is_zero.ensures))
    ]

pub returns-then-not-is_zero-2 : goal.returns-then-not-is_zero-2
returns-then-not-is_zero-2 g c =
    let m = g.K.Element in
    let xs : List g.row.K.Denot = c.args.coefficients.now in
    let k : ℕ = c.loop-k.k in
    let within : k < length xs = omega arith in
    let read = get_or_read xs k c.index-coefficients-k.result within c.index-coefficients-k.is m.zero in (
      k,
      within,
      λ zero. c.if-not-is_zero.ensures (read ∙ zero),
      λ one. c.if-not-is_zero-2.ensures
          (c.plus.ensures ∙ ap (m.sum c.index-coefficients-k.result) c.one.ensures
          ∙ sum_from_one m g.met.K.Element.ring g.met.K.Binary.laws.even c.index-coefficients-k.result (read ∙ one)),
    )

pub returns : goal.returns
unfolding coefficient_list
returns g c =
    let m = g.K.Element in
    let xs : List g.row.K.Denot = c.args.coefficients.now in
    sym
    (fill_by_all (λ k. element m (g.K.Binary.bits c.loop-k.proposal k)) xs (length xs) m.zero refl
    (λ k early. c.loop-k.invariant.0 k (omega arith)))
