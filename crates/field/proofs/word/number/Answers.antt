use Rattle.std.proofs.Common.{◌≡◌, ℕ, length, get_or, sym, ap, arith, rules}
use Rattle.field.specs.Digits.{numeral}
use Rattle.field.proofs.Digits.{spelled, spells_length}
use Rattle.field.proofs.word.number.Goals as goal

pub returns : goal.returns
unfolding numeral
returns c =
    let at : ℕ → ℕ = λ k. get_or c.args.bytes.now k 0 in
    let long : length c.args.bytes.now ≡ 2 = search rules in
    let spelt : numeral 256 (spelled 2 at) ≡ numeral 256 c.args.bytes.now =
    ap (numeral 256) (sym (spells_length 0 c.args.bytes.now 2 long)) in
    omega (arith, spelt)
