use Rattle.std.proofs.Common.{◌≡◌, ℕ, length, get_or, sym, ap, ◌∙◌, arith, lit<, mod-eq_of_lt, rules}
use Rattle.field.specs.Digits.{numeral, digits}
use Rattle.field.specs.Kinds.{block}
use Rattle.field.specs.Bytes.{bytes_of}
use Rattle.field.proofs.Digits.{AreDigits, spelled, spells_length, digits_numeral}
use Rattle.field.proofs.block.Block.from_bytes.Goals as goal

pub returns : goal.returns
unfolding numeral
returns c =
    let at : ℕ → ℕ = λ k. get_or c.args.bytes k 0 in
    let long : length c.args.bytes ≡ 16 = search rules in
    let small : AreDigits 256 (lit< tt) c.args.bytes = λ k. search rules in
    let summed : c.from_be_bytes.result ≡ numeral 256 (spelled 16 at) = omega (arith, c.from_be_bytes.ensures) in
    let made : c.from_be_bytes.result ≡ numeral 256 c.args.bytes =
    summed ∙ ap (numeral 256) (sym (spells_length 0 c.args.bytes 16 long)) in
    record {
      value = c.new.ensures ∙ ap block made;
      back =
          ap bytes_of c.new.ensures
          ∙ ap (digits 256 16) (mod-eq_of_lt c.from_be_bytes.type_inv ∙ made)
          ∙ ap (λ (n : ℕ). digits 256 n (numeral 256 c.args.bytes)) (sym long)
          ∙ digits_numeral 256 (lit< tt) c.args.bytes small;
    }
