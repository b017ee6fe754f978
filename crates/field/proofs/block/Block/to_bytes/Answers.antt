use Rattle.std.proofs.Common.{◌≡◌, sym, ap, ◌∙◌, mod-eq_of_lt, lit<, rules}
use Rattle.field.specs.Digits.{numeral, digits}
use Rattle.field.proofs.Digits.{numeral_digits}
use Rattle.field.specs.Residues.{entered}
use Rattle.field.specs.Instances.{block_residues}
use Rattle.field.proofs.block.Block.to_bytes.Goals as goal

pub returns : goal.returns
unfolding digits
returns c =
    let spelt : c.to_be_bytes.result ≡ digits 256 16 c.args.self.bits = search rules in
    let whole = numeral_digits 256 (lit< tt) 16 c.args.self.bits ∙ mod-eq_of_lt c.args.self.fits in
    record {
      value = spelt;
      back = sym (entered block_residues c.args.self (numeral 256 c.to_be_bytes.result) (sym (ap (numeral 256) spelt ∙ whole)));
    }
