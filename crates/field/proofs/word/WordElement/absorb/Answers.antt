use Rattle.std.proofs.Common.{◌≡◌, ℕ, ◌+◌, ◌-◌, ◌*◌, ◌%◌, ◌^◌, sym, ◌∙◌, rules}
use Rattle.std.proofs.lemmas.Nat.{mul-mod_first}
use Rattle.field.specs.Residues.{entered_mod}
use Rattle.field.specs.Instances.{word_residues}
use Rattle.field.proofs.word.WordElement.absorb.Goals as goal

pub returns : goal.returns
returns c =
    let sum : ℕ = c.args.self.value + c.args.item.value in
    let taken : c.remainder.result ≡ sum * c.args.key.value % (2 ^ 31 - 1) = search rules in
    entered_mod word_residues _ _ (taken ∙ sym (mul-mod_first sum c.args.key.value (2 ^ 31 - 1)))
