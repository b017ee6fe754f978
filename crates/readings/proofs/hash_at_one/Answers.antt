use Rattle.std.proofs.Common.{◌≡◌, ℕ, List, sym, refl, ap, ◌∙◌, ap₂}
use Rattle.field.specs.Digits.{numeral}
use Rattle.field.specs.declared.block.Block.{Block}
use Rattle.field.specs.Instances.{same_block}
use Rattle.message.specs.Answer.{digest_answer}
use Rattle.readings.specs.Table.{first, hash_in}
use Rattle.readings.proofs.hash_at_one.Goals as goal

pub returns : goal.returns
unfolding numeral
returns c =
    let header : List ℕ = c.args.message.header.now in
    let body : List ℕ = c.args.message.body.now in
    let one : c.one.result ≡ first 0x80 = c.one.ensures ∙ same_block _ _ refl in
    ap hash_in
    (sym c.in_ok-digest.was ∙ c.hash_and_tag.ensures.value
    ∙ ap₂ (λ (h p : Block). digest_answer h (record { 0 = p }) header body) one c.zero.ensures)
