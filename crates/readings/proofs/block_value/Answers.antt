use Rattle.std.proofs.Common.{◌≡◌, [], ◌∷◌, refl, ap, ◌∙◌, ap₂}
use Rattle.field.specs.Digits.{numeral}
use Rattle.field.proofs.Horner.{eval_from_zero}
use Rattle.field.specs.Evaluation.{eval_from}
use Rattle.field.specs.Kinds.{block_ring}
use Rattle.field.specs.declared.block.Block.{Block}
use Rattle.field.specs.Instances.{same_block, block_ring_laws}
use Rattle.readings.specs.Table.{first, last}
use Rattle.readings.proofs.Rows.{table}
use Rattle.readings.proofs.block_value.Goals as goal

pub returns : goal.returns
unfolding numeral
returns c =
    let key : c.new.result ≡ first 0x40 = c.new.ensures ∙ same_block _ _ refl in
    let item : c.new-2.result ≡ last 0x01 = c.new-2.ensures ∙ same_block _ _ refl in
    c.evaluate.ensures
    ∙ ap (λ (start : Block). eval_from block_ring c.new.result start (c.new-2.result ∷ [])) c.zero.ensures
    ∙ ap₂ (λ (k p : Block). eval_from block_ring k block_ring.zero (p ∷ [])) key item
    ∙ eval_from_zero block_ring block_ring_laws (first 0x40) (last 0x01 ∷ [])
    ∙ table.block_value_row
