use Rattle.std.proofs.Common.{[], ◌∷◌, ap, ◌∙◌, ap₂}
use Rattle.field.proofs.Horner.{eval_from_zero}
use Rattle.field.specs.Evaluation.{eval_from}
use Rattle.field.specs.Instances.{nibble_ring_laws}
use Rattle.field.specs.Kinds.{nibble, nibble_ring}
use Rattle.field.specs.declared.nibble.Nibble.{Nibble}
use Rattle.readings.proofs.Rows.{table}
use Rattle.readings.proofs.nibble_value.Goals as goal

pub returns : goal.returns
returns c =
    c.evaluate.ensures
    ∙ ap (λ (start : Nibble). eval_from nibble_ring c.new.result start (c.new-one.result ∷ (c.new-one.result ∷ []))) c.zero.ensures
    ∙ ap₂ (λ (key item : Nibble). eval_from nibble_ring key nibble_ring.zero (item ∷ (item ∷ []))) c.new.ensures c.new-one.ensures
    ∙ eval_from_zero nibble_ring nibble_ring_laws (nibble 0b0010) (nibble 0b0001 ∷ (nibble 0b0001 ∷ []))
    ∙ table.nibble_value_row
