use Rattle.std.proofs.Common.{◌∙◌, ap₂}
use Rattle.field.specs.Kinds.{nibble_ring}
use Rattle.readings.proofs.Rows.{table}
use Rattle.readings.proofs.nibble_product.Goals as goal

pub returns : goal.returns
returns c = c.mul.ensures ∙ ap₂ nibble_ring.product c.new.ensures c.new-2.ensures ∙ table.nibble_product_row
