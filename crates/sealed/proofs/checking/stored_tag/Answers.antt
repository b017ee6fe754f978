use Rattle.std.proofs.Common.{ℕ, List, ap, ◌∙◌, arith}
use Rattle.std.proofs.lemmas.List.{take_all}
use Rattle.field.specs.Bytes.{block_of}
use Rattle.message.specs.Blocks.{filled_piece}
use Rattle.sealed.proofs.Numbers.{block_bits}
use Rattle.sealed.proofs.checking.stored_tag.Goals as goal

pub returns : goal.returns
returns c =
    let bytes : List ℕ = c.args.bytes.now in
    ap (λ b. b.bits) c.block_of.ensures.value
    ∙ ap (λ (xs : List ℕ). (block_of (filled_piece xs)).bits) (take_all 16 bytes (omega (arith, c.requires)))
    ∙ block_bits bytes (λ k. (c.type_inv.bytes k).fits) c.requires
