use Rattle.std.proofs.Common.{◌≡◌, ℕ, ◌*◌, ◌/◌, List, ◌++◌, length, map, drop, sym, ap, ap₂, ◌∙◌, ◌<◌, arith}
use Rattle.std.proofs.lemmas.Bool.{eqb-true, eqb-false}
use Rattle.std.specs.Simd.{first_chunks}
use Rattle.field.specs.Bytes.{block_of}
use Rattle.field.specs.Evaluation.{eval_from, horner}
use Rattle.field.specs.Instances.{block_ring_laws}
use Rattle.field.specs.Kinds.{block_ring}
use Rattle.field.specs.declared.block.Block.{Block}
use Rattle.field.proofs.Horner.{horner_append, horner_from}
use Rattle.message.specs.Blocks.{blocks}
use Rattle.message.proofs.Cutting.{blocks_none}
use Rattle.message.proofs.Pieces.{blocks_whole, blocks_short}
use Rattle.message.proofs.blocks.absorb_part.Goals as goal

abbrev after : Block → Block → List Block → Block
after subkey v ps = horner block_ring subkey v ps

-- a part taken in: its whole pieces, then what is left
in_two : (subkey start v : Block) (part rest : List ℕ) (whole : List (List ℕ)) → whole ≡ first_chunks 16 (length part / 16) part → rest ≡ drop (length part / 16 * 16) part
    → v ≡ eval_from block_ring subkey start (map block_of whole) → after subkey v (blocks rest) ≡ after subkey start (blocks part)
in_two subkey start v part rest whole front back made =
    ap (λ (u : Block). after subkey u (blocks rest)) (made ∙ sym (horner_from block_ring block_ring_laws subkey start (map block_of whole)))
    ∙ sym (horner_append block_ring block_ring_laws subkey start (map block_of whole) (blocks rest))
    ∙ ap (after subkey start)
    (ap₂ (λ (ps : List (List ℕ)) (xs : List ℕ). map block_of ps ++ blocks xs) front back ∙ sym (blocks_whole part))

pub returns-then-is_empty : goal.returns-then-is_empty
returns-then-is_empty c =
    let rest : List ℕ = c.as_chunks.result.1.now in
    let v : Block = c.evaluate-value.result in
    let none : length rest ≡ 0 = eqb-true _ _ (sym c.is_empty.ensures ∙ c.if-is_empty.true) in
    sym (ap (after c.args.subkey v) (blocks_none rest none))
    ∙ in_two c.args.subkey c.args.start v c.args.part.now rest _ c.as_chunks.ensures.front c.as_chunks.ensures.back c.evaluate-value.ensures

pub returns : goal.returns
returns c =
    let rest : List ℕ = c.as_chunks.result.1.now in
    let v : Block = c.evaluate-value.result in
    let some : 0 < length rest = omega (arith, eqb-false _ _ (sym c.is_empty.ensures ∙ c.if-is_empty.false)) in
    let short : length rest < 16 = omega (arith, c.as_chunks.ensures.back_len) in
    c.mul.ensures
    ∙ ap (λ (s : Block). block_ring.product s c.args.subkey) c.add.ensures
    ∙ ap (λ (b : Block). block_ring.product (block_ring.sum v b) c.args.subkey) c.block_of.ensures.value
    ∙ sym (ap (after c.args.subkey v) (blocks_short rest some short))
    ∙ in_two c.args.subkey c.args.start v c.args.part.now rest _ c.as_chunks.ensures.front c.as_chunks.ensures.back c.evaluate-value.ensures
