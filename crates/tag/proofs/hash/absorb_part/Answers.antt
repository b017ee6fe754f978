use Rattle.std.proofs.Common.{◌≡◌, ℕ, ◌<◌, min, List, [], ◌∷◌, ◌++◌, length, sym, ap, ◌∙◌, subst, ap₂, append_assoc, append-nil, arith}
use Rattle.std.specs.Slice.Iter.{chunks_rest}
use Rattle.std.proofs.lemmas.List.{take_all}
use Rattle.field.specs.Bytes.{block_of}
use Rattle.field.specs.declared.block.Block.{Block}
use Rattle.message.specs.Blocks.{filled_piece, blocks}
use Rattle.message.proofs.Cutting.{blocks_more, blocks_none}
use Rattle.engine.specs.Rows.{HashesBlocks}
use Rattle.engine.proofs.HashedRows.{hashed_one, hashed_append}
use Rattle.tag.proofs.hash.absorb_part.Goals as goal

pub loop-piece-preserved : goal.loop-piece-preserved
loop-piece-preserved g c =
    let m = g.E.Engine in
    let inv = c.loop-piece.invariant in
    let went = c.in-Some.ensures.steps in
    let piece : List ℕ = c.in-Some.piece.now in
    let more : List ℕ = chunks_rest c.next.new.self in
    let joins : chunks_rest c.loop-piece.piece-iterator ≡ piece ++ more = went.1.0 in
    let size : length piece ≡ min 16 (length (piece ++ more)) =
    went.1.1 ∙ ap₂ (λ (n : ℕ) (xs : List ℕ). min n (length xs)) inv.3 joins in
    let some : 0 < length (piece ++ more) = subst (λ (xs : List ℕ). 0 < length xs) joins went.1.2 in
    let block : Block = block_of (filled_piece piece) in
    let made = c.block_of.ensures.value ∙ ap (λ (xs : List ℕ). block_of (filled_piece xs)) (take_all 16 piece (omega (arith, size))) in
    let said = c.absorb.ensures in
    let before = c.loop-piece.engine in
    let after = c.absorb.new.self in (
      inv.0 ++ (block ∷ []),
      hashed_append m c.args.engine.now before after inv.0 (block ∷ []) inv.1
          (hashed_one m before after _ block said.value said.subkey said.ready said.whole made),
      append_assoc inv.0 (block ∷ []) (blocks more)
          ∙ ap (λ (ps : List Block). inv.0 ++ ps) (sym (ap blocks joins ∙ blocks_more piece more size some))
          ∙ inv.2,
      went.0 ∙ inv.3,
    )

pub returns : goal.returns
returns g c =
    let inv = c.loop-piece.invariant in
    let none = blocks_none (chunks_rest c.loop-piece.piece-iterator) c.in-None.ensures.steps.1.0 in
    subst (λ (ps : List Block). HashesBlocks g.E.Engine c.args.engine.now ps c.loop-piece.engine)
    (sym (append-nil inv.0) ∙ ap (λ (ps : List Block). inv.0 ++ ps) (sym none) ∙ inv.2) inv.1
