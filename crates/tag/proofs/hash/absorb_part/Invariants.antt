use Rattle.std.proofs.Common.{◌≡◌, List, ◌++◌}
use Rattle.std.specs.Slice.Iter.{chunks_rest, chunks_size}
use Rattle.field.specs.declared.block.Block.{Block}
use Rattle.message.specs.Blocks.{blocks}
use Rattle.engine.specs.Rows.{HashesBlocks}
use Rattle.tag.proofs.hash.absorb_part.Given as goal

abbrev pub invariant-loop-piece : goal.invariant-loop-piece
invariant-loop-piece g l =
    (done : List Block) × HashesBlocks g.E.Engine l.initial.engine done l.engine
    × (done ++ blocks (chunks_rest l.piece-iterator) ≡ blocks l.part) × (chunks_size l.piece-iterator ≡ 16)
