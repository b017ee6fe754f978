-- A row of blocks, taken in by an engine.
use Rattle.std.specs.Prelude.{◌≡◌, List, map}
use Rattle.field.specs.Evaluation.{horner}
use Rattle.field.specs.Kinds.{block_ring}
use Rattle.field.specs.declared.block.Block.{Block}
use Rattle.engine.specs.Chain.{absorb, Chain}
use Rattle.engine.specs.declared.engine.Engine.{Ghosts}

-- One absorb for each block, in order, and nothing else: T moves on by each in turn, H and ready stay.
pub record HashesBlocks {E : Type 0} (m : Ghosts E) (before : E) (blocks : List Block) (after : E)
    : Type 0 where
  pub subkey : m.subkey_of after ≡ m.subkey_of before
  pub ready : m.ready_of after ≡ m.ready_of before
  pub value :
      m.value_of after
      ≡ horner block_ring (m.subkey_of before) (m.value_of before) blocks
  pub chain : Chain m (map absorb blocks) before after
