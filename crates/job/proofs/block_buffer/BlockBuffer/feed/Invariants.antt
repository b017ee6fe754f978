use Rattle.std.proofs.Common.{◌≡◌, ℕ, List, ◌++◌}
use Rattle.std.specs.Slice.Iter.{chunks_rest}
use Rattle.job.specs.Buffers.{CutsIntoBlocks}
use Rattle.job.proofs.block_buffer.BlockBuffer.feed.Given as goal

-- what was taken in the loop so far, and what is left
abbrev pub invariant-loop-block : goal.invariant-loop-block
invariant-loop-block g l =
    (taken : List ℕ)
    × (chunks_rest l.initial.block-iterator ≡ taken ++ chunks_rest l.block-iterator)
    × CutsIntoBlocks g.E.Engine l.initial.self taken l.self
