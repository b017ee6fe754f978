use Rattle.std.proofs.Common.{take}
use Rattle.job.specs.Buffers.{CutsIntoBlocks}
use Rattle.job.proofs.block_buffer.BlockBuffer.hold.Given as goal

abbrev pub invariant-loop-byte : goal.invariant-loop-byte
invariant-loop-byte g l = CutsIntoBlocks g.E.Engine l.initial.self (take l.byte-index l.piece) l.self
