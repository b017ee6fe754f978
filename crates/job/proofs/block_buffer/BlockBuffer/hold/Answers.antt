use Rattle.std.proofs.Common.{ℕ, List, [], ◌∷◌, get_or, take, sym, subst}
use Rattle.std.proofs.lemmas.List.{take_more}
use Rattle.job.specs.Buffers.{CutsIntoBlocks}
use Rattle.job.proofs.Feeding.{cut_none, cut_append}
use Rattle.job.proofs.block_buffer.BlockBuffer.hold.Goals as goal

pub loop-byte-init : goal.loop-byte-init
loop-byte-init g c = cut_none g.E.Engine c.args.self.now

pub loop-byte-preserved : goal.loop-byte-preserved
loop-byte-preserved g c =
    let m = g.E.Engine in
    let f = c.args.self.now in
    let i = c.loop-byte.byte-index in
    let piece : List ℕ = c.args.piece.now in
    subst (λ (xs : List ℕ). CutsIntoBlocks m f xs c.push.new.self) (sym (take_more piece i 0 c.loop-byte-test.true))
    (cut_append m f c.loop-byte.self c.push.new.self (take i piece) (get_or piece i 0 ∷ []) c.loop-byte.invariant c.push.ensures)
