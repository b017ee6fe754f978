use Rattle.std.proofs.Common.{◌≡◌, List, [], ◌++◌, sym, refl, ap, ◌∙◌, subst, arith, length}
use Rattle.std.proofs.lemmas.Bool.{eqb-true}
use Rattle.std.proofs.lemmas.List.{nil_from_length}
use Rattle.engine.specs.Rows.{HashesBlocks}
use Rattle.engine.proofs.HashedRows.{hashed_one}
use Rattle.field.specs.declared.block.Block.{Block}
use Rattle.job.specs.Cuts.{full_blocks, left_over}
use Rattle.job.specs.Buffers.{pending_bytes}
use Rattle.job.proofs.Cutting.{full_one, left_none}
use Rattle.job.proofs.block_buffer.BlockBuffer.take_block.Goals as goal

pub returns-then-piece-eq16 : goal.returns-then-piece-eq16
returns-then-piece-eq16 g c =
    let m = g.E.Engine in
    let f = c.args.self.now in
    let e = c.absorb.new.self in
    let piece = c.args.piece.now in
    let said = c.absorb.ensures in
    let sixteen : length piece ≡ 16 = omega arith in
    let none : pending_bytes f ≡ [] = nil_from_length _ (eqb-true _ _ (sym c.is_empty.ensures ∙ c.if-is_empty.true)) in
    let alone : pending_bytes f ++ piece ≡ piece = ap (λ xs. xs ++ piece) none in
    record {
      hashed =
          subst (λ (ps : List Block). HashesBlocks m f.engine ps e) (sym (ap full_blocks alone ∙ full_one piece sixteen))
          (hashed_one m f.engine e _ _ said.value said.subkey said.ready said.whole c.block_of.ensures.value);
      left = none ∙ sym (ap left_over alone ∙ left_none piece sixteen);
      count = refl;
      part = refl;
    }
