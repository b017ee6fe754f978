use Rattle.std.proofs.Common.{◌≡◌, List, ◌<◌, length, sym, refl, ◌∙◌, subst, arith}
use Rattle.std.proofs.lemmas.Bool.{eqb-true, eqb-false}
use Rattle.std.proofs.lemmas.List.{nil_from_length}
use Rattle.field.specs.declared.block.Block.{Block}
use Rattle.message.proofs.Cutting.{blocks_none}
use Rattle.job.proofs.Feeding.{row_none}
use Rattle.engine.specs.Rows.{HashesBlocks}
use Rattle.job.specs.Buffers.{pending_bytes}
use Rattle.job.proofs.Cutting.{last_block}
use Rattle.job.proofs.block_buffer.BlockBuffer.flush.Goals as goal

pub returns-then-not-is_empty : goal.returns-then-not-is_empty
returns-then-not-is_empty g c =
    let m = g.E.Engine in
    let f = c.args.self.now in
    let e = c.absorb_pending.new.engine in
    let other = eqb-false _ _ (sym c.is_empty.ensures ∙ c.if-not-is_empty.true) in
    let some : 0 < length (pending_bytes f) = omega (arith, other) in
    record {
      hashed =
          subst (λ (ps : List Block). HashesBlocks m f.engine ps e)
          (sym (last_block (pending_bytes f) some (omega (arith, f.room))))
          c.absorb_pending.ensures.hashed;
      left = c.absorb_pending.ensures.left;
      count = refl;
      part = refl;
    }

pub returns-else-not-is_empty : goal.returns-else-not-is_empty
returns-else-not-is_empty g c =
    let m = g.E.Engine in
    let f = c.args.self.now in
    let none : length (pending_bytes f) ≡ 0 = eqb-true _ _ (sym c.is_empty.ensures ∙ c.if-not-is_empty.false) in
    record {
      hashed = row_none m f.engine _ (blocks_none (pending_bytes f) none);
      left = nil_from_length _ none;
      count = refl;
      part = refl;
    }
