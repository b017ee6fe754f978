use Rattle.std.proofs.Common.{◌≡◌, ℕ, ◌<◌, List, [], ◌∷◌, ◌++◌, length, take, sym, refl, ap, ◌∙◌, subst, arith}
use Rattle.std.proofs.lemmas.Bool.{eqb-true, eqb-false}
use Rattle.field.specs.declared.block.Block.{Block}
use Rattle.message.specs.Blocks.{block_from}
use Rattle.job.proofs.Feeding.{row_none}
use Rattle.engine.specs.Rows.{HashesBlocks}
use Rattle.job.specs.Buffers.{pending_bytes}
use Rattle.job.proofs.Cutting.{full_one, left_none, full_short, left_short}
use Rattle.job.proofs.block_buffer.BlockBuffer.push.Goals as goal

pub returns-then-is_full : goal.returns-then-is_full
returns-then-is_full g c =
    let m = g.E.Engine in
    let f = c.args.self.now in
    let e = c.absorb_pending.new.engine in
    let joined : List ℕ = pending_bytes f ++ (c.args.byte ∷ []) in
    let pending : c.push.new.self.items ≡ joined = c.push.ensures.items in
    let full : length joined ≡ 16 = sym (ap length pending) ∙ eqb-true _ _ (sym c.is_full.ensures.value ∙ c.if-is_full.true) in
    record {
      hashed =
          subst (λ (ps : List Block). HashesBlocks m f.engine ps e)
          (ap (λ xs. block_from (take 16 xs) ∷ []) pending ∙ sym (full_one joined full))
          c.absorb_pending.ensures.hashed;
      left = c.absorb_pending.ensures.left ∙ sym (left_none joined full);
      count = refl;
      part = refl;
    }

pub returns-else-is_full : goal.returns-else-is_full
returns-else-is_full g c =
    let m = g.E.Engine in
    let f = c.args.self.now in
    let joined : List ℕ = pending_bytes f ++ (c.args.byte ∷ []) in
    let pending : c.push.new.self.items ≡ joined = c.push.ensures.items in
    let other = eqb-false _ _ (sym c.is_full.ensures.value ∙ c.if-is_full.false) in
    let short : length joined < 16 = omega (arith, other, ap length pending, c.is_full.ensures.fits) in
    record {
      hashed = row_none m f.engine _ (full_short joined short);
      left = pending ∙ sym (left_short joined short);
      count = refl;
      part = refl;
    }
