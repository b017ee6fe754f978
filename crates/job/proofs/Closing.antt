-- The end of a job.
use Rattle.std.proofs.Common.{◌≡◌, ℕ, Bool, List, [], ◌∷◌, ◌++◌, sym, ap, ◌∙◌, ap₂, append_assoc}
use Rattle.field.specs.Evaluation.{eval}
use Rattle.field.specs.Kinds.{block_ring}
use Rattle.field.specs.declared.block.Block.{Block}
use Rattle.message.specs.Blocks.{blocks, block_of_lengths, block_of_counts}
use Rattle.message.specs.Hash.{hash_of}
use Rattle.message.proofs.StandardHash.{lengths_counts}
use Rattle.engine.specs.Rows.{HashesBlocks}
use Rattle.engine.specs.declared.engine.Engine.{Ghosts}
use Rattle.engine.proofs.HashedRows.{hashed_eval}
use Rattle.job.specs.Buffers.{Flushes}
use Rattle.job.specs.Jobs.{BodyHolds}
use Rattle.job.specs.declared.block_buffer.BlockBuffer.{BlockBuffer}
use Rattle.job.specs.declared.body_job.BodyJob.{BodyJob}
use Rattle.job.proofs.Feeding.{flushed_value}

module _ {E : Type 0} (m : Ghosts E) (j : BodyJob E) (t : BlockBuffer E) (e : E) (flushed : Flushes m j.buffer t)
    (last : HashesBlocks m t.engine (block_of_counts j.header j.buffer.count ∷ []) e) where
  pub closed_value : (h : Block) (can_switch : Bool) (header body : List ℕ) → BodyHolds m h can_switch j header body
      → m.value_of e ≡ hash_of h header body
  unfolding hash_of
  closed_value h can_switch header body held =
      let lengths : block_of_counts j.header j.buffer.count ≡ block_of_lengths header body =
      ap₂ block_of_counts held.before held.holds.count ∙ sym (lengths_counts header body) in
      hashed_eval m h t.engine e (blocks header ++ blocks body) (block_of_counts j.header j.buffer.count ∷ []) last
      (flushed.hashed.subkey ∙ held.holds.subkey) (flushed_value m h can_switch (blocks header) j.buffer t body held.holds flushed)
      ∙ ap (eval block_ring h)
      (append_assoc (blocks header) (blocks body) (block_of_counts j.header j.buffer.count ∷ [])
      ∙ ap (λ p. blocks header ++ (blocks body ++ (p ∷ []))) lengths)
