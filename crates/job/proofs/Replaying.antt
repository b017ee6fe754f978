-- A whole job, from the start to the close: what the engine went through.
use Rattle.std.proofs.Common.{◌≡◌, ℕ, Bool, List, [], ◌∷◌, ◌++◌, map, sym, ap, ◌∙◌, subst, ap₂}
use Rattle.field.specs.Kinds.{block_ring}
use Rattle.field.specs.declared.block.Block.{Block}
use Rattle.message.specs.Blocks.{blocks, block_of_lengths, block_of_counts, block_list}
use Rattle.message.specs.declared.digest.Pad.{Pad}
use Rattle.message.proofs.StandardHash.{lengths_counts}
use Rattle.engine.specs.Chain.{Operation, resume, absorb, Chain}
use Rattle.engine.specs.Rows.{HashesBlocks}
use Rattle.engine.specs.declared.engine.Engine.{Ghosts}
use Rattle.engine.proofs.Chains.{chain_append}
use Rattle.job.specs.Buffers.{pending_bytes, Holds}
use Rattle.job.specs.Cuts.{full_blocks, left_over}
use Rattle.job.specs.Jobs.{HeaderHolds, BodyHolds, ClosesBody, Starts, Turns}
use Rattle.job.specs.Runs.{final_block, job_operations}
use Rattle.job.specs.declared.block_buffer.BlockBuffer.{BlockBuffer}
use Rattle.job.specs.declared.body_job.BodyJob.{BodyJob}
use Rattle.job.specs.declared.closed.Closed.{Closed}
use Rattle.job.specs.declared.header_job.HeaderJob.{HeaderJob}
use Rattle.job.proofs.Ordering.{last_left, fed_operations}

module _ {E : Type 0} (m : Ghosts E) (h : Block) (can_switch : Bool) where
  -- the body's calls leave the header as it was
  pub body_held : (b t : BodyJob E) (header body : List ℕ) → t.header ≡ b.header → BodyHolds m h can_switch b header []
      → Holds m h can_switch (blocks header) t.buffer body → BodyHolds m h can_switch t header body
  body_held b t header body same turned holds = record { before = same ∙ turned.before; bytes = turned.bytes; holds = holds }

-- A job that began on an engine, took these bytes of the header by its end and these of the body by its own, and was closed.
module _ {E : Type 0} (m : Ghosts E) (h : Block) (can_switch : Bool) (engine : E) (pad : Pad) (i j : HeaderJob E) (b t : BodyJob E)
    (closed : Closed E) (header body : List ℕ)
    (starts : Starts m engine i)
    (first : HeaderHolds m h can_switch j header)
    (turned : Turns m j b)
    (second : BodyHolds m h can_switch t header body)
    (ends : ClosesBody m t pad closed) where
  -- what waits at the end of a part is its last block
  waits : (f : BlockBuffer E) (taken : List ℕ) → pending_bytes f ≡ left_over taken → blocks (pending_bytes f) ≡ final_block taken
  waits f taken left = ap blocks left ∙ sym (last_left taken)

  -- What the engine went through within each part, joined with what it went through at the start, the turn and the close.
  pub job_chain : (of_header of_body : List Operation) → Chain m of_header i.buffer.engine j.buffer.engine
      → Chain m of_body b.buffer.engine t.buffer.engine
      → Chain m (job_operations of_header header of_body body) engine closed.engine
  job_chain of_header of_body through_header through_body =
      let last : List Block = final_block body ++ (block_of_lengths header body ∷ []) in
      let turn : Chain m (map absorb (final_block header)) j.buffer.engine b.buffer.engine =
      subst (λ (ps : List Block). Chain m (map absorb ps) j.buffer.engine b.buffer.engine)
      (waits j.buffer header first.left) turned.hashed.chain in
      let lengths : block_of_counts t.header t.buffer.count ≡ block_of_lengths header body =
      ap₂ block_of_counts second.before second.holds.count ∙ sym (lengths_counts header body) in
      let close : Chain m (map absorb last) t.buffer.engine closed.engine =
      subst (λ (ps : List Block). Chain m (map absorb ps) t.buffer.engine closed.engine)
      (ap₂ (λ ps p. ps ++ (p ∷ [])) (waits t.buffer body second.holds.left) lengths) ends.hashed.chain in (
        i.buffer.engine,
        starts.resumed,
        chain_append m of_header _ i.buffer.engine j.buffer.engine closed.engine through_header
            (chain_append m (map absorb (final_block header)) _ j.buffer.engine b.buffer.engine closed.engine turn
            (chain_append m of_body (map absorb last) b.buffer.engine t.buffer.engine closed.engine through_body close)),
      )

  -- Where both parts were only fed, the engine went on from zero and absorbed the block list.
  pub fed_job_chain : HashesBlocks m i.buffer.engine (full_blocks header) j.buffer.engine
      → HashesBlocks m b.buffer.engine (full_blocks body) t.buffer.engine
      → Chain m (resume block_ring.zero ∷ map absorb (block_list header body)) engine closed.engine
  fed_job_chain fed_header fed_body =
      subst (λ (os : List Operation). Chain m os engine closed.engine) (fed_operations header body)
      (job_chain (map absorb (full_blocks header)) (map absorb (full_blocks body)) fed_header.chain fed_body.chain)
