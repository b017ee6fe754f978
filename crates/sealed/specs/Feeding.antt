-- Jobs that are fed what is read out of a file. Only private functions cite these.
use Rattle.std.specs.Prelude.{ℕ, Bool, List, []}
use Rattle.field.specs.declared.block.Block.{Block}
use Rattle.engine.specs.Rows.{HashesBlocks}
use Rattle.engine.specs.declared.engine.Engine.{Ghosts}
use Rattle.job.specs.Cuts.{full_blocks}
use Rattle.job.specs.Jobs.{HeaderHolds, BodyHolds}
use Rattle.job.specs.declared.block_buffer.BlockBuffer.{BlockBuffer}
use Rattle.job.specs.declared.body_job.BodyJob.{BodyJob}
use Rattle.job.specs.declared.header_job.HeaderJob.{HeaderJob}

module _ {E : Type 0} (m : Ghosts E) where
  -- A state that has taken these bytes of its part, whose engine hashed the blocks that they fill and nothing else, since the
  -- engine with which the part began.
  pub record Took {S : Type 0} (Holds : S → List ℕ → Type 0) (buffer_of : S → BlockBuffer E)
      (began : E) (state : S) (taken : List ℕ) : Type 0 where
    pub holds : Holds state taken
    pub hashed : HashesBlocks m began (full_blocks taken) (buffer_of state).engine

  -- From one state to another these bytes were fed, and nothing was taken before.
  abbrev pub IsFed : {S : Type 0}
      → (S → List ℕ → Type 0) → (S → BlockBuffer E) → S → List ℕ → S → Type 0
  IsFed Holds buffer_of old bytes new =
      (began : E) → Took Holds buffer_of began old [] → Took Holds buffer_of began new bytes

  -- the same of both states of a job, whatever the engine came with
  abbrev pub HeaderIsFed : HeaderJob E → List ℕ → HeaderJob E → Type 0
  HeaderIsFed old header new =
      (h : Block) (can_switch : Bool) → IsFed (HeaderHolds m h can_switch) (λ u. u.buffer) old header new

  abbrev pub BodyIsFed : BodyJob E → List ℕ → BodyJob E → Type 0
  BodyIsFed old body new =
      (h : Block) (can_switch : Bool) (header : List ℕ)
      → IsFed (λ u. BodyHolds m h can_switch u header) (λ u. u.buffer) old body new
