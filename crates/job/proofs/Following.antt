-- A call of a buffer, seen from the job that it stands in.
use Rattle.std.proofs.Common.{◌≡◌, Bool, List, [], ℕ, ap, ◌∙◌, subst}
use Rattle.std.proofs.lemmas.Result.{MatchResult-weaker}
use Rattle.field.specs.declared.block.Block.{Block}
use Rattle.message.specs.Blocks.{blocks}
use Rattle.message.specs.declared.part.Part.{Part}
use Rattle.message.specs.declared.part.Part.TheVariants.{Header, Body}
use Rattle.engine.specs.declared.engine.Engine.{Ghosts}
use Rattle.job.specs.Buffers.{Holds, FeedsPart, Feeds, BufferFollows}
use Rattle.job.specs.Jobs.{BodyFollows}
use Rattle.job.specs.Plain.{Answer, answer_after, Follows}
use Rattle.job.specs.declared.block_buffer.BlockBuffer.{BlockBuffer}
use Rattle.job.specs.declared.body_job.BodyJob.{BodyJob}
use Rattle.job.specs.declared.call.Call.{Call}
use Rattle.job.specs.declared.header_job.HeaderJob.{HeaderJob}

module _ {E : Type 0} (m : Ghosts E) where
  -- A feed of the buffer is one of the state, which stays where the buffer does.
  pub feeds_part : {S : Type 0} (buffer_of : S → BlockBuffer E) (part : Part) (j t : S) (piece : List ℕ) (a : Answer)
      → (buffer_of j).part ≡ part
      → (buffer_of t ≡ buffer_of j → t ≡ j) → Feeds m (buffer_of j) piece a (buffer_of t) → FeedsPart m buffer_of part j piece a t
  feeds_part buffer_of part j t piece a taking same fed = record {
    answer = fed.answer ∙ ap (λ p. answer_after p (buffer_of j).count piece) taking;
    outcome = MatchResult-weaker a fed.outcome (λ x taken. taken) (λ x kept. same kept);
  }

  -- a buffer's part is that of the state
  follows_in : (part : Part) (f t : BlockBuffer E) (call : Call) (a : Answer) → f.part ≡ part → BufferFollows m f call a t
      → (h : Block) (can_switch : Bool) (before : List Block) → Follows (Holds m h can_switch before) part can_switch f call a t
  follows_in part f t call a taking follows h can_switch before =
      subst (λ (p : Part). Follows (Holds m h can_switch before) p can_switch f call a t) taking (follows h can_switch before)

  pub header_follows : (j : HeaderJob E) (t : BlockBuffer E) (call : Call) (a : Answer) → BufferFollows m j.buffer call a t
      → (h : Block) (can_switch : Bool) → Follows (Holds m h can_switch []) Header can_switch j.buffer call a t
  header_follows j t call a follows h can_switch = follows_in Header j.buffer t call a j.taking follows h can_switch []

  pub body_follows : (j t : BodyJob E) (call : Call) (a : Answer) → t.header ≡ j.header → BufferFollows m j.buffer call a t.buffer
      → BodyFollows m j call a t
  body_follows j t call a kept follows h can_switch header body held =
      let said = follows_in Body j.buffer t.buffer call a j.taking follows h can_switch (blocks header) body held.holds in
      (said.0, record { before = kept ∙ held.before; bytes = held.bytes; holds = said.1 })
