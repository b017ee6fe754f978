-- Pieces fed to a job in either of its states.
use Rattle.std.proofs.Common.{◌≡◌, ℕ, ◌+◌, ◌≤◌, true, List, [], ◌++◌, length, sym, ap, ◌∙◌, subst, MatchResult}
use Rattle.std.proofs.lemmas.Bool.{cond-true, le-leb}
use Rattle.engine.specs.Rows.{HashesBlocks}
use Rattle.engine.specs.declared.engine.Engine.{Ghosts}
use Rattle.engine.proofs.HashedRows.{hashed_none, hashed_append}
use Rattle.field.specs.declared.block.Block.{Block}
use Rattle.job.specs.Buffers.{pending_bytes, TakesPiece}
use Rattle.job.specs.Cuts.{full_blocks, left_over}
use Rattle.job.specs.Plain.{Answer, fits, feed_answer, taken_after}
use Rattle.job.specs.declared.block_buffer.BlockBuffer.{BlockBuffer}
use Rattle.job.proofs.Cutting.{full_append}
use Rattle.message.specs.Limits.{limit_of}
use Rattle.message.specs.declared.part.Part.{Part}
use Rattle.refusal.specs.declared.Refusal.{Refusal}
use Rattle.sealed.specs.Feeding.{Took}

-- A state that holds what was taken, with the bytes after its full blocks waiting in its buffer.
module _ {E : Type 0} (m : Ghosts E) {S : Type 0} (Holds : S → List ℕ → Type 0) (buffer_of : S → BlockBuffer E)
    (left_of : (s : S) (taken : List ℕ) → Holds s taken → pending_bytes (buffer_of s) ≡ left_over taken) where
  pub took_none : (s : S) → Holds s [] → Took m Holds buffer_of (buffer_of s).engine s []
  unfolding full_blocks
  took_none s holds = record { holds = holds; hashed = hashed_none m (buffer_of s).engine }

  -- a piece within the limit is taken
  module _ (part : Part) (began : E) (j t : S) (taken piece : List ℕ) (Q : Refusal → Type 0) (a : Answer)
      (within : length taken + length piece ≤ limit_of part) (took : Took m Holds buffer_of began j taken)
      (said : (a ≡ feed_answer part taken piece) × Holds t (taken_after part taken piece))
      (outcome : MatchResult a (λ _. TakesPiece m (buffer_of j) piece (buffer_of t)) Q) where
    enough : fits part taken piece ≡ true
    enough = le-leb (length taken + length piece) (limit_of part) within

    fed : TakesPiece m (buffer_of j) piece (buffer_of t)
    fed = subst (λ (x : Answer). MatchResult x (λ _. TakesPiece m (buffer_of j) piece (buffer_of t)) Q)
        (said.0 ∙ cond-true _ _ _ enough) outcome

    pub took_more : Took m Holds buffer_of began t (taken ++ piece)
    took_more = record {
      holds = subst (Holds t) (cond-true _ (taken ++ piece) taken enough) said.1;
      hashed =
          subst (λ (ps : List Block). HashesBlocks m began ps (buffer_of t).engine)
          (ap (λ (w : List ℕ). full_blocks taken ++ full_blocks (w ++ piece)) (left_of j taken took.holds) ∙ sym (full_append taken piece))
          (hashed_append m began (buffer_of j).engine (buffer_of t).engine (full_blocks taken) (full_blocks (pending_bytes (buffer_of j) ++ piece)) took.hashed fed.hashed);
    }
