-- What the engine is after a check.
use Rattle.std.specs.Prelude.{◌≡◌, ℕ, List, MatchBool, Result, MatchResult, ◌==◌}
use Rattle.refusal.specs.Refusals.{refusal_number}
use Rattle.refusal.specs.declared.Refusal.{Refusal}
use Rattle.engine.specs.declared.engine.Engine.{Ghosts}
use Rattle.format.specs.Faults.{header_in, body_in}
use Rattle.format.specs.declared.lengths.Lengths.{Lengths}
use Rattle.tag.specs.Tags.{HashesMessage}

module _ {E : Type 0} (m : Ghosts E) (e : E) (file : List ℕ) where
  -- the engine hashed what is read out of the file
  abbrev pub HashesFile : E → Type 0
  HashesFile f = HashesMessage m e (header_in file) (body_in file) f

  -- The engine hashed the file where the tag was looked at (8 is a tag that differs), and was not touched else.
  abbrev pub EngineAfter : Result Lengths Refusal → E → Type 0
  EngineAfter answer f =
      MatchResult answer (λ _. HashesFile f)
      (λ why. MatchBool (refusal_number why == 8) (HashesFile f) (f ≡ e))
