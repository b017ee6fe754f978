-- The engine after a check.
use Rattle.std.proofs.Common.{◌≡◌, Bool, true, false, cond, eqb, List, ℕ, Ok, Err, MatchBool, sym, refl, subst}
use Rattle.refusal.specs.Refusals.{refusal_number}
use Rattle.refusal.specs.declared.Refusal.{Refusal}
use Rattle.refusal.specs.declared.Refusal.TheVariants.{TagDiffers}
use Rattle.engine.specs.declared.engine.Engine.{Ghosts}
use Rattle.format.specs.Faults.{header_in, body_in}
use Rattle.format.specs.Verdict.{first_pass}
use Rattle.format.specs.declared.lengths.Lengths.{Lengths}
use Rattle.format.proofs.FirstPass.{other_pass}
use Rattle.sealed.specs.Checking.{EngineAfter}
use Rattle.tag.specs.Tags.{HashesMessage}

module _ {E : Type 0} (m : Ghosts E) (e f : E) (file : List ℕ) where
  -- no refusal of the first pass is that of a tag
  pub untouched : (why : Refusal) → Err why ≡ first_pass file → MatchBool (eqb (refusal_number why) 8) (HashesMessage m e (header_in file) (body_in file) e) (e ≡ e)
  untouched why stopped =
      let other : eqb (refusal_number why) 8 ≡ false = other_pass file why (sym stopped) in
      subst (λ (t : Bool). MatchBool t (HashesMessage m e (header_in file) (body_in file) e) (e ≡ e)) (sym other) refl

  pub hashed_file : (t : Bool) (lengths : Lengths) → HashesMessage m e (header_in file) (body_in file) f → EngineAfter m e file (cond t (Ok lengths) (Err TagDiffers)) f
  hashed_file true lengths ran = ran
  hashed_file false lengths ran = ran
