-- Chains joined end to end.
use Rattle.std.proofs.Common.{List, [], ◌∷◌, ◌++◌, subst}
use Rattle.engine.specs.Chain.{Operation, Chain}
use Rattle.engine.specs.declared.engine.Engine.{Ghosts}

module _ {E : Type 0} (m : Ghosts E) where
  pub chain_append : (os ps : List Operation) (e f g : E)
      → Chain m os e f → Chain m ps f g → Chain m (os ++ ps) e g
  chain_append [] ps e f g same rest = subst (λ (x : E). Chain m ps x g) same rest
  chain_append (o ∷ os) ps e f g (between, does, more) rest =
      (between, does, chain_append os ps between f g more rest)
