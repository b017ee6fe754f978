-- What an engine goes through: operations one after another, each by the engine's own relation.
use Rattle.std.specs.Prelude.{◌≡◌, Bool, List, [], ◌∷◌}
use Rattle.field.specs.declared.block.Block.{Block}
use Rattle.engine.specs.declared.engine.Engine.{Ghosts}

-- a call that changes an engine: a resume at a value, an absorb of a block, a switch and whether it was accepted
pub data Operation : Type 0 where
  resume : Block → Operation
  absorb : Block → Operation
  switch : Bool → Operation

module _ {E : Type 0} (m : Ghosts E) where
  -- the engine before an operation and after it
  abbrev pub Does : Operation → E → E → Type 0
  Does (resume value) before after = m.resumes before value after
  Does (absorb block) before after = m.absorbs before block after
  Does (switch accepted) before after = m.switches before accepted after

  -- the engine before a list of operations and after it: no operation leaves it as it was
  abbrev pub Chain : List Operation → E → E → Type 0
  Chain [] before after = after ≡ before
  Chain (operation ∷ rest) before after =
      (between : E) × Does operation before between × Chain rest between after
