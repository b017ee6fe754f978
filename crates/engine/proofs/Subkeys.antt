-- The two engines of a pair that is ready hash under one subkey.
use Rattle.std.proofs.Common.{◌≡◌, Bool, true, sym, ◌∙◌, eqb-true}
use Rattle.field.specs.Instances.{same_block}
use Rattle.engine.specs.Pairs.{pair_ready}
use Rattle.engine.specs.declared.engine.Engine.{Ghosts}
use Rattle.engine.specs.declared.pair.Pair.{Pair}

module _ {A B : Type 0} (a : Ghosts A) (b : Ghosts B) where
  pub one_subkey : (pair : Pair A B) {ready : Bool}
      → ready ≡ pair_ready a b pair → ready ≡ true
      → a.subkey_of pair.first ≡ b.subkey_of pair.second
  one_subkey pair answer accepted = same_block _ _ (eqb-true _ _ (sym answer ∙ accepted))
