-- What every engine computes: one step of the hash, and the answer to a switch.
use Rattle.std.specs.Prelude.{◌≡◌, Bool, true, false, Ok, Err, Result}
use Rattle.field.specs.Kinds.{block_ring}
use Rattle.field.specs.declared.block.Block.{Block}
use Rattle.refusal.specs.declared.Refusal.{Refusal}
use Rattle.refusal.specs.declared.Refusal.TheVariants.{NotReady}

-- (T + P)·H, the value after a block P: the step of GHASH (NIST SP 800-38D, section 6.4), by H, T and P
abbrev pub hash_step : Block → Block → Block → Block
hash_step subkey value block = block_ring.product (block_ring.sum value block) subkey

-- a switch is accepted exactly where the engine is ready
abbrev pub switch_answer : Bool → Result (Unit {0}) Refusal
switch_answer true = Ok tt
switch_answer false = Err NotReady

-- An engine that computes in one way only: it refuses every switch, and is then as it was.
pub record NeverSwitches {E : Type 0} (before : E) (accepted : Bool) (after : E) : Type 0 where
  pub refused : accepted ≡ false
  pub unchanged : after ≡ before
