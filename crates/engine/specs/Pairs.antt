-- A pair of engines as an engine: which of the two a call reaches, and which runs after it.
use Rattle.std.specs.Prelude.{◌≡◌, Bool, true, false, ◌==◌}
use Rattle.field.specs.declared.block.Block.{Block}
use Rattle.engine.specs.Chain.{Operation, resume, absorb, Does}
use Rattle.engine.specs.Hashing.{hash_step}
use Rattle.engine.specs.declared.engine.Engine.{Ghosts}
use Rattle.engine.specs.declared.pair.Pair.{Pair}
use Rattle.engine.specs.declared.pair.Side.{Side}
use Rattle.engine.specs.declared.pair.Side.TheVariants.{First, Second}

abbrev pub other_side : Side → Side
other_side First = Second
other_side Second = First

-- of one thing for each side, that of this side
abbrev pub at_side : {X : Type 0} → Side → X → X → X
at_side First x y = x
at_side Second x y = y

-- the engine of the other side is as it was
abbrev pub KeepsOther : {A B : Type 0} → Side → Pair A B → Pair A B → Type 0
KeepsOther First before after = after.second ≡ before.second
KeepsOther Second before after = after.first ≡ before.first

module _ {A B : Type 0} (a : Ghosts A) (b : Ghosts B) where
  -- the engine of this side goes through the operation
  abbrev pub DoesAt : Side → Operation → Pair A B → Pair A B → Type 0
  DoesAt First operation before after = Does a operation before.first after.first
  DoesAt Second operation before after = Does b operation before.second after.second

  -- One operation, on this side: its engine goes through it, the other is as it was, and this side runs afterwards.
  pub record DoesOn (side : Side) (operation : Operation) (before after : Pair A B) : Type 0 where
    pub done : DoesAt side operation before after
    pub other : KeepsOther side before after
    pub running : after.running ≡ side

  -- H and T are those of the engine that runs
  abbrev pub pair_subkey : Pair A B → Block
  pair_subkey pair = at_side pair.running (a.subkey_of pair.first) (b.subkey_of pair.second)

  abbrev pub pair_value : Pair A B → Block
  pair_value pair = at_side pair.running (a.value_of pair.first) (b.value_of pair.second)

  -- A pair is ready where both engines hash under one subkey.
  abbrev pub pair_ready : Pair A B → Bool
  pair_ready pair = (a.subkey_of pair.first).bits == (b.subkey_of pair.second).bits

  -- An accepted switch resumes the other engine at the pair's value, and that one runs; the one that ran is as it was.
  pub record HandsOver (before after : Pair A B) : Type 0 where
    pub ready : pair_ready before ≡ true
    pub resumed : DoesOn (other_side before.running) (resume (pair_value before)) before after

  -- A refused switch changes nothing.
  pub record StaysOn (before after : Pair A B) : Type 0 where
    pub not_ready : pair_ready before ≡ false
    pub unchanged : after ≡ before

  abbrev pub PairSwitches : Pair A B → Bool → Pair A B → Type 0
  PairSwitches before true after = HandsOver before after
  PairSwitches before false after = StaysOn before after

  -- An absorb and a resume reach the engine that runs, and it runs on.
  abbrev pub pair_of : Ghosts (Pair A B)
  pair_of = record {
    subkey_of = pair_subkey;
    value_of = pair_value;
    ready_of = pair_ready;
    absorbs = λ before block after. DoesOn before.running (absorb block) before after;
    resumes = λ before value after. DoesOn before.running (resume value) before after;
    switches = PairSwitches;
  }

-- four engines, two and two
module _ {A B C D : Type 0} (a : Ghosts A) (b : Ghosts B) (c : Ghosts C) (d : Ghosts D) where
  abbrev pub Pairs : Type 0
  Pairs = Pair (Pair A B) (Pair C D)

  abbrev pub pairs_of : Ghosts Pairs
  pairs_of = pair_of (pair_of a b) (pair_of c d)

  -- A block for two pairs is one step of the hash; it reaches the pair that runs, and the other pair is as it was.
  pub record PairsAbsorb (before : Pairs) (block : Block) (after : Pairs) : Type 0 where
    pub value : pairs_of.value_of after
        ≡ hash_step (pairs_of.subkey_of before) (pairs_of.value_of before) block
    pub other : KeepsOther before.running before after
    pub whole : pairs_of.absorbs before block after
