-- How the bytes of one part become blocks that an engine hashes, in the order of a part's life: feed, switch, end.
use Rattle.std.specs.Prelude.{◌≡◌, ℕ, ◌+◌, Bool, List, [], ◌++◌, length, is_ok, MatchResult}
use Rattle.field.specs.Evaluation.{eval}
use Rattle.field.specs.Kinds.{block_ring}
use Rattle.field.specs.declared.block.Block.{Block}
use Rattle.message.specs.Blocks.{AreBytes, blocks}
use Rattle.message.specs.declared.part.Part.{Part}
use Rattle.engine.specs.Hashing.{switch_answer}
use Rattle.engine.specs.Rows.{HashesBlocks}
use Rattle.engine.specs.declared.engine.Engine.{Ghosts}
use Rattle.job.specs.Cuts.{full_blocks, left_over}
use Rattle.job.specs.Plain.{Answer, answer_after, Follows}
use Rattle.job.specs.declared.block_buffer.BlockBuffer.{BlockBuffer}
use Rattle.job.specs.declared.call.Call.{Call}

-- the bytes that wait for their block
abbrev pub pending_bytes : {E : Type 0} → BlockBuffer E → List ℕ
pending_bytes b = b.pending.items

module _ {E : Type 0} (m : Ghosts E) where
  -- The engine has this subkey and this ready, and after the blocks before it the part has taken these bytes: T is the evaluation
  -- of the blocks already full, and the bytes after them wait.
  pub record Holds (h : Block) (can_switch : Bool) (before : List Block)
      (b : BlockBuffer E) (taken : List ℕ) : Type 0 where
    pub subkey : m.subkey_of b.engine ≡ h
    pub ready : m.ready_of b.engine ≡ can_switch
    pub count : b.count ≡ length taken
    pub left : pending_bytes b ≡ left_over taken
    pub value : m.value_of b.engine ≡ eval block_ring h (before ++ full_blocks taken)
    pub bytes : AreBytes taken

  -- The engine hashed these blocks, these bytes wait now, and so many of the part were taken. The part stays.
  pub record Advances (old : BlockBuffer E) (hashes : List Block) (waits : List ℕ) (total : ℕ)
      (new : BlockBuffer E) : Type 0 where
    pub hashed : HashesBlocks m old.engine hashes new.engine
    pub left : pending_bytes new ≡ waits
    pub count : new.count ≡ total
    pub part : new.part ≡ old.part

  -- Bytes joined those that wait: the blocks that they fill are hashed, and the rest waits. So many of the part were taken.
  abbrev pub Joins : BlockBuffer E → List ℕ → ℕ → BlockBuffer E → Type 0
  Joins old bytes total new =
      let all : List ℕ = pending_bytes old ++ bytes in
      Advances old (full_blocks all) (left_over all) total new

  -- Bytes were cut into blocks, and the count stays. Only private functions cite it.
  abbrev pub CutsIntoBlocks : BlockBuffer E → List ℕ → BlockBuffer E → Type 0
  CutsIntoBlocks old bytes new = Joins old bytes old.count new

  -- A piece was taken whole: its bytes were cut into blocks, and the count goes up by its length.
  abbrev pub TakesPiece : BlockBuffer E → List ℕ → BlockBuffer E → Type 0
  TakesPiece old piece new = Joins old piece (old.count + length piece) new

  -- A feed in a state with a buffer: the piece is taken where the count leaves room for it in the part, else nothing changes.
  pub record FeedsPart {S : Type 0} (buffer_of : S → BlockBuffer E) (part : Part)
      (old : S) (piece : List ℕ) (result : Answer) (new : S) : Type 0 where
    pub answer : result ≡ answer_after part (buffer_of old).count piece
    pub outcome : MatchResult result
        (λ _. TakesPiece (buffer_of old) piece (buffer_of new))
        (λ _. new ≡ old)

  -- A feed of the buffer itself, in the part that it is in.
  abbrev pub Feeds : BlockBuffer E → List ℕ → Answer → BlockBuffer E → Type 0
  Feeds old piece result new = FeedsPart (λ u. u) old.part old piece result new

  -- What an engine computes stays the same.
  pub record ComputesSame (old new : E) : Type 0 where
    pub value : m.value_of new ≡ m.value_of old
    pub subkey : m.subkey_of new ≡ m.subkey_of old
    pub ready : m.ready_of new ≡ m.ready_of old

  -- The engine was asked to switch: accepted exactly where it is ready. All that the part holds stays.
  pub record Switches (old : BlockBuffer E) (result : Answer) (new : BlockBuffer E) : Type 0 where
    pub answer : result ≡ switch_answer (m.ready_of old.engine)
    pub engine : m.switches old.engine (is_ok result) new.engine
    pub same : ComputesSame old.engine new.engine
    pub pending : new.pending ≡ old.pending
    pub count : new.count ≡ old.count
    pub part : new.part ≡ old.part

  -- The waiting bytes were hashed, filled with zeros; none wait now.
  abbrev pub Flushes : BlockBuffer E → BlockBuffer E → Type 0
  Flushes old new = Advances old (blocks (pending_bytes old)) [] old.count new

  -- A call is answered as the plain job answers it, whatever the engine came with and whatever stood before the part.
  abbrev pub BufferFollows : BlockBuffer E → Call → Answer → BlockBuffer E → Type 0
  BufferFollows old call result new =
      (h : Block) (can_switch : Bool) (before : List Block)
      → Follows (Holds h can_switch before) old.part can_switch old call result new
