-- Lists of calls: what a job's engine goes through, and what comes of it.
use Rattle.std.specs.Prelude.{◌≡◌, ℕ, ◌≤◌, Bool, List, [], ◌∷◌, ◌++◌, map, length, take, drop, is_ok}
use Rattle.std.specs.List.{flat_map}
use Rattle.field.specs.Kinds.{block_ring}
use Rattle.field.specs.declared.block.Block.{Block}
use Rattle.message.specs.Limits.{header_limit, body_limit}
use Rattle.message.specs.Blocks.{blocks, block_of_lengths, block_list}
use Rattle.message.specs.Hash.{hash_of}
use Rattle.message.specs.Standard.{MeetsStandard}
use Rattle.message.specs.declared.digest.Pad.{Pad}
use Rattle.message.specs.declared.part.Part.TheVariants.{Header, Body}
use Rattle.engine.specs.Chain.{Operation, resume, absorb, switch, Chain}
use Rattle.engine.specs.declared.engine.Engine.{Ghosts}
use Rattle.job.specs.Buffers.{Holds}
use Rattle.job.specs.Cuts.{full_blocks}
use Rattle.job.specs.Jobs.{Closes}
use Rattle.job.specs.Plain.{Answer, call_bytes, accepted_bytes, answers_to, part_answers, bytes_taken}
use Rattle.job.specs.declared.block_buffer.BlockBuffer.{BlockBuffer}
use Rattle.job.specs.declared.call.Call.{Call}
use Rattle.job.specs.declared.call.Call.TheVariants.{Feed, Switch}
use Rattle.job.specs.declared.call.Calls.{Calls}
use Rattle.job.specs.declared.closed.Closed.{Closed}

-- ---- what an engine goes through

-- the blocks that become full when a piece joins the taken bytes
abbrev pub new_blocks : List ℕ → List ℕ → List Block
new_blocks taken piece = drop (length (full_blocks taken)) (full_blocks (taken ++ piece))

-- the last block of a part, where it is not full
abbrev pub final_block : List ℕ → List Block
final_block taken = drop (length (full_blocks taken)) (blocks taken)

-- for a call: an absorb for each block that its piece fills, or the switch with its answer
abbrev pub operations_for : List ℕ → Call → Answer → List Operation
operations_for taken (Feed piece) answer =
    map absorb (new_blocks taken (call_bytes (Feed piece) answer))
operations_for taken Switch answer = switch (is_ok answer) ∷ []

-- for a list of calls with their answers, after these bytes
abbrev pub operations_of : List ℕ → List Call → List Answer → List Operation
operations_of taken [] answers = []
operations_of taken (c ∷ cs) [] = []
operations_of taken (c ∷ cs) (a ∷ more) =
    operations_for taken c a ++ operations_of (taken ++ call_bytes c a) cs more

-- for a whole job, whatever it goes through within the header and within the body: from zero, the header and its last block, the
-- body and its last block, and the length block
abbrev pub job_operations : List Operation → List ℕ → List Operation → List ℕ → List Operation
job_operations of_header header of_body body =
    resume block_ring.zero
    ∷ (of_header
    ++ (map absorb (final_block header)
    ++ (of_body
    ++ map absorb (final_block body ++ (block_of_lengths header body ∷ [])))))

-- for a whole job from lists of calls
abbrev pub run_operations : List Call → List Answer → List Call → List Answer → List Operation
run_operations hs xs bs ys =
    job_operations
    (operations_of [] hs xs) (accepted_bytes hs xs)
    (operations_of [] bs ys) (accepted_bytes bs ys)

-- the block that an operation absorbs
abbrev pub absorb_of : Operation → List Block
absorb_of (resume v) = []
absorb_of (absorb p) = p ∷ []
absorb_of (switch b) = []

-- whether the switch that an operation is was accepted
abbrev pub switch_of : Operation → List Bool
switch_of (resume v) = []
switch_of (absorb p) = []
switch_of (switch b) = b ∷ []

-- the value that an operation goes on from
abbrev pub resume_of : Operation → List Block
resume_of (resume v) = v ∷ []
resume_of (absorb p) = []
resume_of (switch b) = []

-- whether each switch of a list of calls was accepted
abbrev pub switch_answers : List Call → List Answer → List Bool
switch_answers [] answers = []
switch_answers (c ∷ cs) [] = []
switch_answers (Feed piece ∷ cs) (a ∷ more) = switch_answers cs more
switch_answers (Switch ∷ cs) (a ∷ more) = is_ok a ∷ switch_answers cs more

-- One resume, at zero; one absorb for each block of the block list, in order; one switch for each switch, with its answer.
pub record InOrder (hs : List Call) (xs : List Answer) (bs : List Call) (ys : List Answer)
    : Type 0 where
  pub resumes : flat_map resume_of (run_operations hs xs bs ys) ≡ block_ring.zero ∷ []
  pub absorbs : flat_map absorb_of (run_operations hs xs bs ys)
      ≡ block_list (accepted_bytes hs xs) (accepted_bytes bs ys)
  pub switches : flat_map switch_of (run_operations hs xs bs ys)
      ≡ switch_answers hs xs ++ switch_answers bs ys

-- ---- the calls of one part

-- a lent row after the answers: those that it has room for, and behind them what it held
abbrev pub row_after : List Answer → List Answer → List Answer
row_after row answers = take (length row) answers ++ drop (length answers) row

module _ {E : Type 0} (m : Ghosts E) where
  -- From one state to another by a list of calls with their answers, after these bytes.
  pub record AnswersFrom (h : Block) (can_switch : Bool) (before : List Block)
      (old : BlockBuffer E) (taken : List ℕ) (calls : List Call) (answers : List Answer)
      (new : BlockBuffer E) : Type 0 where
    pub said : answers ≡ answers_to old.part can_switch taken calls
    pub holds : Holds m h can_switch before new (taken ++ accepted_bytes calls answers)
    pub chain : Chain m (operations_of taken calls answers) old.engine new.engine

  -- The same, whatever was taken before. Only private functions cite it.
  abbrev pub AnswersCalls : BlockBuffer E → List Call → List Answer → BlockBuffer E → Type 0
  AnswersCalls old calls answers new =
      (h : Block) (can_switch : Bool) (before : List Block) (taken : List ℕ)
      → Holds m h can_switch before old taken
      → AnswersFrom h can_switch before old taken calls answers new

  -- Each of a list of calls was made, and its answer went to a row. Only private functions cite it.
  pub record AnswersIntoRow (old : BlockBuffer E) (calls : List Call) (row : List Answer)
      (new : BlockBuffer E) (after : List Answer) : Type 0 where
    pub answers : List Answer
    pub count : length answers ≡ length calls
    pub written : after ≡ row_after row answers
    pub answered : AnswersCalls old calls answers new

-- ---- a run

-- A whole job, run on an engine from its calls.
module _ {E : Type 0} (m : Ghosts E) (engine : E) (calls : Calls) where
  abbrev header_answers : List Answer
  header_answers = part_answers Header (m.ready_of engine) calls.header.now

  abbrev body_answers : List Answer
  body_answers = part_answers Body (m.ready_of engine) calls.body.now

  -- the bytes of each part that are taken in the run
  abbrev pub taken_header : List ℕ
  taken_header = bytes_taken Header (m.ready_of engine) calls.header.now

  abbrev pub taken_body : List ℕ
  taken_body = bytes_taken Body (m.ready_of engine) calls.body.now

  -- what the run hashes to, under the engine's subkey
  abbrev pub hash_of_run : Block
  hash_of_run = hash_of (m.subkey_of engine) taken_header taken_body

  -- The run closes with hash and tag of the taken bytes, which are within the limits; they are those of the standard; and from the
  -- engine handed in to the one handed back it went through what the calls ask, in order.
  pub record Replays (pad : Pad) (closed : Closed E) : Type 0 where
    pub short : length taken_header ≤ header_limit
    pub few : length taken_body ≤ body_limit
    pub closes : Closes m (m.subkey_of engine) (m.ready_of engine) pad
        closed taken_header taken_body
    pub standard : MeetsStandard (m.subkey_of engine) pad taken_header taken_body closed.digest
    pub chain : Chain m
        (run_operations calls.header.now header_answers calls.body.now body_answers)
        engine closed.engine
    pub order : InOrder calls.header.now header_answers calls.body.now body_answers
