-- What a job holds, and what each call of its life does: start, feed, switch, turn, close.
use Rattle.std.specs.Prelude.{◌≡◌, ℕ, Bool, List, [], ◌∷◌, ◌++◌, length}
use Rattle.field.specs.Kinds.{block_ring}
use Rattle.field.specs.declared.block.Block.{Block}
use Rattle.message.specs.Answer.{digest_of, digest_under}
use Rattle.message.specs.Blocks.{AreBytes, blocks, block_of_counts}
use Rattle.message.specs.Hash.{hash_of}
use Rattle.message.specs.Standard.{MeetsStandard}
use Rattle.message.specs.declared.digest.Pad.{Pad}
use Rattle.message.specs.declared.part.Part.TheVariants.{Header, Body}
use Rattle.engine.specs.Rows.{HashesBlocks}
use Rattle.engine.specs.declared.engine.Engine.{Ghosts}
use Rattle.job.specs.Buffers.{pending_bytes, Holds, FeedsPart, Switches}
use Rattle.job.specs.Plain.{Answer, Follows}
use Rattle.job.specs.declared.body_job.BodyJob.{BodyJob}
use Rattle.job.specs.declared.call.Call.{Call}
use Rattle.job.specs.declared.closed.Closed.{Closed}
use Rattle.job.specs.declared.header_job.HeaderJob.{HeaderJob}

module _ {E : Type 0} (m : Ghosts E) where
  -- ---- what a job holds

  -- In the header state the job has taken these bytes.
  abbrev pub HeaderHolds : Block → Bool → HeaderJob E → List ℕ → Type 0
  HeaderHolds h can_switch job header = Holds m h can_switch [] job.buffer header

  -- In the body state the job has taken this header and these bytes of the body.
  pub record BodyHolds (h : Block) (can_switch : Bool)
      (job : BodyJob E) (header body : List ℕ) : Type 0 where
    pub before : job.header ≡ length header
    pub bytes : AreBytes header
    pub holds : Holds m h can_switch (blocks header) job.buffer body

  -- A closed job: hash and tag of these bytes under the subkey and the pad; the engine has its subkey and ready, and T is the
  -- hash.
  pub record Closes (h : Block) (can_switch : Bool) (pad : Pad)
      (closed : Closed E) (header body : List ℕ) : Type 0 where
    pub digest : closed.digest ≡ digest_of h pad header body
    pub value : m.value_of closed.engine ≡ hash_of h header body
    pub subkey : m.subkey_of closed.engine ≡ h
    pub ready : m.ready_of closed.engine ≡ can_switch

  -- ---- start

  -- A job begins: its engine goes on from zero, whatever it hashed before, and the header has taken nothing.
  pub record Starts (engine : E) (job : HeaderJob E) : Type 0 where
    pub resumed : m.resumes engine block_ring.zero job.buffer.engine
    pub value : m.value_of job.buffer.engine ≡ block_ring.zero
    pub subkey : m.subkey_of job.buffer.engine ≡ m.subkey_of engine
    pub ready : m.ready_of job.buffer.engine ≡ m.ready_of engine
    pub left : pending_bytes job.buffer ≡ []
    pub count : job.buffer.count ≡ 0
    pub part : job.buffer.part ≡ Header

  -- ---- feed and switch

  -- A feed in the header state.
  abbrev pub FeedsHeader : HeaderJob E → List ℕ → Answer → HeaderJob E → Type 0
  FeedsHeader old piece result new = FeedsPart m (λ u. u.buffer) Header old piece result new

  -- A feed in the body state: the header's length stays.
  pub record FeedsBody (old : BodyJob E) (piece : List ℕ) (result : Answer)
      (new : BodyJob E) : Type 0 where
    pub feeds : FeedsPart m (λ u. u.buffer) Body old piece result new
    pub header : new.header ≡ old.header

  -- A switch in the header state.
  abbrev pub SwitchesHeader : HeaderJob E → Answer → HeaderJob E → Type 0
  SwitchesHeader old result new = Switches m old.buffer result new.buffer

  -- A switch in the body state: the header's length stays.
  pub record SwitchesBody (old : BodyJob E) (result : Answer) (new : BodyJob E) : Type 0 where
    pub switches : Switches m old.buffer result new.buffer
    pub header : new.header ≡ old.header

  -- A call in the header state is answered as the plain job answers it.
  abbrev pub HeaderFollows : HeaderJob E → Call → Answer → HeaderJob E → Type 0
  HeaderFollows old call result new =
      (h : Block) (can_switch : Bool)
      → Follows (HeaderHolds h can_switch) Header can_switch old call result new

  -- A call in the body state is answered as the plain job answers it, and the header stays.
  abbrev pub BodyFollows : BodyJob E → Call → Answer → BodyJob E → Type 0
  BodyFollows old call result new =
      (h : Block) (can_switch : Bool) (header : List ℕ)
      → Follows (λ u. BodyHolds h can_switch u header) Body can_switch old call result new

  -- ---- turn

  -- The header's last block was hashed, its length is kept, and the body has taken nothing yet.
  pub record Turns (old : HeaderJob E) (new : BodyJob E) : Type 0 where
    pub hashed : HashesBlocks m old.buffer.engine
        (blocks (pending_bytes old.buffer)) new.buffer.engine
    pub left : pending_bytes new.buffer ≡ []
    pub header : new.header ≡ old.buffer.count
    pub count : new.buffer.count ≡ 0
    pub part : new.buffer.part ≡ Body

  -- The header is at its end, and the body has taken nothing.
  abbrev pub FollowsTurn : HeaderJob E → BodyJob E → Type 0
  FollowsTurn old new =
      (h : Block) (can_switch : Bool) (header : List ℕ)
      → HeaderHolds h can_switch old header
      → BodyHolds h can_switch new header []

  -- ---- close

  -- The body's last block and the length block were hashed.
  abbrev pub ClosedBy : BodyJob E → E → Type 0
  ClosedBy job engine =
      HashesBlocks m job.buffer.engine
      (blocks (pending_bytes job.buffer) ++ (block_of_counts job.header job.buffer.count ∷ []))
      engine

  -- The close: the hash is T of the engine handed back, and the pad makes it the tag.
  pub record ClosesBody (job : BodyJob E) (pad : Pad) (closed : Closed E) : Type 0 where
    pub hashed : ClosedBy job closed.engine
    pub digest : closed.digest ≡ digest_under pad (m.value_of closed.engine)

  -- The job closes with hash and tag of the header and the body that it has taken.
  abbrev pub FollowsClose : BodyJob E → Pad → Closed E → Type 0
  FollowsClose job pad closed =
      (h : Block) (can_switch : Bool) (header body : List ℕ)
      → BodyHolds h can_switch job header body
      → Closes h can_switch pad closed header body

  -- They are those of the standard.
  abbrev pub ClosesByStandard : BodyJob E → Pad → Closed E → Type 0
  ClosesByStandard job pad closed =
      (h : Block) (can_switch : Bool) (header body : List ℕ)
      → BodyHolds h can_switch job header body
      → MeetsStandard h pad header body closed.digest
