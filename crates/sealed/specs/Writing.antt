-- What a writer answers, and what stands in its output then.
use Rattle.std.specs.Prelude.{◌≡◌, ℕ, ◌*◌, ◌≤◌, if◌then◌else◌, List, ◌++◌, length, drop, Ok, Err, Result, MatchResult, nat_le}
use Rattle.field.specs.Bytes.{bytes_of}
use Rattle.field.specs.declared.block.Block.{Block}
use Rattle.message.specs.Answer.{digest_of}
use Rattle.message.specs.Limits.{header_limit}
use Rattle.message.specs.declared.digest.Pad.{Pad}
use Rattle.message.specs.declared.digest.Tag.{Tag}
use Rattle.message.specs.declared.message.Message.{Message}
use Rattle.engine.specs.declared.engine.Engine.{Ghosts}
use Rattle.refusal.specs.declared.Refusal.{Refusal}
use Rattle.refusal.specs.declared.Refusal.TheVariants.{HeaderTooLong, FileSize, OutputTooShort}
use Rattle.format.specs.Layout.{blocks_for, file_contents, numbered_blocks}
use Rattle.format.specs.Verdict.{and_then}
use Rattle.tag.specs.Tags.{HashesMessage}
use Rattle.sealed.specs.declared.sealed.Sealed.{Sealed}

-- by lengths: the header's limit, the most blocks of a file, and the output's room; else the count of blocks
abbrev pub room_answer : ℕ → ℕ → ℕ → Result ℕ Refusal
room_answer header body output =
    if nat_le header header_limit
    then (if nat_le (blocks_for header body) 65536
    then (if nat_le (512 * blocks_for header body) output
    then Ok (blocks_for header body)
    else Err OutputTooShort)
    else Err FileSize)
    else Err HeaderTooLong

-- the count of blocks, and hash and tag of the header and the body
abbrev pub seal_answer : Block → Pad → List ℕ → List ℕ → ℕ → Result Sealed Refusal
seal_answer subkey pad header body output =
    and_then (room_answer (length header) (length body) output)
    (λ n. Ok record { blocks = n; digest = digest_of subkey pad header body })

-- the same of a message
abbrev pub answer_for : Block → Pad → Message → ℕ → Result Sealed Refusal
answer_for subkey pad m room = seal_answer subkey pad m.header.now m.body.now room

-- The engine hashed the message where there is a file, and was not touched where there is a refusal.
abbrev pub HashesIfSealed : {E : Type 0}
    → Ghosts E → E → Message → E → Result Sealed Refusal → Type 0
HashesIfSealed g e m f answer =
    MatchResult answer
    (λ _. HashesMessage g e m.header.now m.body.now f)
    (λ _. f ≡ e)

-- The file of a message has no more blocks than there are numbers for, and fits this many bytes.
pub record HasRoom (m : Message) (room : ℕ) : Type 0 where
  pub few : blocks_for (length m.header.now) (length m.body.now) ≤ 65536
  pub fits : 512 * blocks_for (length m.header.now) (length m.body.now) ≤ room

-- a message and its tag, block after block
abbrev pub file_of : Message → Tag → List ℕ
file_of m tag = numbered_blocks 0 (file_contents m.header.now m.body.now (bytes_of tag.0))

-- A file was written at the front of a row, and the rest of the row is as before.
abbrev pub StandsInFront : List ℕ → List ℕ → List ℕ → Type 0
StandsInFront file before after = after ≡ file ++ drop (length file) before

-- An output before and after: the file stands at its front; after a refusal all is as it was.
abbrev pub WritesFile : List ℕ → List ℕ → List ℕ → Result Sealed Refusal → Type 0
WritesFile file before after answer =
    MatchResult answer
    (λ _. StandsInFront file before after)
    (λ _. after ≡ before)
