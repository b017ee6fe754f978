-- What a file check answers.
use Rattle.std.specs.Prelude.{◌≡◌, ℕ, ◌/◌, ◌≤◌, ◌↔◌, if◌then◌else◌, List, length, Ok, Err, Result, IsOk, IfOk, ◌==◌, nat_le}
use Rattle.field.specs.Digits.{numeral}
use Rattle.field.specs.declared.block.Block.{Block}
use Rattle.message.specs.Limits.{header_limit}
use Rattle.message.specs.Hash.{tag_of}
use Rattle.message.specs.declared.digest.Pad.{Pad}
use Rattle.refusal.specs.declared.Refusal.{Refusal}
use Rattle.refusal.specs.declared.Refusal.TheVariants.{HeaderTooLong, TagDiffers, FileSize, NoEnd}
use Rattle.format.specs.Faults.{no_predecessor, is_size_good, blocks_of, scan_result, header_in, body_in, tag_in}
use Rattle.format.specs.Layout.{block_length, most_blocks, end_kind, sealed_file, blocks_for}
use Rattle.format.specs.declared.lengths.Lengths.{Lengths}

-- the answer of the step that follows, or the refusal of the one before it
abbrev pub and_then : {T U E : Type 0} → Result T E → (T → Result U E) → Result U E
and_then (Ok x) f = f x
and_then (Err e) f = Err e

abbrev pub lengths_of : List ℕ → List ℕ → Lengths
lengths_of header body = record { header = length header; body = length body }

-- the lengths of what is read out of a file
abbrev pub lengths_in : List ℕ → Lengths
lengths_in file = lengths_of (header_in file) (body_in file)

-- size, then block by block, then the end: the lengths of both parts, or the first fault
abbrev pub scan_answer : List ℕ → Result Lengths Refusal
scan_answer file =
    if is_size_good file
    then and_then (scan_result 0 no_predecessor (blocks_of file)) (λ last.
    if last.kind == end_kind
    then Ok (lengths_in file)
    else Err (NoEnd (length file / block_length)))
    else Err FileSize

-- all that can be said of a file without its key: the scan, and then the header's limit
abbrev pub first_pass : List ℕ → Result Lengths Refusal
first_pass file =
    and_then (scan_answer file) (λ lens.
    if nat_le lens.header header_limit then Ok lens else Err HeaderTooLong)

-- the tag in the file against the tag of what is read out of it
abbrev pub tag_verdict : Block → Pad → List ℕ → Result Lengths Refusal
tag_verdict subkey pad file =
    if numeral 256 (tag_in file) == (tag_of subkey pad (header_in file) (body_in file)).0.bits
    then Ok (lengths_in file)
    else Err TagDiffers

-- the first pass, and then the tag
abbrev pub verdict : Block → Pad → List ℕ → Result Lengths Refusal
verdict subkey pad file = and_then (first_pass file) (λ _. tag_verdict subkey pad file)

-- The writer makes this file from this header and body, under this subkey and pad.
pub record IsSealOf (subkey : Block) (pad : Pad) (header body file : List ℕ) : Type 0 where
  -- the header is within its limit
  pub short : length header ≤ header_limit
  -- no file has more blocks
  pub few : blocks_for (length header) (length body) ≤ most_blocks
  -- byte for byte
  pub made : file ≡ sealed_file subkey pad header body

-- What is read out of a file is this header and this body.
pub record HoldsParts (file header body : List ℕ) : Type 0 where
  pub same_header : header_in file ≡ header
  pub same_body : body_in file ≡ body

-- An answer that accepts exactly the files that the writer makes.
pub record Exact (subkey : Block) (pad : Pad) (file : List ℕ)
    (answer : Result Lengths Refusal) : Type 0 where
  -- accepted exactly where the writer makes the file from the header and body read out of it
  pub exactly : IsOk answer ↔ IsSealOf subkey pad (header_in file) (body_in file) file
  -- and answered with the lengths of these two
  pub lengths : IfOk answer (λ lens. lens ≡ lengths_in file)
  -- whatever header and body the writer made the file from, they are what is read out of it
  pub only : (header body : List ℕ)
      → IsSealOf subkey pad header body file
      → HoldsParts file header body

-- What a header and a body are sealed into is accepted, and both are read out of it again.
pub record Reopens (subkey : Block) (pad : Pad) (header body : List ℕ) : Type 0 where
  pub accepted :
      verdict subkey pad (sealed_file subkey pad header body) ≡ Ok (lengths_of header body)
  pub again : HoldsParts (sealed_file subkey pad header body) header body
