-- What a scan of a file's blocks goes through.
use Rattle.std.specs.Prelude.{◌≡◌, ℕ, ◌+◌, ◌-◌, ◌*◌, ◌/◌, ◌≤◌, if◌then◌else◌, List, length, drop, Some, Ok, Err, Result, ◌==◌}
use Rattle.std.specs.Simd.{first_chunks}
use Rattle.refusal.specs.declared.Refusal.{Refusal}
use Rattle.format.specs.Layout.{block_length, most_blocks, file_limit, header_kind, body_kind}
use Rattle.format.specs.Faults.{no_predecessor, predecessor_at, scan_result, blocks_of_kind, data_of}
use Rattle.format.specs.Kinds.{kind_number}
use Rattle.reading.specs.Shapes.{predecessor_of}
use Rattle.reading.specs.declared.scan.Scan.{Scan}
use Rattle.reading.specs.declared.shape.Shape.{Shape}
use Rattle.reading.specs.declared.tally.Tally.{Tally}

-- one block more, with so many bytes of data
abbrev pub tally_with : Tally → ℕ → Tally
tally_with t used = record { blocks = t.blocks + 1; bytes = t.bytes + used }

-- No more than one file can have.
pub record IsWithinFile (t : Tally) : Type 0 where
  pub blocks : t.blocks ≤ most_blocks
  pub bytes : t.bytes ≤ file_limit

-- one block more, which counts for the part of its kind
abbrev pub scan_after : Scan → Shape → Scan
scan_after s b = record {
  last = Some b;
  header = if kind_number b.kind == header_kind then tally_with s.header b.used else s.header;
  body = if kind_number b.kind == body_kind then tally_with s.body b.used else s.body;
}

-- How many blocks of a kind there are, and how many bytes of data they have.
pub record IsTallyOf (kind : ℕ) (bs : List (List ℕ)) (t : Tally) : Type 0 where
  pub blocks : t.blocks ≡ length (blocks_of_kind kind bs)
  pub bytes : t.bytes ≡ length (data_of kind bs)

-- Blocks without fault: what the last of them says, and how much of each part they have.
pub record IsScanOf (bs : List (List ℕ)) (s : Scan) : Type 0 where
  pub sound : scan_result 0 no_predecessor bs ≡ Ok (predecessor_of s.last)
  pub header : IsTallyOf header_kind bs s.header
  pub body : IsTallyOf body_kind bs s.body

-- what all blocks say, or the first fault
abbrev pub ScansBlocks : List (List ℕ) → Result Scan Refusal → Type 0
ScansBlocks bs (Ok s) = IsScanOf bs s
ScansBlocks bs (Err e) = scan_result 0 no_predecessor bs ≡ Err e

-- A scan of a file comes to block k without a fault: what it answers from there on is what it answers at all.
abbrev pub Reached : List ℕ → ℕ → Type 0
Reached file k =
    scan_result 0 no_predecessor (first_chunks block_length (length file / block_length) file)
    ≡ scan_result k (predecessor_at file k)
    (first_chunks block_length (length file / block_length - k) (drop (block_length * k) file))
