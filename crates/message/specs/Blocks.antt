-- A header and a body as a list of blocks.
use Rattle.std.specs.Prelude.{ℕ, ◌+◌, ◌-◌, ◌*◌, ◌/◌, ◌<◌, List, [], ◌∷◌, ◌++◌, length, map, replicate, slice_index}
use Rattle.std.specs.Simd.{first_chunks}
use Rattle.field.specs.Bytes.{block_of}
use Rattle.field.specs.Digits.{digits}
use Rattle.field.specs.declared.block.Block.{Block}

-- numbers below 256
abbrev pub AreBytes : List ℕ → Type 0
AreBytes xs = (k : ℕ) → slice_index xs k < 256

-- how many blocks of 16 bytes n bytes take, the last of which may be short
abbrev pub blocks_taken : ℕ → ℕ
blocks_taken n = (n + 15) / 16

-- zeros up to 16 bytes
abbrev pub filled_piece : List ℕ → List ℕ
filled_piece piece = piece ++ replicate (16 - length piece) 0

-- the block of up to 16 bytes
abbrev pub block_from : List ℕ → Block
block_from piece = block_of (filled_piece piece)

-- n blocks, 16 bytes at a time
abbrev pub first_blocks : ℕ → List ℕ → List Block
first_blocks n bytes = map block_from (first_chunks 16 n bytes)

-- the blocks of one part; an empty part has none
unfoldable pub blocks : List ℕ → List Block
blocks bytes = first_blocks (blocks_taken (length bytes)) bytes

-- the lengths of both parts in bits, eight bytes each
unfoldable pub block_of_lengths : List ℕ → List ℕ → Block
block_of_lengths header body = block_of (digits 256 8 (8 * length header) ++ digits 256 8 (8 * length body))

-- the lengths of both parts, handed in bytes and written in bits, eight bytes each
unfoldable pub block_of_counts : ℕ → ℕ → Block
block_of_counts header body = block_of (digits 256 8 (8 * header) ++ digits 256 8 (8 * body))

abbrev pub block_list : List ℕ → List ℕ → List Block
block_list header body = blocks header ++ (blocks body ++ (block_of_lengths header body ∷ []))
