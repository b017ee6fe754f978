-- The sealed file: blocks of 512 bytes, laid one after another.
use Rattle.std.specs.Prelude.{ℕ, suc, ◌+◌, ◌-◌, ◌/◌, List, [], ◌∷◌, ◌++◌, map, length, replicate}
use Rattle.std.specs.List.{concat}
use Rattle.std.specs.Simd.{first_chunks}
use Rattle.field.specs.Bytes.{bytes_of, word_of}
use Rattle.field.specs.Digits.{digits}
use Rattle.field.specs.Evaluation.{eval}
use Rattle.field.specs.Kinds.{word, word_ring}
use Rattle.field.specs.declared.block.Block.{Block}
use Rattle.field.specs.declared.word.Word.{Word}
use Rattle.message.specs.Hash.{tag_of}
use Rattle.message.specs.declared.digest.Pad.{Pad}

-- ---- sizes, in bytes where nothing else is said

abbrev pub block_length : ℕ
block_length = 512

-- where the check stands in a block
abbrev pub check_place : ℕ
check_place = 508

-- the most data in one block
abbrev pub data_limit : ℕ
data_limit = 502

-- the data of an end block
abbrev pub tag_length : ℕ
tag_length = 16

-- the most blocks in a file
abbrev pub most_blocks : ℕ
most_blocks = 65536

-- and their bytes
abbrev pub file_limit : ℕ
file_limit = 33554432

-- ---- kinds of blocks

abbrev pub header_kind : ℕ
header_kind = 1

abbrev pub body_kind : ℕ
body_kind = 2

abbrev pub end_kind : ℕ
end_kind = 3

-- ---- how many blocks

-- how many blocks so many bytes of a part take: the quotient by 502, rounded up
abbrev pub piece_count : ℕ → ℕ
piece_count bytes = (bytes + 501) / 502

-- how many blocks the file of a header and a body of these lengths has
abbrev pub blocks_for : ℕ → ℕ → ℕ
blocks_for header body = piece_count header + piece_count body + 1

-- ---- one block

-- What one block carries: its kind and its data.
pub record Content : Type 0 where
  pub kind : ℕ
  pub bytes : List ℕ

abbrev pub content : ℕ → List ℕ → Content
content kind bytes = record { kind = kind; bytes = bytes }

-- bytes 0 to 507, those that the check is made of: number, kind, reserve, used length, data, and zeros past them
unfoldable pub checked_bytes : ℕ → Content → List ℕ
checked_bytes n c =
    digits 256 2 n
    ++ (c.kind
    ∷ (0
    ∷ (digits 256 2 (length c.bytes)
    ++ (c.bytes
    ++ replicate (data_limit - length c.bytes) 0))))

-- bytes as words, two bytes each, high byte first; an odd last byte is none
abbrev pub words_of : List ℕ → List Word
words_of bytes = map word_of (first_chunks 2 (length bytes / 2) bytes)

-- the check of bytes: their words evaluated at 16,807
unfoldable pub check_of : List ℕ → ℕ
check_of bytes = (eval word_ring (word 16807) (words_of bytes)).value

-- a block with its check, high byte first
abbrev pub block_bytes : ℕ → Content → List ℕ
block_bytes n c = checked_bytes n c ++ digits 256 4 (check_of (checked_bytes n c))

-- ---- a file

-- a part in pieces of 502 bytes, the last of which may be shorter; none for an empty part
unfoldable pub data_pieces : List ℕ → List (List ℕ)
data_pieces bytes = first_chunks data_limit (piece_count (length bytes)) bytes

-- header blocks, body blocks, one end block with the tag
abbrev pub file_contents : List ℕ → List ℕ → List ℕ → List Content
file_contents header body tag =
    map (content header_kind) (data_pieces header)
    ++ (map (content body_kind) (data_pieces body)
    ++ (content end_kind tag ∷ []))

-- the blocks that carry these contents, with numbers from n on
abbrev pub blocks_from : ℕ → List Content → List (List ℕ)
blocks_from n [] = []
blocks_from n (c ∷ cs) = block_bytes n c ∷ blocks_from (suc n) cs

-- and their bytes, block after block
abbrev pub numbered_blocks : ℕ → List Content → List ℕ
numbered_blocks n cs = concat (blocks_from n cs)

-- the file that seals a header and a body under a subkey and a pad
unfoldable pub sealed_file : Block → Pad → List ℕ → List ℕ → List ℕ
sealed_file subkey pad header body =
    numbered_blocks 0 (file_contents header body (bytes_of (tag_of subkey pad header body).0))
