-- Where each block of a header and a body stands.
use Rattle.std.specs.Prelude.{◌≡◌, ℕ, ◌+◌, ◌-◌, ◌*◌, if◌then◌else◌, List, [], ◌++◌, map, length, take, drop, Some, None, Option, nat_lt}
use Rattle.std.specs.List.{concat, range_with_len}
use Rattle.message.specs.Blocks.{block_from, blocks_taken, blocks}
use Rattle.message.specs.declared.found.Found.{Found}
use Rattle.message.specs.declared.part.Part.{Part}
use Rattle.message.specs.declared.part.Part.TheVariants.{Header, Body}

module _ (header body : List ℕ) where
  abbrev pub block_count : ℕ
  block_count = blocks_taken (length header) + blocks_taken (length body)

  -- the part of block n, and the offset in it
  abbrev pub block_place : ℕ → Option (Part × ℕ)
  block_place n =
      if nat_lt n (blocks_taken (length header)) then Some (Header, 16 * n)
      else if nat_lt n block_count then Some (Body, 16 * (n - blocks_taken (length header)))
      else None

  abbrev pub part_bytes : Part → List ℕ
  part_bytes Header = header
  part_bytes Body = body

  -- the bytes at a place: 16, or those that are left
  abbrev pub bytes_at : Option (Part × ℕ) → List ℕ
  bytes_at None = []
  bytes_at (Some (part, offset)) = take 16 (drop offset (part_bytes part))

  -- what is found stands at the place of block n and is the bytes there; nothing is found where there is no block n
  abbrev pub Finds : ℕ → Option Found → Type 0
  Finds n None = block_place n ≡ None
  Finds n (Some found) =
      (block_place n ≡ Some (found.part, found.offset))
      × (found.bytes.now ≡ bytes_at (block_place n))

  -- the bytes of every block, in order
  abbrev pub block_pieces : List (List ℕ)
  block_pieces = map (λ n. bytes_at (block_place n)) (range_with_len 0 block_count)

-- The blocks found, filled with zeros, are those that are hashed, and every byte stands in one of them, in order.
pub record CoversMessage (header body : List ℕ) : Type 0 where
  pub filled : map block_from (block_pieces header body) ≡ blocks header ++ blocks body
  pub bytes : concat (block_pieces header body) ≡ header ++ body
