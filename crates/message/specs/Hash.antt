-- The hash and the tag of a header and a body.
use Rattle.std.specs.Prelude.{ℕ, List}
use Rattle.field.specs.Evaluation.{eval}
use Rattle.field.specs.Kinds.{block_ring}
use Rattle.field.specs.declared.block.Block.{Block}
use Rattle.message.specs.Blocks.{block_list}
use Rattle.message.specs.declared.digest.Pad.{Pad}
use Rattle.message.specs.declared.digest.Tag.{Tag}

-- the evaluation of the block list at the subkey
unfoldable pub hash_of : Block → List ℕ → List ℕ → Block
hash_of subkey header body = eval block_ring subkey (block_list header body)

-- the tag that a hash makes under a pad: both added
abbrev pub tag_under : Pad → Block → Tag
tag_under pad hash = record { 0 = block_ring.sum hash pad.0 }

-- the tag of a header and a body
abbrev pub tag_of : Block → Pad → List ℕ → List ℕ → Tag
tag_of subkey pad header body = tag_under pad (hash_of subkey header body)
