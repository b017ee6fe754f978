-- The blocks of a part that are already full, and the bytes after them.
use Rattle.std.specs.Prelude.{ℕ, ◌*◌, ◌/◌, List, length, drop}
use Rattle.field.specs.declared.block.Block.{Block}
use Rattle.message.specs.Blocks.{first_blocks}

unfoldable pub full_blocks : List ℕ → List Block
full_blocks bytes = first_blocks (length bytes / 16) bytes

unfoldable pub left_over : List ℕ → List ℕ
left_over bytes = drop (16 * (length bytes / 16)) bytes
