-- A block as 16 bytes and a word as two, the first byte highest.
use Rattle.std.specs.Prelude.{ℕ, List}
use Rattle.field.specs.Digits.{numeral, digits}
use Rattle.field.specs.Kinds.{block, word}
use Rattle.field.specs.declared.block.Block.{Block}
use Rattle.field.specs.declared.word.Word.{Word}

-- the block that 16 bytes write
abbrev pub block_of : List ℕ → Block
block_of bytes = block (numeral 256 bytes)

-- the 16 bytes of a block
abbrev pub bytes_of : Block → List ℕ
bytes_of b = digits 256 16 b.bits

-- the word that two bytes write
abbrev pub word_of : List ℕ → Word
word_of bytes = word (numeral 256 bytes)
