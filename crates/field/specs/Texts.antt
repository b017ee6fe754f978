-- What is printed of a block, a nibble and a word.
use Rattle.std.specs.Prelude.{ℕ, false, List, map, decimal}
use Rattle.std.specs.Fmt.{digit_glyph}
use Rattle.field.specs.Digits.{digits}
use Rattle.field.specs.declared.block.Block.{Block}
use Rattle.field.specs.declared.nibble.Nibble.{Nibble}
use Rattle.field.specs.declared.word.Word.{Word}

-- the n lowest digits of a number, the highest first, from '0' to '9' and on from 'a'
abbrev pub digits_text : ℕ → ℕ → ℕ → List ℕ
digits_text base n v = map (digit_glyph false) (digits base n v)

-- 32 hexadecimal digits
abbrev pub block_text : Block → List ℕ
block_text b = digits_text 16 32 b.bits

-- four bits
abbrev pub nibble_text : Nibble → List ℕ
nibble_text n = digits_text 2 4 n.bits

-- the number in decimal
abbrev pub word_text : Word → List ℕ
word_text w = decimal w.value
