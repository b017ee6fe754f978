-- Blocks, nibbles and words: how a number enters each, and what zero, one, sum and product are.
use Rattle.std.specs.Prelude.{ℕ, ◌+◌, ◌-◌, ◌*◌, ◌%◌, ◌^◌, bit_xor}
use Rattle.std.proofs.Common.{mod-lt, lit<}
use Rattle.field.specs.Binary.{FieldShape, high_first, low_first, bit_product}
use Rattle.field.specs.declared.element.Element.{Ghosts}
use Rattle.field.specs.declared.block.Block.{Block}
use Rattle.field.specs.declared.nibble.Nibble.{Nibble}
use Rattle.field.specs.declared.word.Word.{Word}

-- a number enters by its remainder
abbrev pub block : ℕ → Block
block n = record { bits = n % 2 ^ 128; fits = mod-lt n (lit< tt) }

abbrev pub nibble : ℕ → Nibble
nibble n = record { bits = n % 2 ^ 4; fits = mod-lt n (lit< tt) }

abbrev pub word : ℕ → Word
word n = record { value = n % (2 ^ 31 - 1); fits = mod-lt n (lit< tt) }

-- Modulo x^128 + x^7 + x^2 + x + 1, as in NIST SP 800-38D, section 6.3. The coefficient of x^0 is the highest bit, so that
-- 1 + x + x^2 + x^7 is written as 11100001 and 120 zeros.
abbrev pub block_shape : FieldShape
block_shape = high_first 128 (0xE1 * 2 ^ 120)

-- Modulo x^4 + x + 1. The coefficient of x^0 is the lowest bit, so that x + 1 is written as 0011.
abbrev pub nibble_shape : FieldShape
nibble_shape = low_first 4 3

-- The ring of a shape, over a type whose values are read as numbers by `bits` and made of numbers by `enter`: a sum is an xor.
abbrev pub ring_of : {V : Type 0} → FieldShape → (V → ℕ) → (ℕ → V) → Ghosts V
ring_of shape bits enter = record {
  zero = enter 0;
  one = enter shape.unit;
  sum = λ u v. enter (bit_xor (bits u) (bits v));
  product = λ u v. enter (bit_product shape shape.width (bits u) (bits v));
}

abbrev pub block_ring : Ghosts Block
block_ring = ring_of block_shape (λ u. u.bits) block

abbrev pub nibble_ring : Ghosts Nibble
nibble_ring = ring_of nibble_shape (λ u. u.bits) nibble

-- the whole numbers modulo 2^31 - 1
abbrev pub word_ring : Ghosts Word
word_ring = record {
  zero = word 0;
  one = word 1;
  sum = λ u v. word (u.value + v.value);
  product = λ u v. word (u.value * v.value);
}
