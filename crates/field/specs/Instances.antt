-- Blocks, nibbles and words are residues, and each kind is a commutative ring.
use Rattle.std.specs.Prelude.{◌≡◌, ◌-◌, ◌*◌, ◌^◌, ◌<◌, bit_xor, refl}
use Rattle.std.proofs.Common.{ap, lit<}
use mathlib.Core.HLevel.{is_prop→PathP}
use Rattle.std.proofs.Math.Bridge.{le_prop}
use Rattle.std.specs.Int.Bits.{xor_self}
use Rattle.field.specs.Ring.{CommutativeRing}
use Rattle.field.specs.Binary.{bit_product}
use Rattle.field.specs.Kinds.{block, nibble, word, block_shape, nibble_shape, block_ring, nibble_ring, word_ring}
use Rattle.field.specs.declared.block.Block.{Block}
use Rattle.field.specs.declared.nibble.Nibble.{Nibble}
use Rattle.field.specs.declared.word.Word.{Word}
use Rattle.field.specs.Residues.{Residues}
use Rattle.field.specs.Products.{Lawful}
use Rattle.field.specs.Orders.{high_lawful, low_lawful}
use Rattle.field.specs.BinaryRing.{binary_ring, sum_number, product_number}
use Rattle.field.specs.ModularRing.{modular_ring}

-- that a number lies below its limit has one proof, so a value is known by its number
pub same_block : (u v : Block) → u.bits ≡ v.bits → u ≡ v
same_block u v e i = record { bits = e i; fits = is_prop→PathP (λ j. e j < 2 ^ 128) (λ j. le_prop) u.fits v.fits i }

pub same_nibble : (u v : Nibble) → u.bits ≡ v.bits → u ≡ v
same_nibble u v e i = record { bits = e i; fits = is_prop→PathP (λ j. e j < 2 ^ 4) (λ j. le_prop) u.fits v.fits i }

pub same_word : (u v : Word) → u.value ≡ v.value → u ≡ v
same_word u v e i = record { value = e i; fits = is_prop→PathP (λ j. e j < 2 ^ 31 - 1) (λ j. le_prop) u.fits v.fits i }

abbrev pub block_residues : Residues Block (2 ^ 128)
block_residues = record { value = λ v. v.bits; fits = λ v. v.fits; enter = block; value_enter = λ n. refl; same = same_block }

abbrev pub nibble_residues : Residues Nibble (2 ^ 4)
nibble_residues = record { value = λ v. v.bits; fits = λ v. v.fits; enter = nibble; value_enter = λ n. refl; same = same_nibble }

abbrev pub word_residues : Residues Word (2 ^ 31 - 1)
word_residues = record { value = λ v. v.value; fits = λ v. v.fits; enter = word; value_enter = λ n. refl; same = same_word }

-- the two shapes are lawful: the modulus without its highest term is written within the width
pub block_lawful : Lawful block_shape
block_lawful = high_lawful 128 (0xE1 * 2 ^ 120) (lit< tt) (lit< tt)

pub nibble_lawful : Lawful nibble_shape
nibble_lawful = low_lawful 4 3 (lit< tt) (lit< tt)

-- the laws of the three rings
pub block_ring_laws : CommutativeRing block_ring.zero block_ring.one block_ring.sum block_ring.product
block_ring_laws = binary_ring block_shape block_lawful block_residues

pub nibble_ring_laws : CommutativeRing nibble_ring.zero nibble_ring.one nibble_ring.sum nibble_ring.product
nibble_ring_laws = binary_ring nibble_shape nibble_lawful nibble_residues

pub word_ring_laws : CommutativeRing word_ring.zero word_ring.one word_ring.sum word_ring.product
word_ring_laws = modular_ring word_residues (lit< tt)

-- the bits of a sum and of a product of blocks, with no remainder
pub block_sum_bits : (u v : Block) → (block_ring.sum u v).bits ≡ bit_xor u.bits v.bits
block_sum_bits = sum_number block_shape block_lawful block_residues

pub block_product_bits : (u v : Block) → (block_ring.product u v).bits ≡ bit_product block_shape 128 u.bits v.bits
block_product_bits = product_number block_shape block_lawful block_residues

-- a block is its own negative
pub block_even : (x : Block) → block_ring.sum x x ≡ block_ring.zero
block_even x = ap block (xor_self x.bits)
