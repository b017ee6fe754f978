-- Readings of the definitions: what some products, evaluations, hashes and tags are.
use Rattle.std.specs.Prelude.{◌≡◌, ℕ, List, [], ◌∷◌, ◌++◌, replicate, Ok, Err, Result}
use Rattle.field.specs.Bytes.{block_of}
use Rattle.field.specs.Evaluation.{eval, power}
use Rattle.field.specs.Kinds.{nibble, word, nibble_shape, block_ring, nibble_ring, word_ring}
use Rattle.field.specs.declared.block.Block.{Block}
use Rattle.message.specs.Answer.{digest_answer}
use Rattle.message.specs.Hash.{hash_of, tag_of}
use Rattle.message.specs.declared.digest.Digest.{Digest}
use Rattle.message.specs.declared.digest.Pad.{Pad}
use Rattle.polynomial.specs.Bits.{bit_in}
use Rattle.polynomial.specs.Polynomials.{Annihilates, conjugates}
use Rattle.refusal.specs.declared.Refusal.{Refusal}
use Rattle.readings.specs.declared.Readings.{Readings}

abbrev zeros : ℕ → List ℕ
zeros n = replicate n 0x00

-- a byte and fifteen zeros
abbrev pub first : ℕ → Block
first byte = block_of (byte ∷ zeros 15)

-- fifteen zeros and a byte
abbrev pub last : ℕ → Block
last byte = block_of (zeros 15 ++ (byte ∷ []))

-- What the definitions say of a few elements and short messages, each value worked out.
pub record Table : Type 0 where
  pub nibble_product_row : nibble_ring.product (nibble 0b0110) (nibble 0b0011) ≡ nibble 0b1010
  pub nibble_value_row :
      eval nibble_ring (nibble 0b0010) (nibble 0b0001 ∷ (nibble 0b0001 ∷ [])) ≡ nibble 0b0110
  -- x^4 = x + 1
  pub nibble_modulus_row : power nibble_ring (nibble 0b0010) 4 ≡ nibble 0b0011
  pub word_one_row : eval word_ring (word 16807) (word 1 ∷ []) ≡ word 16807
  pub word_two_row : eval word_ring (word 16807) (word 1 ∷ (word 0 ∷ [])) ≡ word 282475249
  pub block_value_row : eval block_ring (first 0x40) (last 0x01 ∷ []) ≡ first 0xE1
  -- t^4 + t^2 + 1 and t^4 + t^3 + t^2 annihilate the nibble 0110, and t^4 + t + 1 does not
  pub first_proposal_row : Annihilates nibble_ring 4 (bit_in nibble_shape 0b0101) (nibble 0b0110)
  pub second_proposal_row : Annihilates nibble_ring 4 (bit_in nibble_shape 0b1100) (nibble 0b0110)
  pub third_proposal_row : Annihilates nibble_ring 4 (bit_in nibble_shape 0b0011) (nibble 0b0110) → ⊥
  -- the product for the nibble 1000 is t^4 + t^3 + t^2 + t + 1
  pub made_product_row : conjugates nibble_ring (nibble 0b1000) 4 ≡ replicate 5 (nibble 0b0001)
  -- an empty header and an empty body, at any subkey and under any pad
  pub empty_hash_row : (subkey : Block) → hash_of subkey [] [] ≡ block_of (zeros 16)
  pub empty_tag_row : (subkey : Block) (pad : Pad) → (tag_of subkey pad [] []).0 ≡ pad.0
  pub body_only_row : hash_of (first 0x80) [] (0x80 ∷ []) ≡ block_of (0x80 ∷ zeros 14 ++ (0x08 ∷ []))
  pub header_only_row :
      hash_of (first 0x80) (0x80 ∷ []) [] ≡ block_of (0x80 ∷ zeros 6 ++ (0x08 ∷ zeros 8))

-- those of the readings that the calls answer
abbrev pub table_readings : Pad → Readings
table_readings pad = record {
  nibble_product = nibble 0b1010;
  nibble_value = nibble 0b0110;
  word_one = word 16807;
  word_two = word 282475249;
  block_value = first 0xE1;
  empty_hash = block_of (zeros 16);
  empty_tag = pad.0;
  body_only = block_of (0x80 ∷ zeros 14 ++ (0x08 ∷ []));
  header_only = block_of (0x80 ∷ zeros 6 ++ (0x08 ∷ zeros 8));
}

-- the hash of a digest, or the refusal
abbrev pub hash_in : Result Digest Refusal → Result Block Refusal
hash_in (Ok digest) = Ok digest.hash
hash_in (Err refusal) = Err refusal

-- the hash of a header and a body at the subkey one, or the refusal
abbrev pub hash_at_one : List ℕ → List ℕ → Result Block Refusal
hash_at_one header body = hash_in (digest_answer (first 0x80) (record { 0 = block_ring.zero }) header body)
