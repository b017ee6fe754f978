-- The rows of the table.
use Rattle.std.proofs.Common.{◌≡◌, ℕ, [], ◌∷◌, replicate, refl, ap, ◌∙◌, ap₂, arith}
use Rattle.field.specs.Binary.{bit_product, times_x_power}
use Rattle.field.specs.Digits.{numeral, digits}
use Rattle.field.specs.Evaluation.{eval, power}
use Rattle.field.specs.Kinds.{nibble, block_ring, nibble_ring}
use Rattle.field.specs.declared.nibble.Nibble.{Nibble}
use Rattle.field.specs.declared.block.Block.{Block}
use Rattle.field.proofs.Horner.{zero_product}
use Rattle.field.specs.Instances.{same_block, same_nibble, same_word, block_ring_laws}
use Rattle.polynomial.specs.Polynomials.{coefficient_list, conjugates}
use Rattle.message.specs.Blocks.{blocks, block_of_lengths}
use Rattle.message.specs.Hash.{hash_of}
use Rattle.readings.specs.Table.{Table}

no_lengths : block_of_lengths [] [] ≡ block_ring.zero
unfolding block_of_lengths digits numeral
no_lengths = same_block _ _ refl

empty_eval : (subkey : Block) → hash_of subkey [] [] ≡ block_ring.zero
unfolding hash_of blocks
empty_eval subkey =
    ap (λ (b : Block). eval block_ring subkey (b ∷ [])) no_lengths
    ∙ ap (λ (b : Block). block_ring.sum b block_ring.zero) (zero_product block_ring block_ring_laws (power block_ring subkey 1))
    ∙ block_ring_laws.sum_zero block_ring.zero

-- five coefficients, each one
ones : conjugates nibble_ring (nibble 0b1000) 4 ≡ replicate 5 (nibble 0b0001)
unfolding bit_product times_x_power
ones =
    ap₂ ◌∷◌ (same_nibble _ (nibble 0b0001) refl)
    (ap₂ ◌∷◌ (same_nibble _ (nibble 0b0001) refl)
    (ap₂ ◌∷◌ (same_nibble _ (nibble 0b0001) refl)
    (ap₂ ◌∷◌ (same_nibble _ (nibble 0b0001) refl)
    (ap (λ (n : Nibble). n ∷ []) (same_nibble _ (nibble 0b0001) refl)))))

pub table : Table
unfolding bit_product times_x_power numeral digits hash_of blocks block_of_lengths coefficient_list
table = record {
  nibble_product_row = same_nibble _ _ refl;
  nibble_value_row = same_nibble _ _ refl;
  nibble_modulus_row = same_nibble _ _ refl;
  word_one_row = same_word _ _ refl;
  word_two_row = same_word _ _ refl;
  block_value_row = same_block _ _ refl;
  first_proposal_row = same_nibble _ _ refl;
  second_proposal_row = same_nibble _ _ refl;
  third_proposal_row = λ e. let bits : ◌≡◌ {A = ℕ} 1 0 = ap (λ (n : Nibble). n.bits) e in omega arith;
  made_product_row = ones;
  empty_hash_row = λ subkey. empty_eval subkey ∙ same_block _ _ refl;
  empty_tag_row = λ subkey pad.
      ap (λ (b : Block). block_ring.sum b pad.0) (empty_eval subkey)
      ∙ block_ring_laws.sum_comm block_ring.zero pad.0
      ∙ block_ring_laws.sum_zero pad.0;
  body_only_row = same_block _ _ refl;
  header_only_row = same_block _ _ refl;
}
