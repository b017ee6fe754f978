-- What the calls of a C program answer, over the numbers and the bytes that they are handed.
use Rattle.std.specs.Prelude.{◌≡◌, ℕ, ◌+◌, ◌-◌, ◌*◌, ◌^◌, if◌then◌else◌, List, ◌++◌, length, drop, ℤ, pos, negsuc, Ok, Err, Result, bit_or, nat_lt, fold}
use Rattle.field.specs.Bytes.{bytes_of}
use Rattle.field.specs.Kinds.{block, block_ring}
use Rattle.field.specs.declared.block.Block.{Block}
use Rattle.message.specs.Hash.{hash_of, tag_of}
use Rattle.message.specs.Limits.{within_limits}
use Rattle.message.specs.declared.digest.Pad.{Pad}
use Rattle.polynomial.specs.Bits.{ones_below}
use Rattle.polynomial.specs.Blocks.{coefficients_of}
use Rattle.polynomial.specs.Polynomials.{Annihilates}
use Rattle.refusal.specs.Refusals.{refusal_number}
use Rattle.refusal.specs.declared.Refusal.{Refusal}
use Rattle.refusal.specs.declared.Refusal.TheVariants.{DoesNotAnnihilate, OutputTooShort}
use Rattle.tag.specs.Tags.{check_answer}

-- a block of two numbers, the first byte highest in the first
abbrev pub halves : ℕ → ℕ → Block
halves high low = block (high * 2 ^ 64 + low)

-- a pad of two numbers
abbrev pub pad_halves : ℕ → ℕ → Pad
pad_halves high low = record { 0 = halves high low }

-- the number of a refusal, made negative
abbrev pub refusal_status : Refusal → ℤ
refusal_status refusal = negsuc (refusal_number refusal - 1)

-- zero, or the number of the refusal
abbrev pub status_of : Result (Unit {0}) Refusal → ℤ
status_of (Ok x) = pos 0
status_of (Err refusal) = refusal_status refusal

-- the number that is answered, or that of the refusal
abbrev pub number_status : Result ℕ Refusal → ℤ
number_status (Ok number) = pos number
number_status (Err refusal) = refusal_status refusal

-- the room for the answer is looked at last
abbrev pub tag_call_answer : List ℕ → List ℕ → List ℕ → Result (Unit {0}) Refusal
tag_call_answer header body output =
    within_limits header body (if nat_lt (length output) 32 then Err OutputTooShort else Ok tt)

-- what an accepted call writes, and a refused one does not
abbrev pub output_if : Result (Unit {0}) Refusal → List ℕ → List ℕ → List ℕ
output_if (Ok x) bytes output = bytes ++ drop (length bytes) output
output_if (Err refusal) bytes output = output

-- the output afterwards: the 16 bytes of the hash, those of the tag, and what stood after them
abbrev pub output_after : Block → Pad → List ℕ → List ℕ → List ℕ → List ℕ
output_after subkey pad header body output =
    output_if (tag_call_answer header body output)
    (bytes_of (hash_of subkey header body) ++ bytes_of (tag_of subkey pad header body).0)
    output

-- What a call that makes a tag answers, and the output before and after it.
pub record AnswersTag (subkey_high subkey_low pad_high pad_low : ℕ) (header body before : List ℕ)
    (status : ℤ) (after : List ℕ) : Type 0 where
  pub value : status ≡ status_of (tag_call_answer header body before)
  pub output : after
      ≡ output_after (halves subkey_high subkey_low) (pad_halves pad_high pad_low)
      header body before

-- what a call that checks a tag answers
abbrev pub AnswersCheck : (subkey_high subkey_low pad_high pad_low : ℕ)
    (header body given : List ℕ) (status : ℤ) → Type 0
AnswersCheck subkey_high subkey_low pad_high pad_low header body given status =
    status
    ≡ status_of (check_answer (halves subkey_high subkey_low) (pad_halves pad_high pad_low)
    header body given)

module _ (subkey proposal : Block) where
  -- the polynomial that the proposal stands for is zero at the subkey
  abbrev pub IsAnnihilated : Type 0
  IsAnnihilated = Annihilates block_ring 128 (coefficients_of proposal) subkey

  -- the number of ones where the polynomial annihilates the subkey; a refusal exactly where it does not
  abbrev pub Weighs : Result ℕ Refusal → Type 0
  Weighs (Ok weight) = IsAnnihilated × (weight ≡ ones_below 128 (coefficients_of proposal))
  Weighs (Err refusal) = ¬ IsAnnihilated × (refusal ≡ DoesNotAnnihilate)

-- What a call that tries a polynomial answers: the number of ones, or the number of the refusal.
pub record TriesPolynomial (subkey_high subkey_low proposal_high proposal_low : ℕ)
    (status : ℤ) : Type 0 where
  pub answer : Result ℕ Refusal
  pub weighs : Weighs (halves subkey_high subkey_low) (halves proposal_high proposal_low) answer
  pub value : status ≡ number_status answer

-- bits, and every bit that stands in some block
abbrev pub bits_from : ℕ → List Block → ℕ
bits_from bits scratch = fold (λ found b. bit_or found b.bits) bits scratch
