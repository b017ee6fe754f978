use Rattle.std.proofs.Common.{◌≡◌, ℕ, ◌+◌, ◌*◌, ◌%◌, ◌^◌, ◌++◌, sym, ap, ◌∙◌, ap₂, mul_comm, lit<}
use Rattle.field.specs.Digits.{numeral, digits}
use Rattle.field.specs.Kinds.{block}
use Rattle.field.proofs.Digits.{length_digits, numeral_append, numeral_digits}
use Rattle.message.specs.Blocks.{block_of_counts}
use Rattle.message.proofs.blocks.block_of_byte_counts.Goals as goal

-- two numbers of eight bytes, written one after the other
halves : (a b : ℕ) → numeral 256 (digits 256 8 (8 * a) ++ digits 256 8 (8 * b)) ≡ 8 * a % 2 ^ 64 * 2 ^ 64 + 8 * b % 2 ^ 64
halves a b =
    numeral_append 256 (digits 256 8 (8 * a)) (digits 256 8 (8 * b))
    ∙ ap₂ (λ (x y : ℕ). x + y)
    (ap₂ (λ (x n : ℕ). x * 256 ^ n) (numeral_digits 256 (lit< tt) 8 (8 * a)) (length_digits 256 8 (8 * b)))
    (numeral_digits 256 (lit< tt) 8 (8 * b))

pub returns : goal.returns
unfolding block_of_counts
returns c =
    let h : ℕ = c.args.header in
    let b : ℕ = c.args.body in
    c.from_halves.ensures
    ∙ ap block (ap₂ (λ (x y : ℕ). x % 2 ^ 64 * 2 ^ 64 + y % 2 ^ 64) (mul_comm h 8) (mul_comm b 8) ∙ sym (halves h b))
