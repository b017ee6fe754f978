use Rattle.std.proofs.Common.{◌≡◌, ℕ, suc, ◌+◌, ◌-◌, ◌*◌, ◌/◌, ◌%◌, ◌^◌, ap, ◌∙◌, subst, arith}
use Rattle.field.proofs.Turns.{moved_top}
use Rattle.field.proofs.block.BlockPolynomial.coefficient.Goals as goal

pub returns-clause-value : goal.returns-clause-value
returns-clause-value c =
    let n : ℕ = c.args.number in
    let k : ℕ = c.args.k in
    let j : ℕ = 127 - k in
    let left : j + k ≡ 127 = omega arith in
    let same : j ≡ 128 - suc k = omega arith in
    subst (λ (w : ℕ). n * 2 ^ k % 2 ^ (1 + w) / 2 ^ w ≡ n / 2 ^ j % 2) left (moved_top n k j)
    ∙ ap (λ (m : ℕ). n / 2 ^ m % 2) same
