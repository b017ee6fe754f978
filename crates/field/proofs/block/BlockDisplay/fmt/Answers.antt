use Rattle.std.proofs.Common.{ℕ, ◌/◌, ◌%◌, ◌^◌, arith, rules}
use Rattle.field.proofs.Printed.{zero_filled, halves}
use Rattle.field.proofs.block.BlockDisplay.fmt.Goals as goal

pub returns-clause-writes : goal.returns-clause-writes
returns-clause-writes g c =
    let bits : ℕ = c.args.self.now.bits in
    let high = zero_filled 16 (omega arith) 15 (bits / 2 ^ 64) (omega arith) (omega (arith, c.args.self.now.fits)) in
    let low = zero_filled 16 (omega arith) 15 (bits % 2 ^ 64) (omega arith) (omega arith) in
    let joined = halves bits in
    search (rules, high, low, joined)
