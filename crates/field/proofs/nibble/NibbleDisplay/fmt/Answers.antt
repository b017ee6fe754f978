use Rattle.std.proofs.Common.{arith, rules}
use Rattle.field.proofs.Printed.{zero_filled}
use Rattle.field.proofs.nibble.NibbleDisplay.fmt.Goals as goal

pub returns-clause-writes : goal.returns-clause-writes
returns-clause-writes g c =
    let spelt = zero_filled 2 (omega arith) 3 c.args.self.now.bits (omega arith) c.args.self.now.fits in
    search (rules, spelt)
