use Rattle.std.proofs.Common.{rules}
use Rattle.engine.proofs.Subkeys.{one_subkey}
use Rattle.engine.proofs.pair.PairEngine.switch.Goals as goal

pub returns-in-First : goal.returns-in-First
returns-in-First g c =
    let same = one_subkey g.A.Engine g.B.Engine c.args.self.now c.ready.ensures.answer c.if-not-ready.false
    in search rules

pub returns-in-Second : goal.returns-in-Second
returns-in-Second g c =
    let same = one_subkey g.A.Engine g.B.Engine c.args.self.now c.ready.ensures.answer c.if-not-ready.false
    in search rules
