use Rattle.std.proofs.Common.{arith}
use Rattle.polynomial.proofs.Made.{found_made, found_annihilates}
use Rattle.polynomial.proofs.Values.{conjugates_value}
use Rattle.polynomial.proofs.maker.make_polynomial.Goals as goal

pub returns-then-scratch-width-clause-factors : goal.returns-then-scratch-width-clause-factors
returns-then-scratch-width-clause-factors g c = λ point n. conjugates_value g.K.Element g.met.K.Element.ring point c.args.subkey n

pub returns-clause-value : goal.returns-clause-value
returns-clause-value g c =
    rw c.ok_or.ensures.value
    (found_made g.K.Element g.met.K.Element.ring g.K.Binary c.args.subkey _ c.find_bits.result
    (omega (arith, c.width.ensures)) c.find_bits.ensures.value)

pub returns-clause-annihilates : goal.returns-clause-annihilates
returns-clause-annihilates g c =
    rw c.ok_or.ensures.value
    (found_annihilates g.K.Element g.met.K.Element.ring g.K.Binary c.args.subkey g.met.K.Binary.laws
    c.find_bits.result c.find_bits.ensures.value)

pub returns-clause-factors : goal.returns-clause-factors
returns-clause-factors g c = λ point n. conjugates_value g.K.Element g.met.K.Element.ring point c.args.subkey n
