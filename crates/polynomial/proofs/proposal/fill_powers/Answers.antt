use Rattle.std.proofs.Common.{◌≡◌, ℕ, ◌+◌, ◌<◌, map, length, ap, add-one, arith}
use Rattle.std.specs.List.{range_with_len}
use Rattle.std.proofs.lemmas.List.FromFn.{length-map-range_with_len, map-range_with_len_more}
use Rattle.field.specs.Evaluation.{power}
use Rattle.polynomial.proofs.Fill.{fill_more}
use Rattle.polynomial.proofs.proposal.fill_powers.Goals as goal

pub loop-power-preserved : goal.loop-power-preserved
loop-power-preserved g c =
    let k : ℕ = c.loop-power.power-index in
    let f : ℕ → g.row.E.Denot = power g.E.Element c.args.key in
    let within : k < length c.args.powers.now = omega arith in
    let filled = fill_more c.args.powers.now (map f (range_with_len 0 k)) k (f k) within (length-map-range_with_len f 0 k) in
    let more = map-range_with_len_more f 0 k k (omega arith) in
    let next : f (k + 1) ≡ g.E.Element.product c.args.key (f k) = ap f (add-one k) in
    (cc, cc)
