use Rattle.std.proofs.Common.{◌≡◌, ℕ, Bool, List, filter, fold, length, ◌∙◌, ap₂, rules}
use Rattle.std.specs.List.{enumerate_from}
use Rattle.std.proofs.lemmas.Iterator.{YieldsList-from_slice}
use Rattle.std.proofs.lemmas.Iterator.Consumers.{YieldsList-at, YieldsList-from_enumerate, YieldsList-from_filter, fold_from_yields_List}
use Rattle.polynomial.proofs.Values.{coefficients_value}
use Rattle.polynomial.proofs.proposal.sum_powers.Goals as goal

pub returns : goal.returns
returns g c = λ key powers.
    let m = g.K.Element in
    let K : Type 0 = g.row.K.Denot in
    let bits : ℕ → Bool = g.K.Binary.bits c.args.proposal in
    let summed : K → List K → K = λ start ps. fold (λ sum x. m.sum sum x.1) start (filter (λ x. bits x.0) (enumerate_from 0 ps)) in
    let folded : c.fold.result ≡ summed c.zero.result c.args.powers.now =
    fold_from_yields_List _ (λ sum x. m.sum sum x.1) _ _ c.fold.ensures.ran
    (YieldsList-from_filter _ (λ x. bits x.0)
    (YieldsList-at c.filter.ensures.source (YieldsList-from_enumerate (YieldsList-from_slice c.args.powers.now (cc)) (cc)))
    c.filter.ensures.closure (λ x b q k. search rules))
    (λ sum x r q k. search rules) in
    folded ∙ ap₂ summed c.zero.ensures powers ∙ coefficients_value m g.met.K.Element.ring bits key (length c.args.powers.now)
