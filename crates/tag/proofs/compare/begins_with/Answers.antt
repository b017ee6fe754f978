use Rattle.std.proofs.Common.{◌≡◌, ℕ, List, eqb, fold, zip, ap, ◌∙◌, rules}
use Rattle.std.specs.List.{starts_with}
use Rattle.std.proofs.lemmas.Iterator.{YieldsList-from_slice, YieldsList-from_zip}
use Rattle.std.proofs.lemmas.Iterator.Consumers.{YieldsList-at, fold_from_yields_List}
use Rattle.tag.proofs.Comparing.{with_pair, fold-with_pair}
use Rattle.tag.proofs.compare.begins_with.Goals as goal

pub returns : goal.returns
returns c =
    let given : List ℕ = c.args.given.now in
    let bytes : List ℕ = c.to_bytes-bytes.result in
    let folded : c.fold-difference.result ≡ fold with_pair 0 (zip given bytes) =
    fold_from_yields_List _ with_pair _ _ c.fold-difference.ensures.ran
    (YieldsList-from_zip
    (YieldsList-at c.zip-pairs.ensures.first (YieldsList-from_slice given c.iter.ensures.rest))
    (YieldsList-at c.zip-pairs.ensures.second (YieldsList-from_slice bytes c.iter-2.ensures.rest)))
    (λ d p r q k. search rules) in
    ap (λ (d : ℕ). eqb d 0) folded
    ∙ fold-with_pair 0 given bytes (search rules)
    ∙ ap (λ (xs : List ℕ). starts_with eqb xs given) c.to_bytes-bytes.ensures
