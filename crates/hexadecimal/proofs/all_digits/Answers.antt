use Rattle.std.proofs.Common.{◌≡◌, ℕ, ◌&&◌, true, List, fold, ◌∙◌, rules}
use Rattle.std.proofs.lemmas.Iterator.{YieldsList-from_slice}
use Rattle.std.proofs.lemmas.Iterator.Consumers.{fold_from_yields_List}
use Rattle.hex.specs.Hex.{is_hex_digit}
use Rattle.hexadecimal.proofs.Places.{fold-and}
use Rattle.hexadecimal.proofs.all_digits.Goals as goal

pub returns : goal.returns
returns c =
    let bytes : List ℕ = c.args.bytes.now in
    let folded : c.fold.result ≡ fold (λ digits d. digits && is_hex_digit d) true bytes =
    fold_from_yields_List _ (λ digits d. digits && is_hex_digit d) _ _ c.fold.ensures.ran
    (YieldsList-from_slice bytes c.iter.ensures.rest)
    (λ d p r q k. search rules) in
    folded ∙ fold-and is_hex_digit true bytes
