-- A list that is written from its front.
use Rattle.std.proofs.Common.{◌≡◌, ℕ, suc, ◌+◌, ◌<◌, List, [], ◌∷◌, ◌++◌, length, drop, set, sym, ap, ◌∙◌, append_assoc, add-one, drop-cons}
use Rattle.std.proofs.lemmas.List.{set_at}

-- one element more after those that are written
pub fill_more : {X : Type 0} (old front : List X) (n : ℕ) (v : X) → n < length old → length front ≡ n →
    set (front ++ drop n old) n v ≡ (front ++ (v ∷ [])) ++ drop (n + 1) old
fill_more {X} old front n v within long =
    ap (λ (t : List X). set (front ++ t) n v) (drop-cons old n v within)
    ∙ set_at front _ (drop (suc n) old) v n long
    ∙ sym (append_assoc front (v ∷ []) (drop (suc n) old))
    ∙ ap (λ (k : ℕ). (front ++ (v ∷ [])) ++ drop k old) (sym (add-one n))
