-- The data of a section, piece by piece.
use Rattle.std.proofs.Common.{◌≡◌, ℕ, ◌+◌, ◌<◌, ◌≤◌, List, [], ◌∷◌, ◌++◌, map, length, get_or, take, drop, take-append-drop, Bor, sym, ap, ◌∙◌, arith, append-nil, length-append}
use Rattle.std.proofs.lemmas.List.{map_push, take_more}
use Rattle.std.proofs.lemmas.List.Folds.{concat-append}
use Rattle.std.specs.List.{concat}

-- what was taken so far, joined
abbrev pub joined : List (Bor (List ℕ)) → List ℕ
joined xs = concat (map (λ (x : Bor (List ℕ)). x.now) xs)

pub joined_push : (xs : List (Bor (List ℕ))) (x : Bor (List ℕ)) → joined (xs ++ (x ∷ [])) ≡ joined xs ++ x.now
joined_push xs x =
    ap concat (map_push (λ (y : Bor (List ℕ)). y.now) xs x)
    ∙ concat-append (map (λ (y : Bor (List ℕ)). y.now) xs) (x.now ∷ [])
    ∙ ap (λ (zs : List ℕ). joined xs ++ zs) (append-nil x.now)

-- the first k pieces and the next are no longer than all
pub pieces_within : (ps : List (List ℕ)) (xs : List (Bor (List ℕ))) (x : Bor (List ℕ))
    → map (λ (y : Bor (List ℕ)). y.now) xs ≡ take (length xs) ps
    → (length xs < length ps) × (x.now ≡ get_or ps (length xs) x.now) → length (joined xs) + length x.now ≤ length (concat ps)
pieces_within ps xs x so_far next =
    let k : ℕ = length xs in
    let front : List ℕ = concat (take (k + 1) ps) in
    let whole : length (concat ps) ≡ length front + length (concat (drop (k + 1) ps)) =
    ap (λ (qs : List (List ℕ)). length (concat qs)) (sym (take-append-drop (k + 1) ps))
    ∙ ap length (concat-append (take (k + 1) ps) (drop (k + 1) ps)) ∙ length-append front (concat (drop (k + 1) ps)) in
    let taken : front ≡ joined xs ++ x.now =
    ap concat (take_more ps k x.now next.0)
    ∙ concat-append (take k ps) (get_or ps k x.now ∷ [])
    ∙ ap (λ (zs : List ℕ). concat (take k ps) ++ zs) (append-nil (get_or ps k x.now))
    ∙ (λ i. concat (sym so_far i) ++ sym next.1 i) in
    omega (arith, whole, ap length taken, length-append (joined xs) x.now)
