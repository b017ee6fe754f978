use Rattle.std.proofs.Common.{◌≡◌, List, [], ◌∷◌, length, replicate, refl, ap, ap₂, ◌∙◌, rules}
use Rattle.std.specs.List.{FoldsTo}
use Rattle.polynomial.proofs.scratch.clear.Goals as goal

-- where every step gives z, the list is a row of z
filled : {P A : Type 0} (R : P → A → P → Type 0) (z : A) → ((p : P) (x : A) (q : P) → R p x q → x ≡ z)
    → (xs : List A) (p q : P) → FoldsTo R p xs q → xs ≡ replicate (length xs) z
filled R z each [] p q ran = refl
filled R z each (x ∷ xs) p q ran = ap₂ (λ y ys. y ∷ ys) (each p x ran.0 ran.1) (filled R z each xs ran.0 q ran.2)

pub returns : goal.returns
returns g c =
    let z : g.row.E.Denot = g.E.Element.zero in
    filled _ z (λ p x q ran. search rules) c.fill_with.new.self _ _ c.fill_with.ensures.ran.1
    ∙ ap (λ n. replicate n z) c.fill_with.ensures.len
