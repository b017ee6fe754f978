-- The evaluation of a row of elements at a key r. GHASH of NIST SP 800-38D, section 6.4, is such an evaluation at the subkey.
use Rattle.std.specs.Prelude.{ℕ, zero, suc, List, [], ◌∷◌, length}
use Rattle.field.specs.declared.element.Element.{Ghosts}

-- r^n
abbrev pub power : {R : Type 0} → Ghosts R → R → ℕ → R
power m r zero = m.one
power m r (suc n) = m.product r (power m r n)

-- P1·r^n + P2·r^(n-1) + .. + Pn·r
abbrev pub eval : {R : Type 0} → Ghosts R → R → List R → R
eval m r [] = m.zero
eval m r (p ∷ ps) = m.sum (m.product p (power m r (suc (length ps)))) (eval m r ps)

-- v·r^n + P1·r^n + P2·r^(n-1) + .. + Pn·r: the evaluation continued from a value v
abbrev pub eval_from : {R : Type 0} → Ghosts R → R → R → List R → R
eval_from m r v ps = m.sum (m.product v (power m r (length ps))) (eval m r ps)

-- Horner's rule: the items taken in one by one from a value v on, each by (v + P)·r. It comes to `eval_from`.
abbrev pub horner : {R : Type 0} → Ghosts R → R → R → List R → R
horner m r v [] = v
horner m r v (p ∷ ps) = horner m r (m.product (m.sum v p) r) ps
