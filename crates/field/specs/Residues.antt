-- Types whose values are the residues below a limit, the numbers from 0 up to it. A number enters by its remainder.
use Rattle.std.specs.Prelude.{◌≡◌, ℕ, ◌%◌, ◌<◌}
use Rattle.std.proofs.Common.{sym, ap, ◌∙◌, mod-eq_of_lt}

-- A type whose values are the residues below a limit.
pub record Residues (V : Type 0) (limit : ℕ) : Type 0 where
  -- the number of a value
  pub value : V → ℕ
  pub fits : (v : V) → value v < limit
  -- the value that a number enters as
  pub enter : ℕ → V
  pub value_enter : (n : ℕ) → value (enter n) ≡ n % limit
  -- a value is known by its number
  pub same : (u v : V) → value u ≡ value v → u ≡ v

module _ {V : Type 0} {limit : ℕ} (residues : Residues V limit) where
  -- a residue enters as itself
  pub value_below : (n : ℕ) → n < limit → residues.value (residues.enter n) ≡ n
  value_below n below = residues.value_enter n ∙ mod-eq_of_lt below

  -- a value is what its number enters as
  pub entered : (v : V) (n : ℕ) → residues.value v ≡ n → v ≡ residues.enter n
  entered v n e =
      residues.same v (residues.enter n)
      (sym (mod-eq_of_lt (residues.fits v)) ∙ ap (λ (k : ℕ). k % limit) e ∙ sym (residues.value_enter n))

  -- and so where only the remainders agree
  pub entered_mod : (v : V) (n : ℕ) → residues.value v ≡ n % limit → v ≡ residues.enter n
  entered_mod v n e = residues.same v (residues.enter n) (e ∙ sym (residues.value_enter n))
