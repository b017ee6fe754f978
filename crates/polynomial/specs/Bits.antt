-- The coefficients of elements and proposals as bits.
use Rattle.std.specs.Prelude.{◌≡◌, ℕ, zero, suc, ◌+◌, ◌<◌, Bool, false, if◌then◌else◌, not, ◌==◌, nat_lt}
use Rattle.field.specs.Binary.{FieldShape}
use Rattle.field.specs.declared.element.Element.{Ghosts}

-- whether the coefficient of index k is one; past the width there is none
abbrev pub bit_in : FieldShape → ℕ → ℕ → Bool
bit_in shape v k = if nat_lt k shape.width then shape.digit v k == 1 else false

-- the coefficients with that of index k changed, where there is one
abbrev pub bits_after_flip : ℕ → (ℕ → Bool) → ℕ → ℕ → Bool
bits_after_flip width bits k j = if j == k then (if nat_lt k width then not (bits j) else bits j) else bits j

-- how many of the first n coefficients are one
unfoldable pub ones_below : ℕ → (ℕ → Bool) → ℕ
ones_below zero bits = 0
ones_below (suc n) bits = ones_below n bits + (if bits n then 1 else 0)

-- What makes elements polynomials over the bits: they have coefficients, and add as bits do.
pub record BinaryLaws {K : Type 0} (m : Ghosts K) (width : ℕ) (bits : K → ℕ → Bool) : Type 0 where
  pub wide : 0 < width
  -- zero has no ones
  pub blank : (k : ℕ) → bits m.zero k ≡ false
  -- an element is its own negative
  pub even : (x : K) → m.sum x x ≡ m.zero
