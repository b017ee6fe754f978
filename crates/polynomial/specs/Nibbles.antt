-- Nibbles as polynomials over the bits.
use Rattle.std.specs.Prelude.{ℕ, Bool}
use Rattle.std.proofs.Common.{lit<}
use Rattle.field.specs.Instances.{nibble_residues}
use Rattle.field.specs.Kinds.{nibble_shape, nibble_ring}
use Rattle.field.specs.declared.nibble.Nibble.{Nibble}
use Rattle.polynomial.specs.Bits.{BinaryLaws, bit_in}
use Rattle.polynomial.specs.Coefficients.{nibble_places, binary_laws}

-- the coefficients of a proposal: that of t^j is that of x^j
abbrev pub nibble_coefficients : Nibble → ℕ → Bool
nibble_coefficients proposal = bit_in nibble_shape proposal.bits

pub nibble_laws : BinaryLaws nibble_ring 4 nibble_coefficients
nibble_laws = binary_laws nibble_places nibble_residues (lit< tt)
