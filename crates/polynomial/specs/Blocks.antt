-- Blocks as polynomials over the bits, and an accepted one.
use Rattle.std.specs.Prelude.{ℕ, Bool}
use Rattle.std.proofs.Common.{lit<}
use Rattle.field.specs.Instances.{block_residues}
use Rattle.field.specs.Kinds.{block_shape, block_ring}
use Rattle.field.specs.declared.block.Block.{Block}
use Rattle.polynomial.specs.Bits.{BinaryLaws, bit_in}
use Rattle.polynomial.specs.Coefficients.{block_places, binary_laws}
use Rattle.polynomial.specs.declared.accepted.Accepted.{Accepted}
use Rattle.polynomial.specs.declared.binary.Binary as binary

-- the coefficients of a proposal: that of t^j is that of x^j
abbrev pub coefficients_of : Block → ℕ → Bool
coefficients_of proposal = bit_in block_shape proposal.bits

pub block_laws : BinaryLaws block_ring 128 coefficients_of
block_laws = binary_laws block_places block_residues (lit< tt)

-- blocks as a binary kind
abbrev pub block_binary : binary.Ghosts Block
block_binary = record { width = 128; bits = coefficients_of }

abbrev pub AcceptedBlock : Type 0
AcceptedBlock = Accepted Block block_binary block_ring
