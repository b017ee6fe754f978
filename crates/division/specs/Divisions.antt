-- The division engine: W, a polynomial in t over blocks, divided at each block by the accepted polynomial.
use Rattle.std.specs.Prelude.{◌≡◌, ℕ, ◌+◌, ◌%◌, List, [], ◌∷◌, ◌++◌, replicate}
use Rattle.field.specs.Kinds.{block_ring}
use Rattle.field.specs.declared.block.Block.{Block}
use Rattle.polynomial.specs.Blocks.{AcceptedBlock, coefficients_of}
use Rattle.polynomial.specs.Polynomials.{coefficient_list, value_at}
use Rattle.division.specs.Remainders.{sum_of, times_t, IsRemainder, IsOnlyRemainder}
use Rattle.division.specs.Rotation.{rotation}
use Rattle.division.specs.declared.division.Division.{Division}
use Rattle.division.specs.declared.ring.Ring.{Ring}

-- the accepted polynomial with its highest term, t^128, written out
abbrev pub divisor_of : AcceptedBlock → List Block
divisor_of accepted =
    coefficient_list block_ring 128 (coefficients_of accepted.coefficients) ++ (block_ring.one ∷ [])

-- W, the coefficient of t^0 first
abbrev pub polynomial_of : Ring → List Block
polynomial_of ring = rotation ring.base ring.state

-- t·(W + P)
abbrev pub dividend : Ring → Block → List Block
dividend ring block = times_t block_ring (sum_of block_ring (polynomial_of ring) (block ∷ []))

-- dividing t·(W + P) by the accepted polynomial leaves the W of another ring
abbrev pub LeavesRemainder : AcceptedBlock → Ring → Block → Ring → Type 0
LeavesRemainder accepted before block after =
    IsRemainder block_ring (dividend before block) (divisor_of accepted) (polynomial_of after) 128

-- where the ring begins after a block: one place back
abbrev pub base_after : ℕ → ℕ
base_after base = (base + 127) % 128

-- W is the constant V, and the ring begins at the front of its array.
pub record IsConstant (value : Block) (ring : Ring) : Type 0 where
  pub coefficients : ring.state ≡ value ∷ replicate 127 block_ring.zero
  pub front : ring.base ≡ 0

-- T is W at H
abbrev pub division_value : Division → Block
division_value engine =
    value_at block_ring engine.divisor.polynomial.subkey (polynomial_of engine.ring)

-- The whole engine after a block: W is the remainder, of which there is only one, and the ring begins one place further back.
pub record DivisionAbsorbs (before : Division) (block : Block) (after : Division) : Type 0 where
  pub kept : after.divisor ≡ before.divisor
  pub divided : LeavesRemainder before.divisor.polynomial before.ring block after.ring
  pub only :
      IsOnlyRemainder block_ring (dividend before.ring block)
      (divisor_of before.divisor.polynomial) (polynomial_of after.ring) 128
  pub turn : after.ring.base ≡ base_after before.ring.base

-- The whole engine after a resume.
pub record DivisionResumes (before : Division) (value : Block) (after : Division) : Type 0 where
  pub kept : after.divisor ≡ before.divisor
  pub constant : IsConstant value after.ring

-- The whole of a new engine; the places that its divisor holds follow from the polynomial.
pub record IsFresh (polynomial : AcceptedBlock) (engine : Division) : Type 0 where
  pub divisor : engine.divisor.polynomial ≡ polynomial
  pub zero : IsConstant block_ring.zero engine.ring
