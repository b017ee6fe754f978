use Rattle.std.proofs.Common.{◌≡◌, ℕ, ◌+◌, ◌%◌, ◌<◌, Bool, List, length, get_or, set, sym, ap, ◌∙◌, subst, ap₂, arith, rules}
use Rattle.field.specs.Kinds.{block_ring}
use Rattle.field.specs.declared.block.Block.{Block}
use Rattle.field.specs.Instances.{block_ring_laws, block_even}
use Rattle.polynomial.specs.Blocks.{coefficients_of}
use Rattle.division.specs.Divisions.{polynomial_of}
use Rattle.division.specs.Places.{one_places, sum_at_places}
use Rattle.division.specs.Rotation.{rotation}
use Rattle.division.specs.declared.divisor.Divisor.{Divisor}
use Rattle.division.specs.declared.ring.Ring.{Ring}
use Rattle.division.proofs.Absorptions.{IsRemainder-step}
use Rattle.division.proofs.Additions.{get_or-one_places}
use Rattle.division.proofs.Rotations.{stands}
use Rattle.division.proofs.ring.Ring.absorb.Goals as goal

pub add_at-requires : goal.add_at-requires
add_at-requires c =
    let divisor : Divisor = c.args.divisor.now in
    subst (λ (ps : List ℕ). (k : ℕ) → k < length ps → get_or ps k 0 < 128) (sym (c.as_slice.ensures.value ∙ divisor.ones))
    (get_or-one_places 128 (coefficients_of divisor.polynomial.coefficients))

pub returns-clause-divided : goal.returns-clause-divided
returns-clause-divided c =
    let ring : Ring = c.args.self.now in
    let divisor : Divisor = c.args.divisor.now in
    let back : ℕ = (ring.base + 127) % 128 in
    let bits : ℕ → Bool = coefficients_of divisor.polynomial.coefficients in
    let top : Block = c.index-self-base.result in
    let all : length ring.state ≡ 128 = search rules in
    let cleared : List Block = set (set ring.state ring.base c.add.result) back c.zero.result in
    let after : polynomial_of c.add_at.new.self ≡ sum_at_places block_ring top (one_places 128 bits) (rotation back cleared) =
    c.add_at.ensures.added
    ∙ ap₂ (λ (x : Block) (ps : List ℕ). sum_at_places block_ring x ps (rotation back cleared)) (sym c.index-self-base.is)
    (c.as_slice.ensures.value ∙ divisor.ones) in
    let made : c.add.result ≡ block_ring.sum c.index-self-lowest.result c.args.block =
    c.add.ensures ∙ ap (λ (x : Block). block_ring.sum x c.args.block) (sym c.index-self-lowest.is) in
    IsRemainder-step block_ring block_ring_laws block_even 127 ring.base back bits ring.state ring.inside (omega arith) all
    (stands ring.base 127 ring.inside (omega arith))
    c.args.block c.index-self-lowest.result c.add.result top c.zero.result (polynomial_of c.add_at.new.self)
    c.index-self-lowest.is made c.index-self-base.is c.zero.ensures after
