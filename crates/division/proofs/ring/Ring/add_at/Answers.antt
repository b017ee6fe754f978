use Rattle.std.proofs.Common.{◌≡◌, ℕ, ◌+◌, ◌%◌, ◌<◌, List, ◌∷◌, length, get_or, drop, set, sym, ap, ◌∙◌, subst, arith, rules}
use Rattle.std.proofs.lemmas.List.{drop_more, get_or_read}
use Rattle.field.specs.Kinds.{block_ring}
use Rattle.field.specs.declared.block.Block.{Block}
use Rattle.division.specs.Divisions.{polynomial_of}
use Rattle.division.specs.Places.{sum_at_places}
use Rattle.division.specs.Rotation.{rotation}
use Rattle.division.specs.declared.ring.Ring.{Ring}
use Rattle.division.proofs.Rotations.{Stands, stands, rotation-set, get_or-rotation}
use Rattle.division.proofs.ring.Ring.add_at.Goals as goal

stands_here : (b p at : ℕ) → b < 128 → p < 128 → at ≡ (b + p) % 128 → Stands 128 b p at
stands_here b p at inside below same = subst (Stands 128 b p) (sym same) (stands b p inside below)

pub loop-place-preserved : goal.loop-place-preserved
loop-place-preserved c =
    let ps : List ℕ = c.args.places.now in
    let k : ℕ = c.loop-place.place-index in
    let p : ℕ = c.from.result in
    let ring : Ring = c.loop-place.self in
    let b : ℕ = ring.base in
    let now : List Block = ring.state in
    let w : List Block = polynomial_of ring in
    let at : ℕ = (c.args.self.now.base + p) % 128 in
    let x : Block = c.index-self-at.result in
    let within : k < length ps = omega arith in
    let long : length now ≡ 128 = search rules in
    let here : get_or ps k 0 ≡ p = sym c.from.ensures in
    let below : p < 128 = omega (arith, here, c.requires k within) in
    let there : Stands 128 b p at =
    stands_here b p at ring.inside below (ap (λ (n : ℕ). (n + p) % 128) (sym c.loop-place.invariant.1)) in
    let read : get_or w p block_ring.zero ≡ x =
    get_or-rotation 128 b ring.inside now long p at block_ring.zero below there
    ∙ sym (get_or_read now at x (omega arith) c.index-self-at.is block_ring.zero) in
    let stored : rotation b (set now at c.add.result) ≡ set w p (block_ring.sum (get_or w p block_ring.zero) c.args.block) =
    rotation-set 128 b ring.inside now long p at c.add.result below there
    ∙ ap (set w p) (c.add.ensures ∙ ap (λ (y : Block). block_ring.sum y c.args.block) (sym c.index-self-at.is ∙ sym read)) in (
      ap (sum_at_places block_ring c.args.block (drop (k + 1) ps)) stored
          ∙ ap (λ (qs : List ℕ). sum_at_places block_ring c.args.block qs w)
          (ap (λ (q : ℕ). q ∷ drop (k + 1) ps) (sym here) ∙ sym (drop_more ps k 0 within))
          ∙ c.loop-place.invariant.0,
      c.loop-place.invariant.1,
    )
