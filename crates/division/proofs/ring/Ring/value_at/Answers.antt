use Rattle.std.proofs.Common.{List, ◌++◌, take, drop, reverse, fold, sym, ap, ◌∙◌, ap₂}
use Rattle.std.proofs.lemmas.List.{reverse-append}
use Rattle.std.proofs.lemmas.List.Sums.{fold-append}
use Rattle.field.specs.Kinds.{block_ring}
use Rattle.field.specs.declared.block.Block.{Block}
use Rattle.field.specs.Instances.{block_ring_laws}
use Rattle.division.specs.Rotation.{rotation}
use Rattle.division.proofs.RemainderValues.{fold-reverse}
use Rattle.division.proofs.ring.Ring.value_at.Goals as goal

pub returns : goal.returns
unfolding rotation
returns c =
    let key : Block = c.args.key in
    let state : List Block = c.args.self.now.state in
    let low : List Block = drop c.args.self.now.base state in
    let high : List Block = take c.args.self.now.base state in
    let step : Block → Block → Block = λ s x. block_ring.sum x (block_ring.product key s) in
    c.value_above.ensures
    ∙ ap₂ (λ (a : Block) (xs : List Block). fold step a (reverse xs))
    (c.value_above-above.ensures ∙ ap₂ (λ (a : Block) (xs : List Block). fold step a (reverse xs)) c.zero.ensures c.split_at.ensures.front)
    c.split_at.ensures.back
    ∙ sym (fold-append step block_ring.zero (reverse high) (reverse low))
    ∙ ap (fold step block_ring.zero) (sym (reverse-append low high))
    ∙ fold-reverse block_ring block_ring_laws key (low ++ high)
