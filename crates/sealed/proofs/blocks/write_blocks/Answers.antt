use Rattle.std.proofs.Common.{◌≡◌, ℕ, suc, ◌+◌, ◌*◌, ◌<◌, min, List, ◌∷◌, ◌++◌, map, length, take, drop, sym, ap, ◌∙◌, subst, ap₂, append_assoc, append-nil, add-one, arith}
use Rattle.std.specs.Slice.Iter.{chunks_rest}
use Rattle.format.specs.Kinds.{kind_number}
use Rattle.format.specs.Layout.{block_bytes, content, numbered_blocks, data_pieces}
use Rattle.format.proofs.Pieces.{length_pieces, pieces_none}
use Rattle.sealed.proofs.Layers.{drop_further, next_piece}
use Rattle.sealed.proofs.blocks.write_blocks.Goals as goal

pub loop-k-preserved : goal.loop-k-preserved
loop-k-preserved c =
    let kind : ℕ = kind_number c.args.kind in
    let n : ℕ = c.args.first + c.in-Some.k in
    let entry : List ℕ = c.args.output.now in
    let out : List ℕ = c.loop-k.output in
    let new : List ℕ = c.write_block.new.output in
    let inv = c.loop-k.invariant in
    let went = c.in-Some.ensures.steps in
    let piece : List ℕ = c.in-Some.piece.now in
    let left : List ℕ = chunks_rest c.loop-k.k-iterator.iter in
    let more : List ℕ = chunks_rest c.next.new.self.iter in
    let here : n ≡ c.args.first + c.loop-k.k-iterator.count = ap (λ (j : ℕ). c.args.first + j) went.1 in
    let next : c.args.first + c.next.new.self.count ≡ n + 1 = omega (arith, went.1, went.2) in
    let joins : left ≡ piece ++ more = went.0.1.0 in
    let size : length piece ≡ min 502 (length (piece ++ more)) =
    went.0.1.1 ∙ ap₂ (λ (j : ℕ) (xs : List ℕ). min j (length xs)) inv.size joins in
    let some : 0 < length (piece ++ more) = subst (λ (xs : List ℕ). 0 < length xs) joins went.0.1.2 in
    let cut : data_pieces left ≡ piece ∷ data_pieces more = ap data_pieces joins ∙ next_piece piece more size some in
    let later : List ℕ = numbered_blocks (suc n) (map (content kind) (data_pieces more)) in
    record {
      front =
          ap (λ (j : ℕ). take (512 * j) new ++ numbered_blocks j (map (content kind) (data_pieces more))) next
          ∙ ap₂ (λ (xs : List ℕ) (j : ℕ). xs ++ numbered_blocks j (map (content kind) (data_pieces more))) c.write_block.ensures.front (add-one n)
          ∙ append_assoc (take (512 * n) out) (block_bytes n (content kind piece)) later
          ∙ sym (ap (λ ps. take (512 * n) out ++ numbered_blocks n (map (content kind) ps)) cut)
          ∙ ap (λ (j : ℕ). take (512 * j) out ++ numbered_blocks j (map (content kind) (data_pieces left))) here
          ∙ inv.front;
      after =
          ap (λ (j : ℕ). drop (512 * j) new) next ∙ c.write_block.ensures.back
          ∙ drop_further (512 * (c.args.first + c.loop-k.k-iterator.count)) (512 * (n + 1)) out entry (omega (arith, here)) inv.after
          ∙ sym (ap (λ (j : ℕ). drop (512 * j) entry) next);
      left = omega (arith, inv.left, ap length cut, length_pieces left, length_pieces more, went.2);
      size = went.0.0 ∙ inv.size;
    }

pub returns-clause-front : goal.returns-clause-front
returns-clause-front c =
    let kind : ℕ = kind_number c.args.kind in
    let inv = c.loop-k.invariant in
    let left : List ℕ = chunks_rest c.loop-k.k-iterator.iter in
    let none : length left ≡ 0 = c.in-None.ensures.steps.0.1.0 in
    let n : ℕ = c.args.first + c.loop-k.k-iterator.count in
    let end : c.args.first + c.div_ceil.result ≡ n = omega (arith, c.div_ceil.ensures, inv.left, none) in
    ap (λ (j : ℕ). take (512 * j) c.loop-k.output) end ∙ sym (append-nil (take (512 * n) c.loop-k.output))
    ∙ sym (ap (λ ps. take (512 * n) c.loop-k.output ++ numbered_blocks n (map (content kind) ps)) (pieces_none left none))
    ∙ inv.front
