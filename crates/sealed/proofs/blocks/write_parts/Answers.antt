use Rattle.std.proofs.Common.{◌≡◌, ℕ, ◌+◌, ◌*◌, ◌≤◌, List, ◌++◌, map, length, take, drop, sym, ap, ◌∙◌, ap₂, arith}
use Rattle.std.proofs.lemmas.List.{length-take-le, take-append-drop}
use Rattle.field.specs.Bytes.{bytes_of}
use Rattle.format.specs.Layout.{block_bytes, content, file_contents, numbered_blocks, data_pieces}
use Rattle.sealed.proofs.Layers.{drop_further, whole_numbered}
use Rattle.sealed.proofs.blocks.write_parts.Goals as goal

pub returns : goal.returns
returns c =
    let header : List ℕ = c.args.message.header.now in
    let body : List ℕ = c.args.message.body.now in
    let entry : List ℕ = c.args.output.now in
    let o₁ : List ℕ = c.write_blocks-next.new.output in
    let o₂ : List ℕ = c.write_blocks-next-2.new.output in
    let o₃ : List ℕ = c.write_block.new.output in
    let n : ℕ = c.write_blocks-next.result in
    let k : ℕ = c.write_blocks-next-2.result in
    let end : ℕ = 512 * (k + 1) in
    let first = c.write_blocks-next.ensures in
    let second = c.write_blocks-next-2.ensures in
    let third = c.write_block.ensures in
    let file : List ℕ = numbered_blocks 0 (file_contents header body (bytes_of c.args.tag.0)) in
    let written : take end o₃ ≡ file =
    third.front
    ∙ ap₂ (λ (xs ys : List ℕ). xs ++ block_bytes k (content 3 ys)) (second.front ∙ ap (λ (xs : List ℕ). xs ++ numbered_blocks n (map (content 2) (data_pieces body))) first.front) c.to_bytes.ensures
    ∙ whole_numbered header body (bytes_of c.args.tag.0) n k first.next second.next in
    let left : drop end o₃ ≡ drop end entry =
    third.back ∙ drop_further (512 * k) end o₂ o₁ (omega arith) second.back ∙ drop_further (512 * n) end o₁ entry (omega (arith, second.next)) first.back in
    let kept : length o₃ ≡ length entry = c.write_block.auto.output ∙ c.write_blocks-next-2.auto.output ∙ c.write_blocks-next.auto.output in
    let room : end ≤ length o₃ = omega (arith, kept, c.requires.fits, first.next, second.next) in
    let size : end ≡ length file = sym (length-take-le end o₃ room) ∙ ap length written in
    sym (take-append-drop end o₃) ∙ ap₂ (λ (xs ys : List ℕ). xs ++ ys) written (left ∙ ap (λ (j : ℕ). drop j entry) size)
