use Rattle.std.proofs.Common.{◌≡◌, ℕ, ◌+◌, ◌-◌, ◌/◌, ◌%◌, List, [], ◌∷◌, length, get_or, replicate, ap, ◌∙◌, arith}
use Rattle.format.specs.Kinds.{kind_number}
use Rattle.sealed.proofs.Layers.{room_left, block_numbered}
use Rattle.sealed.proofs.blocks.fill_block.Goals as goal

pub returns : goal.returns
returns c =
    let block : List ℕ = c.args.block.now in
    let number : ℕ = c.args.number in
    let kind : ℕ = kind_number c.args.kind in
    let bytes : List ℕ = c.args.data.now in
    let size : ℕ = length bytes in
    let w₁ : List ℕ = c.copy_from_slice.new.self in
    let w₂ : List ℕ = c.copy_from_slice-2.new.self in
    let w₃ : List ℕ = c.fill.new.self in
    let w₄ : List ℕ = c.copy_from_slice-3.new.self in
    let wrote₁ : w₁ ≡ number / 256 % 256 ∷ (number % 256 ∷ (kind ∷ (0 ∷ (size / 256 % 256 ∷ (size % 256 ∷ []))))) =
    c.copy_from_slice.ensures.after
    ∙ (λ i. get_or (c.to_be_bytes.ensures i) 0 0 ∷ (get_or (c.to_be_bytes.ensures i) 1 0 ∷ (c.number.ensures i ∷ (0 ∷ (get_or (c.to_be_bytes-2.ensures i) 0 0 ∷ (get_or (c.to_be_bytes-2.ensures i) 1 0 ∷ [])))))) in
    let wrote₂ = c.copy_from_slice-2.ensures.after in
    let long : 6 + size - 6 ≡ size = omega arith in
    let left : 508 - (6 + size) ≡ 502 - size = omega arith in
    let room = room_left block c.requires.whole number kind bytes c.requires.fits w₁ w₂ wrote₁ wrote₂ (6 + size - 6) long (508 - (6 + size)) left in
    let wrote₃ : w₃ ≡ replicate (508 - (6 + size)) 0 = c.fill.ensures.after (λ y e. e) ∙ ap (λ (j : ℕ). replicate j 0) room in
    block_numbered block c.requires.whole number kind bytes c.requires.fits w₁ w₂ wrote₁ wrote₂ (6 + size - 6) long (508 - (6 + size)) left w₃ wrote₃
    c.block_check.result w₄ c.block_check.ensures (c.copy_from_slice-3.ensures.after ∙ c.to_be_bytes-check.ensures)
