-- The blocks of a part, piece by piece.
use Rattle.std.proofs.Common.{◌≡◌, ℕ, zero, suc, ◌+◌, ◌*◌, ◌<◌, ◌≤◌, min, ◌⊎◌, List, [], ◌∷◌, ◌++◌, length, take, drop, sym, refl, ap, ◌∙◌, ap₂, inl, inr, append-nil, arith, length-append}
use native.Mathlib.Decide.{dec_le}
use Rattle.std.proofs.Math.Nat.{suc-mul}
use Rattle.std.specs.List.{concat}
use Rattle.std.specs.Simd.{first_chunks}
use Rattle.std.proofs.lemmas.List.{length-drop, length-map, take-append-drop, take_at, drop_at, take_all, drop_all, nil_from_length}
use Rattle.message.specs.Blocks.{block_from, blocks_taken, first_blocks, blocks, block_of_lengths, block_list}

-- pieces of any one width
pub length-first_chunks : (width n : ℕ) (xs : List ℕ) → length (first_chunks width n xs) ≡ n
length-first_chunks width zero xs = refl
length-first_chunks width (suc n) xs = ap suc (length-first_chunks width n (drop width xs))

-- pieces that are long enough for all are all, joined
pub concat-first_chunks : (width n : ℕ) (xs : List ℕ) → length xs ≤ n * width → concat (first_chunks width n xs) ≡ xs
concat-first_chunks width zero xs within = sym (nil_from_length xs (omega arith))
concat-first_chunks width (suc n) xs within =
    let left : length (drop width xs) ≤ n * width = omega (arith, length-drop width xs, suc-mul n width) in
    ap (λ (ys : List ℕ). take width xs ++ ys) (concat-first_chunks width n (drop width xs) left) ∙ take-append-drop width xs

pub length_blocks : (bytes : List ℕ) → length (blocks bytes) ≡ blocks_taken (length bytes)
unfolding blocks
length_blocks bytes =
    length-map (first_chunks 16 (blocks_taken (length bytes)) bytes) block_from
    ∙ length-first_chunks 16 (blocks_taken (length bytes)) bytes

-- both parts' blocks and the length block
pub length_block_list : (header body : List ℕ) → blocks_taken (length header) + blocks_taken (length body) + 1 ≡ length (block_list header body)
length_block_list header body =
    let whole = length-append (blocks header) (blocks body ++ (block_of_lengths header body ∷ [])) in
    let after = length-append (blocks body) (block_of_lengths header body ∷ []) in
    omega (arith, length_blocks header, length_blocks body, whole, after)

pub blocks_none : (bytes : List ℕ) → length bytes ≡ 0 → blocks bytes ≡ []
unfolding blocks
blocks_none bytes empty = let e : blocks_taken (length bytes) ≡ 0 = omega arith in ap (λ (n : ℕ). first_blocks n bytes) e

-- a piece of some width, shorter only where nothing follows
abbrev pub Next : ℕ → List ℕ → List ℕ → Type 0
Next width piece more = (length piece ≡ width) ⊎ ((length piece ≤ width) × (length more ≡ 0))

-- cutting at the width gives the piece and what follows
module _ (width : ℕ) (piece more : List ℕ) (next : Next width piece more) where
  pub take_next : take width (piece ++ more) ≡ piece
  take_next =
      elim next [
        | inl full ↦ take_at piece more width full
        | inr short ↦ ap (λ (ys : List ℕ). take width (piece ++ ys)) (nil_from_length more short.1) ∙ ap (take width) (append-nil piece) ∙ take_all width piece short.0
      ]

  pub drop_next : drop width (piece ++ more) ≡ more
  drop_next =
      elim next [
        | inl full ↦ drop_at piece more width full
        | inr short ↦
            let none : more ≡ [] = nil_from_length more short.1 in
            ap (λ (ys : List ℕ). drop width (piece ++ ys)) none ∙ ap (drop width) (append-nil piece) ∙ drop_all width piece short.0 ∙ sym none
      ]

-- a piece of that width, or else of all that is left
pub next_of : (width : ℕ) (piece more : List ℕ) → length piece ≡ min width (length (piece ++ more)) → Next width piece more
next_of width piece more size =
    let whole = length-append piece more in
    elim (dec_le width (length piece + length more)) [
      | yes h ↦ inl (omega arith)
      | no h ↦ inr (omega arith, omega arith)
    ]

-- the next piece is a block, and the blocks of what follows come after it
module _ (piece more : List ℕ) (size : length piece ≡ min 16 (length (piece ++ more))) (some : 0 < length (piece ++ more)) where
  next : Next 16 piece more
  next = next_of 16 piece more size

  pub blocks_more : blocks (piece ++ more) ≡ block_from piece ∷ blocks more
  unfolding blocks
  blocks_more =
      let whole = length-append piece more in
      let count : blocks_taken (length (piece ++ more)) ≡ suc (blocks_taken (length more)) =
      elim next [ inl full ↦ omega arith | inr short ↦ omega arith ] in
      ap (λ (n : ℕ). first_blocks n (piece ++ more)) count
      ∙ ap₂ (λ (p ys : List ℕ). block_from p ∷ first_blocks (blocks_taken (length more)) ys) (take_next 16 piece more next) (drop_next 16 piece more next)
