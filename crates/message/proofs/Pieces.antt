-- The blocks of a part: its whole pieces of 16 bytes, and the one that is left.
use Rattle.std.proofs.Common.{◌≡◌, ℕ, zero, suc, ◌+◌, ◌-◌, ◌*◌, ◌/◌, ◌<◌, ◌≤◌, List, [], ◌∷◌, ◌++◌, length, map, take, drop, replicate, ap, ◌∙◌, ap₂, append-nil, zero-add, suc-add, arith, length-drop, length-take-le, drop-drop}
use Rattle.std.specs.Simd.{first_chunks}
use Rattle.field.specs.Bytes.{block_of}
use Rattle.field.specs.declared.block.Block.{Block}
use Rattle.message.specs.Blocks.{block_from, blocks_taken, filled_piece, first_blocks, blocks}

-- n whole blocks, and k blocks of what follows
cut_whole : (n k : ℕ) (xs : List ℕ) → 16 * n ≤ length xs → first_blocks (n + k) xs ≡ map block_of (first_chunks 16 n xs) ++ first_blocks k (drop (n * 16) xs)
cut_whole zero k xs within = ap (λ (m : ℕ). first_blocks m xs) (zero-add k)
cut_whole (suc n) k xs within =
    let full : length (take 16 xs) ≡ 16 = length-take-le 16 xs (omega arith) in
    let left : length (drop 16 xs) ≡ length xs - 16 = length-drop 16 xs in
    let further : 16 + n * 16 ≡ suc n * 16 = omega arith in
    let first : filled_piece (take 16 xs) ≡ take 16 xs =
    ap (λ (j : ℕ). take 16 xs ++ replicate (16 - j) 0) full ∙ append-nil (take 16 xs) in
    ap (λ (m : ℕ). first_blocks m xs) (suc-add n k)
    ∙ ap₂ (λ (b : Block) (bs : List Block). b ∷ bs) (ap block_of first)
    (cut_whole n k (drop 16 xs) (omega arith)
    ∙ ap (λ (ys : List ℕ). map block_of (first_chunks 16 n (drop 16 xs)) ++ first_blocks k ys)
    (drop-drop (n * 16) 16 xs ∙ ap (λ (j : ℕ). drop j xs) further))

pub blocks_whole : (part : List ℕ) → blocks part ≡ map block_of (first_chunks 16 (length part / 16) part) ++ blocks (drop (length part / 16 * 16) part)
unfolding blocks
blocks_whole part =
    let n : ℕ = length part / 16 in
    let left = length-drop (n * 16) part in
    let count : blocks_taken (length part) ≡ n + blocks_taken (length (drop (n * 16) part)) = omega (arith, left) in
    ap (λ (m : ℕ). first_blocks m part) count ∙ cut_whole n (blocks_taken (length (drop (n * 16) part))) part (omega arith)

-- fewer than 16 bytes are one block
pub blocks_short : (rest : List ℕ) → 0 < length rest → length rest < 16 → blocks rest ≡ block_from (take 16 rest) ∷ []
unfolding blocks
blocks_short rest some short = let one : blocks_taken (length rest) ≡ 1 = omega arith in ap (λ (m : ℕ). first_blocks m rest) one
