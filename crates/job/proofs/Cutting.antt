-- The full blocks of bytes that are put together.
use Rattle.std.proofs.Common.{◌≡◌, ℕ, zero, suc, ◌+◌, ◌-◌, ◌*◌, ◌/◌, ◌<◌, ◌≤◌, List, [], ◌∷◌, ◌++◌, length, take, drop, sym, refl, ap, ◌∙◌, ap₂, zero-add, arith, length-append, length-drop}
use Rattle.std.proofs.lemmas.List.{take-append-le, drop-append-le, drop-drop, drop_all}
use Rattle.message.specs.Blocks.{block_from, blocks_taken, first_blocks, blocks}
use Rattle.job.specs.Cuts.{full_blocks, left_over}

first_blocks_front : (n : ℕ) (xs ys : List ℕ) → 16 * n ≤ length xs → first_blocks n (xs ++ ys) ≡ first_blocks n xs
first_blocks_front zero xs ys within = refl
first_blocks_front (suc n) xs ys within =
    let some : 16 ≤ length xs = omega arith in
    let more : 16 * n ≤ length (drop 16 xs) = simp length-drop (omega arith) in
    ap₂ (λ p r. block_from p ∷ r) (take-append-le 16 xs ys some)
    (ap (first_blocks n) (drop-append-le 16 xs ys some) ∙ first_blocks_front n (drop 16 xs) ys more)

first_blocks_split : (n k : ℕ) (xs : List ℕ) → first_blocks (n + k) xs ≡ first_blocks n xs ++ first_blocks k (drop (16 * n) xs)
first_blocks_split zero k xs = ap (λ j. first_blocks j xs) (zero-add k)
first_blocks_split (suc n) k xs =
    let e : suc n + k ≡ suc (n + k) = omega arith in
    let further : 16 + 16 * n ≡ 16 * suc n = omega arith in
    let d : drop (16 * n) (drop 16 xs) ≡ drop (16 * suc n) xs = drop-drop (16 * n) 16 xs ∙ ap (λ j. drop j xs) further in
    ap (λ j. first_blocks j xs) e
    ∙ ap (λ r. block_from (take 16 xs) ∷ r)
    (first_blocks_split n k (drop 16 xs) ∙ ap (λ r. first_blocks n (drop 16 xs) ++ first_blocks k r) d)

module _ (xs ys : List ℕ) where
  whole_count : length (xs ++ ys) / 16 ≡ length xs / 16 + length (left_over xs ++ ys) / 16
  unfolding left_over
  whole_count = simp (length-append, length-drop) (omega arith)

  within : 16 * (length xs / 16) ≤ length xs
  within = omega arith

  pub full_append : full_blocks (xs ++ ys) ≡ full_blocks xs ++ full_blocks (left_over xs ++ ys)
  unfolding full_blocks left_over
  full_append =
      ap (λ n. first_blocks n (xs ++ ys)) whole_count
      ∙ first_blocks_split (length xs / 16) (length (left_over xs ++ ys) / 16) (xs ++ ys)
      ∙ ap₂ (λ ps r. ps ++ first_blocks (length (left_over xs ++ ys) / 16) r) (first_blocks_front (length xs / 16) xs ys within)
      (drop-append-le (16 * (length xs / 16)) xs ys within)

  pub left_append : left_over (xs ++ ys) ≡ left_over (left_over xs ++ ys)
  unfolding left_over
  left_append =
      let q : ℕ = length xs / 16 in
      let k : ℕ = length (left_over xs ++ ys) / 16 in
      let e : 16 * (length (xs ++ ys) / 16) ≡ 16 * q + 16 * k = omega (arith, whole_count) in
      ap (λ n. drop n (xs ++ ys)) e ∙ sym (drop-drop (16 * k) (16 * q) (xs ++ ys))
      ∙ ap (drop (16 * k)) (drop-append-le (16 * q) xs ys within)

pub full_short : (xs : List ℕ) → length xs < 16 → full_blocks xs ≡ []
unfolding full_blocks
full_short xs short = let e : length xs / 16 ≡ 0 = omega arith in ap (λ n. first_blocks n xs) e

pub left_short : (xs : List ℕ) → length xs < 16 → left_over xs ≡ xs
unfolding left_over
left_short xs short = let e : 16 * (length xs / 16) ≡ 0 = omega arith in ap (λ n. drop n xs) e

pub full_one : (xs : List ℕ) → length xs ≡ 16 → full_blocks xs ≡ block_from (take 16 xs) ∷ []
unfolding full_blocks
full_one xs sixteen = let e : length xs / 16 ≡ 1 = omega arith in ap (λ n. first_blocks n xs) e

pub left_none : (xs : List ℕ) → length xs ≡ 16 → left_over xs ≡ []
unfolding left_over
left_none xs sixteen = drop_all _ xs (omega arith)

-- the bytes that wait at the end of a part
pub last_block : (xs : List ℕ) → 0 < length xs → length xs ≤ 16 → blocks xs ≡ block_from (take 16 xs) ∷ []
unfolding blocks
last_block xs some few = let one : blocks_taken (length xs) ≡ 1 = omega arith in ap (λ n. first_blocks n xs) one

-- a part's blocks are its full ones, and one more where bytes are left
pub blocks_full : (xs : List ℕ) → blocks xs ≡ full_blocks xs ++ blocks (left_over xs)
unfolding blocks full_blocks left_over
blocks_full xs =
    let n : length (left_over xs) ≡ length xs - 16 * (length xs / 16) = length-drop (16 * (length xs / 16)) xs in
    let e : blocks_taken (length xs) ≡ length xs / 16 + blocks_taken (length (left_over xs)) = omega arith in
    ap (λ k. first_blocks k xs) e ∙ first_blocks_split (length xs / 16) (blocks_taken (length (left_over xs))) xs
