-- The pieces of a header and a body that are found one by one.
use Rattle.std.proofs.Common.{◌≡◌, ℕ, zero, suc, ◌+◌, ◌-◌, ◌*◌, ◌<◌, ◌≤◌, List, ◌∷◌, ◌++◌, map, length, take, drop, Some, None, sym, refl, ap, ◌∙◌, ap₂, arith, lt-ltb}
use mathlib.Core.List.{map-append}
use Rattle.std.proofs.lemmas.List.Folds.{concat-append}
use Rattle.std.specs.Simd.{first_chunks}
use Rattle.std.specs.List.{concat, range_with_len}
use Rattle.std.proofs.lemmas.List.{drop-drop}
use Rattle.std.proofs.lemmas.Bool.{cond-true, cond-false, le-ltb}
use Rattle.message.specs.Blocks.{block_from, blocks_taken, blocks}
use Rattle.message.specs.Finding.{block_place, bytes_at, block_pieces, CoversMessage}
use Rattle.message.specs.declared.part.Part.TheVariants.{Header, Body}
use Rattle.message.proofs.Cutting.{concat-first_chunks}

counting_append : (a m n : ℕ) → range_with_len a (m + n) ≡ range_with_len a m ++ range_with_len (a + m) n
counting_append a zero n =
    let e : zero + n ≡ n = omega arith in
    let f : a ≡ a + zero = omega arith in
    ap₂ range_with_len f e
counting_append a (suc m) n =
    let e : suc m + n ≡ suc (m + n) = omega arith in
    let f : a + 1 + m ≡ a + suc m = omega arith in
    ap (range_with_len a) e ∙ ap (λ xs. a ∷ xs) (counting_append (a + 1) m n ∙ ap (λ k. range_with_len (a + 1) m ++ range_with_len k n) f)

-- numbers from a on, where number a + j has piece k + j of a part
part_pieces : (f : ℕ → List ℕ) (part : List ℕ) (n a k : ℕ) → ((j : ℕ) → j < n → f (a + j) ≡ take 16 (drop (16 * (k + j)) part))
    → map f (range_with_len a n) ≡ first_chunks 16 n (drop (16 * k) part)
part_pieces f part zero a k each = refl
part_pieces f part (suc n) a k each =
    let here : a ≡ a + 0 = omega arith in
    let there : 16 * (k + 0) ≡ 16 * k = omega arith in
    let next : 16 * suc k ≡ 16 * k + 16 = omega arith in
    ap₂ (λ x xs. x ∷ xs) (ap f here ∙ each 0 (omega arith) ∙ ap (λ i. take 16 (drop i part)) there)
    (part_pieces f part n (a + 1) (suc k) (λ j below.
    let e : a + 1 + j ≡ a + suc j = omega arith in
    let d : 16 * (k + suc j) ≡ 16 * (suc k + j) = omega arith in
    ap f e ∙ each (suc j) (omega arith) ∙ ap (λ i. take 16 (drop i part)) d)
    ∙ ap (λ i. first_chunks 16 n (drop i part)) next
    ∙ ap (first_chunks 16 n) (sym (drop-drop 16 (16 * k) part)))

module _ (header body : List ℕ) where
  abbrev in_header : ℕ
  in_header = blocks_taken (length header)

  abbrev in_body : ℕ
  in_body = blocks_taken (length body)

  pub place_in_header : (n : ℕ) → n < in_header → block_place header body n ≡ Some (Header, 16 * n)
  place_in_header n below = cond-true _ _ _ (lt-ltb n in_header below)

  pub place_in_body : (n : ℕ) → in_header ≤ n → n < in_header + in_body → block_place header body n ≡ Some (Body, 16 * (n - in_header))
  place_in_body n past below = cond-false _ _ _ (le-ltb n in_header past) ∙ cond-true _ _ _ (lt-ltb n (in_header + in_body) below)

  pub no_place : (n : ℕ) → in_header + in_body ≤ n → block_place header body n ≡ None
  no_place n past = cond-false _ _ _ (le-ltb n in_header (omega arith)) ∙ cond-false _ _ _ (le-ltb n (in_header + in_body) past)

  abbrev found : ℕ → List ℕ
  found n = bytes_at header body (block_place header body n)

  header_pieces : map found (range_with_len 0 in_header) ≡ first_chunks 16 in_header header
  header_pieces = part_pieces found header in_header 0 0 (λ j below.
      let n : ℕ = 0 + j in
      ap (bytes_at header body) (place_in_header n (omega arith)))

  body_pieces : map found (range_with_len (0 + in_header) in_body) ≡ first_chunks 16 in_body body
  body_pieces = part_pieces found body in_body (0 + in_header) 0 (λ j below.
      let n : ℕ = 0 + in_header + j in
      let e : 16 * (n - in_header) ≡ 16 * (0 + j) = omega arith in
      ap (bytes_at header body) (place_in_body n (omega arith) (omega arith)) ∙ ap (λ i. take 16 (drop i body)) e)

  all_pieces : block_pieces header body ≡ first_chunks 16 in_header header ++ first_chunks 16 in_body body
  all_pieces =
      ap (map found) (counting_append 0 in_header in_body) ∙ map-append found (range_with_len 0 in_header) (range_with_len (0 + in_header) in_body)
      ∙ ap₂ (λ xs ys. xs ++ ys) header_pieces body_pieces

  pub covered : CoversMessage header body
  unfolding blocks
  covered = record {
    filled =
        ap (map block_from) all_pieces ∙ map-append block_from (first_chunks 16 in_header header) (first_chunks 16 in_body body);
    bytes =
        ap concat all_pieces ∙ concat-append (first_chunks 16 in_header header) (first_chunks 16 in_body body)
        ∙ ap₂ (λ xs ys. xs ++ ys) (concat-first_chunks 16 in_header header (omega arith)) (concat-first_chunks 16 in_body body (omega arith));
  }
