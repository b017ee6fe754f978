-- A part in pieces of 502 bytes.
use Rattle.std.proofs.Common.{◌≡◌, ℕ, suc, ◌≤◌, List, [], ◌∷◌, ◌++◌, length, ap, ◌∙◌, ap₂, inl, inr, arith, length-append}
use Rattle.std.specs.List.{concat}
use Rattle.std.specs.Simd.{first_chunks}
use Rattle.message.proofs.Cutting.{Next, concat-first_chunks, drop_next, length-first_chunks, take_next}
use Rattle.format.specs.Layout.{data_pieces, piece_count}

pub length_pieces : (bytes : List ℕ) → length (data_pieces bytes) ≡ piece_count (length bytes)
unfolding data_pieces
length_pieces bytes = length-first_chunks 502 (piece_count (length bytes)) bytes

-- an empty part has none
pub pieces_none : (bytes : List ℕ) → length bytes ≡ 0 → data_pieces bytes ≡ []
unfolding data_pieces
pieces_none bytes empty = let e : piece_count (length bytes) ≡ 0 = omega arith in ap (λ (n : ℕ). first_chunks 502 n bytes) e

-- the next piece comes first, and the pieces of what follows come after it
module _ (piece more : List ℕ) (some : 1 ≤ length piece) (next : Next 502 piece more) where
  pub pieces_more : data_pieces (piece ++ more) ≡ piece ∷ data_pieces more
  unfolding data_pieces
  pieces_more =
      let whole = length-append piece more in
      let count : piece_count (length (piece ++ more)) ≡ suc (piece_count (length more)) =
      elim next [ inl full ↦ omega arith | inr short ↦ omega arith ] in
      ap (λ (n : ℕ). first_chunks 502 n (piece ++ more)) count
      ∙ ap₂ (λ (p ys : List ℕ). p ∷ first_chunks 502 (piece_count (length more)) ys)
      (take_next 502 piece more next)
      (drop_next 502 piece more next)

pub concat-data_pieces : (bytes : List ℕ) → concat (data_pieces bytes) ≡ bytes
unfolding data_pieces
concat-data_pieces bytes = concat-first_chunks 502 (piece_count (length bytes)) bytes (omega arith)
