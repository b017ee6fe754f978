-- Blocks laid into an output, one after another.
use Rattle.std.proofs.Common.{◌≡◌, ℕ, suc, ◌+◌, ◌-◌, ◌/◌, ◌%◌, ◌<◌, ◌≤◌, min, List, [], ◌∷◌, ◌++◌, map, length, take, drop, replicate, Ok, Err, Result, sym, ap, ◌∙◌, ap₂, append_assoc, append-nil, arith, length-append}
use borrow.Rule.Slice.PartMut.{put_mid, same_len_mid}
use Rattle.std.proofs.lemmas.List.{length-drop, length-take-le, length-replicate, length-map, drop-drop, take_all}
use Rattle.std.proofs.lemmas.Slice.{take-put_mid}
use Rattle.message.proofs.Cutting.{next_of}
use Rattle.format.proofs.Pieces.{length_pieces, pieces_more}
use Rattle.format.specs.Layout.{Content, blocks_for, checked_bytes, check_of, block_bytes, content, file_contents, numbered_blocks, data_pieces}
use Rattle.format.specs.Verdict.{and_then}
use Rattle.field.specs.Digits.{digits}
use Rattle.message.specs.declared.digest.Digest.{Digest}
use Rattle.refusal.specs.declared.Refusal.{Refusal}
use Rattle.sealed.specs.Writing.{room_answer}
use Rattle.sealed.specs.declared.sealed.Sealed.{Sealed}
use Rattle.std.proofs.lemmas.Bool.Decides.{nat_tests}
use Rattle.sealed.proofs.Numbers.{two_digits, four_digits}

-- ---- one block

put_length : (a k : ℕ) (xs ys : List ℕ) → a + k ≤ length xs → length ys ≡ k → length (put_mid a k xs ys) ≡ length xs
put_length a k xs ys within size =
    same_len_mid a k xs ys (size ∙ sym (length-take-le k (drop a xs) (omega (arith, length-drop a xs))))

-- prefix and data are written
module _ (block : List ℕ) (whole : length block ≡ 512) (number kind : ℕ) (bytes : List ℕ) (short : length bytes ≤ 502) (w₁ w₂ : List ℕ)
    (wrote₁ : w₁ ≡ number / 256 % 256 ∷ (number % 256 ∷ (kind ∷ (0 ∷ (length bytes / 256 % 256 ∷ (length bytes % 256 ∷ []))))))
    (wrote₂ : w₂ ≡ bytes) (k : ℕ) (long : k ≡ length bytes) where
  abbrev b₁ : List ℕ
  b₁ = put_mid 0 6 block w₁

  abbrev b₂ : List ℕ
  b₂ = put_mid 6 k b₁ w₂

  length₁ : length b₁ ≡ 512
  length₁ = put_length 0 6 block w₁ (omega (arith, whole)) (ap length wrote₁) ∙ whole

  length₂ : length b₂ ≡ 512
  length₂ = put_length 6 k b₁ w₂ (omega (arith, length₁, long)) (ap length wrote₂ ∙ sym long) ∙ length₁

  -- how much room is left before the check
  pub room_left : (n : ℕ) → n ≡ 502 - length bytes → length (take n (drop (6 + length bytes) b₂)) ≡ n
  room_left n left = length-take-le n (drop (6 + length bytes) b₂) (omega (arith, length-drop (6 + length bytes) b₂, length₂, left))

  -- zeros fill that room
  module _ (n : ℕ) (left : n ≡ 502 - length bytes) (w₃ : List ℕ) (wrote₃ : w₃ ≡ replicate n 0) where
    abbrev b₃ : List ℕ
    b₃ = put_mid (6 + length bytes) n b₂ w₃

    zeros : length w₃ ≡ n
    zeros = ap length wrote₃ ∙ length-replicate n 0

    length₃ : length b₃ ≡ 512
    length₃ = put_length (6 + length bytes) n b₂ w₃ (omega (arith, length₂, left)) zeros ∙ length₂

    front_numbered : take 508 b₃ ≡ checked_bytes number (content kind bytes)
    unfolding checked_bytes
    front_numbered =
        let fill : List ℕ = replicate (502 - length bytes) 0 in
        take-put_mid (6 + length bytes) n b₂ w₃ 508 (omega (arith, zeros, left)) (omega (arith, length₂))
        ∙ ap₂ (λ (xs ys : List ℕ). xs ++ ys)
        (take-put_mid 6 k b₁ w₂ (6 + length bytes) (ap (λ (xs : List ℕ). 6 + length xs) (sym wrote₂)) (omega (arith, length₁))
        ∙ ap₂ (λ (xs ys : List ℕ). xs ++ ys)
        (take-put_mid 0 6 block w₁ 6 (sym (ap (λ (xs : List ℕ). 0 + length xs) wrote₁)) (omega arith) ∙ wrote₁) wrote₂)
        (wrote₃ ∙ ap (λ (j : ℕ). replicate j 0) left)
        ∙ ap₂ (λ (xs ys : List ℕ). xs ++ (kind ∷ (0 ∷ (ys ++ (bytes ++ fill))))) (sym (two_digits number)) (sym (two_digits (length bytes)))

    -- and the check ends the block
    pub block_numbered : (check : ℕ) (w₄ : List ℕ) → check ≡ check_of (take 508 b₃)
        → w₄ ≡ check / 16777216 % 256 ∷ (check / 65536 % 256 ∷ (check / 256 % 256 ∷ (check % 256 ∷ [])))
        → put_mid 508 4 b₃ w₄ ≡ block_bytes number (content kind bytes)
    block_numbered check w₄ counted wrote₄ =
        let size : length (put_mid 508 4 b₃ w₄) ≡ 512 = put_length 508 4 b₃ w₄ (omega (arith, length₃)) (ap length wrote₄) ∙ length₃ in
        sym (take_all 512 (put_mid 508 4 b₃ w₄) (omega (arith, size)))
        ∙ take-put_mid 508 4 b₃ w₄ 512 (sym (ap (λ (xs : List ℕ). 508 + length xs) wrote₄)) (omega (arith, length₃))
        ∙ ap₂ (λ (xs ys : List ℕ). xs ++ ys) front_numbered
        (wrote₄ ∙ sym (four_digits check) ∙ ap (digits 256 4) (counted ∙ ap check_of front_numbered))

-- ---- the pieces of a part

-- the next piece, and those of what follows
pub next_piece : (piece more : List ℕ) → length piece ≡ min 502 (length (piece ++ more)) → 0 < length (piece ++ more) → data_pieces (piece ++ more) ≡ piece ∷ data_pieces more
next_piece piece more size some =
    let whole = length-append piece more in
    pieces_more piece more (omega arith) (next_of 502 piece more size)

pub numbered_append : (n : ℕ) (cs ds : List Content) → numbered_blocks n (cs ++ ds) ≡ numbered_blocks n cs ++ numbered_blocks (n + length cs) ds
numbered_append n [] ds = let e : n ≡ n + 0 = omega arith in ap (λ (k : ℕ). numbered_blocks k ds) e
numbered_append n (c ∷ cs) ds =
    let e : suc n + length cs ≡ n + suc (length cs) = omega arith in
    ap (λ (xs : List ℕ). block_bytes n c ++ xs) (numbered_append (suc n) cs ds ∙ ap (λ (k : ℕ). numbered_blocks (suc n) cs ++ numbered_blocks k ds) e)
    ∙ sym (append_assoc (block_bytes n c) (numbered_blocks (suc n) cs) (numbered_blocks (n + suc (length cs)) ds))

-- what is the same from a place on is the same further on
pub drop_further : (n k : ℕ) (xs ys : List ℕ) → n ≤ k → drop n xs ≡ drop n ys → drop k xs ≡ drop k ys
drop_further n k xs ys further same =
    let e : n + (k - n) ≡ k = omega arith in
    sym (drop-drop (k - n) n xs ∙ ap (λ (j : ℕ). drop j xs) e) ∙ ap (drop (k - n)) same ∙ drop-drop (k - n) n ys ∙ ap (λ (j : ℕ). drop j ys) e

-- header, body and end, one after the other
pub whole_numbered : (header body tag : List ℕ) (n k : ℕ) → n ≡ 0 + (length header + 501) / 502 → k ≡ n + (length body + 501) / 502
    → (numbered_blocks 0 (map (content 1) (data_pieces header)) ++ numbered_blocks n (map (content 2) (data_pieces body))) ++ block_bytes k (content 3 tag) ≡ numbered_blocks 0 (file_contents header body tag)
whole_numbered header body tag n k upto-body upto-end =
    let hs : List Content = map (content 1) (data_pieces header) in
    let bs : List Content = map (content 2) (data_pieces body) in
    let last : List Content = content 3 tag ∷ [] in
    let upto : n ≡ 0 + length hs = upto-body ∙ ap (λ (j : ℕ). 0 + j) (sym (length-map (data_pieces header) (content 1) ∙ length_pieces header)) in
    let over : k ≡ n + length bs = upto-end ∙ ap (λ (j : ℕ). n + j) (sym (length-map (data_pieces body) (content 2) ∙ length_pieces body)) in
    append_assoc (numbered_blocks 0 hs) (numbered_blocks n bs) (block_bytes k (content 3 tag))
    ∙ ap (λ (xs : List ℕ). numbered_blocks 0 hs ++ (numbered_blocks n bs ++ xs)) (sym (append-nil (block_bytes k (content 3 tag))) ∙ ap (λ (j : ℕ). numbered_blocks j last) over)
    ∙ ap (λ (xs : List ℕ). numbered_blocks 0 hs ++ xs) (sym (numbered_append n bs last))
    ∙ ap (λ (j : ℕ). numbered_blocks 0 hs ++ numbered_blocks j (bs ++ last)) upto
    ∙ sym (numbered_append 0 hs (bs ++ last))

-- ---- what the lengths allow

pub limits_kept : (header body output n : ℕ) → Ok n ≡ room_answer header body output → (header ≤ 65535) × (blocks_for header body ≤ 65536)
limits_kept header body output n done =
    (grind (arith, nat_tests, done), grind (arith, nat_tests, done))

-- what a message is sealed with has the count of its room, and its digest
pub sealed_parts : (digest : Digest) (r : Result ℕ Refusal) (s : Sealed) → Ok s ≡ and_then r (λ n. Ok record { blocks = n; digest = digest })
    → (Ok s.blocks ≡ r) × (s.digest ≡ digest)
sealed_parts digest (Ok n) s same =
    let is : s ≡ record { blocks = n; digest = digest } = cc in
    (ap (λ (x : Sealed). counted x.blocks) is, ap (λ (x : Sealed). x.digest) is) where
      counted : ℕ → Result ℕ Refusal
      counted k = Ok k
sealed_parts digest (Err e) s same = cc
