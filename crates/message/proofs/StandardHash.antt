-- The standard's hash and tag are ours.
use Rattle.std.proofs.Common.{◌≡◌, ℕ, zero, suc, ◌+◌, ◌-◌, ◌*◌, ◌/◌, ◌<◌, ◌≤◌, List, [], ◌∷◌, ◌++◌, length, take, drop, replicate, sym, refl, ap, ◌∙◌, subst, ap₂, append_assoc, append-nil, mul-div_cancel, arith, lit<, length-append, length-drop, take-append-drop, get_or-drop, length-take}
use native.Mathlib.Decide.{dec_le}
use native.Mathlib.Nat.{div-div-eq-div-mul}
use lib.ListN.{length-replicate}
use Rattle.std.specs.List.{flat_map}
use Rattle.std.proofs.lemmas.List.Concat.{flat_map-append}
use Rattle.std.proofs.lemmas.List.{take_at, drop_at, take_all, length-take-le}
use Rattle.field.specs.Bytes.{block_of}
use Rattle.field.specs.Digits.{numeral, digits}
use Rattle.field.specs.Evaluation.{eval, horner}
use Rattle.field.specs.Kinds.{block_ring}
use Rattle.field.specs.declared.block.Block.{Block}
use Rattle.message.specs.Answer.{digest_of}
use Rattle.message.specs.declared.digest.Pad.{Pad}
use Rattle.field.proofs.Digits.{length_digits, digits_mod}
use Rattle.field.proofs.Horner.{horner_eval}
use Rattle.field.specs.Instances.{block_ring_laws, block_sum_bits, block_product_bits}
use Rattle.message.specs.Blocks.{AreBytes, block_from, blocks_taken, filled_piece, first_blocks, blocks, block_of_lengths, block_of_counts, block_list}
use Rattle.message.specs.Hash.{hash_of}
use Rattle.message.specs.Standard.{bits, string, zeros, xor, product, ghash_from, ghash, padded_string, message, block_string, MeetsStandard}
use Rattle.message.proofs.Strings.{xor_bits, string_append, length_string, string_zeros, string_digits, string_number}
use Rattle.message.proofs.StandardProduct.{product_bits, zeros_bits}

-- blocks one after the other, as a string
abbrev strings_of : List Block → List ℕ
strings_of ps = flat_map block_string ps

length_strings : (ps : List Block) → length (strings_of ps) ≡ length ps * 128
length_strings [] = refl
length_strings (p ∷ ps) =
    length-append (block_string p) (strings_of ps)
    ∙ ap₂ (λ (m n : ℕ). m + n) (length_digits 2 128 p.bits) (length_strings ps)
    ∙ omega arith

-- ---- the recursion

one_step : (h y p : Block) → product (xor (block_string y) (block_string p)) (block_string h) ≡ block_string (block_ring.product (block_ring.sum y p) h)
one_step h y p =
    ap (λ (s : List ℕ). product s (block_string h)) (xor_bits 128 y.bits p.bits ∙ ap (bits 128) (sym (block_sum_bits y p)))
    ∙ product_bits (block_ring.sum y p).bits h.bits h.fits
    ∙ ap (bits 128) (sym (block_product_bits (block_ring.sum y p) h))

steps : (h y : Block) (ps : List Block) → ghash_from (block_string h) (block_string y) (length ps) (strings_of ps) ≡ block_string (horner block_ring h y ps)
steps h y [] = refl
steps h y (p ∷ ps) =
    let wide : length (block_string p) ≡ 128 = length_digits 2 128 p.bits in
    ap₂ (λ (x s : List ℕ). ghash_from (block_string h) (product (xor (block_string y) x) (block_string h)) (length ps) s)
    (take_at (block_string p) (strings_of ps) 128 wide) (drop_at (block_string p) (strings_of ps) 128 wide)
    ∙ ap (λ (z : List ℕ). ghash_from (block_string h) z (length ps) (strings_of ps)) (one_step h y p)
    ∙ steps h (block_ring.product (block_ring.sum y p) h) ps

ghash_blocks : (h : Block) (ps : List Block) → ghash (block_string h) (strings_of ps) ≡ block_string (eval block_ring h ps)
unfolding ghash
ghash_blocks h ps =
    let count : length (strings_of ps) / 128 ≡ length ps = ap (λ (n : ℕ). n / 128) (length_strings ps) ∙ mul-div_cancel (length ps) (omega arith) in
    ap₂ (λ (y : List ℕ) (n : ℕ). ghash_from (block_string h) y n (strings_of ps)) zeros_bits count
    ∙ steps h block_ring.zero ps
    ∙ ap block_string (horner_eval block_ring block_ring_laws h [] ps)

-- ---- the string that is hashed

-- a block of 16 bytes, as a string
block_string_same : (xs : List ℕ) → AreBytes xs → length xs ≡ 16 → block_string (block_of xs) ≡ string xs
block_string_same xs small sixteen =
    digits_mod 2 (lit< tt) 128 (numeral 256 xs)
    ∙ ap (λ (n : ℕ). bits (n * 8) (numeral 256 xs)) (sym sixteen)
    ∙ sym (string_number xs small)

pub small_append : (xs ys : List ℕ) → AreBytes xs → AreBytes ys → AreBytes (xs ++ ys)
small_append [] ys a b k = b k
small_append (x ∷ xs) ys a b zero = a zero
small_append (x ∷ xs) ys a b (suc k) = small_append xs ys (λ i. a (suc i)) b k

small_zeros : (n : ℕ) → AreBytes (replicate n 0)
small_zeros zero k = omega arith
small_zeros (suc n) zero = omega arith
small_zeros (suc n) (suc k) = small_zeros n k

pub small_take : (n : ℕ) (xs : List ℕ) → AreBytes xs → AreBytes (take n xs)
small_take zero xs a k = omega arith
small_take (suc n) [] a k = omega arith
small_take (suc n) (x ∷ xs) a zero = a zero
small_take (suc n) (x ∷ xs) a (suc k) = small_take n xs (λ i. a (suc i)) k

pub small_drop : (n : ℕ) (xs : List ℕ) → AreBytes xs → AreBytes (drop n xs)
small_drop n xs a k = subst (λ (d : ℕ). d < 256) (sym (get_or-drop n xs k 0)) (a (n + k))

small_digits : (n v : ℕ) → AreBytes (digits 256 n v)
unfolding digits
small_digits zero v k = omega arith
small_digits (suc n) v zero = omega arith
small_digits (suc n) v (suc k) = small_digits n v k

-- a shorter piece, filled up to 16 bytes
filled_same : (xs : List ℕ) → AreBytes xs → length xs ≤ 16 → block_string (block_of (filled_piece xs)) ≡ string (filled_piece xs)
filled_same xs small short =
    let whole : length (filled_piece xs) ≡ 16 = length-append xs (replicate (16 - length xs) 0) ∙ ap (λ (n : ℕ). length xs + n) (length-replicate (16 - length xs) 0) ∙ omega arith in
    block_string_same (filled_piece xs) (small_append xs (replicate (16 - length xs) 0) small (small_zeros (16 - length xs))) whole

pub first_same : (xs : List ℕ) → AreBytes xs → block_string (block_from (take 16 xs)) ≡ string (filled_piece (take 16 xs))
first_same xs small = filled_same (take 16 xs) (small_take 16 xs small) (rw length-take (omega arith))

filled_string : (xs : List ℕ) → AreBytes xs → length xs ≤ 16 → block_string (block_of (filled_piece xs)) ≡ string xs ++ zeros (8 * (16 - length xs))
filled_string xs small short =
    filled_same xs small short
    ∙ string_append xs (replicate (16 - length xs) 0)
    ∙ ap (λ (s : List ℕ). string xs ++ s) (string_zeros (16 - length xs))

-- n blocks of a part, the last of which may be short
cut_string : (n : ℕ) (xs : List ℕ) → AreBytes xs → length xs ≤ 16 * n → 16 * n < length xs + 16
    → strings_of (first_blocks n xs) ≡ string xs ++ zeros (8 * (16 * n - length xs))
unfolding string
cut_string zero [] small low high = refl
cut_string zero (x ∷ xs) small low high = absurd (omega arith)
cut_string (suc n) xs small low high =
    elim (dec_le 16 (length xs)) [
      | yes h ↦
          let full : length (take 16 xs) ≡ 16 = length-take-le 16 xs h in
          let rest : length (drop 16 xs) ≡ length xs - 16 = length-drop 16 xs in
          let left : 16 * n - length (drop 16 xs) ≡ 16 * suc n - length xs = omega arith in
          let first : block_string (block_from (take 16 xs)) ≡ string (take 16 xs) =
          filled_string (take 16 xs) (small_take 16 xs small) (omega arith)
          ∙ ap (λ (k : ℕ). string (take 16 xs) ++ zeros (8 * (16 - k))) full
          ∙ append-nil (string (take 16 xs)) in
          ap₂ (λ (s t : List ℕ). s ++ t) first
          (cut_string n (drop 16 xs) (small_drop 16 xs small) (omega arith) (omega arith)
          ∙ ap (λ (k : ℕ). string (drop 16 xs) ++ zeros (8 * k)) left)
          ∙ sym (append_assoc (string (take 16 xs)) (string (drop 16 xs)) (zeros (8 * (16 * suc n - length xs))))
          ∙ ap (λ (s : List ℕ). s ++ zeros (8 * (16 * suc n - length xs)))
          (sym (string_append (take 16 xs) (drop 16 xs)) ∙ ap string (take-append-drop 16 xs))
      | no h ↦
          let last : n ≡ 0 = omega arith in
          let left : 16 - length xs ≡ 16 * suc n - length xs = omega arith in
          let short : length xs ≤ 16 = omega arith in
          ap₂ (λ (k : ℕ) (p : List ℕ). block_string (block_from p) ++ strings_of (first_blocks k (drop 16 xs))) last (take_all 16 xs short)
          ∙ append-nil (block_string (block_of (filled_piece xs)))
          ∙ filled_string xs small short
          ∙ ap (λ (k : ℕ). string xs ++ zeros (8 * k)) left
    ]

part_string : (xs : List ℕ) → AreBytes xs → strings_of (blocks xs) ≡ padded_string (string xs)
unfolding blocks
part_string xs small =
    let n : ℕ = length xs in
    let eighth : (8 * n + 127) / 8 ≡ n + 15 = omega arith in
    let count : (8 * n + 127) / 128 ≡ blocks_taken n = sym (div-div-eq-div-mul (8 * n + 127) 8 16) ∙ ap (λ (k : ℕ). k / 16) eighth in
    let fill : 8 * (16 * blocks_taken n - n) ≡ 128 * ((length (string xs) + 127) / 128) - length (string xs) =
    sym (ap (λ (k : ℕ). 128 * ((k + 127) / 128) - k) (length_string xs) ∙ ap (λ (q : ℕ). 128 * q - 8 * n) count ∙ omega arith) in
    cut_string (blocks_taken (length xs)) xs small (omega arith) (omega arith) ∙ ap (λ (k : ℕ). string xs ++ zeros k) fill

-- the block of two parts' lengths is that of the two counts
pub lengths_counts : (header body : List ℕ) → block_of_lengths header body ≡ block_of_counts (length header) (length body)
unfolding block_of_lengths block_of_counts
lengths_counts header body = refl

lengths_string : (header body : List ℕ) → block_string (block_of_lengths header body) ≡ bits 64 (length (string header)) ++ bits 64 (length (string body))
unfolding block_of_lengths
lengths_string header body =
    let hs : List ℕ = digits 256 8 (8 * length header) in
    let bs : List ℕ = digits 256 8 (8 * length body) in
    let whole : length (hs ++ bs) ≡ 16 =
    length-append hs bs ∙ ap₂ (λ (m n : ℕ). m + n) (length_digits 256 8 (8 * length header)) (length_digits 256 8 (8 * length body)) in
    block_string_same (hs ++ bs) (small_append hs bs (small_digits 8 (8 * length header)) (small_digits 8 (8 * length body))) whole
    ∙ string_append hs bs
    ∙ ap₂ (λ (s t : List ℕ). s ++ t)
    (string_digits 8 (8 * length header) ∙ ap (bits 64) (sym (length_string header)))
    (string_digits 8 (8 * length body) ∙ ap (bits 64) (sym (length_string body)))

message_string : (header body : List ℕ) → AreBytes header → AreBytes body → strings_of (block_list header body) ≡ message (string header) (string body)
unfolding message
message_string header body small small' =
    flat_map-append block_string (blocks header) (blocks body ++ (block_of_lengths header body ∷ []))
    ∙ ap₂ (λ (s t : List ℕ). s ++ t) (part_string header small)
    (flat_map-append block_string (blocks body) (block_of_lengths header body ∷ [])
    ∙ ap₂ (λ (s t : List ℕ). s ++ t) (part_string body small')
    (append-nil (block_string (block_of_lengths header body)) ∙ lengths_string header body))

pub meets_standard : (subkey : Block) (pad : Pad) (header body : List ℕ) → AreBytes header → AreBytes body
    → MeetsStandard subkey pad header body (digest_of subkey pad header body)
unfolding hash_of
meets_standard subkey pad header body small small' =
    let hash : Block = eval block_ring subkey (block_list header body) in
    let same : ghash (block_string subkey) (message (string header) (string body)) ≡ block_string hash =
    ap (ghash (block_string subkey)) (sym (message_string header body small small')) ∙ ghash_blocks subkey (block_list header body) in
    record {
      hashed = sym same;
      tagged =
          ap (bits 128) (block_sum_bits hash pad.0)
          ∙ sym (ap (λ (s : List ℕ). xor s (block_string pad.0)) same ∙ xor_bits 128 hash.bits pad.0.bits);
    }
