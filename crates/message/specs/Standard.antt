-- The hash and the tag in the words of NIST SP 800-38D, over strings of bits. A bit is 0 or 1, and the leftmost comes first.
use Rattle.std.specs.Prelude.{◌≡◌, ℕ, zero, suc, ◌+◌, ◌-◌, ◌*◌, ◌/◌, List, [], ◌∷◌, ◌++◌, length, take, drop, replicate, bit_xor}
use Rattle.field.specs.Digits.{digits}
use Rattle.field.specs.declared.block.Block.{Block}
use Rattle.message.specs.declared.digest.Digest.{Digest}
use Rattle.message.specs.declared.digest.Pad.{Pad}

-- [x]s, the number x as a string of s bits
abbrev pub bits : ℕ → ℕ → List ℕ
bits s x = digits 2 s x

-- bytes as a string, each as 8 bits
unfoldable pub string : List ℕ → List ℕ
string [] = []
string (byte ∷ bytes) = bits 8 byte ++ string bytes

-- 0^s
abbrev pub zeros : ℕ → List ℕ
zeros s = replicate s 0

-- X ⊕ Y, of strings of one length
abbrev pub xor : List ℕ → List ℕ → List ℕ
xor [] ys = []
xor (x ∷ xs) [] = []
xor (x ∷ xs) (y ∷ ys) = bit_xor x y ∷ xor xs ys

-- the first string at bit 0, the second at bit 1
abbrev pub select : ℕ → List ℕ → List ℕ → List ℕ
select zero xs ys = xs
select (suc bit) xs ys = ys

-- LSB1(V), the rightmost bit
abbrev pub last_bit : List ℕ → ℕ
last_bit [] = 0
last_bit (x ∷ []) = x
last_bit (x ∷ (y ∷ ys)) = last_bit (y ∷ ys)

-- V >> 1: the rightmost bit goes, and a zero comes on the left
abbrev pub shift_right : List ℕ → List ℕ
shift_right v = 0 ∷ take (length v - 1) v

-- R = 11100001 ‖ 0^120
unfoldable pub R : List ℕ
R = (1 ∷ 1 ∷ 1 ∷ 0 ∷ 0 ∷ 0 ∷ 0 ∷ 1 ∷ []) ++ zeros 120

-- the next V: V >> 1, and R added where LSB1(V) is 1
abbrev pub next_v : List ℕ → List ℕ
next_v v = select (last_bit v) (shift_right v) (xor (shift_right v) R)

-- For each bit of X from the left: Z stays at bit 0 and becomes Z ⊕ V at bit 1; then comes the next V.
abbrev pub product_from : List ℕ → List ℕ → List ℕ → List ℕ
product_from [] z v = z
product_from (x ∷ xs) z v = product_from xs (select x z (xor z v)) (next_v v)

-- X • Y, from Z = 0^128 and V = Y
unfoldable pub product : List ℕ → List ℕ → List ℕ
product x y = product_from x (zeros 128) y

-- Y_i = (Y_{i-1} ⊕ X_i) • H, for m blocks X_i of a string
abbrev pub ghash_from : List ℕ → List ℕ → ℕ → List ℕ → List ℕ
ghash_from h y zero s = y
ghash_from h y (suc m) s = ghash_from h (product (xor y (take 128 s)) h) m (drop 128 s)

-- GHASH_H(X), from Y_0 = 0^128
unfoldable pub ghash : List ℕ → List ℕ → List ℕ
ghash h s = ghash_from h (zeros 128) (length s / 128) s

-- A ‖ 0^v, the least v that fills up to a multiple of 128
abbrev pub padded_string : List ℕ → List ℕ
padded_string a = a ++ zeros (128 * ((length a + 127) / 128) - length a)

-- A ‖ 0^v ‖ C ‖ 0^u ‖ [len(A)]64 ‖ [len(C)]64
unfoldable pub message : List ℕ → List ℕ → List ℕ
message a c = padded_string a ++ (padded_string c ++ (bits 64 (length a) ++ bits 64 (length c)))

-- a block as a string
abbrev pub block_string : Block → List ℕ
block_string b = bits 128 b.bits

-- Hash and tag are those of the standard, for this subkey, pad, header and body.
pub record MeetsStandard (subkey : Block) (pad : Pad) (header body : List ℕ)
    (digest : Digest) : Type 0 where
  -- S = GHASH_H(A ‖ 0^v ‖ C ‖ 0^u ‖ [len(A)]64 ‖ [len(C)]64)
  pub hashed : block_string digest.hash
      ≡ ghash (block_string subkey) (message (string header) (string body))
  -- T = S ⊕ CIPH_K(J0), all 128 bits of it; the pad is CIPH_K(J0)
  pub tagged : block_string digest.tag.0
      ≡ xor (ghash (block_string subkey) (message (string header) (string body))) (block_string pad.0)
