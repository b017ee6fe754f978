-- Strings of bits: their sums, shifts and joins, as numbers.
use Rattle.std.proofs.Common.{◌≡◌, ℕ, zero, suc, ◌+◌, ◌-◌, ◌*◌, ◌/◌, ◌%◌, ◌^◌, ◌<◌, List, [], ◌∷◌, ◌++◌, length, take, replicate, sym, refl, ap, ◌∙◌, subst, ap₂, append_assoc, pow-suc, div-one, add-one, arith, lit<, length-append, pow-add, shr_lt}
use native.Mathlib.Nat.{div-eq_of_lt}
use lib.Bits.{bit_xor, xor_zero_r}
use Rattle.std.proofs.lemmas.List.{take_at, replicate-append-replicate}
use Rattle.field.specs.Binary.{times_bit}
use Rattle.field.specs.Digits.{numeral, digits}
use Rattle.field.proofs.Digits.{length_digits, digits_append, digits_mod, digits_numeral}
use Rattle.field.specs.Orders.{bit_additive}
use Rattle.message.specs.Blocks.{AreBytes}
use Rattle.message.specs.Standard.{bits, string, zeros, xor, select, last_bit, shift_right}

-- ---- sums and shifts

pub xor_bits : (s a b : ℕ) → xor (bits s a) (bits s b) ≡ bits s (bit_xor a b)
unfolding digits
xor_bits zero a b = refl
xor_bits (suc s) a b = ap₂ (λ (x : ℕ) (xs : List ℕ). x ∷ xs) (sym (bit_additive s a b)) (xor_bits s a b)

pub select_bits : (s bit a b : ℕ) → select bit (bits s a) (xor (bits s a) (bits s b)) ≡ bits s (bit_xor a (times_bit bit b))
select_bits s zero a b = ap (bits s) (sym (xor_zero_r a))
select_bits s (suc bit) a b = xor_bits s a b

-- the rightmost bit apart
bits_last : (s a : ℕ) → bits (suc s) a ≡ bits s (a / 2) ++ (a % 2 ∷ [])
unfolding digits
bits_last s a =
    ap (λ (n : ℕ). bits n a) (sym (add-one s)) ∙ digits_append 2 s 1 a ∙ ap (λ (d : ℕ). bits s (a / 2) ++ (d % 2 ∷ [])) (div-one a)

last_bit_push : (xs : List ℕ) (b : ℕ) → last_bit (xs ++ (b ∷ [])) ≡ b
last_bit_push [] b = refl
last_bit_push (x ∷ []) b = refl
last_bit_push (x ∷ (y ∷ ys)) b = last_bit_push (y ∷ ys) b

pub last_bit_bits : (s a : ℕ) → last_bit (bits (suc s) a) ≡ a % 2
last_bit_bits s a = ap last_bit (bits_last s a) ∙ last_bit_push (bits s (a / 2)) (a % 2)

-- a number below 2^s has a zero on the left
bits_first : (s a : ℕ) → a < 2 ^ s → bits (suc s) a ≡ 0 ∷ bits s a
unfolding digits
bits_first s a below = ap (λ (q : ℕ). q % 2 ∷ bits s a) (div-eq_of_lt below)

pub shift_right_bits : (s a : ℕ) → a < 2 ^ suc s → shift_right (bits (suc s) a) ≡ bits (suc s) (a / 2)
shift_right_bits s a below =
    let half : a / 2 < 2 ^ s = shr_lt s 1 (subst (λ (n : ℕ). a < 2 ^ n) (sym (add-one s)) below) in
    let shorter : length (bits (suc s) a) - 1 ≡ s = ap (λ (n : ℕ). n - 1) (length_digits 2 (suc s) a) ∙ omega arith in
    ap₂ (λ (n : ℕ) (xs : List ℕ). 0 ∷ take n xs) shorter (bits_last s a)
    ∙ ap (λ (xs : List ℕ). 0 ∷ xs) (take_at (bits s (a / 2)) (a % 2 ∷ []) s (length_digits 2 s (a / 2)))
    ∙ sym (bits_first s (a / 2) half)

-- ---- bytes

pub string_append : (xs ys : List ℕ) → string (xs ++ ys) ≡ string xs ++ string ys
unfolding string
string_append [] ys = refl
string_append (x ∷ xs) ys = ap (λ (bs : List ℕ). bits 8 x ++ bs) (string_append xs ys) ∙ sym (append_assoc (bits 8 x) (string xs) (string ys))

pub length_string : (xs : List ℕ) → length (string xs) ≡ 8 * length xs
unfolding string
length_string [] = refl
length_string (x ∷ xs) =
    length-append (bits 8 x) (string xs)
    ∙ ap₂ (λ (m n : ℕ). m + n) (length_digits 2 8 x) (length_string xs)
    ∙ omega arith

pub string_zeros : (n : ℕ) → string (replicate n 0) ≡ zeros (8 * n)
unfolding string digits
string_zeros zero = refl
string_zeros (suc n) =
    let e : 8 + 8 * n ≡ 8 * suc n = omega arith in
    ap (λ (bs : List ℕ). bits 8 0 ++ bs) (string_zeros n) ∙ replicate-append-replicate 8 (8 * n) 0 ∙ ap zeros e

-- 2^8 to the n
bytes_power : (n : ℕ) → 256 ^ n ≡ 2 ^ (n * 8)
bytes_power zero = refl
bytes_power (suc n) =
    pow-suc 256 n ∙ ap (λ (p : ℕ). p * 256) (bytes_power n) ∙ sym (pow-add 2 (n * 8) 8) ∙ ap (λ (m : ℕ). 2 ^ m) (omega_eq n)
  where
    omega_eq : (n : ℕ) → n * 8 + 8 ≡ suc n * 8
    omega_eq n = omega arith

-- the bytes of a number, as a string, are its bits
pub string_digits : (n v : ℕ) → string (digits 256 n v) ≡ bits (n * 8) v
unfolding string digits
string_digits zero v = refl
string_digits (suc n) v =
    let longer : suc n * 8 ≡ 8 + n * 8 = omega arith in
    ap₂ (λ (xs ys : List ℕ). xs ++ ys)
    (digits_mod 2 (lit< tt) 8 (v / 256 ^ n) ∙ ap (λ (p : ℕ). bits 8 (v / p)) (bytes_power n))
    (string_digits n v)
    ∙ sym (ap (λ (m : ℕ). bits m v) longer ∙ digits_append 2 8 (n * 8) v)

pub string_number : (xs : List ℕ) → AreBytes xs → string xs ≡ bits (length xs * 8) (numeral 256 xs)
string_number xs small =
    ap string (sym (digits_numeral 256 (lit< tt) xs small)) ∙ string_digits (length xs) (numeral 256 xs)
