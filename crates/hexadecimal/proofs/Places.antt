-- The first place of a text that holds no digit is the one that decoding names.
use Rattle.std.proofs.Common.{◌≡◌, ℕ, ◌+◌, ◌*◌, ◌%◌, ◌≤◌, ◌⊎◌, ◌&&◌, inl, inr, not, Bool, true, false, List, [], ◌∷◌, fold, length, slice_index, Option, Some, None, Result, Ok, Err, refl, ap, ap₂, ◌∙◌, arith}
use Rattle.std.proofs.lemmas.Bool.{cases_lt}
use Rattle.std.proofs.lemmas.Grind.{common_steps}
use Rattle.std.proofs.lemmas.List.Quantifiers.{position-Some}
use Rattle.std.proofs.lemmas.List.Sums.{AllPass-from_list_all, fails_before_first}
use Rattle.std.specs.List.{AllPass, list_all, position_or_len}
use Rattle.hex.proofs.HexLemmas.{decode_of-digits, decode_of-err, decode_of-ok}
use Rattle.hex.specs.Hex.{decode_of, is_hex_digit}
use Rattle.hex.specs.declared.error.FromHexError.TheVariants.{InvalidHexCharacter}
use Rattle.hexadecimal.specs.Words.{bad_place}

-- a fold that is false from the first on that does not
pub fold-and : (p : ℕ → Bool) (so_far : Bool) (xs : List ℕ) → fold (λ a x. a && p x) so_far xs ≡ (so_far && list_all p xs)
fold-and p true [] = refl
fold-and p false [] = refl
fold-and p true (x ∷ xs) = fold-and p (p x) xs
fold-and p false (x ∷ xs) = fold-and p false xs

-- a place or none
place_or_none : (o : Option ℕ) → ((at : ℕ) × (o ≡ Some at)) ⊎ (o ≡ None)
place_or_none (Some at) = inl (at, refl)
place_or_none None = inr refl

-- no place holds none where each holds a digit
pub bad_place-none : (text : List ℕ) → list_all is_hex_digit text ≡ true → bad_place text ≡ None
bad_place-none text all =
    elim (place_or_none (bad_place text)) [
      | inl found ↦
          let first = position-Some (λ c. not (is_hex_digit c)) text found.0 0 found.1 in
          let digit = AllPass-from_list_all is_hex_digit text all found.0 0 first.0 in
          let bad = first.1 in
          grind (arith)
      | inr none ↦ none
    ]

-- an `Ok` or an `Err`
parts : {T E : Type 0} (r : Result T E) → ((x : T) × (r ≡ Ok x)) ⊎ ((e : E) × (r ≡ Err e))
parts (Ok x) = inl (x, refl)
parts (Err e) = inr (e, refl)

module _ (text : List ℕ) (even : length text % 2 ≡ 0) where
  -- decoding names the first place that holds no digit
  pub decode_of-bad : (at : ℕ) → bad_place text ≡ Some at → decode_of text ≡ Err (InvalidHexCharacter (slice_index text at) at)
  decode_of-bad at found =
      let first = position-Some (λ c. not (is_hex_digit c)) text at 0 found in
      let inside = first.0 in
      let bad = first.1 in
      elim (parts (decode_of text)) [
        | inl ok ↦ cc (bad, (decode_of-ok text ok.0 ok.1).1 at 0 inside)
        | inr err ↦
            elim (decode_of-err text err.0 err.1) [
              | inl odd ↦ absurd (omega (arith, odd.0))
              | inr named ↦
                  let k = named.0 in
                  let within = named.2 in
                  elim (cases_lt k at) [
                    | inl before ↦ cc (first.2 k before, named.3)
                    | inr from ↦
                        elim (cases_lt at k) [
                          | inl after ↦
                              let digit = named.4 at 0 (grind (arith, common_steps)) in
                              grind (arith, common_steps)
                          | inr upto ↦
                              let same : k ≡ at = omega arith in
                              let place : 0 + k ≡ at = omega arith in
                              err.1 ∙ ap Err named.1
                              ∙ ap₂ (λ (c i : ℕ). Err (InvalidHexCharacter c i)) (ap (slice_index text) same) place
                        ]
                  ]
            ]
      ]

  -- a text without one decodes, to half as many bytes
  pub decode_of-good : bad_place text ≡ None → (bytes : List ℕ) × (decode_of text ≡ Ok bytes) × (length text ≡ 2 * length bytes)
  decode_of-good none =
      let everywhere : length text ≤ position_or_len (λ c. not (is_hex_digit c)) text = grind (arith) in
      let digits : AllPass is_hex_digit text = λ k d lt.
      let f = fails_before_first (λ c. not (is_hex_digit c)) text k d (omega (arith, everywhere)) in grind (arith) in
      let bytes = decode_of-digits text even digits in
      (bytes.0, bytes.1, (decode_of-ok text bytes.0 bytes.1).2)
