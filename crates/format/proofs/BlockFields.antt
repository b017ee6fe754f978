-- One block: what its fields say, and that a block without fault is laid out from its content.
use Rattle.std.proofs.Common.{◌≡◌, ℕ, ◌+◌, ◌-◌, ◌^◌, ◌<◌, ◌≤◌, true, List, [], ◌∷◌, ◌++◌, length, get_or, take, drop, replicate, sym, refl, ap, ◌∙◌, subst, ap₂, append_assoc, mod-eq_of_lt, arith, lit<, length-append, length-drop, take-append-drop}
use lib.ListN.{length-replicate}
use Rattle.std.proofs.lemmas.List.{take_at, drop_at, take-take, drop-take, drop-drop, length-take-le}
use Rattle.std.proofs.lemmas.Bool.Decides.{nat_tests}
use Rattle.field.specs.Digits.{numeral, digits}
use Rattle.field.specs.Evaluation.{eval}
use Rattle.field.specs.Kinds.{word, word_ring}
use Rattle.field.proofs.Digits.{length_digits, numeral_digits, digits_numeral}
use Rattle.message.specs.Blocks.{AreBytes}
use Rattle.message.proofs.StandardHash.{small_take, small_drop}
use Rattle.format.specs.Layout.{Content, content, checked_bytes, check_of, words_of, block_bytes}
use Rattle.format.specs.Faults.{number_in, kind_in, reserve_in, used_length_in, data_in, filling_in, stored_check, is_all_zero, is_used_fit, is_form_good}
use Rattle.format.proofs.Zeros.{zeros_zero, zeros_from, heads}

-- what a block says that it carries
abbrev pub content_of : List ℕ → Content
content_of b = content (kind_in b) (data_in b)

-- what a block can carry
pub record Fit (c : Content) : Type 0 where
  pub low : 1 ≤ c.kind
  pub high : c.kind ≤ 3
  pub used : is_used_fit c.kind (length c.bytes) ≡ true

-- a used length that fits a kind is 1 to 502
pub used_some : (kind used : ℕ) → is_used_fit kind used ≡ true → 1 ≤ used
used_some kind used e = grind (arith, nat_tests)

pub used_limit : (kind used : ℕ) → is_used_fit kind used ≡ true → used ≤ 502
used_limit kind used e = grind (arith, nat_tests)

-- what the form of a block asks, part by part
pub record Form (b : List ℕ) : Type 0 where
  pub low : 1 ≤ kind_in b
  pub high : kind_in b ≤ 3
  pub reserve : reserve_in b ≡ 0
  pub used : is_used_fit (kind_in b) (used_length_in b) ≡ true
  pub zeros : is_all_zero (filling_in b) ≡ true

pub form_parts : (b : List ℕ) → is_form_good b ≡ true → Form b
form_parts b e = record {
  low = grind (arith, nat_tests);
  high = grind (arith, nat_tests);
  reserve = grind (arith, nat_tests);
  used = grind (arith, nat_tests);
  zeros = grind (arith, nat_tests);
}

-- the check fits in four bytes
check_below : (bytes : List ℕ) → check_of bytes < 256 ^ 4
unfolding check_of
check_below bytes =
    let below : check_of bytes < 2 ^ 31 - 1 = (eval word_ring (word 16807) (words_of bytes)).fits in
    omega arith

-- ---- the fields of a block that is laid out

-- two bytes hold a number below 65,536
pair_number : (v : ℕ) → v < 65536 → numeral 256 (digits 256 2 v) ≡ v
pair_number v below = numeral_digits 256 (lit< tt) 2 v ∙ mod-eq_of_lt below

-- the zeros past the data
abbrev fill_of : Content → List ℕ
fill_of c = replicate (502 - length c.bytes) 0

module _ (n : ℕ) (c : Content) where
  -- past the first six bytes stand the data and the zeros
  front_rest : drop 6 (checked_bytes n c) ≡ c.bytes ++ fill_of c
  unfolding checked_bytes digits
  front_rest = refl

  block_rest : drop 6 (block_bytes n c) ≡ (c.bytes ++ fill_of c) ++ digits 256 4 (check_of (checked_bytes n c))
  unfolding checked_bytes digits
  block_rest = refl

  -- each field says what was laid out
  pub kind_numbered : kind_in (block_bytes n c) ≡ c.kind
  unfolding checked_bytes digits
  kind_numbered = refl

  pub reserve_numbered : reserve_in (block_bytes n c) ≡ 0
  unfolding checked_bytes digits
  reserve_numbered = refl

  pub number_numbered : n < 65536 → number_in (block_bytes n c) ≡ n
  unfolding checked_bytes digits
  number_numbered below = pair_number n below

  module _ (limit : length c.bytes ≤ 502) where
    -- number, kind, reserve, used length, data and zeros take 508 bytes
    length_front : length (checked_bytes n c) ≡ 508
    unfolding checked_bytes digits
    length_front = simp (length-append, length-replicate) (omega arith)

    pub length_block : length (block_bytes n c) ≡ 512
    length_block =
        length-append (checked_bytes n c) (digits 256 4 (check_of (checked_bytes n c)))
        ∙ ap₂ (λ (x y : ℕ). x + y) length_front (length_digits 256 4 (check_of (checked_bytes n c)))

  module _ (fit : Fit c) where
    limit : length c.bytes ≤ 502
    limit = used_limit c.kind (length c.bytes) fit.used

    pub length_numbered : length (block_bytes n c) ≡ 512
    length_numbered = length_block limit

    pub front_numbered : take 508 (block_bytes n c) ≡ checked_bytes n c
    front_numbered = take_at (checked_bytes n c) (digits 256 4 (check_of (checked_bytes n c))) 508 (length_front limit)

    pub check_numbered : stored_check (block_bytes n c) ≡ check_of (checked_bytes n c)
    check_numbered =
        ap (numeral 256) (drop_at (checked_bytes n c) (digits 256 4 (check_of (checked_bytes n c))) 508 (length_front limit))
        ∙ numeral_digits 256 (lit< tt) 4 (check_of (checked_bytes n c))
        ∙ mod-eq_of_lt (check_below (checked_bytes n c))

    pub used_numbered : used_length_in (block_bytes n c) ≡ length c.bytes
    unfolding checked_bytes digits
    used_numbered = let l = limit in pair_number (length c.bytes) (omega arith)

    pub data_numbered : data_in (block_bytes n c) ≡ c.bytes
    data_numbered =
        let check : List ℕ = digits 256 4 (check_of (checked_bytes n c)) in
        ap (λ (u : ℕ). take u (drop 6 (block_bytes n c))) used_numbered
        ∙ ap (take (length c.bytes)) (block_rest ∙ append_assoc c.bytes (fill_of c) check)
        ∙ take_at c.bytes (fill_of c ++ check) (length c.bytes) refl

    pub fill_numbered : is_all_zero (filling_in (block_bytes n c)) ≡ true
    fill_numbered =
        ap₂ (λ (u : ℕ) (f : List ℕ). is_all_zero (drop (6 + u) f)) used_numbered front_numbered
        ∙ ap is_all_zero
        (sym (drop-drop (length c.bytes) 6 (checked_bytes n c))
        ∙ ap (drop (length c.bytes)) front_rest
        ∙ drop_at c.bytes (fill_of c) (length c.bytes) refl)
        ∙ zeros_zero (502 - length c.bytes)

    pub content_numbered : content_of (block_bytes n c) ≡ c
    content_numbered = ap₂ content kind_numbered data_numbered

    pub form_numbered : is_form_good (block_bytes n c) ≡ true
    form_numbered =
        grind (arith, nat_tests, fit.low, fit.high, reserve_numbered, kind_numbered, used_numbered, fit.used, fill_numbered)

-- ---- a block whose check, number and form are right

-- what a block of good form says that it carries can be carried
pub content_fits : (b : List ℕ) → length b ≡ 512 → is_form_good b ≡ true
    → (length (data_in b) ≡ used_length_in b) × Fit (content_of b)
content_fits b long good =
    let form : Form b = form_parts b good in
    let limit : used_length_in b ≤ 502 = used_limit (kind_in b) (used_length_in b) form.used in
    let within : used_length_in b ≤ length (drop 6 b) = simp length-drop (omega arith) in
    let same : length (data_in b) ≡ used_length_in b = length-take-le (used_length_in b) (drop 6 b) within in (
      same,
      record {
        low = form.low;
        high = form.high;
        used = ap (is_used_fit (kind_in b)) same ∙ form.used;
      },
    )

-- the data and the zeros of a block
rest_again : (b : List ℕ) → length b ≡ 512 → is_form_good b ≡ true → drop 6 (take 508 b) ≡ data_in b ++ fill_of (content_of b)
rest_again b long good =
    let form : Form b = form_parts b good in
    let same : length (data_in b) ≡ used_length_in b = (content_fits b long good).0 in
    let limit : used_length_in b ≤ 502 = used_limit (kind_in b) (used_length_in b) form.used in
    let front : length (take 508 b) ≡ 508 = length-take-le 508 b (omega arith) in
    let count : length (filling_in b) ≡ 502 - length (data_in b) = simp length-drop (omega arith) in
    let used : take (used_length_in b) (drop 6 (take 508 b)) ≡ data_in b =
    ap (take (used_length_in b)) (drop-take 6 502 b) ∙ take-take (used_length_in b) 502 (drop 6 b) limit in
    sym (take-append-drop (used_length_in b) (drop 6 (take 508 b)))
    ∙ ap₂ (λ (d f : List ℕ). d ++ f) used
    (drop-drop (used_length_in b) 6 (take 508 b) ∙ zeros_from (filling_in b) form.zeros ∙ ap (λ (k : ℕ). replicate k 0) count)

-- the first 508 bytes of a block whose first six are written out
module _ (x y kind reserve z w : ℕ) (rest : List ℕ) where
  abbrev six : List ℕ
  six = x ∷ (y ∷ (kind ∷ (reserve ∷ (z ∷ (w ∷ rest)))))

  front_of_six : length six ≡ 512 → AreBytes six → is_form_good six ≡ true
      → take 508 six ≡ checked_bytes (number_in six) (content_of six)
  unfolding checked_bytes
  front_of_six long small good =
      let form : Form six = form_parts six good in
      let same : length (data_in six) ≡ used_length_in six = (content_fits six long good).0 in
      let number : x ∷ (y ∷ []) ≡ digits 256 2 (number_in six) =
      sym (digits_numeral 256 (lit< tt) (x ∷ (y ∷ [])) (small_take 2 six small)) in
      let used : z ∷ (w ∷ []) ≡ digits 256 2 (length (data_in six)) =
      sym (ap (digits 256 2) same
      ∙ digits_numeral 256 (lit< tt) (z ∷ (w ∷ [])) (small_take 2 (drop 4 six) (small_drop 4 six small))) in
      let more : take 502 rest ≡ data_in six ++ fill_of (content_of six) = rest_again six long good in
      λ i. number i ++ (kind ∷ (form.reserve i ∷ (used i ++ more i)))

-- the first 508 bytes of a block of good form are laid out from what it says
pub front_again : (b : List ℕ) → length b ≡ 512 → AreBytes b → is_form_good b ≡ true
    → take 508 b ≡ checked_bytes (number_in b) (content_of b)
front_again b long small good =
    subst
    (λ (xs : List ℕ). length xs ≡ 512 → AreBytes xs → is_form_good xs ≡ true
    → take 508 xs ≡ checked_bytes (number_in xs) (content_of xs))
    (sym (heads 6 b (omega arith)))
    (front_of_six (get_or b 0 0) (get_or b 1 0) (get_or b 2 0) (get_or b 3 0) (get_or b 4 0) (get_or b 5 0) (drop 6 b))
    long small good

-- a block of good form with a right check is laid out from what it says
pub block_again : (b : List ℕ) → length b ≡ 512 → AreBytes b → is_form_good b ≡ true
    → stored_check b ≡ check_of (take 508 b) → b ≡ block_bytes (number_in b) (content_of b)
block_again b long small good right =
    let same : take 508 b ≡ checked_bytes (number_in b) (content_of b) = front_again b long small good in
    let four : length (drop 508 b) ≡ 4 = simp length-drop (omega arith) in
    let check : drop 508 b ≡ digits 256 4 (check_of (take 508 b)) =
    sym (digits_numeral 256 (lit< tt) (drop 508 b) (small_drop 508 b small))
    ∙ ap₂ (digits 256) four right in
    sym (take-append-drop 508 b)
    ∙ ap₂ (λ (f k : List ℕ). f ++ k) same (check ∙ ap (λ (f : List ℕ). digits 256 4 (check_of f)) same)
