-- Numbers of two bytes weighed by the powers of a key and summed before one remainder, and rows taken in by groups.
use Rattle.std.proofs.Common.{◌≡◌, ℕ, zero, suc, ◌+◌, ◌-◌, ◌*◌, ◌%◌, ◌^◌, List, [], ◌∷◌, fold, length, map, take, drop, sym, refl, ap, ◌∙◌, ap₂, zero-mul, add_comm}
use Rattle.std.proofs.Math.Nat.{mod-add-mod, add-mod-mod, suc-mul}
use Rattle.std.proofs.lemmas.Nat.{mul-mod}
use Rattle.std.proofs.lemmas.List.{drop-drop, map-append, take-append-drop}
use Rattle.std.specs.Simd.{first_chunks}
use Rattle.field.specs.Ring.{CommutativeRing}
use Rattle.field.specs.Bytes.{word_of}
use Rattle.field.specs.Digits.{numeral}
use Rattle.field.specs.Evaluation.{power, eval, eval_from, horner}
use Rattle.field.specs.Residues.{entered}
use Rattle.field.specs.Instances.{same_word, word_residues}
use Rattle.field.specs.Kinds.{word, word_ring}
use Rattle.field.specs.declared.element.Element.{Ghosts}
use Rattle.field.specs.declared.word.Word.{Word}
use Rattle.field.proofs.Horner.{horner_append, horner_from}

abbrev modulus : ℕ
modulus = 2 ^ 31 - 1

-- the numbers enter the words with their sums and products
word_sum : (a b : ℕ) → word (a + b) ≡ word_ring.sum (word a) (word b)
word_sum a b = same_word _ _ (sym (mod-add-mod a modulus (b % modulus) ∙ add-mod-mod a b modulus))

word_product : (a b : ℕ) → word (a * b) ≡ word_ring.product (word a) (word b)
word_product a b = same_word _ _ (mul-mod a b modulus)

word_value : (w : Word) → word w.value ≡ w
word_value w = sym (entered word_residues w w.value refl)

-- a number times a word
word-times_value : (n : ℕ) (w : Word) → word (n * w.value) ≡ word_ring.product (word n) w
word-times_value n w = word_product n w.value ∙ ap (word_ring.product (word n)) (word_value w)

-- the numbers that pairs of bytes write, each times its power of the key
abbrev pub weighted_sum : Word → List (List ℕ) → ℕ
weighted_sum r [] = 0
weighted_sum r (n ∷ ns) = numeral 256 n * (power word_ring r (suc (length (map word_of ns)))).value + weighted_sum r ns

word-weighted_sum : (r : Word) (ns : List (List ℕ)) → word (weighted_sum r ns) ≡ eval word_ring r (map word_of ns)
word-weighted_sum r [] = refl
word-weighted_sum r (n ∷ ns) =
    let p : Word = power word_ring r (suc (length (map word_of ns))) in
    word_sum (numeral 256 n * p.value) (weighted_sum r ns)
    ∙ ap₂ word_ring.sum (word-times_value (numeral 256 n) p) (word-weighted_sum r ns)

pub word_from : (r v : Word) (ns : List (List ℕ))
    → word (v.value * (power word_ring r (length (map word_of ns))).value + weighted_sum r ns) ≡ eval_from word_ring r v (map word_of ns)
word_from r v ns =
    let p : Word = power word_ring r (length (map word_of ns)) in
    word_sum (v.value * p.value) (weighted_sum r ns)
    ∙ ap₂ word_ring.sum (word-times_value v.value p ∙ ap (λ x. word_ring.product x p) (word_value v)) (word-weighted_sum r ns)

-- a row taken in by groups, and then what is left
module _ {R X : Type 0} (m : Ghosts R) (laws : CommutativeRing m.zero m.one m.sum m.product) (element : X → R) (r : R) where
  abbrev group_in : R → List X → R
  group_in v group = eval_from m r v (map element group)

  pub by_groups : (n k : ℕ) (v : R) (xs : List X)
      → horner m r (fold group_in v (first_chunks n k xs)) (map element (drop (k * n) xs)) ≡ horner m r v (map element xs)
  by_groups n zero v xs = ap (λ (j : ℕ). horner m r v (map element (drop j xs))) (zero-mul n)
  by_groups n (suc k) v xs =
      let front : List X = take n xs in
      let back : List X = drop n xs in
      let further : drop (suc k * n) xs ≡ drop (k * n) back =
      ap (λ (j : ℕ). drop j xs) (suc-mul k n ∙ add_comm (k * n) n) ∙ sym (drop-drop (k * n) n xs) in
      ap (λ (ys : List X). horner m r (fold group_in (group_in v front) (first_chunks n k back)) (map element ys)) further
      ∙ by_groups n k (group_in v front) back
      ∙ ap (λ x. horner m r x (map element back)) (sym (horner_from m laws r v (map element front)))
      ∙ sym (horner_append m laws r v (map element front) (map element back))
      ∙ ap (horner m r v) (sym (map-append element front back) ∙ ap (map element) (take-append-drop n xs))
