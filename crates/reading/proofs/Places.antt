-- The blocks of a file by their places, and what the tests on them tell.
use Rattle.std.proofs.Common.{◌≡◌, ℕ, ◌+◌, ◌-◌, ◌*◌, ◌%◌, ◌<◌, ◌≤◌, Bool, true, false, ◌&&◌, eqb, leb, List, length, take, drop, sym, refl, ap, ◌∙◌, arith}
use Rattle.std.proofs.lemmas.Bool.Decides.{nat_tests}
use Rattle.std.proofs.lemmas.List.{drop-take, drop-drop}
use Rattle.format.specs.Faults.{kind_in, used_length_in, is_used_fit, is_all_zero, is_form_good, is_size_good, block_at, predecessor_at, fault_of}
use Rattle.format.specs.Kinds.{kind_number}
use Rattle.format.specs.declared.block_kind.BlockKind.{BlockKind}
use Rattle.format.specs.declared.block_kind.BlockKind.TheVariants.{Header, Body, End}
use Rattle.format.proofs.BlockFields.{form_parts, used_limit}
use Rattle.reading.specs.Blocks.{IsPrefixOf}
use Rattle.reading.specs.Readers.{refusal_at}
use Rattle.reading.specs.declared.prefix.Prefix.{Prefix}

-- ---- what tests tell

pub record Sized (file : List ℕ) : Type 0 where
  pub whole : length file % 512 ≡ 0
  pub some : 512 ≤ length file
  pub few : length file ≤ 33554432

pub sized : (file : List ℕ) → is_size_good file ≡ true → Sized file
sized file good = record { whole = grind (arith, nat_tests); some = grind (arith, nat_tests); few = grind (arith, nat_tests) }

-- ---- a block of good form

-- what follows the prefix, past the data and up to the check
pub fill_is : (b rest : List ℕ) (used : ℕ) → rest ≡ drop 6 b → used ≤ 502
    → take (502 - used) (drop used rest) ≡ drop (6 + used) (take 508 b)
fill_is b rest used follows within =
    let past : drop used rest ≡ drop (6 + used) b = ap (drop used) follows ∙ drop-drop used 6 b in
    let e : 6 + used + (502 - used) ≡ 508 = omega arith in
    ap (take (502 - used)) past ∙ sym (drop-take (6 + used) (502 - used) b) ∙ ap (λ (n : ℕ). drop (6 + used) (take n b)) e

-- a kind's number is 1 to 3
in_range : (k : BlockKind) → (leb 1 (kind_number k) ≡ true) × (leb (kind_number k) 3 ≡ true)
in_range Header = (refl, refl)
in_range Body = (refl, refl)
in_range End = (refl, refl)

module _ (b : List ℕ) (k : BlockKind) (p : Prefix) (kind : kind_number k ≡ p.kind) (named : IsPrefixOf b p) where
  abbrev zeros : Bool
  zeros = is_all_zero (drop (6 + p.used) (take 508 b))

  abbrev slice : List ℕ
  slice = take (502 - p.used) (drop p.used p.rest.now)

  -- where the kind is one of three, reserve, used length and fill decide
  form_is : is_form_good b ≡ (eqb p.reserve 0 && (is_used_fit (kind_number k) p.used && zeros))
  form_is =
      let number : kind_in b ≡ kind_number k = sym (kind ∙ named.kind) in
      let reserve = sym named.reserve in
      let used = sym named.used in
      (λ i. leb 1 (number i) && (leb (number i) 3 && (eqb (reserve i) 0
      && (is_used_fit (number i) (used i) && is_all_zero (drop (6 + used i) (take 508 b))))))
      ∙ grind (arith, nat_tests, (in_range k).0, (in_range k).1)

  fill_read : is_used_fit (kind_number k) p.used ≡ true → zeros ≡ is_all_zero slice
  fill_read fits = ap is_all_zero (sym (fill_is b p.rest.now p.used named.rest (used_limit (kind_number k) p.used fits)))

  pub bad_reserve : (p.reserve ≡ 0 → ⊥) → is_form_good b ≡ false
  bad_reserve some = grind (arith, nat_tests, form_is)

  pub bad_used : is_used_fit (kind_number k) p.used ≡ false → is_form_good b ≡ false
  bad_used bad = grind (arith, nat_tests, form_is)

  pub bad_fill : is_used_fit (kind_number k) p.used ≡ true → is_all_zero slice ≡ false → is_form_good b ≡ false
  bad_fill fits bad = grind (arith, nat_tests, form_is, fill_read fits)

  pub good_form : p.reserve ≡ 0 → is_used_fit (kind_number k) p.used ≡ true → is_all_zero slice ≡ true → is_form_good b ≡ true
  good_form none fits good = grind (arith, nat_tests, form_is, fill_read fits)

-- an end block of good form has 16 bytes of data
pub used_of_end : (b : List ℕ) → is_form_good b ≡ true → kind_in b ≡ 3 → used_length_in b ≡ 16
used_of_end b good end = grind (arith, nat_tests, (form_parts b good).used)

-- ---- places

-- where bytes are left, what is wrong is what is wrong with the next block
pub wrong_block : (file : List ℕ) (k : ℕ) → is_size_good file ≡ true → 512 * k < length file
    → refusal_at file k ≡ fault_of k (predecessor_at file k) (block_at file k)
wrong_block file k good some = grind (arith, nat_tests, good, some)
