-- A file read to its end, record by record: what a reader refuses is what the scan of the whole file refuses.
use Rattle.std.proofs.Common.{◌≡◌, ℕ, suc, ◌+◌, ◌-◌, ◌*◌, ◌/◌, ◌<◌, ◌≤◌, true, cond, eqb, List, ◌∷◌, length, drop, Some, None, Ok, Err, Option, Result, sym, refl, ap, ap₂, ◌∙◌, inl, inr, add-one, arith}
use Rattle.std.proofs.lemmas.Bool.{cases_lt, cond-true, eq-eqb}
use Rattle.std.proofs.lemmas.Bool.Decides.{nat_tests}
use Rattle.std.proofs.lemmas.List.{drop-drop}
use Rattle.std.specs.Simd.{first_chunks}
use Rattle.refusal.specs.declared.Refusal.{Refusal}
use Rattle.refusal.specs.declared.Refusal.TheVariants.{NoEnd}
use Rattle.format.specs.Faults.{Predecessor, no_predecessor, as_predecessor, is_size_good, block_at, predecessor_at, blocks_of, refusal_or, fault_of, scan_result}
use Rattle.format.specs.Verdict.{and_then, lengths_in, scan_answer}
use Rattle.format.specs.declared.lengths.Lengths.{Lengths}
use Rattle.reading.specs.Readers.{refusal_at, ReadsBlock, AnswersAsScan}
use Rattle.reading.specs.Scanning.{Reached}
use Rattle.reading.specs.declared.reader.Reader.{Reader}
use Rattle.reading.specs.declared.record.Item.{Item}
use Rattle.reading.proofs.Places.{sized, wrong_block}
use Rattle.reading.proofs.Scans.{scan_on}

abbrev Answer : Type 0
Answer = Result Lengths Refusal

-- the blocks from block k on: block k, and the blocks after it
chunks_more : (n k : ℕ) (file : List ℕ) → k < n
    → first_chunks 512 (n - k) (drop (512 * k) file)
    ≡ block_at file k ∷ first_chunks 512 (n - (k + 1)) (drop (512 * (k + 1)) file)
chunks_more n k file within =
    let e : n - k ≡ suc (n - (k + 1)) = omega (arith, within) in
    let further : 512 * k + 512 ≡ 512 * (k + 1) = omega arith in
    ap (λ (j : ℕ). first_chunks 512 j (drop (512 * k) file)) e
    ∙ ap (λ (xs : List ℕ). block_at file k ∷ first_chunks 512 (n - (k + 1)) xs) (drop-drop 512 (512 * k) file
    ∙ ap (λ (j : ℕ). drop j file) further)

module _ (file : List ℕ) (k : ℕ) (reached : Reached file k) where
  abbrev last : Predecessor → Answer
  last p = cond (eqb p.kind 3) (Ok (lengths_in file)) (Err (NoEnd (length file / 512)))

  -- at the end of the file
  module _ (whole : 512 * k ≡ length file) where
    ended : and_then (scan_result 0 no_predecessor (blocks_of file)) last
        ≡ refusal_or (cond (eqb (512 * k) (length file))
        (cond (eqb (predecessor_at file k).kind 3) None (Some (NoEnd k)))
        (fault_of k (predecessor_at file k) (block_at file k))) (Ok (lengths_in file))
    unfolding blocks_of
    ended =
        let count : length file / 512 ≡ k = omega (arith, whole) in
        let none : length file / 512 - k ≡ 0 = omega (arith, whole) in
        ap (λ (r : Result Predecessor Refusal). and_then r last)
        (reached ∙ ap (λ (n : ℕ). scan_result k (predecessor_at file k) (first_chunks 512 n (drop (512 * k) file))) none)
        ∙ grind (arith, nat_tests, ap (λ (n : ℕ). NoEnd n) count)
        ∙ ap (λ (o : Option Refusal). refusal_or o (Ok (lengths_in file)))
        (sym (cond-true _ _ _ (eq-eqb (512 * k) (length file) whole)))

    -- the scan's answer is that of a reader there
    pub answer_at_end : scan_answer file ≡ refusal_or (refusal_at file k) (Ok (lengths_in file))
    answer_at_end = grind (arith, nat_tests, ended)

  -- before a block
  module _ (some : 512 * k < length file) where
    fault_stays : (o : Option Refusal) (r : Result Predecessor Refusal)
        → and_then (refusal_or o r) last ≡ refusal_or o (and_then (refusal_or o r) last)
    fault_stays None r = refl
    fault_stays (Some e) r = refl

    met : is_size_good file ≡ true
        → and_then (scan_result 0 no_predecessor (blocks_of file)) last
        ≡ refusal_or (refusal_at file k) (and_then (scan_result 0 no_predecessor (blocks_of file)) last)
    unfolding blocks_of
    met good =
        let size = sized file good in
        let n : ℕ = length file / 512 in
        let less : k < n = omega (arith, size.whole, some) in
        let later = first_chunks 512 (n - (k + 1)) (drop (512 * (k + 1)) file) in
        let o : Option Refusal = fault_of k (predecessor_at file k) (block_at file k) in
        let r : Result Predecessor Refusal = scan_result (suc k) (as_predecessor (block_at file k)) later in
        let here : scan_result 0 no_predecessor (first_chunks 512 n file) ≡ refusal_or o r =
        reached ∙ ap (scan_result k (predecessor_at file k)) (chunks_more n k file less) in
        ap (λ (x : Result Predecessor Refusal). and_then x last) here ∙ fault_stays o r
        ∙ sym
        (ap₂ (λ (w : Option Refusal) (x : Result Predecessor Refusal). refusal_or w (and_then x last))
        (wrong_block file k good some) here)

    answer_at_block : scan_answer file ≡ refusal_or (refusal_at file k) (scan_answer file)
    answer_at_block = grind (arith, nat_tests, met)

  -- what the reader refuses is what the file is refused for
  pub refused : (e : Refusal) → 512 * k ≤ length file → refusal_at file k ≡ Some e → scan_answer file ≡ Err e
  refused e within wrong =
      elim (cases_lt (512 * k) (length file)) [
        | inl some ↦ answer_at_block some ∙ ap (λ (o : Option Refusal). refusal_or o (scan_answer file)) wrong
        | inr all ↦
            let whole : 512 * k ≡ length file = omega arith in
            answer_at_end whole ∙ ap (λ (o : Option Refusal). refusal_or o (Ok (lengths_in file))) wrong
      ]

  -- past a block without fault the scan goes on
  pub reach_more : refusal_at file k ≡ None → 512 * suc k ≤ length file → Reached file (suc k)
  reach_more right within =
      let n : ℕ = length file / 512 in
      let good : is_size_good file ≡ true = grind (arith, nat_tests, right) in
      let none = sym (wrong_block file k good (omega (arith, within))) ∙ right in
      reached ∙ ap (scan_result k (predecessor_at file k)) (chunks_more n k file (omega (arith, within)))
      ∙ scan_on k (predecessor_at file k) (block_at file k) (first_chunks 512 (n - (k + 1)) (drop (512 * (k + 1)) file)) none
      ∙ ap (λ (j : ℕ). scan_result (suc k) (as_predecessor (block_at file k)) (first_chunks 512 (n - j) (drop (512 * j) file)))
      (add-one k)

-- so one call of a reader answers as the scan of the whole file
pub as_scan : (old new : Reader) (r : Result (Option Item) Refusal) → ReadsBlock old new r → AnswersAsScan old r
as_scan old new (Ok None) read =
    answer_at_end old.file.now old.place old.reached read.over
    ∙ ap (λ (o : Option Refusal). refusal_or o (Ok (lengths_in old.file.now))) read.sound
as_scan old new (Ok (Some i)) read = tt
as_scan old new (Err e) read = refused old.file.now old.place old.reached e old.within read.why
