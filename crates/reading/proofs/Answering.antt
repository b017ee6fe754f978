-- From the scan of a file's blocks to the answer on the file.
use Rattle.std.proofs.Common.{◌≡◌, ℕ, ◌/◌, true, false, cond, eqb, List, length, Ok, Err, Result, ap, ◌∙◌}
use Rattle.std.proofs.lemmas.Bool.{cond-true, cond-false}
use Rattle.refusal.specs.declared.Refusal.{Refusal}
use Rattle.refusal.specs.declared.Refusal.TheVariants.{FileSize, NoEnd}
use Rattle.format.specs.Faults.{Predecessor, no_predecessor, is_size_good, blocks_of, scan_result}
use Rattle.format.specs.Verdict.{and_then, lengths_in, scan_answer}
use Rattle.format.specs.declared.lengths.Lengths.{Lengths}

abbrev Answer : Type 0
Answer = Result Lengths Refusal

module _ (file : List ℕ) (good : is_size_good file ≡ true) where
  abbrev at_end : Predecessor → Answer
  at_end last = cond (eqb last.kind 3) (Ok (lengths_in file)) (Err (NoEnd (length file / 512)))

  answer_of_scan : (r : Result Predecessor Refusal) → scan_result 0 no_predecessor (blocks_of file) ≡ r
      → scan_answer file ≡ and_then r at_end
  answer_of_scan r is =
      cond-true (is_size_good file) (and_then (scan_result 0 no_predecessor (blocks_of file)) at_end) (Err FileSize) good
      ∙ ap (λ (s : Result Predecessor Refusal). and_then s at_end) is

  pub answer_fault : (e : Refusal) → scan_result 0 no_predecessor (blocks_of file) ≡ Err e → scan_answer file ≡ Err e
  answer_fault e is = answer_of_scan (Err e) is

  pub answer_no_end : (last : Predecessor) → scan_result 0 no_predecessor (blocks_of file) ≡ Ok last
      → eqb last.kind 3 ≡ false → scan_answer file ≡ Err (NoEnd (length file / 512))
  answer_no_end last is other =
      answer_of_scan (Ok last) is ∙ cond-false (eqb last.kind 3) (Ok (lengths_in file)) (Err (NoEnd (length file / 512))) other

  pub answer_end : (last : Predecessor) → scan_result 0 no_predecessor (blocks_of file) ≡ Ok last
      → eqb last.kind 3 ≡ true → scan_answer file ≡ Ok (lengths_in file)
  answer_end last is end =
      answer_of_scan (Ok last) is ∙ cond-true (eqb last.kind 3) (Ok (lengths_in file)) (Err (NoEnd (length file / 512))) end
