-- Where no block is left for a reader, all are read, and the last of them decides.
use Rattle.std.proofs.Common.{◌≡◌, ◌-◌, ◌*◌, ◌<◌, Bool, true, false, cond, eqb, length, take, drop, Some, None, Ok, Err, Option, sym, ap, ◌∙◌, arith}
use Rattle.std.proofs.lemmas.Bool.Decides.{nat_tests}
use Rattle.std.proofs.lemmas.List.{length-drop, take_rest}
use Rattle.refusal.specs.declared.Refusal.{Refusal}
use Rattle.refusal.specs.declared.Refusal.TheVariants.{NoEnd}
use Rattle.format.specs.Faults.{is_size_good, refusal_or}
use Rattle.format.specs.Verdict.{lengths_in, scan_answer}
use Rattle.reading.specs.Shapes.{predecessor_of}
use Rattle.reading.specs.declared.reader.Reader.{Reader}
use Rattle.reading.proofs.Gathering.{answer_at_end}
use Rattle.reading.proofs.Places.{sized}

module _ (r : Reader) (good : true ≡ is_size_good r.file.now)
    (short : length (take (length r.file.now - 512 * r.place) (drop (512 * r.place) r.file.now)) < 512) where
  over : 512 * r.place ≡ length r.file.now
  over =
      let left = ap length (take_rest r.file.now (512 * r.place)) ∙ length-drop (512 * r.place) r.file.now in
      omega (arith, (sized r.file.now (sym good)).whole, r.within, left, short)

  answer_there : scan_answer r.file.now
      ≡ refusal_or (cond (eqb (predecessor_of r.last).kind 3) None (Some (NoEnd r.place))) (Ok (lengths_in r.file.now))
  answer_there =
      answer_at_end r.file.now r.place r.reached over
      ∙ ap (λ (o : Option Refusal). refusal_or o (Ok (lengths_in r.file.now))) (grind (arith, nat_tests, good, over, r.kind))

  -- an end block: the scan of the whole file meets no fault
  pub accepted : eqb (predecessor_of r.last).kind 3 ≡ true → scan_answer r.file.now ≡ Ok (lengths_in r.file.now)
  accepted end =
      answer_there
      ∙ ap (λ (t : Bool). refusal_or (cond t None (Some (NoEnd r.place))) (Ok (lengths_in r.file.now))) end

  -- another: the scan misses the end block too
  pub lacking : eqb (predecessor_of r.last).kind 3 ≡ false → scan_answer r.file.now ≡ Err (NoEnd r.place)
  lacking other =
      answer_there
      ∙ ap (λ (t : Bool). refusal_or (cond t None (Some (NoEnd r.place))) (Ok (lengths_in r.file.now))) other
