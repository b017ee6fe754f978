-- The parts of a file, read into two buffers.
use Rattle.std.specs.Prelude.{◌≡◌, ℕ, if◌then◌else◌, ◌&&◌, List, Ok, Err, Result, nat_le}
use Rattle.refusal.specs.declared.Refusal.{Refusal}
use Rattle.refusal.specs.declared.Refusal.TheVariants.{OutputTooShort}
use Rattle.format.specs.Verdict.{and_then, scan_answer}
use Rattle.format.specs.declared.lengths.Lengths.{Lengths}
use Rattle.reading.specs.Sections.{OverwritesFront}

-- what the scan of the file answers, and then whether each part fits its buffer, whose lengths are given
abbrev pub parts_answer : List ℕ → ℕ → ℕ → Result Lengths Refusal
parts_answer file header body =
    and_then (scan_answer file) (λ lengths.
    if nat_le lengths.header header && nat_le lengths.body body
    then Ok lengths
    else Err OutputTooShort)

-- A buffer before and after: the part stands at its front; after a refusal all is as it was.
abbrev pub Receives : Result Lengths Refusal → List ℕ → List ℕ → List ℕ → Type 0
Receives (Ok lengths) part old new = OverwritesFront part old new
Receives (Err e) part old new = new ≡ old
