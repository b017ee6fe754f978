-- What a record adds to the parts of its file.
use Rattle.std.proofs.Common.{ℕ, cond, eqb, List, [], ◌++◌, sym, ap, ◌∙◌, ap₂, add-one}
use Rattle.std.specs.Simd.{first_chunks}
use Rattle.format.specs.Faults.{data_of}
use Rattle.reading.specs.Records.{IsItemOf}
use Rattle.reading.specs.Readers.{IsNextPiece, data_before, AddsToBoth}
use Rattle.reading.specs.declared.record.Item.{Item}
use Rattle.reading.proofs.Scans.{data_more}

-- a record's data come next in its part
next_piece : (kind k : ℕ) (file : List ℕ) (i : Item) → IsItemOf file k i → IsNextPiece kind file k i.record
next_piece kind k file i taken =
    sym
    (ap₂ (λ (n : ℕ) (xs : List ℕ). data_before kind k file ++ cond (eqb n kind) xs []) taken.kind taken.bytes
    ∙ sym (data_more kind k file)
    ∙ ap (λ (j : ℕ). data_of kind (first_chunks 512 j file)) (add-one k))

pub adds_to_both : (file : List ℕ) (k : ℕ) (i : Item) → IsItemOf file k i → AddsToBoth file k i.record
adds_to_both file k i taken = record { header = next_piece 1 k file i taken; body = next_piece 2 k file i taken }
