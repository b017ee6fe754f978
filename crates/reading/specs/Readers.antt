-- What a reader shows, and what one call of it answers.
use Rattle.std.specs.Prelude.{◌≡◌, ℕ, suc, ◌*◌, ◌≤◌, if◌then◌else◌, List, ◌++◌, length, Some, None, Ok, Err, Option, Result, ◌==◌}
use Rattle.std.specs.Simd.{first_chunks}
use Rattle.refusal.specs.declared.Refusal.{Refusal}
use Rattle.refusal.specs.declared.Refusal.TheVariants.{FileSize, NoEnd}
use Rattle.format.specs.Layout.{block_length, header_kind, body_kind, end_kind}
use Rattle.format.specs.Faults.{is_size_good, block_at, predecessor_at, fault_of, blocks_of, data_of}
use Rattle.format.specs.Verdict.{lengths_in, scan_answer}
use Rattle.reading.specs.Records.{IsItemOf, piece_for}
use Rattle.reading.specs.declared.reader.Reader.{Reader}
use Rattle.reading.specs.declared.record.Item.{Item}
use Rattle.reading.specs.declared.record.Record.{Record}

-- the bytes that were lent to a reader, and how many of their blocks it has read
abbrev pub lent_file : Reader → List ℕ
lent_file r = r.file.now

abbrev pub blocks_read : Reader → ℕ
blocks_read r = r.place

-- ---- which record is next

-- why a reader that has read k blocks refuses: the file's size, a file that is over without an end block, or the first fault of
-- block k
abbrev pub refusal_at : List ℕ → ℕ → Option Refusal
refusal_at file k =
    if is_size_good file
    then if block_length * k == length file
    then if (predecessor_at file k).kind == end_kind then None else Some (NoEnd k)
    else fault_of k (predecessor_at file k) (block_at file k)
    else Some FileSize

-- After k blocks, the last of which is an end block, the file is over; a reader stays there.
pub record IsAtEnd (file : List ℕ) (k now : ℕ) : Type 0 where
  pub sound : refusal_at file k ≡ None
  pub over : block_length * k ≡ length file
  pub stays : now ≡ k

-- Block k has no fault and is read, and a reader stands after it.
pub record TakesBlock (file : List ℕ) (k now : ℕ) (i : Item) : Type 0 where
  pub sound : refusal_at file k ≡ None
  pub within : block_length * suc k ≤ length file
  pub item : IsItemOf file k i
  pub moves : now ≡ suc k

-- A reader refuses after k blocks, and stays there.
pub record RefusesAt (file : List ℕ) (k now : ℕ) (e : Refusal) : Type 0 where
  pub why : refusal_at file k ≡ Some e
  pub stays : now ≡ k

-- one call of a reader: what it was, what it is then, and what it answers
abbrev pub ReadsBlock : Reader → Reader → Result (Option Item) Refusal → Type 0
ReadsBlock old new (Ok None) = IsAtEnd (lent_file old) (blocks_read old) (blocks_read new)
ReadsBlock old new (Ok (Some i)) = TakesBlock (lent_file old) (blocks_read old) (blocks_read new) i
ReadsBlock old new (Err e) = RefusesAt (lent_file old) (blocks_read old) (blocks_read new) e

-- ---- what the records make together

-- the data of a kind in the first n blocks of a file
abbrev pub data_before : ℕ → ℕ → List ℕ → List ℕ
data_before kind n file = data_of kind (first_chunks block_length n file)

-- the data of a kind in one block more than k are those in k blocks, and what the record adds
abbrev pub IsNextPiece : ℕ → List ℕ → ℕ → Record → Type 0
IsNextPiece kind file k r =
    data_before kind (suc k) file ≡ data_before kind k file ++ piece_for kind r

-- The record of block k adds to both parts what that block does.
pub record AddsToBoth (file : List ℕ) (k : ℕ) (r : Record) : Type 0 where
  pub header : IsNextPiece header_kind file k r
  pub body : IsNextPiece body_kind file k r

-- One call of a reader: a record adds to both parts; and where there is none, the blocks that were read are all that the file has.
-- A refusal says nothing of the data.
abbrev pub AddsToParts : Reader → Result (Option Item) Refusal → Type 0
AddsToParts old (Ok None) =
    first_chunks block_length (blocks_read old) (lent_file old) ≡ blocks_of (lent_file old)
AddsToParts old (Ok (Some i)) = AddsToBoth (lent_file old) (blocks_read old) i.record
AddsToParts old (Err e) = Unit {0}

-- ---- what the whole file is refused for

-- One call of a reader: a refusal is that of a scan of the whole file, and where there is no record, that scan meets no fault.
-- A record says nothing of the blocks after it.
abbrev pub AnswersAsScan : Reader → Result (Option Item) Refusal → Type 0
AnswersAsScan old (Ok None) = scan_answer (lent_file old) ≡ Ok (lengths_in (lent_file old))
AnswersAsScan old (Ok (Some i)) = Unit {0}
AnswersAsScan old (Err e) = scan_answer (lent_file old) ≡ Err e
