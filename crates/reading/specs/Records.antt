-- What a reader hands out.
use Rattle.std.specs.Prelude.{◌≡◌, ℕ, suc, ◌*◌, if◌then◌else◌, List, [], take, drop, ◌==◌}
use Rattle.format.specs.Layout.{block_length, header_kind, body_kind, end_kind}
use Rattle.format.specs.Faults.{kind_in, data_in, block_at}
use Rattle.reading.specs.declared.record.Item.{Item}
use Rattle.reading.specs.declared.record.Record.{Record}
use Rattle.reading.specs.declared.record.Record.TheVariants.{Header, Body, End}

-- the number of a record's kind
abbrev pub record_kind : Record → ℕ
record_kind (Header piece) = header_kind
record_kind (Body piece) = body_kind
record_kind (End piece) = end_kind

abbrev pub record_data : Record → List ℕ
record_data (Header piece) = piece.now
record_data (Body piece) = piece.now
record_data (End piece) = piece.now

-- The record of the block that stands first, and what follows that block.
pub record ParsesRecord (left : List ℕ) (r : Record) (rest : List ℕ) : Type 0 where
  pub kind : record_kind r ≡ kind_in (take block_length left)
  pub bytes : record_data r ≡ data_in (take block_length left)
  pub after : rest ≡ drop block_length left

-- The record of block k, and the file from the next block on.
pub record IsItemOf (file : List ℕ) (k : ℕ) (i : Item) : Type 0 where
  pub kind : record_kind i.record ≡ kind_in (block_at file k)
  pub bytes : record_data i.record ≡ data_in (block_at file k)
  pub after : i.rest.now ≡ drop (block_length * suc k) file

-- what a record adds to the part of a kind
abbrev pub piece_for : ℕ → Record → List ℕ
piece_for kind r = if record_kind r == kind then record_data r else []
