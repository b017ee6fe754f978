-- A file cut where its parts begin and end.
use Rattle.std.specs.Prelude.{◌≡◌, ℕ, List, ◌++◌, map, length, drop, Ok, Err, Result}
use Rattle.std.specs.List.{concat}
use Rattle.refusal.specs.declared.Refusal.{Refusal}
use Rattle.format.specs.Layout.{tag_length}
use Rattle.format.specs.Faults.{data_in, header_in, body_in, tag_in}
use Rattle.format.specs.declared.lengths.Lengths.{Lengths}
use Rattle.reading.specs.declared.section.Section.{Section}
use Rattle.reading.specs.declared.sections.Sections.{Sections}

-- the data of each block of a section
abbrev pub section_pieces : Section → List (List ℕ)
section_pieces s = map data_in s.blocks.now

-- all data of a section
abbrev pub section_bytes : Section → List ℕ
section_bytes s = concat (section_pieces s)

-- A buffer before and after: the bytes stand at its front, and the rest is as it was.
abbrev pub OverwritesFront : List ℕ → List ℕ → List ℕ → Type 0
OverwritesFront bytes old new = new ≡ bytes ++ drop (length bytes) old

-- The sections of a file: each part of it in the blocks of its own, and the tag of the end block.
pub record IsCutOf (file : List ℕ) (s : Sections) : Type 0 where
  pub header : section_bytes s.header ≡ header_in file
  pub body : section_bytes s.body ≡ body_in file
  pub tag : s.tag.now ≡ tag_in file
  pub whole_tag : length s.tag.now ≡ tag_length

-- how long the parts are, or why the file is refused
abbrev pub lengths_answer : Result Sections Refusal → Result Lengths Refusal
lengths_answer (Ok s) = Ok s.lengths
lengths_answer (Err e) = Err e
