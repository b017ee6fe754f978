-- What is read of one block: its prefix, its form, its fault.
use Rattle.std.specs.Prelude.{◌≡◌, ℕ, true, false, List, drop, Some, None, Ok, Err, Option, Result}
use Rattle.refusal.specs.declared.Refusal.{Refusal}
use Rattle.format.specs.Faults.{Predecessor, number_in, kind_in, reserve_in, used_length_in, is_form_good, as_predecessor, fault_of}
use Rattle.reading.specs.Shapes.{shape_as_predecessor}
use Rattle.reading.specs.declared.prefix.Prefix.{Prefix}
use Rattle.reading.specs.declared.shape.Shape.{Shape}

-- What the first six bytes of a block say, and the bytes that follow them.
pub record IsPrefixOf (block : List ℕ) (prefix : Prefix) : Type 0 where
  pub number : prefix.number ≡ number_in block
  pub kind : prefix.kind ≡ kind_in block
  pub reserve : prefix.reserve ≡ reserve_in block
  pub used : prefix.used ≡ used_length_in block
  pub rest : prefix.rest.now ≡ drop 6 block

-- the shape says of the block what the block after it has to know
abbrev pub HasShape : List ℕ → Shape → Type 0
HasShape b s = shape_as_predecessor s ≡ as_predecessor b

-- A block of good form, and its shape.
pub record IsFormedAs (b : List ℕ) (s : Shape) : Type 0 where
  pub good : is_form_good b ≡ true
  pub shape : HasShape b s

-- the shape that a block has, or none where its form is wrong
abbrev pub MatchesForm : List ℕ → Option Shape → Type 0
MatchesForm b None = is_form_good b ≡ false
MatchesForm b (Some s) = IsFormedAs b s

-- Block k, which stands after p, has no fault, and this is its shape.
pub record PassesAs (k : ℕ) (p : Predecessor) (b : List ℕ) (s : Shape) : Type 0 where
  pub sound : fault_of k p b ≡ None
  pub shape : HasShape b s

-- the shape of block k, which stands after p, or its first fault
abbrev pub ChecksBlock : ℕ → Predecessor → List ℕ → Result Shape Refusal → Type 0
ChecksBlock k p b (Ok s) = PassesAs k p b s
ChecksBlock k p b (Err e) = fault_of k p b ≡ Some e
