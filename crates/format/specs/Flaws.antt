-- Why a file is refused: its size, its first flaw, want of an end, its header's length, or its tag.
use Rattle.std.specs.Prelude.{◌≡◌, ◌≢◌, ℕ, ◌-◌, ◌/◌, ◌%◌, ◌<◌, ◌≤◌, List, All, length, take}
use Rattle.field.specs.Bytes.{bytes_of}
use Rattle.field.specs.declared.block.Block.{Block}
use Rattle.message.specs.Limits.{header_limit}
use Rattle.message.specs.Hash.{tag_of}
use Rattle.message.specs.declared.digest.Pad.{Pad}
use Rattle.refusal.specs.declared.Refusal.{Refusal}
use Rattle.refusal.specs.declared.Refusal.TheVariants.{HeaderTooLong, TagDiffers, FileSize, WrongCheck, WrongNumber, WrongForm, WrongOrder, NoEnd}
use Rattle.format.specs.Layout.{block_length, check_place, data_limit, tag_length, most_blocks, header_kind, end_kind, check_of}
use Rattle.format.specs.Faults.{Predecessor, number_in, kind_in, reserve_in, used_length_in, filling_in, stored_check, block_at, predecessor_at, header_in, body_in, tag_in}

-- ---- a block

-- A block of right form.
pub record IsFormed (b : List ℕ) : Type 0 where
  -- its kind is 1 (header), 2 (body) or 3 (end)
  pub least_kind : header_kind ≤ kind_in b
  pub most_kind : kind_in b ≤ end_kind
  -- its reserve is zero
  pub reserve : reserve_in b ≡ 0
  -- an end block holds the 16 bytes of the tag
  pub end_used : kind_in b ≡ end_kind → used_length_in b ≡ tag_length
  -- and another block 1 to 502 bytes of a part
  pub part_some : kind_in b ≢ end_kind → 1 ≤ used_length_in b
  pub part_most : kind_in b ≢ end_kind → used_length_in b ≤ data_limit
  -- from the data to the check, every byte is zero
  pub fill : All (λ x. x ≡ 0) (filling_in b)

-- A block of this kind may stand after p, the block before it.
pub record MayFollow (p : Predecessor) (kind : ℕ) : Type 0 where
  -- no block stands after an end block
  pub before_end : p.kind ≢ end_kind
  -- nor after a block of a later kind
  pub rising : p.kind ≤ kind
  -- nor after one of its own kind, unless that one is full
  pub full : p.kind ≡ kind → data_limit ≤ p.used

-- what can be wrong with a block, in the order in which it is looked for
pub data Flaw : Type 0 where
  check : Flaw
  number : Flaw
  form : Flaw
  order : Flaw

-- how many flaws are looked for before it
abbrev pub turn_of : Flaw → ℕ
turn_of check = 0
turn_of number = 1
turn_of form = 2
turn_of order = 3

-- block k of a file has not this flaw
abbrev pub IsFreeOf : List ℕ → ℕ → Flaw → Type 0
IsFreeOf file k check =
    stored_check (block_at file k) ≡ check_of (take check_place (block_at file k))
IsFreeOf file k number = number_in (block_at file k) ≡ k
IsFreeOf file k form = IsFormed (block_at file k)
IsFreeOf file k order = MayFollow (predecessor_at file k) (kind_in (block_at file k))

abbrev pub HasFlaw : List ℕ → ℕ → Flaw → Type 0
HasFlaw file k flaw = ¬ IsFreeOf file k flaw

-- Of the flaws of block k, the one that is met first.
pub record IsBlockFlaw (file : List ℕ) (k : ℕ) (flaw : Flaw) : Type 0 where
  pub there : HasFlaw file k flaw
  pub earlier : (other : Flaw) → turn_of other < turn_of flaw → IsFreeOf file k other

-- block k has no flaw
abbrev pub HasNoFlaw : List ℕ → ℕ → Type 0
HasNoFlaw file k = (flaw : Flaw) → IsFreeOf file k flaw

-- ---- the blocks of a file

abbrev pub block_count : List ℕ → ℕ
block_count file = length file / block_length

-- Whole blocks, 1 to 65,536 of them.
pub record HasFileSize (file : List ℕ) : Type 0 where
  pub whole : length file % block_length ≡ 0
  pub some : 1 ≤ block_count file
  pub few : block_count file ≤ most_blocks

-- no block has a flaw
abbrev pub IsFlawless : List ℕ → Type 0
IsFlawless file = (k : ℕ) → k < block_count file → HasNoFlaw file k

-- The size of a file is right, and of all flaws of its blocks this one is met first.
pub record IsFirstFlaw (file : List ℕ) (k : ℕ) (flaw : Flaw) : Type 0 where
  pub size : HasFileSize file
  pub within : k < block_count file
  pub here : IsBlockFlaw file k flaw
  pub before : (j : ℕ) → j < k → HasNoFlaw file j

abbrev pub last_kind : List ℕ → ℕ
last_kind file = kind_in (block_at file (block_count file - 1))

-- the last block is an end block
abbrev pub EndsInEnd : List ℕ → Type 0
EndsInEnd file = last_kind file ≡ end_kind

-- All blocks are right, so many of them, and the last is no end block.
pub record LacksEnd (file : List ℕ) (count : ℕ) : Type 0 where
  pub size : HasFileSize file
  pub blocks : IsFlawless file
  pub no_end : ¬ EndsInEnd file
  pub counted : count ≡ block_count file

-- why the scan refuses a file: for its size, else for its first flaw, else for want of an end
abbrev pub IsScanFault : List ℕ → Refusal → Type 0
IsScanFault file FileSize = ¬ HasFileSize file
IsScanFault file (WrongCheck k) = IsFirstFlaw file k check
IsScanFault file (WrongNumber k) = IsFirstFlaw file k number
IsScanFault file (WrongForm k) = IsFirstFlaw file k form
IsScanFault file (WrongOrder k) = IsFirstFlaw file k order
IsScanFault file (NoEnd n) = LacksEnd file n
IsScanFault file other = ⊥

-- A file in which the scan finds no fault.
pub record PassesScan (file : List ℕ) : Type 0 where
  pub size : HasFileSize file
  pub blocks : IsFlawless file
  pub end : EndsInEnd file

-- ---- the whole check

-- A file that passes the scan, with a header above its limit.
pub record HasLongHeader (file : List ℕ) : Type 0 where
  pub scan : PassesScan file
  pub long : header_limit < length (header_in file)

-- A file that passes the scan and has a header within its limit, but holds another tag than it should.
pub record HoldsOtherTag (subkey : Block) (pad : Pad) (file : List ℕ) : Type 0 where
  pub scan : PassesScan file
  pub short : length (header_in file) ≤ header_limit
  pub other : tag_in file ≢ bytes_of (tag_of subkey pad (header_in file) (body_in file)).0

-- why the check refuses a file: as the scan does, else for its header's length, else for its tag
abbrev pub IsFault : Block → Pad → List ℕ → Refusal → Type 0
IsFault subkey pad file HeaderTooLong = HasLongHeader file
IsFault subkey pad file TagDiffers = HoldsOtherTag subkey pad file
IsFault subkey pad file other = IsScanFault file other
