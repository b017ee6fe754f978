-- The kinds of blocks, and the numbers that stand for them in a file.
use Rattle.std.specs.Prelude.{◌≡◌, ℕ, false, ◌&&◌, Ok, Err, Result, nat_le}
use Rattle.format.specs.Layout.{header_kind, body_kind, end_kind}
use Rattle.format.specs.declared.block_kind.BlockKind.{BlockKind}
use Rattle.format.specs.declared.block_kind.BlockKind.TheVariants.{Header, Body, End}
use Rattle.format.specs.declared.block_kind.NoKind.{NoKind}

abbrev pub kind_number : BlockKind → ℕ
kind_number Header = header_kind
kind_number Body = body_kind
kind_number End = end_kind

-- A number that is no kind's.
pub record IsNoKind (n : ℕ) (none : NoKind) : Type 0 where
  -- it is handed back
  pub same : none.0 ≡ n
  -- and lies outside 1 to 3
  pub outside : (nat_le header_kind n && nat_le n end_kind) ≡ false

-- the kind with this number, or the number of none
abbrev pub NamesKind : ℕ → Result BlockKind NoKind → Type 0
NamesKind n (Ok kind) = kind_number kind ≡ n
NamesKind n (Err none) = IsNoKind n none
