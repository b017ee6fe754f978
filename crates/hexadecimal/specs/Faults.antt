-- What is told of a fault.
use Rattle.std.specs.Prelude.{ℕ, List, ◌++◌, codes, decimal}
use Rattle.hexadecimal.specs.declared.HexFault.{HexFault}
use Rattle.hexadecimal.specs.declared.HexFault.TheVariants.{WrongLength, NotADigit, RowTooShort}

abbrev pub fault_text : HexFault → List ℕ
fault_text (WrongLength digits) = decimal digits ++ codes " digits"
fault_text (NotADigit at) = codes "the character at place " ++ decimal at ++ codes ", from 0, is no hexadecimal digit"
fault_text (RowTooShort needed) = codes "no room for " ++ decimal needed ++ codes " bytes"
