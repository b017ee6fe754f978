-- What each call answers to a text, in the words of the crate `hex`: the length is looked at first, then the digits from the left,
-- and then the room.
use Rattle.std.specs.Prelude.{◌≡◌, ℕ, if◌then◌else◌, List, length, take, drop, Ok, Err, Option, Result, nat_le, not, position}
use Rattle.std.specs.Result.{result_flatten, result_map_both}
use Rattle.field.specs.Bytes.{block_of}
use Rattle.field.specs.declared.block.Block.{Block}
use Rattle.hex.specs.Hex.{decode_of, decode_sized, is_hex_digit}
use Rattle.hex.specs.declared.error.FromHexError.{FromHexError}
use Rattle.hex.specs.declared.error.FromHexError.TheVariants.{InvalidHexCharacter}
use Rattle.hexadecimal.specs.declared.HexFault.{HexFault}
use Rattle.hexadecimal.specs.declared.HexFault.TheVariants.{WrongLength, NotADigit, RowTooShort}

-- the first place, from 0, that holds no digit
abbrev pub bad_place : List ℕ → Option ℕ
bad_place text = position (λ c. not (is_hex_digit c)) text

-- the fault that an error of `hex` is in a text of so many digits: its bad digit, or else its length, since nothing is allocated
abbrev pub fault_of : ℕ → FromHexError → HexFault
fault_of digits (InvalidHexCharacter c at) = NotADigit at
fault_of digits _ = WrongLength digits

-- the block that 32 digits write
abbrev pub block_in : List ℕ → Result Block HexFault
block_in text = result_map_both block_of (fault_of (length text)) (decode_sized text 16)

-- how many bytes there are, where a row has room for them
abbrev pub count_within : ℕ → List ℕ → Result ℕ HexFault
count_within room bytes =
    if nat_le (length bytes) room then Ok (length bytes)
    else Err (RowTooShort (length bytes))

-- how many bytes an even count of digits writes to a row
abbrev pub bytes_count : List ℕ → ℕ → Result ℕ HexFault
bytes_count text room =
    result_flatten (result_map_both (count_within room) (fault_of (length text)) (decode_of text))

-- After an answer the bytes of a text stand at the front of a row, whose rest is as before; after a fault all of it is as before.
abbrev pub WritesBytes : List ℕ → List ℕ → List ℕ → Result ℕ HexFault → Type 0
WritesBytes text before after (Ok count) =
    (decode_of text ≡ Ok (take count after)) × (drop count after ≡ drop count before)
WritesBytes text before after (Err fault) = after ≡ before
