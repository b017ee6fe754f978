-- The number, the text and the place of each refusal, and the line that tells it.
use Rattle.std.specs.Prelude.{ℕ, List, [], ◌++◌, Some, None, codes, decimal, Option}
use Rattle.refusal.specs.declared.Refusal.{Refusal}
use Rattle.refusal.specs.declared.Refusal.TheVariants.{HeaderTooLong, BodyTooLong, DoesNotAnnihilate, NotBinary, ScratchTooShort, NotReady, TagLength, TagDiffers, FileSize, WrongCheck, WrongNumber, WrongForm, WrongOrder, NoEnd, OutputTooShort}

abbrev pub refusal_number : Refusal → ℕ
refusal_number HeaderTooLong = 1
refusal_number BodyTooLong = 2
refusal_number DoesNotAnnihilate = 3
refusal_number NotBinary = 4
refusal_number ScratchTooShort = 5
refusal_number NotReady = 6
refusal_number TagLength = 7
refusal_number TagDiffers = 8
refusal_number FileSize = 9
refusal_number (WrongCheck block) = 10
refusal_number (WrongNumber block) = 11
refusal_number (WrongForm block) = 12
refusal_number (WrongOrder block) = 13
refusal_number (NoEnd blocks) = 14
refusal_number OutputTooShort = 15

abbrev pub refusal_text : Refusal → List ℕ
refusal_text HeaderTooLong = codes "header over its limit"
refusal_text BodyTooLong = codes "body over its limit"
refusal_text DoesNotAnnihilate = codes "proposal does not annihilate"
refusal_text NotBinary = codes "maker meets a coefficient neither zero nor one"
refusal_text ScratchTooShort = codes "scratch under 128 blocks"
refusal_text NotReady = codes "switch with ready no"
refusal_text TagLength = codes "given tag not 4 to 16 bytes"
refusal_text TagDiffers = codes "tag differs"
refusal_text FileSize = codes "file not of 1 to 65,536 blocks of 512 bytes"
refusal_text (WrongCheck block) = codes "check wrong"
refusal_text (WrongNumber block) = codes "number is not the place"
refusal_text (WrongForm block) = codes "kind, reserve, used length or a byte past it wrong"
refusal_text (WrongOrder block) = codes "block in the wrong order"
refusal_text (NoEnd blocks) = codes "last block is no end"
refusal_text OutputTooShort = codes "output too short"

-- the block that is named, from 0, or the count of blocks where the end is missing
abbrev pub refusal_place : Refusal → Option ℕ
refusal_place HeaderTooLong = None
refusal_place BodyTooLong = None
refusal_place DoesNotAnnihilate = None
refusal_place NotBinary = None
refusal_place ScratchTooShort = None
refusal_place NotReady = None
refusal_place TagLength = None
refusal_place TagDiffers = None
refusal_place FileSize = None
refusal_place (WrongCheck block) = Some block
refusal_place (WrongNumber block) = Some block
refusal_place (WrongForm block) = Some block
refusal_place (WrongOrder block) = Some block
refusal_place (NoEnd blocks) = Some blocks
refusal_place OutputTooShort = None

-- the place in words
abbrev pub place_text : Refusal → Option ℕ → List ℕ
place_text (NoEnd blocks) place = codes " after " ++ decimal blocks ++ codes " blocks"
place_text _ (Some block) = codes " at block " ++ decimal block
place_text _ None = []

abbrev pub refusal_line : Refusal → List ℕ
refusal_line refusal =
    codes "refused " ++ decimal (refusal_number refusal) ++ place_text refusal (refusal_place refusal)
    ++ codes ": " ++ refusal_text refusal
