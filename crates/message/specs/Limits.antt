-- The name of each part, how long it may be, and which refusal says that it is longer.
use Rattle.std.specs.Prelude.{ℕ, if◌then◌else◌, List, length, Err, Result, nat_lt, codes}
use Rattle.refusal.specs.declared.Refusal.{Refusal}
use Rattle.refusal.specs.declared.Refusal.TheVariants.{HeaderTooLong, BodyTooLong}
use Rattle.message.specs.declared.part.Part.{Part}
use Rattle.message.specs.declared.part.Part.TheVariants.{Header, Body}

abbrev pub header_limit : ℕ
header_limit = 65535

abbrev pub body_limit : ℕ
body_limit = 68719476704

abbrev pub limit_of : Part → ℕ
limit_of Header = header_limit
limit_of Body = body_limit

abbrev pub part_refusal : Part → Refusal
part_refusal Header = HeaderTooLong
part_refusal Body = BodyTooLong

abbrev pub part_name : Part → List ℕ
part_name Header = codes "header"
part_name Body = codes "body"

-- an answer for one part within its limit
abbrev pub within_limit : {X : Type 0} → Part → List ℕ → Result X Refusal → Result X Refusal
within_limit part bytes answer =
    if nat_lt (limit_of part) (length bytes) then Err (part_refusal part) else answer

-- an answer for parts within their limits; the header's limit is looked at first
abbrev pub within_limits : {X : Type 0} → List ℕ → List ℕ → Result X Refusal → Result X Refusal
within_limits header body answer = within_limit Header header (within_limit Body body answer)
