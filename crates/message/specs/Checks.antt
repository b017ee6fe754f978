-- What a look at the lengths of a message answers.
use Rattle.std.specs.Prelude.{◌≡◌, ℕ, List, Ok, Err, Result}
use Rattle.refusal.specs.declared.Refusal.{Refusal}
use Rattle.message.specs.Limits.{within_limits}
use Rattle.message.specs.declared.message.CheckedMessage.{CheckedMessage}

-- the same header and body, which are within their limits by their type; or the part that is too long, the header first
abbrev pub ChecksLengths : List ℕ → List ℕ → Result CheckedMessage Refusal → Type 0
ChecksLengths header body (Ok m) = (m.header.now ≡ header) × (m.body.now ≡ body)
ChecksLengths header body (Err why) = within_limits header body (Ok (tt {0})) ≡ Err why
