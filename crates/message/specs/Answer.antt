-- What the call on a whole header and a whole body answers.
use Rattle.std.specs.Prelude.{ℕ, List, Ok, Result}
use Rattle.field.specs.declared.block.Block.{Block}
use Rattle.refusal.specs.declared.Refusal.{Refusal}
use Rattle.message.specs.declared.digest.Digest.{Digest}
use Rattle.message.specs.declared.digest.Pad.{Pad}
use Rattle.message.specs.Hash.{hash_of, tag_under}
use Rattle.message.specs.Limits.{within_limits}

-- a hash, and its tag under a pad
abbrev pub digest_under : Pad → Block → Digest
digest_under pad hash = record { hash = hash; tag = tag_under pad hash }

-- hash and tag of a header and a body
abbrev pub digest_of : Block → Pad → List ℕ → List ℕ → Digest
digest_of subkey pad header body = digest_under pad (hash_of subkey header body)

-- the header's limit is looked at first
abbrev pub digest_answer : Block → Pad → List ℕ → List ℕ → Result Digest Refusal
digest_answer subkey pad header body = within_limits header body (Ok (digest_of subkey pad header body))
