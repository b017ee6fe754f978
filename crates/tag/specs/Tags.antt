-- The tag of a whole message, the check of a tag, and what the engine is after each.
use Rattle.std.specs.Prelude.{◌≡◌, ℕ, Bool, if◌then◌else◌, ◌&&◌, List, ◌∷◌, map, length, Ok, Err, IfOk, MatchBool, MatchResult, Result, ◌==◌, nat_eq, nat_le}
use Rattle.std.specs.List.{starts_with}
use Rattle.field.specs.Bytes.{bytes_of}
use Rattle.field.specs.Kinds.{block_ring}
use Rattle.field.specs.declared.block.Block.{Block}
use Rattle.message.specs.Answer.{digest_of, digest_answer}
use Rattle.message.specs.Blocks.{block_list}
use Rattle.message.specs.Hash.{hash_of, tag_of}
use Rattle.message.specs.Limits.{within_limits}
use Rattle.message.specs.Standard.{MeetsStandard}
use Rattle.message.specs.declared.digest.Digest.{Digest}
use Rattle.message.specs.declared.digest.Pad.{Pad}
use Rattle.message.specs.declared.digest.Tag.{Tag}
use Rattle.engine.specs.Chain.{resume, absorb, Chain}
use Rattle.engine.specs.declared.engine.Engine.{Ghosts}
use Rattle.refusal.specs.Refusals.{refusal_number}
use Rattle.refusal.specs.declared.Refusal.{Refusal}
use Rattle.refusal.specs.declared.Refusal.TheVariants.{TagLength, TagDiffers}

-- the fewest bytes of a tag that are compared
abbrev pub shortest_tag : ℕ
shortest_tag = 4

-- the most, which are all
abbrev pub longest_tag : ℕ
longest_tag = 16

-- whether a given tag has as many bytes as may be compared
abbrev pub has_tag_length : List ℕ → Bool
has_tag_length given = nat_le shortest_tag (length given) && nat_le (length given) longest_tag

-- whether the given bytes are the first ones of the tag
abbrev pub begins_tag : Tag → List ℕ → Bool
begins_tag tag given = starts_with nat_eq (bytes_of tag.0) given

-- the length of the given tag is looked at first, then those of header and body
abbrev pub check_answer : Block → Pad → List ℕ → List ℕ → List ℕ → Result (Unit {0}) Refusal
check_answer subkey pad header body given =
    if has_tag_length given
    then within_limits header body
    (if begins_tag (tag_of subkey pad header body) given then Ok tt else Err TagDiffers)
    else Err TagLength

module _ {E : Type 0} (m : Ghosts E) where
  -- From zero, one absorb for each block of the block list and nothing else: the value is the hash, subkey and ready are as before.
  pub record HashesMessage (e : E) (header body : List ℕ) (f : E) : Type 0 where
    pub value : m.value_of f ≡ hash_of (m.subkey_of e) header body
    pub subkey : m.subkey_of f ≡ m.subkey_of e
    pub ready : m.ready_of f ≡ m.ready_of e
    pub chain : Chain m (resume block_ring.zero ∷ map absorb (block_list header body)) e f

  -- Hash and tag of a header and a body under the engine's subkey, which are the standard's, and the engine that hashed them.
  pub record TagsMessage (e : E) (pad : Pad) (header body : List ℕ) (f : E) (digest : Digest) : Type 0 where
    pub answer : digest ≡ digest_of (m.subkey_of e) pad header body
    pub standard : MeetsStandard (m.subkey_of e) pad header body digest
    pub engine : HashesMessage e header body f

  -- The same for parts within their limits; a longer part is refused, the header first, and the engine is as it was.
  pub record TagsWithinLimits (e : E) (pad : Pad) (header body : List ℕ)
      (f : E) (result : Result Digest Refusal) : Type 0 where
    pub answer : result ≡ digest_answer (m.subkey_of e) pad header body
    pub standard : IfOk result (MeetsStandard (m.subkey_of e) pad header body)
    pub engine : MatchResult result (λ _. HashesMessage e header body f) (λ _. f ≡ e)

  -- a check that came to the comparison hashed the message; any other left the engine as it was
  abbrev pub HashesToCompare : E → List ℕ → List ℕ → E → Result (Unit {0}) Refusal → Type 0
  HashesToCompare e header body f (Ok x) = HashesMessage e header body f
  HashesToCompare e header body f (Err refusal) =
      MatchBool (refusal_number refusal == refusal_number TagDiffers)
      (HashesMessage e header body f)
      (f ≡ e)

  -- A given tag, held beside the beginning of the message's own.
  pub record ChecksTag (e : E) (pad : Pad) (header body given : List ℕ)
      (f : E) (result : Result (Unit {0}) Refusal) : Type 0 where
    pub answer : result ≡ check_answer (m.subkey_of e) pad header body given
    pub engine : HashesToCompare e header body f result
