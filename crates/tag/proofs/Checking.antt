-- The check of a tag, by the ways through it.
use Rattle.std.proofs.Common.{◌≡◌, ℕ, ◌≤◌, Bool, cond, ◌&&◌, List, length, Ok, Err, Result, sym, ap, ◌∙◌, ap₂, le-leb}
use Rattle.std.proofs.lemmas.Bool.{cond-true}
use Rattle.field.specs.declared.block.Block.{Block}
use Rattle.message.specs.Answer.{digest_answer, digest_of}
use Rattle.message.specs.Hash.{tag_of}
use Rattle.message.specs.Limits.{within_limits}
use Rattle.message.specs.declared.digest.Digest.{Digest}
use Rattle.message.specs.declared.digest.Pad.{Pad}
use Rattle.message.proofs.Within.{go_on, after_lengths, accepted_value}
use Rattle.refusal.specs.declared.Refusal.{Refusal}
use Rattle.refusal.specs.declared.Refusal.TheVariants.{TagDiffers}
use Rattle.tag.specs.Tags.{shortest_tag, longest_tag, begins_tag, check_answer}

module _ (subkey : Block) (pad : Pad) (header body given : List ℕ) (low : shortest_tag ≤ length given) (high : length given ≤ longest_tag) where
  -- the answer of the comparison
  abbrev verdict : Bool → Result (Unit {0}) Refusal
  verdict same = cond same (Ok tt) (Err TagDiffers)

  -- a given tag of a right length: the message's answer, and then the comparison
  pub go_on-verdict : (r : Result Digest Refusal) (same : Bool) → r ≡ digest_answer subkey pad header body → same ≡ begins_tag (tag_of subkey pad header body) given
      → go_on (verdict same) r ≡ check_answer subkey pad header body given
  go_on-verdict r same said looked =
      after_lengths (verdict same) header body (digest_of subkey pad header body) r said
      ∙ ap (λ (t : Bool). within_limits header body (verdict t)) looked
      ∙ sym (cond-true _ _ _ (ap₂ ◌&&◌ (le-leb shortest_tag (length given) low) (le-leb (length given) longest_tag high)))

  -- the tag compared was the message's own
  pub verdict-check_answer : (d : Digest) (same : Bool) → Ok d ≡ digest_answer subkey pad header body → same ≡ begins_tag d.tag given
      → verdict same ≡ check_answer subkey pad header body given
  verdict-check_answer d same said looked =
      go_on-verdict (Ok d) same said
      (looked ∙ ap (λ (u : Digest). begins_tag u.tag given) (accepted_value header body d (digest_of subkey pad header body) said))
