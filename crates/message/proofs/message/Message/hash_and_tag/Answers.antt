use Rattle.std.proofs.Common.{◌≡◌, ℕ, List, [], ◌∷◌, ◌++◌, Ok, sym, ap, ◌∙◌, subst, ap₂}
use Rattle.field.specs.Evaluation.{eval, horner}
use Rattle.field.specs.Kinds.{block_ring}
use Rattle.field.specs.declared.block.Block.{Block}
use Rattle.field.proofs.Horner.{horner_append, horner_eval}
use Rattle.field.specs.Instances.{block_ring_laws}
use Rattle.message.specs.Answer.{digest_of, digest_under}
use Rattle.message.specs.Blocks.{AreBytes, blocks, block_of_lengths}
use Rattle.message.specs.Hash.{hash_of}
use Rattle.message.specs.Standard.{MeetsStandard}
use Rattle.message.specs.declared.digest.Digest.{Digest}
use Rattle.message.specs.declared.digest.Pad.{Pad}
use Rattle.message.specs.declared.message.CheckedMessage.{CheckedMessage}
use Rattle.message.proofs.StandardHash.{lengths_counts, meets_standard}
use Rattle.message.proofs.Within.{checked_answer}
use Rattle.message.proofs.message.Message.hash_and_tag.Goals as goal

-- header, body and length block, taken in one after the other
in_order : (h : Block) (ps qs : List Block) (q : Block)
    → block_ring.product (block_ring.sum (horner block_ring h (horner block_ring h block_ring.zero ps) qs) q) h ≡ eval block_ring h (ps ++ (qs ++ (q ∷ [])))
in_order h ps qs q =
    sym (horner_append block_ring block_ring_laws h (horner block_ring h block_ring.zero ps) qs (q ∷ []))
    ∙ sym (horner_append block_ring block_ring_laws h block_ring.zero ps (qs ++ (q ∷ [])))
    ∙ horner_eval block_ring block_ring_laws h [] (ps ++ (qs ++ (q ∷ [])))

pub returns : goal.returns
unfolding hash_of
returns c =
    let subkey : Block = c.args.subkey in
    let pad : Pad = c.args.pad in
    let header : List ℕ = c.args.self.header.now in
    let body : List ℕ = c.args.self.body.now in
    let first : c.absorb_part-after_header.result ≡ horner block_ring subkey block_ring.zero (blocks header) =
    c.absorb_part-after_header.ensures ∙ ap (λ (v : Block). horner block_ring subkey v (blocks header)) c.zero.ensures in
    let second : c.absorb_part-after_body.result ≡ horner block_ring subkey (horner block_ring subkey block_ring.zero (blocks header)) (blocks body) =
    c.absorb_part-after_body.ensures ∙ ap (λ (v : Block). horner block_ring subkey v (blocks body)) first in
    let lengths : c.block_of_byte_counts-lengths.result ≡ block_of_lengths header body =
    c.block_of_byte_counts-lengths.ensures ∙ sym (lengths_counts header body) in
    let hashed : c.mul-hash.result ≡ hash_of subkey header body =
    c.mul-hash.ensures
    ∙ ap (λ (s : Block). block_ring.product s subkey) c.add.ensures
    ∙ ap₂ (λ (v q : Block). block_ring.product (block_ring.sum v q) subkey) second lengths
    ∙ in_order subkey (blocks header) (blocks body) (block_of_lengths header body) in
    let made : c.new.result ≡ digest_of subkey pad header body =
    c.new.ensures ∙ ap (digest_under pad) hashed in
    let m : CheckedMessage = c.in_ok-check.field-0 in
    let same : (m.header.now ≡ header) × (m.body.now ≡ body) = c.in_ok-check.ensures in
    record {
      value =
          ap (λ (d : Digest). Ok d) made
          ∙ sym (checked_answer (Ok (digest_of subkey pad header body)) header body m same.0 same.1);
      standard =
          subst (MeetsStandard subkey pad header body) (sym made)
          (meets_standard subkey pad header body (subst AreBytes same.0 m.header_bytes) (subst AreBytes same.1 m.body_bytes));
    }
