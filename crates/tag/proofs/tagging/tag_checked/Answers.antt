use Rattle.std.proofs.Common.{◌≡◌, ℕ, List, sym, ap, ◌∙◌, subst, subst₂}
use Rattle.field.specs.declared.block.Block.{Block}
use Rattle.message.specs.Answer.{digest_under, digest_of}
use Rattle.message.specs.Blocks.{AreBytes}
use Rattle.message.specs.Hash.{hash_of}
use Rattle.message.specs.Standard.{MeetsStandard}
use Rattle.message.specs.declared.digest.Pad.{Pad}
use Rattle.message.specs.declared.message.Message.{Message}
use Rattle.message.specs.declared.message.CheckedMessage.{CheckedMessage}
use Rattle.message.proofs.StandardHash.{meets_standard}
use Rattle.tag.specs.Tags.{TagsMessage}
use Rattle.tag.proofs.tagging.tag_checked.Goals as goal

pub returns : goal.returns
returns g c =
    let subkey : Block = g.E.Engine.subkey_of c.args.engine.now in
    let pad : Pad = c.args.pad in
    let checked : CheckedMessage = c.args.message in
    let handed : Message = c.message.result in
    let header : List ℕ = handed.header.now in
    let body : List ℕ = handed.body.now in
    let made : c.new.result ≡ digest_of subkey pad header body =
    c.new.ensures ∙ ap (digest_under pad) {y = hash_of subkey header body} c.hash_message-hash.ensures.answer in
    subst₂ (λ (h b : List ℕ). TagsMessage g.E.Engine c.args.engine.now pad h b c.hash_message-hash.new.engine c.new.result)
    c.message.ensures.header c.message.ensures.body
    (record {
      answer = made;
      standard =
          subst (MeetsStandard subkey pad header body) (sym made)
          (meets_standard subkey pad header body
          (subst AreBytes (sym c.message.ensures.header) checked.header_bytes)
          (subst AreBytes (sym c.message.ensures.body) checked.body_bytes));
      engine = c.hash_message-hash.ensures.engine;
    })
