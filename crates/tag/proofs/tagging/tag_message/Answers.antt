use Rattle.std.proofs.Common.{◌≡◌, ℕ, List, Ok, sym, ap, ◌∙◌, subst₂}
use Rattle.field.specs.declared.block.Block.{Block}
use Rattle.message.specs.Answer.{digest_of}
use Rattle.message.specs.declared.digest.Digest.{Digest}
use Rattle.message.specs.declared.digest.Pad.{Pad}
use Rattle.message.specs.declared.message.CheckedMessage.{CheckedMessage}
use Rattle.message.proofs.Within.{checked_answer}
use Rattle.tag.specs.Tags.{TagsMessage}
use Rattle.tag.proofs.tagging.tag_message.Goals as goal

pub returns : goal.returns
returns g c =
    let subkey : Block = g.E.Engine.subkey_of c.args.engine.now in
    let pad : Pad = c.args.pad in
    let header : List ℕ = c.args.message.header.now in
    let body : List ℕ = c.args.message.body.now in
    let m : CheckedMessage = c.in_ok-message.message in
    let same : (m.header.now ≡ header) × (m.body.now ≡ body) = c.in_ok-message.ensures in
    let tags : TagsMessage g.E.Engine c.args.engine.now pad header body c.tag_checked.new.engine c.tag_checked.result =
    subst₂ (λ (h b : List ℕ). TagsMessage g.E.Engine c.args.engine.now pad h b c.tag_checked.new.engine c.tag_checked.result)
    same.0 same.1 c.tag_checked.ensures in
    record {
      answer =
          ap (λ (d : Digest). Ok d) tags.answer
          ∙ sym (checked_answer (Ok (digest_of subkey pad header body)) header body m same.0 same.1);
      standard = tags.standard;
      engine = tags.engine;
    }
