use Rattle.std.proofs.Common.{◌≡◌, ℕ, List, length, Ok, Result, sym, ap, ◌∙◌}
use Rattle.field.specs.declared.block.Block.{Block}
use Rattle.format.specs.Verdict.{and_then}
use Rattle.message.specs.Answer.{digest_of}
use Rattle.message.specs.declared.digest.Digest.{Digest}
use Rattle.message.proofs.Within.{accepted_value}
use Rattle.refusal.specs.declared.Refusal.{Refusal}
use Rattle.sealed.specs.declared.sealed.Sealed.{Sealed}
use Rattle.sealed.specs.Writing.{room_answer}
use Rattle.sealed.proofs.writing.hash_for_file.Goals as goal

abbrev sealed_as : Digest → ℕ → Result Sealed Refusal
sealed_as d n = Ok record { blocks = n; digest = d }

pub returns : goal.returns
returns g c =
    let subkey : Block = g.E.Engine.subkey_of c.args.engine.now in
    let header : List ℕ = c.args.message.header.now in
    let body : List ℕ = c.args.message.body.now in
    let digest : Digest = digest_of subkey c.args.pad header body in
    let hashed : c.in_ok-digest.digest ≡ digest = accepted_value header body c.in_ok-digest.digest digest (sym c.in_ok-digest.was ∙ c.tag_message.ensures.answer) in
    let counted : ◌≡◌ {A = Result ℕ Refusal} (Ok c.in_ok-blocks.blocks) (room_answer (length header) (length body) c.args.room) = sym c.in_ok-blocks.was ∙ c.count_blocks.ensures in
    record {
      answer = ap (λ (d : Digest). sealed_as d c.in_ok-blocks.blocks) hashed ∙ ap (λ (r : Result ℕ Refusal). and_then r (sealed_as digest)) counted;
      engine = c.in_ok-digest.ensures.engine;
    }
