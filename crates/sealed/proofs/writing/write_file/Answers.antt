use Rattle.std.proofs.Common.{ℕ, List, length, Result, sym, ◌∙◌, subst, OnOk}
use Rattle.field.specs.declared.block.Block.{Block}
use Rattle.message.specs.Answer.{digest_of}
use Rattle.message.specs.declared.digest.Digest.{Digest}
use Rattle.message.specs.declared.digest.Pad.{Pad}
use Rattle.format.specs.Layout.{sealed_file}
use Rattle.format.specs.Verdict.{Reopens}
use Rattle.format.proofs.Laws.{reopens}
use Rattle.refusal.specs.declared.Refusal.{Refusal}
use Rattle.sealed.specs.declared.sealed.Sealed.{Sealed}
use Rattle.sealed.specs.Writing.{file_of, room_answer, StandsInFront, WritesFile}
use Rattle.sealed.proofs.Layers.{limits_kept, sealed_parts}
use Rattle.sealed.proofs.writing.write_file.Goals as goal
use Rattle.sealed.proofs.writing.write_file.Goals.{in-Ok, in_default}

pub returns-clause-output : goal.returns-clause-output
unfolding sealed_file
returns-clause-output g c =
    let subkey : Block = g.E.Engine.subkey_of c.args.engine in
    let pad : Pad = c.args.pad in
    let header : List ℕ = c.args.message.header.now in
    let body : List ℕ = c.args.message.body.now in
    let entry : List ℕ = c.args.output.now in
    let file : List ℕ = sealed_file subkey pad header body in
    let Written = WritesFile file entry c.match-answer.output in
    elim c.match-answer.branch [
      | in-Ok w ↦
          (let parts = sealed_parts (digest_of subkey pad header body) (room_answer (length header) (length body) (length entry))
          w.in-Ok.sealed (sym w.in-Ok.is ∙ c.hash_for_file-answer.ensures.answer) in
          subst Written (sym w.answer-is)
          (w.output-is ∙ subst (λ (d : Digest). StandsInFront (file_of c.args.message d.tag) entry w.write_parts.new.output) parts.1 w.write_parts.ensures))
      | in_default w ↦ subst Written (sym (w.answer-is ∙ w.in_default.is)) w.output-is
    ]

pub returns-clause-reopens : goal.returns-clause-reopens
returns-clause-reopens g c =
    let subkey : Block = g.E.Engine.subkey_of c.args.engine in
    let pad : Pad = c.args.pad in
    let header : List ℕ = c.args.message.header.now in
    let body : List ℕ = c.args.message.body.now in
    let room : ℕ = length c.args.output.now in
    let Opened = λ (a : Result Sealed Refusal). OnOk a (Reopens subkey pad header body) in
    elim c.match-answer.branch [
      | in-Ok w ↦
          (let parts = sealed_parts (digest_of subkey pad header body) (room_answer (length header) (length body) room)
          w.in-Ok.sealed (sym w.in-Ok.is ∙ c.hash_for_file-answer.ensures.answer) in
          let limits = limits_kept (length header) (length body) room _ parts.0 in
          subst Opened (sym w.answer-is) (reopens subkey pad header body limits.0 limits.1))
      | in_default w ↦ subst Opened (sym (w.answer-is ∙ w.in_default.is)) tt
    ]
