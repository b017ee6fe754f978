use Rattle.std.proofs.Common.{List, [], get_or, take, sym, refl, ◌∙◌, subst, arith}
use Rattle.std.proofs.lemmas.List.{length-take-le, take_more}
use Rattle.job.specs.Plain.{Answer}
use Rattle.job.specs.Runs.{AnswersIntoRow}
use Rattle.job.specs.declared.call.Call.{Call}
use Rattle.job.specs.declared.call.Call.TheVariants.{Feed}
use Rattle.job.proofs.Answering.{all_none, all_more}
use Rattle.job.proofs.block_buffer.BlockBuffer.answer_all.Goals as goal

-- what stands for a call past the end of a slice
abbrev past : Call
past = Feed record { ref_ptr = (0, 0); now = [] }

pub loop-place-init : goal.loop-place-init
loop-place-init g c = (refl, all_none g.E.Engine c.args.self.now c.args.row.now)

pub loop-place-preserved : goal.loop-place-preserved
loop-place-preserved g c =
    let m = g.E.Engine in
    let i = c.loop-place.place in
    let calls : List Call = c.args.calls.now in
    let f = c.args.self.now in
    let t = c.answer.new.self in
    let middle : List Answer = c.loop-place.row in
    let after : List Answer = c.write.new.row in
    let a : Answer = c.answer.result in
    let inv = c.loop-place.invariant in
    let said = c.answer.ensures in (
      said.part ∙ inv.0,
      subst (λ (cs : List Call). AnswersIntoRow m f cs c.args.row.now t after) (sym (take_more calls i past c.loop-place-test.true))
          (all_more m f c.args.row.now c.loop-place.self t (take i calls) (get_or calls i past) middle after a i inv.1 inv.0
          (length-take-le i calls (omega (arith, c.loop-place-test.true))) c.write.ensures said.answered),
    )
