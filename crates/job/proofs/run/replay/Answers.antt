use Rattle.std.proofs.Common.{ℕ, ◌≤◌, List, [], refl, ◌∙◌, subst, arith}
use Rattle.message.specs.Blocks.{blocks}
use Rattle.message.specs.Limits.{body_limit, limit_of}
use Rattle.message.specs.declared.part.Part.{Part}
use Rattle.message.specs.declared.part.Part.TheVariants.{Header, Body}
use Rattle.job.specs.Plain.{part_answers, bytes_taken}
use Rattle.job.specs.declared.call.Call.{Call}
use Rattle.job.proofs.Answering.{from_beginning}
use Rattle.job.proofs.Ordering.{in_order}
use Rattle.job.specs.Runs.{operations_of}
use Rattle.job.proofs.Replaying.{body_held, job_chain}
use Rattle.job.proofs.run.replay.Goals as goal

pub returns : goal.returns
returns g c =
    let m = g.E.Engine in
    let engine = c.args.engine in
    let h = m.subkey_of engine in
    let can_switch = m.ready_of engine in
    let hs : List Call = c.args.calls.header.now in
    let bs : List Call = c.args.calls.body.now in
    let header : List ℕ = bytes_taken Header can_switch hs in
    let body : List ℕ = bytes_taken Body can_switch bs in
    let i = c.start-job.result in
    let b = c.turn-job.result in
    let f = c.answer_all.new.self in
    let t = c.answer_all-2.new.self in
    let first =
    from_beginning m i.buffer c.args.header_answers.now h can_switch [] Header f hs c.answer_all.new.row
    i.taking c.answer_all.ensures.answered c.start-job.ensures.holds in
    let turned = c.turn-job.ensures.holds h can_switch header first.1.holds in
    let second =
    from_beginning m b.buffer c.args.body_answers.now h can_switch (blocks header) Body t bs c.answer_all-2.new.row
    b.taking c.answer_all-2.ensures.answered turned.holds in
    let few : t.count ≤ body_limit = subst (λ (p : Part). t.count ≤ limit_of p) (c.answer_all-2.ensures.part ∙ b.taking) t.few in
    let held = body_held m h can_switch b _ header body refl turned second.1.holds in
    record {
      header = first.0;
      body = second.0;
      run = record {
        short = subst (λ (n : ℕ). n ≤ 65535) turned.before b.short;
        few = omega (arith, few, second.1.holds.count);
        closes = c.close.ensures.closes h can_switch header body held;
        standard = c.close.ensures.standard h can_switch header body held;
        chain =
            job_chain m h can_switch engine c.args.pad i _ b _ c.close.result header body
            c.start-job.ensures.whole first.1.holds c.turn-job.ensures.whole held c.close.ensures.whole
            (operations_of [] hs (part_answers Header can_switch hs)) (operations_of [] bs (part_answers Body can_switch bs))
            first.1.chain second.1.chain;
        order = in_order hs (part_answers Header can_switch hs) bs (part_answers Body can_switch bs);
      };
    }
