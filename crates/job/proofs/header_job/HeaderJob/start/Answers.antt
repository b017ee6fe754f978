use Rattle.std.proofs.Common.{refl, ◌∙◌, subst, arith}
use Rattle.field.specs.declared.block.Block.{Block}
use Rattle.job.specs.Cuts.{full_blocks, left_over}
use Rattle.job.proofs.header_job.HeaderJob.start.Goals as goal

pub returns : goal.returns
unfolding full_blocks left_over
returns g c =
    let said = c.resume.ensures in
    record {
      holds = record {
        subkey = said.subkey;
        ready = said.ready;
        count = refl;
        left = c.new.ensures;
        value = said.value ∙ c.zero.ensures;
        bytes = λ k. omega arith;
      };
      whole = record {
        resumed = subst (λ (v : Block). g.E.Engine.resumes c.args.engine v c.resume.new.self) c.zero.ensures said.whole;
        value = said.value ∙ c.zero.ensures;
        subkey = said.subkey;
        ready = said.ready;
        left = c.new.ensures;
        count = refl;
        part = refl;
      };
    }
