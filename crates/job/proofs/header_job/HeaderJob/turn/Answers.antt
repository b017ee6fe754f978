use Rattle.std.proofs.Common.{[], sym, refl, ap, ◌∙◌, append-nil, arith}
use Rattle.field.specs.Evaluation.{eval}
use Rattle.field.specs.Kinds.{block_ring}
use Rattle.message.specs.Blocks.{blocks}
use Rattle.job.specs.Cuts.{full_blocks, left_over}
use Rattle.job.proofs.Feeding.{flushed_value}
use Rattle.job.proofs.header_job.HeaderJob.turn.Goals as goal

pub returns : goal.returns
unfolding full_blocks left_over
returns g c =
    let m = g.E.Engine in
    let f = c.args.self.buffer in
    let t = c.flush.new.self in
    let flushed = c.flush.ensures in
    record {
      holds = λ h can_switch header held. record {
        before = flushed.count ∙ held.count;
        bytes = held.bytes;
        holds = record {
          subkey = flushed.hashed.subkey ∙ held.subkey;
          ready = flushed.hashed.ready ∙ held.ready;
          count = refl;
          left = flushed.left;
          value =
              flushed_value m h can_switch [] f t header held flushed
              ∙ ap (eval block_ring h) (sym (append-nil (blocks header)));
          bytes = λ k. omega arith;
        };
      };
      whole = record { hashed = flushed.hashed; left = flushed.left; header = flushed.count; count = refl; part = refl };
    }
