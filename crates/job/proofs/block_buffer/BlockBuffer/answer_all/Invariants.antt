use Rattle.std.proofs.Common.{◌≡◌, take}
use Rattle.job.specs.Runs.{AnswersIntoRow}
use Rattle.job.proofs.block_buffer.BlockBuffer.answer_all.Given as goal

abbrev pub invariant-loop-place : goal.invariant-loop-place
invariant-loop-place g l =
    (l.self.part ≡ l.initial.self.part) × AnswersIntoRow g.E.Engine l.initial.self (take l.place l.calls) l.initial.row l.self l.row
