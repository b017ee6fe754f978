use Rattle.std.proofs.Common.{sym, ◌∙◌, arith}
use Rattle.reading.proofs.Numbers.{four_bytes_at}
use Rattle.reading.proofs.faults.stored_check.Goals as goal

pub returns : goal.returns
returns c = c.from_be_bytes.ensures ∙ sym (four_bytes_at 508 c.args.block.now (omega arith))
