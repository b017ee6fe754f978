use Rattle.std.proofs.Common.{rules}
use Rattle.field.proofs.Turns.{mask-times_bit}
use Rattle.field.proofs.binary.masked.Goals as goal

pub returns : goal.returns
returns c = mask-times_bit c.args.bit c.args.value 128 c.requires (search rules)
