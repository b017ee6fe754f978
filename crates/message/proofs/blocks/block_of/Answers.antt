use Rattle.std.proofs.Common.{ap, ◌∙◌, rules}
use Rattle.field.specs.Bytes.{block_of}
use Rattle.message.specs.Blocks.{AreBytes}
use Rattle.message.specs.Standard.{block_string}
use Rattle.message.proofs.StandardHash.{first_same}
use Rattle.message.proofs.blocks.block_of.Goals as goal

pub returns-clause-standard : goal.returns-clause-standard
returns-clause-standard c =
    let small : AreBytes c.args.piece.now = λ k. search rules in
    ap block_string (c.from_bytes.ensures.value ∙ ap block_of c.fill.ensures) ∙ first_same c.args.piece.now small
