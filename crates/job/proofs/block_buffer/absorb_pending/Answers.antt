use Rattle.std.proofs.Common.{take, ap, ◌∙◌}
use Rattle.message.specs.Blocks.{block_from}
use Rattle.engine.proofs.HashedRows.{hashed_one}
use Rattle.job.proofs.block_buffer.absorb_pending.Goals as goal

pub returns-clause-hashed : goal.returns-clause-hashed
returns-clause-hashed g c =
    let said = c.absorb.ensures in
    hashed_one g.E.Engine c.args.engine.now c.absorb.new.self _ _ said.value said.subkey said.ready said.whole
    (c.block_of.ensures.value ∙ ap (λ xs. block_from (take 16 xs)) c.as_slice.ensures.value)
