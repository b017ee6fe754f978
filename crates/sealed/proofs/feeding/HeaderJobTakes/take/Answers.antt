use Rattle.std.proofs.Common.{◌≡◌}
use Rattle.job.specs.Jobs.{HeaderHolds}
use Rattle.message.specs.declared.part.Part.TheVariants.{Header}
use Rattle.sealed.proofs.Running.{took_more}
use Rattle.sealed.proofs.feeding.HeaderJobTakes.take.Goals as goal

pub returns : goal.returns
returns g c first taken within so_far h can_switch began took =
    let m = g.E.Engine in
    let j = c.args.self.now in
    let now = so_far h can_switch began took in
    took_more m (HeaderHolds m h can_switch) (λ u. u.buffer) (λ s xs holds. holds.left) Header began j c.feed.new.self taken c.args.piece.now
    (λ _. c.feed.new.self ≡ j) c.feed.result within now
    (c.feed.ensures.holds h can_switch taken now.holds) c.feed.ensures.whole.outcome
