use Rattle.message.specs.declared.part.Part.TheVariants.{Header}
use Rattle.job.specs.declared.call.Call.TheVariants.{Feed}
use Rattle.job.proofs.Following.{feeds_part, header_follows}
use Rattle.job.proofs.Same.{same_header}
use Rattle.job.proofs.header_job.HeaderJob.feed.Goals as goal

pub returns : goal.returns
returns g c = record {
  holds = header_follows g.E.Engine c.args.self.now c.feed.new.self (Feed c.args.piece) c.feed.result c.feed.ensures.holds;
  whole =
      feeds_part g.E.Engine (λ j. j.buffer) Header c.args.self.now _ c.args.piece.now c.feed.result
      c.args.self.now.taking (same_header _ _) c.feed.ensures.whole;
}
