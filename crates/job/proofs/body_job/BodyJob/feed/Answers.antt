use Rattle.std.proofs.Common.{refl}
use Rattle.message.specs.declared.part.Part.TheVariants.{Body}
use Rattle.job.specs.declared.call.Call.TheVariants.{Feed}
use Rattle.job.proofs.Following.{feeds_part, body_follows}
use Rattle.job.proofs.Same.{same_body}
use Rattle.job.proofs.body_job.BodyJob.feed.Goals as goal

pub returns : goal.returns
returns g c = record {
  holds = body_follows g.E.Engine c.args.self.now _ (Feed c.args.piece) c.feed.result refl c.feed.ensures.holds;
  whole = record {
    feeds =
        feeds_part g.E.Engine (λ j. j.buffer) Body c.args.self.now _ c.args.piece.now c.feed.result
        c.args.self.now.taking (λ same. same_body _ _ same refl) c.feed.ensures.whole;
    header = refl;
  };
}
