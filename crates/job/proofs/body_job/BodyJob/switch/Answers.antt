use Rattle.std.proofs.Common.{refl}
use Rattle.job.specs.declared.call.Call.TheVariants.{Switch}
use Rattle.job.proofs.Following.{body_follows}
use Rattle.job.proofs.body_job.BodyJob.switch.Goals as goal

pub returns-clause-holds : goal.returns-clause-holds
returns-clause-holds g c = body_follows g.E.Engine c.args.self.now _ Switch c.switch.result refl c.switch.ensures.holds
