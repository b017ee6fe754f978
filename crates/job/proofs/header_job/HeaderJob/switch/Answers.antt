use Rattle.job.specs.declared.call.Call.TheVariants.{Switch}
use Rattle.job.proofs.Following.{header_follows}
use Rattle.job.proofs.header_job.HeaderJob.switch.Goals as goal

pub returns-clause-holds : goal.returns-clause-holds
returns-clause-holds g c = header_follows g.E.Engine c.args.self.now c.switch.new.self Switch c.switch.result c.switch.ensures.holds
