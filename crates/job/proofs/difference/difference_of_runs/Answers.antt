use Rattle.job.proofs.Differences.{runs_sum, runs_differ}
use Rattle.job.proofs.difference.difference_of_runs.Goals as goal

pub returns : goal.returns
returns g c =
    let a = g.A.Engine in
    let b = g.B.Engine in
    let one = c.replay-one in
    let two = c.replay-two in
    let said = c.hash_difference.ensures in
    record {
      answer =
          runs_sum a b c.args.first c.args.first_calls c.args.second c.args.second_calls _ one.result two.result _
          one.ensures.run two.ensures.run said.answer;
      law =
          runs_differ a b c.args.first c.args.first_calls c.args.second c.args.second_calls _ one.result two.result _
          one.ensures.run two.ensures.run said.law;
    }
