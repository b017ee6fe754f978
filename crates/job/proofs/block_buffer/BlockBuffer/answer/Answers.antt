use Rattle.std.proofs.Common.{[], ◌∷◌, sym, subst}
use Rattle.job.specs.Runs.{AnswersCalls}
use Rattle.job.specs.declared.call.Call.{Call}
use Rattle.job.proofs.Answering.{answers_feed, answers_switch}
use Rattle.job.proofs.block_buffer.BlockBuffer.answer.Goals as goal

pub returns-in-Feed-clause-answered : goal.returns-in-Feed-clause-answered
returns-in-Feed-clause-answered g c =
    subst (λ (call : Call). AnswersCalls g.E.Engine c.args.self.now (call ∷ []) (c.feed.result ∷ []) c.feed.new.self)
    (sym c.in-Feed.is)
    (answers_feed g.E.Engine c.args.self.now c.feed.new.self _ c.feed.result c.feed.ensures.whole c.feed.ensures.holds)

pub returns-in-Switch-clause-answered : goal.returns-in-Switch-clause-answered
returns-in-Switch-clause-answered g c =
    subst (λ (call : Call). AnswersCalls g.E.Engine c.args.self.now (call ∷ []) (c.switch.result ∷ []) c.switch.new.self)
    (sym c.in-Switch.is)
    (answers_switch g.E.Engine c.args.self.now c.switch.new.self c.switch.result c.switch.ensures.whole c.switch.ensures.holds)
