use Rattle.std.proofs.Common.{true, false, arith}
use Rattle.tag.proofs.Checking.{verdict-check_answer}
use Rattle.tag.proofs.check.check_tag.Goals as goal

pub returns-then-not-begins_with : goal.returns-then-not-begins_with
returns-then-not-begins_with g c = record {
  answer =
      verdict-check_answer (g.E.Engine.subkey_of c.args.engine.now) c.args.pad c.args.message.header.now c.args.message.body.now c.args.given.now
      (omega arith) (omega arith) c.in_ok-digest.digest false c.in_ok-digest.ensures.answer c.if-not-begins_with.ensures;
  engine = c.in_ok-digest.ensures.engine;
}

pub returns : goal.returns
returns g c = record {
  answer =
      verdict-check_answer (g.E.Engine.subkey_of c.args.engine.now) c.args.pad c.args.message.header.now c.args.message.body.now c.args.given.now
      (omega arith) (omega arith) c.in_ok-digest.digest true c.in_ok-digest.ensures.answer c.if-not-begins_with.ensures;
  engine = c.in_ok-digest.ensures.engine;
}
