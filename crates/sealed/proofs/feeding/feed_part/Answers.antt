use Rattle.std.proofs.Common.{ℕ, ◌+◌, ◌≤◌, List, length, Bor, sym, subst, arith}
use Rattle.std.proofs.lemmas.Iterator.Consumers.{YieldsList-end, YieldsList-from_first, YieldsList-so_far, YieldsList-turn}
use Rattle.std.specs.List.{concat}
use Rattle.reading.specs.Sections.{section_pieces}
use Rattle.reading.proofs.Pieces.{joined, joined_push, pieces_within}
use Rattle.sealed.proofs.feeding.feed_part.Goals as goal

pub loop-piece-preserved : goal.loop-piece-preserved
loop-piece-preserved g c =
    let t = g.J.Takes in
    let pieces : List (List ℕ) = section_pieces c.args.part in
    let chain = YieldsList-from_first (λ (x : Bor (List ℕ)). x.now) section_pieces {s = c.into_iter-piece-iterator.result} pieces cc in
    let so_far = YieldsList-so_far chain c.loop-piece.yielded c.loop-piece.piece-iterator c.loop-piece.yielded_by in
    let turn = YieldsList-turn chain c.loop-piece.yielded c.loop-piece.piece-iterator c.loop-piece.yielded_by _ c.next.new.self c.in-Some.piece c.in-Some.is c.next.ensures.steps in
    let taken : List ℕ = joined c.loop-piece.yielded in
    let within : length taken + length c.in-Some.piece.now ≤ t.limit = omega (arith, pieces_within pieces c.loop-piece.yielded c.in-Some.piece so_far turn, c.requires) in (
      tt,
      tt,
      subst (λ (bytes : List ℕ). t.fed c.args.job.now bytes c.take.new.self) (sym (joined_push c.loop-piece.yielded c.in-Some.piece))
          (c.take.ensures c.args.job.now taken within c.loop-piece.invariant.2),
    )

pub returns : goal.returns
returns g c =
    let pieces : List (List ℕ) = section_pieces c.args.part in
    let chain = YieldsList-from_first (λ (x : Bor (List ℕ)). x.now) section_pieces {s = c.into_iter-piece-iterator.result} pieces cc in
    let end = YieldsList-end chain c.loop-piece.yielded c.loop-piece.piece-iterator c.loop-piece.yielded_by _ c.next.new.self c.in-None.is c.next.ensures.steps in
    subst (λ (ps : List (List ℕ)). g.J.Takes.fed c.args.job.now (concat ps) c.loop-piece.job) end.0 c.loop-piece.invariant.2
