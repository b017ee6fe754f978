use Rattle.std.proofs.Common.{◌≡◌, ℕ, ◌+◌, true, List, [], ◌++◌, length, sym, refl, ap, ◌∙◌, append_assoc, append-nil, arith, le-leb}
use Rattle.std.specs.Slice.Iter.{chunks_rest}
use Rattle.std.proofs.lemmas.List.{nil_from_length}
use Rattle.message.specs.Limits.{limit_of}
use Rattle.job.specs.Buffers.{TakesPiece}
use Rattle.job.specs.Plain.{has_room, fits}
use Rattle.job.proofs.Feeding.{cut_none, cut_append, takes_by, holds_append}
use Rattle.job.proofs.block_buffer.BlockBuffer.feed.Goals as goal

pub loop-block-init : goal.loop-block-init
loop-block-init g c = ([], refl, cut_none g.E.Engine c.hold.new.self)

pub loop-block-preserved : goal.loop-block-preserved
loop-block-preserved g c =
    let inv = c.loop-block.invariant in
    let went = c.in-Some.ensures.steps in
    let piece : List ℕ = c.in-Some.block.now in (
      inv.0 ++ piece,
      inv.1 ∙ ap (λ xs. inv.0 ++ xs) went.1.0 ∙ sym (append_assoc inv.0 piece (chunks_rest c.next.new.self)),
      cut_append g.E.Engine c.hold.new.self c.loop-block.self c.take_block.new.self inv.0 piece inv.2 c.take_block.ensures,
    )

pub returns : goal.returns
returns g c =
    let m = g.E.Engine in
    let f = c.args.self.now in
    let t = c.loop-block.self in
    let piece : List ℕ = c.args.piece.now in
    let inv = c.loop-block.invariant in
    let cut = c.split_at.ensures in
    let same = ap chunks_rest c.into_iter-block-iterator.ensures.into_iter_gives ∙ c.chunks-block-items.ensures.rest in
    let none : chunks_rest c.loop-block.block-iterator ≡ [] = nil_from_length _ c.in-None.ensures.steps.1.0 in
    let all : c.split_at.result.0.now ++ inv.0 ≡ piece =
    ap (λ xs. c.split_at.result.0.now ++ xs) (sym (sym same ∙ inv.1 ∙ ap (λ xs. inv.0 ++ xs) none ∙ append-nil inv.0))
    ∙ sym cut.by_index.0 in
    let done = cut_append m _ c.hold.new.self t c.split_at.result.0.now inv.0 c.hold.ensures inv.2 in
    let fed : TakesPiece m f piece t = takes_by m f _ t _ piece done all refl refl refl refl in
    let below = c.if-piece-limit.false in
    let room : has_room f.part f.count piece ≡ true =
    le-leb (f.count + length piece) (limit_of f.part) (omega (arith, c.limit.ensures, below, f.few)) in
    record {
      part = fed.part;
      whole = record { answer = rw room refl; outcome = fed };
      holds = λ h can_switch before taken held.
          let same : fits f.part taken piece ≡ true = ap (λ n. has_room f.part n piece) (sym held.count) ∙ room in
          (rw same refl, rw same (holds_append m h can_switch before f t taken held piece (λ k. (c.type_inv.piece k).fits) fed));
    }
