use Rattle.std.proofs.Common.{◌≡◌, ℕ, ◌+◌, ◌-◌, ◌≤◌, List, ◌++◌, length, take, drop, take-append-drop, Bor, sym, ap, ap₂, ◌∙◌, arith, length-append}
use Rattle.std.proofs.lemmas.Iterator.Consumers.{YieldsList-from_first, YieldsList-so_far, YieldsList-turn}
use Rattle.std.proofs.lemmas.List.{drop-drop, drop_at, take_at}
use Rattle.std.proofs.lemmas.Slice.{drop-put_mid, take-put_mid}
use borrow.Rule.Slice.PartMut.{put_mid}
use Rattle.reading.specs.Sections.{section_pieces}
use Rattle.reading.proofs.Pieces.{joined, joined_push, pieces_within}
use Rattle.reading.proofs.section.Section.copy_to.Goals as goal

-- a piece written after those that were taken
written_on : (taken piece output start new : List ℕ) (at k : ℕ) → at ≡ length taken → k ≡ length piece
    → output ≡ taken ++ drop at start → new ≡ piece
    → put_mid at k output new ≡ (taken ++ piece) ++ drop (at + k) start
written_on taken piece output start new at k here long so_far same =
    let pm : List ℕ = put_mid at k output new in
    let within : at ≤ length output = omega (arith, ap length so_far, length-append taken (drop at start), here) in
    let size : length new ≡ k = ap length same ∙ sym long in
    let left : drop at output ≡ drop at start = ap (drop at) so_far ∙ drop_at taken (drop at start) at (sym here) in
    sym (take-append-drop (at + k) pm)
    ∙ ap₂ (λ (xs ys : List ℕ). xs ++ ys)
    (take-put_mid at k output new (at + k) (omega (arith, size)) within
    ∙ ap₂ (λ (xs ys : List ℕ). xs ++ ys) (ap (take at) so_far ∙ take_at taken (drop at start) at (sym here)) same)
    (drop-put_mid at k output new (at + k) (omega arith) within size ∙ sym (drop-drop k at output) ∙ ap (drop k) left
    ∙ drop-drop k at start)

pub slice_bounds-copy_from_slice-end : goal.slice_bounds-copy_from_slice-end
slice_bounds-copy_from_slice-end c =
    let pieces = section_pieces c.args.self in
    let loop = c.loop-piece in
    let chain =
    YieldsList-from_first (λ (x : Bor (List ℕ)). x.now) section_pieces {s = c.into_iter-piece-iterator.result} pieces cc in
    let so_far = YieldsList-so_far chain loop.yielded loop.piece-iterator loop.yielded_by in
    let turn =
    YieldsList-turn chain loop.yielded loop.piece-iterator loop.yielded_by
    _ c.next.new.self c.in-Some.piece c.in-Some.is c.next.ensures.steps in
    let room = pieces_within pieces loop.yielded c.in-Some.piece so_far turn in
    let within : c.loop-piece.at + length c.in-Some.piece.now ≤ length c.loop-piece.output =
    omega (arith, c.loop-piece.invariant.2, room, c.requires.room, c.loop-piece.auto.output) in
    within

pub loop-piece-preserved : goal.loop-piece-preserved
loop-piece-preserved c =
    let so = c.loop-piece.invariant in
    let taken : List ℕ = joined c.loop-piece.yielded in
    let piece : List ℕ = c.in-Some.piece.now in
    let at : ℕ = c.loop-piece.at in
    let next = joined_push c.loop-piece.yielded c.in-Some.piece in (
      tt,
      tt,
      omega (arith, so.2, ap length next, length-append taken piece),
      written_on taken piece c.loop-piece.output c.args.output.now c.copy_from_slice.new.self at (at + length piece - at)
          so.2 (omega arith) so.3 c.copy_from_slice.ensures.after
          ∙ ap₂ (λ (xs : List ℕ) (n : ℕ). xs ++ drop n c.args.output.now) (sym next) (omega arith),
    )
