use Rattle.std.proofs.Common.{◌≡◌, ℕ, ◌<◌, List, length, arith, rules, refl, sym, subst, ap₂, ◌∙◌, Some, Ok, Bor}
use Rattle.std.proofs.lemmas.Fn.{serves_by, chained_keeps}
use Rattle.std.proofs.lemmas.List.{at_drop_all, take_all}
use Rattle.std.proofs.lemmas.List.FromFn.{length-enumerate_from}
use Rattle.format.specs.Faults.{Predecessor, fault_of, scan_result}
use Rattle.reading.specs.Shapes.{predecessor_of}
use Rattle.reading.specs.Scanning.{IsTallyOf, ScansBlocks}
use Rattle.reading.specs.declared.scan.Scan.{Scan}
use Rattle.std.proofs.lemmas.Iterator.{YieldsList, YieldsList-from_slice}
use Rattle.std.proofs.lemmas.Iterator.Consumers.{YieldsList-from_enumerate, YieldsList-turn, YieldsList-so_far, YieldsList-end}
use Rattle.std.specs.List.{enumerate_from}
use Rattle.reading.proofs.Scans.{scan_ends}
use Rattle.reading.proofs.FoldedScan.{SoFar, nothing_yet, so_far_keeps, placed, upto, by_option, by_result, within_file}
use Rattle.reading.proofs.scanning.scan_blocks.Goals as goal

pub try_fold-requires-clause-callable : goal.try_fold-requires-clause-callable
try_fold-requires-clause-callable c =
    let bs : List (List ℕ) = c.args.blocks.now in
    let chain : YieldsList _ (λ (p : ℕ × Bor (List ℕ)). (p.0, p.1.now)) c.enumerate.result (enumerate_from 0 bs) =
    YieldsList-from_enumerate (YieldsList-from_slice bs (cc)) (cc) in
    serves_by _ (SoFar bs)
    (λ xs q x w j r. so_far_keeps bs c.told-blocks xs q x w j (let a : r.0 ≡ Ok w.1 = search rules in search (rules, a)))
    _ _ _ _ (λ more e. nothing_yet bs)
    (λ xs t q x u y s j.
    let k : ℕ = length xs in
    let p = placed bs k x (YieldsList-turn chain xs t y _ u x refl s) in
    let m = upto bs xs q j (YieldsList-so_far chain xs t y) in
    let small : x.0 < 65536 = omega (arith, p.0, p.1, c.requires) in
    let header = within_file 1 k bs q.1.header c.told-blocks c.requires m.header in
    let body = within_file 2 k bs q.1.body c.told-blocks c.requires m.body in
    search (rules, small, header, body))

pub returns : goal.returns
returns c =
    let bs : List (List ℕ) = c.args.blocks.now in
    let ran = c.try_fold.ensures.ran in
    let xs = ran.0 in
    let turns = ran.4 in
    let a : Scan = ran.3 in
    let k : ℕ = length xs in
    let last : Predecessor = predecessor_of a.last in
    let chain : YieldsList _ (λ (p : ℕ × Bor (List ℕ)). (p.0, p.1.now)) c.enumerate.result (enumerate_from 0 bs) =
    YieldsList-from_enumerate (YieldsList-from_slice bs (cc)) (cc) in
    let so : SoFar bs xs (ran.2, a) =
    chained_keeps _ (SoFar bs)
    (λ xs q x w j r. so_far_keeps bs c.told-blocks xs q x w j (let a : r.0 ≡ Ok w.1 = search rules in search (rules, a)))
    xs _ _ (λ more e. nothing_yet bs) ran.5 in
    let m = upto bs xs (ran.2, a) so (YieldsList-so_far chain xs turns.0 turns.1) in
    by_option ran.1 ran.6
    (λ none done.
    let e : c.try_fold.result ≡ Ok a = search rules in
    let long : k ≡ length bs = (YieldsList-end chain xs turns.0 turns.1 ran.1 _ none turns.2).1 ∙ length-enumerate_from 0 bs in
    let end = take_all k bs (omega (arith, long)) in
    subst (ScansBlocks bs) (sym e) record {
      sound = m.scan ∙ at_drop_all (scan_result k last) bs k (omega (arith, long));
      header = subst (λ cs. IsTallyOf 1 cs a.header) end m.header;
      body = subst (λ cs. IsTallyOf 2 cs a.body) end m.body;
    })
    (λ x some broke. by_result c.try_fold.result (λ z is. absurd (search (rules, is))) (λ z is.
    let bad : fault_of x.0 last x.1.now ≡ Some z = search (rules, is) in
    let p = placed bs k x (YieldsList-turn chain xs turns.0 turns.1 ran.1 _ x some turns.2) in
    subst (ScansBlocks bs) (sym is) (m.scan
    ∙ scan_ends k last bs x.1.now z p.0 (ap₂ (λ n b. fault_of n last b) (sym p.1) (sym p.2) ∙ bad))))
