use Rattle.std.proofs.Common.{◌≡◌, ℕ, ◌<◌, ◌≤◌, true, eqb, List, [], map, length, take, drop, get_or, Result, IfErr, Ok, Err, sym, ap, ◌∙◌, subst, arith}
use Rattle.std.proofs.lemmas.List.{length-take-le}
use Rattle.std.proofs.lemmas.Result.{err_from_is_err_and}
use Rattle.std.proofs.lemmas.Bool.Decides.{nat_tests}
use Rattle.std.specs.List.{concat}
use Rattle.refusal.specs.declared.Refusal.{Refusal}
use Rattle.refusal.specs.declared.Refusal.TheVariants.{NoEnd}
use Rattle.format.specs.Faults.{Predecessor, blocks_of, data_in, data_of, used_length_in, scan_result, no_predecessor, blocks_of_kind}
use Rattle.format.specs.Flaws.{IsScanFault}
use Rattle.format.specs.Verdict.{scan_answer}
use Rattle.format.proofs.ScanFaults.{scan_fault}
use Rattle.reading.specs.Sections.{lengths_answer}
use Rattle.reading.specs.declared.sections.Sections.{Sections}
use Rattle.reading.specs.Shapes.{predecessor_of}
use Rattle.reading.proofs.Answering.{answer_fault, answer_no_end, answer_end}
use Rattle.reading.proofs.InOrder.{header_cut, body_cut, header_within, body_within, last_end}
use Rattle.reading.proofs.Scans.{chunks_are}
use Rattle.reading.proofs.sections.cut_file.Goals as goal

-- the test for an end block
is_end : (kind : ℕ) → eqb kind 3 ≡ true → kind ≡ 3
is_end kind test = grind (arith, nat_tests)

-- the bytes of a section, where its blocks are those of a kind
of_kind : (kind : ℕ) (bs cs file_blocks : List (List ℕ)) → cs ≡ blocks_of_kind kind bs → bs ≡ file_blocks
    → concat (map data_in cs) ≡ data_of kind file_blocks
of_kind kind bs cs file_blocks cut all = ap (λ (xs : List (List ℕ)). concat (map data_in xs)) cut ∙ ap (data_of kind) all

-- where the answer is that of the scan, a refusal is the first fault
fault_told : (file : List ℕ) (r : Result Sections Refusal) → lengths_answer r ≡ scan_answer file → IfErr r (IsScanFault file)
fault_told file (Ok s) same = tt
fault_told file (Err e) same = scan_fault file e (sym same)

pub returns-in_err-scan-clause-answer : goal.returns-in_err-scan-clause-answer
returns-in_err-scan-clause-answer c =
    let file : List ℕ = c.args.file.now in
    let came = err_from_is_err_and c.from_residual.result c.from_residual.ensures.1 in
    let all = chunks_are file c.as_chunks.result.0.now c.as_chunks.ensures.front in
    ap lengths_answer (came.1 ∙ ap (λ (e : Refusal). Err e) came.2)
    ∙ sym
    (answer_fault file (sym c.if-not-is_size_good.ensures) c.in_err-scan.field-0.0
    (ap (scan_result 0 no_predecessor) (sym all) ∙ c.in_err-scan.ensures))

pub returns-in_err-scan-clause-refused : goal.returns-in_err-scan-clause-refused
returns-in_err-scan-clause-refused c = fault_told c.args.file.now c.from_residual.result (returns-in_err-scan-clause-answer c)

pub returns-then-not-has_end-clause-answer : goal.returns-then-not-has_end-clause-answer
returns-then-not-has_end-clause-answer c =
    let file : List ℕ = c.args.file.now in
    let all = chunks_are file c.as_chunks.result.0.now c.as_chunks.ensures.front in
    let none = sym c.has_end.ensures ∙ c.if-not-has_end.true in
    ap (λ (n : ℕ). Err (NoEnd n)) c.as_chunks.ensures.front_len
    ∙ sym
    (answer_no_end file (sym c.if-not-is_size_good.ensures) (predecessor_of c.in_ok-scan.scan.last)
    (ap (scan_result 0 no_predecessor) (sym all) ∙ c.in_ok-scan.ensures.sound) none)

pub returns-then-not-has_end-clause-refused : goal.returns-then-not-has_end-clause-refused
returns-then-not-has_end-clause-refused c =
    fault_told c.args.file.now (Err (NoEnd (length c.as_chunks.result.0.now))) (returns-then-not-has_end-clause-answer c)

pub split_at-requires : goal.split_at-requires
split_at-requires c =
    let end = is_end _ (sym c.has_end.ensures ∙ c.if-not-has_end.false) in
    header_within c.as_chunks.result.0.now c.in_ok-scan.scan c.in_ok-scan.ensures end

pub split_at-requires-2 : goal.split_at-requires-2
split_at-requires-2 c =
    let end = is_end _ (sym c.has_end.ensures ∙ c.if-not-has_end.false) in
    subst (λ (bs : List (List ℕ)). c.in_ok-scan.scan.body.blocks ≤ length bs) (sym c.split_at.ensures.back)
    (body_within c.as_chunks.result.0.now c.in_ok-scan.scan c.in_ok-scan.ensures end)

pub bounds-end-0 : goal.bounds-end-0
bounds-end-0 c =
    let scan = c.in_ok-scan.scan in
    let end = is_end _ (sym c.has_end.ensures ∙ c.if-not-has_end.false) in
    let one = last_end c.as_chunks.result.0.now scan c.in_ok-scan.ensures end in
    let cut = c.split_at-2.ensures.back ∙ ap (drop scan.body.blocks) c.split_at.ensures.back ∙ one.1.left in
    let count : length c.split_at-2.result.1.now ≡ 1 = ap length cut in
    let some : 0 < length c.split_at-2.result.1.now = omega (arith, count) in
    some

pub returns : goal.returns
returns c =
    let file : List ℕ = c.args.file.now in
    let bs : List (List ℕ) = c.as_chunks.result.0.now in
    let scan = c.in_ok-scan.scan in
    let said = c.in_ok-scan.ensures in
    let last : Predecessor = predecessor_of scan.last in
    let all : bs ≡ blocks_of file = chunks_are file bs c.as_chunks.ensures.front in
    let test : eqb last.kind 3 ≡ true = sym c.has_end.ensures ∙ c.if-not-has_end.false in
    let end = is_end last.kind test in
    let one = last_end bs scan said end in
    let cut = c.split_at-2.ensures.back ∙ ap (drop scan.body.blocks) c.split_at.ensures.back ∙ one.1.left in
    let block : get_or c.split_at-2.result.1.now 0 [] ≡ one.0 = ap (λ (xs : List (List ℕ)). get_or xs 0 []) cut in
    let used = c.read.ensures.says.used ∙ ap used_length_in block in
    let rest = c.read.ensures.says.rest ∙ ap (drop 6) block in
    let sixteen : c.read.result.used ≡ 16 = used ∙ one.1.used in
    let size : (kind n : ℕ) → n ≡ length (data_of kind bs) → n ≡ length (data_of kind (blocks_of file)) =
    λ kind n so. so ∙ ap (λ (xs : List (List ℕ)). length (data_of kind xs)) all in
    record {
      answer =
          (λ i. Ok record {
            header = size 1 scan.header.bytes said.header.bytes i;
            body = size 2 scan.body.bytes said.body.bytes i;
          })
          ∙ sym (answer_end file (sym c.if-not-is_size_good.ensures) last (ap (scan_result 0 no_predecessor) (sym all)
          ∙ said.sound) test);
      refused = tt;
      sections = record {
        header = of_kind 1 bs c.split_at.result.0.now (blocks_of file) (c.split_at.ensures.front ∙ header_cut bs scan said end) all;
        body =
            of_kind 2 bs c.split_at-2.result.0.now (blocks_of file)
            (c.split_at-2.ensures.front ∙ ap (take scan.body.blocks) c.split_at.ensures.back ∙ body_cut bs scan said end)
            all;
        tag = c.data.ensures ∙ (λ i. take (used i) (rest i)) ∙ sym one.1.tag ∙ ap (data_of 3) all;
        whole_tag =
            ap length c.data.ensures
            ∙ length-take-le c.read.result.used c.read.result.rest.now (omega (arith, sixteen, c.read.ensures.whole))
            ∙ sixteen;
      };
    }
