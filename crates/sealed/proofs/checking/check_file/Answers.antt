use Rattle.std.proofs.Common.{◌≡◌, ℕ, Bool, cond, eqb, List, length, IfErr, Ok, Err, Result, sym, ap, ◌∙◌, subst, ap₂, arith}
use Rattle.field.specs.Digits.{numeral}
use Rattle.field.specs.declared.block.Block.{Block}
use Rattle.message.specs.Hash.{tag_of}
use Rattle.message.specs.declared.digest.Pad.{Pad}
use Rattle.message.specs.declared.digest.Tag.{Tag}
use Rattle.refusal.specs.declared.Refusal.{Refusal}
use Rattle.refusal.specs.declared.Refusal.TheVariants.{TagDiffers}
use Rattle.format.specs.Faults.{header_in, body_in, tag_in}
use Rattle.format.specs.Flaws.{IsFault}
use Rattle.format.specs.Verdict.{and_then, tag_verdict, Exact}
use Rattle.format.proofs.FirstPass.{passed}
use Rattle.format.proofs.Laws.{exact}
use Rattle.format.proofs.VerdictFaults.{explained}
use Rattle.format.specs.declared.lengths.Lengths.{Lengths}
use Rattle.reading.proofs.Places.{sized}
use Rattle.reading.proofs.Scans.{data_in_file}
use Rattle.reading.specs.Sections.{section_bytes}
use Rattle.tag.specs.Tags.{HashesMessage}
use Rattle.sealed.specs.Checking.{EngineAfter}
use Rattle.sealed.proofs.Verdicts.{hashed_file, untouched}
use Rattle.sealed.proofs.checking.check_file.Goals as goal

pub returns-in-Err : goal.returns-in-Err
returns-in-Err g c =
    let m = g.E.Engine in
    let file : List ℕ = c.args.file.now in
    let h : Block = m.subkey_of c.args.engine in
    let tagged : Result Lengths Refusal = tag_verdict h c.args.pad file in
    let said = ap (λ (r : Result Lengths Refusal). and_then r (λ _. tagged)) c.in-Err.ensures.answer in
    record {
      answer = said;
      refused = subst (λ (r : Result Lengths Refusal). IfErr r (IsFault h c.args.pad file)) (sym said) (explained h c.args.pad file);
      exact = subst (λ (r : Result Lengths Refusal). Exact h c.args.pad file r) (sym said) (exact h c.args.pad file (λ k. (c.type_inv.file k).fits));
      engine = untouched m c.args.engine c.args.engine file c.in-Err.refusal c.in-Err.ensures.answer;
    }

pub hash_sections-engine-requires-clause-few : goal.hash_sections-engine-requires-clause-few
hash_sections-engine-requires-clause-few g c =
    let file : List ℕ = c.args.file.now in
    let pass = (passed file c.in-Ok.sections.lengths (sym c.in-Ok.ensures.answer)).0 in
    omega (arith, ap length c.in-Ok.ensures.sections.body, data_in_file 2 file, (sized file pass.size).few)

pub returns : goal.returns
returns g c =
    let m = g.E.Engine in
    let e = c.args.engine in
    let file : List ℕ = c.args.file.now in
    let pad : Pad = c.args.pad in
    let h : Block = m.subkey_of e in
    let f = c.hash_sections-engine.result.engine in
    let cut = c.in-Ok.ensures.sections in
    let lengths : Lengths = c.in-Ok.sections.lengths in
    let tagged : Result Lengths Refusal = tag_verdict h pad file in
    let stored : c.stored_tag.result.0.bits ≡ numeral 256 (tag_in file) = c.stored_tag.ensures ∙ ap (numeral 256) cut.tag in
    let computed : c.hash_sections-engine.result.digest.tag ≡ tag_of h pad (header_in file) (body_in file) =
    c.hash_sections-engine.ensures.tag ∙ ap₂ (tag_of h pad) cut.header cut.body in
    let same : eqb c.stored_tag.result.0.bits c.hash_sections-engine.result.digest.tag.0.bits ≡ eqb (numeral 256 (tag_in file)) (tag_of h pad (header_in file) (body_in file)).0.bits =
    ap₂ (λ (n : ℕ) (t : Tag). eqb n t.0.bits) stored computed in
    let said =
    c.compare_tags.ensures
    ∙ ap₂ (λ (t : Bool) (r : Result Lengths Refusal). cond t r (Err TagDiffers)) same (ap (λ (l : Lengths). Ok l) (passed file lengths (sym c.in-Ok.ensures.answer)).1)
    ∙ ap (λ (r : Result Lengths Refusal). and_then r (λ _. tagged)) c.in-Ok.ensures.answer in
    let ran : HashesMessage m e (header_in file) (body_in file) f =
    subst (λ (xs : List ℕ). HashesMessage m e (header_in file) xs f) cut.body (subst (λ (xs : List ℕ). HashesMessage m e xs (section_bytes c.in-Ok.sections.body) f) cut.header c.hash_sections-engine.ensures.ran) in
    record {
      answer = said;
      refused = subst (λ (r : Result Lengths Refusal). IfErr r (IsFault h pad file)) (sym said) (explained h pad file);
      exact = subst (λ (r : Result Lengths Refusal). Exact h pad file r) (sym said) (exact h pad file (λ k. (c.type_inv.file k).fits));
      engine =
          subst (λ (r : Result Lengths Refusal). EngineAfter m e file r f) (sym c.compare_tags.ensures)
          (hashed_file m e f file _ lengths ran);
    }
