use Rattle.std.proofs.Common.{◌≡◌, ℕ, ◌+◌, cond, ltb, List, ◌++◌, length, drop, Ok, Err, Result, sym, ap, ◌∙◌, ap₂, append_assoc, arith, length-append, le-ltb}
use borrow.Rule.Slice.PartMut.{put_mid}
use Rattle.std.proofs.lemmas.List.{take_at, drop_at, drop-drop}
use Rattle.std.proofs.lemmas.Bool.{cond-false}
use Rattle.field.specs.Bytes.{bytes_of}
use Rattle.field.specs.declared.block.Block.{Block}
use Rattle.field.proofs.Digits.{length_digits}
use Rattle.message.specs.Answer.{digest_of}
use Rattle.message.specs.declared.digest.Digest.{Digest}
use Rattle.message.specs.declared.digest.Pad.{Pad}
use Rattle.message.specs.declared.message.CheckedMessage.{CheckedMessage}
use Rattle.message.specs.Hash.{hash_of, tag_of}
use Rattle.message.proofs.Within.{checked_answer}
use Rattle.engine.specs.declared.step.Step.{Step}
use Rattle.refusal.specs.declared.Refusal.{Refusal}
use Rattle.refusal.specs.declared.Refusal.TheVariants.{OutputTooShort}
use Rattle.logger.specs.Calls.{tag_call_answer, output_if}
use Rattle.logger.proofs.output.write_digest.Goals as goal

-- sixteen bytes over the first, and sixteen over the next
two : (first second old : List ℕ) → length first ≡ 16 → length second ≡ 16
    → put_mid 16 16 (first ++ drop 16 old) second ≡ (first ++ second) ++ drop (length (first ++ second)) old
two first second old long long' =
    let both : 16 + 16 ≡ length (first ++ second) = sym (length-append first second ∙ ap₂ (λ (m n : ℕ). m + n) long long') in
    ap₂ (λ (xs ys : List ℕ). xs ++ (second ++ drop 16 ys)) (take_at first (drop 16 old) 16 long) (drop_at first (drop 16 old) 16 long)
    ∙ ap (λ (xs : List ℕ). first ++ (second ++ xs)) (drop-drop 16 16 old ∙ ap (λ (n : ℕ). drop n old) both)
    ∙ sym (append_assoc first second (drop (length (first ++ second)) old))

abbrev ok : Result (Unit {0}) Refusal
ok = Ok tt

pub returns : goal.returns
returns c =
    let subkey : Block = c.args.subkey in
    let pad : Pad = c.args.pad in
    let header : List ℕ = c.args.message.header.now in
    let body : List ℕ = c.args.message.body.now in
    let output : List ℕ = c.args.output.now in
    let m : CheckedMessage = c.in_ok-message.message in
    let handed : (m.header.now ≡ header) × (m.body.now ≡ body) = c.in_ok-message.ensures in
    let digest : Digest = c.tag_checked-digest.result in
    let hash : List ℕ = bytes_of (hash_of subkey header body) in
    let tag : List ℕ = bytes_of (tag_of subkey pad header body).0 in
    let same : digest ≡ digest_of subkey pad header body =
    c.tag_checked-digest.ensures.answer
    ∙ ap (λ (e : Step). digest_of e.subkey pad m.header.now m.body.now) c.new-engine.ensures
    ∙ ap₂ (digest_of subkey pad) handed.0 handed.1 in
    let first : c.copy_from_slice.new.self ≡ hash =
    c.copy_from_slice.ensures.after ∙ c.to_bytes.ensures.value ∙ ap (λ (d : Digest). bytes_of d.hash) same in
    let second : c.copy_from_slice-2.new.self ≡ tag =
    c.copy_from_slice-2.ensures.after ∙ c.to_bytes-2.ensures ∙ ap (λ (d : Digest). bytes_of d.tag.0) same in
    let room : Result (Unit {0}) Refusal = cond (ltb (length output) 32) (Err OutputTooShort) ok in
    let accepted : ok ≡ tag_call_answer header body output =
    sym (checked_answer room header body m handed.0 handed.1 ∙ cond-false _ _ _ (le-ltb (length output) 32 (omega arith))) in
    record {
      answer = accepted;
      output =
          ap₂ (λ (xs ys : List ℕ). put_mid 16 16 (xs ++ drop 16 output) ys) first second
          ∙ two hash tag output (length_digits 256 16 (hash_of subkey header body).bits) (length_digits 256 16 (tag_of subkey pad header body).0.bits)
          ∙ ap (λ (r : Result (Unit {0}) Refusal). output_if r (hash ++ tag) output) accepted;
    }
