-- The verdict on a file, by what is wrong with it.
use Rattle.std.proofs.Common.{◌≡◌, ℕ, ◌≤◌, Bool, true, false, cond, eqb, List, length, Ok, Err, Result, sym, refl, ap, ◌∙◌, subst, inl, inr, mod-eq_of_lt, lit<}
use Rattle.std.specs.Prelude.{IfErr}
use Rattle.std.proofs.lemmas.Bool.{cases_Bool, cases_lt, eq-eqb, false_from_ne_true, true≢false}
use Rattle.field.specs.Bytes.{bytes_of}
use Rattle.field.specs.Digits.{numeral}
use Rattle.field.specs.declared.block.Block.{Block}
use Rattle.field.proofs.Digits.{numeral_digits}
use Rattle.message.specs.Blocks.{AreBytes}
use Rattle.message.specs.Hash.{tag_of}
use Rattle.message.specs.declared.digest.Pad.{Pad}
use Rattle.refusal.specs.declared.Refusal.{Refusal}
use Rattle.refusal.specs.declared.Refusal.TheVariants.{HeaderTooLong, TagDiffers}
use Rattle.format.specs.Faults.{header_in, body_in, tag_in}
use Rattle.format.specs.Verdict.{and_then, lengths_in, first_pass, tag_verdict, verdict, Exact}
use Rattle.format.specs.Flaws.{IsScanFault, PassesScan, IsFault}
use Rattle.format.specs.declared.lengths.Lengths.{Lengths}
use Rattle.format.proofs.Results.{not_both, one_reason, if_refusal}
use Rattle.format.proofs.FirstPass.{first_refuses, too_long, first_passes}
use Rattle.format.proofs.Laws.{sealed_tag, accepted_sealed, seal_accepted}
use Rattle.format.proofs.ScanFaults.{pass_or_fault}

module _ (subkey : Block) (pad : Pad) (file : List ℕ) where
  abbrev tag : Block
  tag = (tag_of subkey pad (header_in file) (body_in file)).0

  abbrev is_tag_same : Bool
  is_tag_same = eqb (numeral 256 (tag_in file)) tag.bits

  stopped : (e : Refusal) → first_pass file ≡ Err e → verdict subkey pad file ≡ Err e
  stopped e stop = ap (λ (r : Result Lengths Refusal). and_then r (λ _. tag_verdict subkey pad file)) stop

  tag_looked_at : PassesScan file → length (header_in file) ≤ 65535 → (t : Bool) → is_tag_same ≡ t
      → verdict subkey pad file ≡ cond t (Ok (lengths_in file)) (Err TagDiffers)
  tag_looked_at pass short t same =
      ap (λ (r : Result Lengths Refusal). and_then r (λ _. tag_verdict subkey pad file)) (first_passes file pass short)
      ∙ ap (λ (u : Bool). cond u (Ok (lengths_in file)) (Err TagDiffers)) same

  -- the file holds the tag of what is read out of it, and a tag that it holds reads as that one
  abbrev HoldsTag : Type 0
  HoldsTag = tag_in file ≡ bytes_of tag

  same_tag : HoldsTag → is_tag_same ≡ true
  same_tag holds =
      eq-eqb (numeral 256 (tag_in file)) tag.bits (ap (numeral 256) holds ∙ numeral_digits 256 (lit< tt) 16 tag.bits
      ∙ mod-eq_of_lt tag.fits)

  of_scan : (e : Refusal) → IsScanFault file e → IsFault subkey pad file e
  of_scan HeaderTooLong h = absurd h
  of_scan TagDiffers h = absurd h
  of_scan other h = h

  -- a refused file has the fault that it is refused for
  pub verdict_fault : (e : Refusal) → verdict subkey pad file ≡ Err e → IsFault subkey pad file e
  verdict_fault e refused =
      elim (pass_or_fault file) [
        | inr f ↦ subst (IsFault subkey pad file) (one_reason (stopped f.0 (first_refuses file f.0 f.1)) refused) (of_scan f.0 f.1)
        | inl pass ↦ elim (cases_lt 65535 (length (header_in file))) [
          | inl long ↦
              subst (IsFault subkey pad file) (one_reason (stopped HeaderTooLong (too_long file pass long)) refused)
              (record { scan = pass; long = long })
          | inr short ↦ elim (cases_Bool is_tag_same) [
            | inl same ↦ absurd (not_both (tag_looked_at pass short true same) refused)
            | inr differs ↦
                subst (IsFault subkey pad file) (one_reason (tag_looked_at pass short false differs) refused)
                (record { scan = pass; short = short; other = λ holds. true≢false (sym (same_tag holds) ∙ differs) })
          ]
        ]
      ]

  -- as a clause says it of an answer
  pub explained : IfErr (verdict subkey pad file) (IsFault subkey pad file)
  explained = if_refusal (verdict subkey pad file) (IsFault subkey pad file) verdict_fault

  module _ (small : AreBytes file) where
    -- in a file of bytes a tag that reads as this one is this one
    holds_tag : PassesScan file → length (header_in file) ≤ 65535 → is_tag_same ≡ true → HoldsTag
    holds_tag pass short same =
        ap tag_in (accepted_sealed subkey pad file (lengths_in file) small (tag_looked_at pass short true same))
        ∙ sealed_tag subkey pad (header_in file) (body_in file)

    -- a file of bytes is refused for each fault that it has
    pub verdict_refuses : (e : Refusal) → IsFault subkey pad file e → verdict subkey pad file ≡ Err e
    verdict_refuses HeaderTooLong h = stopped HeaderTooLong (too_long file h.scan h.long)
    verdict_refuses TagDiffers h =
        tag_looked_at h.scan h.short false (false_from_ne_true is_tag_same (λ same. h.other (holds_tag h.scan h.short same)))
    verdict_refuses other h = stopped other (first_refuses file other h)

    -- so it has one at most
    pub one_fault : (e f : Refusal) → IsFault subkey pad file e → IsFault subkey pad file f → e ≡ f
    one_fault e f this that = one_reason (verdict_refuses e this) (verdict_refuses f that)

    -- Exact and IsFault together leave one answer
    pub fixed : (answer : Result Lengths Refusal) → Exact subkey pad file answer
        → IfErr answer (IsFault subkey pad file) → answer ≡ verdict subkey pad file
    fixed (Ok lens) law known =
        ap (λ (l : Lengths). Ok l) law.lengths
        ∙ sym (seal_accepted subkey pad file small (header_in file) (body_in file) (law.exactly.0 refl))
    fixed (Err e) law known = sym (verdict_refuses e known)
