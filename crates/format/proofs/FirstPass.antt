-- The first pass of a file, by what is wrong with it.
use Rattle.std.proofs.Common.{◌≡◌, ℕ, ◌<◌, ◌≤◌, Bool, true, false, cond, eqb, leb, List, length, Ok, Err, Result, refl, ap, ◌∙◌, subst, inl, inr}
use Rattle.std.proofs.lemmas.Bool.{cases_lt, le-leb, lt-leb}
use Rattle.refusal.specs.Refusals.{refusal_number}
use Rattle.refusal.specs.declared.Refusal.{Refusal}
use Rattle.refusal.specs.declared.Refusal.TheVariants.{HeaderTooLong}
use Rattle.format.specs.Faults.{Predecessor, no_predecessor, blocks_of, is_size_good, predecessor_at, scan_result, header_in}
use Rattle.format.specs.Verdict.{and_then, lengths_in, first_pass}
use Rattle.format.specs.Flaws.{block_count, IsScanFault, PassesScan}
use Rattle.format.specs.declared.lengths.Lengths.{Lengths}
use Rattle.format.proofs.Results.{one_value, not_both, one_reason}
use Rattle.format.proofs.ScanFaults.{size_decides, scan_flawless, kind_before_end, scan_passes, scan_refuses, pass_or_fault, scan_fault_other}

-- what is known of a file that the first pass lets through
pub record Passed (file : List ℕ) : Type 0 where
  pub pass : PassesScan file
  pub size : is_size_good file ≡ true
  pub last : Predecessor
  pub scan : scan_result 0 no_predecessor (blocks_of file) ≡ Ok last
  pub end : last.kind ≡ 3
  pub short : length (header_in file) ≤ 65535

module _ (file : List ℕ) where
  -- the header's limit, looked at after the scan
  abbrev limited : Result Lengths Refusal → Result Lengths Refusal
  limited r = and_then r (λ lens. cond (leb lens.header 65535) (Ok lens) (Err HeaderTooLong))

  pub first_refuses : (e : Refusal) → IsScanFault file e → first_pass file ≡ Err e
  first_refuses e h = ap limited (scan_refuses file e h)

  goes_on : PassesScan file → first_pass file ≡ limited (Ok (lengths_in file))
  goes_on pass = ap limited (scan_passes file pass)

  pub too_long : PassesScan file → 65535 < length (header_in file) → first_pass file ≡ Err HeaderTooLong
  too_long pass long =
      goes_on pass
      ∙ ap (λ (t : Bool). cond t (Ok (lengths_in file)) (Err HeaderTooLong)) (lt-leb (length (header_in file)) 65535 long)

  pub first_passes : PassesScan file → length (header_in file) ≤ 65535 → first_pass file ≡ Ok (lengths_in file)
  first_passes pass short =
      goes_on pass
      ∙ ap (λ (t : Bool). cond t (Ok (lengths_in file)) (Err HeaderTooLong)) (le-leb (length (header_in file)) 65535 short)

  -- no refusal of the first pass is that of a tag
  pub other_pass : (e : Refusal) → first_pass file ≡ Err e → eqb (refusal_number e) 8 ≡ false
  other_pass e stopped =
      elim (pass_or_fault file) [
        | inr f ↦
            subst (λ (o : Refusal). eqb (refusal_number o) 8 ≡ false) (one_reason (first_refuses f.0 f.1) stopped)
            (scan_fault_other file f.0 f.1)
        | inl pass ↦ elim (cases_lt 65535 (length (header_in file))) [
          | inl long ↦ subst (λ (o : Refusal). eqb (refusal_number o) 8 ≡ false) (one_reason (too_long pass long) stopped) refl
          | inr short ↦ absurd (not_both (first_passes pass short) stopped)
        ]
      ]

  pub passed : (lens : Lengths) → first_pass file ≡ Ok lens → Passed file × (lens ≡ lengths_in file)
  passed lens accepted =
      elim (pass_or_fault file) [
        | inr f ↦ absurd (not_both accepted (first_refuses f.0 f.1))
        | inl pass ↦ elim (cases_lt 65535 (length (header_in file))) [
          | inl long ↦ absurd (not_both accepted (too_long pass long))
          | inr short ↦ (
            record {
              pass = pass;
              size = (size_decides file).1 pass.size;
              last = predecessor_at file (block_count file);
              scan = scan_flawless file pass.blocks;
              end = kind_before_end file pass.size ∙ pass.end;
              short = short;
            },
            one_value accepted (first_passes pass short),
          )
        ]
      ]
