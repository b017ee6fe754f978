-- The answer of a scan, by the flaws of a file.
use Rattle.std.proofs.Common.{◌≡◌, ℕ, zero, suc, ◌+◌, ◌-◌, ◌*◌, ◌<◌, ◌≤◌, Bool, true, false, cond, eqb, List, drop, Ok, Err, Option, Result, sym, refl, ap, ◌∙◌, subst, ◌⊎◌, inl, inr, arith}
use Rattle.std.specs.Bool.{Decides}
use Rattle.std.proofs.lemmas.List.{drop-drop}
use Rattle.std.proofs.lemmas.Bool.{cases_Bool, cases_eq, eq-eqb, ne_eqb, false_from_ne_true}
use Rattle.std.proofs.lemmas.Bool.Decides.{nat_tests, not_from_Decides}
use Rattle.std.specs.Simd.{first_chunks}
use Rattle.refusal.specs.Refusals.{refusal_number}
use Rattle.refusal.specs.declared.Refusal.{Refusal}
use Rattle.refusal.specs.declared.Refusal.TheVariants.{TagDiffers, FileSize, WrongCheck, WrongNumber, WrongForm, WrongOrder, NoEnd}
use Rattle.format.specs.Faults.{Predecessor, no_predecessor, as_predecessor, blocks_of, is_size_good, block_at, predecessor_at, refusal_or, scan_result}
use Rattle.format.specs.Verdict.{and_then, lengths_in, scan_answer}
use Rattle.format.specs.Flaws.{Flaw, check, number, form, order, HasNoFlaw, block_count, HasFileSize, IsFlawless, last_kind, IsFirstFlaw, IsScanFault, PassesScan}
use Rattle.format.specs.declared.lengths.Lengths.{Lengths}
use Rattle.format.proofs.Results.{not_both, one_reason}
use Rattle.format.proofs.BlockFlaws.{refusal_of, sound_or_flawed, block_passes, first_fault}

-- ---- block by block

-- the scan of the m blocks that follow the first k
abbrev scan_past : ℕ → ℕ → List ℕ → Result Predecessor Refusal
scan_past k m file = scan_result k (predecessor_at file k) (first_chunks 512 m (drop (512 * k) file))

-- one block with no flaw
scan_step : (k m : ℕ) (file : List ℕ) → HasNoFlaw file k → scan_past k (suc m) file ≡ scan_past (suc k) m file
scan_step k m file sound =
    let further : 512 * k + 512 ≡ 512 * suc k = omega arith in
    let rest : drop 512 (drop (512 * k) file) ≡ drop (512 * suc k) file =
    drop-drop 512 (512 * k) file ∙ ap (λ (j : ℕ). drop j file) further in
    let block : List ℕ = block_at file k in
    λ i. refusal_or (block_passes file k sound i) (scan_result (suc k) (as_predecessor block) (first_chunks 512 m (rest i)))

-- k blocks with no flaw
pub scan_from : (k m n : ℕ) (file : List ℕ) → k + m ≡ n → ((j : ℕ) → j < k → HasNoFlaw file j)
    → scan_result 0 no_predecessor (first_chunks 512 n file) ≡ scan_past k m file
scan_from zero m n file all sound =
    let same : n ≡ m = omega arith in ap (λ (j : ℕ). scan_result 0 no_predecessor (first_chunks 512 j file)) same
scan_from (suc k) m n file all sound =
    scan_from k (suc m) n file (omega arith) (λ j less. sound j (omega arith)) ∙ scan_step k m file (sound k (omega arith))

-- all blocks
pub scan_flawless : (file : List ℕ) → IsFlawless file
    → scan_result 0 no_predecessor (blocks_of file) ≡ Ok (predecessor_at file (block_count file))
unfolding blocks_of
scan_flawless file sound = scan_from (block_count file) 0 (block_count file) file (omega arith) sound

-- up to the first flaw
scan_flawed : (file : List ℕ) (k : ℕ) (flaw : Flaw) → IsFirstFlaw file k flaw
    → scan_result 0 no_predecessor (blocks_of file) ≡ Err (refusal_of flaw k)
unfolding blocks_of
scan_flawed file k flaw f =
    let within : k < block_count file = f.within in
    let m : ℕ = block_count file - suc k in
    let more : List (List ℕ) = first_chunks 512 m (drop 512 (drop (512 * k) file)) in
    scan_from k (suc m) (block_count file) file (omega arith) f.before
    ∙ ap (λ (o : Option Refusal). refusal_or o (scan_result (suc k) (as_predecessor (block_at file k)) more))
    (first_fault file k flaw f.here)

-- the first n blocks have no flaw, or one of them is the first that has
flaw_below : (n : ℕ) (file : List ℕ) → HasFileSize file → n ≤ block_count file
    → ((k : ℕ) → k < n → HasNoFlaw file k) ⊎ ((k : ℕ) × (flaw : Flaw) × IsFirstFlaw file k flaw)
flaw_below zero file size within = inl (λ k less. absurd (omega arith))
flaw_below (suc n) file size within =
    elim (flaw_below n file size (omega arith)) [
      | inr f ↦ inr f
      | inl sound ↦ elim (sound_or_flawed file n) [
        | inl here ↦ inl (λ k less. elim (cases_eq k n) [
          | inl same ↦ subst (HasNoFlaw file) (sym same) here
          | inr other ↦ sound k (omega arith)
        ])
        | inr flaw ↦ inr (n, flaw.0, record { size = size; within = omega arith; here = flaw.1; before = sound })
      ]
    ]

-- ---- the scan

pub size_decides : (file : List ℕ) → Decides (is_size_good file) (HasFileSize file)
size_decides file = (
  λ good. record {
    whole = grind (arith, nat_tests, good);
    some = grind (arith, nat_tests, good);
    few = grind (arith, nat_tests, good);
  },
  λ size. grind (arith, nat_tests, size.whole, size.some, size.few),
)

-- the last block stands before the end of the file
pub kind_before_end : (file : List ℕ) → HasFileSize file → (predecessor_at file (block_count file)).kind ≡ last_kind file
kind_before_end file size =
    let some : 1 ≤ block_count file = size.some in
    let last : block_count file ≡ suc (block_count file - 1) = omega arith in
    ap (λ (n : ℕ). (predecessor_at file n).kind) last

module _ (file : List ℕ) where
  -- the answer by whether the last block is an end block, and by what the blocks say
  abbrev ended : Bool → Result Lengths Refusal
  ended t = cond t (Ok (lengths_in file)) (Err (NoEnd (block_count file)))

  abbrev gone_through : Result Predecessor Refusal → Result Lengths Refusal
  gone_through r = and_then r (λ last. ended (eqb last.kind 3))

  of_size : (t : Bool) → is_size_good file ≡ t
      → scan_answer file ≡ cond t (gone_through (scan_result 0 no_predecessor (blocks_of file))) (Err FileSize)
  of_size t same = ap (λ (u : Bool). cond u (gone_through (scan_result 0 no_predecessor (blocks_of file))) (Err FileSize)) same

  flawless : HasFileSize file → IsFlawless file → (t : Bool) → eqb (last_kind file) 3 ≡ t → scan_answer file ≡ ended t
  flawless size sound t same =
      of_size true ((size_decides file).1 size)
      ∙ ap gone_through (scan_flawless file sound)
      ∙ ap (λ (kind : ℕ). ended (eqb kind 3)) (kind_before_end file size)
      ∙ ap ended same

  flawed : (k : ℕ) (flaw : Flaw) → IsFirstFlaw file k flaw → scan_answer file ≡ Err (refusal_of flaw k)
  flawed k flaw f = of_size true ((size_decides file).1 f.size) ∙ ap gone_through (scan_flawed file k flaw f)

  -- the scan of a file without fault
  pub scan_passes : PassesScan file → scan_answer file ≡ Ok (lengths_in file)
  scan_passes pass = flawless pass.size pass.blocks true (eq-eqb (last_kind file) 3 pass.end)

  -- and of one with this fault
  pub scan_refuses : (e : Refusal) → IsScanFault file e → scan_answer file ≡ Err e
  scan_refuses FileSize h = of_size false (false_from_ne_true (is_size_good file) (λ good. h ((size_decides file).0 good)))
  scan_refuses (WrongCheck k) h = flawed k check h
  scan_refuses (WrongNumber k) h = flawed k number h
  scan_refuses (WrongForm k) h = flawed k form h
  scan_refuses (WrongOrder k) h = flawed k order h
  scan_refuses (NoEnd n) h =
      flawless h.size h.blocks false (ne_eqb (last_kind file) 3 h.no_end)
      ∙ ap (λ (j : ℕ). Err (NoEnd j)) (sym h.counted)
  scan_refuses other h = absurd h

  named_first : (k : ℕ) (flaw : Flaw) → IsFirstFlaw file k flaw → IsScanFault file (refusal_of flaw k)
  named_first k check f = f
  named_first k number f = f
  named_first k form f = f
  named_first k order f = f

  -- every file passes the scan, or has a fault
  pub pass_or_fault : PassesScan file ⊎ ((e : Refusal) × IsScanFault file e)
  pass_or_fault =
      elim (cases_Bool (is_size_good file)) [
        | inr bad ↦ inr (FileSize, not_from_Decides (is_size_good file) (size_decides file) bad)
        | inl good ↦
            let size : HasFileSize file = (size_decides file).0 good in
            elim (flaw_below (block_count file) file size (omega arith)) [
              | inr f ↦ inr (refusal_of f.1 f.0, named_first f.0 f.1 f.2)
              | inl sound ↦ elim (cases_eq (last_kind file) 3) [
                | inl end ↦ inl (record { size = size; blocks = sound; end = end })
                | inr other ↦ inr (NoEnd (block_count file), record { size = size; blocks = sound; no_end = other; counted = refl })
              ]
            ]
      ]

  -- so the answer of the scan tells which
  pub scan_fault : (e : Refusal) → scan_answer file ≡ Err e → IsScanFault file e
  scan_fault e refused =
      elim pass_or_fault [
        | inl pass ↦ absurd (not_both (scan_passes pass) refused)
        | inr f ↦ subst (IsScanFault file) (one_reason (scan_refuses f.0 f.1) refused) f.1
      ]

-- no fault that the scan finds is that of a tag
pub scan_fault_other : (file : List ℕ) (e : Refusal) → IsScanFault file e → eqb (refusal_number e) 8 ≡ false
scan_fault_other file TagDiffers h = absurd h
scan_fault_other file other h = refl
