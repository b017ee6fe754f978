-- The blocks of a scan without fault stand in the order of their kinds.
use Rattle.std.proofs.Common.{◌≡◌, ℕ, suc, ◌<◌, ◌≤◌, Bool, true, false, cond, eqb, List, [], ◌∷◌, ◌++◌, map, length, take, drop, Ok, sym, refl, ap, ◌∙◌, inl, inr, arith, length-append, append-nil}
use Rattle.std.proofs.lemmas.Bool.{cases_lt, cond-true, cond-false, eq-eqb, ne_eqb}
use Rattle.std.proofs.lemmas.Bool.Decides.{nat_tests}
use Rattle.std.proofs.lemmas.List.{take_at, drop_at}
use Rattle.std.specs.List.{concat}
use Rattle.format.specs.Faults.{Predecessor, no_predecessor, as_predecessor, kind_in, used_length_in, data_in, is_order_good, fault_of, scan_result, data_of, blocks_of_kind}
use Rattle.format.proofs.BlockFields.{form_parts}
use Rattle.format.proofs.Scans.{faultless, went_on}
use Rattle.format.proofs.Sequences.{not_past_end}
use Rattle.reading.specs.Scanning.{IsScanOf}
use Rattle.reading.specs.Shapes.{predecessor_of}
use Rattle.reading.specs.declared.scan.Scan.{Scan}
use Rattle.reading.proofs.Places.{used_of_end}

order_kept : (p : Predecessor) (kind : ℕ) → is_order_good p kind ≡ true → p.kind ≤ kind
order_kept p kind good = grind (arith, nat_tests)

-- after a block of a later kind stands none of an earlier
none_later : (kind k : ℕ) (p q : Predecessor) (bs : List (List ℕ)) → scan_result k p bs ≡ Ok q → kind < p.kind
    → blocks_of_kind kind bs ≡ []
none_later kind k p q [] done less = refl
none_later kind k p q (b ∷ bs) done less =
    let on = went_on (fault_of k p b) (scan_result (suc k) (as_predecessor b) bs) q done in
    let order = order_kept p (kind_in b) (faultless k p b on.0).order in
    let other : eqb (kind_in b) kind ≡ false = ne_eqb (kind_in b) kind (λ same. omega (arith, same, less, order)) in
    cond-false _ (b ∷ blocks_of_kind kind bs) (blocks_of_kind kind bs) other
    ∙ none_later kind (suc k) (as_predecessor b) q bs on.1 (omega (arith, less, order))

-- after an end block stands none
none_after_end : (k : ℕ) (p q : Predecessor) (bs : List (List ℕ)) → scan_result k p bs ≡ Ok q → p.kind ≡ 3 → bs ≡ []
none_after_end k p q [] done end = refl
none_after_end k p q (b ∷ bs) done end =
    let on = went_on (fault_of k p b) (scan_result (suc k) (as_predecessor b) bs) q done in
    absurd (not_past_end p (kind_in b) (faultless k p b on.0).order end)

-- a block in front of others, where a test holds
abbrev put : Bool → List ℕ → List (List ℕ) → List (List ℕ)
put is b bs = cond is (b ∷ bs) bs

-- header blocks, body blocks, end block
pub in_order : (k : ℕ) (p q : Predecessor) (bs : List (List ℕ)) → scan_result k p bs ≡ Ok q
    → bs ≡ blocks_of_kind 1 bs ++ (blocks_of_kind 2 bs ++ blocks_of_kind 3 bs)
in_order k p q [] done = refl
in_order k p q (b ∷ bs) done =
    let on = went_on (fault_of k p b) (scan_result (suc k) (as_predecessor b) bs) q done in
    let form = (faultless k p b on.0).form in
    let least = (form_parts b form).low in
    let most = (form_parts b form).high in
    let headers = blocks_of_kind 1 bs in
    let bodies = blocks_of_kind 2 bs in
    let ends = blocks_of_kind 3 bs in
    let later : bs ≡ headers ++ (bodies ++ ends) = in_order (suc k) (as_predecessor b) q bs on.1 in
    elim (cases_lt (kind_in b) 2) [
      | inl header ↦
          let is : eqb (kind_in b) 1 ≡ true = eq-eqb (kind_in b) 1 (omega (arith, header, least)) in
          let no_body : eqb (kind_in b) 2 ≡ false = ne_eqb (kind_in b) 2 (λ same. omega (arith, same, header)) in
          let no_end : eqb (kind_in b) 3 ≡ false = ne_eqb (kind_in b) 3 (λ same. omega (arith, same, header)) in
          ap (λ (xs : List (List ℕ)). b ∷ xs) later
          ∙ sym (λ i. put (is i) b headers ++ (put (no_body i) b bodies ++ put (no_end i) b ends))
      | inr past_header ↦
          let no_header : eqb (kind_in b) 1 ≡ false = ne_eqb (kind_in b) 1 (λ same. omega (arith, same, past_header)) in
          let no_headers : headers ≡ [] = none_later 1 (suc k) (as_predecessor b) q bs on.1 (omega (arith, past_header)) in
          elim (cases_lt (kind_in b) 3) [
            | inl body ↦
                let is : eqb (kind_in b) 2 ≡ true = eq-eqb (kind_in b) 2 (omega (arith, past_header, body)) in
                let no_end : eqb (kind_in b) 3 ≡ false = ne_eqb (kind_in b) 3 (λ same. omega (arith, same, body)) in
                ap (λ (xs : List (List ℕ)). b ∷ xs) (later ∙ ap (λ (xs : List (List ℕ)). xs ++ (bodies ++ ends)) no_headers)
                ∙ sym
                ((λ i. put (no_header i) b headers ++ (put (is i) b bodies ++ put (no_end i) b ends))
                ∙ ap (λ (xs : List (List ℕ)). xs ++ ((b ∷ bodies) ++ ends)) no_headers)
            | inr past_body ↦
                let is : eqb (kind_in b) 3 ≡ true = eq-eqb (kind_in b) 3 (omega (arith, past_body, most)) in
                let no_body : eqb (kind_in b) 2 ≡ false = ne_eqb (kind_in b) 2 (λ same. omega (arith, same, past_body)) in
                let no_bodies : bodies ≡ [] = none_later 2 (suc k) (as_predecessor b) q bs on.1 (omega (arith, past_body)) in
                ap (λ (xs : List (List ℕ)). b ∷ xs) (later ∙ (λ i. no_headers i ++ (no_bodies i ++ ends)))
                ∙ sym
                ((λ i. put (no_header i) b headers ++ (put (no_body i) b bodies ++ put (is i) b ends))
                ∙ (λ i. no_headers i ++ (no_bodies i ++ (b ∷ ends))))
          ]
    ]

-- the one end block, where the last block is one
pub one_end : (k : ℕ) (p q : Predecessor) (bs : List (List ℕ)) → scan_result k p bs ≡ Ok q → q.kind ≡ 3 → (p.kind ≡ 3 → ⊥)
    → (e : List ℕ) × (blocks_of_kind 3 bs ≡ e ∷ []) × (used_length_in e ≡ 16)
one_end k p q [] done end other =
    let same : p ≡ q = cc in
    absurd (other (ap (λ (r : Predecessor). r.kind) same ∙ end))
one_end k p q (b ∷ bs) done end other =
    let on = went_on (fault_of k p b) (scan_result (suc k) (as_predecessor b) bs) q done in
    let form = (faultless k p b on.0).form in
    elim (cases_lt (kind_in b) 3) [
      | inl before ↦
          let no_end : eqb (kind_in b) 3 ≡ false = ne_eqb (kind_in b) 3 (λ same. omega (arith, same, before)) in
          let later = one_end (suc k) (as_predecessor b) q bs on.1 end (λ same. omega (arith, same, before)) in
          (later.0, cond-false _ (b ∷ blocks_of_kind 3 bs) (blocks_of_kind 3 bs) no_end ∙ later.1, later.2)
      | inr here ↦
          let kind : kind_in b ≡ 3 = omega (arith, here, (form_parts b form).high) in
          let none : bs ≡ [] = none_after_end (suc k) (as_predecessor b) q bs on.1 kind in (
            b,
            cond-true _ (b ∷ blocks_of_kind 3 bs) (blocks_of_kind 3 bs) (eq-eqb (kind_in b) 3 kind)
                ∙ ap (λ (xs : List (List ℕ)). b ∷ blocks_of_kind 3 xs) none,
            used_of_end b form kind,
          )
    ]

-- blocks without fault that end with an end block, cut after the blocks of the header and after those of the body
module _ (bs : List (List ℕ)) (s : Scan) (is : IsScanOf bs s) (end : (predecessor_of s.last).kind ≡ 3) where
  abbrev headers : ℕ
  headers = s.header.blocks

  abbrev bodies : ℕ
  bodies = s.body.blocks

  abbrev later : List (List ℕ)
  later = blocks_of_kind 2 bs ++ blocks_of_kind 3 bs

  ordered : bs ≡ blocks_of_kind 1 bs ++ later
  ordered = in_order 0 no_predecessor (predecessor_of s.last) bs is.sound

  pub header_cut : take headers bs ≡ blocks_of_kind 1 bs
  header_cut = ap (take headers) ordered ∙ take_at (blocks_of_kind 1 bs) later headers (sym is.header.blocks)

  after_header : drop headers bs ≡ later
  after_header = ap (drop headers) ordered ∙ drop_at (blocks_of_kind 1 bs) later headers (sym is.header.blocks)

  pub body_cut : take bodies (drop headers bs) ≡ blocks_of_kind 2 bs
  body_cut =
      ap (take bodies) after_header ∙ take_at (blocks_of_kind 2 bs) (blocks_of_kind 3 bs) bodies (sym is.body.blocks)

  end_cut : drop bodies (drop headers bs) ≡ blocks_of_kind 3 bs
  end_cut =
      ap (drop bodies) after_header ∙ drop_at (blocks_of_kind 2 bs) (blocks_of_kind 3 bs) bodies (sym is.body.blocks)

  pub header_within : headers ≤ length bs
  header_within = omega (arith, is.header.blocks, ap length ordered, length-append (blocks_of_kind 1 bs) later)

  pub body_within : bodies ≤ length (drop headers bs)
  body_within =
      omega (arith, is.body.blocks, ap length after_header, length-append (blocks_of_kind 2 bs) (blocks_of_kind 3 bs))

  -- the end block: it alone is left after both parts, and its data are the tag
  pub record IsEnd (e : List ℕ) : Type 0 where
    pub left : drop bodies (drop headers bs) ≡ e ∷ []
    pub tag : data_of 3 bs ≡ data_in e
    pub used : used_length_in e ≡ 16

  pub last_end : (e : List ℕ) × IsEnd e
  last_end =
      let one = one_end 0 no_predecessor (predecessor_of s.last) bs is.sound end (λ none. omega (arith, none)) in (
        one.0,
        record {
          left = end_cut ∙ one.1;
          tag = ap (λ (xs : List (List ℕ)). concat (map data_in xs)) one.1 ∙ append-nil (data_in one.0);
          used = one.2;
        },
      )
