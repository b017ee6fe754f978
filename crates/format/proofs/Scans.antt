-- A scan without fault, and the contents of its blocks.
use Rattle.std.proofs.Common.{◌≡◌, ℕ, zero, suc, ◌+◌, ◌*◌, ◌/◌, ◌<◌, ◌≤◌, Bool, true, false, cond, eqb, List, [], ◌∷◌, ◌++◌, map, length, take, drop, Some, None, Ok, Option, Result, sym, refl, ap, ◌∙◌, subst, ap₂, arith, length-append, length-drop, take-append-drop}
use Rattle.std.proofs.lemmas.List.{take_at, drop_at, length-take-le, nil_from_length}
use Rattle.std.proofs.lemmas.Bool.{cond_both}
use Rattle.std.proofs.lemmas.Bool.Decides.{nat_tests}
use Rattle.std.specs.List.{concat}
use Rattle.std.specs.Simd.{first_chunks}
use Rattle.message.specs.Blocks.{AreBytes}
use Rattle.message.proofs.StandardHash.{small_append, small_take, small_drop}
use Rattle.refusal.specs.declared.Refusal.{Refusal}
use Rattle.format.specs.Layout.{Content, check_of, block_bytes, blocks_from, numbered_blocks}
use Rattle.format.specs.Faults.{Predecessor, as_predecessor, number_in, kind_in, used_length_in, data_in, stored_check, is_form_good, is_order_good, fault_of, refusal_or, blocks_of, scan_result, blocks_of_kind, data_of}
use Rattle.format.proofs.BlockFields.{Fit, content_of, content_fits, block_again, kind_numbered, number_numbered, used_numbered, front_numbered, check_numbered, form_numbered, length_numbered, content_numbered}
use Rattle.format.proofs.Sequences.{shown, Follows, part_of}

-- ---- a block without fault

pub record Faultless (k : ℕ) (p : Predecessor) (b : List ℕ) : Type 0 where
  pub check : stored_check b ≡ check_of (take 508 b)
  pub number : number_in b ≡ k
  pub form : is_form_good b ≡ true
  pub order : is_order_good p (kind_in b) ≡ true

-- no fault: every test was passed
pub faultless : (k : ℕ) (p : Predecessor) (b : List ℕ) → fault_of k p b ≡ None → Faultless k p b
faultless k p b e = record {
  check = grind (arith, nat_tests);
  number = grind (arith, nat_tests);
  form = grind (arith, nat_tests);
  order = grind (arith, nat_tests);
}

-- ---- what a scan without fault says of the blocks

-- a scan that ends well met no fault and went on
pub went_on : {T : Type 0} (o : Option Refusal) (r : Result T Refusal) (x : T) → refusal_or o r ≡ Ok x → (o ≡ None) × (r ≡ Ok x)
went_on None r x e = (refl, e)
went_on (Some y) r x e = let z : ◌≡◌ {A = ℕ} 0 1 = cc in absurd (omega arith)

-- the bytes are laid out from the contents that the blocks say, and these are in order
pub scan_numbered : (m k : ℕ) (p last : Predecessor) (file : List ℕ) → length file ≡ 512 * m → AreBytes file
    → scan_result k p (first_chunks 512 m file) ≡ Ok last → last.kind ≡ 3
    → (file ≡ numbered_blocks k (map content_of (first_chunks 512 m file))) × Follows p (map content_of (first_chunks 512 m file))
scan_numbered zero k p last file long small e end =
    let same : p ≡ last = cc in
    (nil_from_length file (omega arith), ap (λ (q : Predecessor). q.kind) same ∙ end)
scan_numbered (suc m) k p last file long small e end =
    let b : List ℕ = take 512 file in
    let more : List ℕ = drop 512 file in
    let on = went_on (fault_of k p b) (scan_result (suc k) (as_predecessor b) (first_chunks 512 m more)) last e in
    let good : Faultless k p b = faultless k p b on.0 in
    let wide : length b ≡ 512 = length-take-le 512 file (omega arith) in
    let left : length more ≡ 512 * m = simp length-drop (omega arith) in
    let fits = content_fits b wide good.form in
    let rest = scan_numbered m (suc k) (as_predecessor b) last more left (small_drop 512 file small) on.1 end in
    let here : b ≡ block_bytes k (content_of b) =
    block_again b wide (small_take 512 file small) good.form good.check
    ∙ ap (λ (n : ℕ). block_bytes n (content_of b)) good.number in
    let before : as_predecessor b ≡ shown (content_of b) = ap (λ (u : ℕ). record { kind = kind_in b; used = u }) (sym fits.0) in (
      sym (take-append-drop 512 file) ∙ ap₂ (λ (xs ys : List ℕ). xs ++ ys) here rest.0,
      record {
        fit = fits.1;
        order = good.order;
        rest = subst (λ (q : Predecessor). Follows q (map content_of (first_chunks 512 m more))) before rest.1;
      },
    )

-- ---- blocks that are laid out

pub length_numbered_all : (k : ℕ) (p : Predecessor) (cs : List Content) → Follows p cs
    → length (numbered_blocks k cs) ≡ 512 * length cs
length_numbered_all k p [] f = refl
length_numbered_all k p (c ∷ cs) f =
    let here : length (block_bytes k c) ≡ 512 = length_numbered k c f.fit in
    let more : length (numbered_blocks (suc k) cs) ≡ 512 * length cs = length_numbered_all (suc k) (shown c) cs f.rest in
    length-append (block_bytes k c) (numbered_blocks (suc k) cs) ∙ omega arith

-- cut at 512 bytes, they are the blocks again
pub laid_chunks : (k : ℕ) (p : Predecessor) (cs : List Content) → Follows p cs
    → first_chunks 512 (length cs) (numbered_blocks k cs) ≡ blocks_from k cs
laid_chunks k p [] f = refl
laid_chunks k p (c ∷ cs) f =
    let wide : length (block_bytes k c) ≡ 512 = length_numbered k c f.fit in
    ap₂ (λ (b : List ℕ) (bs : List (List ℕ)). b ∷ bs)
    (take_at (block_bytes k c) (numbered_blocks (suc k) cs) 512 wide)
    (ap (first_chunks 512 (length cs)) (drop_at (block_bytes k c) (numbered_blocks (suc k) cs) 512 wide)
    ∙ laid_chunks (suc k) (shown c) cs f.rest)

-- they say the contents that they carry
pub laid_contents : (k : ℕ) (p : Predecessor) (cs : List Content) → Follows p cs → map content_of (blocks_from k cs) ≡ cs
laid_contents k p [] f = refl
laid_contents k p (c ∷ cs) f =
    ap₂ (λ (d : Content) (ds : List Content). d ∷ ds) (content_numbered k c f.fit) (laid_contents (suc k) (shown c) cs f.rest)

-- a block laid out in its place has no fault
numbered_no_fault : (k : ℕ) (p : Predecessor) (c : Content) → Fit c → is_order_good p c.kind ≡ true → k < 65536
    → fault_of k p (block_bytes k c) ≡ None
numbered_no_fault k p c fit order below =
    let right : stored_check (block_bytes k c) ≡ check_of (take 508 (block_bytes k c)) =
    check_numbered k c fit ∙ sym (ap check_of (front_numbered k c fit)) in
    grind (arith, nat_tests, right, number_numbered k c below, form_numbered k c fit, kind_numbered k c, order)

-- a scan of contents in order meets no fault and ends at an end block
pub laid_scan : (k : ℕ) (p : Predecessor) (cs : List Content) → Follows p cs → k + length cs ≤ 65536
    → (last : Predecessor) × (scan_result k p (blocks_from k cs) ≡ Ok last) × (last.kind ≡ 3)
laid_scan k p [] f limit = (p, refl, f)
laid_scan k p (c ∷ cs) f limit =
    let rest = laid_scan (suc k) (shown c) cs f.rest (omega arith) in
    let none : fault_of k p (block_bytes k c) ≡ None = numbered_no_fault k p c f.fit f.order (omega arith) in
    let before : as_predecessor (block_bytes k c) ≡ shown c =
    λ i. record { kind = kind_numbered k c i; used = used_numbered k c f.fit i } in (
      rest.0,
      (λ i. refusal_or (none i) (scan_result (suc k) (before i) (blocks_from (suc k) cs))) ∙ rest.1,
      rest.2,
    )

-- ---- the data of a kind

-- one block more
pub data_cons : (kind : ℕ) (b : List ℕ) (bs : List (List ℕ))
    → data_of kind (b ∷ bs) ≡ cond (eqb (kind_in b) kind) (data_in b ++ data_of kind bs) (data_of kind bs)
data_cons kind b bs = by_kind (eqb (kind_in b) kind) where
  by_kind : (is : Bool)
      → concat (map data_in (cond is (b ∷ blocks_of_kind kind bs) (blocks_of_kind kind bs)))
      ≡ cond is (data_in b ++ data_of kind bs) (data_of kind bs)
  by_kind true = refl
  by_kind false = refl

-- of blocks, and of the contents that they say
pub data_part : (kind : ℕ) (bs : List (List ℕ)) → data_of kind bs ≡ part_of kind (map content_of bs)
data_part kind [] = refl
data_part kind (b ∷ bs) =
    data_cons kind b bs ∙ ap (λ (xs : List ℕ). cond (eqb (kind_in b) kind) (data_in b ++ xs) xs) (data_part kind bs)

data_small : (kind m : ℕ) (file : List ℕ) → AreBytes file → AreBytes (data_of kind (first_chunks 512 m file))
data_small kind zero file small = λ k. omega arith
data_small kind (suc m) file small =
    let b : List ℕ = take 512 file in
    let bs : List (List ℕ) = first_chunks 512 m (drop 512 file) in
    let more : AreBytes (data_of kind bs) = data_small kind m (drop 512 file) (small_drop 512 file small) in
    let here : AreBytes (data_in b) = small_take (used_length_in b) (drop 6 b) (small_drop 6 b (small_take 512 file small)) in
    subst AreBytes (sym (data_cons kind b bs))
    (cond_both (eqb (kind_in b) kind) (data_in b ++ data_of kind bs) (data_of kind bs) AreBytes
    (λ e. small_append (data_in b) (data_of kind bs) here more) (λ e. more))

-- what is read out of a file of bytes are bytes
pub read_small : (kind : ℕ) (file : List ℕ) → AreBytes file → AreBytes (data_of kind (blocks_of file))
unfolding blocks_of
read_small kind file small = data_small kind (length file / 512) file small
