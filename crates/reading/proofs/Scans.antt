-- The blocks of a file, one after another.
use Rattle.std.proofs.Common.{◌≡◌, ℕ, zero, suc, ◌+◌, ◌-◌, ◌*◌, ◌/◌, ◌<◌, ◌≤◌, true, cond, eqb, List, [], ◌∷◌, ◌++◌, map, length, get_or, take, drop, take-append-drop, add-one, Some, None, Err, sym, subst, ap, ◌∙◌, append-nil, zero-add, arith, length-append}
use Rattle.std.proofs.lemmas.Bool.Decides.{nat_tests}
use Rattle.std.proofs.lemmas.List.{drop-drop, drop_more, take_all, take_more, take_rest, length-drop, length-take, length-take-le}
use Rattle.std.proofs.lemmas.List.{map-append}
use Rattle.std.proofs.lemmas.List.Elements.{filter-append}
use Rattle.std.proofs.lemmas.List.Folds.{concat-append}
use Rattle.std.specs.List.{concat}
use Rattle.std.specs.Simd.{first_chunks}
use Rattle.refusal.specs.declared.Refusal.{Refusal}
use Rattle.format.specs.Faults.{Predecessor, as_predecessor, kind_in, used_length_in, data_in, is_size_good, block_at, blocks_of, refusal_or, fault_of, scan_result, blocks_of_kind, data_of}
use Rattle.format.proofs.Scans.{data_cons as block_data_cons}
use Rattle.reading.proofs.Places.{sized}

-- ---- blocks, cut off one after another

pub first_chunks-split : (n k : ℕ) (file : List ℕ)
    → first_chunks 512 (n + k) file ≡ first_chunks 512 n file ++ first_chunks 512 k (drop (512 * n) file)
first_chunks-split zero k file = ap (λ (j : ℕ). first_chunks 512 j file) (zero-add k)
first_chunks-split (suc n) k file =
    let e : suc n + k ≡ suc (n + k) = omega arith in
    let further : 512 + 512 * n ≡ 512 * suc n = omega arith in
    ap (λ (j : ℕ). first_chunks 512 j file) e
    ∙ ap (λ bs. take 512 file ∷ bs)
    (first_chunks-split n k (drop 512 file)
    ∙ ap (λ (xs : List ℕ). first_chunks 512 n (drop 512 file) ++ first_chunks 512 k xs) (drop-drop (512 * n) 512 file
    ∙ ap (λ (j : ℕ). drop j file) further))

-- the chunks of a file are its blocks
pub chunks_are : (file : List ℕ) (bs : List (List ℕ)) → bs ≡ first_chunks 512 (length file / 512) file → bs ≡ blocks_of file
unfolding blocks_of
chunks_are file bs cut = cut

-- ---- data

-- the data of a block of this kind, and none of another
abbrev pub data_of_kind : ℕ → List ℕ → List ℕ
data_of_kind kind b = cond (eqb (kind_in b) kind) (data_in b) []

data_cons : (kind : ℕ) (b : List ℕ) (bs : List (List ℕ)) → data_of kind (b ∷ bs) ≡ data_of_kind kind b ++ data_of kind bs
data_cons kind b bs = grind (arith, nat_tests, block_data_cons kind b bs)

pub data_append : (kind : ℕ) (cs bs : List (List ℕ)) → data_of kind (cs ++ bs) ≡ data_of kind cs ++ data_of kind bs
data_append kind cs bs =
    ap (λ (ds : List (List ℕ)). concat (map data_in ds)) (filter-append (λ b. eqb (kind_in b) kind) cs bs)
    ∙ ap concat (map-append data_in (blocks_of_kind kind cs) (blocks_of_kind kind bs))
    ∙ concat-append (map data_in (blocks_of_kind kind cs)) (map data_in (blocks_of_kind kind bs))

-- one block more
pub data_on : (kind k : ℕ) (bs : List (List ℕ)) (d : List ℕ) → k < length bs
    → data_of kind (take (k + 1) bs) ≡ data_of kind (take k bs) ++ data_of_kind kind (get_or bs k d)
data_on kind k bs d less =
    ap (data_of kind) (take_more bs k d less) ∙ data_append kind (take k bs) (get_or bs k d ∷ [])
    ∙ ap (λ (xs : List ℕ). data_of kind (take k bs) ++ xs) (data_cons kind (get_or bs k d) []
    ∙ append-nil (data_of_kind kind (get_or bs k d)))

-- what is read by block k is part of what is read in the end
pub data_upto : (kind k : ℕ) (bs : List (List ℕ)) → length (data_of kind (take k bs)) ≤ length (data_of kind bs)
data_upto kind k bs =
    let both =
    ap (λ cs. length (data_of kind cs)) (sym (take-append-drop k bs))
    ∙ ap length (data_append kind (take k bs) (drop k bs)) ∙ length-append (data_of kind (take k bs)) (data_of kind (drop k bs)) in
    omega (arith, both)

pub data_more : (kind k : ℕ) (file : List ℕ)
    → data_of kind (first_chunks 512 (k + 1) file) ≡ data_of kind (first_chunks 512 k file) ++ data_of_kind kind (block_at file k)
data_more kind k file =
    ap (data_of kind) (first_chunks-split k 1 file) ∙ data_append kind (first_chunks 512 k file) (block_at file k ∷ [])
    ∙ ap (λ (xs : List ℕ). data_of kind (first_chunks 512 k file) ++ xs) (data_cons kind (block_at file k) []
    ∙ append-nil (data_of_kind kind (block_at file k)))

pub data_length : (kind : ℕ) (b : List ℕ) → length b ≡ 512 → used_length_in b ≤ 502
    → length (data_of_kind kind b) ≡ cond (eqb (kind_in b) kind) (used_length_in b) 0
data_length kind b whole within =
    let long : length (data_in b) ≡ used_length_in b =
    length-take-le (used_length_in b) (drop 6 b) (omega (arith, length-drop 6 b, whole, within)) in
    grind (arith, nat_tests, long)

data_short : (kind : ℕ) (xs : List ℕ) → length (data_of_kind kind (take 512 xs)) ≤ 512
data_short kind xs =
    let b : List ℕ = take 512 xs in
    grind (arith, nat_tests, length-take (used_length_in b) (drop 6 b), length-drop 6 b, length-take 512 xs)

pub data_within : (kind n : ℕ) (file : List ℕ) → length (data_of kind (first_chunks 512 n file)) ≤ 512 * n
data_within kind zero file = omega arith
data_within kind (suc n) file =
    let both =
    ap length (data_cons kind (take 512 file) (first_chunks 512 n (drop 512 file)))
    ∙ length-append (data_of_kind kind (take 512 file)) (data_of kind (first_chunks 512 n (drop 512 file))) in
    omega (arith, both, data_short kind file, data_within kind n (drop 512 file))

-- blocks of 512 bytes
abbrev pub AllWhole : List (List ℕ) → Type 0
AllWhole bs = (k : ℕ) → k < length bs → length (get_or bs k []) ≡ 512

-- blocks have no more data than bytes
pub data_room : (kind : ℕ) (bs : List (List ℕ)) → AllWhole bs → length (data_of kind bs) ≤ 512 * length bs
data_room kind [] whole = omega arith
data_room kind (b ∷ bs) whole =
    let size : length b ≡ 512 = whole 0 (omega arith) in
    let here : length (data_of_kind kind b) ≤ 512 =
    subst (λ (c : List ℕ). length (data_of_kind kind c) ≤ 512) (take_all 512 b (omega (arith, size))) (data_short kind b) in
    let both = ap length (data_cons kind b bs) ∙ length-append (data_of_kind kind b) (data_of kind bs) in
    omega (arith, both, here, data_room kind bs (λ k less. whole (suc k) (omega (arith, less))))

-- all data is within the file
pub data_in_file : (kind : ℕ) (file : List ℕ) → length (data_of kind (blocks_of file)) ≤ length file
unfolding blocks_of
data_in_file kind file = omega (arith, data_within kind (length file / 512) file)

pub chunks_at_end : (k : ℕ) (file : List ℕ) → k ≡ length file / 512 → first_chunks 512 k file ≡ blocks_of file
unfolding blocks_of
chunks_at_end k file end = ap (λ (j : ℕ). first_chunks 512 j file) end

-- where fewer bytes than a block are left of a whole file, none are, and all its blocks are read
pub all_blocks_read : (k : ℕ) (file : List ℕ) → true ≡ is_size_good file → 512 * k ≤ length file
    → length (take (length file - 512 * k) (drop (512 * k) file)) < 512 → first_chunks 512 k file ≡ blocks_of file
all_blocks_read k file good within short =
    let size = sized file (sym good) in
    let left = ap length (take_rest file (512 * k)) ∙ length-drop (512 * k) file in
    let all : 512 * k ≡ length file = omega (arith, size.whole, within, left, short) in
    chunks_at_end k file (omega (arith, all))

-- ---- scanning

pub scan_on : (k : ℕ) (p : Predecessor) (b : List ℕ) (bs : List (List ℕ)) → fault_of k p b ≡ None
    → scan_result k p (b ∷ bs) ≡ scan_result (suc k) (as_predecessor b) bs
scan_on k p b bs none = ap (λ o. refusal_or o (scan_result (suc k) (as_predecessor b) bs)) none

-- a scan from block k on: past a block without fault, and no further than one with a fault
pub scan_more : (k : ℕ) (p : Predecessor) (bs : List (List ℕ)) (d : List ℕ) → k < length bs → fault_of k p (get_or bs k d) ≡ None
    → scan_result k p (drop k bs) ≡ scan_result (k + 1) (as_predecessor (get_or bs k d)) (drop (k + 1) bs)
scan_more k p bs d less none =
    ap (scan_result k p) (drop_more bs k d less) ∙ scan_on k p (get_or bs k d) (drop (k + 1) bs) none
    ∙ ap (λ (j : ℕ). scan_result j (as_predecessor (get_or bs k d)) (drop (k + 1) bs)) (sym (add-one k))

pub scan_ends : (k : ℕ) (p : Predecessor) (bs : List (List ℕ)) (d : List ℕ) (e : Refusal) → k < length bs
    → fault_of k p (get_or bs k d) ≡ Some e → scan_result k p (drop k bs) ≡ Err e
scan_ends k p bs d e less bad =
    ap (scan_result k p) (drop_more bs k d less)
    ∙ ap (λ o. refusal_or o (scan_result (suc k) (as_predecessor (get_or bs k d)) (drop (k + 1) bs))) bad
