-- A file's blocks scanned by a fold.
use Rattle.std.proofs.Common.{◌≡◌, ℕ, ◌+◌, ◌<◌, ◌≤◌, Bool, true, false, add-zero, cond, eqb, List, [], ◌∷◌, ◌++◌, map, length, get_or, take, drop, take-append-drop, Option, MatchOption, Result, Some, None, Ok, Err, Bor, sym, refl, subst, ap, ap₂, ◌∙◌, zero-add, append_assoc, arith, length-append}
use Rattle.std.proofs.lemmas.List.{length-map, map_push, length_push, get_or_default}
use Rattle.std.proofs.lemmas.List.{length-take}
use Rattle.std.proofs.lemmas.List.Sums.{count_by-le-length, length-filter}
use Rattle.std.proofs.lemmas.List.Filters.{length-filter_more}
use Rattle.std.proofs.lemmas.List.FromFn.{length-enumerate_from, get_or-enumerate_from}
use Rattle.std.specs.List.{enumerate_from}
use Rattle.format.specs.Faults.{Predecessor, no_predecessor, kind_in, used_length_in, as_predecessor, fault_of, scan_result, data_of, blocks_of_kind}
use Rattle.reading.specs.Scanning.{IsTallyOf, IsWithinFile, tally_with}
use Rattle.reading.specs.declared.tally.Tally.{Tally}
use Rattle.reading.specs.Shapes.{predecessor_of}
use Rattle.reading.specs.declared.scan.Scan.{Scan}
use Rattle.reading.proofs.Scans.{AllWhole, data_of_kind, data_on, data_length, data_room, data_upto, scan_more}

-- what is known after k blocks
pub record Upto (bs : List (List ℕ)) (k : ℕ) (s : Scan) : Type 0 where
  pub scan : scan_result 0 no_predecessor bs ≡ scan_result k (predecessor_of s.last) (drop k bs)
  pub header : IsTallyOf 1 (take k bs) s.header
  pub body : IsTallyOf 2 (take k bs) s.body

-- tallies count no more blocks than there are, and no more data than they have
pub within_file : (kind k : ℕ) (bs : List (List ℕ)) (t : Tally) → AllWhole bs → length bs ≤ 65536
    → IsTallyOf kind (take k bs) t → IsWithinFile t
within_file kind k bs t whole few is =
    let test : List ℕ → Bool = λ b. eqb (kind_in b) kind in
    record {
      blocks = omega (arith, is.blocks, length-filter test (take k bs), count_by-le-length test (take k bs), length-take k bs, few);
      bytes = omega (arith, is.bytes, data_upto kind k bs, data_room kind bs whole, few);
    }

-- a block and its place, as a fold takes them
abbrev pub Item : Type 0
Item = ℕ × Bor (List ℕ)

abbrev pub items : List Item → List (ℕ × List ℕ)
items xs = map (λ (p : Item). (p.0, p.1.now)) xs

-- where these items come first of all, the state after them is known
abbrev pub SoFar : List (List ℕ) → List Item → Unit {0} × Scan → Type 0
SoFar bs xs q = (more : List (ℕ × List ℕ)) → enumerate_from 0 bs ≡ items xs ++ more → Upto bs (length xs) q.1

-- a scan that has not begun
pub nothing_yet : (bs : List (List ℕ))
    → Upto bs 0 record { last = None; header = record { blocks = 0; bytes = 0 }; body = record { blocks = 0; bytes = 0 } }
nothing_yet bs =
    record { scan = refl; header = record { blocks = refl; bytes = refl }; body = record { blocks = refl; bytes = refl } }

-- a turn: block k, without fault, went in
pub record Stepped (s : Scan) (k : ℕ) (b : List ℕ) (t : Scan) : Type 0 where
  pub good : fault_of k (predecessor_of s.last) b ≡ None
  pub last : predecessor_of t.last ≡ as_predecessor b
  pub short : used_length_in b ≤ 502
  pub header : t.header ≡ cond (eqb (kind_in b) 1) (tally_with s.header (used_length_in b)) s.header
  pub body : t.body ≡ cond (eqb (kind_in b) 2) (tally_with s.body (used_length_in b)) s.body

at_seam : {A : Type 0} (ys : List A) (v d : A) (more : List A) → get_or (ys ++ (v ∷ more)) (length ys) d ≡ v
at_seam [] v d more = refl
at_seam (y ∷ ys) v d more = at_seam ys v d more

-- the item at a place is the block there
pub placed : (bs : List (List ℕ)) (k : ℕ) (x : Item)
    → (k < length (enumerate_from 0 bs)) × ((x.0, x.1.now) ≡ get_or (enumerate_from 0 bs) k (x.0, x.1.now))
    → (k < length bs) × (x.0 ≡ k) × (x.1.now ≡ get_or bs k x.1.now)
placed bs k x t =
    let less : k < length bs = omega (arith, t.0, length-enumerate_from 0 bs) in
    let here : (x.0, x.1.now) ≡ (0 + k, get_or bs k x.1.now) = t.1 ∙ get_or-enumerate_from 0 bs k (x.0, x.1.now) less in
    (less, ap (λ (p : ℕ × List ℕ). p.0) here ∙ zero-add k, ap (λ (p : ℕ × List ℕ). p.1) here)

at_place : (bs : List (List ℕ)) (xs : List Item) (x : Item) (more : List (ℕ × List ℕ))
    → enumerate_from 0 bs ≡ items xs ++ ((x.0, x.1.now) ∷ more)
    → (length xs < length bs) × (x.0 ≡ length xs) × (x.1.now ≡ get_or bs (length xs) x.1.now)
at_place bs xs x more e =
    let v : ℕ × List ℕ = (x.0, x.1.now) in
    let ys : List (ℕ × List ℕ) = items xs in
    let long : length ys ≡ length xs = length-map xs (λ (p : Item). (p.0, p.1.now)) in
    placed bs (length xs) x (
      omega (arith, long, ap length e, length-append ys (v ∷ more)),
      sym (ap (λ zs. get_or zs (length xs) v) e ∙ ap (λ n. get_or (ys ++ (v ∷ more)) n v) (sym long) ∙ at_seam ys v v more),
    )

pub upto : (bs : List (List ℕ)) (xs : List Item) (q : Unit {0} × Scan) → SoFar bs xs q
    → items xs ≡ take (length xs) (enumerate_from 0 bs) → Upto bs (length xs) q.1
upto bs xs q j e =
    let all : List (ℕ × List ℕ) = enumerate_from 0 bs in
    j (drop (length xs) all) (sym (take-append-drop (length xs) all) ∙ ap (λ l. l ++ drop (length xs) all) (sym e))

-- by what came
pub by_option : {A P D : Type 0} {B : A → Type 0} (o : Option A) → MatchOption o D B → (o ≡ None → D → P)
    → ((x : A) → o ≡ Some x → B x → P) → P
by_option None d f g = f refl d
by_option (Some x) b f g = g x refl b

pub by_result : {A E P : Type 0} (r : Result A E) → ((x : A) → r ≡ Ok x → P) → ((x : E) → r ≡ Err x → P) → P
by_result (Ok x) f g = f x refl
by_result (Err x) f g = g x refl

-- a tally of the first k blocks, with block k counted
tally_on : (kind k : ℕ) (bs : List (List ℕ)) (b : List ℕ) (s t : Tally) → k < length bs → b ≡ get_or bs k b
    → length b ≡ 512 → used_length_in b ≤ 502
    → t ≡ cond (eqb (kind_in b) kind) (tally_with s (used_length_in b)) s → IsTallyOf kind (take k bs) s
    → IsTallyOf kind (take (k + 1) bs) t
tally_on kind k bs b s t less here size short counted so_far =
    let blocks =
    length-filter_more (λ (c : List ℕ). eqb (kind_in c) kind) bs k b less
    ∙ ap (λ (c : List ℕ). length (blocks_of_kind kind (take k bs)) + cond (eqb (kind_in c) kind) 1 0) (sym here) in
    let bytes =
    ap length (data_on kind k bs b less) ∙ length-append (data_of kind (take k bs)) (data_of_kind kind (get_or bs k b))
    ∙ ap (λ (c : List ℕ). length (data_of kind (take k bs)) + length (data_of_kind kind c)) (sym here)
    ∙ ap (λ (n : ℕ). length (data_of kind (take k bs)) + n) (data_length kind b size short) in
    record {
      blocks =
          ap (λ (y : Tally). y.blocks) counted ∙ more_blocks (eqb (kind_in b) kind)
          ∙ ap (λ (n : ℕ). n + cond (eqb (kind_in b) kind) 1 0) so_far.blocks ∙ sym blocks;
      bytes =
          ap (λ (y : Tally). y.bytes) counted ∙ more_bytes (eqb (kind_in b) kind)
          ∙ ap (λ (n : ℕ). n + cond (eqb (kind_in b) kind) (used_length_in b) 0) so_far.bytes ∙ sym bytes;
    } where
      more_blocks : (is : Bool) → (cond is (tally_with s (used_length_in b)) s).blocks ≡ s.blocks + cond is 1 0
      more_blocks true = refl
      more_blocks false = sym (add-zero s.blocks)

      more_bytes : (is : Bool) → (cond is (tally_with s (used_length_in b)) s).bytes ≡ s.bytes + cond is (used_length_in b) 0
      more_bytes true = refl
      more_bytes false = sym (add-zero s.bytes)

pub so_far_keeps : (bs : List (List ℕ)) → AllWhole bs → (xs : List Item) (q : Unit {0} × Scan) (x : Item) (w : Unit {0} × Scan)
    → SoFar bs xs q → Stepped q.1 x.0 x.1.now w.1 → SoFar bs (xs ++ (x ∷ [])) w
so_far_keeps bs whole xs q x w j s more e =
    let v : ℕ × List ℕ = (x.0, x.1.now) in
    let k : ℕ = length xs in
    let b : List ℕ = x.1.now in
    let last : Predecessor = predecessor_of q.1.last in
    let joined : enumerate_from 0 bs ≡ items xs ++ (v ∷ more) =
    e ∙ ap (λ l. l ++ more) (map_push (λ (p : Item). (p.0, p.1.now)) xs x) ∙ append_assoc (items xs) (v ∷ []) more in
    let p = at_place bs xs x more joined in
    let u = j (v ∷ more) joined in
    let size : length b ≡ 512 = ap length (p.2 ∙ get_or_default bs k b [] p.0) ∙ whole k p.0 in
    let none : fault_of k last (get_or bs k b) ≡ None = ap₂ (λ n c. fault_of n last c) (sym p.1) (sym p.2) ∙ s.good in
    subst (λ n. Upto bs n w.1) (sym (length_push xs x)) record {
      scan =
          u.scan ∙ scan_more k last bs b p.0 none
          ∙ ap (λ (r : Predecessor). scan_result (k + 1) r (drop (k + 1) bs)) (ap as_predecessor (sym p.2) ∙ sym s.last);
      header = tally_on 1 k bs b q.1.header w.1.header p.0 p.2 size s.short s.header u.header;
      body = tally_on 2 k bs b q.1.body w.1.body p.0 p.2 size s.short s.body u.body;
    }
