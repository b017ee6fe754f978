-- Which contents may follow one another, and that these are the contents of a header, a body and a tag.
use Rattle.std.proofs.Common.{◌≡◌, ℕ, zero, suc, ◌-◌, ◌<◌, ◌≤◌, min, true, false, cond, eqb, List, [], ◌∷◌, ◌++◌, map, length, take, drop, sym, refl, ap, ◌∙◌, subst, ap₂, inl, inr, append_assoc, append-nil, arith, length-append, length-drop, length-take}
use native.Mathlib.Decide.{dec_le}
use lib.ListN.{length-map}
use Rattle.std.proofs.lemmas.Bool.{eq-eqb, eqb-true}
use Rattle.std.proofs.lemmas.Bool.Decides.{nat_tests}
use Rattle.std.specs.List.{concat}
use Rattle.std.specs.Simd.{first_chunks}
use Rattle.format.specs.Layout.{Content, content, file_contents, data_pieces, piece_count, blocks_for}
use Rattle.format.specs.Faults.{Predecessor, no_predecessor, is_order_good, is_used_fit}
use Rattle.format.proofs.BlockFields.{Fit, used_some, used_limit}
use Rattle.format.proofs.Pieces.{length_pieces, pieces_none, pieces_more, concat-data_pieces}

-- the kind and the used length of a content
abbrev pub shown : Content → Predecessor
shown c = record { kind = c.kind; used = length c.bytes }

-- a content that a block can carry after p, and what is said of the rest
pub record Step (p : Predecessor) (c : Content) (Rest : Type 0) : Type 0 where
  pub fit : Fit c
  pub order : is_order_good p c.kind ≡ true
  pub rest : Rest

-- contents that blocks can carry after p, in order, up to an end
abbrev pub Follows : Predecessor → List Content → Type 0
Follows p [] = p.kind ≡ 3
Follows p (c ∷ cs) = Step p c (Follows (shown c) cs)

-- the data of all contents of a kind, joined
abbrev pub part_of : ℕ → List Content → List ℕ
part_of kind [] = []
part_of kind (c ∷ cs) = cond (eqb c.kind kind) (c.bytes ++ part_of kind cs) (part_of kind cs)

-- ---- contents in order are those of a header, a body and a tag

-- nothing may stand after the end
pub not_past_end : (p : Predecessor) (kind : ℕ) → is_order_good p kind ≡ true → p.kind ≡ 3 → ⊥
not_past_end p kind e end = grind (arith, nat_tests)

-- kinds do not fall
rising : (p : Predecessor) (kind : ℕ) → is_order_good p kind ≡ true → p.kind ≤ kind
rising p kind e = grind (arith, nat_tests)

-- before one of its kind a block is full
full_before : (p : Predecessor) (kind : ℕ) → is_order_good p kind ≡ true → p.kind ≡ kind → 502 ≤ p.used
full_before p kind e same = grind (arith, nat_tests)

-- nothing of a kind comes after a later kind
none_later : (kind : ℕ) (p : Predecessor) (cs : List Content) → Follows p cs → kind < p.kind → part_of kind cs ≡ []
none_later kind p [] f later = refl
none_later kind p (c ∷ cs) f later =
    let up : p.kind ≤ c.kind = rising p c.kind f.order in
    grind (arith, nat_tests, up, none_later kind (shown c) cs f.rest)

-- nothing of p's kind comes after p unless p is full
none_short : (p : Predecessor) (cs : List Content) → Follows p cs → p.used < 502 → part_of p.kind cs ≡ []
none_short p [] f short = refl
none_short p (c ∷ cs) f short =
    let up : p.kind ≤ c.kind = rising p c.kind f.order in
    grind (arith, nat_tests, up, full_before p c.kind f.order, none_later p.kind (shown c) cs f.rest)

-- nothing comes after an end
none_after : (p : Predecessor) (cs : List Content) → Follows p cs → p.kind ≡ 3 → cs ≡ []
none_after p [] f end = refl
none_after p (c ∷ cs) f end = absurd (not_past_end p c.kind f.order end)

-- a content comes first among the pieces of its kind
first_piece : (c : Content) (cs : List Content) → Fit c → Follows (shown c) cs
    → data_pieces (c.bytes ++ part_of c.kind cs) ≡ c.bytes ∷ data_pieces (part_of c.kind cs)
first_piece c cs fit f =
    let some : 1 ≤ length c.bytes = used_some c.kind (length c.bytes) fit.used in
    let limit : length c.bytes ≤ 502 = used_limit c.kind (length c.bytes) fit.used in
    pieces_more c.bytes (part_of c.kind cs) some
    (elim (dec_le 502 (length c.bytes)) [
      | yes h ↦ inl (omega arith)
      | no h ↦ inr (limit, ap length (none_short (shown c) cs f (omega arith)))
    ])

-- what contents in order are
abbrev pub Whole : List Content → Type 0
Whole cs = (cs ≡ file_contents (part_of 1 cs) (part_of 2 cs) (part_of 3 cs)) × (length (part_of 3 cs) ≡ 16)

-- what a file carries, by the pieces of both parts
abbrev of_pieces : List (List ℕ) → List (List ℕ) → List ℕ → List Content
of_pieces headers bodies tag = map (content 1) headers ++ (map (content 2) bodies ++ (content 3 tag ∷ []))

-- with no header, the body comes first
contents_body_first : (header body tag : List ℕ) → length header ≡ 0
    → file_contents header body tag ≡ map (content 2) (data_pieces body) ++ (content 3 tag ∷ [])
contents_body_first header body tag none =
    ap (λ (ps : List (List ℕ)). of_pieces ps (data_pieces body) tag) (pieces_none header none)

-- with no header and no body, only the tag is left
contents_tag_only : (tag : List ℕ) → file_contents [] [] tag ≡ content 3 tag ∷ []
contents_tag_only tag =
    contents_body_first [] [] tag refl
    ∙ ap (λ (ps : List (List ℕ)). map (content 2) ps ++ (content 3 tag ∷ [])) (pieces_none [] refl)

-- one more content in front, by its kind: a header piece, a body piece, or the tag
whole_kinds : (kind : ℕ) (bytes : List ℕ) (cs : List Content) → Fit (content kind bytes) → Follows (shown (content kind bytes)) cs
    → (kind < 3 → Whole cs) → Whole (content kind bytes ∷ cs)
whole_kinds zero bytes cs fit f more = absurd (omega (arith, fit.low))
whole_kinds (suc zero) bytes cs fit f more =
    let rest : Whole cs = more (omega arith) in (
      ap (λ (ds : List Content). content 1 bytes ∷ ds) rest.0
          ∙ sym (ap (λ (ps : List (List ℕ)). of_pieces ps (data_pieces (part_of 2 cs)) (part_of 3 cs))
          (first_piece (content 1 bytes) cs fit f)),
      rest.1,
    )
whole_kinds (suc (suc zero)) bytes cs fit f more =
    let rest : Whole cs = more (omega arith) in
    let none : length (part_of 1 cs) ≡ 0 = ap length (none_later 1 (shown (content 2 bytes)) cs f (omega arith)) in (
      ap (λ (ds : List Content). content 2 bytes ∷ ds)
          (rest.0 ∙ contents_body_first (part_of 1 cs) (part_of 2 cs) (part_of 3 cs) none)
          ∙ sym (contents_body_first (part_of 1 cs) (bytes ++ part_of 2 cs) (part_of 3 cs) none
          ∙ ap (λ (ps : List (List ℕ)). map (content 2) ps ++ (content 3 (part_of 3 cs) ∷ []))
          (first_piece (content 2 bytes) cs fit f)),
      rest.1,
    )
whole_kinds (suc (suc (suc zero))) bytes cs fit f more =
    let sixteen : length (bytes ++ []) ≡ 16 = ap length (append-nil bytes) ∙ eqb-true (length bytes) 16 fit.used in
    subst (λ (ds : List Content). Whole (content 3 bytes ∷ ds)) (sym (none_after (shown (content 3 bytes)) cs f refl))
    (ap (λ (tag : List ℕ). content 3 tag ∷ []) (sym (append-nil bytes)) ∙ sym (contents_tag_only (bytes ++ [])), sixteen)
whole_kinds (suc (suc (suc (suc k)))) bytes cs fit f more = absurd (omega (arith, fit.high))

-- contents in order are the contents of the data of kind 1, of kind 2 and of kind 3, and the last has 16 bytes
pub in_order : (p : Predecessor) (cs : List Content) → Follows p cs → p.kind < 3 → Whole cs
in_order p [] f before = absurd (omega arith)
in_order p (c ∷ cs) f before = whole_kinds c.kind c.bytes cs f.fit f.rest (in_order (shown c) cs f.rest)

-- ---- the contents of a header, a body and a tag are in order

-- the tag may stand after any block but an end
end_follows : (tag : List ℕ) → length tag ≡ 16 → (p : Predecessor) → p.kind ≤ 2 → Follows p (content 3 tag ∷ [])
end_follows tag sixteen p before = record {
  fit = record { low = omega arith; high = omega arith; used = eq-eqb (length tag) 16 sixteen };
  order = grind (arith, nat_tests);
  rest = refl;
}

module _ (kind : ℕ) (low : 1 ≤ kind) (high : kind ≤ 2) (others : List Content)
    (after : (q : Predecessor) → q.kind ≤ kind → Follows q others) where
  -- a block of this kind may stand after a lower kind, or a full block of this kind
  in_place : (p : Predecessor) → p.kind ≤ kind → (p.kind ≡ kind → 502 ≤ p.used) → is_order_good p kind ≡ true
  in_place p before full = grind (arith, nat_tests)

  used_good : (used : ℕ) → 1 ≤ used → used ≤ 502 → is_used_fit kind used ≡ true
  used_good used some limit = grind (arith, nat_tests)

  -- the pieces of a part, then what may follow any block of their kind
  cut_follows : (n : ℕ) (part : List ℕ) → n ≡ piece_count (length part)
      → (p : Predecessor) → p.kind ≤ kind → (1 ≤ length part → p.kind ≡ kind → 502 ≤ p.used)
      → Follows p (map (content kind) (first_chunks 502 n part) ++ others)
  cut_follows zero part count p before full = after p before
  cut_follows (suc n) part count p before full =
      let some : 1 ≤ length part = omega arith in
      let size : length (take 502 part) ≡ min 502 (length part) = length-take 502 part in
      let left : length (drop 502 part) ≡ length part - 502 = length-drop 502 part in
      record {
        fit = record { low = low; high = omega arith; used = used_good (length (take 502 part)) (omega arith) (omega arith) };
        order = in_place p before (full some);
        rest =
            cut_follows n (drop 502 part) (omega arith) (shown (content kind (take 502 part)))
            (omega arith) (λ more same. omega arith);
      }

  -- after a lower kind, the pieces of a whole part
  part_follows : (part : List ℕ) (p : Predecessor) → p.kind < kind → Follows p (map (content kind) (data_pieces part) ++ others)
  unfolding data_pieces
  part_follows part p before = cut_follows (piece_count (length part)) part refl p (omega arith) (λ some same. absurd (omega arith))

-- blocks of a header, a body and a tag may stand first in a file
pub contents_follow : (header body tag : List ℕ) → length tag ≡ 16 → Follows no_predecessor (file_contents header body tag)
contents_follow header body tag sixteen =
    part_follows 1 (omega arith) (omega arith) (map (content 2) (data_pieces body) ++ (content 3 tag ∷ []))
    (λ q before.
    part_follows 2 (omega arith) (omega arith) (content 3 tag ∷ []) (end_follows tag sixteen) body q (omega arith))
    header no_predecessor (omega arith)

-- ---- the header, the body and the tag, read out of their contents

-- the data of a kind among pieces of that kind, and among pieces of another
part_same : (kind : ℕ) (ps : List (List ℕ)) (cs : List Content)
    → part_of kind (map (content kind) ps ++ cs) ≡ concat ps ++ part_of kind cs
part_same kind [] cs = refl
part_same kind (p ∷ ps) cs =
    grind (arith, nat_tests, part_same kind ps cs, append_assoc p (concat ps) (part_of kind cs))

part_other : (kind other : ℕ) → eqb other kind ≡ false → (ps : List (List ℕ)) (cs : List Content)
    → part_of kind (map (content other) ps ++ cs) ≡ part_of kind cs
part_other kind other apart [] cs = refl
part_other kind other apart (p ∷ ps) cs =
    grind (arith, nat_tests, part_other kind other apart ps cs)

module _ (header body tag : List ℕ) where
  abbrev body_on : List Content
  body_on = map (content 2) (data_pieces body) ++ (content 3 tag ∷ [])

  pub header_part : part_of 1 (file_contents header body tag) ≡ header
  header_part =
      part_same 1 (data_pieces header) body_on
      ∙ ap₂ (λ (xs ys : List ℕ). xs ++ ys) (concat-data_pieces header) (part_other 1 2 refl (data_pieces body) (content 3 tag ∷ []))
      ∙ append-nil header

  pub body_part : part_of 2 (file_contents header body tag) ≡ body
  body_part =
      part_other 2 1 refl (data_pieces header) body_on
      ∙ part_same 2 (data_pieces body) (content 3 tag ∷ [])
      ∙ append-nil (concat (data_pieces body)) ∙ concat-data_pieces body

  pub tag_part : part_of 3 (file_contents header body tag) ≡ tag
  tag_part =
      part_other 3 1 refl (data_pieces header) body_on
      ∙ part_other 3 2 refl (data_pieces body) (content 3 tag ∷ [])
      ∙ append-nil tag

  pub length_contents : length (file_contents header body tag) ≡ blocks_for (length header) (length body)
  length_contents =
      let h : length (data_pieces header) ≡ piece_count (length header) = length_pieces header in
      let b : length (data_pieces body) ≡ piece_count (length body) = length_pieces body in
      simp (length-append, length-map) (omega arith)
