-- The places of the ones, and what comes of adding an element there.
use Rattle.std.proofs.Common.{◌≡◌, ℕ, zero, suc, ◌+◌, ◌<◌, ◌≤◌, Bool, true, false, cond, List, [], ◌∷◌, ◌++◌, length, get_or, take, set, filter, sym, refl, ap, ◌∙◌, append_assoc, add-one, arith}
use Rattle.std.specs.List.{range_with_len, All}
use Rattle.std.proofs.lemmas.List.Elements.{All-filter, All-from_get_or}
use Rattle.std.proofs.lemmas.List.FromFn.{length-range_with_len, get_or-range_with_len, filter_of_map_range_with_len_more}
use Rattle.std.proofs.lemmas.List.Sums.{length-filter, count_by-le-length}
use Rattle.std.proofs.lemmas.List.{map-id, set_at, get_or_at, length_push}
use Rattle.field.specs.Ring.{CommutativeRing}
use Rattle.field.specs.declared.element.Element.{Ghosts}
use Rattle.division.specs.Places.{one_places, sum_at_places}
use Rattle.division.proofs.Reductions.{remainder_from}

-- ---- the places

-- every place is below n
pub get_or-one_places : (n : ℕ) (bits : ℕ → Bool) (k : ℕ) → k < length (one_places n bits) → get_or (one_places n bits) k 0 < n
unfolding one_places
get_or-one_places n bits k lt =
    let IsBelow : ℕ → Type 0 = λ place. place < n in
    let tried : List ℕ = range_with_len 0 n in
    let all_below : All IsBelow tried =
    All-from_get_or IsBelow tried 0 (λ i within.
    let tried_here : i < n = omega (arith, length-range_with_len 0 n) in
    omega (arith, get_or-range_with_len 0 n i 0 tried_here)) in
    All-filter bits IsBelow tried all_below k 0 lt

-- one coefficient more
pub one_places-add_one : (j : ℕ) (bits : ℕ → Bool) → one_places (j + 1) bits ≡ one_places j bits ++ cond (bits j) (j ∷ []) []
unfolding one_places
one_places-add_one j bits =
    ap (filter bits) (sym (map-id (range_with_len 0 (j + 1))))
    ∙ filter_of_map_range_with_len_more bits (λ k. k) 0 j j (omega arith)
    ∙ ap (λ ks. filter bits ks ++ cond (bits j) (j ∷ []) []) (map-id (range_with_len 0 j))

-- there are no more than n
pub length-one_places : (n : ℕ) (bits : ℕ → Bool) → length (one_places n bits) ≤ n
unfolding one_places
length-one_places n bits =
    omega (
      arith,
      length-filter bits (range_with_len 0 n),
      count_by-le-length bits (range_with_len 0 n),
      length-range_with_len 0 n,
    )

-- ---- what is added

module _ {K : Type 0} (m : Ghosts K) (laws : CommutativeRing m.zero m.one m.sum m.product) (top : K) (bits : ℕ → Bool) where
  -- The coefficient of t^j is dealt with, by an addition or by none, and the places above it are still to come.
  one_place : (b : Bool) (j : ℕ) (places : List ℕ) (below : List K) (c : K) (above : List K) → length below ≡ j
      → sum_at_places m top (cond b (j ∷ places) places) (below ++ (c ∷ above))
      ≡ sum_at_places m top places ((below ++ (m.sum c (cond b top m.zero) ∷ [])) ++ above)
  one_place true j places below c above at =
      ap (sum_at_places m top places)
      (ap (λ x. set (below ++ (c ∷ above)) j (m.sum x top)) (get_or_at below c above m.zero j at)
      ∙ set_at below c above (m.sum c top) j at
      ∙ sym (append_assoc below (m.sum c top ∷ []) above))
  one_place false j places below c above at =
      ap (sum_at_places m top places)
      (ap (λ x. below ++ (x ∷ above)) (sym (laws.sum_zero c)) ∙ sym (append_assoc below (m.sum c m.zero ∷ []) above))

  sum_at_from : (j n : ℕ) (below : List K) (c : K) (cs : List K) → length below ≡ j → length cs ≡ n
      → sum_at_places m top (filter bits (range_with_len j n)) (below ++ take n (c ∷ cs))
      ≡ below ++ remainder_from m top bits j c cs
  sum_at_from j zero below c [] at long = refl
  sum_at_from j zero below c (d ∷ cs) at long = absurd (omega arith)
  sum_at_from j (suc n) below c [] at long = absurd (omega arith)
  sum_at_from j (suc n) below c (d ∷ cs) at long =
      let here : K = m.sum c (cond (bits j) top m.zero) in
      one_place (bits j) j (filter bits (range_with_len (j + 1) n)) below c (take n (d ∷ cs)) at
      ∙ sum_at_from (j + 1) n (below ++ (here ∷ [])) d cs (length_push below here ∙ ap (λ k. k + 1) at) (omega arith)
      ∙ append_assoc below (here ∷ []) (remainder_from m top bits (j + 1) d cs)
      ∙ ap (λ k. below ++ (here ∷ remainder_from m top bits k d cs)) (add-one j)

  -- Coefficients moved one place up, with `top` added at the places of the ones, are the remainder.
  pub sum_at_places-one_places : (n : ℕ) (cs : List K) → length cs ≡ n
      → sum_at_places m top (one_places n bits) (take n (m.zero ∷ cs)) ≡ remainder_from m top bits 0 m.zero cs
  unfolding one_places
  sum_at_places-one_places n cs long = sum_at_from 0 n [] m.zero cs refl long
