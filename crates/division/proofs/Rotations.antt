-- Reads and writes in a ring, and its beginning moved one place back.
use Rattle.std.proofs.Common.{◌≡◌, ℕ, suc, ◌+◌, ◌-◌, ◌%◌, ◌<◌, ◌≤◌, ◌⊎◌, List, [], ◌∷◌, ◌++◌, length, get_or, take, drop, set, sym, ap, ◌∙◌, ap₂, inl, inr, ⊎_elim, append_assoc, append-nil, arith, length-append, length-drop, length-take}
use lib.Seq.{take-set-lt}
use Rattle.std.proofs.lemmas.Bool.Decides.{leb_tells}
use Rattle.std.proofs.lemmas.List.{get_or_append_left, get_or-append_right, get_or-take, get_or-drop, set-append_left, set-append_right, take-set-le, drop-set-lt, drop-set-add, take_at, take_more, drop_more, drop_all}
use Rattle.division.specs.Rotation.{rotation}

-- In a ring of n places that begins at b, the element p places on stands at this place: before the list's end, or round it.
abbrev pub Stands : ℕ → ℕ → ℕ → ℕ → Type 0
Stands n b p at = ((b + p < n) × (at ≡ b + p)) ⊎ ((n ≤ b + p) × (at + n ≡ b + p))

pub stands : (b p : ℕ) → b < 128 → p < 128 → Stands 128 b p ((b + p) % 128)
stands b p inside below =
    ⊎_elim (λ (_, late). inr (late, omega arith)) (λ (_, early). inl (early, omega arith)) (leb_tells 128 (b + p))

module _ {K : Type 0} (n b : ℕ) (inside : b < n) where
  front_long : (s : List K) → length s ≡ n → length (drop b s) ≡ n - b
  front_long s long = length-drop b s ∙ ap (λ k. k - b) long

  pub length-rotation : (s : List K) → length s ≡ n → length (rotation b s) ≡ n
  unfolding rotation
  length-rotation s long =
      length-append (drop b s) (take b s) ∙ omega (arith, front_long s long, length-take b s)

  pub rotation-set : (s : List K) → length s ≡ n → (p at : ℕ) (v : K) → p < n → Stands n b p at
      → rotation b (set s at v) ≡ set (rotation b s) p v
  unfolding rotation
  rotation-set s long p at v below (inl (lt, e)) =
      ap (λ k. drop b (set s k v) ++ take b (set s k v)) e
      ∙ ap₂ (λ xs ys. xs ++ ys) (drop-set-add b s p v) (take-set-le b s (b + p) v (omega arith))
      ∙ sym (set-append_left (drop b s) (take b s) p v (omega (arith, front_long s long)))
  rotation-set s long p at v below (inr (le, e)) =
      let same : p - (n - b) ≡ at = omega arith in
      ap₂ (λ xs ys. xs ++ ys) (drop-set-lt b s at v (omega arith)) (take-set-lt b s at v (omega arith))
      ∙ ap (λ k. drop b s ++ set (take b s) k v) (sym same)
      ∙ sym (set-append_right (drop b s) (take b s) (n - b) p v (front_long s long) (omega arith))

  pub get_or-rotation : (s : List K) → length s ≡ n → (p at : ℕ) (d : K) → p < n → Stands n b p at
      → get_or (rotation b s) p d ≡ get_or s at d
  unfolding rotation
  get_or-rotation s long p at d below (inl (lt, e)) =
      get_or_append_left (drop b s) (take b s) d p (omega (arith, front_long s long))
      ∙ get_or-drop b s p d
      ∙ ap (λ k. get_or s k d) (sym e)
  get_or-rotation s long p at d below (inr (le, e)) =
      let same : p - (n - b) ≡ at = omega arith in
      get_or-append_right (drop b s) (take b s) (n - b) p d (front_long s long) (omega arith)
      ∙ ap (λ k. get_or (take b s) k d) same
      ∙ get_or-take b s at d (omega arith)

-- the beginning moved one place back: the last element comes first, and each of the others one place later
pub rotation-one_back : {K : Type 0} (n b back : ℕ) (s : List K) (d : K) → b < suc n → length s ≡ suc n → Stands (suc n) b n back
    → rotation back s ≡ get_or s back d ∷ take n (rotation b s)
unfolding rotation
rotation-one_back n b back s d inside long (inl (lt, e)) =
    let none : b ≡ 0 = omega arith in
    let last : back ≡ n = omega arith in
    ap (λ k. drop k s ++ take k s) last
    ∙ ap (λ xs. xs ++ take n s) (drop_more s n d (omega arith) ∙ ap (λ xs. get_or s n d ∷ xs) (drop_all (n + 1) s (omega arith)))
    ∙ ap₂ (λ k xs. get_or s k d ∷ take n xs) (sym last) (sym (append-nil s))
    ∙ ap (λ k. get_or s back d ∷ take n (drop k s ++ take k s)) (sym none)
rotation-one_back n b back s d inside long (inr (le, e)) =
    let on : back + 1 ≡ b = omega arith in
    let within : back < length s = omega arith in
    let front : List _ = drop (back + 1) s ++ take back s in
    let front_length : length front ≡ n =
    length-append (drop (back + 1) s) (take back s) ∙ omega (arith, length-drop (back + 1) s, length-take back s) in
    ap (λ xs. xs ++ take back s) (drop_more s back d within)
    ∙ ap (λ xs. get_or s back d ∷ xs)
    (sym (take_at front (get_or s back d ∷ []) n front_length)
    ∙ ap (take n) (append_assoc (drop (back + 1) s) (take back s) (get_or s back d ∷ []) ∙ ap (λ xs. drop (back + 1) s ++ xs) (sym (take_more s back d within)))
    ∙ ap (λ k. take n (drop k s ++ take k s)) on)
