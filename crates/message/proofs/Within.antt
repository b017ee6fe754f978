-- Answers for parts within their limits.
use Rattle.std.proofs.Common.{◌≡◌, ℕ, Bool, true, false, cond, ltb, List, length, Ok, Err, Result, ◌≤◌, refl, ap, ◌∙◌, subst}
use Rattle.refusal.specs.declared.Refusal.{Refusal}
use Rattle.refusal.specs.declared.Refusal.TheVariants.{HeaderTooLong, BodyTooLong}
use Rattle.std.proofs.lemmas.Bool.{cond-false, le-ltb}
use Rattle.message.specs.Limits.{header_limit, body_limit, within_limits}
use Rattle.message.specs.declared.message.CheckedMessage.{CheckedMessage}

-- what a function makes of an answer, by its three ways
pub by_ways : {X Y : Type 0} (f : Result X Refusal → Y) (header body : List ℕ) (answer : Result X Refusal) (h b ok : Y)
    → f (Err HeaderTooLong) ≡ h → f (Err BodyTooLong) ≡ b → f answer ≡ ok
    → f (within_limits header body answer) ≡ cond (ltb header_limit (length header)) h (cond (ltb body_limit (length body)) b ok)
by_ways {X} {Y} f header body answer h b ok p q r = by_tests (ltb header_limit (length header)) (ltb body_limit (length body)) where
  by_tests : (s t : Bool) → f (cond s (Err HeaderTooLong) (cond t (Err BodyTooLong) answer)) ≡ cond s h (cond t b ok)
  by_tests true t = p
  by_tests false true = q
  by_tests false false = r

-- all ways to one value
pub one_way : {Y : Type 0} (header body : List ℕ) (y : Y) → cond (ltb header_limit (length header)) y (cond (ltb body_limit (length body)) y y) ≡ y
one_way {Y} header body y = by_tests (ltb header_limit (length header)) (ltb body_limit (length body)) where
  by_tests : (s t : Bool) → cond s y (cond t y y) ≡ y
  by_tests true t = refl
  by_tests false true = refl
  by_tests false false = refl

module _ {X Y : Type 0} (answer : Result X Refusal) where
  abbrev pub go_on : Result Y Refusal → Result X Refusal
  go_on (Ok y) = answer
  go_on (Err e) = Err e

  -- an answer that looked at the lengths, and then another
  pub after_lengths : (header body : List ℕ) (y : Y) (r : Result Y Refusal) → r ≡ within_limits header body (Ok y) → go_on r ≡ within_limits header body answer
  after_lengths header body y r said = ap go_on said ∙ by_ways go_on header body (Ok y) (Err HeaderTooLong) (Err BodyTooLong) answer refl refl refl

-- what was accepted
pub accepted_value : {X : Type 0} (header body : List ℕ) (x y : X) → Ok x ≡ within_limits header body (Ok y) → x ≡ y
accepted_value {X} header body x y said = ap inside said ∙ by_ways inside header body (Ok y) y y y refl refl refl ∙ one_way header body y where
  inside : Result X Refusal → X
  inside (Ok z) = z
  inside (Err e) = y

-- an answer to a message whose lengths are right by its type
pub checked_answer : {X : Type 0} (answer : Result X Refusal) (header body : List ℕ) (m : CheckedMessage)
    → m.header.now ≡ header → m.body.now ≡ body → within_limits header body answer ≡ answer
checked_answer answer header body m same_header same_body =
    let short : length header ≤ header_limit = subst (λ (xs : List ℕ). length xs ≤ header_limit) same_header m.short in
    let few : length body ≤ body_limit = subst (λ (xs : List ℕ). length xs ≤ body_limit) same_body m.few in
    cond-false _ _ _ (le-ltb header_limit (length header) short) ∙ cond-false _ _ _ (le-ltb body_limit (length body) few)
