-- What a result tells of the steps and tests that it came through.
use Rattle.std.proofs.Common.{◌≡◌, Bool, true, false, cond, Ok, Err, Result, refl}
use Rattle.std.specs.Prelude.{IsOk, IfOk, IfErr}
use Rattle.refusal.specs.declared.Refusal.{Refusal}
use Rattle.format.specs.Verdict.{and_then}

-- a step before another ended well
pub came : {T U : Type 0} (r : Result T Refusal) (f : T → Result U Refusal) (x : U) → and_then r f ≡ Ok x
    → (z : T) × (r ≡ Ok z) × (f z ≡ Ok x)
came (Ok z) f x e = (z, refl, e)
came (Err y) f x e = absurd (cc)

-- a test before an answer was passed
pub test_passed : {T : Type 0} (t : Bool) (r : Result T Refusal) (why : Refusal) (x : T) → cond t r (Err why) ≡ Ok x
    → (t ≡ true) × (r ≡ Ok x)
test_passed true r why x e = (refl, e)
test_passed false r why x e = absurd (cc)

-- an answer is one value, or a refusal for one reason, and not both
pub one_value : {T : Type 0} {r : Result T Refusal} {x y : T} → r ≡ Ok x → r ≡ Ok y → x ≡ y
one_value a b = cc

pub not_both : {T : Type 0} {r : Result T Refusal} {x : T} {why : Refusal} → r ≡ Ok x → r ≡ Err why → ⊥
not_both a b = cc

pub one_reason : {T : Type 0} {r : Result T Refusal} {e f : Refusal} → r ≡ Err e → r ≡ Err f → e ≡ f
one_reason a b = cc

-- the value of a result that has one
pub value_of : {T E : Type 0} (r : Result T E) → IsOk r → (x : T) × (r ≡ Ok x)
value_of (Ok x) e = (x, refl)
value_of (Err y) e = absurd (cc)

-- a result of which something is known where it is a value, and one of which something is known where it is none
pub if_value : {T E : Type 0} (r : Result T E) (P : T → Type 0) → ((x : T) → r ≡ Ok x → P x) → IfOk r P
if_value (Ok x) P known = known x refl
if_value (Err e) P known = tt

pub if_refusal : {T E : Type 0} (r : Result T E) (P : E → Type 0) → ((e : E) → r ≡ Err e → P e) → IfErr r P
if_refusal (Ok x) P known = tt
if_refusal (Err e) P known = known e refl
