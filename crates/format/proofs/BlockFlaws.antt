-- The fault of a block, by its flaws.
use Rattle.std.proofs.Common.{◌≡◌, ℕ, ◌<◌, Bool, true, false, eqb, List, take, Some, None, Option, refl, ◌⊎◌, inl, inr, arith}
use Rattle.std.specs.Prelude.{All, if◌then◌else◌}
use Rattle.std.specs.Bool.{Decides}
use Rattle.std.proofs.lemmas.Bool.{cases_Bool, false_from_ne_true}
use Rattle.std.proofs.lemmas.Bool.Decides.{nat_tests, Decides-by_and, Decides-eqb, not_from_Decides}
use Rattle.refusal.specs.declared.Refusal.{Refusal}
use Rattle.refusal.specs.declared.Refusal.TheVariants.{WrongCheck, WrongNumber, WrongForm, WrongOrder}
use Rattle.format.specs.Layout.{check_of}
use Rattle.format.specs.Faults.{Predecessor, number_in, kind_in, filling_in, stored_check, is_all_zero, is_form_good, is_order_good, fault_of, block_at, predecessor_at}
use Rattle.format.specs.Flaws.{IsFormed, MayFollow, Flaw, check, number, form, order, turn_of, IsFreeOf, IsBlockFlaw, HasNoFlaw}
use Rattle.format.proofs.BlockFields.{Form, form_parts}

-- ---- the tests

zeros_decide : (xs : List ℕ) → Decides (is_all_zero xs) (All (λ x. x ≡ 0) xs)
zeros_decide = Decides-by_and (λ x. eqb x 0) (λ x. x ≡ 0) is_all_zero (λ x. Decides-eqb x 0) refl (λ _ _. refl)

pub form_decides : (b : List ℕ) → Decides (is_form_good b) (IsFormed b)
form_decides b = (
  λ good.
      let f : Form b = form_parts b good in
      record {
        least_kind = f.low;
        most_kind = f.high;
        reserve = f.reserve;
        end_used = λ end. grind (arith, nat_tests, f.used);
        part_some = λ part. grind (arith, nat_tests, f.used);
        part_most = λ part. grind (arith, nat_tests, f.used);
        fill = (zeros_decide (filling_in b)).0 f.zeros;
      },
  λ f. grind (arith, nat_tests, f.end_used, f.part_some, f.part_most, (zeros_decide (filling_in b)).1 f.fill),
)

pub order_decides : (p : Predecessor) (kind : ℕ) → Decides (is_order_good p kind) (MayFollow p kind)
order_decides p kind = (
  λ good. record {
    before_end = λ end. grind (arith, nat_tests, good);
    rising = grind (arith, nat_tests, good);
    full = λ same. grind (arith, nat_tests, good);
  },
  λ f. grind (arith, nat_tests, f.before_end, f.rising, f.full),
)

abbrev is_free : List ℕ → ℕ → Flaw → Bool
is_free file k check = eqb (stored_check (block_at file k)) (check_of (take 508 (block_at file k)))
is_free file k number = eqb (number_in (block_at file k)) k
is_free file k form = is_form_good (block_at file k)
is_free file k order = is_order_good (predecessor_at file k) (kind_in (block_at file k))

free_decides : (file : List ℕ) (k : ℕ) (flaw : Flaw) → Decides (is_free file k flaw) (IsFreeOf file k flaw)
free_decides file k check = Decides-eqb (stored_check (block_at file k)) (check_of (take 508 (block_at file k)))
free_decides file k number = Decides-eqb (number_in (block_at file k)) k
free_decides file k form = form_decides (block_at file k)
free_decides file k order = order_decides (predecessor_at file k) (kind_in (block_at file k))

-- ---- the first of four tests that fails

-- how a flaw is named to the caller
abbrev pub refusal_of : Flaw → ℕ → Refusal
refusal_of check k = WrongCheck k
refusal_of number k = WrongNumber k
refusal_of form k = WrongForm k
refusal_of order k = WrongOrder k

-- what holds of each flaw whose turn comes before the n-th
turns_below : (n : ℕ) (P : Flaw → Type 0) → (0 < n → P check) → (1 < n → P number) → (2 < n → P form)
    → (3 < n → P order) → (flaw : Flaw) → turn_of flaw < n → P flaw
turns_below n P a b c d check less = a less
turns_below n P a b c d number less = b less
turns_below n P a b c d form less = c less
turns_below n P a b c d order less = d less

every_flaw : (P : Flaw → Type 0) → P check → P number → P form → P order → (flaw : Flaw) → P flaw
every_flaw P a b c d check = a
every_flaw P a b c d number = b
every_flaw P a b c d form = c
every_flaw P a b c d order = d

module _ (test : Flaw → Bool) where
  abbrev Held : Flaw → Type 0
  Held flaw = test flaw ≡ true

  -- the first of the four tests that fails
  record FirstFailed (flaw : Flaw) : Type 0 where
    pub failed : test flaw ≡ false
    pub earlier : (other : Flaw) → turn_of other < turn_of flaw → Held other

  failed_or_none : ((flaw : Flaw) → Held flaw) ⊎ ((flaw : Flaw) × FirstFailed flaw)
  failed_or_none =
      elim (cases_Bool (test check)) [
        | inr a ↦ inr (check, record { failed = a; earlier = λ other less. absurd (omega arith) })
        | inl a ↦ elim (cases_Bool (test number)) [
          | inr b ↦ inr (
            number,
            record {
              failed = b;
              earlier =
                  turns_below 1 Held (λ l. a) (λ l. absurd (omega arith)) (λ l. absurd (omega arith)) (λ l. absurd (omega arith));
            },
          )
          | inl b ↦ elim (cases_Bool (test form)) [
            | inr c ↦ inr (
              form,
              record {
                failed = c;
                earlier = turns_below 2 Held (λ l. a) (λ l. b) (λ l. absurd (omega arith)) (λ l. absurd (omega arith));
              },
            )
            | inl c ↦ elim (cases_Bool (test order)) [
              | inr d ↦ inr (
                order,
                record {
                  failed = d;
                  earlier = turns_below 3 Held (λ l. a) (λ l. b) (λ l. c) (λ l. absurd (omega arith));
                },
              )
              | inl d ↦ inl (every_flaw Held a b c d)
            ]
          ]
        ]
      ]

  -- the answer of four tests in turn
  abbrev fault_by : ℕ → Option Refusal
  fault_by k =
      if test check
      then if test number
      then if test form
      then if test order
      then None
      else Some (WrongOrder k)
      else Some (WrongForm k)
      else Some (WrongNumber k)
      else Some (WrongCheck k)

  none_failed : (k : ℕ) → ((flaw : Flaw) → Held flaw) → fault_by k ≡ None
  none_failed k all = rw (all check, all number, all form, all order)

  first_failed : (k : ℕ) (flaw : Flaw) → FirstFailed flaw → fault_by k ≡ Some (refusal_of flaw k)
  first_failed k check f = rw (f.failed)
  first_failed k number f = rw (f.earlier check (omega arith), f.failed)
  first_failed k form f = rw (f.earlier check (omega arith), f.earlier number (omega arith), f.failed)
  first_failed k order f =
      rw (f.earlier check (omega arith), f.earlier number (omega arith), f.earlier form (omega arith), f.failed)

-- ---- the fault of block k

module _ (file : List ℕ) (k : ℕ) where
  abbrev pub fault_at : Option Refusal
  fault_at = fault_of k (predecessor_at file k) (block_at file k)

  -- a block is sound, or one of its flaws is met first
  pub sound_or_flawed : HasNoFlaw file k ⊎ ((flaw : Flaw) × IsBlockFlaw file k flaw)
  sound_or_flawed =
      elim (failed_or_none (is_free file k)) [
        | inl all ↦ inl (λ flaw. (free_decides file k flaw).0 (all flaw))
        | inr first ↦ inr (
          first.0,
          record {
            there = not_from_Decides (is_free file k first.0) (free_decides file k first.0) first.1.failed;
            earlier = λ other less. (free_decides file k other).0 (first.1.earlier other less);
          },
        )
      ]

  pub block_passes : HasNoFlaw file k → fault_at ≡ None
  block_passes sound = none_failed (is_free file k) k (λ flaw. (free_decides file k flaw).1 (sound flaw))

  pub first_fault : (flaw : Flaw) → IsBlockFlaw file k flaw → fault_at ≡ Some (refusal_of flaw k)
  first_fault flaw f =
      first_failed (is_free file k) k flaw (record {
        failed = false_from_ne_true (is_free file k flaw) (λ e. f.there ((free_decides file k flaw).0 e));
        earlier = λ other less. (free_decides file k other).1 (f.earlier other less);
      })
