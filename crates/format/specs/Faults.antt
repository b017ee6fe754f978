-- What a file's blocks say, and what is wrong with a file: the first fault in a fixed order.
use Rattle.std.specs.Prelude.{ℕ, zero, suc, ◌+◌, ◌*◌, ◌/◌, ◌%◌, Bool, if◌then◌else◌, not, ◌&&◌, ◌||◌, List, [], ◌∷◌, map, filter, length, take, drop, Some, None, Ok, Err, Option, Result, ◌==◌, nat_le, slice_index}
use Rattle.std.specs.List.{concat, list_all}
use Rattle.std.specs.Simd.{first_chunks}
use Rattle.field.specs.Digits.{numeral}
use Rattle.refusal.specs.declared.Refusal.{Refusal}
use Rattle.refusal.specs.declared.Refusal.TheVariants.{WrongCheck, WrongNumber, WrongForm, WrongOrder}
use Rattle.format.specs.Layout.{block_length, check_place, data_limit, tag_length, file_limit, header_kind, body_kind, end_kind, check_of}

-- ---- the fields of a block, as the table in docs/FILE.md has them

abbrev pub number_in : List ℕ → ℕ
number_in b = numeral 256 (take 2 b)

abbrev pub kind_in : List ℕ → ℕ
kind_in b = slice_index b 2

abbrev pub reserve_in : List ℕ → ℕ
reserve_in b = slice_index b 3

abbrev pub used_length_in : List ℕ → ℕ
used_length_in b = numeral 256 (take 2 (drop 4 b))

-- the data, up to the used length, and what stands past it
abbrev pub data_in : List ℕ → List ℕ
data_in b = take (used_length_in b) (drop 6 b)

abbrev pub filling_in : List ℕ → List ℕ
filling_in b = drop (6 + used_length_in b) (take check_place b)

abbrev pub stored_check : List ℕ → ℕ
stored_check b = numeral 256 (drop check_place b)

-- ---- faults of a block

abbrev pub is_all_zero : List ℕ → Bool
is_all_zero xs = list_all (λ x. x == 0) xs

-- 16 in the end block, else 1 to 502
abbrev pub is_used_fit : ℕ → ℕ → Bool
is_used_fit kind used =
    if kind == end_kind then used == tag_length else (nat_le 1 used && nat_le used data_limit)

-- kind 1 to 3, reserve zero, a used length that fits the kind, and zeros past the data
abbrev pub is_form_good : List ℕ → Bool
is_form_good b =
    nat_le header_kind (kind_in b)
    && (nat_le (kind_in b) end_kind
    && (reserve_in b == 0
    && (is_used_fit (kind_in b) (used_length_in b)
    && is_all_zero (filling_in b))))

-- What a block says to the one after it: its kind and its used length.
pub record Predecessor : Type 0 where
  pub kind : ℕ
  pub used : ℕ

-- before the first block: no kind
abbrev pub no_predecessor : Predecessor
no_predecessor = record { kind = 0; used = 0 }

abbrev pub as_predecessor : List ℕ → Predecessor
as_predecessor b = record { kind = kind_in b; used = used_length_in b }

-- nothing after the end, no kind after a later one, and only a full block before one of its kind
abbrev pub is_order_good : Predecessor → ℕ → Bool
is_order_good p kind =
    not (p.kind == end_kind)
    && (nat_le p.kind kind
    && (not (p.kind == kind) || nat_le data_limit p.used))

-- the first fault of block k, which stands after p, if any
abbrev pub fault_of : ℕ → Predecessor → List ℕ → Option Refusal
fault_of k p b =
    if stored_check b == check_of (take check_place b)
    then if number_in b == k
    then if is_form_good b
    then if is_order_good p (kind_in b)
    then None
    else Some (WrongOrder k)
    else Some (WrongForm k)
    else Some (WrongNumber k)
    else Some (WrongCheck k)

-- ---- a file

-- a file's blocks
unfoldable pub blocks_of : List ℕ → List (List ℕ)
blocks_of file = first_chunks block_length (length file / block_length) file

-- 1 to 65,536 blocks of 512 bytes
abbrev pub is_size_good : List ℕ → Bool
is_size_good file =
    length file % block_length == 0
    && (nat_le block_length (length file)
    && nat_le (length file) file_limit)

-- block k of a file, and what stands before it
abbrev pub block_at : List ℕ → ℕ → List ℕ
block_at file k = take block_length (drop (block_length * k) file)

abbrev pub predecessor_at : List ℕ → ℕ → Predecessor
predecessor_at file zero = no_predecessor
predecessor_at file (suc k) = as_predecessor (block_at file k)

-- the refusal, where there is one, or else the result
abbrev pub refusal_or : {T : Type 0} → Option Refusal → Result T Refusal → Result T Refusal
refusal_or None r = r
refusal_or (Some e) r = Err e

-- block by block, from block k on: the first fault, or what the last block says
abbrev pub scan_result : ℕ → Predecessor → List (List ℕ) → Result Predecessor Refusal
scan_result k p [] = Ok p
scan_result k p (b ∷ bs) =
    refusal_or (fault_of k p b) (scan_result (suc k) (as_predecessor b) bs)

abbrev pub blocks_of_kind : ℕ → List (List ℕ) → List (List ℕ)
blocks_of_kind kind bs = filter (λ b. kind_in b == kind) bs

-- the data of all blocks of a kind, joined
abbrev pub data_of : ℕ → List (List ℕ) → List ℕ
data_of kind bs = concat (map data_in (blocks_of_kind kind bs))

abbrev pub header_in : List ℕ → List ℕ
header_in file = data_of header_kind (blocks_of file)

abbrev pub body_in : List ℕ → List ℕ
body_in file = data_of body_kind (blocks_of file)

abbrev pub tag_in : List ℕ → List ℕ
tag_in file = data_of end_kind (blocks_of file)
