use Rattle.std.proofs.Common.{◌≡◌, ℕ, Result, Ok, Err, Some, sym, ◌∙◌}
use Rattle.std.specs.Result.{result_ok}
use Rattle.format.specs.Kinds.{NamesKind, kind_number}
use Rattle.format.specs.declared.block_kind.BlockKind.{BlockKind}
use Rattle.format.specs.declared.block_kind.NoKind.{NoKind}
use Rattle.reading.specs.declared.prefix.Prefix.{Prefix}
use Rattle.reading.proofs.Places.{bad_fill, bad_reserve, bad_used, good_form}
use Rattle.reading.proofs.faults.shape_of.Goals as goal
use Rattle.reading.proofs.faults.shape_of.Goals.{then-prefix-ne0-via-then-prefix-ne0, then-prefix-ne0-via-else-prefix-ne0+then-not-is_used_fit, then-prefix-ne0-via-else-prefix-ne0+else-not-is_used_fit+then-not-is_all_zero}

-- what is read of a result that is accepted
known : (n : ℕ) (r : Result BlockKind NoKind) (kind : BlockKind) → NamesKind n r → Some kind ≡ result_ok r → kind_number kind ≡ n
known n (Ok k) kind is same = cc
known n (Err e) kind is same = cc

pub returns-then-prefix-ne0 : goal.returns-then-prefix-ne0
returns-then-prefix-ne0 c b named =
    let kind = c.in_ok-kind.kind in
    let p : Prefix = c.args.prefix in
    let number = known p.kind c.try_from.result kind c.try_from.ensures c.in_ok-kind.ensures.value in
    elim c.then-prefix-ne0.branch [
      | then-prefix-ne0-via-then-prefix-ne0 w ↦ bad_reserve b kind p number named w.if-prefix-ne0.true
      | then-prefix-ne0-via-else-prefix-ne0+then-not-is_used_fit w ↦ bad_used b kind p number named (sym w.if-not-is_used_fit.ensures)
      | then-prefix-ne0-via-else-prefix-ne0+else-not-is_used_fit+then-not-is_all_zero w ↦
          bad_fill b kind p number named (sym w.if-not-is_used_fit.ensures) (sym w.if-not-is_all_zero.ensures)
    ]

pub returns : goal.returns
returns c b named =
    let p : Prefix = c.args.prefix in
    let kind = c.in_ok-kind.kind in
    let number = known p.kind c.try_from.result kind c.try_from.ensures c.in_ok-kind.ensures.value in
    record {
      good = good_form b kind p number named c.if-prefix-ne0.false (sym c.if-not-is_used_fit.ensures) (sym c.if-not-is_all_zero.ensures);
      shape = λ i. record { kind = (number ∙ named.kind) i; used = named.used i };
    }
