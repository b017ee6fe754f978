use Rattle.std.proofs.Common.{ap, ◌∙◌, sym}
use Rattle.std.specs.List.{list_all}
use Rattle.hex.specs.Hex.{is_hex_digit}
use Rattle.hexadecimal.proofs.Places.{bad_place-none}
use Rattle.hexadecimal.proofs.bad_place.Goals as goal

pub returns-then-all_digits : goal.returns-then-all_digits
returns-then-all_digits c =
    let same = ap (list_all is_hex_digit) c.as_bytes-bytes.ensures.value in
    sym (bad_place-none c.args.text.now (sym same ∙ sym c.all_digits.ensures ∙ c.if-all_digits.true))
