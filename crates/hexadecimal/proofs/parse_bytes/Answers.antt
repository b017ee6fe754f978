use Rattle.std.proofs.Common.{◌≡◌, ℕ, ◌/◌, ◌%◌, List, length, take, is_ok, refl, sym, ap, ◌∙◌, arith}
use Rattle.std.proofs.lemmas.Bool.Decides.{nat_tests}
use Rattle.std.proofs.lemmas.List.{length-take-le}
use Rattle.hex.proofs.HexLemmas.{decode_sized-twice}
use Rattle.hexadecimal.proofs.Places.{decode_of-bad, decode_of-good}
use Rattle.hexadecimal.proofs.parse_bytes.Goals as goal

pub returns-in-Some-clause-answer : goal.returns-in-Some-clause-answer
returns-in-Some-clause-answer c =
    let text : List ℕ = c.args.text.now in
    let even : length text % 2 ≡ 0 = omega (arith, c.if-digits-ne0.false) in
    let refused = decode_of-bad text even c.in-Some.at (sym c.bad_place.ensures ∙ c.in-Some.is) in
    rw refused refl

pub returns-then-bytes-needed-clause-answer : goal.returns-then-bytes-needed-clause-answer
returns-then-bytes-needed-clause-answer c =
    let text : List ℕ = c.args.text.now in
    let even : length text % 2 ≡ 0 = omega (arith, c.if-digits-ne0.false) in
    let good = decode_of-good text even (sym c.bad_place.ensures ∙ c.in_default.is) in
    let half : length text / 2 ≡ length good.0 = omega (arith, good.2) in
    let short = c.if-bytes-needed.true in
    rw (good.1, half) (grind (arith, nat_tests))

-- the digits are all good, so that `hex` refuses nothing
pub returns-in_err-map_err-clause-bytes : goal.returns-in_err-map_err-clause-bytes
returns-in_err-map_err-clause-bytes c =
    let text : List ℕ = c.args.text.now in
    let even : length text % 2 ≡ 0 = omega (arith, c.if-digits-ne0.false) in
    let good = decode_of-good text even (sym c.bad_place.ensures ∙ c.in_default.is) in
    let sized = decode_sized-twice text (length text / 2) (omega (arith, even)) ∙ good.1 in
    let room : length (take (length text / 2) c.args.bytes.now) ≡ length text / 2 =
    length-take-le (length text / 2) c.args.bytes.now (omega (arith, c.if-bytes-needed.false)) in
    let written = rw (room, sized) at c.decode_to_slice.ensures.value in
    let answered = sym (ap is_ok c.in_err-map_err.was) ∙ c.map_err.ensures.variant ∙ ap is_ok written.0 in
    cc answered
