use Rattle.std.proofs.Common.{◌∙◌, ℕ, List, refl, sym, arith}
use Rattle.std.proofs.lemmas.List.{take_rest}
use Rattle.reading.proofs.Numbers.{two_bytes, two_bytes_at}
use Rattle.reading.proofs.prefix.Prefix.read.Goals as goal

pub returns-clause-says : goal.returns-clause-says
returns-clause-says c =
    let b : List ℕ = c.args.block.now in
    record {
      number = c.from.ensures ∙ c.from_be_bytes.ensures ∙ sym (two_bytes b (omega arith));
      kind = refl;
      reserve = refl;
      used = c.from-2.ensures ∙ c.from_be_bytes-2.ensures ∙ sym (two_bytes_at 4 b (omega arith));
      rest = take_rest b 6;
    }
