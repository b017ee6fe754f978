use Rattle.std.proofs.Common.{◌≡◌, [], ◌∷◌, Ok, Result, ap, ◌∙◌}
use Rattle.field.specs.declared.block.Block.{Block}
use Rattle.message.specs.Hash.{hash_of}
use Rattle.message.specs.declared.digest.Digest.{Digest}
use Rattle.message.specs.declared.digest.Pad.{Pad}
use Rattle.refusal.specs.declared.Refusal.{Refusal}
use Rattle.readings.specs.Table.{first}
use Rattle.readings.specs.declared.Readings.{Readings}
use Rattle.readings.proofs.Rows.{table}
use Rattle.readings.proofs.take_readings.Goals as goal

-- what stands in an `Ok`
inside : (a b : Block) → ◌≡◌ {A = Result Block Refusal} (Ok a) (Ok b) → a ≡ b
inside a b e = cc

inside_digest : (a b : Digest) → ◌≡◌ {A = Result Digest Refusal} (Ok a) (Ok b) → a ≡ b
inside_digest a b e = cc

abbrev done : Readings → Result Readings Refusal
done r = Ok r

pub returns : goal.returns
returns c =
    let subkey : Block = c.args.subkey in
    let pad : Pad = c.args.pad in
    let empty = inside_digest c.in_ok-digest.digest _ c.in_ok-digest.ensures.value in
    let body = inside c.in_ok-hash_at_one.field-0 (hash_of (first 0x80) [] (0x80 ∷ [])) c.in_ok-hash_at_one.ensures ∙ table.body_only_row in
    let header = inside c.in_ok-hash_at_one-2.field-0 (hash_of (first 0x80) (0x80 ∷ []) []) c.in_ok-hash_at_one-2.ensures ∙ table.header_only_row in
    let hash = ap (λ (d : Digest). d.hash) empty ∙ table.empty_hash_row subkey in
    let tag = ap (λ (d : Digest). d.tag.0) empty ∙ table.empty_tag_row subkey pad in
    record {
      table = table;
      value = ap done (λ i. record {
        nibble_product = c.nibble_product.ensures i;
        nibble_value = c.nibble_value.ensures i;
        word_one = c.word_one.ensures i;
        word_two = c.word_two.ensures i;
        block_value = c.block_value.ensures i;
        empty_hash = hash i;
        empty_tag = tag i;
        body_only = body i;
        header_only = header i;
      });
    }
