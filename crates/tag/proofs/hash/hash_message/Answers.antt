use Rattle.std.proofs.Common.{ℕ, List, [], ◌∷◌, ◌++◌, sym, ◌∙◌, subst}
use Rattle.field.specs.declared.block.Block.{Block}
use Rattle.message.specs.Blocks.{blocks, block_of_lengths, block_list}
use Rattle.message.specs.Hash.{hash_of}
use Rattle.message.proofs.StandardHash.{lengths_counts}
use Rattle.engine.proofs.HashedRows.{hashed_one, hashed_append, hashed_eval}
use Rattle.tag.proofs.hash.hash_message.Goals as goal

pub returns : goal.returns
unfolding hash_of
returns g c =
    let m = g.E.Engine in
    let header : List ℕ = c.args.message.header.now in
    let body : List ℕ = c.args.message.body.now in
    let lengths : Block = block_of_lengths header body in
    let start = c.args.engine.now in
    let zeroed = c.resume.new.self in
    let second = c.absorb_part.new.engine in
    let third = c.absorb_part-2.new.engine in
    let end = c.absorb.new.self in
    let from = c.resume.ensures in
    let said = c.absorb.ensures in
    let last = hashed_one m third end _ lengths said.value said.subkey said.ready said.whole (c.block_of_byte_counts.ensures ∙ sym (lengths_counts header body)) in
    let all =
    hashed_append m zeroed second end (blocks header) (blocks body ++ (lengths ∷ [])) c.absorb_part.ensures
    (hashed_append m second third end (blocks body) (lengths ∷ []) c.absorb_part-2.ensures last) in
    let value = hashed_eval m (m.subkey_of start) zeroed end [] (block_list header body) all from.subkey (from.value ∙ c.zero.ensures) in
    record {
      answer = c.value.ensures.answer ∙ value;
      engine = record {
        value = value;
        subkey = all.subkey ∙ from.subkey;
        ready = all.ready ∙ from.ready;
        chain = (zeroed, subst (λ (v : Block). m.resumes start v zeroed) c.zero.ensures from.whole, all.chain);
      };
    }
