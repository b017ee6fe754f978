use Rattle.std.proofs.Common.{◌≡◌, Bool, ℕ, List, [], ◌∷◌, sym, ap, ◌∙◌, subst}
use Rattle.field.specs.declared.block.Block.{Block}
use Rattle.message.specs.Answer.{digest_under}
use Rattle.message.specs.Blocks.{blocks, block_of_counts}
use Rattle.message.specs.Hash.{hash_of}
use Rattle.message.specs.Standard.{MeetsStandard}
use Rattle.message.proofs.StandardHash.{meets_standard}
use Rattle.engine.proofs.HashedRows.{hashed_one, hashed_append}
use Rattle.job.specs.Buffers.{pending_bytes}
use Rattle.job.specs.Jobs.{BodyHolds}
use Rattle.job.proofs.Closing.{closed_value}
use Rattle.job.proofs.body_job.BodyJob.close.Goals as goal

pub returns : goal.returns
returns g c =
    let m = g.E.Engine in
    let j = c.args.self in
    let f = j.buffer in
    let t = c.flush.new.self in
    let e = c.absorb.new.self in
    let pad = c.args.pad in
    let flushed = c.flush.ensures in
    let said = c.absorb.ensures in
    let counted : c.block_of_byte_counts.result ≡ block_of_counts j.header f.count =
    c.block_of_byte_counts.ensures ∙ ap (block_of_counts j.header) flushed.count in
    let last =
    hashed_one m t.engine e c.block_of_byte_counts.result (block_of_counts j.header f.count)
    said.value said.subkey said.ready said.whole counted in
    let made : c.new.result ≡ digest_under pad (m.value_of e) = c.new.ensures ∙ ap (digest_under pad) c.value-hash.ensures.answer in
    let value : (h : Block) (can_switch : Bool) (header body : List ℕ) → BodyHolds m h can_switch j header body
    → m.value_of e ≡ hash_of h header body =
    closed_value m j t e flushed last in
    record {
      closes = λ h can_switch header body held. record {
        digest = made ∙ ap (digest_under pad) (value h can_switch header body held);
        value = value h can_switch header body held;
        subkey = said.subkey ∙ flushed.hashed.subkey ∙ held.holds.subkey;
        ready = said.ready ∙ flushed.hashed.ready ∙ held.holds.ready;
      };
      standard = λ h can_switch header body held.
          subst (MeetsStandard h pad header body) (sym (made ∙ ap (digest_under pad) (value h can_switch header body held)))
          (meets_standard h pad header body held.bytes held.holds.bytes);
      whole = record {
        hashed =
            hashed_append m f.engine t.engine e (blocks (pending_bytes f))
            (block_of_counts j.header f.count ∷ []) flushed.hashed last;
        digest = made;
      };
    }
