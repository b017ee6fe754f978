use Rattle.std.proofs.Common.{ℕ, List, ap}
use Rattle.message.specs.declared.digest.Digest.{Digest}
use Rattle.job.specs.Jobs.{HeaderHolds, BodyHolds}
use Rattle.job.proofs.Replaying.{fed_job_chain}
use Rattle.reading.specs.Sections.{section_bytes}
use Rattle.sealed.proofs.Running.{took_none}
use Rattle.sealed.proofs.hashing.hash_sections.Goals as goal

pub returns : goal.returns
returns g c =
    let m = g.E.Engine in
    let engine = c.args.engine in
    let h = m.subkey_of engine in
    let can_switch = m.ready_of engine in
    let header : List ℕ = section_bytes c.args.header in
    let body : List ℕ = section_bytes c.args.body in
    let s = c.start-job.result in
    let j = c.feed_part.new.job in
    let b = c.turn-job.result in
    let t = c.feed_part-2.new.job in
    let first =
    c.feed_part.ensures h can_switch s.buffer.engine
    (took_none m (HeaderHolds m h can_switch) (λ u. u.buffer) (λ u xs holds. holds.left) s c.start-job.ensures.holds) in
    let second =
    c.feed_part-2.ensures h can_switch header b.buffer.engine
    (took_none m (λ u. BodyHolds m h can_switch u header) (λ u. u.buffer) (λ u xs holds. holds.holds.left) b
    (c.turn-job.ensures.holds h can_switch header first.holds)) in
    let closes = c.close.ensures.closes h can_switch header body second.holds in
    record {
      ran = record {
        value = closes.value;
        subkey = closes.subkey;
        ready = closes.ready;
        chain =
            fed_job_chain m h can_switch engine c.args.pad s j b t c.close.result header body
            c.start-job.ensures.whole first.holds c.turn-job.ensures.whole second.holds c.close.ensures.whole
            first.hashed second.hashed;
      };
      tag = ap (λ (d : Digest). d.tag) closes.digest;
    }
