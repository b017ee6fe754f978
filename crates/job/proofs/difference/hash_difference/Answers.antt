use Rattle.std.proofs.Common.{ap, ◌∙◌, ap₂}
use Rattle.field.specs.Kinds.{block_ring}
use Rattle.message.specs.declared.digest.Digest.{Digest}
use Rattle.job.proofs.Differences.{hashes_differ}
use Rattle.job.proofs.difference.hash_difference.Goals as goal

pub returns : goal.returns
returns g c = record {
  answer = c.add.ensures;
  law = λ h can_switch can_switch' pad pad' header body header' body' closes closes' same.
      c.add.ensures
      ∙ ap₂ block_ring.sum (ap (λ (d : Digest). d.hash) closes.digest) (ap (λ (d : Digest). d.hash) closes'.digest)
      ∙ hashes_differ h header body header' body' same;
}
