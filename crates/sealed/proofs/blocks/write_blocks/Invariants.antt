use Rattle.std.proofs.Common.{◌≡◌, ◌+◌, ◌*◌, ◌/◌, ◌++◌, map, length, take, drop}
use Rattle.std.specs.Slice.Iter.{chunks_rest, chunks_size}
use Rattle.format.specs.Kinds.{kind_number}
use Rattle.format.specs.Layout.{content, numbered_blocks, data_pieces}
use Rattle.sealed.proofs.blocks.write_blocks.Given as goal

abbrev pub invariant-loop-k : goal.invariant-loop-k
invariant-loop-k l = record {
  front :
      take (512 * (l.first + l.k-iterator.count)) l.output ++ numbered_blocks (l.first + l.k-iterator.count) (map (content (kind_number l.kind)) (data_pieces (chunks_rest l.k-iterator.iter)))
      ≡ take (512 * l.first) l.initial.output ++ numbered_blocks l.first (map (content (kind_number l.kind)) (data_pieces l.part));
  after : drop (512 * (l.first + l.k-iterator.count)) l.output ≡ drop (512 * (l.first + l.k-iterator.count)) l.initial.output;
  left : l.k-iterator.count + (length (chunks_rest l.k-iterator.iter) + 501) / 502 ≡ (length l.part + 501) / 502;
  size : chunks_size l.k-iterator.iter ≡ 502;
}
