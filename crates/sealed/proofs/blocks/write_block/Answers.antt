use Rattle.std.proofs.Common.{◌≡◌, ℕ, ◌+◌, ◌-◌, ◌*◌, List, length, ap, ◌∙◌, arith}
use Rattle.std.proofs.lemmas.Slice.{drop-put_mid}
use Rattle.format.specs.Kinds.{kind_number}
use Rattle.format.specs.Layout.{content}
use Rattle.format.proofs.BlockFields.{length_block}
use Rattle.sealed.proofs.blocks.write_block.Goals as goal

pub returns-clause-back : goal.returns-clause-back
returns-clause-back c =
    let out : List ℕ = c.args.output.now in
    let n : ℕ = c.args.number in
    let k : ℕ = 512 * n + 512 - 512 * n in
    let block : List ℕ = c.fill_block.new.block in
    let whole : length block ≡ 512 = ap length c.fill_block.ensures ∙ length_block n (content (kind_number c.args.kind) c.args.data.now) c.requires.fits in
    let size : length block ≡ k = omega (arith, whole) in
    drop-put_mid (512 * n) k out block (512 * (n + 1)) (omega arith) (omega arith) size
