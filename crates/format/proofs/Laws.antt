-- The check accepts sealed files and no others.
use Rattle.std.proofs.Common.{◌≡◌, ℕ, ◌+◌, ◌*◌, ◌/◌, ◌≤◌, true, eqb, List, map, length, Ok, sym, ap, ◌∙◌, subst, ap₂, mod-eq_of_lt, arith, lit<}
use Rattle.std.specs.Prelude.{is_ok}
use Rattle.std.proofs.lemmas.Bool.{eqb-true}
use Rattle.std.proofs.lemmas.Bool.Decides.{nat_tests}
use Rattle.std.specs.Simd.{first_chunks}
use Rattle.field.specs.Bytes.{bytes_of}
use Rattle.field.specs.Digits.{numeral, digits}
use Rattle.field.specs.declared.block.Block.{Block}
use Rattle.field.proofs.Digits.{length_digits, numeral_digits, digits_numeral}
use Rattle.message.specs.Limits.{header_limit}
use Rattle.message.specs.Blocks.{AreBytes}
use Rattle.message.specs.Hash.{tag_of}
use Rattle.message.specs.declared.digest.Pad.{Pad}
use Rattle.refusal.specs.declared.Refusal.TheVariants.{TagDiffers}
use Rattle.format.specs.Layout.{Content, file_contents, blocks_from, numbered_blocks, sealed_file, blocks_for}
use Rattle.format.specs.Faults.{no_predecessor, blocks_of, is_size_good, scan_result, data_of, header_in, body_in, tag_in}
use Rattle.format.specs.Verdict.{lengths_of, lengths_in, first_pass, tag_verdict, verdict, IsSealOf, Exact, Reopens}
use Rattle.format.specs.Flaws.{HasFileSize}
use Rattle.format.specs.declared.lengths.Lengths.{Lengths}
use Rattle.format.proofs.BlockFields.{content_of}
use Rattle.format.proofs.Sequences.{Follows, part_of, Whole, in_order, contents_follow, header_part, body_part, tag_part, length_contents}
use Rattle.format.proofs.Results.{came, test_passed, value_of, if_value}
use Rattle.format.proofs.FirstPass.{Passed, passed}
use Rattle.format.proofs.Scans.{scan_numbered, length_numbered_all, laid_chunks, laid_contents, laid_scan, data_part, read_small}

-- ---- what is read out of a sealed file

module _ (subkey : Block) (pad : Pad) (header body : List ℕ) where
  -- the tag's bytes, and what the blocks carry
  abbrev tag : List ℕ
  tag = bytes_of (tag_of subkey pad header body).0

  abbrev carried : List Content
  carried = file_contents header body tag

  carried_follow : Follows no_predecessor carried
  carried_follow = contents_follow header body tag (length_digits 256 16 (tag_of subkey pad header body).0.bits)

  length_carried : length (sealed_file subkey pad header body) ≡ 512 * length carried
  unfolding sealed_file
  length_carried = length_numbered_all 0 no_predecessor carried carried_follow

  pub length_sealed : length (sealed_file subkey pad header body) ≡ 512 * blocks_for (length header) (length body)
  length_sealed = length_carried ∙ ap (λ (n : ℕ). 512 * n) (length_contents header body tag)

  -- its blocks are those that were laid out
  pub blocks_sealed : blocks_of (sealed_file subkey pad header body) ≡ blocks_from 0 carried
  unfolding blocks_of sealed_file
  blocks_sealed =
      let long : length (numbered_blocks 0 carried) ≡ 512 * length carried = length_carried in
      let count : length (numbered_blocks 0 carried) / 512 ≡ length carried = omega arith in
      ap (λ (n : ℕ). first_chunks 512 n (numbered_blocks 0 carried)) count ∙ laid_chunks 0 no_predecessor carried carried_follow

  -- the data of a kind are those of the contents of that kind
  data_sealed : (kind : ℕ) → data_of kind (blocks_of (sealed_file subkey pad header body)) ≡ part_of kind carried
  data_sealed kind =
      ap (data_of kind) blocks_sealed
      ∙ data_part kind (blocks_from 0 carried)
      ∙ ap (part_of kind) (laid_contents 0 no_predecessor carried carried_follow)

  pub sealed_header : header_in (sealed_file subkey pad header body) ≡ header
  sealed_header = data_sealed 1 ∙ header_part header body tag

  pub sealed_body : body_in (sealed_file subkey pad header body) ≡ body
  sealed_body = data_sealed 2 ∙ body_part header body tag

  pub sealed_tag : tag_in (sealed_file subkey pad header body) ≡ tag
  sealed_tag = data_sealed 3 ∙ tag_part header body tag

-- ---- a sealed file is accepted

module _ (subkey : Block) (pad : Pad) (header body : List ℕ) where
  -- the tag read out of it is the tag of the parts read out of it
  tag_sealed : tag_verdict subkey pad (sealed_file subkey pad header body) ≡ Ok (lengths_of header body)
  tag_sealed =
      let file : List ℕ = sealed_file subkey pad header body in
      let t : Block = (tag_of subkey pad header body).0 in
      let right : numeral 256 (tag_in file) ≡ (tag_of subkey pad (header_in file) (body_in file)).0.bits =
      ap (numeral 256) (sealed_tag subkey pad header body)
      ∙ numeral_digits 256 (lit< tt) 16 t.bits
      ∙ mod-eq_of_lt t.fits
      ∙ sym
      (ap₂ (λ (h b : List ℕ). (tag_of subkey pad h b).0.bits)
      (sealed_header subkey pad header body)
      (sealed_body subkey pad header body)) in
      grind (arith, nat_tests, right)
      ∙ ap₂ (λ (h b : List ℕ). Ok (lengths_of h b)) (sealed_header subkey pad header body) (sealed_body subkey pad header body)

  module _ (short : length header ≤ 65535) (count : blocks_for (length header) (length body) ≤ 65536) where
    size_sealed : is_size_good (sealed_file subkey pad header body) ≡ true
    size_sealed =
        let n : ℕ = length (sealed_file subkey pad header body) in
        let long : n ≡ 512 * blocks_for (length header) (length body) = length_sealed subkey pad header body in
        grind (arith, nat_tests)

    -- the check accepts it, and tells how long its parts are
    pub sealed_accepted : verdict subkey pad (sealed_file subkey pad header body) ≡ Ok (lengths_of header body)
    sealed_accepted =
        let file : List ℕ = sealed_file subkey pad header body in
        let cs : List Content = carried subkey pad header body in
        let few : 0 + length cs ≤ 65536 = omega (arith, length_contents header body (tag subkey pad header body)) in
        let scan = laid_scan 0 no_predecessor cs (carried_follow subkey pad header body) few in
        let within : length (header_in file) ≤ header_limit =
        subst (λ (h : List ℕ). length h ≤ 65535) (sym (sealed_header subkey pad header body)) short in
        let blocks : scan_result 0 no_predecessor (blocks_of file) ≡ Ok scan.0 =
        ap (scan_result 0 no_predecessor) (blocks_sealed subkey pad header body) ∙ scan.1 in
        grind (arith, nat_tests, size_sealed, blocks, scan.2, within, tag_sealed)

-- ---- an accepted file is sealed

-- what the check found of a file that it accepts
pub record Accepted (subkey : Block) (pad : Pad) (file : List ℕ) (lens : Lengths) : Type 0 where
  pub through : Passed file
  pub tagged : numeral 256 (tag_in file) ≡ (tag_of subkey pad (header_in file) (body_in file)).0.bits
  pub read : lens ≡ lengths_in file

pub accepted_parts : (subkey : Block) (pad : Pad) (file : List ℕ) (lens : Lengths) → verdict subkey pad file ≡ Ok lens
    → Accepted subkey pad file lens
accepted_parts subkey pad file lens e =
    let tag : Block = (tag_of subkey pad (header_in file) (body_in file)).0 in
    let two = came (first_pass file) (λ _. tag_verdict subkey pad file) lens e in
    let same = test_passed (eqb (numeral 256 (tag_in file)) tag.bits) (Ok (lengths_in file)) TagDiffers lens two.2 in
    record {
      through = (passed file two.0 two.1).0;
      tagged = eqb-true (numeral 256 (tag_in file)) tag.bits same.0;
      read = cc;
    }

-- a file of bytes that the check accepts is the sealed file of the parts read out of it
pub accepted_sealed : (subkey : Block) (pad : Pad) (file : List ℕ) (lens : Lengths) → AreBytes file → verdict subkey pad file ≡ Ok lens
    → file ≡ sealed_file subkey pad (header_in file) (body_in file)
unfolding blocks_of sealed_file
accepted_sealed subkey pad file lens small e =
    let a : Accepted subkey pad file lens = accepted_parts subkey pad file lens e in
    let m : ℕ = length file / 512 in
    let size : HasFileSize file = a.through.pass.size in
    let found = scan_numbered m 0 no_predecessor a.through.last file (omega arith) small a.through.scan a.through.end in
    let cs : List Content = map content_of (first_chunks 512 m file) in
    let ordered : Whole cs = in_order no_predecessor cs found.1 (omega arith) in
    let part : (kind : ℕ) → part_of kind cs ≡ data_of kind (first_chunks 512 m file) =
    λ kind. sym (data_part kind (first_chunks 512 m file)) in
    let sixteen : length (tag_in file) ≡ 16 = sym (ap length (part 3)) ∙ ordered.1 in
    let last : tag_in file ≡ bytes_of (tag_of subkey pad (header_in file) (body_in file)).0 =
    sym (digits_numeral 256 (lit< tt) (tag_in file) (read_small 3 file small)) ∙ ap₂ (digits 256) sixteen a.tagged in
    found.0
    ∙ ap (numbered_blocks 0) (ordered.0 ∙ (λ i. file_contents (part 1 i) (part 2 i) ((part 3 ∙ last) i)))

-- ---- both directions

pub reopens : (subkey : Block) (pad : Pad) (header body : List ℕ) → length header ≤ 65535
    → blocks_for (length header) (length body) ≤ 65536 → Reopens subkey pad header body
reopens subkey pad header body short count = record {
  accepted = sealed_accepted subkey pad header body short count;
  again = record {
    same_header = sealed_header subkey pad header body;
    same_body = sealed_body subkey pad header body;
  };
}

module _ (subkey : Block) (pad : Pad) (file : List ℕ) (small : AreBytes file) where
  -- an accepted file is what the writer makes
  pub accepted_seal : (lens : Lengths) → verdict subkey pad file ≡ Ok lens
      → IsSealOf subkey pad (header_in file) (body_in file) file
  accepted_seal lens e =
      let through : Passed file = (accepted_parts subkey pad file lens e).through in
      let made : file ≡ sealed_file subkey pad (header_in file) (body_in file) = accepted_sealed subkey pad file lens small e in
      let size : HasFileSize file = through.pass.size in
      let long = ap length made ∙ length_sealed subkey pad (header_in file) (body_in file) in
      record { short = through.short; few = omega (arith, long); made = made }

  -- what the writer makes is accepted
  pub seal_accepted : (header body : List ℕ) → IsSealOf subkey pad header body file
      → verdict subkey pad file ≡ Ok (lengths_of header body)
  seal_accepted header body seal = ap (verdict subkey pad) seal.made ∙ sealed_accepted subkey pad header body seal.short seal.few

  pub exact : Exact subkey pad file (verdict subkey pad file)
  exact = record {
    exactly = (
      λ ok. let lens = value_of (verdict subkey pad file) ok in accepted_seal lens.0 lens.1,
      λ seal. ap is_ok (seal_accepted (header_in file) (body_in file) seal),
    );
    lengths = if_value (verdict subkey pad file) _ (λ lens e. (accepted_parts subkey pad file lens e).read);
    only = λ header body seal. record {
      same_header = ap header_in seal.made ∙ sealed_header subkey pad header body;
      same_body = ap body_in seal.made ∙ sealed_body subkey pad header body;
    };
  }
