-- The evaluation of two rows of one length, xored, and the hashes of two runs.
use Rattle.std.proofs.Common.{◌≡◌, ℕ, suc, ◌+◌, Bool, List, [], ◌∷◌, ◌++◌, length, sym, refl, ap, ◌∙◌, subst, ap₂, arith, length-append}
use Rattle.field.specs.Evaluation.{power, eval}
use Rattle.field.specs.Kinds.{block_ring}
use Rattle.field.specs.declared.block.Block.{Block}
use Rattle.field.proofs.Horner.{sum_product}
use Rattle.field.specs.Instances.{block_ring_laws}
use Rattle.message.specs.Blocks.{blocks_taken, blocks, block_of_lengths, block_list}
use Rattle.message.specs.Hash.{hash_of}
use Rattle.message.specs.declared.digest.Digest.{Digest}
use Rattle.message.specs.declared.digest.Pad.{Pad}
use Rattle.message.proofs.Cutting.{length_blocks}
use Rattle.engine.specs.declared.engine.Engine.{Ghosts}
use Rattle.job.specs.Differences.{xor_list, SameLengths, difference_of, XorIsEvaluation, xor_of_runs, RunsXorIsEvaluation}
use Rattle.job.specs.Jobs.{Closes}
use Rattle.job.specs.Runs.{taken_header, taken_body, Replays}
use Rattle.job.specs.declared.call.Calls.{Calls}
use Rattle.job.specs.declared.closed.Closed.{Closed}

four : (a b c d : Block)
    → block_ring.sum (block_ring.sum a b) (block_ring.sum c d) ≡ block_ring.sum (block_ring.sum a c) (block_ring.sum b d)
four a b c d =
    block_ring_laws.sum_assoc a b (block_ring.sum c d)
    ∙ ap (block_ring.sum a)
    (sym (block_ring_laws.sum_assoc b c d) ∙ ap (λ x. block_ring.sum x d) (block_ring_laws.sum_comm b c)
    ∙ block_ring_laws.sum_assoc c b d)
    ∙ sym (block_ring_laws.sum_assoc a c (block_ring.sum b d))

length_xor_list : (ps qs : List Block) → length ps ≡ length qs → length (xor_list ps qs) ≡ length ps
length_xor_list [] qs same = refl
length_xor_list (p ∷ ps) [] same = absurd (omega arith)
length_xor_list (p ∷ ps) (q ∷ qs) same = ap suc (length_xor_list ps qs (omega arith))

eval_xor_list : (h : Block) (ps qs : List Block) → length ps ≡ length qs
    → eval block_ring h (xor_list ps qs) ≡ block_ring.sum (eval block_ring h ps) (eval block_ring h qs)
eval_xor_list h [] [] same = sym (block_ring_laws.sum_zero block_ring.zero)
eval_xor_list h [] (q ∷ qs) same = absurd (omega arith)
eval_xor_list h (p ∷ ps) [] same = absurd (omega arith)
eval_xor_list h (p ∷ ps) (q ∷ qs) same =
    let one_less : length ps ≡ length qs = omega arith in
    let w : Block = power block_ring h (suc (length ps)) in
    ap₂ block_ring.sum
    (ap (λ n. block_ring.product (block_ring.sum p q) (power block_ring h (suc n))) (length_xor_list ps qs one_less)
    ∙ sum_product block_ring block_ring_laws p q w)
    (eval_xor_list h ps qs one_less)
    ∙ four (block_ring.product p w) (block_ring.product q w) (eval block_ring h ps) (eval block_ring h qs)
    ∙ ap (λ n. block_ring.sum (eval block_ring h (p ∷ ps))
    (block_ring.sum (block_ring.product q (power block_ring h (suc n))) (eval block_ring h qs))) one_less

block_count_same : (header body : List ℕ)
    → length (block_list header body) ≡ blocks_taken (length header) + (blocks_taken (length body) + 1)
block_count_same header body =
    length-append (blocks header) (blocks body ++ (block_of_lengths header body ∷ []))
    ∙ ap₂ (λ m n. m + n) (length_blocks header)
    (length-append (blocks body) (block_of_lengths header body ∷ []) ∙ ap (λ n. n + 1) (length_blocks body))

pub hashes_differ : (h : Block) (header body header' body' : List ℕ) → SameLengths header body header' body'
    → block_ring.sum (hash_of h header body) (hash_of h header' body') ≡ difference_of h header body header' body'
unfolding hash_of difference_of
hashes_differ h header body header' body' same =
    sym
    (eval_xor_list h (block_list header body) (block_list header' body')
    (block_count_same header body ∙ ap₂ (λ m n. blocks_taken m + (blocks_taken n + 1)) same.headers same.bodies
    ∙ sym (block_count_same header' body')))

-- what is said of two closed jobs, of the runs that they end
module _ {A B : Type 0} (a : Ghosts A) (b : Ghosts B) (first : A) (first_calls : Calls) (second : B) (second_calls : Calls)
    (pad : Pad) (one : Closed A) (two : Closed B) (xor : Block)
    (ran : Replays a first first_calls pad one) (ran' : Replays b second second_calls pad two) where
  pub runs_sum : xor ≡ block_ring.sum one.digest.hash two.digest.hash
      → xor ≡ xor_of_runs a b first first_calls second second_calls
  runs_sum said =
      said ∙ ap₂ block_ring.sum (ap (λ (d : Digest). d.hash) ran.closes.digest) (ap (λ (d : Digest). d.hash) ran'.closes.digest)

  pub runs_differ : XorIsEvaluation a b one two xor → RunsXorIsEvaluation a b first first_calls second second_calls xor
  runs_differ law alike =
      let header' : List ℕ = taken_header b second second_calls in
      let body' : List ℕ = taken_body b second second_calls in
      let can_switch' : Bool = b.ready_of second in
      law (a.subkey_of first) (a.ready_of first) can_switch' pad pad
      (taken_header a first first_calls) (taken_body a first first_calls) header' body' ran.closes
      (subst (λ (k : Block). Closes b k can_switch' pad two header' body') (sym alike.subkey) ran'.closes)
      alike.lengths
