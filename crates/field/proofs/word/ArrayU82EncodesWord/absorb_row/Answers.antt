use Rattle.std.proofs.Common.{◌≡◌, ℕ, ◌/◌, List, fold, length, map, sym, ap, ◌∙◌, ap₂, rules}
use Rattle.std.proofs.lemmas.Iterator.{YieldsList-from_slice}
use Rattle.std.proofs.lemmas.Iterator.Consumers.{fold_from_yields_List}
use Rattle.std.proofs.lemmas.List.Folds.{fold-map}
use Rattle.field.specs.Bytes.{word_of}
use Rattle.field.specs.Evaluation.{eval_from, horner}
use Rattle.field.specs.Instances.{word_ring_laws}
use Rattle.field.specs.Kinds.{word_ring}
use Rattle.field.specs.declared.word.Word.{Word}
use Rattle.field.proofs.Horner.{fold_horner, horner_from}
use Rattle.field.proofs.Groups.{by_groups}
use Rattle.field.proofs.word.ArrayU82EncodesWord.absorb_row.Goals as goal

pub returns : goal.returns
returns c =
    let r : Word = c.args.key in
    let items : List (List ℕ) = c.args.items.now in
    let groups : List (List (List ℕ)) = c.as_chunks.result.0.now in
    let rest : List (List ℕ) = c.as_chunks.result.1.now in
    let n : ℕ = length items / 6 in
    let taken : Word → Word → Word = λ value item. word_ring.product (word_ring.sum value item) r in
    let group_in : Word → List (List ℕ) → Word = λ value group. eval_from word_ring r value (map word_of group) in
    let whole : c.fold-whole.result ≡ fold group_in c.args.start groups =
    fold_from_yields_List _ group_in _ _ c.fold-whole.ensures.ran
    (YieldsList-from_slice groups c.iter.ensures.rest) (λ value item q s k. search rules) in
    let left : c.fold.result ≡ horner word_ring r c.fold-whole.result (map word_of rest) =
    fold_from_yields_List _ (λ value item. taken value (word_of item)) _ _ c.fold.ensures.ran
    (YieldsList-from_slice rest c.iter-2.ensures.rest) (λ value item q s k. search rules)
    ∙ sym (fold-map taken word_of c.fold-whole.result rest)
    ∙ fold_horner word_ring word_ring_laws r c.fold-whole.result (map word_of rest) in
    left
    ∙ ap₂ (λ (v : Word) (ps : List (List ℕ)). horner word_ring r v (map word_of ps))
    (whole ∙ ap (fold group_in c.args.start) c.as_chunks.ensures.front) c.as_chunks.ensures.back
    ∙ by_groups word_ring word_ring_laws word_of r 6 n c.args.start items
    ∙ horner_from word_ring word_ring_laws r c.args.start (map word_of items)
