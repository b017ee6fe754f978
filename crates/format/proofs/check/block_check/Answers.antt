use Rattle.std.proofs.Common.{map, ap, ◌∙◌, ap₂}
use Rattle.field.specs.Bytes.{word_of}
use Rattle.field.specs.Evaluation.{eval_from}
use Rattle.field.specs.Instances.{word_ring_laws}
use Rattle.field.specs.Kinds.{word, word_ring}
use Rattle.field.specs.declared.word.Word.{Word}
use Rattle.field.proofs.Horner.{eval_from_zero}
use Rattle.format.specs.Layout.{words_of, check_of}
use Rattle.format.proofs.check.block_check.Goals as goal

pub returns : goal.returns
unfolding check_of
returns c =
    let words = words_of c.args.bytes.now in
    c.value.ensures
    ∙ ap (λ (v : Word). v.value)
    (c.evaluate.ensures
    ∙ ap (λ xs. eval_from word_ring c.new.result c.zero.result (map word_of xs)) c.as_chunks.ensures.front
    ∙ ap₂ (λ (key start : Word). eval_from word_ring key start words) c.new.ensures c.zero.ensures
    ∙ eval_from_zero word_ring word_ring_laws (word 16807) words)
