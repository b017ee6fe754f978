use Rattle.std.proofs.Common.{◌≡◌, ℕ, ◌+◌, ◌-◌, ◌*◌, ◌%◌, ◌^◌, List, [], length, get_or, map, sym, ap, ap₂, ◌∙◌, arith, rules}
use Rattle.field.specs.Bytes.{word_of}
use Rattle.field.specs.Digits.{numeral}
use Rattle.field.specs.Evaluation.{power, eval_from}
use Rattle.field.specs.Residues.{entered_mod}
use Rattle.field.specs.Instances.{word_residues, word_ring_laws}
use Rattle.field.specs.Kinds.{word_ring}
use Rattle.field.specs.declared.word.Word.{Word}
use Rattle.field.proofs.Digits.{spelled, spells_length}
use Rattle.field.proofs.Groups.{weighted_sum, word_from}
use Rattle.field.proofs.powers.Powers.absorb.Goals as goal

-- the sum from the left, and the same from the right
gather : (v a b c d e f v' a' b' c' d' e' f' : ℕ) → v ≡ v' → a ≡ a' → b ≡ b' → c ≡ c' → d ≡ d' → e ≡ e' → f ≡ f'
    → v + a + b + c + d + e + f ≡ v' + (a' + (b' + (c' + (d' + (e' + (f' + 0))))))
gather v a b c d e f v' a' b' c' d' e' f' hv ha hb hc hd he hf = omega arith

pub returns : goal.returns
returns c =
    let powers = c.args.self.now in
    let r : Word = powers.first in
    let v : Word = c.args.value in
    let raised : ℕ → Word = λ n. power word_ring r n in
    let one : r ≡ raised 1 = sym (word_ring_laws.product_one r) in
    let two : powers.second ≡ raised 2 = powers.second_is ∙ ap (word_ring.product r) one in
    let three : powers.third ≡ raised 3 = powers.third_is ∙ ap (word_ring.product r) two in
    let four : powers.fourth ≡ raised 4 = powers.fourth_is ∙ ap (word_ring.product r) three in
    let five : powers.fifth ≡ raised 5 = powers.fifth_is ∙ ap (word_ring.product r) four in
    let six : powers.sixth ≡ raised 6 = powers.sixth_is ∙ ap (word_ring.product r) five in
    let at : ℕ → List ℕ = λ k. get_or c.args.group.now k [] in
    let long : length c.args.group.now ≡ 6 = search rules in
    let spelt : c.args.group.now ≡ spelled 6 at = spells_length [] c.args.group.now 6 long in
    let term : ℕ → ℕ → ℕ = λ k n. numeral 256 (at k) * (raised n).value in
    let weighs : (k n : ℕ) (w : Word) (made : ℕ) → made ≡ numeral 256 (at k) * w.value → w ≡ raised n → made ≡ term k n =
    λ k n w made found same. found ∙ ap (λ (x : Word). numeral 256 (at k) * x.value) same in
    let first = weighs 0 6 _ _ c.weigh.ensures.value six in
    let second = weighs 1 5 _ _ c.weigh-2.ensures.value five in
    let third = weighs 2 4 _ _ c.weigh-3.ensures.value four in
    let fourth = weighs 3 3 _ _ c.weigh-4.ensures.value three in
    let fifth = weighs 4 2 _ _ c.weigh-5.ensures.value two in
    let sixth = weighs 5 1 _ _ c.weigh-6.ensures.value one in
    let risen : c.from.result * c.from-2.result ≡ v.value * (raised 6).value =
    ap₂ (λ (x y : ℕ). x * y) c.from.ensures c.from-2.ensures ∙ ap (λ (w : Word). v.value * w.value) six in
    let total : ℕ = v.value * (raised 6).value + weighted_sum r (spelled 6 at) in
    let summed : c.remainder.result ≡ total % (2 ^ 31 - 1) =
    c.remainder.ensures
    ∙ ap (λ (n : ℕ). n % (2 ^ 31 - 1)) (gather _ _ _ _ _ _ _ _ _ _ _ _ _ _ risen first second third fourth fifth sixth) in
    entered_mod word_residues _ total summed
    ∙ word_from r v (spelled 6 at)
    ∙ ap (λ (ns : List (List ℕ)). eval_from word_ring r v (map word_of ns)) (sym spelt)
