use Rattle.std.proofs.Common.{List, sym, ◌∙◌, rules}
use Rattle.std.proofs.lemmas.Iterator.{YieldsList-from_slice}
use Rattle.std.proofs.lemmas.Iterator.Consumers.{fold_from_yields_List}
use Rattle.std.proofs.lemmas.List.Folds.{fold-map}
use Rattle.std.specs.Prelude.{map}
use Rattle.field.proofs.Horner.{fold_from}
use Rattle.field.proofs.encodes.Encodes.absorb_row.Goals as goal

pub returns : goal.returns
returns g c =
    let m = g.E.Element in
    let E : Type 0 = g.row.E.Denot in
    let T : Type 0 = g.row.Self.Denot in
    let element : T → E = g.Self.Encodes.element in
    let taken : E → E → E = λ value item. m.product (m.sum value item) c.args.key in
    let items : List T = c.args.items.now in
    fold_from_yields_List _ (λ value item. taken value (element item)) _ _ c.fold.ensures.ran
    (YieldsList-from_slice items c.iter.ensures.rest) (λ value item r q k. search rules)
    ∙ sym (fold-map taken element c.args.start items)
    ∙ fold_from m g.met.E.Element.ring c.args.key c.args.start (map element items)
