use Rattle.std.proofs.Common.{ap, sym, ◌∙◌, subst, ◌<◌, length, List, refl, ◌≡◌}
use Rattle.wt_span.specs.Items.{Item, items, items_of, call_of_origin}
use Rattle.wt_inline.specs.Parts.{are_of}
use Rattle.wt_inline.proofs.Trees.{items_first}
use Rattle.wt_inline.proofs.Growing.{chars_are}
use Rattle.wt_inline.proofs.run.Run.begun.Goals as goal

pub invariant_of-result : goal.invariant_of-result
invariant_of-result c =
    let p = c.args.piece in
    let is : items c.push.new.self ≡ items_of p = items_first c.in_ok-pieces.pieces c.push.new.self p c.in_ok-pieces.ensures c.in_ok-push.ensures.ok in
    record {
      some = subst (λ (xs : List Item). 0 < length xs) (sym is) c.requires.some;
      one_origin = ap (are_of (call_of_origin p.origin)) is ∙ chars_are p.form (call_of_origin p.origin)
          (call_of_origin p.origin) p.text.of.now c.requires.chars refl;
    }
