use Rattle.std.proofs.Common.{◌≡◌, ◌++◌, ◌∷◌, [], length, true, ap, ◌∙◌}
use Rattle.std.specs.Prelude.{◌==◌}
use Rattle.std.proofs.lemmas.Bool.Decides.{Decides-eqb}
use Rattle.std.proofs.lemmas.List.{map-append}
use Rattle.wt_tree.specs.Plain.{text}
use Rattle.wt_visible.specs.Views.{child_view, children_view}
use Rattle.wt_visible.proofs.ShownChildren.{something_closed}
use Rattle.wt_visible.proofs.children.end_text.Goals as goal

pub returns : goal.returns
returns c =
    let old = c.args.shown.now in
    record {
      children = something_closed (children_view old.done.items) (children_view c.push.new.self.items) old.text.items
          (λ z. let t : (length old.text.items == 0) ≡ true = (Decides-eqb (length old.text.items) 0).1 z in let f = c.if-is_empty.ensures in absurd (cc))
          (ap children_view c.in_ok-push.ensures.items ∙ map-append child_view old.done.items _
          ∙ ap (λ v. children_view old.done.items ++ text v.items ∷ []) c.replace-text.ensures.value);
      text = ap (λ v. v.items) c.replace-text.ensures.after ∙ c.new.ensures.items;
    }
