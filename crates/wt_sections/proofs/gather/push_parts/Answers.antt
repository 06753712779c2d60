use Rattle.std.proofs.Common.{◌≡◌, [], ◌∷◌, ◌++◌, rules, sym, ap, ◌∙◌}
use Rattle.wt_recut.specs.Recutting.{appended}
use Rattle.wt_tree.specs.View.{views}
use Rattle.wt_recut.proofs.Recuts.{appended_none}
use Rattle.wt_sections.specs.Gathering.{parts_view}
use Rattle.wt_sections.specs.Sections.{part_trees}
use Rattle.wt_sections.proofs.Gathers.{parts_step}
use Rattle.wt_sections.proofs.gather.push_parts.Goals as goal

pub loop-part-preserved : goal.loop-part-preserved
loop-part-preserved c =
    parts_step c.loop-part.out.items c.push.new.self.items c.loop-part.left.items c.pop.new.self.items c.in-Some.part
    c.in-Some.ensures.items c.in_ok-push.ensures.items
    ∙ c.loop-part.invariant

pub returns : goal.returns
returns c =
    let none : c.loop-part.left.items ≡ [] = search rules in
    sym (appended_none (views c.loop-part.out.items))
    ∙ ap (λ xs. appended (views c.loop-part.out.items) (part_trees (parts_view xs))) (sym none)
    ∙ c.loop-part.invariant
