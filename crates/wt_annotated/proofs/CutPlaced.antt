-- What is known of a placed tree before its texts are cut: no text has a closing delimiter, and no leaf but a group has children.
use Rattle.std.proofs.Common.{◌≡◌, ℕ, ◌+◌, Bool, true, false, List, [], refl, ap}
use Rattle.wt_tree.specs.declared.kind.Kind.{Kind}
use Rattle.wt_tree.specs.Kinds.{writing, is_leaf}
use Rattle.wt_recut.specs.Recut.{is_as_text}
use Rattle.wt_tree.specs.Tiling.{is_group}
use Rattle.wt_tree.specs.Tree.{Trees}
use Rattle.wt_span.specs.Cuts.{text_between}
use Rattle.wt_span.specs.Items.{Item}
use Rattle.wt_span.specs.Origins.{OuterCall}
use Rattle.wt_annotated.specs.WithoutCalls.{inside_by}
use Rattle.wt_annotated.specs.Labels.{if_inner}
use Rattle.wt_annotated.specs.Annotated.{placed, all_placed}
use Rattle.wt_annotated.specs.Grouped.{Grouped, kept, group, GroupedAll, ended, along}
use Rattle.wt_annotated.proofs.CutTexts.{leaf_text, BareInside, BareTexts, AllBareTexts}
use Rattle.wt_annotated.proofs.Tiles.{Carried}

no_closing : (k : Kind) (bs : List ℕ) → is_as_text (writing k) ≡ true → if_inner (is_leaf k) bs ≡ []
no_closing k bs e = ap (λ v. if_inner v bs) (leaf_text k e)

bare_inside : (g leaf : Bool) (us : Trees) → AllBareTexts us → BareInside g leaf (inside_by leaf us) (AllBareTexts (inside_by leaf us))
bare_inside true leaf us h = tt
bare_inside false true us h = refl
bare_inside false false us h = h

mutual
  pub placed_bare : (calls : List OuterCall) (carried : Carried) (all : List Item) (g : Grouped) → BareTexts (placed calls carried all g)
  placed_bare calls carried all (kept h n o i c gs) = (
    no_closing h.kind (text_between calls all (n + o + i) c),
    bare_inside (is_group h.kind) (is_leaf h.kind) (all_placed calls carried all gs) (all_placed_bare calls carried all gs),
  )
  placed_bare calls carried all (group n k ts) = (λ e. refl, tt)

  all_placed_bare : (calls : List OuterCall) (carried : Carried) (all : List Item) (gs : GroupedAll) → AllBareTexts (all_placed calls carried all gs)
  all_placed_bare calls carried all ended = tt
  all_placed_bare calls carried all (along g gs) = (placed_bare calls carried all g, all_placed_bare calls carried all gs)
