-- What a body that is sent so shows.
use Rattle.std.proofs.Common.{◌≡◌, [], ◌∷◌, refl, ap, ◌∙◌}
use Rattle.std.specs.Prelude.{None}
use Rattle.wt_tree.specs.Plain.{Plains, ended, along, element, text_before, plain_before, plains_before}
use Rattle.wt_tree.specs.declared.kind.Kind.TheVariants as kind
use Rattle.wt_tree.specs.Tiling.{NoneIsGroup}
use Rattle.wt_tree.specs.Tree.{Label, Tree}
use Rattle.wt_checks.specs.Places.{Page, page_of}
use Rattle.wt_visible.specs.Children.{shown_children, listed}
use Rattle.wt_visible.specs.Restored.{restored, all_restored, restored_from}
use Rattle.wt_typed_blocks.specs.Coming.{Coming, no_more, spaced, comes, stays, goes, page_children, sent_children, body_sent, AllStay, coming_before, coming_shows}
use Rattle.wt_typed_blocks.proofs.EditedShows.{none_to_find, shows_same}

abbrev with_paragraph : Plains → Plains → Plains
with_paragraph text rest = along (element (record { kind = kind.Para; attrs = []; mw = None }) text) rest

children_show : (page : Page) (cs : Coming) (rest : Plains) → AllStay cs → NoneIsGroup (page_children cs)
    → plains_before (all_restored page (sent_children cs)) rest ≡ coming_before cs rest
children_show page no_more rest h g = refl
children_show page (spaced x cs) rest h g = children_show page cs rest h g
children_show page (comes m x [] cs) rest h g = ap (with_paragraph ended) (children_show page cs rest h g)
children_show page (comes m x (b ∷ bs) cs) rest h g = ap (with_paragraph (text_before (b ∷ bs) ended)) (children_show page cs rest h g)
children_show page (stays t u cs) rest h g =
    ap (λ (ps : Plains). plain_before (restored page u) ps) (children_show page cs rest h.1 g.1)
    ∙ shows_same page t u (coming_before cs rest) h.0.as_is (none_to_find page t g.0)
children_show page (goes t cs) rest h g = children_show page cs rest h g.1

-- where there is no group, of any page
pub body_shows : (t : Tree) (l b : Label) (cs : Coming) → AllStay cs → NoneIsGroup (page_children cs)
    → shown_children (restored_from t (body_sent l b cs)) ≡ listed (coming_shows cs)
body_shows t l b cs h g = ap listed (children_show (page_of t) cs ended h g)
