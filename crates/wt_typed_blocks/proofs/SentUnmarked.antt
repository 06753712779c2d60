-- The difference of what was sent marks the blocks in which texts were typed, and nothing else.
use Rattle.std.proofs.Common.{◌≡◌, false, ap, sym, ◌∙◌, subst}
use Rattle.wt_tree.specs.declared.kind.Kind.TheVariants as kind
use Rattle.wt_tree.specs.Opened.{without_sections}
use Rattle.wt_tree.specs.Tiling.{InPreorder}
use Rattle.wt_tree.specs.Tree.{Label, Tree, label}
use Rattle.wt_checks.specs.BareSections.{HasBareSections}
use Rattle.wt_checks.specs.PutBack.{have_frame}
use Rattle.wt_difference.specs.Remarked.{remarked}
use Rattle.wt_typed_blocks.specs.Sent.{Sents, old_children, AreSent, old_body, new_body}
use Rattle.wt_typed_blocks.specs.Unmarked.{free_body, AreToldApart}
use Rattle.wt_typed_blocks.proofs.AsEdits.{as_edits, pages_are, page_body_is, sent_body_is, bare_body_is, are_edited, all_told}
use Rattle.wt_typed_blocks.proofs.EditedUnmarked as content

pub told_by_difference : (t : Tree) (l b : Label) (ss : Sents) → (label t).kind ≡ kind.Body → InPreorder t → HasBareSections t
    → without_sections t ≡ old_body l ss → InPreorder (old_body l ss) → have_frame (old_children ss) ≡ false
    → AreSent ss → AreToldApart ss → remarked t (free_body l b ss) ≡ new_body l b ss
told_by_difference t l b ss k pre bare w pre_opened f h a =
    ap (remarked t) (sym (bare_body_is l b ss))
    ∙ content.told_by_difference t l b (as_edits ss) k pre bare (w ∙ sym (page_body_is l ss)) (subst InPreorder (sym (page_body_is l ss)) pre_opened)
    (ap have_frame (pages_are ss) ∙ f) (are_edited ss h) (all_told ss a)
    ∙ sent_body_is l b ss
