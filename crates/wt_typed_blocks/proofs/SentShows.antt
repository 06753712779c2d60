-- What is sent of an edit that types texts shows the page's nodes, but in these blocks their texts.
use Rattle.std.proofs.Common.{◌≡◌, ap, sym, ◌∙◌, subst}
use Rattle.wt_tree.specs.Opened.{without_sections}
use Rattle.wt_tree.specs.Plain.{ended}
use Rattle.wt_tree.specs.Tiling.{NoneIsGroup, InPreorder}
use Rattle.wt_tree.specs.Tree.{Label, Tree}
use Rattle.wt_checks.specs.BareSections.{HasBareSections}
use Rattle.wt_visible.specs.Children.{shown_children, listed}
use Rattle.wt_visible.specs.Restored.{restored_from}
use Rattle.wt_typed_blocks.specs.Sent.{Sents, old_children, AreSent, AreOutsideGroups, old_body, new_body, all_show}
use Rattle.wt_typed_blocks.proofs.AsEdits.{as_edits, pages_are, page_body_is, sent_body_is, are_edited, all_outside, all_shown}
use Rattle.wt_typed_blocks.proofs.EditedShows as content

pub page_shows : (t : Tree) (l b : Label) (ss : Sents) → HasBareSections t → without_sections t ≡ old_body l ss → InPreorder (old_body l ss)
    → AreSent ss → AreOutsideGroups ss → shown_children (restored_from t (new_body l b ss)) ≡ listed (all_show ss)
page_shows t l b ss bare w pre h o =
    ap (λ u. shown_children (restored_from t u)) (sym (sent_body_is l b ss))
    ∙ content.page_shows t l b (as_edits ss) bare (w ∙ sym (page_body_is l ss)) (subst InPreorder (sym (page_body_is l ss)) pre) (are_edited ss h)
    (all_outside ss o)
    ∙ ap listed (all_shown ss ended)

pub body_shows : (t : Tree) (l b : Label) (ss : Sents) → AreSent ss → NoneIsGroup (old_children ss)
    → shown_children (restored_from t (new_body l b ss)) ≡ listed (all_show ss)
body_shows t l b ss h g =
    ap (λ u. shown_children (restored_from t u)) (sym (sent_body_is l b ss))
    ∙ content.body_shows t l b (as_edits ss) (are_edited ss h) (subst NoneIsGroup (sym (pages_are ss)) g)
    ∙ ap listed (all_shown ss ended)
