-- The page of a typed text, whatever it is: what it means, and what its tree shows.
use Rattle.std.proofs.Common.{◌≡◌, ℕ, false, List, [], ◌∷◌, length, ap, ◌∙◌, All}
use Rattle.std.specs.Str.{IsUtf8}
use Rattle.std.proofs.lemmas.List.Elements.{All-head}
use Rattle.wt_span.specs.Items.{Item}
use Rattle.wt_guards.specs.Content.{letters}
use Rattle.wt_guards.specs.Guards.{Setting, spelled}
use Rattle.wt_lines.specs.declared.kind.LineKind.TheVariants as line
use Rattle.wt_lines.specs.Lines.{lines}
use Rattle.wt_lines.specs.Kinds.{line_kind}
use Rattle.wt_devices.specs.Device.{Pages}
use Rattle.wt_expand.specs.PageItems.{page_items}
use Rattle.wt_expand.proofs.PageLaws.{page_sources}
use Rattle.wt_typed_blocks.proofs.TextKinds.{lines_are_text}
use Rattle.wt_annotated.specs.Annotated.{annotated}
use Rattle.wt_annotated.specs.GroupData.{group_data}
use Rattle.wt_sections.specs.Sections.{with_sections}
use Rattle.wt_page_round_trip.specs.PageTree.{expanded_tree, page_tree}
use Rattle.wt_visible.specs.Children.{shown_children}
use Rattle.wt_text_edit_laws.specs.LonePages.{one_shown}
use Rattle.wt_text_edit_laws.proofs.Texts.PlainRows.{no_text, meaning_typed}
use Rattle.wt_text_edit_laws.proofs.Texts.TypedText.{typed_expanded}
use Rattle.wt_text_edit_laws.proofs.Texts.TypedLeaves.{leaves, HasAny, has_any}
use Rattle.wt_text_edit_laws.proofs.Texts.TypedItems.{typed_still, typed_own, typed_shows}
use Rattle.wt_text_edit_laws.proofs.Texts.TypedShown.{page_shows}
use Rattle.wt_text_edit_laws.proofs.Texts.TypedAgain.{old_page}
use Rattle.wt_text_edit_laws.proofs.Texts.TypedNodes.{nodes}
use Rattle.wt_text_edit_laws.proofs.Texts.TypedTrees.{leaves_tree}

abbrev IsText : List Item → Type 0
IsText l = line_kind 0 l ≡ line.Text

-- there is no text without a line, and no line of text without an item
some_leaf : (xs : List Item) → All IsText (lines xs) → HasAny (leaves xs)
some_leaf [] a = absurd (no_text (All-head IsText [] [] a))
some_leaf (x ∷ xs) a = has_any x xs

pub typed_tree : (pages : Pages) (s : Setting) (text : List ℕ) → IsUtf8 text → s.within ≡ false → page_tree pages (spelled s (letters text))
    ≡ old_page (length (spelled s (letters text))) (nodes 2 [] (leaves (page_items (spelled s (letters text)))))
typed_tree pages s text u w =
    let bs : List ℕ = spelled s (letters text) in
    let xs : List Item = page_items bs in
    let are : All IsText (lines xs) = lines_are_text s text 0 u w in
    ap expanded_tree (typed_expanded pages s text u)
    ∙ ap (λ t. with_sections (annotated [] (group_data []) t)) (meaning_typed xs (typed_still s text) are)
    ∙ leaves_tree xs (typed_own s text) (some_leaf xs are)
    ∙ ap (λ cs. old_page (length cs) (nodes 2 [] (leaves xs))) (page_sources bs)

pub typed_tree_shows : (pages : Pages) (s : Setting) (text : List ℕ) → IsUtf8 text → s.within ≡ false
    → shown_children (page_tree pages (spelled s (letters text))) ≡ one_shown text
typed_tree_shows pages s text u w =
    let xs : List Item = page_items (spelled s (letters text)) in
    let are : All IsText (lines xs) = lines_are_text s text 0 u w in
    ap (λ e. shown_children (expanded_tree e)) (typed_expanded pages s text u)
    ∙ ap (λ t. shown_children (with_sections (annotated [] (group_data []) t))) (meaning_typed xs (typed_still s text) are)
    ∙ page_shows xs (typed_own s text) (some_leaf xs are)
    ∙ ap one_shown (typed_shows s text u)
