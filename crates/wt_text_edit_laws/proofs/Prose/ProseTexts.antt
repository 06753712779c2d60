-- Each paragraph of prose is a block of text, with items of the page itself; and so the tree of prose.
use Rattle.std.proofs.Common.{◌≡◌, ℕ, List, [], ◌∷◌, sym, ap, ◌∙◌, subst, All}
use Rattle.std.proofs.lemmas.List.Elements.{All-head}
use Rattle.wt_span.specs.Items.{Item}
use Rattle.wt_span.specs.Origins.{Expanded}
use Rattle.wt_tree.specs.Tree.{Tree}
use Rattle.wt_guards.specs.Content.{letters}
use Rattle.wt_guards.specs.Guards.{Setting, spelled}
use Rattle.wt_lines.specs.declared.kind.LineKind.TheVariants as line
use Rattle.wt_lines.specs.Lines.{lines}
use Rattle.wt_lines.specs.Kinds.{line_kind}
use Rattle.wt_expand.specs.PageCalls.{expanded_page}
use Rattle.wt_expand.specs.PageItems.{page_items}
use Rattle.wt_expand.specs.Work.{Pages}
use Rattle.wt_typed_blocks.proofs.TextKinds.{lines_are_text}
use Rattle.wt_page.specs.Body.{meaning}
use Rattle.wt_annotated.specs.Annotated.{annotated}
use Rattle.wt_annotated.specs.GroupData.{group_data}
use Rattle.wt_text_edit_laws.specs.TypedPages.{IsTypedPage}
use Rattle.wt_text_edit_laws.proofs.Texts.PlainRows.{no_text}
use Rattle.wt_text_edit_laws.proofs.Texts.TypedItems.{typed_still, typed_own}
use Rattle.wt_text_edit_laws.proofs.Texts.TypedLeaves.{AreOwn, leaves, HasAny, has_any}
use Rattle.wt_text_edit_laws.specs.ProsePages.{Passage, prose, AreProse}
use Rattle.wt_text_edit_laws.specs.ProseTrees.{prose_body}
use Rattle.wt_text_edit_laws.proofs.Prose.ProseReading.{items_of_prose, prose_expanded}
use Rattle.wt_text_edit_laws.proofs.Prose.ProseLines.{IsTextBlock, text_block, AreBlocks}
use Rattle.wt_text_edit_laws.proofs.Prose.ProseBlocks.{meaning_of}
use Rattle.wt_text_edit_laws.proofs.Prose.ProseTrees.{AreWritten, prose_annotated}

abbrev IsText : List Item → Type 0
IsText l = line_kind 0 l ≡ line.Text

pub some_leaf : (xs : List Item) → All IsText (lines xs) → HasAny (leaves xs)
some_leaf [] a = absurd (no_text (All-head IsText [] [] a))
some_leaf (x ∷ xs) a = has_any x xs

abbrev pub IsWritten : List ℕ → Type 0
IsWritten q = IsTextBlock (page_items q) × AreOwn (page_items q) × HasAny (leaves (page_items q))

typed_written : (s : Setting) (text : List ℕ) → All IsText (lines (page_items (spelled s (letters text)))) → IsWritten (spelled s (letters text))
typed_written s text a =
    let xs : List Item = page_items (spelled s (letters text)) in
    (text_block xs (typed_still s text) a, typed_own s text, some_leaf xs a)

pub written : (q : List ℕ) → IsTypedPage q → IsWritten q
written q h = subst IsWritten (sym h.is) (typed_written h.setting h.text (lines_are_text h.setting h.text 0 h.utf8 h.of_block))

pub prose_texts : (ps : List Passage) → AreProse ps → AreBlocks ps
prose_texts [] h = absurd h
prose_texts (p ∷ []) h = ((written p.paragraph h).0, tt)
prose_texts (p ∷ q ∷ ps) h = ((written p.paragraph h.0).0, prose_texts (q ∷ ps) h.2)

pub prose_written : (ps : List Passage) → AreProse ps → AreWritten ps
prose_written [] h = absurd h
prose_written (p ∷ []) h = let w = written p.paragraph h in (w.1, w.2, tt)
prose_written (p ∷ q ∷ ps) h = let w = written p.paragraph h.0 in (w.1, w.2, prose_written (q ∷ ps) h.2)

-- the tree of such items, without its sections
abbrev plainly : Expanded → Tree
plainly e = annotated e.outer (group_data e.outer) (meaning e.items)

pub prose_tree : (pages : Pages) (ps : List Passage) → AreProse ps → plainly (expanded_page pages (prose ps)) ≡ prose_body ps
prose_tree pages ps h =
    ap plainly (prose_expanded pages ps h)
    ∙ ap (λ xs. annotated [] (group_data []) (meaning xs)) (items_of_prose ps h)
    ∙ ap (annotated [] (group_data [])) (meaning_of ps h (prose_texts ps h))
    ∙ prose_annotated ps (prose_written ps h)
