-- A paragraph or a heading whose content is read by itself is a page of its own: so no node in it is a group, a body or a section.
use Rattle.std.proofs.Common.{◌≡◌, ℕ, ◌+◌, Bool, true, false, None, List, [], ◌∷◌, ◌++◌, map, refl, sym, ap, ◌∙◌, subst, append-nil, All, arith}
use Rattle.std.specs.Prelude.{if◌then◌else◌}
use Rattle.std.specs.Str.{IsUtf8}
use Rattle.std.proofs.lemmas.List.Elements.{All-head, All-tail}
use Rattle.wt_devices.specs.Device.{Pages}
use Rattle.wt_span.specs.Items.{Item}
use Rattle.wt_lines.specs.declared.kind.LineKind.TheVariants as line
use Rattle.wt_lines.specs.Lines.{content}
use Rattle.wt_inline.specs.ItemTree.{ItemTree, inner, ItemTrees, forest}
use Rattle.wt_inline.specs.Parts.{children}
use Rattle.wt_page.specs.Body.{meaning}
use Rattle.wt_rows.proofs.Portions.{no_parts}
use Rattle.wt_tree.specs.declared.kind.Kind.TheVariants as kind
use Rattle.wt_annotated.specs.Annotated.{unplaced, all_unplaced}
use Rattle.wt_page_round_trip.proofs.ExpandedItems.{expanded_items}
use Rattle.wt_page_round_trip.proofs.OfPage.{ArePageItems}
use Rattle.wt_page_round_trip.proofs.PageShown.{body_nodes, page_shown}
use Rattle.wt_page_round_trip.proofs.ShownNodes.{IsShownIn, AreShownIn}
use Rattle.wt_expand.specs.PageItems.{page_items}
use Rattle.wt_part_laws.specs.Standing.{IsOrdinary}
use Rattle.wt_text_edit_laws.specs.Contents.{IsHeadingLine, IsContentOf}
use Rattle.wt_text_edit_laws.specs.NoCalls.{CallsNothing}
use Rattle.wt_text_edit_laws.specs.ParagraphBetween.{AreClosed, blocks_in, body_with}
use Rattle.wt_text_edit_laws.specs.TextBlocks.{TextBlock, a_paragraph, a_heading, source_of, block_items, block_tree}
use Rattle.wt_text_edit_laws.specs.TypedHeadings.{Sides, AreSides, heading_line, heading_round, IsInside, IsOfLevel}
use Rattle.wt_text_edit_laws.proofs.Between.NoCalls.{calm_expanded, calm_unrefused}
use Rattle.wt_text_edit_laws.proofs.Blocks.BlockReading.{HasFrame}
use Rattle.wt_text_edit_laws.proofs.Blocks.BlocksAgain.{framed_utf8}
use Rattle.wt_text_edit_laws.proofs.Blocks.PageKinds.{shown_ordinary}
use Rattle.wt_text_edit_laws.proofs.Headings.HeadingRows.{round_stands}
use Rattle.wt_text_edit_laws.proofs.Paragraphs.LineBlocks.{page_breaks}
use Rattle.wt_text_edit_laws.proofs.Paragraphs.SeenLines.{seen_block}
use Rattle.wt_beside_laws.proofs.Made.ShownLines.{lines_shown}

-- ---- what such a page means

no_blocks : blocks_in [] ≡ []
unfolding children
no_blocks = ap children no_parts

nothing_closed : AreClosed []
nothing_closed = record { whole = refl; closed = refl }

heading_means : (s : Sides) (own : List Item) → AreSides s → IsInside s own → IsOfLevel s own
    → meaning (heading_line s own) ≡ body_with (heading_round s own ∷ [])
heading_means s own a h p =
    ap meaning (sym (append-nil (heading_line s own)))
    ∙ round_stands [] s own [] nothing_closed a h p tt
    ∙ ap (λ (ts : List ItemTree). body_with (ts ++ heading_round s own ∷ ts)) no_blocks

heading_page : (s : Sides) (q : List ℕ) → IsHeadingLine s q → page_items (source_of (a_heading s) q) ≡ block_items (a_heading s) q
    → meaning (page_items (source_of (a_heading s) q)) ≡ body_with (block_tree (a_heading s) q ∷ [])
heading_page s q h e = ap meaning e ∙ heading_means s (page_items q) h.frame.sides h.inside h.of_level

-- ---- its nodes

pub no_pages : Pages
no_pages = λ title. None

pub own_frame : (k : TextBlock) (q : List ℕ) → IsContentOf k q → HasFrame k
own_frame a_paragraph q h = tt
own_frame (a_heading s) q h = h.frame

pub page_items_of : (page : List ℕ) → IsUtf8 page → CallsNothing (page_items page) → ArePageItems (page_items page)
page_items_of page u c =
    subst (λ x. ArePageItems x.items) (calm_expanded no_pages page c) (expanded_items no_pages page u (calm_unrefused no_pages page c))

abbrev nodes_in : ItemTree → ItemTrees
nodes_in (inner h o ts c) = ts

nodes_are : (xs : List Item) → nodes_in (meaning xs) ≡ body_nodes xs
unfolding meaning
nodes_are xs = refl

-- a paragraph whatever its lines are where they stand
pub block_shown : (k : TextBlock) (q : List ℕ) → IsUtf8 q → IsContentOf k q → page_items (source_of k q) ≡ block_items k q → CallsNothing (block_items k q)
    → IsShownIn 9 kind.Body (unplaced (block_tree k q))
block_shown a_paragraph q u h e c = lines_shown (page_items q) (page_items_of q u c) (page_breaks q) (seen_block (page_items q) h.unled h.seen)
block_shown (a_heading s) q u h e c =
    let page : List ℕ = source_of (a_heading s) q in
    let xs : List Item = page_items page in
    let items : ArePageItems xs = page_items_of page (framed_utf8 (a_heading s) q (own_frame (a_heading s) q h) u) (subst CallsNothing (sym e) c) in
    let is : body_nodes xs ≡ forest (block_tree (a_heading s) q ∷ []) = sym (nodes_are xs) ∙ ap nodes_in (heading_page s q h e) in
    (subst (λ (us : ItemTrees). AreShownIn 9 kind.Body (all_unplaced us)) is (page_shown xs items).0).0

pub content_ordinary : (k : TextBlock) (q : List ℕ) → IsUtf8 q → IsContentOf k q → page_items (source_of k q) ≡ block_items k q
    → CallsNothing (block_items k q) → IsOrdinary (unplaced (block_tree k q))
content_ordinary k q u h e c = shown_ordinary 9 kind.Body (unplaced (block_tree k q)) (block_shown k q u h e c)
