-- What is sent for a block in which texts are typed beside nodes that stay: the content that is written, its source, and what a content shows.
use Rattle.std.proofs.Common.{◌≡◌, ℕ, ◌<◌, Bool, true, false, List, [], ◌++◌, refl, ap, ap₂, ◌∙◌, append_assoc}
use Rattle.wt_span.specs.Items.{Item, sources}
use Rattle.wt_tree.specs.declared.kind.Mark.TheVariants as marks
use Rattle.wt_tree.specs.EditShapes.{edit_shape}
use Rattle.wt_tree.specs.Plain.{Plains, ended, along, element, plain_before}
use Rattle.wt_tree.specs.Source.{flat}
use Rattle.wt_tree.specs.Tree.{Label, Tree, label}
use Rattle.wt_guards.specs.Content.{ContentSign}
use Rattle.wt_guards.specs.Guards.{Setting, spelled}
use Rattle.wt_original.specs.Page.{Page, page_of}
use Rattle.wt_content.specs.Content.{is_paragraph}
use Rattle.wt_inline.specs.Parts.{Part}
use Rattle.wt_annotated.specs.Labels.{label_at}
use Rattle.wt_link_spelling.specs.Spelling.{signs_of_all, children_of, inline_spelling}
use Rattle.wt_visible.specs.SameNodes.{same_node}
use Rattle.wt_part_laws.specs.Standing.{standing}
use Rattle.wt_typed_blocks.specs.Sent.{kind_of}
use Rattle.wt_typed_blocks.specs.Edited.{Pieces, page_pieces, sent_pieces, page_node, sent_node}
use Rattle.wt_typed_blocks.specs.EditedPage.{edited_source}
use Rattle.wt_typed_blocks.specs.Typed.{place_of}
use Rattle.wt_text_edit_laws.specs.TextBlocks.{TextBlock, a_paragraph, a_heading, block_of, source_of, block_tree}
use Rattle.wt_text_edit_laws.proofs.Blocks.BlockLeaves.{open_items, close_items}
use Rattle.wt_text_edit_laws.proofs.Blocks.TypedFacts.{framed}
use Rattle.wt_beside_laws.specs.ContentEdits.{content_edit, new_content}
use Rattle.wt_beside_laws.specs.FlatBlocks.{AreOneLine, TextsFitIn}
use Rattle.wt_beside_laws.specs.Shown.{parts_shown_at}
use Rattle.wt_beside_laws.proofs.Made.OldBlocks.{with_parts, face_of, IsIn, block_opening, block_closing, node_is}

-- ---- the content that is sent

abbrev pub known : Tree → Page
known block = page_of same_node block

abbrev pub setting : TextBlock → Tree → Setting
setting k block = record { within = false; place = place_of (block_of k); source = flat block }

abbrev signs : TextBlock → Tree → Pieces → List ContentSign
signs k block ps = signs_of_all (known block) (place_of (block_of k)) (sent_pieces ps)

spelled_by : (k : TextBlock) (old block : Tree) (m : Label) (ps : Pieces)
    → inline_spelling same_node old (sent_node (content_edit k block m ps)) (place_of (block_of k)) ≡ spelled (setting k old) (signs k old ps)
unfolding inline_spelling
spelled_by k old block m ps = refl

pub new_is : (k : TextBlock) (q : List ℕ) (block : Tree) (m : Label) (ps : Pieces) → IsIn k q block → page_pieces ps ≡ children_of block
    → new_content k block m ps ≡ spelled (setting k block) (signs k block ps)
new_is k q block m ps i old =
    spelled_by k (page_node (content_edit k block m ps)) block m ps
    ∙ ap (λ (t : Tree). spelled (setting k t) (signs k t ps)) (node_is k q block m ps i old)

-- ---- nothing is wrong in it

abbrev pub takes_breaks : TextBlock → Bool
takes_breaks a_paragraph = true
takes_breaks (a_heading s) = false

pub breaks_so : (k : TextBlock) → is_paragraph (edit_shape (kind_of (block_of k))).form ≡ takes_breaks k
breaks_so a_paragraph = refl
breaks_so (a_heading s) = refl

pub one_line_so : (k : TextBlock) (ps : Pieces) → TextsFitIn k ps → takes_breaks k ≡ false → AreOneLine ps
one_line_so a_paragraph ps f e = absurd (cc)
one_line_so (a_heading s) ps f e = f

-- ---- its source

delimited_by : (a b c d : List ℕ) (bs : List ℕ) → a ≡ b → c ≡ d → a ++ (bs ++ c) ≡ b ++ (bs ++ d)
delimited_by a b c d bs e f = ap₂ (λ (x y : List ℕ). x ++ (bs ++ y)) e f

pub source_is : (k : TextBlock) (q : List ℕ) (block : Tree) (m : Label) (ps : Pieces) → IsIn k q block
    → edited_source same_node (content_edit k block m ps) ≡ source_of k (new_content k block m ps)
source_is k q block m ps i =
    append_assoc (label block).opening (new_content k block m ps) (label block).closing
    ∙ delimited_by (label block).opening (sources (open_items k)) (label block).closing (sources (close_items k)) (new_content k block m ps)
    (block_opening k q block i) (block_closing k q block i)
    ∙ framed k (new_content k block m ps)

-- ---- what it shows

pub parts_show : (k : TextBlock) (ps : List Part) (rest : Plains)
    → plain_before (standing 0 [] (with_parts k ps)) rest ≡ along (element (face_of k) (parts_shown_at 1 (open_items k) ps ended)) rest
unfolding label_at
parts_show a_paragraph ps rest = refl
parts_show (a_heading s) ps rest = refl

-- ---- in other words

pub in_page : (k : TextBlock) (q : List ℕ) (n : ℕ) (b : List Item) (block : Tree) → 0 < n → block ≡ standing n b (block_tree k q) → IsIn k q block
in_page k q n b block some is = record { number = n; before = b; some = some; is = is }
