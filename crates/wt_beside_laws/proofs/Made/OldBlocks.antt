-- A flat block in a page: its kind and delimiters, and that it is what its lines make.
use Rattle.std.proofs.Common.{◌≡◌, ℕ, ◌<◌, None, List, [], ◌∷◌, ◌++◌, length, refl, sym, ap, ◌∙◌, subst, append-nil}
use Rattle.std.specs.Str.{IsUtf8}
use Rattle.wt_span.specs.Items.{Item, sources}
use Rattle.wt_tree.specs.declared.kind.Kind.{Kind}
use Rattle.wt_tree.specs.Plain.{Face, face}
use Rattle.wt_tree.specs.Tiling.{HasNoGroup}
use Rattle.wt_tree.specs.Source.{flat}
use Rattle.wt_tree.specs.Tree.{Label, Tree, tree, Trees, label}
use Rattle.wt_expand.specs.PageItems.{page_items}
use Rattle.wt_inline.specs.ItemTree.{plain, ItemTree, inner, forest}
use Rattle.wt_inline.specs.Parts.{Part, children}
use Rattle.wt_context.specs.Line.{line_parts}
use Rattle.wt_annotated.specs.Labels.{label_at}
use Rattle.wt_link_spelling.specs.Spelling.{children_of}
use Rattle.wt_part_laws.specs.Standing.{standing}
use Rattle.wt_lines.specs.Lines.{lines}
use Rattle.wt_lines.proofs.LineLaws.{lines_are as lines_join}
use Rattle.wt_part_laws.proofs.Sources.{standing_source}
use Rattle.wt_part_laws.proofs.Ordinary.{standing_ordinary, ordinary_ungrouped}
use Rattle.wt_typed_blocks.specs.Sent.{kind_of}
use Rattle.wt_typed_blocks.specs.Edited.{Pieces, page_pieces, page_node}
use Rattle.wt_text_edit_laws.specs.Contents.{IsContentOf, content_parts_of}
use Rattle.wt_text_edit_laws.specs.NoCalls.{CallsNothing}
use Rattle.wt_text_edit_laws.specs.LonePages.{page_chars}
use Rattle.wt_text_edit_laws.specs.ParagraphParts.{joined_parts}
use Rattle.wt_text_edit_laws.specs.TextBlocks.{TextBlock, a_paragraph, a_heading, block_of, source_of, block_items, block_tree}
use Rattle.wt_text_edit_laws.specs.TypedHeadings.{opening}
use Rattle.wt_text_edit_laws.proofs.Blocks.BlockLeaves.{open_items, close_items}
use Rattle.wt_text_edit_laws.proofs.Blocks.Contents.{block_source}
use Rattle.wt_text_edit_laws.proofs.Blocks.TypedFacts.{framed}
use Rattle.wt_beside_laws.specs.Content.{AreKept}
use Rattle.wt_beside_laws.specs.FlatBlocks.{lines_in, begins_at, signs_in}
use Rattle.wt_beside_laws.specs.ContentEdits.{content_edit}
use Rattle.wt_beside_laws.specs.PageBlocks.{AreSoIn}
use Rattle.wt_beside_laws.specs.PageSigns.{signs_of_lines, AreFlatLines}
use Rattle.wt_beside_laws.specs.Stood.{things}
use Rattle.wt_beside_laws.proofs.Made.OwnPages.{content_ordinary}
use Rattle.wt_beside_laws.proofs.Marks.Within.{marks_within, lines_source, lines_bytes}
use Rattle.wt_expand.proofs.PageLaws.{page_sources}

-- ---- by its parts

abbrev pub with_parts : TextBlock → List Part → ItemTree
with_parts k ps = inner (plain (kind_of (block_of k))) (open_items k) (forest (children ps)) (close_items k)

pub parts_are : (k : TextBlock) (q : List ℕ) → block_tree k q ≡ with_parts k (content_parts_of k (page_items q))
parts_are a_paragraph q = refl
parts_are (a_heading s) q = refl

pub lines_are : (k : TextBlock) (q : List ℕ) → content_parts_of k (page_items q) ≡ joined_parts (lines_in k q)
lines_are a_paragraph q = refl
lines_are (a_heading s) q = sym (append-nil (line_parts (page_items q)))

-- ---- its label, whatever is in it

pub label_kind : (k : TextBlock) (ps : List Part) (n : ℕ) (b : List Item) → (label (standing n b (with_parts k ps))).kind ≡ kind_of (block_of k)
unfolding label_at
label_kind a_paragraph ps n b = refl
label_kind (a_heading s) ps n b = refl

pub label_number : (k : TextBlock) (ps : List Part) (n : ℕ) (b : List Item) → (label (standing n b (with_parts k ps))).id ≡ n
unfolding label_at
label_number a_paragraph ps n b = refl
label_number (a_heading s) ps n b = refl

pub label_opening : (k : TextBlock) (ps : List Part) (n : ℕ) (b : List Item) → (label (standing n b (with_parts k ps))).opening ≡ sources (open_items k)
unfolding label_at
label_opening a_paragraph ps n b = refl
label_opening (a_heading s) ps n b = refl

pub label_closing : (k : TextBlock) (ps : List Part) (n : ℕ) (b : List Item) → (label (standing n b (with_parts k ps))).closing ≡ sources (close_items k)
unfolding label_at
label_closing a_paragraph ps n b = refl
label_closing (a_heading s) ps n b = refl

abbrev pub face_of : TextBlock → Face
face_of k = record { kind = kind_of (block_of k); attrs = []; mw = None }

pub label_face : (k : TextBlock) (ps : List Part) (n : ℕ) (b : List Item)
    → face (record (label (standing n b (with_parts k ps))) { kind = kind_of (block_of k) }) ≡ face_of k
unfolding label_at
label_face a_paragraph ps n b = refl
label_face (a_heading s) ps n b = refl

chars_source : (bs : List ℕ) → sources (page_chars bs) ≡ bs
chars_source [] = refl
chars_source (b ∷ bs) = ap (λ cs. b ∷ cs) (chars_source bs)

opening_length : (k : TextBlock) → length (sources (open_items k)) ≡ begins_at k
opening_length a_paragraph = refl
opening_length (a_heading s) = ap length (chars_source (opening s))

-- ---- in the page

-- this block is at this place, with this number
pub record IsIn (k : TextBlock) (q : List ℕ) (block : Tree) : Type 0 where
  pub number : ℕ
  pub before : List Item
  pub some : 0 < number
  pub is : block ≡ standing number before (block_tree k q)

as_parts : (k : TextBlock) (q : List ℕ) (block : Tree) (i : IsIn k q block) → block ≡ standing i.number i.before (with_parts k (content_parts_of k (page_items q)))
as_parts k q block i = i.is ∙ ap (standing i.number i.before) (parts_are k q)

pub block_kind : (k : TextBlock) (q : List ℕ) (block : Tree) → IsIn k q block → (label block).kind ≡ kind_of (block_of k)
block_kind k q block i =
    ap (λ (t : Tree). (label t).kind) (as_parts k q block i) ∙ label_kind k (content_parts_of k (page_items q)) i.number i.before

pub block_number : (k : TextBlock) (q : List ℕ) (block : Tree) (i : IsIn k q block) → (label block).id ≡ i.number
block_number k q block i =
    ap (λ (t : Tree). (label t).id) (as_parts k q block i) ∙ label_number k (content_parts_of k (page_items q)) i.number i.before

pub block_opening : (k : TextBlock) (q : List ℕ) (block : Tree) → IsIn k q block → (label block).opening ≡ sources (open_items k)
block_opening k q block i =
    ap (λ (t : Tree). (label t).opening) (as_parts k q block i) ∙ label_opening k (content_parts_of k (page_items q)) i.number i.before

pub block_closing : (k : TextBlock) (q : List ℕ) (block : Tree) → IsIn k q block → (label block).closing ≡ sources (close_items k)
block_closing k q block i =
    ap (λ (t : Tree). (label t).closing) (as_parts k q block i) ∙ label_closing k (content_parts_of k (page_items q)) i.number i.before

pub block_face : (k : TextBlock) (q : List ℕ) (block : Tree) → IsIn k q block → face (record (label block) { kind = kind_of (block_of k) }) ≡ face_of k
block_face k q block i =
    ap (λ (t : Tree). face (record (label t) { kind = kind_of (block_of k) })) (as_parts k q block i)
    ∙ label_face k (content_parts_of k (page_items q)) i.number i.before

pub block_begins : (k : TextBlock) (q : List ℕ) (block : Tree) → IsIn k q block → length (label block).opening ≡ begins_at k
block_begins k q block i = ap length (block_opening k q block i) ∙ opening_length k

-- ---- the node of the edit is the page's

node_by : (k : Kind) (block : Tree) (ts : Trees) → (label block).kind ≡ k → ts ≡ children_of block → tree (record (label block) { kind = k }) ts ≡ block
node_by k (tree l cs) ts e is = ap (λ (j : Kind). tree (record l { kind = j }) ts) (sym e) ∙ ap (tree l) is

pub node_is : (k : TextBlock) (q : List ℕ) (block : Tree) (m : Label) (ps : Pieces) → IsIn k q block → page_pieces ps ≡ children_of block
    → page_node (content_edit k block m ps) ≡ block
node_is k q block m ps i e = node_by (kind_of (block_of k)) block (page_pieces ps) (block_kind k q block i) e

-- ---- it is what its lines make

pub no_group : (k : TextBlock) (q : List ℕ) (n : ℕ) (b : List Item) → IsUtf8 q → IsContentOf k q → page_items (source_of k q) ≡ block_items k q
    → CallsNothing (block_items k q) → HasNoGroup (standing n b (block_tree k q))
no_group k q n b u h e c =
    ordinary_ungrouped (standing n b (block_tree k q)) (standing_ordinary n b (block_tree k q) (content_ordinary k q u h e c))

bytes_in : (k : TextBlock) (q : List ℕ) → lines_source (lines_in k q) ≡ q
bytes_in a_paragraph q = lines_bytes (lines (page_items q)) (page_items q) (lines_join (page_items q)) ∙ page_sources q
bytes_in (a_heading s) q = page_sources q

-- its marks are as their roles say
pub marks_in : (k : TextBlock) (q : List ℕ) (block : Tree) → IsIn k q block → AreFlatLines (lines_in k q) → AreKept (signs_in k q)
    → AreSoIn block (things (signs_of_lines (length (label block).opening) (lines_in k q)))
marks_in k q block i f kept =
    let ls : List (List Item) = lines_in k q in
    let opens : (label block).opening ≡ sources (open_items k) = block_opening k q block i in
    let own : flat block ≡ source_of k q = ap flat i.is ∙ standing_source i.number i.before (block_tree k q) ∙ block_source k q in
    let is : flat block ≡ (label block).opening ++ (lines_source ls ++ sources (close_items k)) =
    own ∙ sym (framed k q) ∙ ap (λ (bs : List ℕ). sources (open_items k) ++ (bs ++ sources (close_items k))) (sym (bytes_in k q))
    ∙ ap (λ (bs : List ℕ). bs ++ (lines_source ls ++ sources (close_items k))) (sym opens) in
    marks_within ls block (sources (close_items k)) is f
    (subst (λ (n : ℕ). AreKept (signs_of_lines n ls)) (sym (block_begins k q block i)) kept)
