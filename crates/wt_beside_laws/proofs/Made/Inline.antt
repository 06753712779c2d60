-- What a paragraph or a heading of the page holds is no part of which blocks are built.
use Rattle.std.proofs.Common.{◌≡◌, ℕ, suc, ◌+◌, Bool, true, false, List, [], ◌∷◌, ◌++◌, refl, sym, ap, ◌∙◌, subst}
use Rattle.std.specs.Prelude.{◌||◌}
use Rattle.std.specs.Str.{IsUtf8}
use Rattle.wt_tree.specs.declared.kind.Kind.{Kind}
use Rattle.wt_tree.specs.declared.kind.Kind.TheVariants as kind
use Rattle.wt_tree.specs.declared.row.Holding.{Holding}
use Rattle.wt_tree.specs.declared.row.Holding.TheVariants as holding
use Rattle.wt_tree.specs.declared.row.Placement.{Placement}
use Rattle.wt_tree.specs.declared.row.Placement.TheVariants as class
use Rattle.wt_tree.specs.declared.row.Writing.{Writing}
use Rattle.wt_tree.specs.declared.row.Writing.TheVariants.{AsText, AsVoid, RoundCharacter, RoundChildren, AsSection, Unwritten}
use Rattle.wt_tree.specs.Kinds.{shape, writing, admits, is_anywhere, may_hold, texts_of_kind}
use Rattle.wt_tree.specs.Tree.{Label, Tree, tree, Trees, none, more, label}
use Rattle.wt_span.specs.Items.{Item}
use Rattle.wt_inline.specs.ItemTree.{ItemTree, inner, ItemTrees, nothing, further, forest, tree_items}
use Rattle.wt_inline.specs.Parts.{Part, children}
use Rattle.wt_annotated.specs.Annotated.{unplaced, all_unplaced}
use Rattle.wt_annotated.specs.Labels.{label_at}
use Rattle.wt_annotated.specs.Numbering.{count}
use Rattle.wt_annotated.specs.WithoutCalls.{placed}
use Rattle.wt_schema.specs.Written.{is_childless}
use Rattle.wt_page_round_trip.proofs.ShownNodes.{NodeIsShown, IsOrdered, IsShownIn, AreShownIn}
use Rattle.wt_difference.specs.Insides.{is_built_of, is_block_part}
use Rattle.wt_expand.specs.PageItems.{page_items}
use Rattle.wt_link_spelling.specs.Spelling.{children_of}
use Rattle.wt_part_laws.specs.Standing.{standing}
use Rattle.wt_typed_blocks.specs.Sent.{kind_of}
use Rattle.wt_typed_blocks.specs.Edited.{Pieces, no_pieces, gone, written, kept, around, new_style, page_pieces, PiecesStay}
use Rattle.wt_typed_blocks.proofs.SentGroups.{apart}
use Rattle.wt_typed_blocks.specs.EditedUnmarked.{AreInline}
use Rattle.wt_text_edit_laws.specs.Contents.{IsContentOf, content_parts_of}
use Rattle.wt_text_edit_laws.specs.NoCalls.{CallsNothing}
use Rattle.wt_text_edit_laws.specs.TextBlocks.{TextBlock, a_paragraph, a_heading, block_of, source_of, block_items, block_tree}
use Rattle.wt_text_edit_laws.proofs.Blocks.BlockLeaves.{open_items, close_items}
use Rattle.wt_beside_laws.proofs.BlockSigns.{its_children}
use Rattle.wt_beside_laws.proofs.Made.OldBlocks.{with_parts, parts_are, IsIn}
use Rattle.wt_beside_laws.proofs.Made.OwnPages.{block_shown}
use Rattle.wt_beside_laws.proofs.PartThings.{nodes_of}

-- ---- by the tables of kinds

class_inline : (c : Placement) → (is_anywhere c || admits holding.Inlines c) ≡ true → is_built_of c ≡ false
class_inline class.Block e = absurd (cc)
class_inline class.List e = absurd (cc)
class_inline class.Item e = absurd (cc)
class_inline class.Term e = absurd (cc)
class_inline class.TablePart e = absurd (cc)
class_inline class.TableRow e = absurd (cc)
class_inline class.Cell e = absurd (cc)
class_inline c e = refl

held_inline : (q k : Kind) → (shape q).holding ≡ holding.Inlines → may_hold q k ≡ true → is_block_part k ≡ false
held_inline q k h e =
    class_inline (shape k).class (sym (ap (λ (x : Holding). is_anywhere (shape k).class || admits x (shape k).class) h) ∙ e)

text_inline : (k : Kind) → writing k ≡ AsText → is_block_part k ≡ false
text_inline kind.Text e = refl
text_inline kind.Sep e = refl
text_inline k e = absurd (cc)

empty_inline : (k : Kind) → k ≡ kind.Empty → is_block_part k ≡ false
empty_inline k e = ap is_block_part e

node_inline : (w : Writing) (k : ℕ) (q : Kind) (l : Label) (childless : Bool) (inside : Type 0) → (shape q).holding ≡ holding.Inlines → writing l.kind ≡ w
    → NodeIsShown w k q l childless inside → is_block_part l.kind ≡ false
node_inline AsText k q l childless inside o e h = text_inline l.kind e
node_inline AsVoid k q l childless inside o e h = held_inline q l.kind o h.1
node_inline RoundCharacter k q l childless inside o e h = held_inline q l.kind o h.1
node_inline RoundChildren k q l childless inside o e h = held_inline q l.kind o h.1
node_inline (AsSection n) k q l childless inside o e h = absurd h
node_inline Unwritten k q l childless inside o e h = empty_inline l.kind h.0

-- ---- children

abbrev AllInline : Trees → Type 0
AllInline none = Unit {0}
AllInline (more t ts) = (is_block_part (label t).kind ≡ false) × AllInline ts

shown_inline : (k : ℕ) (q : Kind) (ts : Trees) → (shape q).holding ≡ holding.Inlines → AreShownIn k q ts → AllInline ts
shown_inline k q none o h = tt
shown_inline k q (more (tree l us) ts) o h = (
  node_inline (writing l.kind) k q l (is_childless us) (IsOrdered (texts_of_kind l.kind) us × AreShownIn (suc k) l.kind us) o refl h.0,
  shown_inline k q ts o h.1,
)

placed_inline : (n : ℕ) (before : List Item) (ts : ItemTrees) → AllInline (all_unplaced ts) → AllInline (nodes_of n before ts)
unfolding label_at
placed_inline n before nothing a = tt
placed_inline n before (further (inner h o us c) ts) a =
    (a.0, placed_inline (n + count (placed before (inner h o us c))) (before ++ tree_items (inner h o us c)) ts a.1)

-- ---- what a block holds

inside_of : (k : ℕ) (q : Kind) (l : Label) (childless : Bool) (inside : Type 0) → NodeIsShown RoundChildren k q l childless inside → inside
inside_of k q l childless inside h = h.4

inside_tree : (k : ℕ) (q : Kind) (t : Tree) → writing (label t).kind ≡ RoundChildren → IsShownIn k q t → AreShownIn (suc k) (label t).kind (children_of t)
inside_tree k q (tree l ts) e h =
    let inside : Type 0 = IsOrdered (texts_of_kind l.kind) ts × AreShownIn (suc k) l.kind ts in
    (inside_of k q l (is_childless ts) inside (subst (λ (w : Writing). NodeIsShown w k q l (is_childless ts) inside) e h)).1

inside_shown : (k : TextBlock) (ps : List Part) → IsShownIn 9 kind.Body (unplaced (with_parts k ps))
    → AreShownIn 10 (kind_of (block_of k)) (all_unplaced (forest (children ps)))
unfolding label_at
inside_shown a_paragraph ps h = inside_tree 9 kind.Body (unplaced (with_parts a_paragraph ps)) refl h
inside_shown (a_heading s) ps h = inside_tree 9 kind.Body (unplaced (with_parts (a_heading s) ps)) refl h

holds_inlines : (k : TextBlock) → (shape (kind_of (block_of k))).holding ≡ holding.Inlines
holds_inlines a_paragraph = refl
holds_inlines (a_heading s) = refl

block_inline : (k : TextBlock) (q : List ℕ) (n : ℕ) (b : List Item) → IsUtf8 q → IsContentOf k q → page_items (source_of k q) ≡ block_items k q
    → CallsNothing (block_items k q) → AllInline (children_of (standing n b (block_tree k q)))
block_inline k q n b u h e c =
    let ps : List Part = content_parts_of k (page_items q) in
    let shown : IsShownIn 9 kind.Body (unplaced (with_parts k ps)) =
    subst (λ (t : ItemTree). IsShownIn 9 kind.Body (unplaced t)) (parts_are k q) (block_shown k q u h e c) in
    let own : AllInline (all_unplaced (forest (children ps))) =
    shown_inline 10 (kind_of (block_of k)) (all_unplaced (forest (children ps))) (holds_inlines k) (inside_shown k ps shown) in
    subst AllInline
    (sym (ap (λ (t : ItemTree). children_of (standing n b t)) (parts_are k q) ∙ its_children (block_of k) n b (open_items k) (close_items k) ps))
    (placed_inline (n + 1) (b ++ open_items k) (forest (children ps)) own)

-- ---- so what stays is inline

pieces_inline : (ps : Pieces) → AllInline (page_pieces ps) → PiecesStay ps → AreInline ps
pieces_inline no_pieces a h = tt
pieces_inline (gone t ps) a h = pieces_inline ps a.1 h
pieces_inline (written x text ps) a h = pieces_inline ps a h
pieces_inline (kept (tree l ts) (tree m us) ps) a h = (ap is_block_part h.0.0.kind ∙ a.0, pieces_inline ps a.1 h.1)
pieces_inline (around l m is ps) a h = pieces_inline ps a.1 h.3
pieces_inline (new_style m is ps) a h =
    let r = apart (λ t. is_block_part (label t).kind ≡ false) (λ us. AllInline us) tt (λ t us d. d) (λ t us d. d) (page_pieces is) (page_pieces ps) a in pieces_inline ps r.1 h.2

pub stays_inline : (k : TextBlock) (q : List ℕ) (block : Tree) (ps : Pieces) → IsUtf8 q → IsContentOf k q → page_items (source_of k q) ≡ block_items k q
    → CallsNothing (block_items k q) → IsIn k q block → page_pieces ps ≡ children_of block → PiecesStay ps → AreInline ps
stays_inline k q block ps u h e c i old stay =
    pieces_inline ps (subst AllInline (sym (old ∙ ap children_of i.is)) (block_inline k q i.number i.before u h e c)) stay
