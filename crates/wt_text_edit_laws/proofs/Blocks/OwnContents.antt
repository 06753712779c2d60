-- A block whose content is read by itself has items of the page alone, and so has each node in it: no node is empty.
use Rattle.std.proofs.Common.{arith, ◌≡◌, ◌≢◌, ◌≤◌, ℕ, zero, suc, Bool, true, false, List, [], ◌∷◌, ◌++◌, refl, sym, ap, ◌∙◌, append-nil}
use Rattle.std.specs.Prelude.{◌&&◌, ◌||◌}
use Rattle.std.specs.List.{list_all, list_any}
use Rattle.wt_span.specs.Items.{Item, sources}
use Rattle.wt_inline.specs.ItemTree.{ItemTree, inner, ItemTrees, nothing, further, forest, held_by_all, tree_items}
use Rattle.wt_inline.specs.Parts.{children}
use Rattle.wt_tree.specs.Kinds.{is_leaf}
use Rattle.wt_annotated.specs.Clean.{is_page, is_body}
use Rattle.wt_annotated.specs.WithoutCalls.{InsideOf, holds_page, NoneEmpty, AllNonEmpty}
use Rattle.wt_expand.specs.PageItems.{page_items}
use Rattle.wt_part_laws.specs.Rounded.{HasItems, AllHaveItems, IsOwn}
use Rattle.wt_text_edit_laws.specs.Contents.{AreParagraphLines, IsHeadingLine, content_parts_of, IsContent}
use Rattle.wt_text_edit_laws.specs.LonePages.{page_chars}
use Rattle.wt_text_edit_laws.specs.TextBlocks.{TextBlock, a_paragraph, a_heading, block_tree}
use Rattle.wt_text_edit_laws.specs.TypedHeadings.{Sides, equals, opening, closing_items}
use Rattle.wt_text_edit_laws.proofs.Blocks.BlockLeaves.{items_of_page}
use Rattle.wt_text_edit_laws.proofs.Blocks.Contents.{inside_source}
use Rattle.wt_text_edit_laws.proofs.Paragraphs.PartTrees.{ArePlain}
use Rattle.wt_text_edit_laws.proofs.Prose.InFront.{reads_nothing, read_items}
use Rattle.wt_text_edit_laws.proofs.Paragraphs.SeenLines.{seen_some}
use Rattle.wt_text_edit_laws.proofs.Texts.TypedShown.{AllOfPage, chars_of_page, both_of_page}

-- ---- all in it is the page's own

-- what a block holds
abbrev held_in : TextBlock → List ℕ → List Item
held_in k q = held_by_all (forest (children (content_parts_of k (page_items q))))

closing_of_page : (s : Sides) → AllOfPage (closing_items s)
closing_of_page s =
    let signs : List ℕ = s.trail ++ equals s.level in
    both_of_page (page_chars signs) (page_items s.rest) (chars_of_page signs) (items_of_page s.rest)

all_of_page : (k : TextBlock) (q : List ℕ) → IsContent k q → AllOfPage (tree_items (block_tree k q))
all_of_page a_paragraph q h = both_of_page (held_in a_paragraph q) [] h.of_page refl
all_of_page (a_heading s) q h =
    let own : List Item = held_in (a_heading s) q in
    both_of_page (page_chars (opening s)) (own ++ closing_items s) (chars_of_page (opening s)) (both_of_page own (closing_items s) h.of_page (closing_of_page s))

-- ---- it has an item

any_by : (a b c : Bool) → (a && b) ≡ true → (a || c) ≡ true
any_by true b c e = refl
any_by false b c e = cc

any_of_page : (xs : List Item) → xs ≢ [] → AllOfPage xs → list_any is_page xs ≡ true
any_of_page [] n h = absurd (n refl)
any_of_page (x ∷ xs) n h = any_by (is_page x) (list_all is_page xs) (list_any is_page xs) h

pub paragraph_some : (q : List ℕ) → IsContent a_paragraph q → q ≢ []
paragraph_some q h e =
    let own : AreParagraphLines q = h.is in
    seen_some (page_items q) own.seen (ap page_items e ∙ read_items [] [] reads_nothing)

held_some : (q : List ℕ) → IsContent a_paragraph q → held_in a_paragraph q ++ [] ≢ []
held_some q h e =
    paragraph_some q h (sym (inside_source a_paragraph q) ∙ ap sources (sym (append-nil (held_in a_paragraph q)) ∙ e))

signs_some : (n : ℕ) (lead : List ℕ) (xs : List Item) → 1 ≤ n → page_chars (equals n ++ lead) ++ xs ≢ []
signs_some zero lead xs h e = absurd (omega (arith, h))
signs_some (suc n) lead xs h e = cc

block_some : (k : TextBlock) (q : List ℕ) → IsContent k q → tree_items (block_tree k q) ≢ []
block_some a_paragraph q h = held_some q h
block_some (a_heading s) q h =
    let line : IsHeadingLine s q = h.is in signs_some s.level s.lead (held_in (a_heading s) q ++ closing_items s) line.frame.sides.some

has_items : (k : TextBlock) (q : List ℕ) → IsContent k q → list_any is_page (tree_items (block_tree k q)) ≡ true → HasItems (block_tree k q)
has_items a_paragraph q h e = (e, h.has_items)
has_items (a_heading s) q h e = (e, h.has_items)

pub content_own : (k : TextBlock) (q : List ℕ) → IsContent k q → IsOwn (block_tree k q)
content_own k q h =
    let of_page : AllOfPage (tree_items (block_tree k q)) = all_of_page k q h in
    record { of_page = of_page; has_items = has_items k q h (any_of_page (tree_items (block_tree k q)) (block_some k q h) of_page) }

-- ---- so as the only block of a page it is plain

or_right : (a b : Bool) → b ≡ true → (a || b) ≡ true
or_right true b e = refl
or_right false b e = e

inside_by : (v : Bool) (P Q : Type 0) → (P → Q) → InsideOf v P → InsideOf v Q
inside_by true P Q f h = tt
inside_by false P Q f h = f h

mutual
  none_empty : (t : ItemTree) → HasItems t → (holds_page t ≡ true) × NoneEmpty t
  none_empty (inner h o ts c) has = (
    or_right (is_body h.kind) (list_any is_page (o ++ (held_by_all ts ++ c))) has.0,
    inside_by (is_leaf h.kind) (AllHaveItems ts) (AllNonEmpty ts) (all_none_empty ts) has.1,
  )

  all_none_empty : (ts : ItemTrees) → AllHaveItems ts → AllNonEmpty ts
  all_none_empty nothing has = tt
  all_none_empty (further t ts) has = let r = none_empty t has.0 in (r.0, r.1, all_none_empty ts has.1)

pub content_plain : (k : TextBlock) (q : List ℕ) → IsContent k q → ArePlain (block_tree k q ∷ [])
content_plain k q h =
    let xs : List Item = tree_items (block_tree k q) in
    let own : IsOwn (block_tree k q) = content_own k q h in
    let r = none_empty (block_tree k q) own.has_items in
    record { of_page = both_of_page (xs ++ []) [] (both_of_page xs [] own.of_page refl) refl; none_empty = (r.0, r.1, tt) }
