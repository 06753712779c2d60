-- A paragraph or heading of one text, by its leaves: the page's own, none of them empty.
use Rattle.std.proofs.Common.{arith, ◌≡◌, ◌≤◌, ℕ, zero, suc, true, Some, None, List, [], ◌∷◌, ◌++◌, map, refl, ap, ◌∙◌, inl, inr, All}
use Rattle.std.proofs.lemmas.List.Elements.{All-head, All-tail}
use Rattle.wt_tree.specs.declared.kind.Kind.TheVariants as kind
use Rattle.wt_span.specs.Items.{Item, char, whole, call_of}
use Rattle.wt_inline.specs.ItemTree.{plain, ItemTree, inner, forest, held_by_all}
use Rattle.wt_expand.specs.PageItems.{page_items}
use Rattle.wt_expand.proofs.PageLaws.{page_has_no_calls}
use Rattle.wt_annotated.specs.WithoutCalls.{holds_page}
use Rattle.wt_text_edit_laws.specs.LonePages.{page_chars}
use Rattle.wt_text_edit_laws.proofs.Texts.TypedLeaves.{AreOwn, Leaf, leaves, leaf_tree, para_leaves}
use Rattle.wt_text_edit_laws.proofs.Texts.TypedShown.{AllOfPage, chars_of_page, both_of_page, leaves_of_page, none_empty, is_plain_page}
use Rattle.wt_typed_blocks.specs.Sent.{kind_of}
use Rattle.wt_text_edit_laws.proofs.Paragraphs.LineBlocks.{page_breaks, text_tree}
use Rattle.wt_text_edit_laws.proofs.Paragraphs.Texts.{letters_own, paragraph_written}
use Rattle.wt_text_edit_laws.proofs.Paragraphs.PartTrees.{ArePlain}
use Rattle.wt_text_edit_laws.proofs.Headings.HeadingRows.{with_text}
use Rattle.wt_text_edit_laws.specs.TypedHeadings.{Sides, AreSides, equals, opening, closing_items}
use Rattle.wt_text_edit_laws.specs.TextBlocks.{TextBlock, a_paragraph, a_heading, block_of, block_tree, IsBlock}
use Rattle.wt_text_edit_laws.proofs.Blocks.BlockReading.{typed_text}
use Rattle.wt_text_edit_laws.proofs.Blocks.BlockLines.{heading_sides, heading_text}

-- ---- by leaves

abbrev pub open_items : TextBlock → List Item
open_items a_paragraph = []
open_items (a_heading s) = page_chars (opening s)

abbrev pub close_items : TextBlock → List Item
close_items a_paragraph = []
close_items (a_heading s) = closing_items s

abbrev pub leaf_block : TextBlock → List Leaf → ItemTree
leaf_block k ls = inner (plain (kind_of (block_of k))) (open_items k) (forest (map leaf_tree ls)) (close_items k)

heading_own : (s : Sides) (q : List ℕ) → IsBlock (a_heading s) q → AreOwn (page_items q)
heading_own s q (inl t) = (paragraph_written q (inl (typed_text s q t))).1
heading_own s q (inr w) = letters_own (page_items q) w.are_letters

pub block_own : (k : TextBlock) (q : List ℕ) → IsBlock k q → AreOwn (page_items q)
block_own a_paragraph q h = (paragraph_written q h).1
block_own (a_heading s) q h = heading_own s q h

abbrev as_heading : Sides → ItemTree → ItemTree
as_heading s (inner h o ts c) = inner (plain (kind.Heading s.level)) (page_chars (opening s)) ts (closing_items s)

pub block_leaves : (k : TextBlock) (q : List ℕ) → IsBlock k q → block_tree k q ≡ leaf_block k (leaves (page_items q))
block_leaves a_paragraph q h =
    text_tree (page_items q) (paragraph_written q h).0 (page_breaks q) ∙ para_leaves (page_items q) (block_own a_paragraph q h)
block_leaves (a_heading s) q h =
    with_text s (page_items q) (heading_text s q h) ∙ ap (as_heading s) (para_leaves (page_items q) (block_own (a_heading s) q h))

-- ---- no item comes from a call, and no node is empty

heading_holds : (n : ℕ) (bs ds cs : List ℕ) (ls : List Leaf) → 1 ≤ n
    → holds_page (leaf_block (a_heading (record { level = n; lead = bs; trail = ds; rest = cs })) ls) ≡ true
heading_holds zero bs ds cs ls h = absurd (omega (arith, h))
heading_holds (suc n) bs ds cs ls h = refl

all_of_page : (xs : List Item) → All (λ x. call_of x ≡ None) xs → AllOfPage xs
all_of_page [] h = refl
all_of_page (char None b ∷ xs) h = all_of_page xs (All-tail (λ x. call_of x ≡ None) (char None b) xs h)
all_of_page (char (Some k) b ∷ xs) h = let e : Some k ≡ None = All-head (λ x. call_of x ≡ None) (char (Some k) b) xs h in cc
all_of_page (whole f None bs ∷ xs) h = all_of_page xs (All-tail (λ x. call_of x ≡ None) (whole f None bs) xs h)
all_of_page (whole f (Some k) bs ∷ xs) h = let e : Some k ≡ None = All-head (λ x. call_of x ≡ None) (whole f (Some k) bs) xs h in cc

pub items_of_page : (bs : List ℕ) → AllOfPage (page_items bs)
items_of_page bs = all_of_page (page_items bs) (page_has_no_calls bs)

heading_plain : (s : Sides) (ls : List Leaf) → AreSides s → ArePlain (leaf_block (a_heading s) ls ∷ [])
heading_plain s ls a =
    let o : List Item = page_chars (opening s) in
    let xs : List Item = held_by_all (forest (map leaf_tree ls)) in
    let c : List Item = closing_items s in
    let signs : List ℕ = s.trail ++ equals s.level in
    let end : AllOfPage c = both_of_page (page_chars signs) (page_items s.rest) (chars_of_page signs) (items_of_page s.rest) in
    let inside : AllOfPage (xs ++ c) = both_of_page xs c (leaves_of_page ls) end in
    let all : AllOfPage (o ++ (xs ++ c)) = both_of_page o (xs ++ c) (chars_of_page (opening s)) inside in
    record {
      of_page = both_of_page ((o ++ (xs ++ c)) ++ []) [] (both_of_page (o ++ (xs ++ c)) [] all refl) refl;
      none_empty = (heading_holds s.level s.lead s.trail s.rest ls a.some, none_empty ls, tt);
    }

pub block_plain : (k : TextBlock) (q : List ℕ) → IsBlock k q → ArePlain (leaf_block k (leaves (page_items q)) ∷ [])
block_plain a_paragraph q h = is_plain_page (leaves (page_items q)) (paragraph_written q h).2
block_plain (a_heading s) q h = heading_plain s (leaves (page_items q)) (heading_sides s q h)
