-- One text, typed or written, is a content that is read by itself; and a text that was typed may be written in the place of any content.
use Rattle.std.proofs.Common.{◌≡◌, ◌⊎◌, inl, inr, ℕ, None, List, [], ◌∷◌, ◌++◌, map, refl, sym, ap, ◌∙◌, subst, append-nil}
use Rattle.std.specs.Str.{IsUtf8}
use Rattle.wt_span.specs.Characters as byte
use Rattle.std.proofs.lemmas.Grind.{flat_map-append}
use Rattle.wt_span.specs.Items.{Item, char, source, sources}
use Rattle.wt_lines.specs.Lines.{lines}
use Rattle.wt_lines.proofs.LineLaws.{lines_are}
use Rattle.wt_context.specs.Line.{line_parts}
use Rattle.wt_context.proofs.LineHolding.{line_source}
use Rattle.wt_inline.proofs.HeldLaws.{held_children}
use Rattle.wt_inline.specs.ItemTree.{ItemTree, inner, ItemTrees, forest, held_by_all, tree_items}
use Rattle.wt_inline.specs.Parts.{children}
use Rattle.wt_guards.specs.Guards.{nowiki}
use Rattle.wt_expand.specs.PageItems.{page_items}
use Rattle.wt_expand.proofs.PageLaws.{page_sources}
use Rattle.wt_typed_blocks.proofs.TextKinds.{lines_are_text}
use Rattle.wt_part_laws.specs.Rounded.{HasItems, AllHaveItems}
use Rattle.wt_text_edit_laws.specs.ParagraphParts.{joined_parts}
use Rattle.wt_text_edit_laws.specs.TypedPages.{IsTypedPage}
use Rattle.wt_text_edit_laws.specs.TextBetween.{StandsBehind}
use Rattle.wt_text_edit_laws.specs.Paragraphs.{IsParagraph}
use Rattle.wt_text_edit_laws.specs.TextBlocks.{TextBlock, a_paragraph, a_heading, source_of, block_items, block_tree, IsBlock, IsTypedIn}
use Rattle.wt_text_edit_laws.specs.BlockSpots.{BlockSpot, SameRound, AreBlocks, AreContents}
use Rattle.wt_text_edit_laws.specs.NoCalls.{AreUnpaired}
use Rattle.wt_text_edit_laws.specs.ReadContents.{IsFirmlyRead}
use Rattle.wt_text_edit_laws.specs.Contents.{AreParagraphLines, IsContentOf, content_parts_of, IsContent, StaysAnywhere, IsFirmContent, IsNewContent}
use Rattle.wt_text_edit_laws.proofs.Texts.TypedLeaves.{Leaf, letters, reference, guard, leaves, leaf_tree}
use Rattle.wt_text_edit_laws.proofs.Texts.TypedShown.{AllOfPage, leaves_of_page}
use Rattle.wt_text_edit_laws.proofs.Prose.Uncommented.{BeginsUncommented}
use Rattle.wt_text_edit_laws.proofs.Prose.InFront.{Reads, reads_nothing, spelled_unclosed, read_break, read_items}
use Rattle.wt_text_edit_laws.proofs.Prose.ProseReading.{page_front}
use Rattle.wt_text_edit_laws.proofs.Between.ClosingTags.{Unclosed}
use Rattle.wt_text_edit_laws.proofs.Between.Fronts.{behind_reads}
use Rattle.wt_text_edit_laws.proofs.Between.LessBraces.{none_unbraced, fewer_again, unbraced_begins, page_unbraced}
use Rattle.wt_text_edit_laws.proofs.Paragraphs.LineBlocks.{page_breaks, all_unled, parts_source}
use Rattle.wt_text_edit_laws.proofs.Paragraphs.SeenLines.{texts_seen}
use Rattle.wt_text_edit_laws.proofs.Paragraphs.Texts.{EndsHere, paragraph_lines, paragraph_utf8, paragraph_written}
use Rattle.wt_text_edit_laws.proofs.Headings.HeadingRows.{text_inside}
use Rattle.wt_text_edit_laws.proofs.Blocks.BlockReading.{typed_text, reads_in, uncommented_in, IsBeforeAny, HasFrame, any_front, firmly_read}
use Rattle.wt_text_edit_laws.proofs.Blocks.SignBraces.{items_unclosed}
use Rattle.wt_text_edit_laws.proofs.Blocks.BlockLeaves.{open_items, close_items, block_leaves}
use Rattle.wt_text_edit_laws.proofs.Blocks.BlockLines.{heading_frame, heading_level, heading_text}
use Rattle.wt_text_edit_laws.proofs.Blocks.TypedBraces.{AreTypedOver, AreNewOver, source_braces}
use Rattle.wt_text_edit_laws.proofs.Blocks.TypedFacts.{framed}
use Rattle.wt_text_edit_laws.proofs.Blocks.Untangled.{text_untangled}

-- ---- a text that is typed is read the same before anything

typed_page : (k : TextBlock) (q : List ℕ) → IsTypedIn k q → IsTypedPage q
typed_page a_paragraph q h = h
typed_page (a_heading s) q h = typed_text s q h

typed_frame : (k : TextBlock) (q : List ℕ) → IsTypedIn k q → HasFrame k
typed_frame a_paragraph q h = tt
typed_frame (a_heading s) q h = h.frame

page_before : (k : TextBlock) (q : List ℕ) → IsTypedPage q → IsBeforeAny k q
page_before k q h rest xs j r = reads_in k (q ++ rest) (page_items q ++ xs) (page_front q rest xs h r)

typed_reads : (k : TextBlock) (q rest : List ℕ) (xs : List Item) → IsTypedIn k q → EndsHere rest → Reads rest xs → Reads (source_of k q ++ rest) (block_items k q ++ xs)
typed_reads k q rest xs h e r = any_front k q rest xs (typed_frame k q h) (page_before k q (typed_page k q h)) e r

typed_ended : (k : TextBlock) (q : List ℕ) → IsTypedIn k q → page_items (source_of k q ++ 10 ∷ []) ≡ block_items k q ++ char None 10 ∷ []
typed_ended k q h =
    read_items (source_of k q ++ 10 ∷ []) (block_items k q ++ char None 10 ∷ [])
    (typed_reads k q (10 ∷ []) (char None 10 ∷ []) h refl (read_break [] [] reads_nothing))

typed_unended : (k : TextBlock) (q : List ℕ) → IsTypedIn k q → page_items (source_of k q) ≡ block_items k q
typed_unended k q h =
    ap page_items (sym (append-nil (source_of k q)))
    ∙ read_items (source_of k q ++ []) (block_items k q ++ []) (typed_reads k q [] [] h tt reads_nothing)
    ∙ append-nil (block_items k q)

-- ---- its lines

stands : (bs : List ℕ) → BeginsUncommented bs → StandsBehind bs
stands bs h = record { uncommented = h.is }

paragraph_content : (q : List ℕ) → IsParagraph q → AreParagraphLines q
paragraph_content q h = record {
  seen = texts_seen 0 (lines (page_items q)) (paragraph_lines q h);
  unled = all_unled (page_items q) (paragraph_written q h).0;
}

content_of : (k : TextBlock) (q : List ℕ) → IsBlock k q → IsContentOf k q
content_of a_paragraph q h = paragraph_content q h
content_of (a_heading s) q h =
    record { frame = heading_frame s q h; inside = inl (text_inside (page_items q) (heading_text s q h)); of_level = heading_level s q h }

-- ---- its items

block_ended : (k : TextBlock) (q : List ℕ) → IsBlock k q → page_items (source_of k q ++ 10 ∷ []) ≡ block_items k q ++ char None 10 ∷ []
block_ended a_paragraph q (inl t) = typed_ended a_paragraph q t
block_ended a_paragraph q (inr w) = w.ended
block_ended (a_heading s) q (inl t) = typed_ended (a_heading s) q t
block_ended (a_heading s) q (inr w) = w.ended

block_unended : (k : TextBlock) (q : List ℕ) → IsBlock k q → page_items (source_of k q) ≡ block_items k q
block_unended a_paragraph q h = refl
block_unended (a_heading s) q (inl t) = typed_unended (a_heading s) q t
block_unended (a_heading s) q (inr w) = w.unended

text_utf8 : (k : TextBlock) (q : List ℕ) → IsBlock k q → IsUtf8 q
text_utf8 a_paragraph q h = paragraph_utf8 q h
text_utf8 (a_heading s) q (inl t) = paragraph_utf8 q (inl (typed_text s q t))
text_utf8 (a_heading s) q (inr w) = w.utf8

-- ---- its nodes

leaf_has : (l : Leaf) → HasItems (leaf_tree l)
unfolding nowiki
leaf_has (letters b bs) = (refl, tt)
leaf_has (reference c bs) = (refl, tt)
leaf_has guard = (refl, tt)

leaves_have : (ls : List Leaf) → AllHaveItems (forest (map leaf_tree ls))
leaves_have [] = tt
leaves_have (l ∷ ls) = (leaf_has l, leaves_have ls)

abbrev pub held_trees : ItemTree → ItemTrees
held_trees (inner h o ts c) = ts

-- in the tree of a block is its content
pub content_inside : (k : TextBlock) (q : List ℕ) → held_trees (block_tree k q) ≡ forest (children (content_parts_of k (page_items q)))
content_inside a_paragraph q = refl
content_inside (a_heading s) q = refl

block_has : (k : TextBlock) (q : List ℕ) → IsBlock k q → AllHaveItems (forest (children (content_parts_of k (page_items q))))
block_has k q h = subst AllHaveItems (ap held_trees (sym (block_leaves k q h)) ∙ content_inside k q) (leaves_have (leaves (page_items q)))

block_of_page : (k : TextBlock) (q : List ℕ) → IsBlock k q → AllOfPage (held_by_all (forest (children (content_parts_of k (page_items q)))))
block_of_page k q h =
    subst (λ ts. AllOfPage (held_by_all ts)) (ap held_trees (sym (block_leaves k q h)) ∙ content_inside k q) (leaves_of_page (leaves (page_items q)))

-- ---- so it is a content

pub block_content : (k : TextBlock) (q : List ℕ) → IsBlock k q → IsContent k q
block_content k q h = record {
  utf8 = text_utf8 k q h;
  ended = block_ended k q h;
  unended = block_unended k q h;
  is = content_of k q h;
  of_page = block_of_page k q h;
  has_items = block_has k q h;
  untangled = λ items t e. text_untangled k q items t h e;
}

pub typed_block : (k : TextBlock) (q : List ℕ) → IsTypedIn k q → IsBlock k q
typed_block a_paragraph q h = inl h
typed_block (a_heading s) q h = inl h

-- ---- and one that may be written

page_stays : (q : List ℕ) → IsTypedPage q → StaysAnywhere a_paragraph q
page_stays q h = subst (λ bs. StaysAnywhere a_paragraph bs) (sym h.is) (λ n. lines_are_text h.setting h.text n h.utf8 h.of_block)

typed_stays : (k : TextBlock) (q : List ℕ) → IsTypedIn k q → StaysAnywhere k q
typed_stays a_paragraph q h = page_stays q h
typed_stays (a_heading s) q h = tt

pub typed_firm : (k : TextBlock) (q : List ℕ) → IsTypedIn k q → IsFirmContent k q
typed_firm k q h = record {
  content = block_content k q (typed_block k q h);
  firm = λ rest b j. read_items (q ++ rest) (page_items q ++ page_items rest) (page_front q rest (page_items rest) (typed_page k q h) (behind_reads rest b));
  uncommented = λ rest b j.
      let r : Reads (q ++ rest) (page_items q ++ page_items rest) = page_front q rest (page_items rest) (typed_page k q h) (behind_reads rest b) in
      uncommented_in k q rest (stands (q ++ rest) r.begins);
  stays = typed_stays k q h;
  unclosed = items_unclosed q (unbraced_begins (page_items q) (page_unbraced q (typed_page k q h)));
}

pub typed_firmly : (k : TextBlock) (q : List ℕ) → IsTypedIn k q → IsFirmlyRead k q
typed_firmly k q h = firmly_read k q (typed_firm k q h)

typed_unclosed : (q name rest : List ℕ) → IsTypedPage q → Unclosed name rest → Unclosed name (q ++ rest)
typed_unclosed q name rest h g = subst (λ bs. Unclosed name (bs ++ rest)) (sym h.is) (spelled_unclosed h.setting h.text name rest g)

typed_unpaired : (k : TextBlock) (q : List ℕ) → IsTypedIn k q → AreUnpaired (page_items (source_of k q))
typed_unpaired k q h =
    source_braces k q (typed_frame k q h) (typed_unended k q h) ∙ none_unbraced (page_items q) (page_unbraced q (typed_page k q h))

-- in the place of any content
pub typed_new : (k : TextBlock) (was now : List ℕ) → IsTypedIn k now → IsNewContent k was now
typed_new k was now h = record {
  firm = typed_firm k now h;
  fewer = inl (typed_unpaired k now h);
  closes = λ name us vs o n. typed_unclosed now name vs (typed_page k now h) n;
}

-- one in the place of a new one
pub new_again : (k : TextBlock) (was now last : List ℕ) → IsNewContent k was now → IsNewContent k now last → IsNewContent k was last
new_again k was now last h g = record {
  firm = g.firm;
  fewer = fewer_again (page_items (source_of k was)) (page_items (source_of k now)) (page_items (source_of k last)) h.fewer g.fewer;
  closes = λ name us vs o n. g.closes name vs vs (h.closes name us vs o n) n;
}

pub over_content : (k : TextBlock) (was now : List ℕ) → (now ≡ was) ⊎ IsNewContent k was now → IsContent k was → IsContent k now
over_content k was now (inl e) h = subst (λ q. IsContent k q) (sym e) h
over_content k was now (inr n) h = n.firm.content

-- ---- of all blocks of a page

pub blocks_contents : (ss : List BlockSpot) → AreBlocks ss → AreContents ss
blocks_contents [] h = tt
blocks_contents (s ∷ ss) h = (block_content s.block s.text h.0, blocks_contents ss h.1)

pub over_new : (ss rs : List BlockSpot) → AreTypedOver ss rs → AreNewOver ss rs
over_new [] rs o = tt
over_new (s ∷ ss) [] o = tt
over_new (s ∷ ss) (r ∷ rs) o = (one_new o.0, over_new ss rs o.1)
  where
    one_new : (r.text ≡ s.text) ⊎ IsTypedIn r.block r.text → (r.text ≡ s.text) ⊎ IsNewContent r.block s.text r.text
    one_new (inl e) = inl e
    one_new (inr t) = inr (typed_new r.block s.text r.text t)

pub new_contents : (ss rs : List BlockSpot) → SameRound ss rs → AreNewOver ss rs → AreContents ss → AreContents rs
new_contents [] [] e o h = tt
new_contents [] (r ∷ rs) e o h = absurd e
new_contents (s ∷ ss) [] e o h = absurd e
new_contents (s ∷ ss) (r ∷ rs) e o h =
    (over_content r.block s.text r.text o.0 (subst (λ k. IsContent k s.text) (sym e.1) h.0), new_contents ss rs e.2 o.1 h.1)

-- ---- the source of a block is in its tree

held_items : (k : TextBlock) (q : List ℕ)
    → tree_items (block_tree k q) ≡ open_items k ++ (held_by_all (forest (children (content_parts_of k (page_items q)))) ++ close_items k)
held_items a_paragraph q = refl
held_items (a_heading s) q = refl

pub inside_source : (k : TextBlock) (q : List ℕ) → sources (held_by_all (forest (children (content_parts_of k (page_items q))))) ≡ q
inside_source a_paragraph q =
    let xs : List Item = page_items q in
    ap sources (held_children (joined_parts (lines xs))) ∙ parts_source (lines xs) xs (lines_are xs) (page_breaks q) ∙ page_sources q
inside_source (a_heading s) q = ap sources (held_children (line_parts (page_items q))) ∙ line_source (page_items q) ∙ page_sources q

pub block_source : (k : TextBlock) (q : List ℕ) → sources (tree_items (block_tree k q)) ≡ source_of k q
block_source k q =
    let own : List Item = held_by_all (forest (children (content_parts_of k (page_items q)))) in
    ap sources (held_items k q)
    ∙ flat_map-append source (open_items k) (own ++ close_items k)
    ∙ ap (λ cs. sources (open_items k) ++ cs) (flat_map-append source own (close_items k) ∙ ap (λ cs. cs ++ sources (close_items k)) (inside_source k q))
    ∙ framed k q
