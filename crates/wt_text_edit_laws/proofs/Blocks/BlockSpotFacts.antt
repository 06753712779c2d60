-- What holds of all blocks of a page in whose paragraphs and headings texts were typed, and what the new page shows.
use Rattle.std.proofs.Common.{arith, ◌≡◌, ℕ, ◌≤◌, false, List, [], ◌∷◌, ◌++◌, length, refl, sym, ap, ap₂, ◌∙◌, subst, append-nil, append_assoc, ◌⊎◌, inl, inr}
use Rattle.std.specs.Str.{IsUtf8}
use Rattle.std.proofs.lemmas.Grind.{flat_map-append}
use Rattle.wt_tree.specs.Plain.{Plains, ended}
use Rattle.wt_tree.specs.Tree.{Tree, Trees}
use Rattle.wt_span.specs.Items.{Item, source, sources}
use Rattle.wt_tree.specs.declared.edit_shape.Place.TheVariants as place
use Rattle.wt_content.specs.Content.{has_break}
use Rattle.wt_inline.specs.ItemTree.{ItemTree, forest, tree_items}
use Rattle.wt_isolation.specs.OpenTags.{ends_open}
use Rattle.wt_annotated.specs.Annotated.{unplaced, all_unplaced}
use Rattle.wt_expand.specs.PageItems.{page_items}
use Rattle.wt_text_edit_laws.proofs.Texts.TypedLeaves.{AreOwn, leaves}
use Rattle.wt_part_laws.specs.Standing.{IsOrdinary, AreOrdinary}
use Rattle.wt_part_laws.proofs.Moved.{shows_the_same}
use Rattle.wt_typed_blocks.specs.Sent.{paragraph, heading}
use Rattle.wt_text_edit_laws.proofs.Prose.ProseTrees.{blocks_of, number_behind, items_behind}
use Rattle.wt_text_edit_laws.proofs.Prose.ProseFacts.{plains_of}
use Rattle.wt_text_edit_laws.specs.TypedPages.{IsTypedPage}
use Rattle.wt_text_edit_laws.specs.ParagraphBetween.{blocks_in}
use Rattle.wt_text_edit_laws.proofs.Blocks.KeptBlocks.{block_shown, blocks_shown, blocks_source, part_source, others_show}
use Rattle.wt_text_edit_laws.proofs.Blocks.PageKinds.{both_ordinary}
use Rattle.wt_text_edit_laws.specs.TypedHeadings.{Sides}
use Rattle.wt_text_edit_laws.specs.TextBlocks.{TextBlock, a_paragraph, a_heading, source_of, IsFrame, IsTypedHeading, IsBlock, IsTypedIn}
use Rattle.wt_text_edit_laws.specs.BlockSpots.{BlockSpot, spots_source, SameRound, AreBlocks}
use Rattle.wt_text_edit_laws.specs.BlockEdits.{Sending, kept, Typing, types, keeps, typed_as, new_text, SpotEdit, old_spots, new_spots, all_kept, sending_for, spot_sendings, IsSentFor, AreSentFor, IsText, AreTexts}
use Rattle.wt_text_edit_laws.proofs.Blocks.BlockLines.{heading_frame}
use Rattle.wt_text_edit_laws.proofs.Blocks.BlockTrees.{leafy_blocks}
use Rattle.wt_text_edit_laws.proofs.Blocks.BlockLeaves.{leaf_block, block_own}
use Rattle.wt_text_edit_laws.proofs.Blocks.BlocksAgain.{AreClear}
use Rattle.wt_text_edit_laws.proofs.Blocks.TypedBraces.{AreTypedOver}
use Rattle.wt_text_edit_laws.proofs.Blocks.TypedFacts.{Facts, facts_nothing, facts_kept, facts_text, items_source}

-- ---- what is known of the parts

abbrev block_of : BlockSpot → ItemTree
block_of s = leaf_block s.block (leaves (page_items s.text))

abbrev IsOrdinaryPart : List ℕ → Type 0
IsOrdinaryPart part = AreOrdinary (all_unplaced (forest (blocks_in (page_items part))))

abbrev pub AreOrdinaryParts : List BlockSpot → List ℕ → Type 0
AreOrdinaryParts [] behind = IsOrdinaryPart behind
AreOrdinaryParts (s ∷ ss) behind = IsOrdinaryPart s.before × IsOrdinary (unplaced (block_of s)) × AreOrdinaryParts ss behind

pub ordinary_parts : (ss : List BlockSpot) (behind : List ℕ) → AreOrdinary (all_unplaced (forest (leafy_blocks ss behind))) → AreOrdinaryParts ss behind
ordinary_parts [] behind h = h
ordinary_parts (s ∷ ss) behind h =
    let r = both_ordinary (blocks_in (page_items s.before)) (block_of s ∷ leafy_blocks ss behind) h in
    (r.0, r.1.0, ordinary_parts ss behind r.1.1)

-- ---- blocks before something else

by_source : (xs before : List Item) (ds : List Sending) (us : Trees) (q bs was now : List ℕ) (shown : Plains)
    → Facts xs before ds us (q ++ (bs ++ was)) (q ++ (bs ++ now)) shown → Facts xs before ds us ((q ++ bs) ++ was) ((q ++ bs) ++ now) shown
by_source xs before ds us q bs was now shown f =
    subst (λ cs. Facts xs before ds us cs ((q ++ bs) ++ now) shown) (sym (append_assoc q bs was))
    (subst (λ cs. Facts xs before ds us (q ++ (bs ++ was)) cs shown) (sym (append_assoc q bs now)) f)

facts_others : (xs : List Item) (us : List Tree) (ts : List ItemTree) → length us ≡ length ts → AreOrdinary (all_unplaced (forest ts))
    → (ds : List Sending) (vs : List ItemTree) (was now : List ℕ) (shown : Plains) (n : ℕ) (before : List Item)
    → ((m : ℕ) (after : List Item) → n ≤ m → sources after ≡ sources before ++ blocks_source ts → Facts xs after ds (blocks_of m after vs) was now shown)
    → Facts xs before (all_kept us ++ ds) (blocks_of n before (ts ++ vs)) (blocks_source ts ++ was) (blocks_source ts ++ now) (blocks_shown ts shown)
facts_others xs [] [] e o ds vs was now shown n before k = k n before (omega arith) (sym (append-nil (sources before)))
facts_others xs [] (t ∷ ts) e o ds vs was now shown n before k = absurd (omega (arith, e))
facts_others xs (u ∷ us) [] e o ds vs was now shown n before k = absurd (omega (arith, e))
facts_others xs (u ∷ us) (t ∷ ts) e o ds vs was now shown n before k =
    let q : List ℕ = sources (tree_items t) in
    let bs : List ℕ = blocks_source ts in
    let m : ℕ = number_behind n before t in
    let after : List Item = items_behind before t in
    by_source xs before (kept u ∷ (all_kept us ++ ds)) (blocks_of n before (t ∷ (ts ++ vs))) q bs was now (block_shown t (blocks_shown ts shown))
    (facts_kept xs n before t u (all_kept us ++ ds) (blocks_of m after (ts ++ vs)) (bs ++ was) (bs ++ now) (blocks_shown ts shown) o.0
    (facts_others xs us ts (omega (arith, e)) o.1 ds vs was now shown m after
    (λ j end le is. k j end (omega (arith, le))
    (is ∙ ap (λ cs. cs ++ bs) (flat_map-append source before (tree_items t)) ∙ append_assoc (sources before) q bs))))

-- ---- a paragraph or heading, with the blocks before it

abbrev new_of : SpotEdit → List ℕ
new_of e = new_text e.spot.block e.typing e.spot.text

abbrev spot_shown : SpotEdit → Plains → Plains
spot_shown e shown = block_shown (leaf_block e.spot.block (leaves (page_items (new_of e)))) shown

facts_spot : (xs : List Item) (e : SpotEdit) (ds : List Sending) (vs : List ItemTree) (was now : List ℕ) (shown : Plains) (n : ℕ) (before : List Item)
    → IsSentFor e.others e.spot.before → IsOrdinaryPart e.spot.before → IsOrdinary (unplaced (block_of e.spot)) → AreOwn (page_items e.spot.text)
    → AreOwn (page_items (new_of e)) → IsText e.spot.block e.typing → 1 ≤ n → ends_open (sources before ++ e.spot.before) ≡ false
    → ((m : ℕ) (after : List Item) → 1 ≤ m → sources after ≡ (sources before ++ e.spot.before) ++ source_of e.spot.block e.spot.text
    → Facts xs after ds (blocks_of m after vs) was now shown)
    → Facts xs before (all_kept e.others ++ sending_for e.spot.block e.typing ∷ ds)
    (blocks_of n before (blocks_in (page_items e.spot.before) ++ block_of e.spot ∷ vs))
    (e.spot.before ++ (source_of e.spot.block e.spot.text ++ was)) (e.spot.before ++ (source_of e.spot.block (new_of e) ++ now))
    (blocks_shown (blocks_in (page_items e.spot.before)) (spot_shown e shown))
facts_spot xs e ds vs was now shown n before sent o p own new u le clear k =
    let front : List ℕ = e.spot.before in
    let b : TextBlock = e.spot.block in
    let q : List ℕ = source_of b e.spot.text in
    let r : List ℕ = source_of b (new_of e) in
    let ts : List ItemTree = blocks_in (page_items front) in
    let t : ItemTree = block_of e.spot in
    let d : Sending = sending_for b e.typing in
    let its : blocks_source ts ≡ front = part_source front in
    let P : List ℕ → Type 0 = λ bs. Facts xs before (all_kept e.others ++ d ∷ ds) (blocks_of n before (ts ++ t ∷ vs)) (bs ++ (q ++ was)) (bs ++ (r ++ now))
    (blocks_shown ts (spot_shown e shown)) in
    subst P its
    (facts_others xs e.others ts sent o (d ∷ ds) (t ∷ vs) (q ++ was) (r ++ now) (spot_shown e shown) n before
    (λ m after more is.
    let at : sources after ≡ sources before ++ front = is ∙ ap (λ bs. sources before ++ bs) its in
    let j : ℕ = number_behind m after t in
    let end : List Item = items_behind after t in
    let behind : sources end ≡ (sources before ++ front) ++ q =
    flat_map-append source after (tree_items t) ∙ ap₂ (λ bs cs. bs ++ cs) at (items_source b e.spot.text own) in
    facts_text xs m after b e.spot.text e.typing ds (blocks_of j end vs) was now shown (omega (arith, le, more)) (ap ends_open at ∙ clear) own new u p
    (k j end (omega (arith, le, more)) behind)))

-- ---- behind the last one

same_facts : (xs before : List Item) (n : ℕ) (ds es : List Sending) (ts us : List ItemTree) (was now : List ℕ) (shown : Plains)
    → ds ≡ es → ts ≡ us → was ≡ now → Facts xs before ds (blocks_of n before ts) was was shown → Facts xs before es (blocks_of n before us) now now shown
same_facts xs before n ds es ts us was now shown d t w f =
    subst (λ cs. Facts xs before es (blocks_of n before us) cs cs shown) w
    (subst (λ vs. Facts xs before es (blocks_of n before vs) was was shown) t
    (subst (λ fs. Facts xs before fs (blocks_of n before ts) was was shown) d f))

facts_end : (xs : List Item) (others : List Tree) (behind : List ℕ) (n : ℕ) (before : List Item) → IsSentFor others behind → IsOrdinaryPart behind
    → Facts xs before (all_kept others) (blocks_of n before (blocks_in (page_items behind))) behind behind (blocks_shown (blocks_in (page_items behind)) ended)
facts_end xs others behind n before sent o =
    let ts : List ItemTree = blocks_in (page_items behind) in
    same_facts xs before n (all_kept others ++ []) (all_kept others) (ts ++ []) ts (blocks_source ts ++ []) behind (blocks_shown ts ended)
    (append-nil (all_kept others)) (append-nil ts) (append-nil (blocks_source ts) ∙ part_source behind)
    (facts_others xs others ts sent o [] [] [] [] ended n before (λ m after le is. facts_nothing xs after))

-- ---- what such a page shows

abbrev pub page_shows : List BlockSpot → List ℕ → Plains
page_shows [] behind = blocks_shown (blocks_in (page_items behind)) ended
page_shows (s ∷ ss) behind = blocks_shown (blocks_in (page_items s.before)) (block_shown (block_of s) (page_shows ss behind))

pub blocks_show : (ss : List BlockSpot) (behind : List ℕ) (n : ℕ) (before : List Item) → plains_of n before (leafy_blocks ss behind) ≡ page_shows ss behind
blocks_show [] behind n before =
    let ts : List ItemTree = blocks_in (page_items behind) in
    ap (plains_of n before) (sym (append-nil ts)) ∙ others_show ts [] ended (λ m after. refl) n before
blocks_show (s ∷ ss) behind n before =
    let t : ItemTree = block_of s in
    let vs : List ItemTree = leafy_blocks ss behind in
    others_show (blocks_in (page_items s.before)) (t ∷ vs) (block_shown t (page_shows ss behind))
    (λ m after.
    let j : ℕ = number_behind m after t in
    let end : List Item = items_behind after t in
    shows_the_same m 0 after [] t (plains_of j end vs) ∙ ap (block_shown t) (blocks_show ss behind j end)) n before

-- ---- all of them

abbrev pub FactsOf : List Item → ℕ → List Item → List SpotEdit → List Tree → List ℕ → Type 0
FactsOf xs n before es others behind =
    Facts xs before (spot_sendings es others) (blocks_of n before (leafy_blocks (old_spots es) behind)) (spots_source (old_spots es) behind)
    (spots_source (new_spots es) behind) (page_shows (new_spots es) behind)

pub facts_all : (xs : List Item) (es : List SpotEdit) (others : List Tree) (behind : List ℕ) → AreSentFor es → IsSentFor others behind
    → AreOrdinaryParts (old_spots es) behind → AreBlocks (old_spots es) → AreBlocks (new_spots es) → AreTexts es → (n : ℕ) (before : List Item) → 1 ≤ n
    → AreClear (sources before) (old_spots es) → FactsOf xs n before es others behind
facts_all xs [] others behind sent end o typed again u n before le clear = facts_end xs others behind n before end o
facts_all xs (e ∷ es) others behind sent end o typed again u n before le clear =
    facts_spot xs e (spot_sendings es others) (leafy_blocks (old_spots es) behind) (spots_source (old_spots es) behind) (spots_source (new_spots es) behind)
    (page_shows (new_spots es) behind) n before sent.0 o.0 o.1 (block_own e.spot.block e.spot.text typed.0) (block_own e.spot.block (new_of e) again.0)
    u.0 le clear.0
    (λ m after more is. facts_all xs es others behind sent.1 end o.2 typed.1 again.1 u.1 m after more (subst (λ bs. AreClear bs (old_spots es)) (sym is) clear.1))

-- ---- and it is such a page again

pub new_round : (es : List SpotEdit) → SameRound (old_spots es) (new_spots es)
new_round [] = tt
new_round (e ∷ es) = (refl, refl, new_round es)

pub typed_paragraph : (source text : List ℕ) → IsUtf8 text → IsTypedPage (typed_as paragraph source text)
typed_paragraph source text u = record {
  setting = record { within = false; place = place.Paragraph; source = source };
  text = text;
  utf8 = u;
  of_block = refl;
  is = refl;
}

pub typed_heading : (s : Sides) (source text : List ℕ) → IsUtf8 text → has_break text ≡ false → IsFrame s → IsTypedHeading s (typed_as (heading s.level) source text)
typed_heading s source text u line f = record {
  frame = f;
  setting = record { within = false; place = place.Heading; source = source };
  text = text;
  utf8 = u;
  one_line = line;
  of_block = refl;
  of_heading = refl;
  is = refl;
}

new_is : (k : TextBlock) (y : Typing) (q : List ℕ) → IsText k y → IsBlock k q → IsBlock k (new_text k y q)
new_is a_paragraph (types p t text) q u h = inl (typed_paragraph (source_of a_paragraph q) text u.0)
new_is (a_heading s) (types p t text) q u h = inl (typed_heading s (source_of (a_heading s) q) text u.0 u.1 (heading_frame s q h))
new_is a_paragraph (keeps v) q u h = h
new_is (a_heading s) (keeps v) q u h = h

over_is : (k : TextBlock) (y : Typing) (q : List ℕ) → IsText k y → IsBlock k q → (new_text k y q ≡ q) ⊎ IsTypedIn k (new_text k y q)
over_is a_paragraph (types p t text) q u h = inr (typed_paragraph (source_of a_paragraph q) text u.0)
over_is (a_heading s) (types p t text) q u h = inr (typed_heading s (source_of (a_heading s) q) text u.0 u.1 (heading_frame s q h))
over_is k (keeps v) q u h = inl refl

pub typed_over : (es : List SpotEdit) → AreTexts es → AreBlocks (old_spots es) → AreTypedOver (old_spots es) (new_spots es)
typed_over [] u h = tt
typed_over (e ∷ es) u h = (over_is e.spot.block e.typing e.spot.text u.0 h.0, typed_over es u.1 h.1)

pub all_typed : (es : List SpotEdit) → AreTexts es → AreBlocks (old_spots es) → AreBlocks (new_spots es)
all_typed [] u h = tt
all_typed (e ∷ es) u h = (new_is e.spot.block e.typing e.spot.text u.0 h.0, all_typed es u.1 h.1)
