-- The styles of a block of the page: none is in one of its kind, no line ends in one, and its delimiters are apostrophes.
use Rattle.std.proofs.Common.{arith, ◌≡◌, ◌≢◌, ℕ, zero, suc, ◌+◌, ◌-◌, ◌<◌, ◌==◌, Bool, true, false, not, Option, Some, None, List, [], ◌∷◌, ◌++◌, length, map, take, drop, refl, sym, ap, ◌∙◌, subst, append-nil}
use Rattle.std.specs.Prelude.{◌||◌}
use Rattle.std.specs.List.{flat_map}
use Rattle.wt_span.specs.Items.{Item, char, whole, sources}
use Rattle.wt_span.specs.Runs.{runs, IsRun, AreRuns}
use Rattle.wt_span.proofs.RunLaws.{runs_are}
use Rattle.wt_tree.specs.declared.edit_shape.InlineForm.{InlineForm}
use Rattle.wt_tree.specs.declared.edit_shape.InlineForm.TheVariants as inline
use Rattle.wt_tree.specs.EditShapes.{edit_shape}
use Rattle.wt_tree.specs.Tree.{Label, Tree, tree, Trees, none, more, label}
use Rattle.wt_guards.specs.declared.role.Role.{Role}
use Rattle.wt_guards.specs.Content.{ContentSign, Thing, letter}
use Rattle.wt_content.specs.Content.{has_break}
use Rattle.wt_expand.specs.PageItems.{page_items}
use Rattle.wt_inline.specs.declared.loose.Loose.{Loose}
use Rattle.wt_inline.specs.declared.loose.Loose.TheVariants.{Text, Sep}
use Rattle.wt_inline.specs.Carried.{shown_item}
use Rattle.wt_inline.specs.ItemTree.{ItemTree, forest, tree_items}
use Rattle.wt_inline.specs.Parts.{Part, loose, node, held_parts, one_leaf, loose_leaf, child, children, parts}
use Rattle.wt_quotes.specs.Forest.{Forest, bare, grown, forest_of}
use Rattle.wt_quotes.specs.Styles.{style_tree_of}
use Rattle.wt_tiles.specs.declared.shape.Shape.{Shape}
use Rattle.wt_tiles.specs.Contexts.{in_line}
use Rattle.wt_tiles.specs.Glyphs.{glyph_of}
use Rattle.wt_tiles.specs.Tiles.{size, shapes, parts as tiles_by, tiles}
use Rattle.wt_context.specs.Chunks.{chunks}
use Rattle.wt_context.specs.Line.{context_parts, line_parts}
use Rattle.wt_context.specs.Nodes.{tile_tree, segments}
use Rattle.wt_context.specs.RunCuts.{AreQuotes}
use Rattle.wt_context.specs.Segments.{Segment, segment_items, segment_parts}
use Rattle.wt_context.specs.Styled.{between, style_node, styled}
use Rattle.wt_context.specs.Unstyled.{tile_parts, tile_part}
use Rattle.wt_context.proofs.PlainNodes.{IsText}
use Rattle.wt_context.proofs.QuotePlaces.{AreMarked, all_marked}
use Rattle.wt_context.proofs.TilePlaces.{tiles_placed}
use Rattle.wt_annotated.specs.Labels.{label_at}
use Rattle.wt_annotated.specs.Numbering.{count}
use Rattle.wt_annotated.specs.WithoutCalls.{placed}
use Rattle.wt_link_spelling.specs.Spelling.{children_of}
use Rattle.wt_part_laws.specs.Standing.{standing}
use Rattle.wt_text_edit_laws.specs.Contents.{content_parts_of}
use Rattle.wt_text_edit_laws.specs.ParagraphParts.{joined_parts}
use Rattle.wt_text_edit_laws.specs.TextBlocks.{TextBlock, block_of}
use Rattle.wt_text_edit_laws.proofs.Blocks.BlockLeaves.{open_items, close_items}
use Rattle.wt_beside_laws.specs.FlatBlocks.{lines_in, begins_at}
use Rattle.wt_beside_laws.specs.Nests.{of_style}
use Rattle.wt_beside_laws.specs.Nodes.{AreNodes}
use Rattle.wt_beside_laws.specs.PageSigns.{line_signs, signs_of_lines, AreFlatTiles, HasNoBreak, AreFlatLines}
use Rattle.wt_beside_laws.specs.SentStyled.{NestsBy, Nests, AllNest}
use Rattle.wt_beside_laws.specs.Stood.{things}
use Rattle.wt_beside_laws.specs.StyledIn.{IsStyledIn}
use Rattle.wt_beside_laws.proofs.BlockSigns.{its_children}
use Rattle.wt_beside_laws.proofs.LineThings.{nodes_parts, segments_parts, tiles_here}
use Rattle.wt_beside_laws.proofs.Made.OldBlocks.{with_parts, parts_are, lines_are, IsIn}
use Rattle.wt_beside_laws.proofs.PageSigns.{none_take, none_drop, flat_nodes}
use Rattle.wt_beside_laws.proofs.PartThings.{IsThingForm, IsThing, tree_source, HaveThings, nodes_of, stands_form}
use Rattle.wt_beside_laws.proofs.Styled.BlockNodes.{style_round}
use Rattle.wt_beside_laws.proofs.Styled.BlockStyles.{QuotesAre, quotes_between, line_quotes, line_is}
use Rattle.wt_beside_laws.proofs.Styled.OwnStyled.{style_texts}
use Rattle.wt_beside_laws.proofs.Styled.SentFaults.{typed_line}
use Rattle.wt_beside_laws.proofs.Styled.StyleKinds.{NestsIn, line_nests}
use Rattle.wt_beside_laws.proofs.Styled.StyledTexts.{HasTexts, HaveTexts, block_texts}

-- ---- delimiters that are apostrophes

-- one is first, or nothing is
abbrev pub BeginsQuoted : List ℕ → Type 0
BeginsQuoted [] = Unit {0}
BeginsQuoted (b ∷ bs) = b ≡ 39

pub record IsQuoted (l : Label) : Type 0 where
  pub opening : BeginsQuoted l.opening
  pub closing : BeginsQuoted l.closing
  pub number : l.id ≢ 0

abbrev pub QuotedBy : InlineForm → Label → Type 0 → Type 0
QuotedBy inline.Nothing l inside = Unit {0}
QuotedBy inline.Characters l inside = Unit {0}
QuotedBy inline.Bold l inside = IsQuoted l × inside
QuotedBy inline.Italic l inside = IsQuoted l × inside
QuotedBy inline.Shown l inside = Unit {0}
QuotedBy inline.PageLink l inside = Unit {0}
QuotedBy inline.ExternalLink l inside = Unit {0}
QuotedBy inline.Tag l inside = Unit {0}
QuotedBy inline.Break l inside = Unit {0}
QuotedBy inline.AsItStood l inside = Unit {0}

-- so of each style
abbrev mutual
  pub HasQuoted : Tree → Type 0
  HasQuoted (tree l ts) = QuotedBy (edit_shape l.kind).inline l (HaveQuoted ts)

  pub HaveQuoted : Trees → Type 0
  HaveQuoted none = Unit {0}
  HaveQuoted (more t us) = HasQuoted t × HaveQuoted us

-- ---- nodes that nest, wherever they are

abbrev IsRight : Bool → Bool → Tree → Type 0
IsRight bold italic t = Nests bold italic t × HasQuoted t

abbrev pub AreRight : Bool → Bool → Trees → Type 0
AreRight bold italic us = AllNest bold italic us × HaveQuoted us

abbrev NestsOn : Bool → Bool → ItemTree → Type 0
NestsOn bold italic u = (n : ℕ) (before : List Item) → 0 < n → HasTexts (standing n before u) → IsRight bold italic (standing n before u)

-- in a style no line ends
abbrev AllNestOn : Bool → Bool → List Part → Type 0
AllNestOn bold italic [] = Unit {0}
AllNestOn bold italic (loose k o b ∷ ps) = IsText k × ((bold || italic) ≡ true → (b == 10) ≡ false) × AllNestOn bold italic ps
AllNestOn bold italic (node u ∷ ps) = NestsOn bold italic u × AllNestOn bold italic ps

nest_both : (bold italic : Bool) (ps qs : List Part) → AllNestOn bold italic ps → AllNestOn bold italic qs → AllNestOn bold italic (ps ++ qs)
nest_both bold italic [] qs h k = k
nest_both bold italic (loose j o b ∷ ps) qs h k = (h.0, h.1, nest_both bold italic ps qs h.2 k)
nest_both bold italic (node u ∷ ps) qs h k = (h.0, nest_both bold italic ps qs h.1 k)

-- ---- a node that is no style

nests_by : (w : InlineForm) (bold italic : Bool) (l : Label) (inside : Bool → Bool → Type 0) → IsThingForm w → NestsBy w bold italic l inside
nests_by inline.Nothing bold italic l inside f = absurd f
nests_by inline.Characters bold italic l inside f = absurd f
nests_by inline.Bold bold italic l inside f = absurd f
nests_by inline.Italic bold italic l inside f = absurd f
nests_by inline.Shown bold italic l inside f = tt
nests_by inline.PageLink bold italic l inside f = tt
nests_by inline.ExternalLink bold italic l inside f = tt
nests_by inline.Tag bold italic l inside f = tt
nests_by inline.Break bold italic l inside f = tt
nests_by inline.AsItStood bold italic l inside f = tt

quoted_by : (w : InlineForm) (l : Label) (inside : Type 0) → IsThingForm w → QuotedBy w l inside
quoted_by inline.Nothing l inside f = absurd f
quoted_by inline.Characters l inside f = absurd f
quoted_by inline.Bold l inside f = absurd f
quoted_by inline.Italic l inside f = absurd f
quoted_by inline.Shown l inside f = tt
quoted_by inline.PageLink l inside f = tt
quoted_by inline.ExternalLink l inside f = tt
quoted_by inline.Tag l inside f = tt
quoted_by inline.Break l inside f = tt
quoted_by inline.AsItStood l inside f = tt

tree_right : (bold italic : Bool) (t : Tree) → IsThingForm (edit_shape (label t).kind).inline → IsRight bold italic t
tree_right bold italic (tree l ts) f =
    (nests_by (edit_shape l.kind).inline bold italic l (λ b i. AllNest b i ts) f, quoted_by (edit_shape l.kind).inline l (HaveQuoted ts) f)

-- in bold or in italic a text may be
abbrev pub MayBe : InlineForm → Bool → Bool → Type 0
MayBe inline.Nothing bold italic = Unit {0}
MayBe inline.Characters bold italic = (bold || italic) ≡ true
MayBe inline.Bold bold italic = Unit {0}
MayBe inline.Italic bold italic = Unit {0}
MayBe inline.Shown bold italic = Unit {0}
MayBe inline.PageLink bold italic = Unit {0}
MayBe inline.ExternalLink bold italic = Unit {0}
MayBe inline.Tag bold italic = Unit {0}
MayBe inline.Break bold italic = Unit {0}
MayBe inline.AsItStood bold italic = Unit {0}

-- and here no text
abbrev pub IsNoText : ItemTree → Type 0
IsNoText u = (n : ℕ) (before : List Item) → MayBe (edit_shape (label (standing n before u)).kind).inline false false

thing_no_text : (f : InlineForm) → IsThingForm f → MayBe f false false
thing_no_text inline.Nothing h = tt
thing_no_text inline.Characters h = absurd h
thing_no_text inline.Bold h = tt
thing_no_text inline.Italic h = tt
thing_no_text inline.Shown h = tt
thing_no_text inline.PageLink h = tt
thing_no_text inline.ExternalLink h = tt
thing_no_text inline.Tag h = tt
thing_no_text inline.Break h = tt
thing_no_text inline.AsItStood h = tt

style_no_text : (kind : Bool) (opening closing : List Item) (ps : List Part) → IsNoText (style_round kind opening ps closing)
unfolding label_at
style_no_text true opening closing ps = λ n before. tt
style_no_text false opening closing ps = λ n before. tt

-- of parts at the top of their line: its characters are no line breaks
abbrev pub AreOnLine : List Part → Type 0
AreOnLine [] = Unit {0}
AreOnLine (loose k o b ∷ ps) = ((b == 10) ≡ false) × AreOnLine ps
AreOnLine (node u ∷ ps) = IsNoText u × AreOnLine ps

on_both : (ps qs : List Part) → AreOnLine ps → AreOnLine qs → AreOnLine (ps ++ qs)
on_both [] qs h k = k
on_both (loose j o b ∷ ps) qs h k = (h.0, on_both ps qs h.1 k)
on_both (node u ∷ ps) qs h k = (h.0, on_both ps qs h.1 k)

-- nodes that are no styles, and characters that are no line breaks
abbrev AllFree : List Part → Type 0
AllFree [] = Unit {0}
AllFree (loose k o b ∷ ps) = IsText k × ((b == 10) ≡ false) × AllFree ps
AllFree (node u ∷ ps) = (IsNoText u × ((bold italic : Bool) → NestsOn bold italic u)) × AllFree ps

free_both : (ps qs : List Part) → AllFree ps → AllFree qs → AllFree (ps ++ qs)
free_both [] qs h k = k
free_both (loose j o b ∷ ps) qs h k = (h.0, h.1, free_both ps qs h.2 k)
free_both (node u ∷ ps) qs h k = (h.0, free_both ps qs h.1 k)

free_split : (ps qs : List Part) → AllFree (ps ++ qs) → AllFree ps × AllFree qs
free_split [] qs h = (tt, h)
free_split (loose j o b ∷ ps) qs h = let r = free_split ps qs h.2 in ((h.0, h.1, r.0), r.1)
free_split (node u ∷ ps) qs h = let r = free_split ps qs h.1 in ((h.0, r.0), r.1)

free_nest : (bold italic : Bool) (ps : List Part) → AllFree ps → AllNestOn bold italic ps
free_nest bold italic [] h = tt
free_nest bold italic (loose k o b ∷ ps) h = (h.0, (λ e. h.1), free_nest bold italic ps h.2)
free_nest bold italic (node u ∷ ps) h = (h.0.1 bold italic, free_nest bold italic ps h.1)

free_on : (ps : List Part) → AllFree ps → AreOnLine ps
free_on [] h = tt
free_on (loose k o b ∷ ps) h = (h.1, free_on ps h.2)
free_on (node u ∷ ps) h = (h.0.0, free_on ps h.1)

abbrev Unbroken : List Part → Type 0
Unbroken [] = Unit {0}
Unbroken (loose k o b ∷ ps) = ((b == 10) ≡ false) × Unbroken ps
Unbroken (node u ∷ ps) = Unbroken ps

unbroken_both : (ps qs : List Part) → Unbroken ps → Unbroken qs → Unbroken (ps ++ qs)
unbroken_both [] qs h k = k
unbroken_both (loose j o b ∷ ps) qs h k = (h.0, unbroken_both ps qs h.1 k)
unbroken_both (node u ∷ ps) qs h k = unbroken_both ps qs h k

chars_unbroken : (xs : List Item) → HasNoBreak xs → Unbroken (parts Text xs)
chars_unbroken [] h = tt
chars_unbroken (char o b ∷ xs) h = (h.0, chars_unbroken xs h.1)
chars_unbroken (whole f o bs ∷ xs) h = chars_unbroken xs h.1

tile_unbroken : (o : Option ItemTree) (xs : List Item) → HasNoBreak xs → Unbroken (tile_parts o xs)
tile_unbroken None xs h = chars_unbroken xs h
tile_unbroken (Some t) xs h = tt

shapes_unbroken : (ws : List Shape) (xs : List Item) → HasNoBreak xs → Unbroken (flat_map (tile_part context_parts in_line) (tiles_by ws xs))
shapes_unbroken [] xs h = tt
shapes_unbroken (w ∷ ws) xs h =
    let ys : List Item = take (size w) xs in
    unbroken_both (tile_part context_parts in_line (w, ys)) (flat_map (tile_part context_parts in_line) (tiles_by ws (drop (size w) xs)))
    (tile_unbroken (tile_tree context_parts in_line w.kind w ys) ys (none_take (size w) xs h)) (shapes_unbroken ws (drop (size w) xs) (none_drop (size w) xs h))

tiles_unbroken : (xs : List Item) → HasNoBreak xs → Unbroken (flat_map (tile_part context_parts in_line) (tiles in_line xs))
unfolding tiles
tiles_unbroken xs h = shapes_unbroken (shapes in_line (map glyph_of xs)) xs h

thing_right : (u : ItemTree) (r : Role) → IsThing u r → (bold italic : Bool) → NestsOn bold italic u
thing_right u r i bold italic = λ n before some x. tree_right bold italic (standing n before u) (stands_form n before u r i)

parts_free : (at : ℕ) (ps : List Part) (ts : List Thing) → HaveThings at ps ts → Unbroken ps → AllFree ps
parts_free at [] ts h b = tt
parts_free at (loose k o c ∷ ps) ts h b = (h.0, b.0, parts_free (at + 1) ps ts h.1 b.1)
parts_free at (node u ∷ ps) ts h b = (((λ n before. thing_no_text (edit_shape (label (standing n before u)).kind).inline (stands_form n before u h.0 h.3)), thing_right u h.0 h.3), parts_free (at + length (tree_source u)) ps h.1 h.5 b)

-- ---- the trees of parts

leaf_right : (k : Loose) (own : List Item) (bold italic : Bool) (n : ℕ) (before : List Item) → IsText k
    → ((bold || italic) ≡ true → has_break (flat_map shown_item own) ≡ false) → HasTexts (standing n before (loose_leaf k own))
    → IsRight bold italic (standing n before (loose_leaf k own))
unfolding label_at
leaf_right Text own bold italic n before i f x = ((λ e. typed_line (flat_map shown_item own) x (f e)), tt)
leaf_right Sep own bold italic n before i f x = absurd i

run_unbroken : (bold italic : Bool) (k : Loose) (o : Option ℕ) (b : ℕ) (r others : List Part) → IsRun one_leaf (loose k o b ∷ r) others
    → AllNestOn bold italic (loose k o b ∷ (r ++ others)) → (bold || italic) ≡ true → has_break (flat_map shown_item (held_parts (loose k o b ∷ r))) ≡ false
run_unbroken bold italic k o b [] others run h e = ap (λ (v : Bool). v || false) (h.1 e)
run_unbroken bold italic k o b (loose j i c ∷ r) others run h e =
    ap (λ (v : Bool). v || has_break (flat_map shown_item (held_parts (loose j i c ∷ r)))) (h.1 e) ∙ run_unbroken bold italic j i c r others run.1 h.2 e
run_unbroken bold italic k o b (node x ∷ r) others run h e = absurd (let no = run.0 in cc)

past_run : (bold italic : Bool) (k : Loose) (o : Option ℕ) (b : ℕ) (r others : List Part) → IsRun one_leaf (loose k o b ∷ r) others
    → AllNestOn bold italic (r ++ others) → AllNestOn bold italic others
past_run bold italic k o b [] others run h = h
past_run bold italic k o b (loose j i c ∷ r) others run h = past_run bold italic j i c r others run.1 h.2
past_run bold italic k o b (node x ∷ r) others run h = absurd (let no = run.0 in cc)

runs_right : (rs : List (List Part)) (ps : List Part) (bold italic : Bool) (n : ℕ) (before : List Item) → 0 < n → AreRuns one_leaf rs ps → AllNestOn bold italic ps
    → HaveTexts (nodes_of n before (forest (map child rs))) → AreRight bold italic (nodes_of n before (forest (map child rs)))
runs_right [] ps bold italic n before some a h x = (tt, tt)
runs_right ([] ∷ rs) ps bold italic n before some a h x = absurd a.2
runs_right ((loose k o b ∷ r) ∷ rs) ps bold italic n before some a h x =
    let run : List Part = loose k o b ∷ r in
    let u : ItemTree = child run in
    let own : AllNestOn bold italic (loose k o b ∷ (r ++ a.0)) = subst (AllNestOn bold italic) a.1 h in
    let first = leaf_right k (held_parts run) bold italic n before own.0 (λ e. run_unbroken bold italic k o b r a.0 a.2 own e) x.0 in
    let later = runs_right rs a.0 bold italic (n + count (placed before u)) (before ++ tree_items u) (omega (arith, some)) a.3
    (past_run bold italic k o b r a.0 a.2 own.2) x.1 in
    ((first.0, later.0), (first.1, later.1))
runs_right ((node u ∷ []) ∷ rs) ps bold italic n before some a h x =
    let own : AllNestOn bold italic (node u ∷ a.0) = subst (AllNestOn bold italic) a.1 h in
    let first = own.0 n before some x.0 in
    let later = runs_right rs a.0 bold italic (n + count (placed before u)) (before ++ tree_items u) (omega (arith, some)) a.3 own.1 x.1 in
    ((first.0, later.0), (first.1, later.1))
runs_right ((node u ∷ p ∷ r) ∷ rs) ps bold italic n before some a h x = absurd (let no = a.2.0 in cc)

children_right : (ps : List Part) (bold italic : Bool) (n : ℕ) (before : List Item) → 0 < n → AllNestOn bold italic ps
    → HaveTexts (nodes_of n before (forest (children ps))) → AreRight bold italic (nodes_of n before (forest (children ps)))
unfolding children
children_right ps bold italic n before some h x = runs_right (runs one_leaf ps) ps bold italic n before some (runs_are one_leaf ps) h x

-- ---- a style

style_right : (kind bold italic : Bool) (n : ℕ) (before opening closing : List Item) (ps : List Part) → 0 < n → of_style kind bold italic ≡ false
    → BeginsQuoted (sources opening) → BeginsQuoted (sources closing)
    → AreRight (kind || bold) (not kind || italic) (nodes_of (n + 1) (before ++ opening) (forest (children ps)))
    → IsRight bold italic (standing n before (style_round kind opening ps closing))
unfolding label_at
style_right true bold italic n before opening closing ps some e o c h =
    ((e, h.0), (record { opening = o; closing = c; number = omega (arith, some) }, h.1))
style_right false bold italic n before opening closing ps some e o c h =
    ((e, h.0), (record { opening = o; closing = c; number = omega (arith, some) }, h.1))

style_nests : (kind bold italic : Bool) (opening closing : List Item) (ps : List Part) → of_style kind bold italic ≡ false → BeginsQuoted (sources opening)
    → BeginsQuoted (sources closing) → AllNestOn (kind || bold) (not kind || italic) ps → NestsOn bold italic (style_round kind opening ps closing)
style_nests kind bold italic opening closing ps e o c h = λ n before some x.
    style_right kind bold italic n before opening closing ps some e o c
    (children_right ps (kind || bold) (not kind || italic) (n + 1) (before ++ opening) (omega arith) h (style_texts kind n before opening closing ps x))

begins_quoted : (us : List Segment) → AreQuotes us → QuotesAre us → BeginsQuoted (sources (segment_items us))
begins_quoted [] q a = tt
begins_quoted (u ∷ us) q a =
    let k = a.0 q.0 in
    subst (λ (xs : List Item). BeginsQuoted (sources (xs ++ segment_items us))) (sym k.items) k.is

-- ---- segments with styles round them

abbrev EachFree : List Segment → Type 0
EachFree [] = Unit {0}
EachFree (u ∷ us) = AllFree u.parts × EachFree us

each_free : (us : List Segment) → AllFree (segment_parts us) → EachFree us
each_free [] h = tt
each_free (u ∷ us) h = let r = free_split u.parts (segment_parts us) h in (r.0, each_free us r.1)

segments_free : (us : List Segment) → EachFree us → AllFree (segment_parts us)
segments_free [] h = tt
segments_free (u ∷ us) h = free_both u.parts (segment_parts us) h.0 (segments_free us h.1)

take_free : (n : ℕ) (us : List Segment) → EachFree us → EachFree (take n us)
take_free zero [] h = tt
take_free zero (u ∷ us) h = tt
take_free (suc n) [] h = tt
take_free (suc n) (u ∷ us) h = (h.0, take_free n us h.1)

drop_free : (n : ℕ) (us : List Segment) → EachFree us → EachFree (drop n us)
drop_free zero [] h = tt
drop_free zero (u ∷ us) h = h
drop_free (suc n) [] h = tt
drop_free (suc n) (u ∷ us) h = drop_free n us h.1

between_nest : (bold italic : Bool) (low high : ℕ) (us : List Segment) → EachFree us → AllNestOn bold italic (segment_parts (between low high us))
between_nest bold italic low high us h =
    free_nest bold italic (segment_parts (between low high us)) (segments_free (between low high us) (take_free (high - low) (drop low us) (drop_free low us h)))

styled_nest : (low high : ℕ) (f : Forest) (us : List Segment) (bold italic : Bool) → NestsIn bold italic f → AreMarked f us → QuotesAre us → EachFree us
    → AllNestOn bold italic (styled low high f us)
styled_nest low high bare us bold italic n m q h = between_nest bold italic low high us h
styled_nest low high (grown s held after) us bold italic n m q h =
    let mid : ℕ = s.from + s.open_w in
    let end : ℕ = s.to - s.close_w in
    nest_both bold italic (segment_parts (between low s.from us)) (node (style_node s (styled mid end held us) us) ∷ styled s.to high after us)
    (between_nest bold italic low s.from us h) (
      style_nests s.bold bold italic (segment_items (between s.from mid us)) (segment_items (between end s.to us)) (styled mid end held us) n.0
          (begins_quoted (between s.from mid us) m.0 (quotes_between s.from mid us q)) (begins_quoted (between end s.to us) m.1 (quotes_between end s.to us q))
          (styled_nest mid end held us (s.bold || bold) (not s.bold || italic) n.1 m.2 q h),
      styled_nest s.to high after us bold italic n.2 m.3 q h,
    )

between_on : (low high : ℕ) (us : List Segment) → EachFree us → AreOnLine (segment_parts (between low high us))
between_on low high us h =
    free_on (segment_parts (between low high us)) (segments_free (between low high us) (take_free (high - low) (drop low us) (drop_free low us h)))

styled_on : (low high : ℕ) (f : Forest) (us : List Segment) → EachFree us → AreOnLine (styled low high f us)
styled_on low high bare us h = between_on low high us h
styled_on low high (grown s held after) us h =
    let mid : ℕ = s.from + s.open_w in
    let end : ℕ = s.to - s.close_w in
    on_both (segment_parts (between low s.from us)) (node (style_node s (styled mid end held us) us) ∷ styled s.to high after us) (between_on low s.from us h)
    (style_no_text s.bold (segment_items (between s.from mid us)) (segment_items (between end s.to us)) (styled mid end held us), styled_on s.to high after us h)

-- ---- lines

line_free : (at : ℕ) (xs : List Item) → HasNoBreak xs → AreFlatTiles (tiles in_line xs) → AreNodes (line_signs at xs) → EachFree (segments context_parts in_line xs)
unfolding segments
line_free at xs b f n =
    let told = tiles_here at xs (tiles_placed in_line xs) f n in
    each_free (segments context_parts in_line xs)
    (subst AllFree (sym (segments_parts (tiles in_line xs)))
    (parts_free at (flat_map (tile_part context_parts in_line) (tiles in_line xs)) (things (line_signs at xs)) told.have (tiles_unbroken xs b)))

line_nest : (at : ℕ) (xs : List Item) → HasNoBreak xs → AreFlatTiles (tiles in_line xs) → AreNodes (line_signs at xs) → AllNestOn false false (line_parts xs)
line_nest at xs b f n =
    let us : List Segment = segments context_parts in_line xs in
    subst (AllNestOn false false) (sym (line_is xs))
    (styled_nest 0 (length us) (forest_of (style_tree_of (chunks us))) us false false (line_nests (chunks us)) (all_marked us) (line_quotes xs) (line_free at xs b f n))

pub line_on : (at : ℕ) (xs : List Item) → HasNoBreak xs → AreFlatTiles (tiles in_line xs) → AreNodes (line_signs at xs) → AreOnLine (line_parts xs)
line_on at xs b f n =
    let us : List Segment = segments context_parts in_line xs in
    subst AreOnLine (sym (line_is xs)) (styled_on 0 (length us) (forest_of (style_tree_of (chunks us))) us (line_free at xs b f n))

lines_nest : (at : ℕ) (ls : List (List Item)) → AreFlatLines ls → AreNodes (signs_of_lines at ls) → AllNestOn false false (joined_parts ls)
lines_nest at [] f n = tt
lines_nest at (xs ∷ []) f n = subst (AllNestOn false false) (sym (append-nil (line_parts xs))) (line_nest at xs f.0 f.1 n)
lines_nest at (xs ∷ ys ∷ ls) f n =
    let m : ℕ = length (sources xs) in
    let later : List ContentSign = letter 10 ∷ signs_of_lines (at + m + 1) (ys ∷ ls) in
    let nodes = nodes_parts (line_signs at xs) later n in
    nest_both false false (line_parts xs) (loose Text None 10 ∷ joined_parts (ys ∷ ls)) (line_nest at xs f.0 f.1 nodes.0)
    (tt, (λ e. absurd (cc)), lines_nest (at + m + 1) (ys ∷ ls) f.2 nodes.1)

-- ---- the block

pub own_nests : (k : TextBlock) (q : List ℕ) (block : Tree) → IsStyledIn k q → IsIn k q block → AreRight false false (children_of block)
own_nests k q block h i =
    let ls : List (List Item) = lines_in k q in
    let at : ℕ = begins_at k in
    let ps : List Part = content_parts_of k (page_items q) in
    let first : List Item = i.before ++ open_items k in
    let nest : AllNestOn false false ps =
    subst (AllNestOn false false) (sym (lines_are k q)) (lines_nest at ls h.flat (flat_nodes ls at (signs_of_lines at ls) h.flat refl)) in
    let is : block ≡ standing i.number i.before (with_parts k ps) = i.is ∙ ap (standing i.number i.before) (parts_are k q) in
    let own : children_of block ≡ nodes_of (i.number + 1) first (forest (children ps)) =
    ap children_of is ∙ its_children (block_of k) i.number i.before (open_items k) (close_items k) ps in
    subst (AreRight false false) (sym own)
    (children_right ps false false (i.number + 1) first (omega arith) nest
    (block_texts k q (i.number + 1) first h.utf8 h.is h.unended h.calls_nothing))
