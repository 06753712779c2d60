-- A paragraph of the page begins with no mark: its first node, where no text is before it, is another one.
use Rattle.std.proofs.Common.{arith, ◌≡◌, ℕ, zero, suc, ◌+◌, ◌-◌, ◌<◌, ◌≤◌, Bool, true, false, Option, None, Some, List, [], ◌∷◌, ◌++◌, length, map, take, drop, refl, sym, ap, ◌∙◌, subst, append-nil}
use Rattle.std.specs.Prelude.{if◌then◌else◌}
use Rattle.std.specs.List.{flat_map, AllByRecursion}
use Rattle.std.specs.Str.{chars}
use Rattle.std.proofs.lemmas.List.{take-append-drop}
use Rattle.wt_span.specs.Items.{Item, char, whole, is_mark as is_mark_item, is_mark_form, sources}
use Rattle.wt_span.specs.declared.form.ItemForm.{ItemForm}
use Rattle.wt_span.specs.declared.form.ItemForm.TheVariants as form
use Rattle.wt_span.specs.Runs.{runs, IsRun, AreRuns}
use Rattle.wt_span.proofs.RunLaws.{runs_are}
use Rattle.wt_tree.specs.declared.edit_shape.Sort.{Sort}
use Rattle.wt_tree.specs.declared.edit_shape.Sort.TheVariants as sort
use Rattle.wt_tree.specs.EditShapes.{edit_shape}
use Rattle.wt_tree.specs.Tree.{Tree, tree, Trees, none, more, label}
use Rattle.wt_guards.specs.declared.role.Role.{Role}
use Rattle.wt_guards.specs.declared.role.Role.TheVariants.{Link, External, Bare, Switch, Toggle, Mark, Group, Function, Node}
use Rattle.wt_guards.specs.Content.{ContentSign, Thing, letter, thing}
use Rattle.wt_guards.specs.Guards.{is_mark}
use Rattle.wt_original.specs.declared.block.Extent.{Extent}
use Rattle.wt_original.specs.Kept.{url, island, role_by, role_of}
use Rattle.wt_inline.specs.declared.loose.Loose.{Loose}
use Rattle.wt_inline.specs.declared.loose.Loose.TheVariants.{Text, Sep}
use Rattle.wt_inline.specs.ItemTree.{ItemTree, forest}
use Rattle.wt_inline.specs.Parts.{Part, loose, node, held_parts, one_leaf, loose_leaf, child, parts, children}
use Rattle.wt_lines.specs.Lines.{lines, AreLines}
use Rattle.wt_lines.proofs.LineLaws.{lines_are as lines_join}
use Rattle.wt_tiles.specs.declared.glyph.Glyph.{Glyph}
use Rattle.wt_tiles.specs.declared.shape.Shape.{Shape}
use Rattle.wt_tiles.specs.declared.shape.TileKind.{TileKind}
use Rattle.wt_tiles.specs.declared.shape.TileKind.TheVariants as kind
use Rattle.wt_tiles.specs.Contexts.{in_line}
use Rattle.wt_tiles.specs.Glyphs.{glyph_of, glyph_of_form}
use Rattle.wt_tiles.specs.Links.{leaf}
use Rattle.wt_tiles.specs.Reading.{tile_at, StandsBy, AreTiles}
use Rattle.wt_tiles.specs.Tiles.{size, shapes, tile_with, parts as tile_parts, tiles}
use Rattle.wt_tiles.proofs.Readings.{shapes_are}
use Rattle.wt_quotes.specs.Forest.{Forest, bare, grown, forest_of}
use Rattle.wt_quotes.specs.Styles.{style_tree_of}
use Rattle.wt_context.specs.Chunks.{chunks}
use Rattle.wt_context.specs.Line.{context_parts, line_parts}
use Rattle.wt_context.specs.Nodes.{tile_tree, tile_segments, segments}
use Rattle.wt_context.specs.Segments.{Segment, segment_items, segment_parts}
use Rattle.wt_context.specs.Styled.{between, style_node, styled}
use Rattle.wt_context.specs.Styling.{Fill}
use Rattle.wt_context.specs.Unstyled.{tile_parts as tile_parts_of, tile_part}
use Rattle.wt_context.proofs.Forests.{fill_le}
use Rattle.wt_context.proofs.LineHolding.{between_all}
use Rattle.wt_context.proofs.PlainNodes.{IsText}
use Rattle.wt_context.proofs.TilePlaces.{IsPlaced, tiles_placed}
use Rattle.wt_annotated.specs.Labels.{label_at}
use Rattle.wt_page.specs.Rows.{marks_len}
use Rattle.wt_expand.specs.PageItems.{page_items}
use Rattle.wt_link_spelling.specs.Spelling.{children_of}
use Rattle.wt_part_laws.specs.Standing.{standing}
use Rattle.wt_text_edit_laws.specs.Contents.{content_parts_of}
use Rattle.wt_text_edit_laws.specs.ParagraphParts.{joined_parts}
use Rattle.wt_text_edit_laws.specs.TextBlocks.{a_paragraph, block_of}
use Rattle.wt_text_edit_laws.proofs.Blocks.BlockLeaves.{open_items, close_items}
use Rattle.wt_beside_laws.specs.FlatBlocks.{lines_in}
use Rattle.wt_beside_laws.specs.Nodes.{AreNodes}
use Rattle.wt_beside_laws.specs.OwnLed.{is_mark_sort, is_mark_node, begin_marked}
use Rattle.wt_beside_laws.specs.PageBlocks.{IsRoleAt}
use Rattle.wt_beside_laws.specs.PageSigns.{ends_break, form_role, atom_role, tile_role, tile_signs, signs_of_tiles, line_signs, signs_of_lines, IsFlatTile, AreFlatTiles, AreFlatLines}
use Rattle.wt_beside_laws.specs.Stood.{things}
use Rattle.wt_beside_laws.specs.StyledIn.{IsStyledIn}
use Rattle.wt_beside_laws.proofs.BlockSigns.{its_children}
use Rattle.wt_beside_laws.proofs.FormKinds.{IsNodeKind, form_is_node}
use Rattle.wt_beside_laws.proofs.LineThings.{nodes_parts, segments_parts, tile_told}
use Rattle.wt_beside_laws.proofs.Made.OldBlocks.{with_parts, parts_are, lines_are, IsIn}
use Rattle.wt_beside_laws.proofs.PageSigns.{flat_nodes}
use Rattle.wt_beside_laws.proofs.PartThings.{IsThing, tree_source, HaveThings, nodes_of}
use Rattle.wt_beside_laws.proofs.Styled.BlockNodes.{style_round}
use Rattle.wt_beside_laws.proofs.Styled.BlockStyles.{parts_cut, line_fill, line_is}

-- ---- a mark, by its kind

url_unmarked : (opening text : List ℕ) → is_mark (url opening text) ≡ false
url_unmarked [] text = refl
url_unmarked (b ∷ opening) text = refl

island_unmarked : (v : Bool) → is_mark (island v) ≡ false
island_unmarked true = refl
island_unmarked false = refl

role_mark_by : (s : Sort) (block : Tree) (e : Extent) (t : Tree) → is_mark (role_by s block e t) ≡ is_mark_sort s
role_mark_by sort.PageLink block e t = refl
role_mark_by sort.Url block e t = url_unmarked (label t).opening _
role_mark_by sort.Switch block e t = refl
role_mark_by sort.Mark block e t = refl
role_mark_by sort.Group block e t = refl
role_mark_by sort.Island block e t = island_unmarked _
role_mark_by sort.Other block e t = refl

pub role_mark : (block : Tree) (e : Extent) (t : Tree) → is_mark (role_of block e t) ≡ is_mark_node t
role_mark block e t = role_mark_by (edit_shape (label t).kind).sort block e t

-- ---- parts of which the first is no mark

abbrev IsFirst : ItemTree → Type 0
IsFirst u = (n : ℕ) (before : List Item) → is_mark_node (standing n before u) ≡ false

abbrev FirstOf : List Part → Type 0
FirstOf [] = Unit {0}
FirstOf (loose k o b ∷ ps) = IsText k
FirstOf (node u ∷ ps) = IsFirst u

first_or : (ps qs : List Part) → FirstOf (ps ++ qs) → FirstOf ps
first_or [] qs h = tt
first_or (loose k o b ∷ ps) qs h = h
first_or (node u ∷ ps) qs h = h

first_both : (ps qs : List Part) → FirstOf ps → FirstOf qs → FirstOf (ps ++ qs)
first_both [] qs h k = k
first_both (loose j o b ∷ ps) qs h k = h
first_both (node u ∷ ps) qs h k = h

-- ---- a tile

unmarked_at : (r : Role) (block : Tree) (at : ℕ) (source : List ℕ) → is_mark r ≡ false → IsRoleAt r block at source
unmarked_at Link block at source e = tt
unmarked_at External block at source e = tt
unmarked_at (Bare ends) block at source e = tt
unmarked_at Switch block at source e = tt
unmarked_at Toggle block at source e = tt
unmarked_at (Mark ends began) block at source e = cc
unmarked_at (Group g) block at source e = tt
unmarked_at Function block at source e = tt
unmarked_at Node block at source e = tt

thing_first : (u : ItemTree) (r : Role) → IsThing u r → is_mark r ≡ false → IsFirst u
thing_first u r i e = λ n before.
    let t : Tree = standing n before u in
    let x : Extent = record { start = 0; end = 0; from = 0; to = 0 } in
    sym (role_mark t x t) ∙ ap is_mark (i.role t x n before (unmarked_at r t 0 _ e)) ∙ e

abbrev AllUnmarked : List Thing → Type 0
AllUnmarked [] = Unit {0}
AllUnmarked (t ∷ ts) = is_mark t.role ≡ false

things_first : (at : ℕ) (ps : List Part) (ts : List Thing) → HaveThings at ps ts → AllUnmarked ts → FirstOf ps
things_first at [] ts h e = tt
things_first at (loose k o b ∷ ps) ts h e = h.0
things_first at (node u ∷ ps) ts h e = thing_first u h.0 h.3 (subst AllUnmarked h.2 e)

form_unmarked : (f : ItemForm) → is_mark (form_role f) ≡ false
form_unmarked form.Chars = refl
form_unmarked (form.Entity c) = refl
form_unmarked form.Nowiki = refl
form_unmarked form.Extension = refl
form_unmarked form.Function = refl
form_unmarked form.Comment = refl
form_unmarked form.Include = refl
form_unmarked form.Hidden = refl
form_unmarked form.EmptyCall = refl

atom_unmarked : (xs : List Item) → is_mark (atom_role xs) ≡ false
atom_unmarked [] = refl
atom_unmarked (char o b ∷ xs) = refl
atom_unmarked (whole f o bs ∷ xs) = form_unmarked f

letters_unmarked : (cs : List ℕ) → AllUnmarked (things (map letter cs))
letters_unmarked [] = tt
letters_unmarked (c ∷ cs) = letters_unmarked cs

tile_unmarked : (k : TileKind) (began : Bool) (at : ℕ) (ys : List Item) → (k ≡ kind.Mark → ⊥) → AllUnmarked (things (tile_signs k began at ys))
tile_unmarked kind.Link began at ys n = refl
tile_unmarked kind.Category began at ys n = refl
tile_unmarked kind.Media began at ys n = refl
tile_unmarked kind.ExtLink began at ys n = refl
tile_unmarked kind.BareUrl began at ys n = refl
tile_unmarked kind.Br began at ys n = refl
tile_unmarked kind.Pair began at ys n = refl
tile_unmarked kind.TagIsland began at ys n = refl
tile_unmarked kind.Switch began at ys n = refl
tile_unmarked kind.Atom began at ys n = atom_unmarked ys
tile_unmarked kind.Mark began at ys n = absurd (n refl)
tile_unmarked kind.Chars began at ys n = letters_unmarked (chars (sources ys))

-- no mark is first among the items
abbrev BeginsPlain : List Item → Type 0
BeginsPlain [] = Unit {0}
BeginsPlain (x ∷ xs) = is_mark_item x ≡ false

atom_apart : (w : Shape) → Some (leaf kind.Atom 1) ≡ Some w → w.kind ≡ kind.Mark → ⊥
atom_apart w e i = cc

whole_plain : (a : Bool) (f : ItemForm) (gs : List Glyph) (w : Shape) → is_mark_form f ≡ false → tile_with in_line a (glyph_of_form f) (glyph_of_form f ∷ gs) ≡ Some w
    → w.kind ≡ kind.Mark → ⊥
whole_plain a form.Chars gs w m e i = atom_apart w e i
whole_plain a (form.Entity c) gs w m e i = atom_apart w e i
whole_plain a form.Nowiki gs w m e i = atom_apart w e i
whole_plain a form.Extension gs w m e i = atom_apart w e i
whole_plain a form.Function gs w m e i = atom_apart w e i
whole_plain a form.Comment gs w m e i = cc
whole_plain a form.Include gs w m e i = cc
whole_plain a form.Hidden gs w m e i = cc
whole_plain a form.EmptyCall gs w m e i = cc

plain_tile : (a : Bool) (w : Shape) (xs : List Item) → BeginsPlain xs → 0 < length xs → tile_at in_line a (map glyph_of xs) ≡ Some w → w.kind ≡ kind.Mark → ⊥
plain_tile a w [] p some e i = absurd (omega (arith, some))
plain_tile a w (char o b ∷ xs) p some e i = subst IsNodeKind i (form_is_node in_line a (map glyph_of (char o b ∷ xs)) w e)
plain_tile a w (whole f o bs ∷ xs) p some e i = whole_plain a f (map glyph_of xs) w p e i

some_parts : (o : Option ItemTree) (ys : List Item) (rest : List Part) → 0 < length ys → FirstOf (tile_parts_of o ys) → FirstOf (tile_parts_of o ys ++ rest)
some_parts None [] rest some h = absurd (omega (arith, some))
some_parts None (char o b ∷ ys) rest some h = h
some_parts None (whole f o bs ∷ ys) rest some h = h
some_parts (Some t) ys rest some h = h

taken : (n : ℕ) (xs : List Item) → n ≤ length (map glyph_of xs) → length (take n xs) ≡ n
taken zero [] le = refl
taken zero (x ∷ xs) le = refl
taken (suc n) [] le = absurd (omega (arith, le))
taken (suc n) (x ∷ xs) le = let r = taken n xs (omega (arith, le)) in omega (arith, r)

whole_length : (n : ℕ) (xs : List Item) → 0 < length (take n xs) → 0 < length xs
whole_length zero [] h = h
whole_length zero (x ∷ xs) h = omega arith
whole_length (suc n) [] h = h
whole_length (suc n) (x ∷ xs) h = omega arith

tiles_first : (ws : List Shape) (a began : Bool) (at : ℕ) (xs : List Item) → AreTiles in_line a ws (map glyph_of xs) → AllByRecursion (IsPlaced in_line) (tile_parts ws xs)
    → AreFlatTiles (tile_parts ws xs) → AreNodes (signs_of_tiles began at (tile_parts ws xs)) → BeginsPlain xs
    → FirstOf (flat_map (tile_part context_parts in_line) (tile_parts ws xs))
tiles_first [] a began at xs t p f n b = tt
tiles_first (w ∷ ws) a began at xs t p f n b =
    let m : ℕ = size w in
    let ys : List Item = take m xs in
    let more : List ContentSign = signs_of_tiles (ends_break (sources ys)) (at + length (sources ys)) (tile_parts ws (drop m xs)) in
    let nodes = nodes_parts (tile_signs w.kind began at ys) more n in
    let told = tile_told w.kind a began at w xs refl f.0 t.2 t.0 p.0 nodes.0 in
    let some : 0 < size w = t.0 in
    let long : length ys ≡ size w = taken m xs t.1 in
    let there : 0 < length ys = omega (arith, some, long) in
    some_parts (tile_tree context_parts in_line w.kind w ys) ys (flat_map (tile_part context_parts in_line) (tile_parts ws (drop m xs))) there
    (things_first at (tile_parts_of (tile_tree context_parts in_line w.kind w ys) ys) (things (tile_signs w.kind began at ys)) told.have
    (tile_unmarked w.kind began at ys
    (λ i. plain_tile a w xs b (whole_length m xs there) (subst (λ (j : TileKind). StandsBy j in_line a w (map glyph_of xs)) i t.2) i)))

-- ---- a line

style_first : (kind : Bool) (opening closing : List Item) (ps : List Part) → IsFirst (style_round kind opening ps closing)
unfolding label_at
style_first true opening closing ps = λ n before. refl
style_first false opening closing ps = λ n before. refl

styled_first : (low high : ℕ) (f : Forest) (us : List Segment) → Fill low high f → FirstOf (segment_parts (between low high us)) → FirstOf (styled low high f us)
styled_first low high bare us f h = h
styled_first low high (grown x held after) us f h =
    let mid : ℕ = x.from + x.open_w in
    let end : ℕ = x.to - x.close_w in
    let within = fill_le mid end held f.1 in
    let past = fill_le x.to high after f.3 in
    let close = f.2 in
    let pa : List Part = segment_parts (between low x.from us) in
    let cut : segment_parts (between low high us) ≡ pa ++ segment_parts (between x.from high us) =
    parts_cut low x.from high us f.0 (omega (arith, within, past, close)) in
    first_both pa (node (style_node x (styled mid end held us) us) ∷ styled x.to high after us)
    (first_or pa (segment_parts (between x.from high us)) (subst FirstOf cut h))
    (style_first x.bold (segment_items (between x.from mid us)) (segment_items (between end x.to us)) (styled mid end held us))

segments_first : (at : ℕ) (xs : List Item) → AreFlatTiles (tiles in_line xs) → AreNodes (line_signs at xs) → BeginsPlain xs
    → FirstOf (segment_parts (segments context_parts in_line xs))
unfolding segments tiles
segments_first at xs f n b =
    subst FirstOf (sym (segments_parts (tiles in_line xs)))
    (tiles_first (shapes in_line (map glyph_of xs)) false true at xs (shapes_are in_line (map glyph_of xs)) (tiles_placed in_line xs) f n b)

line_first : (at : ℕ) (xs : List Item) → AreFlatTiles (tiles in_line xs) → AreNodes (line_signs at xs) → BeginsPlain xs → FirstOf (line_parts xs)
line_first at xs f n b =
    let us : List Segment = segments context_parts in_line xs in
    let own : FirstOf (segment_parts (between 0 (length us) us)) = subst (λ (vs : List Segment). FirstOf (segment_parts vs)) (sym (between_all us)) (segments_first at xs f n b) in
    subst FirstOf (sym (line_is xs)) (styled_first 0 (length us) (forest_of (style_tree_of (chunks us))) us (line_fill us) own)

lines_first : (at : ℕ) (ls : List (List Item)) (xs : List Item) → AreLines ls xs → AreFlatLines ls → AreNodes (signs_of_lines at ls) → BeginsPlain xs
    → FirstOf (joined_parts ls)
lines_first at [] xs a f n b = tt
lines_first at (l ∷ []) xs a f n b =
    subst FirstOf (sym (append-nil (line_parts l))) (line_first at l f.1 n (subst BeginsPlain a.1 b))
lines_first at (l ∷ m ∷ ls) xs a f n b =
    let later : List ContentSign = letter 10 ∷ signs_of_lines (at + length (sources l) + 1) (m ∷ ls) in
    let nodes = nodes_parts (line_signs at l) later n in
    first_both (line_parts l) (loose Text None 10 ∷ joined_parts (m ∷ ls)) (line_first at l f.1 nodes.0 (first_plain l (a.1 ∷ a.2) (subst BeginsPlain a.4 b))) tt
  where
    first_plain : (us vs : List Item) → BeginsPlain (us ++ vs) → BeginsPlain us
    first_plain [] vs h = tt
    first_plain (u ∷ us) vs h = h

-- ---- the block

leaf_plain : (k : Loose) (own : List Item) (n : ℕ) (before : List Item) → IsText k → is_mark_node (standing n before (loose_leaf k own)) ≡ false
unfolding label_at
leaf_plain Text own n before i = refl
leaf_plain Sep own n before i = absurd i

runs_first : (rs : List (List Part)) (ps : List Part) (n : ℕ) (before : List Item) → AreRuns one_leaf rs ps → FirstOf ps
    → begin_marked (nodes_of n before (forest (map child rs))) ≡ false
runs_first [] ps n before a h = refl
runs_first ([] ∷ rs) ps n before a h = absurd a.2
runs_first ((loose k o b ∷ r) ∷ rs) ps n before a h =
    let own : FirstOf (loose k o b ∷ (r ++ a.0)) = subst FirstOf a.1 h in leaf_plain k (held_parts (loose k o b ∷ r)) n before own
runs_first ((node u ∷ []) ∷ rs) ps n before a h =
    let own : FirstOf (node u ∷ a.0) = subst FirstOf a.1 h in own n before
runs_first ((node u ∷ p ∷ r) ∷ rs) ps n before a h = absurd (let no = a.2.0 in cc)

children_first : (ps : List Part) (n : ℕ) (before : List Item) → FirstOf ps → begin_marked (nodes_of n before (forest (children ps))) ≡ false
unfolding children
children_first ps n before h = runs_first (runs one_leaf ps) ps n before (runs_are one_leaf ps) h

begins_plain : (xs : List Item) → marks_len xs ≡ 0 → BeginsPlain xs
begins_plain [] e = tt
begins_plain (x ∷ xs) e = by (is_mark_item x) refl
  where
    by : (v : Bool) → is_mark_item x ≡ v → is_mark_item x ≡ false
    by true i = absurd (let no : 1 + marks_len xs ≡ 0 = ap (λ (t : Bool). if t then 1 + marks_len xs else 0) (sym i) ∙ e in omega (arith, no))
    by false i = i

pub paragraph_begins : (q : List ℕ) (block : Tree) → IsStyledIn a_paragraph q → IsIn a_paragraph q block → begin_marked (children_of block) ≡ false
paragraph_begins q block h i =
    let ls : List (List Item) = lines (page_items q) in
    let ps : List Part = joined_parts ls in
    let first : FirstOf ps =
    lines_first 0 ls (page_items q) (lines_join (page_items q)) h.flat (flat_nodes ls 0 (signs_of_lines 0 ls) h.flat refl) (begins_plain (page_items q) h.is.unled) in
    let is : block ≡ standing i.number i.before (with_parts a_paragraph ps) = i.is ∙ ap (standing i.number i.before) (parts_are a_paragraph q) in
    let own : children_of block ≡ nodes_of (i.number + 1) (i.before ++ open_items a_paragraph) (forest (children ps)) =
    ap children_of is ∙ its_children (block_of a_paragraph) i.number i.before (open_items a_paragraph) (close_items a_paragraph) ps in
    ap begin_marked own ∙ children_first ps (i.number + 1) (i.before ++ open_items a_paragraph) first
