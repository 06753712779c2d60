-- All that the nodes of a content hold is the page's own: a page's items are, and a node holds items of its line, opened or not.
use Rattle.std.proofs.Common.{ℕ, zero, suc, ◌+◌, ◌-◌, ◌==◌, Bool, true, false, Option, Some, None, List, [], ◌∷◌, ◌++◌, map, take, drop, refl, sym, subst}
use Rattle.std.specs.Prelude.{if◌then◌else◌}
use Rattle.std.specs.List.{flat_map}
use Rattle.std.proofs.lemmas.List.{take-append-drop}
use Rattle.wt_span.specs.declared.form.ItemForm.{ItemForm}
use Rattle.wt_span.specs.declared.form.ItemForm.TheVariants as form
use Rattle.wt_span.specs.Entities.{entity_at}
use Rattle.wt_span.specs.Items.{Item, char, whole}
use Rattle.wt_span.specs.Runs.{runs}
use Rattle.wt_span.proofs.RunLaws.{runs_joined}
use Rattle.wt_quotes.specs.Forest.{Forest, bare, grown, forest_of}
use Rattle.wt_quotes.specs.Styles.{style_tree_of}
use Rattle.wt_lines.specs.Lines.{lines, AreLines}
use Rattle.wt_lines.proofs.LineLaws.{lines_are}
use Rattle.wt_expand.specs.PageItems.{page_items}
use Rattle.wt_inline.specs.declared.loose.Loose.TheVariants.{Text}
use Rattle.wt_inline.specs.Inside.{read_with, inside_items, opened_whole, opened_all}
use Rattle.wt_inline.specs.ItemTree.{Head, plain, ItemTree, forest, tree_items, held_by_all}
use Rattle.wt_inline.specs.Parts.{Part, node, held_parts, parts, children}
use Rattle.wt_inline.specs.RawTag.{opening_of as tag_before, inside_of as tag_inside, closing_of as tag_behind}
use Rattle.wt_inline.proofs.HeldLaws.{held_children, held_of_parts, held_append}
use Rattle.wt_tiles.specs.declared.context.Context.{Context}
use Rattle.wt_tiles.specs.declared.shape.Shape.{Shape}
use Rattle.wt_tiles.specs.declared.shape.TileKind.{TileKind}
use Rattle.wt_tiles.specs.declared.shape.TileKind.TheVariants as kind
use Rattle.wt_tiles.specs.Contexts.{in_line, in_text, in_pair}
use Rattle.wt_tiles.specs.Cutting.{joined}
use Rattle.wt_tiles.specs.Tiles.{tiles}
use Rattle.wt_tiles.proofs.Joining.{tiles_join}
use Rattle.wt_context.specs.declared.node.Nested.{Nested}
use Rattle.wt_context.specs.declared.node.Nested.TheVariants as nested
use Rattle.wt_context.specs.Chunks.{chunks}
use Rattle.wt_context.specs.Heads.{bare_url_head}
use Rattle.wt_context.specs.Line.{read_by, within, most_contexts, context_parts, line_parts}
use Rattle.wt_context.specs.Nodes.{Reading, opening_of, inside_of, closing_of, trail_of, bare_url, round_parts, trail_parts, nested_head, nested_tree, tile_tree, segments_by, tile_segments, segments}
use Rattle.wt_context.specs.Segments.{Segment, one_stretch, loose_segment, loose_segments, segment_items, segment_parts}
use Rattle.wt_context.specs.Styled.{style_kind, between, style_node, styled, with_styles}
use Rattle.wt_text_edit_laws.specs.Contents.{content_parts_of}
use Rattle.wt_text_edit_laws.specs.ParagraphParts.{after_breaks, joined_parts}
use Rattle.wt_text_edit_laws.specs.TextBlocks.{TextBlock, a_paragraph, a_heading}
use Rattle.wt_text_edit_laws.proofs.Blocks.BlockLeaves.{items_of_page}
use Rattle.wt_text_edit_laws.proofs.Blocks.PageItems.{all_of}
use Rattle.wt_text_edit_laws.proofs.Texts.TypedShown.{AllOfPage, both_of_page}

-- ---- some of them

take_own : (n : ℕ) (xs : List Item) → AllOfPage xs → AllOfPage (take n xs)
take_own n xs h = (all_of (take n xs) (drop n xs) (subst AllOfPage (sym (take-append-drop n xs)) h)).0

drop_own : (n : ℕ) (xs : List Item) → AllOfPage xs → AllOfPage (drop n xs)
drop_own n xs h = (all_of (take n xs) (drop n xs) (subst AllOfPage (sym (take-append-drop n xs)) h)).1

-- ---- opened

bytes_own : (bs : List ℕ) → AllOfPage (map (char None) bs)
bytes_own [] = refl
bytes_own (b ∷ bs) = bytes_own bs

read_own : (e : Option (ℕ × ℕ)) (b : ℕ) (bs : List ℕ) → ((n : ℕ) → AllOfPage (inside_items None n bs))
    → AllOfPage (read_with None e b bs (λ n. inside_items None n bs))
read_own None b bs h = h 0
read_own (Some e) b bs h = h (e.1 - 1)

inside_own : (n : ℕ) (bs : List ℕ) → AllOfPage (inside_items None n bs)
inside_own zero [] = refl
inside_own (suc n) [] = refl
inside_own (suc n) (b ∷ bs) = inside_own n bs
inside_own zero (b ∷ bs) = read_own (entity_at (b ∷ bs)) b bs (λ n. inside_own n bs)

whole_own : (f : ItemForm) (bs : List ℕ) → AllOfPage (opened_whole f None bs)
whole_own form.Chars bs = refl
whole_own (form.Entity c) bs = refl
whole_own form.Nowiki bs =
    both_of_page (map (char None) (tag_before bs)) (inside_items None 0 (tag_inside bs) ++ map (char None) (tag_behind bs)) (bytes_own (tag_before bs))
    (both_of_page (inside_items None 0 (tag_inside bs)) (map (char None) (tag_behind bs)) (inside_own 0 (tag_inside bs)) (bytes_own (tag_behind bs)))
whole_own form.Extension bs = refl
whole_own form.Function bs = refl
whole_own form.Comment bs = refl
whole_own form.Include bs = refl
whole_own form.Hidden bs = refl
whole_own form.EmptyCall bs = refl

opened_own : (xs : List Item) → AllOfPage xs → AllOfPage (opened_all xs)
opened_own [] h = refl
opened_own (char None b ∷ xs) h = opened_own xs h
opened_own (char (Some j) b ∷ xs) h = cc
opened_own (whole f None bs ∷ xs) h = both_of_page (opened_whole f None bs) (opened_all xs) (whole_own f bs) (opened_own xs h)
opened_own (whole f (Some j) bs ∷ xs) h = cc

-- ---- parts

abbrev HoldOwn : List Part → Type 0
HoldOwn ps = AllOfPage (held_parts ps)

parts_own : (xs : List Item) → AllOfPage xs → HoldOwn (parts Text xs)
parts_own xs h = subst AllOfPage (sym (held_of_parts Text xs)) (opened_own xs h)

held_both : (ps qs : List Part) → HoldOwn ps → HoldOwn qs → HoldOwn (ps ++ qs)
held_both ps qs h k = subst AllOfPage (sym (held_append ps qs)) (both_of_page (held_parts ps) (held_parts qs) h k)

round_own : (h : Head) (opening closing : List Item) (ps : List Part) → AllOfPage opening → AllOfPage closing → HoldOwn ps
    → AllOfPage (tree_items (round_parts h opening ps closing))
round_own h opening closing ps o c f =
    let held : List Item = held_by_all (forest (children ps)) in
    both_of_page opening (held ++ closing) o (both_of_page held closing (subst AllOfPage (sym (held_children ps)) f) c)

-- ---- the node of a tile

bare_own : (w : Shape) (xs : List Item) → AllOfPage xs → AllOfPage (tree_items (bare_url w xs))
unfolding bare_url
bare_own w xs h =
    let inside : List Item = inside_of w xs in
    round_own (bare_url_head inside) (opening_of w xs) (closing_of w xs) (parts Text inside) (take_own w.opening xs h)
    (take_own w.closing (drop (w.opening + w.inside) xs) (drop_own (w.opening + w.inside) xs h))
    (parts_own inside (take_own w.inside (drop w.opening xs) (drop_own w.opening xs h)))

trail_own : (closing trail : List Item) → AllOfPage closing → AllOfPage trail → HoldOwn (trail_parts closing trail)
trail_own closing trail c t =
    both_of_page (closing ++ []) (held_parts (parts Text trail)) (both_of_page closing [] c refl) (parts_own trail t)

link_if : (v : Bool) (h : Head) (opening closing trail : List Item) (ps : List Part) → AllOfPage opening → AllOfPage closing → AllOfPage trail → HoldOwn ps
    → AllOfPage (tree_items (if v then round_parts h opening ps closing else round_parts h opening (ps ++ trail_parts closing trail) []))
link_if true h opening closing trail ps o c t f = round_own h opening closing ps o c f
link_if false h opening closing trail ps o c t f =
    round_own h opening [] (ps ++ trail_parts closing trail) o refl (held_both ps (trail_parts closing trail) f (trail_own closing trail c t))

nested_own : (k : Nested) (w : Shape) (xs : List Item) (ps : List Part) → AllOfPage xs → HoldOwn ps → AllOfPage (tree_items (nested_tree k w xs ps))
unfolding nested_tree
nested_own nested.Link w xs ps h f =
    link_if (w.trail == 0) (nested_head nested.Link xs (opening_of w xs)) (opening_of w xs) (closing_of w xs) (trail_of w xs) ps (take_own w.opening xs h)
    (take_own w.closing (drop (w.opening + w.inside) xs) (drop_own (w.opening + w.inside) xs h)) (drop_own (w.opening + w.inside + w.closing) xs h) f
nested_own nested.ExtLink w xs ps h f =
    round_own (nested_head nested.ExtLink xs (opening_of w xs)) (opening_of w xs) (closing_of w xs) ps (take_own w.opening xs h)
    (take_own w.closing (drop (w.opening + w.inside) xs) (drop_own (w.opening + w.inside) xs h)) f
nested_own nested.Pair w xs ps h f =
    round_own (nested_head nested.Pair xs (opening_of w xs)) (opening_of w xs) (closing_of w xs) ps (take_own w.opening xs h)
    (take_own w.closing (drop (w.opening + w.inside) xs) (drop_own (w.opening + w.inside) xs h)) f

abbrev OptOwn : Option ItemTree → Type 0
OptOwn None = Unit {0}
OptOwn (Some t) = AllOfPage (tree_items t)

abbrev ReadsOwn : Reading → Type 0
ReadsOwn read = (cx : Context) (xs : List Item) → AllOfPage xs → HoldOwn (read cx xs)

inner_own : (w : Shape) (xs : List Item) → AllOfPage xs → AllOfPage (inside_of w xs)
inner_own w xs h = take_own w.inside (drop w.opening xs) (drop_own w.opening xs h)

leaf_own : (xs : List Item) → AllOfPage xs → AllOfPage (xs ++ [])
leaf_own xs h = both_of_page xs [] h refl

tile_own : (read : Reading) → ReadsOwn read → (cx : Context) (k : TileKind) (w : Shape) (xs : List Item) → AllOfPage xs → OptOwn (tile_tree read cx k w xs)
tile_own read r cx kind.Link w xs h = nested_own nested.Link w xs (read (in_text cx) (inside_of w xs)) h (r (in_text cx) (inside_of w xs) (inner_own w xs h))
tile_own read r cx kind.Category w xs h = leaf_own xs h
tile_own read r cx kind.Media w xs h = leaf_own xs h
tile_own read r cx kind.ExtLink w xs h = nested_own nested.ExtLink w xs (read (in_text cx) (inside_of w xs)) h (r (in_text cx) (inside_of w xs) (inner_own w xs h))
tile_own read r cx kind.BareUrl w xs h = bare_own w xs h
tile_own read r cx kind.Br w xs h = leaf_own xs h
tile_own read r cx kind.Pair w xs h = nested_own nested.Pair w xs (read (in_pair cx) (inside_of w xs)) h (r (in_pair cx) (inside_of w xs) (inner_own w xs h))
tile_own read r cx kind.TagIsland w xs h = leaf_own xs h
tile_own read r cx kind.Switch w xs h = leaf_own xs h
tile_own read r cx kind.Atom w xs h = tt
tile_own read r cx kind.Mark w xs h = tt
tile_own read r cx kind.Chars w xs h = tt

-- ---- segments

abbrev EachOwn : List Segment → Type 0
EachOwn [] = Unit {0}
EachOwn (u ∷ us) = (AllOfPage u.items × HoldOwn u.parts) × EachOwn us

own_both : (us vs : List Segment) → EachOwn us → EachOwn vs → EachOwn (us ++ vs)
own_both [] vs h k = k
own_both (u ∷ us) vs h k = (h.0, own_both us vs h.1 k)

own_take : (n : ℕ) (us : List Segment) → EachOwn us → EachOwn (take n us)
own_take zero us h = tt
own_take (suc n) [] h = tt
own_take (suc n) (u ∷ us) h = (h.0, own_take n us h.1)

own_drop : (n : ℕ) (us : List Segment) → EachOwn us → EachOwn (drop n us)
own_drop zero us h = h
own_drop (suc n) [] h = tt
own_drop (suc n) (u ∷ us) h = own_drop n us h.1

own_between : (low high : ℕ) (us : List Segment) → EachOwn us → EachOwn (between low high us)
own_between low high us h = own_take (high - low) (drop low us) (own_drop low us h)

own_items : (us : List Segment) → EachOwn us → AllOfPage (segment_items us)
own_items [] h = refl
own_items (u ∷ us) h = both_of_page u.items (segment_items us) h.0.0 (own_items us h.1)

own_parts : (us : List Segment) → EachOwn us → HoldOwn (segment_parts us)
own_parts [] h = refl
own_parts (u ∷ us) h = held_both u.parts (segment_parts us) h.0.1 (own_parts us h.1)

loose_own : (rs : List (List Item)) → AllOfPage (flat_map (λ r. r) rs) → EachOwn (map loose_segment rs)
loose_own [] h = tt
loose_own (r ∷ rs) h = let a = all_of r (flat_map (λ s. s) rs) h in ((a.0, parts_own r a.0), loose_own rs a.1)

by_own : (o : Option ItemTree) (xs : List Item) → AllOfPage xs → OptOwn o → EachOwn (segments_by o xs)
unfolding loose_segments
by_own None xs h f = loose_own (runs one_stretch xs) (subst AllOfPage (sym (runs_joined one_stretch xs)) h)
by_own (Some t) xs h f = ((h, both_of_page (tree_items t) [] f refl), tt)

tiles_own : (read : Reading) → ReadsOwn read → (cx : Context) (ps : List (Shape × List Item)) → AllOfPage (joined ps)
    → EachOwn (flat_map (tile_segments read cx) ps)
tiles_own read r cx [] h = tt
tiles_own read r cx ((w, xs) ∷ ps) h =
    let a = all_of xs (joined ps) h in
    own_both (tile_segments read cx (w, xs)) (flat_map (tile_segments read cx) ps)
    (by_own (tile_tree read cx w.kind w xs) xs a.0 (tile_own read r cx w.kind w xs a.0)) (tiles_own read r cx ps a.1)

segments_own : (read : Reading) → ReadsOwn read → (cx : Context) (xs : List Item) → AllOfPage xs → EachOwn (segments read cx xs)
unfolding segments
segments_own read r cx xs h = tiles_own read r cx (tiles cx xs) (subst AllOfPage (sym (tiles_join cx xs)) h)

-- ---- with styles round them

styled_own : (low high : ℕ) (f : Forest) (us : List Segment) → EachOwn us → HoldOwn (styled low high f us)
styled_own low high bare us h = own_parts (between low high us) (own_between low high us h)
styled_own low high (grown s held after) us h =
    let mid : ℕ = s.from + s.open_w in
    let end : ℕ = s.to - s.close_w in
    let t : ItemTree = style_node s (styled mid end held us) us in
    held_both (segment_parts (between low s.from us)) (node t ∷ styled s.to high after us) (own_parts (between low s.from us) (own_between low s.from us h))
    (both_of_page (tree_items t) (held_parts (styled s.to high after us))
    (round_own (plain (style_kind s.bold)) (segment_items (between s.from mid us)) (segment_items (between end s.to us)) (styled mid end held us)
    (own_items (between s.from mid us) (own_between s.from mid us h)) (own_items (between end s.to us) (own_between end s.to us h)) (styled_own mid end held us h))
    (styled_own s.to high after us h))

with_own : (us : List Segment) → EachOwn us → HoldOwn (with_styles us)
unfolding with_styles
with_own us h = styled_own 0 _ (forest_of (style_tree_of (chunks us))) us h

-- ---- contexts, and a line

by_reading : (read : Reading) → ReadsOwn read → ReadsOwn (read_by read)
by_reading read r cx xs h = with_own (segments read cx xs) (segments_own read r cx xs h)

within_own : (n : ℕ) → ReadsOwn (within n)
within_own zero cx xs h = parts_own xs h
within_own (suc n) cx xs h = by_reading (within n) (within_own n) cx xs h

line_own : (xs : List Item) → AllOfPage xs → HoldOwn (line_parts xs)
unfolding context_parts
line_own xs h = within_own most_contexts in_line xs h

-- ---- lines

abbrev AreOwn : List (List Item) → Type 0
AreOwn [] = Unit {0}
AreOwn (l ∷ ls) = AllOfPage l × AreOwn ls

lines_own : (ls : List (List Item)) (xs : List Item) → AreLines ls xs → AllOfPage xs → AreOwn ls
lines_own [] xs a h = absurd a
lines_own (l ∷ []) xs a h = (subst AllOfPage a.1 h, tt)
lines_own (l ∷ m ∷ ls) xs a h =
    let r = all_of l (a.1 ∷ a.2) (subst AllOfPage a.4 h) in
    let s = all_of (a.1 ∷ []) a.2 r.1 in
    (r.0, lines_own (m ∷ ls) a.2 a.5 s.1)

after_own : (ls : List (List Item)) → AreOwn ls → HoldOwn (after_breaks ls)
after_own [] h = refl
after_own (l ∷ ls) h = held_both (line_parts l) (after_breaks ls) (line_own l h.0) (after_own ls h.1)

joined_own : (ls : List (List Item)) → AreOwn ls → HoldOwn (joined_parts ls)
joined_own [] h = refl
joined_own (l ∷ ls) h = held_both (line_parts l) (after_breaks ls) (line_own l h.0) (after_own ls h.1)

-- ---- a content

parts_by : (k : TextBlock) (xs : List Item) → AllOfPage xs → HoldOwn (content_parts_of k xs)
parts_by a_paragraph xs h = joined_own (lines xs) (lines_own (lines xs) xs (lines_are xs) h)
parts_by (a_heading s) xs h = line_own xs h

pub content_own : (k : TextBlock) (q : List ℕ) → AllOfPage (held_by_all (forest (children (content_parts_of k (page_items q)))))
content_own k q =
    subst AllOfPage (sym (held_children (content_parts_of k (page_items q)))) (parts_by k (page_items q) (items_of_page q))
