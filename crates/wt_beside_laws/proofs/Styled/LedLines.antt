-- The lines of a content: a line of comments is only where a line begins, so it is in the block.
use Rattle.std.proofs.Common.{arith, ◌≡◌, ℕ, zero, suc, ◌+◌, ◌-◌, ◌<◌, ◌≤◌, Bool, true, false, None, Some, List, [], ◌∷◌, ◌++◌, length, map, take, drop, refl, sym, ap, ◌∙◌, subst, append-nil, inl, inr}
use Rattle.std.specs.List.{flat_map, AllByRecursion}
use Rattle.std.specs.Str.{chars}
use Rattle.std.proofs.lemmas.List.{take-append-drop}
use Rattle.wt_span.specs.declared.form.ItemForm.TheVariants as form
use Rattle.wt_span.specs.Comments.{comment_line_len}
use Rattle.wt_span.specs.Items.{Item, whole, sources}
use Rattle.wt_tree.specs.declared.kind.Kind.{Kind}
use Rattle.wt_tree.specs.EditShapes.{edit_shape}
use Rattle.wt_tree.specs.Source.{flat}
use Rattle.wt_tree.specs.Tiling.{HasNoGroup}
use Rattle.wt_tree.specs.Tree.{Tree, Trees, label}
use Rattle.wt_guards.specs.declared.role.Role.TheVariants as role
use Rattle.wt_guards.specs.Content.{ContentSign, Thing, letter}
use Rattle.wt_original.specs.Kept.{found_in}
use Rattle.wt_inline.specs.ItemTree.{ItemTree, forest}
use Rattle.wt_inline.specs.Parts.{Part, loose, node, whole_tree, children}
use Rattle.wt_tiles.specs.declared.shape.Shape.{Shape}
use Rattle.wt_tiles.specs.declared.shape.TileKind.{TileKind}
use Rattle.wt_tiles.specs.declared.shape.TileKind.TheVariants as kind
use Rattle.wt_tiles.specs.Contexts.{in_line}
use Rattle.wt_tiles.specs.Glyphs.{glyph_of}
use Rattle.wt_tiles.specs.Links.{leaf}
use Rattle.wt_tiles.specs.Reading.{tile_at, is_word_at, StandsBy, AreTiles}
use Rattle.wt_tiles.specs.Tiles.{size, shapes, parts as tile_parts, tiles}
use Rattle.wt_tiles.proofs.Readings.{shapes_are}
use Rattle.wt_quotes.specs.Forest.{forest_of}
use Rattle.wt_quotes.specs.Styles.{style_tree_of}
use Rattle.wt_context.specs.Chunks.{chunks}
use Rattle.wt_context.specs.Line.{context_parts, line_parts}
use Rattle.wt_context.specs.Nodes.{tile_tree, tile_segments, segments}
use Rattle.wt_context.specs.Segments.{Segment, loose_segments, segment_parts}
use Rattle.wt_context.specs.Styled.{between}
use Rattle.wt_context.specs.Unstyled.{tile_parts as tile_parts_of}
use Rattle.wt_context.proofs.LineHolding.{between_all}
use Rattle.wt_context.proofs.TilePlaces.{IsPlaced, tiles_placed}
use Rattle.wt_expand.specs.PageItems.{page_items}
use Rattle.wt_link_spelling.specs.Spelling.{children_of}
use Rattle.wt_part_laws.specs.Standing.{standing}
use Rattle.wt_part_laws.proofs.Sources.{standing_source}
use Rattle.wt_typed_blocks.specs.Sent.{Block}
use Rattle.wt_text_edit_laws.specs.Contents.{content_parts_of}
use Rattle.wt_text_edit_laws.specs.ParagraphParts.{joined_parts}
use Rattle.wt_text_edit_laws.specs.TextBlocks.{TextBlock, block_of}
use Rattle.wt_text_edit_laws.proofs.Blocks.BlockLeaves.{open_items, close_items}
use Rattle.wt_beside_laws.specs.Commented.{IsCommentLine, IsHeld}
use Rattle.wt_beside_laws.specs.Content.{AreKept}
use Rattle.wt_beside_laws.specs.FlatBlocks.{lines_in, begins_at}
use Rattle.wt_beside_laws.specs.NodeItems.{node_items}
use Rattle.wt_beside_laws.specs.Nodes.{AreNodes}
use Rattle.wt_beside_laws.specs.OwnLed.{settled, line_by, is_line, AreOwnLed}
use Rattle.wt_beside_laws.specs.PageSigns.{ends_break, tile_signs, signs_of_tiles, line_signs, signs_of_lines, IsFlatTile, AreFlatTiles, HasNoBreak, AreFlatLines}
use Rattle.wt_beside_laws.specs.Stood.{things}
use Rattle.wt_beside_laws.specs.StyledIn.{IsStyledIn}
use Rattle.wt_beside_laws.proofs.BlockNumbers.{block_counts}
use Rattle.wt_beside_laws.proofs.BlockSigns.{block_by, its_children, no_leaf, inside}
use Rattle.wt_beside_laws.proofs.FormsAlone.{by_parts}
use Rattle.wt_beside_laws.proofs.LineThings.{nodes_parts, tile_told}
use Rattle.wt_beside_laws.proofs.Made.OldBlocks.{with_parts, parts_are, lines_are, IsIn, no_group}
use Rattle.wt_beside_laws.proofs.Marks.Ends.{ends_so, kept_unended, comment_unended, read_unended}
use Rattle.wt_beside_laws.proofs.Marks.LedItems.{settled_is, LedItems, led_cut, EachLed, content_led}
use Rattle.wt_beside_laws.proofs.Marks.Shown.{line_node}
use Rattle.wt_beside_laws.proofs.Marks.Within.{Goes, chars_go, chars_some, tile_goes, kept_front}
use Rattle.wt_beside_laws.proofs.OwnSigns.{Every, Finds, all_found}
use Rattle.wt_beside_laws.proofs.PageSigns.{AreChars, are_chars, none_take, none_drop, flat_nodes}
use Rattle.wt_beside_laws.proofs.PartThings.{tree_source, HaveThings, nodes_of, stands_kind}
use Rattle.wt_beside_laws.proofs.SentNodes.{no_things}
use Rattle.wt_beside_laws.proofs.Styled.BlockStyles.{line_fill, line_is}
use Rattle.wt_beside_laws.proofs.Styled.OwnLed.{AllNo, AllLed, led_lines, children_led, thing_no, line_on, EachNo, each_no, SegmentsLed, segments_then, parts_led, styled_led}
use Rattle.wt_beside_laws.proofs.Styled.StyleStarts.{styles_behind}
use Rattle.wt_beside_laws.proofs.TileRoles.{mark_thing}

-- ---- which source ends with a line break

line_of_held : (q : List ℕ) → IsHeld q → ends_break q ≡ true → IsCommentLine q
line_of_held q (inl k) e = absurd (let no = sym (kept_unended q k.0 k.1) ∙ e in cc)
line_of_held q (inr (inl c)) e = absurd (let no = sym (ap ends_break c.is ∙ comment_unended (60 ∷ c.others) c.comment.ends) ∙ e in cc)
line_of_held q (inr (inr (inl l))) e = l
line_of_held q (inr (inr (inr r))) e = absurd (let no = sym (read_unended q r) ∙ e in cc)

-- ---- a tile that ends with one

record EndedTile (a : Bool) (w : Shape) (xs : List Item) : Type 0 where
  line : IsCommentLine (sources (take (size w) xs))
  alone : node_items (sources (take (size w) xs)) ≡ take (size w) xs
  read : tile_at in_line a (map glyph_of xs) ≡ Some w

ended_tile : (k : TileKind) (a began : Bool) (at : ℕ) (w : Shape) (xs : List Item) → IsFlatTile k (take (size w) xs) → StandsBy k in_line a w (map glyph_of xs)
    → AreKept (tile_signs k began at (take (size w) xs)) → HasNoBreak (take (size w) xs) → 0 < length (take (size w) xs)
    → ends_break (sources (take (size w) xs)) ≡ true → EndedTile a w xs
ended_tile kind.Link a began at w xs f s k n some e = record { line = line_of_held _ k.0.0 e; alone = f.alone; read = s }
ended_tile kind.Category a began at w xs f s k n some e = record { line = line_of_held _ k.0.0 e; alone = f.alone; read = s }
ended_tile kind.Media a began at w xs f s k n some e = record { line = line_of_held _ k.0.0 e; alone = f.alone; read = s }
ended_tile kind.ExtLink a began at w xs f s k n some e = record { line = line_of_held _ k.0.0 e; alone = f.alone; read = s }
ended_tile kind.BareUrl a began at w xs f s k n some e = record { line = line_of_held _ k.0.0 e; alone = f.alone; read = s }
ended_tile kind.Br a began at w xs f s k n some e = record { line = line_of_held _ k.0.0 e; alone = f.alone; read = s }
ended_tile kind.Pair a began at w xs f s k n some e = record { line = line_of_held _ k.0.0 e; alone = f.alone; read = s }
ended_tile kind.TagIsland a began at w xs f s k n some e = record { line = line_of_held _ k.0.0 e; alone = f.alone; read = s }
ended_tile kind.Switch a began at w xs f s k n some e = record { line = line_of_held _ k.0.0 e; alone = f.alone; read = s }
ended_tile kind.Atom a began at w xs f s k n some e = record { line = line_of_held _ k.0.0 e; alone = f.alone; read = s }
ended_tile kind.Mark a began at w xs f s k n some e = record { line = line_of_held _ k.0.0 e; alone = f.alone; read = s }
ended_tile kind.Chars a began at w xs f s k n some e =
    let ys : List Item = take (size w) xs in
    let c : AreChars ys = are_chars (size w) a xs s.1 in
    absurd (let no = sym (ends_so false (sources ys) (chars_some ys c some) (chars_go ys c n)) ∙ e in cc)

-- it is one item
line_item : (q : List ℕ) (h : IsCommentLine q) → comment_line_len q ≡ Some (length q)
line_item q h =
    let z : suc (length h.others) ≡ length (h.first ∷ h.others) = omega arith in
    ap comment_line_len (h.is ∙ ap (λ (bs : List ℕ). h.first ∷ bs) (sym (append-nil h.others))) ∙ h.len [] ∙ ap Some z ∙ ap (λ (bs : List ℕ). Some (length bs)) (sym h.is)

line_kind : (q : List ℕ) → ends_break q ≡ true → (n : ℕ) (before : List Item) → is_line (standing n before (whole_tree form.Comment None q)) ≡ true
line_kind q e n before =
    let u : ItemTree = whole_tree form.Comment None q in
    let t : Tree = standing n before u in
    let source : ends_break (flat t) ≡ true = ap ends_break (standing_source n before u ∙ append-nil q) ∙ e in
    subst (λ (k : Kind). line_by (edit_shape k).sort t ≡ true) (sym (stands_kind n before u)) source

-- the segment of such a line, before the others
line_segment : (q : List ℕ) (s : Bool) (rest : List Segment) → ends_break q ≡ true → s ≡ true → SegmentsLed true rest
    → SegmentsLed s (tile_segments context_parts in_line (leaf kind.Mark 1, whole form.Comment None q ∷ []) ++ rest)
unfolding loose_segments
line_segment q s rest e b h =
    inr (
      b,
      refl,
      (
        whole_tree form.Comment None q,
        refl,
        line_on (whole_tree form.Comment None q) (role.Mark true true)
            (mark_thing true true form.Comment None q tt) (line_kind q e),
      ),
      h,
    )

same_shape : (v w : Shape) → Some v ≡ Some w → v ≡ w
same_shape v w e = cc

line_tile : (a s began : Bool) (w : Shape) (xs : List Item) (rest : List Segment) → EndedTile a w xs → ends_break (sources (take (size w) xs)) ≡ true
    → LedItems s (take (size w) xs ++ drop (size w) xs) → (s ≡ true → began ≡ true) → SegmentsLed true rest
    → SegmentsLed began (tile_segments context_parts in_line (w, take (size w) xs) ++ rest)
line_tile a s began w xs rest t e led f h =
    let ys : List Item = take (size w) xs in
    let zs : List Item = drop (size w) xs in
    let q : List ℕ = sources ys in
    let own : ys ≡ whole form.Comment None q ∷ [] = sym t.alone ∙ line_node q t.line in
    let first : LedItems s (whole form.Comment None q ∷ zs) = subst (λ (us : List Item). LedItems s (us ++ zs)) own led in
    let begins : s ≡ true = first.0 (line_item q t.line) in
    let read : tile_at in_line a (map glyph_of (whole form.Comment None q ∷ zs)) ≡ Some w =
    ap (λ (us : List Item). tile_at in_line a (map glyph_of us)) (ap (λ (us : List Item). us ++ zs) (sym own) ∙ take-append-drop (size w) xs) ∙ t.read in
    let is : leaf kind.Mark 1 ≡ w = same_shape (leaf kind.Mark 1) w read in
    subst (λ (us : List Item). SegmentsLed began (tile_segments context_parts in_line (w, us) ++ rest)) (sym own)
    (subst (λ (v : Shape). SegmentsLed began (tile_segments context_parts in_line (v, whole form.Comment None q ∷ []) ++ rest)) is
    (line_segment q began rest e (f begins) h))

-- ---- any other tile

have_no : (at : ℕ) (ps : List Part) (ts : List Thing) → HaveThings at ps ts → Every (λ (t : Thing). ends_break t.source ≡ false) ts → AllNo ps
have_no at [] ts h e = tt
have_no at (loose k o b ∷ ps) ts h e = (h.0, have_no (at + 1) ps ts h.1 e)
have_no at (node u ∷ ps) ts h e =
    let all = subst (λ (os : List Thing). Every (λ (t : Thing). ends_break t.source ≡ false) os) h.2 e in
    (thing_no u h.0 h.3 all.0, have_no (at + length (tree_source u)) ps h.1 h.5 all.1)

unended_things : (k : TileKind) (began : Bool) (at : ℕ) (ys : List Item) → ends_break (sources ys) ≡ false
    → Every (λ (t : Thing). ends_break t.source ≡ false) (things (tile_signs k began at ys))
unended_things kind.Link began at ys e = (e, tt)
unended_things kind.Category began at ys e = (e, tt)
unended_things kind.Media began at ys e = (e, tt)
unended_things kind.ExtLink began at ys e = (e, tt)
unended_things kind.BareUrl began at ys e = (e, tt)
unended_things kind.Br began at ys e = (e, tt)
unended_things kind.Pair began at ys e = (e, tt)
unended_things kind.TagIsland began at ys e = (e, tt)
unended_things kind.Switch began at ys e = (e, tt)
unended_things kind.Atom began at ys e = (e, tt)
unended_things kind.Mark began at ys e = (e, tt)
unended_things kind.Chars began at ys e =
    subst (Every (λ (t : Thing). ends_break t.source ≡ false)) (sym (no_things (chars (sources ys)))) tt

segments_no : (w : Shape) (ys : List Item) → AllNo (tile_parts_of (tile_tree context_parts in_line w.kind w ys) ys) → EachNo (tile_segments context_parts in_line (w, ys))
segments_no w ys h =
    each_no (tile_segments context_parts in_line (w, ys)) (subst AllNo (sym (by_parts (tile_tree context_parts in_line w.kind w ys) ys)) h)

-- ---- the tiles of a line

map_drop : (n : ℕ) (xs : List Item) → map glyph_of (drop n xs) ≡ drop n (map glyph_of xs)
map_drop zero [] = refl
map_drop zero (x ∷ xs) = refl
map_drop (suc n) [] = refl
map_drop (suc n) (x ∷ xs) = map_drop n xs

taken : (n : ℕ) (xs : List Item) → n ≤ length (map glyph_of xs) → length (take n xs) ≡ n
taken zero [] le = refl
taken zero (x ∷ xs) le = refl
taken (suc n) [] le = absurd (omega (arith, le))
taken (suc n) (x ∷ xs) le = let r = taken n xs (omega (arith, le)) in omega (arith, r)

both_cases : (v : Bool) (a s began : Bool) (w : Shape) (xs : List Item) (rest : List Segment) → ends_break (sources (take (size w) xs)) ≡ v
    → (v ≡ true → EndedTile a w xs) → (v ≡ false → EachNo (tile_segments context_parts in_line (w, take (size w) xs)))
    → LedItems s (take (size w) xs ++ drop (size w) xs) → (s ≡ true → began ≡ true) → SegmentsLed v rest
    → SegmentsLed began (tile_segments context_parts in_line (w, take (size w) xs) ++ rest)
both_cases true a s began w xs rest e t n led f h = line_tile a s began w xs rest (t refl) e led f h
both_cases false a s began w xs rest e t n led f h = segments_then (tile_segments context_parts in_line (w, take (size w) xs)) rest began (n refl) h

tiles_led : (ws : List Shape) (a s v began : Bool) (at : ℕ) (xs : List Item) → AreTiles in_line a ws (map glyph_of xs) → AllByRecursion (IsPlaced in_line) (tile_parts ws xs)
    → AreFlatTiles (tile_parts ws xs) → AreNodes (signs_of_tiles began at (tile_parts ws xs)) → AreKept (signs_of_tiles began at (tile_parts ws xs)) → HasNoBreak xs
    → LedItems s xs → (s ≡ true → v ≡ true) → SegmentsLed v (flat_map (tile_segments context_parts in_line) (tile_parts ws xs))
tiles_led [] a s v began at xs t p f n k b led g = tt
tiles_led (w ∷ ws) a s v began at xs t p f n k b led g =
    let m : ℕ = size w in
    let ys : List Item = take m xs in
    let zs : List Item = drop m xs in
    let u : Bool = ends_break (sources ys) in
    let more : List ContentSign = signs_of_tiles u (at + length (sources ys)) (tile_parts ws zs) in
    let nodes = nodes_parts (tile_signs w.kind began at ys) more n in
    let kept = kept_front (tile_signs w.kind began at ys) more k in
    let some : 0 < size w = t.0 in
    let long : length ys ≡ size w = taken m xs t.1 in
    let there : 0 < length ys = omega (arith, some, long) in
    let goes : Goes ys = tile_goes w.kind a began at w xs f.0 t.2 kept.0 (none_take m xs b) there in
    let all : LedItems s (ys ++ zs) = subst (LedItems s) (sym (take-append-drop m xs)) led in
    let told = tile_told w.kind a began at w xs refl f.0 t.2 t.0 p.0 nodes.0 in
    let same : settled (sources ys) s ≡ u = settled_is (sources ys) s goes.0 in
    let rest : SegmentsLed u (flat_map (tile_segments context_parts in_line) (tile_parts ws zs)) =
    tiles_led ws (is_word_at (map glyph_of xs) (m - 1)) (settled (sources ys) s) u u (at + length (sources ys)) zs
    (subst (λ gs. AreTiles in_line (is_word_at (map glyph_of xs) (m - 1)) ws gs) (sym (map_drop m xs)) t.4) p.1 f.1 nodes.1 kept.1 (none_drop m xs b)
    (led_cut ys zs s all).1 (λ e. sym same ∙ e) in
    both_cases u a s v w xs (flat_map (tile_segments context_parts in_line) (tile_parts ws zs)) refl
    (λ e. ended_tile w.kind a began at w xs f.0 t.2 kept.0 (none_take m xs b) there e)
    (λ e. segments_no w ys
    (have_no at (tile_parts_of (tile_tree context_parts in_line w.kind w ys) ys) (things (tile_signs w.kind began at ys)) told.have (unended_things w.kind began at ys e)))
    all g rest

-- ---- a line

line_segments : (s : Bool) (at : ℕ) (xs : List Item) → HasNoBreak xs → AreFlatTiles (tiles in_line xs) → AreNodes (line_signs at xs) → AreKept (line_signs at xs)
    → LedItems s xs → SegmentsLed s (segments context_parts in_line xs)
unfolding segments tiles
line_segments s at xs b f n k led =
    tiles_led (shapes in_line (map glyph_of xs)) false s s true at xs (shapes_are in_line (map glyph_of xs)) (tiles_placed in_line xs) f n k b led (λ e. e)

line_led : (s : Bool) (at : ℕ) (xs : List Item) → HasNoBreak xs → AreFlatTiles (tiles in_line xs) → AreNodes (line_signs at xs) → AreKept (line_signs at xs)
    → LedItems s xs → AllLed s (line_parts xs)
line_led s at xs b f n k led =
    let us : List Segment = segments context_parts in_line xs in
    let own : SegmentsLed s us = line_segments s at xs b f n k led in
    let all : AllLed s (segment_parts (between 0 (length us) us)) = subst (λ (vs : List Segment). AllLed s (segment_parts vs)) (sym (between_all us)) (parts_led s us own) in
    subst (AllLed s) (sym (line_is xs))
    (styled_led 0 (length us) (forest_of (style_tree_of (chunks us))) us s s (styles_behind us) (line_fill us) own all)

pub lines_led : (s : Bool) (at : ℕ) (ls : List (List Item)) → AreFlatLines ls → AreNodes (signs_of_lines at ls) → AreKept (signs_of_lines at ls) → EachLed s ls
    → AllLed s (joined_parts ls)
lines_led s at [] f n k led = tt
lines_led s at (xs ∷ []) f n k led = subst (AllLed s) (sym (append-nil (line_parts xs))) (line_led s at xs f.0 f.1 n k led.0)
lines_led s at (xs ∷ ys ∷ ls) f n k led =
    let m : ℕ = length (sources xs) in
    let later : List ContentSign = letter 10 ∷ signs_of_lines (at + m + 1) (ys ∷ ls) in
    let nodes = nodes_parts (line_signs at xs) later n in
    let kept = kept_front (line_signs at xs) later k in
    led_lines s (line_parts xs) (joined_parts (ys ∷ ls)) (line_led s at xs f.0 f.1 nodes.0 kept.0 led.0)
    (lines_led true (at + m + 1) (ys ∷ ls) f.2 nodes.1 kept.1 led.1)

-- ---- the block

block_led : (k : Block) (n : ℕ) (before opening closing : List Item) (ps : List Part) → 0 < n → AllLed false ps → HasNoGroup (standing n before (block_by k opening ps closing))
    → (let block : Tree = standing n before (block_by k opening ps closing) in AreOwnLed block (0 + length (label block).opening) false (children_of block))
block_led k n before opening closing ps some h g =
    let block : Tree = standing n before (block_by k opening ps closing) in
    let at : ℕ = 0 + length (label block).opening in
    let e : children_of block ≡ nodes_of (n + 1) (before ++ opening) (forest (children ps)) = its_children k n before opening closing ps in
    let found : Every (Finds block) (found_in at at (children_of block)) =
    inside (Finds block) block (no_leaf k n before opening closing ps) (all_found block n some (block_counts n before (block_by k opening ps closing) some g)) in
    subst (λ (ts : Trees). AreOwnLed block at false ts) (sym e)
    (children_led ps false block at at (n + 1) (before ++ opening) (omega arith) h (subst (λ (ts : Trees). Every (Finds block) (found_in at at ts)) e found))

pub own_led : (k : TextBlock) (q : List ℕ) (block : Tree) → IsStyledIn k q → IsIn k q block → AreOwnLed block (0 + length (label block).opening) false (children_of block)
own_led k q block h i =
    let ls : List (List Item) = lines_in k q in
    let at : ℕ = begins_at k in
    let ps : List Part = content_parts_of k (page_items q) in
    let led : AllLed false ps =
    subst (AllLed false) (sym (lines_are k q))
    (lines_led false at ls h.flat (flat_nodes ls at (signs_of_lines at ls) h.flat refl) h.kept (content_led k q)) in
    let is : block ≡ standing i.number i.before (with_parts k ps) = i.is ∙ ap (standing i.number i.before) (parts_are k q) in
    let free : HasNoGroup (standing i.number i.before (with_parts k ps)) =
    subst (λ (u : ItemTree). HasNoGroup (standing i.number i.before u)) (parts_are k q) (no_group k q i.number i.before h.utf8 h.is h.unended h.calls_nothing) in
    subst (λ (t : Tree). AreOwnLed t (0 + length (label t).opening) false (children_of t)) (sym is)
    (block_led (block_of k) i.number i.before (open_items k) (close_items k) ps i.some led free)
