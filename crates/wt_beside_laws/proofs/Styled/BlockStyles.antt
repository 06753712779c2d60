-- The nodes of a block of the page with styles are those of its lines.
use Rattle.std.proofs.Common.{arith, ◌≡◌, ℕ, zero, suc, ◌+◌, ◌-◌, ◌<◌, ◌≤◌, Bool, true, false, not, Option, Some, None, List, [], ◌∷◌, ◌++◌, length, map, take, drop, refl, sym, ap, ◌∙◌, subst, append-nil}
use Rattle.std.specs.Prelude.{◌||◌}
use Rattle.std.specs.List.{flat_map}
use Rattle.std.proofs.lemmas.Bool.Decides.{nat_tests}
use Rattle.std.proofs.lemmas.Grind.{flat_map-append}
use Rattle.wt_span.specs.Items.{Item, char, whole, sources}
use Rattle.wt_span.specs.Runs.{runs, IsRun, AreRuns}
use Rattle.wt_span.proofs.RunLaws.{runs_are}
use Rattle.wt_tree.specs.Tiling.{HasNoGroup}
use Rattle.wt_tree.specs.Tree.{Tree, Trees, label}
use Rattle.wt_quotes.specs.Forest.{Forest, bare, grown, forest_of}
use Rattle.wt_quotes.specs.Styles.{style_tree_of}
use Rattle.wt_guards.specs.Content.{ContentSign, Thing, letter}
use Rattle.wt_inline.specs.declared.loose.Loose.TheVariants.{Text}
use Rattle.wt_inline.specs.ItemTree.{ItemTree, forest}
use Rattle.wt_inline.specs.Parts.{Part, loose, node, children}
use Rattle.wt_part_laws.specs.Standing.{standing}
use Rattle.wt_original.specs.Kept.{found_in, kept_nodes}
use Rattle.wt_link_spelling.specs.Spelling.{children_of}
use Rattle.wt_tiles.specs.declared.shape.Shape.{Shape}
use Rattle.wt_tiles.specs.Contexts.{in_line}
use Rattle.wt_tiles.specs.Tiles.{tiles}
use Rattle.wt_context.specs.Segments.{Segment, is_quote, one_stretch, loose_segment, loose_segments, segment_items, segment_parts}
use Rattle.wt_context.specs.Chunks.{chunks}
use Rattle.wt_context.specs.Line.{context_parts, line_parts}
use Rattle.wt_context.specs.Nodes.{tile_tree, segments_by, tile_segments, segments}
use Rattle.wt_context.specs.RunCuts.{AreQuotes}
use Rattle.wt_context.specs.Styled.{between, style_node, styled, with_styles}
use Rattle.wt_context.specs.Styling.{Fill}
use Rattle.wt_context.proofs.ContextStyles.{styles_fill}
use Rattle.wt_context.proofs.Forests.{fill_le}
use Rattle.wt_context.proofs.LineHolding.{between_both, between_all}
use Rattle.wt_context.proofs.NestedContexts.{contexts_are}
use Rattle.wt_context.proofs.QuotePlaces.{AreMarked, all_marked}
use Rattle.wt_context.proofs.TilePlaces.{tiles_placed}
use Rattle.wt_typed_blocks.specs.Sent.{Block}
use Rattle.wt_text_edit_laws.specs.ParagraphParts.{joined_parts}
use Rattle.wt_beside_laws.specs.Nodes.{AreNodes}
use Rattle.wt_beside_laws.specs.PageBlocks.{IsBlockOfLines, AreSoIn}
use Rattle.wt_beside_laws.specs.PageSigns.{line_signs, signs_of_lines, AreFlatTiles, AreFlatLines}
use Rattle.wt_beside_laws.specs.Stood.{things}
use Rattle.wt_beside_laws.specs.StyledBlocks.{all_numbers, things_with}
use Rattle.wt_beside_laws.proofs.BlockNumbers.{block_counts}
use Rattle.wt_beside_laws.proofs.BlockSigns.{block_by, its_children, no_leaf, inside}
use Rattle.wt_beside_laws.proofs.LineThings.{nodes_parts, segments_parts, tiles_here}
use Rattle.wt_beside_laws.proofs.OwnSigns.{Every, Finds, all_found}
use Rattle.wt_beside_laws.proofs.PageSigns.{flat_nodes}
use Rattle.wt_beside_laws.proofs.PartThings.{thing_at, tree_source, HaveThings, parts_width, nodes_of}
use Rattle.wt_beside_laws.proofs.SentNodes.{things_append}
use Rattle.wt_beside_laws.proofs.Styled.BlockNodes.{IsFound, HaveFound, found_both, from_things, parts_found, style_found, widths_both, style_wide}

-- ---- an apostrophe is one character

pub record QuoteSegment (u : Segment) : Type 0 where
  pub origin : Option ℕ
  pub byte : ℕ
  pub is : byte ≡ 39
  pub items : u.items ≡ char origin byte ∷ []
  pub parts : u.parts ≡ loose Text origin byte ∷ []

abbrev pub QuotesAre : List Segment → Type 0
QuotesAre [] = Unit {0}
QuotesAre (u ∷ us) = (u.quote ≡ true → QuoteSegment u) × QuotesAre us

quotes_both : (us vs : List Segment) → QuotesAre us → QuotesAre vs → QuotesAre (us ++ vs)
quotes_both [] vs h k = k
quotes_both (u ∷ us) vs h k = (h.0, quotes_both us vs h.1 k)

quotes_take : (n : ℕ) (us : List Segment) → QuotesAre us → QuotesAre (take n us)
quotes_take zero [] h = tt
quotes_take zero (u ∷ us) h = tt
quotes_take (suc n) [] h = tt
quotes_take (suc n) (u ∷ us) h = (h.0, quotes_take n us h.1)

quotes_drop : (n : ℕ) (us : List Segment) → QuotesAre us → QuotesAre (drop n us)
quotes_drop zero [] h = tt
quotes_drop zero (u ∷ us) h = h
quotes_drop (suc n) [] h = tt
quotes_drop (suc n) (u ∷ us) h = quotes_drop n us h.1

pub quotes_between : (low high : ℕ) (us : List Segment) → QuotesAre us → QuotesAre (between low high us)
quotes_between low high us h = quotes_take (high - low) (drop low us) (quotes_drop low us h)

not_first : (a b : Bool) → not (a || b) ≡ true → a ≡ true → ⊥
not_first true b e f = cc
not_first false b e f = cc

run_quote : (r others : List Item) → IsRun one_stretch r others → (loose_segment r).quote ≡ true → QuoteSegment (loose_segment r)
run_quote [] others h q = absurd h
run_quote (char o b ∷ []) others h q = record { origin = o; byte = b; is = grind (arith, nat_tests, q); items = refl; parts = refl }
run_quote (whole f o bs ∷ []) others h q = cc
run_quote (x ∷ y ∷ r) others h q = absurd (not_first (is_quote x) (is_quote y) h.0 q)

loose_quotes : (rs : List (List Item)) (xs : List Item) → AreRuns one_stretch rs xs → QuotesAre (map loose_segment rs)
loose_quotes [] xs h = tt
loose_quotes (r ∷ rs) xs h = ((λ q. run_quote r h.0 h.2 q), loose_quotes rs h.0 h.3)

tile_quotes : (o : Option ItemTree) (xs : List Item) → QuotesAre (segments_by o xs)
unfolding loose_segments
tile_quotes None xs = loose_quotes (runs one_stretch xs) xs (runs_are one_stretch xs)
tile_quotes (Some t) xs = ((λ q. cc), tt)

pub all_quotes : (ps : List (Shape × List Item)) → QuotesAre (flat_map (tile_segments context_parts in_line) ps)
all_quotes [] = tt
all_quotes ((w, xs) ∷ ps) =
    quotes_both (tile_segments context_parts in_line (w, xs)) (flat_map (tile_segments context_parts in_line) ps)
    (tile_quotes (tile_tree context_parts in_line w.kind w xs) xs) (all_quotes ps)

-- delimiters have no node
pub quotes_none : (us : List Segment) (at : ℕ) (ts : List Thing) → AreQuotes us → QuotesAre us → HaveThings at (segment_parts us) ts → ts ≡ []
quotes_none [] at ts q a h = h
quotes_none (u ∷ us) at ts q a h =
    let k = a.0 q.0 in
    let own : HaveThings at (loose Text k.origin k.byte ∷ segment_parts us) ts = subst (λ (ps : List Part). HaveThings at (ps ++ segment_parts us) ts) k.parts h in
    quotes_none us (at + 1) ts q.1 a.1 own.1

quotes_wide : (us : List Segment) → AreQuotes us → QuotesAre us → parts_width (segment_parts us) ≡ length (sources (segment_items us))
quotes_wide [] q a = refl
quotes_wide (u ∷ us) q a =
    let k = a.0 q.0 in
    let later = quotes_wide us q.1 a.1 in
    let one : 1 + parts_width (segment_parts us) ≡ length (k.byte ∷ sources (segment_items us)) = omega (arith, later) in
    ap (λ (ps : List Part). parts_width (ps ++ segment_parts us)) k.parts
    ∙ one ∙ sym (ap (λ (xs : List Item). length (sources (xs ++ segment_items us))) k.items)

-- ---- stretches

pub parts_cut : (low mid high : ℕ) (us : List Segment) → low ≤ mid → mid ≤ high
    → segment_parts (between low high us) ≡ segment_parts (between low mid us) ++ segment_parts (between mid high us)
parts_cut low mid high us l m =
    ap segment_parts (between_both low mid high us l m) ∙ flat_map-append (λ (u : Segment). u.parts) (between low mid us) (between mid high us)

pub record Cut (at : ℕ) (ps qs : List Part) (ts : List Thing) : Type 0 where
  pub first : List Thing
  pub later : List Thing
  pub is : ts ≡ first ++ later
  pub own : HaveThings at ps first
  pub rest : HaveThings (at + parts_width ps) qs later

pub things_cut : (at : ℕ) (ps qs : List Part) (ts : List Thing) → HaveThings at (ps ++ qs) ts → Cut at ps qs ts
things_cut at [] qs ts h =
    let z : at ≡ at + 0 = omega arith in
    record { first = []; later = ts; is = refl; own = refl; rest = subst (λ (n : ℕ). HaveThings n qs ts) z h }
things_cut at (loose k o b ∷ ps) qs ts h =
    let c = things_cut (at + 1) ps qs ts h.1 in
    let z : at + 1 + parts_width ps ≡ at + (1 + parts_width ps) = omega arith in
    record { first = c.first; later = c.later; is = c.is; own = (h.0, c.own); rest = subst (λ (n : ℕ). HaveThings n qs c.later) z c.rest }
things_cut at (node u ∷ ps) qs ts h =
    let v : ℕ = length (tree_source u) in
    let c = things_cut (at + v) ps qs h.1 h.5 in
    let z : at + v + parts_width ps ≡ at + (v + parts_width ps) = omega arith in
    record {
      first = thing_at h.0 (tree_source u) at ∷ c.first;
      later = c.later;
      is = h.2 ∙ ap (λ (us : List Thing). thing_at h.0 (tree_source u) at ∷ us) c.is;
      own = (h.0, c.first, refl, h.3, h.4, c.own);
      rest = subst (λ (n : ℕ). HaveThings n qs c.later) z c.rest;
    }

-- ---- segments with styles round them

pub record StyledFound (at : ℕ) (ps : List Part) (ts : List Thing) (n : ℕ) : Type 0 where
  pub have : HaveFound at ps ts
  pub wide : parts_width ps ≡ n

styled_found : (low high : ℕ) (f : Forest) (us : List Segment) (at : ℕ) (ts : List Thing) → Fill low high f → AreMarked f us → QuotesAre us
    → HaveThings at (segment_parts (between low high us)) ts → StyledFound at (styled low high f us) ts (parts_width (segment_parts (between low high us)))
styled_found low high bare us at ts f m q h = record { have = from_things at (segment_parts (between low high us)) ts h; wide = refl }
styled_found low high (grown s held after) us at ts f m q h =
    let mid : ℕ = s.from + s.open_w in
    let end : ℕ = s.to - s.close_w in
    let within = fill_le mid end held f.1 in
    let past = fill_le s.to high after f.3 in
    let to_mid : s.from ≤ mid = omega arith in
    let to_end : s.from ≤ s.to = omega (arith, within, f.2) in
    let all_high : s.from ≤ high = omega (arith, to_end, past) in
    let mid_high : mid ≤ high = omega (arith, within, past) in
    let end_to : end ≤ s.to = omega arith in
    let end_high : end ≤ high = omega (arith, past) in
    let pa : List Part = segment_parts (between low s.from us) in
    let po : List Part = segment_parts (between s.from mid us) in
    let pi : List Part = segment_parts (between mid end us) in
    let pc : List Part = segment_parts (between end s.to us) in
    let pr : List Part = segment_parts (between s.to high us) in
    let wa : ℕ = parts_width pa in
    let wo : ℕ = parts_width po in
    let wi : ℕ = parts_width pi in
    let wc : ℕ = parts_width pc in
    let e1 : segment_parts (between low high us) ≡ pa ++ segment_parts (between s.from high us) = parts_cut low s.from high us f.0 all_high in
    let e2 : segment_parts (between s.from high us) ≡ po ++ segment_parts (between mid high us) = parts_cut s.from mid high us to_mid mid_high in
    let e3 : segment_parts (between mid high us) ≡ pi ++ segment_parts (between end high us) = parts_cut mid end high us within end_high in
    let e4 : segment_parts (between end high us) ≡ pc ++ pr = parts_cut end s.to high us end_to past in
    let c1 = things_cut at pa (segment_parts (between s.from high us)) ts (subst (λ (ps : List Part). HaveThings at ps ts) e1 h) in
    let c2 = things_cut (at + wa) po (segment_parts (between mid high us)) c1.later (subst (λ (ps : List Part). HaveThings (at + wa) ps c1.later) e2 c1.rest) in
    let c3 = things_cut (at + wa + wo) pi (segment_parts (between end high us)) c2.later (subst (λ (ps : List Part). HaveThings (at + wa + wo) ps c2.later) e3 c2.rest) in
    let c4 = things_cut (at + wa + wo + wi) pc pr c3.later (subst (λ (ps : List Part). HaveThings (at + wa + wo + wi) ps c3.later) e4 c3.rest) in
    let qo = quotes_between s.from mid us q in
    let qc = quotes_between end s.to us q in
    let none_o : c2.first ≡ [] = quotes_none (between s.from mid us) (at + wa) c2.first m.0 qo c2.own in
    let none_c : c4.first ≡ [] = quotes_none (between end s.to us) (at + wa + wo + wi) c4.first m.1 qc c4.own in
    let ps : List Part = styled mid end held us in
    let qs : List Part = styled s.to high after us in
    let xo : List Item = segment_items (between s.from mid us) in
    let xc : List Item = segment_items (between end s.to us) in
    let i = styled_found mid end held us (at + wa + wo) c3.first f.1 m.2 q c3.own in
    let a = styled_found s.to high after us (at + wa + wo + wi + wc) c4.later f.3 m.3 q c4.rest in
    let lo : wo ≡ length (sources xo) = quotes_wide (between s.from mid us) m.0 qo in
    let lc : wc ≡ length (sources xc) = quotes_wide (between end s.to us) m.1 qc in
    let u : ItemTree = style_node s ps us in
    let iw = i.wide in
    let aw = a.wide in
    let sw = style_wide s.bold xo ps xc in
    let nw : length (tree_source u) ≡ wo + (wi + wc) = sw ∙ (let z : length (sources xo) + (parts_width ps + length (sources xc)) ≡ wo + (wi + wc) = omega (arith, lo, lc, iw) in z) in
    let found : IsFound (at + wa) u c3.first = style_found s.bold (at + wa) xo ps xc c3.first (subst (λ (n : ℕ). HaveFound (at + wa + n) ps c3.first) lo i.have) in
    let behind : at + wa + wo + wi + wc ≡ at + wa + length (tree_source u) = omega (arith, nw) in
    let own : HaveFound (at + wa) (node u ∷ qs) (c3.first ++ c4.later) =
    (c3.first, c4.later, refl, found, subst (λ (n : ℕ). HaveFound n qs c4.later) behind a.have) in
    let all : HaveFound at (pa ++ (node u ∷ qs)) (c1.first ++ (c3.first ++ c4.later)) =
    found_both at pa (node u ∷ qs) c1.first (c3.first ++ c4.later) (from_things at pa c1.first c1.own) own in
    let is : ts ≡ c1.first ++ (c3.first ++ c4.later) =
    c1.is
    ∙ ap (λ (os : List Thing). c1.first ++ os)
    (c2.is ∙ ap (λ (os : List Thing). os ++ c2.later) none_o ∙ c3.is ∙ ap (λ (os : List Thing). c3.first ++ os) (c4.is ∙ ap (λ (os : List Thing). os ++ c4.later) none_c)) in
    let w1 = ap parts_width e1 ∙ widths_both pa (segment_parts (between s.from high us)) in
    let w2 = ap parts_width e2 ∙ widths_both po (segment_parts (between mid high us)) in
    let w3 = ap parts_width e3 ∙ widths_both pi (segment_parts (between end high us)) in
    let w4 = ap parts_width e4 ∙ widths_both pc pr in
    let w5 = widths_both pa (node u ∷ qs) in
    record {
      have = subst (HaveFound at (pa ++ (node u ∷ qs))) (sym is) all;
      wide = omega (arith, w1, w2, w3, w4, w5, nw, aw);
    }

-- ---- lines

as_styled : (us : List Segment) → with_styles us ≡ styled 0 (length us) (forest_of (style_tree_of (chunks us))) us
unfolding with_styles
as_styled us = refl

as_tiles : (xs : List Item) → segments context_parts in_line xs ≡ flat_map (tile_segments context_parts in_line) (tiles in_line xs)
unfolding segments
as_tiles xs = refl

pub line_quotes : (xs : List Item) → QuotesAre (segments context_parts in_line xs)
line_quotes xs = subst QuotesAre (sym (as_tiles xs)) (all_quotes (tiles in_line xs))

pub line_fill : (us : List Segment) → Fill 0 (length us) (forest_of (style_tree_of (chunks us)))
line_fill us = styles_fill us (chunks us) (style_tree_of (chunks us)) (length us) refl refl refl

pub line_is : (xs : List Item) → line_parts xs
    ≡ styled 0 (length (segments context_parts in_line xs)) (forest_of (style_tree_of (chunks (segments context_parts in_line xs)))) (segments context_parts in_line xs)
line_is xs = contexts_are in_line xs (omega arith) ∙ as_styled (segments context_parts in_line xs)

record LineThings (at : ℕ) (xs : List Item) (ps : List Part) : Type 0 where
  have : HaveThings at ps (things (line_signs at xs))
  wide : parts_width ps ≡ length (sources xs)

-- the nodes of its segments
line_told : (at : ℕ) (xs : List Item) → AreFlatTiles (tiles in_line xs) → AreNodes (line_signs at xs)
    → LineThings at xs (segment_parts (between 0 (length (segments context_parts in_line xs)) (segments context_parts in_line xs)))
line_told at xs f n =
    let us : List Segment = segments context_parts in_line xs in
    let told = tiles_here at xs (tiles_placed in_line xs) f n in
    let same = ap segment_parts (between_all us ∙ as_tiles xs) ∙ segments_parts (tiles in_line xs) in
    record { have = subst (λ (ps : List Part). HaveThings at ps (things (line_signs at xs))) (sym same) told.have; wide = ap parts_width same ∙ told.wide }

pub line_things : (at : ℕ) (xs : List Item) → AreFlatTiles (tiles in_line xs) → AreNodes (line_signs at xs)
    → HaveThings at (segment_parts (between 0 (length (segments context_parts in_line xs)) (segments context_parts in_line xs))) (things (line_signs at xs))
line_things at xs f n = (line_told at xs f n).have

pub line_found : (at : ℕ) (xs : List Item) → AreFlatTiles (tiles in_line xs) → AreNodes (line_signs at xs)
    → StyledFound at (line_parts xs) (things (line_signs at xs)) (length (sources xs))
line_found at xs f n =
    let us : List Segment = segments context_parts in_line xs in
    let told = line_told at xs f n in
    let r = styled_found 0 (length us) (forest_of (style_tree_of (chunks us))) us at (things (line_signs at xs)) (line_fill us) (all_marked us) (line_quotes xs) told.have in
    record {
      have = subst (λ (ps : List Part). HaveFound at ps (things (line_signs at xs))) (sym (line_is xs)) r.have;
      wide = ap parts_width (line_is xs) ∙ r.wide ∙ told.wide;
    }

lines_found : (at : ℕ) (ls : List (List Item)) → AreFlatLines ls → AreNodes (signs_of_lines at ls) → HaveFound at (joined_parts ls) (things (signs_of_lines at ls))
lines_found at [] f n = refl
lines_found at (xs ∷ []) f n =
    subst (λ (ps : List Part). HaveFound at ps (things (line_signs at xs))) (sym (append-nil (line_parts xs))) (line_found at xs f.1 n).have
lines_found at (xs ∷ ys ∷ ls) f n =
    let m : ℕ = length (sources xs) in
    let more : List ContentSign = letter 10 ∷ signs_of_lines (at + m + 1) (ys ∷ ls) in
    let split = nodes_parts (line_signs at xs) more n in
    let own = line_found at xs f.1 split.0 in
    let w = own.wide in
    let rest : HaveFound (at + m + 1) (joined_parts (ys ∷ ls)) (things (signs_of_lines (at + m + 1) (ys ∷ ls))) = lines_found (at + m + 1) (ys ∷ ls) f.2 split.1 in
    subst (HaveFound at (joined_parts (xs ∷ ys ∷ ls))) (sym (things_append (line_signs at xs) more))
    (found_both at (line_parts xs) (loose Text None 10 ∷ joined_parts (ys ∷ ls)) (things (line_signs at xs)) (things more) own.have
    (tt, subst (λ (i : ℕ). HaveFound (at + i + 1) (joined_parts (ys ∷ ls)) (things (signs_of_lines (at + m + 1) (ys ∷ ls)))) (sym w) rest))

-- ---- the block

nodes_by : (k : Block) (n : ℕ) (before opening closing : List Item) (ls : List (List Item)) → 0 < n
    → HasNoGroup (standing n before (block_by k opening (joined_parts ls) closing)) → AreFlatLines ls
    → (let block : Tree = standing n before (block_by k opening (joined_parts ls) closing) in AreSoIn block (things (signs_of_lines (length (label block).opening) ls)))
    → things_with (kept_nodes (standing n before (block_by k opening (joined_parts ls) closing)))
    (all_numbers (children_of (standing n before (block_by k opening (joined_parts ls) closing))))
    ≡ things (signs_of_lines (length (label (standing n before (block_by k opening (joined_parts ls) closing))).opening) ls)
nodes_by k n before opening closing ls some g f so =
    let ps : List Part = joined_parts ls in
    let block : Tree = standing n before (block_by k opening ps closing) in
    let at : ℕ = 0 + length (label block).opening in
    let e : children_of block ≡ nodes_of (n + 1) (before ++ opening) (forest (children ps)) = its_children k n before opening closing ps in
    let found : Every (Finds block) (found_in at at (children_of block)) =
    inside (Finds block) block (no_leaf k n before opening closing ps) (all_found block n some (block_counts n before (block_by k opening ps closing) some g)) in
    let z : at ≡ length (label block).opening = omega arith in
    ap (λ (us : Trees). things_with (kept_nodes block) (all_numbers us)) e
    ∙ parts_found ps block at at (n + 1) (before ++ opening) (things (signs_of_lines at ls)) (omega arith)
    (lines_found at ls f (flat_nodes ls at (signs_of_lines at ls) f refl)) (subst (λ (i : ℕ). AreSoIn block (things (signs_of_lines i ls))) (sym z) so) (subst (λ (us : Trees). Every (Finds block) (found_in at at us)) e found)
    ∙ ap (λ (i : ℕ). things (signs_of_lines i ls)) z

pub styled_nodes : (ls : List (List Item)) (block : Tree) → AreFlatLines ls → IsBlockOfLines ls block
    → things_with (kept_nodes block) (all_numbers (children_of block)) ≡ things (signs_of_lines (length (label block).opening) ls)
styled_nodes ls block f b =
    subst (λ (t : Tree). things_with (kept_nodes t) (all_numbers (children_of t)) ≡ things (signs_of_lines (length (label t).opening) ls)) (sym b.is)
    (nodes_by b.form b.number b.before b.opening b.closing ls b.some (subst HasNoGroup b.is b.ungrouped) f
    (subst (λ (t : Tree). AreSoIn t (things (signs_of_lines (length (label t).opening) ls))) b.is b.marks))
