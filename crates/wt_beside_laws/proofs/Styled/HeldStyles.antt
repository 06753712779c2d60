-- Each node of a content with styles has an item, and all its items are the page's own, where it is so of the block of the page.
use Rattle.std.proofs.Common.{arith, ℕ, ◌+◌, ◌-◌, ◌≤◌, Bool, true, false, not, None, List, [], ◌∷◌, ◌++◌, length, refl, sym, ap, ◌∙◌, subst, inl, inr}
use Rattle.std.specs.Prelude.{◌||◌}
use Rattle.wt_span.specs.Items.{Item, sources}
use Rattle.wt_quotes.specs.Forest.{Forest, bare, grown, forest_of}
use Rattle.wt_quotes.specs.Styles.{style_tree_of}
use Rattle.wt_guards.specs.Content.{ContentSign, Thing, letter, thing}
use Rattle.wt_guards.specs.Guards.{Setting, nowiki, is_guarded}
use Rattle.wt_guards.specs.Letters.{is_escaped}
use Rattle.wt_inline.specs.declared.loose.Loose.TheVariants.{Text}
use Rattle.wt_inline.specs.ItemTree.{forest, held_by_all}
use Rattle.wt_inline.specs.Parts.{Part, loose, node, children, parts}
use Rattle.wt_tiles.specs.Contexts.{in_line}
use Rattle.wt_tiles.specs.Tiles.{tiles}
use Rattle.wt_context.specs.Segments.{Segment, segment_items, segment_parts}
use Rattle.wt_context.specs.Chunks.{chunks}
use Rattle.wt_context.specs.Line.{context_parts, line_parts}
use Rattle.wt_context.specs.Nodes.{segments}
use Rattle.wt_context.specs.RunCuts.{AreQuotes}
use Rattle.wt_context.specs.Styled.{between, styled as with_forest, style_node}
use Rattle.wt_context.specs.Styling.{Fill}
use Rattle.wt_context.proofs.Forests.{fill_le}
use Rattle.wt_context.proofs.QuotePlaces.{AreMarked, all_marked}
use Rattle.wt_part_laws.specs.Rounded.{AllHaveItems}
use Rattle.wt_text_edit_laws.specs.ParagraphParts.{joined_parts}
use Rattle.wt_text_edit_laws.proofs.Blocks.PageItems.{all_of}
use Rattle.wt_text_edit_laws.proofs.Texts.TypedShown.{AllOfPage, both_of_page}
use Rattle.wt_beside_laws.specs.Content.{guard_items, letter_items}
use Rattle.wt_beside_laws.specs.Flat.{IsFlat}
use Rattle.wt_beside_laws.specs.Nests.{marks, style_tree}
use Rattle.wt_beside_laws.specs.Nodes.{AreNodes}
use Rattle.wt_beside_laws.specs.PageSigns.{line_signs, signs_of_lines, AreFlatTiles, AreFlatLines}
use Rattle.wt_beside_laws.specs.Stood.{things}
use Rattle.wt_beside_laws.specs.Styled.{StyledContent, finished, sign, styled, delimiter, signs_before, signs_in, signs_past, AreNested, styled_parts}
use Rattle.wt_beside_laws.specs.StyledNodes.{IsPut, AreSomeAndPut}
use Rattle.wt_beside_laws.proofs.Each.{Each}
use Rattle.wt_beside_laws.proofs.Contents.{nowiki_reads}
use Rattle.wt_beside_laws.proofs.NodeItems.{node_as}
use Rattle.wt_beside_laws.proofs.LineThings.{nodes_parts}
use Rattle.wt_beside_laws.proofs.PageSigns.{flat_nodes}
use Rattle.wt_beside_laws.proofs.Made.Closes.{each_both}
use Rattle.wt_beside_laws.proofs.Made.Items.{IsOwnNode, AreOwnNodes, PartsHave, have_both, children_have, NodesHave, children_nodes, ThingHas, things_have, guard_has, letter_has}
use Rattle.wt_beside_laws.proofs.Styled.BlockNodes.{style_round}
use Rattle.wt_beside_laws.proofs.Styled.BlockStyles.{QuotesAre, quotes_between, parts_cut, line_quotes, line_fill, line_is, line_things}
use Rattle.wt_beside_laws.proofs.Styled.SentStyles.{nowiki_alone}
use Rattle.wt_beside_laws.proofs.Styled.StyledNodes.{each_some}
use Rattle.wt_beside_laws.specs.NodeItems.{node_items}

-- ---- the nodes among parts

nodes_both : (ps qs : List Part) → NodesHave ps → NodesHave qs → NodesHave (ps ++ qs)
nodes_both [] qs h k = k
nodes_both (loose j o b ∷ ps) qs h k = nodes_both ps qs h k
nodes_both (node u ∷ ps) qs h k = (h.0, nodes_both ps qs h.1 k)

nodes_first : (ps qs : List Part) → NodesHave (ps ++ qs) → NodesHave ps
nodes_first [] qs h = tt
nodes_first (loose j o b ∷ ps) qs h = nodes_first ps qs h
nodes_first (node u ∷ ps) qs h = (h.0, nodes_first ps qs h.1)

nodes_rest : (ps qs : List Part) → NodesHave (ps ++ qs) → NodesHave qs
nodes_rest [] qs h = h
nodes_rest (loose j o b ∷ ps) qs h = nodes_rest ps qs h
nodes_rest (node u ∷ ps) qs h = nodes_rest ps qs h.1

quotes_have : (us : List Segment) → AreQuotes us → QuotesAre us → NodesHave (segment_parts us)
quotes_have [] q a = tt
quotes_have (u ∷ us) q a = let k = a.0 q.0 in subst (λ (ps : List Part). NodesHave (ps ++ segment_parts us)) (sym k.parts) (quotes_have us q.1 a.1)

inside_have : (opening : List Item) (ps : List Part) (closing : List Item) → AllHaveItems (forest (children ps))
    → AllOfPage (opening ++ (held_by_all (forest (children ps)) ++ closing)) → NodesHave ps
inside_have opening ps closing h f =
    let held : List Item = held_by_all (forest (children ps)) in
    children_nodes ps (h, (all_of held closing (all_of opening (held ++ closing) f).1).0)

style_have : (kind : Bool) (opening : List Item) (ps : List Part) (closing : List Item) → IsOwnNode (style_round kind opening ps closing) → NodesHave ps
style_have true opening ps closing h = inside_have opening ps closing h.0.1 h.1
style_have false opening ps closing h = inside_have opening ps closing h.0.1 h.1

-- ---- of a line of the page, in its styles, too

forest_have : (low high : ℕ) (f : Forest) (us : List Segment) → Fill low high f → AreMarked f us → QuotesAre us → NodesHave (with_forest low high f us)
    → NodesHave (segment_parts (between low high us))
forest_have low high bare us f m q h = h
forest_have low high (grown s held after) us f m q h =
    let mid : ℕ = s.from + s.open_w in
    let end : ℕ = s.to - s.close_w in
    let within = fill_le mid end held f.1 in
    let past = fill_le s.to high after f.3 in
    let to_mid : s.from ≤ mid = omega arith in
    let to_end : s.from ≤ s.to = omega (arith, within, f.2) in
    let all_high : s.from ≤ high = omega (arith, to_end, past) in
    let mid_high : mid ≤ high = omega (arith, within, past) in
    let end_to : end ≤ s.to = omega arith in
    let end_high : end ≤ high = omega (arith, past) in
    let pa : List Part = segment_parts (between low s.from us) in
    let po : List Part = segment_parts (between s.from mid us) in
    let pi : List Part = segment_parts (between mid end us) in
    let pc : List Part = segment_parts (between end s.to us) in
    let pr : List Part = segment_parts (between s.to high us) in
    let ps : List Part = with_forest mid end held us in
    let qs : List Part = with_forest s.to high after us in
    let own = nodes_rest pa (node (style_node s ps us) ∷ qs) h in
    let hi : NodesHave pi = forest_have mid end held us f.1 m.2 q
    (style_have s.bold (segment_items (between s.from mid us)) ps (segment_items (between end s.to us)) own.0) in
    let hr : NodesHave pr = forest_have s.to high after us f.3 m.3 q own.1 in
    let h4 : NodesHave (segment_parts (between end high us)) = subst NodesHave (sym (parts_cut end s.to high us end_to past))
    (nodes_both pc pr (quotes_have (between end s.to us) m.1 (quotes_between end s.to us q)) hr) in
    let h3 : NodesHave (segment_parts (between mid high us)) =
    subst NodesHave (sym (parts_cut mid end high us within end_high)) (nodes_both pi (segment_parts (between end high us)) hi h4) in
    let h2 : NodesHave (segment_parts (between s.from high us)) = subst NodesHave (sym (parts_cut s.from mid high us to_mid mid_high))
    (nodes_both po (segment_parts (between mid high us)) (quotes_have (between s.from mid us) m.0 (quotes_between s.from mid us q)) h3) in
    subst NodesHave (sym (parts_cut low s.from high us f.0 all_high))
    (nodes_both pa (segment_parts (between s.from high us)) (nodes_first pa (node (style_node s ps us) ∷ qs) h) h2)

line_have : (at : ℕ) (xs : List Item) → AreFlatTiles (tiles in_line xs) → AreNodes (line_signs at xs) → NodesHave (line_parts xs)
    → Each ThingHas (things (line_signs at xs))
line_have at xs f n h =
    let us : List Segment = segments context_parts in_line xs in
    things_have at (segment_parts (between 0 (length us) us)) (things (line_signs at xs)) (line_things at xs f n)
    (forest_have 0 (length us) (forest_of (style_tree_of (chunks us))) us (line_fill us) (all_marked us) (line_quotes xs) (subst NodesHave (line_is xs) h))

lines_have : (at : ℕ) (ls : List (List Item)) → AreFlatLines ls → AreNodes (signs_of_lines at ls) → NodesHave (joined_parts ls)
    → Each ThingHas (things (signs_of_lines at ls))
lines_have at [] f n h = tt
lines_have at (xs ∷ []) f n h = line_have at xs f.1 n (nodes_first (line_parts xs) [] h)
lines_have at (xs ∷ ys ∷ ls) f n h =
    let m : ℕ = length (sources xs) in
    let later : List ContentSign = letter 10 ∷ signs_of_lines (at + m + 1) (ys ∷ ls) in
    let split = nodes_parts (line_signs at xs) later n in
    each_both ThingHas (line_signs at xs) later (line_have at xs f.1 split.0 (nodes_first (line_parts xs) (loose Text None 10 ∷ joined_parts (ys ∷ ls)) h))
    (lines_have (at + m + 1) (ys ∷ ls) f.2 split.1 (nodes_rest (line_parts xs) (loose Text None 10 ∷ joined_parts (ys ∷ ls)) h))

-- ---- of a content

-- where it is no delimiter
abbrev OwnHas : Thing → Type 0
OwnHas t = IsFlat t.role → ThingHas t

each_own : (ts : List Thing) → Each ThingHas ts → Each OwnHas ts
each_own [] h = tt
each_own (t ∷ ts) h = ((λ f. h.0), each_own ts h.1)

nowiki_own : PartsHave (line_parts (node_items nowiki))
nowiki_own = subst PartsHave (sym (ap line_parts (node_as nowiki (guard_items true) nowiki_reads) ∙ nowiki_alone)) (guard_has true)

put_has : (t : Thing) → IsPut t → OwnHas t
put_has t p f = elim p [
  | inl m ↦ absurd (subst IsFlat m.1 f)
  | inr w ↦ subst (λ (bs : List ℕ). PartsHave (line_parts (node_items bs))) (sym w.1) nowiki_own
]

each_behind : (P : Thing → Type 0) (t : StyledContent) (after : List ContentSign) → Each P (things (signs_before t after)) → Each P (things after)
each_behind P finished after h = h
each_behind P (sign (letter c) t) after h = each_behind P t after h
each_behind P (sign (thing x) t) after h = each_behind P t after h.1
each_behind P (styled kind opening closing inside t) after h =
    each_behind P t after (each_behind P inside (delimiter kind closing ∷ signs_before t after) h.1).1

style_held : (kind : Bool) (ps : List Part) → PartsHave ps → IsOwnNode (style_tree kind ps)
style_held true ps f =
    let h = children_have ps f in
    let held : List Item = held_by_all (forest (children ps)) in
    ((refl, h.0), both_of_page (marks true) (held ++ marks true) refl (both_of_page held (marks true) h.1 refl))
style_held false ps f =
    let h = children_have ps f in
    let held : List Item = held_by_all (forest (children ps)) in
    ((refl, h.0), both_of_page (marks false) (held ++ marks false) refl (both_of_page held (marks false) h.1 refl))

styled_has : (bold italic : Bool) (s : Setting) (before : List ContentSign) (t : StyledContent) (after : List ContentSign) → AreNested bold italic t
    → Each OwnHas (things (signs_before t after)) → PartsHave (styled_parts false s before t after)
styled_has bold italic s before finished after k f = guard_has (is_guarded s before after)
styled_has bold italic s before (sign (letter c) t) after k f =
    let guarded : Bool = is_guarded s before (letter c ∷ signs_before t after) in
    let escaped : Bool = is_escaped s.within s.place before c (signs_before t after) in
    let own : List Part = parts Text (letter_items escaped c) in
    let later : List Part = styled_parts false s (letter c ∷ before) t after in
    have_both (parts Text (guard_items guarded)) (own ++ later) (guard_has guarded)
    (have_both own later (letter_has escaped c) (styled_has bold italic s (letter c ∷ before) t after k.1 f))
styled_has bold italic s before (sign (thing x) t) after k f =
    let guarded : Bool = is_guarded s before (thing x ∷ signs_before t after) in
    let own : List Part = line_parts (node_items x.source) in
    let later : List Part = styled_parts false s (thing x ∷ before) t after in
    have_both (parts Text (guard_items guarded)) (own ++ later) (guard_has guarded)
    (have_both own later (f.0 k.0) (styled_has bold italic s (thing x ∷ before) t after k.1 f.1))
styled_has bold italic s before (styled kind opening closing inside t) after k f =
    let first : List ContentSign = delimiter kind opening ∷ before in
    let tail : List ContentSign = delimiter kind closing ∷ signs_before t after in
    let last : List ContentSign = delimiter kind closing ∷ signs_past inside first in
    let guarded : Bool = is_guarded s before (delimiter kind opening ∷ signs_before inside tail) in
    let ps : List Part = styled_parts false s first inside tail in
    let later : List Part = styled_parts false s last t after in
    have_both (parts Text (guard_items guarded)) (node (style_tree kind ps) ∷ later) (guard_has guarded) (
      style_held kind ps (styled_has (kind || bold) (not kind || italic) s first inside tail k.1 f.1),
      styled_has bold italic s last t after k.2 (each_behind OwnHas inside tail f.1).1,
    )

pub styled_have_items : (s : Setting) (ls : List (List Item)) (at : ℕ) (t : StyledContent) → AreFlatLines ls → AreNested false false t
    → AreSomeAndPut (things (signs_in t)) (things (signs_of_lines at ls)) → AllHaveItems (forest (children (joined_parts ls)))
    → AllOfPage (held_by_all (forest (children (joined_parts ls)))) → AreOwnNodes (forest (children (styled_parts false s [] t [])))
styled_have_items s ls at t flat nest some held own =
    let olds : List Thing = things (signs_of_lines at ls) in
    let page : Each ThingHas olds = lines_have at ls flat (flat_nodes ls at (signs_of_lines at ls) flat refl) (children_nodes (joined_parts ls) (held, own)) in
    children_have (styled_parts false s [] t []) (styled_has false false s [] t [] nest (each_some OwnHas put_has (things (signs_in t)) olds some (each_own olds page)))
