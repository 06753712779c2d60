-- No node of a content is empty, where none of the block of the page is.
use Rattle.std.proofs.Common.{◌≡◌, ℕ, ◌+◌, Bool, true, false, Option, None, List, [], ◌∷◌, ◌++◌, length, map, refl, sym, subst}
use Rattle.std.specs.Prelude.{encode_utf8}
use Rattle.wt_tree.specs.declared.kind.Kind.TheVariants as kind
use Rattle.wt_span.specs.Items.{Item, char}
use Rattle.wt_span.specs.Runs.{runs, IsRun, AreRuns}
use Rattle.wt_span.specs.Tags.{opening_tag, tag_after}
use Rattle.wt_span.proofs.RunLaws.{runs_are}
use Rattle.wt_guards.specs.Content.{ContentSign, Thing, letter, thing}
use Rattle.wt_guards.specs.Guards.{Setting, nowiki, is_guarded}
use Rattle.wt_guards.specs.Letters.{is_escaped}
use Rattle.wt_inline.specs.declared.loose.Loose.{Loose}
use Rattle.wt_inline.specs.declared.loose.Loose.TheVariants.{Text, Sep}
use Rattle.wt_inline.specs.ItemTree.{plain, ItemTree, inner, nothing, forest}
use Rattle.wt_inline.specs.Parts.{Part, loose, node, held_parts, one_leaf, loose_leaf, child, children, nowiki as nowiki_tree, parts}
use Rattle.wt_annotated.specs.WithoutCalls.{holds_page, NoneEmpty, AllNonEmpty}
use Rattle.wt_context.specs.Line.{line_parts}
use Rattle.wt_text_edit_laws.specs.LonePages.{page_chars}
use Rattle.wt_beside_laws.specs.Content.{guard_items, letter_items}
use Rattle.wt_beside_laws.specs.Flat.{content_parts}
use Rattle.wt_beside_laws.specs.PageBlocks.{AreUnstyled}
use Rattle.wt_text_edit_laws.specs.ParagraphParts.{joined_parts}
use Rattle.wt_beside_laws.specs.PageSigns.{signs_of_lines, AreFlatLines}
use Rattle.wt_beside_laws.specs.Stood.{things}
use Rattle.wt_beside_laws.proofs.LineThings.{lines_have}
use Rattle.wt_beside_laws.proofs.PartThings.{HaveThings, tree_source}
use Rattle.wt_beside_laws.specs.NodeItems.{node_items}

-- ---- parts

-- characters of the page, and nodes that aren't empty, with none in them that is
abbrev pub IsFullPart : Part → Type 0
IsFullPart (loose k o b) = o ≡ None
IsFullPart (node u) = (holds_page u ≡ true) × NoneEmpty u

abbrev pub AreFullParts : List Part → Type 0
AreFullParts [] = Unit {0}
AreFullParts (p ∷ ps) = IsFullPart p × AreFullParts ps

full_both : (ps qs : List Part) → AreFullParts ps → AreFullParts qs → AreFullParts (ps ++ qs)
full_both [] qs h k = k
full_both (p ∷ ps) qs h k = (h.0, full_both ps qs h.1 k)

full_first : (ps qs : List Part) → AreFullParts (ps ++ qs) → AreFullParts ps
full_first [] qs h = tt
full_first (p ∷ ps) qs h = (h.0, full_first ps qs h.1)

full_rest : (ps qs : List Part) → AreFullParts (ps ++ qs) → AreFullParts qs
full_rest [] qs h = h
full_rest (p ∷ ps) qs h = full_rest ps qs h.1

-- a leaf of characters
leaf_full : (k : Loose) (b : ℕ) (own : List Item) → (holds_page (loose_leaf k (char None b ∷ own)) ≡ true) × NoneEmpty (loose_leaf k (char None b ∷ own))
leaf_full Text b own = (refl, tt)
leaf_full Sep b own = (refl, tt)

runs_full : (rs : List (List Part)) (ps : List Part) → AreRuns one_leaf rs ps → AreFullParts ps → AllNonEmpty (forest (map child rs))
runs_full [] ps a f = tt
runs_full ([] ∷ rs) ps a f = absurd a.2
runs_full ((loose k o b ∷ r) ∷ rs) ps a f =
    let g : AreFullParts ((loose k o b ∷ r) ++ a.0) = subst AreFullParts a.1 f in
    let own = subst (λ (i : Option ℕ). (holds_page (loose_leaf k (char i b ∷ held_parts r)) ≡ true) × NoneEmpty (loose_leaf k (char i b ∷ held_parts r))) (sym g.0)
    (leaf_full k b (held_parts r)) in
    (own.0, own.1, runs_full rs a.0 a.3 (full_rest (loose k o b ∷ r) a.0 g))
runs_full ((node u ∷ []) ∷ rs) ps a f =
    let g : AreFullParts (node u ∷ a.0) = subst AreFullParts a.1 f in
    (g.0.0, g.0.1, runs_full rs a.0 a.3 g.1)
runs_full ((node u ∷ p ∷ r) ∷ rs) ps a f = absurd (let no = a.2.0 in cc)

children_full : (ps : List Part) → AreFullParts ps → AllNonEmpty (forest (children ps))
unfolding children
children_full ps f = runs_full (runs one_leaf ps) ps (runs_are one_leaf ps) f

-- ---- the nodes among parts

abbrev FullNodes : List Part → Type 0
FullNodes [] = Unit {0}
FullNodes (loose k o b ∷ ps) = FullNodes ps
FullNodes (node u ∷ ps) = ((holds_page u ≡ true) × NoneEmpty u) × FullNodes ps

past_loose : (k : Loose) (o : Option ℕ) (b : ℕ) (r others : List Part) → IsRun one_leaf (loose k o b ∷ r) others → FullNodes others → FullNodes ((loose k o b ∷ r) ++ others)
past_loose k o b [] others run h = h
past_loose k o b (loose j i c ∷ r) others run h = past_loose j i c r others run.1 h
past_loose k o b (node x ∷ r) others run h = absurd (let no = run.0 in cc)

runs_nodes : (rs : List (List Part)) (ps : List Part) → AreRuns one_leaf rs ps → AllNonEmpty (forest (map child rs)) → FullNodes ps
runs_nodes [] ps a f = subst FullNodes (sym a) tt
runs_nodes ([] ∷ rs) ps a f = absurd a.2
runs_nodes ((loose k o b ∷ r) ∷ rs) ps a f = subst FullNodes (sym a.1) (past_loose k o b r a.0 a.2 (runs_nodes rs a.0 a.3 f.2))
runs_nodes ((node u ∷ []) ∷ rs) ps a f = subst FullNodes (sym a.1) ((f.0, f.1), runs_nodes rs a.0 a.3 f.2)
runs_nodes ((node u ∷ p ∷ r) ∷ rs) ps a f = absurd (let no = a.2.0 in cc)

children_nodes : (ps : List Part) → AllNonEmpty (forest (children ps)) → FullNodes ps
unfolding children
children_nodes ps f = runs_nodes (runs one_leaf ps) ps (runs_are one_leaf ps) f

-- ---- the nodes of a content

abbrev FullThings : List Thing → Type 0
FullThings [] = Unit {0}
FullThings (t ∷ ts) = AreFullParts (line_parts (node_items t.source)) × FullThings ts

have_full : (at : ℕ) (ps : List Part) (ts : List Thing) → HaveThings at ps ts → FullNodes ps → FullThings ts
have_full at [] ts h f = subst FullThings (sym h) tt
have_full at (loose k o b ∷ ps) ts h f = have_full (at + 1) ps ts h.1 f
have_full at (node u ∷ ps) ts h f =
    subst FullThings (sym h.2)
    (subst AreFullParts (sym h.4) (f.0, tt), have_full (at + length (tree_source u)) ps h.1 h.5 f.1)

nowiki_is : nowiki_tree None nowiki ≡ inner (plain kind.Nowiki) (page_chars nowiki) nothing []
unfolding nowiki nowiki_tree opening_tag tag_after children
nowiki_is = refl

guard_node : (holds_page (inner (plain kind.Nowiki) (page_chars nowiki) nothing []) ≡ true) × NoneEmpty (inner (plain kind.Nowiki) (page_chars nowiki) nothing [])
unfolding nowiki
guard_node = (refl, tt)

guard_full : (u : Bool) → AreFullParts (parts Text (guard_items u))
guard_full true = (subst (λ (v : ItemTree). (holds_page v ≡ true) × NoneEmpty v) (sym nowiki_is) guard_node, tt)
guard_full false = tt

chars_full : (bs : List ℕ) → AreFullParts (parts Text (page_chars bs))
chars_full [] = tt
chars_full (b ∷ bs) = (refl, chars_full bs)

letter_full : (e : Bool) (c : ℕ) → AreFullParts (parts Text (letter_items e c))
letter_full true c = ((refl, tt), tt)
letter_full false c = chars_full (encode_utf8 c)

content_full : (s : Setting) (before signs : List ContentSign) → FullThings (things signs) → AreFullParts (content_parts s before signs)
content_full s before [] f = guard_full (is_guarded s before [])
content_full s before (letter c ∷ after) f =
    let own : List Part = parts Text (letter_items (is_escaped s.within s.place before c after) c) in
    let more : List Part = content_parts s (letter c ∷ before) after in
    full_both (parts Text (guard_items (is_guarded s before (letter c ∷ after)))) (own ++ more) (guard_full (is_guarded s before (letter c ∷ after)))
    (full_both own more (letter_full (is_escaped s.within s.place before c after) c) (content_full s (letter c ∷ before) after f))
content_full s before (thing t ∷ after) f =
    let own : List Part = line_parts (node_items t.source) in
    let more : List Part = content_parts s (thing t ∷ before) after in
    full_both (parts Text (guard_items (is_guarded s before (thing t ∷ after)))) (own ++ more) (guard_full (is_guarded s before (thing t ∷ after)))
    (full_both own more f.0 (content_full s (thing t ∷ before) after f.1))

-- where no node of lines of the page is empty, none is of a content of their nodes with any texts between them
pub content_plain : (s : Setting) (ls : List (List Item)) (at : ℕ) (signs : List ContentSign) → AreFlatLines ls → AreUnstyled ls
    → things signs ≡ things (signs_of_lines at ls) → AllNonEmpty (forest (children (joined_parts ls))) → AllNonEmpty (forest (children (content_parts s [] signs)))
content_plain s ls at signs flat u same full =
    let own : FullThings (things (signs_of_lines at ls)) =
    have_full at (joined_parts ls) (things (signs_of_lines at ls)) (lines_have at ls u flat) (children_nodes (joined_parts ls) full) in
    children_full (content_parts s [] signs) (content_full s [] signs (subst FullThings (sym same) own))
