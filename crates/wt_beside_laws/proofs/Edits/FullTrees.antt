-- A paragraph of full parts is plain: all its items are the page's own, and no node of it is empty.
use Rattle.std.proofs.Common.{◌≡◌, ℕ, Bool, true, false, Option, Some, None, List, [], ◌∷◌, ◌++◌, map, refl, sym, subst}
use Rattle.std.specs.Prelude.{◌&&◌, ◌||◌, encode_utf8}
use Rattle.std.specs.List.{list_all, list_any}
use Rattle.wt_span.specs.Items.{Item, char, sources}
use Rattle.wt_span.specs.Runs.{runs, IsRun, AreRuns}
use Rattle.wt_span.proofs.RunLaws.{runs_are}
use Rattle.wt_guards.specs.Content.{Thing, ContentSign, letter, thing}
use Rattle.wt_guards.specs.Guards.{Setting, nowiki, is_guarded}
use Rattle.wt_guards.specs.Letters.{is_escaped}
use Rattle.wt_inline.specs.declared.loose.Loose.{Loose}
use Rattle.wt_inline.specs.declared.loose.Loose.TheVariants.{Text, Sep}
use Rattle.wt_inline.specs.ItemTree.{plain, ItemTree, inner, nothing, forest, tree_items, held_by_all}
use Rattle.wt_inline.specs.Parts.{Part, loose, node, parts, held_parts, one_leaf, child, children}
use Rattle.wt_context.specs.Line.{line_parts}
use Rattle.wt_tree.specs.declared.kind.Kind.TheVariants as kind
use Rattle.wt_annotated.specs.Clean.{is_page}
use Rattle.wt_annotated.specs.WithoutCalls.{NoneEmpty, AllNonEmpty, holds_page, IsPlain}
use Rattle.wt_text_edit_laws.specs.LonePages.{page_chars}
use Rattle.wt_text_edit_laws.specs.ParagraphBetween.{body_with}
use Rattle.wt_text_edit_laws.proofs.Texts.TypedShown.{AllOfPage, both_of_page}
use Rattle.wt_beside_laws.specs.Content.{guard_items, letter_items}
use Rattle.wt_beside_laws.specs.Flat.{content_parts}
use Rattle.wt_text_edit_laws.specs.ParagraphParts.{para_with}
use Rattle.wt_beside_laws.specs.Stood.{things}
use Rattle.wt_beside_laws.proofs.Each.{Each}
use Rattle.wt_beside_laws.proofs.LineShown.{guard_tree}
use Rattle.wt_beside_laws.specs.NodeItems.{node_items}

-- ---- parts

-- a node isn't empty, all in it is the page's own, and no node in it is empty
abbrev pub IsFullTree : ItemTree → Type 0
IsFullTree t = (holds_page t ≡ true) × NoneEmpty t × AllOfPage (tree_items t)

abbrev pub AreFullParts : List Part → Type 0
AreFullParts [] = Unit {0}
AreFullParts (loose k o b ∷ ps) = (o ≡ None) × AreFullParts ps
AreFullParts (node t ∷ ps) = IsFullTree t × AreFullParts ps

-- the nodes of a content by their sources
abbrev pub AreFull : List ContentSign → Type 0
AreFull [] = Unit {0}
AreFull (letter c ∷ after) = AreFull after
AreFull (thing t ∷ after) = AreFullParts (line_parts (node_items t.source)) × AreFull after

full_both : (ps qs : List Part) → AreFullParts ps → AreFullParts qs → AreFullParts (ps ++ qs)
full_both [] qs h k = k
full_both (loose j o b ∷ ps) qs h k = (h.0, full_both ps qs h.1 k)
full_both (node t ∷ ps) qs h k = (h.0, full_both ps qs h.1 k)

full_first : (ps qs : List Part) → AreFullParts (ps ++ qs) → AreFullParts ps
full_first [] qs h = tt
full_first (loose j o b ∷ ps) qs h = (h.0, full_first ps qs h.1)
full_first (node t ∷ ps) qs h = (h.0, full_first ps qs h.1)

full_rest : (ps qs : List Part) → AreFullParts (ps ++ qs) → AreFullParts qs
full_rest [] qs h = h
full_rest (loose j o b ∷ ps) qs h = full_rest ps qs h.1
full_rest (node t ∷ ps) qs h = full_rest ps qs h.1

char_of_page : (o : Option ℕ) (b : ℕ) (xs : List Item) → o ≡ None → AllOfPage xs → AllOfPage (char o b ∷ xs)
char_of_page None b xs e h = h
char_of_page (Some k) b xs e h = absurd (cc)

held_of_page : (ps : List Part) → AreFullParts ps → AllOfPage (held_parts ps)
held_of_page [] h = refl
held_of_page (loose j o b ∷ ps) h = char_of_page o b (held_parts ps) h.0 (held_of_page ps h.1)
held_of_page (node t ∷ ps) h = both_of_page (tree_items t) (held_parts ps) h.0.2 (held_of_page ps h.1)

-- ---- the children

pub node_alone : (t : ItemTree) (p : Part) (r others : List Part) → IsRun one_leaf (node t ∷ p ∷ r) others → ⊥
node_alone t p r others h = let e : false ≡ true = h.0 in cc

leaf_full : (k : Loose) (b : ℕ) (r : List Part) → AreFullParts r → IsFullTree (child (loose k None b ∷ r))
leaf_full Text b r h = (refl, tt, both_of_page (char None b ∷ held_parts r) [] (held_of_page r h) refl)
leaf_full Sep b r h = (refl, tt, both_of_page (char None b ∷ held_parts r) [] (held_of_page r h) refl)

loose_full : (k : Loose) (o : Option ℕ) (b : ℕ) (r : List Part) → o ≡ None → AreFullParts r → IsFullTree (child (loose k o b ∷ r))
loose_full k None b r e h = leaf_full k b r h
loose_full k (Some j) b r e h = absurd (cc)

child_full : (r others : List Part) → IsRun one_leaf r others → AreFullParts r → IsFullTree (child r)
child_full [] others h f = absurd h
child_full (loose k o b ∷ r) others h f = loose_full k o b r f.0 f.1
child_full (node t ∷ []) others h f = f.0
child_full (node t ∷ p ∷ r) others h f = absurd (node_alone t p r others h)

runs_full : (rs : List (List Part)) (ps : List Part) → AreRuns one_leaf rs ps → AreFullParts ps
    → AllNonEmpty (forest (map child rs)) × AllOfPage (held_by_all (forest (map child rs)))
runs_full [] ps h f = (tt, refl)
runs_full (r ∷ rs) ps h f =
    let all : AreFullParts (r ++ h.0) = subst AreFullParts h.1 f in
    let c : IsFullTree (child r) = child_full r h.0 h.2 (full_first r h.0 all) in
    let more = runs_full rs h.0 h.3 (full_rest r h.0 all) in
    ((c.0, c.1, more.0), both_of_page (tree_items (child r)) (held_by_all (forest (map child rs))) c.2 more.1)

children_full : (ps : List Part) → AreFullParts ps → AllNonEmpty (forest (children ps)) × AllOfPage (held_by_all (forest (children ps)))
unfolding children
children_full ps f = runs_full (runs one_leaf ps) ps (runs_are one_leaf ps) f

-- ---- the paragraph

some_of_page : (x : Item) (xs : List Item) → AllOfPage (x ∷ xs) → list_any is_page (x ∷ xs) ≡ true
some_of_page x xs h = by (is_page x) (list_all is_page xs) (list_any is_page xs) h
  where
    by : (a b c : Bool) → (a && b) ≡ true → (a || c) ≡ true
    by true b c e = refl
    by false b c e = absurd (cc)

any_of_page : (xs : List Item) (bs : List ℕ) → sources xs ≡ bs → (bs ≡ [] → ⊥) → AllOfPage xs → list_any is_page xs ≡ true
any_of_page [] bs e some h = absurd (some (sym e))
any_of_page (x ∷ xs) bs e some h = some_of_page x xs h

-- where it has an item
pub para_plain : (ps : List Part) (bs : List ℕ) → AreFullParts ps → sources (tree_items (para_with ps)) ≡ bs → (bs ≡ [] → ⊥)
    → IsPlain (body_with (para_with ps ∷ []))
para_plain ps bs f e some =
    let c = children_full ps f in
    let inside : List Item = held_by_all (forest (children ps)) in
    let own : AllOfPage (tree_items (para_with ps)) = both_of_page inside [] c.1 refl in
    record {
      of_page = both_of_page (tree_items (para_with ps) ++ []) [] (both_of_page (tree_items (para_with ps)) [] own refl) refl;
      none_empty = (any_of_page (tree_items (para_with ps)) bs e some own, c.0, tt);
    }

-- ---- the parts of a content

nowiki_full : AreFullParts (node (inner (plain kind.Nowiki) (page_chars nowiki) nothing []) ∷ [])
unfolding nowiki
nowiki_full = ((refl, tt, refl), tt)

pub guard_full : (u : Bool) → AreFullParts (parts Text (guard_items u))
guard_full false = tt
guard_full true = subst (λ (t : ItemTree). AreFullParts (node t ∷ [])) (sym guard_tree) nowiki_full

chars_full : (bs : List ℕ) → AreFullParts (parts Text (page_chars bs))
chars_full [] = tt
chars_full (b ∷ bs) = (refl, chars_full bs)

letter_full : (e : Bool) (c : ℕ) → AreFullParts (parts Text (letter_items e c))
letter_full true c = ((refl, tt, refl), tt)
letter_full false c = chars_full (encode_utf8 c)

pub content_full : (s : Setting) (before signs : List ContentSign) → AreFull signs → AreFullParts (content_parts s before signs)
content_full s before [] h = guard_full (is_guarded s before [])
content_full s before (letter c ∷ after) h =
    let e : Bool = is_escaped s.within s.place before c after in
    let own : List Part = parts Text (letter_items e c) in
    let more : List Part = content_parts s (letter c ∷ before) after in
    full_both (parts Text (guard_items (is_guarded s before (letter c ∷ after)))) (own ++ more) (guard_full (is_guarded s before (letter c ∷ after)))
    (full_both own more (letter_full e c) (content_full s (letter c ∷ before) after h))
content_full s before (thing t ∷ after) h =
    let own : List Part = line_parts (node_items t.source) in
    let more : List Part = content_parts s (thing t ∷ before) after in
    full_both (parts Text (guard_items (is_guarded s before (thing t ∷ after)))) (own ++ more) (guard_full (is_guarded s before (thing t ∷ after)))
    (full_both own more h.0 (content_full s (thing t ∷ before) after h.1))

-- ---- of the same nodes

abbrev pub FullThing : Thing → Type 0
FullThing t = AreFullParts (line_parts (node_items t.source))

full_each : (signs : List ContentSign) → AreFull signs → Each FullThing (things signs)
full_each [] h = tt
full_each (letter c ∷ after) h = full_each after h
full_each (thing t ∷ after) h = (h.0, full_each after h.1)

pub each_full : (signs : List ContentSign) → Each FullThing (things signs) → AreFull signs
each_full [] h = tt
each_full (letter c ∷ after) h = each_full after h
each_full (thing t ∷ after) h = (h.0, each_full after h.1)

pub same_full : (olds news : List ContentSign) → things news ≡ things olds → AreFull olds → AreFull news
same_full olds news e h = each_full news (subst (Each FullThing) (sym e) (full_each olds h))
