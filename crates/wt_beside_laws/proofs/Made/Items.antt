-- Each node of a content has an item, and all its items are the page's own, where it is so of the block of the page.
use Rattle.std.proofs.Common.{◌≡◌, ℕ, ◌+◌, Bool, true, false, Option, Some, None, List, [], ◌∷◌, ◌++◌, length, map, refl, sym, subst}
use Rattle.std.specs.Prelude.{encode_utf8}
use Rattle.wt_tree.specs.declared.kind.Kind.TheVariants as kind
use Rattle.wt_span.specs.Items.{Item, char}
use Rattle.wt_span.specs.Runs.{runs, IsRun, AreRuns}
use Rattle.wt_span.proofs.RunLaws.{runs_are}
use Rattle.wt_guards.specs.Content.{Thing}
use Rattle.wt_guards.specs.Guards.{nowiki}
use Rattle.wt_inline.specs.declared.loose.Loose.{Loose}
use Rattle.wt_inline.specs.declared.loose.Loose.TheVariants.{Text, Sep}
use Rattle.wt_inline.specs.ItemTree.{plain, ItemTree, inner, ItemTrees, nothing, forest, tree_items, held_by_all}
use Rattle.wt_inline.specs.Parts.{Part, loose, node, held_parts, one_leaf, child, children, parts}
use Rattle.wt_context.specs.Line.{line_parts}
use Rattle.wt_part_laws.specs.Rounded.{HasItems, AllHaveItems}
use Rattle.wt_text_edit_laws.specs.LonePages.{page_chars}
use Rattle.wt_beside_laws.specs.Content.{guard_items, letter_items}
use Rattle.wt_text_edit_laws.proofs.Blocks.PageItems.{all_of}
use Rattle.wt_text_edit_laws.proofs.Texts.TypedShown.{AllOfPage, both_of_page}
use Rattle.wt_beside_laws.proofs.Each.{Each}
use Rattle.wt_beside_laws.proofs.Edits.FullTrees.{node_alone}
use Rattle.wt_beside_laws.proofs.LineShown.{guard_tree}
use Rattle.wt_beside_laws.proofs.PartThings.{HaveThings, tree_source}
use Rattle.wt_beside_laws.specs.NodeItems.{node_items}

-- ---- parts

-- a node with items, in which is no empty one, and all of it is the page's own
abbrev pub IsOwnNode : ItemTree → Type 0
IsOwnNode u = HasItems u × AllOfPage (tree_items u)

-- so each of the children
abbrev pub AreOwnNodes : ItemTrees → Type 0
AreOwnNodes ts = AllHaveItems ts × AllOfPage (held_by_all ts)

-- characters of the page, and such nodes
abbrev pub PartsHave : List Part → Type 0
PartsHave [] = Unit {0}
PartsHave (loose k o b ∷ ps) = (o ≡ None) × PartsHave ps
PartsHave (node u ∷ ps) = IsOwnNode u × PartsHave ps

pub have_both : (ps qs : List Part) → PartsHave ps → PartsHave qs → PartsHave (ps ++ qs)
have_both [] qs h k = k
have_both (loose j o b ∷ ps) qs h k = (h.0, have_both ps qs h.1 k)
have_both (node u ∷ ps) qs h k = (h.0, have_both ps qs h.1 k)

have_first : (ps qs : List Part) → PartsHave (ps ++ qs) → PartsHave ps
have_first [] qs h = tt
have_first (loose j o b ∷ ps) qs h = (h.0, have_first ps qs h.1)
have_first (node u ∷ ps) qs h = (h.0, have_first ps qs h.1)

have_rest : (ps qs : List Part) → PartsHave (ps ++ qs) → PartsHave qs
have_rest [] qs h = h
have_rest (loose j o b ∷ ps) qs h = have_rest ps qs h.1
have_rest (node u ∷ ps) qs h = have_rest ps qs h.1

char_of_page : (o : Option ℕ) (b : ℕ) (xs : List Item) → o ≡ None → AllOfPage xs → AllOfPage (char o b ∷ xs)
char_of_page None b xs e h = h
char_of_page (Some k) b xs e h = absurd (cc)

pub held_of_page : (ps : List Part) → PartsHave ps → AllOfPage (held_parts ps)
held_of_page [] h = refl
held_of_page (loose j o b ∷ ps) h = char_of_page o b (held_parts ps) h.0 (held_of_page ps h.1)
held_of_page (node u ∷ ps) h = both_of_page (tree_items u) (held_parts ps) h.0.1 (held_of_page ps h.1)

-- a leaf of characters
leaf_held : (k : Loose) (b : ℕ) (r : List Part) → PartsHave r → IsOwnNode (child (loose k None b ∷ r))
leaf_held Text b r h = ((refl, tt), both_of_page (char None b ∷ held_parts r) [] (held_of_page r h) refl)
leaf_held Sep b r h = ((refl, tt), both_of_page (char None b ∷ held_parts r) [] (held_of_page r h) refl)

loose_held : (k : Loose) (o : Option ℕ) (b : ℕ) (r : List Part) → o ≡ None → PartsHave r → IsOwnNode (child (loose k o b ∷ r))
loose_held k None b r e h = leaf_held k b r h
loose_held k (Some j) b r e h = absurd (cc)

run_held : (r others : List Part) → IsRun one_leaf r others → PartsHave r → IsOwnNode (child r)
run_held [] others h f = absurd h
run_held (loose k o b ∷ r) others h f = loose_held k o b r f.0 f.1
run_held (node u ∷ []) others h f = f.0
run_held (node u ∷ p ∷ r) others h f = absurd (node_alone u p r others h)

runs_have : (rs : List (List Part)) (ps : List Part) → AreRuns one_leaf rs ps → PartsHave ps → AreOwnNodes (forest (map child rs))
runs_have [] ps a f = (tt, refl)
runs_have (r ∷ rs) ps a f =
    let all : PartsHave (r ++ a.0) = subst PartsHave a.1 f in
    let own : IsOwnNode (child r) = run_held r a.0 a.2 (have_first r a.0 all) in
    let more = runs_have rs a.0 a.3 (have_rest r a.0 all) in
    ((own.0, more.0), both_of_page (tree_items (child r)) (held_by_all (forest (map child rs))) own.1 more.1)

pub children_have : (ps : List Part) → PartsHave ps → AreOwnNodes (forest (children ps))
unfolding children
children_have ps f = runs_have (runs one_leaf ps) ps (runs_are one_leaf ps) f

-- ---- the nodes among parts

abbrev pub NodesHave : List Part → Type 0
NodesHave [] = Unit {0}
NodesHave (loose k o b ∷ ps) = NodesHave ps
NodesHave (node u ∷ ps) = IsOwnNode u × NodesHave ps

past_loose : (k : Loose) (o : Option ℕ) (b : ℕ) (r others : List Part) → IsRun one_leaf (loose k o b ∷ r) others → NodesHave others → NodesHave ((loose k o b ∷ r) ++ others)
past_loose k o b [] others run h = h
past_loose k o b (loose j i c ∷ r) others run h = past_loose j i c r others run.1 h
past_loose k o b (node x ∷ r) others run h = absurd (let no = run.0 in cc)

runs_nodes : (rs : List (List Part)) (ps : List Part) → AreRuns one_leaf rs ps → AreOwnNodes (forest (map child rs)) → NodesHave ps
runs_nodes [] ps a f = subst NodesHave (sym a) tt
runs_nodes ([] ∷ rs) ps a f = absurd a.2
runs_nodes ((loose k o b ∷ r) ∷ rs) ps a f =
    let own = all_of (tree_items (child (loose k o b ∷ r))) (held_by_all (forest (map child rs))) f.1 in
    subst NodesHave (sym a.1) (past_loose k o b r a.0 a.2 (runs_nodes rs a.0 a.3 (f.0.1, own.1)))
runs_nodes ((node u ∷ []) ∷ rs) ps a f =
    let own = all_of (tree_items u) (held_by_all (forest (map child rs))) f.1 in
    subst NodesHave (sym a.1) ((f.0.0, own.0), runs_nodes rs a.0 a.3 (f.0.1, own.1))
runs_nodes ((node u ∷ p ∷ r) ∷ rs) ps a f = absurd (node_alone u p r a.0 a.2)

pub children_nodes : (ps : List Part) → AreOwnNodes (forest (children ps)) → NodesHave ps
unfolding children
children_nodes ps f = runs_nodes (runs one_leaf ps) ps (runs_are one_leaf ps) f

-- ---- the nodes of a content

abbrev pub ThingHas : Thing → Type 0
ThingHas t = PartsHave (line_parts (node_items t.source))

pub things_have : (at : ℕ) (ps : List Part) (ts : List Thing) → HaveThings at ps ts → NodesHave ps → Each ThingHas ts
things_have at [] ts h f = subst (Each ThingHas) (sym h) tt
things_have at (loose k o b ∷ ps) ts h f = things_have (at + 1) ps ts h.1 f
things_have at (node u ∷ ps) ts h f =
    subst (Each ThingHas) (sym h.2) (subst PartsHave (sym h.4) (f.0, tt), things_have (at + length (tree_source u)) ps h.1 h.5 f.1)

nowiki_has : IsOwnNode (inner (plain kind.Nowiki) (page_chars nowiki) nothing [])
unfolding nowiki
nowiki_has = ((refl, tt), refl)

pub guard_has : (u : Bool) → PartsHave (parts Text (guard_items u))
guard_has true = subst (λ (v : ItemTree). PartsHave (node v ∷ [])) (sym guard_tree) (nowiki_has, tt)
guard_has false = tt

chars_have : (bs : List ℕ) → PartsHave (parts Text (page_chars bs))
chars_have [] = tt
chars_have (b ∷ bs) = (refl, chars_have bs)

pub letter_has : (e : Bool) (c : ℕ) → PartsHave (parts Text (letter_items e c))
letter_has true c = (((refl, tt), refl), tt)
letter_has false c = chars_have (encode_utf8 c)
