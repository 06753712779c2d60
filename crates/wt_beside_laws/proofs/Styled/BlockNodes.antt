-- The nodes of a block of the page with styles, by its parts.
use Rattle.std.proofs.Common.{arith, ◌≡◌, ◌≢◌, ℕ, ◌+◌, ◌<◌, Bool, true, false, Option, List, [], ◌∷◌, ◌++◌, length, map, refl, sym, ap, ap₂, ◌∙◌, subst, append_assoc, length-append}
use Rattle.std.proofs.lemmas.Grind.{flat_map-append}
use Rattle.wt_span.specs.Items.{Item, source, sources}
use Rattle.wt_span.specs.Runs.{runs, IsRun, AreRuns}
use Rattle.wt_span.proofs.RunLaws.{runs_are}
use Rattle.wt_tree.specs.declared.edit_shape.InlineForm.{InlineForm}
use Rattle.wt_tree.specs.declared.edit_shape.InlineForm.TheVariants as inline
use Rattle.wt_tree.specs.EditShapes.{edit_shape}
use Rattle.wt_tree.specs.Source.{flat}
use Rattle.wt_tree.specs.Tree.{Tree, tree, Trees, label}
use Rattle.wt_guards.specs.declared.role.Role.{Role}
use Rattle.wt_guards.specs.Content.{Thing}
use Rattle.wt_inline.specs.declared.loose.Loose.{Loose}
use Rattle.wt_inline.specs.declared.loose.Loose.TheVariants.{Text, Sep}
use Rattle.wt_inline.specs.ItemTree.{plain, ItemTree, inner, forest, tree_items, held_by_all}
use Rattle.wt_inline.specs.Parts.{Part, loose, node, held_parts, one_leaf, loose_leaf, child, children}
use Rattle.wt_annotated.specs.Labels.{label_at}
use Rattle.wt_annotated.specs.Numbering.{count}
use Rattle.wt_annotated.specs.WithoutCalls.{placed}
use Rattle.wt_part_laws.specs.Standing.{standing}
use Rattle.wt_part_laws.proofs.Sources.{standing_source}
use Rattle.wt_original.specs.Kept.{Kept, KeptNode, items, visible, holds_kept, found_at, found_from, found_in, kept_nodes, kept_with}
use Rattle.wt_link_spelling.specs.Spelling.{children_of}
use Rattle.wt_context.specs.Styled.{style_kind}
use Rattle.wt_context.proofs.PlainNodes.{IsText}
use Rattle.wt_beside_laws.specs.StyledBlocks.{numbers_by, numbers_of, all_numbers, found_thing, things_with}
use Rattle.wt_beside_laws.specs.PageBlocks.{AreSoIn}
use Rattle.wt_beside_laws.proofs.OwnSigns.{Every, every_left, every_right, Finds, own_found, inside_found}
use Rattle.wt_beside_laws.proofs.PartThings.{IsThingForm, IsThing, thing_at, tree_source, HaveThings, parts_width, loose_width, leaf_source, nodes_of, stands_form, node_number}

-- ---- parts, and the nodes in them: each node by what is found of it

-- behind so many bytes of its block, wherever it stands
pub record IsFound (at : ℕ) (u : ItemTree) (ts : List Thing) : Type 0 where
  pub found : (block : Tree) (from n : ℕ) (before : List Item) → 0 < n → AreSoIn block ts → Every (Finds block) (found_from at from (standing n before u))
      → things_with (kept_nodes block) (numbers_of (standing n before u)) ≡ ts

abbrev pub HaveFound : ℕ → List Part → List Thing → Type 0
HaveFound at [] ts = ts ≡ []
HaveFound at (loose k o b ∷ ps) ts = IsText k × HaveFound (at + 1) ps ts
HaveFound at (node u ∷ ps) ts =
    (us : List Thing) × (vs : List Thing) × (ts ≡ us ++ vs) × IsFound at u us × HaveFound (at + length (tree_source u)) ps vs

pub found_both : (at : ℕ) (ps qs : List Part) (ts us : List Thing) → HaveFound at ps ts → HaveFound (at + parts_width ps) qs us → HaveFound at (ps ++ qs) (ts ++ us)
found_both at [] qs ts us h k =
    let z : at + 0 ≡ at = omega arith in
    subst (λ (xs : List Thing). HaveFound at qs (xs ++ us)) (sym h) (subst (λ (n : ℕ). HaveFound n qs us) z k)
found_both at (loose j o b ∷ ps) qs ts us h k =
    let w : ℕ = parts_width ps in
    let z : at + (1 + w) ≡ at + 1 + w = omega arith in
    (h.0, found_both (at + 1) ps qs ts us h.1 (subst (λ (n : ℕ). HaveFound n qs us) z k))
found_both at (node u ∷ ps) qs ts us h k =
    let w : ℕ = parts_width ps in
    let v : ℕ = length (tree_source u) in
    let z : at + (v + w) ≡ at + v + w = omega arith in
    (h.0, h.1 ++ us, ap (λ (xs : List Thing). xs ++ us) h.2 ∙ append_assoc h.0 h.1 us, h.3, found_both (at + v) ps qs h.1 us h.4 (subst (λ (n : ℕ). HaveFound n qs us) z k))

-- ---- a node that is no style

numbers_form : (w : InlineForm) (n : ℕ) (ns : List ℕ) → IsThingForm w → numbers_by w n ns ≡ n ∷ []
numbers_form inline.Nothing n ns f = absurd f
numbers_form inline.Characters n ns f = absurd f
numbers_form inline.Bold n ns f = absurd f
numbers_form inline.Italic n ns f = absurd f
numbers_form inline.Shown n ns f = refl
numbers_form inline.PageLink n ns f = refl
numbers_form inline.ExternalLink n ns f = refl
numbers_form inline.Tag n ns f = refl
numbers_form inline.Break n ns f = refl
numbers_form inline.AsItStood n ns f = refl

tree_number : (t : Tree) → IsThingForm (edit_shape (label t).kind).inline → numbers_of t ≡ (label t).id ∷ []
tree_number (tree l ts) f = numbers_form (edit_shape l.kind).inline l.id (all_numbers ts) f

pub finds_own : (block : Tree) (at from : ℕ) (t : Tree) → (label t).id ≢ 0 → Every (Finds block) (found_from at from t) → Finds block (found_at at from t)
finds_own block at from (tree l ts) d e = own_found (Finds block) at from l ts d e

thing_found : (at : ℕ) (u : ItemTree) (r : Role) → IsThing u r → IsFound at u (thing_at r (tree_source u) at ∷ [])
thing_found at u r i = record {
  found = λ block from n before some m e.
      let t : Tree = standing n before u in
      let f = finds_own block at from t (node_number n before u r some i) e in
      ap (things_with (kept_nodes block)) (tree_number t (stands_form n before u r i))
      ∙ ap (λ (o : Option Kept). found_thing o ++ []) f
      ∙ ap₂ (λ (q : Role) (bs : List ℕ). thing_at q bs at ∷ []) (i.role block (found_at at from t).extent n before m.0) (standing_source n before u);
}

pub from_things : (at : ℕ) (ps : List Part) (ts : List Thing) → HaveThings at ps ts → HaveFound at ps ts
from_things at [] ts h = h
from_things at (loose k o b ∷ ps) ts h = (h.0, from_things (at + 1) ps ts h.1)
from_things at (node u ∷ ps) ts h =
    (thing_at h.0 (tree_source u) at ∷ [], h.1, h.2, thing_found at u h.0 h.3, from_things (at + length (tree_source u)) ps h.1 h.5)

-- ---- the trees of parts

pub with_append : (ks : List Kept) (ms ns : List ℕ) → things_with ks (ms ++ ns) ≡ things_with ks ms ++ things_with ks ns
with_append ks [] ns = refl
with_append ks (m ∷ ms) ns =
    ap (λ (ts : List Thing). found_thing (kept_with m ks) ++ ts) (with_append ks ms ns)
    ∙ sym (append_assoc (found_thing (kept_with m ks)) (things_with ks ms) (things_with ks ns))

leaf_numbers : (k : Loose) (own : List Item) (n : ℕ) (before : List Item) → numbers_of (standing n before (loose_leaf k own)) ≡ []
unfolding label_at
leaf_numbers Text own n before = refl
leaf_numbers Sep own n before = refl

past_found : (k : Loose) (o : Option ℕ) (b at : ℕ) (r others : List Part) (ts : List Thing) → IsRun one_leaf (loose k o b ∷ r) others
    → HaveFound at (loose k o b ∷ (r ++ others)) ts → HaveFound (at + parts_width (loose k o b ∷ r)) others ts
past_found k o b at [] others ts run h = let z : at + 1 ≡ at + (1 + 0) = omega arith in subst (λ (n : ℕ). HaveFound n others ts) z h.1
past_found k o b at (loose j i c ∷ r) others ts run h =
    let w : ℕ = parts_width (loose j i c ∷ r) in
    let z : at + 1 + w ≡ at + (1 + w) = omega arith in
    subst (λ (n : ℕ). HaveFound n others ts) z (past_found j i c (at + 1) r others ts run.1 h.1)
past_found k o b at (node x ∷ r) others ts run h = absurd (let no = run.0 in cc)

pub so_parts : (block : Tree) (xs ys : List Thing) → AreSoIn block (xs ++ ys) → AreSoIn block xs × AreSoIn block ys
so_parts block [] ys h = (tt, h)
so_parts block (x ∷ xs) ys h = let r = so_parts block xs ys h.1 in ((h.0, r.0), r.1)

runs_found : (rs : List (List Part)) (ps : List Part) (block : Tree) (at from n : ℕ) (before : List Item) (ts : List Thing) → 0 < n → AreRuns one_leaf rs ps
    → HaveFound at ps ts → AreSoIn block ts → Every (Finds block) (found_in at from (nodes_of n before (forest (map child rs))))
    → things_with (kept_nodes block) (all_numbers (nodes_of n before (forest (map child rs)))) ≡ ts
runs_found [] ps block at from n before ts some a h so e = sym (subst (λ (qs : List Part). HaveFound at qs ts) a h)
runs_found ([] ∷ rs) ps block at from n before ts some a h so e = absurd a.2
runs_found ((loose k o b ∷ r) ∷ rs) ps block at from n before ts some a h so e =
    let run : List Part = loose k o b ∷ r in
    let u : ItemTree = child run in
    let t : Tree = standing n before u in
    let m : ℕ = n + count (placed before u) in
    let us : Trees = nodes_of m (before ++ tree_items u) (forest (map child rs)) in
    let behind : HaveFound (at + parts_width run) a.0 ts = past_found k o b at r a.0 ts a.2 (subst (λ (qs : List Part). HaveFound at qs ts) a.1 h) in
    let wide : parts_width run ≡ length (flat t) =
    loose_width k o b r a.0 a.2 ∙ ap length (sym (leaf_source k (held_parts run))) ∙ ap length (sym (standing_source n before u)) in
    ap (λ (ns : List ℕ). things_with (kept_nodes block) (ns ++ all_numbers us)) (leaf_numbers k (held_parts run) n before)
    ∙ runs_found rs a.0 block (at + length (flat t)) (from + length (visible (items t))) m (before ++ tree_items u) ts (omega (arith, some)) a.3
    (subst (λ (w : ℕ). HaveFound (at + w) a.0 ts) wide behind) so (every_right (Finds block) (found_from at from t) _ e)
runs_found ((node u ∷ []) ∷ rs) ps block at from n before ts some a h so e =
    let t : Tree = standing n before u in
    let m : ℕ = n + count (placed before u) in
    let us : Trees = nodes_of m (before ++ tree_items u) (forest (map child rs)) in
    let own : HaveFound at (node u ∷ a.0) ts = subst (λ (qs : List Part). HaveFound at qs ts) a.1 h in
    let wide : length (tree_source u) ≡ length (flat t) = ap length (sym (standing_source n before u)) in
    let each = so_parts block own.0 own.1 (subst (AreSoIn block) own.2 so) in
    with_append (kept_nodes block) (numbers_of t) (all_numbers us)
    ∙ ap (λ (ss : List Thing). ss ++ things_with (kept_nodes block) (all_numbers us)) (own.3.found block from n before some each.0 (every_left (Finds block) (found_from at from t) _ e))
    ∙ ap (λ (ss : List Thing). own.0 ++ ss)
    (runs_found rs a.0 block (at + length (flat t)) (from + length (visible (items t))) m (before ++ tree_items u) own.1 (omega (arith, some)) a.3
    (subst (λ (w : ℕ). HaveFound (at + w) a.0 own.1) wide own.4) each.1 (every_right (Finds block) (found_from at from t) _ e))
    ∙ sym own.2
runs_found ((node u ∷ p ∷ r) ∷ rs) ps block at from n before ts some a h so e = absurd (let no = a.2.0 in cc)

pub parts_found : (ps : List Part) (block : Tree) (at from n : ℕ) (before : List Item) (ts : List Thing) → 0 < n → HaveFound at ps ts → AreSoIn block ts
    → Every (Finds block) (found_in at from (nodes_of n before (forest (children ps))))
    → things_with (kept_nodes block) (all_numbers (nodes_of n before (forest (children ps)))) ≡ ts
unfolding children
parts_found ps block at from n before ts some h so e = runs_found (runs one_leaf ps) ps block at from n before ts some (runs_are one_leaf ps) h so e

-- ---- a style

abbrev pub style_round : Bool → List Item → List Part → List Item → ItemTree
style_round kind opening ps closing = inner (plain (style_kind kind)) opening (forest (children ps)) closing

pub style_children : (kind : Bool) (n : ℕ) (before opening closing : List Item) (ps : List Part)
    → children_of (standing n before (style_round kind opening ps closing)) ≡ nodes_of (n + 1) (before ++ opening) (forest (children ps))
unfolding label_at
style_children true n before opening closing ps = refl
style_children false n before opening closing ps = refl

style_numbers : (kind : Bool) (n : ℕ) (before opening closing : List Item) (ps : List Part)
    → numbers_of (standing n before (style_round kind opening ps closing)) ≡ all_numbers (children_of (standing n before (style_round kind opening ps closing)))
unfolding label_at
style_numbers true n before opening closing ps = refl
style_numbers false n before opening closing ps = refl

pub style_holds : (kind : Bool) (n : ℕ) (before opening closing : List Item) (ps : List Part)
    → holds_kept (label (standing n before (style_round kind opening ps closing))) ≡ true
unfolding label_at
style_holds true n before opening closing ps = refl
style_holds false n before opening closing ps = refl

style_opening : (kind : Bool) (n : ℕ) (before opening closing : List Item) (ps : List Part)
    → (label (standing n before (style_round kind opening ps closing))).opening ≡ sources opening
unfolding label_at
style_opening true n before opening closing ps = refl
style_opening false n before opening closing ps = refl

pub found_inside : (P : KeptNode → Type 0) (at from : ℕ) (t : Tree) → holds_kept (label t) ≡ true → Every P (found_from at from t)
    → Every P (found_in (at + length (label t).opening) (from + length (label t).opening) (children_of t))
found_inside P at from (tree l ts) h e = inside_found P at from l ts h e

pub style_found : (kind : Bool) (at : ℕ) (opening : List Item) (ps : List Part) (closing : List Item) (ts : List Thing) → HaveFound (at + length (sources opening)) ps ts
    → IsFound at (style_round kind opening ps closing) ts
style_found kind at opening ps closing ts h = record {
  found = λ block from n before some so e.
      let t : Tree = standing n before (style_round kind opening ps closing) in
      let c : children_of t ≡ nodes_of (n + 1) (before ++ opening) (forest (children ps)) = style_children kind n before opening closing ps in
      let m : ℕ = length (sources opening) in
      let inside : Every (Finds block) (found_in (at + m) (from + m) (nodes_of (n + 1) (before ++ opening) (forest (children ps)))) =
      subst (λ (bs : List ℕ). Every (Finds block) (found_in (at + length bs) (from + length bs) (nodes_of (n + 1) (before ++ opening) (forest (children ps)))))
      (style_opening kind n before opening closing ps)
      (subst (λ (us : Trees). Every (Finds block) (found_in (at + length (label t).opening) (from + length (label t).opening) us)) c
      (found_inside (Finds block) at from t (style_holds kind n before opening closing ps) e)) in
      ap (things_with (kept_nodes block)) (style_numbers kind n before opening closing ps ∙ ap all_numbers c)
      ∙ parts_found ps block (at + m) (from + m) (n + 1) (before ++ opening) ts (omega (arith, some)) h so inside;
}

-- ---- how wide it is

pub widths_both : (ps qs : List Part) → parts_width (ps ++ qs) ≡ parts_width ps + parts_width qs
widths_both [] qs = omega arith
widths_both (loose k o b ∷ ps) qs = let later = widths_both ps qs in omega (arith, later)
widths_both (node u ∷ ps) qs = let later = widths_both ps qs in omega (arith, later)

sources_append : (xs ys : List Item) → sources (xs ++ ys) ≡ sources xs ++ sources ys
sources_append xs ys = flat_map-append source xs ys

runs_wide : (rs : List (List Part)) (ps : List Part) → AreRuns one_leaf rs ps → length (sources (held_by_all (forest (map child rs)))) ≡ parts_width ps
runs_wide [] ps a = sym (ap parts_width a)
runs_wide ([] ∷ rs) ps a = absurd a.2
runs_wide ((loose k o b ∷ r) ∷ rs) ps a =
    let run : List Part = loose k o b ∷ r in
    let xs : List Item = tree_items (child run) in
    let ys : List Item = held_by_all (forest (map child rs)) in
    let own : length (sources xs) ≡ parts_width run = ap length (leaf_source k (held_parts run)) ∙ sym (loose_width k o b r a.0 a.2) in
    let both = length-append (sources xs) (sources ys) in
    let later = runs_wide rs a.0 a.3 in
    let all = widths_both run a.0 in
    ap length (sources_append xs ys) ∙ (let z : length (sources xs ++ sources ys) ≡ parts_width (run ++ a.0) = omega (arith, own, both, later, all) in z) ∙ sym (ap parts_width a.1)
runs_wide ((node u ∷ []) ∷ rs) ps a =
    let xs : List Item = tree_items u in
    let ys : List Item = held_by_all (forest (map child rs)) in
    let both = length-append (sources xs) (sources ys) in
    let later = runs_wide rs a.0 a.3 in
    ap length (sources_append xs ys) ∙ (let z : length (sources xs ++ sources ys) ≡ length (sources xs) + parts_width a.0 = omega (arith, both, later) in z) ∙ sym (ap parts_width a.1)
runs_wide ((node u ∷ p ∷ r) ∷ rs) ps a = absurd (let no = a.2.0 in cc)

pub children_wide : (ps : List Part) → length (sources (held_by_all (forest (children ps)))) ≡ parts_width ps
unfolding children
children_wide ps = runs_wide (runs one_leaf ps) ps (runs_are one_leaf ps)

pub style_wide : (kind : Bool) (opening : List Item) (ps : List Part) (closing : List Item)
    → length (tree_source (style_round kind opening ps closing)) ≡ length (sources opening) + (parts_width ps + length (sources closing))
style_wide kind opening ps closing =
    let xs : List Item = held_by_all (forest (children ps)) in
    let a = length-append (sources opening) (sources (xs ++ closing)) in
    let b = length-append (sources xs) (sources closing) in
    let c = children_wide ps in
    ap length (sources_append opening (xs ++ closing))
    ∙ (let z : length (sources opening ++ sources (xs ++ closing)) ≡ length (sources opening) + length (sources (xs ++ closing)) = a in z)
    ∙ ap (λ (bs : List ℕ). length (sources opening) + length bs) (sources_append xs closing)
    ∙ (let z : length (sources opening) + length (sources xs ++ sources closing) ≡ length (sources opening) + (parts_width ps + length (sources closing)) = omega (arith, b, c) in z)
