-- The nodes of a block of the page, by its parts.
use Rattle.std.proofs.Common.{arith, ◌≡◌, ◌≢◌, ℕ, ◌+◌, ◌<◌, Bool, true, false, Option, Some, List, [], ◌∷◌, ◌++◌, length, map, refl, sym, ap, ap₂, ◌∙◌, subst, append-nil}
use Rattle.std.specs.Prelude.{◌||◌, if◌then◌else◌}
use Rattle.std.specs.List.{flat_map}
use Rattle.std.specs.Str.{chars}
use Rattle.wt_span.specs.Items.{Item, sources}
use Rattle.wt_span.specs.Runs.{runs, IsRun, AreRuns}
use Rattle.wt_span.proofs.RunLaws.{runs_are}
use Rattle.wt_tree.specs.declared.kind.Kind.{Kind}
use Rattle.wt_tree.specs.declared.edit_shape.InlineForm.{InlineForm}
use Rattle.wt_tree.specs.declared.edit_shape.InlineForm.TheVariants as inline
use Rattle.wt_tree.specs.EditShapes.{edit_shape}
use Rattle.wt_tree.specs.Kinds.{is_numbered}
use Rattle.wt_tree.specs.Plain.{Plains, plain_before}
use Rattle.wt_tree.specs.Source.{flat}
use Rattle.wt_tree.specs.Tree.{Label, Tree, tree, Trees, more, label}
use Rattle.wt_guards.specs.declared.role.Role.{Role}
use Rattle.wt_isolation.specs.OpenTags.{ends_open, open_by, node_ends_open, any_ends_open}
use Rattle.wt_guards.specs.Content.{ContentSign, Thing, letter, thing}
use Rattle.wt_inline.specs.declared.loose.Loose.{Loose}
use Rattle.wt_inline.specs.declared.loose.Loose.TheVariants.{Text, Sep}
use Rattle.wt_inline.specs.Carried.{shown_item}
use Rattle.wt_inline.specs.ItemTree.{Head, ItemTree, inner, ItemTrees, forest, tree_items}
use Rattle.wt_inline.specs.Parts.{Part, loose, node, held_parts, one_leaf, loose_leaf, child, children}
use Rattle.wt_annotated.specs.CutTexts.{all_cut_texts}
use Rattle.wt_annotated.specs.Labels.{label_at}
use Rattle.wt_annotated.specs.Numbering.{number_of, count, all_with_numbers}
use Rattle.wt_annotated.specs.WithoutCalls.{placed, all_placed}
use Rattle.wt_part_laws.specs.Standing.{standing}
use Rattle.wt_part_laws.proofs.Moved.{shows_the_same}
use Rattle.wt_part_laws.proofs.Sources.{standing_source}
use Rattle.wt_original.specs.Kept.{Kept, KeptNode, items, visible, found_at, found_from, found_in, kept_of, role_of}
use Rattle.wt_original.specs.Page.{page_of}
use Rattle.wt_original.specs.declared.block.Extent.{Extent}
use Rattle.wt_beside_laws.specs.NodeItems.{node_items}
use Rattle.wt_context.specs.Line.{line_parts}
use Rattle.wt_context.proofs.PlainNodes.{IsText}
use Rattle.wt_beside_laws.specs.OwnSigns.{own_node, own_by, own_signs, HasOwnBy, HaveOwn}
use Rattle.wt_beside_laws.specs.PageBlocks.{AreShut, ShowSources, IsRoleAt, AreSoIn}
use Rattle.wt_beside_laws.specs.SentPieces.{IsNodeForm, ShowsItsSource}
use Rattle.wt_beside_laws.specs.Shown.{parts_shown_at}
use Rattle.wt_beside_laws.specs.Stood.{things}
use Rattle.wt_beside_laws.proofs.OwnSigns.{Every, every_left, every_right, Finds, own_found}
use Rattle.wt_beside_laws.proofs.SentNodes.{things_append, no_things}

-- ---- parts and their nodes

abbrev pub head_of : ItemTree → Head
head_of (inner h opening ts closing) = h

-- a node that is kept by its source
abbrev pub IsThingForm : InlineForm → Type 0
IsThingForm inline.Nothing = ⊥
IsThingForm inline.Characters = ⊥
IsThingForm inline.Bold = ⊥
IsThingForm inline.Italic = ⊥
IsThingForm inline.Shown = Unit {0}
IsThingForm inline.PageLink = Unit {0}
IsThingForm inline.ExternalLink = Unit {0}
IsThingForm inline.Tag = Unit {0}
IsThingForm inline.Break = Unit {0}
IsThingForm inline.AsItStood = Unit {0}

-- a node with a number, which is this to its neighbours wherever it is, a mark where it is as its role says
pub record IsThing (u : ItemTree) (r : Role) : Type 0 where
  pub form : IsThingForm (edit_shape (head_of u).kind).inline
  pub numbered : is_numbered (head_of u).kind ≡ true
  pub role : (block : Tree) (s : Extent) (n : ℕ) (before : List Item) → IsRoleAt r block s.start (sources (tree_items u)) → role_of block s (standing n before u) ≡ r

abbrev pub thing_at : Role → List ℕ → ℕ → Thing
thing_at r bs at = record { role = r; source = bs; place = Some (record { start = at; end = at + length bs }) }

abbrev pub tree_source : ItemTree → List ℕ
tree_source u = sources (tree_items u)

-- its source by itself is this node
abbrev pub IsAlone : ItemTree → Type 0
IsAlone u = line_parts (node_items (tree_source u)) ≡ node u ∷ []

-- so many bytes come before these parts
abbrev pub HaveThings : ℕ → List Part → List Thing → Type 0
HaveThings at [] ts = ts ≡ []
HaveThings at (loose k o b ∷ ps) ts = IsText k × HaveThings (at + 1) ps ts
HaveThings at (node u ∷ ps) ts =
    (r : Role) × (us : List Thing) × (ts ≡ thing_at r (tree_source u) at ∷ us) × IsThing u r × IsAlone u × HaveThings (at + length (tree_source u)) ps us

abbrev pub parts_width : List Part → ℕ
parts_width [] = 0
parts_width (loose k o b ∷ ps) = 1 + parts_width ps
parts_width (node u ∷ ps) = length (tree_source u) + parts_width ps

pub things_both : (at : ℕ) (ps qs : List Part) (ts us : List Thing) → HaveThings at ps ts → HaveThings (at + parts_width ps) qs us
    → HaveThings at (ps ++ qs) (ts ++ us)
things_both at [] qs ts us h k =
    let z : at + 0 ≡ at = omega arith in
    subst (λ (xs : List Thing). HaveThings at qs (xs ++ us)) (sym h) (subst (λ (n : ℕ). HaveThings n qs us) z k)
things_both at (loose j o b ∷ ps) qs ts us h k =
    let w : ℕ = parts_width ps in
    let z : at + (1 + w) ≡ at + 1 + w = omega arith in
    (h.0, things_both (at + 1) ps qs ts us h.1 (subst (λ (n : ℕ). HaveThings n qs us) z k))
things_both at (node u ∷ ps) qs ts us h k =
    let w : ℕ = parts_width ps in
    let v : ℕ = length (tree_source u) in
    let z : at + (v + w) ≡ at + v + w = omega arith in
    (h.0, h.1 ++ us, ap (λ (xs : List Thing). xs ++ us) h.2, h.3, h.4, things_both (at + v) ps qs h.1 us h.5 (subst (λ (n : ℕ). HaveThings n qs us) z k))

-- ---- a run of characters

past_loose : (k : Loose) (o : Option ℕ) (b at : ℕ) (r others : List Part) (ts : List Thing) → IsRun one_leaf (loose k o b ∷ r) others
    → HaveThings at (loose k o b ∷ (r ++ others)) ts → HaveThings (at + parts_width (loose k o b ∷ r)) others ts
past_loose k o b at [] others ts run h = let z : at + 1 ≡ at + (1 + 0) = omega arith in subst (λ (n : ℕ). HaveThings n others ts) z h.1
past_loose k o b at (loose j i c ∷ r) others ts run h =
    let w : ℕ = parts_width (loose j i c ∷ r) in
    let z : at + 1 + w ≡ at + (1 + w) = omega arith in
    subst (λ (n : ℕ). HaveThings n others ts) z (past_loose j i c (at + 1) r others ts run.1 h.1)
past_loose k o b at (node x ∷ r) others ts run h = absurd (let no = run.0 in cc)

pub loose_width : (k : Loose) (o : Option ℕ) (b : ℕ) (r others : List Part) → IsRun one_leaf (loose k o b ∷ r) others
    → parts_width (loose k o b ∷ r) ≡ length (sources (held_parts (loose k o b ∷ r)))
loose_width k o b [] others run = refl
loose_width k o b (loose j i c ∷ r) others run = let more = loose_width j i c r others run.1 in omega (arith, more)
loose_width k o b (node x ∷ r) others run = absurd (let no = run.0 in cc)

pub leaf_source : (k : Loose) (own : List Item) → tree_source (loose_leaf k own) ≡ sources own
leaf_source k own = ap sources (append-nil own)

-- ---- the trees of parts

-- nodes with these numbers behind these items
abbrev pub nodes_of : ℕ → List Item → ItemTrees → Trees
nodes_of n before ts = all_cut_texts (all_with_numbers n (all_placed before ts))

abbrev own_of : Tree → ℕ → ℕ → Tree → List ContentSign
own_of block at from (tree l ts) = own_by (edit_shape l.kind).inline block at from l ts

own_first : (block : Tree) (at from : ℕ) (t : Tree) (us : Trees)
    → own_signs block at from (more t us) ≡ own_of block at from t ++ own_signs block (at + length (flat t)) (from + length (visible (items t))) us
own_first block at from (tree l ts) us = refl

first_things : (block : Tree) (at from : ℕ) (t : Tree) (us : Trees) → things (own_signs block at from (more t us))
    ≡ things (own_of block at from t) ++ things (own_signs block (at + length (flat t)) (from + length (visible (items t))) us)
first_things block at from t us =
    ap things (own_first block at from t us)
    ∙ things_append (own_of block at from t) (own_signs block (at + length (flat t)) (from + length (visible (items t))) us)

leaf_none : (k : Loose) (own : List Item) (block : Tree) (at from n : ℕ) (before : List Item)
    → things (own_of block at from (standing n before (loose_leaf k own))) ≡ []
unfolding label_at
leaf_none Text own block at from n before = no_things (chars (flat_map shown_item own))
leaf_none Sep own block at from n before = refl

by_form : (w : InlineForm) (block : Tree) (at from : ℕ) (l : Label) (ts : Trees) → IsThingForm w → own_by w block at from l ts ≡ own_node block at from (tree l ts)
by_form inline.Nothing block at from l ts f = absurd f
by_form inline.Characters block at from l ts f = absurd f
by_form inline.Bold block at from l ts f = absurd f
by_form inline.Italic block at from l ts f = absurd f
by_form inline.Shown block at from l ts f = refl
by_form inline.PageLink block at from l ts f = refl
by_form inline.ExternalLink block at from l ts f = refl
by_form inline.Tag block at from l ts f = refl
by_form inline.Break block at from l ts f = refl
by_form inline.AsItStood block at from l ts f = refl

own_is : (block : Tree) (at from : ℕ) (t : Tree) → IsThingForm (edit_shape (label t).kind).inline → own_of block at from t ≡ own_node block at from t
own_is block at from (tree l ts) f = by_form (edit_shape l.kind).inline block at from l ts f

pub stands_kind : (n : ℕ) (before : List Item) (u : ItemTree) → (label (standing n before u)).kind ≡ (head_of u).kind
unfolding label_at
stands_kind n before (inner h opening ts closing) = refl

pub stands_form : (n : ℕ) (before : List Item) (u : ItemTree) (r : Role) → IsThing u r → IsThingForm (edit_shape (label (standing n before u)).kind).inline
stands_form n before u r i = subst (λ (k : Kind). IsThingForm (edit_shape k).inline) (sym (stands_kind n before u)) i.form

node_own : (block : Tree) (at from n : ℕ) (before : List Item) (u : ItemTree) (r : Role) → IsThing u r → IsRoleAt r block at (tree_source u)
    → things (own_of block at from (standing n before u)) ≡ thing_at r (tree_source u) at ∷ []
node_own block at from n before u r i m =
    let t : Tree = standing n before u in
    ap things (own_is block at from t (stands_form n before u r i))
    ∙ ap₂ (λ (q : Role) (bs : List ℕ). thing_at q bs at ∷ []) (i.role block (found_at at from t).extent n before m) (standing_source n before u)

runs_things : (rs : List (List Part)) (ps : List Part) (block : Tree) (at from n : ℕ) (before : List Item) (ts : List Thing) → AreRuns one_leaf rs ps
    → HaveThings at ps ts → AreSoIn block ts → things (own_signs block at from (nodes_of n before (forest (map child rs)))) ≡ ts
runs_things [] ps block at from n before ts a h m = sym (subst (λ (qs : List Part). HaveThings at qs ts) a h)
runs_things ([] ∷ rs) ps block at from n before ts a h m = absurd a.2
runs_things ((loose k o b ∷ r) ∷ rs) ps block at from n before ts a h m =
    let run : List Part = loose k o b ∷ r in
    let u : ItemTree = child run in
    let t : Tree = standing n before u in
    let us : Trees = nodes_of (n + count (placed before u)) (before ++ tree_items u) (forest (map child rs)) in
    let behind : HaveThings (at + parts_width run) a.0 ts = past_loose k o b at r a.0 ts a.2 (subst (λ (qs : List Part). HaveThings at qs ts) a.1 h) in
    let wide : parts_width run ≡ length (flat t) =
    loose_width k o b r a.0 a.2 ∙ ap length (sym (leaf_source k (held_parts run))) ∙ ap length (sym (standing_source n before u)) in
    first_things block at from t us
    ∙ ap (λ (ss : List Thing). ss ++ things (own_signs block (at + length (flat t)) (from + length (visible (items t))) us))
    (leaf_none k (held_parts run) block at from n before)
    ∙ runs_things rs a.0 block (at + length (flat t)) (from + length (visible (items t))) (n + count (placed before u)) (before ++ tree_items u) ts a.3
    (subst (λ (w : ℕ). HaveThings (at + w) a.0 ts) wide behind) m
runs_things ((node u ∷ []) ∷ rs) ps block at from n before ts a h m =
    let t : Tree = standing n before u in
    let us : Trees = nodes_of (n + count (placed before u)) (before ++ tree_items u) (forest (map child rs)) in
    let own : HaveThings at (node u ∷ a.0) ts = subst (λ (qs : List Part). HaveThings at qs ts) a.1 h in
    let wide : length (tree_source u) ≡ length (flat t) = ap length (sym (standing_source n before u)) in
    let so : AreSoIn block (thing_at own.0 (tree_source u) at ∷ own.1) = subst (AreSoIn block) own.2 m in
    first_things block at from t us
    ∙ ap (λ (ss : List Thing). ss ++ things (own_signs block (at + length (flat t)) (from + length (visible (items t))) us))
    (node_own block at from n before u own.0 own.3 so.0)
    ∙ ap (λ (ss : List Thing). thing_at own.0 (tree_source u) at ∷ ss)
    (runs_things rs a.0 block (at + length (flat t)) (from + length (visible (items t))) (n + count (placed before u)) (before ++ tree_items u) own.1 a.3
    (subst (λ (w : ℕ). HaveThings (at + w) a.0 own.1) wide own.5) so.1)
    ∙ sym own.2
runs_things ((node u ∷ p ∷ r) ∷ rs) ps block at from n before ts a h m = absurd (let no = a.2.0 in cc)

pub own_things : (ps : List Part) (block : Tree) (at from n : ℕ) (before : List Item) (ts : List Thing) → HaveThings at ps ts → AreSoIn block ts
    → things (own_signs block at from (nodes_of n before (forest (children ps)))) ≡ ts
unfolding children
own_things ps block at from n before ts h m = runs_things (runs one_leaf ps) ps block at from n before ts (runs_are one_leaf ps) h m

-- ---- each has a number

abbrev OwnOf : Tree → Type 0
OwnOf (tree l ts) = HasOwnBy (edit_shape l.kind).inline l

first_owned : (t : Tree) (us : Trees) → OwnOf t → HaveOwn us → HaveOwn (more t us)
first_owned (tree l ts) us h k = (h, k)

leaf_owned : (k : Loose) (own : List Item) (n : ℕ) (before : List Item) → OwnOf (standing n before (loose_leaf k own))
unfolding label_at
leaf_owned Text own n before = tt
leaf_owned Sep own n before = tt

owned_by : (w : InlineForm) (l : Label) → IsThingForm w → l.id ≢ 0 → HasOwnBy w l
owned_by inline.Nothing l f d = absurd f
owned_by inline.Characters l f d = absurd f
owned_by inline.Bold l f d = absurd f
owned_by inline.Italic l f d = absurd f
owned_by inline.Shown l f d = d
owned_by inline.PageLink l f d = d
owned_by inline.ExternalLink l f d = d
owned_by inline.Tag l f d = d
owned_by inline.Break l f d = d
owned_by inline.AsItStood l f d = d

tree_owned : (t : Tree) → IsThingForm (edit_shape (label t).kind).inline → (label t).id ≢ 0 → OwnOf t
tree_owned (tree l ts) f d = owned_by (edit_shape l.kind).inline l f d

stands_number : (n : ℕ) (before : List Item) (u : ItemTree) → (label (standing n before u)).id ≡ number_of (head_of u).kind n
unfolding label_at
stands_number n before (inner h opening ts closing) = refl

pub node_number : (n : ℕ) (before : List Item) (u : ItemTree) (r : Role) → 0 < n → IsThing u r → (label (standing n before u)).id ≢ 0
node_number n before u r some i =
    let is : (label (standing n before u)).id ≡ n = stands_number n before u ∙ ap (λ (v : Bool). if v then n else 0) i.numbered in
    omega (arith, is, some)

node_owned : (n : ℕ) (before : List Item) (u : ItemTree) (r : Role) → 0 < n → IsThing u r → OwnOf (standing n before u)
node_owned n before u r some i = tree_owned (standing n before u) (stands_form n before u r i) (node_number n before u r some i)

runs_owned : (rs : List (List Part)) (ps : List Part) (at n : ℕ) (before : List Item) (ts : List Thing) → 0 < n → AreRuns one_leaf rs ps → HaveThings at ps ts
    → HaveOwn (nodes_of n before (forest (map child rs)))
runs_owned [] ps at n before ts some a h = tt
runs_owned ([] ∷ rs) ps at n before ts some a h = absurd a.2
runs_owned ((loose k o b ∷ r) ∷ rs) ps at n before ts some a h =
    let run : List Part = loose k o b ∷ r in
    let u : ItemTree = child run in
    let m : ℕ = count (placed before u) in
    let us : Trees = nodes_of (n + m) (before ++ tree_items u) (forest (map child rs)) in
    let behind : HaveThings (at + parts_width run) a.0 ts = past_loose k o b at r a.0 ts a.2 (subst (λ (qs : List Part). HaveThings at qs ts) a.1 h) in
    first_owned (standing n before u) us (leaf_owned k (held_parts run) n before)
    (runs_owned rs a.0 (at + parts_width run) (n + m) (before ++ tree_items u) ts (omega (arith, some)) a.3 behind)
runs_owned ((node u ∷ []) ∷ rs) ps at n before ts some a h =
    let m : ℕ = count (placed before u) in
    let us : Trees = nodes_of (n + m) (before ++ tree_items u) (forest (map child rs)) in
    let own : HaveThings at (node u ∷ a.0) ts = subst (λ (qs : List Part). HaveThings at qs ts) a.1 h in
    first_owned (standing n before u) us (node_owned n before u own.0 some own.3)
    (runs_owned rs a.0 (at + length (tree_source u)) (n + m) (before ++ tree_items u) own.1 (omega (arith, some)) a.3 own.5)
runs_owned ((node u ∷ p ∷ r) ∷ rs) ps at n before ts some a h = absurd (let no = a.2.0 in cc)

pub have_own : (ps : List Part) (at n : ℕ) (before : List Item) (ts : List Thing) → 0 < n → HaveThings at ps ts → HaveOwn (nodes_of n before (forest (children ps)))
unfolding children
have_own ps at n before ts some h = runs_owned (runs one_leaf ps) ps at n before ts some (runs_are one_leaf ps) h

-- ---- each shows what its source shows by itself

lone_shows : (n : ℕ) (before : List Item) (u : ItemTree) (rest : Plains) → parts_shown_at 0 [] (node u ∷ []) rest ≡ plain_before (standing n before u) rest
unfolding children
lone_shows n before u rest = shows_the_same 0 n [] before u rest

pub shows_source : (same : Tree → Tree → Bool) (block : Tree) (at from n : ℕ) (before : List Item) (u : ItemTree) → IsAlone u
    → Finds block (found_at at from (standing n before u)) → ShowsItsSource (page_of same block) (standing n before u)
shows_source same block at from n before u alone found = λ k e rest.
    let t : Tree = standing n before u in
    let is : kept_of block (found_at at from t) ≡ k = same_kept (kept_of block (found_at at from t)) k (sym found ∙ e) in
    ap (λ (j : Kept). parts_shown_at 0 [] (line_parts (node_items (flat j.node))) rest) (sym is)
    ∙ ap (λ (bs : List ℕ). parts_shown_at 0 [] (line_parts (node_items bs)) rest) (standing_source n before u)
    ∙ ap (λ (ps : List Part). parts_shown_at 0 [] ps rest) alone
    ∙ lone_shows n before u rest
  where
    same_kept : (j k : Kept) → Some j ≡ Some k → j ≡ k
    same_kept j k i = cc

-- what is found of the first of several, and of the others
first_found : (P : KeptNode → Type 0) (at from : ℕ) (t : Tree) (us : Trees) → (label t).id ≢ 0 → Every P (found_in at from (more t us)) → P (found_at at from t)
first_found P at from (tree l ts) us d e =
    own_found P at from l ts d (every_left P (found_from at from (tree l ts)) (found_in (at + length (flat (tree l ts))) (from + length (visible (items (tree l ts)))) us) e)

others_found : (P : KeptNode → Type 0) (at from : ℕ) (t : Tree) (us : Trees) → Every P (found_in at from (more t us))
    → Every P (found_in (at + length (flat t)) (from + length (visible (items t))) us)
others_found P at from t us e = every_right P (found_from at from t) (found_in (at + length (flat t)) (from + length (visible (items t))) us) e

no_node : (k : Loose) (own : List Item) (n : ℕ) (before : List Item) → IsNodeForm (edit_shape (label (standing n before (loose_leaf k own))).kind).inline → ⊥
unfolding label_at
no_node Text own n before h = h
no_node Sep own n before h = h

runs_show : (rs : List (List Part)) (ps : List Part) (same : Tree → Tree → Bool) (block : Tree) (at from n : ℕ) (before : List Item) (ts : List Thing) → 0 < n
    → AreRuns one_leaf rs ps → HaveThings at ps ts → Every (Finds block) (found_in at from (nodes_of n before (forest (map child rs))))
    → ShowSources (page_of same block) (nodes_of n before (forest (map child rs)))
runs_show [] ps same block at from n before ts some a h f = tt
runs_show ([] ∷ rs) ps same block at from n before ts some a h f = absurd a.2
runs_show ((loose k o b ∷ r) ∷ rs) ps same block at from n before ts some a h f =
    let run : List Part = loose k o b ∷ r in
    let u : ItemTree = child run in
    let t : Tree = standing n before u in
    let m : ℕ = count (placed before u) in
    let us : Trees = nodes_of (n + m) (before ++ tree_items u) (forest (map child rs)) in
    let behind : HaveThings (at + parts_width run) a.0 ts = past_loose k o b at r a.0 ts a.2 (subst (λ (qs : List Part). HaveThings at qs ts) a.1 h) in
    let wide : parts_width run ≡ length (flat t) =
    loose_width k o b r a.0 a.2 ∙ ap length (sym (leaf_source k (held_parts run))) ∙ ap length (sym (standing_source n before u)) in (
      λ i. absurd (no_node k (held_parts run) n before i),
      runs_show rs a.0 same block (at + length (flat t)) (from + length (visible (items t))) (n + m) (before ++ tree_items u) ts (omega (arith, some)) a.3
          (subst (λ (w : ℕ). HaveThings (at + w) a.0 ts) wide behind) (others_found (Finds block) at from t us f),
    )
runs_show ((node u ∷ []) ∷ rs) ps same block at from n before ts some a h f =
    let t : Tree = standing n before u in
    let m : ℕ = count (placed before u) in
    let us : Trees = nodes_of (n + m) (before ++ tree_items u) (forest (map child rs)) in
    let own : HaveThings at (node u ∷ a.0) ts = subst (λ (qs : List Part). HaveThings at qs ts) a.1 h in
    let wide : length (tree_source u) ≡ length (flat t) = ap length (sym (standing_source n before u)) in
    let numbered : (label t).id ≢ 0 = node_number n before u own.0 some own.3 in (
      λ i. shows_source same block at from n before u own.4 (first_found (Finds block) at from t us numbered f),
      runs_show rs a.0 same block (at + length (flat t)) (from + length (visible (items t))) (n + m) (before ++ tree_items u) own.1 (omega (arith, some)) a.3
          (subst (λ (w : ℕ). HaveThings (at + w) a.0 own.1) wide own.5) (others_found (Finds block) at from t us f),
    )
runs_show ((node u ∷ p ∷ r) ∷ rs) ps same block at from n before ts some a h f = absurd (let no = a.2.0 in cc)

pub show_sources : (ps : List Part) (same : Tree → Tree → Bool) (block : Tree) (at from n : ℕ) (before : List Item) (ts : List Thing) → 0 < n → HaveThings at ps ts
    → Every (Finds block) (found_in at from (nodes_of n before (forest (children ps)))) → ShowSources (page_of same block) (nodes_of n before (forest (children ps)))
unfolding children
show_sources ps same block at from n before ts some h f = runs_show (runs one_leaf ps) ps same block at from n before ts some (runs_are one_leaf ps) h f

-- ---- none ends in an open tag

abbrev pub ShutThings : List Thing → Type 0
ShutThings [] = Unit {0}
ShutThings (t ∷ ts) = (ends_open t.source ≡ false) × ShutThings ts

pub shut_things : (signs : List ContentSign) → AreShut signs → ShutThings (things signs)
shut_things [] h = tt
shut_things (letter c ∷ signs) h = shut_things signs h
shut_things (thing t ∷ signs) h = (h.0, shut_things signs h.1)

pub none_of_both : (a b : Bool) → a ≡ false → b ≡ false → (a || b) ≡ false
none_of_both true b e f = cc
none_of_both false b e f = f

pub leaf_shut : (k : Loose) (own : List Item) (n : ℕ) (before : List Item) → IsText k → node_ends_open (standing n before (loose_leaf k own)) ≡ false
unfolding label_at
leaf_shut Text own n before h = refl
leaf_shut Sep own n before h = absurd h

open_is : (w : InlineForm) (source : List ℕ) (inside : Bool) → IsThingForm w → open_by w source inside ≡ ends_open source
open_is inline.Nothing source inside f = absurd f
open_is inline.Characters source inside f = absurd f
open_is inline.Bold source inside f = absurd f
open_is inline.Italic source inside f = absurd f
open_is inline.Shown source inside f = refl
open_is inline.PageLink source inside f = refl
open_is inline.ExternalLink source inside f = refl
open_is inline.Tag source inside f = refl
open_is inline.Break source inside f = refl
open_is inline.AsItStood source inside f = refl

pub node_open : (t : Tree) → IsThingForm (edit_shape (label t).kind).inline → node_ends_open t ≡ ends_open (flat t)
node_open (tree l ts) f = open_is (edit_shape l.kind).inline (flat (tree l ts)) (any_ends_open ts) f

runs_shut : (rs : List (List Part)) (ps : List Part) (at n : ℕ) (before : List Item) (ts : List Thing) → AreRuns one_leaf rs ps → HaveThings at ps ts → ShutThings ts
    → any_ends_open (nodes_of n before (forest (map child rs))) ≡ false
runs_shut [] ps at n before ts a h s = refl
runs_shut ([] ∷ rs) ps at n before ts a h s = absurd a.2
runs_shut ((loose k o b ∷ r) ∷ rs) ps at n before ts a h s =
    let run : List Part = loose k o b ∷ r in
    let u : ItemTree = child run in
    let m : ℕ = count (placed before u) in
    let own : HaveThings at (run ++ a.0) ts = subst (λ (qs : List Part). HaveThings at qs ts) a.1 h in
    none_of_both (node_ends_open (standing n before u)) (any_ends_open (nodes_of (n + m) (before ++ tree_items u) (forest (map child rs))))
    (leaf_shut k (held_parts run) n before own.0)
    (runs_shut rs a.0 (at + parts_width run) (n + m) (before ++ tree_items u) ts a.3 (past_loose k o b at r a.0 ts a.2 own) s)
runs_shut ((node u ∷ []) ∷ rs) ps at n before ts a h s =
    let m : ℕ = count (placed before u) in
    let own : HaveThings at (node u ∷ a.0) ts = subst (λ (qs : List Part). HaveThings at qs ts) a.1 h in
    let shut : ShutThings (thing_at own.0 (tree_source u) at ∷ own.1) = subst ShutThings own.2 s in
    none_of_both (node_ends_open (standing n before u)) (any_ends_open (nodes_of (n + m) (before ++ tree_items u) (forest (map child rs))))
    (node_open (standing n before u) (stands_form n before u own.0 own.3) ∙ ap ends_open (standing_source n before u) ∙ shut.0)
    (runs_shut rs a.0 (at + length (tree_source u)) (n + m) (before ++ tree_items u) own.1 a.3 own.5 shut.1)
runs_shut ((node u ∷ p ∷ r) ∷ rs) ps at n before ts a h s = absurd (let no = a.2.0 in cc)

pub none_open : (ps : List Part) (at n : ℕ) (before : List Item) (ts : List Thing) → HaveThings at ps ts → ShutThings ts
    → any_ends_open (nodes_of n before (forest (children ps))) ≡ false
unfolding children
none_open ps at n before ts h s = runs_shut (runs one_leaf ps) ps at n before ts (runs_are one_leaf ps) h s

pub are_shut : (signs : List ContentSign) → ShutThings (things signs) → AreShut signs
are_shut [] h = tt
are_shut (letter c ∷ signs) h = are_shut signs h
are_shut (thing t ∷ signs) h = (h.0, are_shut signs h.1)
