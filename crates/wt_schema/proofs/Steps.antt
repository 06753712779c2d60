-- Steps of reading: a text, an element by how it stands, and what follows a group.
use Rattle.std.proofs.Common.{◌≡◌, ℕ, suc, ◌+◌, Bool, true, false, Option, Some, None, List, [], ◌∷◌, refl, sym, ap, ap₂, ◌∙◌, codes}
use Rattle.std.specs.Prelude.{Result, Ok, not, ◌||◌, ◌&&◌, if◌then◌else◌}
use Rattle.std.specs.Option.{option_map, option_or}
use Rattle.wt_tree.specs.declared.kind.Kind.{Kind}
use Rattle.wt_tree.specs.declared.kind.Kind.TheVariants as kind
use Rattle.wt_tree.specs.declared.row.Writing.TheVariants.{AsText}
use Rattle.wt_tree.specs.Kinds.{writing, is_block}
use Rattle.wt_tree.specs.Leaves.{leaf_label, text_leaf, sep_leaf}
use Rattle.wt_recut.specs.Recut.{is_as_text, is_text}
use Rattle.wt_tree.specs.Tiling.{is_group}
use Rattle.wt_tree.specs.Tree.{Label, Tree, tree, Trees, none as no_trees, more as one_more}
use Rattle.wt_html_grammar.specs.Markup.{Pair, Markups, text, node, empty, more}
use Rattle.wt_html_grammar.proofs.Steps.{if_true, if_false}
use Rattle.wt_schema.specs.declared.standing.Standing.{Standing}
use Rattle.wt_schema.specs.declared.standing.Standing.TheVariants as stands
use Rattle.wt_schema.specs.Attributes.{value_of, has}
use Rattle.wt_schema.specs.Rows.{holds_text, shows_text}
use Rattle.wt_schema.specs.Data.{Data, data_for}
use Rattle.wt_schema.specs.Groups.{standing, standing_by, open_by, open_after, is_gap, is_further, goes_on, is_dropped, Piece, single, begun, further, furthers, gathered}
use Rattle.wt_schema.specs.Fit.{Misfit, Position, within, elements, leaf_in, texts_in, label_as, piece_as, onto_told, children_in, with_children, one_piece, text_fits, is_block_row, row_as, behind_it, fits_place, is_inside, fit_told, fit_row, fit_node, fit_nodes}
use Rattle.wt_schema.specs.Unsourced.{lacks_source, unsourced_as, unsourced_nodes}
use Rattle.wt_schema.specs.Written.{shown_of, leaf_kind}

-- ---- where something stands

abbrev pub spot : Kind → Bool → Bool → Option (List ℕ) → Position
spot parent inside behind group = record { parent = parent; inside = inside; behind = behind; group = group }

-- an element that stands so, is of this kind and has this data
pub element_step : (n : ℕ) (x : Position) (s : Standing) (k : Kind) (name : List ℕ) (ps : List Pair) (d : Data) (c rest : Markups) (xs : List Piece)
    → standing x.group ps ≡ s → row_as s name ps ≡ Some k → fits_place x.parent x.behind s k c ≡ true
    → data_for x.inside s k ps ≡ Some d → text_fits k c ≡ true → fit_nodes (suc n) (within k (is_inside x s)) c ≡ Ok xs
    → fit_node n x (node name ps c) rest ≡ Ok (Some (piece_as s ps d (tree (label_as s k ps d (texts_in c)) (children_in (is_inside x s) k xs))))
element_step n x s k name ps d c rest xs e r p q f i =
    ap (λ y. fit_row n x y (row_as y name ps) ps c (λ j. fit_nodes (suc n) (within j (is_inside x y)) c)) e
    ∙ ap (λ o. fit_row n x s o ps c (λ j. fit_nodes (suc n) (within j (is_inside x s)) c)) r
    ∙ if_true (fits_place x.parent x.behind s k c) _ _ p
    ∙ ap (λ o. fit_told n (is_inside x s) s k ps o c (fit_nodes (suc n) (within k (is_inside x s)) c)) q
    ∙ if_true (text_fits k c) _ _ f
    ∙ ap (λ h. one_piece s ps d (with_children (is_inside x s) k (label_as s k ps d (texts_in c)) h)) i

-- what stands behind it
behind_step : (x : Position) (s : Standing) (k : Kind) (name : List ℕ) (ps : List Pair) (c rest : Markups)
    → standing x.group ps ≡ s → row_as s name ps ≡ Some k
    → behind_it x (node name ps c) rest ≡ spot x.parent x.inside (x.behind || is_block k) (open_by s x.group (value_of (codes "about") ps))
behind_step x s k name ps c rest e r =
    ap (λ y. spot x.parent x.inside (x.behind || is_block_row (row_as y name ps)) (open_by y x.group (value_of (codes "about") ps))) e
    ∙ ap (λ o. spot x.parent x.inside (x.behind || is_block_row o) (open_by s x.group (value_of (codes "about") ps))) r

pub node_step : (n : ℕ) (x : Position) (s : Standing) (k : Kind) (name : List ℕ) (ps : List Pair) (d : Data) (c rest : Markups) (xs zs : List Piece)
    → standing x.group ps ≡ s → row_as s name ps ≡ Some k → fits_place x.parent x.behind s k c ≡ true
    → data_for x.inside s k ps ≡ Some d → text_fits k c ≡ true → fit_nodes (suc n) (within k (is_inside x s)) c ≡ Ok xs
    → ((m : ℕ) → fit_nodes m (spot x.parent x.inside (x.behind || is_block k) (open_by s x.group (value_of (codes "about") ps))) rest ≡ Ok zs)
    → fit_nodes n x (more (node name ps c) rest)
    ≡ Ok (piece_as s ps d (tree (label_as s k ps d (texts_in c)) (children_in (is_inside x s) k xs)) ∷ zs)
node_step n x s k name ps d c rest xs zs e r p q f i g =
    ap₂ onto_told (element_step n x s k name ps d c rest xs e r p q f i)
    (ap (λ y. fit_nodes (n + elements (node name ps c)) y rest) (behind_step x s k name ps c rest e r) ∙ g (n + elements (node name ps c)))

-- ---- texts

pub leaf_as_text : (parent : Kind) → writing (leaf_kind parent) ≡ AsText
leaf_as_text parent = by_test (holds_text parent)
  where
    by_test : (b : Bool) → writing (if b then kind.Text else kind.Sep) ≡ AsText
    by_test true = refl
    by_test false = refl

-- a text as it is read in a parent of this kind
abbrev pub leaf_of : Kind → List ℕ → Tree
leaf_of parent own = tree (leaf_label (leaf_kind parent) None own (shown_of (leaf_kind parent) own)) no_trees

pub leaf_text : (parent : Kind) (own : List ℕ) → is_text (leaf_of parent own) ≡ true
leaf_text parent own = ap is_as_text (leaf_as_text parent)

pub leaf_other : (parent : Kind) → is_group (leaf_kind parent) ≡ false
leaf_other parent = by_test (holds_text parent)
  where
    by_test : (b : Bool) → is_group (if b then kind.Text else kind.Sep) ≡ false
    by_test true = refl
    by_test false = refl

-- the text in an entity is no node; elsewhere a text is one
leaf_is : (parent : Kind) (own : List ℕ) → shows_text parent ≡ false → leaf_in parent own ≡ Some (leaf_of parent own)
leaf_is parent own e = if_false (shows_text parent) _ _ e ∙ by_test (holds_text parent)
  where
    by_test : (b : Bool)
        → (if b then Some (text_leaf None own) else Some (sep_leaf None own))
        ≡ Some (tree (leaf_label (if b then kind.Text else kind.Sep) None own
        (shown_of (if b then kind.Text else kind.Sep) own)) no_trees)
    by_test true = refl
    by_test false = refl

and_none : (a b : Bool) → b ≡ false → (a && b) ≡ false
and_none true b e = e
and_none false b e = refl

-- without an open group no element is a further one
never_further : (ps : List Pair) → is_further (standing None ps) ≡ false
never_further ps = by_parts (value_of (codes "about") ps) (has (codes "data-mw") ps)
  where
    by_parts : (o : Option (List ℕ)) (b : Bool) → is_further (standing_by None o b) ≡ false
    by_parts None b = refl
    by_parts (Some a) true = refl
    by_parts (Some a) false = refl

never_on : (ts : Markups) → goes_on None ts ≡ false
never_on empty = refl
never_on (more (text bs) ts) = and_none (is_gap bs) (goes_on None ts) (never_on ts)
never_on (more (node name ps c) ts) = never_further ps

pub not_dropped : (bs : List ℕ) (ts : Markups) → is_dropped None bs ts ≡ false
not_dropped bs ts = and_none (is_gap bs) (goes_on None ts) (never_on ts)

pub none_open : (bs : List ℕ) (ts : Markups) → open_after None (text bs) ts ≡ None
none_open bs ts = if_false (is_dropped None bs ts) _ _ (not_dropped bs ts)

pub text_step : (n : ℕ) (parent : Kind) (inside b : Bool) (own : List ℕ) (ms : Markups) (zs : List Piece) → shows_text parent ≡ false
    → ((m : ℕ) → fit_nodes m (spot parent inside b None) ms ≡ Ok zs)
    → fit_nodes n (spot parent inside b None) (more (text own) ms) ≡ Ok (single (leaf_of parent own) ∷ zs)
text_step n parent inside b own ms zs p g =
    ap₂ onto_told
    (ap Ok (if_false (is_dropped None own ms) _ _ (not_dropped own ms) ∙ ap (option_map single) (leaf_is parent own p)))
    (ap₂ (λ x y. fit_nodes (n + 0) (spot parent inside x y) ms) (or_false b) (none_open own ms) ∙ g (n + 0))
  where
    or_false : (b : Bool) → (b || false) ≡ b
    or_false true = refl
    or_false false = refl

-- ---- what follows a group doesn't belong to it

-- the first element stands as it does where no group is open
abbrev pub Fresh : Markups → Type 0
Fresh empty = Unit {0}
Fresh (more (text bs) ts) = Fresh ts
Fresh (more (node name ps c) ts) = (group : Option (List ℕ)) → standing group ps ≡ standing None ps

goes_fresh : (group : Option (List ℕ)) (ts : Markups) → Fresh ts → goes_on group ts ≡ false
goes_fresh group empty h = refl
goes_fresh group (more (text bs) ts) h = and_none (is_gap bs) (goes_on group ts) (goes_fresh group ts h)
goes_fresh group (more (node name ps c) ts) h = ap is_further (h group) ∙ never_further ps

fresh_kept : (group : Option (List ℕ)) (bs : List ℕ) (ts : Markups) → Fresh ts → is_dropped group bs ts ≡ false
fresh_kept group bs ts h = and_none (is_gap bs) (goes_on group ts) (goes_fresh group ts h)

open_same : (s : Standing) (group about : Option (List ℕ)) → is_further s ≡ false → open_by s group about ≡ open_by s None about
open_same stands.Alone group about e = refl
open_same stands.First group about e = refl
open_same stands.Further group about e = absurd (cc e)
open_same stands.Astray group about e = refl

row_same : (n : ℕ) (parent : Kind) (inside b : Bool) (group : Option (List ℕ)) (s : Standing) (o : Option Kind) (ps : List Pair) (c : Markups)
    (h : Kind → Result (List Piece) Misfit) → fit_row n (spot parent inside b group) s o ps c h ≡ fit_row n (spot parent inside b None) s o ps c h
row_same n parent inside b group s None ps c h = refl
row_same n parent inside b group s (Some k) ps c h = refl

pub fresh_fit : (ts : Markups) (n : ℕ) (parent : Kind) (inside b : Bool) (group : Option (List ℕ)) → Fresh ts
    → fit_nodes n (spot parent inside b group) ts ≡ fit_nodes n (spot parent inside b None) ts
fresh_fit empty n parent inside b group h = refl
fresh_fit (more (text bs) ts) n parent inside b group h =
    ap (λ x. onto_told (Ok (if x then None else option_map single (leaf_in parent bs)))
    (fit_nodes (n + 0) (spot parent inside (b || false) (if x then group else None)) ts)) (fresh_kept group bs ts h)
    ∙ sym (ap (λ x. onto_told (Ok (if x then None else option_map single (leaf_in parent bs)))
    (fit_nodes (n + 0) (spot parent inside (b || false) (if x then None else None)) ts)) (fresh_kept None bs ts h))
fresh_fit (more (node name ps c) ts) n parent inside b group h =
    ap (λ s. onto_told (fit_row n (spot parent inside b group) s (row_as s name ps) ps c
    (λ k. fit_nodes (suc n) (within k (is_inside (spot parent inside b None) s)) c))
    (fit_nodes (n + elements (node name ps c)) (spot parent inside (b || is_block_row (row_as s name ps))
    (open_by s group (value_of (codes "about") ps))) ts)) (h group)
    ∙ ap₂ (λ x y. onto_told x (fit_nodes (n + elements (node name ps c))
    (spot parent inside (b || is_block_row (row_as (standing None ps) name ps)) y) ts))
    (row_same n parent inside b group (standing None ps) (row_as (standing None ps) name ps) ps c
    (λ k. fit_nodes (suc n) (within k (is_inside (spot parent inside b None) (standing None ps))) c))
    (open_same (standing None ps) group (value_of (codes "about") ps) (never_further ps))

-- an element that has a source doesn't lack one, whatever its name is
pub none_lacks : (b c : Bool) → c ≡ false → (not b && c) ≡ false
none_lacks true c e = refl
none_lacks false c e = e

pub fresh_sourced : (ts : Markups) (n : ℕ) (group : Option (List ℕ)) → Fresh ts → unsourced_nodes n group ts ≡ unsourced_nodes n None ts
fresh_sourced empty n group h = refl
fresh_sourced (more (text bs) ts) n group h =
    ap (λ x. option_or None (unsourced_nodes (n + 0) (if x then group else None) ts)) (fresh_kept group bs ts h)
    ∙ sym (ap (λ x. option_or None (unsourced_nodes (n + 0) (if x then None else None) ts)) (fresh_kept None bs ts h))
fresh_sourced (more (node name ps c) ts) n group h =
    ap (λ s. option_or (unsourced_as s n (lacks_source name ps) (unsourced_nodes (suc n) None c))
    (unsourced_nodes (n + elements (node name ps c)) (open_by s group (value_of (codes "about") ps)) ts)) (h group)
    ∙ ap (λ y. option_or (unsourced_as (standing None ps) n (lacks_source name ps) (unsourced_nodes (suc n) None c))
    (unsourced_nodes (n + elements (node name ps c)) y ts))
    (open_same (standing None ps) group (value_of (codes "about") ps) (never_further ps))

-- ---- nodes as pieces

abbrev pub further_pieces : Trees → List Piece → List Piece
further_pieces no_trees zs = zs
further_pieces (one_more t ts) zs = further t ∷ further_pieces ts zs

abbrev pub group_pieces : Label → Trees → List Piece → List Piece
group_pieces l no_trees zs = single (tree l no_trees) ∷ zs
group_pieces l (one_more t ts) zs = begun l t ∷ further_pieces ts zs

abbrev pub tree_pieces : Tree → List Piece → List Piece
tree_pieces (tree l ts) zs = if is_group l.kind then group_pieces l ts zs else single (tree l ts) ∷ zs

abbrev pub ungathered : Trees → List Piece
ungathered no_trees = []
ungathered (one_more t ts) = tree_pieces t (ungathered ts)

abbrev IsGathered : List Piece → Trees → Type 0
IsGathered zs ts = (gathered zs ≡ ts) × (furthers zs ≡ no_trees)

further_gathered : (us : Trees) (zs : List Piece) (ts : Trees) → IsGathered zs ts
    → (gathered (further_pieces us zs) ≡ ts) × (furthers (further_pieces us zs) ≡ us)
further_gathered no_trees zs ts h = h
further_gathered (one_more u us) zs ts h = let r = further_gathered us zs ts h in (r.0, ap (one_more u) r.1)

group_gathered : (l : Label) (us : Trees) (zs : List Piece) (ts : Trees) → IsGathered zs ts → IsGathered (group_pieces l us zs) (one_more (tree l us) ts)
group_gathered l no_trees zs ts h = (ap (one_more (tree l no_trees)) h.0, refl)
group_gathered l (one_more u us) zs ts h =
    let r = further_gathered us zs ts h in (ap₂ (λ x y. one_more (tree l (one_more u x)) y) r.1 r.0, refl)

pieces_gathered : (t : Tree) (zs : List Piece) (ts : Trees) → IsGathered zs ts → IsGathered (tree_pieces t zs) (one_more t ts)
pieces_gathered (tree l us) zs ts h = by_test (is_group l.kind)
  where
    by_test : (x : Bool) → IsGathered (if x then group_pieces l us zs else single (tree l us) ∷ zs) (one_more (tree l us) ts)
    by_test true = group_gathered l us zs ts h
    by_test false = (ap (one_more (tree l us)) h.0, refl)

all_gathered : (ts : Trees) → IsGathered (ungathered ts) ts
all_gathered no_trees = (refl, refl)
all_gathered (one_more t ts) = pieces_gathered t (ungathered ts) ts (all_gathered ts)

pub gathered_again : (ts : Trees) → gathered (ungathered ts) ≡ ts
gathered_again ts = (all_gathered ts).0

-- nodes by themselves
abbrev pub singles : Trees → List Piece
singles no_trees = []
singles (one_more t ts) = single t ∷ singles ts

pub gathered_singles : (ts : Trees) → gathered (singles ts) ≡ ts
gathered_singles no_trees = refl
gathered_singles (one_more t ts) = ap (one_more t) (gathered_singles ts)
