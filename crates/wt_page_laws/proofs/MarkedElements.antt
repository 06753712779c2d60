-- A document in which elements have the mark of an edit fits as the same page, with this mark on their nodes.
use Rattle.std.proofs.Common.{◌≡◌, ℕ, suc, ◌+◌, Bool, true, false, Option, Some, None, Result, Ok, Err, List, [], ◌∷◌, ◌++◌, map, refl, sym, ap, ap₂, ◌∙◌, subst, codes, option_map}
use Rattle.std.specs.Prelude.{◌||◌, ◌&&◌, not, is_some, find, if◌then◌else◌}
use Rattle.std.specs.Str.{bytes_eq}
use Rattle.std.proofs.lemmas.Bool.{and_parts}
use Rattle.wt_tree.specs.declared.kind.AttrName.{AttrName}
use Rattle.wt_tree.specs.declared.kind.AttrName.TheVariants as attr
use Rattle.wt_tree.specs.declared.kind.Kind.{Kind}
use Rattle.wt_tree.specs.declared.kind.Kind.TheVariants as kind
use Rattle.wt_tree.specs.declared.kind.Mark.{Mark}
use Rattle.wt_tree.specs.declared.kind.Mark.TheVariants as mark
use Rattle.wt_tree.specs.declared.node.DataMw.{DataMw}
use Rattle.wt_tree.specs.declared.row.Own.{Own}
use Rattle.wt_tree.specs.Kinds.{attribute_name, is_section, spelling, texts_of_kind}
use Rattle.wt_tree.specs.Leaves.{text_leaf, sep_leaf}
use Rattle.wt_recut.specs.Recut.{is_blank}
use Rattle.wt_tree.specs.Tiling.{is_group}
use Rattle.wt_tree.specs.Tree.{Label, Tree, tree, Trees, more as one_more}
use Rattle.wt_datamw.specs.declared.sync.Sync.{Sync}
use Rattle.wt_html_grammar.specs.Markup.{Pair, Markup, Markups, text, node, empty, more}
use Rattle.wt_html_grammar.proofs.Steps.{if_false}
use Rattle.wt_schema.specs.declared.why.FitWhy.TheVariants as why
use Rattle.wt_schema.specs.declared.standing.Standing.{Standing}
use Rattle.wt_schema.specs.declared.standing.Standing.TheVariants as stands
use Rattle.wt_schema.specs.Attributes.{value_of, has, mark_of}
use Rattle.wt_schema.specs.Data.{Data, both, data_of, data_for, id_for, sync_fits, mw_fits, is_extension_of}
use Rattle.wt_schema.specs.Fit.{Misfit, Position, within, elements, elements_of_all, leaf_in, with_sync, held_as, texts_in, are_blank, label_for, label_as, piece_as, onto_told, children_in, with_children, one_piece, text_fits, is_block_row, row_as, behind_it, has_place, fits_place, is_inside, fit_told, fit_row, fit_text, fit_node, fit_nodes}
use Rattle.wt_schema.specs.Groups.{standing, standing_by, is_open, open_by, is_gap, is_further, goes_on, is_dropped, is_none, Piece, single, begun, further, furthers, gathered}
use Rattle.wt_schema.specs.Rows.{read_kinds, is_row, row_by, row, own_told, own_of, attrs_for, holds_text, shows_text}
use Rattle.wt_schema.specs.Sections.{is_section_name}
use Rattle.wt_page_laws.specs.EditMarks.{content_mark, is_chosen_row, is_chosen, pairs_marked, marked, all_marked, mark_by, tree_marked, trees_marked}
use Rattle.wt_page_laws.proofs.MarkedTrees.{text_marked, sep_marked, held_marked}

-- ---- what the other attributes say stays

other_name : (n : AttrName) → bytes_eq (codes "data-wt-edit") (attribute_name n) ≡ false
unfolding attribute_name
other_name attr.About = refl
other_name attr.Typeof = refl
other_name attr.Property = refl
other_name attr.Rel = refl
other_name attr.Href = refl
other_name attr.Class = refl
other_name attr.Colspan = refl
other_name attr.Rowspan = refl
other_name attr.Scope = refl
other_name attr.Lang = refl
other_name attr.Dir = refl
other_name attr.Id = refl
other_name attr.DataMw = refl
other_name attr.DataParsoid = refl

value_same : (n : AttrName) (ps : List Pair) → value_of (attribute_name n) (content_mark ∷ ps) ≡ value_of (attribute_name n) ps
value_same n ps = if_false (bytes_eq (codes "data-wt-edit") (attribute_name n)) _ _ (other_name n)

own_same : (os : List Own) (ps : List Pair) → own_of os (content_mark ∷ ps) ≡ own_of os ps
own_same [] ps = refl
own_same (o ∷ os) ps = ap₂ (λ (xs ys : List (AttrName × List ℕ)). xs ++ ys) (ap (own_told o) (value_same o.name ps)) (own_same os ps)

row_same : (b : Bool) (name : List ℕ) (ps : List Pair) → row name (pairs_marked b ps) ≡ row name ps
unfolding attribute_name
row_same true name ps = refl
row_same false name ps = refl

about_same : (b : Bool) (ps : List Pair) → value_of (codes "about") (pairs_marked b ps) ≡ value_of (codes "about") ps
about_same true ps = refl
about_same false ps = refl

data_same : (b : Bool) (ps : List Pair) → has (codes "data-mw") (pairs_marked b ps) ≡ has (codes "data-mw") ps
data_same true ps = refl
data_same false ps = refl

standing_same : (b : Bool) (g : Option (List ℕ)) (ps : List Pair) → standing g (pairs_marked b ps) ≡ standing g ps
standing_same true g ps = refl
standing_same false g ps = refl

row_as_same : (s : Standing) (b : Bool) (name : List ℕ) (ps : List Pair) → row_as s name (pairs_marked b ps) ≡ row_as s name ps
row_as_same stands.Alone b name ps = row_same b name ps
row_as_same stands.First true name ps = refl
row_as_same stands.First false name ps = refl
row_as_same stands.Further b name ps = row_same b name ps
row_as_same stands.Astray b name ps = row_same b name ps

-- ---- what is in them

mutual
  elements_same : (f : ℕ → Bool) (t : Markup) → elements (marked f t) ≡ elements t
  elements_same f (text bs) = refl
  elements_same f (node name ps c) = ap suc (by_test (has (codes "about") ps) (all_elements_same f c))
    where
      by_test : (a : Bool) → elements_of_all (all_marked f c) ≡ elements_of_all c → elements_of_all (if a then c else all_marked f c) ≡ elements_of_all c
      by_test true e = refl
      by_test false e = e

  all_elements_same : (f : ℕ → Bool) (ts : Markups) → elements_of_all (all_marked f ts) ≡ elements_of_all ts
  all_elements_same f empty = refl
  all_elements_same f (more t ts) = ap₂ (λ m n. m + n) (elements_same f t) (all_elements_same f ts)

pub texts_same : (f : ℕ → Bool) (ts : Markups) → texts_in (all_marked f ts) ≡ texts_in ts
texts_same f empty = refl
texts_same f (more (text bs) ts) = ap (λ x. bs ++ x) (texts_same f ts)
texts_same f (more (node name ps c) ts) = texts_same f ts

pub blank_same : (f : ℕ → Bool) (ts : Markups) → are_blank (all_marked f ts) ≡ are_blank ts
blank_same f empty = refl
blank_same f (more (text bs) ts) = ap (λ x. is_blank bs && x) (blank_same f ts)
blank_same f (more (node name ps c) ts) = blank_same f ts

none_same : (f : ℕ → Bool) (ts : Markups) → is_none (all_marked f ts) ≡ is_none ts
none_same f empty = refl
none_same f (more t ts) = refl

goes_same : (f : ℕ → Bool) (g : Option (List ℕ)) (ts : Markups) → goes_on g (all_marked f ts) ≡ goes_on g ts
goes_same f g empty = refl
goes_same f g (more (text bs) ts) = ap (λ x. is_gap bs && x) (goes_same f g ts)
goes_same f g (more (node name ps c) ts) = ap is_further (standing_same (is_chosen f name ps) g ps)

-- what is behind a text or an element
behind_same : (f : ℕ → Bool) (x : Position) (t : Markup) (ts : Markups) → behind_it x (marked f t) (all_marked f ts) ≡ behind_it x t ts
behind_same f x (text bs) ts = ap (λ b. record x { behind = x.behind || false; group = if is_gap bs && b then x.group else None }) (goes_same f x.group ts)
behind_same f x (node name ps c) ts = by_choice (is_chosen f name ps)
  where
    by_choice : (b : Bool)
        → record x { behind = x.behind || is_block_row (row_as (standing x.group (pairs_marked b ps)) name (pairs_marked b ps)); group = open_by (standing x.group (pairs_marked b ps)) x.group (value_of (codes "about") (pairs_marked b ps)) }
        ≡ record x { behind = x.behind || is_block_row (row_as (standing x.group ps) name ps); group = open_by (standing x.group ps) x.group (value_of (codes "about") ps) }
    by_choice b =
        ap (λ s. record x { behind = x.behind || is_block_row (row_as s name (pairs_marked b ps)); group = open_by s x.group (value_of (codes "about") (pairs_marked b ps)) })
        (standing_same b x.group ps)
        ∙ ap₂ (λ r a. record x { behind = x.behind || is_block_row r; group = open_by (standing x.group ps) x.group a })
        (row_as_same (standing x.group ps) b name ps) (about_same b ps)

-- ---- pieces

abbrev pub piece_marked : (ℕ → Bool) → Piece → Piece
piece_marked f (single t) = single (tree_marked f t)
piece_marked f (begun l t) = begun l t
piece_marked f (further t) = further t

abbrev pub all_pieces : (ℕ → Bool) → List Piece → List Piece
all_pieces f xs = map (piece_marked f) xs

-- what begins a group has the label of one
abbrev pub BeginsGroup : Piece → Type 0
BeginsGroup (single t) = Unit {0}
BeginsGroup (begun l t) = is_group l.kind ≡ true
BeginsGroup (further t) = Unit {0}

abbrev pub BeginGroups : List Piece → Type 0
BeginGroups [] = Unit {0}
BeginGroups (x ∷ xs) = BeginsGroup x × BeginGroups xs

abbrev pub BeginsIfAny : Option Piece → Type 0
BeginsIfAny None = Unit {0}
BeginsIfAny (Some x) = BeginsGroup x

group_stays : (f : ℕ → Bool) (l : Label) (ts : Trees) → is_group l.kind ≡ true → tree_marked f (tree l ts) ≡ tree l ts
group_stays f l ts e = ap (λ g. tree (record l { mark = mark_by (not g && f l.id) l.mark }) (if g then ts else trees_marked f ts)) e

pub other_marked : (f : ℕ → Bool) (l : Label) (ts : Trees) → is_group l.kind ≡ false
    → tree_marked f (tree l ts) ≡ tree (record l { mark = mark_by (f l.id) l.mark }) (trees_marked f ts)
other_marked f l ts e = ap (λ g. tree (record l { mark = mark_by (not g && f l.id) l.mark }) (if g then ts else trees_marked f ts)) e

furthers_same : (f : ℕ → Bool) (xs : List Piece) → furthers (all_pieces f xs) ≡ furthers xs
furthers_same f [] = refl
furthers_same f (single t ∷ xs) = refl
furthers_same f (begun l t ∷ xs) = refl
furthers_same f (further t ∷ xs) = ap (one_more t) (furthers_same f xs)

pub gathered_marked : (f : ℕ → Bool) (xs : List Piece) → BeginGroups xs → gathered (all_pieces f xs) ≡ trees_marked f (gathered xs)
gathered_marked f [] h = refl
gathered_marked f (single t ∷ xs) h = ap (one_more (tree_marked f t)) (gathered_marked f xs h.1)
gathered_marked f (begun l t ∷ xs) h =
    ap₂ (λ us vs. one_more (tree l (one_more t us)) vs) (furthers_same f xs) (gathered_marked f xs h.1)
    ∙ ap (λ u. one_more u (trees_marked f (gathered xs))) (sym (group_stays f l (one_more t (furthers xs)) h.0))
gathered_marked f (further t ∷ xs) h = gathered_marked f xs h.1

-- ---- a text

leaf_marked : (f : ℕ → Bool) (parent : Kind) (bs : List ℕ) → f 0 ≡ false
    → option_map single (leaf_in parent bs) ≡ option_map (piece_marked f) (option_map single (leaf_in parent bs))
leaf_marked f parent bs e = by_tests (shows_text parent) (holds_text parent)
  where
    by_tests : (x y : Bool)
        → option_map single (if x then None else if y then Some (text_leaf None bs) else Some (sep_leaf None bs))
        ≡ option_map (piece_marked f) (option_map single (if x then None else if y then Some (text_leaf None bs) else Some (sep_leaf None bs)))
    by_tests true y = refl
    by_tests false true = ap (λ t. Some (single t)) (sym (text_marked f None bs e))
    by_tests false false = ap (λ t. Some (single t)) (sym (sep_marked f None bs e))

leaf_begins : (parent : Kind) (bs : List ℕ) → BeginsIfAny (option_map single (leaf_in parent bs))
leaf_begins parent bs = by_tests (shows_text parent) (holds_text parent)
  where
    by_tests : (x y : Bool) → BeginsIfAny (option_map single (if x then None else if y then Some (text_leaf None bs) else Some (sep_leaf None bs)))
    by_tests true y = tt
    by_tests false true = tt
    by_tests false false = tt

text_fits_so : (f : ℕ → Bool) (x : Position) (bs : List ℕ) (ts : Markups) → f 0 ≡ false
    → fit_text x bs (all_marked f ts) ≡ option_map (piece_marked f) (fit_text x bs ts)
text_fits_so f x bs ts e =
    ap (λ g. if is_gap bs && g then None else option_map single (leaf_in x.parent bs)) (goes_same f x.group ts) ∙ by_test (is_dropped x.group bs ts)
  where
    by_test : (d : Bool) → (if d then None else option_map single (leaf_in x.parent bs))
        ≡ option_map (piece_marked f) (if d then None else option_map single (leaf_in x.parent bs))
    by_test true = refl
    by_test false = leaf_marked f x.parent bs e

text_begins : (x : Position) (bs : List ℕ) (ts : Markups) → BeginsIfAny (fit_text x bs ts)
text_begins x bs ts = by_test (is_dropped x.group bs ts)
  where
    by_test : (d : Bool) → BeginsIfAny (if d then None else option_map single (leaf_in x.parent bs))
    by_test true = tt
    by_test false = leaf_begins x.parent bs

-- ---- what a group's elements are stays

abbrev is_alone : Standing → Bool
is_alone stands.Alone = true
is_alone stands.First = false
is_alone stands.Further = false
is_alone stands.Astray = false

abbrev Stays : (ℕ → Bool) → Option Piece → Type 0
Stays f p = (option_map (piece_marked f) p ≡ p) × BeginsIfAny p

pub sync_kind : (l : Label) (o : Option Sync) → (with_sync l o).kind ≡ l.kind
sync_kind l None = refl
sync_kind l (Some s) = refl

begun_stays : (f : ℕ → Bool) (s : Standing) (ps : List Pair) (d : Data) (t : Tree) → is_alone s ≡ false → (s ≡ stands.Astray → ⊥)
    → Stays f (Some (piece_as s ps d t))
begun_stays f stands.Alone ps d t e n = absurd (cc e)
begun_stays f stands.First ps d t e n = (refl, ap is_group (sync_kind _ d.sync))
begun_stays f stands.Further ps d t e n = (refl, tt)
begun_stays f stands.Astray ps d t e n = absurd (n refl)

pub from_ok : {A E : Type 0} (x y : A) → Path (Result A E) (Ok x) (Ok y) → x ≡ y
from_ok x y e = cc e

told_stays : (f : ℕ → Bool) (n : ℕ) (inside : Bool) (s : Standing) (k : Kind) (ps : List Pair) (o : Option Data) (c : Markups)
    (held : Result (List Piece) Misfit) (p : Option Piece) → is_alone s ≡ false → (s ≡ stands.Astray → ⊥)
    → fit_told n inside s k ps o c held ≡ Ok p → Stays f p
told_stays f n inside s k ps None c held p a z h = absurd (cc h)
told_stays f n inside s k ps (Some d) c held p a z h = by_text (text_fits k c) h
  where
    by_held : (r : Result (List Piece) Misfit) → one_piece s ps d (with_children inside k (label_as s k ps d (texts_in c)) r) ≡ Ok p → Stays f p
    by_held (Ok xs) e =
        subst (Stays f) (from_ok (Some (piece_as s ps d (tree (label_as s k ps d (texts_in c)) (children_in inside k xs)))) p e)
        (begun_stays f s ps d (tree (label_as s k ps d (texts_in c)) (children_in inside k xs)) a z)
    by_held (Err w) e = absurd (cc e)

    by_text : (b : Bool) → (if b then one_piece s ps d (with_children inside k (label_as s k ps d (texts_in c)) held) else Err (n, why.Text)) ≡ Ok p → Stays f p
    by_text true e = by_held held e
    by_text false e = absurd (cc e)

row_stays : (f : ℕ → Bool) (n : ℕ) (x : Position) (s : Standing) (o : Option Kind) (ps : List Pair) (c : Markups)
    (held : Kind → Result (List Piece) Misfit) (p : Option Piece) → is_alone s ≡ false → fit_row n x s o ps c held ≡ Ok p → Stays f p
row_stays f n x s None ps c held p a h = absurd (cc h)
row_stays f n x s (Some k) ps c held p a h = by_place (fits_place x.parent x.behind s k c) h
  where
    by_standing : (s : Standing) → is_alone s ≡ false
        → fit_told n (is_inside x s) s k ps (data_for x.inside s k ps) c (held k) ≡ Ok p → Stays f p
    by_standing stands.Alone b e = absurd (cc b)
    by_standing stands.First b e =
        told_stays f n (is_inside x stands.First) stands.First k ps (data_for x.inside stands.First k ps) c (held k) p refl (λ q. cc q) e
    by_standing stands.Further b e =
        told_stays f n (is_inside x stands.Further) stands.Further k ps (data_for x.inside stands.Further k ps) c (held k) p refl (λ q. cc q) e
    by_standing stands.Astray b e = absurd (cc e)

    by_place : (b : Bool) → (if b then fit_told n (is_inside x s) s k ps (data_for x.inside s k ps) c (held k) else Err (n, why.Place)) ≡ Ok p → Stays f p
    by_place true e = by_standing s a e
    by_place false e = absurd (cc e)

not_alone : (g o : Option (List ℕ)) (m : Bool) → is_some o ≡ true → is_alone (standing_by g o m) ≡ false
not_alone g None m e = absurd (cc e)
not_alone g (Some a) m e = by_tests m (is_open g a)
  where
    by_tests : (x y : Bool) → is_alone (if x then stands.First else if y then stands.Further else stands.Astray) ≡ false
    by_tests true y = refl
    by_tests false true = refl
    by_tests false false = refl

alone_by : (g o : Option (List ℕ)) (m : Bool) → is_some o ≡ false → standing_by g o m ≡ stands.Alone
alone_by g None m e = refl
alone_by g (Some a) m e = absurd (cc e)

-- ---- the label of an element by itself

abbrev label_with : Kind → ℕ → List ℕ → List (AttrName × List ℕ) → Mark → Option DataMw → Label
label_with k id shown attrs m d = record {
  kind = k;
  id = id;
  ranges = None;
  opening = [];
  closing = [];
  own = [];
  shown = shown;
  attrs = attrs;
  origin = None;
  mark = m;
  mw = d;
}

abbrev shown_in : Kind → List ℕ → List ℕ
shown_in k shown = if shows_text k then shown else []

sync_marked : (f : ℕ → Bool) (k : Kind) (id : ℕ) (shown : List ℕ) (attrs : List (AttrName × List ℕ)) (m : Mark) (d : Option DataMw) (o : Option Sync)
    → with_sync (label_with k id shown attrs (mark_by (f id) m) d) o
    ≡ record (with_sync (label_with k id shown attrs m d) o) {
      mark = mark_by (f (with_sync (label_with k id shown attrs m d) o).id) (with_sync (label_with k id shown attrs m d) o).mark;
    }
sync_marked f k id shown attrs m d None = refl
sync_marked f k id shown attrs m d (Some s) = refl

pub alone_label : (f : ℕ → Bool) (b : Bool) (k : Kind) (ps : List Pair) (d : Data) (shown : List ℕ) → f (id_for k ps) ≡ b
    → label_for k (pairs_marked b ps) d shown
    ≡ record (label_for k ps d shown) { mark = mark_by (f (label_for k ps d shown).id) (label_for k ps d shown).mark }
alone_label f true k ps d shown e =
    ap (λ (xs : List (AttrName × List ℕ)). with_sync (label_with k (id_for k ps) (shown_in k shown) xs mark.Content d.mw) d.sync) (own_same (spelling k).own ps)
    ∙ ap (λ (b : Bool). with_sync (label_with k (id_for k ps) (shown_in k shown) (attrs_for k ps) (mark_by b (mark_of ps)) d.mw) d.sync) (sym e)
    ∙ sync_marked f k (id_for k ps) (shown_in k shown) (attrs_for k ps) (mark_of ps) d.mw d.sync
alone_label f false k ps d shown e =
    ap (λ (b : Bool). with_sync (label_with k (id_for k ps) (shown_in k shown) (attrs_for k ps) (mark_by b (mark_of ps)) d.mw) d.sync) (sym e)
    ∙ sync_marked f k (id_for k ps) (shown_in k shown) (attrs_for k ps) (mark_of ps) d.mw d.sync

-- ---- its data: a section has no number, so it has no mark

section_zero : (k : Kind) (ps : List Pair) → is_section k ≡ true → id_for k ps ≡ 0
section_zero (kind.Section n) ps e = refl
section_zero k ps e = absurd cc

no_section : (f : ℕ → Bool) (k : Kind) (ps : List Pair) → f 0 ≡ false → f (id_for k ps) ≡ true → is_section k ≡ false
no_section f k ps z e = by_test (is_section k) refl
  where
    by_test : (b : Bool) → is_section k ≡ b → b ≡ false
    by_test true h = absurd (let x : f (id_for k ps) ≡ false = ap f (section_zero k ps h) ∙ z in cc)
    by_test false h = refl

data_marked : (f : ℕ → Bool) (b : Bool) (k : Kind) (ps : List Pair) → f 0 ≡ false → f (id_for k ps) ≡ b → data_of k (pairs_marked b ps) ≡ data_of k ps
unfolding attribute_name
data_marked f true k ps z e =
    let n : is_section k ≡ false = no_section f k ps z e in
    let told : Option Data = both (sync_fits k (value_of (codes "data-parsoid") ps))
    (mw_fits (is_extension_of k (value_of (attribute_name attr.Typeof) ps)) (value_of (codes "data-mw") ps)) in
    ap (λ (s : Bool). if s && has (codes "data-wt-edit") (content_mark ∷ ps) then None else told) n
    ∙ sym (ap (λ (s : Bool). if s && has (codes "data-wt-edit") ps then None else told) n)
data_marked f false k ps z e = refl

-- ---- an element by itself

abbrev pub spot : Kind → Bool → Option (List ℕ) → Position
spot q v g = record { parent = q; inside = false; behind = v; group = g }

-- what is in it fits so
abbrev FitsSo : (ℕ → Bool) → ℕ → Position → Markups → Type 0
FitsSo f n x c = (xs : List Piece) → fit_nodes n x c ≡ Ok xs → (fit_nodes n x (all_marked f c) ≡ Ok (all_pieces f xs)) × BeginGroups xs

alone_tree : (f : ℕ → Bool) (b : Bool) (k : Kind) (ps : List Pair) (d : Data) (c : Markups) (xs : List Piece) → f 0 ≡ false → f (id_for k ps) ≡ b
    → is_group k ≡ false → BeginGroups xs
    → tree (label_for k (pairs_marked b ps) d (texts_in (all_marked f c))) (children_in false k (all_pieces f xs))
    ≡ tree_marked f (tree (label_for k ps d (texts_in c)) (children_in false k xs))
alone_tree f b k ps d c xs z e g h =
    let l : Label = label_for k ps d (texts_in c) in
    ap₂ (λ w us. tree (label_for k (pairs_marked b ps) d w) us) (texts_same f c)
    (ap (λ us. held_as (texts_of_kind k) us) (gathered_marked f xs h) ∙ held_marked f (texts_of_kind k) (gathered xs) z)
    ∙ ap (λ m. tree m (trees_marked f (children_in false k xs))) (alone_label f b k ps d (texts_in c) e)
    ∙ sym (other_marked f l (children_in false k xs) (ap is_group (sync_kind _ d.sync) ∙ g))

told_fits : (f : ℕ → Bool) (n : ℕ) (b : Bool) (k : Kind) (ps : List Pair) (o : Option Data) (c : Markups) (p : Option Piece) → f 0 ≡ false
    → f (id_for k ps) ≡ b → is_group k ≡ false → FitsSo f (suc n) (within k false) c
    → fit_told n false stands.Alone k ps o c (fit_nodes (suc n) (within k false) c) ≡ Ok p
    → (fit_told n false stands.Alone k (pairs_marked b ps) o (all_marked f c) (fit_nodes (suc n) (within k false) (all_marked f c))
    ≡ Ok (option_map (piece_marked f) p)) × BeginsIfAny p
told_fits f n b k ps None c p z e g ih h = absurd (cc h)
told_fits f n b k ps (Some d) c p z e g ih h = by_text (text_fits k c) refl h
  where
    held : Result (List Piece) Misfit
    held = fit_nodes (suc n) (within k false) c

    again : Result (List Piece) Misfit
    again = fit_nodes (suc n) (within k false) (all_marked f c)

    so : Type 0
    so = (fit_told n false stands.Alone k (pairs_marked b ps) (Some d) (all_marked f c) again ≡ Ok (option_map (piece_marked f) p)) × BeginsIfAny p

    by_held : (r : Result (List Piece) Misfit) → held ≡ r → text_fits k c ≡ true
        → one_piece stands.Alone ps d (with_children false k (label_for k ps d (texts_in c)) r) ≡ Ok p → so
    by_held (Ok xs) i t q =
        let was : Tree = tree (label_for k ps d (texts_in c)) (children_in false k xs) in
        let here = ih xs i in
        let is : Some (single was) ≡ p = from_ok (Some (single was)) p q in
        subst (λ (y : Option Piece). (fit_told n false stands.Alone k (pairs_marked b ps) (Some d) (all_marked f c) again
        ≡ Ok (option_map (piece_marked f) y)) × BeginsIfAny y) is (
          ap (λ (x : Bool). if x then one_piece stands.Alone (pairs_marked b ps) d (with_children false k (label_for k (pairs_marked b ps) d (texts_in (all_marked f c))) again)
              else Err (n, why.Text)) (ap (λ (x : Bool). holds_text k || x) (blank_same f c) ∙ t)
              ∙ ap (λ r. one_piece stands.Alone (pairs_marked b ps) d (with_children false k (label_for k (pairs_marked b ps) d (texts_in (all_marked f c))) r)) here.0
              ∙ ap (λ u. Ok (Some (single u))) (alone_tree f b k ps d c xs z e g here.1),
          tt,
        )
    by_held (Err w) i t q = absurd (cc q)

    by_text : (x : Bool) → text_fits k c ≡ x
        → (if x then one_piece stands.Alone ps d (with_children false k (label_for k ps d (texts_in c)) held) else Err (n, why.Text)) ≡ Ok p → so
    by_text true t q = by_held held refl t q
    by_text false t q = absurd (cc q)

row_fits : (f : ℕ → Bool) (n : ℕ) (q : Kind) (v : Bool) (g : Option (List ℕ)) (o : Option Kind) (ps : List Pair) (c : Markups) (p : Option Piece) → f 0 ≡ false
    → ((k : Kind) → o ≡ Some k → is_group k ≡ false) → ((k : Kind) → FitsSo f (suc n) (within k false) c)
    → fit_row n (spot q v g) stands.Alone o ps c (λ k. fit_nodes (suc n) (within k false) c) ≡ Ok p
    → (fit_row n (spot q v g) stands.Alone o (pairs_marked (is_chosen_row f o ps) ps) (all_marked f c)
    (λ k. fit_nodes (suc n) (within k false) (all_marked f c)) ≡ Ok (option_map (piece_marked f) p)) × BeginsIfAny p
row_fits f n q v g None ps c p z other ih h = absurd (cc h)
row_fits f n q v g (Some k) ps c p z other ih h = by_place (has_place q v k || false) h
  where
    b : Bool
    b = f (id_for k ps)

    by_place : (x : Bool) → (if x then fit_told n false stands.Alone k ps (data_of k ps) c (fit_nodes (suc n) (within k false) c) else Err (n, why.Place)) ≡ Ok p
        → ((if x then fit_told n false stands.Alone k (pairs_marked b ps) (data_of k (pairs_marked b ps)) (all_marked f c) (fit_nodes (suc n) (within k false) (all_marked f c))
        else Err (n, why.Place)) ≡ Ok (option_map (piece_marked f) p)) × BeginsIfAny p
    by_place true e =
        let r = told_fits f n b k ps (data_of k ps) c p z refl (other k refl) (ih k) e in (
          ap (λ o. fit_told n false stands.Alone k (pairs_marked b ps) o (all_marked f c) (fit_nodes (suc n) (within k false) (all_marked f c)))
              (data_marked f b k ps z refl) ∙ r.0,
          r.1,
        )
    by_place false e = absurd (cc e)

-- no element is read as a group
abbrev none_groups : List Kind → Bool
none_groups [] = true
none_groups (k ∷ ks) = not (is_group k) && none_groups ks

found_kind : (p : Kind → Bool) (ks : List Kind) (k : Kind) → none_groups ks ≡ true → find p ks ≡ Some k → is_group k ≡ false
found_kind p [] k h e = absurd (cc e)
found_kind p (j ∷ js) k h e = by_test (p j) (λ i. found_kind p js k parts.1 i) e
  where
    from_not : (b : Bool) → not b ≡ true → b ≡ false
    from_not true i = absurd (cc i)
    from_not false i = refl

    parts : (not (is_group j) ≡ true) × (none_groups js ≡ true)
    parts = and_parts (not (is_group j)) (none_groups js) h

    by_test : (b : Bool) → (find p js ≡ Some k → is_group k ≡ false) → (if b then Some j else find p js) ≡ Some k → is_group k ≡ false
    by_test true f i = let same : j ≡ k = cc i in ap is_group (sym same) ∙ from_not (is_group j) parts.0
    by_test false f i = f i

row_no_group : (name : List ℕ) (ps : List Pair) (k : Kind) → row name ps ≡ Some k → is_group k ≡ false
row_no_group name ps k e = by_test (is_section_name name) e
  where
    by_test : (b : Bool)
        → (if b then Some (kind.Section 0)
        else row_by name (value_of (attribute_name attr.Typeof) ps) (value_of (attribute_name attr.Property) ps) (value_of (attribute_name attr.Rel) ps)) ≡ Some k
        → is_group k ≡ false
    by_test true i = let same : kind.Section 0 ≡ k = cc i in ap is_group (sym same)
    by_test false i =
        found_kind (is_row name (value_of (attribute_name attr.Typeof) ps) (value_of (attribute_name attr.Property) ps) (value_of (attribute_name attr.Rel) ps))
        read_kinds k refl i

-- ---- all that is there

abbrev with_piece : Option Piece → List Piece → List Piece
with_piece None ys = ys
with_piece (Some x) ys = x ∷ ys

told_two : (r : Result (Option Piece) Misfit) (q : Result (List Piece) Misfit) (xs : List Piece) → onto_told r q ≡ Ok xs
    → (o : Option Piece) × (ys : List Piece) × (r ≡ Ok o) × (q ≡ Ok ys) × (xs ≡ with_piece o ys)
told_two (Ok None) q xs e = (None, xs, refl, e, refl)
told_two (Ok (Some x)) (Ok ys) xs e = (Some x, ys, refl, refl, sym (from_ok (x ∷ ys) xs e))
told_two (Ok (Some x)) (Err w) xs e = absurd (cc e)
told_two (Err w) q xs e = absurd (cc e)

told_marked : (f : ℕ → Bool) (o : Option Piece) (ys : List Piece)
    → onto_told (Ok (option_map (piece_marked f) o)) (Ok (all_pieces f ys)) ≡ Ok (all_pieces f (with_piece o ys))
told_marked f None ys = refl
told_marked f (Some x) ys = refl

begin_all : (o : Option Piece) (ys : List Piece) → BeginsIfAny o → BeginGroups ys → BeginGroups (with_piece o ys)
begin_all None ys h g = g
begin_all (Some x) ys h g = (h, g)

mutual
  node_fits : (t : Markup) (ts : Markups) (f : ℕ → Bool) (n : ℕ) (q : Kind) (v : Bool) (g : Option (List ℕ)) (p : Option Piece) → f 0 ≡ false
      → fit_node n (spot q v g) t ts ≡ Ok p
      → (fit_node n (spot q v g) (marked f t) (all_marked f ts) ≡ Ok (option_map (piece_marked f) p)) × BeginsIfAny p
  node_fits (text bs) ts f n q v g p z h =
      let is : fit_text (spot q v g) bs ts ≡ p = from_ok (fit_text (spot q v g) bs ts) p h in (
        ap Ok (text_fits_so f (spot q v g) bs ts z ∙ ap (option_map (piece_marked f)) is),
        subst BeginsIfAny is (text_begins (spot q v g) bs ts),
      )
  node_fits (node name ps c) ts f n q v g p z h =
      by_about (has (codes "about") ps) refl (λ m k xs. nodes_fit c f m k false None xs z)
    where
      x : Position
      x = spot q v g

      rest : Markups
      rest = all_marked f ts

      by_about : (a : Bool) → has (codes "about") ps ≡ a → ((m : ℕ) (k : Kind) → FitsSo f m (within k false) c)
          → (fit_node n x (node name (pairs_marked (not a && is_chosen_row f (row name ps) ps) ps) (if a then c else all_marked f c)) rest
          ≡ Ok (option_map (piece_marked f) p)) × BeginsIfAny p
      by_about true e ih =
          let s = row_stays f n x (standing g ps) (row_as (standing g ps) name ps) ps c
          (λ k. fit_nodes (suc n) (within k (is_inside x (standing g ps))) c) p (not_alone g (value_of (codes "about") ps) (has (codes "data-mw") ps) e) h in
          (h ∙ ap Ok (sym s.0), s.1)
      by_about false e ih =
          let b : Bool = is_chosen_row f (row name ps) ps in
          let d : List Pair = pairs_marked b ps in
          let alone : standing g ps ≡ stands.Alone = alone_by g (value_of (codes "about") ps) (has (codes "data-mw") ps) e in
          let was : fit_row n x stands.Alone (row name ps) ps c (λ k. fit_nodes (suc n) (within k false) c) ≡ Ok p =
          sym (ap (λ (s : Standing). fit_row n x s (row_as s name ps) ps c (λ k. fit_nodes (suc n) (within k (is_inside x s)) c)) alone) ∙ h in
          let r = row_fits f n q v g (row name ps) ps c p z (λ k i. row_no_group name ps k i) (λ k. ih (suc n) k) was in (
            ap (λ (s : Standing). fit_row n x s (row_as s name d) d (all_marked f c) (λ k. fit_nodes (suc n) (within k (is_inside x s)) (all_marked f c)))
                (standing_same b g ps ∙ alone)
                ∙ ap (λ (o : Option Kind). fit_row n x stands.Alone o d (all_marked f c) (λ k. fit_nodes (suc n) (within k false) (all_marked f c))) (row_same b name ps)
                ∙ r.0,
            r.1,
          )

  pub nodes_fit : (ts : Markups) (f : ℕ → Bool) (n : ℕ) (q : Kind) (v : Bool) (g : Option (List ℕ)) (xs : List Piece) → f 0 ≡ false
      → fit_nodes n (spot q v g) ts ≡ Ok xs → (fit_nodes n (spot q v g) (all_marked f ts) ≡ Ok (all_pieces f xs)) × BeginGroups xs
  nodes_fit empty f n q v g xs z h =
      let P : List Piece → Type 0 = λ ys. Path (Result (List Piece) Misfit) (Ok []) (Ok (all_pieces f ys)) × BeginGroups ys in
      subst P (from_ok [] xs h) (refl, tt)
  nodes_fit (more t ts) f n q v g xs z h =
      let x : Position = spot q v g in
      let y : Position = behind_it x t ts in
      let r = told_two (fit_node n x t ts) (fit_nodes (n + elements t) y ts) xs h in
      let here = node_fits t ts f n q v g r.0 z r.2 in
      let behind = nodes_fit ts f (n + elements t) q y.behind y.group r.1 z r.3 in (
        ap₂ onto_told here.0
            (ap₂ (λ m w. fit_nodes (n + m) w (all_marked f ts)) (elements_same f t) (behind_same f x t ts) ∙ behind.0)
            ∙ told_marked f r.0 r.1 ∙ ap (λ zs. Ok (all_pieces f zs)) (sym r.4),
        subst BeginGroups (sym r.4) (begin_all r.0 r.1 here.1 behind.1),
      )
