-- What was sent in a retyped block is written, refused and shown as the page's own nodes are, with the texts that were sent beside them.
use Rattle.std.proofs.Common.{◌≡◌, ◌≢◌, ◌⊎◌, ℕ, suc, ◌+◌, Bool, true, false, List, [], ◌∷◌, ◌++◌, length, refl, sym, ap, ap₂, ◌∙◌, subst, inl, inr}
use Rattle.std.specs.Prelude.{◌&&◌, ◌||◌, if◌then◌else◌, Option, Some, None}
use Rattle.std.specs.List.{AllByRecursion}
use Rattle.wt_span.specs.Origins.{Expanded}
use Rattle.wt_tree.specs.declared.kind.Kind.{Kind}
use Rattle.wt_tree.specs.declared.kind.Kind.TheVariants as kind
use Rattle.wt_tree.specs.declared.kind.Mark.TheVariants as marks
use Rattle.wt_tree.specs.declared.kind.Showing.TheVariants.{Characters}
use Rattle.wt_tree.specs.declared.edit_shape.InlineForm.{InlineForm}
use Rattle.wt_tree.specs.declared.edit_shape.InlineForm.TheVariants as inline
use Rattle.wt_tree.specs.declared.edit_shape.Place.{Place as Surround}
use Rattle.wt_tree.specs.EditShapes.{edit_shape}
use Rattle.wt_tree.specs.Kinds.{showing, is_leaf}
use Rattle.wt_tree.specs.Plain.{Face, face, Plains, ended, text_before, shown_before, plain_before, plains_before}
use Rattle.wt_tree.specs.Source.{flat}
use Rattle.wt_tree.specs.Tiling.{is_group}
use Rattle.wt_tree.specs.Tree.{Label, Tree, tree, Trees, none, label}
use Rattle.wt_guards.specs.Content.{ContentSign}
use Rattle.wt_original.specs.Kept.{Kept, kept_with, kept_of, kept_nodes, found_at, found_from, found_in, items, visible, holds_kept}
use Rattle.wt_original.specs.Page.{Page, TellsSame, page_of, node_or, restored, restored_all, is_unchanged}
use Rattle.wt_link_spelling.specs.Spelling.{children_of, kept_thing, anew_by, signs_by, signs_of, signs_of_all}
use Rattle.wt_checks.specs.Places.{Page as Nodes}
use Rattle.wt_checks.specs.WithoutMarks.{mark_off}
use Rattle.wt_checks.proofs.Lookups.{each_split}
use Rattle.wt_content.specs.declared.content.Standing.{Standing}
use Rattle.wt_content.specs.declared.content.Standing.TheVariants as stands
use Rattle.wt_content.specs.declared.content.Surroundings.{Surroundings}
use Rattle.wt_content.specs.declared.reason.ContentWhy.{ContentWhy}
use Rattle.wt_content.specs.Content.{changed_from, standing, standing_of, if_replaced, nested_fault, brings_link, below, faults_by, faults, all_faults, holds_link, is_link, outermost}
use Rattle.wt_selser.specs.Leaves.{LeavesHoldNoNumber, AllLeavesHoldNoNumber}
use Rattle.wt_visible.specs.Restored.{held_by, restored as shown_again, all_restored}
use Rattle.wt_typed_blocks.specs.Edited.{Pieces, no_pieces, gone, written, kept, around, new_style, page_pieces, text_node, sent_pieces, pieces_before, IsStyle}
use Rattle.wt_typed_blocks.proofs.EditedShows.{shown_same}
use Rattle.wt_typed_blocks.proofs.SentGroups.{of_style, style_ungrouped}
use Rattle.wt_beside_laws.proofs.OwnSigns.{Every, every_left, every_right, Finds, own_found, inside_found, held_if}
use Rattle.wt_called_edit_laws.specs.SentAsIs.{as_sent, HasNumberedGroups, HaveNumberedGroups}
use Rattle.wt_inside_laws.specs.Contents.{elements_by, elements_of, elements, styles_by, styles_of, styles}
use Rattle.wt_inside_laws.specs.RetypedPieces.{pieces_of, as_own, AreRead}
use Rattle.wt_inside_laws.specs.TextEdits.{takes_text, IsUntouched, IsSameStyle, IsRetyped}
use Rattle.wt_inside_laws.specs.AsSent.{IsAlike}
use Rattle.wt_inside_laws.proofs.Groups.{either_way, inner_numbered}
use Rattle.wt_inside_laws.proofs.OwnPieces.{IsElement, AreOfStyle, HoldIn, Anything, own_page, own_pieces_stay, trees_in, any_leaves}
use Rattle.wt_inside_laws.proofs.OwnShown.{IsThere, again_shows, restored_kind, own_shows}
use Rattle.wt_inside_laws.proofs.PlainBefore.{same_before}
use Rattle.wt_inside_laws.proofs.RetypedPieces.{retyped_pieces}

-- ---- a node of the page and the one that was sent for it

-- the page's node is found by its number, and what was sent shows what it does
pub record IsKeptAlike (page : Nodes) (p : Page) (t u : Tree) : Type 0 where
  pub kept : Kept
  pub there : kept_with (label t).id p.kept ≡ Some kept
  pub sent : kept_with (label u).id p.kept ≡ Some kept
  pub own : is_unchanged p kept (as_sent t) ≡ true
  pub same : is_unchanged p kept u ≡ true
  pub shown : (rest : Plains) → plain_before (shown_again page u) rest ≡ plain_before t rest
  pub element : IsElement (edit_shape (label t).kind).inline
  pub sent_element : IsElement (edit_shape (label u).kind).inline

pub record IsStyleAlike (p : Page) (l m : Label) : Type 0 where
  pub kept : Kept
  pub found : kept_with l.id p.kept ≡ Some kept
  pub style : IsStyle l.kind
  pub of_page : IsStyle (label kept.node).kind
  pub id : m.id ≡ l.id
  pub alike : face m ≡ face l

abbrev pub AlikeIn : Nodes → Page → Pieces → Type 0
AlikeIn page p no_pieces = Unit {0}
AlikeIn page p (gone t ps) = AlikeIn page p ps
AlikeIn page p (written x text ps) = AlikeIn page p ps
AlikeIn page p (kept t u ps) = IsKeptAlike page p t u × AlikeIn page p ps
AlikeIn page p (around l m is ps) = IsStyleAlike p l m × AlikeIn page p is × AlikeIn page p ps
AlikeIn page p (new_style m is ps) = ⊥

-- ---- what is written

kept_signs : (w : InlineForm) (p : Page) (pl : Surround) (k : Kept) (l : Label) (ts : Trees) (inside : List ContentSign) → IsElement w
    → is_unchanged p k (tree l ts) ≡ true → signs_by w p pl (Some k) l ts inside ≡ kept_thing k ∷ []
kept_signs inline.Nothing p pl k l ts inside h e = absurd h
kept_signs inline.Characters p pl k l ts inside h e = absurd h
kept_signs inline.Bold p pl k l ts inside h e = absurd h
kept_signs inline.Italic p pl k l ts inside h e = absurd h
kept_signs inline.Shown p pl k l ts inside h e = ap (λ (b : Bool). if b then kept_thing k ∷ [] else anew_by inline.Shown p pl (Some k) l ts inside) e
kept_signs inline.PageLink p pl k l ts inside h e = ap (λ (b : Bool). if b then kept_thing k ∷ [] else anew_by inline.PageLink p pl (Some k) l ts inside) e
kept_signs inline.ExternalLink p pl k l ts inside h e = ap (λ (b : Bool). if b then kept_thing k ∷ [] else anew_by inline.ExternalLink p pl (Some k) l ts inside) e
kept_signs inline.Tag p pl k l ts inside h e = ap (λ (b : Bool). if b then kept_thing k ∷ [] else anew_by inline.Tag p pl (Some k) l ts inside) e
kept_signs inline.Break p pl k l ts inside h e = ap (λ (b : Bool). if b then kept_thing k ∷ [] else anew_by inline.Break p pl (Some k) l ts inside) e
kept_signs inline.AsItStood p pl k l ts inside h e = refl

one_kept : (p : Page) (pl : Surround) (k : Kept) (t : Tree) → kept_with (label t).id p.kept ≡ Some k → is_unchanged p k t ≡ true
    → IsElement (edit_shape (label t).kind).inline → signs_of p pl t ≡ kept_thing k ∷ []
one_kept p pl k (tree l ts) f e h =
    ap (λ (o : Option Kept). signs_by (edit_shape l.kind).inline p pl o l ts (signs_of_all p pl ts)) f
    ∙ kept_signs (edit_shape l.kind).inline p pl k l ts (signs_of_all p pl ts) h e

own_number : (t : Tree) → (label (as_sent t)).id ≡ (label t).id
own_number (tree l ts) = refl

own_kind : (t : Tree) → (label (as_sent t)).kind ≡ (label t).kind
own_kind (tree l ts) = refl

kept_written : (page : Nodes) (p : Page) (pl : Surround) (t u : Tree) → IsKeptAlike page p t u → signs_of p pl u ≡ signs_of p pl (as_sent t)
kept_written page p pl t u h =
    one_kept p pl h.kept u h.sent h.same h.sent_element
    ∙ sym (one_kept p pl h.kept (as_sent t) (ap (λ (n : ℕ). kept_with n p.kept) (own_number t) ∙ h.there) h.own
    (subst (λ (k : Kind). IsElement (edit_shape k).inline) (sym (own_kind t)) h.element))

style_signs : (p : Page) (pl : Surround) (l m : Label) (us vs : Trees) → IsStyle l.kind → m.kind ≡ l.kind → m.id ≡ l.id
    → signs_of_all p pl us ≡ signs_of_all p pl vs → signs_of p pl (tree m us) ≡ signs_of p pl (tree (mark_off l) vs)
style_signs p pl l m us vs s k n e =
    ap₂ (λ (j : Kind) (i : ℕ). signs_by (edit_shape j).inline p pl (kept_with i p.kept) m us (signs_of_all p pl us)) k n
    ∙ of_style (λ (j : Kind). signs_by (edit_shape j).inline p pl (kept_with l.id p.kept) m us (signs_of_all p pl us)
    ≡ signs_by (edit_shape j).inline p pl (kept_with l.id p.kept) (mark_off l) vs (signs_of_all p pl vs)) l.kind s
    (ap (λ (ss : List ContentSign). signs_by inline.Bold p pl (kept_with l.id p.kept) m us ss) e)
    (ap (λ (ss : List ContentSign). signs_by inline.Italic p pl (kept_with l.id p.kept) m us ss) e)

text_signs : (p : Page) (pl : Surround) (x : Label) (text : List ℕ) (us vs : Trees) → signs_of_all p pl us ≡ signs_of_all p pl vs
    → signs_of_all p pl (text_node x text us) ≡ signs_of_all p pl (text_node x text vs)
text_signs p pl x [] us vs e = e
text_signs p pl x (b ∷ bs) us vs e = ap (λ (ss : List ContentSign). signs_of p pl (tree (record x { kind = kind.Text; id = 0; shown = b ∷ bs; mark = marks.Nothing }) none) ++ ss) e

kind_alike : (l m : Label) → face m ≡ face l → m.kind ≡ l.kind
kind_alike l m e = ap (λ (f : Face). f.kind) e

written_same : (page : Nodes) (p : Page) (pl : Surround) (ps : Pieces) → AlikeIn page p ps
    → signs_of_all p pl (sent_pieces ps) ≡ signs_of_all p pl (sent_pieces (as_own ps))
written_same page p pl no_pieces h = refl
written_same page p pl (gone t ps) h = written_same page p pl ps h
written_same page p pl (written x text ps) h = text_signs p pl x text (sent_pieces ps) (sent_pieces (as_own ps)) (written_same page p pl ps h)
written_same page p pl (kept t u ps) h = ap₂ (λ xs ys. xs ++ ys) (kept_written page p pl t u h.0) (written_same page p pl ps h.1)
written_same page p pl (around l m is ps) h =
    ap₂ (λ xs ys. xs ++ ys)
    (style_signs p pl l m (sent_pieces is) (sent_pieces (as_own is)) h.0.style (kind_alike l m h.0.alike) h.0.id (written_same page p pl is h.1))
    (written_same page p pl ps h.2)
written_same page p pl (new_style m is ps) h = absurd h

-- ---- what is wrong in it

kept_faults : (w : InlineForm) (x : Surroundings) (l : Label) (holds : Bool) (inside : List ContentWhy) → IsElement w → x.in_link ≡ false
    → faults_by w x stands.Same l holds inside ≡ []
kept_faults inline.Nothing x l holds inside h e = absurd h
kept_faults inline.Characters x l holds inside h e = absurd h
kept_faults inline.Bold x l holds inside h e = absurd h
kept_faults inline.Italic x l holds inside h e = absurd h
kept_faults inline.Shown x l holds inside h e = ap (λ (b : Bool). nested_fault (b && brings_link inline.Shown stands.Same holds) ++ []) e
kept_faults inline.PageLink x l holds inside h e = ap (λ (b : Bool). nested_fault (b && brings_link inline.PageLink stands.Same holds) ++ []) e
kept_faults inline.ExternalLink x l holds inside h e = ap (λ (b : Bool). nested_fault (b && brings_link inline.ExternalLink stands.Same holds) ++ []) e
kept_faults inline.Tag x l holds inside h e = ap (λ (b : Bool). nested_fault (b && brings_link inline.Tag stands.Same holds) ++ []) e
kept_faults inline.Break x l holds inside h e = ap (λ (b : Bool). nested_fault (b && brings_link inline.Break stands.Same holds) ++ []) e
kept_faults inline.AsItStood x l holds inside h e = ap (λ (b : Bool). nested_fault (b && brings_link inline.AsItStood stands.Same holds) ++ []) e

no_fault : (p : Page) (x : Surroundings) (k : Kept) (t : Tree) → kept_with (label t).id p.kept ≡ Some k → is_unchanged p k t ≡ true
    → IsElement (edit_shape (label t).kind).inline → x.in_link ≡ false → faults p x t ≡ []
no_fault p x k (tree l ts) f e h n =
    ap (λ (s : Standing). faults_by (edit_shape l.kind).inline x s l (holds_link (tree l ts)) (all_faults p (below x (edit_shape l.kind).inline) ts))
    (ap (λ (o : Option Kept). standing_of p o (tree l ts)) f
    ∙ ap (λ (b : Bool). if b then stands.Same else changed_from (edit_shape (label k.node).kind).inline) e)
    ∙ kept_faults (edit_shape l.kind).inline x l (holds_link (tree l ts)) (all_faults p (below x (edit_shape l.kind).inline) ts) h n

kept_refused : (page : Nodes) (p : Page) (x : Surroundings) (t u : Tree) → IsKeptAlike page p t u → x.in_link ≡ false
    → faults p x u ≡ faults p x (as_sent t)
kept_refused page p x t u h n =
    no_fault p x h.kept u h.sent h.same h.sent_element n
    ∙ sym (no_fault p x h.kept (as_sent t) (ap (λ (n : ℕ). kept_with n p.kept) (own_number t) ∙ h.there) h.own
    (subst (λ (k : Kind). IsElement (edit_shape k).inline) (sym (own_kind t)) h.element) n)

-- a style may be changed
style_free : (p : Page) (k : Kept) (t : Tree) → IsStyle (label k.node).kind → if_replaced (standing_of p (Some k) t) ≡ []
style_free p k t h = by_test (is_unchanged p k t)
  where
    by_test : (b : Bool) → if_replaced (if b then stands.Same else changed_from (edit_shape (label k.node).kind).inline) ≡ []
    by_test true = refl
    by_test false = of_style (λ (j : Kind). if_replaced (changed_from (edit_shape j).inline) ≡ []) (label k.node).kind h refl refl

style_by : (w : InlineForm) (x : Surroundings) (s : Standing) (l : Label) (holds : Bool) (inside : List ContentWhy) → (w ≡ inline.Bold) ⊎ (w ≡ inline.Italic)
    → x.in_link ≡ false → if_replaced s ≡ [] → faults_by w x s l holds inside ≡ inside
style_by inline.Bold x s l holds inside h e f =
    ap (λ (b : Bool). nested_fault (b && brings_link inline.Bold s holds) ++ (if_replaced s ++ inside)) e ∙ ap (λ (ws : List ContentWhy). ws ++ inside) f
style_by inline.Italic x s l holds inside h e f =
    ap (λ (b : Bool). nested_fault (b && brings_link inline.Italic s holds) ++ (if_replaced s ++ inside)) e ∙ ap (λ (ws : List ContentWhy). ws ++ inside) f
style_by inline.Nothing x s l holds inside (inl h) e f = absurd (cc)
style_by inline.Nothing x s l holds inside (inr h) e f = absurd (cc)
style_by inline.Characters x s l holds inside (inl h) e f = absurd (cc)
style_by inline.Characters x s l holds inside (inr h) e f = absurd (cc)
style_by inline.Shown x s l holds inside (inl h) e f = absurd (cc)
style_by inline.Shown x s l holds inside (inr h) e f = absurd (cc)
style_by inline.PageLink x s l holds inside (inl h) e f = absurd (cc)
style_by inline.PageLink x s l holds inside (inr h) e f = absurd (cc)
style_by inline.ExternalLink x s l holds inside (inl h) e f = absurd (cc)
style_by inline.ExternalLink x s l holds inside (inr h) e f = absurd (cc)
style_by inline.Tag x s l holds inside (inl h) e f = absurd (cc)
style_by inline.Tag x s l holds inside (inr h) e f = absurd (cc)
style_by inline.Break x s l holds inside (inl h) e f = absurd (cc)
style_by inline.Break x s l holds inside (inr h) e f = absurd (cc)
style_by inline.AsItStood x s l holds inside (inl h) e f = absurd (cc)
style_by inline.AsItStood x s l holds inside (inr h) e f = absurd (cc)

style_form : (k : Kind) → IsStyle k → ((edit_shape k).inline ≡ inline.Bold) ⊎ ((edit_shape k).inline ≡ inline.Italic)
style_form k h = of_style (λ j. ((edit_shape j).inline ≡ inline.Bold) ⊎ ((edit_shape j).inline ≡ inline.Italic)) k h (inl refl) (inr refl)

style_faults : (p : Page) (x : Surroundings) (k : Kept) (l : Label) (ts : Trees) → IsStyle l.kind → IsStyle (label k.node).kind → kept_with l.id p.kept ≡ Some k
    → x.in_link ≡ false → faults p x (tree l ts) ≡ all_faults p (below x (edit_shape l.kind).inline) ts
style_faults p x k l ts s o f n =
    style_by (edit_shape l.kind).inline x (standing p (tree l ts)) l (holds_link (tree l ts)) (all_faults p (below x (edit_shape l.kind).inline) ts) (style_form l.kind s) n
    (ap (λ (o : Option Kept). if_replaced (standing_of p o (tree l ts))) f ∙ style_free p k (tree l ts) o)

-- nor is it a link
below_style : (k : Kind) (x : Surroundings) → IsStyle k → x.in_link ≡ false → (below x (edit_shape k).inline).in_link ≡ false
below_style k x h e =
    of_style (λ (j : Kind). (x.in_link || is_link (edit_shape j).inline) ≡ false) k h (ap (λ (b : Bool). b || false) e) (ap (λ (b : Bool). b || false) e)

text_faults : (p : Page) (x : Surroundings) (m : Label) (text : List ℕ) (us vs : Trees) → all_faults p x us ≡ all_faults p x vs
    → all_faults p x (text_node m text us) ≡ all_faults p x (text_node m text vs)
text_faults p x m [] us vs e = e
text_faults p x m (b ∷ bs) us vs e =
    ap (λ (ws : List ContentWhy). faults p x (tree (record m { kind = kind.Text; id = 0; shown = b ∷ bs; mark = marks.Nothing }) none) ++ ws) e

refused_same : (page : Nodes) (p : Page) (x : Surroundings) (ps : Pieces) → x.in_link ≡ false → AlikeIn page p ps
    → all_faults p x (sent_pieces ps) ≡ all_faults p x (sent_pieces (as_own ps))
refused_same page p x no_pieces n h = refl
refused_same page p x (gone t ps) n h = refused_same page p x ps n h
refused_same page p x (written m text ps) n h = text_faults p x m text (sent_pieces ps) (sent_pieces (as_own ps)) (refused_same page p x ps n h)
refused_same page p x (kept t u ps) n h = ap₂ (λ xs ys. xs ++ ys) (kept_refused page p x t u h.0 n) (refused_same page p x ps n h.1)
refused_same page p x (around l m is ps) n h =
    let k : m.kind ≡ l.kind = kind_alike l m h.0.alike in
    let s : IsStyle m.kind = subst IsStyle (sym k) h.0.style in
    ap₂ (λ xs ys. xs ++ ys)
    (style_faults p x h.0.kept m (sent_pieces is) s h.0.of_page (ap (λ (i : ℕ). kept_with i p.kept) h.0.id ∙ h.0.found) n
    ∙ ap (λ (j : Kind). all_faults p (below x (edit_shape j).inline) (sent_pieces is)) k
    ∙ refused_same page p (below x (edit_shape l.kind).inline) is (below_style l.kind x h.0.style n) h.1
    ∙ sym (style_faults p x h.0.kept (mark_off l) (sent_pieces (as_own is)) h.0.style h.0.of_page h.0.found n))
    (refused_same page p x ps n h.2)
refused_same page p x (new_style m is ps) n h = absurd h

-- ---- what it shows

text_shown : (page : Nodes) (x : Label) (text : List ℕ) (us : Trees) (rest : Plains)
    → plains_before (all_restored page (text_node x text us)) rest ≡ text_before text (plains_before (all_restored page us) rest)
text_shown page x [] us rest = refl
text_shown page x (b ∷ bs) us rest = refl

no_characters : (k : Kind) → IsStyle k → showing k ≡ Characters → ⊥
no_characters k h = of_style (λ (j : Kind). showing j ≡ Characters → ⊥) k h (λ e. absurd (cc)) (λ e. absurd (cc))

shows_same : (page : Nodes) (p : Page) (ps : Pieces) (rest : Plains) → AlikeIn page p ps
    → plains_before (all_restored page (sent_pieces ps)) rest ≡ pieces_before (as_own ps) rest
shows_same page p no_pieces rest h = refl
shows_same page p (gone t ps) rest h = shows_same page p ps rest h
shows_same page p (written x text ps) rest h = text_shown page x text (sent_pieces ps) rest ∙ ap (text_before text) (shows_same page p ps rest h)
shows_same page p (kept t u ps) rest h =
    ap (plain_before (shown_again page u)) (shows_same page p ps rest h.1) ∙ h.0.shown (pieces_before (as_own ps) rest)
shows_same page p (around l m is ps) rest h =
    let k : m.kind ≡ l.kind = kind_alike l m h.0.alike in
    let after : Plains = pieces_before (as_own ps) rest in
    ap (plain_before (shown_again page (tree m (sent_pieces is)))) (shows_same page p ps rest h.2)
    ∙ ap (λ (b : Bool). plain_before (tree m (held_by page b m.id (sent_pieces is) (all_restored page (sent_pieces is)))) after)
    (ap is_group k ∙ style_ungrouped l.kind h.0.style)
    ∙ ap (λ (j : Kind). shown_before (showing j) m (λ qs. plains_before (all_restored page (sent_pieces is)) qs) after) k
    ∙ shown_same (showing l.kind) l m (λ qs. plains_before (all_restored page (sent_pieces is)) qs) (λ qs. pieces_before (as_own is) qs) after
    (λ c. absurd (no_characters l.kind h.0.style c)) h.0.alike (λ qs. shows_same page p is qs h.1)
shows_same page p (new_style m is ps) rest h = absurd h

-- ---- what was sent for a retyped block

abbrev Elements : Tree → Tree → Type 0
Elements t u = IsElement (edit_shape (label t).kind).inline × IsElement (edit_shape (label u).kind).inline × ((label u).id ≡ (label t).id)

abbrev Styles : Label → Label → Type 0
Styles l m = IsStyle l.kind × AreOfStyle (edit_shape l.kind).inline (edit_shape m.kind).inline × (m.id ≡ l.id)

some_number : (n : ℕ) (ks : List Kept) (k : Kept) → kept_with n ks ≡ Some k → n ≢ 0
unfolding kept_with
some_number n ks k e z = let x : None ≡ Some k = sym (ap (λ (i : ℕ). kept_with i ks) z) ∙ e in cc

one_element : (w : InlineForm) (t : Tree) (inside : List Tree) → IsElement w → elements_by w t inside ≡ t ∷ []
one_element inline.Nothing t inside h = absurd h
one_element inline.Characters t inside h = absurd h
one_element inline.Bold t inside h = absurd h
one_element inline.Italic t inside h = absurd h
one_element inline.Shown t inside h = refl
one_element inline.PageLink t inside h = refl
one_element inline.ExternalLink t inside h = refl
one_element inline.Tag t inside h = refl
one_element inline.Break t inside h = refl
one_element inline.AsItStood t inside h = refl

no_styles : (w : InlineForm) (t : Tree) (inside : List Tree) → IsElement w → styles_by w t inside ≡ []
no_styles inline.Nothing t inside h = refl
no_styles inline.Characters t inside h = refl
no_styles inline.Bold t inside h = absurd h
no_styles inline.Italic t inside h = absurd h
no_styles inline.Shown t inside h = refl
no_styles inline.PageLink t inside h = refl
no_styles inline.ExternalLink t inside h = refl
no_styles inline.Tag t inside h = refl
no_styles inline.Break t inside h = refl
no_styles inline.AsItStood t inside h = refl

style_elements : (v w : InlineForm) (t : Tree) (inside : List Tree) → AreOfStyle v w → elements_by w t inside ≡ inside
style_elements v w t inside (inl h) = ap (λ (f : InlineForm). elements_by f t inside) h.1
style_elements v w t inside (inr h) = ap (λ (f : InlineForm). elements_by f t inside) h.1

style_styles : (v w : InlineForm) (t : Tree) (inside : List Tree) → AreOfStyle v w → styles_by w t inside ≡ t ∷ inside
style_styles v w t inside (inl h) = ap (λ (f : InlineForm). styles_by f t inside) h.1
style_styles v w t inside (inr h) = ap (λ (f : InlineForm). styles_by f t inside) h.1

text_elements : (x : Label) (text : List ℕ) (us : Trees) → elements (text_node x text us) ≡ elements us
text_elements x [] us = refl
text_elements x (b ∷ bs) us = refl

text_styles : (x : Label) (text : List ℕ) (us : Trees) → styles (text_node x text us) ≡ styles us
text_styles x [] us = refl
text_styles x (b ∷ bs) us = refl

told_so : (a b : Bool) → (a || b) ≡ true → a ≡ false → b ≡ true
told_so true b e f = absurd (cc)
told_so false b e f = e

or_true : (a b : Bool) → b ≡ true → (a || b) ≡ true
or_true true b e = refl
or_true false b e = e

-- an element
element_alike : (same : Tree → Tree → Bool) (page : Nodes) (block : Tree) (at from : ℕ) (l m : Label) (ts us : Trees) → TellsSame same
    → Every (IsThere page) (found_from 0 0 block) → Elements (tree l ts) (tree m us) → IsUntouched (page_of same block) (tree m us)
    → Every (Finds block) (found_from at from (tree l ts)) → HasNumberedGroups (tree l ts) → LeavesHoldNoNumber (tree l ts)
    → IsKeptAlike page (page_of same block) (tree l ts) (tree m us)
element_alike same page block at from l m ts us tells d h n f g z =
    let p : Page = page_of same block in
    let ks : List Kept = kept_nodes block in
    let t : Tree = tree l ts in
    let u : Tree = tree m us in
    let own : Kept = kept_of block (found_at at from t) in
    let some : l.id ≢ 0 = λ z. some_number m.id ks n.kept n.found (h.2 ∙ z) in
    let there : kept_with l.id ks ≡ Some own = own_found (Finds block) at from l ts some f in
    let sent : kept_with m.id ks ≡ Some own = ap (λ (i : ℕ). kept_with i ks) h.2 ∙ there in
    let both : Some n.kept ≡ Some own = sym n.found ∙ sent in
    let is : n.kept ≡ own = cc in
    let unchanged : is_unchanged p own u ≡ true = subst (λ (q : Kept). is_unchanged p q u ≡ true) is n.unchanged in
    let kinds : m.kind ≡ l.kind = n.kind ∙ ap (λ (q : Kept). (label q.node).kind) is in
    record {
      kept = own;
      there = there;
      sent = sent;
      own = either_way (is_group l.kind) (λ e. ap (λ (b : Bool). b || same (restored ks (as_sent t)) t) e)
          (λ e. or_true (is_group l.kind) (same (restored ks (as_sent t)) t)
          ((tells (restored ks (as_sent t)) t).1 (restored_kind ks l ts e, own_shows block at from t ended f g z)));
      same = unchanged;
      shown = λ rest. again_shows page block u rest d n.groups
          ∙ either_way (is_group l.kind)
          (λ e. ap (λ (b : Bool). plain_before (if b then node_or u (kept_with m.id ks) else tree m (restored_all ks us)) rest) (ap is_group kinds ∙ e)
          ∙ ap (λ (o : Option Kept). plain_before (node_or u o) rest) sent)
          (λ e. same_before t (restored ks u) rest ((tells (restored ks u) t).0 (told_so (is_group l.kind) (same (restored ks u) t) unchanged e)).1);
      element = h.0;
      sent_element = h.1;
    }

style_alike : (same : Tree → Tree → Bool) (block : Tree) (at from : ℕ) (l m : Label) (ts us : Trees) → Styles l m → IsSameStyle (kept_nodes block) (tree m us)
    → Every (Finds block) (found_from at from (tree l ts)) → IsStyleAlike (page_of same block) l m
style_alike same block at from l m ts us h n f =
    let ks : List Kept = kept_nodes block in
    let own : Kept = kept_of block (found_at at from (tree l ts)) in
    let some : l.id ≢ 0 = λ z. some_number m.id ks n.kept n.found (h.2 ∙ z) in
    let there : kept_with l.id ks ≡ Some own = own_found (Finds block) at from l ts some f in
    let both : Some n.kept ≡ Some own = sym n.found ∙ ap (λ (i : ℕ). kept_with i ks) h.2 ∙ there in
    let is : n.kept ≡ own = cc in
    record {
      kept = own;
      found = there;
      style = h.0;
      of_page = h.0;
      id = h.2;
      alike = n.alike ∙ ap (λ (q : Kept). face (label q.node)) is;
    }

style_holds : (l : Label) → IsStyle l.kind → holds_kept l ≡ true
style_holds l h = held_if l.kind (of_style (λ (k : Kind). is_leaf k ≡ false) l.kind h refl refl)

alike_in : (same : Tree → Tree → Bool) (page : Nodes) (block : Tree) (d at from : ℕ) (ps : Pieces) → TellsSame same → Every (IsThere page) (found_from 0 0 block)
    → HoldIn Anything Elements Styles d ps → AllByRecursion (IsUntouched (page_of same block)) (elements (sent_pieces ps))
    → AllByRecursion (IsSameStyle (kept_nodes block)) (styles (sent_pieces ps)) → Every (Finds block) (found_in at from (page_pieces ps))
    → HaveNumberedGroups (page_pieces ps) → AllLeavesHoldNoNumber (page_pieces ps) → AlikeIn page (page_of same block) ps
alike_in same page block d at from no_pieces tells w h e s f g n = tt
alike_in same page block d at from (gone t ps) tells w h e s f g n =
    alike_in same page block d (at + length (flat t)) (from + length (visible (items t))) ps tells w h e s (every_right (Finds block) (found_from at from t) _ f) g.1 n.1
alike_in same page block d at from (written x text ps) tells w h e s f g n =
    alike_in same page block d at from ps tells w h.1
    (subst (AllByRecursion (IsUntouched (page_of same block))) (text_elements x text (sent_pieces ps)) e)
    (subst (AllByRecursion (IsSameStyle (kept_nodes block))) (text_styles x text (sent_pieces ps)) s) f g n
alike_in same page block d at from (kept (tree l ts) (tree m us) ps) tells w h e s f g n =
    let x = each_split (IsUntouched (page_of same block)) (elements_of (tree m us)) (elements (sent_pieces ps)) e in
    let y = each_split (IsSameStyle (kept_nodes block)) (styles_of (tree m us)) (styles (sent_pieces ps)) s in
    let own = subst (AllByRecursion (IsUntouched (page_of same block))) (one_element (edit_shape m.kind).inline (tree m us) (elements us) h.0.1) x.0 in (
      element_alike same page block at from l m ts us tells w h.0 own.0 (every_left (Finds block) (found_from at from (tree l ts)) _ f) g.0 n.0,
      alike_in same page block d (at + length (flat (tree l ts))) (from + length (visible (items (tree l ts)))) ps tells w h.1 x.1 y.1
          (every_right (Finds block) (found_from at from (tree l ts)) _ f) g.1 n.1,
    )
alike_in same page block d at from (around l m is ps) tells w h e s f g n =
    let ts : Trees = page_pieces is in
    let us : Trees = sent_pieces is in
    let x = each_split (IsUntouched (page_of same block)) (elements_of (tree m us)) (elements (sent_pieces ps)) e in
    let y = each_split (IsSameStyle (kept_nodes block)) (styles_of (tree m us)) (styles (sent_pieces ps)) s in
    let v = subst (AllByRecursion (IsUntouched (page_of same block)))
    (style_elements (edit_shape l.kind).inline (edit_shape m.kind).inline (tree m us) (elements us) h.0.1) x.0 in
    let r = subst (AllByRecursion (IsSameStyle (kept_nodes block)))
    (style_styles (edit_shape l.kind).inline (edit_shape m.kind).inline (tree m us) (styles us) h.0.1) y.0 in
    let here = every_left (Finds block) (found_from at from (tree l ts)) _ f in (
      style_alike same block at from l m ts us h.0 r.0 here,
      alike_in same page block (suc d) (at + length l.opening) (from + length l.opening) is tells w h.1 v r.1
          (inside_found (Finds block) at from l ts (style_holds l h.0.0) here) (inner_numbered l ts g.0 (style_ungrouped l.kind h.0.0)) n.0.1,
      alike_in same page block d (at + length (flat (tree l ts))) (from + length (visible (items (tree l ts)))) ps tells w h.2 x.1 y.1
          (every_right (Finds block) (found_from at from (tree l ts)) _ f) g.1 n.1,
    )
alike_in same page block d at from (new_style m is ps) tells w h e s f g n = absurd h

-- ---- a retyped block

block_open : (k : Kind) → takes_text (edit_shape k).form ≡ true → is_leaf k ≡ false
block_open kind.Para e = refl
block_open (kind.Heading n) e = refl
block_open kind.Rule e = absurd (cc)
block_open k e = absurd (cc)

alike_by : (same : Tree → Tree → Bool) (items : Expanded) (bytes : List ℕ) (page : Nodes) (l : Label) (ts : Trees) (u : Tree) → TellsSame same
    → IsRetyped same items bytes (record { old = tree l ts; new = u }) → AreRead (children_of u) → HaveNumberedGroups ts → AllLeavesHoldNoNumber ts
    → Every (IsThere page) (found_from 0 0 (tree l ts)) → Every (Finds (tree l ts)) (found_from 0 0 (tree l ts))
    → IsAlike same page (record { old = tree l ts; new = u })
alike_by same items bytes page l ts u tells r h g n d c =
    let block : Tree = tree l ts in
    let us : Trees = children_of u in
    let p : Page = page_of same block in
    let qs : Pieces = pieces_of ts us in
    let a = retyped_pieces same items bytes (record { old = block; new = u }) r h in
    let holds : HoldIn Anything Elements Styles 0 qs =
    trees_in Anything Elements Styles (λ l ts m ws f g i h. (f, g, i)) (λ l m s b i. (s, b, i)) ts 0 us (any_leaves us 0) (sym r.in_order) g in
    let found = inside_found (Finds block) 0 0 l ts (held_if l.kind (block_open l.kind r.block)) c in
    let alike : AlikeIn page p qs =
    alike_in same page block 0 (0 + length l.opening) (0 + length l.opening) qs tells d holds
    (subst (λ (vs : Trees). AllByRecursion (IsUntouched p) (elements vs)) (sym a.sent) r.untouched)
    (subst (λ (vs : Trees). AllByRecursion (IsSameStyle (kept_nodes block)) (styles vs)) (sym a.sent) r.styled)
    (subst (λ (vs : Trees). Every (Finds block) (found_in (0 + length l.opening) (0 + length l.opening) vs)) (sym a.page) found)
    (subst (λ (vs : Trees). HaveNumberedGroups vs) (sym a.page) g) (subst (λ (vs : Trees). AllLeavesHoldNoNumber vs) (sym a.page) n) in
    record {
      block = r.block;
      are = own_page qs ∙ a.page;
      stay = own_pieces_stay ts us g r.in_order;
      written = λ pl. ap (signs_of_all p pl) (sym a.sent) ∙ written_same page p pl qs alike;
      refused = ap (all_faults p (outermost block)) (sym a.sent) ∙ refused_same page p (outermost block) qs refl alike;
      shows = λ rest. ap (λ (vs : Trees). plains_before (all_restored page vs) rest) (sym a.sent) ∙ shows_same page p qs rest alike;
    }

-- of a block of the page: its groups are numbered, and its leaves hold no number
pub retyped_alike : (same : Tree → Tree → Bool) (items : Expanded) (bytes : List ℕ) (page : Nodes) (t u : Tree) → TellsSame same
    → IsRetyped same items bytes (record { old = t; new = u }) → AreRead (children_of u) → HaveNumberedGroups (children_of t)
    → AllLeavesHoldNoNumber (children_of t) → Every (IsThere page) (found_from 0 0 t) → Every (Finds t) (found_from 0 0 t)
    → IsAlike same page (record { old = t; new = u })
retyped_alike same items bytes page (tree l ts) u tells r h g n d c = alike_by same items bytes page l ts u tells r h g n d c
