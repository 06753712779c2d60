-- Children of a clean node: a run of tied children becomes a group over them, and a clean child by itself is kept. What they become
-- is drawn where the children are shown.
use Rattle.std.proofs.Common.{◌≡◌, ℕ, suc, ◌<◌, ◌⊎◌, Bool, true, false, List, [], ◌∷◌, ◌++◌, map, refl, sym, ap, ap₂, ◌∙◌, subst, cond, inl, inr}
use Rattle.std.specs.Prelude.{◌&&◌, ◌||◌, not}
use Rattle.std.specs.List.{AllByRecursion}
use Rattle.std.proofs.lemmas.Bool.{and_parts}
use Rattle.wt_html_grammar.proofs.Steps.{if_false}
use Rattle.wt_tree.specs.declared.kind.Kind.{Kind}
use Rattle.wt_tree.specs.declared.kind.Kind.TheVariants as kind
use Rattle.wt_tree.specs.declared.row.Texts.{Texts}
use Rattle.wt_tree.specs.declared.row.Texts.TheVariants.{Separators, Page, Bordered, OwnCharacter}
use Rattle.wt_tree.specs.declared.row.Writing.{Writing}
use Rattle.wt_tree.specs.declared.row.Writing.TheVariants.{AsText, AsVoid, RoundCharacter, RoundChildren, AsSection, Unwritten}
use Rattle.wt_recut.specs.Cutting.{begins_with_text}
use Rattle.wt_tree.specs.Elements.{span}
use Rattle.wt_tree.specs.Kinds.{writing, may_hold, texts_of_kind, is_block, is_inline, may_follow}
use Rattle.wt_recut.specs.Recut.{is_as_text, is_text, shows_block, any_shows_block}
use Rattle.wt_tree.specs.Tiling.{is_group}
use Rattle.wt_tree.specs.Tree.{Label, Tree, tree, Trees, none, more, label, trees}
use Rattle.wt_schema.specs.Rows.{holds_text}
use Rattle.wt_span.specs.Origins.{OuterCall}
use Rattle.wt_span.specs.Runs.{IsRun, AreRuns}
use Rattle.wt_schema.specs.Written.{leaf_kind, HasLeafKind, joins, goes_behind, are_ordered, is_childless}
use Rattle.wt_inline.specs.ItemTree.{ItemTree, inner}
use Rattle.wt_annotated.specs.Annotated.{unplaced, all_unplaced}
use Rattle.wt_annotated.specs.GroupData.{group_data}
use Rattle.wt_annotated.specs.Labels.{label_at}
use Rattle.wt_annotated.specs.Walked.{Near, near_tied, near_nodes, near_group, near_run}
use Rattle.wt_page_round_trip.proofs.OwnNodes.{is_own, are_one_kind, is_one_text, IsApartFrom, AreParted}
use Rattle.wt_page_round_trip.proofs.DrawnTrees.{IsInOrder, IsDrawnIn, AreDrawnIn}
use Rattle.wt_page_round_trip.proofs.Shown.{none_group, blocks_fit, elements_fit, group_follows}
use Rattle.wt_page_round_trip.proofs.ShownNodes.{shows_words, can_follow, are_in_line, NodeIsShown, IsOrdered, IsShownIn, AreShownIn}

-- ---- a child

abbrev pub kind_of : ItemTree → Kind
kind_of (inner h opening ts closing) = h.kind

-- A child that is shown, within one element more than it will stand in; where it is clean it is drawn, and if it is a text all of
-- it is the page's.
pub record IsNear (k : ℕ) (q : Kind) (c : Near) : Type 0 where
  pub shown : IsShownIn (suc k) q (unplaced c.tree)
  pub kind : (label c.whole).kind ≡ kind_of c.tree
  pub drawn : c.clean ≡ true → IsDrawnIn k q c.whole
  pub own : c.clean ≡ true → is_as_text (writing (kind_of c.tree)) ≡ true → is_own c.tree ≡ true

-- clean, and not tied to the child before it
abbrev pub IsFree : Near → Type 0
IsFree c = (c.clean ≡ true) × (c.free ≡ true)

-- A group may stand in a node of this kind, or there is none.
abbrev pub MayGroup : Kind → List Near → Type 0
MayGroup q cs = (holds_text q ≡ true → may_hold q span.kind ≡ true) ⊎ AllByRecursion IsFree cs

pub shown_kind : (t : ItemTree) → (label (unplaced t)).kind ≡ kind_of t
unfolding label_at
shown_kind (inner h opening ts closing) = refl

-- ---- lists of children

all_left : (P : Near → Type 0) (cs ds : List Near) → AllByRecursion P (cs ++ ds) → AllByRecursion P cs
all_left P [] ds h = tt
all_left P (c ∷ cs) ds h = (h.0, all_left P cs ds h.1)

all_right : (P : Near → Type 0) (cs ds : List Near) → AllByRecursion P (cs ++ ds) → AllByRecursion P ds
all_right P [] ds h = h
all_right P (c ∷ cs) ds h = all_right P cs ds h.1

may_left : (q : Kind) (cs ds : List Near) → MayGroup q (cs ++ ds) → MayGroup q cs
may_left q cs ds (inl f) = inl f
may_left q cs ds (inr h) = inr (all_left IsFree cs ds h)

may_right : (q : Kind) (cs ds : List Near) → MayGroup q (cs ++ ds) → MayGroup q ds
may_right q cs ds (inl f) = inl f
may_right q cs ds (inr h) = inr (all_right IsFree cs ds h)

parted_right : (cs ds : List Near) → AreParted (near_nodes (cs ++ ds)) → AreParted (near_nodes ds)
parted_right [] ds h = h
parted_right (c ∷ cs) ds h = parted_right cs ds h.2

nears_shown : (k : ℕ) (q : Kind) (cs : List Near) → AllByRecursion (IsNear k q) cs → AreShownIn (suc k) q (all_unplaced (near_nodes cs))
nears_shown k q [] h = tt
nears_shown k q (c ∷ cs) h = (h.0.shown, nears_shown k q cs h.1)

-- ---- a run

group_drawn : (calls : List OuterCall) (k : ℕ) (q : Kind) (cs : List Near) → k < 200 → (holds_text q ≡ true → may_hold q span.kind ≡ true)
    → AllByRecursion (IsNear k q) cs → IsDrawnIn k q (near_group calls (group_data calls) cs)
group_drawn calls k q [] small f h = record { elements = elements_fit k q none small f tt; blocks = blocks_fit (suc k) q none tt }
group_drawn calls k q (c ∷ cs) small f h =
    let s : AreShownIn (suc k) q (all_unplaced (near_nodes (c ∷ cs))) = nears_shown k q (c ∷ cs) h in
    record {
      elements = elements_fit k q (all_unplaced (near_nodes (c ∷ cs))) small f s;
      blocks = blocks_fit (suc k) q (all_unplaced (near_nodes (c ∷ cs))) s;
    }

one_drawn : (v : Bool) (calls : List OuterCall) (k : ℕ) (q : Kind) (c : Near) → c.clean ≡ v → k < 200 → MayGroup q (c ∷ []) → IsNear k q c
    → IsDrawnIn k q (cond v c.whole (near_group calls (group_data calls) (c ∷ [])))
one_drawn true calls k q c e small m h = h.drawn e
one_drawn false calls k q c e small (inl f) h = group_drawn calls k q (c ∷ []) small f (h, tt)
one_drawn false calls k q c e small (inr f) h = absurd (let g : false ≡ true = sym e ∙ f.0.0 in cc)

run_drawn : (calls : List OuterCall) (k : ℕ) (q : Kind) (r others : List Near) → IsRun near_tied r others → k < 200 → MayGroup q r
    → AllByRecursion (IsNear k q) r → IsDrawnIn k q (near_run calls (group_data calls) r)
run_drawn calls k q [] others i small m h = absurd i
run_drawn calls k q (c ∷ []) others i small m h = one_drawn c.clean calls k q c refl small m h.0
run_drawn calls k q (c ∷ d ∷ ds) others i small (inl f) h = group_drawn calls k q (c ∷ d ∷ ds) small f h
run_drawn calls k q (c ∷ d ∷ ds) others i small (inr f) h = absurd (let g : false ≡ true = ap not (sym f.1.0.1) ∙ i.0 in cc)

-- ---- two texts that stand next to each other

text_by : (w : Writing) (k : ℕ) (q : Kind) (l : Label) (childless : Bool) (inside : Type 0) → is_as_text w ≡ true
    → NodeIsShown w k q l childless inside → HasLeafKind (texts_of_kind q) (leaf_kind q) l.kind
text_by AsText k q l childless inside e h = h.0.kind
text_by AsVoid k q l childless inside e h = absurd cc
text_by RoundCharacter k q l childless inside e h = absurd cc
text_by RoundChildren k q l childless inside e h = absurd cc
text_by (AsSection n) k q l childless inside e h = absurd h
text_by Unwritten k q l childless inside e h = absurd cc

shown_text : (k : ℕ) (q : Kind) (t : Tree) → is_text t ≡ true → IsShownIn k q t → HasLeafKind (texts_of_kind q) (leaf_kind q) (label t).kind
shown_text k q (tree l ts) e h = text_by (writing l.kind) k q l (is_childless ts) _ e h

near_text : (k : ℕ) (q : Kind) (c : Near) → IsNear k q c → is_text c.whole ≡ true → HasLeafKind (texts_of_kind q) (leaf_kind q) (kind_of c.tree)
near_text k q c h e =
    let same : (label (unplaced c.tree)).kind ≡ kind_of c.tree = shown_kind c.tree in
    subst (λ (x : Kind). HasLeafKind (texts_of_kind q) (leaf_kind q) x) same
    (shown_text (suc k) q (unplaced c.tree) (ap (λ x. is_as_text (writing x)) (same ∙ sym h.kind) ∙ e) h.shown)

one_leaf_kind : (v : Bool) → are_one_kind (cond v kind.Text kind.Sep) (cond v kind.Text kind.Sep) ≡ true
one_leaf_kind true = refl
one_leaf_kind false = refl

one_kind : (q x y : Kind) → x ≡ leaf_kind q → y ≡ leaf_kind q → are_one_kind x y ≡ true
one_kind q x y e f = ap₂ are_one_kind e f ∙ one_leaf_kind (holds_text q)

-- such texts are joined only where they are cut anew, or they are of one kind
same_leaf : (v : Texts) (q x y : Kind) → HasLeafKind v (leaf_kind q) x → HasLeafKind v (leaf_kind q) y → (joins v true ≡ false) ⊎ (are_one_kind x y ≡ true)
same_leaf Separators q x y e f = inr (one_kind q x y e f)
same_leaf Page q x y e f = inr (one_kind q x y e f)
same_leaf Bordered q x y e f = inl refl
same_leaf OwnCharacter q x y e f = inr (one_kind q x y e f)

one_text : (t u : ItemTree) → are_one_kind (kind_of t) (kind_of u) ≡ true → is_own t ≡ true → is_own u ≡ true → is_one_text t u ≡ true
one_text (inner h o ts c) (inner i p us d) e f g = ap₂ (λ x y. x && y) e (ap₂ (λ x y. x && y) f g)

joins_none : (x : Texts) → joins x false ≡ false
joins_none Separators = refl
joins_none Page = refl
joins_none Bordered = refl
joins_none OwnCharacter = refl

and_none : (v : Bool) → (v && false) ≡ false
and_none true = refl
and_none false = refl

pair_by : (v w : Bool) (k : ℕ) (q : Kind) (c d : Near) → is_text c.whole ≡ v → is_text d.whole ≡ w → IsNear k q c → IsNear k q d → c.clean ≡ true
    → d.clean ≡ true → is_one_text c.tree d.tree ≡ false → joins (texts_of_kind q) (v && w) ≡ false
pair_by false w k q c d e f h i x y n = joins_none (texts_of_kind q)
pair_by true false k q c d e f h i x y n = joins_none (texts_of_kind q)
pair_by true true k q c d e f h i x y n =
    by_kind (same_leaf (texts_of_kind q) q (kind_of c.tree) (kind_of d.tree) (near_text k q c h e) (near_text k q d i f))
  where
    by_kind : (joins (texts_of_kind q) true ≡ false) ⊎ (are_one_kind (kind_of c.tree) (kind_of d.tree) ≡ true) → joins (texts_of_kind q) true ≡ false
    by_kind (inl r) = r
    by_kind (inr r) =
        let own_c : is_own c.tree ≡ true = h.own x (ap (λ z. is_as_text (writing z)) (sym h.kind) ∙ e) in
        let own_d : is_own d.tree ≡ true = i.own y (ap (λ z. is_as_text (writing z)) (sym i.kind) ∙ f) in
        absurd (let g : false ≡ true = sym n ∙ one_text c.tree d.tree r own_c own_d in cc)

next_by : (v : Bool) (calls : List OuterCall) (k : ℕ) (q : Kind) (c d : Near) → d.clean ≡ v → IsNear k q c → IsNear k q d → c.clean ≡ true
    → is_one_text c.tree d.tree ≡ false
    → joins (texts_of_kind q) (is_text c.whole && is_text (cond v d.whole (near_group calls (group_data calls) (d ∷ [])))) ≡ false
next_by true calls k q c d e h i x n = pair_by (is_text c.whole) (is_text d.whole) k q c d refl refl h i x e n
next_by false calls k q c d e h i x n = ap (joins (texts_of_kind q)) (and_none (is_text c.whole)) ∙ joins_none (texts_of_kind q)

kept_apart : (calls : List OuterCall) (k : ℕ) (q : Kind) (c : Near) (rs : List (List Near)) (others : List Near) → AreRuns near_tied rs others
    → c.clean ≡ true → IsNear k q c → AllByRecursion (IsNear k q) others → IsApartFrom c.tree (near_nodes others)
    → joins (texts_of_kind q) (is_text c.whole && begins_with_text (trees (map (near_run calls (group_data calls)) rs))) ≡ false
kept_apart calls k q c [] others a x h i n = ap (joins (texts_of_kind q)) (and_none (is_text c.whole)) ∙ joins_none (texts_of_kind q)
kept_apart calls k q c ([] ∷ rs) others a x h i n = absurd a.2
kept_apart calls k q c ((d ∷ []) ∷ rs) others a x h i n =
    let j : AllByRecursion (IsNear k q) (d ∷ a.0) = subst (λ (ds : List Near). AllByRecursion (IsNear k q) ds) a.1 i in
    let m : is_one_text c.tree d.tree ≡ false = subst (λ (ds : List Near). IsApartFrom c.tree (near_nodes ds)) a.1 n in
    next_by d.clean calls k q c d refl h j.0 x m
kept_apart calls k q c ((d ∷ e ∷ ds) ∷ rs) others a x h i n = ap (joins (texts_of_kind q)) (and_none (is_text c.whole)) ∙ joins_none (texts_of_kind q)

one_apart : (v : Bool) (calls : List OuterCall) (k : ℕ) (q : Kind) (c : Near) (rs : List (List Near)) (others : List Near) → AreRuns near_tied rs others
    → c.clean ≡ v → IsNear k q c → AllByRecursion (IsNear k q) others → IsApartFrom c.tree (near_nodes others)
    → joins (texts_of_kind q) (is_text (cond v c.whole (near_group calls (group_data calls) (c ∷ [])))
    && begins_with_text (trees (map (near_run calls (group_data calls)) rs))) ≡ false
one_apart true calls k q c rs others a x h i n = kept_apart calls k q c rs others a x h i n
one_apart false calls k q c rs others a x h i n = joins_none (texts_of_kind q)

run_apart : (calls : List OuterCall) (k : ℕ) (q : Kind) (r : List Near) (rs : List (List Near)) (others : List Near) → AreRuns near_tied rs others
    → AllByRecursion (IsNear k q) (r ++ others) → AreParted (near_nodes (r ++ others))
    → joins (texts_of_kind q) (is_text (near_run calls (group_data calls) r) && begins_with_text (trees (map (near_run calls (group_data calls)) rs))) ≡ false
run_apart calls k q [] rs others a h n = joins_none (texts_of_kind q)
run_apart calls k q (c ∷ []) rs others a h n = one_apart c.clean calls k q c rs others a refl h.0 h.1 n.1
run_apart calls k q (c ∷ d ∷ ds) rs others a h n = joins_none (texts_of_kind q)

-- ---- all runs

pub runs_drawn : (calls : List OuterCall) (k : ℕ) (q : Kind) (rs : List (List Near)) (cs : List Near) → AreRuns near_tied rs cs → k < 200 → MayGroup q cs
    → AllByRecursion (IsNear k q) cs → AreParted (near_nodes cs) → AreDrawnIn k q (trees (map (near_run calls (group_data calls)) rs))
runs_drawn calls k q [] cs a small m h n = tt
runs_drawn calls k q (r ∷ rs) cs a small m h n =
    let m2 : MayGroup q (r ++ a.0) = subst (λ (ds : List Near). MayGroup q ds) a.1 m in
    let h2 : AllByRecursion (IsNear k q) (r ++ a.0) = subst (λ (ds : List Near). AllByRecursion (IsNear k q) ds) a.1 h in
    let n2 : AreParted (near_nodes (r ++ a.0)) = subst (λ (ds : List Near). AreParted (near_nodes ds)) a.1 n in (
      run_drawn calls k q r a.0 a.2 small (may_left q r a.0 m2) (all_left (IsNear k q) r a.0 h2),
      run_apart calls k q r rs a.0 a.3 h2 n2,
      runs_drawn calls k q rs a.0 a.3 small (may_right q r a.0 m2) (all_right (IsNear k q) r a.0 h2) (parted_right r a.0 n2),
    )

-- ---- their order

or_none : (b : Bool) → (b || false) ≡ b
or_none true = refl
or_none false = refl

or_assoc : (a b c : Bool) → (a || (b || c)) ≡ ((a || b) || c)
or_assoc true b c = refl
or_assoc false b c = refl

abbrev on : Trees → Trees → Trees
on none us = us
on (more t ts) us = more t (on ts us)

line_split : (b : Bool) (ts us : Trees) → are_in_line b (on ts us) ≡ true
    → (are_in_line b ts ≡ true) × (are_in_line (b || any_shows_block ts) us ≡ true)
line_split b none us e = (refl, ap (λ x. are_in_line x us) (or_none b) ∙ e)
line_split b (more (tree l ws) ts) us e =
    let p = and_parts (can_follow b l.kind) (are_in_line (b || shows_block (tree l ws)) (on ts us)) e in
    let q = line_split (b || shows_block (tree l ws)) ts us p.1 in (
      ap₂ (λ x y. x && y) p.0 q.0,
      ap (λ x. are_in_line x us) (or_assoc b (shows_block (tree l ws)) (any_shows_block ts)) ∙ q.1,
    )

nodes_on : (cs ds : List Near) → all_unplaced (near_nodes (cs ++ ds)) ≡ on (all_unplaced (near_nodes cs)) (all_unplaced (near_nodes ds))
nodes_on [] ds = refl
nodes_on (c ∷ cs) ds = ap (more (unplaced c.tree)) (nodes_on cs ds)

-- what a child that is kept shows to those behind it
follow_kind : (b : Bool) (k : Kind) → can_follow b k ≡ true → may_follow b k ≡ true
follow_kind false k e = refl
follow_kind true k e = first (is_inline k) (shows_words k) e
  where
    first : (i w : Bool) → not (i || w) ≡ true → not i ≡ true
    first true w e = absurd cc
    first false w e = refl

kept_goes : (b : Bool) (t u : Tree) → (label t).kind ≡ (label u).kind → is_group (label u).kind ≡ false → can_follow b (label u).kind ≡ true
    → goes_behind b t ≡ true
kept_goes b (tree l ts) u e g f =
    if_false (is_group l.kind) _ _ (ap is_group e ∙ g) ∙ ap (may_follow b) e ∙ follow_kind b (label u).kind f

kept_shows : (t u : Tree) → (label t).kind ≡ (label u).kind → is_group (label u).kind ≡ false → shows_block t ≡ shows_block u
kept_shows (tree l ts) (tree m us) e g =
    if_false (is_group l.kind) _ _ (ap is_group e ∙ g) ∙ ap is_block e ∙ sym (if_false (is_group m.kind) _ _ g)

first_follows : (b : Bool) (t : Tree) (ts : Trees) → are_in_line b (more t ts) ≡ true → can_follow b (label t).kind ≡ true
first_follows b (tree l us) ts e = (and_parts (can_follow b l.kind) (are_in_line (b || shows_block (tree l us)) ts) e).0

shown_no_group : (k : ℕ) (q : Kind) (t : Tree) → IsShownIn k q t → is_group (label t).kind ≡ false
shown_no_group k q (tree l ts) h = none_group k q l ts h

-- one tree, in place of the nodes of a run
record StandsFor (b : Bool) (t : Tree) (us : Trees) : Type 0 where
  goes : goes_behind b t ≡ true
  shows : shows_block t ≡ any_shows_block us

group_stands : (b : Bool) (calls : List OuterCall) (k : ℕ) (q : Kind) (cs : List Near) → AllByRecursion (IsNear k q) cs
    → are_in_line b (all_unplaced (near_nodes cs)) ≡ true → StandsFor b (near_group calls (group_data calls) cs) (all_unplaced (near_nodes cs))
group_stands b calls k q [] h o = record { goes = group_follows b (suc k) q none tt o; shows = refl }
group_stands b calls k q (c ∷ cs) h o =
    record { goes = group_follows b (suc k) q (all_unplaced (near_nodes (c ∷ cs))) (nears_shown k q (c ∷ cs) h) o; shows = refl }

one_stands : (v b : Bool) (calls : List OuterCall) (k : ℕ) (q : Kind) (c : Near) → IsNear k q c → are_in_line b (more (unplaced c.tree) none) ≡ true
    → StandsFor b (cond v c.whole (near_group calls (group_data calls) (c ∷ []))) (more (unplaced c.tree) none)
one_stands true b calls k q c h o =
    let e : (label c.whole).kind ≡ (label (unplaced c.tree)).kind = h.kind ∙ sym (shown_kind c.tree) in
    let g : is_group (label (unplaced c.tree)).kind ≡ false = shown_no_group (suc k) q (unplaced c.tree) h.shown in
    record {
      goes = kept_goes b c.whole (unplaced c.tree) e g (first_follows b (unplaced c.tree) none o);
      shows = kept_shows c.whole (unplaced c.tree) e g ∙ sym (or_none (shows_block (unplaced c.tree)));
    }
one_stands false b calls k q c h o = group_stands b calls k q (c ∷ []) (h, tt) o

run_stands : (b : Bool) (calls : List OuterCall) (k : ℕ) (q : Kind) (cs : List Near) → AllByRecursion (IsNear k q) cs
    → are_in_line b (all_unplaced (near_nodes cs)) ≡ true → StandsFor b (near_run calls (group_data calls) cs) (all_unplaced (near_nodes cs))
run_stands b calls k q [] h o = group_stands b calls k q [] h o
run_stands b calls k q (c ∷ []) h o = one_stands c.clean b calls k q c h.0 o
run_stands b calls k q (c ∷ d ∷ ds) h o = group_stands b calls k q (c ∷ d ∷ ds) h o

pub runs_ordered : (b : Bool) (calls : List OuterCall) (k : ℕ) (q : Kind) (rs : List (List Near)) (cs : List Near) → AreRuns near_tied rs cs
    → AllByRecursion (IsNear k q) cs → are_in_line b (all_unplaced (near_nodes cs)) ≡ true
    → are_ordered b (trees (map (near_run calls (group_data calls)) rs)) ≡ true
runs_ordered b calls k q [] cs a h o = refl
runs_ordered b calls k q (r ∷ rs) cs a h o =
    let h2 : AllByRecursion (IsNear k q) (r ++ a.0) = subst (λ (ds : List Near). AllByRecursion (IsNear k q) ds) a.1 h in
    let o2 : are_in_line b (on (all_unplaced (near_nodes r)) (all_unplaced (near_nodes a.0))) ≡ true =
    ap (are_in_line b) (sym (nodes_on r a.0)) ∙ ap (λ ds. are_in_line b (all_unplaced (near_nodes ds))) (sym a.1) ∙ o in
    let p = line_split b (all_unplaced (near_nodes r)) (all_unplaced (near_nodes a.0)) o2 in
    let s : StandsFor b (near_run calls (group_data calls) r) (all_unplaced (near_nodes r)) =
    run_stands b calls k q r (all_left (IsNear k q) r a.0 h2) p.0 in
    let rest : Trees = trees (map (near_run calls (group_data calls)) rs) in
    ap₂ (λ x y. x && are_ordered (b || y) rest) s.goes s.shows
    ∙ runs_ordered (b || any_shows_block (all_unplaced (near_nodes r))) calls k q rs a.0 a.3 (all_right (IsNear k q) r a.0 h2) p.1

pub order_drawn : (x : Texts) (calls : List OuterCall) (k : ℕ) (q : Kind) (rs : List (List Near)) (cs : List Near) → AreRuns near_tied rs cs
    → AllByRecursion (IsNear k q) cs → IsOrdered x (all_unplaced (near_nodes cs)) → IsInOrder x (trees (map (near_run calls (group_data calls)) rs))
order_drawn Separators calls k q rs cs a h o = tt
order_drawn Page calls k q rs cs a h o = tt
order_drawn Bordered calls k q rs cs a h o = runs_ordered false calls k q rs cs a h o
order_drawn OwnCharacter calls k q rs cs a h o = tt
