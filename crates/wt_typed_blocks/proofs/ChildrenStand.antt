-- Nothing is wrong with children exactly where each is white space, the page's, or a new block that holds well, and a list keeps an item.
use Rattle.std.proofs.Common.{◌≡◌, ◌≢◌, ◌⊎◌, ◌↔◌, inl, inr, ℕ, Bool, true, false, List, [], ◌∷◌, ◌++◌, None, refl, sym, ap, ◌∙◌, subst}
use Rattle.std.specs.Prelude.{◌==◌, ◌||◌, ◌&&◌, not, if◌then◌else◌, map}
use Rattle.std.proofs.lemmas.Bool.Decides.{Decides-eqb}
use Rattle.wt_tree.specs.declared.kind.Kind.{Kind}
use Rattle.wt_tree.specs.declared.kind.Kind.TheVariants as kind
use Rattle.wt_tree.specs.declared.kind.Mark.TheVariants as mark
use Rattle.wt_tree.specs.Kinds.{is_leaf}
use Rattle.wt_tree.specs.Source.{flat}
use Rattle.wt_tree.specs.Tree.{Label, Tree, tree, Trees, none, more, label}
use Rattle.wt_tree.specs.EditShapes.{edit_shape}
use Rattle.wt_original.specs.Kept.{Kept, holds_kept, kept_nodes, kept_of}
use Rattle.wt_original.specs.Page.{Page, no_page, page_of}
use Rattle.wt_content.specs.declared.children.Holder.{Holder}
use Rattle.wt_content.specs.declared.children.Holder.TheVariants as holder
use Rattle.wt_content.specs.declared.reason.ContentWhy.{ContentWhy}
use Rattle.wt_content.specs.declared.reason.ContentWhy.TheVariants as why
use Rattle.wt_content.specs.Children.{all_child_faults, any_kept_child, bad_children, child_faults, children_faults, empty_fault, holder_of, if_any_held, inside_faults, is_child, is_kept_child, is_mark, is_rule, is_space, may_come, new_faults}
use Rattle.wt_content.specs.Content.{all_faults, bad_content, content_faults, first_why, held, outermost}
use Rattle.wt_content.specs.ContentLaws.{IsFirstReason}
use Rattle.wt_content.specs.Grammar.{AreContent}
use Rattle.wt_content.proofs.FirstReason.{first_reason, first_of_children}
use Rattle.wt_content.proofs.GrammarLaws.{grammar_is_taken, taken_is_of_grammar}
use Rattle.wt_content.proofs.LinksApart.{nil_left, nil_right}
use Rattle.wt_typed_blocks.specs.NewChildren.{AreChildren, AreEachChildren, HasOldItem, HoldsWell, IsChild, IsNewBlock, IsOldItem, KeepsItem}

-- ---- kinds

space_is : (k : Kind) → is_space k ≡ true → k ≡ kind.Sep
space_is kind.Body e = cc
space_is (kind.Section n) e = cc
space_is kind.Para e = cc
space_is (kind.Heading n) e = cc
space_is kind.Rule e = cc
space_is kind.Ul e = cc
space_is kind.Ol e = cc
space_is kind.Dl e = cc
space_is kind.Li e = cc
space_is kind.Dt e = cc
space_is kind.Dd e = cc
space_is kind.Pre e = cc
space_is kind.Table e = cc
space_is kind.Tbody e = cc
space_is kind.Tr e = cc
space_is kind.Caption e = cc
space_is kind.Td e = cc
space_is kind.Th e = cc
space_is kind.Bold e = cc
space_is kind.Italic e = cc
space_is kind.WikiLink e = cc
space_is kind.ExtLink e = cc
space_is kind.Category e = cc
space_is (kind.Tag t) e = cc
space_is kind.Br e = cc
space_is kind.Entity e = cc
space_is kind.Nowiki e = cc
space_is kind.Island e = cc
space_is kind.Switch e = cc
space_is kind.Comment e = cc
space_is kind.Include e = cc
space_is kind.Skip e = cc
space_is kind.Sep e = refl
space_is kind.Text e = cc
space_is kind.Group e = cc
space_is kind.Empty e = cc

new_in_body : (k : Kind) → may_come holder.Body (edit_shape k).form ≡ true → IsNewBlock holder.Body k
new_in_body kind.Body e = cc
new_in_body (kind.Section n) e = cc
new_in_body kind.Para e = inl refl
new_in_body (kind.Heading n) e = inr (inl (n, refl))
new_in_body kind.Rule e = inr (inr refl)
new_in_body kind.Ul e = cc
new_in_body kind.Ol e = cc
new_in_body kind.Dl e = cc
new_in_body kind.Li e = cc
new_in_body kind.Dt e = cc
new_in_body kind.Dd e = cc
new_in_body kind.Pre e = cc
new_in_body kind.Table e = cc
new_in_body kind.Tbody e = cc
new_in_body kind.Tr e = cc
new_in_body kind.Caption e = cc
new_in_body kind.Td e = cc
new_in_body kind.Th e = cc
new_in_body kind.Bold e = cc
new_in_body kind.Italic e = cc
new_in_body kind.WikiLink e = cc
new_in_body kind.ExtLink e = cc
new_in_body kind.Category e = cc
new_in_body (kind.Tag t) e = cc
new_in_body kind.Br e = cc
new_in_body kind.Entity e = cc
new_in_body kind.Nowiki e = cc
new_in_body kind.Island e = cc
new_in_body kind.Switch e = cc
new_in_body kind.Comment e = cc
new_in_body kind.Include e = cc
new_in_body kind.Skip e = cc
new_in_body kind.Sep e = cc
new_in_body kind.Text e = cc
new_in_body kind.Group e = cc
new_in_body kind.Empty e = cc

new_in_list : (k : Kind) → may_come holder.List (edit_shape k).form ≡ true → IsNewBlock holder.List k
new_in_list kind.Body e = cc
new_in_list (kind.Section n) e = cc
new_in_list kind.Para e = cc
new_in_list (kind.Heading n) e = cc
new_in_list kind.Rule e = cc
new_in_list kind.Ul e = cc
new_in_list kind.Ol e = cc
new_in_list kind.Dl e = cc
new_in_list kind.Li e = refl
new_in_list kind.Dt e = cc
new_in_list kind.Dd e = cc
new_in_list kind.Pre e = cc
new_in_list kind.Table e = cc
new_in_list kind.Tbody e = cc
new_in_list kind.Tr e = cc
new_in_list kind.Caption e = cc
new_in_list kind.Td e = cc
new_in_list kind.Th e = cc
new_in_list kind.Bold e = cc
new_in_list kind.Italic e = cc
new_in_list kind.WikiLink e = cc
new_in_list kind.ExtLink e = cc
new_in_list kind.Category e = cc
new_in_list (kind.Tag t) e = cc
new_in_list kind.Br e = cc
new_in_list kind.Entity e = cc
new_in_list kind.Nowiki e = cc
new_in_list kind.Island e = cc
new_in_list kind.Switch e = cc
new_in_list kind.Comment e = cc
new_in_list kind.Include e = cc
new_in_list kind.Skip e = cc
new_in_list kind.Sep e = cc
new_in_list kind.Text e = cc
new_in_list kind.Group e = cc
new_in_list kind.Empty e = cc

rule_is : (k : Kind) → is_rule (edit_shape k).form ≡ true → k ≡ kind.Rule
rule_is kind.Body e = cc
rule_is (kind.Section n) e = cc
rule_is kind.Para e = cc
rule_is (kind.Heading n) e = cc
rule_is kind.Rule e = refl
rule_is kind.Ul e = cc
rule_is kind.Ol e = cc
rule_is kind.Dl e = cc
rule_is kind.Li e = cc
rule_is kind.Dt e = cc
rule_is kind.Dd e = cc
rule_is kind.Pre e = cc
rule_is kind.Table e = cc
rule_is kind.Tbody e = cc
rule_is kind.Tr e = cc
rule_is kind.Caption e = cc
rule_is kind.Td e = cc
rule_is kind.Th e = cc
rule_is kind.Bold e = cc
rule_is kind.Italic e = cc
rule_is kind.WikiLink e = cc
rule_is kind.ExtLink e = cc
rule_is kind.Category e = cc
rule_is (kind.Tag t) e = cc
rule_is kind.Br e = cc
rule_is kind.Entity e = cc
rule_is kind.Nowiki e = cc
rule_is kind.Island e = cc
rule_is kind.Switch e = cc
rule_is kind.Comment e = cc
rule_is kind.Include e = cc
rule_is kind.Skip e = cc
rule_is kind.Sep e = cc
rule_is kind.Text e = cc
rule_is kind.Group e = cc
rule_is kind.Empty e = cc

mark_is : (k : Kind) → is_mark k ≡ true → (k ≡ kind.Comment) ⊎ (k ≡ kind.Include)
mark_is kind.Body e = cc
mark_is (kind.Section n) e = cc
mark_is kind.Para e = cc
mark_is (kind.Heading n) e = cc
mark_is kind.Rule e = cc
mark_is kind.Ul e = cc
mark_is kind.Ol e = cc
mark_is kind.Dl e = cc
mark_is kind.Li e = cc
mark_is kind.Dt e = cc
mark_is kind.Dd e = cc
mark_is kind.Pre e = cc
mark_is kind.Table e = cc
mark_is kind.Tbody e = cc
mark_is kind.Tr e = cc
mark_is kind.Caption e = cc
mark_is kind.Td e = cc
mark_is kind.Th e = cc
mark_is kind.Bold e = cc
mark_is kind.Italic e = cc
mark_is kind.WikiLink e = cc
mark_is kind.ExtLink e = cc
mark_is kind.Category e = cc
mark_is (kind.Tag t) e = cc
mark_is kind.Br e = cc
mark_is kind.Entity e = cc
mark_is kind.Nowiki e = cc
mark_is kind.Island e = cc
mark_is kind.Switch e = cc
mark_is kind.Comment e = inl refl
mark_is kind.Include e = inr refl
mark_is kind.Skip e = cc
mark_is kind.Sep e = cc
mark_is kind.Text e = cc
mark_is kind.Group e = cc
mark_is kind.Empty e = cc

new_block : (h : Holder) (k : Kind) → may_come h (edit_shape k).form ≡ true → IsNewBlock h k
new_block holder.Body k e = new_in_body k e
new_block holder.List k e = new_in_list k e

block_comes : (h : Holder) (k : Kind) → IsNewBlock h k → may_come h (edit_shape k).form ≡ true
block_comes holder.Body k (inl e) = subst (λ (j : Kind). may_come holder.Body (edit_shape j).form ≡ true) (sym e) refl
block_comes holder.Body k (inr (inl e)) = subst (λ (j : Kind). may_come holder.Body (edit_shape j).form ≡ true) (sym e.1) refl
block_comes holder.Body k (inr (inr e)) = subst (λ (j : Kind). may_come holder.Body (edit_shape j).form ≡ true) (sym e) refl
block_comes holder.List k e = subst (λ (j : Kind). may_come holder.List (edit_shape j).form ≡ true) (sym e) refl

is_the_rule : (k : Kind) → k ≡ kind.Rule → is_rule (edit_shape k).form ≡ true
is_the_rule k e = subst (λ (j : Kind). is_rule (edit_shape j).form ≡ true) (sym e) refl

not_true : (b : Bool) → (b ≡ true → ⊥) → b ≡ false
not_true true f = absurd (f refl)
not_true false f = refl

-- ---- what a new block holds, as the content of one that was empty

abbrev empty_label : Kind → Label
empty_label k = record {
  kind = k;
  id = 0;
  ranges = None;
  opening = [];
  closing = [];
  own = [];
  shown = [];
  attrs = [];
  mark = mark.Nothing;
  mw = None;
  origin = None;
}

abbrev empty : Kind → Tree
empty k = tree (empty_label k) none

either : {A : Type 0} (b : Bool) (x : A) → (if b then x else x) ≡ x
either true x = refl
either false x = refl

nothing_found : (block : Tree) (b : Bool) → map (kept_of block) ([] ++ (if b then [] else [])) ≡ []
nothing_found block true = refl
nothing_found block false = refl

no_kept : (k : Kind) → kept_nodes (empty k) ≡ []
no_kept k = nothing_found (empty k) (holds_kept (empty_label k))

no_source : (k : Kind) → flat (empty k) ≡ []
no_source k = either (is_leaf k) []

abbrev page_with : (Tree → Tree → Bool) → List Kept → List ℕ → Page
page_with same kept source = record { kept = kept; source = source; same = same }

no_page_of : (same : Tree → Tree → Bool) (k : Kind) → page_of same (empty k) ≡ no_page same
no_page_of same k = ap (λ (ks : List Kept). page_with same ks (flat (empty k))) (no_kept k) ∙ ap (page_with same []) (no_source k)

faults_of : (same : Tree → Tree → Bool) (u : Tree) → content_faults same (empty (label u).kind) u ≡ all_faults (no_page same) (outermost u) (held u)
faults_of same u = ap (λ (p : Page). all_faults p (outermost u) (held u)) (no_page_of same (label u).kind)

none_bad : (same : Tree → Tree → Bool) (old u : Tree) → content_faults same old u ≡ [] → bad_content same old u ≡ None
unfolding bad_content
none_bad same old u e = ap first_why e

inside_well : (same : Tree → Tree → Bool) (u : Tree) → all_faults (no_page same) (outermost u) (held u) ≡ [] → AreContent (no_page same) (outermost u) (held u)
inside_well same u e =
    let old = empty (label u).kind in
    subst (λ (p : Page). AreContent p (outermost u) (held u)) (no_page_of same (label u).kind)
    (taken_is_of_grammar same old u (none_bad same old u (faults_of same u ∙ e)))

well_inside : (same : Tree → Tree → Bool) (u : Tree) → AreContent (no_page same) (outermost u) (held u) → all_faults (no_page same) (outermost u) (held u) ≡ []
well_inside same u h =
    let old = empty (label u).kind in
    let none = grammar_is_taken same old u (subst (λ (p : Page). AreContent p (outermost u) (held u)) (sym (no_page_of same (label u).kind)) h) in
    sym (faults_of same u) ∙ subst (IsFirstReason (content_faults same old u)) none (first_reason same old u)

none_held : (ts : Trees) → if_any_held ts ≡ [] → ts ≡ none
none_held none e = refl
none_held (more t ts) e = cc

-- ---- one child

inside_by : (same : Tree → Tree → Bool) (u : Tree) (r : Bool) → is_rule (edit_shape (label u).kind).form ≡ r
    → (if r then if_any_held (held u) else all_faults (no_page same) (outermost u) (held u)) ≡ []
    → HoldsWell same u
inside_by same u true i e = inl (rule_is (label u).kind i, none_held (held u) e)
inside_by same u false i e = inr (λ k. let no : true ≡ false = sym (is_the_rule (label u).kind k) ∙ i in cc, inside_well same u e)

new_by : (same : Tree → Tree → Bool) (h : Holder) (u : Tree) (m : Bool) → may_come h (edit_shape (label u).kind).form ≡ m
    → (if m then inside_faults same (edit_shape (label u).kind).form u else why.Element ∷ []) ≡ []
    → IsNewBlock h (label u).kind × HoldsWell same u
new_by same h u true i e = (new_block h (label u).kind i, inside_by same u (is_rule (edit_shape (label u).kind).form) refl e)
new_by same h u false i e = cc

child_by : (same : Tree → Tree → Bool) (h : Holder) (u : Tree) (s z : Bool) → is_space (label u).kind ≡ s → ((label u).id == 0) ≡ z
    → (if s || not z then [] else new_faults same h (edit_shape (label u).kind).form u) ≡ []
    → IsChild same h u
child_by same h u true z i j e = inl (space_is (label u).kind i)
child_by same h u false false i j e = inr (inl (λ k. let no : true ≡ false = sym ((Decides-eqb (label u).id 0).1 k) ∙ j in cc))
child_by same h u false true i j e = inr (inr (new_by same h u (may_come h (edit_shape (label u).kind).form) refl e))

child_is : (same : Tree → Tree → Bool) (h : Holder) (u : Tree) → child_faults same h u ≡ [] → IsChild same h u
child_is same h u e = child_by same h u (is_space (label u).kind) ((label u).id == 0) refl refl e

skipped_first : (a b : Bool) (ws : List ContentWhy) → a ≡ true → (if a || not b then [] else ws) ≡ []
skipped_first true b ws e = refl
skipped_first false b ws e = cc

skipped_second : (a b : Bool) (ws : List ContentWhy) → b ≡ false → (if a || not b then [] else ws) ≡ []
skipped_second true b ws e = refl
skipped_second false true ws e = cc
skipped_second false false ws e = refl

nothing_wrong : (a : Bool) (ws : List ContentWhy) → ws ≡ [] → (if a then [] else ws) ≡ []
nothing_wrong true ws e = refl
nothing_wrong false ws e = e

holds_nothing_wrong : (same : Tree → Tree → Bool) (u : Tree) → HoldsWell same u → inside_faults same (edit_shape (label u).kind).form u ≡ []
holds_nothing_wrong same u (inl h) = rw (is_the_rule (label u).kind h.0) (ap if_any_held h.1)
holds_nothing_wrong same u (inr h) =
    let other : is_rule (edit_shape (label u).kind).form ≡ false =
    not_true (is_rule (edit_shape (label u).kind).form) (λ e. h.0 (rule_is (label u).kind e)) in
    rw other (well_inside same u h.1)

is_well : (same : Tree → Tree → Bool) (h : Holder) (u : Tree) → IsChild same h u → child_faults same h u ≡ []
is_well same h u (inl e) =
    skipped_first (is_space (label u).kind) ((label u).id == 0) (new_faults same h (edit_shape (label u).kind).form u) (ap is_space e)
is_well same h u (inr (inl other)) =
    skipped_second (is_space (label u).kind) ((label u).id == 0) (new_faults same h (edit_shape (label u).kind).form u)
    (not_true ((label u).id == 0) (λ e. other ((Decides-eqb (label u).id 0).0 e)))
is_well same h u (inr (inr new)) =
    nothing_wrong (is_space (label u).kind || not ((label u).id == 0)) (new_faults same h (edit_shape (label u).kind).form u)
    (rw (block_comes h (label u).kind new.0) (holds_nothing_wrong same u new.1))

-- ---- all of them

no_more : (xs ys : List ContentWhy) → xs ≡ [] → ys ≡ [] → xs ++ ys ≡ []
no_more xs ys e f = ap (λ ws. ws ++ ys) e ∙ f

each_is : (same : Tree → Tree → Bool) (h : Holder) (us : Trees) → all_child_faults same h us ≡ [] → AreEachChildren same h us
each_is same h none e = tt
each_is same h (more u us) e = (
  child_is same h u (nil_left (child_faults same h u) (all_child_faults same h us) e),
  each_is same h us (nil_right (child_faults same h u) (all_child_faults same h us) e),
)

each_well : (same : Tree → Tree → Bool) (h : Holder) (us : Trees) → AreEachChildren same h us → all_child_faults same h us ≡ []
each_well same h none c = refl
each_well same h (more u us) c = no_more (child_faults same h u) (all_child_faults same h us) (is_well same h u c.0) (each_well same h us c.1)

both_true : (a b : Bool) → (a && b) ≡ true → (a ≡ true) × (b ≡ true)
both_true true b e = (refl, e)
both_true false b e = cc

numbered : (id : ℕ) → not (id == 0) ≡ true → id ≢ 0
numbered id e i = let z : (id == 0) ≡ true = (Decides-eqb id 0).1 i in let no : false ≡ true = sym (ap not z) ∙ e in cc

no_such : (k j : Kind) → is_child holder.List k ≡ true → is_child holder.List j ≡ false → k ≢ j
no_such k j e f i = let no : true ≡ false = sym e ∙ (ap (is_child holder.List) i ∙ f) in cc

item_is : (u : Tree) → is_kept_child holder.List u ≡ true → IsOldItem u
item_is u e =
    let b = both_true (is_child holder.List (label u).kind) (not ((label u).id == 0)) e in (
      numbered (label u).id b.1,
      no_such (label u).kind kind.Sep b.0 refl,
      no_such (label u).kind kind.Comment b.0 refl,
      no_such (label u).kind kind.Include b.0 refl,
    )

is_item : (u : Tree) → IsOldItem u → is_kept_child holder.List u ≡ true
is_item u h =
    let space : is_space (label u).kind ≡ false = not_true (is_space (label u).kind) (λ e. h.1 (space_is (label u).kind e)) in
    let mark : is_mark (label u).kind ≡ false = not_true (is_mark (label u).kind) (λ e. elim (mark_is (label u).kind e) [ inl i ↦ h.2 i | inr i ↦ h.3 i ]) in
    let number : ((label u).id == 0) ≡ false = not_true ((label u).id == 0) (λ e. h.0 ((Decides-eqb (label u).id 0).0 e)) in
    rw (space, mark, number) refl

some_by : (a b : Bool) (A B : Type 0) → (a ≡ true → A) → (b ≡ true → B) → (a || b) ≡ true → A ⊎ B
some_by true b A B f g e = inl (f refl)
some_by false b A B f g e = inr (g e)

some_item : (us : Trees) → any_kept_child holder.List us ≡ true → HasOldItem us
some_item none e = cc
some_item (more u us) e =
    some_by (is_kept_child holder.List u) (any_kept_child holder.List us) (IsOldItem u) (HasOldItem us) (item_is u) (some_item us) e

or_first : (a b : Bool) → a ≡ true → (a || b) ≡ true
or_first true b e = refl
or_first false b e = cc

or_second : (a b : Bool) → b ≡ true → (a || b) ≡ true
or_second true b e = refl
or_second false b e = e

item_there : (us : Trees) → HasOldItem us → any_kept_child holder.List us ≡ true
item_there none h = absurd h
item_there (more u us) (inl h) = or_first (is_kept_child holder.List u) (any_kept_child holder.List us) (is_item u h)
item_there (more u us) (inr h) = or_second (is_kept_child holder.List u) (any_kept_child holder.List us) (item_there us h)

kept_if : (b : Bool) → (if b then [] else why.EmptyList ∷ []) ≡ [] → b ≡ true
kept_if true e = refl
kept_if false e = cc

keeps : (h : Holder) (us : Trees) → empty_fault h us ≡ [] → KeepsItem h us
keeps holder.Body us e = tt
keeps holder.List us e = some_item us (kept_if (any_kept_child holder.List us) e)

kept : (h : Holder) (us : Trees) → KeepsItem h us → empty_fault h us ≡ []
kept holder.Body us k = refl
kept holder.List us k = rw (item_there us k) refl

are : (same : Tree → Tree → Bool) (new : Tree) → bad_children same new ≡ None → AreChildren same (holder_of (label new).kind) (held new)
are same new e =
    let h = holder_of (label new).kind in
    let us = held new in
    let none = subst (IsFirstReason (children_faults same h us)) e (first_of_children same new) in (
      each_is same h us (nil_left (all_child_faults same h us) (empty_fault h us) none),
      keeps h us (nil_right (all_child_faults same h us) (empty_fault h us) none),
    )

stand : (same : Tree → Tree → Bool) (new : Tree) → AreChildren same (holder_of (label new).kind) (held new) → bad_children same new ≡ None
unfolding bad_children
stand same new c =
    let h = holder_of (label new).kind in
    let us = held new in
    ap first_why (no_more (all_child_faults same h us) (empty_fault h us) (each_well same h us c.0) (kept h us c.1))

pub children_stand : (same : Tree → Tree → Bool) (new : Tree)
    → (bad_children same new ≡ None) ↔ AreChildren same (holder_of (label new).kind) (held new)
children_stand same new = (are same new, stand same new)
