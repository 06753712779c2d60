-- What is sent of a block as it is in the page has the signs that the block has there.
use Rattle.std.proofs.Common.{arith, ◌≡◌, ◌≢◌, ℕ, ◌+◌, ◌<◌, ◌≤◌, ◌==◌, Bool, true, false, Option, Some, None, List, [], ◌∷◌, ◌++◌, length, map, refl, ap, ◌∙◌, subst}
use Rattle.std.specs.Prelude.{◌&&◌, ◌||◌, not, if◌then◌else◌}
use Rattle.wt_names.proofs.Cuts.{differs}
use Rattle.wt_tree.specs.declared.kind.Kind.{Kind}
use Rattle.wt_tree.specs.declared.kind.Kind.TheVariants as kind
use Rattle.wt_tree.specs.Kinds.{is_leaf}
use Rattle.wt_tree.specs.Plain.{plain}
use Rattle.wt_tree.specs.Source.{flat}
use Rattle.wt_tree.specs.Tiling.{is_group, HasNoGroup, NoneIsGroup}
use Rattle.wt_tree.specs.Tree.{Label, Tree, tree, Trees, none, more, label}
use Rattle.wt_tree.specs.EditShapes.{edit_shape}
use Rattle.wt_tree.specs.declared.edit_shape.InlineForm.{InlineForm}
use Rattle.wt_tree.specs.declared.edit_shape.InlineForm.TheVariants as inline
use Rattle.wt_tree.specs.declared.edit_shape.Place.{Place}
use Rattle.wt_guards.specs.Content.{ContentSign}
use Rattle.wt_original.specs.Kept.{Kept, KeptNode, kept_with, first_with, kept_of, kept_nodes, items, visible, is_delimited, holds_kept, found_at, found_if, found_from, found_in}
use Rattle.wt_original.specs.Numbers.{counts_up}
use Rattle.wt_original.specs.Page.{page_of, TellsSame, node_or, restored, restored_all, is_unchanged}
use Rattle.wt_original.proofs.Numbers.{first_is, pass, stop}
use Rattle.wt_link_spelling.specs.Spelling.{unless_kept, as_it_stood, anew_by, signs_by, signs_of_all, children_of}
use Rattle.wt_beside_laws.specs.OwnSigns.{own_node, own_by, own_signs, HasOwnBy, HaveOwn, IsFlatBlock}
use Rattle.wt_beside_laws.specs.SentNodes.{IsUnchanged, IsSentBy, AreSent}

-- ---- nodes are found by their numbers

abbrev pub Every : {A : Type 0} → (A → Type 0) → List A → Type 0
Every P [] = Unit {0}
Every P (x ∷ xs) = P x × Every P xs

pub every_weaker : {A : Type 0} (P Q : A → Type 0) → ((x : A) → P x → Q x) → (xs : List A) → Every P xs → Every Q xs
every_weaker P Q f [] h = tt
every_weaker P Q f (x ∷ xs) h = (f x h.0, every_weaker P Q f xs h.1)

pub every_left : {A : Type 0} (P : A → Type 0) (xs ys : List A) → Every P (xs ++ ys) → Every P xs
every_left P [] ys h = tt
every_left P (x ∷ xs) ys h = (h.0, every_left P xs ys h.1)

pub every_right : {A : Type 0} (P : A → Type 0) (xs ys : List A) → Every P (xs ++ ys) → Every P ys
every_right P [] ys h = h
every_right P (x ∷ xs) ys h = every_right P xs ys h.1

every_of_map : {A B : Type 0} (P : B → Type 0) (f : A → B) (xs : List A) → Every P (map f xs) → Every (λ x. P (f x)) xs
every_of_map P f [] h = tt
every_of_map P f (x ∷ xs) h = (h.0, every_of_map P f xs h.1)

abbrev number : Kept → ℕ
number k = (label k.node).id

firsts : (n : ℕ) (ks : List Kept) → counts_up n ks ≡ true → Every (λ k. (n ≤ number k) × (first_with (number k) ks ≡ Some k)) ks
firsts n [] e = tt
firsts n (k ∷ ks) e =
    let h = first_is n k ks e in
    let more_of : (x : Kept) → (n + 1 ≤ number x) × (first_with (number x) ks ≡ Some x) → (n ≤ number x) × (first_with (number x) (k ∷ ks) ≡ Some x) =
    λ x r. let other : number k ≢ number x = omega (arith, h.0, r.0) in (omega (arith, r.0), pass (number x) k ks other ∙ r.1) in
    ((omega (arith, h.0), stop (number k) k ks refl), every_weaker _ _ more_of ks (firsts (n + 1) ks h.1))

with_number : (m : ℕ) (ks : List Kept) → m ≢ 0 → kept_with m ks ≡ first_with m ks
unfolding kept_with
with_number m ks h = ap (λ (t : Bool). if t then None else first_with m ks) (differs m 0 h)

abbrev pub Finds : Tree → KeptNode → Type 0
Finds block f = kept_with (label f.node).id (kept_nodes block) ≡ Some (kept_of block f)

pub all_found : (block : Tree) (n : ℕ) → 0 < n → counts_up n (kept_nodes block) ≡ true → Every (Finds block) (found_from 0 0 block)
all_found block n lt e =
    let ks = kept_nodes block in
    let here : (k : Kept) → (n ≤ number k) × (first_with (number k) ks ≡ Some k) → kept_with (number k) ks ≡ Some k =
    λ k r. let some : number k ≢ 0 = omega (arith, lt, r.0) in with_number (number k) ks some ∙ r.1 in
    every_of_map (λ k. kept_with (number k) ks ≡ Some k) (kept_of block) (found_from 0 0 block) (every_weaker _ _ here ks (firsts n ks e))

-- the node itself is among those that are found, if it has a number
pub own_found : (P : KeptNode → Type 0) (at from : ℕ) (l : Label) (ts : Trees) → l.id ≢ 0 → Every P (found_from at from (tree l ts)) → P (found_at at from (tree l ts))
own_found P at from l ts h e =
    let inside : List KeptNode = if holds_kept l then found_in (at + length l.opening) (from + length l.opening) ts else [] in
    (subst (λ (t : Bool). Every P (found_if t (found_at at from (tree l ts)) ++ inside)) (differs l.id 0 h) e).0

pub inside_found : (P : KeptNode → Type 0) (at from : ℕ) (l : Label) (ts : Trees) → holds_kept l ≡ true → Every P (found_from at from (tree l ts))
    → Every P (found_in (at + length l.opening) (from + length l.opening) ts)
inside_found P at from l ts h e =
    let inner = if holds_kept l then found_in (at + length l.opening) (from + length l.opening) ts else [] in
    subst (λ (t : Bool). Every P (if t then found_in (at + length l.opening) (from + length l.opening) ts else [])) h
    (every_right P (found_if (l.id == 0) (found_at at from (tree l ts))) inner e)

-- what is no leaf has delimiters round its items
pub held_if : (k : Kind) → is_leaf k ≡ false → (not (is_leaf k) && is_delimited (edit_shape k).items) ≡ true
held_if kind.Body e = refl
held_if (kind.Section n) e = refl
held_if kind.Para e = refl
held_if (kind.Heading n) e = refl
held_if kind.Rule e = cc
held_if kind.Ul e = refl
held_if kind.Ol e = refl
held_if kind.Dl e = refl
held_if kind.Li e = refl
held_if kind.Dt e = refl
held_if kind.Dd e = refl
held_if kind.Pre e = refl
held_if kind.Table e = refl
held_if kind.Tbody e = refl
held_if kind.Tr e = refl
held_if kind.Caption e = refl
held_if kind.Td e = refl
held_if kind.Th e = refl
held_if kind.Bold e = refl
held_if kind.Italic e = refl
held_if kind.WikiLink e = refl
held_if kind.ExtLink e = refl
held_if kind.Category e = cc
held_if (kind.Tag t) e = refl
held_if kind.Br e = cc
held_if kind.Entity e = cc
held_if kind.Nowiki e = refl
held_if kind.Island e = cc
held_if kind.Switch e = cc
held_if kind.Comment e = cc
held_if kind.Include e = cc
held_if kind.Skip e = cc
held_if kind.Sep e = cc
held_if kind.Text e = cc
held_if kind.Group e = cc
held_if kind.Empty e = cc

-- ---- a node without groups is restored to itself

mutual
  restored_same : (ks : List Kept) (t : Tree) → HasNoGroup t → restored ks t ≡ t
  restored_same ks (tree l ts) h =
      ap (λ (b : Bool). if b then node_or (tree l ts) (kept_with l.id ks) else tree l (restored_all ks ts)) h.0 ∙ ap (tree l) (all_same ks ts h.1)

  all_same : (ks : List Kept) (ts : Trees) → NoneIsGroup ts → restored_all ks ts ≡ ts
  all_same ks none h = refl
  all_same ks (more t ts) h = ap (λ (u : Tree). more u (restored_all ks ts)) (restored_same ks t h.0) ∙ ap (more t) (all_same ks ts h.1)

or_true : (b : Bool) → (b || true) ≡ true
or_true true = refl
or_true false = refl

-- so it is unchanged
pub own_unchanged : (same : Tree → Tree → Bool) (block t : Tree) (at from : ℕ) → TellsSame same → HasNoGroup t
    → is_unchanged (page_of same block) (kept_of block (found_at at from t)) t ≡ true
own_unchanged same block t at from tells h =
    let e : restored (kept_nodes block) t ≡ t = restored_same (kept_nodes block) t h in
    let is : same (restored (kept_nodes block) t) t ≡ true =
    (tells (restored (kept_nodes block) t) t).1 (ap (λ (u : Tree). (label u).kind) e, ap plain e) in
    ap (λ (b : Bool). is_group (label t).kind || b) is ∙ or_true (is_group (label t).kind)

-- ---- the signs

unless_own : (same : Tree → Tree → Bool) (block : Tree) (at from : ℕ) (l : Label) (ts : Trees) (new : List ContentSign) → TellsSame same → HasNoGroup (tree l ts)
    → Finds block (found_at at from (tree l ts))
    → unless_kept (page_of same block) (kept_with l.id (kept_nodes block)) (tree l ts) new ≡ own_node block at from (tree l ts)
unless_own same block at from l ts new tells h f =
    ap (λ (k : Option Kept). unless_kept (page_of same block) k (tree l ts) new) f
    ∙ ap (λ (b : Bool). if b then own_node block at from (tree l ts) else new) (own_unchanged same block (tree l ts) at from tells h)

one_own : (w : InlineForm) (same : Tree → Tree → Bool) (block : Tree) (pl : Place) (at from : ℕ) (l : Label) (ts : Trees) (inside : List ContentSign)
    → TellsSame same → HasNoGroup (tree l ts) → HasOwnBy w l → Every (Finds block) (found_from at from (tree l ts))
    → signs_by w (page_of same block) pl (kept_with l.id (kept_nodes block)) l ts inside ≡ own_by w block at from l ts
one_own inline.Nothing same block pl at from l ts inside tells h own e = refl
one_own inline.Characters same block pl at from l ts inside tells h own e = refl
one_own inline.Bold same block pl at from l ts inside tells h own e = absurd own
one_own inline.Italic same block pl at from l ts inside tells h own e = absurd own
one_own inline.Shown same block pl at from l ts inside tells h own e =
    unless_own same block at from l ts (anew_by inline.Shown (page_of same block) pl (kept_with l.id (kept_nodes block)) l ts inside) tells h (own_found (Finds block) at from l ts own e)
one_own inline.PageLink same block pl at from l ts inside tells h own e =
    unless_own same block at from l ts (anew_by inline.PageLink (page_of same block) pl (kept_with l.id (kept_nodes block)) l ts inside) tells h (own_found (Finds block) at from l ts own e)
one_own inline.ExternalLink same block pl at from l ts inside tells h own e =
    unless_own same block at from l ts (anew_by inline.ExternalLink (page_of same block) pl (kept_with l.id (kept_nodes block)) l ts inside) tells h (own_found (Finds block) at from l ts own e)
one_own inline.Tag same block pl at from l ts inside tells h own e =
    unless_own same block at from l ts (anew_by inline.Tag (page_of same block) pl (kept_with l.id (kept_nodes block)) l ts inside) tells h (own_found (Finds block) at from l ts own e)
one_own inline.Break same block pl at from l ts inside tells h own e =
    unless_own same block at from l ts (anew_by inline.Break (page_of same block) pl (kept_with l.id (kept_nodes block)) l ts inside) tells h (own_found (Finds block) at from l ts own e)
one_own inline.AsItStood same block pl at from l ts inside tells h own e = ap (λ (k : Option Kept). as_it_stood k) (own_found (Finds block) at from l ts own e)

all_own : (same : Tree → Tree → Bool) (block : Tree) (pl : Place) (at from : ℕ) (us : Trees) → TellsSame same → NoneIsGroup us → HaveOwn us
    → Every (Finds block) (found_in at from us) → signs_of_all (page_of same block) pl us ≡ own_signs block at from us
all_own same block pl at from none tells h own e = refl
all_own same block pl at from (more (tree l ts) us) tells h own e =
    ap (λ (ss : List ContentSign). ss ++ signs_of_all (page_of same block) pl us)
    (one_own (edit_shape l.kind).inline same block pl at from l ts (signs_of_all (page_of same block) pl ts) tells h.0 own.0
    (every_left (Finds block) (found_from at from (tree l ts)) _ e))
    ∙ ap (λ (ss : List ContentSign). own_by (edit_shape l.kind).inline block at from l ts ++ ss)
    (all_own same block pl (at + length (flat (tree l ts))) (from + length (visible (items (tree l ts)))) us tells h.1 own.1
    (every_right (Finds block) (found_from at from (tree l ts)) _ e))

own_by_tree : (same : Tree → Tree → Bool) (l : Label) (ts : Trees) (pl : Place) → TellsSame same → IsFlatBlock (tree l ts)
    → signs_of_all (page_of same (tree l ts)) pl ts ≡ own_signs (tree l ts) (0 + length l.opening) (0 + length l.opening) ts
own_by_tree same l ts pl tells h =
    all_own same (tree l ts) pl (0 + length l.opening) (0 + length l.opening) ts tells h.ungrouped h.own
    (inside_found (Finds (tree l ts)) 0 0 l ts (held_if l.kind h.no_leaf) (all_found (tree l ts) h.first h.some h.counts))

pub own_content : (same : Tree → Tree → Bool) (block : Tree) (pl : Place) → TellsSame same → IsFlatBlock block
    → signs_of_all (page_of same block) pl (children_of block) ≡ own_signs block (length (label block).opening) (length (label block).opening) (children_of block)
own_content same (tree l ts) pl tells h =
    let z : 0 + length l.opening ≡ length l.opening = omega arith in
    own_by_tree same l ts pl tells h ∙ ap (λ (n : ℕ). own_signs (tree l ts) n n ts) z

-- ---- and the page's own nodes are as they are

pub sent_own : (same : Tree → Tree → Bool) (block : Tree) (at from : ℕ) (l : Label) (ts : Trees) → TellsSame same → HasNoGroup (tree l ts)
    → Finds block (found_at at from (tree l ts)) → IsUnchanged (page_of same block) l ts
sent_own same block at from l ts tells h f =
    record { kept = kept_of block (found_at at from (tree l ts)); found = f; same = own_unchanged same block (tree l ts) at from tells h }

one_sent : (w : InlineForm) (same : Tree → Tree → Bool) (block : Tree) (at from : ℕ) (l : Label) (ts : Trees) → TellsSame same → HasNoGroup (tree l ts) → HasOwnBy w l
    → Every (Finds block) (found_from at from (tree l ts)) → IsSentBy w (page_of same block) l ts
one_sent inline.Nothing same block at from l ts tells h own e = tt
one_sent inline.Characters same block at from l ts tells h own e = tt
one_sent inline.Bold same block at from l ts tells h own e = own
one_sent inline.Italic same block at from l ts tells h own e = own
one_sent inline.Shown same block at from l ts tells h own e = sent_own same block at from l ts tells h (own_found (Finds block) at from l ts own e)
one_sent inline.PageLink same block at from l ts tells h own e = sent_own same block at from l ts tells h (own_found (Finds block) at from l ts own e)
one_sent inline.ExternalLink same block at from l ts tells h own e = sent_own same block at from l ts tells h (own_found (Finds block) at from l ts own e)
one_sent inline.Tag same block at from l ts tells h own e = sent_own same block at from l ts tells h (own_found (Finds block) at from l ts own e)
one_sent inline.Break same block at from l ts tells h own e = sent_own same block at from l ts tells h (own_found (Finds block) at from l ts own e)
one_sent inline.AsItStood same block at from l ts tells h own e = sent_own same block at from l ts tells h (own_found (Finds block) at from l ts own e)

all_sent : (same : Tree → Tree → Bool) (block : Tree) (at from : ℕ) (us : Trees) → TellsSame same → NoneIsGroup us → HaveOwn us → Every (Finds block) (found_in at from us)
    → AreSent (page_of same block) us
all_sent same block at from none tells h own e = tt
all_sent same block at from (more (tree l ts) us) tells h own e = (
  one_sent (edit_shape l.kind).inline same block at from l ts tells h.0 own.0 (every_left (Finds block) (found_from at from (tree l ts)) _ e),
  all_sent same block (at + length (flat (tree l ts))) (from + length (visible (items (tree l ts)))) us tells h.1 own.1
      (every_right (Finds block) (found_from at from (tree l ts)) _ e),
)

pub own_sent : (same : Tree → Tree → Bool) (block : Tree) → TellsSame same → IsFlatBlock block → AreSent (page_of same block) (children_of block)
own_sent same (tree l ts) tells h =
    all_sent same (tree l ts) (0 + length l.opening) (0 + length l.opening) ts tells h.ungrouped h.own
    (inside_found (Finds (tree l ts)) 0 0 l ts (held_if l.kind h.no_leaf) (all_found (tree l ts) h.first h.some h.counts))
