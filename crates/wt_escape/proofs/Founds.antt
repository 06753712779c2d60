-- Where the numbers of a block count up, each of its nodes is found by its number.
use Rattle.std.proofs.Common.{arith, ◌≡◌, ◌≢◌, ℕ, ◌+◌, ◌<◌, ◌≤◌, ◌==◌, Bool, true, false, List, [], ◌∷◌, ◌++◌, length, map, refl, sym, ap, ◌∙◌, subst, inl, inr, ◌⊎◌, Some, None}
use Rattle.std.specs.Prelude.{◌&&◌, not, if◌then◌else◌}
use Rattle.std.proofs.lemmas.Bool.Decides.{Decides-eqb}
use Rattle.wt_names.proofs.Cuts.{differs}
use Rattle.wt_tree.specs.declared.kind.Kind.{Kind}
use Rattle.wt_tree.specs.declared.kind.Kind.TheVariants as kind
use Rattle.wt_tree.specs.Tree.{Label, Tree, tree, Trees, none, more, label}
use Rattle.wt_tree.specs.Kinds.{is_leaf}
use Rattle.wt_tree.specs.Source.{flat, flat_of_all}
use Rattle.wt_tree.specs.Tiling.{is_group}
use Rattle.wt_tree.specs.declared.edit_shape.InlineForm.{InlineForm}
use Rattle.wt_tree.specs.declared.edit_shape.InlineForm.TheVariants as inline
use Rattle.wt_tree.specs.declared.edit_shape.Place.{Place}
use Rattle.wt_tree.specs.EditShapes.{edit_shape}
use Rattle.wt_original.specs.Kept.{Kept, KeptNode, kept_with, first_with, kept_of, kept_nodes, items, visible, is_delimited, holds_kept, found_at, found_if, found_from, found_in}
use Rattle.wt_original.specs.Numbers.{counts_up}
use Rattle.wt_original.specs.Page.{Page, page_of, TellsSame, node_or, restored, restored_all}
use Rattle.wt_link_spelling.specs.Spelling.{inline_spelling, signs_of_all, children_of}
use Rattle.wt_escape.specs.OwnContent.{IsStyle, IsPlainBy, IsPlain, ArePlain, IsBare, AreBare, IsPlainBlock}
use Rattle.wt_guards.specs.Content.{ContentSign}
use Rattle.wt_original.proofs.Numbers.{first_is, pass, stop}
use Rattle.wt_escape.proofs.SpelledBack.{IsFound, IsOwnBy, IsOwn, AreOwn, own_spelling}

abbrev Every : {A : Type 0} → (A → Type 0) → List A → Type 0
Every P [] = Unit {0}
Every P (x ∷ xs) = P x × Every P xs

every_weaker : {A : Type 0} (P Q : A → Type 0) → ((x : A) → P x → Q x) → (xs : List A) → Every P xs → Every Q xs
every_weaker P Q f [] h = tt
every_weaker P Q f (x ∷ xs) h = (f x h.0, every_weaker P Q f xs h.1)

every_left : {A : Type 0} (P : A → Type 0) (xs ys : List A) → Every P (xs ++ ys) → Every P xs
every_left P [] ys h = tt
every_left P (x ∷ xs) ys h = (h.0, every_left P xs ys h.1)

every_right : {A : Type 0} (P : A → Type 0) (xs ys : List A) → Every P (xs ++ ys) → Every P ys
every_right P [] ys h = h
every_right P (x ∷ xs) ys h = every_right P xs ys h.1

every_of_map : {A B : Type 0} (P : B → Type 0) (f : A → B) (xs : List A) → Every P (map f xs) → Every (λ x. P (f x)) xs
every_of_map P f [] h = tt
every_of_map P f (x ∷ xs) h = (h.0, every_of_map P f xs h.1)

-- ---- numbers

abbrev number : Kept → ℕ
number k = (label k.node).id

firsts : (n : ℕ) (ks : List Kept) → counts_up n ks ≡ true → Every (λ k. (n ≤ number k) × (first_with (number k) ks ≡ Some k)) ks
firsts n [] e = tt
firsts n (k ∷ ks) e =
    let h = first_is n k ks e in
    let more_of : (x : Kept) → (n + 1 ≤ number x) × (first_with (number x) ks ≡ Some x) → (n ≤ number x) × (first_with (number x) (k ∷ ks) ≡ Some x) =
    λ x r. let other : number k ≢ number x = omega (arith, h.0, r.0) in (omega (arith, r.0), pass (number x) k ks other ∙ r.1) in
    ((omega (arith, h.0), stop (number k) k ks refl), every_weaker _ _ more_of ks (firsts (n + 1) ks h.1))

with_number : (m : ℕ) (ks : List Kept) → m ≢ 0 → kept_with m ks ≡ first_with m ks
unfolding kept_with
with_number m ks h = ap (λ (t : Bool). if t then None else first_with m ks) (differs m 0 h)

without_number : (ks : List Kept) → kept_with 0 ks ≡ None
unfolding kept_with
without_number ks = refl

abbrev Finds : Tree → List Kept → KeptNode → Type 0
Finds block ks f = kept_with (label f.node).id ks ≡ Some (kept_of block f)

all_found : (block : Tree) (n : ℕ) → 0 < n → counts_up n (kept_nodes block) ≡ true → Every (Finds block (kept_nodes block)) (found_from 0 0 block)
all_found block n lt e =
    let ks = kept_nodes block in
    let here : (k : Kept) → (n ≤ number k) × (first_with (number k) ks ≡ Some k) → kept_with (number k) ks ≡ Some k =
    λ k r. let some : number k ≢ 0 = omega (arith, lt, r.0) in with_number (number k) ks some ∙ r.1 in
    every_of_map (λ k. kept_with (number k) ks ≡ Some k) (kept_of block) (found_from 0 0 block) (every_weaker _ _ here ks (firsts n ks e))

-- ---- nodes

-- what is no leaf has delimiters round its items
held_if : (k : Kind) → is_leaf k ≡ false → (not (is_leaf k) && is_delimited (edit_shape k).items) ≡ true
held_if kind.Body e = refl
held_if (kind.Section n) e = refl
held_if kind.Para e = refl
held_if (kind.Heading n) e = refl
held_if kind.Rule e = cc
held_if kind.Ul e = refl
held_if kind.Ol e = refl
held_if kind.Dl e = refl
held_if kind.Li e = refl
held_if kind.Dt e = refl
held_if kind.Dd e = refl
held_if kind.Pre e = refl
held_if kind.Table e = refl
held_if kind.Tbody e = refl
held_if kind.Tr e = refl
held_if kind.Caption e = refl
held_if kind.Td e = refl
held_if kind.Th e = refl
held_if kind.Bold e = refl
held_if kind.Italic e = refl
held_if kind.WikiLink e = refl
held_if kind.ExtLink e = refl
held_if kind.Category e = cc
held_if (kind.Tag t) e = refl
held_if kind.Br e = cc
held_if kind.Entity e = cc
held_if kind.Nowiki e = refl
held_if kind.Island e = cc
held_if kind.Switch e = cc
held_if kind.Comment e = cc
held_if kind.Include e = cc
held_if kind.Skip e = cc
held_if kind.Sep e = cc
held_if kind.Text e = cc
held_if kind.Group e = cc
held_if kind.Empty e = cc

-- the node itself is among those that are found, if it has a number
own_found : (P : KeptNode → Type 0) (at from : ℕ) (l : Label) (ts : Trees) → l.id ≢ 0 → Every P (found_from at from (tree l ts)) → P (found_at at from (tree l ts))
own_found P at from l ts h e = (subst (λ (t : Bool). Every P (found_if t (found_at at from (tree l ts)) ++ inside)) (differs l.id 0 h) e).0
  where
    inside : List KeptNode
    inside = if holds_kept l then found_in (at + length l.opening) (from + length l.opening) ts else []

inside_found : (P : KeptNode → Type 0) (at from : ℕ) (l : Label) (ts : Trees) → holds_kept l ≡ true → Every P (found_from at from (tree l ts))
    → Every P (found_in (at + length l.opening) (from + length l.opening) ts)
inside_found P at from l ts h e =
    let inner = if holds_kept l then found_in (at + length l.opening) (from + length l.opening) ts else [] in
    subst (λ (t : Bool). Every P (if t then found_in (at + length l.opening) (from + length l.opening) ts else [])) h
    (every_right P (found_if (l.id == 0) (found_at at from (tree l ts))) inner e)

zero_or : (n : ℕ) → (n ≡ 0) ⊎ (n ≢ 0)
zero_or n = by (n == 0) refl
  where
    by : (t : Bool) → (n == 0) ≡ t → (n ≡ 0) ⊎ (n ≢ 0)
    by true e = inl ((Decides-eqb n 0).0 e)
    by false e = inr (λ i. let no : true ≡ false = sym ((Decides-eqb n 0).1 i) ∙ e in cc)

-- of the children, the nodes of the whole being found
each_inside : (P : KeptNode → Type 0) (Q : Trees → Type 0) (at from : ℕ) (l : Label) (ts : Trees) → (is_leaf l.kind ≡ true → ts ≡ none)
    → Q none → Every P (found_from at from (tree l ts))
    → (Every P (found_in (at + length l.opening) (from + length l.opening) ts) → Q ts) → Q ts
each_inside P Q at from l ts bare q e f = by (is_leaf l.kind) refl
  where
    by : (t : Bool) → is_leaf l.kind ≡ t → Q ts
    by true i = subst Q (sym (bare i)) q
    by false i = f (inside_found P at from l ts (held_if l.kind i) e)

group_restored : (block : Tree) (ks : List Kept) (at from : ℕ) (l : Label) (ts : Trees) → Every (Finds block ks) (found_from at from (tree l ts))
    → node_or (tree l ts) (kept_with l.id ks) ≡ tree l ts
group_restored block ks at from l ts e = elim (zero_or l.id) [
  | inl z ↦ ap (λ (n : ℕ). node_or (tree l ts) (kept_with n ks)) z ∙ ap (node_or (tree l ts)) (without_number ks)
  | inr s ↦ ap (node_or (tree l ts)) (own_found (Finds block ks) at from l ts s e)
]

-- a node as the page restores it, by whether it is a group
group_or_same : (block : Tree) (ks : List Kept) (at from : ℕ) (l : Label) (ts : Trees) → Every (Finds block ks) (found_from at from (tree l ts))
    → (is_group l.kind ≡ false → restored_all ks ts ≡ ts) → restored ks (tree l ts) ≡ tree l ts
group_or_same block ks at from l ts e f = by (is_group l.kind) refl
  where
    same : (g : Bool) → is_group l.kind ≡ g → restored ks (tree l ts) ≡ (if g then node_or (tree l ts) (kept_with l.id ks) else tree l (restored_all ks ts))
    same g i = ap (λ (t : Bool). if t then node_or (tree l ts) (kept_with l.id ks) else tree l (restored_all ks ts)) i

    by : (g : Bool) → is_group l.kind ≡ g → restored ks (tree l ts) ≡ tree l ts
    by true i = same true i ∙ group_restored block ks at from l ts e
    by false i = same false i ∙ ap (tree l) (f i)

mutual
  restored_is : (block : Tree) (ks : List Kept) (at from : ℕ) (t : Tree) → Every (Finds block ks) (found_from at from t) → IsBare t → restored ks t ≡ t
  restored_is block ks at from (tree l ts) e b =
      group_or_same block ks at from l ts e
      (λ i. each_inside (Finds block ks) (λ us. restored_all ks us ≡ us) at from l ts (λ f. b.0 f i) refl e
      (λ h. all_restored block ks (at + length l.opening) (from + length l.opening) ts h b.1))

  all_restored : (block : Tree) (ks : List Kept) (at from : ℕ) (ts : Trees) → Every (Finds block ks) (found_in at from ts) → AreBare ts
      → restored_all ks ts ≡ ts
  all_restored block ks at from none e b = refl
  all_restored block ks at from (more t ts) e b =
      let one = restored_is block ks at from t (every_left (Finds block ks) (found_from at from t) _ e) b.0 in
      let others = all_restored block ks (at + length (flat t)) (from + length (visible (items t))) ts
      (every_right (Finds block ks) (found_from at from t) _ e) b.1 in
      ap (λ u. more u (restored_all ks ts)) one ∙ ap (more t) others

own_style : (sign : List ℕ) (l : Label) (inside : List ContentSign) (plain own : Type 0) → plain × IsStyle sign l inside → (is_leaf l.kind ≡ false → plain → own)
    → own × IsStyle sign l inside
own_style sign l inside plain own h f = (f h.1.no_leaf h.0, h.1)

own_by : (w : InlineForm) (p : Page) (pl : Place) (l : Label) (ts : Trees) (plain own : Type 0) → IsPlainBy w p pl l ts plain
    → (is_leaf l.kind ≡ false → plain → own) → (l.id ≢ 0 → IsFound p (tree l ts)) → IsOwnBy w p pl l ts own
own_by inline.Nothing p pl l ts plain own h f g = h
own_by inline.Characters p pl l ts plain own h f g = h
own_by inline.Bold p pl l ts plain own h f g = own_style (39 ∷ 39 ∷ 39 ∷ []) l (signs_of_all p pl ts) plain own h f
own_by inline.Italic p pl l ts plain own h f g = own_style (39 ∷ 39 ∷ []) l (signs_of_all p pl ts) plain own h f
own_by inline.Shown p pl l ts plain own h f g = g h
own_by inline.PageLink p pl l ts plain own h f g = g h
own_by inline.ExternalLink p pl l ts plain own h f g = g h
own_by inline.Tag p pl l ts plain own h f g = g h
own_by inline.Break p pl l ts plain own h f g = g h
own_by inline.AsItStood p pl l ts plain own h f g = g h

mutual
  own_of : (same : Tree → Tree → Bool) (block : Tree) (pl : Place) (at from : ℕ) (t : Tree)
      → Every (Finds block (kept_nodes block)) (found_from at from t) → IsBare t
      → IsPlain (page_of same block) pl t → IsOwn (page_of same block) pl t
  own_of same block pl at from (tree l ts) e b h =
      let ks = kept_nodes block in
      let p = page_of same block in
      own_by (edit_shape l.kind).inline p pl l ts (ArePlain p pl ts) (AreOwn p pl ts) h
      (λ n k.
      own_of_all same block pl (at + length l.opening) (from + length l.opening) ts
      (inside_found (Finds block ks) at from l ts (held_if l.kind n) e) b.1 k)
      (λ s. record {
        kept = kept_of block (found_at at from (tree l ts));
        found = own_found (Finds block ks) at from l ts s e;
        node = refl;
        same = restored_is block ks at from (tree l ts) e b;
      })

  own_of_all : (same : Tree → Tree → Bool) (block : Tree) (pl : Place) (at from : ℕ) (ts : Trees)
      → Every (Finds block (kept_nodes block)) (found_in at from ts) → AreBare ts
      → ArePlain (page_of same block) pl ts → AreOwn (page_of same block) pl ts
  own_of_all same block pl at from none e b h = tt
  own_of_all same block pl at from (more t ts) e b h = (
    own_of same block pl at from t (every_left (Finds block (kept_nodes block)) (found_from at from t) _ e) b.0 h.0,
    own_of_all same block pl (at + length (flat t)) (from + length (visible (items t))) ts
        (every_right (Finds block (kept_nodes block)) (found_from at from t) _ e) b.1 h.1,
  )

-- the content of a block
own_content : (same : Tree → Tree → Bool) (block all : Tree) (pl : Place) → is_leaf (label block).kind ≡ false
    → Every (Finds all (kept_nodes all)) (found_from 0 0 block) → IsBare block
    → ArePlain (page_of same all) pl (children_of block) → AreOwn (page_of same all) pl (children_of block)
own_content same (tree l ts) all pl n e b h =
    own_of_all same all pl (0 + length l.opening) (0 + length l.opening) ts
    (inside_found (Finds all (kept_nodes all)) 0 0 l ts (held_if l.kind n) e) b.1 h

pub spelled_back : (same : Tree → Tree → Bool) (block : Tree) (pl : Place) → TellsSame same → IsPlainBlock same block pl
    → inline_spelling same block block pl ≡ flat_of_all (children_of block)
spelled_back same block pl tells h =
    own_spelling same block pl tells
    (own_content same block block pl h.no_leaf (all_found block h.first h.some h.counts) h.bare h.plain) h.quiet
