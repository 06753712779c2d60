-- What holds of each text between the borders of a content holds of each text in its tree, and the other way round.
use Rattle.std.proofs.Common.{◌≡◌, ℕ, zero, suc, List, [], ◌∷◌, ◌++◌, refl, sym, ap, subst}
use Rattle.std.proofs.lemmas.List.{append_assoc}
use Rattle.wt_tree.specs.Tree.{Label, Tree, tree, Trees, none, more}
use Rattle.wt_tree.specs.declared.edit_shape.InlineForm.{InlineForm}
use Rattle.wt_tree.specs.declared.edit_shape.InlineForm.TheVariants as inline
use Rattle.wt_tree.specs.EditShapes.{edit_shape}
use Rattle.wt_inside_laws.specs.Contents.{Border, element, bold, italic, end, borders_by, borders_of, borders, onto_first, texts_by, texts_before, all_texts_before, texts}

-- ---- in a tree

-- of a text, and of those in bold and italic, by how many styles are round it
abbrev pub LeavesBy : InlineForm → (ℕ → List ℕ → Type 0) → ℕ → Label → Type 0 → Type 0
LeavesBy inline.Nothing P d l inside = Unit {0}
LeavesBy inline.Characters P d l inside = P d l.shown
LeavesBy inline.Bold P d l inside = inside
LeavesBy inline.Italic P d l inside = inside
LeavesBy inline.Shown P d l inside = Unit {0}
LeavesBy inline.PageLink P d l inside = Unit {0}
LeavesBy inline.ExternalLink P d l inside = Unit {0}
LeavesBy inline.Tag P d l inside = Unit {0}
LeavesBy inline.Break P d l inside = Unit {0}
LeavesBy inline.AsItStood P d l inside = Unit {0}

abbrev mutual
  pub LeavesOf : (ℕ → List ℕ → Type 0) → ℕ → Tree → Type 0
  LeavesOf P d (tree l ts) = LeavesBy (edit_shape l.kind).inline P d l (AllLeaves P (suc d) ts)

  pub AllLeaves : (ℕ → List ℕ → Type 0) → ℕ → Trees → Type 0
  AllLeaves P d none = Unit {0}
  AllLeaves P d (more t ts) = LeavesOf P d t × AllLeaves P d ts

-- ---- between borders

-- how many styles are round what comes behind a border
abbrev pub depth_after : ℕ → Border → ℕ
depth_after d (element i) = d
depth_after d (bold i) = suc d
depth_after d (italic i) = suc d
depth_after zero end = zero
depth_after (suc d) end = d

abbrev pub TextsHold : (ℕ → List ℕ → Type 0) → ℕ → List Border → List (List ℕ) → Type 0
TextsHold P d bs [] = Unit {0}
TextsHold P d [] (n ∷ ns) = P d n × TextsHold P d [] ns
TextsHold P d (b ∷ bs) (n ∷ ns) = P d n × TextsHold P (depth_after d b) bs ns

-- ---- from the texts to the tree

first_cut : (P : ℕ → List ℕ → Type 0) → ((d : ℕ) (x y : List ℕ) → P d (x ++ y) → P d x × P d y) → (d : ℕ) (ys : List Border) (x : List ℕ) (after : List (List ℕ))
    → TextsHold P d ys (onto_first x after) → P d x × TextsHold P d ys after
first_cut P c d [] x [] h = (h.0, tt)
first_cut P c d (b ∷ ys) x [] h = (h.0, tt)
first_cut P c d [] x (n ∷ ns) h = let r = c d x n h.0 in (r.0, (r.1, h.1))
first_cut P c d (b ∷ ys) x (n ∷ ns) h = let r = c d x n h.0 in (r.0, (r.1, h.1))

cut_style : (P : ℕ → List ℕ → Type 0) (d : ℕ) (bs ys : List Border) (before : List (List ℕ) → List (List ℕ)) (after : List (List ℕ)) (inside : Type 0)
    → ((zs : List Border) (os : List (List ℕ)) → TextsHold P (suc d) (bs ++ zs) (before os) → inside × TextsHold P (suc d) zs os)
    → TextsHold P (suc d) ((bs ++ (end ∷ [])) ++ ys) (before ([] ∷ after)) → inside × TextsHold P d ys after
cut_style P d bs ys before after inside g h =
    let r = g (end ∷ ys) ([] ∷ after) (subst (λ zs. TextsHold P (suc d) zs (before ([] ∷ after))) (append_assoc bs (end ∷ []) ys) h) in (r.0, r.1.1)

cut_by : (f : InlineForm) (P : ℕ → List ℕ → Type 0) → ((d : ℕ) (x y : List ℕ) → P d (x ++ y) → P d x × P d y) → (d : ℕ) (l : Label) (bs ys : List Border)
    (before : List (List ℕ) → List (List ℕ)) (after : List (List ℕ)) (inside : Type 0)
    → ((zs : List Border) (os : List (List ℕ)) → TextsHold P (suc d) (bs ++ zs) (before os) → inside × TextsHold P (suc d) zs os)
    → TextsHold P d (borders_by f l.id bs ++ ys) (texts_by f l.shown before after) → LeavesBy f P d l inside × TextsHold P d ys after
cut_by inline.Nothing P c d l bs ys before after inside g h = (tt, h)
cut_by inline.Characters P c d l bs ys before after inside g h = first_cut P c d ys l.shown after h
cut_by inline.Bold P c d l bs ys before after inside g h = cut_style P d bs ys before after inside g h.1
cut_by inline.Italic P c d l bs ys before after inside g h = cut_style P d bs ys before after inside g h.1
cut_by inline.Shown P c d l bs ys before after inside g h = (tt, h.1)
cut_by inline.PageLink P c d l bs ys before after inside g h = (tt, h.1)
cut_by inline.ExternalLink P c d l bs ys before after inside g h = (tt, h.1)
cut_by inline.Tag P c d l bs ys before after inside g h = (tt, h.1)
cut_by inline.Break P c d l bs ys before after inside g h = (tt, h.1)
cut_by inline.AsItStood P c d l bs ys before after inside g h = (tt, h.1)

mutual
  cut_one : (P : ℕ → List ℕ → Type 0) → ((d : ℕ) (x y : List ℕ) → P d (x ++ y) → P d x × P d y) → (t : Tree) (d : ℕ) (ys : List Border) (after : List (List ℕ))
      → TextsHold P d (borders_of t ++ ys) (texts_before t after) → LeavesOf P d t × TextsHold P d ys after
  cut_one P c (tree l ts) d ys after h =
      cut_by (edit_shape l.kind).inline P c d l (borders ts) ys (λ os. all_texts_before ts os) after (AllLeaves P (suc d) ts)
      (λ zs os k. cut_all P c ts (suc d) zs os k) h

  cut_all : (P : ℕ → List ℕ → Type 0) → ((d : ℕ) (x y : List ℕ) → P d (x ++ y) → P d x × P d y) → (ts : Trees) (d : ℕ) (ys : List Border) (after : List (List ℕ))
      → TextsHold P d (borders ts ++ ys) (all_texts_before ts after) → AllLeaves P d ts × TextsHold P d ys after
  cut_all P c none d ys after h = (tt, h)
  cut_all P c (more t ts) d ys after h =
      let first = cut_one P c t d (borders ts ++ ys) (all_texts_before ts after)
      (subst (λ zs. TextsHold P d zs (texts_before t (all_texts_before ts after))) (append_assoc (borders_of t) (borders ts) ys) h) in
      let rest = cut_all P c ts d ys after first.1 in ((first.0, rest.0), rest.1)

-- ---- from the tree to the texts

first_joined : (P : ℕ → List ℕ → Type 0) → ((d : ℕ) (x y : List ℕ) → P d x → P d y → P d (x ++ y)) → (d : ℕ) (ys : List Border) (x : List ℕ) (after : List (List ℕ))
    → P d x → TextsHold P d ys after → TextsHold P d ys (onto_first x after)
first_joined P j d [] x [] p h = (p, tt)
first_joined P j d (b ∷ ys) x [] p h = (p, tt)
first_joined P j d [] x (n ∷ ns) p h = (j d x n p h.0, h.1)
first_joined P j d (b ∷ ys) x (n ∷ ns) p h = (j d x n p h.0, h.1)

joined_style : (P : ℕ → List ℕ → Type 0) (d : ℕ) (bs ys : List Border) (before : List (List ℕ) → List (List ℕ)) (after : List (List ℕ)) → ((i : ℕ) → P i [])
    → ((zs : List Border) (os : List (List ℕ)) → TextsHold P (suc d) zs os → TextsHold P (suc d) (bs ++ zs) (before os))
    → TextsHold P d ys after → TextsHold P (suc d) ((bs ++ (end ∷ [])) ++ ys) (before ([] ∷ after))
joined_style P d bs ys before after e g h =
    subst (λ zs. TextsHold P (suc d) zs (before ([] ∷ after))) (sym (append_assoc bs (end ∷ []) ys)) (g (end ∷ ys) ([] ∷ after) (e (suc d), h))

joined_by : (f : InlineForm) (P : ℕ → List ℕ → Type 0) → ((d : ℕ) (x y : List ℕ) → P d x → P d y → P d (x ++ y)) → ((i : ℕ) → P i []) → (d : ℕ) (l : Label)
    (bs ys : List Border) (before : List (List ℕ) → List (List ℕ)) (after : List (List ℕ)) (inside : Type 0)
    → (inside → (zs : List Border) (os : List (List ℕ)) → TextsHold P (suc d) zs os → TextsHold P (suc d) (bs ++ zs) (before os))
    → LeavesBy f P d l inside → TextsHold P d ys after → TextsHold P d (borders_by f l.id bs ++ ys) (texts_by f l.shown before after)
joined_by inline.Nothing P j e d l bs ys before after inside g p h = h
joined_by inline.Characters P j e d l bs ys before after inside g p h = first_joined P j d ys l.shown after p h
joined_by inline.Bold P j e d l bs ys before after inside g p h = (e d, joined_style P d bs ys before after e (g p) h)
joined_by inline.Italic P j e d l bs ys before after inside g p h = (e d, joined_style P d bs ys before after e (g p) h)
joined_by inline.Shown P j e d l bs ys before after inside g p h = (e d, h)
joined_by inline.PageLink P j e d l bs ys before after inside g p h = (e d, h)
joined_by inline.ExternalLink P j e d l bs ys before after inside g p h = (e d, h)
joined_by inline.Tag P j e d l bs ys before after inside g p h = (e d, h)
joined_by inline.Break P j e d l bs ys before after inside g p h = (e d, h)
joined_by inline.AsItStood P j e d l bs ys before after inside g p h = (e d, h)

mutual
  joined_one : (P : ℕ → List ℕ → Type 0) → ((d : ℕ) (x y : List ℕ) → P d x → P d y → P d (x ++ y)) → ((i : ℕ) → P i []) → (t : Tree) (d : ℕ) (ys : List Border)
      (after : List (List ℕ)) → LeavesOf P d t → TextsHold P d ys after → TextsHold P d (borders_of t ++ ys) (texts_before t after)
  joined_one P j e (tree l ts) d ys after p h =
      joined_by (edit_shape l.kind).inline P j e d l (borders ts) ys (λ os. all_texts_before ts os) after (AllLeaves P (suc d) ts)
      (λ q zs os k. joined_all P j e ts (suc d) zs os q k) p h

  joined_all : (P : ℕ → List ℕ → Type 0) → ((d : ℕ) (x y : List ℕ) → P d x → P d y → P d (x ++ y)) → ((i : ℕ) → P i []) → (ts : Trees) (d : ℕ) (ys : List Border)
      (after : List (List ℕ)) → AllLeaves P d ts → TextsHold P d ys after → TextsHold P d (borders ts ++ ys) (all_texts_before ts after)
  joined_all P j e none d ys after p h = h
  joined_all P j e (more t ts) d ys after p h =
      subst (λ zs. TextsHold P d zs (texts_before t (all_texts_before ts after))) (sym (append_assoc (borders_of t) (borders ts) ys))
      (joined_one P j e t d (borders ts ++ ys) (all_texts_before ts after) p.0 (joined_all P j e ts d ys after p.1 h))

-- ---- of a whole content

append_none : (bs : List Border) → bs ++ [] ≡ bs
append_none [] = refl
append_none (b ∷ bs) = ap (λ cs. b ∷ cs) (append_none bs)

pub leaves_hold : (P : ℕ → List ℕ → Type 0) → ((d : ℕ) (x y : List ℕ) → P d (x ++ y) → P d x × P d y) → (ts : Trees) → TextsHold P 0 (borders ts) (texts ts)
    → AllLeaves P 0 ts
leaves_hold P c ts h =
    (cut_all P c ts 0 [] ([] ∷ []) (subst (λ bs. TextsHold P 0 bs (texts ts)) (sym (append_none (borders ts))) h)).0

pub texts_hold : (P : ℕ → List ℕ → Type 0) → ((d : ℕ) (x y : List ℕ) → P d x → P d y → P d (x ++ y)) → ((i : ℕ) → P i []) → (ts : Trees) → AllLeaves P 0 ts
    → TextsHold P 0 (borders ts) (texts ts)
texts_hold P j e ts p =
    subst (λ bs. TextsHold P 0 bs (texts ts)) (append_none (borders ts)) (joined_all P j e ts 0 [] ([] ∷ []) p (e 0, tt))
