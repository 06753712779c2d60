-- The first misfit by going over the tree is the first in the list of elements.
use Rattle.std.proofs.Common.{◌≡◌, ℕ, suc, ◌+◌, ◌++◌, Bool, true, false, Option, Some, None, Result, Ok, Err, List, [], ◌∷◌, refl, sym, ap, ap₂, ◌∙◌, subst}
use Rattle.std.specs.Prelude.{not, ◌||◌, is_some, if◌then◌else◌}
use Rattle.std.specs.List.{AllByRecursion}
use Rattle.std.specs.Option.{option_or}
use Rattle.wt_tree.specs.declared.kind.Kind.{Kind}
use Rattle.wt_tree.specs.declared.kind.Kind.TheVariants as kind
use Rattle.wt_tree.specs.Tree.{Label, Tree}
use Rattle.wt_html_grammar.specs.Markup.{Pair, Markup, Markups, text, node, empty, more}
use Rattle.wt_html_grammar.proofs.Steps.{if_true, if_false}
use Rattle.wt_schema.specs.declared.why.FitWhy.{FitWhy}
use Rattle.wt_schema.specs.declared.why.FitWhy.TheVariants as why
use Rattle.wt_schema.specs.declared.standing.Standing.{Standing}
use Rattle.wt_schema.specs.Groups.{standing, open_after, Piece}
use Rattle.wt_schema.specs.Data.{Data, data_for}
use Rattle.wt_schema.specs.Fit.{Misfit, BodyElement, elements, label_for, label_as, texts_in, onto, onto_told, with_children, one_piece, Position, within, row_as, is_block_element, behind_it, fits_place, is_inside, text_fits, fit_told, fit_as, fit_row, fit_node, fit_nodes, fit_body_told, body_data, fit_body, fit, body_of}
use Rattle.wt_schema.specs.Sections.{opened_if_fit}
use Rattle.wt_schema.specs.Misfits.{Place, place, places, places_of_all, places_of_body, is_wrong, IsReason, FitsAlone, FirstMisfit}

-- ---- the first in a list

abbrev chain : Bool → Bool → Bool → Bool → Option FitWhy
chain a b c d = if a then Some why.Element else if b then Some why.Place else if c then Some why.Data else if d then Some why.Text else None

abbrev wrong_of : Place → Option FitWhy
wrong_of x = chain (is_wrong why.Element x) (is_wrong why.Place x) (is_wrong why.Data x) (is_wrong why.Text x)

abbrev misfit_at : ℕ → Option FitWhy → Option Misfit
misfit_at n None = None
misfit_at n (Some w) = Some (n, w)

abbrev first_wrong : List Place → Option Misfit
first_wrong [] = None
first_wrong (x ∷ xs) = option_or (misfit_at x.number (wrong_of x)) (first_wrong xs)

or_assoc : (a b c : Option Misfit) → option_or (option_or a b) c ≡ option_or a (option_or b c)
or_assoc None b c = refl
or_assoc (Some m) b c = refl

first_append : (xs ys : List Place) → first_wrong (xs ++ ys) ≡ option_or (first_wrong xs) (first_wrong ys)
first_append [] ys = refl
first_append (x ∷ xs) ys =
    ap (option_or (misfit_at x.number (wrong_of x))) (first_append xs ys) ∙ sym (or_assoc (misfit_at x.number (wrong_of x)) (first_wrong xs) (first_wrong ys))

-- ---- going over the tree

abbrev Agrees : {A : Type 0} → Result A Misfit → Option Misfit → Type 0
Agrees (Ok a) o = o ≡ None
Agrees (Err e) o = o ≡ Some e

agrees_at : {A : Type 0} (r : Result A Misfit) (o p : Option Misfit) → o ≡ p → Agrees r p → Agrees r o
agrees_at (Ok a) o p e h = e ∙ h
agrees_at (Err m) o p e h = e ∙ h

onto_agrees : (x : Piece) (s : Result (List Piece) Misfit) (o p : Option Misfit) → o ≡ None → Agrees s p → Agrees (onto x s) (option_or o p)
onto_agrees x (Ok xs) o p h k = ap₂ option_or h k
onto_agrees x (Err e) o p h k = ap₂ option_or h k

none_agrees : (s : Result (List Piece) Misfit) (o p : Option Misfit) → o ≡ None → Agrees s p → Agrees s (option_or o p)
none_agrees s o p h k = agrees_at s (option_or o p) p (ap (λ x. option_or x p) h) k

told_agrees : (r : Result (Option Piece) Misfit) (s : Result (List Piece) Misfit) (o p : Option Misfit) → Agrees r o → Agrees s p
    → Agrees (onto_told r s) (option_or o p)
told_agrees (Ok None) s o p h k = none_agrees s o p h k
told_agrees (Ok (Some x)) s o p h k = onto_agrees x s o p h k
told_agrees (Err e) s o p h k = ap (λ x. option_or x p) h

-- an element by itself, before what stands in it
inside_agrees : (i : Bool) (k : Kind) (l : Label) (r : Result (List Piece) Misfit) (o : Option Misfit) → Agrees r o → Agrees (with_children i k l r) o
inside_agrees i k l (Ok xs) o h = h
inside_agrees i k l (Err e) o h = h

one_agrees : (s : Standing) (ps : List Pair) (d : Data) (r : Result Tree Misfit) (o : Option Misfit) → Agrees r o → Agrees (one_piece s ps d r) o
one_agrees s ps d (Ok t) o h = h
one_agrees s ps d (Err e) o h = h

text_agrees : {A : Type 0} (t : Bool) (n : ℕ) (r : Result A Misfit) (o : Option Misfit) → Agrees r o
    → Agrees (if t then r else Err (n, why.Text)) (option_or (misfit_at n (chain false false false (not t))) o)
text_agrees true n r o h = h
text_agrees false n r o h = refl

data_agrees : (d : Option Data) (n : ℕ) (i : Bool) (s : Standing) (k : Kind) (ps : List Pair) (c : Markups)
    (r : Result (List Piece) Misfit) (o : Option Misfit) → Agrees r o
    → Agrees (fit_told n i s k ps d c r) (option_or (misfit_at n (chain false false (not (is_some d)) (not (text_fits k c)))) o)
data_agrees None n i s k ps c r o h = refl
data_agrees (Some d) n i s k ps c r o h =
    text_agrees (text_fits k c) n (one_piece s ps d (with_children i k (label_as s k ps d (texts_in c)) r)) o
    (one_agrees s ps d (with_children i k (label_as s k ps d (texts_in c)) r) o (inside_agrees i k (label_as s k ps d (texts_in c)) r o h))

place_agrees : (b : Bool) (n : ℕ) (x : Position) (s : Standing) (k : Kind) (ps : List Pair) (c : Markups)
    (r : Result (List Piece) Misfit) (o : Option Misfit) → Agrees r o
    → Agrees (if b then fit_as n x s k ps c r else Err (n, why.Place))
    (option_or (misfit_at n (chain false (not b) (not (is_some (data_for x.inside s k ps))) (not (text_fits k c)))) o)
place_agrees true n x s k ps c r o h = data_agrees (data_for x.inside s k ps) n (is_inside x s) s k ps c r o h
place_agrees false n x s k ps c r o h = refl

row_agrees : (j : Option Kind) (n : ℕ) (x : Position) (s : Standing) (ps : List Pair) (c : Markups)
    (held : Kind → Result (List Piece) Misfit) (below : Option Kind → Option Misfit) → ((k : Kind) → Agrees (held k) (below (Some k)))
    → Agrees (fit_row n x s j ps c held) (option_or (misfit_at n (wrong_of (place n (Some x.parent) x.inside x.behind s j ps c))) (below j))
row_agrees None n x s ps c held below h = refl
row_agrees (Some k) n x s ps c held below h = place_agrees (fits_place x.parent x.behind s k c) n x s k ps c (held k) (below (Some k)) (h k)

mutual
  node_agrees : (t : Markup) (ts : Markups) (n : ℕ) (x : Position)
      → Agrees (fit_node n x t ts) (first_wrong (places n (Some x.parent) x.inside x.behind x.group t))
  node_agrees (text bs) ts n x = refl
  node_agrees (node name ps c) ts n x =
      let s = standing x.group ps in
      row_agrees (row_as s name ps) n x s ps c (λ k. fit_nodes (suc n) (within k (is_inside x s)) c)
      (λ j. first_wrong (places_of_all (suc n) j (is_inside x s) false None c)) (λ k. nodes_agree c (suc n) (within k (is_inside x s)))

  nodes_agree : (ts : Markups) (n : ℕ) (x : Position) → Agrees (fit_nodes n x ts) (first_wrong (places_of_all n (Some x.parent) x.inside x.behind x.group ts))
  nodes_agree empty n x = refl
  nodes_agree (more t ts) n x =
      let m = n + elements t in
      agrees_at (onto_told (fit_node n x t ts) (fit_nodes m (behind_it x t ts) ts)) _ _
      (first_append (places n (Some x.parent) x.inside x.behind x.group t)
      (places_of_all m (Some x.parent) x.inside (x.behind || is_block_element x.group t) (open_after x.group t ts) ts))
      (told_agrees (fit_node n x t ts) (fit_nodes m (behind_it x t ts) ts) _ _ (node_agrees t ts n x) (nodes_agree ts m (behind_it x t ts)))

body_told_agrees : (d : Option Data) (n : ℕ) (ps : List Pair) (c : Markups) (r : Result (List Piece) Misfit) (o : Option Misfit) → Agrees r o
    → Agrees (fit_body_told n ps d c r) (option_or (misfit_at n (chain false false (not (is_some d)) (not (text_fits kind.Body c)))) o)
body_told_agrees None n ps c r o h = refl
body_told_agrees (Some d) n ps c r o h =
    text_agrees (text_fits kind.Body c) n (with_children false kind.Body (label_for kind.Body ps d (texts_in c)) r) o
    (inside_agrees false kind.Body (label_for kind.Body ps d (texts_in c)) r o h)

-- sections are opened where the page fits
opened_agrees : (r : Result Tree Misfit) (o : Option Misfit) → Agrees r o → Agrees (opened_if_fit r) o
opened_agrees (Ok t) o h = h
opened_agrees (Err e) o h = h

body_agrees : (f : BodyElement) → Agrees (fit_body (Some f)) (first_wrong (places_of_body f))
body_agrees f =
    let held = fit_nodes (suc f.number) (within kind.Body false) f.contents in
    opened_agrees (fit_body_told f.number f.attributes (body_data f.attributes) f.contents held) _
    (body_told_agrees (body_data f.attributes) f.number f.attributes f.contents held _ (nodes_agree f.contents (suc f.number) (within kind.Body false)))

-- ---- what the first is

abbrev IsFirst : FitWhy → Bool → Bool → Bool → Bool → Type 0
IsFirst why.Root a b c d = ⊥
IsFirst why.Element a b c d = a ≡ true
IsFirst why.Place a b c d = (a ≡ false) × (b ≡ true)
IsFirst why.Data a b c d = (a ≡ false) × (b ≡ false) × (c ≡ true)
IsFirst why.Text a b c d = (a ≡ false) × (b ≡ false) × (c ≡ false) × (d ≡ true)

same_why : (v w : FitWhy) → Path (Option FitWhy) (Some v) (Some w) → v ≡ w
same_why v w e = cc

chain_first : (a b c d : Bool) (w : FitWhy) → chain a b c d ≡ Some w → IsFirst w a b c d
chain_first true b c d w h = subst (λ v. IsFirst v true b c d) (same_why why.Element w h) refl
chain_first false true c d w h = subst (λ v. IsFirst v false true c d) (same_why why.Place w h) (refl, refl)
chain_first false false true d w h = subst (λ v. IsFirst v false false true d) (same_why why.Data w h) (refl, refl, refl)
chain_first false false false true w h = subst (λ v. IsFirst v false false false true) (same_why why.Text w h) (refl, refl, refl, refl)
chain_first false false false false w h = cc

chain_none : (a b c d : Bool) → chain a b c d ≡ None → (a ≡ false) × (b ≡ false) × (c ≡ false) × (d ≡ false)
chain_none true b c d h = cc
chain_none false true c d h = cc
chain_none false false true d h = cc
chain_none false false false true h = cc
chain_none false false false false h = (refl, refl, refl, refl)

first_chain : (a b c d : Bool) (w : FitWhy) → IsFirst w a b c d → chain a b c d ≡ Some w
first_chain a b c d why.Root h = absurd h
first_chain a b c d why.Element h = if_true a _ _ h
first_chain a b c d why.Place h = if_false a _ _ h.0 ∙ if_true b _ _ h.1
first_chain a b c d why.Data h = if_false a _ _ h.0 ∙ if_false b _ _ h.1 ∙ if_true c _ _ h.2
first_chain a b c d why.Text h = if_false a _ _ h.0 ∙ if_false b _ _ h.1 ∙ if_false c _ _ h.2 ∙ if_true d _ _ h.3

none_chain : (a b c d : Bool) → (a ≡ false) × (b ≡ false) × (c ≡ false) × (d ≡ false) → chain a b c d ≡ None
none_chain a b c d h = if_false a _ _ h.0 ∙ if_false b _ _ h.1 ∙ if_false c _ _ h.2 ∙ if_false d _ _ h.3

reason_at : (x : Place) (w : FitWhy) → wrong_of x ≡ Some w → IsReason w x
reason_at x why.Root h = chain_first _ _ _ _ why.Root h
reason_at x why.Element h = chain_first _ _ _ _ why.Element h
reason_at x why.Place h = chain_first _ _ _ _ why.Place h
reason_at x why.Data h = chain_first _ _ _ _ why.Data h
reason_at x why.Text h = chain_first _ _ _ _ why.Text h

wrong_at : (x : Place) (w : FitWhy) → IsReason w x → wrong_of x ≡ Some w
wrong_at x why.Root h = absurd h
wrong_at x why.Element h = first_chain _ _ _ _ why.Element h
wrong_at x why.Place h = first_chain _ _ _ _ why.Place h
wrong_at x why.Data h = first_chain _ _ _ _ why.Data h
wrong_at x why.Text h = first_chain _ _ _ _ why.Text h

abbrev misfit : ℕ → FitWhy → Misfit
misfit n w = (n, w)

here_first : (x : Place) (xs : List Place) (v w : FitWhy) (n : ℕ) → wrong_of x ≡ Some v
    → Path (Option Misfit) (Some (x.number, v)) (Some (n, w)) → FirstMisfit (x ∷ xs) n w
here_first x xs v w n e h =
    let p : Path Misfit (x.number, v) (n, w) = cc in
    record {
      before = [];
      here = x;
      behind = xs;
      parts = refl;
      fit = tt;
      number = ap (λ (m : Misfit). m.0) p;
      reason =
          reason_at x w (e ∙ ap (λ (m : Misfit). Some m.1) p);
    }

later_first : (x : Place) (xs : List Place) (w : FitWhy) (n : ℕ) → wrong_of x ≡ None → FirstMisfit xs n w → FirstMisfit (x ∷ xs) n w
later_first x xs w n e f =
    record {
      before = x ∷ f.before;
      here = f.here;
      behind = f.behind;
      parts = ap (λ ys. x ∷ ys) f.parts;
      fit =
          (chain_none _ _ _ _ e, f.fit);
      number = f.number;
      reason = f.reason;
    }

to_first : (xs : List Place) (n : ℕ) (w : FitWhy) → first_wrong xs ≡ Some (n, w) → FirstMisfit xs n w
to_first [] n w h = cc
to_first (x ∷ xs) n w h = by_wrong (wrong_of x) refl h (λ g. to_first xs n w g)
  where
    by_wrong : (o : Option FitWhy) → wrong_of x ≡ o → option_or (misfit_at x.number o) (first_wrong xs) ≡ Some (n, w)
        → (first_wrong xs ≡ Some (n, w) → FirstMisfit xs n w) → FirstMisfit (x ∷ xs) n w
    by_wrong None e h f = later_first x xs w n e (f h)
    by_wrong (Some v) e h f = here_first x xs v w n e h

from_parts : (before : List Place) (here : Place) (behind : List Place) (w : FitWhy) → AllByRecursion FitsAlone before
    → IsReason w here → first_wrong (before ++ here ∷ behind) ≡ Some (here.number, w)
from_parts [] here behind w f r = ap (λ o. option_or (misfit_at here.number o) (first_wrong behind)) (wrong_at here w r)
from_parts (x ∷ xs) here behind w f r =
    ap (λ o. option_or (misfit_at x.number o) (first_wrong (xs ++ here ∷ behind))) (none_chain _ _ _ _ f.0) ∙ from_parts xs here behind w f.1 r

from_first : (xs : List Place) (n : ℕ) (w : FitWhy) → FirstMisfit xs n w → first_wrong xs ≡ Some (n, w)
from_first xs n w f = ap first_wrong f.parts ∙ from_parts f.before f.here f.behind w f.fit f.reason ∙ ap (λ m. Some (m, w)) f.number

all_fit : (xs : List Place) → first_wrong xs ≡ None → AllByRecursion FitsAlone xs
all_fit [] h = tt
all_fit (x ∷ xs) h = by_wrong (wrong_of x) refl h (λ g. all_fit xs g)
  where
    by_wrong : (o : Option FitWhy) → wrong_of x ≡ o → option_or (misfit_at x.number o) (first_wrong xs) ≡ None
        → (first_wrong xs ≡ None → AllByRecursion FitsAlone xs) → AllByRecursion FitsAlone (x ∷ xs)
    by_wrong None e h f = (chain_none _ _ _ _ e, f h)
    by_wrong (Some v) e h f = cc

none_wrong : (xs : List Place) → AllByRecursion FitsAlone xs → first_wrong xs ≡ None
none_wrong [] h = refl
none_wrong (x ∷ xs) h = ap (λ o. option_or (misfit_at x.number o) (first_wrong xs)) (none_chain _ _ _ _ h.0) ∙ none_wrong xs h.1

-- ---- of a document

fit_found : (m : Markup) (f : BodyElement) → body_of m ≡ Some f → fit m ≡ fit_body (Some f)
fit_found m f e = ap fit_body e

err_agrees : (r : Result Tree Misfit) (o : Option Misfit) (e : Misfit) → Agrees r o → r ≡ Err e → o ≡ Some e
err_agrees (Ok t) o e h g = cc
err_agrees (Err m) o e h g = let s : m ≡ e = cc in h ∙ ap Some s

agrees_err : (r : Result Tree Misfit) (o : Option Misfit) (e : Misfit) → Agrees r o → o ≡ Some e → r ≡ Err e
agrees_err (Ok t) o e h g = let z : Path (Option Misfit) None (Some e) = sym h ∙ g in cc
agrees_err (Err m) o e h g = let z : Path (Option Misfit) (Some m) (Some e) = sym h ∙ g in let s : m ≡ e = cc in ap Err s

ok_agrees : (r : Result Tree Misfit) (o : Option Misfit) (t : Tree) → Agrees r o → r ≡ Ok t → o ≡ None
ok_agrees (Ok u) o t h g = h
ok_agrees (Err m) o t h g = cc

pub first_told : (m : Markup) (f : BodyElement) (n : ℕ) (w : FitWhy) → body_of m ≡ Some f → fit m ≡ Err (n, w) → FirstMisfit (places_of_body f) n w
first_told m f n w e h = to_first (places_of_body f) n w (err_agrees (fit_body (Some f)) _ (n, w) (body_agrees f) (sym (fit_found m f e) ∙ h))

pub told_first : (m : Markup) (f : BodyElement) (n : ℕ) (w : FitWhy) → body_of m ≡ Some f → FirstMisfit (places_of_body f) n w → fit m ≡ Err (n, w)
told_first m f n w e h = fit_found m f e ∙ agrees_err (fit_body (Some f)) _ (n, w) (body_agrees f) (from_first (places_of_body f) n w h)

pub fit_told_all : (m : Markup) (f : BodyElement) (t : Tree) → body_of m ≡ Some f → fit m ≡ Ok t → AllByRecursion FitsAlone (places_of_body f)
fit_told_all m f t e h = all_fit (places_of_body f) (ok_agrees (fit_body (Some f)) _ t (body_agrees f) (sym (fit_found m f e) ∙ h))

pub no_root : (m : Markup) → body_of m ≡ None → fit m ≡ Err (1, why.Root)
no_root m e = ap fit_body e
