-- The nodes of a content that are sent as they are in the page are what the page has with their numbers.
use Rattle.std.proofs.Common.{◌≡◌, ℕ, Bool, Option, Some, None, List, [], ◌∷◌, ◌++◌, refl, sym, ap, ◌∙◌, map}
use Rattle.std.specs.Prelude.{if◌then◌else◌}
use Rattle.std.specs.Str.{chars}
use Rattle.wt_tree.specs.declared.edit_shape.InlineForm.{InlineForm}
use Rattle.wt_tree.specs.declared.edit_shape.InlineForm.TheVariants as inline
use Rattle.wt_tree.specs.declared.edit_shape.Place.{Place}
use Rattle.wt_tree.specs.EditShapes.{edit_shape}
use Rattle.wt_tree.specs.Source.{flat}
use Rattle.wt_tree.specs.Tree.{Label, tree, Trees, none, more}
use Rattle.wt_guards.specs.Content.{ContentSign, Thing, letter, thing}
use Rattle.wt_original.specs.Kept.{Kept, kept_with}
use Rattle.wt_original.specs.Page.{Page}
use Rattle.wt_link_spelling.specs.Spelling.{kept_thing, unless_kept, as_it_stood, anew_by, signs_by, signs_of, signs_of_all}
use Rattle.wt_beside_laws.specs.SentNodes.{IsUnchanged, IsSentBy, AreSent, number_by, numbers}
use Rattle.wt_beside_laws.specs.Stood.{things}

-- a node of the page as its content's signs have it
kept_as : Kept → Thing
kept_as k = record { role = k.role; source = flat k.node; place = Some k.place }

found_as : Option Kept → List Thing
found_as None = []
found_as (Some k) = kept_as k ∷ []

-- those with these numbers
all_found : Page → List ℕ → List Thing
all_found p [] = []
all_found p (n ∷ ns) = found_as (kept_with n p.kept) ++ all_found p ns

pub things_append : (xs ys : List ContentSign) → things (xs ++ ys) ≡ things xs ++ things ys
things_append [] ys = refl
things_append (letter c ∷ xs) ys = things_append xs ys
things_append (thing t ∷ xs) ys = ap (λ ts. t ∷ ts) (things_append xs ys)

pub no_things : (cs : List ℕ) → things (map letter cs) ≡ []
no_things [] = refl
no_things (c ∷ cs) = no_things cs

unless_found : (p : Page) (l : Label) (ts : Trees) (new : List ContentSign) (u : IsUnchanged p l ts) → things (unless_kept p (kept_with l.id p.kept) (tree l ts) new) ≡ found_as (kept_with l.id p.kept)
unfolding found_as kept_as
unless_found p l ts new u =
    ap (λ (k : Option Kept). things (unless_kept p k (tree l ts) new)) u.found
    ∙ ap (λ (b : Bool). things (if b then kept_thing u.kept ∷ [] else new)) u.same
    ∙ sym (ap found_as u.found)

stood_found : (p : Page) (l : Label) (ts : Trees) (u : IsUnchanged p l ts) → things (as_it_stood (kept_with l.id p.kept)) ≡ found_as (kept_with l.id p.kept)
unfolding found_as kept_as
stood_found p l ts u = ap (λ (k : Option Kept). things (as_it_stood k)) u.found ∙ sym (ap found_as u.found)

one_of : (w : InlineForm) (p : Page) (pl : Place) (l : Label) (ts : Trees) (inside : List ContentSign) (ns : List ℕ) → IsSentBy w p l ts
    → things (signs_by w p pl (kept_with l.id p.kept) l ts inside) ++ all_found p ns ≡ all_found p (number_by w l.id ns)
unfolding all_found
one_of inline.Nothing p pl l ts inside ns h = refl
one_of inline.Characters p pl l ts inside ns h = ap (λ (us : List Thing). us ++ all_found p ns) (no_things (chars l.shown))
one_of inline.Bold p pl l ts inside ns h = absurd h
one_of inline.Italic p pl l ts inside ns h = absurd h
one_of inline.Shown p pl l ts inside ns h =
    ap (λ (us : List Thing). us ++ all_found p ns) (unless_found p l ts (anew_by inline.Shown p pl (kept_with l.id p.kept) l ts inside) h)
one_of inline.PageLink p pl l ts inside ns h =
    ap (λ (us : List Thing). us ++ all_found p ns) (unless_found p l ts (anew_by inline.PageLink p pl (kept_with l.id p.kept) l ts inside) h)
one_of inline.ExternalLink p pl l ts inside ns h =
    ap (λ (us : List Thing). us ++ all_found p ns) (unless_found p l ts (anew_by inline.ExternalLink p pl (kept_with l.id p.kept) l ts inside) h)
one_of inline.Tag p pl l ts inside ns h =
    ap (λ (us : List Thing). us ++ all_found p ns) (unless_found p l ts (anew_by inline.Tag p pl (kept_with l.id p.kept) l ts inside) h)
one_of inline.Break p pl l ts inside ns h =
    ap (λ (us : List Thing). us ++ all_found p ns) (unless_found p l ts (anew_by inline.Break p pl (kept_with l.id p.kept) l ts inside) h)
one_of inline.AsItStood p pl l ts inside ns h = ap (λ (us : List Thing). us ++ all_found p ns) (stood_found p l ts h)

all_of : (p : Page) (pl : Place) (us : Trees) → AreSent p us → things (signs_of_all p pl us) ≡ all_found p (numbers us)
unfolding all_found
all_of p pl none h = refl
all_of p pl (more (tree l ts) us) h =
    things_append (signs_of p pl (tree l ts)) (signs_of_all p pl us)
    ∙ ap (λ (vs : List Thing). things (signs_of p pl (tree l ts)) ++ vs) (all_of p pl us h.1)
    ∙ one_of (edit_shape l.kind).inline p pl l ts (signs_of_all p pl ts) (numbers us) h.0

pub same_nodes : (p : Page) (pl : Place) (olds news : Trees) → AreSent p olds → AreSent p news → numbers news ≡ numbers olds
    → things (signs_of_all p pl news) ≡ things (signs_of_all p pl olds)
same_nodes p pl olds news h k e = all_of p pl news k ∙ ap (all_found p) e ∙ sym (all_of p pl olds h)
