-- What the units of an edited tree stand for.
use Rattle.std.proofs.Common.{◌≡◌, ◌⊎◌, inl, inr, Bool, true, false, List, [], ◌∷◌, ◌++◌, append-nil, refl, sym, subst, ap, ◌∙◌, Option, Some, None}
use Rattle.std.specs.Prelude.{if◌then◌else◌}
use Rattle.std.specs.List.{flat_map}
use Rattle.wt_tree.specs.declared.node.Node.{Node, out-Node}
use Rattle.wt_tree.specs.Tree.{Label, Tree, tree, Trees}
use Rattle.wt_tree.specs.View.{label_of, view, views}
use Rattle.wt_tree.proofs.Views.{view_out}
use Rattle.wt_tree.specs.declared.edit_shape.InlineForm.{InlineForm}
use Rattle.wt_tree.specs.declared.edit_shape.InlineForm.TheVariants as inline
use Rattle.wt_tree.specs.declared.edit_shape.Place.{Place}
use Rattle.wt_tree.specs.EditShapes.{edit_shape}
use Rattle.wt_guards.specs.Content.{ContentSign}
use Rattle.wt_original.specs.Kept.{Kept, kept_with}
use Rattle.wt_original.specs.Page.{Page, is_unchanged}
use Rattle.wt_link_spelling.specs.Spelling.{kept_thing, unless_kept, anew_by, signs_by, signs_of, signs_of_all}
use Rattle.wt_escape.specs.Units.{Leaves}

pub leaves_none : (p : Page) (k : Option Kept) (t : Tree) (us : List ContentSign) → k ≡ None → Leaves false us us (unless_kept p k t)
leaves_none p k t us e = (refl, λ s. ap (λ o. unless_kept p o t s) e)

pub leaves_changed : (p : Page) (k : Kept) (t : Tree) (us : List ContentSign) (b : Bool) → b ≡ is_unchanged p k t → b ≡ false
    → Leaves false us us (unless_kept p (Some k) t)
leaves_changed p k t us b e f = (refl, λ s. ap (λ (c : Bool). if c then kept_thing k ∷ [] else s) (sym e ∙ f))

pub leaves_kept : (p : Page) (k : Kept) (t : Tree) (old new : List ContentSign) (b : Bool) → b ≡ is_unchanged p k t → b ≡ true
    → new ≡ old ++ kept_thing k ∷ [] → Leaves true old new (unless_kept p (Some k) t)
leaves_kept p k t old new b e f n = λ s. n ∙ ap (λ (c : Bool). old ++ (if c then kept_thing k ∷ [] else s)) (sym f ∙ e)

-- the node was written as it stands
pub leaves_done : (b : Bool) (old new : List ContentSign) (by : List ContentSign → List ContentSign) (s : List ContentSign) → b ≡ true → Leaves b old new by → new ≡ old ++ by s
leaves_done true old new by s e h = h s
leaves_done false old new by s e h = cc

-- it wasn't, and what is new was
pub leaves_then : (b : Bool) (old mid new : List ContentSign) (by : List ContentSign → List ContentSign) (s : List ContentSign) → b ≡ false → Leaves b old mid by
    → new ≡ mid ++ s → new ≡ old ++ by s
leaves_then true old mid new by s e h n = cc
leaves_then false old mid new by s e h n = n ∙ ap (λ us. us ++ s) h.0 ∙ ap (λ us. old ++ us) (sym (h.1 s))

-- ---- a node by its inline form

pub signs_is : (n : Node) (w : InlineForm) (p : Page) (pl : Place) (k : Option Kept) → (edit_shape (out-Node n).kind).inline ≡ w
    → k ≡ kept_with (out-Node n).id p.kept
    → signs_of p pl (view n) ≡ signs_by w p pl k (label_of (out-Node n)) (views (out-Node n).children) (signs_of_all p pl (views (out-Node n).children))
signs_is n w p pl k e h =
    let l = label_of (out-Node n) in
    let ts = views (out-Node n).children in
    let inside = signs_of_all p pl ts in
    ap (signs_of p pl) (view_out n) ∙ ap (λ v. signs_by v p pl (kept_with l.id p.kept) l ts inside) e
    ∙ ap (λ o. signs_by w p pl o l ts inside) (sym h)

-- its signs are appended
pub signs_pushed : (n : Node) (w : InlineForm) (p : Page) (pl : Place) (k : Option Kept) (old new signs : List ContentSign) → (edit_shape (out-Node n).kind).inline ≡ w
    → k ≡ kept_with (out-Node n).id p.kept
    → signs_by w p pl k (label_of (out-Node n)) (views (out-Node n).children) (signs_of_all p pl (views (out-Node n).children)) ≡ signs
    → new ≡ old ++ signs → new ≡ old ++ signs_of p pl (view n)
signs_pushed n w p pl k old new signs e h f g = g ∙ ap (λ s. old ++ s) (sym f ∙ sym (signs_is n w p pl k e h))

-- what is written anew of it is appended
pub anew_pushed : (v w : InlineForm) (p : Page) (pl : Place) (k : Option Kept) (l : Label) (ts : Trees) (inside old new : List ContentSign) → v ≡ w
    → new ≡ old ++ anew_by w p pl k l ts inside → new ≡ old ++ anew_by v p pl k l ts inside
anew_pushed v w p pl k l ts inside old new e g = g ∙ ap (λ u. old ++ anew_by u p pl k l ts inside) (sym e)

-- of a node that is a text, a style or as it was nothing is written anew
pub none_anew : (v : InlineForm) (p : Page) (pl : Place) (k : Option Kept) (l : Label) (ts : Trees) (inside us : List ContentSign)
    → (v ≡ inline.Nothing) ⊎ ((v ≡ inline.Characters) ⊎ ((v ≡ inline.Bold) ⊎ ((v ≡ inline.Italic) ⊎ (v ≡ inline.AsItStood))))
    → us ≡ us ++ anew_by v p pl k l ts inside
none_anew v p pl k l ts inside us (inl e) = anew_pushed v inline.Nothing p pl k l ts inside us us e (sym (append-nil us))
none_anew v p pl k l ts inside us (inr (inl e)) = anew_pushed v inline.Characters p pl k l ts inside us us e (sym (append-nil us))
none_anew v p pl k l ts inside us (inr (inr (inl e))) = anew_pushed v inline.Bold p pl k l ts inside us us e (sym (append-nil us))
none_anew v p pl k l ts inside us (inr (inr (inr (inl e)))) = anew_pushed v inline.Italic p pl k l ts inside us us e (sym (append-nil us))
none_anew v p pl k l ts inside us (inr (inr (inr (inr e)))) = anew_pushed v inline.AsItStood p pl k l ts inside us us e (sym (append-nil us))

-- one of some forms, of an equal form
pub same_form : {v w : InlineForm} → v ≡ w
    → (w ≡ inline.Shown) ⊎ ((w ≡ inline.PageLink) ⊎ ((w ≡ inline.ExternalLink) ⊎ ((w ≡ inline.Tag) ⊎ (w ≡ inline.Break))))
    → (v ≡ inline.Shown) ⊎ ((v ≡ inline.PageLink) ⊎ ((v ≡ inline.ExternalLink) ⊎ ((v ≡ inline.Tag) ⊎ (v ≡ inline.Break))))
same_form e one = subst (λ u. (u ≡ inline.Shown) ⊎ ((u ≡ inline.PageLink) ⊎ ((u ≡ inline.ExternalLink) ⊎ ((u ≡ inline.Tag) ⊎ (u ≡ inline.Break))))) (sym e) one

pub same_quiet : {v w : InlineForm} → v ≡ w
    → (w ≡ inline.Nothing) ⊎ ((w ≡ inline.Characters) ⊎ ((w ≡ inline.Bold) ⊎ ((w ≡ inline.Italic) ⊎ (w ≡ inline.AsItStood))))
    → (v ≡ inline.Nothing) ⊎ ((v ≡ inline.Characters) ⊎ ((v ≡ inline.Bold) ⊎ ((v ≡ inline.Italic) ⊎ (v ≡ inline.AsItStood))))
same_quiet e one = subst (λ u. (u ≡ inline.Nothing) ⊎ ((u ≡ inline.Characters) ⊎ ((u ≡ inline.Bold) ⊎ ((u ≡ inline.Italic) ⊎ (u ≡ inline.AsItStood))))) (sym e) one

-- any other node is as it was, if it is unchanged, or written anew
pub kept_or_anew : (v : InlineForm) (p : Page) (pl : Place) (k : Option Kept) (l : Label) (ts : Trees) (inside : List ContentSign)
    → (v ≡ inline.Shown) ⊎ ((v ≡ inline.PageLink) ⊎ ((v ≡ inline.ExternalLink) ⊎ ((v ≡ inline.Tag) ⊎ (v ≡ inline.Break))))
    → signs_by v p pl k l ts inside ≡ unless_kept p k (tree l ts) (anew_by v p pl k l ts inside)
kept_or_anew v p pl k l ts inside (inl e) = subst (λ w. signs_by w p pl k l ts inside ≡ unless_kept p k (tree l ts) (anew_by w p pl k l ts inside)) (sym e) refl
kept_or_anew v p pl k l ts inside (inr (inl e)) = subst (λ w. signs_by w p pl k l ts inside ≡ unless_kept p k (tree l ts) (anew_by w p pl k l ts inside)) (sym e) refl
kept_or_anew v p pl k l ts inside (inr (inr (inl e))) = subst (λ w. signs_by w p pl k l ts inside ≡ unless_kept p k (tree l ts) (anew_by w p pl k l ts inside)) (sym e) refl
kept_or_anew v p pl k l ts inside (inr (inr (inr (inl e)))) = subst (λ w. signs_by w p pl k l ts inside ≡ unless_kept p k (tree l ts) (anew_by w p pl k l ts inside)) (sym e) refl
kept_or_anew v p pl k l ts inside (inr (inr (inr (inr e)))) = subst (λ w. signs_by w p pl k l ts inside ≡ unless_kept p k (tree l ts) (anew_by w p pl k l ts inside)) (sym e) refl

-- where it is kept, or what is new is written
pub unless_seen : (n : Node) (p : Page) (k : Option Kept) (new : List ContentSign)
    → unless_kept p k (view n) new ≡ unless_kept p k (tree (label_of (out-Node n)) (views (out-Node n).children)) new
unless_seen n p k new = ap (λ t. unless_kept p k t new) (view_out n)

pub signs_views : (p : Page) (pl : Place) (ns : List Node) → signs_of_all p pl (views ns) ≡ flat_map (λ n. signs_of p pl (view n)) ns
signs_views p pl [] = refl
signs_views p pl (n ∷ ns) = ap (λ s. signs_of p pl (view n) ++ s) (signs_views p pl ns)
