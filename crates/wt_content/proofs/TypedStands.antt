-- Nothing is wrong with a text edit.
use Rattle.std.proofs.Common.{◌≡◌, ℕ, Bool, true, false, List, [], ◌∷◌, ◌++◌, refl, ap, ◌∙◌, Option, None, Some}
use Rattle.std.specs.Prelude.{◌&&◌, ◌||◌, not, if◌then◌else◌}
use Rattle.wt_tree.specs.Tiling.{HasNoGroup}
use Rattle.wt_tree.specs.Tree.{Label, Tree, tree, Trees, none, more, label}
use Rattle.wt_tiles.proofs.Words.{and_left, and_right}
use Rattle.wt_tree.specs.declared.edit_shape.InlineForm.{InlineForm}
use Rattle.wt_tree.specs.declared.edit_shape.InlineForm.TheVariants as inline
use Rattle.wt_tree.specs.EditShapes.{edit_shape}
use Rattle.wt_original.specs.Kept.{Kept, kept_nodes, kept_with}
use Rattle.wt_original.specs.Page.{Page, TellsSame, is_unchanged, page_of}
use Rattle.wt_content.specs.declared.content.Surroundings.{Surroundings}
use Rattle.wt_content.specs.declared.content.Standing.{Standing}
use Rattle.wt_content.specs.declared.content.Standing.TheVariants as stands
use Rattle.wt_content.specs.declared.reason.ContentWhy.{ContentWhy}
use Rattle.wt_content.specs.declared.reason.ContentWhy.TheVariants as why
use Rattle.wt_content.specs.Content.{all_faults, bad_content, below, faults, faults_by, first_why, has_break, held, brings_link, changed_from, holds_link, if_replaced, is_link, is_open, is_same, nested_fault, outermost, own_faults, standing, standing_of}
use Rattle.wt_content.specs.Typed.{IsUntouched, MayStand, IsTypedBy, IsTyped, AreTyped, TakesNoPlace, may_change}
use Rattle.wt_content.proofs.Untouched.{untouched_is_same}

-- ---- a content that can be told to be typed

abbrev is_replaced : Standing → Bool
is_replaced stands.New = false
is_replaced stands.Changed = false
is_replaced stands.Replaced = true
is_replaced stands.Same = false

-- the same, by how each node stands to the page
abbrev typed_by : InlineForm → Standing → Bool → List ℕ → Bool → Bool
typed_by inline.Nothing s in_paragraph text inside = true
typed_by inline.Characters s in_paragraph text inside = in_paragraph || not (has_break text)
typed_by inline.Bold s in_paragraph text inside = inside && not (is_replaced s)
typed_by inline.Italic s in_paragraph text inside = inside && not (is_replaced s)
typed_by inline.Shown s in_paragraph text inside = is_same s
typed_by inline.PageLink s in_paragraph text inside = is_same s
typed_by inline.ExternalLink s in_paragraph text inside = is_same s
typed_by inline.Tag s in_paragraph text inside = is_same s
typed_by inline.Break s in_paragraph text inside = is_same s
typed_by inline.AsItStood s in_paragraph text inside = is_same s

abbrev mutual
  is_typed : Page → Bool → Tree → Bool
  is_typed p in_paragraph (tree l ts) = typed_by (edit_shape l.kind).inline (standing p (tree l ts)) in_paragraph l.shown (are_typed p false ts)

  are_typed : Page → Bool → Trees → Bool
  are_typed p in_paragraph none = true
  are_typed p in_paragraph (more t ts) = is_typed p in_paragraph t && are_typed p in_paragraph ts

no_break : (in_paragraph breaks : Bool) → (in_paragraph || not breaks) ≡ true → (if not in_paragraph && breaks then why.LineBreak ∷ [] else []) ≡ []
no_break true breaks e = refl
no_break false true e = cc
no_break false false e = refl

-- of all nodes but texts, bold and italic what they hold may not be typed
abbrev is_kept_whole : InlineForm → Bool
is_kept_whole inline.Nothing = false
is_kept_whole inline.Characters = false
is_kept_whole inline.Bold = false
is_kept_whole inline.Italic = false
is_kept_whole inline.Shown = true
is_kept_whole inline.PageLink = true
is_kept_whole inline.ExternalLink = true
is_kept_whole inline.Tag = true
is_kept_whole inline.Break = true
is_kept_whole inline.AsItStood = true

-- a node as it was in the page
kept_alone : (w : InlineForm) (x : Surroundings) (l : Label) (inside : List ContentWhy) → is_kept_whole w ≡ true
    → own_faults w x stands.Same l ++ (if is_open w stands.Same then inside else []) ≡ []
kept_alone inline.Nothing x l inside a = cc
kept_alone inline.Characters x l inside a = cc
kept_alone inline.Bold x l inside a = cc
kept_alone inline.Italic x l inside a = cc
kept_alone inline.Shown x l inside a = refl
kept_alone inline.PageLink x l inside a = refl
kept_alone inline.ExternalLink x l inside a = refl
kept_alone inline.Tag x l inside a = refl
kept_alone inline.Break x l inside a = refl
kept_alone inline.AsItStood x l inside a = refl

-- outside links no link stands in one
outside : (brings : Bool) (x : Surroundings) (ws : List ContentWhy) → x.in_link ≡ false → ws ≡ [] → nested_fault (x.in_link && brings) ++ ws ≡ []
outside brings x ws n e = ap (λ (b : Bool). nested_fault (b && brings) ++ ws) n ∙ e

kept_is_good : (w : InlineForm) (x : Surroundings) (s : Standing) (l : Label) (holds : Bool) (inside : List ContentWhy) → x.in_link ≡ false → is_kept_whole w ≡ true
    → is_same s ≡ true → faults_by w x s l holds inside ≡ []
kept_is_good w x stands.New l holds inside n a e = cc
kept_is_good w x stands.Changed l holds inside n a e = cc
kept_is_good w x stands.Replaced l holds inside n a e = cc
kept_is_good w x stands.Same l holds inside n a e = outside (brings_link w stands.Same holds) x _ n (kept_alone w x l inside a)

-- bold or italic that takes no other node's place, with what it holds
style_is_good : (s : Standing) (good : Bool) (inside : List ContentWhy) → (good && not (is_replaced s)) ≡ true → (good ≡ true → inside ≡ [])
    → if_replaced s ++ inside ≡ []
style_is_good stands.New true inside e h = h refl
style_is_good stands.Changed true inside e h = h refl
style_is_good stands.Replaced true inside e h = cc
style_is_good stands.Same true inside e h = h refl
style_is_good s false inside e h = cc

typed_is_good : (w : InlineForm) (x : Surroundings) (s : Standing) (l : Label) (holds good : Bool) (inside : List ContentWhy) → x.in_link ≡ false
    → typed_by w s x.in_paragraph l.shown good ≡ true → (is_link w ≡ false → good ≡ true → inside ≡ []) → faults_by w x s l holds inside ≡ []
typed_is_good inline.Nothing x s l holds good inside n e h = outside holds x [] n refl
typed_is_good inline.Characters x s l holds good inside n e h =
    outside holds x _ n (ap (λ (ws : List ContentWhy). ws ++ []) (no_break x.in_paragraph (has_break l.shown) e))
typed_is_good inline.Bold x s l holds good inside n e h = outside false x _ n (style_is_good s good inside e (h refl))
typed_is_good inline.Italic x s l holds good inside n e h = outside false x _ n (style_is_good s good inside e (h refl))
typed_is_good inline.Shown x s l holds good inside n e h = kept_is_good inline.Shown x s l holds inside n refl e
typed_is_good inline.PageLink x s l holds good inside n e h = kept_is_good inline.PageLink x s l holds inside n refl e
typed_is_good inline.ExternalLink x s l holds good inside n e h = kept_is_good inline.ExternalLink x s l holds inside n refl e
typed_is_good inline.Tag x s l holds good inside n e h = kept_is_good inline.Tag x s l holds inside n refl e
typed_is_good inline.Break x s l holds good inside n e h = kept_is_good inline.Break x s l holds inside n refl e
typed_is_good inline.AsItStood x s l holds good inside n e h = kept_is_good inline.AsItStood x s l holds inside n refl e

neither : (a b : Bool) → a ≡ false → b ≡ false → (a || b) ≡ false
neither true b e f = cc
neither false b e f = f

mutual
  node_is_good : (p : Page) (x : Surroundings) (t : Tree) → x.in_link ≡ false → is_typed p x.in_paragraph t ≡ true → faults p x t ≡ []
  node_is_good p x (tree l ts) n e =
      let w = (edit_shape l.kind).inline in
      typed_is_good w x (standing p (tree l ts)) l (holds_link (tree l ts)) (are_typed p false ts) (all_faults p (below x w) ts) n e
      (λ none_here good. all_are_good p (below x w) ts (neither x.in_link (is_link w) n none_here) good)

  all_are_good : (p : Page) (x : Surroundings) (ts : Trees) → x.in_link ≡ false → are_typed p x.in_paragraph ts ≡ true → all_faults p x ts ≡ []
  all_are_good p x none n e = refl
  all_are_good p x (more t ts) n e =
      ap (λ (ws : List ContentWhy). ws ++ all_faults p x ts)
      (node_is_good p x t n (and_left (is_typed p x.in_paragraph t) (are_typed p x.in_paragraph ts) e))
      ∙ all_are_good p x ts n (and_right (is_typed p x.in_paragraph t) (are_typed p x.in_paragraph ts) e)

-- ---- a text edit can be told

may_stand : (in_paragraph : Bool) (text : List ℕ) → MayStand in_paragraph text → (in_paragraph || not (has_break text)) ≡ true
may_stand true text h = refl
may_stand false text h = ap (λ (b : Bool). not b) h

both_true : (a b : Bool) → a ≡ true → b ≡ true → (a && b) ≡ true
both_true true b e f = f
both_true false b e f = cc

told_by : (w : InlineForm) (s : Standing) (in_paragraph : Bool) (text : List ℕ) (inside free untouched : Type 0) (good : Bool)
    → IsTypedBy w in_paragraph text inside free untouched → (inside → good ≡ true) → (free → not (is_replaced s) ≡ true) → (untouched → is_same s ≡ true)
    → typed_by w s in_paragraph text good ≡ true
told_by inline.Nothing s in_paragraph text inside free untouched good h f r g = refl
told_by inline.Characters s in_paragraph text inside free untouched good h f r g = may_stand in_paragraph text h
told_by inline.Bold s in_paragraph text inside free untouched good h f r g = both_true good (not (is_replaced s)) (f h.0) (r h.1)
told_by inline.Italic s in_paragraph text inside free untouched good h f r g = both_true good (not (is_replaced s)) (f h.0) (r h.1)
told_by inline.Shown s in_paragraph text inside free untouched good h f r g = g h
told_by inline.PageLink s in_paragraph text inside free untouched good h f r g = g h
told_by inline.ExternalLink s in_paragraph text inside free untouched good h f r g = g h
told_by inline.Tag s in_paragraph text inside free untouched good h f r g = g h
told_by inline.Break s in_paragraph text inside free untouched good h f r g = g h
told_by inline.AsItStood s in_paragraph text inside free untouched good h f r g = g h

-- what the page has with its number may change, if it has something
is_changed : (w : InlineForm) → may_change w ≡ true → not (is_replaced (changed_from w)) ≡ true
is_changed inline.Nothing e = refl
is_changed inline.Characters e = refl
is_changed inline.Bold e = refl
is_changed inline.Italic e = refl
is_changed inline.Shown e = refl
is_changed inline.PageLink e = refl
is_changed inline.ExternalLink e = refl
is_changed inline.Tag e = refl
is_changed inline.Break e = cc
is_changed inline.AsItStood e = cc

not_replaced : (unchanged : Bool) (s : Standing) → not (is_replaced s) ≡ true → not (is_replaced (if unchanged then stands.Same else s)) ≡ true
not_replaced true s e = refl
not_replaced false s e = e

takes_no_place : (p : Page) (k : Option Kept) (t : Tree) → TakesNoPlace k → not (is_replaced (standing_of p k t)) ≡ true
takes_no_place p None t h = refl
takes_no_place p (Some k) t h =
    let w = (edit_shape (label k.node).kind).inline in not_replaced (is_unchanged p k t) (changed_from w) (is_changed w h)

mutual
  node_is_told : (same : Tree → Tree → Bool) (old : Tree) → TellsSame same → (in_paragraph : Bool) (t : Tree) → IsTyped old in_paragraph t
      → is_typed (page_of same old) in_paragraph t ≡ true
  node_is_told same old tells in_paragraph (tree l ts) h =
      told_by (edit_shape l.kind).inline (standing (page_of same old) (tree l ts)) in_paragraph l.shown (AreTyped old false ts)
      (TakesNoPlace (kept_with l.id (kept_nodes old))) (IsUntouched old (tree l ts) × HasNoGroup (tree l ts)) (are_typed (page_of same old) false ts) h
      (λ inside. all_are_told same old tells false ts inside)
      (λ free. takes_no_place (page_of same old) (kept_with l.id (kept_nodes old)) (tree l ts) free) (λ own. ap is_same (untouched_is_same same old (tree l ts) tells own.1 own.0))

  all_are_told : (same : Tree → Tree → Bool) (old : Tree) → TellsSame same → (in_paragraph : Bool) (ts : Trees) → AreTyped old in_paragraph ts
      → are_typed (page_of same old) in_paragraph ts ≡ true
  all_are_told same old tells in_paragraph none h = refl
  all_are_told same old tells in_paragraph (more t ts) h =
      both_true (is_typed (page_of same old) in_paragraph t) (are_typed (page_of same old) in_paragraph ts)
      (node_is_told same old tells in_paragraph t h.0) (all_are_told same old tells in_paragraph ts h.1)

pub typed_text_stands : (same : Tree → Tree → Bool) (old new : Tree) → TellsSame same → AreTyped old (outermost old).in_paragraph (held new)
    → bad_content same old new ≡ None
unfolding bad_content
typed_text_stands same old new tells h =
    ap first_why (all_are_good (page_of same old) (outermost old) (held new) refl
    (all_are_told same old tells (outermost old).in_paragraph (held new) h))
