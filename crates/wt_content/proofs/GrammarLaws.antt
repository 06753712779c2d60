-- Nothing is wrong with a content exactly where it is of the grammar.
use Rattle.std.proofs.Common.{◌≡◌, ◌⊎◌, inl, inr, ℕ, Bool, true, false, List, [], ◌∷◌, ◌++◌, refl, ap, ◌∙◌, Option, None, Some}
use Rattle.std.specs.Prelude.{◌&&◌, ◌||◌, not, if◌then◌else◌, is_some}
use Rattle.wt_tree.specs.Tiling.{is_group}
use Rattle.wt_tree.specs.Tree.{Label, Tree, tree, Trees, none, more}
use Rattle.wt_names.specs.Written.{read_link}
use Rattle.wt_tree.specs.declared.edit_shape.InlineForm.{InlineForm}
use Rattle.wt_tree.specs.declared.edit_shape.InlineForm.TheVariants as inline
use Rattle.wt_tree.specs.EditShapes.{edit_shape}
use Rattle.wt_original.specs.Page.{Page, page_of}
use Rattle.wt_link_spelling.specs.Spelling.{href_of}
use Rattle.wt_content.specs.declared.content.Surroundings.{Surroundings}
use Rattle.wt_content.specs.declared.content.Standing.{Standing}
use Rattle.wt_content.specs.declared.content.Standing.TheVariants as stands
use Rattle.wt_content.specs.declared.reason.ContentWhy.{ContentWhy}
use Rattle.wt_content.specs.declared.reason.ContentWhy.TheVariants as why
use Rattle.wt_content.specs.Content.{all_faults, any_holds_link, bad_content, below, break_fault, brings_link, content_faults, faults, faults_by, first_why, has_break, held, holds_link, is_link, is_open, is_url, link_fault, nested_fault, outermost, own_faults, standing}
use Rattle.wt_content.specs.ContentLaws.{IsFirstReason}
use Rattle.wt_content.specs.Grammar.{AreContent, IsContent, IsContentBy, IsKept, IsLinkOf, IsWritten}
use Rattle.wt_content.specs.Typed.{MayStand}
use Rattle.wt_content.proofs.FirstReason.{first_reason}
use Rattle.wt_content.proofs.LinksApart.{nil_left, nil_right, none_nested}

-- ---- parts of a node's faults

no_break : (breaks : Bool) → (if breaks then why.LineBreak ∷ [] else []) ≡ [] → breaks ≡ false
no_break true e = cc
no_break false e = refl

may_stand : (in_paragraph : Bool) (text : List ℕ) → break_fault in_paragraph text ≡ [] → MayStand in_paragraph text
may_stand true text e = tt
may_stand false text e = no_break (has_break text) e

stands_well : (in_paragraph : Bool) (text : List ℕ) → MayStand in_paragraph text → break_fault in_paragraph text ≡ []
stands_well true text h = refl
stands_well false text h = ap (λ (b : Bool). if b then why.LineBreak ∷ [] else []) h

leads : (good : Bool) → link_fault good ≡ [] → good ≡ true
leads true e = refl
leads false e = cc

led : (good : Bool) → good ≡ true → link_fault good ≡ []
led true e = refl
led false e = cc

-- in a link it holds no link
holds_none : (in_link holds : Bool) → (in_link && holds) ≡ false → in_link ≡ true → holds ≡ false
holds_none true holds e i = e
holds_none false holds e i = cc

held_none : (in_link holds : Bool) → (in_link ≡ true → holds ≡ false) → (in_link && holds) ≡ false
held_none true holds h = h refl
held_none false holds h = refl

-- a link brings one
no_link_round : (in_link brings : Bool) → brings ≡ true → (in_link && brings) ≡ false → in_link ≡ false
no_link_round true brings b e = cc
no_link_round false brings b e = refl

-- ---- what isn't wrong is of the grammar

some_fault : (w : ContentWhy) (ws : List ContentWhy) → w ∷ ws ≡ [] → ⊥
some_fault w ws e = cc

kept : (x : Surroundings) (holds : Bool) → (x.in_link && holds) ≡ false → IsKept x stands.Same holds
kept x holds b = (refl, holds_none x.in_link holds b)

same_link : (x : Surroundings) (holds : Bool) (Leads Inside : Type 0) → holds ≡ true → (x.in_link && holds) ≡ false → IsLinkOf x stands.Same Leads Inside
same_link x holds Leads Inside h b = (no_link_round x.in_link holds h b, inl refl)

written_link : (x : Surroundings) (s : Standing) (good : Bool) (inside : List ContentWhy) (Inside : Type 0) → (inside ≡ [] → Inside)
    → (x.in_link && true) ≡ false → link_fault good ≡ [] → inside ≡ [] → IsWritten s → IsLinkOf x s (good ≡ true) Inside
written_link x s good inside Inside f b own rest written = (no_link_round x.in_link true refl b, inr (written, leads good own, f rest))

of_grammar : (w : InlineForm) (x : Surroundings) (s : Standing) (l : Label) (holds : Bool) (inside : List ContentWhy) (Inside : Type 0)
    → (is_link w ≡ true → holds ≡ true) → (inside ≡ [] → Inside) → (x.in_link && brings_link w s holds) ≡ false → own_faults w x s l ≡ []
    → (if is_open w s then inside else []) ≡ [] → IsContentBy w x s l holds Inside
of_grammar inline.Nothing x s l holds inside I h f b own rest = holds_none x.in_link holds b
of_grammar inline.Characters x s l holds inside I h f b own rest = (may_stand x.in_paragraph l.shown own, holds_none x.in_link holds b)
of_grammar inline.Bold x stands.New l holds inside I h f b own rest = (tt, f rest)
of_grammar inline.Bold x stands.Changed l holds inside I h f b own rest = (tt, f rest)
of_grammar inline.Bold x stands.Replaced l holds inside I h f b own rest = absurd (some_fault why.Element [] own)
of_grammar inline.Bold x stands.Same l holds inside I h f b own rest = (tt, f rest)
of_grammar inline.Italic x stands.New l holds inside I h f b own rest = (tt, f rest)
of_grammar inline.Italic x stands.Changed l holds inside I h f b own rest = (tt, f rest)
of_grammar inline.Italic x stands.Replaced l holds inside I h f b own rest = absurd (some_fault why.Element [] own)
of_grammar inline.Italic x stands.Same l holds inside I h f b own rest = (tt, f rest)
of_grammar inline.Shown x stands.New l holds inside I h f b own rest = absurd (some_fault why.Element [] own)
of_grammar inline.Shown x stands.Changed l holds inside I h f b own rest = inr (refl, no_break (has_break l.shown) own, f rest)
of_grammar inline.Shown x stands.Replaced l holds inside I h f b own rest = absurd (some_fault why.Element [] own)
of_grammar inline.Shown x stands.Same l holds inside I h f b own rest = inl (kept x holds b)
of_grammar inline.PageLink x stands.New l holds inside I h f b own rest =
    written_link x stands.New (is_some (read_link (href_of l))) inside I f b own rest tt
of_grammar inline.PageLink x stands.Changed l holds inside I h f b own rest =
    written_link x stands.Changed (is_some (read_link (href_of l))) inside I f b own rest tt
of_grammar inline.PageLink x stands.Replaced l holds inside I h f b own rest = absurd (some_fault why.Element [] own)
of_grammar inline.PageLink x stands.Same l holds inside I h f b own rest =
    same_link x holds (is_some (read_link (href_of l)) ≡ true) I (h refl) b
of_grammar inline.ExternalLink x stands.New l holds inside I h f b own rest =
    written_link x stands.New (is_url (href_of l)) inside I f b own rest tt
of_grammar inline.ExternalLink x stands.Changed l holds inside I h f b own rest =
    written_link x stands.Changed (is_url (href_of l)) inside I f b own rest tt
of_grammar inline.ExternalLink x stands.Replaced l holds inside I h f b own rest = absurd (some_fault why.Element [] own)
of_grammar inline.ExternalLink x stands.Same l holds inside I h f b own rest = same_link x holds (is_url (href_of l) ≡ true) I (h refl) b
of_grammar inline.Tag x stands.New l holds inside I h f b own rest = absurd (some_fault why.Element [] own)
of_grammar inline.Tag x stands.Changed l holds inside I h f b own rest = inr (refl, f rest)
of_grammar inline.Tag x stands.Replaced l holds inside I h f b own rest = absurd (some_fault why.Element [] own)
of_grammar inline.Tag x stands.Same l holds inside I h f b own rest = inl (kept x holds b)
of_grammar inline.Break x stands.New l holds inside I h f b own rest = inr (refl, f rest)
of_grammar inline.Break x stands.Changed l holds inside I h f b own rest = absurd (some_fault why.Element [] own)
of_grammar inline.Break x stands.Replaced l holds inside I h f b own rest = absurd (some_fault why.Element [] own)
of_grammar inline.Break x stands.Same l holds inside I h f b own rest = inl (kept x holds b)
of_grammar inline.AsItStood x stands.New l holds inside I h f b own rest = absurd (some_fault why.Element [] own)
of_grammar inline.AsItStood x stands.Changed l holds inside I h f b own rest = absurd (some_fault why.Element [] own)
of_grammar inline.AsItStood x stands.Replaced l holds inside I h f b own rest = absurd (some_fault why.Element [] own)
of_grammar inline.AsItStood x stands.Same l holds inside I h f b own rest = kept x holds b

holds_itself : (w : InlineForm) (rest : Bool) → is_link w ≡ true → (is_link w || rest) ≡ true
holds_itself w rest h = ap (λ (b : Bool). b || rest) h

mutual
  node_is_content : (p : Page) (x : Surroundings) (t : Tree) → faults p x t ≡ [] → IsContent p x t
  node_is_content p x (tree l ts) e =
      let w = (edit_shape l.kind).inline in
      let s = standing p (tree l ts) in
      let inside = all_faults p (below x w) ts in
      let rest : List ContentWhy = if is_open w s then inside else [] in
      let brings = brings_link w s (holds_link (tree l ts)) in
      let more_faults = nil_right (nested_fault (x.in_link && brings)) (own_faults w x s l ++ rest) e in
      of_grammar w x s l (holds_link (tree l ts)) inside (AreContent p (below x w) ts) (holds_itself w (not (is_group l.kind) && any_holds_link ts))
      (are_content p (below x w) ts)
      (none_nested (x.in_link && brings) (nil_left (nested_fault (x.in_link && brings)) (own_faults w x s l ++ rest) e))
      (nil_left (own_faults w x s l) rest more_faults) (nil_right (own_faults w x s l) rest more_faults)

  are_content : (p : Page) (x : Surroundings) (ts : Trees) → all_faults p x ts ≡ [] → AreContent p x ts
  are_content p x none e = tt
  are_content p x (more t ts) e =
      (node_is_content p x t (nil_left (faults p x t) (all_faults p x ts) e), are_content p x ts (nil_right (faults p x t) (all_faults p x ts) e))

-- ---- nothing is wrong with what is of the grammar

and_false : (a : Bool) → (a && false) ≡ false
and_false true = refl
and_false false = refl

together : (x : Surroundings) (brings : Bool) (own rest : List ContentWhy) → (x.in_link && brings) ≡ false → own ≡ [] → rest ≡ []
    → nested_fault (x.in_link && brings) ++ (own ++ rest) ≡ []
together x brings own rest b o r = ap (λ (n : Bool). nested_fault n ++ (own ++ rest)) b ∙ ap (λ (ws : List ContentWhy). ws ++ rest) o ∙ r

-- a node as it was in the page
kept_stands : (w : InlineForm) (x : Surroundings) (s : Standing) (l : Label) (holds : Bool) (inside : List ContentWhy) → own_faults w x stands.Same l ≡ []
    → is_open w stands.Same ≡ false → s ≡ stands.Same → (x.in_link ≡ true → holds ≡ false) → faults_by w x s l holds inside ≡ []
kept_stands w x stands.New l holds inside own closed e apart = cc
kept_stands w x stands.Changed l holds inside own closed e apart = cc
kept_stands w x stands.Replaced l holds inside own closed e apart = cc
kept_stands w x stands.Same l holds inside own closed e apart =
    ap (λ (o : Bool). nested_fault (x.in_link && (if o then is_link w else holds)) ++ (own_faults w x stands.Same l ++ (if o then inside else [])))
    closed ∙ together x holds (own_faults w x stands.Same l) [] (held_none x.in_link holds apart) own refl

no_round : (in_link holds : Bool) → in_link ≡ false → in_link ≡ true → holds ≡ false
no_round in_link holds n i = cc

style_stands : (x : Surroundings) (s : Standing) (own inside : List ContentWhy) → own ≡ [] → inside ≡ []
    → nested_fault (x.in_link && false) ++ (own ++ inside) ≡ []
style_stands x s own inside o r = together x false own inside (and_false x.in_link) o r

link_stands : (x : Surroundings) (good : Bool) (inside : List ContentWhy) → x.in_link ≡ false → good ≡ true → inside ≡ []
    → nested_fault (x.in_link && true) ++ (link_fault good ++ inside) ≡ []
link_stands x good inside n g r = together x true (link_fault good) inside (ap (λ (b : Bool). b && true) n) (led good g) r

shown_changed : (x : Surroundings) (s : Standing) (l : Label) (holds : Bool) (inside : List ContentWhy) → s ≡ stands.Changed → has_break l.shown ≡ false
    → inside ≡ [] → faults_by inline.Shown x s l holds inside ≡ []
shown_changed x stands.New l holds inside e n r = cc
shown_changed x stands.Changed l holds inside e n r =
    style_stands x stands.Changed (break_fault false l.shown) inside (stands_well false l.shown n) r
shown_changed x stands.Replaced l holds inside e n r = cc
shown_changed x stands.Same l holds inside e n r = cc

tag_changed : (x : Surroundings) (s : Standing) (l : Label) (holds : Bool) (inside : List ContentWhy) → s ≡ stands.Changed → inside ≡ []
    → faults_by inline.Tag x s l holds inside ≡ []
tag_changed x stands.New l holds inside e r = cc
tag_changed x stands.Changed l holds inside e r = style_stands x stands.Changed [] inside refl r
tag_changed x stands.Replaced l holds inside e r = cc
tag_changed x stands.Same l holds inside e r = cc

break_new : (x : Surroundings) (s : Standing) (l : Label) (holds : Bool) (inside : List ContentWhy) → s ≡ stands.New → inside ≡ []
    → faults_by inline.Break x s l holds inside ≡ []
break_new x stands.New l holds inside e r = style_stands x stands.New [] inside refl r
break_new x stands.Changed l holds inside e r = cc
break_new x stands.Replaced l holds inside e r = cc
break_new x stands.Same l holds inside e r = cc

page_link : (x : Surroundings) (s : Standing) (l : Label) (holds : Bool) (inside : List ContentWhy) (Inside : Type 0) → (Inside → inside ≡ [])
    → x.in_link ≡ false → (s ≡ stands.Same) ⊎ (IsWritten s × (is_some (read_link (href_of l)) ≡ true) × Inside)
    → faults_by inline.PageLink x s l holds inside ≡ []
page_link x s l holds inside I f n (inl e) = kept_stands inline.PageLink x s l holds inside refl refl e (no_round x.in_link holds n)
page_link x stands.New l holds inside I f n (inr h) = link_stands x (is_some (read_link (href_of l))) inside n h.1 (f h.2)
page_link x stands.Changed l holds inside I f n (inr h) = link_stands x (is_some (read_link (href_of l))) inside n h.1 (f h.2)
page_link x stands.Replaced l holds inside I f n (inr h) = absurd h.0
page_link x stands.Same l holds inside I f n (inr h) = absurd h.0

external_link : (x : Surroundings) (s : Standing) (l : Label) (holds : Bool) (inside : List ContentWhy) (Inside : Type 0) → (Inside → inside ≡ [])
    → x.in_link ≡ false → (s ≡ stands.Same) ⊎ (IsWritten s × (is_url (href_of l) ≡ true) × Inside)
    → faults_by inline.ExternalLink x s l holds inside ≡ []
external_link x s l holds inside I f n (inl e) = kept_stands inline.ExternalLink x s l holds inside refl refl e (no_round x.in_link holds n)
external_link x stands.New l holds inside I f n (inr h) = link_stands x (is_url (href_of l)) inside n h.1 (f h.2)
external_link x stands.Changed l holds inside I f n (inr h) = link_stands x (is_url (href_of l)) inside n h.1 (f h.2)
external_link x stands.Replaced l holds inside I f n (inr h) = absurd h.0
external_link x stands.Same l holds inside I f n (inr h) = absurd h.0

nothing_wrong : (w : InlineForm) (x : Surroundings) (s : Standing) (l : Label) (holds : Bool) (inside : List ContentWhy) (Inside : Type 0)
    → (Inside → inside ≡ []) → IsContentBy w x s l holds Inside → faults_by w x s l holds inside ≡ []
nothing_wrong inline.Nothing x s l holds inside I f h = together x holds [] [] (held_none x.in_link holds h) refl refl
nothing_wrong inline.Characters x s l holds inside I f h =
    together x holds (break_fault x.in_paragraph l.shown) [] (held_none x.in_link holds h.1) (stands_well x.in_paragraph l.shown h.0) refl
nothing_wrong inline.Bold x stands.New l holds inside I f h = style_stands x stands.New [] inside refl (f h.1)
nothing_wrong inline.Bold x stands.Changed l holds inside I f h = style_stands x stands.Changed [] inside refl (f h.1)
nothing_wrong inline.Bold x stands.Replaced l holds inside I f h = absurd h.0
nothing_wrong inline.Bold x stands.Same l holds inside I f h = style_stands x stands.Same [] inside refl (f h.1)
nothing_wrong inline.Italic x stands.New l holds inside I f h = style_stands x stands.New [] inside refl (f h.1)
nothing_wrong inline.Italic x stands.Changed l holds inside I f h = style_stands x stands.Changed [] inside refl (f h.1)
nothing_wrong inline.Italic x stands.Replaced l holds inside I f h = absurd h.0
nothing_wrong inline.Italic x stands.Same l holds inside I f h = style_stands x stands.Same [] inside refl (f h.1)
nothing_wrong inline.Shown x s l holds inside I f (inl h) = kept_stands inline.Shown x s l holds inside refl refl h.0 h.1
nothing_wrong inline.Shown x s l holds inside I f (inr h) = shown_changed x s l holds inside h.0 h.1 (f h.2)
nothing_wrong inline.PageLink x s l holds inside I f h = page_link x s l holds inside I f h.0 h.1
nothing_wrong inline.ExternalLink x s l holds inside I f h = external_link x s l holds inside I f h.0 h.1
nothing_wrong inline.Tag x s l holds inside I f (inl h) = kept_stands inline.Tag x s l holds inside refl refl h.0 h.1
nothing_wrong inline.Tag x s l holds inside I f (inr h) = tag_changed x s l holds inside h.0 (f h.1)
nothing_wrong inline.Break x s l holds inside I f (inl h) = kept_stands inline.Break x s l holds inside refl refl h.0 h.1
nothing_wrong inline.Break x s l holds inside I f (inr h) = break_new x s l holds inside h.0 (f h.1)
nothing_wrong inline.AsItStood x s l holds inside I f h = kept_stands inline.AsItStood x s l holds inside refl refl h.0 h.1

mutual
  node_is_good : (p : Page) (x : Surroundings) (t : Tree) → IsContent p x t → faults p x t ≡ []
  node_is_good p x (tree l ts) h =
      let w = (edit_shape l.kind).inline in
      nothing_wrong w x (standing p (tree l ts)) l (holds_link (tree l ts)) (all_faults p (below x w) ts) (AreContent p (below x w) ts)
      (all_are_good p (below x w) ts) h

  all_are_good : (p : Page) (x : Surroundings) (ts : Trees) → AreContent p x ts → all_faults p x ts ≡ []
  all_are_good p x none h = refl
  all_are_good p x (more t ts) h = ap (λ (ws : List ContentWhy). ws ++ all_faults p x ts) (node_is_good p x t h.0) ∙ all_are_good p x ts h.1

-- ---- of a whole content

none_wrong : (ws : List ContentWhy) (o : Option ContentWhy) → IsFirstReason ws o → o ≡ None → ws ≡ []
none_wrong ws None h e = h
none_wrong ws (Some w) h e = cc

pub taken_is_of_grammar : (same : Tree → Tree → Bool) (old new : Tree) → bad_content same old new ≡ None
    → AreContent (page_of same old) (outermost old) (held new)
taken_is_of_grammar same old new e =
    are_content (page_of same old) (outermost old) (held new)
    (none_wrong (content_faults same old new) (bad_content same old new) (first_reason same old new) e)

pub grammar_is_taken : (same : Tree → Tree → Bool) (old new : Tree) → AreContent (page_of same old) (outermost old) (held new)
    → bad_content same old new ≡ None
unfolding bad_content
grammar_is_taken same old new h = ap first_why (all_are_good (page_of same old) (outermost old) (held new) h)
