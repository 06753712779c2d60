-- What may be in the content of a marked node: text, the block's own inline nodes, and new bold, italic, links and line breaks.
use Rattle.std.specs.Prelude.{ℕ, ◌+◌, ◌==◌, ◌&&◌, ◌||◌, Bool, true, false, not, is_some, Option, Some, None, List, [], ◌∷◌, ◌++◌, length, nat_lt, if◌then◌else◌}
use Rattle.std.specs.List.{list_any}
use Rattle.wt_span.specs.Characters as byte
use Rattle.wt_names.specs.Written.{read_link}
use Rattle.wt_tree.specs.Tiling.{is_group}
use Rattle.wt_tree.specs.Tree.{Label, Tree, tree, Trees, none, more, label}
use Rattle.wt_tiles.specs.Glyphs.{byte_glyphs}
use Rattle.wt_tiles.specs.Urls.{scheme_len, url_items}
use Rattle.wt_tree.specs.declared.edit_shape.BlockForm.{BlockForm}
use Rattle.wt_tree.specs.declared.edit_shape.BlockForm.TheVariants as form
use Rattle.wt_tree.specs.declared.edit_shape.InlineForm.{InlineForm}
use Rattle.wt_tree.specs.declared.edit_shape.InlineForm.TheVariants as inline
use Rattle.wt_tree.specs.EditShapes.{edit_shape}
use Rattle.wt_original.specs.Kept.{Kept, kept_with}
use Rattle.wt_original.specs.Page.{Page, page_of, is_unchanged}
use Rattle.wt_link_spelling.specs.Spelling.{href_of}
use Rattle.wt_content.specs.declared.reason.ContentWhy.{ContentWhy}
use Rattle.wt_content.specs.declared.reason.ContentWhy.TheVariants as why
use Rattle.wt_content.specs.declared.content.Standing.{Standing}
use Rattle.wt_content.specs.declared.content.Standing.TheVariants as stands
use Rattle.wt_content.specs.declared.content.Surroundings.{Surroundings}

-- ---- links

-- a URL in whole: the beginning of one, and URL items that are at least one and all the rest
abbrev pub is_url : List ℕ → Bool
is_url bs =
    let gs = byte_glyphs bs in
    let items = length (url_items gs) in
    nat_lt 0 (scheme_len gs) && (nat_lt 0 items && scheme_len gs + items == length gs)

abbrev pub is_link : InlineForm → Bool
is_link inline.Nothing = false
is_link inline.Characters = false
is_link inline.Bold = false
is_link inline.Italic = false
is_link inline.Shown = false
is_link inline.PageLink = true
is_link inline.ExternalLink = true
is_link inline.Tag = false
is_link inline.Break = false
is_link inline.AsItStood = false

-- ---- what a node is to the page

-- What a changed node comes to, by its inline form in the page: one that is as it was, and a line break, may
-- only be replaced.
abbrev pub changed_from : InlineForm → Standing
changed_from inline.Nothing = stands.Changed
changed_from inline.Characters = stands.Changed
changed_from inline.Bold = stands.Changed
changed_from inline.Italic = stands.Changed
changed_from inline.Shown = stands.Changed
changed_from inline.PageLink = stands.Changed
changed_from inline.ExternalLink = stands.Changed
changed_from inline.Tag = stands.Changed
changed_from inline.Break = stands.Replaced
changed_from inline.AsItStood = stands.Replaced

-- it is new; or with its number the page has a node, as which it still is, or which was changed or replaced by it
abbrev pub standing_of : Page → Option Kept → Tree → Standing
standing_of p None t = stands.New
standing_of p (Some k) t = if is_unchanged p k t then stands.Same else changed_from (edit_shape (label k.node).kind).inline

abbrev pub standing : Page → Tree → Standing
standing p t = standing_of p (kept_with (label t).id p.kept) t

-- ---- what is wrong with a node by itself

-- it may be new and changed, but nothing may be replaced by it
abbrev pub if_replaced : Standing → List ContentWhy
if_replaced stands.New = []
if_replaced stands.Changed = []
if_replaced stands.Replaced = why.Element ∷ []
if_replaced stands.Same = []

-- only the page may bring it
abbrev pub if_new : Standing → List ContentWhy
if_new stands.New = why.Element ∷ []
if_new stands.Changed = []
if_new stands.Replaced = why.Element ∷ []
if_new stands.Same = []

-- it may be new, but not changed
abbrev pub if_changed : Standing → List ContentWhy
if_changed stands.New = []
if_changed stands.Changed = why.Element ∷ []
if_changed stands.Replaced = why.Element ∷ []
if_changed stands.Same = []

abbrev pub unless_same : Standing → List ContentWhy → List ContentWhy
unless_same stands.New ws = ws
unless_same stands.Changed ws = ws
unless_same stands.Replaced ws = why.Element ∷ []
unless_same stands.Same ws = []

-- a link that leads nowhere
abbrev pub link_fault : Bool → List ContentWhy
link_fault good = if good then [] else why.Href ∷ []

abbrev pub has_break : List ℕ → Bool
has_break text = list_any (λ b. b == byte.line_break) text

abbrev pub break_fault : Bool → List ℕ → List ContentWhy
break_fault in_paragraph text = if not in_paragraph && has_break text then why.LineBreak ∷ [] else []

-- An entity may not be new, and what a changed one shows is a text that is elsewhere than directly in a paragraph.
abbrev pub shown_faults : Standing → List ℕ → List ContentWhy
shown_faults stands.New text = why.Element ∷ []
shown_faults stands.Changed text = break_fault false text
shown_faults stands.Replaced text = why.Element ∷ []
shown_faults stands.Same text = []

abbrev pub nested_fault : Bool → List ContentWhy
nested_fault nested = if nested then why.Nested ∷ [] else []

-- By the inline form of its kind. Bold, italic, links and line breaks may be new; a tag, an entity and a nowiki may be
-- changed, as links may; everything else is as it is in the page, and nothing takes its place with its number.
abbrev pub own_faults : InlineForm → Surroundings → Standing → Label → List ContentWhy
own_faults inline.Nothing x s l = []
own_faults inline.Characters x s l = break_fault x.in_paragraph l.shown
own_faults inline.Bold x s l = if_replaced s
own_faults inline.Italic x s l = if_replaced s
own_faults inline.Shown x s l = shown_faults s l.shown
own_faults inline.PageLink x s l = unless_same s (link_fault (is_some (read_link (href_of l))))
own_faults inline.ExternalLink x s l = unless_same s (link_fault (is_url (href_of l)))
own_faults inline.Tag x s l = if_new s
own_faults inline.Break x s l = if_changed s
own_faults inline.AsItStood x s l = unless_same s (why.Element ∷ [])

abbrev pub is_same : Standing → Bool
is_same stands.New = false
is_same stands.Changed = false
is_same stands.Replaced = false
is_same stands.Same = true

-- Whether what it holds is looked into: always of bold and italic, and of other nodes where they aren't as they were. Texts and
-- white space hold nothing.
abbrev pub is_open : InlineForm → Standing → Bool
is_open inline.Nothing s = false
is_open inline.Characters s = false
is_open inline.Bold s = true
is_open inline.Italic s = true
is_open inline.Shown s = not (is_same s)
is_open inline.PageLink s = not (is_same s)
is_open inline.ExternalLink s = not (is_same s)
is_open inline.Tag s = not (is_same s)
is_open inline.Break s = not (is_same s)
is_open inline.AsItStood s = not (is_same s)

-- what one answer for a node tells
abbrev pub if_any : Option ContentWhy → List ContentWhy
if_any None = []
if_any (Some w) = w ∷ []

-- ---- of all nodes

-- a link is in it, itself or within, outside groups
abbrev mutual
  pub holds_link : Tree → Bool
  holds_link (tree l ts) = is_link (edit_shape l.kind).inline || (not (is_group l.kind) && any_holds_link ts)

  pub any_holds_link : Trees → Bool
  any_holds_link none = false
  any_holds_link (more t ts) = holds_link t || any_holds_link ts

-- it brings a link where it is: it is one, or it isn't looked into and holds one
abbrev pub brings_link : InlineForm → Standing → Bool → Bool
brings_link w s holds = if is_open w s then is_link w else holds

-- where the children of a node are
abbrev pub below : Surroundings → InlineForm → Surroundings
below x w = record { in_paragraph = false; in_link = x.in_link || is_link w }

-- What is wrong from a node on: that it brings a link into a link, what is wrong with it by itself, and what is wrong inside it.
-- `holds` says whether a link is in it.
abbrev pub faults_by : InlineForm → Surroundings → Standing → Label → Bool → List ContentWhy → List ContentWhy
faults_by w x s l holds inside =
    nested_fault (x.in_link && brings_link w s holds) ++ (own_faults w x s l ++ (if is_open w s then inside else []))

abbrev mutual
  pub faults : Page → Surroundings → Tree → List ContentWhy
  faults p x (tree l ts) =
      faults_by (edit_shape l.kind).inline x (standing p (tree l ts)) l (holds_link (tree l ts)) (all_faults p (below x (edit_shape l.kind).inline) ts)

  pub all_faults : Page → Surroundings → Trees → List ContentWhy
  all_faults p x none = []
  all_faults p x (more t ts) = faults p x t ++ all_faults p x ts

-- ---- the first of them, in the order in which they are named

abbrev pub is_element : ContentWhy → Bool
is_element why.Element = true
is_element why.Href = false
is_element why.LineBreak = false
is_element why.Nested = false
is_element why.EmptyList = false

abbrev pub is_href : ContentWhy → Bool
is_href why.Element = false
is_href why.Href = true
is_href why.LineBreak = false
is_href why.Nested = false
is_href why.EmptyList = false

abbrev pub is_line_break : ContentWhy → Bool
is_line_break why.Element = false
is_line_break why.Href = false
is_line_break why.LineBreak = true
is_line_break why.Nested = false
is_line_break why.EmptyList = false

abbrev pub is_nested : ContentWhy → Bool
is_nested why.Element = false
is_nested why.Href = false
is_nested why.LineBreak = false
is_nested why.Nested = true
is_nested why.EmptyList = false

abbrev pub is_empty_list : ContentWhy → Bool
is_empty_list why.Element = false
is_empty_list why.Href = false
is_empty_list why.LineBreak = false
is_empty_list why.Nested = false
is_empty_list why.EmptyList = true

abbrev pub first_why : List ContentWhy → Option ContentWhy
first_why ws =
    if list_any is_element ws then Some why.Element else
    (if list_any is_href ws then Some why.Href else
    (if list_any is_line_break ws then Some why.LineBreak else
    (if list_any is_nested ws then Some why.Nested else (if list_any is_empty_list ws then Some why.EmptyList else None))))

abbrev pub is_paragraph : BlockForm → Bool
is_paragraph form.Paragraph = true
is_paragraph (form.Heading n) = false
is_paragraph form.Rule = false
is_paragraph form.Item = false
is_paragraph form.NoBlock = false

-- where the children of a marked node are
abbrev pub outermost : Tree → Surroundings
outermost old = record { in_paragraph = is_paragraph (edit_shape (label old).kind).form; in_link = false }

abbrev pub held : Tree → Trees
held (tree l ts) = ts

-- what is wrong in the content of `new`, which was `old` in the page
abbrev pub content_faults : (Tree → Tree → Bool) → Tree → Tree → List ContentWhy
content_faults same old new = all_faults (page_of same old) (outermost old) (held new)

-- why it can't be written
unfoldable pub bad_content : (Tree → Tree → Bool) → Tree → Tree → Option ContentWhy
bad_content same old new = first_why (content_faults same old new)
