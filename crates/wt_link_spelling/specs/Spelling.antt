-- The spelling: the signs of the edited content, and what is written for a block.
use Rattle.std.specs.Prelude.{ℕ, ◌+◌, ◌-◌, min, Bool, true, false, ◌==◌, Option, Some, None, List, [], ◌∷◌, ◌++◌, length, if◌then◌else◌, codes, replicate, encode_utf8}
use Rattle.std.specs.Str.{bytes_eq}
use Rattle.wt_span.specs.Bytes.{is_blank}
use Rattle.wt_span.specs.Characters as byte
use Rattle.wt_names.specs.declared.namespace.Ns.{Ns}
use Rattle.wt_names.specs.declared.namespace.Ns.TheVariants as ns
use Rattle.wt_names.specs.declared.title.Title.{Title}
use Rattle.wt_names.specs.Namespace.{full_name_of}
use Rattle.wt_names.specs.Tidy.{text_of}
use Rattle.wt_names.specs.Written.{read_link}
use Rattle.wt_tree.specs.declared.kind.AttrName.{AttrName}
use Rattle.wt_tree.specs.declared.kind.AttrName.TheVariants as attr
use Rattle.wt_tree.specs.Kinds.{order}
use Rattle.wt_tree.specs.Tree.{Label, Tree, tree, Trees, none, more, label}
use Rattle.wt_tree.specs.Source.{flat}
use Rattle.wt_tree.specs.declared.edit_shape.InlineForm.{InlineForm}
use Rattle.wt_tree.specs.declared.edit_shape.InlineForm.TheVariants as inline
use Rattle.wt_tree.specs.declared.edit_shape.BlockForm.{BlockForm}
use Rattle.wt_tree.specs.declared.edit_shape.BlockForm.TheVariants as form
use Rattle.wt_guards.specs.declared.role.Role.{Role}
use Rattle.wt_guards.specs.declared.role.Role.TheVariants as role
use Rattle.wt_guards.specs.declared.role.Stretch.{Stretch}
use Rattle.wt_tree.specs.declared.edit_shape.Place.{Place}
use Rattle.wt_tree.specs.declared.edit_shape.Place.TheVariants as place
use Rattle.wt_tree.specs.EditShapes.{edit_shape}
use Rattle.wt_guards.specs.Content.{ContentSign, thing, letters}
use Rattle.wt_guards.specs.Guards.{nowiki, nowiki_if, spelled}
use Rattle.wt_original.specs.Kept.{Kept, kept_with, shown}
use Rattle.wt_original.specs.Page.{Page, page_of, no_page, is_unchanged}

-- ---- nodes

abbrev pub place_of : Option Kept → Option Stretch
place_of None = None
place_of (Some k) = Some k.place

-- a kept node as it is in the page
abbrev pub kept_thing : Kept → ContentSign
kept_thing k = thing (record { role = k.role; source = flat k.node; place = Some k.place })

-- a new node, or a changed one
abbrev pub new_thing : Role → List ℕ → Option Kept → List ContentSign
new_thing r source k = thing (record { role = r; source = source; place = place_of k }) ∷ []

-- as it is in the page, if it is kept
abbrev pub as_it_stood : Option Kept → List ContentSign
as_it_stood None = new_thing role.Node [] None
as_it_stood (Some k) = kept_thing k ∷ []

abbrev pub unless_kept : Page → Option Kept → Tree → List ContentSign → List ContentSign
unless_kept p None t new = new
unless_kept p (Some k) t new = if is_unchanged p k t then kept_thing k ∷ [] else new

-- ---- styles

abbrev pub is_style : InlineForm → Bool
is_style inline.Nothing = false
is_style inline.Characters = false
is_style inline.Bold = true
is_style inline.Italic = true
is_style inline.Shown = false
is_style inline.PageLink = false
is_style inline.ExternalLink = false
is_style inline.Tag = false
is_style inline.Break = false
is_style inline.AsItStood = false

-- a stretch that isn't empty
abbrev pub stretch : ℕ → ℕ → Option Stretch
stretch start end = if start == end then None else Some (record { start = start; end = end })

-- Where the delimiters of a style are in the page, if they aren't empty. Neither is longer than the style.
abbrev pub opening_place : Option Kept → Option Stretch
opening_place None = None
opening_place (Some k) = if is_style (edit_shape (label k.node).kind).inline then stretch k.place.start (min (k.place.start + length (label k.node).opening) k.place.end) else None

abbrev pub closing_place : Option Kept → Option Stretch
closing_place None = None
closing_place (Some k) = if is_style (edit_shape (label k.node).kind).inline then stretch (k.place.end - length (label k.node).closing) k.place.end else None

abbrev pub toggle : List ℕ → Option Stretch → ContentSign
toggle sign at = thing (record { role = role.Toggle; source = sign; place = at })

-- an empty inside is `<nowiki/>`
abbrev pub or_nowiki : List ContentSign → List ContentSign
or_nowiki [] = new_thing role.Node nowiki None
or_nowiki (s ∷ ss) = s ∷ ss

abbrev pub style : List ℕ → Option Kept → List ContentSign → List ContentSign
style sign k inside = toggle sign (opening_place k) ∷ (or_nowiki inside ++ (toggle sign (closing_place k) ∷ []))

-- ---- links and tags

-- the inside of a link or tag
abbrev pub spelled_within : Page → Place → List ContentSign → List ℕ
spelled_within p where_ inside = spelled (record { within = true; place = where_; source = p.source }) inside

abbrev pub value_of : AttrName → List (AttrName × List ℕ) → List ℕ
value_of name [] = []
value_of name ((m, value) ∷ attrs) = if order m == order name then value else value_of name attrs

abbrev pub href_of : Label → List ℕ
href_of l = value_of attr.Href l.attrs

-- a node that is written as characters of its own is a text
abbrev pub text_by : InlineForm → List ℕ → Option (List ℕ)
text_by inline.Nothing shown = None
text_by inline.Characters shown = Some shown
text_by inline.Bold shown = None
text_by inline.Italic shown = None
text_by inline.Shown shown = None
text_by inline.PageLink shown = None
text_by inline.ExternalLink shown = None
text_by inline.Tag shown = None
text_by inline.Break shown = None
text_by inline.AsItStood shown = None

-- the children are one text
abbrev pub only_text : Trees → Option (List ℕ)
only_text none = None
only_text (more t none) = text_by (edit_shape (label t).kind).inline (label t).shown
only_text (more t (more u us)) = None

abbrev pub is_text : Option (List ℕ) → List ℕ → Bool
is_text None name = false
is_text (Some text) name = bytes_eq text name

-- A link to a category or a file wants a colon, else it would be none.
abbrev pub colon : Ns → List ℕ
colon ns.Main = []
colon ns.Talk = []
colon ns.User = []
colon ns.UserTalk = []
colon ns.Project = []
colon ns.ProjectTalk = []
colon ns.File = byte.colon ∷ []
colon ns.FileTalk = []
colon ns.Template = []
colon ns.TemplateTalk = []
colon ns.Help = []
colon ns.HelpTalk = []
colon ns.Category = byte.colon ∷ []
colon ns.CategoryTalk = []

abbrev pub nowiki_or : List ℕ → List ℕ
nowiki_or [] = nowiki
nowiki_or (b ∷ bs) = b ∷ bs

-- `|` and the inside, unless the content is one text that is the full name
abbrev pub link_text : Bool → List ℕ → List ℕ
link_text true inside = []
link_text false inside = byte.vertical_bar ∷ nowiki_or inside

-- A link to a page. (A link that leads to none is refused before.)
abbrev pub page_link : Option Title → Trees → List ℕ → List ℕ
page_link None ts inside = []
page_link (Some t) ts inside = byte.opening_bracket ∷ byte.opening_bracket ∷ (colon t.ns ++ (text_of t ++ (link_text (is_text (only_text ts) (full_name_of t)) inside ++ (byte.closing_bracket ∷ byte.closing_bracket ∷ []))))

abbrev pub begins_with_blank : List ℕ → Bool
begins_with_blank [] = false
begins_with_blank (b ∷ bs) = is_blank b

-- A space and the inside. Blanks after a URL are no text: before one with which the text begins is `<nowiki/>`.
abbrev pub after_space : List ℕ → List ℕ
after_space [] = []
after_space (b ∷ bs) = byte.space ∷ (nowiki_if (is_blank b) ++ (b ∷ bs))

abbrev pub external_link : List ℕ → List ℕ → List ℕ
external_link url inside = byte.opening_bracket ∷ (url ++ (after_space inside ++ (byte.closing_bracket ∷ [])))

-- a changed tag has its old delimiters
abbrev pub tag_pair : Option Kept → List ℕ → List ℕ
tag_pair None inside = inside
tag_pair (Some k) inside = (label k.node).opening ++ (inside ++ (label k.node).closing)

unfoldable pub break_tag : List ℕ
break_tag = codes "<br>"

-- ---- the signs of the content

-- by the inline form of its kind: what is written of a node that is new or changed; of some forms this isn't asked
abbrev pub anew_by : InlineForm → Page → Place → Option Kept → Label → Trees → List ContentSign → List ContentSign
anew_by inline.Nothing p pl k l ts inside = []
anew_by inline.Characters p pl k l ts inside = []
anew_by inline.Bold p pl k l ts inside = []
anew_by inline.Italic p pl k l ts inside = []
anew_by inline.Shown p pl k l ts inside = letters (shown (tree l ts))
anew_by inline.PageLink p pl k l ts inside = new_thing role.Link (page_link (read_link (href_of l)) ts (spelled_within p pl inside)) k
anew_by inline.ExternalLink p pl k l ts inside = new_thing role.External (external_link (href_of l) (spelled_within p pl inside)) k
anew_by inline.Tag p pl k l ts inside = new_thing role.Node (tag_pair k (spelled_within p pl inside)) k
anew_by inline.Break p pl k l ts inside = new_thing role.Node break_tag k
anew_by inline.AsItStood p pl k l ts inside = []

-- by the inline form of its kind: of a node, its page's node and the signs of what it holds
abbrev pub signs_by : InlineForm → Page → Place → Option Kept → Label → Trees → List ContentSign → List ContentSign
signs_by inline.Nothing p pl k l ts inside = []
signs_by inline.Characters p pl k l ts inside = letters l.shown
signs_by inline.Bold p pl k l ts inside = style (byte.apostrophe ∷ byte.apostrophe ∷ byte.apostrophe ∷ []) k inside
signs_by inline.Italic p pl k l ts inside = style (byte.apostrophe ∷ byte.apostrophe ∷ []) k inside
signs_by inline.Shown p pl k l ts inside = unless_kept p k (tree l ts) (anew_by inline.Shown p pl k l ts inside)
signs_by inline.PageLink p pl k l ts inside = unless_kept p k (tree l ts) (anew_by inline.PageLink p pl k l ts inside)
signs_by inline.ExternalLink p pl k l ts inside = unless_kept p k (tree l ts) (anew_by inline.ExternalLink p pl k l ts inside)
signs_by inline.Tag p pl k l ts inside = unless_kept p k (tree l ts) (anew_by inline.Tag p pl k l ts inside)
signs_by inline.Break p pl k l ts inside = unless_kept p k (tree l ts) (anew_by inline.Break p pl k l ts inside)
signs_by inline.AsItStood p pl k l ts inside = as_it_stood k

abbrev mutual
  pub signs_of : Page → Place → Tree → List ContentSign
  signs_of p pl (tree l ts) = signs_by (edit_shape l.kind).inline p pl (kept_with l.id p.kept) l ts (signs_of_all p pl ts)

  pub signs_of_all : Page → Place → Trees → List ContentSign
  signs_of_all p pl none = []
  signs_of_all p pl (more t ts) = signs_of p pl t ++ signs_of_all p pl ts

abbrev pub children_of : Tree → Trees
children_of (tree l ts) = ts

-- ---- what is written

-- the content of an edited block
abbrev pub content : Page → Place → Tree → List ℕ
content p pl new = spelled (record { within = false; place = pl; source = p.source }) (signs_of_all p pl (children_of new))

-- of a block that is in the page
unfoldable pub inline_spelling : (Tree → Tree → Bool) → Tree → Tree → Place → List ℕ
inline_spelling same old new pl = content (page_of same old) pl new

-- `n` signs of a heading
abbrev pub equals : ℕ → List ℕ
equals n = replicate n 61

abbrev pub place_in : BlockForm → Place
place_in form.Paragraph = place.Paragraph
place_in (form.Heading n) = place.Heading
place_in form.Rule = place.Paragraph
place_in form.Item = place.Item
place_in form.NoBlock = place.Paragraph

abbrev pub framed : BlockForm → ℕ → List ℕ → List ℕ
framed form.Paragraph sign inside = inside
framed (form.Heading n) sign inside = equals n ++ (byte.space ∷ (inside ++ (byte.space ∷ equals n)))
framed form.Rule sign inside = codes "----"
framed form.Item sign inside = encode_utf8 sign ++ (byte.space ∷ inside)
framed form.NoBlock sign inside = inside

abbrev pub form_of : Tree → BlockForm
form_of t = (edit_shape (label t).kind).form

-- a new block: a paragraph, a heading, a rule or an item of a list with this sign
unfoldable pub block_spelling : (Tree → Tree → Bool) → Tree → ℕ → List ℕ
block_spelling same new sign = framed (form_of new) sign (content (no_page same) (place_in (form_of new)) new)
