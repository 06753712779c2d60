-- How many line breaks a content shows.
use Rattle.std.specs.Prelude.{ℕ, ◌+◌, Bool, true, false, Option, Some, None, if◌then◌else◌}
use Rattle.std.specs.Str.{IsUtf8}
use Rattle.wt_names.specs.declared.title.Title.{Title}
use Rattle.wt_names.specs.Namespace.{full_name_of}
use Rattle.wt_names.specs.Tidy.{text_of}
use Rattle.wt_names.specs.Written.{read_link}
use Rattle.wt_tree.specs.Tree.{Label, Tree, tree, Trees, none, more, label}
use Rattle.wt_tree.specs.Source.{flat}
use Rattle.wt_guards.specs.WrittenLaws.{breaks}
use Rattle.wt_tree.specs.declared.edit_shape.InlineForm.{InlineForm}
use Rattle.wt_tree.specs.declared.edit_shape.InlineForm.TheVariants as inline
use Rattle.wt_tree.specs.EditShapes.{edit_shape}
use Rattle.wt_original.specs.Kept.{Kept, kept_with, shown}
use Rattle.wt_original.specs.Page.{Page, is_unchanged}
use Rattle.wt_link_spelling.specs.Spelling.{is_text, only_text, href_of}

-- as many as are in the page, if it is kept
abbrev pub breaks_as_it_stood : Option Kept → ℕ
breaks_as_it_stood None = 0
breaks_as_it_stood (Some k) = breaks (flat k.node)

-- as many as are in the page where it is unchanged
abbrev pub breaks_unless_kept : Page → Option Kept → Tree → ℕ → ℕ
breaks_unless_kept p None t new = new
breaks_unless_kept p (Some k) t new = if is_unchanged p k t then breaks (flat k.node) else new

-- A link that is its own name shows no other text.
abbrev pub breaks_of_link_text : Bool → ℕ → ℕ
breaks_of_link_text true held = 0
breaks_of_link_text false held = held

abbrev pub breaks_of_link : Option Title → Trees → ℕ → ℕ
breaks_of_link None ts held = 0
breaks_of_link (Some t) ts held = breaks (text_of t) + breaks_of_link_text (is_text (only_text ts) (full_name_of t)) held

abbrev pub breaks_of_tag : Option Kept → ℕ → ℕ
breaks_of_tag None held = held
breaks_of_tag (Some k) held = breaks (label k.node).opening + (held + breaks (label k.node).closing)

-- a node by its inline form, with so many in what it holds
abbrev pub breaks_by : InlineForm → Page → Option Kept → Label → Trees → ℕ → ℕ
breaks_by inline.Nothing p k l ts held = 0
breaks_by inline.Characters p k l ts held = breaks l.shown
breaks_by inline.Bold p k l ts held = held
breaks_by inline.Italic p k l ts held = held
breaks_by inline.Shown p k l ts held = breaks_unless_kept p k (tree l ts) (breaks (shown (tree l ts)))
breaks_by inline.PageLink p k l ts held = breaks_unless_kept p k (tree l ts) (breaks_of_link (read_link (href_of l)) ts held)
breaks_by inline.ExternalLink p k l ts held = breaks_unless_kept p k (tree l ts) (breaks (href_of l) + held)
breaks_by inline.Tag p k l ts held = breaks_unless_kept p k (tree l ts) (breaks_of_tag k held)
breaks_by inline.Break p k l ts held = breaks_unless_kept p k (tree l ts) 0
breaks_by inline.AsItStood p k l ts held = breaks_as_it_stood k

abbrev mutual
  pub breaks_in : Page → Tree → ℕ
  breaks_in p (tree l ts) = breaks_by (edit_shape l.kind).inline p (kept_with l.id p.kept) l ts (breaks_in_all p ts)

  pub breaks_in_all : Page → Trees → ℕ
  breaks_in_all p none = 0
  breaks_in_all p (more t ts) = breaks_in p t + breaks_in_all p ts

-- what is shown as characters is UTF-8
abbrev pub IsTextBy : InlineForm → Label → Trees → Type 0
IsTextBy inline.Nothing l ts = Unit {0}
IsTextBy inline.Characters l ts = IsUtf8 l.shown
IsTextBy inline.Bold l ts = Unit {0}
IsTextBy inline.Italic l ts = Unit {0}
IsTextBy inline.Shown l ts = IsUtf8 (shown (tree l ts))
IsTextBy inline.PageLink l ts = Unit {0}
IsTextBy inline.ExternalLink l ts = Unit {0}
IsTextBy inline.Tag l ts = Unit {0}
IsTextBy inline.Break l ts = Unit {0}
IsTextBy inline.AsItStood l ts = Unit {0}

abbrev mutual
  pub HasTexts : Tree → Type 0
  HasTexts (tree l ts) = IsTextBy (edit_shape l.kind).inline l ts × HaveTexts ts

  pub HaveTexts : Trees → Type 0
  HaveTexts none = Unit {0}
  HaveTexts (more t ts) = HasTexts t × HaveTexts ts
