-- What is sent of a content with styles: nodes that stay, texts and styles round them.
use Rattle.std.specs.Prelude.{◌≡◌, ℕ, ◌==◌, ◌||◌, Bool, true, false, Option, Some, None, List, [], ◌∷◌}
use Rattle.std.specs.List.{list_any}
use Rattle.std.specs.Str.{IsUtf8, chars}
use Rattle.wt_span.specs.Characters as byte
use Rattle.wt_tree.specs.declared.kind.Showing.TheVariants as showing
use Rattle.wt_tree.specs.declared.edit_shape.InlineForm.{InlineForm}
use Rattle.wt_tree.specs.declared.edit_shape.InlineForm.TheVariants as inline
use Rattle.wt_tree.specs.EditShapes.{edit_shape}
use Rattle.wt_tree.specs.Kinds.{showing as showing_of}
use Rattle.wt_tree.specs.Plain.{Face, face}
use Rattle.wt_tree.specs.Tree.{Label, Tree, tree, Trees, none, more}
use Rattle.wt_guards.specs.declared.role.Role.TheVariants as role
use Rattle.wt_guards.specs.Content.{letter, thing}
use Rattle.wt_guards.specs.Guards.{nowiki}
use Rattle.wt_original.specs.Kept.{Kept, kept_with}
use Rattle.wt_original.specs.Page.{Page}
use Rattle.wt_link_spelling.specs.Spelling.{kept_thing, opening_place, closing_place}
use Rattle.wt_context.specs.Styled.{style_kind}
use Rattle.wt_beside_laws.specs.Flat.{IsFlat}
use Rattle.wt_beside_laws.specs.SentNodes.{IsUnchanged}
use Rattle.wt_beside_laws.specs.SentPieces.{ShowsItsSource}
use Rattle.wt_beside_laws.specs.Styled.{StyledContent, finished, sign, styled}

-- ---- its content

-- characters before what follows
abbrev pub text_then : List ℕ → StyledContent → StyledContent
text_then [] t = t
text_then (c ∷ cs) t = sign (letter c) (text_then cs t)

-- the page's node, if it has one
abbrev pub found_then : Option Kept → StyledContent → StyledContent
found_then None t = t
found_then (Some k) t = sign (kept_thing k) t

-- nothing inside a style is `<nowiki/>`
abbrev pub or_nowiki : StyledContent → StyledContent
or_nowiki finished = sign (thing (record { role = role.Node; source = nowiki; place = None })) finished
or_nowiki (sign c t) = sign c t
or_nowiki (styled kind opening closing inside t) = styled kind opening closing inside t

abbrev pub sent_by : InlineForm → Option Kept → Label → StyledContent → StyledContent → StyledContent
sent_by inline.Nothing k l inside t = t
sent_by inline.Characters k l inside t = text_then (chars l.shown) t
sent_by inline.Bold k l inside t = styled true (opening_place k) (closing_place k) (or_nowiki inside) t
sent_by inline.Italic k l inside t = styled false (opening_place k) (closing_place k) (or_nowiki inside) t
sent_by inline.Shown k l inside t = found_then k t
sent_by inline.PageLink k l inside t = found_then k t
sent_by inline.ExternalLink k l inside t = found_then k t
sent_by inline.Tag k l inside t = found_then k t
sent_by inline.Break k l inside t = found_then k t
sent_by inline.AsItStood k l inside t = found_then k t

abbrev mutual
  pub sent_before : Page → Tree → StyledContent → StyledContent
  sent_before p (tree l ts) t = sent_by (edit_shape l.kind).inline (kept_with l.id p.kept) l (sent_content p ts) t

  pub sent_content : Page → Trees → StyledContent
  sent_content p none = finished
  sent_content p (more t us) = sent_before p t (sent_content p us)

-- ---- what is asked of it

-- By the inline form of its kind: any text, new and old styles with such nodes in them, and nodes as they are in the page.
abbrev pub IsStyledBy : InlineForm → Page → Label → Trees → Type 0 → Type 0
IsStyledBy inline.Nothing p l ts inside = Unit {0}
IsStyledBy inline.Characters p l ts inside = Unit {0}
IsStyledBy inline.Bold p l ts inside = inside
IsStyledBy inline.Italic p l ts inside = inside
IsStyledBy inline.Shown p l ts inside = IsUnchanged p l ts
IsStyledBy inline.PageLink p l ts inside = IsUnchanged p l ts
IsStyledBy inline.ExternalLink p l ts inside = IsUnchanged p l ts
IsStyledBy inline.Tag p l ts inside = IsUnchanged p l ts
IsStyledBy inline.Break p l ts inside = IsUnchanged p l ts
IsStyledBy inline.AsItStood p l ts inside = IsUnchanged p l ts

abbrev mutual
  pub IsStyledSent : Page → Tree → Type 0
  IsStyledSent p (tree l ts) = IsStyledBy (edit_shape l.kind).inline p l ts (AreStyledSent p ts)

  pub AreStyledSent : Page → Trees → Type 0
  AreStyledSent p none = Unit {0}
  AreStyledSent p (more t us) = IsStyledSent p t × AreStyledSent p us

-- no node of the page is a delimiter
abbrev pub KeptIsFlat : Option Kept → Type 0
KeptIsFlat None = Unit {0}
KeptIsFlat (Some k) = IsFlat k.role

abbrev pub HasNoDelimiter : Page → Type 0
HasNoDelimiter p = (n : ℕ) → KeptIsFlat (kept_with n p.kept)

-- a line ends in it
abbrev pub breaks_line : List ℕ → Bool
breaks_line text = list_any (λ c. c == byte.line_break) (chars text)

-- in bold or italic or in neither: no style is in one of its kind, and no text in one has a line break
abbrev pub NestsBy : InlineForm → Bool → Bool → Label → (Bool → Bool → Type 0) → Type 0
NestsBy inline.Nothing bold italic l inside = Unit {0}
NestsBy inline.Characters bold italic l inside = (bold || italic) ≡ true → breaks_line l.shown ≡ false
NestsBy inline.Bold bold italic l inside = (bold ≡ false) × inside true italic
NestsBy inline.Italic bold italic l inside = (italic ≡ false) × inside bold true
NestsBy inline.Shown bold italic l inside = Unit {0}
NestsBy inline.PageLink bold italic l inside = Unit {0}
NestsBy inline.ExternalLink bold italic l inside = Unit {0}
NestsBy inline.Tag bold italic l inside = Unit {0}
NestsBy inline.Break bold italic l inside = Unit {0}
NestsBy inline.AsItStood bold italic l inside = Unit {0}

abbrev mutual
  pub Nests : Bool → Bool → Tree → Type 0
  Nests bold italic (tree l ts) = NestsBy (edit_shape l.kind).inline bold italic l (λ b i. AllNest b i ts)

  pub AllNest : Bool → Bool → Trees → Type 0
  AllNest bold italic none = Unit {0}
  AllNest bold italic (more t us) = Nests bold italic t × AllNest bold italic us

-- what shows nothing, a text, a style without attributes, and a node that shows its source
abbrev pub style_face : Bool → Face
style_face bold = record { kind = style_kind bold; attrs = []; mw = None }

abbrev pub ShowsBy : InlineForm → Page → Label → Trees → Type 0 → Type 0
ShowsBy inline.Nothing p l ts inside = showing_of l.kind ≡ showing.Nothing
ShowsBy inline.Characters p l ts inside = (showing_of l.kind ≡ showing.Characters) × IsUtf8 l.shown
ShowsBy inline.Bold p l ts inside = (showing_of l.kind ≡ showing.Element) × (face l ≡ style_face true) × inside
ShowsBy inline.Italic p l ts inside = (showing_of l.kind ≡ showing.Element) × (face l ≡ style_face false) × inside
ShowsBy inline.Shown p l ts inside = ShowsItsSource p (tree l ts)
ShowsBy inline.PageLink p l ts inside = ShowsItsSource p (tree l ts)
ShowsBy inline.ExternalLink p l ts inside = ShowsItsSource p (tree l ts)
ShowsBy inline.Tag p l ts inside = ShowsItsSource p (tree l ts)
ShowsBy inline.Break p l ts inside = ShowsItsSource p (tree l ts)
ShowsBy inline.AsItStood p l ts inside = ShowsItsSource p (tree l ts)

abbrev mutual
  pub Shows : Page → Tree → Type 0
  Shows p (tree l ts) = ShowsBy (edit_shape l.kind).inline p l ts (AllShow p ts)

  pub AllShow : Page → Trees → Type 0
  AllShow p none = Unit {0}
  AllShow p (more t us) = Shows p t × AllShow p us
