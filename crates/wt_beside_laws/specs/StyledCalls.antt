-- A content with styles among whose signs are calls: what it is in the page, where the items of each sign that is no character are given.
use Rattle.std.specs.Prelude.{◌≡◌, ◌⊎◌, ◌==◌, Bool, true, false, List, [], ◌∷◌, ◌++◌, encode_utf8, if◌then◌else◌, not, ◌&&◌, ◌||◌}
use Rattle.wt_span.specs.Characters as byte
use Rattle.wt_span.specs.Items.{Item}
use Rattle.wt_tree.specs.Plain.{Plains, ended, text_before}
use Rattle.wt_guards.specs.Content.{ContentSign, Thing, is_group, letter, thing}
use Rattle.wt_guards.specs.Guards.{Setting, is_guarded}
use Rattle.wt_guards.specs.Letters.{is_escaped}
use Rattle.wt_tree.specs.EditShapes.{edit_shape}
use Rattle.wt_tree.specs.declared.edit_shape.InlineForm.{InlineForm}
use Rattle.wt_tree.specs.declared.edit_shape.InlineForm.TheVariants as inline
use Rattle.wt_tree.specs.declared.edit_shape.Place.TheVariants as place
use Rattle.wt_inline.specs.ItemTree.{ItemTree, ItemTrees, further, inner, nothing}
use Rattle.wt_inline.specs.Parts.{Part, loose, node, parts}
use Rattle.wt_inline.specs.declared.loose.Loose.TheVariants.{Text}
use Rattle.wt_context.specs.Line.{line_parts}
use Rattle.wt_part_laws.specs.CallPieces.{AreOwnOrGiven}
use Rattle.wt_beside_laws.specs.Called.{AllEndSeen, AllMeetWith, AreGiven, AreSomeOfPage, HasUncalled}
use Rattle.wt_beside_laws.specs.Content.{guard_items, letter_items}
use Rattle.wt_beside_laws.specs.InHeadings.{AreOnOneLine}
use Rattle.wt_beside_laws.specs.Lines.{AreCharacters}
use Rattle.wt_beside_laws.specs.Nests.{style_tree}
use Rattle.wt_beside_laws.specs.RoundCalls.{IsUnstyledForm, IsRoundCalls}
use Rattle.wt_beside_laws.specs.Shown.{parts_shown_at}
use Rattle.wt_beside_laws.specs.Styled.{AreNested, StyledContent, delimiter, finished, sign, signs_before, signs_in, signs_past, styled}
use Rattle.wt_beside_laws.specs.StyledShown.{style_shown}

-- ---- the items that are given, in the order of the nodes and delimiters

abbrev pub owns_left : List (List Item) → List (List Item)
owns_left [] = []
owns_left (own ∷ owns) = owns

-- behind those of a content
abbrev pub owns_past : StyledContent → List (List Item) → List (List Item)
owns_past finished owns = owns
owns_past (sign (letter c) t) owns = owns_past t owns
owns_past (sign (thing x) t) owns = owns_past t (owns_left owns)
owns_past (styled bold opening closing inside t) owns = owns_past t (owns_left (owns_past inside (owns_left owns)))

-- ---- what it is

-- Each style is a node round what is inside it, and each node is what its items are on a line by themselves. If so asked, this goes up to the end of
-- the line.
abbrev pub styled_with : Bool → Setting → List ContentSign → StyledContent → List ContentSign → List (List Item) → List Part
styled_with line s before finished after owns = parts Text (guard_items (is_guarded s before after))
styled_with line s before (sign (letter c) t) after owns =
    parts Text (guard_items (is_guarded s before (letter c ∷ signs_before t after)))
    ++ (if line && c == byte.line_break then [] else
    parts Text (letter_items (is_escaped s.within s.place before c (signs_before t after)) c) ++ styled_with line s (letter c ∷ before) t after owns)
styled_with line s before (sign (thing x) t) after [] = parts Text (guard_items (is_guarded s before (thing x ∷ signs_before t after)))
styled_with line s before (sign (thing x) t) after (own ∷ owns) =
    parts Text (guard_items (is_guarded s before (thing x ∷ signs_before t after))) ++ (line_parts own ++ styled_with line s (thing x ∷ before) t after owns)
styled_with line s before (styled bold opening closing inside t) after owns =
    parts Text (guard_items (is_guarded s before (delimiter bold opening ∷ signs_before inside (delimiter bold closing ∷ signs_before t after))))
    ++ (node (style_tree bold (styled_with false s (delimiter bold opening ∷ before) inside (delimiter bold closing ∷ signs_before t after) (owns_left owns)))
    ∷ styled_with line s (delimiter bold closing ∷ signs_past inside (delimiter bold opening ∷ before)) t after (owns_left (owns_past inside (owns_left owns))))

-- ---- the nodes

-- no node of them is bold or italic
abbrev pub AreUnstyledParts : List Part → Type 0
AreUnstyledParts [] = Unit {0}
AreUnstyledParts (loose k o b ∷ ps) = AreUnstyledParts ps
AreUnstyledParts (node (inner h opening ts closing) ∷ ps) = IsUnstyledForm (edit_shape h.kind).inline × AreUnstyledParts ps

-- In bold or italic or in neither: this style is of the other kind, and so is each in it, down to a node that is no style.
abbrev pub NestsBy : InlineForm → Bool → Bool → Type 0 → Type 0
NestsBy inline.Nothing bold italic inside = Unit {0}
NestsBy inline.Characters bold italic inside = Unit {0}
NestsBy inline.Bold bold italic inside = (bold ≡ false) × inside
NestsBy inline.Italic bold italic inside = (italic ≡ false) × inside
NestsBy inline.Shown bold italic inside = Unit {0}
NestsBy inline.PageLink bold italic inside = Unit {0}
NestsBy inline.ExternalLink bold italic inside = Unit {0}
NestsBy inline.Tag bold italic inside = Unit {0}
NestsBy inline.Break bold italic inside = Unit {0}
NestsBy inline.AsItStood bold italic inside = Unit {0}

abbrev mutual
  pub NestsIn : Bool → Bool → ItemTree → Type 0
  NestsIn bold italic (inner h opening ts closing) = NestsBy (edit_shape h.kind).inline bold italic (NestIn bold italic ts)

  pub NestIn : Bool → Bool → ItemTrees → Type 0
  NestIn bold italic nothing = Unit {0}
  NestIn bold italic (further t ts) = NestsIn bold italic t × NestIn bold italic ts

abbrev pub PartsNestIn : Bool → Bool → List Part → Type 0
PartsNestIn bold italic [] = Unit {0}
PartsNestIn bold italic (loose k o b ∷ ps) = PartsNestIn bold italic ps
PartsNestIn bold italic (node t ∷ ps) = NestsIn bold italic t × PartsNestIn bold italic ps

-- something of the page, or a node of it round calls
abbrev pub IsOfPage : List Item → Type 0
IsOfPage own = AreSomeOfPage (line_parts own) ⊎ IsRoundCalls own

-- On a line by itself: what a call gives, or something of the page. In a style a call gives none of its kind.
abbrev pub IsOwnAt : Bool → Bool → Thing → List Item → Type 0
IsOwnAt bold italic x own = ((is_group x.role ≡ true) × AreOwnOrGiven (line_parts own) × PartsNestIn bold italic (line_parts own)) ⊎ IsOfPage own

-- of all nodes, delimiters apart; these are in bold or italic or in neither
abbrev pub AreOwnAt : Bool → Bool → StyledContent → List (List Item) → Type 0
AreOwnAt bold italic finished owns = Unit {0}
AreOwnAt bold italic (sign (letter c) t) owns = AreOwnAt bold italic t owns
AreOwnAt bold italic (sign (thing x) t) [] = ⊥
AreOwnAt bold italic (sign (thing x) t) (own ∷ owns) = IsOwnAt bold italic x own × AreOwnAt bold italic t owns
AreOwnAt bold italic (styled kind opening closing inside t) owns =
    AreOwnAt (kind || bold) (not kind || italic) inside (owns_left owns)
    × AreOwnAt bold italic t (owns_left (owns_past inside (owns_left owns)))

-- ---- the content

-- Texts that are typed beside calls and nodes that stay, and bold and italic round texts, nodes and calls that give none of its kind; something else than
-- calls is there.
pub record IsStyledCalled (s : Setting) (t : StyledContent) (owns : List (List Item)) : Type 0 where
  pub of_block : s.within ≡ false
  pub characters : AreCharacters (signs_in t)
  pub given : AreGiven (signs_in t) owns
  pub own : AreOwnAt false false t owns
  pub nested : AreNested false false t
  pub meet : AllMeetWith s [] [] (signs_in t) owns
  pub some : HasUncalled s [] (signs_in t)

-- The same in a heading: it is on one line, and may be calls alone, since its `=` are the page's.
pub record IsStyledCalledHeading (s : Setting) (t : StyledContent) (owns : List (List Item)) : Type 0 where
  pub of_block : s.within ≡ false
  pub of_heading : s.place ≡ place.Heading
  pub one_line : AreOnOneLine (signs_in t)
  pub characters : AreCharacters (signs_in t)
  pub given : AreGiven (signs_in t) owns
  pub own : AreOwnAt false false t owns
  pub nested : AreNested false false t
  pub meet : AllMeetWith s [] [] (signs_in t) owns
  pub end_seen : AllEndSeen owns

-- ---- what it shows

-- the texts, each node as its items show by themselves, and bold and italic round them
abbrev pub styled_called_shown : StyledContent → List (List Item) → Plains → Plains
styled_called_shown finished owns rest = rest
styled_called_shown (sign (letter c) t) owns rest = text_before (encode_utf8 c) (styled_called_shown t owns rest)
styled_called_shown (sign (thing x) t) [] rest = rest
styled_called_shown (sign (thing x) t) (own ∷ owns) rest = parts_shown_at 0 [] (line_parts own) (styled_called_shown t owns rest)
styled_called_shown (styled bold opening closing inside t) owns rest =
    style_shown bold (styled_called_shown inside (owns_left owns) ended) (styled_called_shown t (owns_left (owns_past inside (owns_left owns))) rest)
