-- What a call gives, in its order: characters, and forms, each as the nodes that stay in a content are.
use Rattle.std.specs.Prelude.{◌≡◌, ◌⊎◌, ℕ, ◌==◌, ◌&&◌, ◌||◌, Bool, true, false, not, Some, nat_lt, List, [], ◌∷◌, ◌++◌, length, map}
use Rattle.wt_span.specs.Characters as byte
use Rattle.wt_span.specs.Items.{Item, char}
use Rattle.wt_guards.specs.declared.role.Role.{Role}
use Rattle.wt_guards.specs.declared.role.Role.TheVariants.{Link, External, Bare, Switch, Toggle, Mark, Group, Function, Node}
use Rattle.wt_guards.specs.declared.role.Transclusion.{Transclusion}
use Rattle.wt_guards.specs.Letters.{is_bracket}
use Rattle.wt_guards.specs.Table.{line_start_hazard}
use Rattle.wt_expand.specs.Expansion.{opens_block}
use Rattle.wt_lines.specs.Lines.{IsUnbroken}
use Rattle.wt_inline.specs.declared.loose.Loose.TheVariants.{Text, Sep}
use Rattle.wt_inline.specs.ItemTree.{forest}
use Rattle.wt_inline.specs.Parts.{Part, loose, node, part, children}
use Rattle.wt_tiles.specs.declared.glyph.Glyph.{Glyph}
use Rattle.wt_tiles.specs.declared.glyph.Glyph.TheVariants as glyph
use Rattle.wt_tiles.specs.Contexts.{in_line}
use Rattle.wt_tiles.specs.Glyphs.{glyph_of}
use Rattle.wt_tiles.specs.Tiles.{Cut}
use Rattle.wt_tiles.specs.Urls.{is_word}
use Rattle.wt_context.specs.Line.{line_parts}
use Rattle.wt_annotated.specs.Annotated.{all_unplaced}
use Rattle.wt_isolation.specs.GroupItems.{empty_nowiki}
use Rattle.wt_isolation.specs.OpenTexts.{has_open_text}
use Rattle.wt_isolation.specs.Toggles.{has_odd_line}
use Rattle.wt_part_laws.specs.CallPieces.{AreItemsOf, IsOfCall}
use Rattle.wt_beside_laws.specs.Cuts.{add_chars, own_form, add_node, ends_word}
use Rattle.wt_beside_laws.specs.Flat.{IsFlat}
use Rattle.wt_beside_laws.specs.Nests.{marks_of, of_style, style_of}
use Rattle.wt_beside_laws.specs.Nodes.{IsNode, OpensNoPair, MayBeBehind, MayFollow, MayLead}

-- a byte of a character; or the items of a form, with what its node is to its neighbours
pub data GivenSign : Type 0 where
  character : ℕ → GivenSign
  form : Role → List Item → GivenSign

-- ---- what they are

abbrev pub given_items : ℕ → List GivenSign → List Item
given_items j [] = []
given_items j (character b ∷ signs) = char (Some j) b ∷ given_items j signs
given_items j (form r own ∷ signs) = own ++ given_items j signs

-- as inline forms read them
abbrev pub given_glyphs : List GivenSign → List Glyph
given_glyphs [] = []
given_glyphs (character b ∷ signs) = glyph.Byte b ∷ given_glyphs signs
given_glyphs (form r own ∷ signs) = map glyph_of own ++ given_glyphs signs

-- their tiles, before what follows
abbrev pub given_cut : List GivenSign → Cut → Cut
given_cut [] c = c
given_cut (character b ∷ signs) c = add_chars 1 (given_cut signs c)
given_cut (form r own ∷ signs) c = add_node (own_form in_line (map glyph_of own)) (length (map glyph_of own)) (given_cut signs c)

-- ---- what may be among them

-- beside another one, or before a slash, it may begin a style, a switch or a URL
abbrev pub is_half_sign : ℕ → Bool
is_half_sign b = b == byte.apostrophe || (b == byte.underscore || b == byte.colon)

-- it begins no tag and no link, whatever is behind it, and ends no line
abbrev pub is_given_byte : ℕ → Bool
is_given_byte b = not (b == byte.line_break || (b == byte.less_than || b == byte.opening_bracket))

-- no apostrophe, `_`, colon or slash
abbrev pub is_apart : Glyph → Bool
is_apart (glyph.Byte b) = not (is_half_sign b || b == byte.slash)
is_apart (glyph.Entity c) = true
is_apart glyph.Atom = true
is_apart glyph.Mark = true

-- there is a first one, and it is none of these
abbrev pub BeginsApart : List Glyph → Type 0
BeginsApart [] = ⊥
BeginsApart (g ∷ gs) = is_apart g ≡ true

-- what is first may be behind such a node
abbrev pub MayBeFirst : Role → List Glyph → Type 0
MayBeFirst r [] = Unit {0}
MayBeFirst r (g ∷ gs) = MayBeBehind r g

-- A node, as it may stand before these, and no tag that opens a pair without a closing tag; `word` says whether a letter, digit or `_` may come
-- before it.
pub record IsGivenForm (word : Bool) (r : Role) (own : List Item) (behind : List Glyph) : Type 0 where
  pub node : IsNode r (map glyph_of own)
  pub closed : OpensNoPair (map glyph_of own)
  pub leads : MayLead r word
  pub follows : MayBeFirst r behind

-- what is behind a `[`: a character that is no other one
abbrev pub BeginsUnbracketed : List GivenSign → Type 0
BeginsUnbracketed [] = ⊥
BeginsUnbracketed (character b ∷ signs) = (b == byte.opening_bracket) ≡ false
BeginsUnbracketed (form r own ∷ signs) = ⊥

-- no tag begins at it, and no link
abbrev pub IsGivenByte : ℕ → List GivenSign → Type 0
IsGivenByte b signs = (is_given_byte b ≡ true) ⊎ ((b ≡ byte.opening_bracket) × BeginsUnbracketed signs)

-- Each character begins no form: a `[` is before another character that is none, and an apostrophe, `_` or colon before something that is none of these and no
-- slash. Each form is a node.
abbrev pub AreGivenSigns : Bool → List GivenSign → Type 0
AreGivenSigns word [] = Unit {0}
AreGivenSigns word (character b ∷ signs) =
    IsGivenByte b signs × (is_half_sign b ≡ true → BeginsApart (given_glyphs signs)) × AreGivenSigns (is_word b) signs
AreGivenSigns word (form r own ∷ signs) = IsGivenForm word r own (given_glyphs signs) × AreGivenSigns (ends_word false (map glyph_of own)) signs

-- ---- bold and italic among them

-- A sign, or a style (bold, or else italic) with what is inside it, before what follows.
pub data GivenContent : Type 0 where
  given_end : GivenContent
  given_sign : GivenSign → GivenContent → GivenContent
  given_style : Bool → GivenContent → GivenContent → GivenContent

-- a delimiter of this call
abbrev pub mark_sign : ℕ → Bool → GivenSign
mark_sign j bold = form Toggle (marks_of (Some j) bold)

-- its signs, before these
abbrev pub signs_with : ℕ → GivenContent → List GivenSign → List GivenSign
signs_with j given_end more = more
signs_with j (given_sign x t) more = x ∷ signs_with j t more
signs_with j (given_style bold inside t) more = mark_sign j bold ∷ signs_with j inside (mark_sign j bold ∷ signs_with j t more)

abbrev pub signs_of : ℕ → GivenContent → List GivenSign
signs_of j t = signs_with j t []

-- In a paragraph or a heading: each form is what its items are on a line by themselves, and each style is a node round what is inside it.
abbrev pub given_parts : ℕ → GivenContent → List Part
given_parts j given_end = []
given_parts j (given_sign (character b) t) = part Text (char (Some j) b) ∷ given_parts j t
given_parts j (given_sign (form r own) t) = line_parts own ++ given_parts j t
given_parts j (given_style bold inside t) = node (style_of (Some j) bold (given_parts j inside)) ∷ given_parts j t

-- whether an apostrophe is first; `next` says it of what follows
abbrev pub opens_quoted : GivenContent → Bool → Bool
opens_quoted given_end next = next
opens_quoted (given_sign (character b) t) next = b == byte.apostrophe
opens_quoted (given_sign (form r own) t) next = false
opens_quoted (given_style bold inside t) next = true

-- whether a style is last; `last` says it of what comes before
abbrev pub closes_quoted : Bool → GivenContent → Bool
closes_quoted last given_end = last
closes_quoted last (given_sign x t) = closes_quoted false t
closes_quoted last (given_style bold inside t) = closes_quoted true t

-- In bold or italic or in neither: no form is a delimiter by itself, and no style is in one of its kind. In each style is something, and no apostrophe is
-- beside a delimiter, nor is another delimiter.
abbrev pub AreNestedGiven : Bool → Bool → GivenContent → Type 0
AreNestedGiven bold italic given_end = Unit {0}
AreNestedGiven bold italic (given_sign (character b) t) = AreNestedGiven bold italic t
AreNestedGiven bold italic (given_sign (form r own) t) = IsFlat r × AreNestedGiven bold italic t
AreNestedGiven bold italic (given_style kind inside t) =
    (of_style kind bold italic ≡ false) × (opens_quoted inside true ≡ false) × (closes_quoted false inside ≡ false)
    × AreNestedGiven (kind || bold) (not kind || italic) inside × (opens_quoted t false ≡ false) × AreNestedGiven bold italic t

-- These signs are such a content.
pub record AreNestedSigns (j : ℕ) (signs : List GivenSign) : Type 0 where
  pub content : GivenContent
  pub is : signs ≡ signs_of j content
  pub nested : AreNestedGiven false false content

-- ---- beside others

-- whether a letter, digit or `_` is last
abbrev pub given_last : Bool → List GivenSign → Bool
given_last word [] = word
given_last word (character b ∷ signs) = given_last (is_word b) signs
given_last word (form r own ∷ signs) = given_last (ends_word false (map glyph_of own)) signs

-- if a form is last, this may be read behind it
abbrev pub LastMay : List GivenSign → List Glyph → Type 0
LastMay [] more = Unit {0}
LastMay (character b ∷ signs) more = LastMay signs more
LastMay (form r own ∷ []) more = MayFollow r (map glyph_of own) more
LastMay (form r own ∷ sign ∷ signs) more = LastMay (sign ∷ signs) more

-- if a form is first, a letter, digit or `_` may come before it or doesn't
abbrev pub FirstMay : List GivenSign → Bool → Type 0
FirstMay [] word = Unit {0}
FirstMay (character b ∷ signs) word = Unit {0}
FirstMay (form r own ∷ signs) word = MayLead r word

abbrev pub is_bare_url : Role → Bool
is_bare_url Link = false
is_bare_url External = false
is_bare_url (Bare ends) = true
is_bare_url Switch = false
is_bare_url Toggle = false
is_bare_url (Mark ends began) = false
is_bare_url (Group g) = false
is_bare_url Function = false
is_bare_url Node = false

abbrev pub ends_with_url : List GivenSign → Bool
ends_with_url [] = false
ends_with_url (character b ∷ signs) = ends_with_url signs
ends_with_url (form r own ∷ []) = is_bare_url r
ends_with_url (form r own ∷ sign ∷ signs) = ends_with_url (sign ∷ signs)

-- ---- what is first on a line

-- no block but a paragraph begins with it
abbrev pub may_begin_line : Glyph → Bool
may_begin_line (glyph.Byte b) =
    b == byte.opening_bracket || (nat_lt b 256 && not (b == byte.line_break || (line_start_hazard b || is_bracket b)))
may_begin_line (glyph.Entity c) = true
may_begin_line glyph.Atom = true
may_begin_line glyph.Mark = false

abbrev pub BeginsLine : List Glyph → Type 0
BeginsLine [] = ⊥
BeginsLine (g ∷ gs) = may_begin_line g ≡ true

-- ---- a group

-- characters of this call, and nodes of which all items are of it
abbrev pub AreGivenBy : ℕ → List Part → Type 0
AreGivenBy j [] = Unit {0}
AreGivenBy j (loose Text o b ∷ ps) = (o ≡ Some j) × AreGivenBy j ps
AreGivenBy j (loose Sep o b ∷ ps) = ⊥
AreGivenBy j (node t ∷ ps) = IsOfCall j t × AreGivenBy j ps

-- the first is a form, or a character that is no apostrophe, `_`, colon or slash
abbrev pub BeginsGiven : List GivenSign → Type 0
BeginsGiven [] = ⊥
BeginsGiven (character b ∷ signs) = is_apart (glyph.Byte b) ≡ true
BeginsGiven (form r own ∷ signs) = Unit {0}

-- What this call gives: such characters and forms on one line, and bold and italic round some. There is one at least; the first is no apostrophe, `_`, colon
-- or slash, but an apostrophe may begin a style; and it opens no block. By itself, behind a `<nowiki/>`, it has even toggles, and no text in it could go on
-- after its end.
pub record GivesSigns (j : ℕ) (own : List Item) : Type 0 where
  pub signs : List GivenSign
  pub is : own ≡ given_items j signs
  pub of_call : AreItemsOf j own
  pub are : AreGivenSigns false signs
  pub nested : AreNestedSigns j signs
  pub begins : BeginsGiven signs
  pub unopened : opens_block own ≡ false
  pub unbroken : IsUnbroken own
  pub inside : AreGivenBy j (line_parts own)
  pub even : has_odd_line (empty_nowiki ∷ own) ≡ false
  pub closed : has_open_text [] (all_unplaced (forest (children (line_parts own)))) ≡ false

-- So it is a group of the page: one that ends with a URL shows `//`, and one that began its line may do so. One that begins or ends with a style has an
-- apostrophe there, and so no `=`.
pub record IsGroup (g : Transclusion) (j : ℕ) (own : List Item) : Type 0 where
  pub gives : GivesSigns j own
  pub urls : ends_with_url gives.signs ≡ true → g.slashes ≡ true
  pub opens : g.began_line ≡ true → BeginsLine (given_glyphs gives.signs)
  pub opens_style : opens_quoted gives.nested.content false ≡ true → (g.opens_with_apostrophe && not g.between_equals) ≡ true
  pub closes_style : closes_quoted false gives.nested.content ≡ true → g.closes_with_apostrophe ≡ true
