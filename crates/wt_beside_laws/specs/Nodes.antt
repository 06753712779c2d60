-- Nodes that stay, by what their neighbours see of them: what each is by itself, and what may stand beside it.
use Rattle.std.specs.Prelude.{◌≡◌, ◌⊎◌, ◌≤◌, ℕ, ◌==◌, Bool, true, false, Option, Some, None, List, [], ◌∷◌, length, drop, codes}
use Rattle.std.specs.List.{Contains}
use Rattle.wt_span.specs.Characters as byte
use Rattle.wt_guards.specs.declared.role.Role.{Role}
use Rattle.wt_guards.specs.declared.role.Role.TheVariants.{Link, External, Bare, Switch, Toggle, Mark, Group, Function, Node}
use Rattle.wt_guards.specs.Content.{ContentSign, letter, thing}
use Rattle.wt_guards.specs.Guards.{Setting, is_guarded}
use Rattle.wt_tiles.specs.declared.glyph.Glyph.{Glyph}
use Rattle.wt_tiles.specs.declared.glyph.Glyph.TheVariants as glyph
use Rattle.wt_tiles.specs.declared.glyph.GlyphClass.TheVariants as class
use Rattle.wt_tiles.specs.declared.shape.Shape.{Shape}
use Rattle.wt_tiles.specs.Glyphs.{is_in, in_class, first_is, begins, byte_glyphs}
use Rattle.wt_tiles.specs.declared.tag.Name.{Name}
use Rattle.wt_tiles.specs.declared.tag.Name.TheVariants.{Paired, Break, Island}
use Rattle.wt_tiles.specs.declared.tag.TagShape.{TagShape}
use Rattle.wt_tiles.specs.declared.tag.TagShape.TheVariants.{Opening, Alone, Closing}
use Rattle.wt_tiles.specs.declared.tag.Tag.{Tag}
use Rattle.wt_span.specs.declared.tag_name.TagName.{TagName}
use Rattle.wt_tiles.specs.Links.{link_at}
use Rattle.wt_tiles.specs.Partners.{number, partner}
use Rattle.wt_tiles.specs.Tags.{tag_at}
use Rattle.wt_tiles.specs.Tiles.{size, len_of, switch_names}
use Rattle.wt_tiles.specs.Urls.{is_url_glyph, ext_link_at, bare_url_at}
use Rattle.wt_beside_laws.specs.Cuts.{own_glyphs, ends_word}
use Rattle.wt_beside_laws.specs.Glyphs.{line_glyphs}
use Rattle.wt_beside_laws.specs.Tiles.{IsPlainLink, IsCategoryLink, IsMediaLink}

-- ---- what each is

-- a link to a page
pub record IsLinkNode (own : List Glyph) : Type 0 where
  pub shape : Shape
  pub inside : List Glyph
  pub is : own ≡ glyph.Byte byte.opening_bracket ∷ glyph.Byte byte.opening_bracket ∷ inside
  pub plain : IsPlainLink inside
  pub link : link_at (glyph.Byte byte.opening_bracket ∷ glyph.Byte byte.opening_bracket ∷ inside) ≡ Some shape
  pub whole : size shape ≡ length own

-- a link to a category
pub record IsCategoryNode (own : List Glyph) : Type 0 where
  pub shape : Shape
  pub inside : List Glyph
  pub is : own ≡ glyph.Byte byte.opening_bracket ∷ glyph.Byte byte.opening_bracket ∷ inside
  pub category : IsCategoryLink inside
  pub link : link_at (glyph.Byte byte.opening_bracket ∷ glyph.Byte byte.opening_bracket ∷ inside) ≡ Some shape
  pub whole : size shape ≡ length own

-- a link to media
pub record IsMediaNode (own : List Glyph) : Type 0 where
  pub shape : Shape
  pub inside : List Glyph
  pub is : own ≡ glyph.Byte byte.opening_bracket ∷ glyph.Byte byte.opening_bracket ∷ inside
  pub name_len : ℕ
  pub media : IsMediaLink inside name_len
  pub link : link_at (glyph.Byte byte.opening_bracket ∷ glyph.Byte byte.opening_bracket ∷ inside) ≡ Some shape
  pub whole : size shape ≡ length own

-- an external link
pub record IsExternalNode (own : List Glyph) : Type 0 where
  pub shape : Shape
  pub inside : List Glyph
  pub is : own ≡ glyph.Byte byte.opening_bracket ∷ inside
  pub single : first_is (class.Only byte.opening_bracket) inside ≡ false
  pub link : ext_link_at (glyph.Byte byte.opening_bracket ∷ inside) ≡ Some shape
  pub whole : size shape ≡ length own

-- a bare URL
pub record IsBareNode (own : List Glyph) : Type 0 where
  pub shape : Shape
  pub first : ℕ
  pub others : List Glyph
  pub is : own ≡ glyph.Byte first ∷ others
  pub unbracketed : (first == byte.opening_bracket) ≡ false
  pub url : bare_url_at false (glyph.Byte first ∷ others) ≡ Some shape
  pub whole : size shape ≡ length own

-- a switch
pub record IsSwitchNode (own : List Glyph) : Type 0 where
  pub word : List ℕ
  pub named : Contains switch_names word
  pub is : own ≡ byte_glyphs (byte.underscore ∷ byte.underscore ∷ word)

-- a style delimiter
abbrev pub IsDelimiter : List Glyph → Type 0
IsDelimiter own = (own ≡ byte_glyphs (codes "''")) ⊎ (own ≡ byte_glyphs (codes "'''"))

-- a reference, a nowiki, an extension, or another lexeme
abbrev pub IsOneLexeme : List Glyph → Type 0
IsOneLexeme own = (own ≡ glyph.Atom ∷ []) ⊎ ((c : ℕ) × (own ≡ glyph.Entity c ∷ []))

-- a comment, a line of comments, or an include tag
abbrev pub IsMarkNode : List Glyph → Type 0
IsMarkNode own = own ≡ glyph.Mark ∷ []

-- the opening tag of a pair, with what is in the pair and its closing tag
pub record IsPair (t : Tag) (own : List Glyph) : Type 0 where
  pub name : TagName
  pub paired : t.name ≡ Paired name
  pub opens : t.shape ≡ Opening
  pub last : List Glyph
  pub closing : partner (number name) 0 (drop t.len own) ≡ Some last
  pub ends : len_of (tag_at last) ≡ length last
  pub within : t.len ≤ length own

-- it is all of the items, or all of them are the pair that it opens
abbrev pub IsAllOf : Tag → List Glyph → Type 0
IsAllOf t own = (t.len ≡ length own) ⊎ IsPair t own

-- a tag of a line break, one that is kept as an island, one of a pair without the other one, or a pair of tags with what is in it
pub record IsTagNode (own : List Glyph) : Type 0 where
  pub named : Tag
  pub others : List Glyph
  pub is : own ≡ glyph.Byte byte.less_than ∷ others
  pub tagged : tag_at (glyph.Byte byte.less_than ∷ others) ≡ Some named
  pub ends : IsAllOf named (glyph.Byte byte.less_than ∷ others)

abbrev pub IsNode : Role → List Glyph → Type 0
IsNode Link own = IsLinkNode own
IsNode External own = IsExternalNode own
IsNode (Bare ends) own = IsBareNode own
IsNode Switch own = IsSwitchNode own
IsNode Toggle own = IsDelimiter own
IsNode (Mark ends began) own = IsMarkNode own
IsNode (Group g) own = ⊥
IsNode Function own = IsOneLexeme own
IsNode Node own = IsOneLexeme own ⊎ (IsTagNode own ⊎ (IsCategoryNode own ⊎ IsMediaNode own))

abbrev pub AreNodes : List ContentSign → Type 0
AreNodes [] = Unit {0}
AreNodes (letter c ∷ after) = AreNodes after
AreNodes (thing t ∷ after) = IsNode t.role (own_glyphs t) × AreNodes after

-- ---- a tag that opens a pair

-- where a tag of this name opens a pair, none in these items closes it
abbrev pub ClosesNone : Name → TagShape → List Glyph → Type 0
ClosesNone (Paired m) Opening behind = partner (number m) 0 behind ≡ None
ClosesNone (Paired m) Alone behind = Unit {0}
ClosesNone (Paired m) Closing behind = Unit {0}
ClosesNone Break shape behind = Unit {0}
ClosesNone Island shape behind = Unit {0}

-- of a tag that begins a node of so many items: it may be all of it
abbrev pub IsOpenBy : Option Tag → ℕ → List Glyph → Type 0
IsOpenBy None n behind = Unit {0}
IsOpenBy (Some t) n behind = t.len ≡ n → ClosesNone t.name t.shape behind

-- Where a node is a tag that opens a pair, none in what is behind it closes it: so it stays an island.
abbrev pub IsOpenBefore : List Glyph → List Glyph → Type 0
IsOpenBefore own behind = IsOpenBy (tag_at own) (length own) behind

abbrev pub StaysOpen : ContentSign → List Glyph → Type 0
StaysOpen (letter c) behind = Unit {0}
StaysOpen (thing t) behind = IsOpenBefore (own_glyphs t) behind

-- so each of a content that is one, by what is written behind it on its line
abbrev pub AllStayOpen : Setting → List ContentSign → List ContentSign → Type 0
AllStayOpen s before [] = Unit {0}
AllStayOpen s before (sign ∷ after) = StaysOpen sign (line_glyphs s (sign ∷ before) after) × AllStayOpen s (sign ∷ before) after

-- in whatever block it is written
abbrev pub KeepsOpen : List ContentSign → Type 0
KeepsOpen signs = (s : Setting) → AllStayOpen s [] signs

-- it isn't the opening tag of a pair
abbrev pub IsLone : Name → TagShape → Type 0
IsLone (Paired m) Opening = ⊥
IsLone (Paired m) Alone = Unit {0}
IsLone (Paired m) Closing = Unit {0}
IsLone Break shape = Unit {0}
IsLone Island shape = Unit {0}

abbrev pub IsClosedBy : Option Tag → ℕ → Type 0
IsClosedBy None n = Unit {0}
IsClosedBy (Some t) n = t.len ≡ n → IsLone t.name t.shape

-- a node that is no tag which opens a pair; a pair with what is in it is none
abbrev pub OpensNoPair : List Glyph → Type 0
OpensNoPair own = IsClosedBy (tag_at own) (length own)

abbrev pub NoneOpensPair : List ContentSign → Type 0
NoneOpensPair [] = Unit {0}
NoneOpensPair (letter c ∷ after) = NoneOpensPair after
NoneOpensPair (thing t ∷ after) = OpensNoPair (own_glyphs t) × NoneOpensPair after

-- ---- what may be beside it

-- the first item that follows a node: no letter that joins a link, and none of a URL behind a URL
abbrev pub MayBeBehind : Role → Glyph → Type 0
MayBeBehind Link g = in_class class.Trail g ≡ false
MayBeBehind External g = Unit {0}
MayBeBehind (Bare ends) g = is_url_glyph g ≡ false
MayBeBehind Switch g = Unit {0}
MayBeBehind Toggle g = Unit {0}
MayBeBehind (Mark ends began) g = Unit {0}
MayBeBehind (Group h) g = Unit {0}
MayBeBehind Function g = Unit {0}
MayBeBehind Node g = Unit {0}

-- an apostrophe is last
abbrev pub is_quote_last : List Glyph → Bool
is_quote_last [] = false
is_quote_last (g ∷ []) = is_in (λ b. b == byte.apostrophe) g
is_quote_last (g ∷ h ∷ gs) = is_quote_last (h ∷ gs)

-- two apostrophes are first behind a node that doesn't end with one: so they aren't of a URL, either
pub record IsBeforeQuotes (own behind : List Glyph) : Type 0 where
  pub unquoted : is_quote_last own ≡ false
  pub quotes : begins (codes "''") behind ≡ true

-- what may be read behind a node with these items
abbrev pub MayFollow : Role → List Glyph → List Glyph → Type 0
MayFollow r own [] = Unit {0}
MayFollow r own (g ∷ gs) = MayBeBehind r g ⊎ IsBeforeQuotes own (g ∷ gs)

-- before a bare URL is no letter, digit or `_`
abbrev pub MayLead : Role → Bool → Type 0
MayLead Link word = Unit {0}
MayLead External word = Unit {0}
MayLead (Bare ends) word = word ≡ false
MayLead Switch word = Unit {0}
MayLead Toggle word = Unit {0}
MayLead (Mark ends began) word = Unit {0}
MayLead (Group h) word = Unit {0}
MayLead Function word = Unit {0}
MayLead Node word = Unit {0}

-- Two nodes between which nothing is put, as they may stand in the page; and a node before what is behind the content. A tag that opens a pair is
-- closed by nothing on its line.
abbrev pub MeetAt : Bool → List ContentSign → List ContentSign → List Glyph → Type 0
MeetAt true before after rest = Unit {0}
MeetAt false [] after rest = Unit {0}
MeetAt false (letter c ∷ before) after rest = Unit {0}
MeetAt false (thing t ∷ before) [] rest = MayFollow t.role (own_glyphs t) rest
MeetAt false (thing t ∷ before) (letter c ∷ after) rest = Unit {0}
MeetAt false (thing t ∷ before) (thing n ∷ after) rest = MayFollow t.role (own_glyphs t) (own_glyphs n) × MayLead n.role (ends_word false (own_glyphs t))

abbrev pub AllMeet : Setting → List ContentSign → List ContentSign → List Glyph → Type 0
AllMeet s before [] rest = MeetAt (is_guarded s before []) before [] rest
AllMeet s before (sign ∷ after) rest =
    MeetAt (is_guarded s before (sign ∷ after)) before (sign ∷ after) rest × StaysOpen sign (line_glyphs s (sign ∷ before) after)
    × AllMeet s (sign ∷ before) after rest
