-- What is well-formed: there is a document that is spelled so. A document is kept as it is written,
-- with its white space, quotes and escapes.
use Rattle.std.specs.Prelude.{◌≡◌, ℕ, suc, ◌<◌, ◌≤◌, Bool, true, false, List, [], ◌∷◌, ◌++◌, length, map, codes, encode_utf8}
use Rattle.std.specs.Char.{to_ascii_lowercase}
use Rattle.wt_span.specs.Characters as byte
use lib.Utf8.{scalar}
use Rattle.wt_html_grammar.specs.declared.names.EscapeName.{EscapeName}
use Rattle.wt_html_grammar.specs.declared.names.Radix.{Radix}
use Rattle.wt_html_grammar.specs.Signs.{in_text, in_value, is_quote, is_among, is_void, letters_of, sign_of, most_digits, is_digit_of, number_from, Each, IsName, IsAttributeName, IsGap, IsWideGap}
use Rattle.wt_html_grammar.specs.declared.limits.TheConstants.{NESTED_ELEMENTS}

-- what stands for one character: the character itself, an escape with a name, or one with a number
pub data Piece : Type 0 where
  plain : ℕ → Piece
  named : EscapeName → Piece
  number : Radix → List ℕ → Piece

abbrev pub spell_piece : Piece → List ℕ
spell_piece (plain c) = encode_utf8 c
spell_piece (named n) = byte.ampersand ∷ (letters_of n ++ byte.semicolon ∷ [])
spell_piece (number r ds) = byte.ampersand ∷ byte.hash ∷ (sign_of r ++ (ds ++ byte.semicolon ∷ []))

-- where a character that stands for itself meets the test; an escape is that of a character
abbrev pub IsPiece : (ℕ → Bool) → Piece → Type 0
IsPiece p (plain c) = (scalar c ≡ true) × (p c ≡ true)
IsPiece p (named n) = Unit {0}
IsPiece p (number r ds) = (0 < length ds) × (length ds ≤ most_digits r) × Each (is_digit_of r) ds × (scalar (number_from r 0 ds) ≡ true)

abbrev pub spell_pieces : List Piece → List ℕ
spell_pieces [] = []
spell_pieces (p ∷ ps) = spell_piece p ++ spell_pieces ps

abbrev pub ArePieces : (ℕ → Bool) → List Piece → Type 0
ArePieces t [] = Unit {0}
ArePieces t (p ∷ ps) = IsPiece t p × ArePieces t ps

-- an attribute, with the white space before it, before its `=` and after that
pub record Attribute : Type 0 where
  pub gap : List ℕ
  pub name : List ℕ
  pub left : List ℕ
  pub right : List ℕ
  pub quote : ℕ
  pub value : List Piece

abbrev pub spell_attribute : Attribute → List ℕ
spell_attribute a = a.gap ++ (a.name ++ (a.left ++ (byte.equals_sign ∷ (a.right ++ (a.quote ∷ (spell_pieces a.value ++ a.quote ∷ []))))))

abbrev pub IsAttribute : Attribute → Type 0
IsAttribute a = IsWideGap a.gap × IsAttributeName a.name × ArePieces (in_value a.quote) a.value × (is_quote a.quote ≡ true) × IsGap a.left × IsGap a.right

abbrev pub spell_attributes : List Attribute → List ℕ
spell_attributes [] = []
spell_attributes (a ∷ others) = spell_attribute a ++ spell_attributes others

-- attributes after those with these names, each name once
abbrev pub AreAttributes : List (List ℕ) → List Attribute → Type 0
AreAttributes before [] = Unit {0}
AreAttributes before (a ∷ others) = IsAttribute a × (is_among a.name before ≡ false) × AreAttributes (before ++ a.name ∷ []) others

-- how a void element ends
pub data Slash : Type 0 where
  bare : Slash
  slash : Slash

abbrev pub spell_slash : Slash → List ℕ
spell_slash bare = codes ">"
spell_slash slash = codes "/>"

-- An element: its name, its attributes, the white space after them, its contents, and the white
-- space in its end tag. A void element has no contents and no end tag.
mutual
  pub data Element : Type 0 where
    element : List ℕ → List Attribute → List ℕ → Items → List ℕ → Element
    void : List ℕ → List Attribute → List ℕ → Slash → Element

  pub data Items : Type 0 where
    none : Items
    sign : Piece → Items → Items
    child : Element → Items → Items

abbrev mutual
  pub spell : Element → List ℕ
  spell (element name attributes gap items end) =
      byte.less_than ∷ (name ++ (spell_attributes attributes ++ (gap ++ (byte.greater_than ∷ (spell_items items ++ (byte.less_than ∷ byte.slash ∷ (name ++ (end ++ byte.greater_than ∷ []))))))))
  spell (void name attributes gap end) = byte.less_than ∷ (name ++ (spell_attributes attributes ++ (gap ++ spell_slash end)))

  pub spell_items : Items → List ℕ
  spell_items none = []
  spell_items (sign p items) = spell_piece p ++ spell_items items
  spell_items (child e items) = spell e ++ spell_items items

-- an element that is within k others: at most `NESTED_ELEMENTS` are nested
abbrev mutual
  pub IsElement : ℕ → Element → Type 0
  IsElement k (element name attributes gap items end) =
      (k < NESTED_ELEMENTS) × IsName name × AreAttributes [] attributes × IsGap gap × AreItems (suc k) items × IsGap end × (is_void name ≡ false)
  IsElement k (void name attributes gap end) = (k < NESTED_ELEMENTS) × IsName name × AreAttributes [] attributes × IsGap gap × (is_void name ≡ true)

  pub AreItems : ℕ → Items → Type 0
  AreItems k none = Unit {0}
  AreItems k (sign p items) = IsPiece in_text p × AreItems k items
  AreItems k (child e items) = IsElement k e × AreItems k items

-- what comes before the root: white space, maybe a doctype, white space
abbrev pub doctype : List ℕ
doctype = codes "<!doctype html>"

pub record Head : Type 0 where
  pub lead : List ℕ
  pub doctype : List ℕ
  pub gap : List ℕ

abbrev pub spell_head : Head → List ℕ
spell_head h = h.lead ++ (h.doctype ++ h.gap)

-- no doctype, or one that is written in small and capital letters
abbrev pub MayBeDoctype : List ℕ → Type 0
MayBeDoctype [] = Unit {0}
MayBeDoctype (b ∷ bs) = map to_ascii_lowercase (b ∷ bs) ≡ doctype

abbrev pub IsHead : Head → Type 0
IsHead h = IsGap h.lead × MayBeDoctype h.doctype × IsGap h.gap

pub record Document : Type 0 where
  pub head : Head
  pub root : Element
  pub end : List ℕ

abbrev pub spell_document : Document → List ℕ
spell_document d = spell_head d.head ++ (spell d.root ++ d.end)

abbrev pub IsDocument : Document → Type 0
IsDocument d = IsHead d.head × IsElement 0 d.root × IsGap d.end

abbrev pub Well : List ℕ → Type 0
Well bytes = (d : Document) × IsDocument d × (bytes ≡ spell_document d)

-- bytes with which some well-formed input begins
abbrev pub Front : List ℕ → Type 0
Front bytes = (more : List ℕ) × Well (bytes ++ more)
