-- What is written of a document up to a place: which elements are open there, and what is begun.
use Rattle.std.specs.Prelude.{◌≡◌, ℕ, suc, ◌<◌, false, List, [], ◌∷◌, ◌++◌, length, map}
use Rattle.wt_span.specs.Characters as byte
use Rattle.wt_html_grammar.specs.Signs.{is_void, is_among, IsName, IsGap}
use Rattle.wt_html_grammar.specs.Grammar.{spell_pieces, Attribute, IsAttribute, spell_attributes, AreAttributes, Items, spell_items, AreItems, Head, spell_head, IsHead}
use Rattle.wt_html_grammar.specs.declared.limits.TheConstants.{NESTED_ELEMENTS}

-- an open element: its start tag, and its contents so far
pub record Level : Type 0 where
  pub name : List ℕ
  pub attributes : List Attribute
  pub gap : List ℕ
  pub contents : Items

abbrev pub spell_level : Level → List ℕ
spell_level l = byte.less_than ∷ (l.name ++ (spell_attributes l.attributes ++ (l.gap ++ (byte.greater_than ∷ spell_items l.contents))))

-- it is within k others
abbrev pub IsLevel : ℕ → Level → Type 0
IsLevel k l = (k < NESTED_ELEMENTS) × IsName l.name × AreAttributes [] l.attributes × IsGap l.gap × AreItems (suc k) l.contents × (is_void l.name ≡ false)

-- open elements, the innermost first
abbrev pub spell_levels : List Level → List ℕ
spell_levels [] = []
spell_levels (l ∷ outer) = spell_levels outer ++ spell_level l

abbrev pub AreLevels : List Level → Type 0
AreLevels [] = Unit {0}
AreLevels (l ∷ outer) = IsLevel (length outer) l × AreLevels outer

-- The bytes are a head and these open elements with their contents so far: what follows them is
-- in the contents of the first, or, where none is open, is the root.
abbrev pub Within : List Level → List ℕ → Type 0
Within levels bytes = AreLevels levels × ((head : Head) × IsHead head × (bytes ≡ spell_head head ++ spell_levels levels))

-- in the contents of an element
abbrev pub InContents : List ℕ → Type 0
InContents bytes = (l : Level) × (outer : List Level) × Within (l ∷ outer) bytes

-- the names of attributes
abbrev pub names_of : List Attribute → List (List ℕ)
names_of attributes = map (λ a. a.name) attributes

-- in a start tag, directly after its name and these attributes
abbrev pub InStartTag : List Attribute → List ℕ → Type 0
InStartTag attributes bytes =
    (levels : List Level) × (outside name : List ℕ) × Within levels outside × (length levels < NESTED_ELEMENTS) × IsName name × AreAttributes [] attributes
    × (bytes ≡ outside ++ (byte.less_than ∷ (name ++ spell_attributes attributes)))

-- an attribute up to the quote that ends its value
abbrev pub spell_unended : Attribute → List ℕ
spell_unended a = a.gap ++ (a.name ++ (a.left ++ (byte.equals_sign ∷ (a.right ++ (a.quote ∷ spell_pieces a.value)))))

-- in the value of an attribute
abbrev pub InValue : List ℕ → Type 0
InValue bytes =
    (attributes : List Attribute) × (tag : List ℕ) × (a : Attribute) × InStartTag attributes tag × IsAttribute a ×
    (is_among a.name (names_of attributes) ≡ false)
    × (bytes ≡ tag ++ spell_unended a)
