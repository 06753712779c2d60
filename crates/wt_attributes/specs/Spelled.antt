-- How attributes are written, and which texts they are read from: the rule in other words.
use Rattle.std.specs.Prelude.{◌≡◌, ◌<◌, ◌⊎◌, ℕ, zero, suc, ◌==◌, not, Bool, true, false, Some, None, List, [], ◌∷◌, ◌++◌, length, drop, slice_index, codes}
use Rattle.std.specs.List.{AllByRecursion}
use Rattle.wt_span.specs.Bytes.{is_blank, lower}
use Rattle.wt_span.specs.Characters as byte
use Rattle.wt_tree.specs.declared.kind.AttrName.{AttrName}
use Rattle.wt_tree.specs.declared.kind.AttrName.TheVariants as attr
use Rattle.wt_attributes.specs.Classes.{is_bare}
use Rattle.wt_attributes.specs.Attributes.{Named, attribute_at}

-- a value as it is written: with its quote, or without quotes
pub data Value : Type 0 where
  quoted : ℕ → List ℕ → Value
  bare : List ℕ → Value

-- an attribute as it is written: its name in any case, and blanks before and after the `=`
pub record Spelled : Type 0 where
  pub name : AttrName
  pub word : List ℕ
  pub before : List ℕ
  pub after : List ℕ
  pub value : Value

abbrev pub spell_value : Value → List ℕ
spell_value (quoted q v) = q ∷ (v ++ q ∷ [])
spell_value (bare v) = v

abbrev pub spell : Spelled → List ℕ
spell s = s.word ++ (s.before ++ (byte.equals_sign ∷ (s.after ++ spell_value s.value)))

abbrev pub characters_of : Value → List ℕ
characters_of (quoted q v) = v
characters_of (bare v) = v

abbrev pub meaning : Spelled → Named
meaning s = (s.name, characters_of s.value)

-- the names that count, in lower case
abbrev pub IsName : AttrName → List ℕ → Type 0
IsName attr.About w = ⊥
IsName attr.Typeof w = ⊥
IsName attr.Property w = ⊥
IsName attr.Rel w = ⊥
IsName attr.Href w = ⊥
IsName attr.Class w = w ≡ codes "class"
IsName attr.Colspan w = w ≡ codes "colspan"
IsName attr.Rowspan w = w ≡ codes "rowspan"
IsName attr.Scope w = w ≡ codes "scope"
IsName attr.Lang w = w ≡ codes "lang"
IsName attr.Dir w = w ≡ codes "dir"
IsName attr.Id w = ⊥
IsName attr.DataMw w = ⊥
IsName attr.DataParsoid w = ⊥

-- all bytes pass a test
abbrev pub Each : (ℕ → Bool) → List ℕ → Type 0
Each p bs = AllByRecursion (λ b. p b ≡ true) bs

-- a run of bytes that pass a test doesn't go on
abbrev pub EndsAt : (ℕ → Bool) → List ℕ → Type 0
EndsAt p [] = Unit {0}
EndsAt p (b ∷ bs) = p b ≡ false

-- a value before what follows it: one without quotes goes on as far as it can
abbrev pub IsValue : Value → List ℕ → Type 0
IsValue (quoted q v) rest = ((q ≡ byte.quotation_mark) ⊎ (q ≡ byte.apostrophe)) × Each (λ b. not (b == q)) v
IsValue (bare v) rest = (0 < length v) × Each is_bare v × EndsAt is_bare rest

-- an attribute before what follows it
pub record IsSpelled (s : Spelled) (rest : List ℕ) : Type 0 where
  pub named : IsName s.name (lower s.word)
  pub blank_before : Each is_blank s.before
  pub blank_after : Each is_blank s.after
  pub valued : IsValue s.value rest

-- ---- all attributes of a text

-- an attribute may begin at a place: at the text's start, where `fresh` says it, or after a blank
abbrev pub may_begin : Bool → List ℕ → ℕ → Bool
may_begin fresh bs zero = fresh
may_begin fresh bs (suc k) = is_blank (slice_index bs k)

-- at none of the first `n` places where one may begin is an attribute
abbrev pub NoneBefore : Bool → ℕ → List ℕ → Type 0
NoneBefore fresh n bs = (k : ℕ) → k < n → may_begin fresh bs k ≡ true → attribute_at (drop k bs) ≡ None

-- The attributes are those of a text: each is the first that is where one may begin, after the one before it, and
-- after the last one comes none.
abbrev pub AreReadings : Bool → List Named → List ℕ → Type 0
AreReadings fresh [] bs = NoneBefore fresh (length bs) bs
AreReadings fresh (a ∷ others) bs =
    (n : ℕ) × (rest : List ℕ) × (n < length bs) × NoneBefore fresh n bs × (may_begin fresh bs n ≡ true) ×
    (attribute_at (drop n bs) ≡ Some (a, rest)) × AreReadings false others rest
