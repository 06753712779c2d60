-- The reasons for which an input is refused, each by what comes before the place and after it.
use Rattle.std.specs.Prelude.{◌≡◌, ℕ, ◌==◌, ◌⊎◌, Bool, true, not, nat_lt, List, [], ◌∷◌, ◌++◌, length, take, drop}
use Rattle.std.specs.Str.{IsUtf8}
use Rattle.wt_span.specs.Characters as byte
use Rattle.wt_html_grammar.specs.declared.why.HtmlWhy.{HtmlWhy}
use Rattle.wt_html_grammar.specs.declared.why.HtmlWhy.TheVariants as why
use Rattle.wt_html_grammar.specs.Signs.{is_lower, is_name_byte, is_attribute_byte, is_among, Each, IsAttributeName, IsWideGap}
use Rattle.wt_html_grammar.specs.Grammar.{Attribute}
use Rattle.wt_html_reasons.specs.Written.{Level, Within, InContents, names_of, InStartTag, InValue}
use Rattle.wt_html_grammar.specs.declared.limits.TheConstants.{NESTED_ELEMENTS}

-- the byte at the place passes the test
abbrev pub Next : (ℕ → Bool) → List ℕ → Type 0
Next p [] = ⊥
Next p (b ∷ behind) = p b ≡ true

-- no text in UTF-8 begins with the bytes up to the place and the byte there
abbrev pub BeginsNoText : List ℕ → List ℕ → Type 0
BeginsNoText before [] = ⊥
BeginsNoText before (b ∷ behind) = (more : List ℕ) → IsUtf8 (before ++ b ∷ more) → ⊥

-- as many elements are open as may be, and after `<` the name of one more begins
abbrev pub IsTooDeep : List ℕ → List ℕ → Type 0
IsTooDeep before behind =
    (levels : List Level) × (outside : List ℕ) × Within levels outside × (length levels ≡ NESTED_ELEMENTS) × (before ≡ outside ++ byte.less_than ∷ []) × Next is_lower behind

-- After `</`, in the name of the element that is open; or after the whole name, before a byte
-- with which a name goes on.
abbrev pub InEndTagName : List ℕ → List ℕ → Type 0
InEndTagName before behind =
    (l : Level) × (outer : List Level) × (outside got left : List ℕ) × Within (l ∷ outer) outside × (got ++ left ≡ l.name)
    × (before ≡ outside ++ (byte.less_than ∷ byte.slash ∷ got)) × (left ≡ [] → Next is_name_byte behind)

-- in contents or in a value, after `&` and before the next `;`
abbrev pub InEscape : List ℕ → Type 0
InEscape before =
    (outside got : List ℕ) × (InContents outside ⊎ InValue outside) × (before ≡ outside ++ (byte.ampersand ∷ got)) × Each (λ b. not (b == byte.semicolon)) got

-- directly after the name of an attribute that came before in the element
abbrev pub IsRepeated : List ℕ → List ℕ → Type 0
IsRepeated before behind =
    (attributes : List Attribute) × (tag gap name : List ℕ) × InStartTag attributes tag × IsWideGap gap × IsAttributeName name
    × (is_among name (names_of attributes) ≡ true) × (before ≡ tag ++ (gap ++ name)) × (Next is_attribute_byte behind → ⊥)

-- The reason holds between the bytes before the place and those after it. `Syntax` holds at each
-- place; so it is the reason where no other one holds.
abbrev pub HoldsBetween : HtmlWhy → List ℕ → List ℕ → Type 0
HoldsBetween why.NotUtf8 before behind = BeginsNoText before behind
HoldsBetween why.End before behind = behind ≡ []
HoldsBetween why.TooDeep before behind = IsTooDeep before behind
HoldsBetween why.EndTag before behind = InEndTagName before behind
HoldsBetween why.Escape before behind = InEscape before
HoldsBetween why.Repeated before behind = IsRepeated before behind
HoldsBetween why.Syntax before behind = Unit {0}

-- the reason holds at the place
abbrev pub Holds : HtmlWhy → List ℕ → ℕ → Type 0
Holds w bytes place = HoldsBetween w (take place bytes) (drop place bytes)

-- the place of a reason in their order
abbrev pub rank : HtmlWhy → ℕ
rank why.NotUtf8 = 0
rank why.End = 1
rank why.TooDeep = 2
rank why.EndTag = 3
rank why.Escape = 4
rank why.Repeated = 5
rank why.Syntax = 6

-- the first of two reasons
abbrev pub comes_before : HtmlWhy → HtmlWhy → Bool
comes_before v w = nat_lt (rank v) (rank w)
