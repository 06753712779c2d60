-- The attributes that a text gives, and how they are read in it.
use Rattle.std.specs.Prelude.{ℕ, zero, suc, ◌+◌, ◌-◌, ◌==◌, Bool, true, false, Option, Some, None, List, [], ◌∷◌, length, take, drop, nat_lt, codes, if◌then◌else◌}
use Rattle.std.specs.Option.{option_or, option_map}
use Rattle.std.specs.List.{filter_map}
use Rattle.std.specs.Str.{bytes_eq}
use Rattle.wt_span.specs.Bytes.{is_blank, lower}
use Rattle.wt_span.specs.Items.{Item}
use Rattle.wt_tree.specs.declared.kind.AttrName.{AttrName}
use Rattle.wt_tree.specs.declared.kind.AttrName.TheVariants as attr
use Rattle.wt_attributes.specs.declared.class.ScanClass.{ScanClass}
use Rattle.wt_attributes.specs.declared.class.ScanClass.TheVariants as class
use Rattle.wt_attributes.specs.Characters.{text_of}
use Rattle.wt_attributes.specs.Classes.{run_len}
use denote.Enum.Bare.{sameb}
use Rattle.wt_tree.specs.contracts.kind.AttrName.{the_type}

-- an attribute: its name and its value
abbrev pub Named : Type 0
Named = AttrName × List ℕ

-- what is read at the front of a text, and what is left after it
abbrev pub Read : Type 0 → Type 0
Read A = Option (A × List ℕ)

-- ---- one attribute, at the front of a text

-- the word begins the text, in any case
unfoldable pub begins_any_case : List ℕ → List ℕ → Bool
begins_any_case word bs = bytes_eq (lower (take (length word) bs)) (lower word)

abbrev pub after_word : AttrName → List ℕ → List ℕ → Read AttrName
after_word name word bs = if begins_any_case word bs then Some (name, drop (length word) bs) else None

-- the names that count; none begins with another
unfoldable pub name_at : List ℕ → Read AttrName
name_at bs =
    option_or (after_word attr.Class (codes "class") bs)
    (option_or (after_word attr.Colspan (codes "colspan") bs)
    (option_or (after_word attr.Rowspan (codes "rowspan") bs)
    (option_or (after_word attr.Scope (codes "scope") bs)
    (option_or (after_word attr.Lang (codes "lang") bs)
    (after_word attr.Dir (codes "dir") bs)))))

-- `n` bytes are the value, and the quote after them ends it
abbrev pub ended : ℕ → List ℕ → Read (List ℕ)
ended n bs = if nat_lt n (length bs) then Some (take n bs, drop (n + 1) bs) else None

-- after the quote that opens a value: up to the next such quote
unfoldable pub quoted : ScanClass → List ℕ → Read (List ℕ)
quoted no_quote bs = ended (run_len no_quote bs) bs

-- a value without quotes has one character or more
abbrev pub some_of : ℕ → List ℕ → Read (List ℕ)
some_of n bs = if nat_lt 0 n then Some (take n bs, drop n bs) else None

unfoldable pub bare : List ℕ → Read (List ℕ)
bare bs = some_of (run_len class.Bare bs) bs

-- what follows a sign that begins the text
abbrev pub after_sign : ℕ → List ℕ → Option (List ℕ)
after_sign sign [] = None
after_sign sign (b ∷ bs) = if b == sign then Some bs else None

-- by what follows `"` or `'` at the front
abbrev pub opened : Option (List ℕ) → Option (List ℕ) → List ℕ → Read (List ℕ)
opened (Some inside) single bs = quoted class.NoDouble inside
opened None (Some inside) bs = quoted class.NoSingle inside
opened None None bs = bare bs

unfoldable pub value_at : List ℕ → Read (List ℕ)
value_at bs = opened (after_sign 34 bs) (after_sign 39 bs) bs

unfoldable pub past_blanks : List ℕ → List ℕ
past_blanks bs = drop (run_len class.Blank bs) bs

-- what follows a `=` that begins the text, blanks passed over
abbrev pub after_equals : List ℕ → Option (List ℕ)
after_equals bs = option_map past_blanks (after_sign 61 bs)

-- `=` and a value, with blanks round the `=`
abbrev pub value_in : Option (List ℕ) → Read (List ℕ)
value_in None = None
value_in (Some bs) = value_at bs

unfoldable pub assigned : List ℕ → Read (List ℕ)
assigned bs = value_in (after_equals (past_blanks bs))

abbrev pub with_name : AttrName → Read (List ℕ) → Read Named
with_name name None = None
with_name name (Some (value, rest)) = Some ((name, value), rest)

abbrev pub with_value : Read AttrName → Read Named
with_value None = None
with_value (Some (name, bs)) = with_name name (assigned bs)

-- the attribute that begins a text
unfoldable pub attribute_at : List ℕ → Read Named
attribute_at bs = with_value (name_at bs)

-- ---- all attributes of a text

-- the attribute that begins here, where one may
abbrev pub attribute_if : Bool → List ℕ → Read Named
attribute_if true bs = attribute_at bs
attribute_if false bs = None

-- an attribute that was read, or what is there without one
abbrev pub going_on : Read Named → List ℕ → (ℕ → List Named) → List Named → List Named
going_on None bs after without = without
going_on (Some (a, rest)) bs after without = a ∷ after (length bs - length rest)

-- From the left. `fresh` says whether an attribute may begin at the front: at the text's start, or after a space or tab. Of
-- the text `n` bytes still lie in an attribute, whose last byte is no blank.
abbrev pub readings : Bool → ℕ → List ℕ → List Named
readings fresh n [] = []
readings fresh (suc n) (b ∷ bs) = readings false n bs
readings false zero (b ∷ bs) = readings (is_blank b) zero bs
readings true zero (b ∷ bs) = going_on (attribute_at (b ∷ bs)) bs (λ n. readings false n bs) (readings (is_blank b) zero bs)

-- ---- what counts

abbrev pub same_name : AttrName → AttrName → Bool
same_name m n = sameb the_type m n

-- the first value of a name
abbrev pub value_of : AttrName → List Named → Option (List ℕ)
value_of name [] = None
value_of name ((m, value) ∷ rs) = if same_name m name then Some value else value_of name rs

-- the order in which attributes are written
abbrev pub names : List AttrName
names = attr.Class ∷ attr.Colspan ∷ attr.Rowspan ∷ attr.Scope ∷ attr.Lang ∷ attr.Dir ∷ []

abbrev pub named_in : List Named → AttrName → Option Named
named_in rs name = option_map (λ value. (name, value)) (value_of name rs)

-- of each name the first, in the order in which they are written
abbrev pub attributes_in : List Named → List Named
attributes_in rs = filter_map (named_in rs) names

-- the attributes that items give
unfoldable pub attributes : List Item → List Named
attributes xs = attributes_in (readings true 0 (text_of xs))
