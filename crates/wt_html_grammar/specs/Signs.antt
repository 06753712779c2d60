-- The signs of which the HTML is made: classes of bytes, names, white space, escapes and characters
-- of several bytes.
use Rattle.std.specs.Prelude.{◌≡◌, ℕ, zero, suc, ◌+◌, ◌-◌, ◌*◌, ◌==◌, ◌&&◌, ◌||◌, Bool, true, false, not, nat_le, nat_lt, Option, Some, None, List, [], ◌∷◌, codes, if◌then◌else◌}
use Rattle.std.specs.List.{AllByRecursion}
use Rattle.std.specs.Str.{bytes_eq}
use Rattle.wt_span.specs.Characters as byte
use Rattle.wt_html_grammar.specs.declared.names.EscapeName.{EscapeName}
use Rattle.wt_html_grammar.specs.declared.names.EscapeName.TheVariants.{Amp, Lt, Gt, Quot, Apos, Nbsp}
use Rattle.wt_html_grammar.specs.declared.names.Radix.{Radix}
use Rattle.wt_html_grammar.specs.declared.names.Radix.TheVariants.{Decimal, Hexadecimal}

abbrev pub between : ℕ → ℕ → ℕ → Bool
between low high b = nat_le low b && nat_le b high

abbrev pub is_lower : ℕ → Bool
is_lower b = between 97 122 b

abbrev pub is_digit : ℕ → Bool
is_digit b = between 48 57 b

-- space, tab, line break, carriage return
abbrev pub is_space : ℕ → Bool
is_space b = b == byte.space || b == byte.tab || b == byte.line_break || b == byte.carriage_return

-- the name of an element goes on with lower-case letters and digits
abbrev pub is_name_byte : ℕ → Bool
is_name_byte b = is_lower b || is_digit b

-- the name of an attribute has `-` and `:` too
abbrev pub is_attribute_byte : ℕ → Bool
is_attribute_byte b = is_lower b || is_digit b || b == byte.hyphen || b == byte.colon

abbrev pub is_quote : ℕ → Bool
is_quote b = b == byte.quotation_mark || b == byte.apostrophe

-- a character that stands for itself: in a text, and in a value that is in this quote
abbrev pub in_text : ℕ → Bool
in_text c = not (c == byte.less_than) && not (c == byte.ampersand)

abbrev pub in_value : ℕ → ℕ → Bool
in_value quote c = not (c == quote) && not (c == byte.ampersand)

abbrev pub Each : (ℕ → Bool) → List ℕ → Type 0
Each p bs = AllByRecursion (λ b. p b ≡ true) bs

-- the name of an element: a lower-case letter, then lower-case letters and digits
abbrev pub IsName : List ℕ → Type 0
IsName [] = ⊥
IsName (c ∷ cs) = (is_lower c ≡ true) × Each is_name_byte cs

abbrev pub IsAttributeName : List ℕ → Type 0
IsAttributeName [] = ⊥
IsAttributeName (c ∷ cs) = (is_attribute_byte c ≡ true) × Each is_attribute_byte cs

-- white space, and some of it
abbrev pub IsGap : List ℕ → Type 0
IsGap bs = Each is_space bs

abbrev pub IsWideGap : List ℕ → Type 0
IsWideGap [] = ⊥
IsWideGap (c ∷ cs) = (is_space c ≡ true) × IsGap cs

abbrev pub is_among : List ℕ → List (List ℕ) → Bool
is_among name [] = false
is_among name (n ∷ ns) = bytes_eq name n || is_among name ns

-- the elements that have no end tag
abbrev pub void_names : List (List ℕ)
void_names = codes "br" ∷ codes "hr" ∷ codes "meta" ∷ codes "link" ∷ codes "base" ∷ []

abbrev pub is_void : List ℕ → Bool
is_void n = is_among n void_names

-- the letters between `&` and `;`, and the character that they stand for
abbrev pub letters_of : EscapeName → List ℕ
letters_of Amp = codes "amp"
letters_of Lt = codes "lt"
letters_of Gt = codes "gt"
letters_of Quot = codes "quot"
letters_of Apos = codes "apos"
letters_of Nbsp = codes "nbsp"

abbrev pub character_of : EscapeName → ℕ
character_of Amp = 38
character_of Lt = 60
character_of Gt = 62
character_of Quot = 34
character_of Apos = 39
character_of Nbsp = 160

-- numbers of escapes: the sign before the digits, the base, and how many digits there may be
abbrev pub sign_of : Radix → List ℕ
sign_of Decimal = []
sign_of Hexadecimal = codes "x"

abbrev pub base_of : Radix → ℕ
base_of Decimal = 10
base_of Hexadecimal = 16

abbrev pub most_digits : Radix → ℕ
most_digits Decimal = 7
most_digits Hexadecimal = 6

abbrev pub is_digit_of : Radix → ℕ → Bool
is_digit_of Decimal b = is_digit b
is_digit_of Hexadecimal b = is_digit b || between 97 102 b || between 65 70 b

abbrev pub digit_value : ℕ → ℕ
digit_value b = if nat_le b 57 then b - 48 else if nat_le b 70 then b - 55 else b - 87

-- the number that digits stand for, after those that stand for n
abbrev pub number_from : Radix → ℕ → List ℕ → ℕ
number_from r n [] = n
number_from r n (d ∷ ds) = number_from r (n * base_of r + digit_value d) ds

-- What follows the first byte of a character of several bytes in UTF-8: the bounds of the next byte,
-- and how many more there are. Surrogates and numbers past U+10FFFF are left out.
pub record Follow : Type 0 where
  pub low : ℕ
  pub high : ℕ
  pub more : ℕ

abbrev pub follow : ℕ → Option Follow
follow b =
    if between 194 223 b then Some (record { low = 128; high = 191; more = 0 })
    else if b == 224 then Some (record { low = 160; high = 191; more = 1 })
    else if b == 237 then Some (record { low = 128; high = 159; more = 1 })
    else if between 225 239 b then Some (record { low = 128; high = 191; more = 1 })
    else if b == 240 then Some (record { low = 144; high = 191; more = 2 })
    else if between 241 243 b then Some (record { low = 128; high = 191; more = 2 })
    else if b == 244 then Some (record { low = 128; high = 143; more = 2 })
    else None

-- the bytes after the first
abbrev pub IsFollow : ℕ → ℕ → ℕ → List ℕ → Type 0
IsFollow low high n [] = ⊥
IsFollow low high zero (b ∷ bs) = (between low high b ≡ true) × (bs ≡ [])
IsFollow low high (suc n) (b ∷ bs) = (between low high b ≡ true) × IsFollow 128 191 n bs

abbrev pub Follows : Option Follow → List ℕ → Type 0
Follows None bs = ⊥
Follows (Some f) bs = IsFollow f.low f.high f.more bs

-- a byte that begins a character
abbrev pub is_there : Option Follow → Bool
is_there None = false
is_there (Some f) = true

abbrev pub begins_character : ℕ → Bool
begins_character b = nat_lt b 128 || is_there (follow b)
