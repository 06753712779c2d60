-- The machine that reads byte by byte: where it is, and what a byte does there.
use Rattle.std.specs.Prelude.{ℕ, zero, suc, ◌+◌, ◌*◌, ◌==◌, ◌&&◌, ◌||◌, nat_lt, nat_le, Bool, Option, Some, None, Result, Ok, Err, List, [], ◌∷◌, ◌++◌, length, codes, if◌then◌else◌}
use Rattle.std.specs.Char.{to_ascii_lowercase}
use Rattle.wt_span.specs.Characters as byte
use lib.Utf8.{scalar}
use Rattle.wt_html_grammar.specs.declared.why.HtmlWhy.{HtmlWhy}
use Rattle.wt_html_grammar.specs.declared.why.HtmlWhy.TheVariants as why
use Rattle.wt_html_grammar.specs.declared.names.EscapeName.{EscapeName}
use Rattle.wt_html_grammar.specs.declared.names.EscapeName.TheVariants.{Amp, Lt, Gt, Quot, Apos, Nbsp}
use Rattle.wt_html_grammar.specs.declared.names.Radix.{Radix}
use Rattle.wt_html_grammar.specs.declared.names.Radix.TheVariants.{Decimal, Hexadecimal}
use Rattle.wt_html_grammar.specs.Signs.{is_lower, is_name_byte, is_attribute_byte, is_space, is_quote, in_text, in_value, is_among, is_void, Follow, follow, between, begins_character, base_of, most_digits, is_digit_of, digit_value}
use Rattle.wt_html_grammar.specs.declared.limits.TheConstants.{NESTED_ELEMENTS}

-- Inside a character or an escape: after `&`; after `&a`; in a name, with the letters that are
-- left; after `&#`; in a number, with the digits so far, their count and their number; in a
-- character of several bytes, with the bounds of the next byte and how many more there are.
pub data Escape : Type 0 where
  ampersand : Escape
  apart : Escape
  letters : EscapeName → List ℕ → Escape
  sharp : Escape
  digits : Radix → ℕ → ℕ → Escape
  wide : ℕ → ℕ → ℕ → Escape

-- what a byte does there
pub data EscapeStep : Type 0 where
  stop : EscapeStep
  on : Escape → EscapeStep
  ended : EscapeStep

-- so many digits of this number may be there: they can go on to a scalar value
abbrev pub is_begun : Radix → ℕ → ℕ → Bool
is_begun r k n = nat_le k (most_digits r) && (nat_le n 1114111 && (nat_lt k (most_digits r) || scalar n))

-- a whole number is there
abbrev pub is_whole : ℕ → ℕ → Bool
is_whole k n = nat_lt 0 k && scalar n

abbrev pub in_digits : Radix → ℕ → ℕ → ℕ → EscapeStep
in_digits r k n b =
    if is_digit_of r b then (if is_begun r (k + 1) (n * base_of r + digit_value b) then on (digits r (k + 1) (n * base_of r + digit_value b)) else stop)
    else if b == byte.semicolon then (if is_whole k n then ended else stop) else stop

abbrev pub in_escape : Escape → ℕ → EscapeStep
in_escape ampersand b =
    if b == byte.hash then on sharp
    else if b == 97 then on apart
    else if b == 108 then on (letters Lt (codes "t"))
    else if b == 103 then on (letters Gt (codes "t"))
    else if b == 113 then on (letters Quot (codes "uot"))
    else if b == 110 then on (letters Nbsp (codes "bsp")) else stop
in_escape apart b =
    if b == 109 then on (letters Amp (codes "p")) else if b == 112 then on (letters Apos (codes "os")) else stop
in_escape (letters n (c ∷ cs)) b = if b == c then on (letters n cs) else stop
in_escape (letters n []) b = if b == byte.semicolon then ended else stop
in_escape sharp b = if b == 120 then on (digits Hexadecimal 0 0) else in_digits Decimal 0 0 b
in_escape (digits r k n) b = in_digits r k n b
in_escape (wide low high zero) b = if between low high b then ended else stop
in_escape (wide low high (suc n)) b = if between low high b then on (wide 128 191 n) else stop

-- a start tag after its name: the names round it, its own, and those of its attributes so far
pub record Tag : Type 0 where
  pub outer : List (List ℕ)
  pub name : List ℕ
  pub seen : List (List ℕ)

-- Where the reader is. The names of open elements: the innermost first.
pub data State : Type 0 where
  start : State  -- in the white space before all
  first : State  -- behind the first <
  doctype : List ℕ → State  -- in a doctype, with what is left of it; with nothing in the white space behind it
  inside : List (List ℕ) → State  -- in the contents of the first; with none behind the root
  less : List (List ℕ) → State  -- behind <
  naming : List (List ℕ) → List ℕ → State  -- in the name of a start tag
  gap : Tag → State  -- in white space before an attribute or >
  attribute : Tag → List ℕ → State  -- in the name of an attribute
  named_so : Tag → State  -- in the white space behind the name of an attribute
  equals : Tag → State  -- behind =
  value : Tag → ℕ → State  -- in a value, and its quote
  valued : Tag → State  -- behind a value
  slashed : Tag → State  -- behind the / of a void element
  closing : List ℕ → List (List ℕ) → State  -- in an end tag, with what is left of its name
  closed : List (List ℕ) → State  -- in the white space behind that
  escaping : State → Escape → State  -- inside a character or an escape, and where that stands

abbrev pub end_tag : List (List ℕ) → Result State HtmlWhy
end_tag [] = Err why.Syntax
end_tag (n ∷ ns) = Ok (closing n ns)

-- after the name of an end tag
abbrev pub at_end : List (List ℕ) → ℕ → Result State HtmlWhy
at_end ns b = if is_space b then Ok (closed ns) else if b == byte.greater_than then Ok (inside ns) else Err why.Syntax

-- the names that are open after a start tag
abbrev pub opened : Tag → List (List ℕ)
opened t = if is_void t.name then t.outer else t.name ∷ t.outer

-- where a start tag may end
abbrev pub at_open : Tag → ℕ → Result State HtmlWhy
at_open t b =
    if is_space b then Ok (gap t)
    else if b == byte.greater_than then Ok (inside (opened t))
    else if b == byte.slash then (if is_void t.name then Ok (slashed t) else Err why.Syntax) else Err why.Syntax

-- a byte in a text or in a value that isn't plain: it begins an escape, or a character
abbrev pub begins : State → Option Follow → Result State HtmlWhy
begins s None = Err why.NotUtf8
begins s (Some f) = Ok (escaping s (wide f.low f.high f.more))

abbrev pub special : State → ℕ → Result State HtmlWhy
special s b = if b == byte.ampersand then Ok (escaping s ampersand) else begins s (follow b)

abbrev pub with_seen : Tag → List ℕ → Tag
with_seen t a = record { outer = t.outer; name = t.name; seen = t.seen ++ a ∷ [] }

-- after the name of an attribute
abbrev pub at_name : Tag → ℕ → Result State HtmlWhy
at_name t b = if is_space b then Ok (named_so t) else if b == byte.equals_sign then Ok (equals t) else Err why.Syntax

abbrev pub why_of : Escape → HtmlWhy
why_of (wide low high n) = why.NotUtf8
why_of e = why.Escape

abbrev pub turned : State → Escape → EscapeStep → Result State HtmlWhy
turned s e stop = Err (why_of e)
turned s e (on f) = Ok (escaping s f)
turned s e ended = Ok s

-- a byte that stands for itself
abbrev pub is_plain : (ℕ → Bool) → ℕ → Bool
is_plain p b = nat_lt b 128 && p b

abbrev pub in_contents : List (List ℕ) → ℕ → Result State HtmlWhy
in_contents ns b = if is_plain in_text b then Ok (inside ns) else if b == byte.less_than then Ok (less ns) else special (inside ns) b

-- in a doctype
abbrev pub in_doctype : List ℕ → ℕ → Result State HtmlWhy
in_doctype [] b = if is_space b then Ok (doctype []) else if b == byte.less_than then Ok (less []) else Err why.Syntax
in_doctype (c ∷ cs) b = if to_ascii_lowercase b == c then Ok (doctype cs) else Err why.Syntax

abbrev pub step : State → ℕ → Result State HtmlWhy
step start b = if is_space b then Ok start else if b == byte.less_than then Ok first else Err why.Syntax
step first b = if is_lower b then Ok (naming [] (b ∷ [])) else if b == byte.exclamation_mark then Ok (doctype (codes "doctype html>")) else Err why.Syntax
step (doctype cs) b = in_doctype cs b
step (inside []) b = if is_space b then Ok (inside []) else Err why.Syntax
step (inside (n ∷ ns)) b = in_contents (n ∷ ns) b
step (less ns) b =
    if is_lower b then (if nat_lt (length ns) NESTED_ELEMENTS then Ok (naming ns (b ∷ [])) else Err why.TooDeep)
    else if b == byte.slash then end_tag ns else Err why.Syntax
step (naming ns n) b =
    if is_name_byte b then Ok (naming ns (n ++ b ∷ [])) else at_open (record { outer = ns; name = n; seen = [] }) b
step (gap t) b = if is_attribute_byte b then Ok (attribute t (b ∷ [])) else at_open t b
step (attribute t a) b =
    if is_attribute_byte b then Ok (attribute t (a ++ b ∷ []))
    else if is_among a t.seen then Err why.Repeated
    else at_name (with_seen t a) b
step (named_so t) b = at_name t b
step (equals t) b = if is_quote b then Ok (value t b) else if is_space b then Ok (equals t) else Err why.Syntax
step (value t q) b = if is_plain (in_value q) b then Ok (value t q) else if b == q then Ok (valued t) else special (value t q) b
step (valued t) b = at_open t b
step (slashed t) b = if b == byte.greater_than then Ok (inside t.outer) else Err why.Syntax
step (closing (c ∷ cs) ns) b = if b == c then Ok (closing cs ns) else Err why.EndTag
step (closing [] ns) b = if is_name_byte b then Err why.EndTag else at_end ns b
step (closed ns) b = at_end ns b
step (escaping s e) b = turned s e (in_escape e b)

-- a byte that continues no UTF-8 is refused for that, wherever it is
abbrev pub mended : ℕ → Result State HtmlWhy → Result State HtmlWhy
mended b (Ok s) = Ok s
mended b (Err w) = if begins_character b then Err w else Err why.NotUtf8

abbrev pub onward : (State → Result State HtmlWhy) → Result State HtmlWhy → Result State HtmlWhy
onward f (Ok s) = f s
onward f (Err w) = Err w

abbrev pub run : State → List ℕ → Result State HtmlWhy
run s [] = Ok s
run s (b ∷ bs) = onward (λ t. run t bs) (mended b (step s b))
