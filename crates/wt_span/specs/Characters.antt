-- The bytes that have a meaning in wikitext or HTML, by name: definitions and clauses compare with `byte.line_break`, not with 10.
use Rattle.std.specs.Prelude.{ℕ}

abbrev pub tab : ℕ
tab = 9

abbrev pub line_break : ℕ
line_break = 10

abbrev pub carriage_return : ℕ
carriage_return = 13

abbrev pub space : ℕ
space = 32

abbrev pub exclamation_mark : ℕ
exclamation_mark = 33

abbrev pub quotation_mark : ℕ
quotation_mark = 34

abbrev pub hash : ℕ
hash = 35

abbrev pub percent : ℕ
percent = 37

abbrev pub ampersand : ℕ
ampersand = 38

abbrev pub apostrophe : ℕ
apostrophe = 39

abbrev pub opening_parenthesis : ℕ
opening_parenthesis = 40

abbrev pub closing_parenthesis : ℕ
closing_parenthesis = 41

abbrev pub asterisk : ℕ
asterisk = 42

abbrev pub comma : ℕ
comma = 44

abbrev pub hyphen : ℕ
hyphen = 45

abbrev pub full_stop : ℕ
full_stop = 46

abbrev pub slash : ℕ
slash = 47

abbrev pub colon : ℕ
colon = 58

abbrev pub semicolon : ℕ
semicolon = 59

abbrev pub less_than : ℕ
less_than = 60

abbrev pub equals_sign : ℕ
equals_sign = 61

abbrev pub greater_than : ℕ
greater_than = 62

abbrev pub question_mark : ℕ
question_mark = 63

abbrev pub opening_bracket : ℕ
opening_bracket = 91

abbrev pub backslash : ℕ
backslash = 92

abbrev pub closing_bracket : ℕ
closing_bracket = 93

abbrev pub underscore : ℕ
underscore = 95

abbrev pub opening_brace : ℕ
opening_brace = 123

abbrev pub vertical_bar : ℕ
vertical_bar = 124

abbrev pub closing_brace : ℕ
closing_brace = 125
