-- Worked cases of the machine, each by computing: what is read, and what is refused where and why.
use Rattle.std.proofs.Common.{◌≡◌, ℕ, Ok, List, [], ◌∷◌, ◌++◌, refl, codes}
use Rattle.wt_html_grammar.specs.declared.why.HtmlWhy.{HtmlWhy}
use Rattle.wt_html_grammar.specs.declared.why.HtmlWhy.TheVariants as why
use Rattle.wt_html_grammar.specs.Machine.{start, inside, run}
use Rattle.wt_html_grammar.specs.Places.{taken, why_of_refusal}

abbrev refused_at : List ℕ → ℕ × HtmlWhy
refused_at bytes = (taken start bytes, why_of_refusal bytes)

-- a doctype in any case, and white space at every place where it may stand
whole_head : run start (codes "\r\n\t <!DocType HTML>\n <html\t>\n</html \n>\n ") ≡ Ok (inside [])
whole_head = refl

no_head : run start (codes "<html><head></head><body>a &gt; > b</body></html>") ≡ Ok (inside [])
no_head = refl

-- attributes in either quote, round = white space, and names with digits, - and :
attributes : run start (codes "<p id = \"a'<>\" x:y-1\n=\n'b\"'></p>") ≡ Ok (inside [])
attributes = refl

-- void elements, with and without /, also as the root
voids : run start (codes "<p><br><hr/><meta a='' /><link\n><base></p>") ≡ Ok (inside [])
voids = refl

void_root : run start (codes "<br/>") ≡ Ok (inside [])
void_root = refl

-- escapes: by name, by digits, by hexadecimal digits in both cases; a surrogate's digits may go on
escapes : run start (codes "<p>&amp;&lt;&gt;&quot;&apos;&nbsp;&#0;&#0000038;&#x1F600;&#xaBc;&#552960;</p>") ≡ Ok (inside [])
escapes = refl

-- characters of two, three and four bytes
wide_characters : run start (codes "<p>" ++ (195 ∷ 169 ∷ 226 ∷ 130 ∷ 172 ∷ 240 ∷ 159 ∷ 152 ∷ 128 ∷ codes "</p>")) ≡ Ok (inside [])
wide_characters = refl

-- the end of the input
cut : refused_at (codes "<html><body><p id=\"mw") ≡ (21, why.End)
cut = refl

nothing : refused_at [] ≡ (0, why.End)
nothing = refl

-- end tags: the name of another element, no name, a name that goes on, and a fault behind the name
crossing : refused_at (codes "<html><body><p><b><i></b></i></p></body></html>") ≡ (23, why.EndTag)
crossing = refl

longer : refused_at (codes "<html><body><i></ix") ≡ (18, why.EndTag)
longer = refl

no_name : refused_at (codes "<html><body><i></>") ≡ (17, why.EndTag)
no_name = refl

behind_name : refused_at (codes "<html><body><i></i x") ≡ (19, why.Syntax)
behind_name = refl

-- attributes: no white space between two, one twice, no value
no_space : refused_at (codes "<p id=\"a\"class=\"b\">") ≡ (9, why.Syntax)
no_space = refl

twice : refused_at (codes "<p id=\"a\" id=\"b\">") ≡ (12, why.Repeated)
twice = refl

longer_name : run start (codes "<p id=\"a\" idx=\"b\"></p>") ≡ Ok (inside [])
longer_name = refl

no_value : refused_at (codes "<p id>") ≡ (5, why.Syntax)
no_value = refl

-- escapes: a bare &, no such name, too large, a surrogate, too many digits
bare_ampersand : refused_at (codes "<p>a & b</p>") ≡ (6, why.Escape)
bare_ampersand = refl

no_such : refused_at (codes "<p>&copy;</p>") ≡ (4, why.Escape)
no_such = refl

too_large : refused_at (codes "<p>&#1114112;</p>") ≡ (11, why.Escape)
too_large = refl

surrogate : refused_at (codes "<p>&#55296;</p>") ≡ (10, why.Escape)
surrogate = refl

last_digit : refused_at (codes "<p>&#0055296;</p>") ≡ (11, why.Escape)
last_digit = refl

capital_sign : refused_at (codes "<p>&#X41;</p>") ≡ (5, why.Escape)
capital_sign = refl

-- a byte that continues no UTF-8, in a text, in a character and in a tag; a character in a tag is
-- another fault
not_utf8 : refused_at (codes "<p>" ++ (255 ∷ [])) ≡ (3, why.NotUtf8)
not_utf8 = refl

not_continued : refused_at (codes "<p>" ++ (195 ∷ 97 ∷ [])) ≡ (4, why.NotUtf8)
not_continued = refl

in_a_tag : refused_at (codes "<p " ++ (255 ∷ [])) ≡ (3, why.NotUtf8)
in_a_tag = refl

letter_in_a_tag : refused_at (codes "<p " ++ (195 ∷ 169 ∷ codes ">")) ≡ (3, why.Syntax)
letter_in_a_tag = refl

-- what may not stand there: a second root, text beside it, capital letters, < in a text, / at an
-- element that isn't void
two_roots : refused_at (codes "<p></p><p></p>") ≡ (7, why.Syntax)
two_roots = refl

capital : refused_at (codes "<P></P>") ≡ (1, why.Syntax)
capital = refl

less_in_text : refused_at (codes "<p>a < b</p>") ≡ (6, why.Syntax)
less_in_text = refl

not_void : refused_at (codes "<p/>") ≡ (2, why.Syntax)
not_void = refl

void_end_tag : refused_at (codes "<p><br></br></p>") ≡ (9, why.EndTag)
void_end_tag = refl
