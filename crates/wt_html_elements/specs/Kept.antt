-- How much of an input is held undecoded: what came of a tag, a doctype, an escape or a character that
-- isn't whole yet.
use Rattle.std.specs.Prelude.{◌≡◌, ℕ, ◌<◌, Bool, true, false, List, [], ◌∷◌, ◌++◌, length, map}
use Rattle.std.specs.Char.{to_ascii_lowercase}
use Rattle.wt_span.specs.Characters as byte
use Rattle.wt_html_grammar.specs.Signs.{in_text, is_void, IsName, IsGap}
use Rattle.wt_html_grammar.specs.Grammar.{Piece, spell_piece, IsPiece, Attribute, spell_attributes, AreAttributes, Slash, bare, slash, spell_slash, doctype as doctype_word}
use Rattle.wt_html_grammar.specs.Machine.{State, start, doctype, inside}

-- what an input is made of: start tags, end tags, doctypes, and the characters and escapes between them
pub data Token : Type 0 where
  start_tag : List ℕ → List Attribute → List ℕ → Slash → Token  -- name, attributes, white space, how it ends
  end_tag : List ℕ → List ℕ → Token  -- name, white space
  declaration : List ℕ → Token
  sign : Piece → Token

abbrev pub spell_token : Token → List ℕ
spell_token (start_tag name attributes gap end) = byte.less_than ∷ (name ++ (spell_attributes attributes ++ (gap ++ spell_slash end)))
spell_token (end_tag name gap) = byte.less_than ∷ byte.slash ∷ (name ++ (gap ++ byte.greater_than ∷ []))
spell_token (declaration word) = word
spell_token (sign p) = spell_piece p

-- only a void element's tag ends with a slash
abbrev pub MayEnd : List ℕ → Slash → Type 0
MayEnd name bare = Unit {0}
MayEnd name slash = is_void name ≡ true

abbrev pub IsToken : Token → Type 0
IsToken (start_tag name attributes gap end) = IsName name × AreAttributes [] attributes × IsGap gap × MayEnd name end
IsToken (end_tag name gap) = IsName name × IsGap gap
IsToken (declaration word) = map to_ascii_lowercase word ≡ doctype_word
IsToken (sign p) = IsPiece in_text p

abbrev pub spell_tokens : List Token → List ℕ
spell_tokens [] = []
spell_tokens (t ∷ ts) = spell_token t ++ spell_tokens ts

abbrev pub AreTokens : List Token → Type 0
AreTokens [] = Unit {0}
AreTokens (t ∷ ts) = IsToken t × AreTokens ts

-- bytes with which one token begins, and which aren't all of it
pub record IsBegun (bytes : List ℕ) : Type 0 where
  pub token : Token
  pub is_token : IsToken token
  pub more : List ℕ
  pub some : 0 < length more
  pub spelled : bytes ++ more ≡ spell_token token

-- Of these bytes so many are held: whole tokens come before them, and they begin one more.
pub record IsKept (bytes : List ℕ) (count : ℕ) : Type 0 where
  pub tokens : List Token
  pub are_tokens : AreTokens tokens
  pub held : List ℕ
  pub is_begun : IsBegun held
  pub split : bytes ≡ spell_tokens tokens ++ held
  pub long : length held ≡ count

-- the machine is between two tokens
abbrev pub is_between : State → Bool
is_between start = true
is_between (doctype []) = true
is_between (inside ns) = true
is_between s = false
