-- What each byte of a text belongs to: the n-th byte of a lexeme, or a run of braces.
use Rattle.std.specs.Prelude.{ℕ, zero, suc, List, [], ◌∷◌, ◌++◌, replicate}
use Rattle.wt_span.specs.declared.form.LexKind.{LexKind}
use Rattle.wt_span.specs.declared.form.LexKind.TheVariants as lex
use Rattle.wt_span.specs.Lexemes.{Word}
use Rattle.wt_span.specs.Braces.{Member, Members, lexeme, call, none, more}

-- a brace of an opening or a closing run; or of a lexeme with so many bytes the one after so many
pub data Mark : Type 0 where
  opens : Mark
  closes : Mark
  of : LexKind → ℕ → ℕ → Mark

-- the bytes of a lexeme from one on
abbrev pub marks_from : LexKind → ℕ → ℕ → ℕ → List Mark
marks_from kind n j zero = []
marks_from kind n j (suc k) = of kind n j ∷ marks_from kind n (suc j) k

abbrev pub word_marks : LexKind → ℕ → List Mark
word_marks lex.Chars n = marks_from lex.Chars n 0 n
word_marks lex.CommentLine n = marks_from lex.CommentLine n 0 n
word_marks lex.Comment n = marks_from lex.Comment n 0 n
word_marks lex.Raw n = marks_from lex.Raw n 0 n
word_marks lex.Include n = marks_from lex.Include n 0 n
word_marks lex.Hidden n = marks_from lex.Hidden n 0 n
word_marks (lex.Entity c) n = marks_from (lex.Entity c) n 0 n
word_marks lex.Opens n = replicate n opens
word_marks lex.Closes n = replicate n closes
word_marks lex.LinkOpen n = marks_from lex.LinkOpen n 0 n
word_marks lex.LinkClose n = marks_from lex.LinkClose n 0 n
word_marks lex.Pipe n = marks_from lex.Pipe n 0 n
word_marks lex.Equals n = marks_from lex.Equals n 0 n

-- of lexemes that follow one another
abbrev pub words_marks : List Word → List Mark
words_marks [] = []
words_marks ((kind, n) ∷ ws) = word_marks kind n ++ words_marks ws

-- of members: the braces of a call are those of its two runs
abbrev mutual
  pub member_marks : Member → List Mark
  member_marks (lexeme (kind, n)) = word_marks kind n
  member_marks (call k ms) = replicate k opens ++ (marks_of_all ms ++ replicate k closes)

  pub marks_of_all : Members → List Mark
  marks_of_all none = []
  marks_of_all (more m ms) = member_marks m ++ marks_of_all ms
