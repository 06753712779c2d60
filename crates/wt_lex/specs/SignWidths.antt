-- How wide signs are.
use Rattle.std.specs.Prelude.{◌≡◌, ◌≤◌}
use Rattle.wt_span.specs.declared.form.LexKind.TheVariants.{Chars, CommentLine, Comment, Raw, Include, Hidden, Entity, Opens, Closes, LinkOpen, LinkClose, Pipe, Equals}
use Rattle.wt_span.specs.Lexemes.{Word}

-- A run of braces has two bytes or more, `[[` and `]]` have two, `|` and `=` one. Of any other lexeme nothing is said.
abbrev pub HasSignWidth : Word → Type 0
HasSignWidth (Chars, n) = Unit {0}
HasSignWidth (CommentLine, n) = Unit {0}
HasSignWidth (Comment, n) = Unit {0}
HasSignWidth (Raw, n) = Unit {0}
HasSignWidth (Include, n) = Unit {0}
HasSignWidth (Hidden, n) = Unit {0}
HasSignWidth (Entity c, n) = Unit {0}
HasSignWidth (Opens, n) = 2 ≤ n
HasSignWidth (Closes, n) = 2 ≤ n
HasSignWidth (LinkOpen, n) = n ≡ 2
HasSignWidth (LinkClose, n) = n ≡ 2
HasSignWidth (Pipe, n) = n ≡ 1
HasSignWidth (Equals, n) = n ≡ 1
