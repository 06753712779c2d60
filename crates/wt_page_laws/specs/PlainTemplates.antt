-- Pages that say little when they are called: a line of plain text, and `{{{1}}}`.
use Rattle.std.specs.Prelude.{◌≡◌, ℕ, false, None, List, [], ◌∷◌, codes}
use Rattle.wt_span.specs.Bytes.{is_break}
use Rattle.wt_lex.specs.Words.{is_form_byte}
use Rattle.wt_expand.specs.Expansion.{Output, PartOutput}

-- a text of one line, in which no comment, tag, entity, call or link begins or ends, with no `|` and no `=`
abbrev pub IsPlainLine : List ℕ → Type 0
IsPlainLine [] = Unit {0}
IsPlainLine (b ∷ bs) = (is_form_byte b ≡ false) × (is_break b ≡ false) × IsPlainLine bs

-- the argument of the first value
unfoldable pub first_argument : List ℕ
first_argument = codes "{{{1}}}"

-- a part of a call that has no name: all of it is its value
abbrev pub unnamed : Output → PartOutput
unnamed o = record { name = None; value = o; all = o }
