-- What a text shows whose lexemes are characters, `=`, character references and empty nowikis alone.
use Rattle.std.specs.Prelude.{ℕ, Bool, false, ◌||◌, Option, Some, None, List, [], ◌∷◌, ◌++◌, take, drop, if◌then◌else◌, encode_utf8}
use Rattle.std.specs.Option.{option_map}
use Rattle.std.specs.Str.{bytes_eq}
use Rattle.wt_span.specs.declared.form.Mode.{Mode}
use Rattle.wt_span.specs.declared.form.LexKind.{LexKind}
use Rattle.wt_span.specs.declared.form.LexKind.TheVariants.{Chars, CommentLine, Comment, Raw, Include, Hidden, Entity, Opens, Closes, LinkOpen, LinkClose, Pipe, Equals}
use Rattle.wt_span.specs.Bytes.{begins}
use Rattle.wt_span.specs.Lexemes.{Word, words}
use Rattle.wt_guards.specs.Guards.{nowiki}

-- what a lexeme shows: itself, the character that it names, or nothing where it is `<nowiki/>`; None where it is another one
abbrev pub shown_by : LexKind → List ℕ → Option (List ℕ)
shown_by Chars bs = Some bs
shown_by CommentLine bs = None
shown_by Comment bs = None
shown_by Raw bs = if bytes_eq bs nowiki then Some [] else None
shown_by Include bs = None
shown_by Hidden bs = None
shown_by (Entity c) bs = Some (encode_utf8 c)
shown_by Opens bs = None
shown_by Closes bs = None
shown_by LinkOpen bs = None
shown_by LinkClose bs = None
shown_by Pipe bs = None
shown_by Equals bs = Some bs

-- one before others, where each shows something
abbrev pub joined : Option (List ℕ) → Option (List ℕ) → Option (List ℕ)
joined None rest = None
joined (Some bs) rest = option_map (λ cs. bs ++ cs) rest

abbrev pub shown_words : List ℕ → List Word → Option (List ℕ)
shown_words bs [] = Some []
shown_words bs ((kind, n) ∷ ws) = joined (shown_by kind (take n bs)) (shown_words (drop n bs) ws)

-- what a text shows; None where another lexeme is in it
unfoldable pub read_text : Mode → List ℕ → Option (List ℕ)
read_text mode bs = shown_words bs (words mode bs)

-- a sign is somewhere in a text
abbrev pub stands : List ℕ → List ℕ → Bool
stands sign [] = false
stands sign (b ∷ bs) = begins sign (b ∷ bs) || stands sign bs
