-- The lexemes of a text: forms, each taken where it begins, and runs of characters between them.
use Rattle.std.specs.Prelude.{ℕ, zero, suc, ◌-◌, ◌==◌, Bool, false, Option, Some, None, List, [], ◌∷◌, nat_lt, codes, if◌then◌else◌}
use Rattle.std.specs.Option.{option_map, option_or}
use Rattle.std.specs.List.{prefix_len}
use Rattle.wt_span.specs.declared.form.Mode.{Mode}
use Rattle.wt_span.specs.declared.form.LexKind.{LexKind}
use Rattle.wt_span.specs.declared.form.LexKind.TheVariants.{Chars, CommentLine, Comment, Raw, Entity, Opens, Closes, LinkOpen, LinkClose, Pipe, Equals}
use Rattle.wt_span.specs.Bytes.{is_break, begins}
use Rattle.wt_span.specs.Comments.{comment_len, comment_line_len}
use Rattle.wt_span.specs.Tags.{raw_len, include_at}
use Rattle.wt_span.specs.Entities.{entity_at}

-- a lexeme without its place: what it is, and how many bytes it takes
abbrev pub Word : Type 0
Word = LexKind × ℕ

abbrev pub as_word : LexKind → Option ℕ → Option Word
as_word kind o = option_map (λ n. (kind, n)) o

-- ---- signs

-- a run of two or more of a byte
abbrev pub run_at : LexKind → ℕ → List ℕ → Option Word
run_at kind byte bs = let n = prefix_len (λ b. b == byte) bs in if nat_lt 1 n then Some (kind, n) else None

abbrev pub sign_at : LexKind → List ℕ → ℕ → List ℕ → Option Word
sign_at kind sign n bs = if begins sign bs then Some (kind, n) else None

-- runs of braces, `[[`, `]]`, `|`, `=`
unfoldable pub sign_word : List ℕ → Option Word
sign_word bs =
    option_or (run_at Opens 123 bs) (option_or (run_at Closes 125 bs) (option_or (sign_at LinkOpen (codes "[[") 2 bs)
    (option_or (sign_at LinkClose (codes "]]") 2 bs) (option_or (sign_at Pipe (codes "|") 1 bs) (sign_at Equals (codes "=") 1 bs)))))

-- ---- forms

abbrev pub entity_word : Option (ℕ × ℕ) → Option Word
entity_word o = option_map (λ e. (Entity e.0, e.1)) o

-- a comment line begins only after a line break
abbrev pub comment_line_word : Bool → List ℕ → Option Word
comment_line_word after_break bs = if after_break then as_word CommentLine (comment_line_len bs) else None

-- the form that begins a text, and how many bytes it takes: of several the first. The byte before is a line break or not.
unfoldable pub form_at : Mode → Bool → List ℕ → Option Word
form_at mode after_break bs =
    option_or (comment_line_word after_break bs) (option_or (as_word Comment (comment_len bs)) (option_or (as_word Raw (raw_len bs))
    (option_or (include_at mode bs) (option_or (entity_word (entity_at bs)) (sign_word bs)))))

-- ---- lexemes

-- a run of characters, which may be empty, before words that begin with a form
abbrev pub Cut : Type 0
Cut = ℕ × List Word

-- the words, without an empty run
unfoldable pub closed : ℕ → List Word → List Word
closed n ws = if n == 0 then ws else (Chars, n) ∷ ws

-- one more character in the run, or a form before what follows it
abbrev pub cut_with : Option Word → (ℕ → Cut) → Cut
cut_with None rest = (suc (rest 0).0, (rest 0).1)
cut_with (Some w) rest = (0, w ∷ closed (rest (w.1 - 1)).0 (rest (w.1 - 1)).1)

-- a text of which the first n bytes lie in a form
abbrev pub cuts : Mode → Bool → ℕ → List ℕ → Cut
cuts mode after_break n [] = (0, [])
cuts mode after_break (suc n) (b ∷ bs) = cuts mode (is_break b) n bs
cuts mode after_break zero (b ∷ bs) = cut_with (form_at mode after_break (b ∷ bs)) (λ n. cuts mode (is_break b) n bs)

-- the lexemes of a text
unfoldable pub words : Mode → List ℕ → List Word
words mode bs = closed (cuts mode false 0 bs).0 (cuts mode false 0 bs).1
