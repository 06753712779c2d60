-- The lexemes of a text as a relation: a list of words, each of which is where it should be.
use Rattle.std.specs.Prelude.{◌≡◌, ℕ, zero, suc, ◌-◌, ◌<◌, ◌≤◌, Bool, Some, None, List, [], ◌∷◌, length, drop, slice_index}
use Rattle.wt_span.specs.declared.form.Mode.{Mode}
use Rattle.wt_span.specs.declared.form.LexKind.{LexKind}
use Rattle.wt_span.specs.declared.form.LexKind.TheVariants.{Chars, CommentLine, Comment, Raw, Include, Hidden, Entity, Opens, Closes, LinkOpen, LinkClose, Pipe, Equals}
use Rattle.wt_span.specs.Bytes.{is_break}
use Rattle.wt_span.specs.Lexemes.{Word, form_at}

-- a kind of form, and no run of characters
abbrev pub IsForm : LexKind → Type 0
IsForm Chars = ⊥
IsForm CommentLine = Unit {0}
IsForm Comment = Unit {0}
IsForm Raw = Unit {0}
IsForm Include = Unit {0}
IsForm Hidden = Unit {0}
IsForm (Entity c) = Unit {0}
IsForm Opens = Unit {0}
IsForm Closes = Unit {0}
IsForm LinkOpen = Unit {0}
IsForm LinkClose = Unit {0}
IsForm Pipe = Unit {0}
IsForm Equals = Unit {0}

-- a line break comes before the k-th byte; `after` says it of the first
abbrev pub break_before : Bool → List ℕ → ℕ → Bool
break_before after bs zero = after
break_before after bs (suc k) = is_break (slice_index bs k)

-- What a word says of the text that it begins: it is the form that begins there, the first of several; or it is a run of
-- characters, at none of which a form begins.
abbrev pub Stands : Mode → Bool → LexKind → ℕ → List ℕ → Type 0
Stands mode after Chars n bs = (k : ℕ) → k < n → form_at mode (break_before after bs k) (drop k bs) ≡ None
Stands mode after kind n bs = form_at mode after bs ≡ Some (kind, n)

-- the first of these words is no run of characters
abbrev pub BeginsWithForm : List Word → Type 0
BeginsWithForm [] = Unit {0}
BeginsWithForm ((kind, n) ∷ ws) = IsForm kind

-- no two runs of characters are neighbours
abbrev pub Apart : LexKind → List Word → Type 0
Apart Chars ws = BeginsWithForm ws
Apart kind ws = Unit {0}

-- The words are the lexemes of a text: joined they are the text, each is where it should be, and no two runs are
-- neighbours. `after` says whether the text begins after a line break.
abbrev pub AreLexemes : Mode → Bool → List Word → List ℕ → Type 0
AreLexemes mode after [] bs = bs ≡ []
AreLexemes mode after ((kind, n) ∷ ws) bs = (0 < n) ×
    (n ≤ length bs) × Stands mode after kind n bs × Apart kind ws × AreLexemes mode
    (is_break (slice_index bs (n - 1))) ws (drop n bs)
