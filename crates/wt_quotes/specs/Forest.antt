-- The styles of a context as a forest, and the line that it shows from left to right.
use Rattle.std.specs.Prelude.{◌≡◌, ℕ, ◌+◌, ◌-◌, ◌<◌, ◌≤◌, ◌&&◌, Bool, true, false, List, [], ◌∷◌, ◌++◌, if◌then◌else◌, nat_le, All}
use Rattle.wt_quotes.specs.declared.chunk.Chunk.{Chunk}
use Rattle.wt_quotes.specs.declared.style.Style.{Style}
use Rattle.wt_quotes.specs.Runs.{bytes_of}
use Rattle.wt_quotes.specs.Styles.{style_tree_of}
use Rattle.wt_quotes.specs.StyleLaws.{is_switch}

-- no style, or a style with what is inside it and what follows it
pub data Forest : Type 0 where
  bare : Forest
  grown : Style → Forest → Forest → Forest

-- its styles in preorder
abbrev pub preorder : Forest → List Style
preorder bare = []
preorder (grown s inside after) = s ∷ (preorder inside ++ preorder after)

-- a style lies between the delimiters of another one
abbrev pub lies_in : Style → Style → Bool
lies_in u s = nat_le (s.from + s.open_w) u.from && nat_le (u.to + s.close_w) s.to

-- the first trees of a forest that lie in a style
abbrev pub inside_of : Style → Forest → Forest
inside_of s bare = bare
inside_of s (grown u f g) = if lies_in u s then grown u f (inside_of s g) else bare

-- the others
abbrev pub past : Style → Forest → Forest
past s bare = bare
past s (grown u f g) = if lies_in u s then past s g else grown u f g

-- the forest of styles in preorder
abbrev pub forest_of : List Style → Forest
forest_of [] = bare
forest_of (s ∷ ss) = grown s (inside_of s (forest_of ss)) (past s (forest_of ss))

-- a piece of a line: text or a delimiter
pub record Piece : Type 0 where
  pub delimiter : Bool
  pub from : ℕ
  pub to : ℕ

abbrev pub text : ℕ → ℕ → Piece
text from to = record { delimiter = false; from = from; to = to }

abbrev pub mark : ℕ → ℕ → Piece
mark from to = record { delimiter = true; from = from; to = to }

-- what a forest shows between two places
abbrev pub pieces : ℕ → ℕ → Forest → List Piece
pieces low high bare = text low high ∷ []
pieces low high (grown s inside after) =
    text low s.from ∷ mark s.from (s.from + s.open_w)
    ∷ (pieces (s.from + s.open_w) (s.to - s.close_w) inside ++ (mark (s.to - s.close_w) s.to ∷ pieces s.to high after))

-- pieces follow one another from one place to another
abbrev pub AreJoined : ℕ → ℕ → List Piece → Type 0
AreJoined at end [] = at ≡ end
AreJoined at end (q ∷ qs) = (q.from ≡ at) × (q.from ≤ q.to) × AreJoined q.to end qs

-- a piece has no apostrophe that switches, if it is text, and such apostrophes alone, if it is a delimiter
abbrev pub IsAllSwitch : List Chunk → Piece → Type 0
IsAllSwitch chunks q = (p : ℕ) → q.from ≤ p → p < q.to → is_switch chunks p ≡ q.delimiter

-- what the styles of a context show
abbrev pub line_of : List Chunk → List Piece
line_of chunks = pieces 0 (bytes_of chunks) (forest_of (style_tree_of chunks))

-- the styles are a forest in preorder; flattened with its delimiters it is the line, and its delimiters are the
-- apostrophes that switch
abbrev pub FlattenedIsTheLine : List Chunk → Type 0
FlattenedIsTheLine chunks =
    (preorder (forest_of (style_tree_of chunks)) ≡ style_tree_of chunks)
    × AreJoined 0 (bytes_of chunks) (line_of chunks)
    × All (IsAllSwitch chunks) (line_of chunks)
