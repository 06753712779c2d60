-- Worked cases of the definitions.
use Rattle.std.proofs.Common.{◌≡◌, ℕ, Bool, true, false, Some, None, List, [], ◌∷◌, refl}
use Rattle.wt_quotes.specs.declared.chunk.Chunk.{Chunk}
use Rattle.wt_quotes.specs.declared.chunk.Chunk.TheVariants.{Text, Run, Tile}
use Rattle.wt_quotes.specs.declared.toggle.Toggle.{Toggle}
use Rattle.wt_quotes.specs.declared.toggle.Preceding.TheVariants.{OneLetter, Middle, Space}
use Rattle.wt_quotes.specs.declared.style.Style.{Style}
use Rattle.wt_quotes.specs.Runs.{place_of}
use Rattle.wt_quotes.specs.Toggles.{class_by, class_at, toggle_at, toggles_of}
use Rattle.wt_quotes.specs.Turns.{since, next, bold_ends_later, effect_on, is_bold_outside_at, turn_at}
use Rattle.wt_quotes.specs.Styles.{style_tree_of}

toggle : ℕ → ℕ → Bool → Bool → Toggle
toggle chunk plain italic bold = record { chunk = chunk; plain = plain; italic = italic; bold = bold }

style : Bool → ℕ → ℕ → ℕ → ℕ → Style
style bold from open_w to close_w = record { bold = bold; from = from; open_w = open_w; to = to; close_w = close_w }

-- l'''amour'' x: one italic text
amour : List Chunk
amour = Text 1 (Some 108) None ∷ Run 3 ∷ Text 5 (Some 114) (Some 117) ∷ Run 2 ∷ Text 2 (Some 120) (Some 32) ∷ []

amour_toggles : toggles_of amour ≡ toggle 1 1 true false ∷ toggle 3 0 true false ∷ []
unfolding amour toggle toggles_of toggle_at
amour_toggles = refl

amour_styles : style_tree_of amour ≡ style false 2 2 11 2 ∷ []
unfolding amour style toggles_of toggle_at place_of since next bold_ends_later effect_on is_bold_outside_at turn_at style_tree_of
amour_styles = refl

-- ''a'''b''c''': bold begins inside italic, and goes on after it
crossing : style_tree_of (Run 2 ∷ Text 1 (Some 97) None ∷ Run 3 ∷ Text 1 (Some 98) None ∷ Run 2 ∷ Text 1 (Some 99) None ∷ Run 3 ∷ [])
    ≡ style false 0 2 9 2 ∷ style true 3 3 7 0 ∷ style true 9 0 13 3 ∷ []
unfolding style toggles_of toggle_at place_of since next bold_ends_later effect_on is_bold_outside_at turn_at style_tree_of
crossing = refl

-- '''''a''b''': italic ends first
italic_inside : style_tree_of (Run 5 ∷ Text 1 (Some 97) None ∷ Run 2 ∷ Text 1 (Some 98) None ∷ Run 3 ∷ []) ≡ style true 0 3 12 3 ∷ style false 3 2 8 2 ∷ []
unfolding style toggles_of toggle_at place_of since next bold_ends_later effect_on is_bold_outside_at turn_at style_tree_of
italic_inside = refl

-- '''''a''''': one run ends both
both_end : style_tree_of (Run 5 ∷ Text 1 (Some 97) None ∷ Run 5 ∷ []) ≡ style false 0 2 11 2 ∷ style true 2 3 9 3 ∷ []
unfolding style toggles_of toggle_at place_of since next bold_ends_later effect_on is_bold_outside_at turn_at style_tree_of
both_end = refl

-- '''''a: the end of the context ends both
both_open : style_tree_of (Run 5 ∷ Text 1 (Some 97) None ∷ []) ≡ style true 0 3 6 0 ∷ style false 3 2 6 0 ∷ []
unfolding style toggles_of toggle_at place_of since next bold_ends_later effect_on is_bold_outside_at turn_at style_tree_of
both_open = refl

-- ''a'''b'': bold goes on after italic for no byte
empty_style : style_tree_of (Run 2 ∷ Text 1 (Some 97) None ∷ Run 3 ∷ Tile 4 None None ∷ Run 2 ∷ []) ≡ style false 0 2 12 2
    ∷ style true 3 3 10 0 ∷ style true 12 0 12 0 ∷ []
unfolding style toggles_of toggle_at place_of since next bold_ends_later effect_on is_bold_outside_at turn_at style_tree_of
empty_style = refl

-- runs of four and of more than five have plain apostrophes first
plain_first : toggles_of (Run 4 ∷ Text 1 (Some 97) None ∷ Run 7 ∷ Text 1 (Some 97) None ∷ Run 1 ∷ []) ≡ toggle 0 1 false true ∷ toggle 2 2 true true ∷ []
unfolding toggle toggles_of toggle_at
plain_first = refl

-- the classes: a space; one letter behind a space; anything else, as an entity, which is no character, a letter past
-- ASCII, two letters, or nothing
space : class_by (Some 32) (Some 97) ≡ Space
space = refl

one_letter : class_by (Some 97) (Some 32) ≡ OneLetter
one_letter = refl

tab_behind_space : class_by (Some 9) (Some 32) ≡ OneLetter
tab_behind_space = refl

no_character : class_by None (Some 32) ≡ Middle
no_character = refl

past_ascii : class_by (Some 233) (Some 32) ≡ Middle
past_ascii = refl

two_letters : class_by (Some 97) (Some 98) ≡ Middle
two_letters = refl

first_letter : class_by (Some 97) None ≡ Middle
first_letter = refl

-- a run of four behind a space: its own apostrophe is the one letter
four_behind_space : class_at (Text 1 (Some 32) None ∷ Run 4 ∷ []) 1 ≡ OneLetter
four_behind_space = refl

-- runs of three of the classes Middle, Space and OneLetter: the last one is taken
one_letter_first : toggles_of (Text 1 (Some 97) None ∷ Run 3 ∷ Text 2 (Some 32) (Some 98) ∷ Run 3 ∷ Text 2 (Some 99) (Some 32)
    ∷ Run 3 ∷ Text 1 (Some 100) None ∷ Run 2 ∷ [])
    ≡ toggle 1 0 false true ∷ toggle 3 0 false true ∷ toggle 5 1 true false ∷ toggle 7 0 true false ∷ []
unfolding toggle toggles_of toggle_at
one_letter_first = refl

-- of two of one class the first is taken, and the middle class before that of a space
first_of_middle : toggles_of (Text 2 (Some 32) (Some 97) ∷ Run 3 ∷ Text 2 (Some 98) (Some 97) ∷ Run 3 ∷ Text 2 (Some 98) (Some 97)
    ∷ Run 3 ∷ Text 1 (Some 100) None ∷ Run 2 ∷ [])
    ≡ toggle 1 0 false true ∷ toggle 3 1 true false ∷ toggle 5 0 false true ∷ toggle 7 0 true false ∷ []
unfolding toggle toggles_of toggle_at
first_of_middle = refl
