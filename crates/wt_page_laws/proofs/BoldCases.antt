-- Worked cases: which style is inside, what a run gives its delimiters, and which run is exchanged.
use Rattle.std.proofs.Common.{◌≡◌, ℕ, Bool, true, false, Some, None, [], ◌∷◌, map, refl}
use Rattle.std.specs.Prelude.{count_by}
use Rattle.wt_quotes.specs.declared.chunk.Chunk.{Chunk}
use Rattle.wt_quotes.specs.declared.chunk.Chunk.TheVariants.{Text, Run}
use Rattle.wt_quotes.specs.declared.toggle.Toggle.{Toggle}
use Rattle.wt_quotes.specs.declared.style.Style.{Style}
use Rattle.wt_quotes.specs.Runs.{place_of}
use Rattle.wt_quotes.specs.Toggles.{toggle_at, toggles_of, toggles_by_length, width_of}
use Rattle.wt_quotes.specs.Turns.{since, next, bold_ends_later, effect_on, is_bold_outside_at, turn_at}
use Rattle.wt_quotes.specs.Styles.{style_tree_of}
use Rattle.wt_isolation.specs.Toggles.{switches_bold, switches_italic}
use Rattle.wt_page_laws.specs.InnerStyles.{is_bold_inside}
use Rattle.wt_page_laws.specs.RunCounts.{run_lengths}

-- a letter
letter : Chunk
letter = Text 1 (Some 97) None

bold_style : ℕ → ℕ → ℕ → ℕ → Style
bold_style from open_w to close_w = record { bold = true; from = from; open_w = open_w; to = to; close_w = close_w }

italic_style : ℕ → ℕ → ℕ → ℕ → Style
italic_style from open_w to close_w = record { bold = false; from = from; open_w = open_w; to = to; close_w = close_w }

-- `'''''a''b'''`: the next toggle ends italic, which is inside
italic_ends_first : style_tree_of (Run 5 ∷ letter ∷ Run 2 ∷ letter ∷ Run 3 ∷ []) ≡ bold_style 0 3 12 3 ∷ italic_style 3 2 8 2 ∷ []
unfolding style_tree_of toggles_of toggle_at turn_at since next bold_ends_later effect_on is_bold_outside_at place_of letter bold_style italic_style
italic_ends_first = refl

-- `'''''a'''b''`: the next toggle ends bold, which is inside
bold_ends_first : style_tree_of (Run 5 ∷ letter ∷ Run 3 ∷ letter ∷ Run 2 ∷ []) ≡ italic_style 0 2 12 2 ∷ bold_style 2 3 9 3 ∷ []
unfolding style_tree_of toggles_of toggle_at turn_at since next bold_ends_later effect_on is_bold_outside_at place_of letter bold_style italic_style
bold_ends_first = refl

-- `'''''a'''''`: the next toggle ends both, and bold is inside
both_end : style_tree_of (Run 5 ∷ letter ∷ Run 5 ∷ []) ≡ italic_style 0 2 11 2 ∷ bold_style 2 3 9 3 ∷ []
unfolding style_tree_of toggles_of toggle_at turn_at since next bold_ends_later effect_on is_bold_outside_at place_of letter bold_style italic_style
both_end = refl

-- `'''''a`: none follows, and italic is inside
none_ends : style_tree_of (Run 5 ∷ letter ∷ []) ≡ bold_style 0 3 6 0 ∷ italic_style 3 2 6 0 ∷ []
unfolding style_tree_of toggles_of toggle_at turn_at since next bold_ends_later effect_on is_bold_outside_at place_of letter bold_style italic_style
none_ends = refl

-- `''a'''b''c'''`: bold began later and is inside; where italic ends it ends there and begins again
later_is_inside : style_tree_of (Run 2 ∷ letter ∷ Run 3 ∷ letter ∷ Run 2 ∷ letter ∷ Run 3 ∷ [])
    ≡ italic_style 0 2 9 2 ∷ bold_style 3 3 7 0 ∷ bold_style 9 0 13 3 ∷ []
unfolding style_tree_of toggles_of toggle_at turn_at since next bold_ends_later effect_on is_bold_outside_at place_of letter bold_style italic_style
later_is_inside = refl

-- what the toggles say of these: italic, bold, bold, italic, bold
toggle : Bool → Bool → Toggle
toggle italic bold = record { chunk = 0; plain = 0; italic = italic; bold = bold }

said_italic : is_bold_inside (toggle true true) (Some (toggle true false)) ≡ false
unfolding toggle
said_italic = refl

said_bold : is_bold_inside (toggle true true) (Some (toggle false true)) ≡ true
unfolding toggle
said_bold = refl

said_both : is_bold_inside (toggle true true) (Some (toggle true true)) ≡ true
unfolding toggle
said_both = refl

said_none : is_bold_inside (toggle true true) None ≡ false
unfolding toggle
said_none = refl

said_later : is_bold_inside (toggle false true) (Some (toggle true false)) ≡ true
unfolding toggle
said_later = refl

-- runs of two to seven: their plain apostrophes, and what their delimiters take
plain_parts : map (λ (t : Toggle). t.plain) (toggles_by_length (Run 2 ∷ letter ∷ Run 3 ∷ letter ∷ Run 4 ∷ letter ∷ Run 5 ∷ letter ∷ Run 7 ∷ []))
    ≡ 0 ∷ 0 ∷ 1 ∷ 0 ∷ 2 ∷ []
unfolding toggle_at letter
plain_parts = refl

widths : map width_of (toggles_by_length (Run 2 ∷ letter ∷ Run 3 ∷ letter ∷ Run 4 ∷ letter ∷ Run 5 ∷ letter ∷ Run 7 ∷ []))
    ≡ 2 ∷ 3 ∷ 3 ∷ 5 ∷ 5 ∷ []
unfolding toggle_at letter
widths = refl

-- `''a'''b '''c d'''e`, whose runs of three stand behind a letter, a space and one letter: the last one is exchanged
last_is_chosen : map (λ (t : Toggle). t.plain) (toggles_of (Run 2 ∷ letter ∷ Run 3 ∷ Text 2 (Some 32) (Some 98) ∷ Run 3 ∷ Text 3 (Some 100) (Some 32) ∷ Run 3 ∷ []))
    ≡ 0 ∷ 0 ∷ 0 ∷ 1 ∷ []
unfolding toggles_of toggle_at letter
last_is_chosen = refl

-- runs of one to five: three switch bold, and two italic
bold_counts : count_by switches_bold (run_lengths (Run 1 ∷ letter ∷ Run 2 ∷ letter ∷ Run 3 ∷ letter ∷ Run 4 ∷ letter ∷ Run 5 ∷ [])) ≡ 3
unfolding letter
bold_counts = refl

italic_counts : count_by switches_italic (run_lengths (Run 1 ∷ letter ∷ Run 2 ∷ letter ∷ Run 3 ∷ letter ∷ Run 4 ∷ letter ∷ Run 5 ∷ [])) ≡ 2
unfolding letter
italic_counts = refl

toggle_counts : map (λ (t : Toggle). t.bold) (toggles_by_length (Run 1 ∷ letter ∷ Run 2 ∷ letter ∷ Run 3 ∷ letter ∷ Run 4 ∷ letter ∷ Run 5 ∷ []))
    ≡ false ∷ true ∷ true ∷ true ∷ []
unfolding toggle_at letter
toggle_counts = refl
