-- What the laws of the spelling speak of.
use Rattle.std.specs.Prelude.{◌≡◌, ℕ, suc, ◌==◌, false, List, [], ◌∷◌, if◌then◌else◌, encode_utf8}
use Rattle.std.specs.List.{flat_map}
use Rattle.wt_span.specs.Characters as byte
use Rattle.wt_guards.specs.Content.{ContentSign, letter, thing}
use Rattle.wt_guards.specs.Letters.{is_bracket, is_escaped, reference}
use Rattle.wt_guards.specs.Guards.{Setting, nowiki, is_guarded}

-- what a sign shows as it is, without guards and references
abbrev pub itself : ContentSign → List ℕ
itself (letter c) = encode_utf8 c
itself (thing t) = t.source

abbrev pub IsAsItIs : Setting → List ContentSign → ContentSign → List ContentSign → Type 0
IsAsItIs s before (letter c) after = is_escaped s.within s.place before c after ≡ false
IsAsItIs s before (thing t) after = Unit {0}

-- From a place on no guard holds, and no character is written as a reference.
abbrev pub IsQuiet : Setting → List ContentSign → List ContentSign → Type 0
IsQuiet s before [] = is_guarded s before [] ≡ false
IsQuiet s before (sign ∷ after) = (is_guarded s before (sign ∷ after) ≡ false) × IsAsItIs s before sign after × IsQuiet s (sign ∷ before) after

-- A text is written of these pieces alone: `<nowiki/>`, references, and characters other than `[` `]` `{` `}` `|` `>`.
pub data Piece : Type 0 where
  guard : Piece
  referred : ℕ → Piece
  plain : ℕ → Piece

abbrev pub piece_bytes : Piece → List ℕ
piece_bytes guard = nowiki
piece_bytes (referred c) = reference c
piece_bytes (plain c) = encode_utf8 c

abbrev pub IsHarmless : Piece → Type 0
IsHarmless guard = Unit {0}
IsHarmless (referred c) = Unit {0}
IsHarmless (plain c) = is_bracket c ≡ false

abbrev pub AreHarmless : List Piece → Type 0
AreHarmless [] = Unit {0}
AreHarmless (p ∷ ps) = IsHarmless p × AreHarmless ps

-- the characters that the pieces show: nothing for a guard
abbrev pub characters_of : List Piece → List ℕ
characters_of [] = []
characters_of (guard ∷ ps) = characters_of ps
characters_of (referred c ∷ ps) = c ∷ characters_of ps
characters_of (plain c ∷ ps) = c ∷ characters_of ps

-- Pieces that stand for the text in these bytes.
pub record Pieces (text bytes : List ℕ) : Type 0 where
  pub pieces : List Piece
  pub written : bytes ≡ flat_map piece_bytes pieces
  pub harmless : AreHarmless pieces
  pub shows : characters_of pieces ≡ text

-- ---- line breaks

-- how many line breaks are among the bytes
abbrev pub breaks : List ℕ → ℕ
breaks [] = 0
breaks (b ∷ bs) = if b == byte.line_break then suc (breaks bs) else breaks bs
