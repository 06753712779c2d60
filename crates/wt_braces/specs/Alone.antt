-- Calls, each read by itself.
use Rattle.std.specs.Prelude.{◌≡◌, ◌≤◌, ℕ, ◌+◌, List, [], ◌∷◌, ◌++◌, slice_range}
use Rattle.wt_span.specs.declared.form.Mode.{Mode}
use Rattle.wt_span.specs.declared.form.LexKind.TheVariants.{Opens, Closes}
use Rattle.wt_span.specs.Lexemes.{Word, words}
use Rattle.wt_span.specs.Braces.{Member, Members, lexeme, call, none, more, width, width_of_all, reduced}
use Rattle.wt_braces.specs.Words.{total_width}

-- The bytes of each call of a text, as a text of their own, are this very call and nothing else: what is round a call has no
-- part in how it is read. The members begin at `at`.
abbrev mutual
  pub IsAlone : Mode → List ℕ → ℕ → Member → Type 0
  IsAlone mode text at (lexeme w) = Unit {0}
  IsAlone mode text at (call k ms) = (reduced (words mode (slice_range text at (at + (k + width_of_all ms + k))))
      ≡ call k ms ∷ []) × AreAlone mode text (at + k) ms

  pub AreAlone : Mode → List ℕ → ℕ → Members → Type 0
  AreAlone mode text at none = Unit {0}
  AreAlone mode text at (more m ms) = IsAlone mode text at m × AreAlone mode text (at + width m) ms

-- a text that is one call
pub record IsOneCall (mode : Mode) (bs : List ℕ) : Type 0 where
  pub braces : ℕ
  pub inside : Members
  pub is : reduced (words mode bs) ≡ call braces inside ∷ []

-- A call is made of lexemes: of an opening run its last `opening` braces, of a closing run its first `closing` ones, and what
-- is between. These lexemes alone are this call.
pub record IsMadeAlone (all : List Word) (at k : ℕ) (ms : Members) : Type 0 where
  pub before : List Word
  pub unused : ℕ
  pub opening : ℕ
  pub between : List Word
  pub closing : ℕ
  pub over : ℕ
  pub after : List Word
  pub all_is : all ≡ before ++ (Opens, unused + opening) ∷ (between ++ (Closes, closing + over) ∷ after)
  pub two_open : 2 ≤ opening
  pub two_close : 2 ≤ closing
  pub place : at ≡ total_width before + unused
  pub alone : reduced ((Opens, opening) ∷ (between ++ (Closes, closing) ∷ [])) ≡ call k ms ∷ []

abbrev mutual
  pub IsMade : List Word → ℕ → Member → Type 0
  IsMade all at (lexeme w) = Unit {0}
  IsMade all at (call k ms) = IsMadeAlone all at k ms × AreMade all (at + k) ms

  pub AreMade : List Word → ℕ → Members → Type 0
  AreMade all at none = Unit {0}
  AreMade all at (more m ms) = IsMade all at m × AreMade all (at + width m) ms
