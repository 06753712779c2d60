-- Two texts side by side of which neither ends a call that begins in the other one.
use Rattle.std.specs.Prelude.{◌≡◌, ◌⊎◌, ℕ, ◌<◌, ◌+◌, Bool, Some, List, [], ◌∷◌, ◌++◌, length}
use Rattle.wt_span.specs.declared.form.Mode.{Mode}
use Rattle.wt_span.specs.declared.form.LexKind.TheVariants.{Chars, Closes}
use Rattle.wt_span.specs.Lexemes.{Word, words}
use Rattle.wt_span.specs.Braces.{Member, lexeme, call, open_left, reduced}
use Rattle.wt_expand.specs.PageCalls.{Stretch, all_stretches, numbered, outer_calls, text_spans}
use Rattle.wt_expand.specs.Expansion.{Reading, Output, then_output, joined, outputs_of, text_members}

-- ---- braces that are left

-- how many braces a closing run has left
abbrev pub close_left : Member → ℕ
close_left (lexeme (Closes, n)) = n
close_left (lexeme (kind, n)) = 0
close_left (call k ms) = 0

-- in no member are two braces left that open
abbrev pub NoneOpens : List Member → Type 0
NoneOpens [] = Unit {0}
NoneOpens (x ∷ xs) = (open_left (Some x) < 2) × NoneOpens xs

-- nor two that close
abbrev pub NoneCloses : List Member → Type 0
NoneCloses [] = Unit {0}
NoneCloses (x ∷ xs) = (close_left x < 2) × NoneCloses xs

-- What each has by itself: nothing is left to open in the first one, or nothing to close in the second one.
abbrev pub AreApart : List Word → List Word → Type 0
AreApart vs ws = NoneOpens (reduced vs) ⊎ NoneCloses (reduced ws)

-- ---- what they give

-- what a text gives where a line begins, or not
abbrev pub given_from : Reading → Bool → List ℕ → Output
given_from r start bs = joined (outputs_of r start bs (text_members r.mode bs))

-- The lexemes of two texts one after the other: all of both, or all of both where a run of characters ends the first one and another one begins
-- the second one, which are one run then.
pub record MeetInRun (vs ws both : List Word) : Type 0 where
  pub before : List Word
  pub first : ℕ
  pub second : ℕ
  pub after : List Word
  pub vs_are : vs ≡ before ++ (Chars, first) ∷ []
  pub ws_are : ws ≡ (Chars, second) ∷ after
  pub both_are : both ≡ before ++ (Chars, first + second) ∷ after

abbrev pub AreMet : List Word → List Word → List Word → Type 0
AreMet vs ws both = (both ≡ vs ++ ws) ⊎ MeetInRun vs ws both

-- Two texts that are read one after the other, each as it is by itself.
pub record AreReadApart (m : Mode) (bs cs : List ℕ) : Type 0 where
  pub lexemes : AreMet (words m bs) (words m cs) (words m (bs ++ cs))
  pub apart : AreApart (words m bs) (words m cs)

-- the stretches of a text that begins at this place, where a line begins, or not
abbrev pub stretches_from : Reading → ℕ → Bool → List ℕ → List Stretch
stretches_from r at start bs = all_stretches r at start bs (text_members r.mode bs)

-- stretches that give the same items, calls and calls that are text
pub record AreAlike (ss ts : List Stretch) : Type 0 where
  pub items : (k : ℕ) → numbered k ss ≡ numbered k ts
  pub outers : outer_calls ss ≡ outer_calls ts
  pub texts : text_spans ss ≡ text_spans ts

-- What they give, and which calls they have, is what the two have, one after the other.
pub record GivesBoth (r : Reading) (at : ℕ) (start : Bool) (bs cs : List ℕ) : Type 0 where
  pub line : Bool
  pub outputs : given_from r start (bs ++ cs) ≡ then_output (given_from r start bs) (given_from r line cs)
  pub items : (k : ℕ) → numbered k (stretches_from r at start (bs ++ cs))
      ≡ numbered k (stretches_from r at start bs) ++ numbered (k + length (outer_calls (stretches_from r at start bs))) (stretches_from r (at + length bs) line cs)
  pub outers : outer_calls (stretches_from r at start (bs ++ cs)) ≡ outer_calls (stretches_from r at start bs) ++ outer_calls (stretches_from r (at + length bs) line cs)
  pub texts : text_spans (stretches_from r at start (bs ++ cs)) ≡ text_spans (stretches_from r at start bs) ++ text_spans (stretches_from r (at + length bs) line cs)
