-- All paragraphs and headings of a page that its lines tell, at once.
use Rattle.std.specs.Prelude.{◌≡◌, ◌⊎◌, ℕ, ◌+◌, List, [], ◌∷◌, ◌++◌}
use Rattle.wt_span.specs.Items.{Item}
use Rattle.wt_tables.specs.Parts.{joined}
use Rattle.wt_expand.specs.Work.{Pages}
use Rattle.wt_called_edit_laws.specs.PlacedLines.{lead_of}
use Rattle.wt_called_edit_laws.specs.RowBlocks.{opened_len}
use Rattle.wt_called_edit_laws.specs.ToldAmong.{IsToldAmong}
use Rattle.wt_called_edit_laws.specs.ToldLines.{Told, lined}

-- Where a block begins, behind the lines before it and what begins its first line, if so many items are before these lines. So each of several
-- that follow each other.
abbrev pub start_of : ℕ → Told → ℕ
start_of at t = at + opened_len (joined (lined t).before) + opened_len (lead_of (lined t))

abbrev pub own_lines : Told → List (List Item)
own_lines t = (lead_of (lined t) ++ (lined t).first) ∷ (lined t).more

abbrev pub told_starts : ℕ → List Told → List ℕ
told_starts at [] = []
told_starts at (t ∷ ts) = start_of at t ∷ told_starts (at + opened_len (joined (lined t).before) + opened_len (joined (own_lines t))) ts

-- one of these numbers
abbrev pub IsAmongNumbers : ℕ → List ℕ → Type 0
IsAmongNumbers n [] = ⊥
IsAmongNumbers n (m ∷ ms) = (n ≡ m) ⊎ IsAmongNumbers n ms

abbrev pub AreSome : List Told → Type 0
AreSome [] = ⊥
AreSome (t ∷ ts) = Unit {0}

-- These blocks, if there is one, are told by the lines of the expanded page, and where one is told by them alone, it is one of these.
pub record AreAllTold (pages : Pages) (page : List ℕ) : Type 0 where
  pub ts : List Told
  pub behind : List (List Item)
  pub told : AreSome ts → IsToldAmong pages page ts behind
  pub all : (t : Told) (rest : List (List Item)) → IsToldAmong pages page (t ∷ []) rest → IsAmongNumbers (start_of 0 t) (told_starts 0 ts)
