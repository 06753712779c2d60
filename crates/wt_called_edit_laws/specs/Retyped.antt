-- A page with calls in whose blocks new contents were written.
use Rattle.std.specs.Prelude.{◌≡◌, ◌⊎◌, ◌||◌, ℕ, Bool, true, false, None, List, [], ◌∷◌}
use Rattle.wt_span.specs.declared.form.Mode.TheVariants.{Page}
use Rattle.wt_expand.specs.Work.{Pages, Entry, deep_place, first_refusal}
use Rattle.wt_expand.specs.Expansion.{page_work}
use Rattle.wt_part_laws.specs.Expanded.{GivesAnywhere}
use Rattle.wt_text_edit_laws.specs.Contents.{IsNewContent}
use Rattle.wt_text_edit_laws.specs.NoCalls.{Brace, opening, closing, NonePairs}
use Rattle.wt_text_edit_laws.specs.ReadContents.{IsReadAnew}
use Rattle.wt_text_edit_laws.specs.TextBlocks.{TextBlock, source_of}
use Rattle.wt_text_edit_laws.specs.BlockSpots.{BlockSpot, spots_source}
use Rattle.wt_called_edit_laws.specs.Parts.{left_of, AreCalled, work_in}

-- the same blocks, some of them with new contents that call nothing
abbrev pub AreRetyped : List BlockSpot → List BlockSpot → Type 0
AreRetyped [] [] = Unit {0}
AreRetyped [] (r ∷ rs) = ⊥
AreRetyped (s ∷ ss) [] = ⊥
AreRetyped (s ∷ ss) (r ∷ rs) =
    (r.before ≡ s.before) × (r.block ≡ s.block) × ((r.text ≡ s.text) ⊎ IsNewContent r.block s.text r.text) × AreRetyped ss rs

-- ---- new contents with calls

-- the same entries, in the same order, or some of them
abbrev pub AreSomeOf : List Entry → List Entry → Type 0
AreSomeOf [] es = Unit {0}
AreSomeOf (d ∷ ds) [] = ⊥
AreSomeOf (d ∷ ds) (e ∷ es) = ((d ≡ e) × AreSomeOf ds es) ⊎ AreSomeOf (d ∷ ds) es

-- both open, or both close
abbrev pub is_same : Brace → Brace → Bool
is_same opening opening = true
is_same opening closing = false
is_same closing opening = false
is_same closing closing = true

abbrev pub has : Brace → List Brace → Bool
has x [] = false
has x (y ∷ ys) = is_same x y || has x ys

-- None close behind any that open, and some that open, or close, are among them only if such are among the others: in the place of these they call
-- nothing.
pub record IsLess (xs ys : List Brace) : Type 0 where
  pub apart : NonePairs xs
  pub some : (x : Brace) → has x xs ≡ true → has x ys ≡ true

-- A content in the place of another one, in a page with calls. It is read so; of the braces that are left in it the old one has such, too; what it gives
-- doesn't hang on whether a line begins; and where no call lay too deep in the old one, none does in it, and its work is some of that of the old one: so
-- calls may go.
pub record IsPartAnew (pages : Pages) (k : TextBlock) (was now : List ℕ) : Type 0 where
  pub read : IsReadAnew k was now
  pub anywhere : GivesAnywhere pages (source_of k now)
  pub left : IsLess (left_of (source_of k now)) (left_of (source_of k was))
  pub undeep : deep_place Page (source_of k was) ≡ None → deep_place Page (source_of k now) ≡ None
  pub work : AreSomeOf (work_in pages (source_of k now)) (work_in pages (source_of k was))

-- the same blocks, some of them with such contents
abbrev pub AreWrittenAnew : Pages → List BlockSpot → List BlockSpot → Type 0
AreWrittenAnew pages [] [] = Unit {0}
AreWrittenAnew pages [] (r ∷ rs) = ⊥
AreWrittenAnew pages (s ∷ ss) [] = ⊥
AreWrittenAnew pages (s ∷ ss) (r ∷ rs) =
    (r.before ≡ s.before) × (r.block ≡ s.block) × ((r.text ≡ s.text) ⊎ IsPartAnew pages r.block s.text r.text) × AreWrittenAnew pages ss rs

-- It is of the class again, and no more work to expand than before; and if it was expanded before, it is again.
pub record IsExpandedAgain (pages : Pages) (ss rs : List BlockSpot) (behind : List ℕ) : Type 0 where
  pub called : AreCalled pages rs behind
  pub work : AreSomeOf (page_work pages (spots_source rs behind)) (page_work pages (spots_source ss behind))
  pub unrefused : first_refusal pages (spots_source ss behind) (page_work pages (spots_source ss behind)) ≡ None
      → first_refusal pages (spots_source rs behind) (page_work pages (spots_source rs behind)) ≡ None
