-- Prose: paragraphs of text, one after the other, with empty lines between them.
use Rattle.std.specs.Prelude.{◌≡◌, ℕ, ◌≤◌, List, [], ◌∷◌, ◌++◌, replicate}
use Rattle.std.specs.List.{flat_map}
use Rattle.wt_text_edit_laws.specs.TypedPages.{IsTypedPage}

-- the source of a paragraph, and how many line breaks come after it
pub record Passage : Type 0 where
  pub paragraph : List ℕ
  pub breaks : ℕ

abbrev pub passage_source : Passage → List ℕ
passage_source p = p.paragraph ++ replicate p.breaks 10

abbrev pub prose : List Passage → List ℕ
prose ps = flat_map passage_source ps

-- There is one at least, and each was typed as one paragraph. One empty line or more is between two of them, and after the last one
-- any number of line breaks.
abbrev pub AreProse : List Passage → Type 0
AreProse [] = ⊥
AreProse (p ∷ []) = IsTypedPage p.paragraph
AreProse (p ∷ q ∷ ps) = IsTypedPage p.paragraph × (2 ≤ p.breaks) × AreProse (q ∷ ps)

pub record IsProsePage (page : List ℕ) : Type 0 where
  pub passages : List Passage
  pub are : AreProse passages
  pub is : page ≡ prose passages
