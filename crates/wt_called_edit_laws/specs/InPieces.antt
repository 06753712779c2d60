-- A paragraph of the page in pieces, one after the other: texts, calls, and other nodes.
use Rattle.std.specs.Prelude.{◌≡◌, ◌⊎◌, ℕ, List, [], ◌∷◌, ◌++◌}
use Rattle.wt_span.specs.declared.form.Mode.TheVariants.{Page}
use Rattle.wt_span.specs.Lexemes.{words}
use Rattle.wt_expand.specs.PageItems.{page_items}
use Rattle.wt_expand.specs.Work.{Pages}
use Rattle.wt_part_laws.specs.Apart.{AreMet}
use Rattle.wt_text_edit_laws.specs.NoCalls.{AreUnbraced}
use Rattle.wt_called_edit_laws.specs.Written.{BeginsOutward, EndsOutward, IsOwnPart}

abbrev pub pieces_source : List (List ℕ) → List ℕ
pieces_source [] = []
pieces_source (b ∷ bs) = b ++ pieces_source bs

-- Each gives what it gives by itself, and no lexeme goes over from one into the next, unless both are characters.
abbrev pub AreInPieces : Pages → List (List ℕ) → Type 0
AreInPieces pages [] = Unit {0}
AreInPieces pages (b ∷ bs) = IsOwnPart pages b × AreMet (words Page b) (words Page (pieces_source bs)) (words Page (b ++ pieces_source bs)) × AreInPieces pages bs

-- ---- by its items

-- A piece and what is behind it: it has no brace or is a part of the page by itself; neither a bracket, nor a brace, nor a line break is where the two
-- meet; and both together are read as each by itself.
pub record IsReadApart (pages : Pages) (b rest : List ℕ) : Type 0 where
  pub own : AreUnbraced (page_items b) ⊎ IsOwnPart pages b
  pub ends : EndsOutward b
  pub begins : BeginsOutward rest
  pub read : page_items (b ++ rest) ≡ page_items b ++ page_items rest

abbrev pub AreReadApart : Pages → List (List ℕ) → Type 0
AreReadApart pages [] = Unit {0}
AreReadApart pages (b ∷ bs) = IsReadApart pages b (pieces_source bs) × AreReadApart pages bs
