-- Pieces that are made of lexemes of a page.
use Rattle.std.specs.Prelude.{◌≡◌, ℕ, List, [], ◌∷◌, slice_range}
use Rattle.wt_span.specs.declared.form.Piece.{Piece}
use Rattle.wt_span.specs.declared.origin.Origin.{Origin}
use Rattle.wt_span.specs.declared.origin.Origin.TheVariants as origin
use Rattle.wt_span.specs.Slice.{bytes_of, start_of, end_of}
use Rattle.wt_span.specs.Origins.{Span, span_of}
use Rattle.wt_lex.specs.declared.lexeme.Lexeme.{Lexeme}
use Rattle.wt_expand.specs.PageItems.{form_of}

-- from the page, with these bytes
abbrev pub IsOfPage : Span → Origin → Type 0
IsOfPage s (origin.Page r) = span_of r ≡ s
IsOfPage s (origin.Call k) = ⊥

-- a lexeme's bytes with their place, form and origin
pub record IsMade (page : List ℕ) (p : Piece) (x : Lexeme) : Type 0 where
  pub bytes : bytes_of p.text ≡ slice_range page x.at.start x.at.end
  pub start : start_of p.text ≡ x.at.start
  pub end : end_of p.text ≡ x.at.end
  pub form : p.form ≡ form_of x.kind (bytes_of p.text)
  pub origin : IsOfPage (x.at.start, x.at.end) p.origin

-- one piece for each lexeme
abbrev pub AreMade : List ℕ → List Piece → List Lexeme → Type 0
AreMade page [] [] = Unit {0}
AreMade page [] (x ∷ xs) = ⊥
AreMade page (p ∷ ps) [] = ⊥
AreMade page (p ∷ ps) (x ∷ xs) = IsMade page p x × AreMade page ps xs
