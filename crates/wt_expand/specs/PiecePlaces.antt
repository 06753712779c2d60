-- Where the pieces of a page are on it, and how many of its bytes they cover.
use Rattle.std.specs.Prelude.{◌≡◌, ℕ, ◌+◌, List, [], ◌∷◌, length}
use Rattle.wt_span.specs.declared.origin.Origin.{Origin}
use Rattle.wt_span.specs.declared.origin.Origin.TheVariants as origin
use Rattle.wt_span.specs.declared.form.Piece.{Piece}
use Rattle.wt_span.specs.Slice.{start_of}
use Rattle.wt_span.specs.Items.{Item, items_of}
use Rattle.wt_span.specs.Origins.{OuterCall, Span}
use Rattle.wt_span.specs.Cuts.{place}

-- a piece of the page begins at its own first byte; of one that comes from a call nothing is said
abbrev pub IsBegin : Origin → ℕ → ℕ → Type 0
IsBegin (origin.Page r) at start = at ≡ start
IsBegin (origin.Call k) at start = Unit {0}

-- The cut before each piece of the page has the piece's first byte as its place; `n` of all items come before these pieces.
abbrev pub BeginFrom : List OuterCall → List Item → ℕ → List Piece → Type 0
BeginFrom calls all n [] = Unit {0}
BeginFrom calls all n (p ∷ ps) = IsBegin p.origin (place calls all n) (start_of p.text) × BeginFrom calls all (n + length (items_of p)) ps

-- where spans end that follow one another from a place on
abbrev pub end_of_spans : ℕ → List Span → ℕ
end_of_spans at [] = at
end_of_spans at ((from, to) ∷ ss) = end_of_spans to ss
