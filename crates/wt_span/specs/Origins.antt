-- Outermost calls, and where the items of a page come from.
use Rattle.std.specs.Prelude.{◌≡◌, ◌<◌, ◌≤◌, ◌+◌, ◌-◌, ◌==◌, ◌||◌, ℕ, Bool, false, not, Option, Some, None, List, [], ◌∷◌, length, map, slice_get, slice_index, drop, All, is_some, if◌then◌else◌}
use Rattle.std.specs.Str.{IsCharBoundary}
use Rattle.wt_span.specs.declared.form.Mode.TheVariants.{Page}
use Rattle.wt_span.specs.declared.range.Range.{Range}
use Rattle.wt_span.specs.declared.origin.Origin.{Origin}
use Rattle.wt_span.specs.declared.origin.Origin.TheVariants as origin
use Rattle.wt_span.specs.declared.form.ItemForm.{ItemForm}
use Rattle.wt_span.specs.declared.form.ItemForm.TheVariants as form
use Rattle.wt_span.specs.declared.form.Piece.{Piece}
use Rattle.wt_span.specs.declared.form.Outer.{Outer}
use Rattle.wt_span.specs.Slice.{bytes_of, start_of, end_of}
use Rattle.wt_span.specs.Items.{Item, call_of_origin}
use Rattle.wt_span.specs.Braces.{IsCall}
use Rattle.wt_span.specs.Functions.{function_of}
use Rattle.wt_span.specs.Whole.{IsWhole}
use Rattle.wt_span.specs.Characters as byte

-- two places, the second after the last byte
abbrev pub Span : Type 0
Span = ℕ × ℕ

abbrev pub span_of : Range → Span
span_of r = (r.start, r.end)

-- ---- outermost calls

-- an outermost call or argument, as bytes and places
pub record OuterCall : Type 0 where
  pub start : ℕ
  pub source : List ℕ
  pub argument : Bool
  pub parts : List Span
  pub equals : List (Option ℕ)
  pub href : Option (List ℕ)

abbrev pub outer_call : Outer → OuterCall
outer_call o = record {
  start = start_of o.source;
  source = bytes_of o.source;
  argument = o.argument;
  parts = map span_of o.parts;
  equals = o.equals;
  href = o.href;
}

abbrev pub span_of_call : OuterCall → Span
span_of_call c = (c.start, c.start + length c.source)

-- a place of the page at which a call's source may be cut
abbrev pub IsBorder : OuterCall → ℕ → Type 0
IsBorder c place = IsCharBoundary c.source (place - c.start)

-- the parts lie in order from a place to the end of the call, at character borders
abbrev pub LieFrom : OuterCall → ℕ → List Span → Type 0
LieFrom c at [] = at ≤ c.start + length c.source
LieFrom c at ((from, to) ∷ ps) = (at ≤ from) × (from ≤ to) × IsBorder c from × IsBorder c to × LieFrom c to ps

-- for each part none, or the place of a `=` in it
abbrev pub IsNameEnd : OuterCall → Span → Option ℕ → Type 0
IsNameEnd c (from, to) None = Unit {0}
IsNameEnd c (from, to) (Some place) = (from ≤ place) × (place < to) × (slice_index c.source (place - c.start) ≡ byte.equals_sign)

abbrev pub AreNameEnds : OuterCall → List Span → List (Option ℕ) → Type 0
AreNameEnds c [] [] = Unit {0}
AreNameEnds c [] (e ∷ es) = ⊥
AreNameEnds c (p ∷ ps) [] = ⊥
AreNameEnds c (p ∷ ps) (e ∷ es) = IsNameEnd c p e × AreNameEnds c ps es

-- a call has a source; one to a page has a link to it: no argument has one, and no call of a parser function
pub record IsSoundCall (c : OuterCall) : Type 0 where
  pub some : 0 < length c.source
  pub some_part : 0 < length c.parts
  pub in_order : LieFrom c c.start c.parts
  pub name_ends : AreNameEnds c c.parts c.equals
  pub linked : is_some c.href ≡ not (c.argument || is_some (function_of (drop 2 c.source)))

-- ---- pieces

-- a piece of the page has the range of its text
abbrev pub IsPlaced : Origin → Span → Type 0
IsPlaced (origin.Page r) s = span_of r ≡ s
IsPlaced (origin.Call k) s = Unit {0}

-- an empty call comes from a call; a function of the page itself is one as the page is read
abbrev pub FitsOrigin : ItemForm → Option ℕ → List ℕ → Type 0
FitsOrigin form.EmptyCall None bs = ⊥
FitsOrigin form.Function None bs = IsCall Page bs
FitsOrigin f o bs = Unit {0}

pub record IsSoundPiece (p : Piece) : Type 0 where
  pub whole : IsWhole p.form (bytes_of p.text)
  pub placed : IsPlaced p.origin (start_of p.text, end_of p.text)
  pub fits : FitsOrigin p.form (call_of_origin p.origin) (bytes_of p.text)

-- ---- origins

-- the calls that are named are there
abbrev pub IsAmong : List OuterCall → Origin → Type 0
IsAmong cs (origin.Page r) = Unit {0}
IsAmong cs (origin.Call k) = k < length cs

abbrev pub same_call : Option ℕ → Option ℕ → Bool
same_call None o = false
same_call (Some j) None = false
same_call (Some j) (Some k) = j == k

abbrev pub origin_before : List Origin → Origin → Bool
origin_before [] o = false
origin_before (p ∷ ps) o = same_call (call_of_origin o) (call_of_origin p)

-- the origins, each once: pieces of one call that are next to each other have one
abbrev pub once : List Origin → List Origin
once [] = []
once (o ∷ os) = (if origin_before os o then once os else o ∷ once os)

abbrev pub span_of_entry : Option OuterCall → Span
span_of_entry None = (0, 0)
span_of_entry (Some c) = span_of_call c

-- the bytes of the page that an origin is
abbrev pub span_of_origin : List OuterCall → Origin → Span
span_of_origin cs (origin.Page r) = span_of r
span_of_origin cs (origin.Call k) = span_of_entry (slice_get cs k)

-- spans that follow one another from a place on
abbrev pub FollowFrom : ℕ → List Span → Type 0
FollowFrom at [] = Unit {0}
FollowFrom at ((from, to) ∷ ss) = (from ≡ at) × FollowFrom to ss

abbrev pub IsOther : Origin → Origin → Type 0
IsOther o p = same_call (call_of_origin o) (call_of_origin p) ≡ false

-- no call comes again
abbrev pub AreApart : List Origin → Type 0
AreApart [] = Unit {0}
AreApart (o ∷ os) = All (IsOther o) os × AreApart os

-- in order of the first byte
abbrev pub AreInOrder : List Span → Type 0
AreInOrder [] = Unit {0}
AreInOrder (s ∷ []) = Unit {0}
AreInOrder (s ∷ t ∷ ss) = (s.0 ≤ t.0) × AreInOrder (t ∷ ss)

-- What pieces, outermost calls and text calls owe each other to be the items of a page.
pub record AreItems (pieces : List Piece) (cs : List OuterCall) (text_calls : List Span) : Type 0 where
  pub sound_pieces : All IsSoundPiece pieces
  pub sound_calls : All IsSoundCall cs
  pub named : All (IsAmong cs) (map (λ p. p.origin) pieces)
  pub follow : FollowFrom 0 (map (span_of_origin cs) (once (map (λ p. p.origin) pieces)))
  pub apart : AreApart (once (map (λ p. p.origin) pieces))
  pub in_order : AreInOrder text_calls

-- what `Items` is seen as: the items, the outermost calls, and the text calls outside these
pub record Expanded : Type 0 where
  pub items : List Item
  pub outer : List OuterCall
  pub text_calls : List Span
