-- Pieces that give an expanded page, stretch by stretch.
use Rattle.std.specs.Prelude.{◌≡◌, ◌<◌, ℕ, suc, ◌+◌, List, [], ◌∷◌, ◌++◌, Some, length, map, min}
use Rattle.wt_span.specs.declared.form.Piece.{Piece}
use Rattle.wt_span.specs.declared.origin.Origin.TheVariants as origin
use Rattle.wt_span.specs.Slice.{start_of, end_of}
use Rattle.wt_span.specs.declared.form.ItemForm.TheVariants as form
use Rattle.wt_span.specs.Items.{Item, whole, items_of, items}
use Rattle.wt_expand.specs.Made.{IsOfPage}
use Rattle.wt_expand.specs.PageCalls.{Stretch, own, outer, text_call, from_call, outer_items, numbered, outer_calls, text_spans}

-- a piece of the page itself that begins at a place
pub record IsOwn (at : ℕ) (p : Piece) : Type 0 where
  pub some : 0 < length (items_of p)
  pub start : start_of p.text ≡ at
  pub origin : IsOfPage (at, end_of p.text) p.origin

-- such pieces, one after the other between two places
abbrev pub AreOwn : ℕ → List Piece → ℕ → Type 0
AreOwn at [] to = at ≡ to
AreOwn at (p ∷ ps) to = IsOwn at p × AreOwn (end_of p.text) ps to

-- pieces of the k-th outermost call
abbrev pub AreCalled : ℕ → List Piece → Type 0
AreCalled k [] = Unit {0}
AreCalled k (p ∷ ps) = (0 < length (items_of p)) × (p.origin ≡ origin.Call k) × AreCalled k ps

-- The pieces give these stretches, which are between two places, where `k` outermost calls come before.
abbrev pub Give : ℕ → ℕ → List Stretch → List Piece → ℕ → Type 0
Give at k [] ps to = (ps ≡ []) × (at ≡ to)
Give at k (own xs ∷ ss) ps to =
    (qs : List Piece) × (rs : List Piece) × (mid : ℕ) × (ps ≡ qs ++ rs) × (items qs ≡ xs) × AreOwn at qs mid × Give mid k ss rs to
Give at k (outer c xs ∷ ss) ps to =
    (qs : List Piece) × (rs : List Piece) × (ps ≡ qs ++ rs) × (items qs ≡ outer_items k c xs) × AreCalled k qs × (c.start ≡ at)
    × Give (at + length c.source) (suc k) ss rs to
Give at k (text_call s ∷ ss) ps to = Give at k ss ps to

-- A call's number has 32 bits, so that of a later call than the last that has one would be the same. No page has so many: each call
-- has a byte.
abbrev pub kept : ℕ → ℕ
kept k = min k 4294967295

-- The same of pieces that are marked by numbers of 32 bits; a call has some source.
abbrev pub GiveKept : ℕ → ℕ → List Stretch → List Piece → ℕ → Type 0
GiveKept at k [] ps to = (ps ≡ []) × (at ≡ to)
GiveKept at k (own xs ∷ ss) ps to =
    (qs : List Piece) × (rs : List Piece) × (mid : ℕ) × (ps ≡ qs ++ rs) × (items qs ≡ xs) × AreOwn at qs mid × GiveKept mid k ss rs to
GiveKept at k (outer c xs ∷ ss) ps to =
    (qs : List Piece) × (rs : List Piece) × (ps ≡ qs ++ rs) × (items qs ≡ outer_items (kept k) c xs) × AreCalled (kept k) qs
    × ((c.start ≡ at) × (0 < length c.source)) × GiveKept (at + length c.source) (suc k) ss rs to
GiveKept at k (text_call s ∷ ss) ps to = GiveKept at k ss ps to

-- stretches that make the same page, where neighbours of the page itself may be cut elsewhere
pub record AreAlike (ss ts : List Stretch) : Type 0 where
  pub items : (k : ℕ) → numbered k ss ≡ numbered k ts
  pub calls : outer_calls ss ≡ outer_calls ts
  pub text_calls : text_spans ss ≡ text_spans ts

-- ---- one call

-- what is appended of a call: so many pieces of it, which have these items
abbrev pub Appends : ℕ → List Piece → List Piece → List Piece → Type 0
Appends k given old new = (qs : List Piece) × (new ≡ old ++ qs) × AreCalled k qs × (items qs ≡ map (from_call k) (items given))

-- the items of the k-th outermost call, by its source
abbrev pub items_of_call : ℕ → List ℕ → List Item → List Item
items_of_call k source [] = whole form.EmptyCall (Some k) source ∷ []
items_of_call k source (x ∷ xs) = map (from_call k) (x ∷ xs)

abbrev pub AppendsCall : ℕ → List ℕ → List Item → List Piece → List Piece → Type 0
AppendsCall k source given old new = (qs : List Piece) × (new ≡ old ++ qs) × AreCalled k qs × (items qs ≡ items_of_call k source given)
