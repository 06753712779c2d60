-- What is of the page's pieces in a slice of it.
use Rattle.std.specs.Prelude.{◌≡◌, ◌-◌, ◌≤◌, ℕ, ◌&&◌, ◌||◌, ◌==◌, Bool, true, false, All, IsCharBoundary, Option, List, [], ◌∷◌, map, take, drop, is_none, MatchOption}
use Rattle.std.specs.List.{flat_map}
use Rattle.wt_span.specs.declared.form.Piece.{Piece}
use Rattle.wt_span.specs.declared.text.Text.{Text}
use Rattle.wt_span.specs.Slice.{bytes_of, end_of, start_of}
use Rattle.wt_span.specs.Items.{Item, call_of_origin, items_of}
use Rattle.wt_span.specs.Origins.{OuterCall, Span, IsSoundPiece, IsAmong, FollowFrom, once, span_of_origin}
use Rattle.wt_span.specs.Characters as byte
use Rattle.wt_tree.specs.declared.kind.Ranges.{Ranges}
use Rattle.wt_expand.specs.Expansion.{is_block_sign}
use Rattle.wt_lines.specs.Pieces.{is_chars}
use Rattle.wt_isolation.specs.GroupItems.{items_in}

-- where a piece is in the page: at its own bytes, or where its call does
abbrev pub span_of_piece : List OuterCall → Piece → Span
span_of_piece calls p = span_of_origin calls p.origin

-- of a piece, the items that lie in the slice
abbrev pub part_of : List OuterCall → Ranges → Piece → List Item
part_of calls r p = items_in calls r (span_of_piece calls p).0 (items_of p)

abbrev pub parts_of : List OuterCall → Ranges → List Piece → List Item
parts_of calls r ps = flat_map (part_of calls r) ps

-- pieces that are in the page one after the other, each at a place that is known
pub record AreOrderly (calls : List OuterCall) (ps : List Piece) : Type 0 where
  pub sound : All IsSoundPiece ps
  pub named : All (IsAmong calls) (map (λ p. p.origin) ps)
  pub follow : FollowFrom 0 (map (span_of_origin calls) (once (map (λ p. p.origin) ps)))

-- characters of the page, the only pieces of which a part can lie in a slice
abbrev pub is_page_chars : Piece → Bool
is_page_chars p = is_chars p.form && is_none (call_of_origin p.origin)

-- the bytes of a text that are in the slice
abbrev pub bytes_in : Ranges → Text → List ℕ
bytes_in r t = drop (r.start - start_of t) (take (r.end - start_of t) (bytes_of t))

-- a place that lies in a text lies between its characters
abbrev pub IsBetweenCharacters : Text → ℕ → Type 0
IsBetweenCharacters t place = start_of t ≤ place → place ≤ end_of t → IsCharBoundary (bytes_of t) (place - start_of t)

-- so do both ends of a slice, where they lie in it
abbrev pub IsCutWhole : Ranges → Text → Type 0
IsCutWhole r t = IsBetweenCharacters t r.start × IsBetweenCharacters t r.end

-- and in a piece of characters of the page
abbrev pub IsPieceCutWhole : Ranges → Piece → Type 0
IsPieceCutWhole r p = is_page_chars p ≡ true → IsCutWhole r p.text

-- a sound piece of these items, or none where there are none
abbrev pub IsPieceOf : List Item → Option Piece → Type 0
IsPieceOf xs found = MatchOption found (xs ≡ []) (λ p. IsSoundPiece p × (items_of p ≡ xs))

-- the signs of what opens a block
abbrev pub begins_with_bar : List ℕ → Bool
begins_with_bar [] = false
begins_with_bar (b ∷ bs) = b == byte.vertical_bar

abbrev pub signs_open : List ℕ → Bool
signs_open [] = false
signs_open (b ∷ bs) = is_block_sign b || (b == byte.opening_brace && begins_with_bar bs)
