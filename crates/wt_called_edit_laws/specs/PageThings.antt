-- The nodes of a paragraph of the page, calls among them, beside which texts are typed.
use Rattle.std.specs.Prelude.{◌≡◌, ◌⊎◌, ℕ, true, false, List, [], ◌∷◌, map}
use Rattle.std.specs.Str.{IsUtf8}
use Rattle.wt_guards.specs.Content.{Thing}
use Rattle.wt_guards.specs.Guards.{is_adjacent, is_always_parted}
use Rattle.wt_expand.specs.PageCalls.{expanded_page}
use Rattle.wt_expand.specs.Work.{Pages}
use Rattle.wt_tiles.specs.Glyphs.{glyph_of}
use Rattle.wt_part_laws.specs.Expanded.{part_items}
use Rattle.wt_beside_laws.specs.Called.{MayMeet, IsOfFolder}
use Rattle.wt_beside_laws.specs.FlatBlocks.{IsSealed}
use Rattle.wt_called_edit_laws.specs.WholeContents.{IsShut}
use Rattle.wt_called_edit_laws.specs.Written.{IsReadThing, IsOwnPart}

-- It gives what may be a group, or calls nothing and is a node on one line; it stays what it is beside text that is typed, is a part of the page by itself, closes
-- no tag behind it, and ends in no open one.
pub record IsPageThing (pages : Pages) (t : Thing) : Type 0 where
  pub folder : IsOfFolder t.role pages t
  pub read : IsReadThing t
  pub part : IsOwnPart pages t.source
  pub sealed : IsSealed t.source
  pub shut : IsShut t
  pub utf8 : IsUtf8 t.source

-- where the page has them side by side, and they aren't always parted, nothing joins what they give
abbrev pub MeetThere : Pages → Thing → Thing → Type 0
MeetThere pages t n =
    (i j : ℕ) → is_adjacent t n ≡ true → is_always_parted t.role n.role ≡ false
    → MayMeet t (map glyph_of (part_items pages i t.source)) n (map glyph_of (part_items pages j n.source))

abbrev pub MeetLater : Pages → Thing → List Thing → Type 0
MeetLater pages t [] = Unit {0}
MeetLater pages t (n ∷ ts) = MeetThere pages t n × MeetLater pages t ts

abbrev pub AllMeetLater : Pages → List Thing → Type 0
AllMeetLater pages [] = Unit {0}
AllMeetLater pages (t ∷ ts) = MeetLater pages t ts × AllMeetLater pages ts

abbrev pub ArePageThings : Pages → List Thing → Type 0
ArePageThings pages [] = Unit {0}
ArePageThings pages (t ∷ ts) = IsPageThing pages t × MeetLater pages t ts × ArePageThings pages ts

-- those that stay are some of them, in their order; each that calls stays
abbrev pub ThingsStay : Pages → List Thing → List Thing → Type 0
ThingsStay pages [] [] = Unit {0}
ThingsStay pages [] (d ∷ ds) = ⊥
ThingsStay pages (b ∷ bs) [] = ((expanded_page pages b.source).outer ≡ []) × ThingsStay pages bs []
ThingsStay pages (b ∷ bs) (d ∷ ds) = ((b ≡ d) × ThingsStay pages bs ds) ⊎ (((expanded_page pages b.source).outer ≡ []) × ThingsStay pages bs (d ∷ ds))

abbrev pub thing_sources : List Thing → List (List ℕ)
thing_sources [] = []
thing_sources (t ∷ ts) = t.source ∷ thing_sources ts
