-- A paragraph or heading of the page, whoever wrote it, that holds calls: by its pieces, and by the lines of text that these give.
use Rattle.std.specs.Prelude.{◌≡◌, ◌⊎◌, ℕ, ◌+◌, ◌<◌, ◌==◌, Bool, true, false, Some, None, List, [], ◌∷◌, ◌++◌, length, map, if◌then◌else◌}
use Rattle.std.specs.List.{list_any}
use Rattle.std.specs.Str.{IsUtf8}
use Rattle.wt_tree.specs.Plain.{Plains}
use Rattle.wt_span.specs.Bytes.{is_blank}
use Rattle.wt_span.specs.Items.{Item, sign}
use Rattle.wt_span.specs.Origins.{OuterCall}
use Rattle.wt_guards.specs.declared.role.Transclusion.{Transclusion}
use Rattle.wt_guards.specs.Content.{Thing}
use Rattle.wt_inline.specs.declared.loose.Loose.TheVariants.{Text}
use Rattle.wt_inline.specs.ItemTree.{ItemTree, tree_items}
use Rattle.wt_inline.specs.Parts.{Part, loose, node, loose_leaf, children}
use Rattle.wt_context.specs.Line.{line_parts}
use Rattle.wt_annotated.specs.Clean.{is_page}
use Rattle.wt_isolation.specs.OpenTags.{ends_open}
use Rattle.wt_expand.specs.PageCalls.{expanded_page}
use Rattle.wt_expand.specs.Work.{Pages}
use Rattle.wt_part_laws.specs.CallPieces.{AreOwnOrGiven, CallPiece, own, given, call_pieces}
use Rattle.wt_part_laws.specs.Expanded.{part_items, calls_in}
use Rattle.wt_text_edit_laws.specs.Contents.{content_parts_of}
use Rattle.wt_text_edit_laws.specs.ReadContents.{IsReadContent}
use Rattle.wt_text_edit_laws.specs.TextBlocks.{a_paragraph, a_heading, source_of}
use Rattle.wt_text_edit_laws.specs.TypedHeadings.{Sides, EndsWithout, is_equals_sign}
use Rattle.wt_beside_laws.specs.Called.{GivesGroup, AllSeenIn}
use Rattle.wt_beside_laws.specs.FlatBlocks.{IsSealed}
use Rattle.wt_beside_laws.specs.Shown.{parts_shown_at}
use Rattle.wt_called_edit_laws.specs.CalledContents.{AreTextItems, AreHeadingItems}
use Rattle.wt_called_edit_laws.specs.InPieces.{pieces_source, AreInPieces}
use Rattle.wt_called_edit_laws.specs.PageThings.{ArePageThings, thing_sources}
use Rattle.wt_called_edit_laws.specs.PartTexts.{AreSourcesAt}
use Rattle.wt_called_edit_laws.specs.WholeContents.{AreGroups, ArePartsIn, AreShutParts}
use Rattle.wt_called_edit_laws.specs.Written.{IsCallSource, BeginsOutward, EndsOutward, IsOwnPart}
use Rattle.wt_called_edit_laws.specs.WrittenAnew.{StayButForOthers}

-- a character of these is of the page, or some item of a node
abbrev pub HasOwn : List Part → Type 0
HasOwn [] = ⊥
HasOwn (loose k None b ∷ ps) = Unit {0}
HasOwn (loose k (Some j) b ∷ ps) = HasOwn ps
HasOwn (node t ∷ ps) = (list_any is_page (tree_items t) ≡ true) ⊎ HasOwn ps

-- It is cut in pieces, each of which is one of its nodes (calls among them) or calls nothing, and is read by itself. However many calls come before it,
-- what its pieces give are lines of text: characters and nodes, each of the page or of a call, as this gives it on a line by itself, and bold and italic round
-- such; none of the page's ends in an open tag; one of these at least is the page's own.
pub record IsInPieces (pages : Pages) (q : List ℕ) : Type 0 where
  pub pieces : List (List ℕ)
  pub is : pieces_source pieces ≡ q
  pub parts : AreInPieces pages pieces
  pub nodes : List Thing
  pub things : ArePageThings pages nodes
  pub among : StayButForOthers pages pieces (thing_sources nodes)
  pub read : IsReadContent a_paragraph q
  pub lines : (i : ℕ) → AreTextItems (part_items pages i q)
  pub texts : (calls : List OuterCall) (i : ℕ) → AreSourcesAt calls i (expanded_page pages q).outer
      → ArePartsIn calls (part_items pages i q) (content_parts_of a_paragraph (part_items pages i q))
  pub groups : (i : ℕ) → AreGroups (part_items pages i q) (call_pieces (children (content_parts_of a_paragraph (part_items pages i q))))
  pub shut : (i : ℕ) → AreShutParts (content_parts_of a_paragraph (part_items pages i q))
  pub some : (i : ℕ) → HasOwn (content_parts_of a_paragraph (part_items pages i q))

-- So a heading: what its pieces give is on one line, keeps its level, and begins and ends with no blank; what each node gives ends with no blank and no `=`.
pub record IsHeadingInPieces (pages : Pages) (s : Sides) (q : List ℕ) : Type 0 where
  pub pieces : List (List ℕ)
  pub is : pieces_source pieces ≡ q
  pub parts : AreInPieces pages pieces
  pub nodes : List Thing
  pub things : ArePageThings pages nodes
  pub among : StayButForOthers pages pieces (thing_sources nodes)
  pub seen : AllSeenIn pages nodes
  pub read : IsReadContent (a_heading s) q
  pub line : (i : ℕ) → AreHeadingItems s (part_items pages i q)
  pub texts : (calls : List OuterCall) (i : ℕ) → AreSourcesAt calls i (expanded_page pages (source_of (a_heading s) q)).outer
      → ArePartsIn calls (part_items pages i q) (content_parts_of (a_heading s) (part_items pages i q))
  pub groups : (i : ℕ) → AreGroups (part_items pages i q) (call_pieces (children (content_parts_of (a_heading s) (part_items pages i q))))
  pub shut : (i : ℕ) → AreShutParts (content_parts_of (a_heading s) (part_items pages i q))

-- ---- texts and calls alone

-- a call that gives nodes which may be a group wherever it is, and shows the same however many calls come before it; it stays what it is beside text, is a
-- part of the page by itself, closes no tag behind it and ends in no open one
pub record IsGroupCall (pages : Pages) (source : List ℕ) : Type 0 where
  pub gives : (g : Transclusion) → GivesGroup pages g source
  pub nodes : (i : ℕ) → (t : ItemTree) × (ts : List ItemTree) × (children (line_parts (part_items pages i source)) ≡ t ∷ ts)
  pub alike : (i j : ℕ) (rest : Plains)
      → parts_shown_at 0 [] (line_parts (part_items pages i source)) rest ≡ parts_shown_at 0 [] (line_parts (part_items pages j source)) rest
  pub call : IsCallSource source
  pub begins : BeginsOutward source
  pub ends : EndsOutward source
  pub part : IsOwnPart pages source
  pub sealed : IsSealed source
  pub shut : ends_open source ≡ false
  pub utf8 : IsUtf8 source

-- each piece is such a call, or calls nothing
abbrev pub AreTextsOrCalls : Pages → List (List ℕ) → Type 0
AreTextsOrCalls pages [] = Unit {0}
AreTextsOrCalls pages (b ∷ bs) = (((expanded_page pages b).outer ≡ []) ⊎ IsGroupCall pages b) × AreTextsOrCalls pages bs

-- how long the text is that comes next; behind the last piece nothing does
abbrev pub gap : Pages → List (List ℕ) → ℕ
gap pages [] = 1
gap pages (b ∷ bs) = if calls_in pages b == 0 then length b else 0

-- a text is behind each call, or nothing
abbrev pub AreCallsApart : Pages → List (List ℕ) → Type 0
AreCallsApart pages [] = Unit {0}
AreCallsApart pages (b ∷ bs) = ((calls_in pages b ≡ 0) ⊎ (0 < gap pages bs)) × AreCallsApart pages bs

-- what a call gives, if it gives a node
abbrev pub group_piece : ℕ → List ItemTree → List CallPiece
group_piece j [] = []
group_piece j (t ∷ ts) = given j t ts ∷ []

-- a text, or what a call gives on a line by itself
abbrev pub piece_of : Bool → ℕ → List Item → List CallPiece
piece_of true i xs = own (loose_leaf Text xs) ∷ []
piece_of false i xs = group_piece i (children (line_parts xs))

-- so each piece, where so many calls come before
abbrev pub all_pieces : Pages → ℕ → List (List ℕ) → List CallPiece
all_pieces pages i [] = []
all_pieces pages i (b ∷ bs) = piece_of (calls_in pages b == 0) i (part_items pages i b) ++ all_pieces pages (i + calls_in pages b) bs

-- A paragraph of texts and calls, one after the other: what its pieces give is as above, each text one node, and what each call gives a group of its own.
pub record IsTextAndCalls (pages : Pages) (q : List ℕ) : Type 0 where
  pub pieces : List (List ℕ)
  pub is : pieces_source pieces ≡ q
  pub parts : AreInPieces pages pieces
  pub each : AreTextsOrCalls pages pieces
  pub read : IsReadContent a_paragraph q
  pub lines : (i : ℕ) → AreTextItems (part_items pages i q)
  pub texts : (i : ℕ) → AreOwnOrGiven (content_parts_of a_paragraph (part_items pages i q))
  pub groups : (i : ℕ) → AreGroups (part_items pages i q) (call_pieces (children (content_parts_of a_paragraph (part_items pages i q))))
  pub shut : (i : ℕ) → AreShutParts (content_parts_of a_paragraph (part_items pages i q))
  pub some : (i : ℕ) → HasOwn (content_parts_of a_paragraph (part_items pages i q))
  pub nodes : (i : ℕ) → call_pieces (children (content_parts_of a_paragraph (part_items pages i q))) ≡ all_pieces pages i pieces

-- what is last in what a piece gives is no blank and no `=`
abbrev pub IsSeenPiece : Pages → List ℕ → Type 0
IsSeenPiece pages b = (i : ℕ) → EndsWithout is_blank (map sign (part_items pages i b)) × EndsWithout is_equals_sign (map sign (part_items pages i b))

-- so it is of each that calls
abbrev pub AreSeenPieces : Pages → List (List ℕ) → Type 0
AreSeenPieces pages [] = Unit {0}
AreSeenPieces pages (b ∷ bs) = (((expanded_page pages b).outer ≡ []) ⊎ IsSeenPiece pages b) × AreSeenPieces pages bs

-- A heading of texts and such calls, one after the other.
pub record IsHeadingOfCalls (pages : Pages) (s : Sides) (q : List ℕ) : Type 0 where
  pub pieces : List (List ℕ)
  pub is : pieces_source pieces ≡ q
  pub parts : AreInPieces pages pieces
  pub each : AreTextsOrCalls pages pieces
  pub seen : AreSeenPieces pages pieces
  pub read : IsReadContent (a_heading s) q
  pub line : (i : ℕ) → AreHeadingItems s (part_items pages i q)
  pub texts : (i : ℕ) → AreOwnOrGiven (content_parts_of (a_heading s) (part_items pages i q))
  pub groups : (i : ℕ) → AreGroups (part_items pages i q) (call_pieces (children (content_parts_of (a_heading s) (part_items pages i q))))
  pub shut : (i : ℕ) → AreShutParts (content_parts_of (a_heading s) (part_items pages i q))
  pub nodes : (i : ℕ) → call_pieces (children (content_parts_of (a_heading s) (part_items pages i q))) ≡ all_pieces pages i pieces
