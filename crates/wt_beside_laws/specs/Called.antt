-- A content among whose nodes are calls: what each node is in the page, by the items that it has there.
use Rattle.std.specs.Prelude.{◌≡◌, ◌⊎◌, ℕ, ◌+◌, ◌==◌, Bool, true, false, Option, None, Some, List, [], ◌∷◌, ◌++◌, length, map, if◌then◌else◌, encode_utf8}
use Rattle.std.specs.List.{list_any}
use Rattle.wt_tree.specs.Plain.{Plains, text_before}
use Rattle.wt_span.specs.Bytes.{is_blank}
use Rattle.wt_span.specs.Characters as byte
use Rattle.wt_span.specs.Items.{Item, sign}
use Rattle.wt_tree.specs.declared.edit_shape.Place.TheVariants as place
use Rattle.wt_guards.specs.declared.role.Role.{Role}
use Rattle.wt_guards.specs.declared.role.Role.TheVariants.{Link, External, Bare, Switch, Toggle, Mark, Group, Function, Node}
use Rattle.wt_guards.specs.declared.role.Transclusion.{Transclusion}
use Rattle.wt_guards.specs.Content.{ContentSign, Thing, letter, thing, nearest, is_group}
use Rattle.wt_guards.specs.Guards.{Setting, is_guarded, is_mark, is_new_at_start}
use Rattle.wt_guards.specs.Letters.{is_escaped}
use Rattle.wt_expand.specs.PageCalls.{numbered, page_stretches, expanded_page}
use Rattle.wt_expand.specs.Work.{Pages}
use Rattle.wt_inline.specs.declared.loose.Loose.TheVariants.{Text, Sep}
use Rattle.wt_inline.specs.Parts.{Part, loose, node, parts, held_parts}
use Rattle.wt_context.specs.Line.{line_parts}
use Rattle.wt_annotated.specs.Clean.{is_page}
use Rattle.wt_lines.specs.Lines.{IsUnbroken}
use Rattle.wt_tiles.specs.declared.glyph.Glyph.{Glyph}
use Rattle.wt_tiles.specs.declared.glyph.GlyphClass.TheVariants as class
use Rattle.wt_tiles.specs.Glyphs.{glyph_of, in_class}
use Rattle.wt_tiles.specs.Urls.{scheme_len, is_url_glyph}
use Rattle.wt_part_laws.specs.CallPieces.{AreOwnOrGiven}
use Rattle.wt_part_laws.specs.Rounded.{IsOwn}
use Rattle.wt_beside_laws.specs.Content.{guard_items, letter_items}
use Rattle.wt_beside_laws.specs.Cuts.{own_glyphs, ends_word}
use Rattle.wt_beside_laws.specs.Flat.{IsFlat, AreFlat}
use Rattle.wt_beside_laws.specs.Given.{IsGroup}
use Rattle.wt_text_edit_laws.specs.TypedHeadings.{EndsWithout, is_equals_sign}
use Rattle.wt_beside_laws.specs.InHeadings.{AreOnOneLine}
use Rattle.wt_beside_laws.specs.Lines.{AreCharacters}
use Rattle.wt_beside_laws.specs.NodeItems.{node_items}
use Rattle.wt_beside_laws.specs.Nodes.{IsNode, OpensNoPair, IsBeforeQuotes, MayFollow, MayLead}
use Rattle.wt_beside_laws.specs.RoundCalls.{IsRoundCalls, AreShutCalls}
use Rattle.wt_beside_laws.specs.Shown.{parts_shown_at}
use Rattle.wt_beside_laws.specs.Stood.{things}

-- ---- the items, where those of each node are given, in the order of the nodes

abbrev pub items_with : Setting → List ContentSign → List ContentSign → List (List Item) → List Item
items_with s before [] owns = guard_items (is_guarded s before [])
items_with s before (letter c ∷ after) owns =
    guard_items (is_guarded s before (letter c ∷ after)) ++ (letter_items (is_escaped s.within s.place before c after) c ++ items_with s (letter c ∷ before) after owns)
items_with s before (thing t ∷ after) [] = guard_items (is_guarded s before (thing t ∷ after))
items_with s before (thing t ∷ after) (own ∷ owns) = guard_items (is_guarded s before (thing t ∷ after)) ++ (own ++ items_with s (thing t ∷ before) after owns)

-- in a folder, where so many calls come before the content: each node's source is a part of the page
abbrev pub owns_in : Pages → ℕ → List ContentSign → List (List Item)
owns_in pages i [] = []
owns_in pages i (letter c ∷ after) = owns_in pages i after
owns_in pages i (thing t ∷ after) = numbered i (page_stretches pages t.source) ∷ owns_in pages (i + length (expanded_page pages t.source).outer) after

-- up to the end of the line
abbrev pub line_with : Setting → List ContentSign → List ContentSign → List (List Item) → List Item
line_with s before [] owns = guard_items (is_guarded s before [])
line_with s before (letter c ∷ after) owns =
    guard_items (is_guarded s before (letter c ∷ after))
    ++ (if c == byte.line_break then [] else letter_items (is_escaped s.within s.place before c after) c ++ line_with s (letter c ∷ before) after owns)
line_with s before (thing t ∷ after) [] = guard_items (is_guarded s before (thing t ∷ after))
line_with s before (thing t ∷ after) (own ∷ owns) = guard_items (is_guarded s before (thing t ∷ after)) ++ (own ++ line_with s (thing t ∷ before) after owns)

-- the lines behind it
abbrev pub later_with : Setting → List ContentSign → List ContentSign → List (List Item) → List (List Item)
later_with s before [] owns = []
later_with s before (letter c ∷ after) owns =
    if c == byte.line_break then line_with s (letter c ∷ before) after owns ∷ later_with s (letter c ∷ before) after owns
    else later_with s (letter c ∷ before) after owns
later_with s before (thing t ∷ after) [] = []
later_with s before (thing t ∷ after) (own ∷ owns) = later_with s (thing t ∷ before) after owns

abbrev pub lines_with : Setting → List ContentSign → List (List Item) → List (List Item)
lines_with s signs owns = line_with s [] signs owns ∷ later_with s [] signs owns

-- ---- what they are as the parts of a paragraph or a heading

-- each node is what its items are on a line by themselves
abbrev pub parts_with : Setting → List ContentSign → List ContentSign → List (List Item) → List Part
parts_with s before [] owns = parts Text (guard_items (is_guarded s before []))
parts_with s before (letter c ∷ after) owns =
    parts Text (guard_items (is_guarded s before (letter c ∷ after)))
    ++ (parts Text (letter_items (is_escaped s.within s.place before c after) c) ++ parts_with s (letter c ∷ before) after owns)
parts_with s before (thing t ∷ after) [] = parts Text (guard_items (is_guarded s before (thing t ∷ after)))
parts_with s before (thing t ∷ after) (own ∷ owns) =
    parts Text (guard_items (is_guarded s before (thing t ∷ after))) ++ (line_parts own ++ parts_with s (thing t ∷ before) after owns)

-- up to the end of the line
abbrev pub line_parts_with : Setting → List ContentSign → List ContentSign → List (List Item) → List Part
line_parts_with s before [] owns = parts Text (guard_items (is_guarded s before []))
line_parts_with s before (letter c ∷ after) owns =
    parts Text (guard_items (is_guarded s before (letter c ∷ after)))
    ++ (if c == byte.line_break then [] else parts Text (letter_items (is_escaped s.within s.place before c after) c) ++ line_parts_with s (letter c ∷ before) after owns)
line_parts_with s before (thing t ∷ after) [] = parts Text (guard_items (is_guarded s before (thing t ∷ after)))
line_parts_with s before (thing t ∷ after) (own ∷ owns) =
    parts Text (guard_items (is_guarded s before (thing t ∷ after))) ++ (line_parts own ++ line_parts_with s (thing t ∷ before) after owns)

-- ---- the nodes

-- one of the page, on one line, by its items there, of which calls may give some; a mark is within its line, and it is no tag that opens a pair without a
-- closing tag
pub record IsOwnNode (t : Thing) (own : List Item) : Type 0 where
  pub node : IsNode t.role (map glyph_of own)
  pub closed : OpensNoPair (map glyph_of own)
  pub inside : is_mark t.role ≡ true → is_new_at_start t.role ≡ true
  pub unbroken : IsUnbroken own

-- The items of a group are what one call gives; those of any other node are one form of the page, and of a
-- style delimiter its apostrophes.
abbrev pub IsGivenAs : Role → Thing → List Item → Type 0
IsGivenAs Link t own = IsOwnNode t own
IsGivenAs External t own = IsOwnNode t own
IsGivenAs (Bare ends) t own = IsOwnNode t own
IsGivenAs Switch t own = IsOwnNode t own
IsGivenAs Toggle t own = (own ≡ node_items t.source) × IsOwnNode t own
IsGivenAs (Mark ends began) t own = IsOwnNode t own
IsGivenAs (Group g) t own = (j : ℕ) × IsGroup g j own
IsGivenAs Function t own = IsOwnNode t own
IsGivenAs Node t own = IsOwnNode t own

abbrev pub AreGiven : List ContentSign → List (List Item) → Type 0
AreGiven [] [] = Unit {0}
AreGiven [] (own ∷ owns) = ⊥
AreGiven (letter c ∷ after) owns = AreGiven after owns
AreGiven (thing t ∷ after) [] = ⊥
AreGiven (thing t ∷ after) (own ∷ owns) = IsGivenAs t.role t own × AreGiven after owns

-- What each is on a line by itself: characters, and nodes of the page or of a call, of which none is empty; or a node of the page round calls.
abbrev pub AreOwnInside : List (List Item) → Type 0
AreOwnInside [] = Unit {0}
AreOwnInside (own ∷ owns) = (AreOwnOrGiven (line_parts own) ⊎ IsRoundCalls own) × AreOwnInside owns

-- ---- two side by side, by what they give

-- what may be first behind a group: no letter that joins a link, and nothing that goes on with a URL, if one may be last in it
abbrev pub MayBeBehindGroup : Bool → Glyph → Type 0
MayBeBehindGroup slashes g = (in_class class.Trail g ≡ false) × (slashes ≡ true → is_url_glyph g ≡ false)

-- or two apostrophes, if none is last in what it gives: a URL ends before them
abbrev pub MayFollowGroup : Bool → List Glyph → List Glyph → Type 0
MayFollowGroup slashes own [] = Unit {0}
MayFollowGroup slashes own (g ∷ gs) = MayBeBehindGroup slashes g ⊎ IsBeforeQuotes own (g ∷ gs)

-- what may be read behind a node that gives these
abbrev pub BehindMay : Role → List Glyph → List Glyph → Type 0
BehindMay Link own more = MayFollow Link own more
BehindMay External own more = MayFollow External own more
BehindMay (Bare ends) own more = MayFollow (Bare ends) own more
BehindMay Switch own more = MayFollow Switch own more
BehindMay Toggle own more = MayFollow Toggle own more
BehindMay (Mark ends began) own more = MayFollow (Mark ends began) own more
BehindMay (Group g) own more = MayFollowGroup g.slashes own more
BehindMay Function own more = MayFollow Function own more
BehindMay Node own more = MayFollow Node own more

-- before a group that begins with a URL is no letter, digit or `_`, as before a URL
abbrev pub LeadMay : Role → List Glyph → Bool → Type 0
LeadMay Link own word = MayLead Link word
LeadMay External own word = MayLead External word
LeadMay (Bare ends) own word = MayLead (Bare ends) word
LeadMay Switch own word = MayLead Switch word
LeadMay Toggle own word = MayLead Toggle word
LeadMay (Mark ends began) own word = MayLead (Mark ends began) word
LeadMay (Group g) own word = (word ≡ false) ⊎ (scheme_len own ≡ 0)
LeadMay Function own word = MayLead Function word
LeadMay Node own word = MayLead Node word

-- two nodes that give these, as they may stand in the page
abbrev pub MayMeet : Thing → List Glyph → Thing → List Glyph → Type 0
MayMeet t left n right = BehindMay t.role left right × LeadMay n.role right (ends_word false left)

-- a node behind what is nearest before it, where that gives these
abbrev pub MeetsNearest : Option ContentSign → List Glyph → Thing → List Glyph → Type 0
MeetsNearest None left n right = Unit {0}
MeetsNearest (Some (letter c)) left n right = Unit {0}
MeetsNearest (Some (thing t)) left n right = MayMeet t left n right

-- Two nodes between which nothing is put. The nearest one before gives these.
abbrev pub AllMeetWith : Setting → List ContentSign → List Item → List ContentSign → List (List Item) → Type 0
AllMeetWith s before last [] owns = Unit {0}
AllMeetWith s before last (letter c ∷ after) owns = AllMeetWith s (letter c ∷ before) [] after owns
AllMeetWith s before last (thing n ∷ after) [] = Unit {0}
AllMeetWith s before last (thing n ∷ after) (own ∷ owns) =
    (is_guarded s before (thing n ∷ after) ≡ false → MeetsNearest (nearest before) (map glyph_of last) n (map glyph_of own))
    × AllMeetWith s (thing n ∷ before) own after owns

-- ---- a content with something of the page

-- Behind some signs: a letter is among these, or a node that is no group, or `<nowiki/>` is put somewhere.
abbrev pub HasUncalled : Setting → List ContentSign → List ContentSign → Type 0
HasUncalled s before [] = is_guarded s before [] ≡ true
HasUncalled s before (letter c ∷ after) = Unit {0}
HasUncalled s before (thing t ∷ after) =
    (is_guarded s before (thing t ∷ after) ≡ true) ⊎ ((is_group t.role ≡ false) ⊎ HasUncalled s (thing t ∷ before) after)

-- Texts that are typed beside calls, and beside nodes that stay. Some item of it is the page's own: of calls alone a paragraph is a part of their group.
pub record IsCalledContent (s : Setting) (signs : List ContentSign) (owns : List (List Item)) : Type 0 where
  pub of_block : s.within ≡ false
  pub characters : AreCharacters signs
  pub given : AreGiven signs owns
  pub flat : AreFlat signs
  pub own : AreOwnInside owns
  pub meet : AllMeetWith s [] [] signs owns
  pub some : list_any is_page (held_parts (parts_with s [] signs owns)) ≡ true

-- ---- a heading

-- none ends with a blank or with `=`
abbrev pub AllEndSeen : List (List Item) → Type 0
AllEndSeen [] = Unit {0}
AllEndSeen (own ∷ owns) = EndsWithout is_blank (map sign own) × EndsWithout is_equals_sign (map sign own) × AllEndSeen owns

-- The same in a heading: it is on one line, and may have no letter, since its `=` are the page's.
pub record IsCalledHeading (s : Setting) (signs : List ContentSign) (owns : List (List Item)) : Type 0 where
  pub of_block : s.within ≡ false
  pub of_heading : s.place ≡ place.Heading
  pub one_line : AreOnOneLine signs
  pub characters : AreCharacters signs
  pub given : AreGiven signs owns
  pub flat : AreFlat signs
  pub own : AreOwnInside owns
  pub meet : AllMeetWith s [] [] signs owns
  pub end_seen : AllEndSeen owns

-- ---- what it shows

-- the texts, and each node as its items show by themselves
abbrev pub called_shown : List ContentSign → List (List Item) → Plains → Plains
called_shown [] owns rest = rest
called_shown (letter c ∷ after) owns rest = text_before (encode_utf8 c) (called_shown after owns rest)
called_shown (thing t ∷ after) [] rest = rest
called_shown (thing t ∷ after) (own ∷ owns) rest = parts_shown_at 0 [] (line_parts own) (called_shown after owns rest)

-- ---- in a folder

-- It is one call, which gives what a group may give, however many calls come before it.
abbrev pub GivesGroup : Pages → Transclusion → List ℕ → Type 0
GivesGroup pages g source = (i : ℕ) → IsGroup g i (numbered i (page_stretches pages source))

-- characters and nodes of the page, of which none is empty
abbrev pub ArePageParts : List Part → Type 0
ArePageParts [] = Unit {0}
ArePageParts (loose Text o b ∷ ps) = (o ≡ None) × ArePageParts ps
ArePageParts (loose Sep o b ∷ ps) = ⊥
ArePageParts (node t ∷ ps) = IsOwn t × ArePageParts ps

-- there are some
abbrev pub AreSomeOfPage : List Part → Type 0
AreSomeOfPage [] = ⊥
AreSomeOfPage (p ∷ ps) = ArePageParts (p ∷ ps)

-- It calls nothing, and is a node of the page, on one line, in which no node is empty, and no tag that opens a pair without a closing tag.
pub record StaysAsItIs (pages : Pages) (t : Thing) : Type 0 where
  pub items : (i : ℕ) → numbered i (page_stretches pages t.source) ≡ node_items t.source
  pub flat : IsFlat t.role
  pub node : IsNode t.role (own_glyphs t)
  pub closed : OpensNoPair (own_glyphs t)
  pub inside : is_mark t.role ≡ true → is_new_at_start t.role ≡ true
  pub unbroken : IsUnbroken (node_items t.source)
  pub own : AreSomeOfPage (line_parts (node_items t.source))

-- Or it is a node of the page, on one line, round calls, of which none ends in an open tag, however many calls come before it.
pub record StaysRound (pages : Pages) (t : Thing) : Type 0 where
  pub flat : IsFlat t.role
  pub node : (i : ℕ) → IsOwnNode t (numbered i (page_stretches pages t.source))
  pub round : (i : ℕ) → IsRoundCalls (numbered i (page_stretches pages t.source))
  pub calls : AreShutCalls (expanded_page pages t.source).outer

-- a link or a pair of tags may be round calls
abbrev pub IsOfFolder : Role → Pages → Thing → Type 0
IsOfFolder Link pages t = StaysAsItIs pages t ⊎ StaysRound pages t
IsOfFolder External pages t = StaysAsItIs pages t ⊎ StaysRound pages t
IsOfFolder (Bare ends) pages t = StaysAsItIs pages t
IsOfFolder Switch pages t = StaysAsItIs pages t
IsOfFolder Toggle pages t = StaysAsItIs pages t
IsOfFolder (Mark ends began) pages t = StaysAsItIs pages t
IsOfFolder (Group g) pages t = GivesGroup pages g t.source
IsOfFolder Function pages t = StaysAsItIs pages t
IsOfFolder Node pages t = StaysAsItIs pages t ⊎ StaysRound pages t

abbrev pub AreOfFolder : Pages → List ContentSign → Type 0
AreOfFolder pages [] = Unit {0}
AreOfFolder pages (letter c ∷ after) = AreOfFolder pages after
AreOfFolder pages (thing t ∷ after) = IsOfFolder t.role pages t × AreOfFolder pages after

-- Texts that are typed beside calls, with what these give in a folder.
pub record IsCalledIn (pages : Pages) (s : Setting) (signs : List ContentSign) : Type 0 where
  pub of_block : s.within ≡ false
  pub characters : AreCharacters signs
  pub given : AreOfFolder pages signs
  pub meet : (i : ℕ) → AllMeetWith s [] [] signs (owns_in pages i signs)
  pub some : HasUncalled s [] signs

-- ---- in a heading

-- what is last in what each gives is no blank and no `=`
abbrev pub IsSeenIn : Pages → Thing → Type 0
IsSeenIn pages t =
    (i : ℕ) → EndsWithout is_blank (map sign (numbered i (page_stretches pages t.source))) × EndsWithout is_equals_sign (map sign (numbered i (page_stretches pages t.source)))

abbrev pub AllSeenIn : Pages → List Thing → Type 0
AllSeenIn pages [] = Unit {0}
AllSeenIn pages (t ∷ ts) = IsSeenIn pages t × AllSeenIn pages ts

-- The same in a heading: it is on one line, and may have no letter.
pub record IsCalledInHeading (pages : Pages) (s : Setting) (signs : List ContentSign) : Type 0 where
  pub of_block : s.within ≡ false
  pub of_heading : s.place ≡ place.Heading
  pub one_line : AreOnOneLine signs
  pub characters : AreCharacters signs
  pub given : AreOfFolder pages signs
  pub meet : (i : ℕ) → AllMeetWith s [] [] signs (owns_in pages i signs)
  pub end_seen : AllSeenIn pages (things signs)
