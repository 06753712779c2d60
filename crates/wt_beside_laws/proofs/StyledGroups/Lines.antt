-- A line of a content with styles among whose signs are calls, as segments among which styles nest.
use Rattle.std.proofs.Common.{arith, ◌≡◌, inl, inr, ℕ, ◌==◌, Bool, true, false, not, Option, Some, None, List, [], ◌∷◌, ◌++◌, length, map, ap, append-nil, refl, subst, sym, ◌||◌, ◌∙◌}
use Rattle.std.specs.Prelude.{if◌then◌else◌, ◌&&◌}
use Rattle.wt_span.specs.Items.{Item}
use Rattle.wt_guards.specs.Content.{ContentSign, Thing, letter, thing}
use Rattle.wt_guards.specs.Guards.{Setting, is_guarded}
use Rattle.wt_guards.specs.Letters.{is_escaped}
use Rattle.wt_guards.specs.declared.role.Stretch.{Stretch}
use Rattle.wt_tiles.specs.Contexts.{in_line}
use Rattle.wt_tiles.specs.Glyphs.{glyph_of}
use Rattle.wt_tiles.specs.Tiles.{Cut, cuts}
use Rattle.wt_inline.specs.ItemTree.{ItemTree, inner}
use Rattle.wt_inline.specs.Parts.{Part, loose, node, parts}
use Rattle.wt_inline.specs.declared.loose.Loose.TheVariants.{Sep, Text}
use Rattle.wt_context.proofs.NestedContexts.{contexts_are}
use Rattle.wt_context.specs.Chunks.{begins_with_quote}
use Rattle.wt_context.specs.Line.{line_parts}
use Rattle.wt_context.specs.Segments.{Segment, loose_segments}
use Rattle.wt_context.specs.Styled.{with_styles}
use Rattle.wt_part_laws.specs.Rounded.{IsOwn}
use Rattle.wt_beside_laws.proofs.Groups.CalledLines.{line_is}
use Rattle.wt_beside_laws.proofs.Groups.CalledTiles.{line_cuts_are}
use Rattle.wt_beside_laws.proofs.Groups.Gifts.{IsGift, all_gifts, gift_of, line_cut_with, toggle_signs}
use Rattle.wt_beside_laws.proofs.Groups.GivenParts.{given_read, signs_line}
use Rattle.wt_beside_laws.proofs.LineSegments.{segments_are}
use Rattle.wt_beside_laws.proofs.Styled.NestForests.{nests_read}
use Rattle.wt_beside_laws.proofs.Styled.NestReads.{IsTail, NestRead, enclosed_read, nothing_read}
use Rattle.wt_beside_laws.proofs.Styled.NestRuns.{marks_first}
use Rattle.wt_beside_laws.proofs.Styled.StyledLines.{MayEnd, Read, break_ends, cut_line, delimiter_added, ended_read, guard_read, letter_read, within_style}
use Rattle.wt_beside_laws.proofs.Styled.StyledSigns.{after_delimiter, behind_quoted, is_quoted, is_quoted_last, quote_behind, quote_next, raw_next}
use Rattle.wt_beside_laws.proofs.StyledGroups.Nesting.{neither, nest_parts, nest_rest, plain_nests}
use Rattle.wt_beside_laws.specs.Called.{AllMeetWith, AreGiven, ArePageParts, AreSomeOfPage, line_with}
use Rattle.wt_beside_laws.specs.Content.{guard_items, letter_items}
use Rattle.wt_beside_laws.specs.Cuts.{add_node, guard_cut, letter_cut, own_form}
use Rattle.wt_beside_laws.specs.Flat.{IsFlat}
use Rattle.wt_beside_laws.specs.Given.{AreGivenSigns, AreNestedGiven, AreNestedSigns, GivenContent, GivenSign, character, form, given_cut, given_end, given_items, given_parts, given_sign, given_style, opens_quoted, signs_of}
use Rattle.wt_beside_laws.specs.Nests.{mark_segments, nest_segments, style_of, style_tree}
use Rattle.wt_beside_laws.specs.NodeItems.{node_items}
use Rattle.wt_beside_laws.specs.RoundCalls.{IsRoundCalls, IsUnstyled}
use Rattle.wt_beside_laws.specs.Styled.{AreNested, StyledContent, delimiter, finished, mark_source, sign, signs_before, signs_past, styled}
use Rattle.wt_beside_laws.specs.StyledCalls.{AreOwnAt, AreUnstyledParts, IsOwnAt, PartsNestIn, owns_left, owns_past, styled_with}

-- ---- what is given behind a content

-- behind a delimiter
abbrev pub past_mark : (kind : Bool) (place : Option Stretch) (signs : List ContentSign) (owns : List (List Item)) → AreGiven (delimiter kind place ∷ signs) owns
    → AreGiven signs (owns_left owns)
past_mark kind place signs [] h = absurd h
past_mark kind place signs (own ∷ owns) h = h.1

abbrev pub given_behind : (t : StyledContent) (after : List ContentSign) (owns : List (List Item)) → AreGiven (signs_before t after) owns → AreGiven after (owns_past t owns)
given_behind finished after owns h = h
given_behind (sign (letter c) t) after owns h = given_behind t after owns h
given_behind (sign (thing x) t) after [] h = absurd h
given_behind (sign (thing x) t) after (own ∷ owns) h = given_behind t after owns h.1
given_behind (styled kind opening closing inside t) after owns h =
    let signs : List ContentSign = signs_before t after in
    let closes : List ContentSign = delimiter kind closing ∷ signs in
    let inner : List (List Item) = owns_left owns in
    given_behind t after (owns_left (owns_past inside inner))
    (past_mark kind closing signs (owns_past inside inner)
    (given_behind inside closes inner (past_mark kind opening (signs_before inside closes) owns h)))

-- a delimiter gives its apostrophes
pub mark_line : (s : Setting) (before : List ContentSign) (kind : Bool) (place : Option Stretch) (signs : List ContentSign) (owns : List (List Item))
    → AreGiven (delimiter kind place ∷ signs) owns
    → line_with s before (delimiter kind place ∷ signs) owns
    ≡ guard_items (is_guarded s before (delimiter kind place ∷ signs)) ++ (node_items (mark_source kind) ++ line_with s (delimiter kind place ∷ before) signs (owns_left owns))
mark_line s before kind place signs [] h = absurd h
mark_line s before kind place signs (own ∷ owns) h =
    let guard : List Item = guard_items (is_guarded s before (delimiter kind place ∷ signs)) in
    let rest : List Item = line_with s (delimiter kind place ∷ before) signs owns in
    ap (λ (xs : List Item). guard ++ (xs ++ rest)) h.0.0

-- ---- the tiles of a line, by what is given

abbrev pub line_cut_of : (s : Setting) (before signs : List ContentSign) (owns : List (List Item)) → AreGiven signs owns → Cut
line_cut_of s before signs owns h = line_cut_with s before signs owns (all_gifts signs owns h)

-- a delimiter is one by itself
mark_cut : (s : Setting) (before : List ContentSign) (kind : Bool) (place : Option Stretch) (signs : List ContentSign) (owns : List (List Item))
    (h : AreGiven (delimiter kind place ∷ signs) owns)
    → line_cut_of s before (delimiter kind place ∷ signs) owns h
    ≡ guard_cut (is_guarded s before (delimiter kind place ∷ signs))
    (add_node (own_form in_line (map glyph_of (node_items (mark_source kind)))) (length (map glyph_of (node_items (mark_source kind))))
    (line_cut_of s (delimiter kind place ∷ before) signs (owns_left owns) (past_mark kind place signs owns h)))
mark_cut s before kind place signs [] h = absurd h
mark_cut s before kind place signs (own ∷ owns) h =
    let u : Bool = is_guarded s before (delimiter kind place ∷ signs) in
    let rest : Cut = line_cut_of s (delimiter kind place ∷ before) signs owns h.1 in
    ap (λ (gs : List GivenSign). guard_cut u (given_cut gs rest)) (toggle_signs (mark_source kind) place own h.0)
    ∙ ap (λ (xs : List Item). guard_cut u (add_node (own_form in_line (map glyph_of xs)) (length (map glyph_of xs)) rest)) h.0.0

-- ---- what a call gives, and a node that stays

-- in a style it is of the page, or a call that gives none of its kind
abbrev pub IsIn : Bool → Bool → Thing → List Item → Type 0
IsIn true italic x own = IsOwnAt true italic x own
IsIn false true x own = IsOwnAt false true x own
IsIn false false x own = Unit {0}

-- so each, delimiters apart
abbrev pub AreIn : Bool → Bool → StyledContent → List (List Item) → Type 0
AreIn bold italic finished owns = Unit {0}
AreIn bold italic (sign (letter c) t) owns = AreIn bold italic t owns
AreIn bold italic (sign (thing x) t) [] = Unit {0}
AreIn bold italic (sign (thing x) t) (own ∷ owns) = IsIn bold italic x own × AreIn bold italic t owns
AreIn bold italic (styled kind opening closing inside t) owns =
    AreIn (kind || bold) (not kind || italic) inside (owns_left owns) × AreIn bold italic t (owns_left (owns_past inside (owns_left owns)))

one_in : (bold italic : Bool) (x : Thing) (own : List Item) → IsOwnAt bold italic x own → IsIn bold italic x own
one_in true italic x own h = h
one_in false true x own h = h
one_in false false x own h = tt

pub own_in : (bold italic : Bool) (t : StyledContent) (owns : List (List Item)) → AreOwnAt bold italic t owns → AreIn bold italic t owns
own_in bold italic finished owns h = tt
own_in bold italic (sign (letter c) t) owns h = own_in bold italic t owns h
own_in bold italic (sign (thing x) t) [] h = absurd h
own_in bold italic (sign (thing x) t) (own ∷ owns) h = (one_in bold italic x own h.0, own_in bold italic t owns h.1)
own_in bold italic (styled kind opening closing inside t) owns h = (
  own_in (kind || bold) (not kind || italic) inside (owns_left owns) h.0,
  own_in bold italic t (owns_left (owns_past inside (owns_left owns))) h.1,
)

page_rest : (ps qs : List Part) → ArePageParts (ps ++ qs) → ArePageParts qs
page_rest [] qs h = h
page_rest (loose Text o b ∷ ps) qs h = page_rest ps qs h.1
page_rest (loose Sep o b ∷ ps) qs h = absurd h
page_rest (node t ∷ ps) qs h = page_rest ps qs h.1

style_given : (j : ℕ) (kind : Bool) (ps : List Part) → IsOwn (style_of (Some j) kind ps) → ⊥
style_given j true ps h = let no : false ≡ true = h.of_page in cc
style_given j false ps h = let no : false ≡ true = h.of_page in cc

-- what is of the page has no style of a call
nested_within : (bold italic : Bool) (j : ℕ) (t : GivenContent) → AreNestedGiven false false t → ArePageParts (given_parts j t) → AreNestedGiven bold italic t
nested_within bold italic j given_end k h = tt
nested_within bold italic j (given_sign (character b) t) k h = nested_within bold italic j t k h.1
nested_within bold italic j (given_sign (form r own) t) k h = (k.0, nested_within bold italic j t k.1 (page_rest (line_parts own) (given_parts j t) h))
nested_within bold italic j (given_style kind inside t) k h = absurd (style_given j kind (given_parts j inside) h.0)

some_page : (ps : List Part) → AreSomeOfPage ps → ArePageParts ps
some_page [] h = absurd h
some_page (p ∷ ps) h = h

unstyled_node : (t : ItemTree) → IsUnstyled t → AreUnstyledParts (node t ∷ [])
unstyled_node (inner h opening ts closing) u = (u, tt)

-- nor has a node of the page round calls
round_plain : (own : List Item) → IsRoundCalls own → AreUnstyledParts (line_parts own)
round_plain own r = subst AreUnstyledParts (sym r.is) (unstyled_node r.tree r.plain)

-- nor has what is given a style in one of its kind, where none comes into one
nested_other : (b i bold italic : Bool) (j : ℕ) (t : GivenContent) → AreNestedGiven b i t → PartsNestIn bold italic (given_parts j t)
    → AreNestedGiven (b || bold) (i || italic) t
nested_other b i bold italic j given_end k h = tt
nested_other b i bold italic j (given_sign (character c) t) k h = nested_other b i bold italic j t k h
nested_other b i bold italic j (given_sign (form r own) t) k h =
    (k.0, nested_other b i bold italic j t k.1 (nest_rest bold italic (line_parts own) (given_parts j t) h))
nested_other b i bold italic j (given_style true inside t) k h = (
  neither b bold k.0 h.0.0,
  k.1,
  k.2,
  nested_other true i bold italic j inside k.3 (nest_parts bold italic (given_parts j inside) h.0.1),
  k.4,
  nested_other b i bold italic j t k.5 h.1,
)
nested_other b i bold italic j (given_style false inside t) k h = (
  neither i italic k.0 h.0.0,
  k.1,
  k.2,
  nested_other b true bold italic j inside k.3 (nest_parts bold italic (given_parts j inside) h.0.1),
  k.4,
  nested_other b i bold italic j t k.5 h.1,
)

nested_in : (bold italic : Bool) (x : Thing) (own : List Item) (g : IsGift x own) (f : IsFlat x.role) → IsIn bold italic x own
    → AreNestedGiven bold italic (g.nested f).content
nested_in bold italic x own g f h = by bold italic h
  where
    line : line_parts own ≡ given_parts g.call (g.nested f).content
    line = ap line_parts g.is ∙ signs_line g.call g.signs (g.nested f) g.are

    within : (b i : Bool) → IsOwnAt b i x own → AreNestedGiven b i (g.nested f).content
    within b i (inl k) = nested_other false false b i g.call (g.nested f).content (g.nested f).nested (subst (PartsNestIn b i) line k.2)
    within b i (inr (inl k)) = nested_within b i g.call (g.nested f).content (g.nested f).nested (subst ArePageParts line (some_page (line_parts own) k))
    within b i (inr (inr r)) = nested_other false false b i g.call (g.nested f).content (g.nested f).nested (subst (PartsNestIn b i) line (plain_nests b i (line_parts own) (round_plain own r)))

    by : (b i : Bool) → IsIn b i x own → AreNestedGiven b i (g.nested f).content
    by true i k = within true i k
    by false true k = within false true k
    by false false k = (g.nested f).nested

any_read : (bold italic next any : Bool) (us vs : List Segment) (ps : List Part) → (any ≡ false → next ≡ false) → NestRead bold italic next us vs ps
    → NestRead bold italic any us vs ps
any_read bold italic next any us vs ps e r = record { nest = r.nest; is = r.is; nested = r.nested; shows = r.shows; first = λ z. r.first (e z) }

gift_read : (bold italic next any : Bool) (x : Thing) (own : List Item) (g : IsGift x own) (c : Cut) (xs : List Item) (vs : List Segment) (ps : List Part) → IsTail vs
    → (f : IsFlat x.role) → AreNestedGiven bold italic (g.nested f).content → (any ≡ false → is_quoted x.role ≡ false) → (is_quoted_last x.role ≡ true → next ≡ false)
    → Read bold italic next c xs vs ps → Read bold italic any (given_cut g.signs c) (own ++ xs) vs (line_parts own ++ ps)
gift_read bold italic next any x own g c xs vs ps tail f k a q r =
    let n : AreNestedSigns g.call g.signs = g.nested f in
    let t : GivenContent = n.content in
    let h : AreGivenSigns false (signs_of g.call t) = subst (AreGivenSigns false) n.is g.are in
    let all = given_read g.call bold italic false false next t [] c xs vs ps tail h k (λ z. absurd z) (λ e. q (g.closes f e)) r in
    let some : Read bold italic any (given_cut (signs_of g.call t) c) (given_items g.call (signs_of g.call t) ++ xs) vs (given_parts g.call t ++ ps) =
    any_read bold italic (opens_quoted t next) any (cut_line (given_cut (signs_of g.call t) c) (given_items g.call (signs_of g.call t) ++ xs)) vs (given_parts g.call t ++ ps)
    (λ z. g.opens f next (a z)) all in
    subst (λ (ys : List Item). Read bold italic any (given_cut g.signs c) (ys ++ xs) vs (line_parts ys ++ ps)) (sym g.is)
    (subst (λ (qs : List Part). Read bold italic any (given_cut g.signs c) (given_items g.call g.signs ++ xs) vs (qs ++ ps)) (sym (signs_line g.call g.signs n g.are))
    (subst (λ (ss : List GivenSign). Read bold italic any (given_cut ss c) (given_items g.call ss ++ xs) vs (given_parts g.call t ++ ps)) (sym n.is) some))

-- ---- the line, up to the signs `after`, of which the rest of the line is made behind what is put before them

record RestRead (s : Setting) (before after : List ContentSign) (owns : List (List Item)) (h : AreGiven after owns) (vs : List Segment) : Type 0 where
  cut : Cut
  items : List Item
  cut_is : line_cut_of s before after owns h ≡ guard_cut (is_guarded s before after) cut
  items_are : line_with s before after owns ≡ guard_items (is_guarded s before after) ++ items
  are : cut_line cut items ≡ vs
  first : raw_next s before after ≡ false → begins_with_quote vs ≡ false

end_read : (bold italic : Bool) (s : Setting) (before after : List ContentSign) (owns : List (List Item)) (h : AreGiven after owns) (vs : List Segment)
    → RestRead s before after owns h vs → Read bold italic (quote_next s before after) (line_cut_of s before after owns h) (line_with s before after owns) vs (parts Text (guard_items (is_guarded s before after)))
end_read bold italic s before after owns h vs r =
    let u = is_guarded s before after in
    subst (λ (c : Cut). Read bold italic (quote_next s before after) c (line_with s before after owns) vs (parts Text (guard_items u))) (sym r.cut_is)
    (subst (λ xs. Read bold italic (quote_next s before after) (guard_cut u r.cut) xs vs (parts Text (guard_items u))) (sym r.items_are)
    (subst (λ ps. Read bold italic (quote_next s before after) (guard_cut u r.cut) (guard_items u ++ r.items) vs ps) (append-nil (parts Text (guard_items u)))
    (guard_read bold italic (raw_next s before after) u r.cut r.items vs []
    (subst (λ us. NestRead bold italic (raw_next s before after) us vs []) (sym r.are) (nothing_read bold italic (raw_next s before after) vs r.first)))))

styled_read : (line : Bool) (s : Setting) (bold italic : Bool) (t : StyledContent) (before after : List ContentSign) (owns : List (List Item)) (vs : List Segment)
    (h : AreGiven (signs_before t after) owns) → AreNested bold italic t → AreIn bold italic t owns → MayEnd (bold || italic) line vs → IsTail vs
    → RestRead s (signs_past t before) after (owns_past t owns) (given_behind t after owns h) vs
    → Read bold italic (quote_next s before (signs_before t after)) (line_cut_of s before (signs_before t after) owns h) (line_with s before (signs_before t after) owns) vs
    (styled_with line s before t after owns)
styled_read line s bold italic finished before after owns vs h k w g tail rest = end_read bold italic s before after owns h vs rest
styled_read line s bold italic (sign (letter d) t) before after owns vs h k w g tail rest =
    let signs : List ContentSign = signs_before t after in
    let e = is_escaped s.within s.place before d signs in
    let c : Cut = line_cut_of s (letter d ∷ before) signs owns h in
    let xs : List Item = line_with s (letter d ∷ before) signs owns in
    let ps : List Part = styled_with line s (letter d ∷ before) t after owns in
    let next = quote_next s (letter d ∷ before) signs in
    let raw = raw_next s before (letter d ∷ signs) in
    let end = break_ends (bold || italic) (d == 10) line vs k.0 g in
    guard_read bold italic raw (is_guarded s before (letter d ∷ signs)) (if d == 10 then (0, []) else letter_cut e d c) (if d == 10 then [] else letter_items e d ++ xs) vs
    (if line && (d == 10) then [] else parts Text (letter_items e d) ++ ps)
    (ended_read bold italic raw line (d == 10) (letter_cut e d c) (letter_items e d ++ xs) vs (parts Text (letter_items e d) ++ ps) (λ i. (end i).0) (λ i. (end i).1)
    (letter_read bold italic next e d c xs vs ps tail (quote_behind s before d signs)
    (styled_read line s bold italic t (letter d ∷ before) after owns vs h k.1 w g tail rest)))
styled_read line s bold italic (sign (thing x) t) before after [] vs h k w m tail rest = absurd h
styled_read line s bold italic (sign (thing x) t) before after (own ∷ owns) vs h k w m tail rest =
    let signs : List ContentSign = signs_before t after in
    let g : IsGift x own = gift_of x own h.0 in
    let c : Cut = line_cut_of s (thing x ∷ before) signs owns h.1 in
    let xs : List Item = line_with s (thing x ∷ before) signs owns in
    let ps : List Part = styled_with line s (thing x ∷ before) t after owns in
    guard_read bold italic (is_quoted x.role) (is_guarded s before (thing x ∷ signs)) (given_cut g.signs c) (own ++ xs) vs (line_parts own ++ ps)
    (gift_read bold italic (quote_next s (thing x ∷ before) signs) (is_quoted x.role) x own g c xs vs ps tail k.0 (nested_in bold italic x own g k.0 w.0) (λ z. z)
    (λ e. behind_quoted s x before signs e) (styled_read line s bold italic t (thing x ∷ before) after owns vs h.1 k.1 w.1 m tail rest))
styled_read line s bold italic (styled kind opening closing inside t) before after owns vs h k w g tail rest =
    let first : List ContentSign = delimiter kind opening ∷ before in
    let past : List ContentSign = signs_past inside first in
    let last : List ContentSign = delimiter kind closing ∷ past in
    let signs : List ContentSign = signs_before t after in
    let closes : List ContentSign = delimiter kind closing ∷ signs in
    let held : List ContentSign = signs_before inside closes in
    let inner : List (List Item) = owns_left owns in
    let behind : List (List Item) = owns_past inside inner in
    let outer : List (List Item) = owns_left behind in
    let u = is_guarded s before (delimiter kind opening ∷ held) in
    let given_in : AreGiven held inner = past_mark kind opening held owns h in
    let given_end : AreGiven closes behind = given_behind inside closes inner given_in in
    let given_out : AreGiven signs outer = past_mark kind closing signs behind given_end in
    let later_cut : Cut = line_cut_of s last signs outer given_out in
    let first_cut : Cut = line_cut_of s first held inner given_in in
    let later_items : List Item = line_with s last signs outer in
    let qs : List Part = styled_with line s last t after outer in
    let ps : List Part = styled_with false s first inside closes inner in
    let b : NestRead bold italic false (cut_line later_cut later_items) vs qs =
    subst (λ (v : Bool). NestRead bold italic v (cut_line later_cut later_items) vs qs) (after_delimiter s kind closing past signs)
    (styled_read line s bold italic t last after outer vs given_out k.2 w.1 g tail rest) in
    let end : RestRead s past closes behind given_end (mark_segments kind ++ nest_segments b.nest vs) =
    record {
      cut = add_node (own_form in_line (map glyph_of (node_items (mark_source kind)))) (length (map glyph_of (node_items (mark_source kind)))) later_cut;
      items = node_items (mark_source kind) ++ later_items;
      cut_is = mark_cut s past kind closing signs behind given_end;
      items_are = mark_line s past kind closing signs behind given_end;
      are = delimiter_added kind later_cut later_items ∙ ap (λ us. mark_segments kind ++ us) b.is;
      first = λ z. cc;
    } in
    let a : NestRead (kind || bold) (not kind || italic) false (cut_line first_cut (line_with s first held inner)) (mark_segments kind ++ nest_segments b.nest vs) ps =
    subst (λ (v : Bool). NestRead (kind || bold) (not kind || italic) v (cut_line first_cut (line_with s first held inner)) (mark_segments kind ++ nest_segments b.nest vs) ps)
    (after_delimiter s kind opening before held)
    (styled_read false s (kind || bold) (not kind || italic) inside first closes inner (mark_segments kind ++ nest_segments b.nest vs) given_in k.1 w.0
    (λ e. let no : true ≡ false = sym (within_style kind bold italic) ∙ e in cc) (inr (marks_first None kind (nest_segments b.nest vs))) end) in
    let cut : Cut = add_node (own_form in_line (map glyph_of (node_items (mark_source kind)))) (length (map glyph_of (node_items (mark_source kind)))) first_cut in
    subst (λ (d : Cut). Read bold italic (quote_next s before (delimiter kind opening ∷ held)) d (line_with s before (delimiter kind opening ∷ held) owns) vs
    (styled_with line s before (styled kind opening closing inside t) after owns)) (sym (mark_cut s before kind opening held owns h))
    (subst (λ (xs : List Item). Read bold italic (quote_next s before (delimiter kind opening ∷ held)) (guard_cut u cut) xs vs
    (styled_with line s before (styled kind opening closing inside t) after owns)) (sym (mark_line s before kind opening held owns h))
    (guard_read bold italic true u cut (node_items (mark_source kind) ++ line_with s first held inner) vs (node (style_tree kind ps) ∷ qs)
    (subst (λ us. NestRead bold italic true us vs (node (style_tree kind ps) ∷ qs))
    (sym (delimiter_added kind first_cut (line_with s first held inner)))
    (enclosed_read None bold italic kind (cut_line first_cut (line_with s first held inner)) (cut_line later_cut later_items) vs ps qs b k.0 a))))

-- ---- the line by itself

line_end : (s : Setting) (before : List ContentSign) (owns : List (List Item)) (h : AreGiven [] owns) → RestRead s before [] owns h []
unfolding loose_segments
line_end s before owns h = record {
  cut = (0, []);
  items = [];
  cut_is = refl;
  items_are = sym (append-nil (guard_items (is_guarded s before [])));
  are = refl;
  first = λ z. refl;
}

pub line_nest : (s : Setting) (before : List ContentSign) (t : StyledContent) (owns : List (List Item)) (h : AreGiven (signs_before t []) owns) → AreNested false false t → AreIn false false t owns
    → Read false false (quote_next s before (signs_before t [])) (line_cut_of s before (signs_before t []) owns h) (line_with s before (signs_before t []) owns) []
    (styled_with true s before t [] owns)
line_nest s before t owns h k w =
    styled_read true s false false t before [] owns [] h k w (λ z. (refl, refl)) (inl refl) (line_end s (signs_past t before) (owns_past t owns) (given_behind t [] owns h))

pub line_whole : (s : Setting) (before : List ContentSign) (last : List Item) (signs : List ContentSign) (owns : List (List Item)) (h : AreGiven signs owns)
    → AllMeetWith s before last signs owns → cuts in_line false 0 (map glyph_of (line_with s before signs owns)) ≡ line_cut_of s before signs owns h
line_whole s before last signs owns h m = ap (cuts in_line false 0) (line_is s before signs owns) ∙ line_cuts_are s before last signs owns (all_gifts signs owns h) m

pub called_line : (s : Setting) (before : List ContentSign) (last : List Item) (t : StyledContent) (owns : List (List Item)) → AreGiven (signs_before t []) owns
    → AreNested false false t → AreIn false false t owns → AllMeetWith s before last (signs_before t []) owns → line_parts (line_with s before (signs_before t []) owns) ≡ styled_with true s before t [] owns
called_line s before last t owns h k w m =
    let signs : List ContentSign = signs_before t [] in
    let c : Cut = line_cut_of s before signs owns h in
    let xs : List Item = line_with s before signs owns in
    let r = line_nest s before t owns h k w in
    let all : cuts in_line false 0 (map glyph_of xs) ≡ c = ap (cuts in_line false 0) (line_is s before signs owns) ∙ line_cuts_are s before last signs owns (all_gifts signs owns h) m in
    contexts_are in_line xs (omega arith) ∙ ap with_styles (segments_are c xs all ∙ r.is) ∙ nests_read r.nest r.nested ∙ r.shows
