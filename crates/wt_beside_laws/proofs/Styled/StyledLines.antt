-- A line of a content with styles, sign by sign, as segments among which styles nest.
use Rattle.std.proofs.Common.{arith, ◌≡◌, ℕ, suc, ◌+◌, ◌<◌, ◌≤◌, ◌==◌, Bool, true, false, not, Option, None, List, [], ◌∷◌, ◌++◌, length, map, refl, sym, ap, ◌∙◌, subst, append-nil, inl, inr, All}
use Rattle.std.specs.Prelude.{◌&&◌, ◌||◌, if◌then◌else◌, encode_utf8}
use Rattle.std.proofs.lemmas.Bool.{cases_lt}
use Rattle.std.proofs.lemmas.Bool.Decides.{nat_tests}
use Rattle.std.proofs.lemmas.List.Elements.{All-head, All-tail}
use Rattle.std.proofs.lemmas.Str.{encode_ascii}
use Rattle.wt_span.specs.declared.form.ItemForm.TheVariants as form
use Rattle.wt_span.specs.Items.{Item, char, whole}
use Rattle.wt_names.proofs.Ascii.{IsWide, encode_wide, encode_some}
use Rattle.wt_quotes.specs.Styles.{width}
use Rattle.wt_quotes.specs.Toggles.{is_odd, toggles_of}
use Rattle.wt_quotes.specs.Turns.{is_of}
use Rattle.wt_guards.specs.declared.role.Role.{Role}
use Rattle.wt_guards.specs.Content.{ContentSign, Thing, letter, thing}
use Rattle.wt_guards.specs.Guards.{Setting, nowiki, is_guarded}
use Rattle.wt_guards.specs.Letters.{is_escaped, reference}
use Rattle.wt_inline.specs.declared.loose.Loose.TheVariants.{Text}
use Rattle.wt_inline.specs.Parts.{Part, node, part, parts}
use Rattle.wt_tiles.specs.declared.glyph.Glyph.{Glyph}
use Rattle.wt_tiles.specs.declared.shape.Shape.{Shape}
use Rattle.wt_tiles.specs.declared.shape.TileKind.TheVariants as tile
use Rattle.wt_tiles.specs.Contexts.{in_line}
use Rattle.wt_tiles.specs.Glyphs.{glyph_of, byte_glyphs}
use Rattle.wt_tiles.specs.Links.{leaf, link_at}
use Rattle.wt_tiles.specs.Tags.{opening_tag, closing_tag, tag_at}
use Rattle.wt_tiles.specs.Tiles.{size, Cut, tag_tile, switch_at, link_or_url, form_at}
use Rattle.wt_tiles.specs.Urls.{scheme_len, ext_link_at, bare_url_at}
use Rattle.wt_context.specs.Segments.{Segment, is_quote, loose_segment, loose_segments}
use Rattle.wt_context.specs.Chunks.{begins_with_quote, chunks}
use Rattle.wt_context.specs.Line.{context_parts, line_parts}
use Rattle.wt_context.specs.Nodes.{segments}
use Rattle.wt_context.specs.Styled.{with_styles}
use Rattle.wt_context.proofs.NestedContexts.{contexts_are}
use Rattle.wt_text_edit_laws.specs.LonePages.{page_chars}
use Rattle.wt_beside_laws.specs.Content.{guard_items, letter_items}
use Rattle.wt_beside_laws.specs.Cuts.{add_chars, add_tile, own_glyphs, own_form, add_node, guard_cut, letter_cut}
use Rattle.wt_beside_laws.specs.Flat.{IsFlat}
use Rattle.wt_beside_laws.specs.Lines.{line_items}
use Rattle.wt_beside_laws.specs.Nests.{quote_of, marks_of, segments_of, marks, mark_segments, nest_segments, style_tree}
use Rattle.wt_beside_laws.specs.Nodes.{IsNode, AreNodes, AllMeet}
use Rattle.wt_beside_laws.specs.Styled.{StyledContent, finished, sign, styled, mark_source, delimiter, signs_before, signs_past, AreNested, styled_parts}
use Rattle.wt_beside_laws.proofs.Firm.{firm_read}
use Rattle.wt_beside_laws.proofs.NodeItems.{node_as}
use Rattle.wt_beside_laws.proofs.LineParts.{has_form, glyphs_long, node_alone, line_cuts}
use Rattle.wt_beside_laws.proofs.LineSegments.{cut_segments, segments_are, tile_first, one_segment}
use Rattle.wt_beside_laws.proofs.LineTiles.{line_cut}
use Rattle.wt_beside_laws.proofs.Styled.NestForests.{nests_read}
use Rattle.wt_beside_laws.proofs.Styled.NestReads.{IsTail, NestRead, nothing_read, pushed_read, quote_added, char_read, enclosed_read}
use Rattle.wt_beside_laws.proofs.Styled.NestRuns.{marks_first}
use Rattle.wt_beside_laws.proofs.Styled.NestToggles.{nest_even}
use Rattle.wt_beside_laws.proofs.Styled.StyledSigns.{is_quoted, raw_next, quote_next, quote_behind, after_delimiter}
use Rattle.wt_beside_laws.specs.NodeItems.{node_items}

abbrev pub cut_line : Cut → List Item → List Segment
cut_line c xs = cut_segments context_parts in_line c xs

abbrev pub Read : Bool → Bool → Bool → Cut → List Item → List Segment → List Part → Type 0
Read bold italic next c xs vs ps = NestRead bold italic next (cut_line c xs) vs ps

-- ---- what is put, and what is typed

atom_added : (x : Item) (c : Cut) (xs : List Item) → is_quote x ≡ false → cut_line (add_tile (leaf tile.Atom 1) c) (x ∷ xs) ≡ loose_segment (x ∷ []) ∷ cut_line c xs
unfolding loose_segments
atom_added x c xs q = tile_first context_parts in_line (leaf tile.Atom 1) c (x ∷ []) xs refl

atom_read : (bold italic next any : Bool) (x : Item) (c : Cut) (xs : List Item) (vs : List Segment) (ps : List Part) → is_quote x ≡ false
    → Read bold italic next c xs vs ps → Read bold italic any (add_tile (leaf tile.Atom 1) c) (x ∷ xs) vs (part Text x ∷ ps)
atom_read bold italic next any x c xs vs ps q r =
    subst (λ us. NestRead bold italic any us vs (part Text x ∷ ps)) (sym (atom_added x c xs q))
    (pushed_read bold italic next any (loose_segment (x ∷ [])) (cut_line c xs) vs ps (λ e. let no : true ≡ false = sym e ∙ q in cc) (λ z. q) r)

pub guard_read : (bold italic next : Bool) (u : Bool) (c : Cut) (xs : List Item) (vs : List Segment) (ps : List Part) → Read bold italic next c xs vs ps
    → Read bold italic (not u && next) (guard_cut u c) (guard_items u ++ xs) vs (parts Text (guard_items u) ++ ps)
guard_read bold italic next true c xs vs ps r = atom_read bold italic next false (whole form.Nowiki None nowiki) c xs vs ps refl r
guard_read bold italic next false c xs vs ps r = r

wide_other : (b : ℕ) → 128 ≤ b → (b == 39) ≡ false
wide_other b le = grind (arith, nat_tests)

one_read : (bold italic next any : Bool) (d : ℕ) (c : Cut) (xs : List Item) (vs : List Segment) (ps : List Part) → IsTail vs → (d == 39) ≡ false
    → Read bold italic next c xs vs ps → Read bold italic any (suc c.0, c.1) (char None d ∷ xs) vs (part Text (char None d) ∷ ps)
one_read bold italic next any d c xs vs ps t q r =
    char_read bold italic next any (char None d) c.0 c.1 xs vs ps t (λ e. let no : true ≡ false = sym e ∙ q in cc) (λ z. q) r

wide_read : (bold italic next any : Bool) (b : ℕ) (bs : List ℕ) (c : Cut) (xs : List Item) (vs : List Segment) (ps : List Part) → IsTail vs → All IsWide (b ∷ bs)
    → Read bold italic next c xs vs ps
    → Read bold italic any (add_chars (length (b ∷ bs)) c) (page_chars (b ∷ bs) ++ xs) vs (parts Text (page_chars (b ∷ bs)) ++ ps)
wide_read bold italic next any b [] c xs vs ps t w r =
    let one : suc c.0 ≡ length (b ∷ []) + c.0 = omega arith in
    subst (λ (m : ℕ). Read bold italic any (m, c.1) (char None b ∷ xs) vs (part Text (char None b) ∷ ps)) one
    (one_read bold italic next any b c xs vs ps t (wide_other b (All-head IsWide b [] w)) r)
wide_read bold italic next any b (d ∷ bs) c xs vs ps t w r =
    let one : suc (length (d ∷ bs) + c.0) ≡ length (b ∷ d ∷ bs) + c.0 = omega arith in
    let more : List Item = page_chars (d ∷ bs) ++ xs in
    let qs : List Part = parts Text (page_chars (d ∷ bs)) ++ ps in
    subst (λ (m : ℕ). Read bold italic any (m, c.1) (char None b ∷ more) vs (part Text (char None b) ∷ qs)) one
    (one_read bold italic next any b (add_chars (length (d ∷ bs)) c) more vs qs t (wide_other b (All-head IsWide b (d ∷ bs) w))
    (wide_read bold italic next next d bs c xs vs ps t (All-tail IsWide b (d ∷ bs) w) r))

bytes_read : (bold italic next any : Bool) (bs : List ℕ) (c : Cut) (xs : List Item) (vs : List Segment) (ps : List Part) → IsTail vs → All IsWide bs → 0 < length bs
    → Read bold italic next c xs vs ps → Read bold italic any (add_chars (length bs) c) (page_chars bs ++ xs) vs (parts Text (page_chars bs) ++ ps)
bytes_read bold italic next any [] c xs vs ps t w some r = absurd (omega (arith, some))
bytes_read bold italic next any (b ∷ bs) c xs vs ps t w some r = wide_read bold italic next any b bs c xs vs ps t w r

and_true : (b : Bool) → (b && true) ≡ false → b ≡ false
and_true true e = e
and_true false e = refl

pub letter_read : (bold italic next : Bool) (e : Bool) (d : ℕ) (c : Cut) (xs : List Item) (vs : List Segment) (ps : List Part) → IsTail vs
    → (e ≡ false → (d == 39) ≡ true → next ≡ false) → Read bold italic next c xs vs ps
    → Read bold italic ((d == 39) && not e) (letter_cut e d c) (letter_items e d ++ xs) vs (parts Text (letter_items e d) ++ ps)
letter_read bold italic next true d c xs vs ps t f r =
    atom_read bold italic next ((d == 39) && false) (whole (form.Entity d) None (reference d)) c xs vs ps refl r
letter_read bold italic next false d c xs vs ps t f r = elim (cases_lt d 128) [
  | inl small ↦
      let one : suc c.0 ≡ length (d ∷ []) + c.0 = omega arith in
      subst (λ bs. Read bold italic ((d == 39) && true) (add_chars (length bs) c) (page_chars bs ++ xs) vs (parts Text (page_chars bs) ++ ps)) (sym (encode_ascii d small))
      (subst (λ (m : ℕ). Read bold italic ((d == 39) && true) (m, c.1) (char None d ∷ xs) vs (part Text (char None d) ∷ ps)) one
      (char_read bold italic next ((d == 39) && true) (char None d) c.0 c.1 xs vs ps t (f refl) (and_true (d == 39)) r))
  | inr high ↦ bytes_read bold italic next ((d == 39) && true) (encode_utf8 d) c xs vs ps t (encode_wide d high) (encode_some d) r
]

-- where the line may end
pub ended_read : (bold italic next line t : Bool) (c : Cut) (xs : List Item) (vs : List Segment) (ps : List Part) → (t ≡ true → line ≡ true) → (t ≡ true → vs ≡ [])
    → Read bold italic next c xs vs ps
    → Read bold italic next (if t then (0, []) else c) (if t then [] else xs) vs (if line && t then [] else ps)
unfolding loose_segments
ended_read bold italic next true true c xs vs ps f g r =
    subst (λ us. NestRead bold italic next [] us []) (sym (g refl)) (nothing_read bold italic next [] (λ z. refl))
ended_read bold italic next false true c xs vs ps f g r = let no : false ≡ true = f refl in cc
ended_read bold italic next true false c xs vs ps f g r = r
ended_read bold italic next false false c xs vs ps f g r = r

-- ---- a node that stays

pub form_read : (bold italic next any : Bool) (r : Role) (own : List Item) (c : Cut) (xs : List Item) (vs : List Segment) (ps : List Part) → IsFlat r
    → IsNode r (map glyph_of own) → Read bold italic next c xs vs ps
    → Read bold italic any (add_node (own_form in_line (map glyph_of own)) (length (map glyph_of own)) c) (own ++ xs) vs (line_parts own ++ ps)
form_read bold italic next any role own c xs vs ps f n r =
    let gs : List Glyph = map glyph_of own in
    let h = has_form role gs f n in
    let long : size h.shape ≡ length own = h.whole ∙ glyphs_long own in
    let s = one_segment own h.shape h.alone long in
    let added : cut_line (add_tile h.shape c) (own ++ xs) ≡ s.segment ∷ cut_line c xs =
    tile_first context_parts in_line h.shape c own xs long ∙ ap (λ us. us ++ cut_line c xs) s.is in
    subst (λ (o : Option Shape). Read bold italic any (add_node o (length gs) c) (own ++ xs) vs (line_parts own ++ ps)) (sym h.alone)
    (subst (λ qs. Read bold italic any (add_tile h.shape c) (own ++ xs) vs (qs ++ ps)) (sym (node_alone own h.shape s h.whole h.before))
    (subst (λ us. NestRead bold italic any us vs (s.segment.parts ++ ps)) (sym added)
    (pushed_read bold italic next any s.segment (cut_line c xs) vs ps (λ e. let no : true ≡ false = sym e ∙ s.other in cc) (λ z. s.other) r)))

node_read : (bold italic next any : Bool) (t : Thing) (c : Cut) (xs : List Item) (vs : List Segment) (ps : List Part) → IsFlat t.role → IsNode t.role (own_glyphs t)
    → Read bold italic next c xs vs ps
    → Read bold italic any (add_node (own_form in_line (own_glyphs t)) (length (own_glyphs t)) c) (node_items t.source ++ xs) vs (line_parts (node_items t.source) ++ ps)
node_read bold italic next any t c xs vs ps f n r = form_read bold italic next any t.role (node_items t.source) c xs vs ps f n r

-- ---- a delimiter

pub mark_items : (kind : Bool) → node_items (mark_source kind) ≡ marks kind
mark_items true = node_as (mark_source true) (page_chars (mark_source true)) (firm_read (mark_source true) (refl, (refl, (refl, tt))))
mark_items false = node_as (mark_source false) (page_chars (mark_source false)) (firm_read (mark_source false) (refl, (refl, tt)))

pub mark_glyphs : (kind : Bool) → map glyph_of (node_items (mark_source kind)) ≡ byte_glyphs (mark_source kind)
mark_glyphs true = ap (map glyph_of) (mark_items true)
mark_glyphs false = ap (map glyph_of) (mark_items false)

pub no_form : (kind : Bool) → own_form in_line (byte_glyphs (mark_source kind)) ≡ None
unfolding form_at link_or_url link_at ext_link_at bare_url_at scheme_len tag_tile tag_at opening_tag closing_tag switch_at
no_form true = refl
no_form false = refl

pub mark_length : (kind : Bool) → length (byte_glyphs (mark_source kind)) ≡ width kind
mark_length true = refl
mark_length false = refl

pub marks_added : (origin : Option ℕ) (kind : Bool) (c : Cut) (xs : List Item) → cut_line (add_chars (width kind) c) (marks_of origin kind ++ xs) ≡ segments_of origin kind ++ cut_line c xs
marks_added origin true c xs =
    let z : 3 + c.0 ≡ suc (suc (suc c.0)) = omega arith in
    let s : Segment = loose_segment (quote_of origin ∷ []) in
    ap (λ (m : ℕ). cut_line (m, c.1) (quote_of origin ∷ quote_of origin ∷ quote_of origin ∷ xs)) z
    ∙ quote_added (quote_of origin) (suc (suc c.0)) c.1 (quote_of origin ∷ quote_of origin ∷ xs) refl
    ∙ ap (λ us. s ∷ us) (quote_added (quote_of origin) (suc c.0) c.1 (quote_of origin ∷ xs) refl)
    ∙ ap (λ us. s ∷ s ∷ us) (quote_added (quote_of origin) c.0 c.1 xs refl)
marks_added origin false c xs =
    let z : 2 + c.0 ≡ suc (suc c.0) = omega arith in
    let s : Segment = loose_segment (quote_of origin ∷ []) in
    ap (λ (m : ℕ). cut_line (m, c.1) (quote_of origin ∷ quote_of origin ∷ xs)) z
    ∙ quote_added (quote_of origin) (suc c.0) c.1 (quote_of origin ∷ xs) refl
    ∙ ap (λ us. s ∷ us) (quote_added (quote_of origin) c.0 c.1 xs refl)

pub delimiter_added : (kind : Bool) (c : Cut) (xs : List Item)
    → cut_line (add_node (own_form in_line (map glyph_of (node_items (mark_source kind)))) (length (map glyph_of (node_items (mark_source kind)))) c) (node_items (mark_source kind) ++ xs)
    ≡ mark_segments kind ++ cut_line c xs
delimiter_added kind c xs =
    ap (λ (gs : List Glyph). cut_line (add_node (own_form in_line gs) (length gs) c) (node_items (mark_source kind) ++ xs)) (mark_glyphs kind)
    ∙ ap (λ (o : Option Shape). cut_line (add_node o (length (byte_glyphs (mark_source kind))) c) (node_items (mark_source kind) ++ xs)) (no_form kind)
    ∙ ap (λ (m : ℕ). cut_line (add_chars m c) (node_items (mark_source kind) ++ xs)) (mark_length kind)
    ∙ ap (λ ys. cut_line (add_chars (width kind) c) (ys ++ xs)) (mark_items kind)
    ∙ marks_added None kind c xs

-- ---- the line, up to the signs `after`, of which the rest of the line is made behind what is put before them

record RestRead (s : Setting) (before after : List ContentSign) (vs : List Segment) : Type 0 where
  cut : Cut
  items : List Item
  cut_is : line_cut in_line s before after ≡ guard_cut (is_guarded s before after) cut
  items_are : line_items s before after ≡ guard_items (is_guarded s before after) ++ items
  are : cut_line cut items ≡ vs
  first : raw_next s before after ≡ false → begins_with_quote vs ≡ false

end_read : (bold italic : Bool) (s : Setting) (before after : List ContentSign) (vs : List Segment) → RestRead s before after vs
    → Read bold italic (quote_next s before after) (line_cut in_line s before after) (line_items s before after) vs (parts Text (guard_items (is_guarded s before after)))
end_read bold italic s before after vs r =
    let u = is_guarded s before after in
    subst (λ (c : Cut). Read bold italic (quote_next s before after) c (line_items s before after) vs (parts Text (guard_items u))) (sym r.cut_is)
    (subst (λ xs. Read bold italic (quote_next s before after) (guard_cut u r.cut) xs vs (parts Text (guard_items u))) (sym r.items_are)
    (subst (λ ps. Read bold italic (quote_next s before after) (guard_cut u r.cut) (guard_items u ++ r.items) vs ps) (append-nil (parts Text (guard_items u)))
    (guard_read bold italic (raw_next s before after) u r.cut r.items vs []
    (subst (λ us. NestRead bold italic (raw_next s before after) us vs []) (sym r.are) (nothing_read bold italic (raw_next s before after) vs r.first)))))

pub nodes_behind : (t : StyledContent) (after : List ContentSign) → AreNodes (signs_before t after) → AreNodes after
nodes_behind finished after n = n
nodes_behind (sign (letter c) t) after n = nodes_behind t after n
nodes_behind (sign (thing x) t) after n = nodes_behind t after n.1
nodes_behind (styled kind opening closing inside t) after n =
    nodes_behind t after (nodes_behind inside (delimiter kind closing ∷ signs_before t after) n.1).1

pub within_style : (kind bold italic : Bool) → ((kind || bold) || (not kind || italic)) ≡ true
within_style true bold italic = refl
within_style false true italic = refl
within_style false false italic = refl

-- in no style, the line may end
abbrev pub MayEnd : Bool → Bool → List Segment → Type 0
MayEnd w line vs = w ≡ false → (line ≡ true) × (vs ≡ [])

pub break_ends : (w t line : Bool) (vs : List Segment) → (w ≡ true → t ≡ false) → MayEnd w line vs → t ≡ true → (line ≡ true) × (vs ≡ [])
break_ends true t line vs f g e = let no : true ≡ false = sym e ∙ f refl in cc
break_ends false t line vs f g e = g refl

styled_read : (line : Bool) (s : Setting) (bold italic : Bool) (t : StyledContent) (before after : List ContentSign) (vs : List Segment)
    → AreNodes (signs_before t after) → AreNested bold italic t → MayEnd (bold || italic) line vs → IsTail vs → RestRead s (signs_past t before) after vs
    → Read bold italic (quote_next s before (signs_before t after)) (line_cut in_line s before (signs_before t after)) (line_items s before (signs_before t after)) vs
    (styled_parts line s before t after)
styled_read line s bold italic finished before after vs n k g tail rest = end_read bold italic s before after vs rest
styled_read line s bold italic (sign (letter d) t) before after vs n k g tail rest =
    let signs : List ContentSign = signs_before t after in
    let e = is_escaped s.within s.place before d signs in
    let c : Cut = line_cut in_line s (letter d ∷ before) signs in
    let xs : List Item = line_items s (letter d ∷ before) signs in
    let ps : List Part = styled_parts line s (letter d ∷ before) t after in
    let next = quote_next s (letter d ∷ before) signs in
    let raw = raw_next s before (letter d ∷ signs) in
    let end = break_ends (bold || italic) (d == 10) line vs k.0 g in
    guard_read bold italic raw (is_guarded s before (letter d ∷ signs)) (if d == 10 then (0, []) else letter_cut e d c) (if d == 10 then [] else letter_items e d ++ xs) vs
    (if line && (d == 10) then [] else parts Text (letter_items e d) ++ ps)
    (ended_read bold italic raw line (d == 10) (letter_cut e d c) (letter_items e d ++ xs) vs (parts Text (letter_items e d) ++ ps) (λ i. (end i).0) (λ i. (end i).1)
    (letter_read bold italic next e d c xs vs ps tail (quote_behind s before d signs)
    (styled_read line s bold italic t (letter d ∷ before) after vs n k.1 g tail rest)))
styled_read line s bold italic (sign (thing x) t) before after vs n k g tail rest =
    let signs : List ContentSign = signs_before t after in
    let own : List Glyph = own_glyphs x in
    let c : Cut = line_cut in_line s (thing x ∷ before) signs in
    let xs : List Item = line_items s (thing x ∷ before) signs in
    let ps : List Part = styled_parts line s (thing x ∷ before) t after in
    guard_read bold italic (is_quoted x.role) (is_guarded s before (thing x ∷ signs)) (add_node (own_form in_line own) (length own) c) (node_items x.source ++ xs) vs
    (line_parts (node_items x.source) ++ ps)
    (node_read bold italic (quote_next s (thing x ∷ before) signs) (is_quoted x.role) x c xs vs ps k.0 n.0
    (styled_read line s bold italic t (thing x ∷ before) after vs n.1 k.1 g tail rest))
styled_read line s bold italic (styled kind opening closing inside t) before after vs n k g tail rest =
    let first : List ContentSign = delimiter kind opening ∷ before in
    let last : List ContentSign = delimiter kind closing ∷ signs_past inside first in
    let signs : List ContentSign = signs_before t after in
    let held : List ContentSign = signs_before inside (delimiter kind closing ∷ signs) in
    let u = is_guarded s before (delimiter kind opening ∷ held) in
    let later_cut : Cut = line_cut in_line s last signs in
    let later_items : List Item = line_items s last signs in
    let qs : List Part = styled_parts line s last t after in
    let ps : List Part = styled_parts false s first inside (delimiter kind closing ∷ signs) in
    let b : NestRead bold italic false (cut_line later_cut later_items) vs qs =
    subst (λ (v : Bool). NestRead bold italic v (cut_line later_cut later_items) vs qs) (after_delimiter s kind closing (signs_past inside first) signs)
    (styled_read line s bold italic t last after vs (nodes_behind inside (delimiter kind closing ∷ signs) n.1).1 k.2 g tail rest) in
    let end : RestRead s (signs_past inside first) (delimiter kind closing ∷ signs) (mark_segments kind ++ nest_segments b.nest vs) =
    record {
      cut = add_node (own_form in_line (map glyph_of (node_items (mark_source kind)))) (length (map glyph_of (node_items (mark_source kind)))) later_cut;
      items = node_items (mark_source kind) ++ later_items;
      cut_is = refl;
      items_are = refl;
      are = delimiter_added kind later_cut later_items ∙ ap (λ us. mark_segments kind ++ us) b.is;
      first = λ z. cc;
    } in
    let a : NestRead (kind || bold) (not kind || italic) false (cut_line (line_cut in_line s first held) (line_items s first held)) (mark_segments kind ++ nest_segments b.nest vs) ps =
    subst (λ (v : Bool). NestRead (kind || bold) (not kind || italic) v (cut_line (line_cut in_line s first held) (line_items s first held)) (mark_segments kind ++ nest_segments b.nest vs) ps)
    (after_delimiter s kind opening before held)
    (styled_read false s (kind || bold) (not kind || italic) inside first (delimiter kind closing ∷ signs) (mark_segments kind ++ nest_segments b.nest vs) n.1 k.1
    (λ e. let no : true ≡ false = sym (within_style kind bold italic) ∙ e in cc) (inr (marks_first None kind (nest_segments b.nest vs))) end) in
    guard_read bold italic true u
    (add_node (own_form in_line (map glyph_of (node_items (mark_source kind)))) (length (map glyph_of (node_items (mark_source kind)))) (line_cut in_line s first held))
    (node_items (mark_source kind) ++ line_items s first held) vs (node (style_tree kind ps) ∷ qs)
    (subst (λ us. NestRead bold italic true us vs (node (style_tree kind ps) ∷ qs))
    (sym (delimiter_added kind (line_cut in_line s first held) (line_items s first held)))
    (enclosed_read None bold italic kind (cut_line (line_cut in_line s first held) (line_items s first held)) (cut_line later_cut later_items) vs ps qs b k.0 a))

-- ---- the line by itself

line_end : (s : Setting) (before : List ContentSign) → RestRead s before [] []
unfolding loose_segments
line_end s before = record {
  cut = (0, []);
  items = [];
  cut_is = refl;
  items_are = sym (append-nil (guard_items (is_guarded s before [])));
  are = refl;
  first = λ z. refl;
}

line_nest : (s : Setting) (before : List ContentSign) (t : StyledContent) → AreNodes (signs_before t []) → AreNested false false t
    → Read false false (quote_next s before (signs_before t [])) (line_cut in_line s before (signs_before t [])) (line_items s before (signs_before t [])) []
    (styled_parts true s before t [])
line_nest s before t n k = styled_read true s false false t before [] [] n k (λ z. (refl, refl)) (inl refl) (line_end s (signs_past t before))

line_segments : (s : Setting) (before : List ContentSign) (t : StyledContent) (n : AreNodes (signs_before t [])) (k : AreNested false false t)
    → AllMeet s before (signs_before t []) [] → segments context_parts in_line (line_items s before (signs_before t [])) ≡ nest_segments (line_nest s before t n k).nest []
line_segments s before t n k m =
    segments_are (line_cut in_line s before (signs_before t [])) (line_items s before (signs_before t [])) (line_cuts s before (signs_before t []) n m) ∙ (line_nest s before t n k).is

pub styled_line : (s : Setting) (before : List ContentSign) (t : StyledContent) → AreNodes (signs_before t []) → AreNested false false t
    → AllMeet s before (signs_before t []) [] → line_parts (line_items s before (signs_before t [])) ≡ styled_parts true s before t []
styled_line s before t n k m =
    let r = line_nest s before t n k in
    contexts_are in_line (line_items s before (signs_before t [])) (omega arith) ∙ ap with_styles (line_segments s before t n k m) ∙ nests_read r.nest r.nested ∙ r.shows

-- its bold and its italic toggles are even in number
pub line_even : (b : Bool) (s : Setting) (before : List ContentSign) (t : StyledContent) → AreNodes (signs_before t []) → AreNested false false t
    → AllMeet s before (signs_before t []) []
    → is_odd (is_of b) (toggles_of (chunks (segments context_parts in_line (line_items s before (signs_before t []))))) ≡ false
line_even b s before t n k m =
    let r = line_nest s before t n k in
    ap (λ us. is_odd (is_of b) (toggles_of (chunks us))) (line_segments s before t n k m) ∙ nest_even b r.nest r.nested
