-- A line of a content without styles, as the parts of a paragraph or a heading, sign by sign.
use Rattle.std.proofs.Common.{arith, ◌≡◌, ℕ, suc, ◌+◌, ◌<◌, ◌≤◌, ◌==◌, Bool, true, false, Option, Some, None, List, [], ◌∷◌, ◌++◌, length, map, refl, sym, ap, ◌∙◌, subst, append-nil, inl, inr, ◌⊎◌, All}
use Rattle.std.specs.Prelude.{◌&&◌, if◌then◌else◌, encode_utf8}
use Rattle.std.proofs.lemmas.Bool.{cases_lt}
use Rattle.std.proofs.lemmas.Bool.Decides.{nat_tests}
use Rattle.std.proofs.lemmas.List.{map-append}
use Rattle.std.proofs.lemmas.List.Elements.{All-head, All-tail}
use Rattle.std.proofs.lemmas.Str.{encode_ascii}
use Rattle.wt_span.specs.declared.form.ItemForm.TheVariants as form
use Rattle.wt_span.specs.Items.{Item, char, whole}
use Rattle.wt_names.proofs.Ascii.{IsWide, encode_wide, encode_some}
use Rattle.wt_guards.specs.declared.role.Role.{Role}
use Rattle.wt_guards.specs.declared.role.Role.TheVariants.{Link, External, Bare, Switch, Toggle, Mark, Group, Function, Node}
use Rattle.wt_guards.specs.Content.{ContentSign, Thing, letter, thing, nearest}
use Rattle.wt_guards.specs.Guards.{Setting, nowiki, is_guarded}
use Rattle.wt_guards.specs.Letters.{is_escaped, is_next, is_apostrophe_or_end, reference}
use Rattle.wt_typed_blocks.proofs.TextReads.{or_parts}
use Rattle.wt_inline.specs.declared.loose.Loose.TheVariants.{Text}
use Rattle.wt_inline.specs.Parts.{Part, part, parts}
use Rattle.wt_tiles.specs.declared.glyph.Glyph.{Glyph}
use Rattle.wt_tiles.specs.declared.glyph.Glyph.TheVariants as glyph
use Rattle.wt_tiles.specs.declared.shape.Shape.{Shape}
use Rattle.wt_tiles.specs.Contexts.{in_line}
use Rattle.wt_tiles.specs.Glyphs.{glyph_of, byte_glyphs}
use Rattle.wt_tiles.specs.Tiles.{size, Cut, cuts}
use Rattle.wt_tiles.specs.Urls.{bare_url_at}
use Rattle.wt_context.specs.Chunks.{begins_with_quote}
use Rattle.wt_context.specs.Line.{context_parts, line_parts}
use Rattle.wt_context.specs.Nodes.{segments}
use Rattle.wt_context.specs.RunCuts.{has_run}
use Rattle.wt_context.proofs.PlainNodes.{AreTexts}
use Rattle.wt_text_edit_laws.specs.LonePages.{page_chars}
use Rattle.wt_beside_laws.specs.Content.{guard_items, letter_items}
use Rattle.wt_beside_laws.specs.Cuts.{add_chars, add_tile, own_glyphs, own_form, add_node, guard_cut, letter_cut, form_before, StandsAs}
use Rattle.wt_beside_laws.specs.Flat.{IsFlat, AreFlat, line_content}
use Rattle.wt_beside_laws.specs.Glyphs.{guard_glyphs, letter_glyphs, line_glyphs}
use Rattle.wt_beside_laws.specs.Lines.{line_items}
use Rattle.wt_beside_laws.specs.Nodes.{IsDelimiter, IsOneLexeme, IsTagNode, IsCategoryNode, IsMediaNode, IsNode, AreNodes, AllMeet}
use Rattle.wt_beside_laws.proofs.ContentTiles.{form_follows}
use Rattle.wt_beside_laws.proofs.LineSegments.{cut_segments, segments_are, read_line, IsOneSegment, one_segment, IsRead, tile_read, atom_read, none_read, char_read}
use Rattle.wt_beside_laws.proofs.LineTiles.{line_cut, line_follows}
use Rattle.wt_beside_laws.proofs.NodesBegin.{no_url, all_urls, all_switches}
use Rattle.wt_beside_laws.proofs.NodesMeet.{none_before}
use Rattle.wt_beside_laws.proofs.NodesStand.{node_stands}
use Rattle.wt_beside_laws.proofs.OpenTags.{open_end}
use Rattle.wt_beside_laws.specs.NodeItems.{node_items}

-- ---- as glyphs

pub guard_is : (u : Bool) (xs : List Item) → map glyph_of (guard_items u ++ xs) ≡ guard_glyphs u ++ map glyph_of xs
guard_is true xs = refl
guard_is false xs = refl

bytes_are : (bs : List ℕ) → map glyph_of (page_chars bs) ≡ byte_glyphs bs
bytes_are [] = refl
bytes_are (b ∷ bs) = ap (λ gs. glyph.Byte b ∷ gs) (bytes_are bs)

pub letter_is : (e : Bool) (c : ℕ) (xs : List Item) → map glyph_of (letter_items e c ++ xs) ≡ letter_glyphs e c ++ map glyph_of xs
letter_is true c xs = refl
letter_is false c xs = map-append glyph_of (page_chars (encode_utf8 c)) xs ∙ ap (λ gs. gs ++ map glyph_of xs) (bytes_are (encode_utf8 c))

line_is : (s : Setting) (before signs : List ContentSign) → map glyph_of (line_items s before signs) ≡ line_glyphs s before signs
line_is s before [] =
    ap (map glyph_of) (sym (append-nil (guard_items (is_guarded s before [])))) ∙ guard_is (is_guarded s before []) [] ∙ append-nil (guard_glyphs (is_guarded s before []))
line_is s before (letter c ∷ after) =
    let u = is_guarded s before (letter c ∷ after) in
    let e = is_escaped s.within s.place before c after in
    guard_is u (if c == 10 then [] else letter_items e c ++ line_items s (letter c ∷ before) after)
    ∙ ap (λ gs. guard_glyphs u ++ gs) (by (c == 10) e (line_items s (letter c ∷ before) after) (line_glyphs s (letter c ∷ before) after) (line_is s (letter c ∷ before) after))
  where
    by : (t e : Bool) (xs : List Item) (gs : List Glyph) → map glyph_of xs ≡ gs
        → map glyph_of (if t then [] else letter_items e c ++ xs) ≡ (if t then [] else letter_glyphs e c ++ gs)
    by true e xs gs h = refl
    by false e xs gs h = letter_is e c xs ∙ ap (λ hs. letter_glyphs e c ++ hs) h
line_is s before (thing t ∷ after) =
    let u = is_guarded s before (thing t ∷ after) in
    guard_is u (node_items t.source ++ line_items s (thing t ∷ before) after)
    ∙ ap (λ gs. guard_glyphs u ++ gs)
    (map-append glyph_of (node_items t.source) (line_items s (thing t ∷ before) after) ∙ ap (λ gs. own_glyphs t ++ gs) (line_is s (thing t ∷ before) after))

-- ---- a node that stays

abbrev first_byte : List Glyph → ℕ
first_byte [] = 0
first_byte (glyph.Byte b ∷ gs) = b
first_byte (glyph.Entity c ∷ gs) = 0
first_byte (glyph.Atom ∷ gs) = 0
first_byte (glyph.Mark ∷ gs) = 0

delimiter_first : (own : List Glyph) → IsDelimiter own → first_byte own ≡ 39
delimiter_first own d = elim d [ inl i ↦ ap first_byte i | inr i ↦ ap first_byte i ]

url_first : (b : ℕ) (gs : List Glyph) (w : Shape) → bare_url_at false (glyph.Byte b ∷ gs) ≡ Some w → b ≡ 39 → ⊥
url_first b gs w is e =
    let no : true ≡ false = no_url 39 gs w refl refl (subst (λ (k : ℕ). bare_url_at false (glyph.Byte k ∷ gs) ≡ Some w) e is) in cc

first_is : (own gs : List Glyph) → own ≡ gs → first_byte own ≡ 39 → first_byte gs ≡ 39
first_is own gs i e = sym (ap first_byte i) ∙ e

bracket_first : (own gs : List Glyph) → own ≡ glyph.Byte 91 ∷ gs → first_byte own ≡ 39 → ⊥
bracket_first own gs i e = let no : 91 ≡ 39 = first_is own (glyph.Byte 91 ∷ gs) i e in omega (arith, no)

lexeme_first : (own : List Glyph) → IsOneLexeme own → first_byte own ≡ 39 → ⊥
lexeme_first own n e = elim n [
  | inl i ↦ let no : 0 ≡ 39 = first_is own (glyph.Atom ∷ []) i e in omega (arith, no)
  | inr i ↦ let no : 0 ≡ 39 = first_is own (glyph.Entity i.0 ∷ []) i.1 e in omega (arith, no)
]

tag_first : (own gs : List Glyph) → own ≡ glyph.Byte 60 ∷ gs → first_byte own ≡ 39 → ⊥
tag_first own gs i e = let no : 60 ≡ 39 = first_is own (glyph.Byte 60 ∷ gs) i e in omega (arith, no)

switch_first : (own gs : List Glyph) → own ≡ glyph.Byte 95 ∷ gs → first_byte own ≡ 39 → ⊥
switch_first own gs i e = let no : 95 ≡ 39 = first_is own (glyph.Byte 95 ∷ gs) i e in omega (arith, no)

other_first : (own : List Glyph) → IsOneLexeme own ⊎ (IsTagNode own ⊎ (IsCategoryNode own ⊎ IsMediaNode own)) → first_byte own ≡ 39 → ⊥
other_first own n e = elim n [
  | inl one ↦ lexeme_first own one e
  | inr other ↦ elim other [
    | inl tag ↦ tag_first own tag.others tag.is e
    | inr link ↦ elim link [
      | inl category ↦ bracket_first own (glyph.Byte 91 ∷ category.inside) category.is e
      | inr media ↦ bracket_first own (glyph.Byte 91 ∷ media.inside) media.is e
    ]
  ]
]

node_first : (r : Role) (own : List Glyph) → IsFlat r → IsNode r own → first_byte own ≡ 39 → ⊥
node_first Link own f n e = bracket_first own (glyph.Byte 91 ∷ n.inside) n.is e
node_first External own f n e = bracket_first own n.inside n.is e
node_first (Bare ends) own f n e = url_first n.first n.others n.shape n.url (first_is own (glyph.Byte n.first ∷ n.others) n.is e)
node_first Switch own f n e = switch_first own (glyph.Byte 95 ∷ byte_glyphs n.word) n.is e
node_first Toggle own f n e = f
node_first (Mark ends began) own f n e = let no : 0 ≡ 39 = first_is own (glyph.Mark ∷ []) n e in omega (arith, no)
node_first (Group g) own f n e = n
node_first Function own f n e = lexeme_first own n e
node_first Node own f n e = other_first own n e

pub record HasForm (own : List Glyph) : Type 0 where
  pub shape : Shape
  pub alone : own_form in_line own ≡ Some shape
  pub whole : size shape ≡ length own
  pub before : form_before in_line false own [] ≡ Some shape

pub has_form : (r : Role) (own : List Glyph) → IsFlat r → IsNode r own → HasForm own
has_form r own f n = by (own_form in_line own) refl (node_stands r false own [] n tt (none_before r) (open_end own))
  where
    by : (o : Option Shape) → own_form in_line own ≡ o → StandsAs o in_line false own [] → HasForm own
    by None e d = absurd (node_first r own f n (delimiter_first own d))
    by (Some w) e st = record { shape = w; alone = e; whole = st.0; before = st.1 false (λ z. cc) }

pub glyphs_long : (own : List Item) → length (map glyph_of own) ≡ length own
glyphs_long [] = refl
glyphs_long (x ∷ own) = ap suc (glyphs_long own)

pub node_alone : (own : List Item) (w : Shape) (s : IsOneSegment own w) → size w ≡ length (map glyph_of own) → form_before in_line false (map glyph_of own) [] ≡ Some w
    → line_parts own ≡ s.segment.parts
node_alone own w s e k =
    let gs : List Glyph = map glyph_of own in
    let c : Cut = add_tile w (0, []) in
    let all : cuts in_line false 0 gs ≡ c =
    ap (cuts in_line false 0) (sym (append-nil gs)) ∙ form_follows in_line false w gs [] (0, []) e k (λ a h. refl) in
    let r : IsRead (cut_segments context_parts in_line c own) true (s.segment.parts ++ []) =
    subst (λ xs. IsRead (cut_segments context_parts in_line c xs) true (s.segment.parts ++ [])) (append-nil own)
    (tile_read w (0, []) own [] true true [] s (e ∙ glyphs_long own) (none_read true)) in
    read_line c own (cut_segments context_parts in_line c own) all refl r.apart ∙ r.shows ∙ append-nil s.segment.parts

-- a form has texts and nodes alone, whatever calls give in it
pub form_texts : (r : Role) (own : List Item) → IsFlat r → IsNode r (map glyph_of own) → AreTexts (line_parts own)
form_texts r own f n =
    let h = has_form r (map glyph_of own) f n in
    let s = one_segment own h.shape h.alone (h.whole ∙ glyphs_long own) in
    subst AreTexts (sym (node_alone own h.shape s h.whole h.before)) s.texts

pub node_texts : (t : Thing) → IsFlat t.role → IsNode t.role (own_glyphs t) → AreTexts (line_parts (node_items t.source))
node_texts t f n = form_texts t.role (node_items t.source) f n

-- ---- step by step

abbrev Read : Cut → List Item → Bool → List Part → Type 0
Read c xs next ps = IsRead (cut_segments context_parts in_line c xs) next ps

pub guard_read : (u : Bool) (c : Cut) (xs : List Item) (next : Bool) (ps : List Part) → Read c xs next ps
    → Read (guard_cut u c) (guard_items u ++ xs) next (parts Text (guard_items u) ++ ps)
guard_read true c xs next ps r = atom_read (whole form.Nowiki None nowiki) c xs next next ps refl r
guard_read false c xs next ps r = r

pub end_read : (u any : Bool) → Read (guard_cut u (0, [])) (guard_items u) any (parts Text (guard_items u))
end_read true any = atom_read (whole form.Nowiki None nowiki) (0, []) [] any any [] refl (none_read any)
end_read false any = none_read any

and_never : (a b : Bool) → b ≡ false → (a && b) ≡ false
and_never true b e = e
and_never false b e = refl

-- a character that is no apostrophe
one_read : (d : ℕ) (c : Cut) (xs : List Item) (next any : Bool) (ps : List Part) → (d == 39) ≡ false → Read c xs next ps
    → Read (suc c.0, c.1) (char None d ∷ xs) any (part Text (char None d) ∷ ps)
one_read d c xs next any ps q r =
    let k = char_read (char None d) c.0 c.1 xs r.apart (ap (λ (t : Bool). t && begins_with_quote (cut_segments context_parts in_line c xs)) q) in
    record { shows = k.shows ∙ ap (λ qs. part Text (char None d) ∷ qs) r.shows; apart = k.apart; first = λ z. k.first ∙ q }

-- one that may be
plain_read : (t : Bool) (d : ℕ) (c : Cut) (xs : List Item) (next : Bool) (ps : List Part) → (d == 39) ≡ t → (t ≡ true → next ≡ false) → Read c xs next ps
    → Read (suc c.0, c.1) (char None d ∷ xs) t (part Text (char None d) ∷ ps)
plain_read true d c xs next ps i f r =
    let k = char_read (char None d) c.0 c.1 xs r.apart
    (and_never (d == 39) (begins_with_quote (cut_segments context_parts in_line c xs)) (r.first (f refl))) in
    record { shows = k.shows ∙ ap (λ qs. part Text (char None d) ∷ qs) r.shows; apart = k.apart; first = λ z. cc }
plain_read false d c xs next ps i f r = one_read d c xs next false ps i r

wide_other : (b : ℕ) → 128 ≤ b → (b == 39) ≡ false
wide_other b le = grind (arith, nat_tests)

wide_read : (b : ℕ) (bs : List ℕ) (c : Cut) (xs : List Item) (next any : Bool) (ps : List Part) → All IsWide (b ∷ bs) → Read c xs next ps
    → Read (add_chars (length (b ∷ bs)) c) (page_chars (b ∷ bs) ++ xs) any (parts Text (page_chars (b ∷ bs)) ++ ps)
wide_read b [] c xs next any ps w r =
    let one : suc c.0 ≡ length (b ∷ []) + c.0 = omega arith in
    subst (λ (m : ℕ). Read (m, c.1) (char None b ∷ xs) any (part Text (char None b) ∷ ps)) one
    (one_read b c xs next any ps (wide_other b (All-head IsWide b [] w)) r)
wide_read b (d ∷ bs) c xs next any ps w r =
    let one : suc (length (d ∷ bs) + c.0) ≡ length (b ∷ d ∷ bs) + c.0 = omega arith in
    let more : List Item = page_chars (d ∷ bs) ++ xs in
    let qs : List Part = parts Text (page_chars (d ∷ bs)) ++ ps in
    subst (λ (m : ℕ). Read (m, c.1) (char None b ∷ more) any (part Text (char None b) ∷ qs)) one
    (one_read b (add_chars (length (d ∷ bs)) c) more next any qs (wide_other b (All-head IsWide b (d ∷ bs) w))
    (wide_read d bs c xs next next ps (All-tail IsWide b (d ∷ bs) w) r))

bytes_read : (bs : List ℕ) (c : Cut) (xs : List Item) (next any : Bool) (ps : List Part) → All IsWide bs → 0 < length bs → Read c xs next ps
    → Read (add_chars (length bs) c) (page_chars bs ++ xs) any (parts Text (page_chars bs) ++ ps)
bytes_read [] c xs next any ps w some r = absurd (omega (arith, some))
bytes_read (b ∷ bs) c xs next any ps w some r = wide_read b bs c xs next any ps w r

pub letter_read : (e : Bool) (d : ℕ) (c : Cut) (xs : List Item) (next : Bool) (ps : List Part) → (e ≡ false → (d == 39) ≡ true → next ≡ false) → Read c xs next ps
    → Read (letter_cut e d c) (letter_items e d ++ xs) (d == 39) (parts Text (letter_items e d) ++ ps)
letter_read true d c xs next ps f r = atom_read (whole (form.Entity d) None (reference d)) c xs next (d == 39) ps refl r
letter_read false d c xs next ps f r = elim (cases_lt d 128) [
  | inl small ↦
      let one : suc c.0 ≡ length (d ∷ []) + c.0 = omega arith in
      subst (λ bs. Read (add_chars (length bs) c) (page_chars bs ++ xs) (d == 39) (parts Text (page_chars bs) ++ ps)) (sym (encode_ascii d small))
      (subst (λ (m : ℕ). Read (m, c.1) (char None d ∷ xs) (d == 39) (part Text (char None d) ∷ ps)) one (plain_read (d == 39) d c xs next ps refl (f refl) r))
  | inr wide ↦ bytes_read (encode_utf8 d) c xs next (d == 39) ps (encode_wide d wide) (encode_some d) r
]

-- behind an apostrophe that is written as it is no other one is typed, and no node follows
pub apostrophe_next : (s : Setting) (before : List ContentSign) (d : ℕ) (after : List ContentSign) → is_escaped s.within s.place before d after ≡ false → (d == 39) ≡ true
    → is_next 39 (nearest after) ≡ false
unfolding is_escaped
apostrophe_next s before d after e i =
    let is : d ≡ 39 = grind (arith, nat_tests, i) in
    behind (nearest after) (at s before after (subst (λ (k : ℕ). is_escaped s.within s.place before k after ≡ false) is e))
  where
    at : (s : Setting) (before after : List ContentSign) → is_escaped s.within s.place before 39 after ≡ false → is_apostrophe_or_end (nearest after) ≡ false
    at s before after e = (or_parts (is_apostrophe_or_end (nearest before)) (is_apostrophe_or_end (nearest after)) e).1

    behind : (o : Option ContentSign) → is_apostrophe_or_end o ≡ false → is_next 39 o ≡ false
    behind None h = cc
    behind (Some (letter c)) h = h
    behind (Some (thing t)) h = cc

-- a form is what its items are on a line by themselves
pub form_read : (r : Role) (own : List Item) (c : Cut) (xs : List Item) (next any : Bool) (ps : List Part) → IsFlat r → IsNode r (map glyph_of own) → Read c xs next ps
    → Read (add_node (own_form in_line (map glyph_of own)) (length (map glyph_of own)) c) (own ++ xs) any (line_parts own ++ ps)
form_read role own c xs next any ps f n r =
    let gs : List Glyph = map glyph_of own in
    let h = has_form role gs f n in
    let long : size h.shape ≡ length own = h.whole ∙ glyphs_long own in
    let s = one_segment own h.shape h.alone long in
    subst (λ o. Read (add_node o (length gs) c) (own ++ xs) any (line_parts own ++ ps)) (sym h.alone)
    (subst (λ qs. Read (add_tile h.shape c) (own ++ xs) any (qs ++ ps)) (sym (node_alone own h.shape s h.whole h.before))
    (tile_read h.shape c own xs next any ps s long r))

pub node_read : (t : Thing) (c : Cut) (xs : List Item) (next any : Bool) (ps : List Part) → IsFlat t.role → IsNode t.role (own_glyphs t) → Read c xs next ps
    → Read (add_node (own_form in_line (own_glyphs t)) (length (own_glyphs t)) c) (node_items t.source ++ xs) any (line_parts (node_items t.source) ++ ps)
node_read t c xs next any ps f n r = form_read t.role (node_items t.source) c xs next any ps f n r

-- ---- the line

pub letter_by : (t e : Bool) (d : ℕ) (c : Cut) (xs : List Item) (ps : List Part) → Read (letter_cut e d c) (letter_items e d ++ xs) (d == 39) (parts Text (letter_items e d) ++ ps)
    → Read (if t then (0, []) else letter_cut e d c) (if t then [] else letter_items e d ++ xs) (d == 39) (if t then [] else parts Text (letter_items e d) ++ ps)
letter_by true e d c xs ps r = none_read (d == 39)
letter_by false e d c xs ps r = r

line_read : (s : Setting) (before signs : List ContentSign) → AreNodes signs → AreFlat signs
    → Read (line_cut in_line s before signs) (line_items s before signs) (is_next 39 (nearest signs)) (line_content s before signs)
line_read s before [] n f = end_read (is_guarded s before []) false
line_read s before (letter d ∷ after) n f =
    let u = is_guarded s before (letter d ∷ after) in
    let e = is_escaped s.within s.place before d after in
    let c : Cut = line_cut in_line s (letter d ∷ before) after in
    let xs : List Item = line_items s (letter d ∷ before) after in
    let ps : List Part = line_content s (letter d ∷ before) after in
    guard_read u (if d == 10 then (0, []) else letter_cut e d c) (if d == 10 then [] else letter_items e d ++ xs) (d == 39)
    (if d == 10 then [] else parts Text (letter_items e d) ++ ps)
    (letter_by (d == 10) e d c xs ps
    (letter_read e d c xs (is_next 39 (nearest after)) ps (apostrophe_next s before d after) (line_read s (letter d ∷ before) after n f)))
line_read s before (thing t ∷ after) n f =
    let own : List Glyph = own_glyphs t in
    let c : Cut = line_cut in_line s (thing t ∷ before) after in
    let xs : List Item = line_items s (thing t ∷ before) after in
    let ps : List Part = line_content s (thing t ∷ before) after in
    guard_read (is_guarded s before (thing t ∷ after)) (add_node (own_form in_line own) (length own) c) (node_items t.source ++ xs) false
    (line_parts (node_items t.source) ++ ps)
    (node_read t c xs (is_next 39 (nearest after)) false ps f.0 n.0 (line_read s (thing t ∷ before) after n.1 f.1))

-- its tiles
pub line_cuts : (s : Setting) (before signs : List ContentSign) → AreNodes signs → AllMeet s before signs []
    → cuts in_line false 0 (map glyph_of (line_items s before signs)) ≡ line_cut in_line s before signs
line_cuts s before signs n m =
    ap (cuts in_line false 0) (line_is s before signs) ∙ line_follows s before signs n (all_urls signs n) (all_switches signs n) m false (λ z. cc)

pub line_parts_are : (s : Setting) (before signs : List ContentSign) → AreNodes signs → AreFlat signs → AllMeet s before signs []
    → line_parts (line_items s before signs) ≡ line_content s before signs
line_parts_are s before signs n f m =
    let c : Cut = line_cut in_line s before signs in
    let xs : List Item = line_items s before signs in
    let r = line_read s before signs n f in
    read_line c xs (cut_segments context_parts in_line c xs) (line_cuts s before signs n m) refl r.apart ∙ r.shows

-- no two apostrophes are side by side in it
pub line_unstyled : (s : Setting) (before signs : List ContentSign) → AreNodes signs → AreFlat signs → AllMeet s before signs []
    → has_run (segments context_parts in_line (line_items s before signs)) ≡ false
line_unstyled s before signs n f m =
    let r = line_read s before signs n f in
    ap has_run (segments_are (line_cut in_line s before signs) (line_items s before signs) (line_cuts s before signs n m)) ∙ r.apart
