-- Each line of a content is text: it begins with an atom, or with a character that begins no other block.
use Rattle.std.proofs.Common.{arith, ◌≡◌, ℕ, ◌+◌, ◌<◌, ◌≤◌, ◌==◌, Bool, true, false, Option, Some, List, [], ◌∷◌, ◌++◌, length, map, refl, sym, ap, ap₂, ◌∙◌, subst, inl, inr, ◌⊎◌, All}
use Rattle.std.specs.Prelude.{if◌then◌else◌, encode_utf8, not, ◌&&◌, ◌||◌}
use Rattle.std.specs.Char.{IsScalar, to_ascii_lowercase}
use Rattle.std.specs.List.{prefix_len}
use Rattle.std.proofs.lemmas.Bool.{cases_lt}
use Rattle.std.proofs.lemmas.Bool.Decides.{nat_tests}
use Rattle.std.proofs.lemmas.List.Elements.{All-nil, All-cons, All-head}
use Rattle.std.proofs.lemmas.Str.{encode_ascii, IsUtf8-encode}
use Rattle.percent_encoding.proofs.PercentLemmas.{IsByte}
use Rattle.wt_span.specs.declared.form.ItemForm.{ItemForm}
use Rattle.wt_span.specs.declared.form.ItemForm.TheVariants as form
use Rattle.wt_span.specs.Items.{Item, char, whole, is_mark_form, is_mark, sign}
use Rattle.wt_names.proofs.Ascii.{IsWide, encode_wide, encode_some}
use Rattle.wt_names.proofs.Utf8.{utf8_bytes}
use Rattle.wt_tree.specs.declared.edit_shape.Place.TheVariants as place
use Rattle.wt_guards.specs.declared.role.Role.{Role}
use Rattle.wt_guards.specs.declared.role.Role.TheVariants.{Link, External, Bare, Switch, Toggle, Mark, Group, Function, Node}
use Rattle.wt_guards.specs.Content.{ContentSign, Thing, letter, thing, nearest, ends_line, is_invisible}
use Rattle.wt_guards.specs.Guards.{Setting, is_guarded, is_between_guard, is_start_guard, is_line_start, is_empty_line, is_line_mark_next, is_line_begun, is_start_hazard, is_new_at_start, is_new_next, is_end_guard, is_blank_guard, is_mark as is_mark_role}
use Rattle.wt_guards.specs.Table.{line_start_hazard}
use Rattle.wt_guards.specs.Letters.{is_bracket, is_escaped}
use Rattle.wt_typed_blocks.proofs.TextReads.{bracket_escaped, not_bracket}
use Rattle.wt_typed_blocks.proofs.Lines.{is_free, may_begin, both, unguarded_begins, end_guarded}
use Rattle.wt_typed_blocks.proofs.TextKinds.{OpensText, opens_kind, opens_text, atom_opens}
use Rattle.wt_tiles.specs.declared.glyph.Glyph.{Glyph}
use Rattle.wt_tiles.specs.declared.glyph.Glyph.TheVariants as glyph
use Rattle.wt_tiles.specs.declared.shape.Shape.{Shape}
use Rattle.wt_tiles.specs.Glyphs.{glyph_of}
use Rattle.wt_tiles.specs.Urls.{bare_url_at}
use Rattle.wt_span.specs.Bytes.{is_blank}
use Rattle.wt_page.specs.Rows.{marks_len}
use Rattle.wt_text_edit_laws.specs.LonePages.{page_chars}
use Rattle.wt_text_edit_laws.proofs.Paragraphs.Marks.{mark_sign as sign_of_mark, kind_marks}
use Rattle.wt_beside_laws.specs.Led.{BeginsUnled}
use Rattle.wt_beside_laws.specs.Content.{guard_items, letter_items}
use Rattle.wt_beside_laws.specs.Cuts.{own_glyphs}
use Rattle.wt_beside_laws.specs.Lines.{AreCharacters, line_items, later_lines, content_lines, IsLineOfText, AreLinesOfText}
use Rattle.wt_beside_laws.specs.Nodes.{IsDelimiter, IsOneLexeme, IsTagNode, IsCategoryNode, IsMediaNode, IsNode, AreNodes}
use Rattle.wt_beside_laws.proofs.NodesBegin.{no_url}
use Rattle.wt_beside_laws.specs.NodeItems.{node_items}

-- ---- a line by its first item

abbrev pub Opens : List Item → Type 0
Opens [] = ⊥
Opens (x ∷ xs) = OpensText (sign x)

mark_sign : (f : ItemForm) → ((if is_mark_form f then 257 else 256) == 257) ≡ false → is_mark_form f ≡ false
mark_sign f e = by (is_mark_form f) refl
  where
    by : (t : Bool) → is_mark_form f ≡ t → is_mark_form f ≡ false
    by true i = let no : true ≡ false = sym (ap (λ (v : Bool). (if v then 257 else 256) == 257) i) ∙ e in cc
    by false i = i

no_mark : (x : Item) → OpensText (sign x) → is_mark x ≡ false
no_mark (char o b) h = refl
no_mark (whole f o bs) h = mark_sign f h.mark

-- ---- what is put, and what is typed

pub guard_opens : (u : Bool) (xs : List Item) → (u ≡ false → Opens xs) → Opens (guard_items u ++ xs)
guard_opens true xs f = atom_opens
guard_opens false xs f = f refl

wide_may : (b : ℕ) → 128 ≤ b → may_begin b ≡ true
unfolding line_start_hazard
wide_may b h = grind (arith, nat_tests)

bytes_open : (bs : List ℕ) (xs : List Item) → All IsWide bs → All IsByte bs → 0 < length bs → Opens (page_chars bs ++ xs)
bytes_open [] xs w h some = absurd (omega (arith, some))
bytes_open (b ∷ bs) xs w h some = opens_text b (All-head IsByte b bs h) (wide_may b (All-head IsWide b bs w))

plain_opens : (c : ℕ) (xs : List Item) → IsScalar c → may_begin c ≡ true → Opens (page_chars (encode_utf8 c) ++ xs)
plain_opens c xs v m = elim (cases_lt c 128) [
  | inl small ↦ subst (λ bs. Opens (page_chars bs ++ xs)) (sym (encode_ascii c small)) (opens_text c (omega arith) m)
  | inr wide ↦ bytes_open (encode_utf8 c) xs (encode_wide c wide) (utf8_bytes (encode_utf8 c) (IsUtf8-encode c v)) (encode_some c)
]

pub letter_opens : (s : Setting) (before : List ContentSign) (c : ℕ) (after : List ContentSign) (xs : List Item) (e : Bool)
    → is_escaped s.within s.place before c after ≡ e → IsScalar c → is_free c ≡ true → Opens (letter_items e c ++ xs)
letter_opens s before c after xs true i v f = atom_opens
letter_opens s before c after xs false i v f =
    let b = not_bracket (is_bracket c) (is_escaped s.within s.place before c after) (bracket_escaped s.within s.place before c after) i in
    plain_opens c xs v (both (is_free c) (not (is_bracket c)) f (ap not b))

pub no_break : (c : ℕ) → is_free c ≡ true → (c == 10) ≡ false
no_break c f = by (not (line_start_hazard c)) (c == 10) f
  where
    by : (v w : Bool) → (v && not w) ≡ true → w ≡ false
    by true true i = cc
    by true false i = refl
    by false w i = cc

-- ---- a node that stays

abbrev pub OpensGlyph : Glyph → Type 0
OpensGlyph (glyph.Byte b) = OpensText b
OpensGlyph (glyph.Entity c) = Unit {0}
OpensGlyph glyph.Atom = Unit {0}
OpensGlyph glyph.Mark = ⊥

abbrev pub FirstOpens : List Glyph → Type 0
FirstOpens [] = ⊥
FirstOpens (g ∷ gs) = OpensGlyph g

whole_opens : (f : ItemForm) (o : Option ℕ) (bs : List ℕ) → OpensGlyph (glyph_of (whole f o bs)) → OpensText (sign (whole f o bs))
whole_opens form.Chars o bs h = atom_opens
whole_opens (form.Entity c) o bs h = atom_opens
whole_opens form.Nowiki o bs h = atom_opens
whole_opens form.Extension o bs h = atom_opens
whole_opens form.Function o bs h = atom_opens
whole_opens form.Comment o bs h = absurd h
whole_opens form.Include o bs h = absurd h
whole_opens form.Hidden o bs h = absurd h
whole_opens form.EmptyCall o bs h = absurd h

item_opens : (x : Item) → OpensGlyph (glyph_of x) → OpensText (sign x)
item_opens (char o b) h = h
item_opens (whole f o bs) h = whole_opens f o bs h

pub items_open : (own xs : List Item) → FirstOpens (map glyph_of own) → Opens (own ++ xs)
items_open [] xs h = absurd h
items_open (x ∷ own) xs h = item_opens x h

pub opens_small : (b : ℕ) → b < 256 → (line_start_hazard b ≡ false) → (b == 10) ≡ false → is_bracket b ≡ false → OpensText b
opens_small b small h n k = opens_text b small (rw (h, n, k) refl)

pub at_bracket : OpensText 91
at_bracket = record {
  space = refl;
  tab = refl;
  break = refl;
  mark = refl;
  brace = omega arith;
  bar = omega arith;
  bang = omega arith;
  equals = omega arith;
  minus = omega arith;
  star = omega arith;
  hash = omega arith;
  colon = omega arith;
  semicolon = omega arith;
  blank = omega arith;
}

at_apostrophe : OpensText 39
unfolding line_start_hazard
at_apostrophe = opens_text 39 (omega arith) refl

at_less : OpensText 60
unfolding line_start_hazard
at_less = opens_text 60 (omega arith) refl

at_underscore : OpensText 95
unfolding line_start_hazard
at_underscore = opens_text 95 (omega arith) refl

-- `h` or `f`, in either case
scheme_may : (b : ℕ) → (to_ascii_lowercase b == 104) ≡ true → may_begin b ≡ true
unfolding line_start_hazard
scheme_may b e = grind (arith, nat_tests, e)

other_may : (b : ℕ) → (to_ascii_lowercase b == 102) ≡ true → may_begin b ≡ true
unfolding line_start_hazard
other_may b e = grind (arith, nat_tests, e)

small_h : (b : ℕ) → (to_ascii_lowercase b == 104) ≡ true → b < 256
small_h b e = grind (arith, nat_tests, e)

small_f : (b : ℕ) → (to_ascii_lowercase b == 102) ≡ true → b < 256
small_f b e = grind (arith, nat_tests, e)

url_opens : (b : ℕ) (gs : List Glyph) (w : Shape) → bare_url_at false (glyph.Byte b ∷ gs) ≡ Some w → OpensText b
url_opens b gs w is = by (to_ascii_lowercase b == 104) (to_ascii_lowercase b == 102) refl refl
  where
    by : (u v : Bool) → (to_ascii_lowercase b == 104) ≡ u → (to_ascii_lowercase b == 102) ≡ v → OpensText b
    by true v e f = opens_text b (small_h b e) (scheme_may b e)
    by false true e f = opens_text b (small_f b f) (other_may b f)
    by false false e f = let no : true ≡ false = no_url b gs w e f is in cc

delimiter_opens : (own : List Glyph) → IsDelimiter own → FirstOpens own
delimiter_opens own n = elim n [
  | inl i ↦ subst FirstOpens (sym i) at_apostrophe
  | inr i ↦ subst FirstOpens (sym i) at_apostrophe
]

lexeme_opens : (own : List Glyph) → IsOneLexeme own → FirstOpens own
lexeme_opens own n = elim n [
  | inl i ↦ subst FirstOpens (sym i) tt
  | inr i ↦ subst FirstOpens (sym i.1) tt
]

other_opens : (own : List Glyph) → IsOneLexeme own ⊎ (IsTagNode own ⊎ (IsCategoryNode own ⊎ IsMediaNode own)) → FirstOpens own
other_opens own n = elim n [
  | inl one ↦ lexeme_opens own one
  | inr other ↦ elim other [
    | inl tag ↦ subst FirstOpens (sym tag.is) at_less
    | inr link ↦ elim link [
      | inl category ↦ subst FirstOpens (sym category.is) at_bracket
      | inr media ↦ subst FirstOpens (sym media.is) at_bracket
    ]
  ]
]

-- a node that is no mark
pub node_opens : (r : Role) (own : List Glyph) → IsNode r own → is_mark_role r ≡ false → FirstOpens own
node_opens Link own n f = subst FirstOpens (sym n.is) at_bracket
node_opens External own n f = subst FirstOpens (sym n.is) at_bracket
node_opens (Bare ends) own n f = subst FirstOpens (sym n.is) (url_opens n.first n.others n.shape n.url)
node_opens Switch own n f = subst FirstOpens (sym n.is) at_underscore
node_opens Toggle own n f = delimiter_opens own n
node_opens (Mark ends began) own n f = cc
node_opens (Group g) own n f = absurd n
node_opens Function own n f = lexeme_opens own n
node_opens Node own n f = other_opens own n

-- ---- what a mark is

pub mark_is : (r : Role) (own : List Glyph) → IsNode r own → is_mark_role r ≡ true → own ≡ glyph.Mark ∷ []
mark_is Link own n f = cc
mark_is External own n f = cc
mark_is (Bare ends) own n f = cc
mark_is Switch own n f = cc
mark_is Toggle own n f = cc
mark_is (Mark ends began) own n f = n
mark_is (Group g) own n f = cc
mark_is Function own n f = cc
mark_is Node own n f = cc

pub ends_mark : (r : Role) → ends_line r ≡ true → is_mark_role r ≡ true
ends_mark Link e = cc
ends_mark External e = cc
ends_mark (Bare ends) e = cc
ends_mark Switch e = cc
ends_mark Toggle e = cc
ends_mark (Mark ends began) e = refl
ends_mark (Group g) e = cc
ends_mark Function e = cc
ends_mark Node e = cc

-- the line goes on behind it
pub mark_begun : (r : Role) (b : Bool) → is_mark_role r ≡ true → b ≡ true → (ends_line r || (is_invisible r && b)) ≡ true
mark_begun Link b f h = cc
mark_begun External b f h = cc
mark_begun (Bare ends) b f h = cc
mark_begun Switch b f h = cc
mark_begun Toggle b f h = cc
mark_begun (Mark true began) b f h = refl
mark_begun (Mark false began) b f h = h
mark_begun (Group g) b f h = cc
mark_begun Function b f h = cc
mark_begun Node b f h = cc

pub mark_unempty : (r : Role) (b : Bool) → is_mark_role r ≡ true → (ends_line r || (is_invisible r && b)) ≡ false → b ≡ false
mark_unempty Link b f h = cc
mark_unempty External b f h = cc
mark_unempty (Bare ends) b f h = cc
mark_unempty Switch b f h = cc
mark_unempty Toggle b f h = cc
mark_unempty (Mark true began) b f h = cc
mark_unempty (Mark false began) b f h = h
mark_unempty (Group g) b f h = cc
mark_unempty Function b f h = cc
mark_unempty Node b f h = cc

-- ---- where a line begins

pub start_begun : (before : List ContentSign) → is_line_start (nearest before) ≡ true → is_line_begun before ≡ true
start_begun [] l = refl
start_begun (letter c ∷ before) l = l
start_begun (thing t ∷ before) l = ap (λ (v : Bool). v || (is_invisible t.role && is_line_begun before)) l

-- nothing begins a line that didn't begin one
start_says : (between within start empty new first rest : Bool) → within ≡ false → start ≡ true → new ≡ true
    → (between || (not within && (((start && (empty || new)) || first) || rest))) ≡ true
start_says true within start empty new first rest w l i = refl
start_says false true start empty new first rest w l i = cc
start_says false false false empty new first rest w l i = cc
start_says false false true true new first rest w l i = refl
start_says false false true false true first rest w l i = refl
start_says false false true false false first rest w l i = cc

pub new_guarded : (s : Setting) (before : List ContentSign) (t : Thing) (after : List ContentSign) → s.within ≡ false → is_line_start (nearest before) ≡ true
    → is_new_at_start t.role ≡ true → is_guarded s before (thing t ∷ after) ≡ true
unfolding is_guarded is_start_guard
new_guarded s before t after w l i =
    start_says (is_between_guard (nearest before) (Some (thing t))) s.within (is_line_start (nearest before))
    (is_empty_line (thing t ∷ after) && not (is_line_mark_next (Some (thing t)))) (is_new_at_start t.role)
    (is_line_begun before && is_start_hazard (Some (thing t)))
    (is_end_guard s.source s.place before (thing t ∷ after) || is_blank_guard s.source before (thing t ∷ after)) w l i

-- nor is a line empty
empty_says : (between within start empty new first rest : Bool) → within ≡ false → start ≡ true → empty ≡ true
    → (between || (not within && (((start && (empty || new)) || first) || rest))) ≡ true
empty_says true within start empty new first rest w l i = refl
empty_says false true start empty new first rest w l i = cc
empty_says false false false empty new first rest w l i = cc
empty_says false false true true new first rest w l i = refl
empty_says false false true false new first rest w l i = cc

pub empty_guarded : (s : Setting) (before signs : List ContentSign) → s.within ≡ false → is_line_start (nearest before) ≡ true → is_empty_line signs ≡ true
    → is_line_mark_next (nearest signs) ≡ false → is_guarded s before signs ≡ true
unfolding is_guarded is_start_guard
empty_guarded s before signs w l e f =
    empty_says (is_between_guard (nearest before) (nearest signs)) s.within (is_line_start (nearest before))
    (is_empty_line signs && not (is_line_mark_next (nearest signs))) (is_new_next (nearest signs))
    (is_line_begun before && is_start_hazard (nearest signs))
    (is_end_guard s.source s.place before signs || is_blank_guard s.source before signs) w l
    (ap₂ (λ (u v : Bool). u && not v) e f)

-- and no character that may not begin a line is first on it, or behind marks that begin it
begun_says : (between within start empty new begun first rest : Bool) → within ≡ false → begun ≡ true
    → (between || (not within && (((start && (empty || new)) || (begun && first)) || rest))) ≡ false → first ≡ false
begun_says true within start empty new begun first rest w b g = cc
begun_says false true start empty new begun first rest w b g = cc
begun_says false false start empty new false first rest w b g = cc
begun_says false false start empty new true false rest w b g = refl
begun_says false false true true new true true rest w b g = cc
begun_says false false true false true true true rest w b g = cc
begun_says false false true false false true true rest w b g = cc
begun_says false false false empty new true true rest w b g = cc

pub begun_free : (s : Setting) (before : List ContentSign) (c : ℕ) (after : List ContentSign) → s.within ≡ false → is_line_begun before ≡ true
    → is_guarded s before (letter c ∷ after) ≡ false → line_start_hazard c ≡ false
unfolding is_guarded is_start_guard
begun_free s before c after w b g =
    begun_says (is_between_guard (nearest before) (Some (letter c))) s.within (is_line_start (nearest before))
    (is_empty_line (letter c ∷ after) && not (is_line_mark_next (Some (letter c)))) (is_new_next (Some (letter c))) (is_line_begun before) (line_start_hazard c)
    (is_end_guard s.source s.place before (letter c ∷ after) || is_blank_guard s.source before (letter c ∷ after)) w b g

pub both_free : (c : ℕ) → line_start_hazard c ≡ false → (c == 10) ≡ false → is_free c ≡ true
both_free c h t = ap₂ (λ (u v : Bool). not u && not v) h t

-- the first of two is none
pub or_none : (a b : Bool) → (a || b) ≡ false → a ≡ false
or_none true b e = e
or_none false b e = refl

-- ---- the first line begins with no mark

pub line_opens : (s : Setting) (before signs : List ContentSign) → s.within ≡ false → is_line_start (nearest before) ≡ true
    → BeginsUnled place.Paragraph signs → AreCharacters signs → AreNodes signs → Opens (line_items s before signs)
line_opens s before [] w l b v n = subst (λ u. Opens (guard_items u)) (sym (end_guarded s before w l)) atom_opens
line_opens s before (letter c ∷ after) w l b v n =
    let e = is_escaped s.within s.place before c after in
    let more : List Item = line_items s (letter c ∷ before) after in
    guard_opens (is_guarded s before (letter c ∷ after)) (if c == 10 then [] else letter_items e c ++ more)
    (λ g. let f = unguarded_begins s before c after w l (start_begun before l) g in
    subst (λ (t : Bool). Opens (if t then [] else letter_items e c ++ more)) (sym (no_break c f)) (letter_opens s before c after more e refl v.0 f))
line_opens s before (thing t ∷ after) w l b v n =
    let more : List Item = line_items s (thing t ∷ before) after in
    guard_opens (is_guarded s before (thing t ∷ after)) (node_items t.source ++ more)
    (λ g. items_open (node_items t.source) more (node_opens t.role (own_glyphs t) n.0 (unmarked_by g (is_mark_role t.role) refl)))
  where
    unmarked_by : is_guarded s before (thing t ∷ after) ≡ false → (u : Bool) → is_mark_role t.role ≡ u → u ≡ false
    unmarked_by g true e = let no : true ≡ false = sym (new_guarded s before t after w l (b e)) ∙ g in cc
    unmarked_by g false e = refl

pub opens_unmarked : (xs : List Item) → Opens xs → marks_len xs ≡ 0
opens_unmarked [] h = refl
opens_unmarked (x ∷ xs) h = ap (λ (t : Bool). if t then 1 + prefix_len is_mark xs else 0) (no_mark x h)

pub first_unmarked : (s : Setting) (signs : List ContentSign) → s.within ≡ false → BeginsUnled place.Paragraph signs → AreCharacters signs → AreNodes signs
    → marks_len (line_items s [] signs) ≡ 0
first_unmarked s signs w b v n = opens_unmarked (line_items s [] signs) (line_opens s [] signs w refl b v n)

-- ---- each line is text, behind marks that begin it

abbrev pub OpensLed : List Item → Type 0
OpensLed [] = ⊥
OpensLed (x ∷ xs) = ((is_mark x ≡ true) × OpensLed xs) ⊎ OpensText (sign x)

led_kind : (tables : ℕ) (xs : List Item) → OpensLed xs → IsLineOfText tables xs
led_kind tables [] h = absurd h
led_kind tables (x ∷ xs) (inl m) = kind_marks tables (sign x ∷ []) (map sign xs) (sign_of_mark x m.0, tt) ∙ led_kind tables xs m.1
led_kind tables (x ∷ xs) (inr o) = opens_kind tables (sign x) (map sign xs) o

pub opens_line : (tables : ℕ) (xs : List Item) → Opens xs → IsLineOfText tables xs
opens_line tables [] h = absurd h
opens_line tables (x ∷ xs) h = opens_kind tables (sign x) (map sign xs) h

opens_led : (xs : List Item) → Opens xs → OpensLed xs
opens_led [] h = h
opens_led (x ∷ xs) h = inr h

guard_led : (u : Bool) (xs : List Item) → (u ≡ false → OpensLed xs) → OpensLed (guard_items u ++ xs)
guard_led true xs f = inr atom_opens
guard_led false xs f = f refl

same_first : (g h : Glyph) → g ∷ [] ≡ h ∷ [] → g ≡ h
same_first g h e = cc

glyph_mark : (x : Item) → glyph_of x ≡ glyph.Mark → is_mark x ≡ true
glyph_mark (char o b) e = cc
glyph_mark (whole form.Chars o bs) e = cc
glyph_mark (whole (form.Entity c) o bs) e = cc
glyph_mark (whole form.Nowiki o bs) e = cc
glyph_mark (whole form.Extension o bs) e = cc
glyph_mark (whole form.Function o bs) e = cc
glyph_mark (whole form.Comment o bs) e = refl
glyph_mark (whole form.Include o bs) e = refl
glyph_mark (whole form.Hidden o bs) e = refl
glyph_mark (whole form.EmptyCall o bs) e = refl

mark_led : (own xs : List Item) → map glyph_of own ≡ glyph.Mark ∷ [] → OpensLed xs → OpensLed (own ++ xs)
mark_led [] xs e h = cc
mark_led (x ∷ []) xs e h = inl (glyph_mark x (same_first (glyph_of x) glyph.Mark e), h)
mark_led (x ∷ y ∷ own) xs e h = cc

-- a node, and what is behind it if it is a mark
node_led : (t : Thing) (xs : List Item) (u : Bool) → is_mark_role t.role ≡ u → IsNode t.role (own_glyphs t) → (u ≡ true → OpensLed xs)
    → OpensLed (node_items t.source ++ xs)
node_led t xs true e n f = mark_led (node_items t.source) xs (mark_is t.role (own_glyphs t) n e) (f refl)
node_led t xs false e n f = opens_led (node_items t.source ++ xs) (items_open (node_items t.source) xs (node_opens t.role (own_glyphs t) n e))

-- behind marks that begin a line, which isn't empty
led_inside : (s : Setting) (before signs : List ContentSign) → s.within ≡ false → is_line_begun before ≡ true → is_empty_line signs ≡ false
    → AreCharacters signs → AreNodes signs → OpensLed (line_items s before signs)
led_inside s before [] w b f v n = cc
led_inside s before (letter c ∷ after) w b f v n =
    let e = is_escaped s.within s.place before c after in
    let more : List Item = line_items s (letter c ∷ before) after in
    let ten : (c == 10) ≡ false = or_none (c == 10) (is_blank c && is_empty_line after) f in
    guard_led (is_guarded s before (letter c ∷ after)) (if c == 10 then [] else letter_items e c ++ more)
    (λ g. let free : is_free c ≡ true = both_free c (begun_free s before c after w b g) ten in
    subst (λ (t : Bool). OpensLed (if t then [] else letter_items e c ++ more)) (sym ten)
    (opens_led (letter_items e c ++ more) (letter_opens s before c after more e refl v.0 free)))
led_inside s before (thing t ∷ after) w b f v n =
    let more : List Item = line_items s (thing t ∷ before) after in
    guard_led (is_guarded s before (thing t ∷ after)) (node_items t.source ++ more)
    (λ g. node_led t more (is_mark_role t.role) refl n.0
    (λ m. led_inside s (thing t ∷ before) after w (mark_begun t.role (is_line_begun before) m b) (mark_unempty t.role (is_empty_line after) m f) v n.1))

-- where a line begins with a node: a line of comments, behind which another line begins, or another node
led_node : (s : Setting) (before : List ContentSign) (t : Thing) (after : List ContentSign) (v u : Bool) → s.within ≡ false → is_line_start (nearest before) ≡ true
    → ends_line t.role ≡ v → is_empty_line (thing t ∷ after) ≡ u → AreCharacters after → AreNodes (thing t ∷ after)
    → (ends_line t.role ≡ true → OpensLed (line_items s (thing t ∷ before) after)) → OpensLed (line_items s before (thing t ∷ after))
led_node s before t after true u w l e f c n more =
    guard_led (is_guarded s before (thing t ∷ after)) (node_items t.source ++ line_items s (thing t ∷ before) after)
    (λ g. node_led t (line_items s (thing t ∷ before) after) true (ends_mark t.role e) n.0 (λ m. more e))
led_node s before t after false true w l e f c n more =
    subst (λ (g : Bool). OpensLed (guard_items g ++ (node_items t.source ++ line_items s (thing t ∷ before) after)))
    (sym (empty_guarded s before (thing t ∷ after) w l f e)) (inr atom_opens)
led_node s before t after false false w l e f c n more = led_inside s before (thing t ∷ after) w (start_begun before l) f c n

led_letter : (s : Setting) (before : List ContentSign) (c : ℕ) (after : List ContentSign) (u : Bool) → s.within ≡ false → is_line_start (nearest before) ≡ true
    → is_empty_line (letter c ∷ after) ≡ u → AreCharacters (letter c ∷ after) → AreNodes after → OpensLed (line_items s before (letter c ∷ after))
led_letter s before c after true w l f v n =
    let rest : List Item = if c == 10 then [] else letter_items (is_escaped s.within s.place before c after) c ++ line_items s (letter c ∷ before) after in
    subst (λ (g : Bool). OpensLed (guard_items g ++ rest)) (sym (empty_guarded s before (letter c ∷ after) w l f refl)) (inr atom_opens)
led_letter s before c after false w l f v n = led_inside s before (letter c ∷ after) w (start_begun before l) f v n

pub led_line : (s : Setting) (before signs : List ContentSign) → s.within ≡ false → is_line_start (nearest before) ≡ true → AreCharacters signs → AreNodes signs
    → OpensLed (line_items s before signs)
led_line s before [] w l v n = subst (λ u. OpensLed (guard_items u)) (sym (end_guarded s before w l)) (inr atom_opens)
led_line s before (letter c ∷ after) w l v n = led_letter s before c after (is_empty_line (letter c ∷ after)) w l refl v n
led_line s before (thing t ∷ after) w l v n =
    led_node s before t after (ends_line t.role) (is_empty_line (thing t ∷ after)) w l refl refl v n (λ e. led_line s (thing t ∷ before) after w e v n.1)

-- ---- all lines

pub later_by : (tables : ℕ) (t : Bool) (l : List Item) (ls : List (List Item)) → (t ≡ true → IsLineOfText tables l) → All (IsLineOfText tables) ls
    → All (IsLineOfText tables) (if t then l ∷ ls else ls)
later_by tables true l ls f h = All-cons (IsLineOfText tables) l ls (f refl) h
later_by tables false l ls f h = h

later_are : (tables : ℕ) (s : Setting) (before signs : List ContentSign) → s.within ≡ false → AreCharacters signs → AreNodes signs
    → All (IsLineOfText tables) (later_lines s before signs)
later_are tables s before [] w v n = All-nil (IsLineOfText tables)
later_are tables s before (letter c ∷ after) w v n =
    let l : List Item = line_items s (letter c ∷ before) after in
    later_by tables (c == 10) l (later_lines s (letter c ∷ before) after)
    (λ e. led_kind tables l (led_line s (letter c ∷ before) after w e v.1 n)) (later_are tables s (letter c ∷ before) after w v.1 n)
later_are tables s before (thing t ∷ after) w v n = later_are tables s (thing t ∷ before) after w v n.1

pub lines_are_text : (tables : ℕ) (s : Setting) (signs : List ContentSign) → s.within ≡ false → AreCharacters signs → AreNodes signs
    → All (IsLineOfText tables) (content_lines s signs)
lines_are_text tables s signs w v n =
    All-cons (IsLineOfText tables) (line_items s [] signs) (later_lines s [] signs) (led_kind tables (line_items s [] signs) (led_line s [] signs w refl v n))
    (later_are tables s [] signs w v n)

pub are_lines_of_text : (tables : ℕ) (s : Setting) (signs : List ContentSign) → s.within ≡ false → BeginsUnled place.Paragraph signs → AreCharacters signs → AreNodes signs
    → AreLinesOfText tables (content_lines s signs)
are_lines_of_text tables s signs w b v n = (first_unmarked s signs w b v n, lines_are_text tables s signs w v n)
