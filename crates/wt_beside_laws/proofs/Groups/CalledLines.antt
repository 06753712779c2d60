-- The lines of a content whose nodes have given items: cut where a line break is typed, each of them text.
use Rattle.std.proofs.Common.{arith, ◌≡◌, ◌⊎◌, inl, inr, ℕ, ◌<◌, ◌==◌, Bool, true, false, List, [], ◌∷◌, ◌++◌, map, refl, sym, ap, ◌∙◌, subst, append-nil, All}
use Rattle.std.specs.Prelude.{◌&&◌, ◌||◌, not, nat_lt, if◌then◌else◌}
use Rattle.std.proofs.lemmas.Bool.Decides.{nat_tests, Decides-eqb}
use Rattle.std.proofs.lemmas.List.{map-append}
use Rattle.std.proofs.lemmas.List.Elements.{All-nil, All-cons}
use Rattle.wt_span.specs.Items.{Item}
use Rattle.wt_guards.specs.declared.role.Role.TheVariants.{Group}
use Rattle.wt_guards.specs.declared.role.Transclusion.{Transclusion}
use Rattle.wt_guards.specs.Content.{ContentSign, Thing, letter, thing, nearest}
use Rattle.wt_guards.specs.Guards.{Setting, is_guarded, is_line_start, is_line_begun, is_new_at_start, is_mark as is_mark_role}
use Rattle.wt_guards.specs.Letters.{is_bracket, is_escaped}
use Rattle.wt_guards.specs.Table.{line_start_hazard}
use Rattle.wt_typed_blocks.proofs.Lines.{unguarded_begins, end_guarded}
use Rattle.wt_typed_blocks.proofs.TextKinds.{OpensText, atom_opens}
use Rattle.wt_lines.specs.Lines.{lines, IsUnbroken}
use Rattle.wt_tiles.specs.declared.glyph.Glyph.{Glyph}
use Rattle.wt_tiles.specs.declared.glyph.Glyph.TheVariants as glyph
use Rattle.wt_tiles.specs.Glyphs.{glyph_of}
use Rattle.wt_text_edit_laws.proofs.Paragraphs.LineBlocks.{OwnBreaks}
use Rattle.wt_beside_laws.specs.Called.{items_with, line_with, later_with, lines_with, IsOwnNode, IsGivenAs, AreGiven}
use Rattle.wt_beside_laws.specs.Content.{guard_items, letter_items}
use Rattle.wt_beside_laws.specs.Given.{given_glyphs, may_begin_line, BeginsLine, GivesSigns, IsGroup}
use Rattle.wt_beside_laws.specs.Glyphs.{guard_glyphs, letter_glyphs}
use Rattle.wt_beside_laws.specs.Lines.{AreCharacters, IsLineOfText, AreLinesOfText}
use Rattle.wt_beside_laws.proofs.LineItems.{unbroken_before, guard_before, guard_alone, letter_unbroken, break_items}
use Rattle.wt_beside_laws.proofs.LineKinds.{Opens, FirstOpens, opens_small, at_bracket, opens_line, opens_unmarked, guard_opens, letter_opens, no_break, items_open, node_opens, new_guarded, later_by}
use Rattle.wt_beside_laws.proofs.LineParts.{guard_is, letter_is}
use Rattle.wt_beside_laws.proofs.LineRows.{own_both, unbroken_own, guard_own, letter_own}
use Rattle.wt_beside_laws.proofs.Groups.Gifts.{given_case, gift_of, line_glyphs_with}
use Rattle.wt_beside_laws.proofs.Groups.GivenTiles.{given_are}

-- ---- as inline forms read them

ended_is : (t e : Bool) (c : ℕ) (xs : List Item) (gs : List Glyph) → map glyph_of xs ≡ gs
    → map glyph_of (if t then [] else letter_items e c ++ xs) ≡ (if t then [] else letter_glyphs e c ++ gs)
ended_is true e c xs gs h = refl
ended_is false e c xs gs h = letter_is e c xs ∙ ap (λ hs. letter_glyphs e c ++ hs) h

pub line_is : (s : Setting) (before signs : List ContentSign) (owns : List (List Item))
    → map glyph_of (line_with s before signs owns) ≡ line_glyphs_with s before signs owns
line_is s before [] owns =
    ap (map glyph_of) (sym (append-nil (guard_items (is_guarded s before [])))) ∙ guard_is (is_guarded s before []) [] ∙ append-nil (guard_glyphs (is_guarded s before []))
line_is s before (letter c ∷ after) owns =
    let u = is_guarded s before (letter c ∷ after) in
    let e = is_escaped s.within s.place before c after in
    let more : List Item = line_with s (letter c ∷ before) after owns in
    guard_is u (if c == 10 then [] else letter_items e c ++ more)
    ∙ ap (λ gs. guard_glyphs u ++ gs) (ended_is (c == 10) e c more (line_glyphs_with s (letter c ∷ before) after owns) (line_is s (letter c ∷ before) after owns))
line_is s before (thing t ∷ after) [] =
    let u = is_guarded s before (thing t ∷ after) in
    ap (map glyph_of) (sym (append-nil (guard_items u))) ∙ guard_is u [] ∙ append-nil (guard_glyphs u)
line_is s before (thing t ∷ after) (own ∷ owns) =
    let u = is_guarded s before (thing t ∷ after) in
    let more : List Item = line_with s (thing t ∷ before) after owns in
    guard_is u (own ++ more)
    ∙ ap (λ gs. guard_glyphs u ++ gs) (map-append glyph_of own more ∙ ap (λ gs. map glyph_of own ++ gs) (line_is s (thing t ∷ before) after owns))

-- ---- where they are cut

pub given_unbroken : (t : Thing) (own : List Item) → IsGivenAs t.role t own → IsUnbroken own
given_unbroken t own h = let g = gift_of t own h in g.unbroken

letter_lines : (s : Setting) (before : List ContentSign) (c : ℕ) (after : List ContentSign) (t : Bool) (xs l : List Item) (ls : List (List Item)) → (c == 10) ≡ t
    → lines xs ≡ l ∷ ls
    → lines (letter_items (is_escaped s.within s.place before c after) c ++ xs)
    ≡ (if t then [] else letter_items (is_escaped s.within s.place before c after) c ++ l) ∷ (if t then l ∷ ls else ls)
letter_lines s before c after true xs l ls i e =
    let P : ℕ → Type 0 = λ (k : ℕ). lines (letter_items (is_escaped s.within s.place before k after) k ++ xs) ≡ [] ∷ l ∷ ls in
    let is : c ≡ 10 = grind (arith, nat_tests, i) in
    subst P (sym is) (ap (λ ys. lines (ys ++ xs)) (break_items s.within s.place before after) ∙ ap (λ ms. [] ∷ ms) e)
letter_lines s before c after false xs l ls i e =
    unbroken_before (letter_items (is_escaped s.within s.place before c after) c) xs l ls (letter_unbroken (is_escaped s.within s.place before c after) c i) e

pub lines_from : (s : Setting) (before signs : List ContentSign) (owns : List (List Item)) → AreGiven signs owns
    → lines (items_with s before signs owns) ≡ line_with s before signs owns ∷ later_with s before signs owns
lines_from s before [] owns h = guard_alone (is_guarded s before [])
lines_from s before (letter c ∷ after) owns h =
    guard_before (is_guarded s before (letter c ∷ after))
    (letter_items (is_escaped s.within s.place before c after) c ++ items_with s (letter c ∷ before) after owns) _ _
    (letter_lines s before c after (c == 10) (items_with s (letter c ∷ before) after owns) (line_with s (letter c ∷ before) after owns)
    (later_with s (letter c ∷ before) after owns) refl (lines_from s (letter c ∷ before) after owns h))
lines_from s before (thing t ∷ after) [] h = absurd h
lines_from s before (thing t ∷ after) (own ∷ owns) h =
    let xs : List Item = items_with s (thing t ∷ before) after owns in
    guard_before (is_guarded s before (thing t ∷ after)) (own ++ xs) _ _
    (unbroken_before own xs (line_with s (thing t ∷ before) after owns) (later_with s (thing t ∷ before) after owns)
    (given_unbroken t own h.0) (lines_from s (thing t ∷ before) after owns h.1))

pub items_own : (s : Setting) (before signs : List ContentSign) (owns : List (List Item)) → AreGiven signs owns → OwnBreaks (items_with s before signs owns)
items_own s before [] owns h = guard_own (is_guarded s before [])
items_own s before (letter c ∷ after) owns h =
    let e = is_escaped s.within s.place before c after in
    let more : List Item = items_with s (letter c ∷ before) after owns in
    own_both (guard_items (is_guarded s before (letter c ∷ after))) (letter_items e c ++ more) (guard_own (is_guarded s before (letter c ∷ after)))
    (own_both (letter_items e c) more (letter_own e c) (items_own s (letter c ∷ before) after owns h))
items_own s before (thing t ∷ after) [] h = absurd h
items_own s before (thing t ∷ after) (own ∷ owns) h =
    let more : List Item = items_with s (thing t ∷ before) after owns in
    own_both (guard_items (is_guarded s before (thing t ∷ after))) (own ++ more) (guard_own (is_guarded s before (thing t ∷ after)))
    (own_both own more (unbroken_own own (given_unbroken t own h.0)) (items_own s (thing t ∷ before) after owns h.1))

-- ---- each is text

any_of : (u v : Bool) → (u || v) ≡ true → (u ≡ true) ⊎ (v ≡ true)
any_of true v e = inl refl
any_of false v e = inr e

both_of : (u v : Bool) → (u && v) ≡ true → (u ≡ true) × (v ≡ true)
both_of true true e = (refl, refl)
both_of true false e = cc
both_of false v e = cc

none_of : (u v w : Bool) → not (u || (v || w)) ≡ true → (u ≡ false) × (v ≡ false) × (w ≡ false)
none_of true v w e = cc
none_of false true w e = cc
none_of false false true e = cc
none_of false false false e = (refl, refl, refl)

less_than : (b : ℕ) → nat_lt b 256 ≡ true → b < 256
less_than b e = grind (arith, nat_tests, e)

byte_opens : (b : ℕ) → may_begin_line (glyph.Byte b) ≡ true → OpensText b
byte_opens b e = elim (any_of (b == 91) (nat_lt b 256 && not (b == 10 || (line_start_hazard b || is_bracket b))) e) [
  | inl i ↦ subst OpensText (sym ((Decides-eqb b 91).0 i)) at_bracket
  | inr k ↦
      let both = both_of (nat_lt b 256) (not (b == 10 || (line_start_hazard b || is_bracket b))) k in
      let none = none_of (b == 10) (line_start_hazard b) (is_bracket b) both.1 in
      opens_small b (less_than b both.0) none.1 none.0 none.2
]

pub line_begins : (gs : List Glyph) → BeginsLine gs → FirstOpens gs
line_begins [] h = absurd h
line_begins (glyph.Byte b ∷ gs) h = byte_opens b h
line_begins (glyph.Entity c ∷ gs) h = tt
line_begins (glyph.Atom ∷ gs) h = tt
line_begins (glyph.Mark ∷ gs) h = cc

group_opens : (g : Transclusion) (s : Setting) (before : List ContentSign) (t : Thing) (after : List ContentSign) (j : ℕ) (own more : List Item) → s.within ≡ false
    → is_line_start (nearest before) ≡ true → t.role ≡ Group g → IsGroup g j own → is_guarded s before (thing t ∷ after) ≡ false → Opens (own ++ more)
group_opens g s before t after j own more w l role h u = by g.began_line refl
  where
    by : (v : Bool) → g.began_line ≡ v → Opens (own ++ more)
    by true e =
        let k : GivesSigns j own = h.gives in
        let glyphs : map glyph_of own ≡ given_glyphs k.signs = ap (map glyph_of) k.is ∙ given_are j k.signs in
        items_open own more (subst FirstOpens (sym glyphs) (line_begins (given_glyphs k.signs) (h.opens e)))
    by false e =
        let new : is_new_at_start t.role ≡ true = ap is_new_at_start role ∙ ap not e in
        let no : true ≡ false = sym (new_guarded s before t after w l new) ∙ u in cc

given_opens : (s : Setting) (before : List ContentSign) (t : Thing) (after : List ContentSign) (own more : List Item) → s.within ≡ false
    → is_line_start (nearest before) ≡ true → IsGivenAs t.role t own → is_guarded s before (thing t ∷ after) ≡ false → Opens (own ++ more)
given_opens s before t after own more w l h g = elim (given_case t.role t own h) [
  | inl n ↦ items_open own more (node_opens t.role (map glyph_of own) n.node (unmarked n (is_mark_role t.role) refl))
  | inr k ↦ group_opens k.0 s before t after k.2 own more w l k.1 k.3 g
]
  where
    unmarked : IsOwnNode t own → (v : Bool) → is_mark_role t.role ≡ v → v ≡ false
    unmarked n true e = let no : true ≡ false = sym (new_guarded s before t after w l (n.inside e)) ∙ g in cc
    unmarked n false e = refl

pub line_opens : (s : Setting) (before signs : List ContentSign) (owns : List (List Item)) → s.within ≡ false → is_line_start (nearest before) ≡ true
    → is_line_begun before ≡ true → AreCharacters signs → AreGiven signs owns → Opens (line_with s before signs owns)
line_opens s before [] owns w l b v h = subst (λ u. Opens (guard_items u)) (sym (end_guarded s before w l)) atom_opens
line_opens s before (letter c ∷ after) owns w l b v h =
    let e = is_escaped s.within s.place before c after in
    let more : List Item = line_with s (letter c ∷ before) after owns in
    guard_opens (is_guarded s before (letter c ∷ after)) (if c == 10 then [] else letter_items e c ++ more)
    (λ g. let f = unguarded_begins s before c after w l b g in
    subst (λ (t : Bool). Opens (if t then [] else letter_items e c ++ more)) (sym (no_break c f)) (letter_opens s before c after more e refl v.0 f))
line_opens s before (thing t ∷ after) [] w l b v h = absurd h
line_opens s before (thing t ∷ after) (own ∷ owns) w l b v h =
    let more : List Item = line_with s (thing t ∷ before) after owns in
    guard_opens (is_guarded s before (thing t ∷ after)) (own ++ more)
    (λ g. given_opens s before t after own more w l h.0 g)

later_are : (tables : ℕ) (s : Setting) (before signs : List ContentSign) (owns : List (List Item)) → s.within ≡ false → AreCharacters signs → AreGiven signs owns
    → All (IsLineOfText tables) (later_with s before signs owns)
later_are tables s before [] owns w v h = All-nil (IsLineOfText tables)
later_are tables s before (letter c ∷ after) owns w v h =
    let l : List Item = line_with s (letter c ∷ before) after owns in
    later_by tables (c == 10) l (later_with s (letter c ∷ before) after owns)
    (λ e. opens_line tables l (line_opens s (letter c ∷ before) after owns w e e v.1 h)) (later_are tables s (letter c ∷ before) after owns w v.1 h)
later_are tables s before (thing t ∷ after) [] w v h = absurd h
later_are tables s before (thing t ∷ after) (own ∷ owns) w v h = later_are tables s (thing t ∷ before) after owns w v h.1

pub lines_are_text : (tables : ℕ) (s : Setting) (signs : List ContentSign) (owns : List (List Item)) → s.within ≡ false → AreCharacters signs → AreGiven signs owns
    → All (IsLineOfText tables) (lines_with s signs owns)
lines_are_text tables s signs owns w v h =
    All-cons (IsLineOfText tables) (line_with s [] signs owns) (later_with s [] signs owns)
    (opens_line tables (line_with s [] signs owns) (line_opens s [] signs owns w refl refl v h)) (later_are tables s [] signs owns w v h)

pub are_lines_of_text : (tables : ℕ) (s : Setting) (signs : List ContentSign) (owns : List (List Item)) → s.within ≡ false → AreCharacters signs → AreGiven signs owns
    → AreLinesOfText tables (lines_with s signs owns)
are_lines_of_text tables s signs owns w v h =
    (opens_unmarked (line_with s [] signs owns) (line_opens s [] signs owns w refl refl v h), lines_are_text tables s signs owns w v h)
