-- A heading keeps its level whatever is typed in it: what is put behind a bare URL that ends with a `=` parts this from the heading's own.
use Rattle.std.proofs.Common.{arith, ◌≡◌, ℕ, ◌+◌, ◌-◌, ◌==◌, Bool, true, false, Some, None, List, [], ◌∷◌, ◌++◌, length, map, drop, refl, sym, ap, ◌∙◌, subst, append_assoc, inr, length-append}
use Rattle.std.specs.Prelude.{◌||◌, if◌then◌else◌, nat_eq}
use Rattle.std.specs.List.{ends_with, flat_map}
use Rattle.std.specs.Cmp.Lexicographic.{pointwise}
use Rattle.std.proofs.Math.Seq.{drop-append_seam}
use Rattle.std.proofs.lemmas.Bool.Decides.{nat_tests}
use Rattle.std.specs.Str.{chars}
use Rattle.wt_span.specs.declared.form.ItemForm.{ItemForm}
use Rattle.wt_span.specs.declared.form.ItemForm.TheVariants as form
use Rattle.wt_span.specs.Bytes.{is_blank}
use Rattle.wt_span.specs.Items.{Item, char, whole, is_mark_form, sign, sources}
use Rattle.wt_guards.specs.declared.role.Role.{Role}
use Rattle.wt_guards.specs.declared.role.Role.TheVariants.{Link, External, Bare, Switch, Toggle, Mark, Group, Function, Node}
use Rattle.wt_guards.specs.Content.{ContentSign, Thing, letter, thing}
use Rattle.wt_guards.specs.Guards.{Setting, is_guarded, is_between_guard, is_start_guard, is_end_guard, spelled}
use Rattle.wt_guards.specs.Letters.{is_escaped}
use Rattle.wt_typed_blocks.proofs.Lines.{end_guarded}
use Rattle.wt_expand.specs.PageItems.{page_items}
use Rattle.wt_tiles.specs.declared.shape.Shape.{Shape}
use Rattle.wt_tiles.specs.declared.shape.TileKind.{TileKind}
use Rattle.wt_tiles.specs.declared.shape.TileKind.TheVariants as kind
use Rattle.wt_tiles.specs.Contexts.{in_line}
use Rattle.wt_tiles.specs.Glyphs.{glyph_of}
use Rattle.wt_tiles.specs.Links.{text_of}
use Rattle.wt_tiles.specs.Tiles.{tiles}
use Rattle.wt_text_edit_laws.specs.TypedHeadings.{Sides, AreSides, IsOfLevel, BeginsWithout, EndsWithout, is_equals_sign}
use Rattle.wt_text_edit_laws.proofs.Headings.HeadingRows.{apart_level}
use Rattle.wt_text_edit_laws.proofs.Headings.TypedTexts.{no_equals, begins_other, begins_still, ends_behind as behind_other}
use Rattle.wt_beside_laws.specs.Content.{AreKept, guard_items, letter_items, content_items}
use Rattle.wt_beside_laws.specs.InHeadings.{AreOnOneLine}
use Rattle.wt_beside_laws.specs.Lines.{AreCharacters, line_items}
use Rattle.wt_beside_laws.specs.Nodes.{IsNode, AreNodes}
use Rattle.wt_beside_laws.specs.Unjoined.{AllUnjoined}
use Rattle.wt_beside_laws.specs.PageSigns.{ends_break, form_role, atom_role, tile_signs, signs_of_tiles, line_signs, signs_of_lines, IsFlatForm, IsFlatTile, AreFlatTiles, AreFlatLines}
use Rattle.wt_beside_laws.specs.Stood.{things}
use Rattle.wt_beside_laws.proofs.Each.{Each}
use Rattle.wt_beside_laws.proofs.PageSigns.{flat_nodes}
use Rattle.wt_beside_laws.proofs.LineHeadings.{same_items, ends_behind, UnequalLast, letter_unequal, end_unequal, led_unequal, unequal_end}
use Rattle.wt_beside_laws.proofs.LineKinds.{led_line}
use Rattle.wt_beside_laws.proofs.NodeEnds.{EndInSigns, nodes_end, unequal_by}
use Rattle.wt_beside_laws.proofs.Marks.Commented.{content_alone}
use Rattle.wt_beside_laws.specs.NodeItems.{node_items}
use Rattle.wt_beside_laws.specs.Led.{AreMarksLed}

-- ---- what a bare URL's role tells of its last item

-- where it says that it doesn't end with a `=`, it doesn't
abbrev pub BareTold : Role → List ℕ → Type 0
BareTold Link ss = Unit {0}
BareTold External ss = Unit {0}
BareTold (Bare true) ss = Unit {0}
BareTold (Bare false) ss = EndsWithout is_equals_sign ss
BareTold Switch ss = Unit {0}
BareTold Toggle ss = Unit {0}
BareTold (Mark ends began) ss = Unit {0}
BareTold (Group g) ss = Unit {0}
BareTold Function ss = Unit {0}
BareTold Node ss = Unit {0}

abbrev pub Told : Thing → Type 0
Told t = BareTold t.role (map sign (node_items t.source))

abbrev pub AllTold : List ContentSign → Type 0
AllTold [] = Unit {0}
AllTold (letter c ∷ after) = AllTold after
AllTold (thing t ∷ after) = Told t × AllTold after

told_both : (xs ys : List ContentSign) → AllTold xs → AllTold ys → AllTold (xs ++ ys)
told_both [] ys h k = k
told_both (letter c ∷ xs) ys h k = told_both xs ys h k
told_both (thing t ∷ xs) ys h k = (h.0, told_both xs ys h.1 k)

seen_front : (xs ys : List ContentSign) → EndInSigns (xs ++ ys) → EndInSigns xs
seen_front [] ys h = tt
seen_front (letter c ∷ xs) ys h = seen_front xs ys h
seen_front (thing t ∷ xs) ys h = (h.0, seen_front xs ys h.1)

seen_rest : (xs ys : List ContentSign) → EndInSigns (xs ++ ys) → EndInSigns ys
seen_rest [] ys h = h
seen_rest (letter c ∷ xs) ys h = seen_rest xs ys h
seen_rest (thing t ∷ xs) ys h = seen_rest xs ys h.1

-- ---- by its text

ends_at : (front : List ℕ) → ends_with nat_eq (front ++ 61 ∷ []) (61 ∷ []) ≡ true
ends_at front =
    let n : length (front ++ 61 ∷ []) - 1 ≡ length front = omega (arith, length-append front (61 ∷ [])) in
    ap (λ (k : ℕ). pointwise nat_eq (61 ∷ []) (drop k (front ++ 61 ∷ []))) n ∙ ap (pointwise nat_eq (61 ∷ [])) (drop-append_seam front (61 ∷ []))

char_told : (front : List ℕ) (b : ℕ) (v : Bool) → (b == 61) ≡ v → ends_with nat_eq (front ++ b ∷ []) (61 ∷ []) ≡ false → v ≡ false
char_told front b false f e = refl
char_told front b true f e =
    let is : b ≡ 61 = grind (arith, nat_tests, f) in
    let no : true ≡ false = sym (ends_at front) ∙ subst (λ (c : ℕ). ends_with nat_eq (front ++ c ∷ []) (61 ∷ []) ≡ false) is e in cc

whole_told : (t : Bool) → is_equals_sign (if t then 257 else 256) ≡ false
whole_told true = refl
whole_told false = refl

last_told : (front : List ℕ) (x : Item) → ends_with nat_eq (front ++ (text_of (glyph_of x) ++ [])) (61 ∷ []) ≡ false → is_equals_sign (sign x) ≡ false
last_told front (char o b) e = char_told front b (b == 61) refl e
last_told front (whole f o bs) e = whole_told (is_mark_form f)

told_from : (front : List ℕ) (xs : List Item) → EndsWithout is_blank (map sign xs) → ends_with nat_eq (front ++ flat_map text_of (map glyph_of xs)) (61 ∷ []) ≡ false
    → EndsWithout is_equals_sign (map sign xs)
told_from front [] h e = absurd h
told_from front (x ∷ []) h e = last_told front x e
told_from front (x ∷ y ∷ ys) h e =
    let own : List ℕ = text_of (glyph_of x) in
    told_from (front ++ own) (y ∷ ys) h
    (subst (λ (bs : List ℕ). ends_with nat_eq bs (61 ∷ []) ≡ false) (sym (append_assoc front own (flat_map text_of (map glyph_of (y ∷ ys))))) e)

bare_by : (v : Bool) (xs : List Item) → ends_with nat_eq (flat_map text_of (map glyph_of xs)) (61 ∷ []) ≡ v → EndsWithout is_blank (map sign xs)
    → BareTold (Bare v) (map sign xs)
bare_by true xs e h = tt
bare_by false xs e h = told_from [] xs h e

bare_told : (xs : List Item) → IsFlatForm xs → EndsWithout is_blank (map sign (node_items (sources xs)))
    → BareTold (Bare (ends_with nat_eq (flat_map text_of (map glyph_of xs)) (61 ∷ []))) (map sign (node_items (sources xs)))
bare_told xs f h =
    let v : Bool = ends_with nat_eq (flat_map text_of (map glyph_of xs)) (61 ∷ []) in
    subst (λ (ys : List Item). BareTold (Bare v) (map sign ys)) (sym f.alone)
    (bare_by v xs refl (subst (λ (ys : List Item). EndsWithout is_blank (map sign ys)) f.alone h))

form_told : (f : ItemForm) (ss : List ℕ) → BareTold (form_role f) ss
form_told form.Chars ss = tt
form_told (form.Entity c) ss = tt
form_told form.Nowiki ss = tt
form_told form.Extension ss = tt
form_told form.Function ss = tt
form_told form.Comment ss = tt
form_told form.Include ss = tt
form_told form.Hidden ss = tt
form_told form.EmptyCall ss = tt

atom_told : (xs : List Item) (ss : List ℕ) → BareTold (atom_role xs) ss
atom_told [] ss = tt
atom_told (char o b ∷ xs) ss = tt
atom_told (whole f o bs ∷ xs) ss = form_told f ss

letters_told : (cs : List ℕ) → AllTold (map letter cs)
letters_told [] = tt
letters_told (c ∷ cs) = letters_told cs

tile_told : (k : TileKind) (began : Bool) (at : ℕ) (xs : List Item) → IsFlatTile k xs → EndInSigns (tile_signs k began at xs) → AllTold (tile_signs k began at xs)
tile_told kind.Link began at xs f h = (tt, tt)
tile_told kind.Category began at xs f h = (tt, tt)
tile_told kind.Media began at xs f h = (tt, tt)
tile_told kind.ExtLink began at xs f h = (tt, tt)
tile_told kind.BareUrl began at xs f h = (bare_told xs f h.0, tt)
tile_told kind.Br began at xs f h = (tt, tt)
tile_told kind.Pair began at xs f h = (tt, tt)
tile_told kind.TagIsland began at xs f h = (tt, tt)
tile_told kind.Switch began at xs f h = (tt, tt)
tile_told kind.Atom began at xs f h = (atom_told xs (map sign (node_items (sources xs))), tt)
tile_told kind.Mark began at xs f h = (tt, tt)
tile_told kind.Chars began at xs f h = letters_told (chars (sources xs))

tiles_told : (began : Bool) (at : ℕ) (ps : List (Shape × List Item)) → AreFlatTiles ps → EndInSigns (signs_of_tiles began at ps) → AllTold (signs_of_tiles began at ps)
tiles_told began at [] f h = tt
tiles_told began at ((w, xs) ∷ ps) f h =
    let own : List ContentSign = tile_signs w.kind began at xs in
    let more : List ContentSign = signs_of_tiles (ends_break (sources xs)) (at + length (sources xs)) ps in
    told_both own more (tile_told w.kind began at xs f.0 (seen_front own more h)) (tiles_told (ends_break (sources xs)) (at + length (sources xs)) ps f.1 (seen_rest own more h))

lines_told : (at : ℕ) (ls : List (List Item)) → AreFlatLines ls → EndInSigns (signs_of_lines at ls) → AllTold (signs_of_lines at ls)
lines_told at [] f h = tt
lines_told at (l ∷ []) f h = tiles_told true at (tiles in_line l) f.1 h
lines_told at (l ∷ m ∷ ls) f h =
    let own : List ContentSign = line_signs at l in
    let more : List ContentSign = signs_of_lines (at + length (sources l) + 1) (m ∷ ls) in
    told_both own (letter 10 ∷ more) (tiles_told true at (tiles in_line l) f.1 (seen_front own (letter 10 ∷ more) h))
    (lines_told (at + length (sources l) + 1) (m ∷ ls) f.2 (seen_rest own (letter 10 ∷ more) h))

-- ---- a content of some of these nodes

each_told : (signs : List ContentSign) → AllTold signs → Each Told (things signs)
each_told [] h = tt
each_told (letter c ∷ after) h = each_told after h
each_told (thing t ∷ after) h = (h.0, each_told after h.1)

pub told_each : (signs : List ContentSign) → Each Told (things signs) → AllTold signs
told_each [] h = tt
told_each (letter c ∷ after) h = told_each after h
told_each (thing t ∷ after) h = (h.0, told_each after h.1)

pub nodes_told : (at : ℕ) (ls : List (List Item)) → AreFlatLines ls → Each Told (things (signs_of_lines at ls))
nodes_told at ls f =
    let olds : List ContentSign = signs_of_lines at ls in
    let seen : EndInSigns olds = nodes_end olds (flat_nodes ls at olds f refl) in
    each_told olds (lines_told at ls f seen)

-- ---- the last item

or_last : (a b : Bool) → b ≡ true → (a || b) ≡ true
or_last true b e = refl
or_last false b e = e

bare_guarded : (s : Setting) (t : Thing) (before : List ContentSign) → s.within ≡ false → t.role ≡ Bare true → is_guarded s (thing t ∷ before) [] ≡ true
unfolding is_guarded is_end_guard
bare_guarded s t before w e =
    let u : Thing = record { role = Bare true; source = t.source; place = t.place } in
    let start : Bool = is_start_guard (thing u ∷ before) [] in
    rw (w, e) (or_last (is_between_guard (Some (thing u)) None) (start || true) (or_last start true refl))

role_apart : (r : Role) (items : List Item) (end : Bool) → IsNode r (map glyph_of items) → BareTold r (map sign items) → (r ≡ Bare true → end ≡ true)
    → UnequalLast (items ++ guard_items end)
role_apart (Bare true) items end n h f =
    subst (λ (u : Bool). UnequalLast (items ++ guard_items u)) (sym (f refl)) (ends_behind is_equals_sign items (guard_items true) refl)
role_apart (Bare false) items end n h f = end_unequal end items h
role_apart Link items end n h f = end_unequal end items (unequal_by Link items n tt)
role_apart External items end n h f = end_unequal end items (unequal_by External items n tt)
role_apart Switch items end n h f = end_unequal end items (unequal_by Switch items n tt)
role_apart Toggle items end n h f = end_unequal end items (unequal_by Toggle items n tt)
role_apart (Mark ends began) items end n h f = end_unequal end items (unequal_by (Mark ends began) items n tt)
role_apart (Group g) items end n h f = absurd n
role_apart Function items end n h f = end_unequal end items (unequal_by Function items n tt)
role_apart Node items end n h f = end_unequal end items (unequal_by Node items n tt)

content_apart : (s : Setting) (before : List ContentSign) (next : ContentSign) (after : List ContentSign) → s.within ≡ false → AreNodes (next ∷ after)
    → AllTold (next ∷ after) → UnequalLast (content_items s before (next ∷ after))
content_apart s before (letter c) [] w n h =
    let t = is_escaped s.within s.place before c [] in
    let guard : List Item = guard_items (is_guarded s before (letter c ∷ [])) in
    let end : Bool = is_guarded s (letter c ∷ before) [] in
    ends_behind is_equals_sign guard (letter_items t c ++ guard_items end)
    (end_unequal end (letter_items t c) (letter_unequal t c (λ z. no_equals s.within s.place before c (is_equals_sign c) refl z)))
content_apart s before (letter c) (d ∷ after) w n h =
    let own : List Item = letter_items (is_escaped s.within s.place before c (d ∷ after)) c in
    let guard : List Item = guard_items (is_guarded s before (letter c ∷ d ∷ after)) in
    let more : List Item = content_items s (letter c ∷ before) (d ∷ after) in
    ends_behind is_equals_sign guard (own ++ more) (ends_behind is_equals_sign own more (content_apart s (letter c ∷ before) d after w n h))
content_apart s before (thing t) [] w n h =
    let guard : List Item = guard_items (is_guarded s before (thing t ∷ [])) in
    let end : Bool = is_guarded s (thing t ∷ before) [] in
    ends_behind is_equals_sign guard (node_items t.source ++ guard_items end)
    (role_apart t.role (node_items t.source) end n.0 h.0 (λ e. bare_guarded s t before w e))
content_apart s before (thing t) (d ∷ after) w n h =
    let guard : List Item = guard_items (is_guarded s before (thing t ∷ d ∷ after)) in
    let more : List Item = content_items s (thing t ∷ before) (d ∷ after) in
    ends_behind is_equals_sign guard (node_items t.source ++ more)
    (ends_behind is_equals_sign (node_items t.source) more (content_apart s (thing t ∷ before) d after w n.1 h.1))

all_apart : (s : Setting) (signs : List ContentSign) → s.within ≡ false → AreNodes signs → AllTold signs → UnequalLast (content_items s [] signs)
all_apart s [] w n h = subst (λ (u : Bool). UnequalLast (guard_items u)) (sym (end_guarded s [] w refl)) refl
all_apart s (next ∷ after) w n h = content_apart s [] next after w n h

-- ---- the level

-- where each bare URL says so of its last item
pub level_told : (s : Setting) (signs : List ContentSign) (sides : Sides) → s.within ≡ false → AreKept signs → AreCharacters signs → AreNodes signs → AllUnjoined s [] signs
    → AreMarksLed s.place signs → AreOnOneLine signs → AllTold signs → AreSides sides → IsOfLevel sides (page_items (spelled s signs))
level_told s signs sides w k c n u d o h a =
    let own : List Item = page_items (spelled s signs) in
    let is : own ≡ content_items s [] signs = content_alone s signs (record { within = w; kept = k; nodes = n; unjoined = u; led = d }) in
    let ss : List ℕ = map sign own in
    let begins : BeginsWithout is_equals_sign ss =
    subst (λ (xs : List Item). BeginsWithout is_equals_sign (map sign xs)) (sym (is ∙ sym (same_items s [] signs o)))
    (led_unequal (line_items s [] signs) (led_line s [] signs w refl c n)) in
    let last : EndsWithout is_equals_sign ss = subst UnequalLast (sym is) (all_apart s signs w n h) in
    apart_level sides own a (record {
      first = begins_other sides.lead (ss ++ sides.trail) a.lead (begins_still ss sides.trail begins);
      last = behind_other sides.lead (ss ++ sides.trail) (unequal_end ss sides.trail a.trail (inr last));
    })
