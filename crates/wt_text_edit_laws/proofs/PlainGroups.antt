-- A group of plain text has no fault: read alone it is one paragraph of this text, no apostrophe switches a style, and no text of it could go on.
use Rattle.std.proofs.Common.{arith, ◌≡◌, ℕ, zero, suc, ◌+◌, ◌==◌, ◌≤◌, Bool, true, false, Option, Some, None, List, [], ◌∷◌, ◌++◌, map, take, drop, refl, sym, ap, ◌∙◌, subst, All}
use Rattle.std.specs.Prelude.{◌&&◌, ◌||◌, ◌%◌, cond, fold, count_by, is_some, if◌then◌else◌}
use Rattle.std.specs.List.{list_all, list_any, flat_map, AllByRecursion}
use Rattle.std.proofs.lemmas.List.Elements.{All-nil, All-cons}
use Rattle.wt_tree.specs.declared.kind.Kind.{Kind}
use Rattle.wt_tree.specs.declared.kind.Kind.TheVariants as kind
use Rattle.wt_tree.specs.declared.kind.Ranges.{Ranges}
use Rattle.wt_tree.specs.declared.edit_shape.InlineForm.{InlineForm}
use Rattle.wt_tree.specs.declared.edit_shape.InlineForm.TheVariants as inline
use Rattle.wt_tree.specs.EditShapes.{edit_shape}
use Rattle.wt_tree.specs.Plain.{Plain, Plains, ended, element, text_before, shown_before, plains_before}
use Rattle.wt_tree.specs.Kinds.{showing}
use Rattle.wt_tree.specs.Tiling.{is_group}
use Rattle.wt_tree.specs.Tree.{Label, Tree, tree, Trees, none, more}
use Rattle.wt_span.specs.declared.form.ItemForm.{ItemForm}
use Rattle.wt_span.specs.declared.form.ItemForm.TheVariants as form
use Rattle.wt_span.specs.Items.{Item, char, whole, sign}
use Rattle.wt_span.specs.Origins.{Expanded}
use Rattle.wt_span.specs.Runs.{put, runs}
use Rattle.wt_guards.specs.Guards.{nowiki}
use Rattle.wt_lines.specs.declared.kind.LineKind.TheVariants as line
use Rattle.wt_lines.specs.Kinds.{kind_of_signs}
use Rattle.wt_lines.specs.Lines.{is_break_item, onto, lines}
use Rattle.wt_inline.specs.declared.loose.Loose.TheVariants.{Text}
use Rattle.wt_inline.specs.Carried.{shown_item}
use Rattle.wt_inline.specs.ItemTree.{plain, ItemTree, inner, nothing, forest}
use Rattle.wt_inline.specs.Parts.{Part, loose, node, held_parts, same_origin, one_leaf, loose_leaf, child, children, whole_tree, parts}
use Rattle.wt_tiles.specs.declared.glyph.Glyph.{Glyph}
use Rattle.wt_tiles.specs.declared.glyph.Glyph.TheVariants as glyph
use Rattle.wt_tiles.specs.declared.shape.Shape.{Shape}
use Rattle.wt_tiles.specs.declared.shape.TileKind.{TileKind}
use Rattle.wt_tiles.specs.declared.shape.TileKind.TheVariants as tile
use Rattle.wt_tiles.specs.Contexts.{in_line}
use Rattle.wt_tiles.specs.Glyphs.{glyph_of, glyph_of_form}
use Rattle.wt_tiles.specs.Tiles.{shapes, size}
use Rattle.wt_checks.proofs.InOrder.{test_equal}
use Rattle.wt_annotated.specs.Annotated.{all_unplaced}
use Rattle.wt_annotated.specs.Labels.{label_at}
use Rattle.wt_content.specs.Content.{has_break}
use Rattle.wt_visible.specs.Children.{differing}
use Rattle.wt_visible.proofs.DifferingLaws.{same_none}
use Rattle.wt_isolation.specs.GroupItems.{empty_nowiki}
use Rattle.wt_isolation.specs.OpenTags.{before, touches_open_tag}
use Rattle.wt_isolation.specs.OpenTexts.{holds_open, in_style, has_open_text, open_text_by}
use Rattle.wt_isolation.specs.TextCalls.{touches_text_call}
use Rattle.wt_isolation.specs.Toggles as toggles
use Rattle.wt_isolation.specs.Toggles.{is_quote, quote_runs, tile_runs, runs_of, switches_italic, switches_bold, are_odd, is_odd_line, has_odd_line}
use Rattle.wt_selser.specs.Edits.{is_tangled}
use Rattle.wt_selser.specs.GroupFaults.{trees_in, shown_by, shown_alone, paragraph_face, one_paragraph, shows_other, is_faulty, faulty_at, has_faulty_group, is_faulty_node}
use Rattle.wt_typed_blocks.proofs.TextKinds.{atom_opens, opens_kind}
use Rattle.wt_text_edit_laws.specs.LonePages.{page_chars, page_of}
use Rattle.wt_text_edit_laws.specs.PlainTexts.{is_plain}
use Rattle.wt_text_edit_laws.specs.PlainGroups.{IsPlainLine, AreOneText, IsPlainGroup, HasPlainGroups, HavePlainGroups}
use Rattle.wt_text_edit_laws.specs.StillItems.{IsStill, IsTypedForm, StillItems}
use Rattle.wt_text_edit_laws.proofs.Texts.PlainRows.{IsText, meaning_typed}
use Rattle.wt_text_edit_laws.proofs.Texts.PlainWords.{and_left, and_right}
use Rattle.wt_text_edit_laws.proofs.Texts.StillLines.{form_parts, still_bytes}
use Rattle.wt_text_edit_laws.proofs.Texts.TypedLeaves.{guard_tree}

-- ---- its items

-- what a call gave
abbrev given : Option ℕ → List ℕ → List Item
given o text = map (char o) text

-- behind a `nowiki` that holds nothing
abbrev alone : Option ℕ → List ℕ → List Item
alone o text = whole form.Nowiki None nowiki ∷ given o text

same_glyphs : (o : Option ℕ) (bs : List ℕ) → map glyph_of (page_chars bs) ≡ map glyph_of (given o bs)
same_glyphs o [] = refl
same_glyphs o (b ∷ bs) = ap (λ (gs : List Glyph). glyph.Byte b ∷ gs) (same_glyphs o bs)

still_given : (o : Option ℕ) (bs : List ℕ) → StillItems (page_chars bs) → StillItems (given o bs)
still_given o [] h = tt
still_given o (b ∷ bs) h = (subst (IsStill b) (same_glyphs o bs) h.0, still_given o bs h.1)

still_alone : (o : Option ℕ) (text : List ℕ) → IsPlainLine text → StillItems (alone o text)
still_alone o text h = (tt, still_given o text (still_bytes text h.plain h.quotes h.switches h.addresses))

-- ---- they are one line of text

unbroken : (o : Option ℕ) (b : ℕ) (bs : List ℕ) → has_break (b ∷ bs) ≡ false → (is_break_item (char o b) ≡ false) × (has_break bs ≡ false)
unbroken o b bs e = by (b == 10) (has_break bs) e
  where
    by : (v w : Bool) → (v || w) ≡ false → (v ≡ false) × (w ≡ false)
    by true w f = absurd (cc)
    by false w f = (refl, f)

given_lines : (o : Option ℕ) (bs : List ℕ) → has_break bs ≡ false → lines (given o bs) ≡ given o bs ∷ []
given_lines o [] e = refl
given_lines o (b ∷ bs) e =
    let u = unbroken o b bs e in
    ap (λ (t : Bool). if t then [] ∷ lines (given o bs) else onto (char o b ∷ []) (lines (given o bs))) u.0
    ∙ ap (onto (char o b ∷ [])) (given_lines o bs u.1)

alone_lines : (o : Option ℕ) (text : List ℕ) → has_break text ≡ false → lines (alone o text) ≡ alone o text ∷ []
alone_lines o text e = ap (onto (whole form.Nowiki None nowiki ∷ [])) (given_lines o text e)

-- a line that begins with an atom is text
atom_text : (ss : List ℕ) → kind_of_signs 0 (256 ∷ ss) ≡ line.Text
atom_text ss = opens_kind 0 256 ss atom_opens

all_text : (o : Option ℕ) (text : List ℕ) → has_break text ≡ false → All IsText (lines (alone o text))
all_text o text e =
    subst (All IsText) (sym (alone_lines o text e))
    (All-cons IsText (alone o text) [] (atom_text (map sign (given o text))) (All-nil IsText))

-- ---- what they show alone

abbrev loosened : Option ℕ → List ℕ → List Part
loosened o bs = map (loose Text o) bs

given_parts : (o : Option ℕ) (bs : List ℕ) → parts Text (given o bs) ≡ loosened o bs
given_parts o [] = refl
given_parts o (b ∷ bs) = ap (λ (ps : List Part). loose Text o b ∷ ps) (given_parts o bs)

same_self : (o : Option ℕ) → same_origin o o ≡ true
same_self None = refl
same_self (Some k) = test_equal k k refl

one_run : (o : Option ℕ) (b : ℕ) (bs : List ℕ) → runs one_leaf (loosened o (b ∷ bs)) ≡ loosened o (b ∷ bs) ∷ []
one_run o b [] = refl
one_run o b (c ∷ cs) =
    ap (put one_leaf (loose Text o b)) (one_run o c cs)
    ∙ ap (λ (t : Bool). if t then (loose Text o b ∷ loosened o (c ∷ cs)) ∷ [] else (loose Text o b ∷ []) ∷ loosened o (c ∷ cs) ∷ []) (same_self o)

held_given : (o : Option ℕ) (bs : List ℕ) → held_parts (loosened o bs) ≡ given o bs
held_given o [] = refl
held_given o (b ∷ bs) = ap (λ (xs : List Item). char o b ∷ xs) (held_given o bs)

-- the `nowiki`, and one text where there are characters
abbrev text_leaf : Option ℕ → List ℕ → List ItemTree
text_leaf o [] = []
text_leaf o (b ∷ bs) = loose_leaf Text (given o (b ∷ bs)) ∷ []

abbrev guard : ItemTree
guard = inner (plain kind.Nowiki) (page_chars nowiki) nothing []

alone_children : (o : Option ℕ) (text : List ℕ) → children (parts Text (alone o text)) ≡ guard ∷ text_leaf o text
unfolding children
alone_children o [] = ap (λ (t : ItemTree). t ∷ []) guard_tree
alone_children o (b ∷ bs) =
    let t : ItemTree = whole_tree form.Nowiki None nowiki in
    ap (λ (ps : List Part). map child (put one_leaf (node t) (runs one_leaf ps))) (given_parts o (b ∷ bs))
    ∙ ap (λ (rs : List (List Part)). map child (put one_leaf (node t) rs)) (one_run o b bs)
    ∙ ap (λ (xs : List Item). t ∷ loose_leaf Text (char o b ∷ xs) ∷ []) (held_given o bs)
    ∙ ap (λ (u : ItemTree). u ∷ loose_leaf Text (given o (b ∷ bs)) ∷ []) guard_tree

shown_given : (o : Option ℕ) (bs : List ℕ) → flat_map shown_item (given o bs) ≡ bs
shown_given o [] = refl
shown_given o (b ∷ bs) = ap (λ (cs : List ℕ). b ∷ cs) (shown_given o bs)

leaves_show : (o : Option ℕ) (text : List ℕ) → plains_before (all_unplaced (forest (guard ∷ text_leaf o text))) ended ≡ text_before text ended
unfolding label_at nowiki
leaves_show o [] = refl
leaves_show o (b ∷ bs) = ap (λ (cs : List ℕ). text_before cs ended) (shown_given o (b ∷ bs))

-- a page of these items
abbrev body_shows : List ItemTree → List Plain
body_shows ts = element paragraph_face (plains_before (all_unplaced (forest ts)) ended) ∷ []

page_shows : (xs : List Item) → shown_by (all_unplaced (trees_in (page_of xs))) ≡ body_shows (children (parts Text xs))
unfolding label_at
page_shows xs = refl

pub alone_shows : (o : Option ℕ) (text : List ℕ) → IsPlainLine text → shown_alone (alone o text) ≡ element paragraph_face (text_before text ended) ∷ []
alone_shows o text h =
    ap (λ (t : ItemTree). shown_by (all_unplaced (trees_in t))) (meaning_typed (alone o text) (still_alone o text h) (all_text o text h.one_line))
    ∙ page_shows (alone o text)
    ∙ ap body_shows (alone_children o text)
    ∙ ap (λ (ps : Plains). element paragraph_face ps ∷ []) (leaves_show o text)

nodes_show : (ts : Trees) (text : List ℕ) → AreOneText ts text → one_paragraph ts ≡ element paragraph_face (text_before text ended) ∷ []
nodes_show none text h = absurd h
nodes_show (more (tree m us) none) text h =
    ap (λ (k : Kind). element paragraph_face (shown_before (showing k) m (λ ps. plains_before us ps) ended) ∷ []) h.0
    ∙ ap (λ (bs : List ℕ). element paragraph_face (text_before bs ended) ∷ []) h.1
nodes_show (more t (more u us)) text h = absurd h

shows_no_other : (o : Option ℕ) (text : List ℕ) (ts : Trees) → IsPlainLine text → AreOneText ts text → shows_other (alone o text) ts ≡ false
shows_no_other o text ts h t =
    ap (λ (xs : List Plain). is_some (differing 1 xs (one_paragraph ts))) (alone_shows o text h)
    ∙ ap (λ (ys : List Plain). is_some (differing 1 (element paragraph_face (text_before text ended) ∷ []) ys)) (nodes_show ts text t)
    ∙ ap is_some (same_none 1 (element paragraph_face (text_before text ended) ∷ []))

-- ---- no apostrophes are side by side

abbrev first_quote : List Glyph → Bool
first_quote [] = false
first_quote (g ∷ gs) = is_quote g

abbrev Apart : List Glyph → Type 0
Apart [] = Unit {0}
Apart (g ∷ gs) = (is_quote g ≡ true → first_quote gs ≡ false) × Apart gs

quote_first : (v w : Bool) → (v && (w && true)) ≡ false → v ≡ true → w ≡ false
quote_first true true e f = absurd (cc)
quote_first true false e f = refl
quote_first false w e f = absurd (cc)

next_quote : (b : ℕ) (xs : List Item) → IsStill b (map glyph_of xs) → is_quote (glyph.Byte b) ≡ true → first_quote (map glyph_of xs) ≡ false
next_quote b [] h e = refl
next_quote b (x ∷ xs) h e = quote_first (b == 39) (is_quote (glyph_of x)) h.quotes e

form_apart : (f : ItemForm) (gs : List Glyph) → IsTypedForm f → is_quote (glyph_of_form f) ≡ true → first_quote gs ≡ false
form_apart form.Chars gs h e = absurd h
form_apart (form.Entity c) gs h e = absurd (cc)
form_apart form.Nowiki gs h e = absurd (cc)
form_apart form.Extension gs h e = absurd h
form_apart form.Function gs h e = absurd h
form_apart form.Comment gs h e = absurd h
form_apart form.Include gs h e = absurd h
form_apart form.Hidden gs h e = absurd h
form_apart form.EmptyCall gs h e = absurd h

still_apart : (xs : List Item) → StillItems xs → Apart (map glyph_of xs)
still_apart [] h = tt
still_apart (char o b ∷ xs) h = (next_quote b xs h.0, still_apart xs h.1)
still_apart (whole f o bs ∷ xs) h = (form_apart f (map glyph_of xs) h.0, still_apart xs h.1)

apart_drop : (n : ℕ) (gs : List Glyph) → Apart gs → Apart (drop n gs)
apart_drop zero gs h = h
apart_drop (suc n) [] h = tt
apart_drop (suc n) (g ∷ gs) h = apart_drop n gs h.1

first_taken : (n : ℕ) (gs : List Glyph) → first_quote gs ≡ false → first_quote (take n gs) ≡ false
first_taken zero gs e = refl
first_taken (suc n) [] e = refl
first_taken (suc n) (g ∷ gs) e = e

apart_take : (n : ℕ) (gs : List Glyph) → Apart gs → Apart (take n gs)
apart_take zero gs h = tt
apart_take (suc n) [] h = tt
apart_take (suc n) (g ∷ gs) h = ((λ e. first_taken n gs (h.0 e)), apart_take n gs h.1)

-- so each run is one at most
abbrev AreSmall : List ℕ → Type 0
AreSmall ns = AllByRecursion (λ (n : ℕ). n ≤ 1) ns

small_runs : (gs : List Glyph) (n : ℕ) → n ≤ 1 → (n ≡ 1 → first_quote gs ≡ false) → Apart gs → AreSmall (quote_runs n gs)
small_runs [] n le f h = (le, tt)
small_runs (g ∷ gs) n le f h =
    by (is_quote g) refl (λ q. small_runs gs 1 (omega arith) (λ z. h.0 q) h.1) (small_runs gs 0 (omega arith) (λ z. absurd (omega (arith, z))) h.1)
  where
    one : (m : ℕ) → m ≤ 1 → (m ≡ 1 → is_quote g ≡ false) → is_quote g ≡ true → AreSmall (quote_runs 1 gs) → AreSmall (quote_runs (suc m) gs)
    one zero less e q k = k
    one (suc zero) less e q k = let no : is_quote g ≡ false = e refl in absurd (cc)
    one (suc (suc m)) less e q k = absurd (omega (arith, less))

    by : (b : Bool) → is_quote g ≡ b → (is_quote g ≡ true → AreSmall (quote_runs 1 gs)) → AreSmall (quote_runs 0 gs)
        → AreSmall (if b then quote_runs (suc n) gs else n ∷ quote_runs 0 gs)
    by true q k j = one n le f q (k q)
    by false q k j = (le, j)

small_joined : (ms ns : List ℕ) → AreSmall ms → AreSmall ns → AreSmall (ms ++ ns)
small_joined [] ns h k = k
small_joined (m ∷ ms) ns h k = (h.0, small_joined ms ns h.1 k)

tile_small : (k : TileKind) (gs : List Glyph) → Apart gs → AreSmall (tile_runs k gs)
tile_small tile.Link gs h = tt
tile_small tile.Category gs h = tt
tile_small tile.Media gs h = tt
tile_small tile.ExtLink gs h = tt
tile_small tile.BareUrl gs h = tt
tile_small tile.Br gs h = tt
tile_small tile.Pair gs h = tt
tile_small tile.TagIsland gs h = tt
tile_small tile.Switch gs h = tt
tile_small tile.Atom gs h = tt
tile_small tile.Mark gs h = tt
tile_small tile.Chars gs h = small_runs gs 0 (omega arith) (λ z. absurd (omega (arith, z))) h

all_small : (ws : List Shape) (gs : List Glyph) → Apart gs → AreSmall (runs_of ws gs)
all_small [] gs h = tt
all_small (w ∷ ws) gs h =
    small_joined (tile_runs w.kind (take (size w) gs)) (runs_of ws (drop (size w) gs)) (tile_small w.kind (take (size w) gs) (apart_take (size w) gs h))
    (all_small ws (drop (size w) gs) (apart_drop (size w) gs h))

-- and none switches a style
none_counted : (p : ℕ → Bool) (ns : List ℕ) (a : ℕ) → AllByRecursion (λ (n : ℕ). p n ≡ false) ns
    → fold (λ (m : ℕ) (n : ℕ). m + cond (p n) 1 0) a ns ≡ a
none_counted p [] a h = refl
none_counted p (n ∷ ns) a h =
    let same : a + 0 ≡ a = omega arith in
    ap (λ (b : Bool). fold (λ (m : ℕ) (n : ℕ). m + cond (p n) 1 0) (a + cond b 1 0) ns) h.0
    ∙ ap (λ (m : ℕ). fold (λ (m : ℕ) (n : ℕ). m + cond (p n) 1 0) m ns) same
    ∙ none_counted p ns a h.1

italic_none : (n : ℕ) → n ≤ 1 → switches_italic n ≡ false
italic_none zero le = refl
italic_none (suc zero) le = refl
italic_none (suc (suc n)) le = absurd (omega (arith, le))

bold_none : (n : ℕ) → n ≤ 1 → switches_bold n ≡ false
bold_none zero le = refl
bold_none (suc zero) le = refl
bold_none (suc (suc n)) le = absurd (omega (arith, le))

none_switch : (p : ℕ → Bool) (ns : List ℕ) → ((n : ℕ) → n ≤ 1 → p n ≡ false) → AreSmall ns → AllByRecursion (λ (n : ℕ). p n ≡ false) ns
none_switch p [] f h = tt
none_switch p (n ∷ ns) f h = (f n h.0, none_switch p ns f h.1)

not_odd : (ns : List ℕ) → AreSmall ns → are_odd ns ≡ false
not_odd ns h =
    ap (λ (n : ℕ). (n % 2 == 1) || (count_by switches_bold ns % 2 == 1)) (none_counted switches_italic ns 0 (none_switch switches_italic ns italic_none h))
    ∙ ap (λ (n : ℕ). (0 % 2 == 1) || (n % 2 == 1)) (none_counted switches_bold ns 0 (none_switch switches_bold ns bold_none h))

given_glyphs : (o : Option ℕ) (bs : List ℕ) → has_break bs ≡ false → toggles.lines (map glyph_of (given o bs)) ≡ map glyph_of (given o bs) ∷ []
given_glyphs o [] e = refl
given_glyphs o (b ∷ bs) e =
    let u = unbroken o b bs e in
    let gs : List Glyph = map glyph_of (given o bs) in
    ap (λ (t : Bool). if t then [] ∷ toggles.lines gs else toggles.onto (glyph.Byte b) (toggles.lines gs)) u.0
    ∙ ap (toggles.onto (glyph.Byte b)) (given_glyphs o bs u.1)

even_lines : (o : Option ℕ) (text : List ℕ) → IsPlainLine text → has_odd_line (alone o text) ≡ false
even_lines o text h =
    let gs : List Glyph = map glyph_of (alone o text) in
    ap (λ (ls : List (List Glyph)). list_any is_odd_line (toggles.onto glyph.Atom ls)) (given_glyphs o text h.one_line)
    ∙ ap (λ (b : Bool). b || false) (not_odd (runs_of (shapes in_line gs) gs) (all_small (shapes in_line gs) gs (still_apart (alone o text) (still_alone o text h))))

-- ---- no text of it could go on

none_open : (bs : List ℕ) → list_all is_plain bs ≡ true → holds_open bs ≡ false
none_open [] e = refl
none_open (b ∷ bs) e =
    let f = form_parts b (and_left (is_plain b) (list_all is_plain bs) e) in
    opens (b == 60) (b == 91) _ (holds_open bs) f.0 f.1 (none_open bs (and_right (is_plain b) (list_all is_plain bs) e))
  where
    opens : (v w t r : Bool) → v ≡ false → w ≡ false → r ≡ false → ((v || (w && t)) || r) ≡ false
    opens true w t r e f g = absurd (cc)
    opens false true t r e f g = absurd (cc)
    opens false false t r e f g = g

text_shut : (ts : Trees) (text : List ℕ) → IsPlainLine text → AreOneText ts text → has_open_text [] ts ≡ false
text_shut none text h t = absurd t
text_shut (more (tree m us) none) text h t =
    ap (λ (k : Kind). open_text_by (edit_shape k).inline [] m.shown (has_open_text [] us) (λ next. has_open_text next none)) t.0
    ∙ ap holds_open t.1 ∙ none_open text h.plain
text_shut (more u (more v vs)) text h t = absurd t

-- ---- no fault

nowiki_is : empty_nowiki ≡ whole form.Nowiki None nowiki
unfolding empty_nowiki nowiki
nowiki_is = refl

fault_free : (o : Option ℕ) (text : List ℕ) (ts : Trees) → IsPlainLine text → AreOneText ts text → is_faulty (alone o text) ts ≡ false
fault_free o text ts h t =
    ap (λ (b : Bool). b || (has_odd_line (alone o text) || has_open_text [] ts)) (shows_no_other o text ts h t)
    ∙ ap (λ (b : Bool). b || has_open_text [] ts) (even_lines o text h)
    ∙ text_shut ts text h t

pub no_fault : (o : Option ℕ) (text : List ℕ) (ts : Trees) → IsPlainLine text → AreOneText ts text → is_faulty (empty_nowiki ∷ map (char o) text) ts ≡ false
no_fault o text ts h t = ap (λ (x : Item). is_faulty (x ∷ given o text) ts) nowiki_is ∙ fault_free o text ts h t

group_free : (page : Expanded) (l : Label) (ts : Trees) → IsPlainGroup page l ts → faulty_at page l.ranges ts ≡ false
group_free page l ts g =
    ap (λ (r : Option Ranges). faulty_at page r ts) g.ranged
    ∙ ap (λ (xs : List Item). is_faulty xs ts) g.items
    ∙ no_fault g.call g.text ts g.line g.nodes

-- ---- a block

style_free : (w : InlineForm) (b : Bool) → (in_style w true ≡ true → b ≡ false) → in_style w b ≡ false
style_free inline.Nothing b f = refl
style_free inline.Characters b f = refl
style_free inline.Bold b f = f refl
style_free inline.Italic b f = f refl
style_free inline.Shown b f = refl
style_free inline.PageLink b f = refl
style_free inline.ExternalLink b f = refl
style_free inline.Tag b f = refl
style_free inline.Break b f = refl
style_free inline.AsItStood b f = refl

by_group : (g : Bool) (v w : Bool) → (g ≡ true → v ≡ false) → w ≡ false → (if g then v else w) ≡ false
by_group true v w f e = f refl
by_group false v w f e = e

mutual
  node_free : (page : Expanded) (t : Tree) → HasPlainGroups page t → is_faulty_node page t ≡ false
  node_free page (tree l ts) h =
      by_group (is_group l.kind) (faulty_at page l.ranges ts) (in_style (edit_shape l.kind).inline (has_faulty_group page ts))
      (λ e. group_free page l ts (h.0 e))
      (style_free (edit_shape l.kind).inline (has_faulty_group page ts) (λ e. all_free page ts (h.1 e)))

  pub all_free : (page : Expanded) (ts : Trees) → HavePlainGroups page ts → has_faulty_group page ts ≡ false
  all_free page none h = refl
  all_free page (more t ts) h = ap (λ (b : Bool). b || has_faulty_group page ts) (node_free page t h.0) ∙ all_free page ts h.1

pub untangled : (page : Expanded) (bytes : List ℕ) (l : Label) (ts : Trees) → HavePlainGroups page ts → touches_text_call page.text_calls l.ranges ≡ false
    → touches_open_tag (before bytes l.ranges) (tree l ts) ≡ false → is_tangled page bytes (tree l ts) ≡ false
untangled page bytes l ts h e f =
    ap (λ (b : Bool). b || (touches_open_tag (before bytes l.ranges) (tree l ts) || has_faulty_group page ts)) e
    ∙ ap (λ (b : Bool). b || has_faulty_group page ts) f
    ∙ all_free page ts h
