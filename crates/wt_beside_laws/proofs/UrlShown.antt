-- What a bare URL shows: the text of its items.
use Rattle.std.proofs.Common.{arith, ◌≡◌, ℕ, suc, ◌+◌, ◌-◌, ◌≤◌, ◌==◌, Bool, true, false, Option, Some, List, [], ◌∷◌, ◌++◌, length, map, take, drop, refl, sym, ap, ◌∙◌, subst, take_all}
use Rattle.std.specs.Prelude.{◌&&◌, not, codes, encode_utf8, if◌then◌else◌}
use Rattle.std.specs.Char.{to_ascii_lowercase}
use Rattle.std.specs.List.{flat_map}
use Rattle.std.proofs.lemmas.Bool.Decides.{nat_tests}
use Rattle.std.proofs.lemmas.List.{length-drop, take-append-drop}
use Rattle.wt_span.specs.Items.{Item, char, whole}
use Rattle.wt_span.specs.declared.form.ItemForm.TheVariants as form
use Rattle.wt_span.specs.Runs.{runs, IsRun, AreRuns}
use Rattle.wt_span.proofs.RunLaws.{runs_are}
use Rattle.wt_tree.specs.Tree.{Trees}
use Rattle.wt_inline.specs.declared.loose.Loose.TheVariants.{Text, Sep}
use Rattle.wt_inline.specs.Carried.{shown_item}
use Rattle.wt_inline.specs.ItemTree.{ItemTree, forest, tree_items}
use Rattle.wt_inline.specs.Parts.{Part, loose, node, held_parts, one_leaf, loose_leaf, child, children, parts}
use Rattle.wt_tiles.specs.declared.glyph.Glyph.{Glyph}
use Rattle.wt_tiles.specs.declared.glyph.Glyph.TheVariants as glyph
use Rattle.wt_tiles.specs.declared.shape.Shape.{Shape}
use Rattle.wt_tiles.specs.Glyphs.{glyph_of, begins, like_byte, begins_like}
use Rattle.wt_tiles.specs.Links.{text_of}
use Rattle.wt_tiles.specs.Tiles.{size}
use Rattle.wt_tiles.specs.Urls.{scheme_len, is_url_char, is_url_glyph, url_run, url_items, kept_len, bare_shape, bare_url_at}
use Rattle.wt_tiles.proofs.UrlFits.{scheme_fits, url_items_len, kept_le}
use Rattle.wt_context.specs.Heads.{bare_url_head}
use Rattle.wt_context.specs.Nodes.{opening_of, inside_of, bare_url}
use Rattle.wt_annotated.specs.Labels.{label_at}
use Rattle.wt_annotated.specs.Numbering.{count}
use Rattle.wt_annotated.specs.WithoutCalls.{placed}
use Rattle.wt_part_laws.specs.Standing.{standing}
use Rattle.wt_original.specs.Kept.{shown, shown_in}
use Rattle.wt_beside_laws.proofs.PartThings.{nodes_of}
use Rattle.wt_beside_laws.proofs.UrlTiles.{both_some}

-- ---- its items are characters, none of them a `<`, and references

abbrev pub IsTextual : Glyph → Type 0
IsTextual (glyph.Byte b) = (b == 60) ≡ false
IsTextual (glyph.Entity c) = Unit {0}
IsTextual glyph.Atom = ⊥
IsTextual glyph.Mark = ⊥

abbrev pub AreTextual : List Glyph → Type 0
AreTextual [] = Unit {0}
AreTextual (g ∷ gs) = IsTextual g × AreTextual gs

both_textual : (xs ys : List Glyph) → AreTextual xs → AreTextual ys → AreTextual (xs ++ ys)
both_textual [] ys h k = k
both_textual (x ∷ xs) ys h k = (h.0, both_textual xs ys h.1 k)

url_less : (b : ℕ) → is_url_char b ≡ true → (b == 60) ≡ false
unfolding is_url_char
url_less b e = grind (arith, nat_tests, e)

url_textual : (g : Glyph) → is_url_glyph g ≡ true → IsTextual g
url_textual (glyph.Byte b) e = url_less b e
url_textual (glyph.Entity c) e = tt
url_textual glyph.Atom e = cc
url_textual glyph.Mark e = cc

run_textual : (gs : List Glyph) → length gs ≤ url_run gs → AreTextual gs
run_textual [] le = tt
run_textual (g ∷ gs) le = by (is_url_glyph g) (not (begins (codes "''") (g ∷ gs))) refl le (λ less. run_textual gs less)
  where
    by : (u q : Bool) → is_url_glyph g ≡ u → length (g ∷ gs) ≤ (if u && q then suc (url_run gs) else 0) → (length gs ≤ url_run gs → AreTextual gs) → AreTextual (g ∷ gs)
    by true true e far f = (url_textual g e, f (omega (arith, far)))
    by true false e far f = absurd (omega (arith, far))
    by false q e far f = absurd (omega (arith, far))

like_less : (b c : ℕ) → (b == 60) ≡ false → (to_ascii_lowercase c == b) ≡ true → (c == 60) ≡ false
like_less b c f e = grind (arith, nat_tests, e, f)

like_textual : (b : ℕ) (g : Glyph) → (b == 60) ≡ false → like_byte b g ≡ true → IsTextual g
like_textual b (glyph.Byte c) f e = like_less b c f e
like_textual b (glyph.Entity c) f e = tt
like_textual b glyph.Atom f e = cc
like_textual b glyph.Mark f e = cc

abbrev LacksLess : List ℕ → Type 0
LacksLess [] = Unit {0}
LacksLess (b ∷ bs) = ((b == 60) ≡ false) × LacksLess bs

and_both : (u v : Bool) → (u && v) ≡ true → (u ≡ true) × (v ≡ true)
and_both true v e = (refl, e)
and_both false v e = cc

word_textual : (word : List ℕ) (gs : List Glyph) → LacksLess word → begins_like word gs ≡ true → AreTextual (take (length word) gs)
word_textual [] gs h e = tt
word_textual (b ∷ word) [] h e = cc
word_textual (b ∷ word) (g ∷ gs) h e = let r = and_both (like_byte b g) (begins_like word gs) e in (like_textual b g h.0 r.0, word_textual word gs h.1 r.1)

scheme_textual : (gs : List Glyph) → AreTextual (take (scheme_len gs) gs)
unfolding scheme_len
scheme_textual gs = by (begins_like (codes "http://") gs) (begins_like (codes "https://") gs) (begins_like (codes "ftp://") gs) refl refl refl
  where
    by : (a b c : Bool) → begins_like (codes "http://") gs ≡ a → begins_like (codes "https://") gs ≡ b → begins_like (codes "ftp://") gs ≡ c
        → AreTextual (take (if a then 7 else (if b then 8 else (if c then 6 else 0))) gs)
    by true b c e f g = word_textual (codes "http://") gs (refl, (refl, (refl, (refl, (refl, (refl, (refl, tt))))))) e
    by false true c e f g = word_textual (codes "https://") gs (refl, (refl, (refl, (refl, (refl, (refl, (refl, (refl, tt)))))))) f
    by false false true e f g = word_textual (codes "ftp://") gs (refl, (refl, (refl, (refl, (refl, (refl, tt)))))) g
    by false false false e f g = tt

-- a URL that takes all of some items
pub all_textual : (gs : List Glyph) (w : Shape) → bare_url_at false gs ≡ Some w → size w ≡ length gs → AreTextual gs
unfolding bare_url_at
all_textual gs w e full =
    let s : ℕ = scheme_len gs in
    let us : List Glyph = drop s gs in
    let m : ℕ = kept_len (url_items gs) in
    let b = both_some s m (Some (bare_shape (s + m))) w e in
    let is : size w ≡ s + m = ap size (sym (same_shape (bare_shape (s + m)) w b.0)) ∙ omega arith in
    let within : s ≤ length gs = (scheme_fits gs).within in
    let left : length us ≡ length gs - s = length-drop s gs in
    let kept : m ≤ length (url_items gs) = kept_le (url_items gs) in
    let items : length (url_items gs) ≡ url_run us = url_items_len gs in
    let far : length us ≤ url_run us = omega (arith, is, full, within, left, kept, items) in
    subst AreTextual (take-append-drop s gs) (both_textual (take s gs) us (scheme_textual gs) (run_textual us far))
  where
    same_shape : (v u : Shape) → Some v ≡ Some u → v ≡ u
    same_shape v u f = cc

-- ---- what characters and references show

abbrev AreShownItems : List Item → Type 0
AreShownItems [] = Unit {0}
AreShownItems (char o b ∷ xs) = AreShownItems xs
AreShownItems (whole (form.Entity c) o bs ∷ xs) = AreShownItems xs
AreShownItems (whole form.Chars o bs ∷ xs) = ⊥
AreShownItems (whole form.Nowiki o bs ∷ xs) = ⊥
AreShownItems (whole form.Extension o bs ∷ xs) = ⊥
AreShownItems (whole form.Function o bs ∷ xs) = ⊥
AreShownItems (whole form.Comment o bs ∷ xs) = ⊥
AreShownItems (whole form.Include o bs ∷ xs) = ⊥
AreShownItems (whole form.Hidden o bs ∷ xs) = ⊥
AreShownItems (whole form.EmptyCall o bs ∷ xs) = ⊥

textual_shown : (xs : List Item) → AreTextual (map glyph_of xs) → AreShownItems xs
textual_shown [] h = tt
textual_shown (char o b ∷ xs) h = textual_shown xs h.1
textual_shown (whole (form.Entity c) o bs ∷ xs) h = textual_shown xs h.1
textual_shown (whole form.Chars o bs ∷ xs) h = absurd h.0
textual_shown (whole form.Nowiki o bs ∷ xs) h = absurd h.0
textual_shown (whole form.Extension o bs ∷ xs) h = absurd h.0
textual_shown (whole form.Function o bs ∷ xs) h = absurd h.0
textual_shown (whole form.Comment o bs ∷ xs) h = absurd h.0
textual_shown (whole form.Include o bs ∷ xs) h = absurd h.0
textual_shown (whole form.Hidden o bs ∷ xs) h = absurd h.0
textual_shown (whole form.EmptyCall o bs ∷ xs) h = absurd h.0

-- parts that show these bytes wherever they are
abbrev ShowBytes : List Part → List ℕ → Type 0
ShowBytes [] bs = bs ≡ []
ShowBytes (loose Text o b ∷ ps) bs = (cs : List ℕ) × (bs ≡ b ∷ cs) × ShowBytes ps cs
ShowBytes (loose Sep o b ∷ ps) bs = ⊥
ShowBytes (node u ∷ ps) bs =
    (own : List ℕ) × (cs : List ℕ) × (bs ≡ own ++ cs) × ((n : ℕ) (before : List Item) → shown (standing n before u) ≡ own) × ShowBytes ps cs

items_show : (xs : List Item) → AreShownItems xs → ShowBytes (parts Text xs) (flat_map text_of (map glyph_of xs))
unfolding label_at
items_show [] h = refl
items_show (char o b ∷ xs) h = (flat_map text_of (map glyph_of xs), refl, items_show xs h)
items_show (whole (form.Entity c) o bs ∷ xs) h = (encode_utf8 c, flat_map text_of (map glyph_of xs), refl, λ n before. refl, items_show xs h)
items_show (whole form.Chars o bs ∷ xs) h = absurd h
items_show (whole form.Nowiki o bs ∷ xs) h = absurd h
items_show (whole form.Extension o bs ∷ xs) h = absurd h
items_show (whole form.Function o bs ∷ xs) h = absurd h
items_show (whole form.Comment o bs ∷ xs) h = absurd h
items_show (whole form.Include o bs ∷ xs) h = absurd h
items_show (whole form.Hidden o bs ∷ xs) h = absurd h
items_show (whole form.EmptyCall o bs ∷ xs) h = absurd h

-- what a run of characters shows, and what is behind it
record RunShows (own : List ℕ) (others : List Part) (bs : List ℕ) : Type 0 where
  rest : List ℕ
  is : bs ≡ own ++ rest
  shows : ShowBytes others rest

run_shows : (o : Option ℕ) (b : ℕ) (r others : List Part) (bs : List ℕ) → IsRun one_leaf (loose Text o b ∷ r) others → ShowBytes (loose Text o b ∷ (r ++ others)) bs
    → RunShows (flat_map shown_item (held_parts (loose Text o b ∷ r))) others bs
run_shows o b [] others bs run h = record { rest = h.0; is = h.1; shows = h.2 }
run_shows o b (loose Text i c ∷ r) others bs run h =
    let s = run_shows i c r others h.0 run.1 h.2 in
    record { rest = s.rest; is = h.1 ∙ ap (λ (cs : List ℕ). b ∷ cs) s.is; shows = s.shows }
run_shows o b (loose Sep i c ∷ r) others bs run h = absurd h.2
run_shows o b (node x ∷ r) others bs run h = absurd (let no = run.0 in cc)

text_shows : (own : List Item) (n : ℕ) (before : List Item) → shown (standing n before (loose_leaf Text own)) ≡ flat_map shown_item own
unfolding label_at
text_shows own n before = refl

runs_show : (rs : List (List Part)) (ps : List Part) (n : ℕ) (before : List Item) (bs : List ℕ) → AreRuns one_leaf rs ps → ShowBytes ps bs
    → shown_in (nodes_of n before (forest (map child rs))) ≡ bs
runs_show [] ps n before bs a h = sym (subst (λ (qs : List Part). ShowBytes qs bs) a h)
runs_show ([] ∷ rs) ps n before bs a h = absurd a.2
runs_show ((loose Sep o b ∷ r) ∷ rs) ps n before bs a h = absurd (subst (λ (qs : List Part). ShowBytes qs bs) a.1 h)
runs_show ((loose Text o b ∷ r) ∷ rs) ps n before bs a h =
    let run : List Part = loose Text o b ∷ r in
    let u : ItemTree = child run in
    let more_nodes : Trees = nodes_of (n + count (placed before u)) (before ++ tree_items u) (forest (map child rs)) in
    let s = run_shows o b r a.0 bs a.2 (subst (λ (qs : List Part). ShowBytes qs bs) a.1 h) in
    ap (λ (cs : List ℕ). cs ++ shown_in more_nodes) (text_shows (held_parts run) n before)
    ∙ ap (λ (cs : List ℕ). flat_map shown_item (held_parts run) ++ cs)
    (runs_show rs a.0 (n + count (placed before u)) (before ++ tree_items u) s.rest a.3 s.shows)
    ∙ sym s.is
runs_show ((node u ∷ []) ∷ rs) ps n before bs a h =
    let more_nodes : Trees = nodes_of (n + count (placed before u)) (before ++ tree_items u) (forest (map child rs)) in
    let own : ShowBytes (node u ∷ a.0) bs = subst (λ (qs : List Part). ShowBytes qs bs) a.1 h in
    ap (λ (cs : List ℕ). cs ++ shown_in more_nodes) (own.3 n before)
    ∙ ap (λ (cs : List ℕ). own.0 ++ cs) (runs_show rs a.0 (n + count (placed before u)) (before ++ tree_items u) own.1 a.3 own.4)
    ∙ sym own.2
runs_show ((node u ∷ p ∷ r) ∷ rs) ps n before bs a h = absurd (let no = a.2.0 in cc)

parts_show : (ps : List Part) (n : ℕ) (before : List Item) (bs : List ℕ) → ShowBytes ps bs → shown_in (nodes_of n before (forest (children ps))) ≡ bs
unfolding children
parts_show ps n before bs h = runs_show (runs one_leaf ps) ps n before bs (runs_are one_leaf ps) h

-- ---- the URL

none_dropped : (xs : List Item) → drop 0 xs ≡ xs
none_dropped [] = refl
none_dropped (x ∷ xs) = refl

url_inside : (m n : ℕ) (before xs : List Item) → shown (standing n before (bare_url (bare_shape m) xs))
    ≡ shown_in (nodes_of (n + 1) (before ++ opening_of (bare_shape m) xs) (forest (children (parts Text (inside_of (bare_shape m) xs)))))
unfolding bare_url bare_url_head label_at
url_inside m n before xs = refl

pub url_shows : (m n : ℕ) (before xs : List Item) → length xs ≤ m → AreTextual (map glyph_of xs)
    → shown (standing n before (bare_url (bare_shape m) xs)) ≡ flat_map text_of (map glyph_of xs)
url_shows m n before xs le h =
    let front : List Item = before ++ opening_of (bare_shape m) xs in
    let all : inside_of (bare_shape m) xs ≡ xs = ap (take m) (none_dropped xs) ∙ take_all m xs le in
    url_inside m n before xs
    ∙ ap (λ (ys : List Item). shown_in (nodes_of (n + 1) front (forest (children (parts Text ys))))) all
    ∙ parts_show (parts Text xs) (n + 1) front (flat_map text_of (map glyph_of xs)) (items_show xs (textual_shown xs h))
