-- Marks of a block by its lines: each began its line if a line break or the opening delimiter comes directly before it.
use Rattle.std.proofs.Common.{arith, ◌≡◌, ℕ, zero, suc, ◌+◌, ◌-◌, ◌<◌, ◌≤◌, ◌==◌, Bool, true, false, List, [], ◌∷◌, ◌++◌, length, map, take, drop, refl, sym, ap, ap₂, ◌∙◌, subst, append_assoc, inl, inr, ◌⊎◌}
use Rattle.std.specs.Prelude.{◌&&◌, ◌||◌, nat_lt, slice_get}
use Rattle.std.specs.Str.{chars}
use Rattle.std.proofs.lemmas.Bool.Decides.{nat_tests}
use Rattle.std.proofs.lemmas.List.{length-append, length-map, take-append-drop}
use Rattle.std.proofs.lemmas.Grind.{flat_map-append}
use Rattle.wt_span.specs.declared.form.ItemForm.TheVariants as form
use Rattle.wt_span.specs.Items.{Item, char, whole, source, sources}
use Rattle.wt_lines.specs.Lines.{is_break_item, AreLines}
use Rattle.wt_tree.specs.Source.{flat}
use Rattle.wt_tree.specs.Tree.{Tree, label}
use Rattle.wt_guards.specs.declared.role.Role.TheVariants as role
use Rattle.wt_guards.specs.Content.{ContentSign, Thing, letter, thing}
use Rattle.wt_original.specs.declared.block.Extent.{Extent}
use Rattle.wt_original.specs.Kept.{is_break_at, began_line}
use Rattle.wt_tiles.specs.declared.shape.Shape.{Shape}
use Rattle.wt_tiles.specs.declared.shape.TileKind.{TileKind}
use Rattle.wt_tiles.specs.declared.shape.TileKind.TheVariants as kind
use Rattle.wt_tiles.specs.Contexts.{in_line}
use Rattle.wt_tiles.specs.Glyphs.{glyph_of}
use Rattle.wt_tiles.specs.Reading.{is_word_at, StandsBy, AreTiles}
use Rattle.wt_tiles.specs.Tiles.{size, shapes, parts as tile_parts, tiles}
use Rattle.wt_tiles.proofs.Readings.{shapes_are}
use Rattle.wt_beside_laws.specs.Content.{AreKept}
use Rattle.wt_beside_laws.specs.PageBlocks.{IsRoleAt, AreSoIn}
use Rattle.wt_beside_laws.specs.PageSigns.{ends_break, atom_role, tile_signs, signs_of_tiles, line_signs, signs_of_lines, IsFlatForm, IsFlatTile, AreFlatTiles, HasNoBreak, AreFlatLines}
use Rattle.wt_beside_laws.specs.Stood.{things}
use Rattle.wt_text_edit_laws.proofs.Between.Fronts.{reads_after}
use Rattle.wt_text_edit_laws.proofs.Prose.InFront.{reads_nothing}
use Rattle.wt_beside_laws.proofs.Marks.Ends.{LastIs, last_of, last_at, as_ended, held_end}
use Rattle.wt_beside_laws.proofs.NodeItems.{node_read}
use Rattle.wt_beside_laws.proofs.PageSigns.{AreChars, are_chars, none_take, none_drop}
use Rattle.wt_beside_laws.proofs.PartThings.{none_of_both}
use Rattle.wt_beside_laws.proofs.SentNodes.{things_append, no_things}
use Rattle.wt_beside_laws.specs.Commented.{IsHeld}
use Rattle.wt_beside_laws.specs.NodeItems.{node_items}

and_not : (a b : Bool) → b ≡ false → (a && b) ≡ false
and_not true b e = e
and_not false b e = refl

or_true : (a : Bool) → (a || true) ≡ true
or_true true = refl
or_true false = refl

-- ---- what comes before a place of a block

-- a line begins there or not
abbrev pub BeganBy : ℕ → Bool → List ℕ → Type 0
BeganBy n true pre = (length pre ≡ n) ⊎ ((0 < length pre) × LastIs true pre)
BeganBy n false pre = (n < length pre) × LastIs false pre

record Comes (block : Tree) (began : Bool) (pre : List ℕ) : Type 0 where
  le : length (label block).opening ≤ length pre
  so : BeganBy (length (label block).opening) began pre

pub began_so : (block : Tree) (began : Bool) (pre more : List ℕ) (s : Extent) → flat block ≡ pre ++ more → BeganBy (length (label block).opening) began pre
    → s.start ≡ length pre → began_line block s ≡ began
began_so block true pre more s is (inl i) e =
    let at : (s.start == length (label block).opening) ≡ true = grind (arith, nat_tests, e, i) in
    ap (λ (t : Bool). t || (nat_lt 0 s.start && is_break_at (slice_get (flat block) (s.start - 1)))) at
began_so block true pre more s is (inr h) e =
    let some = h.0 in
    let past : nat_lt 0 s.start ≡ true = grind (arith, nat_tests, e, some) in
    let at : is_break_at (slice_get (flat block) (s.start - 1)) ≡ true =
    ap (λ (bs : List ℕ). is_break_at (slice_get bs (s.start - 1))) is ∙ last_at true (s.start - 1) pre more (omega (arith, e, some)) h.1 in
    ap₂ (λ (u v : Bool). (s.start == length (label block).opening) || (u && v)) past at ∙ or_true (s.start == length (label block).opening)
began_so block false pre more s is h e =
    let past = h.0 in
    let off : (s.start == length (label block).opening) ≡ false = grind (arith, nat_tests, e, past) in
    let at : is_break_at (slice_get (flat block) (s.start - 1)) ≡ false =
    ap (λ (bs : List ℕ). is_break_at (slice_get bs (s.start - 1))) is ∙ last_at false (s.start - 1) pre more (omega (arith, e, past)) h.1 in
    none_of_both (s.start == length (label block).opening) (nat_lt 0 s.start && is_break_at (slice_get (flat block) (s.start - 1))) off
    (and_not (nat_lt 0 s.start) (is_break_at (slice_get (flat block) (s.start - 1))) at)

further : (block : Tree) (began v : Bool) (pre bs : List ℕ) → Comes block began pre → 0 < length bs → LastIs v bs → Comes block v (pre ++ bs)
further block began true pre bs c some h =
    let l = length-append pre bs in
    let le = c.le in
    record { le = omega (arith, l, le); so = inr (omega (arith, l, some), last_of true pre bs some h) }
further block began false pre bs c some h =
    let l = length-append pre bs in
    let le = c.le in
    record { le = omega (arith, l, le); so = (omega (arith, l, le, some), last_of false pre bs some h) }

-- ---- a tile

nothing_read : node_items [] ≡ []
nothing_read = node_read [] [] (reads_after true [] [] reads_nothing)

read_some : (ys : List Item) → node_items (sources ys) ≡ ys → 0 < length ys → 0 < length (sources ys)
read_some ys e some = by (sources ys) refl
  where
    by : (bs : List ℕ) → sources ys ≡ bs → 0 < length bs
    by [] i =
        let none : ys ≡ [] = sym e ∙ ap node_items i ∙ nothing_read in
        let no : length ys ≡ 0 = ap length none in
        absurd (omega (arith, no, some))
    by (b ∷ bs) i = omega arith

-- its bytes are some, and the last is a line break or not
abbrev pub Goes : List Item → Type 0
Goes ys = (0 < length (sources ys)) × LastIs (ends_break (sources ys)) (sources ys)

form_goes : (k : TileKind) (ys : List Item) → IsFlatForm ys → IsHeld (sources ys) → 0 < length ys → Goes ys
form_goes k ys f h some = let all = read_some ys f.alone some in (all, held_end (sources ys) all h)

pub chars_go : (ys : List Item) → AreChars ys → HasNoBreak ys → LastIs false (sources ys)
chars_go [] c n = tt
chars_go (char o b ∷ []) c n = n.0
chars_go (char o b ∷ char i d ∷ ys) c n = chars_go (char i d ∷ ys) c n.1
chars_go (char o b ∷ whole f i bs ∷ ys) c n = absurd c
chars_go (whole f o bs ∷ ys) c n = absurd c

pub chars_some : (ys : List Item) → AreChars ys → 0 < length ys → 0 < length (sources ys)
chars_some [] c some = absurd (omega (arith, some))
chars_some (char o b ∷ ys) c some = omega arith
chars_some (whole f o bs ∷ ys) c some = absurd c

pub tile_goes : (k : TileKind) (a began : Bool) (at : ℕ) (w : Shape) (xs : List Item) → IsFlatTile k (take (size w) xs) → StandsBy k in_line a w (map glyph_of xs)
    → AreKept (tile_signs k began at (take (size w) xs)) → HasNoBreak (take (size w) xs) → 0 < length (take (size w) xs) → Goes (take (size w) xs)
tile_goes kind.Link a began at w xs f s k n some = form_goes kind.Link (take (size w) xs) f k.0.0 some
tile_goes kind.Category a began at w xs f s k n some = form_goes kind.Category (take (size w) xs) f k.0.0 some
tile_goes kind.Media a began at w xs f s k n some = form_goes kind.Media (take (size w) xs) f k.0.0 some
tile_goes kind.ExtLink a began at w xs f s k n some = form_goes kind.ExtLink (take (size w) xs) f k.0.0 some
tile_goes kind.BareUrl a began at w xs f s k n some = form_goes kind.BareUrl (take (size w) xs) f k.0.0 some
tile_goes kind.Br a began at w xs f s k n some = form_goes kind.Br (take (size w) xs) f k.0.0 some
tile_goes kind.Pair a began at w xs f s k n some = form_goes kind.Pair (take (size w) xs) f k.0.0 some
tile_goes kind.TagIsland a began at w xs f s k n some = form_goes kind.TagIsland (take (size w) xs) f k.0.0 some
tile_goes kind.Switch a began at w xs f s k n some = form_goes kind.Switch (take (size w) xs) f k.0.0 some
tile_goes kind.Atom a began at w xs f s k n some = form_goes kind.Atom (take (size w) xs) f k.0.0 some
tile_goes kind.Mark a began at w xs f s k n some = form_goes kind.Mark (take (size w) xs) f k.0.0 some
tile_goes kind.Chars a began at w xs f s k n some =
    let ys : List Item = take (size w) xs in
    let c : AreChars ys = are_chars (size w) a xs s.1 in
    let all = chars_some ys c some in (all, as_ended false (sources ys) all (chars_go ys c n))

atom_so : (block : Tree) (at : ℕ) (bs : List ℕ) (xs : List Item) → IsRoleAt (atom_role xs) block at bs
atom_so block at bs [] = tt
atom_so block at bs (char o b ∷ xs) = tt
atom_so block at bs (whole form.Chars o cs ∷ xs) = tt
atom_so block at bs (whole (form.Entity c) o cs ∷ xs) = tt
atom_so block at bs (whole form.Nowiki o cs ∷ xs) = tt
atom_so block at bs (whole form.Extension o cs ∷ xs) = tt
atom_so block at bs (whole form.Function o cs ∷ xs) = tt
atom_so block at bs (whole form.Comment o cs ∷ xs) = tt
atom_so block at bs (whole form.Include o cs ∷ xs) = tt
atom_so block at bs (whole form.Hidden o cs ∷ xs) = tt
atom_so block at bs (whole form.EmptyCall o cs ∷ xs) = tt

tile_so : (k : TileKind) (block : Tree) (began : Bool) (at : ℕ) (ys : List Item) → IsRoleAt (role.Mark (ends_break (sources ys)) began) block at (sources ys)
    → AreSoIn block (things (tile_signs k began at ys))
tile_so kind.Link block began at ys m = (tt, tt)
tile_so kind.Category block began at ys m = (tt, tt)
tile_so kind.Media block began at ys m = (tt, tt)
tile_so kind.ExtLink block began at ys m = (tt, tt)
tile_so kind.BareUrl block began at ys m = (tt, tt)
tile_so kind.Br block began at ys m = (tt, tt)
tile_so kind.Pair block began at ys m = (tt, tt)
tile_so kind.TagIsland block began at ys m = (tt, tt)
tile_so kind.Switch block began at ys m = (tt, tt)
tile_so kind.Atom block began at ys m = (atom_so block at (sources ys) ys, tt)
tile_so kind.Mark block began at ys m = (m, tt)
tile_so kind.Chars block began at ys m = subst (AreSoIn block) (sym (no_things (chars (sources ys)))) tt

-- ---- the tiles of a line

pub kept_front : (xs ys : List ContentSign) → AreKept (xs ++ ys) → AreKept xs × AreKept ys
kept_front [] ys h = (tt, h)
kept_front (letter c ∷ xs) ys h = kept_front xs ys h
kept_front (thing t ∷ xs) ys h = let r = kept_front xs ys h.1 in ((h.0, r.0), r.1)

so_both : (block : Tree) (xs ys : List Thing) → AreSoIn block xs → AreSoIn block ys → AreSoIn block (xs ++ ys)
so_both block [] ys h k = k
so_both block (x ∷ xs) ys h k = (h.0, so_both block xs ys h.1 k)

map_drop : (n : ℕ) (xs : List Item) → map glyph_of (drop n xs) ≡ drop n (map glyph_of xs)
map_drop zero xs = refl
map_drop (suc n) [] = refl
map_drop (suc n) (x ∷ xs) = map_drop n xs

taken : (n : ℕ) (xs : List Item) → n ≤ length xs → length (take n xs) ≡ n
taken zero xs le = refl
taken (suc n) [] le = absurd (omega (arith, le))
taken (suc n) (x ∷ xs) le = let r = taken n xs (omega (arith, le)) in omega (arith, r)

tiles_so : (ws : List Shape) (a began : Bool) (block : Tree) (pre rest : List ℕ) (xs : List Item) → AreTiles in_line a ws (map glyph_of xs)
    → flat block ≡ pre ++ (sources xs ++ rest) → Comes block began pre → HasNoBreak xs → AreFlatTiles (tile_parts ws xs)
    → AreKept (signs_of_tiles began (length pre) (tile_parts ws xs)) → AreSoIn block (things (signs_of_tiles began (length pre) (tile_parts ws xs)))
tiles_so [] a began block pre rest xs t is c n f k = tt
tiles_so (w ∷ ws) a began block pre rest xs t is c n f k =
    let m : ℕ = size w in
    let ys : List Item = take m xs in
    let zs : List Item = drop m xs in
    let at : ℕ = length pre in
    let v : Bool = ends_break (sources ys) in
    let more : List ContentSign = signs_of_tiles v (at + length (sources ys)) (tile_parts ws zs) in
    let cut = kept_front (tile_signs w.kind began at ys) more k in
    let some : 0 < size w = t.0 in
    let le : size w ≤ length (map glyph_of xs) = t.1 in
    let all = length-map xs glyph_of in
    let long = taken m xs (omega (arith, le, all)) in
    let goes = tile_goes w.kind a began at w xs f.0 t.2 cut.0 (none_take m xs n) (omega (arith, long, some)) in
    let both : sources xs ≡ sources ys ++ sources zs = ap sources (sym (take-append-drop m xs)) ∙ flat_map-append source ys zs in
    let behind : flat block ≡ (pre ++ sources ys) ++ (sources zs ++ rest) =
    is ∙ ap (λ (bs : List ℕ). pre ++ (bs ++ rest)) both ∙ ap (λ (bs : List ℕ). pre ++ bs) (append_assoc (sources ys) (sources zs) rest)
    ∙ sym (append_assoc pre (sources ys) (sources zs ++ rest)) in
    let next : length (pre ++ sources ys) ≡ at + length (sources ys) = length-append pre (sources ys) in
    let own : AreSoIn block (things (tile_signs w.kind began at ys)) =
    tile_so w.kind block began at ys (refl, λ s e. began_so block began pre (sources xs ++ rest) s is c.so e) in
    let later : AreSoIn block (things more) =
    subst (λ (j : ℕ). AreSoIn block (things (signs_of_tiles v j (tile_parts ws zs)))) next
    (tiles_so ws (is_word_at (map glyph_of xs) (m - 1)) v block (pre ++ sources ys) rest zs
    (subst (λ gs. AreTiles in_line (is_word_at (map glyph_of xs) (m - 1)) ws gs) (sym (map_drop m xs)) t.4) behind
    (further block began v pre (sources ys) c goes.0 goes.1) (none_drop m xs n) f.1
    (subst (λ (j : ℕ). AreKept (signs_of_tiles v j (tile_parts ws zs))) (sym next) cut.1)) in
    subst (AreSoIn block) (sym (things_append (tile_signs w.kind began at ys) more)) (so_both block (things (tile_signs w.kind began at ys)) (things more) own later)

line_so : (block : Tree) (pre rest : List ℕ) (xs : List Item) → flat block ≡ pre ++ (sources xs ++ rest) → Comes block true pre
    → HasNoBreak xs → AreFlatTiles (tiles in_line xs) → AreKept (line_signs (length pre) xs) → AreSoIn block (things (line_signs (length pre) xs))
unfolding tiles
line_so block pre rest xs is c n f k =
    tiles_so (shapes in_line (map glyph_of xs)) false true block pre rest xs (shapes_are in_line (map glyph_of xs)) is c n f k

-- ---- the lines of a block

abbrev pub lines_source : List (List Item) → List ℕ
lines_source [] = []
lines_source (xs ∷ []) = sources xs
lines_source (xs ∷ ys ∷ ls) = sources xs ++ (10 ∷ lines_source (ys ∷ ls))

lines_so : (ls : List (List Item)) (block : Tree) (pre rest : List ℕ) → flat block ≡ pre ++ (lines_source ls ++ rest) → Comes block true pre
    → AreFlatLines ls → AreKept (signs_of_lines (length pre) ls) → AreSoIn block (things (signs_of_lines (length pre) ls))
lines_so [] block pre rest is c f k = tt
lines_so (xs ∷ []) block pre rest is c f k = line_so block pre rest xs is c f.0 f.1 k
lines_so (xs ∷ ys ∷ ls) block pre rest is c f k =
    let at : ℕ = length pre in
    let m : ℕ = length (sources xs) in
    let own : List ContentSign = line_signs at xs in
    let more : List ContentSign = letter 10 ∷ signs_of_lines (at + m + 1) (ys ∷ ls) in
    let cut = kept_front own more k in
    let others : List ℕ = lines_source (ys ∷ ls) in
    let broken : List ℕ = sources xs ++ 10 ∷ [] in
    let past : List ℕ = pre ++ broken in
    let here : flat block ≡ pre ++ (sources xs ++ ((10 ∷ others) ++ rest)) =
    is ∙ ap (λ (bs : List ℕ). pre ++ bs) (append_assoc (sources xs) (10 ∷ others) rest) in
    let there : flat block ≡ past ++ (others ++ rest) =
    here ∙ ap (λ (bs : List ℕ). pre ++ bs) (sym (append_assoc (sources xs) (10 ∷ []) (others ++ rest)))
    ∙ sym (append_assoc pre broken (others ++ rest)) in
    let wide = length-append (sources xs) (10 ∷ []) in
    let all = length-append pre broken in
    let next : length past ≡ at + m + 1 = omega (arith, wide, all) in
    let begins : Comes block true past = further block true true pre broken c (omega (arith, wide)) (last_of true (sources xs) (10 ∷ []) (omega arith) refl) in
    let later : AreSoIn block (things (signs_of_lines (at + m + 1) (ys ∷ ls))) =
    subst (λ (j : ℕ). AreSoIn block (things (signs_of_lines j (ys ∷ ls)))) next
    (lines_so (ys ∷ ls) block past rest there begins f.2
    (subst (λ (j : ℕ). AreKept (signs_of_lines j (ys ∷ ls))) (sym next) cut.1)) in
    subst (AreSoIn block) (sym (things_append own more))
    (so_both block (things own) (things more) (line_so block pre ((10 ∷ others) ++ rest) xs here c f.0 f.1 cut.0) later)

-- the marks of a block of these lines, behind its opening delimiter
pub marks_within : (ls : List (List Item)) (block : Tree) (closing : List ℕ) → flat block ≡ (label block).opening ++ (lines_source ls ++ closing) → AreFlatLines ls
    → AreKept (signs_of_lines (length (label block).opening) ls) → AreSoIn block (things (signs_of_lines (length (label block).opening) ls))
marks_within ls block closing is f k = lines_so ls block (label block).opening closing is (record { le = omega arith; so = inl refl }) f k

-- ---- the bytes of lines

break_source : (b : Item) → is_break_item b ≡ true → source b ≡ 10 ∷ []
break_source (char o c) e = let is : c ≡ 10 = grind (arith, nat_tests, e) in ap (λ (k : ℕ). k ∷ []) is
break_source (whole f o bs) e = cc

pub lines_bytes : (ls : List (List Item)) (xs : List Item) → AreLines ls xs → lines_source ls ≡ sources xs
lines_bytes [] xs h = absurd h
lines_bytes (l ∷ []) xs h = ap sources (sym h.1)
lines_bytes (l ∷ m ∷ ls) xs h =
    ap (λ (bs : List ℕ). sources l ++ (10 ∷ bs)) (lines_bytes (m ∷ ls) h.2 h.5)
    ∙ ap (λ (bs : List ℕ). sources l ++ (bs ++ sources h.2)) (sym (break_source h.1 h.3))
    ∙ sym (flat_map-append source l (h.1 ∷ h.2))
    ∙ ap sources (sym h.4)
