-- A tag or a switch that is all of some items, whatever is read behind them, is the same of these items alone.
use Rattle.std.proofs.Common.{arith, ◌≡◌, ℕ, suc, ◌+◌, ◌-◌, ◌<◌, ◌≤◌, ◌==◌, Bool, true, false, Option, Some, None, List, [], ◌∷◌, ◌++◌, length, take, drop, refl, sym, ap, ap₂, ◌∙◌, subst, nat_lt}
use Rattle.std.specs.Prelude.{◌&&◌, codes, option_map, if◌then◌else◌}
use Rattle.std.specs.List.{Contains}
use Rattle.std.specs.Option.{option_or}
use Rattle.std.proofs.lemmas.Bool.Decides.{nat_tests}
use Rattle.std.proofs.lemmas.List.{drop-append-le, take-append-le, length-drop, length-take, length-append}
use Rattle.std.proofs.lemmas.List.Elements.{Contains-append_right}
use Rattle.wt_tiles.specs.declared.glyph.Glyph.{Glyph}
use Rattle.wt_tiles.specs.declared.glyph.Glyph.TheVariants as glyph
use Rattle.wt_tiles.specs.declared.glyph.GlyphClass.TheVariants as class
use Rattle.wt_tiles.specs.declared.shape.Shape.{Shape}
use Rattle.wt_tiles.specs.declared.shape.TileKind.TheVariants as kind
use Rattle.wt_tiles.specs.declared.tag.Name.{Name}
use Rattle.wt_tiles.specs.declared.tag.Tag.{Tag}
use Rattle.wt_tiles.specs.declared.tag.TagShape.{TagShape}
use Rattle.wt_tiles.specs.declared.tag.TagShape.TheVariants.{Closing}
use Rattle.wt_tiles.specs.Glyphs.{in_class, is_in, first_is, run_len, begins, byte_glyphs}
use Rattle.wt_tiles.specs.Links.{leaf}
use Rattle.wt_tiles.specs.Tags.{name_len, name_of, tag_of, is_inside, shape_of, tag_after, opening_tag, closing_tag, tag_at}
use Rattle.wt_tiles.specs.Tiles.{size, switch_names, switch_len, switch_at}
use Rattle.wt_tiles.proofs.TagFits.{run_le, name_le, OptTag, tag_fits}
use Rattle.wt_beside_laws.specs.Nodes.{IsSwitchNode}
use Rattle.wt_beside_laws.proofs.LinkTiles.{first_stays, same_shape}
use Rattle.wt_beside_laws.proofs.TagTiles.{if_tag, both_true, closing_alone, no_opening}
use Rattle.wt_beside_laws.proofs.UrlFronts.{run_front}

-- ---- an opening tag, by what follows its name

or_this : Tag → Option Tag → Tag
or_this u None = u
or_this u (Some v) = v

same_tag : (u v : Tag) → Some u ≡ Some v → u ≡ v
unfolding or_this
same_tag u v e = ap (or_this u) e

-- a tag has the length that it is made with
pub made_len : (h : TagShape) (n : ℕ) (o : Option Name) (t : Tag) → tag_of h n o ≡ Some t → t.len ≡ n
made_len h n None t e = cc
made_len h n (Some m) t e = sym (ap (λ (u : Tag). u.len) (same_tag (record { name = m; shape = h; len = n }) t e))

pub taken : (n : ℕ) (gs : List Glyph) → n ≤ length gs → length (take n gs) ≡ n
taken n gs le = let cut = length-take n gs in omega (arith, cut, le)

pub after_len : (name us : List Glyph) (t : Tag) → tag_after name us ≡ Some t → t.len ≡ 2 + length name + run_len class.Tag us
unfolding tag_after
after_len name us t e =
    let r : ℕ = run_len class.Tag us in
    let m = if_tag (first_is (class.Only 62) (drop r us) && is_inside (take r us)) (tag_of (shape_of (take r us)) (2 + length name + length (take r us)) (name_of name)) t e in
    let own : t.len ≡ 2 + length name + length (take r us) = made_len (shape_of (take r us)) (2 + length name + length (take r us)) (name_of name) t m.1 in
    let all : length (take r us) ≡ r = taken r us (run_le class.Tag us) in
    omega (arith, own, all)

abbrev tag_inside : List Glyph → Bool → List Glyph → Option Tag
tag_inside name ends inside = if ends && is_inside inside then tag_of (shape_of inside) (2 + length name + length inside) (name_of name) else None

after_front : (name us rest : List Glyph) (t : Tag) → tag_after name (us ++ rest) ≡ Some t → t.len ≤ 1 + length name + length us → tag_after name us ≡ Some t
unfolding tag_after
after_front name us rest t e le =
    let r : ℕ = run_len class.Tag (us ++ rest) in
    let size : t.len ≡ 2 + length name + r = after_len name (us ++ rest) t e in
    let lt : r < length us = omega (arith, size, le) in
    let left : length (drop r us) ≡ length us - r = length-drop r us in
    ap (λ (i : ℕ). tag_inside name (first_is (class.Only 62) (drop i us)) (take i us)) (run_front class.Tag us rest lt)
    ∙ ap₂ (λ (v : Bool) (xs : List Glyph). tag_inside name v xs)
    (sym (first_stays (class.Only 62) (drop r us) rest (omega (arith, lt, left))) ∙ ap (first_is (class.Only 62)) (sym (drop-append-le r us rest (omega (arith, lt)))))
    (sym (take-append-le r us rest (omega (arith, lt))))
    ∙ e

name_front : (hs rest : List Glyph) → name_len (hs ++ rest) < length hs → name_len hs ≡ name_len (hs ++ rest)
name_front hs rest lt =
    let first : first_is class.Letter (hs ++ rest) ≡ first_is class.Letter hs = first_stays class.Letter hs rest (omega (arith, lt)) in
    front_by (first_is class.Letter hs) (subst (λ (v : Bool). (if v then run_len class.Name (hs ++ rest) else 0) < length hs) first lt)
    ∙ ap (λ (v : Bool). if v then run_len class.Name (hs ++ rest) else 0) (sym first)
  where
    front_by : (v : Bool) → (if v then run_len class.Name (hs ++ rest) else 0) < length hs
        → (if v then run_len class.Name hs else 0) ≡ (if v then run_len class.Name (hs ++ rest) else 0)
    front_by true less = run_front class.Name hs rest less
    front_by false less = refl

opening_front : (g : Glyph) (hs rest : List Glyph) (t : Tag) → t.len ≡ 1 + length hs → opening_tag (g ∷ (hs ++ rest)) ≡ Some t → opening_tag (g ∷ hs) ≡ Some t
unfolding opening_tag
opening_front g hs rest t whole e =
    let all : List Glyph = hs ++ rest in
    let n : ℕ = name_len all in
    let us : List Glyph = drop (1 + n) (g ∷ hs) in
    let m = if_tag (in_class (class.Only 60) g && nat_lt 0 n) (tag_after (take n all) (drop (1 + n) (g ∷ all))) t e in
    let size : t.len ≡ 2 + length (take n all) + run_len class.Tag (drop (1 + n) (g ∷ all)) = after_len (take n all) (drop (1 + n) (g ∷ all)) t m.1 in
    let named : length (take n all) ≡ n = taken n all (name_le all) in
    let lt : n < length hs = omega (arith, whole, size, named) in
    let cut : drop (1 + n) (g ∷ all) ≡ us ++ rest = drop-append-le (1 + n) (g ∷ hs) rest (omega (arith, lt)) in
    let left : length us ≡ length (g ∷ hs) - (1 + n) = length-drop (1 + n) (g ∷ hs) in
    let own : take n all ≡ take n hs = take-append-le n hs rest (omega (arith, lt)) in
    let mine : length (take n hs) ≡ n = taken n hs (omega (arith, lt)) in
    let after : tag_after (take n hs) us ≡ Some t =
    after_front (take n hs) us rest t (ap₂ (λ (xs ys : List Glyph). tag_after xs ys) (sym own) (sym cut) ∙ m.1) (omega (arith, whole, mine, left, lt)) in
    ap (λ (i : ℕ). if in_class (class.Only 60) g && nat_lt 0 i then tag_after (take i hs) (drop (1 + i) (g ∷ hs)) else None) (name_front hs rest lt)
    ∙ ap (λ (v : Bool). if v then tag_after (take n hs) us else None) m.0
    ∙ after

-- ---- a closing tag

abbrev closing_by : Bool → ℕ → ℕ → List Glyph → List Glyph → Option Tag
closing_by first n k name behind = if first && (nat_lt 0 n && first_is (class.Only 62) behind) then tag_of Closing (3 + n + k) (name_of name) else None

closing_front : (a b : Glyph) (hs rest : List Glyph) (t : Tag) → t.len ≡ 2 + length hs → closing_tag (a ∷ b ∷ (hs ++ rest)) ≡ Some t → closing_tag (a ∷ b ∷ hs) ≡ Some t
unfolding closing_tag
closing_front a b hs rest t whole e =
    let gs : List Glyph = a ∷ b ∷ hs in
    let all : List Glyph = a ∷ b ∷ (hs ++ rest) in
    let n : ℕ = name_len (hs ++ rest) in
    let k : ℕ = run_len class.Blank (drop (2 + n) all) in
    let first : Bool = begins (codes "</") gs in
    let m = if_tag (first && (nat_lt 0 n && first_is (class.Only 62) (drop (2 + n + k) all))) (tag_of Closing (3 + n + k) (name_of (take n (hs ++ rest)))) t e in
    let size : t.len ≡ 3 + n + k = made_len Closing (3 + n + k) (name_of (take n (hs ++ rest))) t m.1 in
    let lt : 2 + n + k < length gs = omega (arith, whole, size) in
    let left : length (drop (2 + n) gs) ≡ length gs - (2 + n) = length-drop (2 + n) gs in
    let end : length (drop (2 + n + k) gs) ≡ length gs - (2 + n + k) = length-drop (2 + n + k) gs in
    let cut : drop (2 + n) all ≡ drop (2 + n) gs ++ rest = drop-append-le (2 + n) gs rest (omega (arith, lt)) in
    let same : k ≡ run_len class.Blank (drop (2 + n) gs ++ rest) = ap (run_len class.Blank) cut in
    let blanks : run_len class.Blank (drop (2 + n) gs) ≡ k = run_front class.Blank (drop (2 + n) gs) rest (omega (arith, lt, left, same)) ∙ sym same in
    let close : first_is (class.Only 62) (drop (2 + n + k) gs) ≡ first_is (class.Only 62) (drop (2 + n + k) all) =
    sym (first_stays (class.Only 62) (drop (2 + n + k) gs) rest (omega (arith, lt, end))) ∙ ap (first_is (class.Only 62)) (sym (drop-append-le (2 + n + k) gs rest (omega (arith, lt)))) in
    ap (λ (i : ℕ). closing_by first i (run_len class.Blank (drop (2 + i) gs)) (take i hs) (drop (2 + i + run_len class.Blank (drop (2 + i) gs)) gs))
    (name_front hs rest (omega (arith, lt)))
    ∙ ap (λ (j : ℕ). closing_by first n j (take n hs) (drop (2 + n + j) gs)) blanks
    ∙ ap₂ (λ (v : Bool) (xs : List Glyph). if first && (nat_lt 0 n && v) then tag_of Closing (3 + n + k) (name_of xs) else None) close
    (sym (take-append-le n hs rest (omega (arith, lt))))
    ∙ e

-- ---- a tag

tag_long : (gs : List Glyph) (o : Option Tag) (t : Tag) → OptTag gs o → o ≡ Some t → 2 < t.len
tag_long gs o t f e = let r : OptTag gs (Some t) = subst (λ (p : Option Tag). OptTag gs p) e f in r.some

pub tag_some : (gs : List Glyph) (t : Tag) → tag_at gs ≡ Some t → 0 < t.len
tag_some gs t e = let long = tag_long gs (tag_at gs) t (tag_fits gs) e in omega (arith, long)

front_of : (o : Option Tag) (g h : Glyph) (gs rest : List Glyph) (t : Tag) → opening_tag (g ∷ h ∷ (gs ++ rest)) ≡ o
    → option_or o (closing_tag (g ∷ h ∷ (gs ++ rest))) ≡ Some t → t.len ≡ 2 + length gs → tag_at (g ∷ h ∷ gs) ≡ Some t
unfolding tag_at
front_of (Some u) g h gs rest t e is whole =
    ap (λ (o : Option Tag). option_or o (closing_tag (g ∷ h ∷ gs))) (opening_front g (h ∷ gs) rest t (omega (arith, whole)) (e ∙ is))
front_of None g h gs rest t e is whole =
    ap (λ (o : Option Tag). option_or o (closing_tag (g ∷ h ∷ gs))) (no_opening g h gs (closing_alone g h (gs ++ rest) t is)) ∙ closing_front g h gs rest t whole is

pub tag_front : (gs rest : List Glyph) (t : Tag) → t.len ≡ length gs → tag_at (gs ++ rest) ≡ Some t → tag_at gs ≡ Some t
unfolding tag_at
tag_front [] rest t whole e = let long = tag_long rest (tag_at rest) t (tag_fits rest) e in absurd (omega (arith, long, whole))
tag_front (g ∷ []) rest t whole e = let long = tag_long (g ∷ rest) (tag_at (g ∷ rest)) t (tag_fits (g ∷ rest)) e in absurd (omega (arith, long, whole))
tag_front (g ∷ h ∷ gs) rest t whole e = front_of (opening_tag (g ∷ h ∷ (gs ++ rest))) g h gs rest t refl e (omega (arith, whole))

-- ---- switches

pub byte_is : (b : ℕ) (g : Glyph) → is_in (λ (c : ℕ). c == b) g ≡ true → g ≡ glyph.Byte b
byte_is b (glyph.Byte c) e = let is : c ≡ b = grind (arith, nat_tests, e) in ap (λ (i : ℕ). glyph.Byte i) is
byte_is b (glyph.Entity c) e = cc
byte_is b glyph.Atom e = cc
byte_is b glyph.Mark e = cc

word_first : (word : List ℕ) (gs : List Glyph) → begins word gs ≡ true → (take (length word) gs ≡ byte_glyphs word) × (length word ≤ length gs)
word_first [] gs e = (refl, omega arith)
word_first (b ∷ word) [] e = cc
word_first (b ∷ word) (g ∷ gs) e =
    let c = both_true (is_in (λ (c : ℕ). c == b) g) (begins word gs) e in
    let r = word_first word gs c.1 in
    let le : length word ≤ length gs = r.1 in (
      ap₂ (λ (x : Glyph) (xs : List Glyph). x ∷ xs) (byte_is b g c.0) r.0,
      omega (arith, le),
    )

record IsNamed (words : List (List ℕ)) (gs : List Glyph) (n : ℕ) : Type 0 where
  word : List ℕ
  among : Contains words word
  first : begins word gs ≡ true
  long : length word ≡ n

or_none : Option ℕ → ℕ
or_none None = 0
or_none (Some i) = i

some_same : (i j : ℕ) → Some i ≡ Some j → i ≡ j
unfolding or_none
some_same i j e = ap or_none e

named : (words : List (List ℕ)) (gs : List Glyph) (n : ℕ) → switch_len words gs ≡ Some n → IsNamed words gs n
named [] gs n e = cc
named (word ∷ words) gs n e = named_by (begins word gs) refl e (λ z. named words gs n z)
  where
    named_by : (v : Bool) → begins word gs ≡ v → (if v then Some (length word) else switch_len words gs) ≡ Some n → (switch_len words gs ≡ Some n → IsNamed words gs n)
        → IsNamed (word ∷ words) gs n
    named_by true i z f = record { word = word; among = (0, omega arith, refl); first = i; long = some_same (length word) n z }
    named_by false i z f = let r = f z in record { word = r.word; among = Contains-append_right (word ∷ []) words r.word r.among; first = r.first; long = r.long }

switch_made : (v : Bool) (o : Option ℕ) (w : Shape) → (if v then option_map (λ (n : ℕ). leaf kind.Switch (2 + n)) o else None) ≡ Some w
    → (v ≡ true) × (n : ℕ) × (o ≡ Some n) × (leaf kind.Switch (2 + n) ≡ w)
switch_made true None w e = cc
switch_made true (Some n) w e = (refl, n, refl, same_shape (leaf kind.Switch (2 + n)) w e)
switch_made false o w e = cc

pub switch_front : (gs rest : List Glyph) (w : Shape) → size w ≡ length gs → switch_at (gs ++ rest) ≡ Some w → IsSwitchNode gs × (w.kind ≡ kind.Switch)
unfolding switch_at
switch_front gs rest w whole e =
    let all : List Glyph = gs ++ rest in
    let m = switch_made (begins (codes "__") all) (switch_len switch_names (drop 2 all)) w e in
    let d = named switch_names (drop 2 all) m.1 m.2 in
    let two = word_first (codes "__") all m.0 in
    let own = word_first d.word (drop 2 all) d.first in
    let large : size (leaf kind.Switch (2 + m.1)) ≡ length gs = ap size m.3 ∙ whole in
    let long : length d.word ≡ m.1 = d.long in
    let sum : length gs ≡ 2 + length d.word = omega (arith, large, long) in
    let fits : length all ≡ length gs + length rest = length-append gs rest in
    let is : gs ≡ byte_glyphs (95 ∷ 95 ∷ d.word) =
    sym (take_whole gs rest) ∙ ap (λ (i : ℕ). take i all) sum ∙ two_parts (length d.word) all (omega (arith, sum, fits)) ∙ ap₂ (λ (xs ys : List Glyph). xs ++ ys) two.0 own.0 in
    (record { word = d.word; named = d.among; is = is }, sym (ap (λ (u : Shape). u.kind) m.3))
  where
    take_whole : (xs ys : List Glyph) → take (length xs) (xs ++ ys) ≡ xs
    take_whole [] ys = refl
    take_whole (x ∷ xs) ys = ap (λ (hs : List Glyph). x ∷ hs) (take_whole xs ys)

    two_parts : (n : ℕ) (xs : List Glyph) → 2 + n ≤ length xs → take (2 + n) xs ≡ take 2 xs ++ take n (drop 2 xs)
    two_parts n [] le = absurd (omega (arith, le))
    two_parts n (x ∷ []) le = absurd (omega (arith, le))
    two_parts n (x ∷ y ∷ xs) le = let z : 2 + n ≡ suc (suc n) = omega arith in ap (λ (i : ℕ). take i (x ∷ y ∷ xs)) z
