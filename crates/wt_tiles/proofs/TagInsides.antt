-- For the code that reads the tiles: inside a tag no other tag begins, and where no form begins.
use Rattle.std.proofs.Common.{◌≡◌, ℕ, zero, suc, ◌+◌, ◌-◌, ◌<◌, ◌≤◌, ◌==◌, Bool, true, false, Option, Some, None, List, [], ◌∷◌, length, take, drop, nat_lt, refl, sym, ap, ◌∙◌, arith, subst, codes, cond, length-drop, length-take, drop-drop, ⊎_elim}
use Rattle.std.specs.Prelude.{◌&&◌, ◌||◌, not, if◌then◌else◌, option_map}
use Rattle.std.specs.Option.{option_or}
use Rattle.std.specs.Char.{to_ascii_lowercase}
use Rattle.std.proofs.lemmas.Bool.{eqb-true, cases_lt}
use Rattle.std.proofs.lemmas.Bool.Decides.{nat_tests}
use Rattle.wt_span.specs.declared.tag_name.TagName.{TagName}
use Rattle.wt_tiles.specs.declared.context.Context.{Context}
use Rattle.wt_tiles.specs.declared.glyph.Glyph.{Glyph}
use Rattle.wt_tiles.specs.declared.glyph.Glyph.TheVariants as glyph
use Rattle.wt_tiles.specs.declared.glyph.GlyphClass.{GlyphClass}
use Rattle.wt_tiles.specs.declared.glyph.GlyphClass.TheVariants as class
use Rattle.wt_tiles.specs.declared.shape.Shape.{Shape}
use Rattle.wt_tiles.specs.declared.shape.TileKind.TheVariants as kind
use Rattle.wt_tiles.specs.declared.tag.Name.{Name}
use Rattle.wt_tiles.specs.declared.tag.Name.TheVariants.{Paired}
use Rattle.wt_tiles.specs.declared.tag.TagShape.{TagShape}
use Rattle.wt_tiles.specs.declared.tag.TagShape.TheVariants.{Opening, Alone, Closing}
use Rattle.wt_tiles.specs.declared.tag.Tag.{Tag}
use Rattle.wt_tiles.specs.Glyphs.{in_class, first_is, run_len, begins, like_byte, begins_like}
use Rattle.wt_tiles.specs.Tags.{tag_of, name_of, name_len, is_inside, shape_of, tag_after, opening_tag, closing_tag, tag_at}
use Rattle.wt_tiles.specs.Partners.{number, turn_of_tag, by_tag, partner}
use Rattle.wt_tiles.specs.Links.{leaf, link_at, link_in}
use Rattle.wt_tiles.specs.Urls.{scheme_len, ext_link_of, ext_link_at, bare_url_at, bare_url_of, url_items, kept_len}
use Rattle.wt_tiles.specs.Tiles.{len_of, pair_or_island, closing_for, shape_of_tag, tag_tile, switch_names, switch_len, switch_at, outside, link_or_url, tag_or_switch, form_at}
use Rattle.wt_tiles.specs.Tables.{left_of, own_partner, pair_left}
use Rattle.wt_tiles.specs.Firsts.{may_begin}
use Rattle.wt_tiles.proofs.Words.{and_left, false_true}
use Rattle.wt_tiles.proofs.Fits.{partner_fits}
use Rattle.wt_tiles.proofs.Pairs.{end_of, own_of}

-- ---- items with which no tag begins

not_first : (b : ℕ) (word : List ℕ) (gs : List Glyph) → first_is (class.Only b) gs ≡ false → begins (b ∷ word) gs ≡ false
not_first b word [] e = refl
not_first b word (g ∷ gs) e = ap (λ (t : Bool). t && begins word gs) e

pub no_tag : (gs : List Glyph) → first_is (class.Only 60) gs ≡ false → tag_at gs ≡ None
unfolding tag_at opening_tag closing_tag
no_tag gs e =
    let n = name_len (drop 1 gs) in
    let m = name_len (drop 2 gs) in
    let k = run_len class.Blank (drop (2 + m) gs) in
    let F : Bool → Bool → Option Tag = λ a b.
    option_or (if a && nat_lt 0 n then tag_after (take n (drop 1 gs)) (drop (1 + n) gs) else None)
    (if b && (nat_lt 0 m && first_is (class.Only 62) (drop (2 + m + k) gs)) then tag_of Closing (3 + m + k) (name_of (take m (drop 2 gs))) else None) in
    ap (λ (a : Bool). F a (begins (codes "</") gs)) e ∙ ap (F false) (not_first 60 (47 ∷ []) gs e)

-- classes without `<`
abbrev HasNoLess : GlyphClass → Type 0
HasNoLess k = (g : Glyph) → in_class k g ≡ true → in_class (class.Only 60) g ≡ false

name_no_less : HasNoLess class.Name
name_no_less (glyph.Byte b) e = grind (arith, nat_tests)
name_no_less (glyph.Entity c) e = refl
name_no_less glyph.Atom e = refl
name_no_less glyph.Mark e = refl

tag_no_less : HasNoLess class.Tag
tag_no_less (glyph.Byte b) e = by (b == 60) e
  where
    by : (t : Bool) → not (t || (b == 62 || b == 10)) ≡ true → t ≡ false
    by true h = false_true h
    by false h = refl
tag_no_less (glyph.Entity c) e = refl
tag_no_less glyph.Atom e = refl
tag_no_less glyph.Mark e = refl

run_step : (t : Bool) (n k : ℕ) → suc k < cond t (1 + n) 0 → k < n
run_step true n k h = omega arith
run_step false n k h = absurd (omega arith)

run_some : (t : Bool) (n : ℕ) → 0 < cond t (1 + n) 0 → t ≡ true
run_some true n h = refl
run_some false n h = absurd (omega arith)

run_no_less : (k : GlyphClass) (gs : List Glyph) (i : ℕ) → HasNoLess k → i < run_len k gs → first_is (class.Only 60) (drop i gs) ≡ false
run_no_less k [] i h below = absurd (omega arith)
run_no_less k (g ∷ gs) zero h below = h g (run_some (in_class k g) (run_len k gs) below)
run_no_less k (g ∷ gs) (suc i) h below = run_no_less k gs i h (run_step (in_class k g) (run_len k gs) i below)

close_no_less : (gs : List Glyph) → first_is (class.Only 62) gs ≡ true → first_is (class.Only 60) gs ≡ false
close_no_less [] e = refl
close_no_less (glyph.Byte b ∷ gs) e = grind (arith, nat_tests, eqb-true)
close_no_less (glyph.Entity c ∷ gs) e = refl
close_no_less (glyph.Atom ∷ gs) e = refl
close_no_less (glyph.Mark ∷ gs) e = refl

-- ---- an opening tag: its name, what may stand in a tag, `>`

-- so many items behind the `<` aren't `<`
abbrev IsClear : List Glyph → ℕ → Type 0
IsClear gs m = (i : ℕ) → i < m → first_is (class.Only 60) (drop (1 + i) gs) ≡ false

abbrev OptInside : List Glyph → List Glyph → Option Tag → Type 0
OptInside name gs None = Unit {0}
OptInside name gs (Some t) = (t.len ≡ 2 + length name + run_len class.Tag gs) × (first_is (class.Only 62) (drop (run_len class.Tag gs) gs) ≡ true)

inside_of : (name gs : List Glyph) (shape : TagShape) (n : ℕ) (o : Option Name) → n ≡ 2 + length name + run_len class.Tag gs
    → first_is (class.Only 62) (drop (run_len class.Tag gs) gs) ≡ true → OptInside name gs (tag_of shape n o)
inside_of name gs shape n None e f = tt
inside_of name gs shape n (Some m) e f = (e, f)

if_inside : (name gs : List Glyph) (t : Bool) (o : Option Tag) → (t ≡ true → OptInside name gs o) → OptInside name gs (if t then o else None)
if_inside name gs true o f = f refl
if_inside name gs false o f = tt

run_le : (k : GlyphClass) (gs : List Glyph) → run_len k gs ≤ length gs
run_le k [] = omega arith
run_le k (g ∷ gs) = by (in_class k g) (run_le k gs)
  where
    by : (t : Bool) → run_len k gs ≤ length gs → cond t (1 + run_len k gs) 0 ≤ length (g ∷ gs)
    by true le = omega arith
    by false le = omega arith

after_inside : (name gs : List Glyph) → OptInside name gs (tag_after name gs)
unfolding tag_after
after_inside name gs =
    let k = run_len class.Tag gs in
    let inside = take k gs in
    if_inside name gs (first_is (class.Only 62) (drop k gs) && is_inside inside) (tag_of (shape_of inside) (2 + length name + length inside) (name_of name))
    (λ e. inside_of name gs (shape_of inside) (2 + length name + length inside) (name_of name)
    (omega (arith, length-take k gs, run_le class.Tag gs)) (and_left (first_is (class.Only 62) (drop k gs)) _ e))

abbrev OptClear : List Glyph → Option Tag → Type 0
OptClear gs None = Unit {0}
OptClear gs (Some t) = (0 < t.len) × IsClear gs (t.len - 1)

name_run : (gs : List Glyph) (i : ℕ) → i < name_len gs → i < run_len class.Name gs
name_run gs i = by (first_is class.Letter gs)
  where
    by : (t : Bool) → i < (if t then run_len class.Name gs else 0) → i < run_len class.Name gs
    by true h = h
    by false h = absurd (omega arith)

clear_by : (gs : List Glyph) (n : ℕ) (o : Option Tag) → n ≡ name_len (drop 1 gs) → n ≤ length (drop 1 gs)
    → OptInside (take n (drop 1 gs)) (drop (1 + n) gs) o → OptClear gs o
clear_by gs n None e le f = tt
clear_by gs n (Some t) e le (size, close) =
    let k = run_len class.Tag (drop (1 + n) gs) in
    let named : length (take n (drop 1 gs)) ≡ n = omega (arith, length-take n (drop 1 gs)) in
    (omega arith, λ i below. ⊎_elim (λ h. in_name i h) (λ h. ⊎_elim (λ h2. in_tag i h h2) (λ h2. at_close i (omega arith)) (cases_lt i (n + k))) (cases_lt i n))
  where
    in_name : (i : ℕ) → i < n → first_is (class.Only 60) (drop (1 + i) gs) ≡ false
    in_name i h =
        let P : List Glyph → Type 0 = λ hs. first_is (class.Only 60) hs ≡ false in
        subst P (drop-drop i 1 gs) (run_no_less class.Name (drop 1 gs) i name_no_less (name_run (drop 1 gs) i (omega arith)))

    in_tag : (i : ℕ) → n ≤ i → i < n + run_len class.Tag (drop (1 + n) gs) → first_is (class.Only 60) (drop (1 + i) gs) ≡ false
    in_tag i h h2 =
        let P : List Glyph → Type 0 = λ hs. first_is (class.Only 60) hs ≡ false in
        let z : 1 + n + (i - n) ≡ 1 + i = omega arith in
        subst P (drop-drop (i - n) (1 + n) gs ∙ ap (λ m. drop m gs) z) (run_no_less class.Tag (drop (1 + n) gs) (i - n) tag_no_less (omega arith))

    at_close : (i : ℕ) → i ≡ n + run_len class.Tag (drop (1 + n) gs) → first_is (class.Only 60) (drop (1 + i) gs) ≡ false
    at_close i h =
        let P : List Glyph → Type 0 = λ hs. first_is (class.Only 60) hs ≡ false in
        let z : 1 + n + run_len class.Tag (drop (1 + n) gs) ≡ 1 + i = omega arith in
        subst P (drop-drop (run_len class.Tag (drop (1 + n) gs)) (1 + n) gs ∙ ap (λ m. drop m gs) z)
        (close_no_less (drop (run_len class.Tag (drop (1 + n) gs)) (drop (1 + n) gs)) close)

if_clear : (gs : List Glyph) (t : Bool) (o : Option Tag) → OptClear gs o → OptClear gs (if t then o else None)
if_clear gs true o f = f
if_clear gs false o f = tt

name_le : (gs : List Glyph) → name_len gs ≤ length gs
name_le gs = by (first_is class.Letter gs)
  where
    by : (t : Bool) → (if t then run_len class.Name gs else 0) ≤ length gs
    by true = run_le class.Name gs
    by false = omega arith

opening_clear : (gs : List Glyph) → OptClear gs (opening_tag gs)
unfolding opening_tag
opening_clear gs =
    let n = name_len (drop 1 gs) in
    if_clear gs (first_is (class.Only 60) gs && nat_lt 0 n) (tag_after (take n (drop 1 gs)) (drop (1 + n) gs))
    (clear_by gs n (tag_after (take n (drop 1 gs)) (drop (1 + n) gs)) refl (name_le (drop 1 gs)) (after_inside (take n (drop 1 gs)) (drop (1 + n) gs)))

-- a closing tag isn't an opening one
abbrev OptClosing : Option Tag → Type 0
OptClosing None = Unit {0}
OptClosing (Some t) = t.shape ≡ Closing

closing_of : (n : ℕ) (o : Option Name) → OptClosing (tag_of Closing n o)
closing_of n None = tt
closing_of n (Some m) = refl

if_closing : (t : Bool) (o : Option Tag) → OptClosing o → OptClosing (if t then o else None)
if_closing true o f = f
if_closing false o f = tt

closing_closes : (gs : List Glyph) → OptClosing (closing_tag gs)
unfolding closing_tag
closing_closes gs =
    let n = name_len (drop 2 gs) in
    let k = run_len class.Blank (drop (2 + n) gs) in
    if_closing (begins (codes "</") gs && (nat_lt 0 n && first_is (class.Only 62) (drop (2 + n + k) gs)))
    (tag_of Closing (3 + n + k) (name_of (take n (drop 2 gs)))) (closing_of (3 + n + k) (name_of (take n (drop 2 gs))))

is_opening : TagShape → Bool
is_opening Opening = true
is_opening Alone = false
is_opening Closing = false

opens_by : (gs : List Glyph) (a b : Option Tag) (t : Tag) → OptClear gs a → OptClosing b → option_or a b ≡ Some t → t.shape ≡ Opening → OptClear gs (Some t)
unfolding is_opening
opens_by gs (Some s) b t f g e h = let P : Option Tag → Type 0 = λ o. OptClear gs o in subst P e f
opens_by gs None b t f g e h =
    let P : Option Tag → Type 0 = λ o. OptClosing o in
    let closes : t.shape ≡ Closing = subst P e g in
    false_true (ap is_opening (sym closes ∙ h))

opens_clear : (gs : List Glyph) (t : Tag) → tag_at gs ≡ Some t → t.shape ≡ Opening → OptClear gs (Some t)
unfolding tag_at
opens_clear gs t e h = opens_by gs (opening_tag gs) (closing_tag gs) t (opening_clear gs) (closing_closes gs) e h

-- ---- the partner, sought behind the `<` or behind the tag

level_skip : (k d : ℕ) (gs : List Glyph) → tag_at gs ≡ None → partner k d gs ≡ partner k d (drop 1 gs)
level_skip k d [] e = refl
level_skip k d (g ∷ gs) e = ap (λ (o : Option Tag). by_tag (turn_of_tag k o) d (g ∷ gs) (λ e. partner k e gs)) e

clear_skip : (k d : ℕ) (gs : List Glyph) (m : ℕ) → IsClear gs m → partner k d (drop 1 gs) ≡ partner k d (drop (1 + m) gs)
clear_skip k d gs zero f = let z : 1 ≡ 1 + 0 = omega arith in ap (λ m. partner k d (drop m gs)) z
clear_skip k d gs (suc m) f =
    let z : 1 + m + 1 ≡ 1 + suc m = omega arith in
    clear_skip k d gs m (λ i below. f i (omega arith)) ∙ level_skip k d (drop (1 + m) gs) (no_tag (drop (1 + m) gs) (f m (omega arith)))
    ∙ ap (partner k d) (drop-drop 1 (1 + m) gs ∙ ap (λ i. drop i gs) z)

pub partner_behind : (k : ℕ) (gs : List Glyph) (t : Tag) → tag_at gs ≡ Some t → t.shape ≡ Opening → partner k 0 (drop 1 gs) ≡ partner k 0 (drop t.len gs)
partner_behind k gs t e h =
    let c = opens_clear gs t e h in
    let z : 1 + (t.len - 1) ≡ t.len = omega (arith, c.0) in
    clear_skip k 0 gs (t.len - 1) c.1 ∙ ap (λ m. partner k 0 (drop m gs)) z

-- ---- pairs by what is left

abbrev paired : ℕ → ℕ → List Glyph → Shape
paired n inside rest = record { kind = kind.Pair; opening = n; inside = inside; closing = len_of (tag_at rest); trail = 0 }

pair_by : (k n : ℕ) (gs : List Glyph) (o : Option (List Glyph)) → partner k 0 (drop n gs) ≡ o → n ≤ length gs
    → pair_left n (left_of o) gs ≡ pair_or_island n o gs
pair_by k n gs None e le = refl
pair_by k n gs (Some ys) e le =
    let end = end_of k (drop n gs) ys (partner k 0 (drop n gs)) e (partner_fits k 0 (drop n gs)) in
    let z : n + (length (drop n gs) - length ys) ≡ length gs - length ys = omega (arith, end.within, length-drop n gs) in
    let there : drop (length gs - length ys) gs ≡ ys = ap (λ m. drop m gs) (sym z) ∙ sym (drop-drop (length (drop n gs) - length ys) n gs) ∙ end.is in
    ap (λ (hs : List Glyph). paired n (length (drop n gs) - length ys) hs) there

-- the partner of an opening tag, by the table's word
pub closing_is : (gs : List Glyph) (t : Tag) (m : TagName) → 0 < length gs → tag_at gs ≡ Some t → t.name ≡ Paired m
    → t.shape ≡ Opening → own_partner gs ≡ left_of (partner (number m) 0 (drop t.len gs))
closing_is gs t m h e named opens = own_of gs t (Paired m) h e named ∙ ap left_of (partner_behind (number m) gs t e opens)

pub pair_is : (pairs : ℕ) (gs : List Glyph) (t : Tag) (m : TagName) → nat_lt pairs 16 ≡ true → 0 < length gs → tag_at gs ≡ Some t
    → t.name ≡ Paired m → t.shape ≡ Opening → t.len ≤ length gs
    → pair_left t.len (own_partner gs) gs ≡ pair_or_island t.len (closing_for pairs m t.len gs) gs
pair_is pairs gs t m few h e named opens le =
    ap (λ (o : Option ℕ). pair_left t.len o gs) (closing_is gs t m h e named opens)
    ∙ pair_by (number m) t.len gs (partner (number m) 0 (drop t.len gs)) refl le
    ∙ ap (λ (b : Bool). pair_or_island t.len (if b then partner (number m) 0 (drop t.len gs) else None) gs) (sym few)

within_by : (k n left : ℕ) (gs : List Glyph) (o : Option (List Glyph)) → partner k 0 (drop n gs) ≡ o → left_of o ≡ Some left → left ≤ length (drop n gs)
within_by k n left gs None e h = let F : Option ℕ → Bool = λ o. elim o as (λ _. Bool) [ None ↦ false | Some m ↦ true ] in false_true (ap F h)
within_by k n left gs (Some ys) e h =
    let F : Option ℕ → ℕ = λ o. elim o as (λ _. ℕ) [ None ↦ 0 | Some m ↦ m ] in
    let same : length ys ≡ left = ap F h in
    let end = end_of k (drop n gs) ys (partner k 0 (drop n gs)) e (partner_fits k 0 (drop n gs)) in
    omega (arith, end.within)

pub closing_within : (gs : List Glyph) (t : Tag) (m : TagName) (left : ℕ) → 0 < length gs → tag_at gs ≡ Some t → t.name ≡ Paired m
    → t.shape ≡ Opening → t.len ≤ length gs → own_partner gs ≡ Some left → t.len + left ≤ length gs
closing_within gs t m left h e named opens le is =
    let w = within_by (number m) t.len left gs (partner (number m) 0 (drop t.len gs)) refl (sym (closing_is gs t m h e named opens) ∙ is) in
    omega (arith, w, length-drop t.len gs)

pub too_many : (pairs : ℕ) (gs : List Glyph) (n : ℕ) (m : TagName) → nat_lt pairs 16 ≡ false
    → leaf kind.TagIsland n ≡ pair_or_island n (closing_for pairs m n gs) gs
too_many pairs gs n m many = ap (λ (b : Bool). pair_or_island n (if b then partner (number m) 0 (drop n gs) else None) gs) (sym many)

-- ---- where no form begins

is_first_by : (b c : ℕ) (gs : List Glyph) → (c == b) ≡ false → first_is (class.Only b) (glyph.Byte c ∷ gs) ≡ false
is_first_by b c gs e = e

no_link : (gs : List Glyph) → first_is (class.Only 91) gs ≡ false → link_at gs ≡ None
unfolding link_at
no_link gs e = ap (λ (t : Bool). if t then link_in (drop 2 gs) else None) (not_first 91 (91 ∷ []) gs e)

no_ext : (gs : List Glyph) → first_is (class.Only 91) gs ≡ false → ext_link_at gs ≡ None
unfolding ext_link_at
no_ext gs e = ap (λ (t : Bool). if t then ext_link_of (scheme_len (drop 1 gs)) (length (url_items (drop 1 gs))) gs else None) e

no_switch : (gs : List Glyph) → first_is (class.Only 95) gs ≡ false → switch_at gs ≡ None
unfolding switch_at
no_switch gs e = ap (λ (t : Bool). if t then option_map (λ n. leaf kind.Switch (2 + n)) (switch_len switch_names (drop 2 gs)) else
    None) (not_first 95 (95 ∷ []) gs e)

not_like : (b : ℕ) (word : List ℕ) (g : Glyph) (gs : List Glyph) → like_byte b g ≡ false → begins_like (b ∷ word) (g ∷ gs) ≡ false
not_like b word g gs e = ap (λ (t : Bool). t && begins_like word gs) e

no_scheme : (g : Glyph) (gs : List Glyph) → like_byte 104 g ≡ false → like_byte 102 g ≡ false → scheme_len (g ∷ gs) ≡ 0
unfolding scheme_len
no_scheme g gs h f =
    let F : Bool → Bool → Bool → ℕ = λ a b c. if a then 7 else (if b then 8 else (if c then 6 else 0)) in
    ap (λ (a : Bool). F a (begins_like (codes "https://") (g ∷ gs)) (begins_like (codes "ftp://") (g ∷ gs))) (not_like 104 (codes "ttp://") g gs h)
    ∙ ap (λ (b : Bool). F false b (begins_like (codes "ftp://") (g ∷ gs))) (not_like 104 (codes "ttps://") g gs h)
    ∙ ap (F false false) (not_like 102 (codes "tp://") g gs f)

no_bare : (after : Bool) (gs : List Glyph) → scheme_len gs ≡ 0 → bare_url_at after gs ≡ None
unfolding bare_url_at
no_bare true gs e = refl
no_bare false gs e = ap (λ n. bare_url_of n (kept_len (url_items gs))) e

other_letter : (b : ℕ) → may_begin b ≡ false → ((to_ascii_lowercase b == 104) ≡ false) × ((to_ascii_lowercase b == 102) ≡ false)
other_letter b e = (grind (arith, nat_tests), grind (arith, nat_tests))

other_byte : (b : ℕ) → may_begin b ≡ false → ((b == 91) ≡ false) × ((b == 60) ≡ false) × ((b == 95) ≡ false)
other_byte b e = (grind (arith, nat_tests), grind (arith, nat_tests), grind (arith, nat_tests))

outside_none : (t : Bool) → outside t None ≡ None
outside_none true = refl
outside_none false = refl

pub no_form : (cx : Context) (after : Bool) (b : ℕ) (gs : List Glyph) → may_begin b ≡ false → form_at cx after (glyph.Byte b ∷ gs) ≡ None
unfolding form_at link_or_url tag_tile
no_form cx after b gs e =
    let hs : List Glyph = glyph.Byte b ∷ gs in
    let o = other_byte b e in
    let l = other_letter b e in
    let links : link_or_url after hs ≡ None =
    ap (λ (x : Option Shape). option_or x (option_or (ext_link_at hs) (bare_url_at after hs))) (no_link hs o.0)
    ∙ ap (λ (x : Option Shape). option_or x (bare_url_at after hs)) (no_ext hs o.0) ∙ no_bare after hs (no_scheme (glyph.Byte b) gs l.0 l.1) in
    let tags : tag_tile cx.pairs hs ≡ None = ap (λ (x : Option Tag). option_map (λ t. shape_of_tag cx.pairs t.name t.shape t.len hs) x) (no_tag hs o.1) in
    ap (λ (x : Option Shape). option_or (outside cx.in_link x) (tag_or_switch cx.pairs hs)) links
    ∙ ap (λ (x : Option Shape). option_or x (tag_or_switch cx.pairs hs)) (outside_none cx.in_link)
    ∙ ap (λ (x : Option Shape). option_or x (switch_at hs)) tags ∙ no_switch hs o.2
