-- The closing tag that balances an opening one is the same whatever is read behind it.
use Rattle.std.proofs.Common.{arith, ◌≡◌, ℕ, zero, suc, ◌+◌, ◌-◌, ◌<◌, ◌≤◌, ◌==◌, Bool, true, false, Option, Some, None, List, [], ◌∷◌, ◌++◌, length, take, drop, refl, sym, ap, ap₂, ◌∙◌, subst, nat_lt}
use Rattle.std.specs.Prelude.{◌&&◌, ◌||◌, not, codes, if◌then◌else◌}
use Rattle.std.specs.Char.{is_ascii_alphanumeric}
use Rattle.std.specs.Option.{option_or}
use Rattle.std.proofs.lemmas.Bool.Decides.{nat_tests}
use Rattle.std.proofs.lemmas.List.{drop-append-le, take-append-le, length-drop, length-append}
use Rattle.wt_span.specs.Bytes.{is_blank}
use Rattle.wt_tiles.specs.declared.glyph.Glyph.{Glyph}
use Rattle.wt_tiles.specs.declared.glyph.Glyph.TheVariants as glyph
use Rattle.wt_tiles.specs.declared.glyph.GlyphClass.{GlyphClass}
use Rattle.wt_tiles.specs.declared.glyph.GlyphClass.TheVariants as class
use Rattle.wt_tiles.specs.declared.tag.Tag.{Tag}
use Rattle.wt_tiles.specs.declared.tag.TagShape.TheVariants.{Closing}
use Rattle.wt_tiles.specs.Glyphs.{in_class, is_in, first_is, run_len, begins}
use Rattle.wt_tiles.specs.Partners.{DepthChange, Up, Down, Level, turn_of_tag, tag_turn, by_tag, partner}
use Rattle.wt_tiles.specs.Tags.{name_len, name_of, tag_of, is_inside, shape_of, tag_after, opening_tag, closing_tag, tag_at}
use Rattle.wt_tiles.proofs.TagInsides.{no_tag}
use Rattle.wt_beside_laws.specs.OpenTags.{has_other, has_stop}
use Rattle.wt_beside_laws.proofs.LinkTiles.{first_stays}
use Rattle.wt_beside_laws.proofs.TagFronts.{tag_front}
use Rattle.wt_beside_laws.proofs.TagTiles.{tag_stays, name_stays, no_opening}
use Rattle.wt_beside_laws.proofs.UrlTiles.{run_within}

-- ---- an item that is in no tag, among some

abbrev pub has_less : List Glyph → Bool
has_less [] = false
has_less (g ∷ gs) = in_class (class.Only 60) g || has_less gs

or_right : (a b : Bool) → b ≡ true → (a || b) ≡ true
or_right true b e = refl
or_right false b e = e

-- it is in no tag
less_stops : (gs : List Glyph) → has_less gs ≡ true → has_stop gs ≡ true
less_stops [] e = cc
less_stops (g ∷ gs) e = by (in_class (class.Only 60) g) refl e (λ f. less_stops gs f)
  where
    less_stop : (g : Glyph) → in_class (class.Only 60) g ≡ true → in_class class.Tag g ≡ false
    less_stop (glyph.Byte b) e = ap (λ (v : Bool). not (v || (b == 62 || b == 10))) e
    less_stop (glyph.Entity c) e = cc
    less_stop glyph.Atom e = cc
    less_stop glyph.Mark e = cc

    by : (v : Bool) → in_class (class.Only 60) g ≡ v → (v || has_less gs) ≡ true → (has_less gs ≡ true → has_stop gs ≡ true)
        → (not (in_class class.Tag g) || has_stop gs) ≡ true
    by true i f go = ap (λ (v : Bool). not v || has_stop gs) (less_stop g i)
    by false i f go = or_right (not (in_class class.Tag g)) (has_stop gs) (go f)

-- of a class of which each item may be in a tag
abbrev IsOfTags : GlyphClass → Type 0
IsOfTags k = (g : Glyph) → in_class k g ≡ true → in_class class.Tag g ≡ true

name_stop : (b : ℕ) → is_ascii_alphanumeric b ≡ true → (b == 60 || (b == 62 || b == 10)) ≡ false
name_stop b e = grind (arith, nat_tests, e)

name_of_tags : IsOfTags class.Name
name_of_tags (glyph.Byte b) e = ap not (name_stop b e)
name_of_tags (glyph.Entity c) e = refl
name_of_tags glyph.Atom e = e
name_of_tags glyph.Mark e = refl

blank_stop : (b : ℕ) → is_blank b ≡ true → (b == 60 || (b == 62 || b == 10)) ≡ false
blank_stop b e = grind (arith, nat_tests, e)

blank_of_tags : IsOfTags class.Blank
blank_of_tags (glyph.Byte b) e = ap not (blank_stop b e)
blank_of_tags (glyph.Entity c) e = refl
blank_of_tags glyph.Atom e = e
blank_of_tags glyph.Mark e = refl

tag_of_tags : IsOfTags class.Tag
tag_of_tags g e = e

-- of a class of which each item passes a test
abbrev Passes : (Glyph → Bool) → GlyphClass → Type 0
Passes p k = (g : Glyph) → in_class k g ≡ true → p g ≡ true

-- a run of such a class ends before one that doesn't
run_ends : (p : Glyph → Bool) (k : GlyphClass) (gs : List Glyph) → Passes p k → has_other p gs ≡ true
    → (run_len k gs < length gs) × (has_other p (drop (run_len k gs) gs) ≡ true)
run_ends p k [] f e = cc
run_ends p k (g ∷ gs) f e = ends_by (in_class k g) refl (λ z. run_ends p k gs f z)
  where
    tail_other : in_class k g ≡ true → has_other p gs ≡ true
    tail_other i = ap (λ (v : Bool). not v || has_other p gs) (sym (f g i)) ∙ e

    ends_by : (v : Bool) → in_class k g ≡ v → (has_other p gs ≡ true → (run_len k gs < length gs) × (has_other p (drop (run_len k gs) gs) ≡ true))
        → (run_len k (g ∷ gs) < length (g ∷ gs)) × (has_other p (drop (run_len k (g ∷ gs)) (g ∷ gs)) ≡ true)
    ends_by true i h =
        let r = h (tail_other i) in
        let lt : run_len k gs < length gs = r.0 in
        let is : run_len k (g ∷ gs) ≡ suc (run_len k gs) = ap (λ (v : Bool). if v then 1 + run_len k gs else 0) i ∙ omega arith in
        (omega (arith, is, lt), ap (λ (n : ℕ). has_other p (drop n (g ∷ gs))) is ∙ r.1)
    ends_by false i h =
        let is : run_len k (g ∷ gs) ≡ 0 = ap (λ (v : Bool). if v then 1 + run_len k gs else 0) i in
        (omega (arith, is), ap (λ (n : ℕ). has_other p (drop n (g ∷ gs))) is ∙ e)

name_ends : (p : Glyph → Bool) (gs : List Glyph) → Passes p class.Name → has_other p gs ≡ true
    → (name_len gs < length gs) × (has_other p (drop (name_len gs) gs) ≡ true)
name_ends p gs f e = ends_by (first_is class.Letter gs)
  where
    some : (hs : List Glyph) → has_other p hs ≡ true → 0 < length hs
    some [] z = cc
    some (h ∷ hs) z = omega arith

    ends_by : (v : Bool) → ((if v then run_len class.Name gs else 0) < length gs) × (has_other p (drop (if v then run_len class.Name gs else 0) gs) ≡ true)
    ends_by true = run_ends p class.Name gs f e
    ends_by false = (some gs e, e)

-- ---- a tag that begins before it is the same whatever is read behind

abbrev tag_inside : List Glyph → Bool → List Glyph → Option Tag
tag_inside name ends inside = if ends && is_inside inside then tag_of (shape_of inside) (2 + length name + length inside) (name_of name) else None

after_same : (name us rest : List Glyph) → has_stop us ≡ true → tag_after name (us ++ rest) ≡ tag_after name us
unfolding tag_after
after_same name us rest e =
    let r : ℕ = run_len class.Tag us in
    let lt : r < length us = (run_ends (in_class class.Tag) class.Tag us tag_of_tags e).0 in
    let left : length (drop r us) ≡ length us - r = length-drop r us in
    ap (λ (i : ℕ). tag_inside name (first_is (class.Only 62) (drop i (us ++ rest))) (take i (us ++ rest))) (run_within class.Tag us rest lt)
    ∙ ap₂ (λ (v : Bool) (xs : List Glyph). tag_inside name v xs)
    (ap (first_is (class.Only 62)) (drop-append-le r us rest (omega (arith, lt))) ∙ first_stays (class.Only 62) (drop r us) rest (omega (arith, lt, left)))
    (take-append-le r us rest (omega (arith, lt)))

opening_same : (g : Glyph) (hs rest : List Glyph) → has_stop hs ≡ true → opening_tag (g ∷ (hs ++ rest)) ≡ opening_tag (g ∷ hs)
unfolding opening_tag
opening_same g hs rest e =
    let n : ℕ = name_len hs in
    let m = name_ends (in_class class.Tag) hs name_of_tags e in
    let lt : n < length hs = m.0 in
    let us : List Glyph = drop (1 + n) (g ∷ hs) in
    let z : 1 + n ≡ suc n = omega arith in
    let stop : has_stop us ≡ true = ap (λ (i : ℕ). has_stop (drop i (g ∷ hs))) z ∙ m.1 in
    ap (λ (i : ℕ). if in_class (class.Only 60) g && nat_lt 0 i then tag_after (take i (hs ++ rest)) (drop (1 + i) (g ∷ (hs ++ rest))) else None) (name_stays hs rest lt)
    ∙ ap (λ (o : Option Tag). if in_class (class.Only 60) g && nat_lt 0 n then o else None)
    (ap₂ (λ (xs ys : List Glyph). tag_after xs ys) (take-append-le n hs rest (omega (arith, lt))) (drop-append-le (1 + n) (g ∷ hs) rest (omega (arith, lt)))
    ∙ after_same (take n hs) us rest stop)

abbrev closing_by : Bool → ℕ → ℕ → List Glyph → Bool → Option Tag
closing_by first n k name ends = if first && (nat_lt 0 n && ends) then tag_of Closing (3 + n + k) (name_of name) else None

closing_same : (p : Glyph → Bool) (a b : Glyph) (hs rest : List Glyph) → Passes p class.Name → Passes p class.Blank → has_other p hs ≡ true
    → closing_tag (a ∷ b ∷ (hs ++ rest)) ≡ closing_tag (a ∷ b ∷ hs)
unfolding closing_tag
closing_same p a b hs rest names spaces e =
    let gs : List Glyph = a ∷ b ∷ hs in
    let all : List Glyph = a ∷ b ∷ (hs ++ rest) in
    let n : ℕ = name_len hs in
    let m = name_ends p hs names e in
    let lt : n < length hs = m.0 in
    let z : 2 + n ≡ suc (suc n) = omega arith in
    let us : List Glyph = drop (2 + n) gs in
    let stop : has_other p us ≡ true = ap (λ (i : ℕ). has_other p (drop i gs)) z ∙ m.1 in
    let k : ℕ = run_len class.Blank us in
    let r = run_ends p class.Blank us spaces stop in
    let short : k < length us = r.0 in
    let left : length us ≡ length gs - (2 + n) = length-drop (2 + n) gs in
    let end : length (drop (2 + n + k) gs) ≡ length gs - (2 + n + k) = length-drop (2 + n + k) gs in
    let first : Bool = begins (codes "</") gs in
    let blanks : run_len class.Blank (drop (2 + n) all) ≡ k =
    ap (run_len class.Blank) (drop-append-le (2 + n) gs rest (omega (arith, lt))) ∙ run_within class.Blank us rest short in
    ap (λ (i : ℕ). closing_by first i (run_len class.Blank (drop (2 + i) all)) (take i (hs ++ rest)) (first_is (class.Only 62) (drop (2 + i + run_len class.Blank (drop (2 + i) all)) all)))
    (name_stays hs rest lt)
    ∙ ap (λ (j : ℕ). closing_by first n j (take n (hs ++ rest)) (first_is (class.Only 62) (drop (2 + n + j) all))) blanks
    ∙ ap₂ (λ (xs : List Glyph) (v : Bool). closing_by first n k xs v) (take-append-le n hs rest (omega (arith, lt)))
    (ap (first_is (class.Only 62)) (drop-append-le (2 + n + k) gs rest (omega (arith, short, left, lt)))
    ∙ first_stays (class.Only 62) (drop (2 + n + k) gs) rest (omega (arith, short, left, end, lt)))

-- where the second item is no `/`
no_slash : (a b : Glyph) (hs : List Glyph) → in_class (class.Only 47) b ≡ false → closing_tag (a ∷ b ∷ hs) ≡ None
unfolding closing_tag
no_slash a b hs e = none_by (is_in (λ (c : ℕ). c == 60) a) (is_in (λ (c : ℕ). c == 47) b) refl
  where
    none_by : (u v : Bool) → is_in (λ (c : ℕ). c == 47) b ≡ v
        → (if (u && (v && true)) && (nat_lt 0 (name_len hs) && first_is (class.Only 62) (drop (2 + name_len hs + run_len class.Blank (drop (2 + name_len hs) (a ∷ b ∷ hs))) (a ∷ b ∷ hs)))
        then tag_of Closing (3 + name_len hs + run_len class.Blank (drop (2 + name_len hs) (a ∷ b ∷ hs))) (name_of (take (name_len hs) hs)) else None) ≡ None
    none_by false v i = refl
    none_by true false i = refl
    none_by true true i = let no : true ≡ false = sym i ∙ e in cc

stop_slash : (g : Glyph) → in_class class.Tag g ≡ false → in_class (class.Only 47) g ≡ false
stop_slash (glyph.Byte b) e = slash_by (b == 47) refl
  where
    slash_by : (v : Bool) → (b == 47) ≡ v → v ≡ false
    slash_by true i = absurd (grind (arith, nat_tests, i, e))
    slash_by false i = refl
stop_slash (glyph.Entity c) e = refl
stop_slash glyph.Atom e = refl
stop_slash glyph.Mark e = refl

closing_here : (a b : Glyph) (hs rest : List Glyph) → (not (in_class class.Tag b) || has_stop hs) ≡ true → closing_tag (a ∷ b ∷ (hs ++ rest)) ≡ closing_tag (a ∷ b ∷ hs)
closing_here a b hs rest e = here_by (in_class class.Tag b) refl e
  where
    here_by : (v : Bool) → in_class class.Tag b ≡ v → (not v || has_stop hs) ≡ true → closing_tag (a ∷ b ∷ (hs ++ rest)) ≡ closing_tag (a ∷ b ∷ hs)
    here_by false i z = no_slash a b (hs ++ rest) (stop_slash b i) ∙ sym (no_slash a b hs (stop_slash b i))
    here_by true i z = closing_same (in_class class.Tag) a b hs rest name_of_tags blank_of_tags z

stop_same : (g : Glyph) (hs rest : List Glyph) → has_stop hs ≡ true → tag_at (g ∷ (hs ++ rest)) ≡ tag_at (g ∷ hs)
unfolding tag_at
stop_same g [] rest e = cc
stop_same g (h ∷ hs) rest e = ap₂ (λ (a b : Option Tag). option_or a b) (opening_same g (h ∷ hs) rest e) (closing_here g h hs rest e)

pub tag_same : (g : Glyph) (hs rest : List Glyph) → has_less hs ≡ true → tag_at (g ∷ (hs ++ rest)) ≡ tag_at (g ∷ hs)
tag_same g hs rest e = stop_same g hs rest (less_stops hs e)

-- neither a letter nor a `/` is behind its first item
no_tag_at : (g h : Glyph) (hs : List Glyph) → in_class class.Letter h ≡ false → in_class (class.Only 47) h ≡ false → tag_at (g ∷ h ∷ hs) ≡ None
unfolding tag_at
no_tag_at g h hs e f = ap₂ (λ (a b : Option Tag). option_or a b) (no_opening g h hs e) (no_slash g h hs f)

-- ---- a tag that may go on

-- in a closing tag, behind its `/`
abbrev pub is_closing_glyph : Glyph → Bool
is_closing_glyph g = in_class class.Name g || in_class class.Blank g

names_close : Passes is_closing_glyph class.Name
names_close g e = ap (λ (v : Bool). v || in_class class.Blank g) e

blanks_close : Passes is_closing_glyph class.Blank
blanks_close g e = or_right (in_class class.Name g) (in_class class.Blank g) e

-- Behind a `<`: nothing, or what may be the rest of a tag, that of an opening one that isn't ended, or a `/`, a name and blanks.
abbrev pub may_go_on : List Glyph → Bool
may_go_on [] = true
may_go_on (g ∷ gs) = (in_class class.Letter g && not (has_stop (g ∷ gs))) || (in_class (class.Only 47) g && not (has_other is_closing_glyph gs))

-- such a tag may go on behind these
abbrev pub tag_goes_on : List Glyph → Bool
tag_goes_on [] = false
tag_goes_on (g ∷ gs) = (in_class (class.Only 60) g && may_go_on gs) || tag_goes_on gs

closing_whole : (g h : Glyph) (hs rest : List Glyph) → in_class class.Letter h ≡ false → has_other is_closing_glyph hs ≡ true
    → tag_at (g ∷ h ∷ (hs ++ rest)) ≡ tag_at (g ∷ h ∷ hs)
unfolding tag_at
closing_whole g h hs rest e f =
    ap₂ (λ (a b : Option Tag). option_or a b) (no_opening g h (hs ++ rest) e ∙ sym (no_opening g h hs e))
    (closing_same is_closing_glyph g h hs rest names_close blanks_close f)

-- nothing behind it makes it another one
pub tag_whole : (g : Glyph) (hs rest : List Glyph) → may_go_on hs ≡ false → tag_at (g ∷ (hs ++ rest)) ≡ tag_at (g ∷ hs)
tag_whole g [] rest e = cc
tag_whole g (h ∷ hs) rest e =
    whole_by (in_class class.Letter h) (in_class (class.Only 47) h) (has_stop (h ∷ hs)) (has_other is_closing_glyph hs) refl refl refl refl e
  where
    whole_by : (u v w x : Bool) → in_class class.Letter h ≡ u → in_class (class.Only 47) h ≡ v → has_stop (h ∷ hs) ≡ w → has_other is_closing_glyph hs ≡ x
        → ((u && not w) || (v && not x)) ≡ false → tag_at (g ∷ h ∷ (hs ++ rest)) ≡ tag_at (g ∷ h ∷ hs)
    whole_by u v true x i j k l z = stop_same g (h ∷ hs) rest k
    whole_by true v false x i j k l z = cc
    whole_by false false false x i j k l z = no_tag_at g h (hs ++ rest) i j ∙ sym (no_tag_at g h hs i j)
    whole_by false true false true i j k l z = closing_whole g h hs rest i l
    whole_by false true false false i j k l z = cc

-- ---- the closing tag that balances

or_left : (a b : Bool) → a ≡ true → (a || b) ≡ true
or_left true b e = refl
or_left false b e = cc

-- a tag begins with `<`
pub less_begins : (g : Glyph) (gs : List Glyph) (t : Tag) → tag_at (g ∷ gs) ≡ Some t → in_class (class.Only 60) g ≡ true
less_begins g gs t e = begins_by (in_class (class.Only 60) g) refl
  where
    begins_by : (v : Bool) → in_class (class.Only 60) g ≡ v → in_class (class.Only 60) g ≡ true
    begins_by true i = i
    begins_by false i = let none : None ≡ Some t = sym (no_tag (g ∷ gs) i) ∙ e in cc

-- what is found begins with one
found_less : (k : ℕ) (o : Option Tag) (d : ℕ) (g : Glyph) (gs ys : List Glyph) → tag_at (g ∷ gs) ≡ o
    → ((e : ℕ) → partner k e gs ≡ Some ys → has_less gs ≡ true) → by_tag (turn_of_tag k o) d (g ∷ gs) (λ e. partner k e gs) ≡ Some ys → has_less (g ∷ gs) ≡ true
found_less k (Some t) d g gs ys i f e = or_left (in_class (class.Only 60) g) (has_less gs) (less_begins g gs t i)
found_less k None d g gs ys i f e = or_right (in_class (class.Only 60) g) (has_less gs) (f d e)

pub partner_less : (k d : ℕ) (gs ys : List Glyph) → partner k d gs ≡ Some ys → has_less gs ≡ true
partner_less k d [] ys e = cc
partner_less k d (g ∷ gs) ys e = found_less k (tag_at (g ∷ gs)) d g gs ys refl (λ c z. partner_less k c gs ys z) e

or_empty : Option (List Glyph) → List Glyph
or_empty None = []
or_empty (Some gs) = gs

pub same_list : (us vs : List Glyph) → Some us ≡ Some vs → us ≡ vs
unfolding or_empty
same_list us vs e = ap or_empty e

by_turn : (k : ℕ) (t : DepthChange) (d : ℕ) (gs us rest ys : List Glyph)
    → ((e : ℕ) → partner k e us ≡ Some ys → partner k e (us ++ rest) ≡ Some (ys ++ rest))
    → by_tag t d gs (λ e. partner k e us) ≡ Some ys → by_tag t d (gs ++ rest) (λ e. partner k e (us ++ rest)) ≡ Some (ys ++ rest)
by_turn k Up d gs us rest ys f e = f (suc d) e
by_turn k Level d gs us rest ys f e = f d e
by_turn k Down zero gs us rest ys f e = ap (λ vs. Some (vs ++ rest)) (same_list gs ys e)
by_turn k Down (suc d) gs us rest ys f e = f d e

tag_here : (k d : ℕ) (g : Glyph) (gs rest ys : List Glyph) (o : Option Tag) → tag_at (g ∷ gs) ≡ o → by_tag (turn_of_tag k o) d (g ∷ gs) (λ e. partner k e gs) ≡ Some ys
    → tag_at (g ∷ (gs ++ rest)) ≡ o
tag_here k d g gs rest ys (Some t) i e = tag_stays (g ∷ gs) rest t i
tag_here k d g gs rest ys None i e = tag_same g gs rest (partner_less k d gs ys e) ∙ i

pub partner_stays : (k d : ℕ) (gs rest ys : List Glyph) → partner k d gs ≡ Some ys → partner k d (gs ++ rest) ≡ Some (ys ++ rest)
partner_stays k d [] rest ys e = cc
partner_stays k d (g ∷ gs) rest ys e =
    ap (λ (o : Option Tag). by_tag (turn_of_tag k o) d (g ∷ (gs ++ rest)) (λ c. partner k c (gs ++ rest))) (tag_here k d g gs rest ys (tag_at (g ∷ gs)) refl e)
    ∙ by_turn k (tag_turn k (g ∷ gs)) d (g ∷ gs) gs rest ys (λ c z. partner_stays k c gs rest ys z) e

-- ---- and the other way round

short_by : (k : ℕ) (t : DepthChange) (d : ℕ) (g : Glyph) (gs ys : List Glyph) → ((e : ℕ) → partner k e gs ≡ Some ys → length ys ≤ length gs)
    → by_tag t d (g ∷ gs) (λ e. partner k e gs) ≡ Some ys → length ys ≤ suc (length gs)
short_by k Up d g gs ys f e = let le = f (suc d) e in omega (arith, le)
short_by k Level d g gs ys f e = let le = f d e in omega (arith, le)
short_by k Down zero g gs ys f e = let is : length (g ∷ gs) ≡ length ys = ap length (same_list (g ∷ gs) ys e) in omega (arith, is)
short_by k Down (suc d) g gs ys f e = let le = f d e in omega (arith, le)

pub partner_short : (k d : ℕ) (gs ys : List Glyph) → partner k d gs ≡ Some ys → length ys ≤ length gs
partner_short k d [] ys e = cc
partner_short k d (g ∷ gs) ys e = short_by k (tag_turn k (g ∷ gs)) d g gs ys (λ c z. partner_short k c gs ys z) e

-- found in the front, before the rest
abbrev pub EndsIn : ℕ → ℕ → List Glyph → List Glyph → List Glyph → Type 0
EndsIn k d gs rest ys = (zs : List Glyph) × (partner k d gs ≡ Some zs) × (ys ≡ zs ++ rest)

-- it goes on after the first item
goes_on : (k d e : ℕ) (t : DepthChange) (g : Glyph) (gs rest ys : List Glyph) → tag_turn k (g ∷ (gs ++ rest)) ≡ t
    → ((us : List Glyph) → by_tag t d us (λ c. partner k c gs) ≡ partner k e gs) → EndsIn k e gs rest ys → EndsIn k d (g ∷ gs) rest ys
goes_on k d e t g gs rest ys i f r =
    let same : tag_at (g ∷ (gs ++ rest)) ≡ tag_at (g ∷ gs) = tag_same g gs rest (partner_less k e gs r.0 r.1) in
    let turn : tag_turn k (g ∷ gs) ≡ t = ap (turn_of_tag k) (sym same) ∙ i in
    (r.0, ap (λ (u : DepthChange). by_tag u d (g ∷ gs) (λ c. partner k c gs)) turn ∙ f (g ∷ gs) ∙ r.1, r.2)

found_here : (k : ℕ) (g : Glyph) (gs rest ys : List Glyph) (c : Tag) → tag_turn k (g ∷ (gs ++ rest)) ≡ Down → g ∷ (gs ++ rest) ≡ ys → tag_at ys ≡ Some c
    → c.len + length rest ≡ length ys → EndsIn k 0 (g ∷ gs) rest ys
found_here k g gs rest ys c i e tag fits =
    let all : length (g ∷ gs ++ rest) ≡ length (g ∷ gs) + length rest = length-append (g ∷ gs) rest in
    let is : length (g ∷ gs ++ rest) ≡ length ys = ap length e in
    let own : tag_at (g ∷ gs) ≡ Some c = tag_front (g ∷ gs) rest c (omega (arith, all, is, fits)) (ap tag_at e ∙ tag) in
    let turn : tag_turn k (g ∷ gs) ≡ Down = ap (turn_of_tag k) (own ∙ sym (ap tag_at e ∙ tag)) ∙ i in
    (g ∷ gs, ap (λ (u : DepthChange). by_tag u 0 (g ∷ gs) (λ c. partner k c gs)) turn, sym e)

front_turn : (k d : ℕ) (t : DepthChange) (g : Glyph) (gs rest ys : List Glyph) (c : Tag) → tag_turn k (g ∷ (gs ++ rest)) ≡ t → tag_at ys ≡ Some c
    → c.len + length rest ≡ length ys → ((e : ℕ) → partner k e (gs ++ rest) ≡ Some ys → EndsIn k e gs rest ys)
    → by_tag t d (g ∷ (gs ++ rest)) (λ e. partner k e (gs ++ rest)) ≡ Some ys → EndsIn k d (g ∷ gs) rest ys
front_turn k d Up g gs rest ys c i tag fits f e = goes_on k d (suc d) Up g gs rest ys i (λ us. refl) (f (suc d) e)
front_turn k d Level g gs rest ys c i tag fits f e = goes_on k d d Level g gs rest ys i (λ us. refl) (f d e)
front_turn k zero Down g gs rest ys c i tag fits f e = found_here k g gs rest ys c i (same_list (g ∷ (gs ++ rest)) ys e) tag fits
front_turn k (suc d) Down g gs rest ys c i tag fits f e = goes_on k (suc d) d Down g gs rest ys i (λ us. refl) (f d e)

-- the closing tag ends where the front does
pub partner_front : (k d : ℕ) (gs rest ys : List Glyph) (c : Tag) → tag_at ys ≡ Some c → 0 < c.len → c.len + length rest ≡ length ys
    → partner k d (gs ++ rest) ≡ Some ys → EndsIn k d gs rest ys
partner_front k d [] rest ys c tag some fits e = let le = partner_short k d rest ys e in absurd (omega (arith, le, some, fits))
partner_front k d (g ∷ gs) rest ys c tag some fits e =
    front_turn k d (tag_turn k (g ∷ (gs ++ rest))) g gs rest ys c refl tag fits (λ b z. partner_front k b gs rest ys c tag some fits z) e

-- ---- the closing tag itself

-- it is a tag
abbrev pub HasTag : Option Tag → Type 0
HasTag None = ⊥
HasTag (Some t) = Unit {0}

level_none : (k : ℕ) (o : Option Tag) → turn_of_tag k o ≡ Down → HasTag o
level_none k None e = cc
level_none k (Some t) e = tt

tag_by : (k : ℕ) (t : DepthChange) (d : ℕ) (g : Glyph) (gs ys : List Glyph) → tag_turn k (g ∷ gs) ≡ t → ((e : ℕ) → partner k e gs ≡ Some ys → HasTag (tag_at ys))
    → by_tag t d (g ∷ gs) (λ e. partner k e gs) ≡ Some ys → HasTag (tag_at ys)
tag_by k Up d g gs ys i f e = f (suc d) e
tag_by k Level d g gs ys i f e = f d e
tag_by k Down zero g gs ys i f e = subst (λ us. HasTag (tag_at us)) (same_list (g ∷ gs) ys e) (level_none k (tag_at (g ∷ gs)) i)
tag_by k Down (suc d) g gs ys i f e = f d e

pub partner_tag : (k d : ℕ) (gs ys : List Glyph) → partner k d gs ≡ Some ys → HasTag (tag_at ys)
partner_tag k d [] ys e = cc
partner_tag k d (g ∷ gs) ys e = tag_by k (tag_turn k (g ∷ gs)) d g gs ys refl (λ c z. partner_tag k c gs ys z) e

pub closing_stays : (o : Option Tag) (gs rest : List Glyph) → tag_at gs ≡ o → HasTag (tag_at gs) → tag_at (gs ++ rest) ≡ tag_at gs
closing_stays None gs rest e h = absurd (subst HasTag e h)
closing_stays (Some t) gs rest e h = tag_stays gs rest t e ∙ sym e
