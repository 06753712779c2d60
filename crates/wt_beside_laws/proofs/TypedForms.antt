-- At a character of text that is typed no form begins: no tag, no switch, no link and no URL.
use Rattle.std.proofs.Common.{arith, ◌≡◌, ℕ, ◌<◌, ◌≤◌, ◌==◌, Bool, true, false, None, List, [], ◌∷◌, ◌++◌, length, map, refl, sym, ap, ◌∙◌, subst, inl, inr, All}
use Rattle.std.specs.Prelude.{◌&&◌, ◌||◌, not, codes, encode_utf8}
use Rattle.std.specs.Char.{is_ascii_alphabetic}
use Rattle.std.proofs.lemmas.Bool.{cases_lt}
use Rattle.std.proofs.lemmas.Bool.Decides.{nat_tests, Decides-eqb}
use Rattle.std.proofs.lemmas.List.Elements.{All-head}
use Rattle.std.proofs.lemmas.Str.{encode_ascii}
use Rattle.wt_names.proofs.Ascii.{IsWide, encode_wide, encode_some}
use Rattle.wt_guards.specs.Content.{ContentSign, letter, thing, nearest}
use Rattle.wt_guards.specs.Letters.{is_bracket, is_escaped, opens_tag}
use Rattle.wt_guards.specs.Guards.{Setting, is_guarded}
use Rattle.wt_typed_blocks.proofs.TextReads.{bracket_escaped, not_bracket, equal_or, or_parts}
use Rattle.wt_tiles.specs.declared.context.Context.{Context}
use Rattle.wt_tiles.specs.declared.glyph.Glyph.{Glyph}
use Rattle.wt_tiles.specs.declared.glyph.Glyph.TheVariants as glyph
use Rattle.wt_tiles.specs.declared.glyph.GlyphClass.TheVariants as class
use Rattle.wt_tiles.specs.Glyphs.{glyph_of, byte_glyphs, is_in, in_class, begins}
use Rattle.wt_tiles.specs.Links.{link_at}
use Rattle.wt_tiles.specs.Tags.{opening_tag, closing_tag, tag_at}
use Rattle.wt_tiles.specs.Tiles.{outside, link_or_url, tag_tile, switch_names, switch_at, form_at}
use Rattle.wt_tiles.specs.Urls.{scheme_len, url_items, ext_link_at, kept_len, bare_url_of, bare_url_at}
use Rattle.wt_beside_laws.specs.Beginnings.{is_lone_underscore, AvoidsSwitches, AllAvoidSwitches, IsApart}
use Rattle.wt_beside_laws.specs.Glyphs.{guard_glyphs, letter_glyphs, content_glyphs, AllAvoid}
use Rattle.wt_beside_laws.proofs.TypedTiles.{scheme_none}
use Rattle.wt_beside_laws.specs.NodeItems.{node_items}

-- ---- the first item of what follows

abbrev pub FirstFits : (Glyph → Type 0) → List Glyph → Type 0
FirstFits P [] = Unit {0}
FirstFits P (g ∷ gs) = P g

wide_fits : (P : Glyph → Type 0) (bs : List ℕ) (more : List Glyph) → All IsWide bs → 0 < length bs → ((b : ℕ) → 128 ≤ b → P (glyph.Byte b))
    → FirstFits P (byte_glyphs bs ++ more)
wide_fits P [] more h some w = absurd (omega (arith, some))
wide_fits P (b ∷ bs) more h some w = w b (All-head IsWide b bs h)

pub letter_fits : (P : Glyph → Type 0) (e : Bool) (d : ℕ) (more : List Glyph) → P (glyph.Entity d) → (e ≡ false → P (glyph.Byte d))
    → ((b : ℕ) → 128 ≤ b → P (glyph.Byte b)) → FirstFits P (letter_glyphs e d ++ more)
letter_fits P true d more h p w = h
letter_fits P false d more h p w = elim (cases_lt d 128) [
  | inl small ↦ subst (λ bs. FirstFits P (byte_glyphs bs ++ more)) (sym (encode_ascii d small)) (p refl)
  | inr wide ↦ wide_fits P (encode_utf8 d) more (encode_wide d wide) (encode_some d) w
]

pub guard_fits : (P : Glyph → Type 0) (u : Bool) (more : List Glyph) → P glyph.Atom → FirstFits P more → FirstFits P (guard_glyphs u ++ more)
guard_fits P true more h f = h
guard_fits P false more h f = f

-- ---- tags

-- no letter and no `/`
abbrev pub IsNoName : Glyph → Type 0
IsNoName g = (in_class class.Letter g ≡ false) × (is_in (λ (b : ℕ). b == 47) g ≡ false)

pub wide_no_name : (b : ℕ) → 128 ≤ b → IsNoName (glyph.Byte b)
wide_no_name b le = (grind (arith, nat_tests), grind (arith, nat_tests))

pub less_next : (s : Setting) (before after : List ContentSign) → is_escaped s.within s.place before 60 after ≡ false → opens_tag (nearest after) ≡ false
unfolding is_escaped
less_next s before after e = e

less_fits : (s : Setting) (before after : List ContentSign) (rest : List Glyph) → opens_tag (nearest after) ≡ false
    → FirstFits IsNoName (content_glyphs s (letter 60 ∷ before) after rest)
less_fits s before [] rest e = cc
less_fits s before (thing t ∷ after) rest e = cc
less_fits s before (letter d ∷ after) rest e =
    let own = or_parts (is_ascii_alphabetic d) (d == 47 || d == 33) e in
    let no = or_parts (d == 47) (d == 33) own.1 in
    let t = is_escaped s.within s.place (letter 60 ∷ before) d after in
    let more : List Glyph = content_glyphs s (letter d ∷ letter 60 ∷ before) after rest in
    guard_fits IsNoName (is_guarded s (letter 60 ∷ before) (letter d ∷ after)) (letter_glyphs t d ++ more) (refl, refl)
    (letter_fits IsNoName t d more (refl, refl) (λ z. (own.0, no.0)) wide_no_name)

pub less_none : (gs : List Glyph) → FirstFits IsNoName gs → tag_at (glyph.Byte 60 ∷ gs) ≡ None
unfolding tag_at opening_tag closing_tag
less_none [] h = refl
less_none (g ∷ gs) h = rw (h.0, h.1) refl

pub tag_other : (b : ℕ) (gs : List Glyph) → (b == 60) ≡ false → tag_at (glyph.Byte b ∷ gs) ≡ None
unfolding tag_at opening_tag closing_tag
tag_other b gs e = rw e refl

pub tag_none : (s : Setting) (before : List ContentSign) (c : ℕ) (after : List ContentSign) (rest : List Glyph) → is_escaped s.within s.place before c after ≡ false
    → tag_at (glyph.Byte c ∷ content_glyphs s (letter c ∷ before) after rest) ≡ None
tag_none s before c after rest e =
    let P : ℕ → Type 0 = λ (k : ℕ). is_escaped s.within s.place before k after ≡ false → tag_at (glyph.Byte k ∷ content_glyphs s (letter k ∷ before) after rest) ≡ None in
    elim (equal_or c 60) [
      | inl i ↦ subst P (sym i)
          (λ h. less_none (content_glyphs s (letter 60 ∷ before) after rest) (less_fits s before after rest (less_next s before after h))) e
      | inr n ↦ tag_other c (content_glyphs s (letter c ∷ before) after rest) n
    ]

-- ---- switches

abbrev pub IsNoUnderscore : Glyph → Type 0
IsNoUnderscore g = is_in (λ (b : ℕ). b == 95) g ≡ false

pub wide_no_underscore : (b : ℕ) → 128 ≤ b → IsNoUnderscore (glyph.Byte b)
wide_no_underscore b le = grind (arith, nat_tests)

pub fits_alone : (gs : List Glyph) → FirstFits IsNoUnderscore gs → is_lone_underscore gs ≡ false
fits_alone [] h = refl
fits_alone (g ∷ gs) h = rw h refl

both_underscores : (s : Setting) (before after : List ContentSign) → is_escaped s.within s.place (letter 95 ∷ before) 95 after ≡ false → true ≡ false
unfolding is_escaped
both_underscores s before after e = e

pub second_underscore : (s : Setting) (before : List ContentSign) (d : ℕ) (after : List ContentSign)
    → is_escaped s.within s.place (letter 95 ∷ before) d after ≡ false → (d == 95) ≡ false
second_underscore s before d after e = elim (equal_or d 95) [
  | inl i ↦
      let no : true ≡ false = both_underscores s before after (subst (λ (k : ℕ). is_escaped s.within s.place (letter 95 ∷ before) k after ≡ false) i e) in
      cc
  | inr n ↦ n
]

one_first : (g : Glyph) (more : List Glyph) → begins (codes "_") (g ∷ []) ≡ false → is_lone_underscore (g ∷ more) ≡ false
one_first g more e = by (is_in (λ (b : ℕ). b == 95) g) refl
  where
    by : (v : Bool) → is_in (λ (b : ℕ). b == 95) g ≡ v → is_lone_underscore (g ∷ more) ≡ false
    by true f = let no : true ≡ false = sym (ap (λ (v : Bool). v && true) f) ∙ e in cc
    by false f = rw f refl

pub thing_alone : (own more : List Glyph) → AvoidsSwitches own → is_lone_underscore (own ++ more) ≡ false
thing_alone [] more h = absurd h
thing_alone (g ∷ []) more h = one_first g more h
thing_alone (g ∷ h ∷ gs) more e = e

pub guard_alone : (u : Bool) (more : List Glyph) → is_lone_underscore more ≡ false → is_lone_underscore (guard_glyphs u ++ more) ≡ false
guard_alone true more h = refl
guard_alone false more h = h

-- behind a `_` that is typed
behind_underscore : (s : Setting) (before after : List ContentSign) (rest : List Glyph) → AllAvoidSwitches after → is_lone_underscore rest ≡ false
    → is_lone_underscore (content_glyphs s (letter 95 ∷ before) after rest) ≡ false
behind_underscore s before [] rest h e = guard_alone (is_guarded s (letter 95 ∷ before) []) rest e
behind_underscore s before (thing t ∷ after) rest h e =
    let own : List Glyph = map glyph_of (node_items t.source) in
    let more : List Glyph = content_glyphs s (thing t ∷ letter 95 ∷ before) after rest in
    guard_alone (is_guarded s (letter 95 ∷ before) (thing t ∷ after)) (own ++ more) (thing_alone own more h.0)
behind_underscore s before (letter d ∷ after) rest h e =
    let t = is_escaped s.within s.place (letter 95 ∷ before) d after in
    let more : List Glyph = content_glyphs s (letter d ∷ letter 95 ∷ before) after rest in
    guard_alone (is_guarded s (letter 95 ∷ before) (letter d ∷ after)) (letter_glyphs t d ++ more)
    (fits_alone (letter_glyphs t d ++ more)
    (letter_fits IsNoUnderscore t d more refl (λ z. second_underscore s before d after z) wide_no_underscore))

three_underscores : (gs : List Glyph) → switch_at (glyph.Byte 95 ∷ glyph.Byte 95 ∷ glyph.Byte 95 ∷ gs) ≡ None
unfolding switch_at switch_names
three_underscores gs = refl

pub switch_other : (b : ℕ) (gs : List Glyph) → (b == 95) ≡ false → switch_at (glyph.Byte b ∷ gs) ≡ None
unfolding switch_at
switch_other b gs e = rw e refl

pub one_underscore : (g : Glyph) (gs : List Glyph) → is_in (λ (b : ℕ). b == 95) g ≡ false → switch_at (glyph.Byte 95 ∷ g ∷ gs) ≡ None
unfolding switch_at
one_underscore g gs e = rw e refl

is_underscore : (g : Glyph) → is_in (λ (b : ℕ). b == 95) g ≡ true → g ≡ glyph.Byte 95
is_underscore (glyph.Byte b) e = ap (λ (k : ℕ). glyph.Byte k) ((Decides-eqb b 95).0 e)
is_underscore (glyph.Entity c) e = cc
is_underscore glyph.Atom e = cc
is_underscore glyph.Mark e = cc

two_alone : (u v : Bool) → u ≡ true → ((u && true) && not (u && (v && true))) ≡ false → v ≡ true
two_alone true true f e = refl
two_alone true false f e = cc
two_alone false v f e = cc

pub underscore_none : (gs : List Glyph) → is_lone_underscore gs ≡ false → switch_at (glyph.Byte 95 ∷ gs) ≡ None
unfolding switch_at
underscore_none [] e = refl
underscore_none (g ∷ []) e = by (is_in (λ (b : ℕ). b == 95) g) refl
  where
    by : (v : Bool) → is_in (λ (b : ℕ). b == 95) g ≡ v → switch_at (glyph.Byte 95 ∷ g ∷ []) ≡ None
    by true f = let no : true ≡ false = sym (ap (λ (v : Bool). (v && true) && not (v && false)) f) ∙ e in cc
    by false f = one_underscore g [] f
underscore_none (g ∷ h ∷ gs) e = by (is_in (λ (b : ℕ). b == 95) g) refl
  where
    by : (v : Bool) → is_in (λ (b : ℕ). b == 95) g ≡ v → switch_at (glyph.Byte 95 ∷ g ∷ h ∷ gs) ≡ None
    by true f =
        let other : h ≡ glyph.Byte 95 = is_underscore h (two_alone (is_in (λ (b : ℕ). b == 95) g) (is_in (λ (b : ℕ). b == 95) h) f e) in
        subst (λ x. switch_at (glyph.Byte 95 ∷ x ∷ h ∷ gs) ≡ None) (sym (is_underscore g f))
        (subst (λ x. switch_at (glyph.Byte 95 ∷ glyph.Byte 95 ∷ x ∷ gs) ≡ None) (sym other) (three_underscores gs))
    by false f = one_underscore g (h ∷ gs) f

pub switch_none : (s : Setting) (before : List ContentSign) (c : ℕ) (after : List ContentSign) (rest : List Glyph) → AllAvoidSwitches after
    → is_lone_underscore rest ≡ false → switch_at (glyph.Byte c ∷ content_glyphs s (letter c ∷ before) after rest) ≡ None
switch_none s before c after rest h e =
    let P : ℕ → Type 0 = λ (k : ℕ). switch_at (glyph.Byte k ∷ content_glyphs s (letter k ∷ before) after rest) ≡ None in
    elim (equal_or c 95) [
      | inl i ↦ subst P (sym i) (underscore_none (content_glyphs s (letter 95 ∷ before) after rest) (behind_underscore s before after rest h e))
      | inr n ↦ switch_other c (content_glyphs s (letter c ∷ before) after rest) n
    ]

-- ---- links and URLs

pub link_none : (b : ℕ) (gs : List Glyph) → (b == 91) ≡ false → link_at (glyph.Byte b ∷ gs) ≡ None
unfolding link_at
link_none b gs e = rw e refl

pub external_none : (b : ℕ) (gs : List Glyph) → (b == 91) ≡ false → ext_link_at (glyph.Byte b ∷ gs) ≡ None
unfolding ext_link_at
external_none b gs e = rw e refl

pub bare_none : (a : Bool) (gs : List Glyph) → scheme_len gs ≡ 0 → bare_url_at a gs ≡ None
unfolding bare_url_at
bare_none true gs e = refl
bare_none false gs e = ap (λ (n : ℕ). bare_url_of n (kept_len (url_items gs))) e

-- ---- all forms

pub all_none : (cx : Context) (a : Bool) (gs : List Glyph) → link_at gs ≡ None → ext_link_at gs ≡ None → bare_url_at a gs ≡ None → tag_at gs ≡ None
    → switch_at gs ≡ None → form_at cx a gs ≡ None
unfolding form_at link_or_url tag_tile
all_none cx a gs l x b t s = rw (l, x, b, t, s, either cx.in_link) refl
  where
    either : (u : Bool) → outside u None ≡ None
    either true = refl
    either false = refl

pub typed_none : (cx : Context) (a : Bool) (s : Setting) (before : List ContentSign) (c : ℕ) (after : List ContentSign) (rest : List Glyph)
    → is_escaped s.within s.place before c after ≡ false → AllAvoid after → AllAvoidSwitches after → IsApart rest
    → form_at cx a (glyph.Byte c ∷ content_glyphs s (letter c ∷ before) after rest) ≡ None
typed_none cx a s before c after rest e urls switches apart =
    let gs : List Glyph = content_glyphs s (letter c ∷ before) after rest in
    let b = not_bracket (is_bracket c) (is_escaped s.within s.place before c after) (bracket_escaped s.within s.place before c after) e in
    let bracket = or_parts (c == 91) _ b in
    all_none cx a (glyph.Byte c ∷ gs) (link_none c gs bracket.0) (external_none c gs bracket.0)
    (bare_none a (glyph.Byte c ∷ gs) (scheme_none s (letter c ∷ before) after rest (glyph.Byte c) urls apart.urls))
    (tag_none s before c after rest e) (switch_none s before c after rest switches apart.switches)
