-- The tiles of a line of texts, of what calls give and of nodes that stay.
use Rattle.std.proofs.Common.{◌≡◌, inl, inr, ℕ, ◌==◌, Bool, true, false, not, None, List, [], ◌∷◌, ◌++◌, map, sym, ap, refl, ◌∙◌, subst}
use Rattle.std.specs.Prelude.{◌&&◌, ◌||◌, codes, if◌then◌else◌}
use Rattle.std.specs.Char.{is_ascii_alphabetic}
use Rattle.wt_span.specs.Items.{Item}
use Rattle.wt_guards.specs.Content.{ContentSign, Thing, letter, thing, nearest}
use Rattle.wt_guards.specs.Guards.{Setting, is_guarded}
use Rattle.wt_guards.specs.Letters.{is_bracket, is_next, are_slashes, opens_tag, is_escaped}
use Rattle.wt_typed_blocks.proofs.TextReads.{bracket_escaped, not_bracket, equal_or, or_parts}
use Rattle.wt_tiles.specs.declared.glyph.Glyph.{Glyph}
use Rattle.wt_tiles.specs.declared.glyph.Glyph.TheVariants as glyph
use Rattle.wt_tiles.specs.Contexts.{in_line}
use Rattle.wt_tiles.specs.Glyphs.{glyph_of, begins_like}
use Rattle.wt_tiles.specs.Tags.{tag_at}
use Rattle.wt_tiles.specs.Tiles.{Cut, form_at, cuts, switch_at}
use Rattle.wt_tiles.specs.Urls.{is_word}
use Rattle.wt_beside_laws.specs.Beginnings.{is_lone_underscore}
use Rattle.wt_beside_laws.specs.Called.{MeetsNearest, AllMeetWith}
use Rattle.wt_beside_laws.specs.Cuts.{letter_cut, ends_word}
use Rattle.wt_beside_laws.specs.Given.{given_cut, given_last, FirstMay, LastMay}
use Rattle.wt_beside_laws.specs.Glyphs.{guard_glyphs, letter_glyphs}
use Rattle.wt_beside_laws.proofs.ContentTiles.{Follows, guard_follows, letter_follows}
use Rattle.wt_beside_laws.proofs.LineTiles.{end_follows, letter_by}
use Rattle.wt_beside_laws.proofs.NodesMeet.{letter_behind, letter_before}
use Rattle.wt_beside_laws.proofs.TypedForms.{FirstFits, letter_fits, guard_fits, IsNoName, wide_no_name, less_next, less_none, tag_other, IsNoUnderscore, wide_no_underscore, fits_alone, second_underscore, thing_alone, guard_alone, underscore_none, switch_other, link_none, external_none, bare_none, all_none}
use Rattle.wt_beside_laws.proofs.Groups.Gifts.{IsGift, gift_glyphs, AreGifts, atom_last, guard_last, ended_last, given_led, first_none, line_glyphs_with, line_cut_with}
use Rattle.wt_beside_laws.proofs.Groups.GivenTiles.{given_reaches, none_last, last_is, given_follow}
use Rattle.wt_beside_laws.proofs.Groups.Schemes.{reaches, no_scheme, FirstNeither, first_none as first_other, guard_none, slash_letter, ended_none, guard_reaches, end_reaches, letter_reaches, ended_reaches, colon_plain}

-- ---- a slash, or two

none_slash : (c : ℕ) → (c == 47) ≡ false → (c == 47) ≡ true → true ≡ false
none_slash c e i = sym i ∙ e

one_slash : (s : Setting) (before after : List ContentSign) (owns : List (List Item)) → AreGifts after owns → is_next 47 (nearest after) ≡ false
    → begins_like (47 ∷ []) (line_glyphs_with s before after owns) ≡ false
one_slash s before [] owns h e = by (is_guarded s before [])
  where
    by : (u : Bool) → begins_like (47 ∷ []) (guard_glyphs u) ≡ false
    by true = refl
    by false = refl
one_slash s before (letter c ∷ after) owns h e =
    let x = is_escaped s.within s.place before c after in
    let more : List Glyph = line_glyphs_with s (letter c ∷ before) after owns in
    guard_none 47 [] (is_guarded s before (letter c ∷ after)) (if c == 10 then [] else letter_glyphs x c ++ more)
    (ended_none [] (c == 10) (letter_glyphs x c ++ more)
    (slash_letter [] x c more (λ i. let no : true ≡ false = none_slash c e i in cc)))
one_slash s before (thing t ∷ after) [] h e = absurd h
one_slash s before (thing t ∷ after) (own ∷ owns) h e =
    let more : List Glyph = line_glyphs_with s (thing t ∷ before) after owns in
    let g = h.0 in
    guard_none 47 [] (is_guarded s before (thing t ∷ after)) (map glyph_of own ++ more) (first_other 47 [] (map glyph_of own) more g.neither refl)

and_left : (v w : Bool) → (v && w) ≡ false → v ≡ true → w ≡ false
and_left true w e i = e
and_left false w e i = let no : false ≡ true = i in cc

two_slashes : (s : Setting) (before after : List ContentSign) (owns : List (List Item)) → AreGifts after owns → are_slashes after ≡ false
    → begins_like (codes "//") (line_glyphs_with s before after owns) ≡ false
two_slashes s before [] owns h e = by (is_guarded s before [])
  where
    by : (u : Bool) → begins_like (codes "//") (guard_glyphs u) ≡ false
    by true = refl
    by false = refl
two_slashes s before (letter c ∷ after) owns h e =
    let x = is_escaped s.within s.place before c after in
    let more : List Glyph = line_glyphs_with s (letter c ∷ before) after owns in
    guard_none 47 (47 ∷ []) (is_guarded s before (letter c ∷ after)) (if c == 10 then [] else letter_glyphs x c ++ more)
    (ended_none (47 ∷ []) (c == 10) (letter_glyphs x c ++ more)
    (slash_letter (47 ∷ []) x c more (λ i. one_slash s (letter c ∷ before) after owns h (and_left (c == 47) (is_next 47 (nearest after)) e i))))
two_slashes s before (thing t ∷ after) [] h e = absurd h
two_slashes s before (thing t ∷ after) (own ∷ owns) h e =
    let more : List Glyph = line_glyphs_with s (thing t ∷ before) after owns in
    let g = h.0 in
    guard_none 47 (47 ∷ []) (is_guarded s before (thing t ∷ after)) (map glyph_of own ++ more) (first_other 47 (47 ∷ []) (map glyph_of own) more g.neither refl)

-- ---- no URL goes on over the signs

gift_reaches : (t : Thing) (own : List Item) (more : List Glyph) → IsGift t own → reaches more ≡ false → reaches (map glyph_of own ++ more) ≡ false
gift_reaches t own more g e =
    subst (λ (gs : List Glyph). reaches (gs ++ more) ≡ false) (sym (gift_glyphs t own g)) (given_reaches false g.signs more g.are e)

pub line_reaches : (s : Setting) (before signs : List ContentSign) (owns : List (List Item)) → AreGifts signs owns
    → reaches (line_glyphs_with s before signs owns) ≡ false
line_reaches s before [] owns h = end_reaches (is_guarded s before [])
line_reaches s before (letter c ∷ after) owns h =
    let x = is_escaped s.within s.place before c after in
    let more : List Glyph = line_glyphs_with s (letter c ∷ before) after owns in
    guard_reaches (is_guarded s before (letter c ∷ after)) (if c == 10 then [] else letter_glyphs x c ++ more)
    (ended_reaches (c == 10) (letter_glyphs x c ++ more)
    (letter_reaches x c more
    (λ e i. two_slashes s (letter c ∷ before) after owns h
    (colon_plain s before after (subst (λ (k : ℕ). is_escaped s.within s.place before k after ≡ false) i e)))
    (line_reaches s (letter c ∷ before) after owns h)))
line_reaches s before (thing t ∷ after) [] h = absurd h
line_reaches s before (thing t ∷ after) (own ∷ owns) h =
    let more : List Glyph = line_glyphs_with s (thing t ∷ before) after owns in
    guard_reaches (is_guarded s before (thing t ∷ after)) (map glyph_of own ++ more)
    (gift_reaches t own more h.0 (line_reaches s (thing t ∷ before) after owns h.1))

-- ---- what is typed

-- behind a `<` that is typed
less_fits : (s : Setting) (before after : List ContentSign) (owns : List (List Item)) → opens_tag (nearest after) ≡ false
    → FirstFits IsNoName (line_glyphs_with s (letter 60 ∷ before) after owns)
less_fits s before [] owns e = cc
less_fits s before (thing t ∷ after) owns e = cc
less_fits s before (letter d ∷ after) owns e =
    let own = or_parts (is_ascii_alphabetic d) (d == 47 || d == 33) e in
    let no = or_parts (d == 47) (d == 33) own.1 in
    let t = is_escaped s.within s.place (letter 60 ∷ before) d after in
    let more : List Glyph = line_glyphs_with s (letter d ∷ letter 60 ∷ before) after owns in
    guard_fits IsNoName (is_guarded s (letter 60 ∷ before) (letter d ∷ after)) (if d == 10 then [] else letter_glyphs t d ++ more) (refl, refl)
    (ended_fits IsNoName (d == 10) (letter_glyphs t d ++ more) (letter_fits IsNoName t d more (refl, refl) (λ z. (own.0, no.0)) wide_no_name))
  where
    ended_fits : (P : Glyph → Type 0) (v : Bool) (gs : List Glyph) → FirstFits P gs → FirstFits P (if v then [] else gs)
    ended_fits P true gs f = tt
    ended_fits P false gs f = f

tag_none : (s : Setting) (before : List ContentSign) (c : ℕ) (after : List ContentSign) (owns : List (List Item)) → is_escaped s.within s.place before c after ≡ false
    → tag_at (glyph.Byte c ∷ line_glyphs_with s (letter c ∷ before) after owns) ≡ None
tag_none s before c after owns e =
    let P : ℕ → Type 0 = λ (k : ℕ). is_escaped s.within s.place before k after ≡ false → tag_at (glyph.Byte k ∷ line_glyphs_with s (letter k ∷ before) after owns) ≡ None in
    elim (equal_or c 60) [
      | inl i ↦ subst P (sym i)
          (λ h. less_none (line_glyphs_with s (letter 60 ∷ before) after owns) (less_fits s before after owns (less_next s before after h))) e
      | inr n ↦ tag_other c (line_glyphs_with s (letter c ∷ before) after owns) n
    ]

-- behind a `_` that is typed
behind_underscore : (s : Setting) (before after : List ContentSign) (owns : List (List Item)) → AreGifts after owns
    → is_lone_underscore (line_glyphs_with s (letter 95 ∷ before) after owns) ≡ false
behind_underscore s before [] owns h = by (is_guarded s (letter 95 ∷ before) [])
  where
    by : (u : Bool) → is_lone_underscore (guard_glyphs u) ≡ false
    by true = refl
    by false = refl
behind_underscore s before (letter d ∷ after) owns h =
    let t = is_escaped s.within s.place (letter 95 ∷ before) d after in
    let more : List Glyph = line_glyphs_with s (letter d ∷ letter 95 ∷ before) after owns in
    guard_alone (is_guarded s (letter 95 ∷ before) (letter d ∷ after)) (if d == 10 then [] else letter_glyphs t d ++ more)
    (ended_alone (d == 10) (letter_glyphs t d ++ more)
    (fits_alone (letter_glyphs t d ++ more) (letter_fits IsNoUnderscore t d more refl (λ z. second_underscore s before d after z) wide_no_underscore)))
  where
    ended_alone : (v : Bool) (gs : List Glyph) → is_lone_underscore gs ≡ false → is_lone_underscore (if v then [] else gs) ≡ false
    ended_alone true gs e = refl
    ended_alone false gs e = e
behind_underscore s before (thing t ∷ after) [] h = absurd h
behind_underscore s before (thing t ∷ after) (own ∷ owns) h =
    let g = h.0 in
    let more : List Glyph = line_glyphs_with s (thing t ∷ letter 95 ∷ before) after owns in
    guard_alone (is_guarded s (letter 95 ∷ before) (thing t ∷ after)) (map glyph_of own ++ more) (thing_alone (map glyph_of own) more g.alone)

switch_none : (s : Setting) (before : List ContentSign) (c : ℕ) (after : List ContentSign) (owns : List (List Item)) → AreGifts after owns
    → switch_at (glyph.Byte c ∷ line_glyphs_with s (letter c ∷ before) after owns) ≡ None
switch_none s before c after owns h =
    let P : ℕ → Type 0 = λ (k : ℕ). switch_at (glyph.Byte k ∷ line_glyphs_with s (letter k ∷ before) after owns) ≡ None in
    elim (equal_or c 95) [
      | inl i ↦ subst P (sym i) (underscore_none (line_glyphs_with s (letter 95 ∷ before) after owns) (behind_underscore s before after owns h))
      | inr n ↦ switch_other c (line_glyphs_with s (letter c ∷ before) after owns) n
    ]

letter_none : (a : Bool) (s : Setting) (before : List ContentSign) (c : ℕ) (after : List ContentSign) (owns : List (List Item))
    → is_escaped s.within s.place before c after ≡ false → AreGifts after owns → form_at in_line a (glyph.Byte c ∷ line_glyphs_with s (letter c ∷ before) after owns) ≡ None
letter_none a s before c after owns e h =
    let gs : List Glyph = line_glyphs_with s (letter c ∷ before) after owns in
    let b = not_bracket (is_bracket c) (is_escaped s.within s.place before c after) (bracket_escaped s.within s.place before c after) e in
    let bracket = or_parts (c == 91) _ b in
    all_none in_line a (glyph.Byte c ∷ gs) (link_none c gs bracket.0) (external_none c gs bracket.0)
    (bare_none a (glyph.Byte c ∷ gs) (no_scheme (glyph.Byte c) gs (line_reaches s (letter c ∷ before) after owns h)))
    (tag_none s before c after owns e) (switch_none s before c after owns h)

-- ---- what is beside a node or a group

-- behind it
gift_last : (s : Setting) (t : Thing) (own : List Item) (before after : List ContentSign) (owns : List (List Item)) (g : IsGift t own) → AreGifts after owns
    → AllMeetWith s (thing t ∷ before) own after owns → LastMay g.signs (line_glyphs_with s (thing t ∷ before) after owns)
gift_last s t own before [] owns g h m =
    end_last (is_guarded s (thing t ∷ before) [])
  where
    end_last : (u : Bool) → LastMay g.signs (guard_glyphs u)
    end_last true = atom_last false g.signs [] g.are
    end_last false = none_last g.signs
gift_last s t own before (letter d ∷ after) owns g h m =
    let e = is_escaped s.within s.place (thing t ∷ before) d after in
    let more : List Glyph = line_glyphs_with s (letter d ∷ thing t ∷ before) after owns in
    guard_last false (is_guarded s (thing t ∷ before) (letter d ∷ after)) g.signs (if d == 10 then [] else letter_glyphs e d ++ more) g.are
    (λ z. ended_last (d == 10) g.signs (letter_glyphs e d ++ more) (g.behind e d more (letter_behind s t before d after z)))
gift_last s t own before (thing n ∷ after) [] g h m = absurd h
gift_last s t own before (thing n ∷ after) (next ∷ owns) g h m =
    let more : List Glyph = line_glyphs_with s (thing n ∷ thing t ∷ before) after owns in
    let k = h.0 in
    guard_last false (is_guarded s (thing t ∷ before) (thing n ∷ after)) g.signs (map glyph_of next ++ more) g.are
    (λ z. let both = m.0 z in g.beside (map glyph_of next) more k.neither both.0)

-- whether a letter, digit or `_` is last before a place, where the nearest node gives these
abbrev pub is_word_before : List ContentSign → List Item → Bool
is_word_before [] last = false
is_word_before (letter c ∷ before) last = is_word c
is_word_before (thing t ∷ before) last = ends_word false (map glyph_of last)

-- before it
gift_first : (s : Setting) (t : Thing) (own : List Item) (before : List ContentSign) (last : List Item) (after : List ContentSign) (u : Bool)
    → is_guarded s before (thing t ∷ after) ≡ u → (g : IsGift t own)
    → (is_guarded s before (thing t ∷ after) ≡ false → MeetsNearest (nearest before) (map glyph_of last) t (map glyph_of own))
    → FirstMay g.signs (not u && is_word_before before last)
gift_first s t own before last after true e g m = first_none g.signs
gift_first s t own [] last after false e g m = first_none g.signs
gift_first s t own (letter d ∷ before) last after false e g m = g.before d (letter_before s t before d after e)
gift_first s t own (thing n ∷ before) last after false e g m = let both = m e in g.leads (ends_word false (map glyph_of last)) both.1

-- ---- the line

gift_follows : (t : Thing) (own : List Item) (word : Bool) (more : List Glyph) (c : Cut) (g : IsGift t own) → FirstMay g.signs word → LastMay g.signs more
    → reaches more ≡ false → Follows in_line (ends_word false (map glyph_of own)) more c → Follows in_line word (map glyph_of own ++ more) (given_cut g.signs c)
gift_follows t own word more c g first last r f =
    subst (λ (gs : List Glyph). Follows in_line word (gs ++ more) (given_cut g.signs c)) (sym (gift_glyphs t own g))
    (given_follow word g.signs more c (given_led word g.signs g.are first) last r
    (λ a i. f a (λ z. sym (last_same t own word g) ∙ i z)))
  where
    some_last : (gs : List Glyph) (a b : Bool) → FirstNeither gs → ends_word a gs ≡ ends_word b gs
    some_last [] a b h = absurd h
    some_last (x ∷ gs) a b h = refl

    last_same : (t : Thing) (own : List Item) (word : Bool) (g : IsGift t own) → given_last word g.signs ≡ ends_word false (map glyph_of own)
    last_same t own word g =
        last_is false word g.signs g.are ∙ sym (ap (ends_word word) (gift_glyphs t own g)) ∙ some_last (map glyph_of own) word false g.neither

pub line_follows : (s : Setting) (before : List ContentSign) (last : List Item) (signs : List ContentSign) (owns : List (List Item)) (h : AreGifts signs owns)
    → AllMeetWith s before last signs owns
    → Follows in_line (is_word_before before last) (line_glyphs_with s before signs owns) (line_cut_with s before signs owns h)
line_follows s before last [] owns h m = end_follows in_line (is_word_before before last) (is_guarded s before [])
line_follows s before last (letter d ∷ after) owns h m =
    let u = is_guarded s before (letter d ∷ after) in
    let e = is_escaped s.within s.place before d after in
    let word : Bool = is_word_before before last in
    let more : List Glyph = line_glyphs_with s (letter d ∷ before) after owns in
    let c : Cut = line_cut_with s (letter d ∷ before) after owns h in
    guard_follows in_line word u (if d == 10 then [] else letter_glyphs e d ++ more) (if d == 10 then (0, []) else letter_cut e d c)
    (letter_by in_line (not u && word) e (d == 10) d more c
    (letter_follows in_line (not u && word) e d more c (λ z a. letter_none a s before d after owns z h) (line_follows s (letter d ∷ before) [] after owns h m)))
line_follows s before last (thing t ∷ after) [] h m = absurd h
line_follows s before last (thing t ∷ after) (own ∷ owns) h m =
    let u = is_guarded s before (thing t ∷ after) in
    let word : Bool = is_word_before before last in
    let more : List Glyph = line_glyphs_with s (thing t ∷ before) after owns in
    let c : Cut = line_cut_with s (thing t ∷ before) after owns h.1 in
    let g : IsGift t own = h.0 in
    guard_follows in_line word u (map glyph_of own ++ more) (given_cut g.signs c)
    (gift_follows t own (not u && word) more c g (gift_first s t own before last after u refl g m.0) (gift_last s t own before after owns g h.1 m.1)
    (line_reaches s (thing t ∷ before) after owns h.1) (line_follows s (thing t ∷ before) own after owns h.1 m.1))

pub line_cuts_are : (s : Setting) (before : List ContentSign) (last : List Item) (signs : List ContentSign) (owns : List (List Item)) (h : AreGifts signs owns)
    → AllMeetWith s before last signs owns → cuts in_line false 0 (line_glyphs_with s before signs owns) ≡ line_cut_with s before signs owns h
line_cuts_are s before last signs owns h m = line_follows s before last signs owns h m false (λ z. cc)
