-- The beginning of a URL in a line: what goes on with the letters of a scheme, and what doesn't.
use Rattle.std.proofs.Common.{arith, ◌≡◌, inl, inr, ℕ, ◌<◌, ◌≤◌, ◌==◌, Bool, true, false, List, [], ◌∷◌, ◌++◌, length, refl, sym, ap, ◌∙◌, subst, All}
use Rattle.std.specs.Prelude.{◌&&◌, ◌||◌, codes, encode_utf8, if◌then◌else◌}
use Rattle.std.specs.Char.{to_ascii_lowercase}
use Rattle.std.proofs.lemmas.Bool.{cases_lt}
use Rattle.std.proofs.lemmas.Bool.Decides.{nat_tests, Decides-eqb}
use Rattle.std.proofs.lemmas.List.Elements.{All-head}
use Rattle.std.proofs.lemmas.Str.{encode_ascii}
use Rattle.wt_names.proofs.Ascii.{IsWide, encode_wide, encode_some}
use Rattle.wt_guards.specs.Content.{ContentSign}
use Rattle.wt_guards.specs.Guards.{Setting}
use Rattle.wt_guards.specs.Letters.{is_term, are_slashes, is_escaped}
use Rattle.wt_tiles.specs.declared.glyph.Glyph.{Glyph}
use Rattle.wt_tiles.specs.declared.glyph.Glyph.TheVariants as glyph
use Rattle.wt_tiles.specs.Glyphs.{is_in, byte_glyphs, like_byte, begins_like}
use Rattle.wt_tiles.specs.Urls.{scheme_len}
use Rattle.wt_beside_laws.specs.Glyphs.{guard_glyphs, letter_glyphs, is_url_start, AvoidsUrls}

-- ---- `://` behind letters of a scheme

-- `t`, `p` or `s`, in either case
abbrev pub is_more : Glyph → Bool
is_more g = is_in (λ b. let c : ℕ = to_ascii_lowercase b in c == 116 || (c == 112 || c == 115)) g

abbrev pub reaches : List Glyph → Bool
reaches [] = false
reaches (g ∷ gs) = if like_byte 58 g then begins_like (codes "//") gs else is_more g && reaches gs

abbrev IsMoreByte : ℕ → Type 0
IsMoreByte m = (m == 116 || (m == 112 || m == 115)) ≡ true

abbrev AreMoreBytes : List ℕ → Type 0
AreMoreBytes [] = Unit {0}
AreMoreBytes (m ∷ ws) = IsMoreByte m × AreMoreBytes ws

other_colon : (k m : ℕ) → (k == m) ≡ true → (m == 116 || (m == 112 || m == 115)) ≡ true → (k == 58) ≡ false
other_colon k m e h = grind (arith, nat_tests, e, h)

same_more : (k m : ℕ) → (k == m) ≡ true → (m == 116 || (m == 112 || m == 115)) ≡ true → (k == 116 || (k == 112 || k == 115)) ≡ true
same_more k m e h = let is : k ≡ m = (Decides-eqb k m).0 e in subst (λ (n : ℕ). (n == 116 || (n == 112 || n == 115)) ≡ true) (sym is) h

like_more : (m : ℕ) (g : Glyph) → IsMoreByte m → like_byte m g ≡ true → (like_byte 58 g ≡ false) × (is_more g ≡ true)
like_more m (glyph.Byte b) h e = (other_colon (to_ascii_lowercase b) m e h, same_more (to_ascii_lowercase b) m e h)
like_more m (glyph.Entity c) h e = cc
like_more m glyph.Atom h e = cc
like_more m glyph.Mark h e = cc

-- a colon is first
colon_by : (v : Bool) (gs : List Glyph) (w : Bool) → (if v then begins_like (codes "//") gs else w) ≡ false → (v && begins_like (codes "//") gs) ≡ false
colon_by true gs w e = e
colon_by false gs w e = refl

goes_by : (v c m r : Bool) (b : Bool) → (v ≡ true → (c ≡ false) × (m ≡ true)) → (if c then b else m && r) ≡ false → v ≡ true → r ≡ false
goes_by v true m r b f e i = let no : true ≡ false = (f i).0 in cc
goes_by v false true r b f e i = e
goes_by v false false r b f e i = let no : false ≡ true = (f i).1 in cc

and_by : (v w : Bool) → (v ≡ true → w ≡ false) → (v && w) ≡ false
and_by true w f = f refl
and_by false w f = refl

reach_none : (ws : List ℕ) (gs : List Glyph) → AreMoreBytes ws → reaches gs ≡ false → begins_like (ws ++ codes "://") gs ≡ false
reach_none [] [] h e = refl
reach_none [] (g ∷ gs) h e = colon_by (like_byte 58 g) gs (is_more g && reaches gs) e
reach_none (m ∷ ws) [] h e = refl
reach_none (m ∷ ws) (g ∷ gs) h e =
    and_by (like_byte m g) (begins_like (ws ++ codes "://") gs)
    (λ i. reach_none ws gs h.1 (goes_by (like_byte m g) (like_byte 58 g) (is_more g) (reaches gs) (begins_like (codes "//") gs) (like_more m g h.0) e i))

and_none : (u v : Bool) → v ≡ false → (u && v) ≡ false
and_none true v e = e
and_none false v e = refl

-- so no URL begins before it
pub no_scheme : (g : Glyph) (gs : List Glyph) → reaches gs ≡ false → scheme_len (g ∷ gs) ≡ 0
unfolding scheme_len
no_scheme g gs e =
    let http : begins_like (codes "ttp://") gs ≡ false = reach_none (116 ∷ 116 ∷ 112 ∷ []) gs (refl, (refl, (refl, tt))) e in
    let https : begins_like (codes "ttps://") gs ≡ false = reach_none (116 ∷ 116 ∷ 112 ∷ 115 ∷ []) gs (refl, (refl, (refl, (refl, tt)))) e in
    let ftp : begins_like (codes "tp://") gs ≡ false = reach_none (116 ∷ 112 ∷ []) gs (refl, (refl, tt)) e in
    rw (
      and_none (like_byte 104 g) (begins_like (codes "ttp://") gs) http,
      and_none (like_byte 104 g) (begins_like (codes "ttps://") gs) https,
      and_none (like_byte 102 g) (begins_like (codes "tp://") gs) ftp,
    )
    refl

-- ---- what may be first

-- neither a colon nor a slash
abbrev pub IsNeither : Glyph → Type 0
IsNeither g = (like_byte 58 g ≡ false) × (like_byte 47 g ≡ false)

start_colon : (k : ℕ) → (k == 116 || (k == 112 || (k == 115 || (k == 58 || k == 47)))) ≡ false → (k == 58) ≡ false
start_colon k e = grind (arith, nat_tests, e)

start_slash : (k : ℕ) → (k == 116 || (k == 112 || (k == 115 || (k == 58 || k == 47)))) ≡ false → (k == 47) ≡ false
start_slash k e = grind (arith, nat_tests, e)

start_more : (k : ℕ) → (k == 116 || (k == 112 || (k == 115 || (k == 58 || k == 47)))) ≡ false → (k == 116 || (k == 112 || k == 115)) ≡ false
start_more k e = grind (arith, nat_tests, e)

past_neither : (g : Glyph) → is_url_start g ≡ false → IsNeither g
past_neither (glyph.Byte b) e = (start_colon (to_ascii_lowercase b) e, start_slash (to_ascii_lowercase b) e)
past_neither (glyph.Entity c) e = (refl, refl)
past_neither glyph.Atom e = (refl, refl)
past_neither glyph.Mark e = (refl, refl)

past_more : (g : Glyph) → is_url_start g ≡ false → is_more g ≡ false
past_more (glyph.Byte b) e = start_more (to_ascii_lowercase b) e
past_more (glyph.Entity c) e = refl
past_more glyph.Atom e = refl
past_more glyph.Mark e = refl

-- there is a first item, and it is neither
abbrev pub FirstNeither : List Glyph → Type 0
FirstNeither [] = ⊥
FirstNeither (g ∷ gs) = IsNeither g

pub avoids_neither : (own : List Glyph) → AvoidsUrls own → FirstNeither own
avoids_neither [] h = absurd h
avoids_neither (g ∷ gs) h = past_neither g h

-- ---- a slash, or two

pub first_none : (m : ℕ) (ws : List ℕ) (own more : List Glyph) → FirstNeither own → m ≡ 47 → begins_like (m ∷ ws) (own ++ more) ≡ false
first_none m ws [] more h i = absurd h
first_none m ws (g ∷ gs) more h i =
    subst (λ (k : ℕ). begins_like (k ∷ ws) (g ∷ (gs ++ more)) ≡ false) (sym i) (ap (λ (v : Bool). v && begins_like ws (gs ++ more)) h.1)

pub guard_none : (m : ℕ) (ws : List ℕ) (u : Bool) (more : List Glyph) → begins_like (m ∷ ws) more ≡ false → begins_like (m ∷ ws) (guard_glyphs u ++ more) ≡ false
guard_none m ws true more h = refl
guard_none m ws false more h = h

wide_like : (m b : ℕ) → 128 ≤ b → m < 128 → (to_ascii_lowercase b == m) ≡ false
wide_like m b le lt = grind (arith, nat_tests)

wide_none : (m : ℕ) (ws bs : List ℕ) (more : List Glyph) → All IsWide bs → 0 < length bs → m < 128 → begins_like (m ∷ ws) (byte_glyphs bs ++ more) ≡ false
wide_none m ws [] more h some lt = absurd (omega (arith, some))
wide_none m ws (b ∷ bs) more h some lt = ap (λ (v : Bool). v && begins_like ws (byte_glyphs bs ++ more)) (wide_like m b (All-head IsWide b bs h) lt)

lower_slash : (b : ℕ) → (to_ascii_lowercase b == 47) ≡ true → (b == 47) ≡ true
lower_slash b e = grind (arith, nat_tests, e)

-- a letter, which is a slash only if what follows goes on with none
pub slash_letter : (ws : List ℕ) (e : Bool) (c : ℕ) (more : List Glyph) → ((c == 47) ≡ true → begins_like ws more ≡ false)
    → begins_like (47 ∷ ws) (letter_glyphs e c ++ more) ≡ false
slash_letter ws true c more f = refl
slash_letter ws false c more f = elim (cases_lt c 128) [
  | inl small ↦
      subst (λ bs. begins_like (47 ∷ ws) (byte_glyphs bs ++ more) ≡ false) (sym (encode_ascii c small))
      (and_by (to_ascii_lowercase c == 47) (begins_like ws more) (λ i. f (lower_slash c i)))
  | inr wide ↦ wide_none 47 ws (encode_utf8 c) more (encode_wide c wide) (encode_some c) (omega arith)
]

-- up to the end of the line
pub ended_none : (ws : List ℕ) (t : Bool) (gs : List Glyph) → begins_like (47 ∷ ws) gs ≡ false → begins_like (47 ∷ ws) (if t then [] else gs) ≡ false
ended_none ws true gs h = refl
ended_none ws false gs h = h

-- ---- before what follows

pub guard_reaches : (u : Bool) (more : List Glyph) → reaches more ≡ false → reaches (guard_glyphs u ++ more) ≡ false
guard_reaches true more h = refl
guard_reaches false more h = h

pub end_reaches : (u : Bool) → reaches (guard_glyphs u) ≡ false
end_reaches true = refl
end_reaches false = refl

pub reach_by : (v m r b : Bool) → (v ≡ true → b ≡ false) → r ≡ false → (if v then b else m && r) ≡ false
reach_by true m r b f e = f refl
reach_by false m r b f e = and_none m r e

pub node_reaches : (own more : List Glyph) → AvoidsUrls own → reaches (own ++ more) ≡ false
node_reaches [] more h = absurd h
node_reaches (g ∷ gs) more h =
    ap (λ (v : Bool). if v then begins_like (codes "//") (gs ++ more) else is_more g && reaches (gs ++ more)) (past_neither g h).0
    ∙ ap (λ (v : Bool). v && reaches (gs ++ more)) (past_more g h)

-- ---- a letter that is typed

lower_is : (b : ℕ) → (to_ascii_lowercase b == 58) ≡ true → b ≡ 58
lower_is b e = grind (arith, nat_tests, e)

wide_more : (b : ℕ) → 128 ≤ b → (to_ascii_lowercase b == 116 || (to_ascii_lowercase b == 112 || to_ascii_lowercase b == 115)) ≡ false
wide_more b le = grind (arith, nat_tests)

wide_reaches : (bs : List ℕ) (more : List Glyph) → All IsWide bs → 0 < length bs → reaches (byte_glyphs bs ++ more) ≡ false
wide_reaches [] more h some = absurd (omega (arith, some))
wide_reaches (b ∷ bs) more h some =
    let gs : List Glyph = byte_glyphs bs ++ more in
    ap (λ (v : Bool). if v then begins_like (codes "//") gs else is_more (glyph.Byte b) && reaches gs) (wide_like 58 b (All-head IsWide b bs h) (omega arith))
    ∙ ap (λ (v : Bool). v && reaches gs) (wide_more b (All-head IsWide b bs h))

pub letter_reaches : (e : Bool) (c : ℕ) (more : List Glyph) → (e ≡ false → c ≡ 58 → begins_like (codes "//") more ≡ false) → reaches more ≡ false
    → reaches (letter_glyphs e c ++ more) ≡ false
letter_reaches true c more f h = refl
letter_reaches false c more f h = elim (cases_lt c 128) [
  | inl small ↦
      subst (λ bs. reaches (byte_glyphs bs ++ more) ≡ false) (sym (encode_ascii c small))
      (reach_by (to_ascii_lowercase c == 58) (is_more (glyph.Byte c)) (reaches more) (begins_like (codes "//") more) (λ i. f refl (lower_is c i)) h)
  | inr wide ↦ wide_reaches (encode_utf8 c) more (encode_wide c wide) (encode_some c)
]

pub ended_reaches : (t : Bool) (gs : List Glyph) → reaches gs ≡ false → reaches (if t then [] else gs) ≡ false
ended_reaches true gs h = refl
ended_reaches false gs h = h

or_second : (v w : Bool) → (v || w) ≡ false → w ≡ false
or_second true w e = cc
or_second false w e = e

pub colon_plain : (s : Setting) (before after : List ContentSign) → is_escaped s.within s.place before 58 after ≡ false → are_slashes after ≡ false
unfolding is_escaped
colon_plain s before after e = or_second (is_term s.place) (are_slashes after) e
