-- At a character of text that is typed no tile begins, whatever nodes stay beside it.
use Rattle.std.proofs.Common.{arith, ◌≡◌, ℕ, ◌<◌, ◌≤◌, ◌==◌, Bool, true, false, List, [], ◌∷◌, ◌++◌, length, map, refl, sym, ap, ap₂, ◌∙◌, subst, inl, inr, All}
use Rattle.std.specs.Prelude.{◌&&◌, ◌||◌, codes, encode_utf8}
use Rattle.std.specs.Char.{to_ascii_lowercase}
use Rattle.std.proofs.lemmas.Bool.{cases_lt}
use Rattle.std.proofs.lemmas.Bool.Decides.{nat_tests, Decides-eqb}
use Rattle.std.proofs.lemmas.List.Elements.{All-head}
use Rattle.std.proofs.lemmas.Str.{encode_ascii}
use Rattle.wt_names.proofs.Ascii.{IsWide, encode_wide, encode_some}
use Rattle.wt_guards.specs.Content.{ContentSign, letter, thing}
use Rattle.wt_guards.specs.Letters.{is_term, is_escaped}
use Rattle.wt_guards.specs.Guards.{Setting, is_guarded}
use Rattle.wt_tiles.specs.declared.glyph.Glyph.{Glyph}
use Rattle.wt_tiles.specs.declared.glyph.Glyph.TheVariants as glyph
use Rattle.wt_tiles.specs.Glyphs.{glyph_of, byte_glyphs, like_byte, begins_like}
use Rattle.wt_tiles.specs.Urls.{scheme_len}
use Rattle.wt_beside_laws.specs.Glyphs.{guard_glyphs, letter_glyphs, content_glyphs, is_url_start, AvoidsUrls, IsPast, AllAvoid}
use Rattle.wt_beside_laws.specs.NodeItems.{node_items}

-- ---- a word of which each byte goes on with the beginning of a URL

both_true : (u v : Bool) → (u && v) ≡ true → (u ≡ true) × (v ≡ true)
both_true true v e = (refl, e)
both_true false v e = cc

-- `t`, `p`, `s`, `:` and `/`
abbrev IsMore : ℕ → Type 0
IsMore m = (m < 128) × ((g : Glyph) → is_url_start g ≡ false → like_byte m g ≡ false)

wide_like : (m b : ℕ) → 128 ≤ b → m < 128 → (to_ascii_lowercase b == m) ≡ false
wide_like m b le lt = grind (arith, nat_tests)

wide_first : (m : ℕ) (ws bs : List ℕ) (more : List Glyph) → All IsWide bs → 0 < length bs → m < 128 → begins_like (m ∷ ws) (byte_glyphs bs ++ more) ≡ false
wide_first m ws [] more h some lt = absurd (omega (arith, some))
wide_first m ws (b ∷ bs) more h some lt = ap (λ (v : Bool). v && begins_like ws (byte_glyphs bs ++ more)) (wide_like m b (All-head IsWide b bs h) lt)

record Spells (m : ℕ) (ws : List ℕ) (e : Bool) (c : ℕ) (more : List Glyph) : Type 0 where
  plain : e ≡ false
  like : (to_ascii_lowercase c == m) ≡ true
  rest : begins_like ws more ≡ true

letter_by : (m : ℕ) (ws : List ℕ) (e : Bool) (c : ℕ) (more : List Glyph) → m < 128 → begins_like (m ∷ ws) (letter_glyphs e c ++ more) ≡ true → Spells m ws e c more
letter_by m ws true c more lt h = cc
letter_by m ws false c more lt h = elim (cases_lt c 128) [
  | inl small ↦
      let is : begins_like (m ∷ ws) (glyph.Byte c ∷ more) ≡ true = subst (λ bs. begins_like (m ∷ ws) (byte_glyphs bs ++ more) ≡ true) (encode_ascii c small) h in
      let s = both_true (to_ascii_lowercase c == m) (begins_like ws more) is in
      record { plain = refl; like = s.0; rest = s.1 }
  | inr wide ↦ let no : false ≡ true = sym (wide_first m ws (encode_utf8 c) more (encode_wide c wide) (encode_some c) lt) ∙ h in cc
]

-- ---- what such a word is spelled by

-- how it goes on behind a node or at the end: not at all
past_nothing : (m : ℕ) (ws : List ℕ) (gs : List Glyph) → ((g : Glyph) → is_url_start g ≡ false → like_byte m g ≡ false) → IsPast gs → begins_like (m ∷ ws) gs ≡ false
past_nothing m ws [] f h = refl
past_nothing m ws (g ∷ gs) f h = ap (λ (v : Bool). v && begins_like ws gs) (f g h)

thing_first : (m : ℕ) (ws : List ℕ) (own more : List Glyph) → ((g : Glyph) → is_url_start g ≡ false → like_byte m g ≡ false) → AvoidsUrls own
    → begins_like (m ∷ ws) (own ++ more) ≡ false
thing_first m ws [] more f h = absurd h
thing_first m ws (g ∷ own) more f h = ap (λ (v : Bool). v && begins_like ws (own ++ more)) (f g h)

guard_by : (m : ℕ) (ws : List ℕ) (u : Bool) (more : List Glyph) → begins_like (m ∷ ws) (guard_glyphs u ++ more) ≡ true → begins_like (m ∷ ws) more ≡ true
guard_by m ws true more h = cc
guard_by m ws false more h = h

-- the next sign is a character that is written as it is
record Step (s : Setting) (before signs : List ContentSign) (rest : List Glyph) (m : ℕ) (ws : List ℕ) : Type 0 where
  c : ℕ
  after : List ContentSign
  is : signs ≡ letter c ∷ after
  plain : is_escaped s.within s.place before c after ≡ false
  like : (to_ascii_lowercase c == m) ≡ true
  avoid : AllAvoid after
  further : begins_like ws (content_glyphs s (letter c ∷ before) after rest) ≡ true

step : (s : Setting) (before signs : List ContentSign) (rest : List Glyph) (m : ℕ) (ws : List ℕ) → IsMore m → AllAvoid signs → IsPast rest
    → begins_like (m ∷ ws) (content_glyphs s before signs rest) ≡ true → Step s before signs rest m ws
step s before [] rest m ws more h past e =
    let no : false ≡ true = sym (past_nothing m ws rest more.1 past) ∙ guard_by m ws (is_guarded s before []) rest e in cc
step s before (letter c ∷ after) rest m ws more h past e =
    let t = is_escaped s.within s.place before c after in
    let l = letter_by m ws t c (content_glyphs s (letter c ∷ before) after rest) more.0
    (guard_by m ws (is_guarded s before (letter c ∷ after)) (letter_glyphs t c ++ content_glyphs s (letter c ∷ before) after rest) e) in
    record { c = c; after = after; is = refl; plain = l.plain; like = l.like; avoid = h; further = l.rest }
step s before (thing t ∷ after) rest m ws more h past e =
    let own : List Glyph = map glyph_of (node_items t.source) in
    let no : false ≡ true = sym (thing_first m ws own (content_glyphs s (thing t ∷ before) after rest) more.1 h.0)
    ∙ guard_by m ws (is_guarded s before (thing t ∷ after)) (own ++ content_glyphs s (thing t ∷ before) after rest) e in cc

-- ---- the bytes

url_start : (m : ℕ) (g : Glyph) → ((c : ℕ) → (c == m) ≡ true → (c == 116 || (c == 112 || (c == 115 || (c == 58 || c == 47)))) ≡ true) → is_url_start g ≡ false
    → like_byte m g ≡ false
url_start m (glyph.Byte b) f e = not_by (to_ascii_lowercase b == m) refl
  where
    not_by : (v : Bool) → (to_ascii_lowercase b == m) ≡ v → (to_ascii_lowercase b == m) ≡ false
    not_by true q = let no : true ≡ false = sym (f (to_ascii_lowercase b) q) ∙ e in cc
    not_by false q = q
url_start m (glyph.Entity c) f e = refl
url_start m glyph.Atom f e = refl
url_start m glyph.Mark f e = refl

one_of : (m c : ℕ) → (m == 116 || (m == 112 || (m == 115 || (m == 58 || m == 47)))) ≡ true → (c == m) ≡ true
    → (c == 116 || (c == 112 || (c == 115 || (c == 58 || c == 47)))) ≡ true
one_of m c h e = let is : c ≡ m = (Decides-eqb c m).0 e in subst (λ (k : ℕ). (k == 116 || (k == 112 || (k == 115 || (k == 58 || k == 47)))) ≡ true) (sym is) h

more_by : (m : ℕ) → m < 128 → (m == 116 || (m == 112 || (m == 115 || (m == 58 || m == 47)))) ≡ true → IsMore m
more_by m lt h = (lt, λ g e. url_start m g (λ c f. one_of m c h f) e)

same_byte : (c m : ℕ) → m < 65 → (to_ascii_lowercase c == m) ≡ true → c ≡ m
same_byte c m lt e = grind (arith, nat_tests, e, lt)

-- a `:` that is written as it is has no `//` behind it
no_colon : (s : Setting) (before signs : List ContentSign) (rest : List Glyph) → AllAvoid signs → IsPast rest
    → begins_like (58 ∷ 47 ∷ 47 ∷ []) (content_glyphs s before signs rest) ≡ true → ⊥
unfolding is_escaped
no_colon s before signs rest h past e =
    let colon : IsMore 58 = more_by 58 (omega arith) refl in
    let slash : IsMore 47 = more_by 47 (omega arith) refl in
    let a = step s before signs rest 58 (47 ∷ 47 ∷ []) colon h past e in
    let b = step s (letter a.c ∷ before) a.after rest 47 (47 ∷ []) slash a.avoid past a.further in
    let d = step s (letter b.c ∷ letter a.c ∷ before) b.after rest 47 [] slash b.avoid past b.further in
    let is_colon : a.c ≡ 58 = same_byte a.c 58 (omega arith) a.like in
    let is_slash : b.c ≡ 47 = same_byte b.c 47 (omega arith) b.like in
    let is_other : d.c ≡ 47 = same_byte d.c 47 (omega arith) d.like in
    let after_is : a.after ≡ letter 47 ∷ letter 47 ∷ d.after =
    b.is ∙ ap₂ (λ (k : ℕ) (xs : List ContentSign). letter k ∷ xs) is_slash (d.is ∙ ap (λ (k : ℕ). letter k ∷ d.after) is_other) in
    let plain : is_escaped s.within s.place before 58 (letter 47 ∷ letter 47 ∷ d.after) ≡ false =
    subst (λ xs. is_escaped s.within s.place before 58 xs ≡ false) after_is (subst (λ (k : ℕ). is_escaped s.within s.place before k a.after ≡ false) is_colon a.plain) in
    colon_escaped (is_term s.place) plain
  where
    colon_escaped : (v : Bool) → (v || true) ≡ false → ⊥
    colon_escaped true f = absurd (cc)
    colon_escaped false f = absurd (cc)

-- so behind any character none goes on with the beginning of a URL
http_none : (s : Setting) (before signs : List ContentSign) (rest : List Glyph) → AllAvoid signs → IsPast rest
    → begins_like (codes "ttp://") (content_glyphs s before signs rest) ≡ true → ⊥
http_none s before signs rest h past e =
    let a = step s before signs rest 116 (codes "tp://") (more_by 116 (omega arith) refl) h past e in
    let b = step s (letter a.c ∷ before) a.after rest 116 (codes "p://") (more_by 116 (omega arith) refl) a.avoid past a.further in
    let d = step s (letter b.c ∷ letter a.c ∷ before) b.after rest 112 (codes "://") (more_by 112 (omega arith) refl) b.avoid past b.further in
    no_colon s (letter d.c ∷ letter b.c ∷ letter a.c ∷ before) d.after rest d.avoid past d.further

https_none : (s : Setting) (before signs : List ContentSign) (rest : List Glyph) → AllAvoid signs → IsPast rest
    → begins_like (codes "ttps://") (content_glyphs s before signs rest) ≡ true → ⊥
https_none s before signs rest h past e =
    let a = step s before signs rest 116 (codes "tps://") (more_by 116 (omega arith) refl) h past e in
    let b = step s (letter a.c ∷ before) a.after rest 116 (codes "ps://") (more_by 116 (omega arith) refl) a.avoid past a.further in
    let d = step s (letter b.c ∷ letter a.c ∷ before) b.after rest 112 (codes "s://") (more_by 112 (omega arith) refl) b.avoid past b.further in
    let f = step s (letter d.c ∷ letter b.c ∷ letter a.c ∷ before) d.after rest 115 (codes "://") (more_by 115 (omega arith) refl) d.avoid past d.further in
    no_colon s (letter f.c ∷ letter d.c ∷ letter b.c ∷ letter a.c ∷ before) f.after rest f.avoid past f.further

ftp_none : (s : Setting) (before signs : List ContentSign) (rest : List Glyph) → AllAvoid signs → IsPast rest
    → begins_like (codes "tp://") (content_glyphs s before signs rest) ≡ true → ⊥
ftp_none s before signs rest h past e =
    let a = step s before signs rest 116 (codes "p://") (more_by 116 (omega arith) refl) h past e in
    let b = step s (letter a.c ∷ before) a.after rest 112 (codes "://") (more_by 112 (omega arith) refl) a.avoid past a.further in
    no_colon s (letter b.c ∷ letter a.c ∷ before) b.after rest b.avoid past b.further

never : (v : Bool) → (v ≡ true → ⊥) → v ≡ false
never true f = absurd (f refl)
never false f = refl

and_never : (u v : Bool) → (v ≡ true → ⊥) → (u && v) ≡ false
and_never true v f = never v f
and_never false v f = refl

-- at no character does a URL begin
pub scheme_none : (s : Setting) (before after : List ContentSign) (rest : List Glyph) (g : Glyph) → AllAvoid after → IsPast rest
    → scheme_len (g ∷ content_glyphs s before after rest) ≡ 0
unfolding scheme_len
scheme_none s before after rest g h past =
    let gs : List Glyph = content_glyphs s before after rest in
    rw (
      and_never (like_byte 104 g) (begins_like (codes "ttp://") gs) (http_none s before after rest h past),
      and_never (like_byte 104 g) (begins_like (codes "ttps://") gs) (https_none s before after rest h past),
      and_never (like_byte 102 g) (begins_like (codes "tp://") gs) (ftp_none s before after rest h past),
    )
    refl
