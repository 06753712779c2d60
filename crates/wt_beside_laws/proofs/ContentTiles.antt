-- The tiles of a content of text that is typed and nodes that stay, sign by sign.
use Rattle.std.proofs.Common.{arith, ◌≡◌, ℕ, suc, ◌+◌, ◌-◌, ◌<◌, ◌≤◌, Bool, true, false, Option, Some, None, List, [], ◌∷◌, ◌++◌, length, refl, sym, ap, ◌∙◌, subst, inl, inr, ◌⊎◌, All}
use Rattle.std.specs.Prelude.{◌&&◌, not, codes, encode_utf8}
use Rattle.std.proofs.lemmas.Bool.{cases_lt}
use Rattle.std.proofs.lemmas.Bool.Decides.{nat_tests}
use Rattle.std.proofs.lemmas.List.Elements.{All-nil, All-cons, All-head, All-tail}
use Rattle.std.proofs.lemmas.Str.{encode_ascii}
use Rattle.wt_names.proofs.Ascii.{IsWide, encode_wide, encode_some}
use Rattle.wt_guards.specs.Content.{ContentSign, letter, thing}
use Rattle.wt_guards.specs.Guards.{Setting, is_guarded}
use Rattle.wt_guards.specs.Letters.{is_escaped}
use Rattle.wt_tiles.specs.declared.context.Context.{Context}
use Rattle.wt_tiles.specs.declared.glyph.Glyph.{Glyph}
use Rattle.wt_tiles.specs.declared.glyph.Glyph.TheVariants as glyph
use Rattle.wt_tiles.specs.declared.shape.Shape.{Shape}
use Rattle.wt_tiles.specs.declared.shape.TileKind.TheVariants as kind
use Rattle.wt_tiles.specs.Firsts.{may_begin}
use Rattle.wt_tiles.specs.Glyphs.{is_in, byte_glyphs}
use Rattle.wt_tiles.specs.Links.{leaf}
use Rattle.wt_tiles.specs.Tiles.{size, form_at, Cut, cut_with, cuts}
use Rattle.wt_tiles.specs.Urls.{is_word}
use Rattle.wt_tiles.proofs.TagInsides.{no_form}
use Rattle.wt_beside_laws.specs.Beginnings.{AllAvoidSwitches, IsApart}
use Rattle.wt_beside_laws.specs.Cuts.{add_chars, add_tile, own_glyphs, own_form, add_node, guard_cut, letter_cut, content_cut, ends_word, is_word_last, form_before, StandsAs, AllStand, IsFree}
use Rattle.wt_beside_laws.specs.Glyphs.{guard_glyphs, letter_glyphs, content_glyphs, AllAvoid}
use Rattle.wt_beside_laws.proofs.TypedForms.{typed_none}

-- ---- characters

-- where no form begins
pub one_more : (cx : Context) (a : Bool) (b : ℕ) (more : List Glyph) (n : ℕ) (c : Cut) → form_at cx a (glyph.Byte b ∷ more) ≡ None
    → cuts cx (is_word b) 0 more ≡ add_chars n c → cuts cx a 0 (glyph.Byte b ∷ more) ≡ add_chars (suc n) c
one_more cx a b more n c e f =
    let again : ℕ → Cut = λ (m : ℕ). cuts cx (is_word b) m more in
    let one : suc (n + c.0) ≡ suc n + c.0 = omega arith in
    ap (λ (o : Option Shape). cut_with o again) e ∙ ap (λ (k : Cut). cut_with None (λ (m : ℕ). k)) f ∙ ap (λ (m : ℕ). (m, c.1)) one

pub none_more : (c : Cut) → c ≡ add_chars 0 c
none_more c = ap (λ (m : ℕ). (m, c.1)) (omega arith)

abbrev IsQuiet : ℕ → Type 0
IsQuiet b = (may_begin b ≡ false) × (is_word b ≡ false)

quiet_cuts : (cx : Context) (a : Bool) (bs : List ℕ) (more : List Glyph) (c : Cut) → All IsQuiet bs → 0 < length bs → cuts cx false 0 more ≡ c
    → cuts cx a 0 (byte_glyphs bs ++ more) ≡ add_chars (length bs) c
quiet_cuts cx a [] more c h some f = absurd (omega (arith, some))
quiet_cuts cx a (b ∷ []) more c h some f =
    let q : IsQuiet b = All-head IsQuiet b [] h in
    one_more cx a b more 0 c (no_form cx a b more q.0) (ap (λ (v : Bool). cuts cx v 0 more) q.1 ∙ f ∙ none_more c)
quiet_cuts cx a (b ∷ d ∷ bs) more c h some f =
    let q : IsQuiet b = All-head IsQuiet b (d ∷ bs) h in
    one_more cx a b (byte_glyphs (d ∷ bs) ++ more) (length (d ∷ bs)) c (no_form cx a b (byte_glyphs (d ∷ bs) ++ more) q.0)
    (quiet_cuts cx (is_word b) (d ∷ bs) more c (All-tail IsQuiet b (d ∷ bs) h) (omega arith) f)

wide_quiet : (b : ℕ) → 128 ≤ b → IsQuiet b
wide_quiet b le = (grind (arith, nat_tests), grind (arith, nat_tests))

all_quiet : (bs : List ℕ) → All IsWide bs → All IsQuiet bs
all_quiet [] h = All-nil IsQuiet
all_quiet (b ∷ bs) h = All-cons IsQuiet b bs (wide_quiet b (All-head IsWide b bs h)) (all_quiet bs (All-tail IsWide b bs h))

-- ---- what is put, and what is typed

-- `word` says whether a letter, digit or `_` may come before it
abbrev pub Follows : Context → Bool → List Glyph → Cut → Type 0
Follows cx word more c = (a : Bool) → (a ≡ true → word ≡ true) → cuts cx a 0 more ≡ c

pub guard_follows : (cx : Context) (word u : Bool) (more : List Glyph) (c : Cut) → Follows cx (not u && word) more c
    → Follows cx word (guard_glyphs u ++ more) (guard_cut u c)
guard_follows cx word true more c f a h = ap (add_tile (leaf kind.Atom 1)) (f false (λ z. cc))
guard_follows cx word false more c f a h = f a h

-- a character that is written as it is
plain_follows : (cx : Context) (a : Bool) (d : ℕ) (more : List Glyph) (c : Cut) → form_at cx a (glyph.Byte d ∷ more) ≡ None
    → Follows cx (is_word d) more c → cuts cx a 0 (byte_glyphs (encode_utf8 d) ++ more) ≡ add_chars (length (encode_utf8 d)) c
plain_follows cx a d more c e f = elim (cases_lt d 128) [
  | inl small ↦
      subst (λ bs. cuts cx a 0 (byte_glyphs bs ++ more) ≡ add_chars (length bs) c) (sym (encode_ascii d small))
      (one_more cx a d more 0 c e (f (is_word d) (λ z. z) ∙ none_more c))
  | inr wide ↦ quiet_cuts cx a (encode_utf8 d) more c (all_quiet (encode_utf8 d) (encode_wide d wide)) (encode_some d) (f false (λ z. cc))
]

pub letter_follows : (cx : Context) (word e : Bool) (d : ℕ) (more : List Glyph) (c : Cut)
    → (e ≡ false → (a : Bool) → form_at cx a (glyph.Byte d ∷ more) ≡ None) → Follows cx (is_word d) more c
    → Follows cx word (letter_glyphs e d ++ more) (letter_cut e d c)
letter_follows cx word true d more c n f a h = ap (add_tile (leaf kind.Atom 1)) (f false (λ z. cc))
letter_follows cx word false d more c n f a h = plain_follows cx a d more c (n refl a) f

-- ---- nodes that stay

skipped : (cx : Context) (a : Bool) (gs behind : List Glyph) → cuts cx a (length gs) (gs ++ behind) ≡ cuts cx (ends_word a gs) 0 behind
skipped cx a [] behind = refl
skipped cx a (g ∷ gs) behind = skipped cx (is_in is_word g) gs behind

delimiter_cuts : (cx : Context) (a : Bool) (bs : List ℕ) (own behind : List Glyph) (c : Cut) → own ≡ byte_glyphs bs → All IsQuiet bs → 0 < length bs
    → length (byte_glyphs bs) ≡ length bs → cuts cx false 0 behind ≡ c → cuts cx a 0 (own ++ behind) ≡ add_chars (length own) c
delimiter_cuts cx a bs own behind c i q some l f =
    subst (λ gs. cuts cx a 0 (gs ++ behind) ≡ add_chars (length gs) c) (sym i)
    (quiet_cuts cx a bs behind c q some f ∙ ap (λ (n : ℕ). add_chars n c) (sym l))

quiet_apostrophe : IsQuiet 39
quiet_apostrophe = (refl, refl)

two_quiet : All IsQuiet (39 ∷ 39 ∷ [])
two_quiet = All-cons IsQuiet 39 (39 ∷ []) quiet_apostrophe (All-cons IsQuiet 39 [] quiet_apostrophe (All-nil IsQuiet))

delimiter_follows : (cx : Context) (a : Bool) (own behind : List Glyph) (c : Cut) → (own ≡ byte_glyphs (codes "''")) ⊎ (own ≡ byte_glyphs (codes "'''"))
    → cuts cx false 0 behind ≡ c → cuts cx a 0 (own ++ behind) ≡ add_chars (length own) c
delimiter_follows cx a own behind c is f = elim is [
  | inl i ↦ delimiter_cuts cx a (39 ∷ 39 ∷ []) own behind c i two_quiet (omega arith) refl f
  | inr i ↦ delimiter_cuts cx a (39 ∷ 39 ∷ 39 ∷ []) own behind c i (All-cons IsQuiet 39 (39 ∷ 39 ∷ []) quiet_apostrophe two_quiet) (omega arith) refl f
]

pub form_follows : (cx : Context) (a : Bool) (w : Shape) (own behind : List Glyph) (c : Cut) → size w ≡ length own → form_before cx a own behind ≡ Some w
    → Follows cx (ends_word false own) behind c → cuts cx a 0 (own ++ behind) ≡ add_tile w c
form_follows cx a w [] behind c e k f = cc
form_follows cx a w (g ∷ gs) behind c e k f =
    let again : ℕ → Cut = λ (m : ℕ). cuts cx (is_in is_word g) m (gs ++ behind) in
    let left : size w - 1 ≡ length gs = omega (arith, e) in
    ap (λ (o : Option Shape). cut_with o again) k
    ∙ ap (λ (m : ℕ). add_tile w (again m)) left
    ∙ ap (add_tile w) (skipped cx (is_in is_word g) gs behind ∙ f (ends_word (is_in is_word g) gs) (λ z. z))

pub node_follows : (cx : Context) (word : Bool) (o : Option Shape) (own behind : List Glyph) (c : Cut) → StandsAs o cx word own behind
    → Follows cx (ends_word false own) behind c → Follows cx word (own ++ behind) (add_node o (length own) c)
node_follows cx word None own behind c is f a h = delimiter_follows cx a own behind c is (f false (λ z. cc))
node_follows cx word (Some w) own behind c is f a h = form_follows cx a w own behind c is.0 (is.1 a h) f

-- ---- all of it

pub content_follows : (cx : Context) (s : Setting) (before signs : List ContentSign) (rest : List Glyph) → AllAvoid signs → AllAvoidSwitches signs → IsApart rest
    → IsFree cx rest → AllStand cx s before signs rest
    → Follows cx (is_word_last before) (content_glyphs s before signs rest) (content_cut cx s before signs (cuts cx false 0 rest))
content_follows cx s before [] rest urls switches apart free stand =
    guard_follows cx (is_word_last before) (is_guarded s before []) rest (cuts cx false 0 rest) (λ a h. free a)
content_follows cx s before (letter d ∷ after) rest urls switches apart free stand =
    let u = is_guarded s before (letter d ∷ after) in
    let e = is_escaped s.within s.place before d after in
    let more : List Glyph = content_glyphs s (letter d ∷ before) after rest in
    let c : Cut = content_cut cx s (letter d ∷ before) after (cuts cx false 0 rest) in
    guard_follows cx (is_word_last before) u (letter_glyphs e d ++ more) (letter_cut e d c)
    (letter_follows cx (not u && is_word_last before) e d more c (λ z a. typed_none cx a s before d after rest z urls switches apart)
    (content_follows cx s (letter d ∷ before) after rest urls switches apart free stand))
content_follows cx s before (thing t ∷ after) rest urls switches apart free stand =
    let u = is_guarded s before (thing t ∷ after) in
    let own : List Glyph = own_glyphs t in
    let more : List Glyph = content_glyphs s (thing t ∷ before) after rest in
    let c : Cut = content_cut cx s (thing t ∷ before) after (cuts cx false 0 rest) in
    guard_follows cx (is_word_last before) u (own ++ more) (add_node (own_form cx own) (length own) c)
    (node_follows cx (not u && is_word_last before) (own_form cx own) own more c stand.0
    (content_follows cx s (thing t ∷ before) after rest urls.1 switches.1 apart free stand.1))

pub content_tiles : (cx : Context) (s : Setting) (signs : List ContentSign) (rest : List Glyph) → AllAvoid signs → AllAvoidSwitches signs → IsApart rest
    → IsFree cx rest → AllStand cx s [] signs rest
    → cuts cx false 0 (content_glyphs s [] signs rest) ≡ content_cut cx s [] signs (cuts cx false 0 rest)
content_tiles cx s signs rest urls switches apart free stand = content_follows cx s [] signs rest urls switches apart free stand false (λ z. z)
