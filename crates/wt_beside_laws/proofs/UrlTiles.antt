-- External links, bare URLs and switches are the same tiles whatever is read behind them, but for what goes on with a URL.
use Rattle.std.proofs.Common.{arith, ◌≡◌, ℕ, zero, suc, ◌+◌, ◌-◌, ◌<◌, ◌≤◌, ◌==◌, Bool, true, false, Option, Some, None, List, [], ◌∷◌, ◌++◌, length, take, drop, refl, sym, ap, ap₂, ◌∙◌, subst, nat_lt}
use Rattle.std.specs.Prelude.{◌&&◌, not, codes, option_map, if◌then◌else◌}
use Rattle.std.proofs.lemmas.Bool.Decides.{nat_tests}
use Rattle.std.proofs.lemmas.List.{drop-append-le, take-append-le, length-drop, length-take}
use Rattle.std.specs.Char.{to_ascii_lowercase}
use Rattle.wt_tiles.specs.declared.glyph.Glyph.{Glyph}
use Rattle.wt_tiles.specs.declared.glyph.Glyph.TheVariants as glyph
use Rattle.wt_tiles.specs.declared.glyph.GlyphClass.{GlyphClass}
use Rattle.wt_tiles.specs.declared.glyph.GlyphClass.TheVariants as class
use Rattle.wt_tiles.specs.declared.shape.Shape.{Shape}
use Rattle.wt_tiles.specs.Glyphs.{is_in, in_class, first_is, run_len, begins, like_byte, begins_like}
use Rattle.wt_tiles.specs.Links.{place}
use Rattle.wt_tiles.specs.Tiles.{size}
use Rattle.wt_tiles.specs.Urls.{scheme_len, is_url_char, is_url_glyph, url_run, url_items, text_len, ext_shape, ext_link_after, ext_link_of, ext_link_at, kept_len, bare_shape, bare_url_of, bare_url_at}
use Rattle.wt_beside_laws.specs.Nodes.{is_quote_last}
use Rattle.wt_beside_laws.specs.Tiles.{IsPastUrl}
use Rattle.wt_beside_laws.proofs.LinkTiles.{place_by, same_shape, if_some}

-- ---- places and runs that are decided by the first item

abbrev pub IsOfFirst : (List Glyph → Bool) → Type 0
IsOfFirst p = (g : Glyph) (gs rest : List Glyph) → p (g ∷ (gs ++ rest)) ≡ p (g ∷ gs)

place_first : (stop bar : List Glyph → Bool) → IsOfFirst stop → IsOfFirst bar → (gs rest : List Glyph) (n : ℕ) → place stop bar gs ≡ Some n
    → place stop bar (gs ++ rest) ≡ Some n
place_first stop bar s b [] rest n e = cc
place_first stop bar s b (g ∷ gs) rest n e =
    ap (λ (v : Bool). if v then Some 0 else (if bar (g ∷ (gs ++ rest)) then None else option_map (λ (i : ℕ). suc i) (place stop bar (gs ++ rest)))) (s g gs rest)
    ∙ ap (λ (v : Bool). if stop (g ∷ gs) then Some 0 else (if v then None else option_map (λ (i : ℕ). suc i) (place stop bar (gs ++ rest)))) (b g gs rest)
    ∙ place_by (stop (g ∷ gs)) (bar (g ∷ gs)) (place stop bar gs) (place stop bar (gs ++ rest)) n e (λ m z k. place_first stop bar s b gs rest m k)

text_stays : (gs rest : List Glyph) (n : ℕ) → text_len gs ≡ Some n → text_len (gs ++ rest) ≡ Some n
text_stays gs rest n e = place_first (first_is (class.Only 93)) (first_is (class.Only 91)) (λ g hs us. refl) (λ g hs us. refl) gs rest n e

-- one that ends before the end
pub run_within : (k : GlyphClass) (gs rest : List Glyph) → run_len k gs < length gs → run_len k (gs ++ rest) ≡ run_len k gs
run_within k [] rest lt = absurd (omega (arith, lt))
run_within k (g ∷ gs) rest lt = run_by (in_class k g) refl (λ less. run_within k gs rest less)
  where
    run_by : (v : Bool) → in_class k g ≡ v → (run_len k gs < length gs → run_len k (gs ++ rest) ≡ run_len k gs) → run_len k (g ∷ (gs ++ rest)) ≡ run_len k (g ∷ gs)
    run_by true e f =
        let same : run_len k (g ∷ gs) ≡ 1 + run_len k gs = ap (λ (u : Bool). if u then 1 + run_len k gs else 0) e in
        ap (λ (n : ℕ). if in_class k g then 1 + n else 0) (f (omega (arith, lt, same)))
    run_by false e f = ap (λ (u : Bool). if u then 1 + run_len k (gs ++ rest) else 0) e ∙ sym (ap (λ (u : Bool). if u then 1 + run_len k gs else 0) e)

and_none : (b : Bool) → (b && false) ≡ false
and_none true = refl
and_none false = refl

-- ---- how a URL begins

pub like_stays : (word : List ℕ) (gs rest : List Glyph) → length word ≤ length gs → begins_like word (gs ++ rest) ≡ begins_like word gs
like_stays [] gs rest le = refl
like_stays (b ∷ word) [] rest le = absurd (omega (arith, le))
like_stays (b ∷ word) (g ∷ gs) rest le = ap (λ (v : Bool). like_byte b g && v) (like_stays word gs rest (omega (arith, le)))

pub scheme_stays : (gs rest : List Glyph) → 8 ≤ length gs → scheme_len (gs ++ rest) ≡ scheme_len gs
unfolding scheme_len
scheme_stays gs rest le =
    ap (λ (v : Bool). if v then 7 else (if begins_like (codes "https://") (gs ++ rest) then 8 else (if begins_like (codes "ftp://") (gs ++ rest) then 6 else 0)))
    (like_stays (codes "http://") gs rest (omega (arith, le)))
    ∙ ap (λ (v : Bool). if begins_like (codes "http://") gs then 7 else (if v then 8 else (if begins_like (codes "ftp://") (gs ++ rest) then 6 else 0)))
    (like_stays (codes "https://") gs rest (omega (arith, le)))
    ∙ ap (λ (v : Bool). if begins_like (codes "http://") gs then 7 else (if begins_like (codes "https://") gs then 8 else (if v then 6 else 0)))
    (like_stays (codes "ftp://") gs rest (omega (arith, le)))

-- ---- how far it goes

url_by : (g : Glyph) (gs rest : List Glyph) → url_run (gs ++ rest) ≡ url_run gs → begins (codes "''") (g ∷ (gs ++ rest)) ≡ begins (codes "''") (g ∷ gs)
    → url_run (g ∷ (gs ++ rest)) ≡ url_run (g ∷ gs)
url_by g gs rest e f =
    ap₂ (λ (v : Bool) (n : ℕ). if is_url_glyph g && not v then suc n else 0) f e

-- one that ends before the end
url_within : (gs rest : List Glyph) → url_run gs < length gs → url_run (gs ++ rest) ≡ url_run gs
url_within [] rest lt = absurd (omega (arith, lt))
url_within (g ∷ []) rest lt = last_by (is_url_glyph g) refl
  where
    last_by : (v : Bool) → is_url_glyph g ≡ v → url_run (g ∷ rest) ≡ url_run (g ∷ [])
    last_by true e =
        let one : begins (codes "''") (g ∷ []) ≡ false = and_none (is_in (λ (b : ℕ). b == 39) g) in
        let is : url_run (g ∷ []) ≡ 1 = ap₂ (λ (u v : Bool). if u && not v then 1 else 0) e one in
        absurd (omega (arith, lt, is))
    last_by false e =
        ap (λ (u : Bool). if u && not (begins (codes "''") (g ∷ rest)) then suc (url_run rest) else 0) e
        ∙ sym (ap (λ (u : Bool). if u && not (begins (codes "''") (g ∷ [])) then 1 else 0) e)
url_within (g ∷ h ∷ gs) rest lt = more_by (is_url_glyph g && not (begins (codes "''") (g ∷ h ∷ gs))) refl (λ less. url_within (h ∷ gs) rest less)
  where
    more_by : (v : Bool) → (is_url_glyph g && not (begins (codes "''") (g ∷ h ∷ gs))) ≡ v
        → (url_run (h ∷ gs) < length (h ∷ gs) → url_run (h ∷ (gs ++ rest)) ≡ url_run (h ∷ gs)) → url_run (g ∷ h ∷ (gs ++ rest)) ≡ url_run (g ∷ h ∷ gs)
    more_by true e f =
        let is : url_run (g ∷ h ∷ gs) ≡ suc (url_run (h ∷ gs)) = ap (λ (u : Bool). if u then suc (url_run (h ∷ gs)) else 0) e in
        url_by g (h ∷ gs) rest (f (omega (arith, lt, is))) refl
    more_by false e f =
        ap (λ (u : Bool). if u then suc (url_run (h ∷ (gs ++ rest))) else 0) e ∙ sym (ap (λ (u : Bool). if u then suc (url_run (h ∷ gs)) else 0) e)

quote_url : (g : Glyph) (gs : List Glyph) → is_url_glyph g ≡ false → begins (codes "'") (g ∷ gs) ≡ false
unfolding is_url_char
quote_url (glyph.Byte b) gs e = byte_by (b == 39) refl
  where
    byte_by : (v : Bool) → (b == 39) ≡ v → begins (codes "'") (glyph.Byte b ∷ gs) ≡ false
    byte_by true f = let is : b ≡ 39 = grind (arith, nat_tests, f) in absurd (let z : is_url_char 39 ≡ false = subst (λ (c : ℕ). is_url_char c ≡ false) is e in cc)
    byte_by false f = ap (λ (u : Bool). u && true) f
quote_url (glyph.Entity c) gs e = refl
quote_url glyph.Atom gs e = refl
quote_url glyph.Mark gs e = refl

quotes_past : (g : Glyph) (rest : List Glyph) → IsPastUrl rest → begins (codes "''") (g ∷ rest) ≡ begins (codes "''") (g ∷ [])
quotes_past g [] e = refl
quotes_past g (r ∷ rest) e =
    ap (λ (v : Bool). is_in (λ (b : ℕ). b == 39) g && v) (quote_url r rest e) ∙ refl

pub url_past : (gs rest : List Glyph) → IsPastUrl rest → url_run (gs ++ rest) ≡ url_run gs
url_past [] [] e = refl
url_past [] (r ∷ rest) e = ap (λ (u : Bool). if u && not (begins (codes "''") (r ∷ rest)) then suc (url_run rest) else 0) e
url_past (g ∷ []) rest e = url_by g [] rest (url_past [] rest e) (quotes_past g rest e)
url_past (g ∷ h ∷ gs) rest e = url_by g (h ∷ gs) rest (url_past (h ∷ gs) rest e) refl

-- before two apostrophes, where it ends with none
pub url_unquoted : (gs rest : List Glyph) → is_quote_last gs ≡ false → begins (codes "''") rest ≡ true → url_run (gs ++ rest) ≡ url_run gs
url_unquoted [] [] l q = cc
url_unquoted [] (r ∷ rest) l q =
    ap (λ (u : Bool). if is_url_glyph r && not u then suc (url_run rest) else 0) q
    ∙ ap (λ (v : Bool). if v then suc (url_run rest) else 0) (and_none (is_url_glyph r))
url_unquoted (g ∷ []) rest l q =
    url_by g [] rest (url_unquoted [] rest refl q)
    (ap (λ (v : Bool). v && begins (codes "'") rest) l ∙ sym (ap (λ (v : Bool). v && begins (codes "'") []) l))
url_unquoted (g ∷ h ∷ gs) rest l q = url_by g (h ∷ gs) rest (url_unquoted (h ∷ gs) rest l q) refl

unquoted_drop : (n : ℕ) (gs : List Glyph) → is_quote_last gs ≡ false → is_quote_last (drop n gs) ≡ false
unquoted_drop zero gs l = l
unquoted_drop (suc n) [] l = refl
unquoted_drop (suc n) (g ∷ []) l = unquoted_drop n [] refl
unquoted_drop (suc n) (g ∷ h ∷ gs) l = unquoted_drop n (h ∷ gs) l

-- ---- an external link

items_stay : (n : ℕ) (gs rest : List Glyph) → n ≤ length gs → url_run (drop n gs) < length (drop n gs)
    → take (url_run (drop n (gs ++ rest))) (drop n (gs ++ rest)) ≡ take (url_run (drop n gs)) (drop n gs)
items_stay n gs rest le lt =
    let us : List Glyph = drop n gs in
    let r : ℕ = url_run us in
    ap (λ hs. take (url_run hs) hs) (drop-append-le n gs rest le)
    ∙ ap (λ (i : ℕ). take i (us ++ rest)) (url_within us rest lt)
    ∙ take-append-le r us rest (omega (arith, lt))

-- what its `[` and URL leave, and where its text ends
pub record IsAfter (n : ℕ) (gs : List Glyph) (w : Shape) : Type 0 where
  pub k : ℕ
  pub text : text_len (drop (n + run_len class.Blank (drop n gs)) gs) ≡ Some k
  pub is : ext_shape (n + run_len class.Blank (drop n gs)) k ≡ w

after_made : (m : ℕ) (o : Option ℕ) (w : Shape) → option_map (ext_shape m) o ≡ Some w → (k : ℕ) × (o ≡ Some k) × (ext_shape m k ≡ w)
after_made m None w e = cc
after_made m (Some k) w e = (k, refl, same_shape (ext_shape m k) w e)

pub is_after : (n : ℕ) (gs : List Glyph) (w : Shape) → ext_link_after n gs ≡ Some w → IsAfter n gs w
is_after n gs w e =
    let m : ℕ = n + run_len class.Blank (drop n gs) in
    let r = after_made m (text_len (drop m gs)) w e in
    record { k = r.0; text = r.1; is = r.2 }

after_stays : (n : ℕ) (gs rest : List Glyph) (w : Shape) → size w ≤ length gs → ext_link_after n gs ≡ Some w → ext_link_after n (gs ++ rest) ≡ Some w
after_stays n gs rest w le e =
    let a = is_after n gs w e in
    let b : ℕ = run_len class.Blank (drop n gs) in
    let whole : size (ext_shape (n + b) a.k) ≤ length gs = subst (λ (v : Shape). size v ≤ length gs) (sym a.is) le in
    let size_is : n + b + a.k + 1 ≤ length gs = omega (arith, whole) in
    let left : length (drop n gs) ≡ length gs - n = length-drop n gs in
    let blank : run_len class.Blank (drop n (gs ++ rest)) ≡ b =
    ap (run_len class.Blank) (drop-append-le n gs rest (omega (arith, size_is))) ∙ run_within class.Blank (drop n gs) rest (omega (arith, size_is, left)) in
    ap (λ (i : ℕ). option_map (ext_shape (n + i)) (text_len (drop (n + i) (gs ++ rest)))) blank
    ∙ ap (λ hs. option_map (ext_shape (n + b)) (text_len hs)) (drop-append-le (n + b) gs rest (omega (arith, size_is)))
    ∙ ap (option_map (ext_shape (n + b))) (text_stays (drop (n + b) gs) rest a.k a.text)
    ∙ ap (λ (v : Shape). Some v) a.is

-- both numbers are some
pub both_some : (a b : ℕ) (o : Option Shape) (w : Shape) → (if nat_lt 0 a && nat_lt 0 b then o else None) ≡ Some w → (o ≡ Some w) × (1 ≤ a) × (1 ≤ b)
both_some a b o w e = some_by (nat_lt 0 a) (nat_lt 0 b) refl refl e
  where
    some_by : (u v : Bool) → nat_lt 0 a ≡ u → nat_lt 0 b ≡ v → (if u && v then o else None) ≡ Some w → (o ≡ Some w) × (1 ≤ a) × (1 ≤ b)
    some_by true true f g h = (h, grind (arith, nat_tests, f), grind (arith, nat_tests, g))
    some_by true false f g h = cc
    some_by false v f g h = cc

scheme_by : (a b c : Bool) → 1 ≤ (if a then 7 else (if b then 8 else (if c then 6 else 0))) → 6 ≤ (if a then 7 else (if b then 8 else (if c then 6 else 0)))
scheme_by true b c le = omega arith
scheme_by false true c le = omega arith
scheme_by false false true le = omega arith
scheme_by false false false le = absurd (omega (arith, le))

pub scheme_some : (gs : List Glyph) → 1 ≤ scheme_len gs → 6 ≤ scheme_len gs
unfolding scheme_len
scheme_some gs le = scheme_by (begins_like (codes "http://") gs) (begins_like (codes "https://") gs) (begins_like (codes "ftp://") gs) le

-- the text is behind the URL, so this isn't all that the list has
record EndsInside (s : ℕ) (hs : List Glyph) : Type 0 where
  long : 8 ≤ length hs
  fits : s ≤ length hs
  ends : url_run (drop s hs) < length (drop s hs)

run_short : (r : ℕ) (us : List Glyph) → length (take r us) < length us → r < length us
run_short r us lt = let cut = length-take r us in grind (arith, cut, lt)

ends_inside : (s : ℕ) (a : Glyph) (hs : List Glyph) (w : Shape) → size w ≤ 1 + length hs → 6 ≤ s → 1 ≤ length (take (url_run (drop s hs)) (drop s hs))
    → ext_link_after (1 + s + length (take (url_run (drop s hs)) (drop s hs))) (a ∷ hs) ≡ Some w → EndsInside s hs
ends_inside s a hs w le six some e =
    let m : ℕ = length (take (url_run (drop s hs)) (drop s hs)) in
    let f = is_after (1 + s + m) (a ∷ hs) w e in
    let whole : size (ext_shape (1 + s + m + run_len class.Blank (drop (1 + s + m) (a ∷ hs))) f.k) ≤ 1 + length hs =
    subst (λ (v : Shape). size v ≤ 1 + length hs) (sym f.is) le in
    let left : length (drop s hs) ≡ length hs - s = length-drop s hs in
    let short : s + m + 1 ≤ length hs = omega (arith, whole) in
    record { long = omega (arith, short, six, some); fits = omega (arith, short); ends = run_short (url_run (drop s hs)) (drop s hs) (omega (arith, short, left)) }

pub ext_stays : (a : Glyph) (hs rest : List Glyph) (w : Shape) → size w ≤ 1 + length hs → ext_link_at (a ∷ hs) ≡ Some w → ext_link_at (a ∷ (hs ++ rest)) ≡ Some w
unfolding ext_link_at
ext_stays a hs rest w le e =
    let s : ℕ = scheme_len hs in
    let m : ℕ = length (url_items hs) in
    let f = if_some (first_is (class.Only 91) (a ∷ hs)) (ext_link_of s m (a ∷ hs)) w e in
    let g = both_some s m (ext_link_after (1 + s + m) (a ∷ hs)) w f.1 in
    let i = ends_inside s a hs w le (scheme_some hs g.1) g.2 g.0 in
    let scheme : scheme_len (hs ++ rest) ≡ s = scheme_stays hs rest i.long in
    let own : length (url_items (hs ++ rest)) ≡ m =
    ap (λ (j : ℕ). length (take (url_run (drop j (hs ++ rest))) (drop j (hs ++ rest)))) scheme ∙ ap length (items_stay s hs rest i.fits i.ends) in
    let all : size w ≤ suc (length hs) = omega (arith, le) in
    let after : ext_link_after (1 + s + m) (a ∷ (hs ++ rest)) ≡ Some w = after_stays (1 + s + m) (a ∷ hs) rest w all g.0 in
    ap (λ (v : Bool). if v then ext_link_of (scheme_len (hs ++ rest)) (length (url_items (hs ++ rest))) (a ∷ (hs ++ rest)) else None) f.0
    ∙ ap₂ (λ (j k : ℕ). ext_link_of j k (a ∷ (hs ++ rest))) scheme own
    ∙ ap (λ (o : Option Shape). if nat_lt 0 s && nat_lt 0 m then o else None) after
    ∙ ap (λ (o : Option Shape). if nat_lt 0 s && nat_lt 0 m then o else None) (sym g.0) ∙ f.1

-- ---- a bare URL

pub like_first : (b c : ℕ) (g : Glyph) → (b == c) ≡ false → like_byte b g ≡ true → like_byte c g ≡ false
like_first b c (glyph.Byte d) n e = let z : to_ascii_lowercase d ≡ b = grind (arith, nat_tests, e) in subst (λ (i : ℕ). (i == c) ≡ false) (sym z) n
like_first b c (glyph.Entity d) n e = cc
like_first b c glyph.Atom n e = cc
like_first b c glyph.Mark n e = cc

like_long : (word : List ℕ) (gs : List Glyph) → begins_like word gs ≡ true → length word ≤ length gs
like_long [] gs e = omega arith
like_long (b ∷ word) [] e = cc
like_long (b ∷ word) (g ∷ gs) e = let le = like_long word gs (right_true (like_byte b g) (begins_like word gs) e) in omega (arith, le)
  where
    right_true : (u v : Bool) → (u && v) ≡ true → v ≡ true
    right_true true v f = f
    right_true false v f = cc

pub like_first_of : (b : ℕ) (word : List ℕ) (g : Glyph) (gs : List Glyph) → begins_like (b ∷ word) (g ∷ gs) ≡ true → like_byte b g ≡ true
like_first_of b word g gs e = left_true (like_byte b g) (begins_like word gs) e
  where
    left_true : (u v : Bool) → (u && v) ≡ true → u ≡ true
    left_true true v f = refl
    left_true false v f = cc

not_http : (c : ℕ) (word : List ℕ) (gs rest : List Glyph) → (102 == c) ≡ false → begins_like (codes "ftp://") gs ≡ true → begins_like (c ∷ word) (gs ++ rest) ≡ false
not_http c word [] rest n e = cc
not_http c word (g ∷ gs) rest n e = ap (λ (v : Bool). v && begins_like word (gs ++ rest)) (like_first 102 c g n (like_first_of 102 (codes "tp://") g gs e))

scheme_cases : (gs rest : List Glyph) (a b c : Bool) → begins_like (codes "http://") gs ≡ a → begins_like (codes "https://") gs ≡ b → begins_like (codes "ftp://") gs ≡ c
    → 1 ≤ (if a then 7 else (if b then 8 else (if c then 6 else 0)))
    → (scheme_len (gs ++ rest) ≡ (if a then 7 else (if b then 8 else (if c then 6 else 0)))) × ((if a then 7 else (if b then 8 else (if c then 6 else 0))) ≤ length gs)
unfolding scheme_len
scheme_cases gs rest true b c e f g le =
    let long = like_long (codes "http://") gs e in (
      ap (λ (v : Bool). if v then 7 else (if begins_like (codes "https://") (gs ++ rest) then 8 else (if begins_like (codes "ftp://") (gs ++ rest) then 6 else 0)))
          (like_stays (codes "http://") gs rest long ∙ e),
      long,
    )
scheme_cases gs rest false true c e f g le =
    let long = like_long (codes "https://") gs f in (
      ap₂ (λ (u v : Bool). if u then 7 else (if v then 8 else (if begins_like (codes "ftp://") (gs ++ rest) then 6 else 0)))
          (like_stays (codes "http://") gs rest (omega (arith, long)) ∙ e) (like_stays (codes "https://") gs rest long ∙ f),
      long,
    )
scheme_cases gs rest false false true e f g le =
    let long = like_long (codes "ftp://") gs g in (
      ap₂ (λ (u v : Bool). if u then 7 else (if v then 8 else (if begins_like (codes "ftp://") (gs ++ rest) then 6 else 0)))
          (not_http 104 (codes "ttp://") gs rest refl g) (not_http 104 (codes "ttps://") gs rest refl g)
          ∙ ap (λ (v : Bool). if v then 6 else 0) (like_stays (codes "ftp://") gs rest long ∙ g),
      long,
    )
scheme_cases gs rest false false false e f g le = absurd (omega (arith, le))

some_scheme : (gs rest : List Glyph) → 1 ≤ scheme_len gs → (scheme_len (gs ++ rest) ≡ scheme_len gs) × (scheme_len gs ≤ length gs)
unfolding scheme_len
some_scheme gs rest le =
    scheme_cases gs rest (begins_like (codes "http://") gs) (begins_like (codes "https://") gs) (begins_like (codes "ftp://") gs) refl refl refl le

run_fits : (gs : List Glyph) → url_run gs ≤ length gs
run_fits [] = omega arith
run_fits (g ∷ gs) = fits_by (is_url_glyph g && not (begins (codes "''") (g ∷ gs))) (run_fits gs)
  where
    fits_by : (v : Bool) → url_run gs ≤ length gs → (if v then suc (url_run gs) else 0) ≤ suc (length gs)
    fits_by true le = omega (arith, le)
    fits_by false le = omega arith

-- no more items are of it
bare_by_run : (gs rest : List Glyph) (w : Shape) → url_run (drop (scheme_len gs) gs ++ rest) ≡ url_run (drop (scheme_len gs) gs)
    → bare_url_at false gs ≡ Some w → bare_url_at false (gs ++ rest) ≡ Some w
unfolding bare_url_at
bare_by_run gs rest w same e =
    let s : ℕ = scheme_len gs in
    let us : List Glyph = drop s gs in
    let g = both_some s (kept_len (url_items gs)) (Some (bare_shape (s + kept_len (url_items gs)))) w e in
    let c = some_scheme gs rest g.1 in
    let items : url_items (gs ++ rest) ≡ url_items gs =
    ap (λ (j : ℕ). take (url_run (drop j (gs ++ rest))) (drop j (gs ++ rest))) c.0
    ∙ ap (λ hs. take (url_run hs) hs) (drop-append-le s gs rest c.1)
    ∙ ap (λ (i : ℕ). take i (us ++ rest)) same
    ∙ take-append-le (url_run us) us rest (run_fits us) in
    ap₂ (λ (i : ℕ) (hs : List Glyph). bare_url_of i (kept_len hs)) c.0 items ∙ e

-- behind it is no item of a URL
pub bare_stays : (gs rest : List Glyph) (w : Shape) → IsPastUrl rest → bare_url_at false gs ≡ Some w → bare_url_at false (gs ++ rest) ≡ Some w
bare_stays gs rest w past e = bare_by_run gs rest w (url_past (drop (scheme_len gs) gs) rest past) e

-- behind it are two apostrophes
pub bare_unquoted : (gs rest : List Glyph) (w : Shape) → is_quote_last gs ≡ false → begins (codes "''") rest ≡ true → bare_url_at false gs ≡ Some w
    → bare_url_at false (gs ++ rest) ≡ Some w
bare_unquoted gs rest w last quotes e =
    bare_by_run gs rest w (url_unquoted (drop (scheme_len gs) gs) rest (unquoted_drop (scheme_len gs) gs last) quotes) e
