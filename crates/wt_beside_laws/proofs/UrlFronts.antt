-- An external link or a bare URL that is all of some items, whatever is read behind them, is the same tile of these items alone.
use Rattle.std.proofs.Common.{arith, ◌≡◌, ℕ, zero, suc, ◌+◌, ◌-◌, ◌<◌, ◌≤◌, ◌==◌, Bool, true, false, Option, Some, None, List, [], ◌∷◌, ◌++◌, length, take, drop, refl, sym, ap, ap₂, ◌∙◌, subst, nat_lt, inl, inr, ◌⊎◌}
use Rattle.std.specs.Prelude.{◌&&◌, ◌||◌, not, codes, option_map, reverse, if◌then◌else◌}
use Rattle.std.specs.List.{list_any, list_all, prefix_len}
use Rattle.std.proofs.lemmas.Bool.Decides.{nat_tests}
use Rattle.std.proofs.lemmas.List.{drop-append-le, length-drop, length-take, length-append, length-reverse, drop-drop, reverse-append}
use Rattle.std.proofs.lemmas.List.Folds.{list_any-append}
use Rattle.std.proofs.lemmas.List.Sums.{prefix_len-le-length}
use Rattle.wt_tiles.specs.declared.glyph.Glyph.{Glyph}
use Rattle.wt_tiles.specs.declared.glyph.Glyph.TheVariants as glyph
use Rattle.wt_tiles.specs.declared.glyph.GlyphClass.{GlyphClass}
use Rattle.wt_tiles.specs.declared.glyph.GlyphClass.TheVariants as class
use Rattle.wt_tiles.specs.declared.shape.Shape.{Shape}
use Rattle.wt_tiles.specs.declared.shape.TileKind.TheVariants as kind
use Rattle.wt_tiles.specs.Glyphs.{is_in, in_class, first_is, run_len, begins, like_byte, begins_like}
use Rattle.wt_tiles.specs.Links.{place}
use Rattle.wt_tiles.specs.Tiles.{size}
use Rattle.wt_tiles.specs.Urls.{scheme_len, is_url_char, is_url_glyph, url_run, url_items, text_len, ext_shape, ext_link_after, ext_link_of, ext_link_at, is_dropped, has_paren, kept_len, bare_shape, bare_url_of, bare_url_at}
use Rattle.wt_tiles.proofs.LinkFits.{OptPlace, place_fits}
use Rattle.wt_tiles.proofs.UrlFits.{url_run_le, kept_le}
use Rattle.wt_beside_laws.specs.Nodes.{is_quote_last}
use Rattle.wt_beside_laws.specs.Stood.{EndsUrl, is_url_end}
use Rattle.wt_beside_laws.proofs.LinkTiles.{place_by, same_shape, if_some, first_stays}
use Rattle.wt_beside_laws.proofs.UrlTiles.{IsOfFirst, is_after, both_some, scheme_stays, scheme_some, like_stays}

-- ---- places and runs that are decided by the first item

text_by : (stop bar : List Glyph → Bool) → IsOfFirst stop → IsOfFirst bar → (gs rest : List Glyph) (n : ℕ) → place stop bar (gs ++ rest) ≡ Some n → n < length gs
    → place stop bar gs ≡ Some n
text_by stop bar s b [] rest n e lt = absurd (omega (arith, lt))
text_by stop bar s b (g ∷ gs) rest n e lt =
    let after : Option ℕ = place stop bar (gs ++ rest) in
    place_by (stop (g ∷ gs)) (bar (g ∷ gs)) after (place stop bar gs) n
    (ap (λ (v : Bool). if stop (g ∷ gs) then Some 0 else (if v then None else option_map (λ (i : ℕ). suc i) after)) (sym (b g gs rest))
    ∙ ap (λ (v : Bool). if v then Some 0 else (if bar (g ∷ (gs ++ rest)) then None else option_map (λ (i : ℕ). suc i) after)) (sym (s g gs rest)) ∙ e)
    (λ m z k. text_by stop bar s b gs rest m k (omega (arith, lt, z)))

text_front : (gs rest : List Glyph) (n : ℕ) → text_len (gs ++ rest) ≡ Some n → n < length gs → text_len gs ≡ Some n
text_front gs rest n e lt = text_by (first_is (class.Only 93)) (first_is (class.Only 91)) (λ g hs us. refl) (λ g hs us. refl) gs rest n e lt

-- one that ends in the front
pub run_front : (k : GlyphClass) (us rest : List Glyph) → run_len k (us ++ rest) < length us → run_len k us ≡ run_len k (us ++ rest)
run_front k [] rest lt = absurd (omega (arith, lt))
run_front k (u ∷ us) rest lt = front_by (in_class k u) refl (λ less. run_front k us rest less)
  where
    front_by : (v : Bool) → in_class k u ≡ v → (run_len k (us ++ rest) < length us → run_len k us ≡ run_len k (us ++ rest)) → run_len k (u ∷ us) ≡ run_len k (u ∷ (us ++ rest))
    front_by true e f =
        let same : run_len k (u ∷ (us ++ rest)) ≡ 1 + run_len k (us ++ rest) = ap (λ (b : Bool). if b then 1 + run_len k (us ++ rest) else 0) e in
        ap (λ (n : ℕ). if in_class k u then 1 + n else 0) (f (omega (arith, lt, same)))
    front_by false e f = ap (λ (b : Bool). if b then 1 + run_len k us else 0) e ∙ sym (ap (λ (b : Bool). if b then 1 + run_len k (us ++ rest) else 0) e)

-- ---- how far a URL goes

-- it ends before the last item of the front, or before a `]`
abbrev EndsBefore : ℕ → List Glyph → Type 0
EndsBefore n us = (n + 2 ≤ length us) ⊎ (first_is (class.Only 93) (drop n us) ≡ true)

bracket_ends : (g : Glyph) → in_class (class.Only 93) g ≡ true → is_url_glyph g ≡ false
unfolding is_url_char
bracket_ends (glyph.Byte b) e = let is : b ≡ 93 = grind (arith, nat_tests, e) in subst (λ (c : ℕ). is_url_char c ≡ false) (sym is) refl
bracket_ends (glyph.Entity c) e = cc
bracket_ends glyph.Atom e = cc
bracket_ends glyph.Mark e = cc

no_url : (g : Glyph) (gs : List Glyph) → is_url_glyph g ≡ false → url_run (g ∷ gs) ≡ 0
no_url g gs e = ap (λ (v : Bool). if v && not (begins (codes "''") (g ∷ gs)) then suc (url_run gs) else 0) e

one_front : (g : Glyph) (rest : List Glyph) → url_run (g ∷ rest) ≡ 0 → EndsBefore 0 (g ∷ []) → url_run (g ∷ []) ≡ url_run (g ∷ rest)
one_front g rest z (inl le) = absurd (omega (arith, le))
one_front g rest z (inr close) = no_url g [] (bracket_ends g close) ∙ sym z

url_front : (n : ℕ) (us rest : List Glyph) → url_run (us ++ rest) ≡ n → n < length us → EndsBefore n us → url_run us ≡ n
url_front n [] rest e lt ends = absurd (omega (arith, lt))
url_front n (g ∷ []) rest e lt ends =
    let none : n ≡ 0 = omega (arith, lt) in
    one_front g rest (e ∙ none) (subst (λ (m : ℕ). EndsBefore m (g ∷ [])) none ends) ∙ e
url_front n (g ∷ h ∷ us) rest e lt ends =
    front_by n (is_url_glyph g && not (begins (codes "''") (g ∷ h ∷ us))) e lt ends (λ m z less far. url_front m (h ∷ us) rest z less far)
  where
    front_by : (m : ℕ) (v : Bool) → (if v then suc (url_run (h ∷ (us ++ rest))) else 0) ≡ m → m < length (g ∷ h ∷ us) → EndsBefore m (g ∷ h ∷ us)
        → ((i : ℕ) → url_run (h ∷ (us ++ rest)) ≡ i → i < length (h ∷ us) → EndsBefore i (h ∷ us) → url_run (h ∷ us) ≡ i)
        → (if v then suc (url_run (h ∷ us)) else 0) ≡ m
    front_by zero v z less far f = zero_by v z
      where
        zero_by : (u : Bool) → (if u then suc (url_run (h ∷ (us ++ rest))) else 0) ≡ 0 → (if u then suc (url_run (h ∷ us)) else 0) ≡ 0
        zero_by true y = absurd (omega (arith, y))
        zero_by false y = refl
    front_by (suc m) false z less far f = z
    front_by (suc m) true z less (inl le) f = ap (λ (i : ℕ). suc i) (f m (omega (arith, z)) (omega (arith, less)) (inl (omega (arith, le))))
    front_by (suc m) true z less (inr close) f = ap (λ (i : ℕ). suc i) (f m (omega (arith, z)) (omega (arith, less)) (inr close))

-- ---- an external link

first_front : (k : GlyphClass) (us rest : List Glyph) → 1 ≤ length us → first_is k (us ++ rest) ≡ true → first_is k us ≡ true
first_front k us rest le e = sym (first_stays k us rest le) ∙ e

-- where its text ends
close_is : (o : Option ℕ) (gs : List Glyph) (k : ℕ) → OptPlace (first_is (class.Only 93)) gs o → o ≡ Some k → first_is (class.Only 93) (drop k gs) ≡ true
close_is o gs k f e = let r : OptPlace (first_is (class.Only 93)) gs (Some k) = subst (λ (p : Option ℕ). OptPlace (first_is (class.Only 93)) gs p) e f in r.0

pub text_closes : (gs : List Glyph) (k : ℕ) → text_len gs ≡ Some k → first_is (class.Only 93) (drop k gs) ≡ true
text_closes gs k e = close_is (text_len gs) gs k (place_fits (first_is (class.Only 93)) (first_is (class.Only 91)) gs) e

url_ends : (b k m : ℕ) (us rest : List Glyph) → m + b + k + 1 ≡ length us → text_len (drop (m + b) (us ++ rest)) ≡ Some k → EndsBefore m us
url_ends zero zero m us rest e t =
    let at : m + 0 ≡ m = omega arith in
    let close : first_is (class.Only 93) (drop m (us ++ rest)) ≡ true =
    ap (λ (i : ℕ). first_is (class.Only 93) (drop i (us ++ rest))) (sym at) ∙ text_closes (drop (m + 0) (us ++ rest)) 0 t in
    let left : length (drop m us) ≡ length us - m = length-drop m us in
    inr (first_front (class.Only 93) (drop m us) rest (omega (arith, left, e))
    (ap (first_is (class.Only 93)) (sym (drop-append-le m us rest (omega (arith, e)))) ∙ close))
url_ends zero (suc k) m us rest e t = inl (omega (arith, e))
url_ends (suc b) k m us rest e t = inl (omega (arith, e))

-- what follows the `[` and the URL
after_front : (n : ℕ) (gs rest : List Glyph) (w : Shape) → size w ≡ length gs → ext_link_after n (gs ++ rest) ≡ Some w → ext_link_after n gs ≡ Some w
after_front n gs rest w whole e =
    let all : List Glyph = gs ++ rest in
    let f = is_after n all w e in
    let b : ℕ = run_len class.Blank (drop n all) in
    let size_is : size (ext_shape (n + b) f.k) ≡ length gs = ap size f.is ∙ whole in
    let fits : n + b + f.k + 1 ≡ length gs = omega (arith, size_is) in
    let left : length (drop n gs) ≡ length gs - n = length-drop n gs in
    let cut : drop n all ≡ drop n gs ++ rest = drop-append-le n gs rest (omega (arith, fits)) in
    let same : b ≡ run_len class.Blank (drop n gs ++ rest) = ap (run_len class.Blank) cut in
    let blanks : run_len class.Blank (drop n gs) ≡ b = run_front class.Blank (drop n gs) rest (omega (arith, fits, left, same)) ∙ sym same in
    let behind : length (drop (n + b) gs) ≡ length gs - (n + b) = length-drop (n + b) gs in
    let text : text_len (drop (n + b) gs) ≡ Some f.k =
    text_front (drop (n + b) gs) rest f.k (ap text_len (sym (drop-append-le (n + b) gs rest (omega (arith, fits)))) ∙ f.text) (omega (arith, fits, behind)) in
    ap (λ (i : ℕ). option_map (ext_shape (n + i)) (text_len (drop (n + i) gs))) blanks
    ∙ ap (option_map (ext_shape (n + b))) text
    ∙ ap (λ (v : Shape). Some v) f.is

-- how long it is, by its parts
record ExtParts (a : Glyph) (hs rest : List Glyph) (w : Shape) (s m : ℕ) : Type 0 where
  b : ℕ
  k : ℕ
  fits : s + m + b + k + 1 ≡ length hs
  text : text_len (drop (m + b) (drop s hs ++ rest)) ≡ Some k

ext_parts : (a : Glyph) (hs rest : List Glyph) (w : Shape) (s m : ℕ) → size w ≡ 1 + length hs → ext_link_after (1 + s + m) (a ∷ (hs ++ rest)) ≡ Some w
    → ExtParts a hs rest w s m
ext_parts a hs rest w s m whole e =
    let f = is_after (1 + s + m) (a ∷ (hs ++ rest)) w e in
    let b : ℕ = run_len class.Blank (drop (1 + s + m) (a ∷ (hs ++ rest))) in
    let size_is : size (ext_shape (1 + s + m + b) f.k) ≡ 1 + length hs = ap size f.is ∙ whole in
    let fits : s + m + b + f.k + 1 ≡ length hs = omega (arith, size_is) in
    let at : 1 + s + m + b ≡ suc (s + (m + b)) = omega arith in
    let here : drop (1 + s + m + b) (a ∷ (hs ++ rest)) ≡ drop (m + b) (drop s hs ++ rest) =
    ap (λ (i : ℕ). drop i (a ∷ (hs ++ rest))) at
    ∙ sym (drop-drop (m + b) s (hs ++ rest))
    ∙ ap (drop (m + b)) (drop-append-le s hs rest (omega (arith, fits))) in
    record { b = b; k = f.k; fits = fits; text = ap text_len (sym here) ∙ f.text }

pub record ExtFront (a : Glyph) (hs : List Glyph) (w : Shape) : Type 0 where
  pub link : ext_link_at (a ∷ hs) ≡ Some w
  pub bracket : in_class (class.Only 91) a ≡ true
  pub begun : 1 ≤ scheme_len hs

pub ext_front : (a : Glyph) (hs rest : List Glyph) (w : Shape) → size w ≡ 1 + length hs → ext_link_at (a ∷ (hs ++ rest)) ≡ Some w → ExtFront a hs w
unfolding ext_link_at
ext_front a hs rest w whole e =
    let all : List Glyph = hs ++ rest in
    let s : ℕ = scheme_len all in
    let m : ℕ = length (url_items all) in
    let f = if_some (in_class (class.Only 91) a) (ext_link_of s m (a ∷ all)) w e in
    let g = both_some s m (ext_link_after (1 + s + m) (a ∷ all)) w f.1 in
    let six : 6 ≤ s = scheme_some all g.1 in
    let one : 1 ≤ m = g.2 in
    let p = ext_parts a hs rest w s m whole g.0 in
    let fits : s + m + p.b + p.k + 1 ≡ length hs = p.fits in
    let scheme : scheme_len hs ≡ s = sym (scheme_stays hs rest (omega (arith, fits, six, one))) in
    let us : List Glyph = drop s hs in
    let left : length us ≡ length hs - s = length-drop s hs in
    let cut : drop s all ≡ us ++ rest = drop-append-le s hs rest (omega (arith, fits)) in
    let r : ℕ = url_run (us ++ rest) in
    let far : r ≤ length (us ++ rest) = url_run_le (us ++ rest) in
    let taken = length-take r (us ++ rest) in
    let run : m ≡ r = ap (λ hs. length (take (url_run hs) hs)) cut ∙ omega (arith, taken, far) in
    let own : url_run us ≡ m = url_front m us rest (sym run) (omega (arith, fits, left)) (url_ends p.b p.k m us rest (omega (arith, fits, left)) p.text) in
    let short = length-take m us in
    let items : length (take (url_run us) us) ≡ m = ap (λ (i : ℕ). length (take i us)) own ∙ omega (arith, short, fits, left) in
    record {
      link =
          ap (λ (v : Bool). if v then ext_link_of (scheme_len hs) (length (url_items hs)) (a ∷ hs) else None) f.0
          ∙ ap (λ (i : ℕ). ext_link_of i (length (take (url_run (drop i hs)) (drop i hs))) (a ∷ hs)) scheme
          ∙ ap (λ (i : ℕ). ext_link_of s i (a ∷ hs)) items
          ∙ ap (λ (o : Option Shape). if nat_lt 0 s && nat_lt 0 m then o else None)
          (after_front (1 + s + m) (a ∷ hs) rest w (omega (arith, whole)) g.0 ∙ sym g.0)
          ∙ f.1;
      bracket = f.0;
      begun = omega (arith, scheme, six);
    }

pub external_tile : (gs : List Glyph) (w : Shape) → ext_link_at gs ≡ Some w → w.kind ≡ kind.ExtLink
unfolding ext_link_at
external_tile gs w e =
    let hs : List Glyph = drop 1 gs in
    let s : ℕ = scheme_len hs in
    let m : ℕ = length (url_items hs) in
    let f = if_some (first_is (class.Only 91) gs) (ext_link_of s m gs) w e in
    let g = both_some s m (ext_link_after (1 + s + m) gs) w f.1 in
    sym (ap (λ (u : Shape). u.kind) (is_after (1 + s + m) gs w g.0).is)

-- ---- how a bare URL begins

like_more : (word : List ℕ) (gs rest : List Glyph) → begins_like word gs ≡ true → begins_like word (gs ++ rest) ≡ true
like_more [] gs rest e = refl
like_more (b ∷ word) [] rest e = cc
like_more (b ∷ word) (g ∷ gs) rest e = more_by (like_byte b g) (begins_like word gs) e (λ z. like_more word gs rest z)
  where
    more_by : (u v : Bool) → (u && v) ≡ true → (v ≡ true → begins_like word (gs ++ rest) ≡ true) → (u && begins_like word (gs ++ rest)) ≡ true
    more_by true v z f = f z
    more_by false v z f = cc

like_front : (word : List ℕ) (gs rest : List Glyph) → begins_like word (gs ++ rest) ≡ false → begins_like word gs ≡ false
like_front word gs rest e = front_by (begins_like word gs) refl
  where
    front_by : (v : Bool) → begins_like word gs ≡ v → begins_like word gs ≡ false
    front_by true z = let no : true ≡ false = sym (like_more word gs rest z) ∙ e in cc
    front_by false z = z

abbrev scheme_of : Bool → Bool → Bool → ℕ
scheme_of a b c = if a then 7 else (if b then 8 else (if c then 6 else 0))

-- a list that is longer than what it begins with
scheme_front : (gs rest : List Glyph) → 1 ≤ scheme_len (gs ++ rest) → scheme_len (gs ++ rest) + 1 ≤ length gs → scheme_len gs ≡ scheme_len (gs ++ rest)
unfolding scheme_len
scheme_front gs rest some le =
    front_by (begins_like (codes "http://") (gs ++ rest)) (begins_like (codes "https://") (gs ++ rest)) (begins_like (codes "ftp://") (gs ++ rest)) refl refl refl some le
  where
    front_by : (a b c : Bool) → begins_like (codes "http://") (gs ++ rest) ≡ a → begins_like (codes "https://") (gs ++ rest) ≡ b → begins_like (codes "ftp://") (gs ++ rest) ≡ c
        → 1 ≤ scheme_of a b c → scheme_of a b c + 1 ≤ length gs
        → scheme_of (begins_like (codes "http://") gs) (begins_like (codes "https://") gs) (begins_like (codes "ftp://") gs) ≡ scheme_of a b c
    front_by true b c e f g one far =
        ap (λ (v : Bool). if v then 7 else (if begins_like (codes "https://") gs then 8 else (if begins_like (codes "ftp://") gs then 6 else 0)))
        (sym (like_stays (codes "http://") gs rest (omega (arith, far))) ∙ e)
    front_by false true c e f g one far =
        ap₂ (λ (u v : Bool). if u then 7 else (if v then 8 else (if begins_like (codes "ftp://") gs then 6 else 0)))
        (like_front (codes "http://") gs rest e) (sym (like_stays (codes "https://") gs rest (omega (arith, far))) ∙ f)
    front_by false false true e f g one far =
        ap₂ (λ (u v : Bool). if u then 7 else (if v then 8 else (if begins_like (codes "ftp://") gs then 6 else 0)))
        (like_front (codes "http://") gs rest e) (like_front (codes "https://") gs rest f)
        ∙ ap (λ (v : Bool). if v then 6 else 0) (sym (like_stays (codes "ftp://") gs rest (omega (arith, far))) ∙ g)
    front_by false false false e f g one far = absurd (omega (arith, one))

-- ---- how far it goes

quotes_more : (g : Glyph) (us rest : List Glyph) → begins (codes "''") (g ∷ (us ++ rest)) ≡ false → begins (codes "''") (g ∷ us) ≡ false
quotes_more g [] rest e = and_none (is_in (λ (b : ℕ). b == 39) g)
  where
    and_none : (b : Bool) → (b && false) ≡ false
    and_none true = refl
    and_none false = refl
quotes_more g (u ∷ us) rest e = e

-- all of the front are items of a URL
url_all : (us rest : List Glyph) → length us ≤ url_run (us ++ rest) → (url_run us ≡ length us) × (url_run (us ++ rest) ≡ length us + url_run rest)
url_all [] rest le = (refl, omega arith)
url_all (u ∷ us) rest le = all_by (is_url_glyph u) (begins (codes "''") (u ∷ (us ++ rest))) refl refl le (λ z. url_all us rest z)
  where
    all_by : (v q : Bool) → is_url_glyph u ≡ v → begins (codes "''") (u ∷ (us ++ rest)) ≡ q → suc (length us) ≤ (if v && not q then suc (url_run (us ++ rest)) else 0)
        → (length us ≤ url_run (us ++ rest) → (url_run us ≡ length us) × (url_run (us ++ rest) ≡ length us + url_run rest))
        → (url_run (u ∷ us) ≡ suc (length us)) × ((if v && not q then suc (url_run (us ++ rest)) else 0) ≡ suc (length us) + url_run rest)
    all_by true false i q far f =
        let r = f (omega (arith, far)) in
        let own : url_run us ≡ length us = r.0 in
        let more : url_run (us ++ rest) ≡ length us + url_run rest = r.1 in (
          ap₂ (λ (a b : Bool). if a && not b then suc (url_run us) else 0) i (quotes_more u us rest q) ∙ ap (λ (n : ℕ). suc n) own,
          omega (arith, more),
        )
    all_by true true i q far f = absurd (omega (arith, far))
    all_by false q i z far f = absurd (omega (arith, far))

-- ---- what is dropped from its end

all_pass : (p : Glyph → Bool) (xs : List Glyph) → prefix_len p xs ≡ length xs → list_all p xs ≡ true
all_pass p [] e = refl
all_pass p (x ∷ xs) e = pass_by (p x) e (λ z. all_pass p xs z)
  where
    pass_by : (v : Bool) → (if v then 1 + prefix_len p xs else 0) ≡ suc (length xs) → (prefix_len p xs ≡ length xs → list_all p xs ≡ true) → (v && list_all p xs) ≡ true
    pass_by true z f = f (omega (arith, z))
    pass_by false z f = absurd (omega (arith, z))

all_parts : (p : Glyph → Bool) (xs ys : List Glyph) → list_all p (xs ++ ys) ≡ true → (list_all p xs ≡ true) × (list_all p ys ≡ true)
all_parts p [] ys e = (refl, e)
all_parts p (x ∷ xs) ys e = parts_by (p x) e (λ z. all_parts p xs ys z)
  where
    parts_by : (v : Bool) → (v && list_all p (xs ++ ys)) ≡ true → (list_all p (xs ++ ys) ≡ true → (list_all p xs ≡ true) × (list_all p ys ≡ true))
        → ((v && list_all p xs) ≡ true) × (list_all p ys ≡ true)
    parts_by true z f = f z
    parts_by false z f = cc

both_pass : (p : Glyph → Bool) (xs ys : List Glyph) → list_all p xs ≡ true → list_all p ys ≡ true → list_all p (xs ++ ys) ≡ true
both_pass p [] ys e f = f
both_pass p (x ∷ xs) ys e f = both_by (p x) e (λ z. both_pass p xs ys z f)
  where
    both_by : (v : Bool) → (v && list_all p xs) ≡ true → (list_all p xs ≡ true → list_all p (xs ++ ys) ≡ true) → (v && list_all p (xs ++ ys)) ≡ true
    both_by true z g = g z
    both_by false z g = cc

all_back : (p : Glyph → Bool) (xs : List Glyph) → list_all p (reverse xs) ≡ true → list_all p xs ≡ true
all_back p [] e = refl
all_back p (x ∷ xs) e =
    let parts = all_parts p (reverse xs) (x ∷ []) (ap (list_all p) (sym (reverse-append (x ∷ []) xs)) ∙ e) in
    both_pass p (x ∷ []) xs parts.1 (all_back p xs parts.0)

none_pass : (p q : Glyph → Bool) (xs : List Glyph) → ((x : Glyph) → p x ≡ true → q x ≡ false) → list_all p xs ≡ true → list_any q xs ≡ false
none_pass p q [] f e = refl
none_pass p q (x ∷ xs) f e = none_by (p x) refl e (λ z. none_pass p q xs f z)
  where
    none_by : (v : Bool) → p x ≡ v → (v && list_all p xs) ≡ true → (list_all p xs ≡ true → list_any q xs ≡ false) → (q x || list_any q xs) ≡ false
    none_by true i z g = ap (λ (b : Bool). b || list_any q xs) (f x i) ∙ g z
    none_by false i z g = cc

-- a run that ends where its first part does
run_parts : (p : Glyph → Bool) (xs ys : List Glyph) → prefix_len p (xs ++ ys) ≡ length xs → (prefix_len p xs ≡ length xs) × (prefix_len p ys ≡ 0)
run_parts p [] ys e = (refl, e)
run_parts p (x ∷ xs) ys e = run_by (p x) e (λ z. run_parts p xs ys z)
  where
    run_by : (v : Bool) → (if v then 1 + prefix_len p (xs ++ ys) else 0) ≡ suc (length xs)
        → (prefix_len p (xs ++ ys) ≡ length xs → (prefix_len p xs ≡ length xs) × (prefix_len p ys ≡ 0))
        → ((if v then 1 + prefix_len p xs else 0) ≡ suc (length xs)) × (prefix_len p ys ≡ 0)
    run_by true z f =
        let r = f (omega (arith, z)) in
        let own : prefix_len p xs ≡ length xs = r.0 in
        (omega (arith, own), r.1)
    run_by false z f = absurd (omega (arith, z))

no_paren : (paren : Bool) (g : Glyph) → is_in (is_dropped paren) g ≡ true → is_in (λ (b : ℕ). b == 40) g ≡ false
unfolding is_dropped
no_paren paren (glyph.Byte b) e = grind (arith, nat_tests, e)
no_paren paren (glyph.Entity c) e = cc
no_paren paren glyph.Atom e = cc
no_paren paren glyph.Mark e = cc

dropped_ends : (paren : Bool) (g : Glyph) → is_in (is_dropped paren) g ≡ true → is_in is_url_end g ≡ true
unfolding is_dropped
dropped_ends paren (glyph.Byte b) e = grind (arith, nat_tests, e)
dropped_ends paren (glyph.Entity c) e = cc
dropped_ends paren glyph.Atom e = cc
dropped_ends paren glyph.Mark e = cc

-- what is kept of a URL, and what is dropped behind it
record Dropped (us ds : List Glyph) : Type 0 where
  kept : kept_len us ≡ length us
  ends : list_all (is_in is_url_end) ds ≡ true

weaker : (p q : Glyph → Bool) (xs : List Glyph) → ((x : Glyph) → p x ≡ true → q x ≡ true) → list_all p xs ≡ true → list_all q xs ≡ true
weaker p q [] f e = refl
weaker p q (x ∷ xs) f e = weaker_by (p x) refl e (λ z. weaker p q xs f z)
  where
    weaker_by : (v : Bool) → p x ≡ v → (v && list_all p xs) ≡ true → (list_all p xs ≡ true → list_all q xs ≡ true) → (q x && list_all q xs) ≡ true
    weaker_by true i z g = ap (λ (b : Bool). b && list_all q xs) (f x i) ∙ g z
    weaker_by false i z g = cc

dropped : (us ds : List Glyph) → kept_len (us ++ ds) ≡ length us → Dropped us ds
unfolding kept_len
dropped us ds e =
    let paren : Bool = has_paren (us ++ ds) in
    let p : Glyph → Bool = is_in (is_dropped paren) in
    let n : ℕ = prefix_len p (reverse (us ++ ds)) in
    let all : length (us ++ ds) ≡ length us + length ds = length-append us ds in
    let back : length (reverse ds) ≡ length ds = length-reverse ds in
    let le : n ≤ length (us ++ ds) = dropped_le p (us ++ ds) in
    let is : n ≡ length (reverse ds) = omega (arith, e, all, back, le) in
    let r = run_parts p (reverse ds) (reverse us) (ap (prefix_len p) (sym (reverse-append us ds)) ∙ is) in
    let passes : list_all p ds ≡ true = all_back p ds (all_pass p (reverse ds) r.0) in
    let none : has_paren ds ≡ false = none_pass p (is_in (λ (b : ℕ). b == 40)) ds (no_paren paren) passes in
    let same : paren ≡ has_paren us = list_any-append (is_in (λ (b : ℕ). b == 40)) us ds ∙ ap (λ (b : Bool). has_paren us || b) none ∙ or_false (has_paren us) in
    let own : prefix_len (is_in (is_dropped (has_paren us))) (reverse us) ≡ 0 = ap (λ (b : Bool). prefix_len (is_in (is_dropped b)) (reverse us)) (sym same) ∙ r.1 in
    record { kept = omega (arith, own); ends = weaker p (is_in is_url_end) ds (dropped_ends paren) passes }
  where
    or_false : (b : Bool) → (b || false) ≡ b
    or_false true = refl
    or_false false = refl

    dropped_le : (p : Glyph → Bool) (xs : List Glyph) → prefix_len p (reverse xs) ≤ length xs
    dropped_le p xs = let size : length (reverse xs) ≡ length xs = length-reverse xs in let le = prefix_len-le-length p (reverse xs) in omega (arith, size, le)

-- ---- a bare URL

none_run : (rest : List Glyph) → url_run rest ≡ 0 → EndsUrl rest
none_run [] e = tt
none_run (g ∷ gs) e = none_by (is_url_glyph g) (begins (codes "''") (g ∷ gs)) refl refl e
  where
    left_true : (u v : Bool) → (u && v) ≡ true → u ≡ true
    left_true true v z = refl
    left_true false v z = cc

    quote : (h : Glyph) → is_in (λ (b : ℕ). b == 39) h ≡ true → is_in is_url_end h ≡ true
    quote (glyph.Byte b) z = ap (λ (v : Bool). v || is_dropped false b) z
    quote (glyph.Entity c) z = cc
    quote glyph.Atom z = cc
    quote glyph.Mark z = cc

    none_by : (v q : Bool) → is_url_glyph g ≡ v → begins (codes "''") (g ∷ gs) ≡ q → (if v && not q then suc (url_run gs) else 0) ≡ 0 → EndsUrl (g ∷ gs)
    none_by false q i z f = inl i
    none_by true true i z f = inr (quote g (left_true (is_in (λ (b : ℕ). b == 39) g) (begins (codes "'") gs) z))
    none_by true false i z f = absurd (omega (arith, f))

-- where something is dropped, it is first behind it
dropped_first : (n : ℕ) (rest : List Glyph) → n ≤ length rest → list_all (is_in is_url_end) (take n rest) ≡ true → (n ≡ 0 → EndsUrl rest) → EndsUrl rest
dropped_first zero rest le e f = f refl
dropped_first (suc n) [] le e f = tt
dropped_first (suc n) (g ∷ gs) le e f = inr (left_true (is_in is_url_end g) (list_all (is_in is_url_end) (take n gs)) e)
  where
    left_true : (u v : Bool) → (u && v) ≡ true → u ≡ true
    left_true true v z = refl
    left_true false v z = cc

pub record BareFront (gs rest : List Glyph) (w : Shape) : Type 0 where
  pub url : bare_url_at false gs ≡ Some w
  pub ends : EndsUrl rest
  pub unquoted : first_is (class.Only 39) rest ≡ true → is_quote_last gs ≡ false

-- before an apostrophe, where it ends with one, it would have ended before that
never : (b : Bool) → (b && false) ≡ false
never true = refl
never false = refl

quoted_run : (us rest : List Glyph) → is_quote_last us ≡ true → first_is (class.Only 39) rest ≡ true → url_run (us ++ rest) < length us
quoted_run [] rest l q = absurd (cc)
quoted_run (g ∷ []) [] l q = absurd (cc)
quoted_run (g ∷ []) (r ∷ rest) l q =
    let two : begins (codes "''") (g ∷ r ∷ rest) ≡ true =
    ap (λ (v : Bool). v && (is_in (λ (b : ℕ). b == 39) r && true)) l ∙ ap (λ (v : Bool). v && true) q in
    let none : url_run (g ∷ r ∷ rest) ≡ 0 =
    ap (λ (u : Bool). if is_url_glyph g && not u then suc (url_run (r ∷ rest)) else 0) two
    ∙ ap (λ (v : Bool). if v then suc (url_run (r ∷ rest)) else 0) (never (is_url_glyph g)) in
    omega (arith, none)
quoted_run (g ∷ h ∷ us) rest l q = by (is_url_glyph g && not (begins (codes "''") (g ∷ h ∷ us))) (quoted_run (h ∷ us) rest l q)
  where
    by : (v : Bool) → url_run (h ∷ (us ++ rest)) < length (h ∷ us) → (if v then suc (url_run (h ∷ (us ++ rest))) else 0) < suc (length (h ∷ us))
    by true lt = omega (arith, lt)
    by false lt = omega arith

quote_drop : (n : ℕ) (gs : List Glyph) → n < length gs → is_quote_last (drop n gs) ≡ is_quote_last gs
quote_drop zero gs lt = refl
quote_drop (suc n) [] lt = absurd (omega (arith, lt))
quote_drop (suc n) (g ∷ []) lt = absurd (omega (arith, lt))
quote_drop (suc n) (g ∷ h ∷ gs) lt = quote_drop n (h ∷ gs) (omega (arith, lt))

front_unquoted : (s : ℕ) (gs rest : List Glyph) (n : ℕ) → s < length gs → url_run (drop s gs ++ rest) ≡ length (drop s gs) + n → first_is (class.Only 39) rest ≡ true
    → is_quote_last gs ≡ false
front_unquoted s gs rest n lt all q = by (is_quote_last gs) refl
  where
    by : (v : Bool) → is_quote_last gs ≡ v → v ≡ false
    by true e = let short = quoted_run (drop s gs) rest (quote_drop s gs lt ∙ e) q in absurd (omega (arith, short, all))
    by false e = refl

bare_parts : (gs rest : List Glyph) (w : Shape) (s : ℕ) → scheme_len (gs ++ rest) ≡ s → 1 ≤ s → 1 ≤ kept_len (url_items (gs ++ rest))
    → s + kept_len (url_items (gs ++ rest)) ≡ length gs → bare_url_of s (kept_len (url_items (gs ++ rest))) ≡ Some w → BareFront gs rest w
unfolding bare_url_at
bare_parts gs rest w s scheme some one whole is =
    let us : List Glyph = drop s gs in
    let left : length us ≡ length gs - s = length-drop s gs in
    let own_scheme : scheme_len gs ≡ s = scheme_front gs rest (omega (arith, scheme, some)) (omega (arith, scheme, whole, one)) ∙ scheme in
    let cut : drop s (gs ++ rest) ≡ us ++ rest = drop-append-le s gs rest (omega (arith, whole)) in
    let r : ℕ = url_run (us ++ rest) in
    let zs : List Glyph = take r (us ++ rest) in
    let items : url_items (gs ++ rest) ≡ zs = ap (λ (i : ℕ). take (url_run (drop i (gs ++ rest))) (drop i (gs ++ rest))) scheme ∙ ap (λ hs. take (url_run hs) hs) cut in
    let kept : kept_len zs ≡ length us = ap kept_len (sym items) ∙ omega (arith, whole, left) in
    let le : kept_len zs ≤ length zs = kept_le zs in
    let far : r ≤ length (us ++ rest) = url_run_le (us ++ rest) in
    let size : length zs ≡ r = taken_all r (us ++ rest) far in
    let a = url_all us rest (omega (arith, kept, le, size)) in
    let n : ℕ = url_run rest in
    let all : r ≡ length us + n = a.1 in
    let split : zs ≡ us ++ take n rest = ap (λ (i : ℕ). take i (us ++ rest)) all ∙ take_parts us rest n in
    let d = dropped us (take n rest) (ap kept_len (sym split) ∙ kept) in
    let mine : url_items gs ≡ us = ap (λ (i : ℕ). take (url_run (drop i gs)) (drop i gs)) own_scheme ∙ ap (λ (i : ℕ). take i us) a.0 ∙ take_whole us in
    let number : kept_len (url_items gs) ≡ kept_len (url_items (gs ++ rest)) = ap kept_len mine ∙ d.kept ∙ sym kept ∙ ap kept_len (sym items) in
    record {
      url = ap₂ (λ (i j : ℕ). bare_url_of i j) own_scheme number ∙ is;
      ends = dropped_first n rest (url_run_le rest) d.ends (λ z. none_run rest z);
      unquoted = λ q. front_unquoted s gs rest n (omega (arith, whole, one)) all q;
    }
  where
    taken_all : (i : ℕ) (xs : List Glyph) → i ≤ length xs → length (take i xs) ≡ i
    taken_all i xs le = let cut = length-take i xs in omega (arith, cut, le)

    take_parts : (xs ys : List Glyph) (i : ℕ) → take (length xs + i) (xs ++ ys) ≡ xs ++ take i ys
    take_parts [] ys i = let z : 0 + i ≡ i = omega arith in ap (λ (j : ℕ). take j ys) z
    take_parts (x ∷ xs) ys i = let z : suc (length xs) + i ≡ suc (length xs + i) = omega arith in
        ap (λ (j : ℕ). take j (x ∷ (xs ++ ys))) z ∙ ap (λ (hs : List Glyph). x ∷ hs) (take_parts xs ys i)

    take_whole : (xs : List Glyph) → take (length xs) xs ≡ xs
    take_whole [] = refl
    take_whole (x ∷ xs) = ap (λ (hs : List Glyph). x ∷ hs) (take_whole xs)

made_kind : (s k : ℕ) (w : Shape) → bare_url_of s k ≡ Some w → w.kind ≡ kind.BareUrl
made_kind s k w e = let f = both_some s k (Some (bare_shape (s + k))) w e in sym (ap (λ (u : Shape). u.kind) (same_shape (bare_shape (s + k)) w f.0))

pub bare_tile : (a : Bool) (gs : List Glyph) (w : Shape) → bare_url_at a gs ≡ Some w → w.kind ≡ kind.BareUrl
unfolding bare_url_at
bare_tile true gs w e = cc
bare_tile false gs w e = made_kind (scheme_len gs) (kept_len (url_items gs)) w e

pub some_shape : (s k : ℕ) (w : Shape) → bare_url_of s k ≡ Some w → (1 ≤ s) × (1 ≤ k) × (size w ≡ s + k)
some_shape s k w e =
    let f = both_some s k (Some (bare_shape (s + k))) w e in
    let is : bare_shape (s + k) ≡ w = same_shape (bare_shape (s + k)) w f.0 in
    let large : size w ≡ size (bare_shape (s + k)) = ap size (sym is) in
    (f.1, f.2, omega (arith, large))

pub bare_front : (a : Bool) (gs rest : List Glyph) (w : Shape) → size w ≡ length gs → bare_url_at a (gs ++ rest) ≡ Some w → (a ≡ false) × BareFront gs rest w
unfolding bare_url_at
bare_front true gs rest w whole e = cc
bare_front false gs rest w whole e =
    let s : ℕ = scheme_len (gs ++ rest) in
    let k : ℕ = kept_len (url_items (gs ++ rest)) in
    let f = some_shape s k w e in
    let sum : size w ≡ s + k = f.2 in
    (refl, bare_parts gs rest w s refl f.0 f.1 (omega (arith, sum, whole)) e)
