-- What each external link and each bare URL has.
use Rattle.std.proofs.Common.{◌≡◌, ℕ, zero, suc, ◌+◌, ◌-◌, ◌<◌, ◌≤◌, ◌⊎◌, Bool, true, false, Option, Some, None, List, [], ◌∷◌, length, take, drop, get_or, nat_lt, refl, sym, ap, ◌∙◌, inl, inr, arith, subst, codes, length-drop, length-take, drop-drop}
use Rattle.std.specs.Prelude.{◌&&◌, not, if◌then◌else◌, option_map, reverse}
use Rattle.std.specs.List.{prefix_len}
use Rattle.std.proofs.lemmas.Bool.{eqb-true}
use Rattle.std.proofs.lemmas.Bool.Decides.{nat_tests}
use Rattle.std.proofs.lemmas.List.{get_or-reverse, length-reverse}
use Rattle.std.proofs.lemmas.List.Sums.{prefix_len-le-length, prefix_len_passes}
use Rattle.wt_tiles.specs.declared.glyph.Glyph.{Glyph}
use Rattle.wt_tiles.specs.declared.glyph.Glyph.TheVariants as glyph
use Rattle.wt_tiles.specs.declared.glyph.GlyphClass.TheVariants as class
use Rattle.wt_tiles.specs.Glyphs.{is_in, first_is, run_len, begins, begins_like}
use Rattle.wt_tiles.specs.Urls.{scheme_len, is_url_char, is_url_glyph, url_run, url_items, text_len, ext_shape, ext_link_after, ext_link_of, ext_link_at, is_dropped, has_paren, kept_len, bare_shape, bare_url_of, bare_url_at}
use Rattle.wt_tiles.specs.Edges.{is_low, low_at, IsEdge}
use Rattle.wt_tiles.proofs.Words.{and_left, and_right, lt_is, is_lt, false_true, in_low, IsLowTest, first_low, first_some, run_low, low_drop, begins_low, begins_like_low, begins_like_len, is_low_word, edge_after, edge_at, edge_same}
use Rattle.wt_tiles.proofs.LinkFits.{OptFits, if_fits, OptPlace, place_fits}

-- ---- schemes

pub record SchemeFits (gs : List Glyph) (n : ℕ) : Type 0 where
  pub within : n ≤ length gs
  pub first : 0 < n → low_at gs 0 ≡ true
  pub last : 0 < n → low_at gs (n - 1) ≡ true

no_scheme : (gs : List Glyph) → SchemeFits gs 0
no_scheme gs = record { within = omega arith; first = λ h. absurd (omega arith); last = λ h. absurd (omega arith) }

scheme_by : (word : List ℕ) (gs : List Glyph) (n m : ℕ) → is_low_word word ≡ true → length word ≡ n → 0 < n → SchemeFits gs m
    → SchemeFits gs (if begins_like word gs then n else m)
scheme_by word gs n m low e pos f = by (begins_like word gs) (λ h. h)
  where
    by : (t : Bool) → (t ≡ true → begins_like word gs ≡ true) → SchemeFits gs (if t then n else m)
    by true h = record {
      within = omega (arith, begins_like_len word gs (h refl));
      first =
          λ _. begins_like_low word gs 0 low (h refl) (omega arith);
      last = λ _. begins_like_low word gs (n - 1) low (h refl) (omega arith);
    }
    by false h = f

pub scheme_fits : (gs : List Glyph) → SchemeFits gs (scheme_len gs)
unfolding scheme_len
scheme_fits gs =
    scheme_by (codes "http://") gs 7 _ refl refl (omega arith)
    (scheme_by (codes "https://") gs 8 _ refl refl (omega arith) (scheme_by (codes "ftp://") gs 6 0 refl refl (omega arith) (no_scheme gs)))

-- ---- URL items

url_other : (b : ℕ) → is_url_char b ≡ false → b < 128
unfolding is_url_char
url_other b e = grind (arith, nat_tests)

no_url_low : (g : Glyph) → is_url_glyph g ≡ false → is_low g ≡ true
no_url_low (glyph.Byte b) e = is_lt b 128 (url_other b e)
no_url_low (glyph.Entity c) e = refl
no_url_low glyph.Atom e = refl
no_url_low glyph.Mark e = refl

-- a run ends with the items, or before a low one
abbrev pub RunEnds : List Glyph → ℕ → Type 0
RunEnds gs n = (n ≡ length gs) ⊎ (low_at gs n ≡ true)

run_by : (g : Glyph) (gs : List Glyph) (u q : Bool) → (u ≡ false → is_low g ≡ true) → (q ≡ true → is_low g ≡ true)
    → RunEnds gs (url_run gs) → RunEnds (g ∷ gs) (if u && not q then suc (url_run gs) else 0)
run_by g gs true true f h r = inr (h refl)
run_by g gs true false f h (inl e) = inl (omega arith)
run_by g gs true false f h (inr low) = inr low
run_by g gs false q f h r = inr (f refl)

pub run_ends : (gs : List Glyph) → RunEnds gs (url_run gs)
run_ends [] = inl refl
run_ends (g ∷ gs) = run_by g gs (is_url_glyph g) (begins (codes "''") (g ∷ gs)) (no_url_low g)
    (λ e. begins_low (codes "''") (g ∷ gs) 0 refl e (omega arith)) (run_ends gs)

pub url_run_le : (gs : List Glyph) → url_run gs ≤ length gs
url_run_le [] = omega arith
url_run_le (g ∷ gs) = by (is_url_glyph g && not (begins (codes "''") (g ∷ gs))) (url_run_le gs)
  where
    by : (t : Bool) → url_run gs ≤ length gs → (if t then suc (url_run gs) else 0) ≤ length (g ∷ gs)
    by true le = omega arith
    by false le = omega arith

pub url_items_len : (gs : List Glyph) → length (url_items gs) ≡ url_run (drop (scheme_len gs) gs)
url_items_len gs = omega (arith, length-take (url_run (drop (scheme_len gs) gs)) (drop (scheme_len gs) gs), url_run_le (drop (scheme_len gs) gs))

-- the items may be cut after so many items of a URL
later_edge : (gs : List Glyph) (n m k : ℕ) → n ≤ length gs → k ≡ n + m → RunEnds (drop n gs) m → IsEdge gs k
later_edge gs n m k le e (inl end) = inl (omega (arith, length-drop n gs))
later_edge gs n m k le e (inr low) = edge_at gs (n + m) k e (sym (low_drop n m gs) ∙ low)

-- ---- external links

ext_text : (gs : List Glyph) (m : ℕ) (o : Option ℕ) → 0 < m → low_at gs 0 ≡ true → IsEdge gs m
    → OptPlace (first_is (class.Only 93)) (drop m gs) o → OptFits gs (option_map (ext_shape m) o)
ext_text gs m None pos first edge f = tt
ext_text gs m (Some k) pos first edge (close, below) =
    let low : low_at gs (m + (k + 0)) ≡ true = sym (low_drop m (k + 0) gs) ∙ sym (low_drop k 0 (drop m gs))
    ∙ first_low (class.Only 93) (drop k (drop m gs)) (omega arith) close in
    record {
      some = omega arith;
      within = omega (arith, length-drop m gs);
      form = tt;
      edges = record {
        start = first;
        opening = edge;
        inside = edge_at gs (m + (k + 0)) (m + k) (omega arith) low;
        closing =
            edge_after gs (m + (k + 0)) (m + k + 1) (omega arith) low;
        trail =
            edge_after gs (m + (k + 0)) (m + k + 1 + 0) (omega arith) low;
      };
    }

blank_edge : (gs : List Glyph) (n b : ℕ) → IsEdge gs n → ((i : ℕ) → i < b → low_at gs (n + i) ≡ true) → IsEdge gs (n + b)
blank_edge gs n zero e f = edge_same gs n (n + 0) (omega arith) e
blank_edge gs n (suc b) e f = edge_after gs (n + b) (n + suc b) (omega arith) (f b (omega arith))

ext_after : (gs : List Glyph) (n : ℕ) → 0 < n → low_at gs 0 ≡ true → IsEdge gs n → OptFits gs (ext_link_after n gs)
ext_after gs n pos first edge =
    let b = run_len class.Blank (drop n gs) in
    let blanks : (i : ℕ) → i < b → low_at gs (n + i) ≡ true = λ i below. sym (low_drop n i gs) ∙ run_low class.Blank (drop n gs) i tt below in
    ext_text gs (n + b) (text_len (drop (n + b) gs)) (omega arith) first (blank_edge gs n b edge blanks)
    (place_fits (first_is (class.Only 93)) (first_is (class.Only 91)) (drop (n + b) gs))

ext_of : (gs : List Glyph) (s m : ℕ) → low_at gs 0 ≡ true → (0 < s → 0 < m → IsEdge gs (1 + s + m)) → OptFits gs (ext_link_of s m gs)
ext_of gs s m first edge =
    if_fits gs (nat_lt 0 s && nat_lt 0 m) (ext_link_after (1 + s + m) gs)
    (λ e. ext_after gs (1 + s + m) (omega arith) first (edge (lt_is 0 s (and_left (nat_lt 0 s) _ e)) (lt_is 0 m (and_right (nat_lt 0 s) _ e))))

after_bracket : (gs : List Glyph) (s m k : ℕ) → k ≡ 1 + s + m → 0 < length gs → s ≤ length (drop 1 gs) → RunEnds (drop s (drop 1 gs)) m → IsEdge gs k
after_bracket gs s m k e some le r =
    let P : List Glyph → Type 0 = λ hs. RunEnds hs m in
    later_edge gs (1 + s) m k (omega (arith, length-drop 1 gs)) e (subst P (drop-drop s 1 gs) r)

pub ext_fits : (gs : List Glyph) → OptFits gs (ext_link_at gs)
unfolding ext_link_at
ext_fits gs =
    let rest = drop 1 gs in
    let s = scheme_len rest in
    let m = length (url_items rest) in
    if_fits gs (first_is (class.Only 91) gs) (ext_link_of s m gs)
    (λ e.
    let f = scheme_fits rest in
    let some = first_some (class.Only 91) gs e in
    ext_of gs s m (first_low (class.Only 91) gs (omega arith) e)
    (λ _ _. after_bracket gs s (url_run (drop s rest)) (1 + s + m) (omega (arith, url_items_len rest)) some f.within (run_ends (drop s rest))))

-- ---- bare URLs

dropped_low : (paren : Bool) → IsLowTest (is_dropped paren)
unfolding is_dropped
dropped_low paren b e = grind (arith, eqb-true)

low_get : (gs : List Glyph) (k : ℕ) (d : Glyph) → k < length gs → is_low (get_or gs k d) ≡ true → low_at gs k ≡ true
low_get [] k d h e = absurd (omega arith)
low_get (g ∷ gs) zero d h e = e
low_get (g ∷ gs) (suc k) d h e = low_get gs k d (omega arith) e

low_take : (n k : ℕ) (gs : List Glyph) → low_at (take n gs) k ≡ true → low_at gs k ≡ true
low_take zero k gs e = false_true e
low_take (suc n) k [] e = false_true e
low_take (suc n) zero (g ∷ gs) e = e
low_take (suc n) (suc k) (g ∷ gs) e = low_take n k gs e

kept_by : (p : ℕ → Bool) (us : List Glyph) (k : ℕ) → IsLowTest p → k ≡ prefix_len (is_in p) (reverse us) → RunEnds us (length us - k)
kept_by p us zero low e = inl (omega arith)
kept_by p us (suc k) low e =
    let le = prefix_len-le-length (is_in p) (reverse us) in
    let size : length (reverse us) ≡ length us = length-reverse us in
    let passes = prefix_len_passes (is_in p) (reverse us) k glyph.Mark (omega arith) in
    let there : get_or (reverse us) k glyph.Mark ≡ get_or us (length us - 1 - k) glyph.Mark = get_or-reverse us k glyph.Mark (omega arith) in
    let z : length us - 1 - k ≡ length us - suc k = omega arith in
    let at : is_in p (get_or us (length us - suc k) glyph.Mark) ≡ true = ap (λ m. is_in p (get_or us m glyph.Mark)) (sym z)
    ∙ ap (is_in p) (sym there) ∙ passes in
    inr (low_get us (length us - suc k) glyph.Mark (omega arith) (in_low p _ low at))

kept_ends : (us : List Glyph) → RunEnds us (kept_len us)
unfolding kept_len
kept_ends us = kept_by (is_dropped (has_paren us)) us (prefix_len (is_in (is_dropped (has_paren us))) (reverse us)) (dropped_low (has_paren us)) refl

pub kept_le : (us : List Glyph) → kept_len us ≤ length us
unfolding kept_len
kept_le us = omega arith

-- the items of a URL end as their run does
items_end : (hs : List Glyph) (k : ℕ) → RunEnds (take (url_run hs) hs) k → RunEnds hs k
items_end hs k (inr low) = inr (low_take (url_run hs) k hs low)
items_end hs k (inl end) =
    let is : url_run hs ≡ k = omega (arith, length-take (url_run hs) hs, url_run_le hs) in
    let P : ℕ → Type 0 = λ m. RunEnds hs m in
    subst P is (run_ends hs)

bare_of : (gs : List Glyph) (s k : ℕ) → SchemeFits gs s → s + k ≤ length gs → IsEdge gs (s + k) → OptFits gs (bare_url_of s k)
bare_of gs s k f within edge =
    if_fits gs (nat_lt 0 s && nat_lt 0 k) (Some (bare_shape (s + k)))
    (λ e.
    let first = f.first (lt_is 0 s (and_left (nat_lt 0 s) _ e)) in
    let pos = lt_is 0 s (and_left (nat_lt 0 s) _ e) in
    record {
      some = omega arith;
      within = omega arith;
      form = tt;
      edges = record {
        start = first;
        opening = edge_at gs 0 0 refl first;
        inside =
            edge_same gs (s + k) (0 + (s + k)) (omega arith) edge;
        closing = edge_same gs (s + k) (0 + (s + k) + 0)
            (omega arith) edge;
        trail = edge_same gs (s + k) (0 + (s + k) + 0 + 0) (omega arith) edge;
      };
    })

pub bare_fits : (after : Bool) (gs : List Glyph) → OptFits gs (bare_url_at after gs)
unfolding bare_url_at
bare_fits true gs = tt
bare_fits false gs =
    let s = scheme_len gs in
    let us = url_items gs in
    let f = scheme_fits gs in
    let ends = items_end (drop s gs) (kept_len us) (kept_ends us) in
    bare_of gs s (kept_len us) f (omega (arith, kept_le us, url_items_len gs, url_run_le (drop s gs), length-drop s gs, f.within))
    (later_edge gs s (kept_len us) (s + kept_len us) f.within refl ends)
