-- A URL in whole is read as it stands.
use Rattle.std.proofs.Common.{◌≡◌, ℕ, suc, ◌+◌, ◌-◌, ◌<◌, ◌≤◌, ◌==◌, Bool, true, false, List, [], ◌∷◌, ◌++◌, length, take, drop, nat_lt, refl, ap, ◌∙◌, arith}
use Rattle.std.specs.Prelude.{◌&&◌, not, codes, if◌then◌else◌}
use Rattle.std.proofs.lemmas.Bool.{eqb-true}
use Rattle.std.proofs.lemmas.Bool.Decides.{nat_tests}
use Rattle.std.proofs.lemmas.List.{length-map, length-drop, length-take-le, drop-append-le, take-append-le}
use Rattle.wt_tiles.proofs.UrlFits.{scheme_fits, url_run_le}
use Rattle.wt_tiles.proofs.Words.{and_left, and_right, lt_is}
use Rattle.wt_tiles.specs.declared.glyph.Glyph.{Glyph}
use Rattle.wt_tiles.specs.declared.glyph.Glyph.TheVariants as glyph
use Rattle.wt_tiles.specs.Glyphs.{is_in, like_byte, begins, begins_like, byte_glyphs}
use Rattle.wt_tiles.specs.Urls.{is_url_char, is_url_glyph, url_run, url_items, scheme_len}
use Rattle.wt_content.specs.Content.{is_url}
use Rattle.wt_content.specs.ContentLaws.{IsReadWhole}
use Rattle.wt_isolation.proofs.Schemes.{word_fits}

-- ---- the beginning of a URL

begins_more : (word : List ℕ) (xs ys : List Glyph) → begins_like word xs ≡ true → begins_like word (xs ++ ys) ≡ true
begins_more [] xs ys e = refl
begins_more (w ∷ word) [] ys e = cc
begins_more (w ∷ word) (x ∷ xs) ys e =
    ap (λ (b : Bool). b && begins_like word (xs ++ ys)) (and_left (like_byte w x) (begins_like word xs) e)
    ∙ begins_more word xs ys (and_right (like_byte w x) (begins_like word xs) e)

-- what follows doesn't count where the word fits
long_begins : (word : List ℕ) (xs ys : List Glyph) → length word ≤ length xs → begins_like word (xs ++ ys) ≡ begins_like word xs
long_begins [] xs ys l = refl
long_begins (w ∷ word) [] ys l = absurd (omega arith)
long_begins (w ∷ word) (x ∷ xs) ys l = ap (λ (b : Bool). like_byte w x && b) (long_begins word xs ys (omega arith))

other_byte : (a b : ℕ) (g : Glyph) → (a ≡ b → ⊥) → like_byte a g ≡ true → like_byte b g ≡ false
other_byte a b (glyph.Byte c) n e = grind (arith, nat_tests)
other_byte a b (glyph.Entity c) n e = refl
other_byte a b glyph.Atom n e = refl
other_byte a b glyph.Mark n e = refl

-- two words with other first letters don't begin the same items
other_begins : (a b : ℕ) (v w : List ℕ) (xs ys : List Glyph) → (a ≡ b → ⊥) → begins_like (a ∷ v) xs ≡ true → begins_like (b ∷ w) (xs ++ ys) ≡ false
other_begins a b v w [] ys n e = cc
other_begins a b v w (x ∷ xs) ys n e =
    ap (λ (t : Bool). t && begins_like w (xs ++ ys)) (other_byte a b x n (and_left (like_byte a x) (begins_like v xs) e))

abbrev http : List ℕ
http = codes "http://"

abbrev https : List ℕ
https = codes "https://"

abbrev ftp : List ℕ
ftp = codes "ftp://"

abbrev len_by : Bool → Bool → Bool → ℕ
len_by a b c = if a then 7 else (if b then 8 else (if c then 6 else 0))

len_stays : (xs ys : List Glyph) (a b c : Bool) → begins_like http xs ≡ a → begins_like https xs ≡ b → begins_like ftp xs ≡ c → 0 < len_by a b c
    → len_by (begins_like http (xs ++ ys)) (begins_like https (xs ++ ys)) (begins_like ftp (xs ++ ys)) ≡ len_by a b c
len_stays xs ys true b c ea eb ec l =
    ap (λ (t : Bool). len_by t (begins_like https (xs ++ ys)) (begins_like ftp (xs ++ ys))) (begins_more http xs ys ea)
len_stays xs ys false true c ea eb ec l =
    let fits : 8 ≤ length xs = word_fits https xs eb in
    ap (λ (t : Bool). len_by t (begins_like https (xs ++ ys)) (begins_like ftp (xs ++ ys))) (long_begins http xs ys (omega arith) ∙ ea)
    ∙ ap (λ (t : Bool). len_by false t (begins_like ftp (xs ++ ys))) (begins_more https xs ys eb)
len_stays xs ys false false true ea eb ec l =
    ap (λ (t : Bool). len_by t (begins_like https (xs ++ ys)) (begins_like ftp (xs ++ ys)))
    (other_begins 102 104 (codes "tp://") (codes "ttp://") xs ys (λ e. omega arith) ec)
    ∙ ap (λ (t : Bool). len_by false t (begins_like ftp (xs ++ ys)))
    (other_begins 102 104 (codes "tp://") (codes "ttps://") xs ys (λ e. omega arith) ec)
    ∙ ap (λ (t : Bool). len_by false false t) (begins_more ftp xs ys ec)
len_stays xs ys false false false ea eb ec l = absurd (omega arith)

scheme_stays : (xs ys : List Glyph) → 0 < scheme_len xs → scheme_len (xs ++ ys) ≡ scheme_len xs
unfolding scheme_len
scheme_stays xs ys l = len_stays xs ys (begins_like http xs) (begins_like https xs) (begins_like ftp xs) refl refl refl l

-- ---- URL items

no_apostrophe : (g : Glyph) → is_url_glyph g ≡ false → is_in (λ (c : ℕ). c == 39) g ≡ false
unfolding is_url_char
no_apostrophe (glyph.Byte c) e = grind (arith, nat_tests)
no_apostrophe (glyph.Entity c) e = refl
no_apostrophe glyph.Atom e = refl
no_apostrophe glyph.Mark e = refl

next_stays : (xs : List Glyph) (g : Glyph) (gs : List Glyph) → is_url_glyph g ≡ false → begins (39 ∷ []) (xs ++ g ∷ gs) ≡ begins (39 ∷ []) xs
next_stays [] g gs e = ap (λ (b : Bool). b && true) (no_apostrophe g e)
next_stays (x ∷ xs) g gs e = refl

counted : (b : Bool) (run other n : ℕ) → (run ≡ n → other ≡ n) → (if b then suc run else 0) ≡ suc n → (if b then suc other else 0) ≡ suc n
counted true run other n h e = omega (arith, h (omega arith))
counted false run other n h e = absurd (omega arith)

run_stays : (xs : List Glyph) (g : Glyph) (gs : List Glyph) → is_url_glyph g ≡ false → url_run xs ≡ length xs → url_run (xs ++ g ∷ gs) ≡ length xs
run_stays [] g gs e h = ap (λ (b : Bool). if b && not (begins (codes "''") (g ∷ gs)) then suc (url_run gs) else 0) e
run_stays (x ∷ xs) g gs e h =
    let goes : Bool → Bool = λ next. is_url_glyph x && not (is_in (λ (c : ℕ). c == 39) x && next) in
    ap (λ (b : Bool). if goes b then suc (url_run (xs ++ g ∷ gs)) else 0) (next_stays xs g gs e)
    ∙ counted (goes (begins (39 ∷ []) xs)) (url_run xs) (url_run (xs ++ g ∷ gs)) (length xs) (run_stays xs g gs e) h

-- ---- a URL in whole

pub read_whole : (bs : List ℕ) → is_url bs ≡ true → IsReadWhole bs
read_whole bs e g gs n =
    let xs = byte_glyphs bs in
    let s = scheme_len xs in
    let rest = drop s xs in
    let run = url_run rest in
    let items = length (take run rest) in
    let tail = and_right (nat_lt 0 s) (nat_lt 0 items && s + items == length xs) e in
    let begun : 0 < s = lt_is 0 s (and_left (nat_lt 0 s) (nat_lt 0 items && s + items == length xs) e) in
    let some : 0 < items = lt_is 0 items (and_left (nat_lt 0 items) (s + items == length xs) tail) in
    let whole : s + items ≡ length xs = eqb-true (s + items) (length xs) (and_right (nat_lt 0 items) (s + items == length xs) tail) in
    let taken : items ≡ run = length-take-le run rest (url_run_le rest) in
    let left : length rest ≡ length xs - s = length-drop s xs in
    let within : s ≤ length xs = (scheme_fits xs).within in
    let all : run ≡ length rest = omega arith in
    let more = xs ++ g ∷ gs in
    let same_scheme : scheme_len more ≡ s = scheme_stays xs (g ∷ gs) begun in
    let cut : drop (scheme_len more) more ≡ rest ++ g ∷ gs = ap (λ (k : ℕ). drop k more) same_scheme ∙ drop-append-le s xs (g ∷ gs) within in
    let same_run : url_run (rest ++ g ∷ gs) ≡ length rest = run_stays rest g gs n all in
    let front : take (length rest) (rest ++ g ∷ gs) ≡ take (length rest) rest = take-append-le (length rest) rest (g ∷ gs) (omega arith) in
    let size : length (take (length rest) rest) ≡ length rest = length-take-le (length rest) rest (omega arith) in
    let read : length (url_items more) ≡ length rest =
    ap (λ (ys : List Glyph). length (take (url_run ys) ys)) cut ∙ ap (λ (k : ℕ). length (take k (rest ++ g ∷ gs))) same_run
    ∙ ap length front ∙ size in
    let bytes : length xs ≡ length bs = length-map bs (λ (c : ℕ). glyph.Byte c) in
    (omega arith, omega arith, omega arith)
