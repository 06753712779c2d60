-- A URL in whole, byte by byte.
use Rattle.std.proofs.Common.{◌≡◌, ℕ, ◌+◌, ◌-◌, ◌<◌, ◌≤◌, ◌==◌, Bool, true, false, List, [], ◌∷◌, length, take, drop, nat_lt, refl, sym, ap, ◌∙◌, arith}
use Rattle.std.specs.Prelude.{◌&&◌, not}
use Rattle.std.proofs.lemmas.Bool.Decides.{nat_tests}
use Rattle.std.proofs.lemmas.Grind.{common_steps}
use Rattle.std.proofs.lemmas.List.{drop-map, length-map}
use Rattle.wt_tiles.proofs.UrlFits.{url_run_le}
use Rattle.wt_tiles.specs.declared.glyph.Glyph.{Glyph}
use Rattle.wt_tiles.specs.declared.glyph.Glyph.TheVariants as glyph
use Rattle.wt_tiles.specs.Glyphs.{begins, byte_glyphs}
use Rattle.wt_tiles.specs.Urls.{is_url_char, url_run, scheme_len}
use Rattle.wt_content.specs.Content.{is_url}

-- all bytes from here on belong to the URL; `after` tells whether an apostrophe stands before them
abbrev pub go_on : Bool → List ℕ → Bool
go_on after [] = true
go_on after (b ∷ bs) = (is_url_char b && not (after && b == 39)) && go_on (b == 39) bs

-- after an apostrophe no other one may stand first
pub after_apostrophe : (bs : List ℕ) → go_on true bs ≡ (not (begins (39 ∷ []) (byte_glyphs bs)) && go_on false bs)
after_apostrophe [] = refl
after_apostrophe (b ∷ bs) = grind (arith, common_steps)

pub run_is_whole : (bs : List ℕ) → (url_run (byte_glyphs bs) == length bs) ≡ go_on false bs
run_is_whole [] = refl
run_is_whole (b ∷ bs) =
    grind (arith, nat_tests, common_steps, run_is_whole bs, after_apostrophe bs, url_run_le (byte_glyphs bs), length-map bs (λ (c : ℕ). glyph.Byte c))

-- ---- a URL in whole, by how many bytes its beginning takes

abbrev pub is_url_past : List ℕ → ℕ → Bool
is_url_past bs n =
    let rest = drop n (byte_glyphs bs) in
    nat_lt 0 n && (nat_lt 0 (length (take (url_run rest) rest)) && n + length (take (url_run rest) rest) == length (byte_glyphs bs))

whole_by : (n run all : ℕ) → 0 < n → n < all → run ≤ all - n → (nat_lt 0 n && (nat_lt 0 run && n + run == all)) ≡ (run == all - n)
whole_by n run all p q r = grind (arith, nat_tests)

pub past_scheme : (bs : List ℕ) (n : ℕ) → 0 < n → n < length bs
    → is_url_past bs n ≡ (url_run (byte_glyphs (drop n bs)) == length (drop n bs))
past_scheme bs n p q =
    let gs = byte_glyphs bs in
    let rest = byte_glyphs (drop n bs) in
    let run = url_run rest in
    let cut : drop n gs ≡ rest = drop-map (λ (c : ℕ). glyph.Byte c) n bs in
    let shown : length rest ≡ length (drop n bs) = length-map (drop n bs) (λ (c : ℕ). glyph.Byte c) in
    let left : length (drop n bs) ≡ length bs - n = grind (arith, common_steps) in
    let fits : run ≤ length rest = url_run_le rest in
    let taken : length (take run rest) ≡ run = grind (arith, common_steps) in
    ap (λ (xs : List Glyph). nat_lt 0 n && (nat_lt 0 (length (take (url_run xs) xs)) && n + length (take (url_run xs) xs) == length gs)) cut
    ∙ ap (λ (k : ℕ). nat_lt 0 n && (nat_lt 0 k && n + k == length gs)) taken
    ∙ ap (λ (k : ℕ). nat_lt 0 n && (nat_lt 0 run && n + run == k)) (length-map bs (λ (c : ℕ). glyph.Byte c))
    ∙ whole_by n run (length bs) p q (omega arith)
    ∙ ap (λ (k : ℕ). run == k) (sym left)

pub url_by : (bs rest : List ℕ) (n : ℕ) (answer : Bool) → n ≡ scheme_len (byte_glyphs bs) → 0 < n → n < length bs → rest ≡ drop n bs
    → answer ≡ (url_run (byte_glyphs rest) == length rest) → answer ≡ is_url bs
url_by bs rest n answer e p q r a =
    a ∙ ap (λ (xs : List ℕ). url_run (byte_glyphs xs) == length xs) r ∙ sym (past_scheme bs n p q) ∙ ap (is_url_past bs) e
