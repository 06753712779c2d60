-- The first `:` of a line that lies in no tile.
use Rattle.std.proofs.Common.{◌≡◌, ◌<◌, ◌≤◌, ℕ, suc, ◌+◌, Bool, true, false, not, Some, None, List, [], ◌∷◌, ◌++◌, length, take, drop, map, replicate, get_or, refl, sym, ap, ◌∙◌, subst, cond, arith, append_assoc, length-drop}
use Rattle.std.specs.Prelude.{nat_lt, ◌==◌, if◌then◌else◌}
use Rattle.std.specs.List.{prefix_len, flat_map}
use Rattle.std.proofs.lemmas.Bool.Decides.{nat_tests}
use Rattle.std.proofs.lemmas.List.{get_or-drop, drop-map, take_all}
use Rattle.wt_span.specs.Items.{Item, sign}
use Rattle.wt_tiles.specs.Glyphs.{glyph_of}
use Rattle.wt_tiles.specs.declared.shape.Shape.{Shape}
use Rattle.wt_tiles.specs.Tiles.{tiles}
use Rattle.wt_tiles.specs.Contexts.{in_line}
use Rattle.wt_tiles.specs.Cutting.{joined, tile_of, IsEdgeIn}
use Rattle.wt_tiles.proofs.Joining.{tiles_join}
use Rattle.wt_tiles.proofs.Words.{edge_after, edge_at}
use Rattle.wt_lines.specs.declared.sign.LineSign.{LineSign}
use Rattle.wt_tables.specs.Views.{numbers}
use Rattle.wt_tables.proofs.Numbers.{numbers_len}
use Rattle.wt_tiles.specs.declared.tile.Tile.{Tile}
use Rattle.wt_page.specs.Rows.{signs}
use Rattle.wt_page.specs.Lists.{is_bare, seen_signs, colon_at, term_len}
use Rattle.wt_build.specs.SeenSigns.{seen_sign, seen_by}
use Rattle.wt_page.proofs.LowSigns.{low_sign}

abbrev is_other : ℕ → Bool
is_other s = not (s == 58)

-- ---- the signs that are seen, beside the items

abbrev AreSeen : List ℕ → List Item → Type 0
AreSeen [] [] = Unit {0}
AreSeen [] (x ∷ xs) = ⊥
AreSeen (s ∷ ss) [] = ⊥
AreSeen (s ∷ ss) (x ∷ xs) = (s ≡ 58 → sign x ≡ 58) × AreSeen ss xs

seen_append : (ss ts : List ℕ) (xs ys : List Item) → AreSeen ss xs → AreSeen ts ys → AreSeen (ss ++ ts) (xs ++ ys)
seen_append [] ts [] ys h k = k
seen_append [] ts (x ∷ xs) ys h k = absurd h
seen_append (s ∷ ss) ts [] ys h k = absurd h
seen_append (s ∷ ss) ts (x ∷ xs) ys h k = (h.0, seen_append ss ts xs ys h.1 k)

seen_bare : (xs : List Item) → AreSeen (signs xs) xs
seen_bare [] = tt
seen_bare (x ∷ xs) = (λ e. e, seen_bare xs)

seen_form : (xs : List Item) → AreSeen (replicate (length xs) 256) xs
seen_form [] = tt
seen_form (x ∷ xs) = (λ e. absurd (omega (arith, e)), seen_form xs)

seen_tile : (b : Bool) (xs : List Item) → AreSeen (if b then signs xs else replicate (length xs) 256) xs
seen_tile true xs = seen_bare xs
seen_tile false xs = seen_form xs

seen_tiles : (ts : List (Shape × List Item)) → AreSeen (flat_map seen_signs ts) (joined ts)
seen_tiles [] = tt
seen_tiles ((w, xs) ∷ ts) = seen_append (seen_signs (w, xs)) (flat_map seen_signs ts) xs (joined ts) (seen_tile (is_bare w.kind) xs) (seen_tiles ts)

abbrev line_signs : List Item → List ℕ
line_signs xs = flat_map seen_signs (tiles in_line xs)

seen_line : (xs : List Item) → AreSeen (line_signs xs) xs
seen_line xs = subst (AreSeen (line_signs xs)) (tiles_join in_line xs) (seen_tiles (tiles in_line xs))

seen_len : (ss : List ℕ) (xs : List Item) → AreSeen ss xs → length ss ≡ length xs
seen_len [] [] h = refl
seen_len [] (x ∷ xs) h = absurd h
seen_len (s ∷ ss) [] h = absurd h
seen_len (s ∷ ss) (x ∷ xs) h = ap (λ n. suc n) (seen_len ss xs h.1)

colon_by : (v : Bool) (s k : ℕ) (x : Item) (xs : List Item) → (s == 58) ≡ v → (s ≡ 58 → sign x ≡ 58) → (k < length xs → get_or (signs xs) k 0 ≡ 58)
    → cond (not v) (1 + k) 0 < suc (length xs) → get_or (signs (x ∷ xs)) (cond (not v) (1 + k) 0) 0 ≡ 58
colon_by true s k x xs e h more l = let is : s ≡ 58 = grind (arith, nat_tests) in h is
colon_by false s k x xs e h more l =
    let at : 1 + k ≡ suc k = omega arith in
    ap (λ n. get_or (signs (x ∷ xs)) n 0) at ∙ more (omega arith)

seen_colon : (ss : List ℕ) (xs : List Item) → AreSeen ss xs → prefix_len is_other ss < length xs → get_or (signs xs) (prefix_len is_other ss) 0 ≡ 58
seen_colon [] [] h l = absurd (omega arith)
seen_colon [] (x ∷ xs) h l = absurd h
seen_colon (s ∷ ss) [] h l = absurd h
seen_colon (s ∷ ss) (x ∷ xs) h l = colon_by (s == 58) s (prefix_len is_other ss) x xs refl h.0 (seen_colon ss xs h.1) l

-- ---- where a term ends

pub colon_is : (xs : List Item) (ns : List ℕ) (at : ℕ) → ns ≡ line_signs xs → at ≡ prefix_len (λ s. not (s == 58)) ns → colon_at xs ≡ at
unfolding colon_at
colon_is xs ns at en ea = ap (prefix_len is_other) (sym en) ∙ sym ea

pub seen_count : (xs : List Item) (ns : List ℕ) → ns ≡ line_signs xs → length ns ≡ length xs
seen_count xs ns e = ap length e ∙ seen_len (line_signs xs) xs (seen_line xs)

term_none : (xs : List Item) → nat_lt (colon_at xs) (length xs) ≡ false → term_len 59 xs ≡ None
term_none xs l = rw l refl

term_some : (n : ℕ) (xs : List Item) → nat_lt (colon_at xs) (length xs) ≡ true → colon_at xs ≡ n → term_len 59 xs ≡ Some n
term_some n xs l is = rw l (ap (λ k. Some k) is)

pub term_ends : (xs : List Item) (ss given : List LineSign) (at len : ℕ) → numbers ss ≡ line_signs xs → given ≡ ss
    → at ≡ prefix_len (λ s. not (s == 58)) (numbers given)
    → len ≡ length ss → len ≤ at → None ≡ term_len 59 xs
term_ends xs ss given at len en eg ea el h =
    let is : colon_at xs ≡ at = colon_is xs (numbers given) at (ap numbers eg ∙ en) ea in
    let count : length (numbers ss) ≡ length xs = seen_count xs (numbers ss) en in
    let more : length xs ≤ colon_at xs = omega (arith, is, count, numbers_len ss, el, h) in
    let l : nat_lt (colon_at xs) (length xs) ≡ false = grind (arith, nat_tests) in
    sym (term_none xs l)

pub term_goes : (xs : List Item) (ss given : List LineSign) (at len : ℕ) → numbers ss ≡ line_signs xs → given ≡ ss
    → at ≡ prefix_len (λ s. not (s == 58)) (numbers given)
    → len ≡ length ss → at < len → Some at ≡ term_len 59 xs
term_goes xs ss given at len en eg ea el h =
    let is : colon_at xs ≡ at = colon_is xs (numbers given) at (ap numbers eg ∙ en) ea in
    let count : length (numbers ss) ≡ length xs = seen_count xs (numbers ss) en in
    let less : colon_at xs < length xs = omega (arith, is, count, numbers_len ss, el, h) in
    let l : nat_lt (colon_at xs) (length xs) ≡ true = grind (arith, nat_tests) in
    sym (term_some at xs l is)

term_by : (t : Bool) (k n len : ℕ) → (if t then Some k else None) ≡ Some n → nat_lt k len ≡ t → (k ≡ n) × (n < len)
term_by true k n len e l =
    let is : k ≡ n = cc in
    let less : k < len = grind (arith, nat_tests) in
    (is, omega (arith, is, less))
term_by false k n len e l = absurd cc

colon_sign : (xs : List Item) → colon_at xs < length xs → get_or (signs xs) (colon_at xs) 0 ≡ 58
unfolding colon_at
colon_sign xs l = seen_colon (line_signs xs) xs (seen_line xs) l

-- what is known of the place
pub record IsColon (xs : List Item) (n : ℕ) : Type 0 where
  pub within : n ≤ length xs
  pub edge : IsEdgeIn xs n
  pub behind : 1 ≤ length (drop n xs)
  pub sign : get_or (signs (drop n xs)) 0 0 < 128

pub colon_found : (xs : List Item) (n : ℕ) → term_len 59 xs ≡ Some n → IsColon xs n
colon_found xs n e =
    let found = term_by (nat_lt (colon_at xs) (length xs)) (colon_at xs) n (length xs) e refl in
    let l : n < length xs = found.1 in
    let is : get_or (signs xs) n 0 ≡ 58 = subst (λ (k : ℕ). k < length xs → get_or (signs xs) k 0 ≡ 58) found.0 (colon_sign xs) l in
    let low : get_or (signs xs) n 0 < 128 = omega (arith, is) in
    let at : n + 0 ≡ n = omega arith in
    let first : get_or (signs (drop n xs)) 0 0 ≡ get_or (signs xs) n 0 =
    ap (λ ss. get_or ss 0 0) (sym (drop-map sign n xs)) ∙ get_or-drop n (signs xs) 0 0 ∙ ap (λ k. get_or (signs xs) k 0) at in
    record {
      within = omega (arith, l);
      edge = edge_at (map glyph_of xs) n n refl (low_sign xs n l low);
      behind = omega (arith, l, length-drop n xs);
      sign = omega (arith, first, low);
    }

-- the `:` itself, of what is left of the line
pub behind_colon : (line rest : List Item) (n : ℕ) → rest ≡ drop n line → term_len 59 line ≡ Some n → (1 ≤ length rest) × IsEdgeIn rest 1
behind_colon line rest n er e =
    let found = colon_found line n e in
    let some : 1 ≤ length rest = subst (λ (xs : List Item). 1 ≤ length xs) (sym er) found.behind in
    let low : get_or (signs rest) 0 0 < 128 = subst (λ (xs : List Item). get_or (signs xs) 0 0 < 128) (sym er) found.sign in
    (some, edge_after (map glyph_of rest) 0 1 refl (low_sign rest 0 (omega (arith, some)) low))

-- ---- signs are appended

pub sign_pushed : (old new ss rest whole : List ℕ) (b : Bool) (s r : ℕ) → new ≡ old ++ r ∷ [] → r ≡ seen_sign b s → ss ≡ s ∷ rest
    → old ++ seen_by b ss ≡ whole → new ++ seen_by b rest ≡ whole
sign_pushed old new ss rest whole b s r e is f h =
    ap (λ ns. ns ++ seen_by b rest) e ∙ append_assoc old (r ∷ []) (seen_by b rest)
    ∙ ap (λ n. old ++ n ∷ seen_by b rest) is ∙ ap (λ ns. old ++ seen_by b ns) (sym f) ∙ h

same_signs : (ss : List ℕ) → seen_by true ss ≡ ss
same_signs [] = refl
same_signs (s ∷ ss) = ap (λ ns. s ∷ ns) (same_signs ss)

atom_signs : (xs : List Item) → seen_by false (signs xs) ≡ replicate (length xs) 256
atom_signs [] = refl
atom_signs (x ∷ xs) = ap (λ ns. 256 ∷ ns) (atom_signs xs)

tile_by : (b : Bool) (xs : List Item) → seen_by b (signs xs) ≡ (if b then signs xs else replicate (length xs) 256)
tile_by true xs = same_signs (signs xs)
tile_by false xs = atom_signs xs

pub tile_signs : (w : Shape) (xs : List Item) (b : Bool) → b ≡ is_bare w.kind → seen_by b (signs xs) ≡ seen_signs (w, xs)
tile_signs w xs b e = ap (λ c. seen_by c (signs xs)) e ∙ tile_by (is_bare w.kind) xs

-- ---- a sign is tested

flipped_by : (v w : Bool) (s : ℕ) → (58 == s) ≡ v → (s == 58) ≡ w → not w ≡ not v
flipped_by true true s e f = refl
flipped_by false false s e f = refl
flipped_by true false s e f = absurd (grind (arith, nat_tests))
flipped_by false true s e f = absurd (grind (arith, nat_tests))

pub byte_colon : (v : Bool) (s : ℕ) → (58 == s) ≡ v → not (s == 58) ≡ not v
byte_colon v s e = flipped_by v (s == 58) s e refl

-- ---- the signs of all tiles

seen_of : (ts : List Tile) → flat_map (λ t. seen_signs (tile_of t)) ts ≡ flat_map seen_signs (map tile_of ts)
seen_of [] = refl
seen_of (t ∷ ts) = ap (λ ns. seen_signs (tile_of t) ++ ns) (seen_of ts)

pub signs_read : (ts given : List Tile) (n : ℕ) (ns : List ℕ) (parts : List (Shape × List Item)) → ns ≡ flat_map (λ t. seen_signs (tile_of t)) (take n given)
    → length given ≤ n → given ≡ ts → map tile_of ts ≡ parts → ns ≡ flat_map seen_signs parts
signs_read ts given n ns parts e l eg ep =
    e ∙ ap (λ us. flat_map (λ t. seen_signs (tile_of t)) us) (take_all n given l ∙ eg) ∙ seen_of ts ∙ ap (flat_map seen_signs) ep
