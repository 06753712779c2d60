-- A link that is all of some items, whatever is read behind them, is the same tile of these items alone.
use Rattle.std.proofs.Common.{arith, ◌≡◌, ℕ, zero, suc, ◌+◌, ◌-◌, ◌<◌, ◌≤◌, ◌==◌, Bool, true, false, Option, Some, None, List, [], ◌∷◌, ◌++◌, length, take, drop, refl, sym, ap, ◌∙◌, subst}
use Rattle.std.specs.Prelude.{◌&&◌, ◌||◌, codes, option_map, if◌then◌else◌}
use Rattle.std.proofs.lemmas.List.{drop-append-le, take-append-le, length-drop, length-append}
use Rattle.wt_tiles.specs.declared.glyph.Glyph.{Glyph}
use Rattle.wt_tiles.specs.declared.glyph.GlyphClass.{GlyphClass}
use Rattle.wt_tiles.specs.declared.glyph.GlyphClass.TheVariants as class
use Rattle.wt_tiles.specs.declared.shape.Shape.{Shape}
use Rattle.wt_tiles.specs.declared.shape.TileKind.{TileKind}
use Rattle.wt_tiles.specs.declared.shape.TileKind.TheVariants as kind
use Rattle.wt_tiles.specs.declared.target.LinkKind.{LinkKind}
use Rattle.wt_tiles.specs.declared.target.LinkKind.TheVariants.{Page, Category, Media}
use Rattle.wt_tiles.specs.declared.target.Target.{Target}
use Rattle.wt_tiles.specs.Glyphs.{in_class, first_is, run_len, begins}
use Rattle.wt_tiles.specs.Links.{place, target_of, kind_of, target_len, to_close, inner_len, has_pipe, head_len, link_shape, link_with, link_to, link_by, link_in}
use Rattle.wt_tiles.specs.Partners.{DepthChange, Up, Down, Level, bracket_turn, by_bracket, balanced}
use Rattle.wt_tiles.specs.Searches.{IsHead}
use Rattle.wt_tiles.specs.Tiles.{size}
use Rattle.wt_tiles.proofs.LinkFits.{head_within, OptRest, balanced_fits}
use Rattle.wt_beside_laws.proofs.LinkTiles.{IsNear, near_two, near_target, place_by, some_same, some_suc, pipe_stays, head_stays, with_made}
use Rattle.wt_beside_laws.proofs.MediaTiles.{turn_stays, same_list}

-- ---- places

pub place_front : (stop bar : List Glyph → Bool) → IsNear stop → IsNear bar → (gs rest : List Glyph) (n : ℕ) → place stop bar (gs ++ rest) ≡ Some n → n + 2 ≤ length gs
    → place stop bar gs ≡ Some n
place_front stop bar s b [] rest n e le = absurd (omega (arith, le))
place_front stop bar s b (g ∷ []) rest n e le = absurd (omega (arith, le))
place_front stop bar s b (g ∷ h ∷ gs) rest n e le =
    let after : Option ℕ = place stop bar (h ∷ (gs ++ rest)) in
    place_by (stop (g ∷ h ∷ gs)) (bar (g ∷ h ∷ gs)) after (place stop bar (h ∷ gs)) n
    (ap (λ (v : Bool). if stop (g ∷ h ∷ gs) then Some 0 else (if v then None else option_map (λ (i : ℕ). suc i) after)) (sym (b g h gs rest))
    ∙ ap (λ (v : Bool). if v then Some 0 else (if bar (g ∷ h ∷ (gs ++ rest)) then None else option_map (λ (i : ℕ). suc i) after)) (sym (s g h gs rest)) ∙ e)
    (λ m z k. place_front stop bar s b (h ∷ gs) rest m k (omega (arith, le, z)))

-- a place that passes the test isn't before the one that is found
place_first : (stop bar : List Glyph → Bool) (gs : List Glyph) (n k : ℕ) → place stop bar gs ≡ Some n → k < length gs → stop (drop k gs) ≡ true → n ≤ k
place_first stop bar [] n k e lt h = absurd (omega (arith, lt))
place_first stop bar (g ∷ gs) n zero e lt h =
    let is : Some 0 ≡ Some n = ap (λ (v : Bool). if v then Some 0 else (if bar (g ∷ gs) then None else option_map (λ (i : ℕ). suc i) (place stop bar gs))) (sym h) ∙ e in
    let none : n ≡ 0 = some_same 0 n is in
    omega (arith, none)
place_first stop bar (g ∷ gs) n (suc k) e lt h = first_by (stop (g ∷ gs)) (bar (g ∷ gs)) e (λ m z. place_first stop bar gs m k z (omega (arith, lt)) h)
  where
    first_by : (a b : Bool) → (if a then Some 0 else (if b then None else option_map (λ (i : ℕ). suc i) (place stop bar gs))) ≡ Some n
        → ((m : ℕ) → place stop bar gs ≡ Some m → m ≤ k) → n ≤ suc k
    first_by true b z f = let none : n ≡ 0 = some_same 0 n z in omega (arith, none)
    first_by false true z f = cc
    first_by false false z f =
        let s = some_suc (place stop bar gs) n z in
        let le : s.0 ≤ k = f s.0 s.1 in
        let is : n ≡ suc s.0 = s.2 in
        omega (arith, le, is)

-- ---- runs

run_none : (k : GlyphClass) (rest : List Glyph) → run_len k rest ≡ 0 → first_is k rest ≡ false
run_none k [] e = refl
run_none k (r ∷ rest) e = none_by (in_class k r) refl e
  where
    none_by : (v : Bool) → in_class k r ≡ v → (if v then 1 + run_len k rest else 0) ≡ 0 → in_class k r ≡ false
    none_by true i z = absurd (omega (arith, z))
    none_by false i z = i

-- one that ends where the front does
pub run_whole : (k : GlyphClass) (us rest : List Glyph) → run_len k (us ++ rest) ≡ length us → (run_len k us ≡ length us) × (first_is k rest ≡ false)
run_whole k [] rest e = (refl, run_none k rest e)
run_whole k (u ∷ us) rest e = whole_by (in_class k u) refl e (λ z. run_whole k us rest z)
  where
    whole_by : (v : Bool) → in_class k u ≡ v → (if v then 1 + run_len k (us ++ rest) else 0) ≡ suc (length us)
        → (run_len k (us ++ rest) ≡ length us → (run_len k us ≡ length us) × (first_is k rest ≡ false))
        → (run_len k (u ∷ us) ≡ suc (length us)) × (first_is k rest ≡ false)
    whole_by true i z f =
        let r = f (omega (arith, z)) in
        let own : run_len k us ≡ length us = r.0 in
        let one : 1 + run_len k us ≡ suc (length us) = omega (arith, own) in
        (ap (λ (b : Bool). if b then 1 + run_len k us else 0) i ∙ one, r.1)
    whole_by false i z f = absurd (omega (arith, z))

-- ---- brackets that balance

-- what is left of the front, before the rest
abbrev pub EndsIn : ℕ → ℕ → List Glyph → List Glyph → List Glyph → Type 0
EndsIn n d gs rest ys = (zs : List Glyph) × (balanced n d gs ≡ Some zs) × (ys ≡ zs ++ rest)

turn_front : (t : DepthChange) (d : ℕ) (gs us rest ys : List Glyph)
    → ((n e : ℕ) → balanced n e (us ++ rest) ≡ Some ys → EndsIn n e us rest ys)
    → by_bracket t d (gs ++ rest) (λ n e. balanced n e (us ++ rest)) ≡ Some ys
    → (zs : List Glyph) × (by_bracket t d gs (λ n e. balanced n e us) ≡ Some zs) × (ys ≡ zs ++ rest)
turn_front Up d gs us rest ys f e = f 1 (suc d) e
turn_front Level d gs us rest ys f e = f 0 d e
turn_front Down zero gs us rest ys f e = (gs, refl, sym (same_list (gs ++ rest) ys e))
turn_front Down (suc d) gs us rest ys f e = f 1 d e

rest_short : (gs : List Glyph) (o : Option (List Glyph)) (ys : List Glyph) → OptRest gs o → o ≡ Some ys → length ys ≤ length gs
rest_short gs o ys f e =
    let r : OptRest gs (Some ys) = subst (λ (p : Option (List Glyph)). OptRest gs p) e f in
    let cut : length (drop r.1 gs) ≡ length gs - r.1 = length-drop r.1 gs in
    let is : length (drop r.1 gs) ≡ length ys = ap length r.2 in
    omega (arith, cut, is)

no_shorter : (n d : ℕ) (gs ys : List Glyph) → balanced n d gs ≡ Some ys → length ys ≤ length gs
no_shorter n d gs ys e = rest_short gs (balanced n d gs) ys (balanced_fits n d gs) e

-- a single item before the rest
one_before : (t : DepthChange) (d : ℕ) (g : Glyph) (rest ys : List Glyph) → length rest + 2 ≤ length ys
    → by_bracket t d (g ∷ rest) (λ n e. balanced n e rest) ≡ Some ys → ⊥
one_before Up d g rest ys le e = let s : length ys ≤ length rest = no_shorter 1 (suc d) rest ys e in omega (arith, le, s)
one_before Level d g rest ys le e = let s : length ys ≤ length rest = no_shorter 0 d rest ys e in omega (arith, le, s)
one_before Down zero g rest ys le e =
    let s : length (g ∷ rest) ≡ length ys = ap length (same_list (g ∷ rest) ys e) in omega (arith, le, s)
one_before Down (suc d) g rest ys le e = let s : length ys ≤ length rest = no_shorter 1 d rest ys e in omega (arith, le, s)

pub balanced_front : (n d : ℕ) (gs rest ys : List Glyph) → length rest + 2 ≤ length ys → balanced n d (gs ++ rest) ≡ Some ys → EndsIn n d gs rest ys
balanced_front n d [] rest ys le e = let s : length ys ≤ length rest = no_shorter n d rest ys e in absurd (omega (arith, le, s))
balanced_front (suc n) d (g ∷ gs) rest ys le e = balanced_front n d gs rest ys le e
balanced_front zero d (g ∷ []) rest ys le e = absurd (one_before (bracket_turn (g ∷ rest)) d g rest ys le e)
balanced_front zero d (g ∷ h ∷ gs) rest ys le e =
    turn_front (bracket_turn (g ∷ h ∷ gs)) d (g ∷ h ∷ gs) (h ∷ gs) rest ys (λ m c z. balanced_front m c (h ∷ gs) rest ys le z)
    (ap (λ (t : DepthChange). by_bracket t d (g ∷ h ∷ (gs ++ rest)) (λ n c. balanced n c (h ∷ (gs ++ rest)))) (sym (turn_stays g h gs rest)) ∙ e)

-- ---- the link, by what follows its `[[`

-- the tile that each kind of link is
abbrev pub link_tile : LinkKind → TileKind
link_tile Page = kind.Link
link_tile Category = kind.Category
link_tile Media = kind.Media

-- no letter joins a link to a page
abbrev pub JoinsNone : LinkKind → List Glyph → Type 0
JoinsNone Page rest = first_is class.Trail rest ≡ false
JoinsNone Category rest = Unit {0}
JoinsNone Media rest = Unit {0}

pub record LinkFront (gs rest : List Glyph) (w : Shape) : Type 0 where
  pub n : ℕ
  pub target : target_len gs ≡ Some n
  pub fits : n + 2 ≤ length gs
  pub t : Target
  pub is : target_of (take n gs) ≡ Some t
  pub link : link_in gs ≡ Some w
  pub tile : w.kind ≡ link_tile (kind_of t)
  pub alone : JoinsNone (kind_of t) rest

-- where its `]]` is, and its shape
record Closes (k : LinkKind) (head n i : ℕ) (gs rest : List Glyph) (w : Shape) : Type 0 where
  fits : i + 2 ≤ length gs
  inner : inner_len k n gs ≡ Some i
  shape : link_shape k head i gs ≡ w
  alone : JoinsNone k rest

page_trail : (head i : ℕ) (gs rest : List Glyph) → head ≤ i → size (link_shape Page head i (gs ++ rest)) ≡ 2 + length gs → i + 2 ≤ length gs
    → (run_len class.Trail (drop (i + 2) (gs ++ rest)) ≡ run_len class.Trail (drop (i + 2) gs)) × (first_is class.Trail rest ≡ false)
page_trail head i gs rest le e fits =
    let us : List Glyph = drop (i + 2) gs in
    let cut : drop (i + 2) (gs ++ rest) ≡ us ++ rest = drop-append-le (i + 2) gs rest fits in
    let same : run_len class.Trail (drop (i + 2) (gs ++ rest)) ≡ run_len class.Trail (us ++ rest) = ap (run_len class.Trail) cut in
    let left : length us ≡ length gs - (i + 2) = length-drop (i + 2) gs in
    let all : run_len class.Trail (us ++ rest) ≡ length us = omega (arith, e, le, same, left, fits) in
    let r = run_whole class.Trail us rest all in
    (same ∙ all ∙ sym r.0, r.1)

close_front : (n i : ℕ) (gs rest : List Glyph) (o : Option ℕ) → n ≤ length gs → to_close (drop n (gs ++ rest)) ≡ o → option_map (λ (j : ℕ). n + j) o ≡ Some i → i + 2 ≤ length gs
    → option_map (λ (j : ℕ). n + j) (to_close (drop n gs)) ≡ Some i
close_front n i gs rest None le e f fits = cc
close_front n i gs rest (Some j) le e f fits =
    let left : length (drop n gs) ≡ length gs - n = length-drop n gs in
    let sum : i ≡ n + j = some_same (n + j) i f in
    let own : to_close (drop n gs) ≡ Some j =
    place_front (begins (codes "]]")) (begins (codes "[[")) (near_two 93 93) (near_two 91 91) (drop n gs) rest j
    (ap to_close (sym (drop-append-le n gs rest le)) ∙ e) (omega (arith, left, sum, fits)) in
    ap (option_map (λ (j : ℕ). n + j)) own ∙ f

close_far : (n i : ℕ) (gs : List Glyph) (o : Option ℕ) → option_map (λ (j : ℕ). n + j) o ≡ Some i → n ≤ i
close_far n i gs None f = cc
close_far n i gs (Some j) f = let sum : i ≡ n + j = some_same (n + j) i f in omega (arith, sum)

page_closes : (head n i : ℕ) (gs rest : List Glyph) (w : Shape) → head ≤ i → inner_len Page n (gs ++ rest) ≡ Some i → link_shape Page head i (gs ++ rest) ≡ w
    → size w ≡ 2 + length gs → Closes Page head n i gs rest w
page_closes head n i gs rest w le inner is whole =
    let size_is : size (link_shape Page head i (gs ++ rest)) ≡ 2 + length gs = ap size is ∙ whole in
    let fits : i + 2 ≤ length gs = omega (arith, size_is, le) in
    let far : n ≤ i = close_far n i (gs ++ rest) (to_close (drop n (gs ++ rest))) inner in
    let r = page_trail head i gs rest le size_is fits in
    record {
      fits = fits;
      inner = close_front n i gs rest (to_close (drop n (gs ++ rest))) (omega (arith, far, fits)) refl inner fits;
      shape = ap (λ (j : ℕ). record { kind = kind.Link; opening = 2 + head; inside = i - head; closing = 2; trail = j }) (sym r.0) ∙ is;
      alone = r.1;
    }

category_closes : (head n i : ℕ) (gs rest : List Glyph) (w : Shape) → inner_len Category n (gs ++ rest) ≡ Some i → link_shape Category head i (gs ++ rest) ≡ w
    → size w ≡ 2 + length gs → Closes Category head n i gs rest w
category_closes head n i gs rest w inner is whole =
    let size_is : size (link_shape Category head i (gs ++ rest)) ≡ 2 + length gs = ap size is ∙ whole in
    let fits : i + 2 ≤ length gs = omega (arith, size_is) in
    let far : n ≤ i = close_far n i (gs ++ rest) (to_close (drop n (gs ++ rest))) inner in
    record {
      fits = fits;
      inner = close_front n i gs rest (to_close (drop n (gs ++ rest))) (omega (arith, far, fits)) refl inner fits;
      shape = is;
      alone = tt;
    }

media_front : (i : ℕ) (gs rest : List Glyph) (o : Option (List Glyph)) → balanced 0 0 (gs ++ rest) ≡ o
    → option_map (λ (ys : List Glyph). length (gs ++ rest) - length ys) o ≡ Some i → i + 2 ≤ length gs
    → option_map (λ (ys : List Glyph). length gs - length ys) (balanced 0 0 gs) ≡ Some i
media_front i gs rest None e f fits = cc
media_front i gs rest (Some ys) e f fits =
    let all : length (gs ++ rest) ≡ length gs + length rest = length-append gs rest in
    let is : i ≡ length (gs ++ rest) - length ys = some_same (length (gs ++ rest) - length ys) i f in
    let r = balanced_front 0 0 gs rest ys (omega (arith, all, is, fits)) e in
    let own : length ys ≡ length r.0 + length rest = ap length r.2 ∙ length-append r.0 rest in
    let same : length gs - length r.0 ≡ i = omega (arith, all, is, own) in
    ap (option_map (λ (us : List Glyph). length gs - length us)) r.1 ∙ ap (λ (j : ℕ). Some j) same

media_closes : (head n i : ℕ) (gs rest : List Glyph) (w : Shape) → inner_len Media n (gs ++ rest) ≡ Some i → link_shape Media head i (gs ++ rest) ≡ w
    → size w ≡ 2 + length gs → Closes Media head n i gs rest w
media_closes head n i gs rest w inner is whole =
    let size_is : size (link_shape Media head i (gs ++ rest)) ≡ 2 + length gs = ap size is ∙ whole in
    let fits : i + 2 ≤ length gs = omega (arith, size_is) in
    record {
      fits = fits;
      inner = media_front i gs rest (balanced 0 0 (gs ++ rest)) refl inner fits;
      shape = is;
      alone = tt;
    }

closes : (k : LinkKind) (head n i : ℕ) (gs rest : List Glyph) (w : Shape) → IsHead k head i → inner_len k n (gs ++ rest) ≡ Some i → link_shape k head i (gs ++ rest) ≡ w
    → size w ≡ 2 + length gs → Closes k head n i gs rest w
closes Page head n i gs rest w le inner is whole = page_closes head n i gs rest w le inner is whole
closes Category head n i gs rest w le inner is whole = category_closes head n i gs rest w inner is whole
closes Media head n i gs rest w le inner is whole = media_closes head n i gs rest w inner is whole

-- ---- its target

down_ends : (a b : Bool) → (if a then Down else (if b then Up else Level)) ≡ Down → a ≡ true
down_ends true b e = refl
down_ends false true e = cc
down_ends false false e = cc

pub ends_at : (gs : List Glyph) → bracket_turn gs ≡ Down → begins (codes "]]") gs ≡ true
unfolding bracket_turn
ends_at gs e = down_ends (begins (codes "]]") gs) (begins (codes "[[") gs) e

or_true : (a b : Bool) → b ≡ true → (a || b) ≡ true
or_true true b e = refl
or_true false b e = e

media_far : (n i : ℕ) (gs : List Glyph) (o : Option (List Glyph)) → OptRest gs o → option_map (λ (ys : List Glyph). length gs - length ys) o ≡ Some i → target_len gs ≡ Some n → n ≤ i
media_far n i gs None f e t = cc
media_far n i gs (Some ys) f e t =
    let is : i ≡ length gs - length ys = some_same (length gs - length ys) i e in
    let cut : length (drop f.1 gs) ≡ length gs - f.1 = length-drop f.1 gs in
    let all : length (drop f.1 gs) ≡ length ys = ap length f.2 in
    let lt : f.1 < length gs = f.3 in
    let at : i ≡ f.1 = omega (arith, is, cut, all, lt) in
    let here : drop i gs ≡ ys = ap (λ (j : ℕ). drop j gs) at ∙ f.2 in
    let stop : begins (codes "]]") (drop i gs) ≡ true = ap (begins (codes "]]")) here ∙ ends_at ys f.0 in
    place_first (λ hs. first_is (class.Only 124) hs || begins (codes "]]") hs) (begins (codes "[[")) gs n i t (omega (arith, at, lt))
    (or_true (first_is (class.Only 124) (drop i gs)) (begins (codes "]]") (drop i gs)) stop)

target_far : (k : LinkKind) (n i : ℕ) (gs : List Glyph) → target_len gs ≡ Some n → inner_len k n gs ≡ Some i → n ≤ i
target_far Page n i gs t e = close_far n i gs (to_close (drop n gs)) e
target_far Category n i gs t e = close_far n i gs (to_close (drop n gs)) e
target_far Media n i gs t e = media_far n i gs (balanced 0 0 gs) (balanced_fits 0 0 gs) e t

tile_is : (k : LinkKind) (head i : ℕ) (gs : List Glyph) (w : Shape) → link_shape k head i gs ≡ w → w.kind ≡ link_tile k
tile_is Page head i gs w e = sym (ap (λ (u : Shape). u.kind) e)
tile_is Category head i gs w e = sym (ap (λ (u : Shape). u.kind) e)
tile_is Media head i gs w e = sym (ap (λ (u : Shape). u.kind) e)

-- ---- the link

by_inner : (t : Target) (n : ℕ) (gs rest : List Glyph) (w : Shape) (o : Option ℕ) → target_len (gs ++ rest) ≡ Some n → target_of (take n (gs ++ rest)) ≡ Some t
    → inner_len (kind_of t) n (gs ++ rest) ≡ o → link_with t n o (gs ++ rest) ≡ Some w → size w ≡ 2 + length gs → LinkFront gs rest w
unfolding link_in
by_inner t n gs rest w None e i inner is whole = cc
by_inner t n gs rest w (Some j) e i inner is whole =
    let all : List Glyph = gs ++ rest in
    let m = with_made (has_pipe n all && j == n + 1) (link_shape (kind_of t) (head_len t.colon n all) j all) w is in
    let c = closes (kind_of t) (head_len t.colon n all) n j gs rest w (head_within (kind_of t) t.colon n j all (Some j) (sym inner) refl) inner m.1 whole in
    let end : j + 2 ≤ length gs = c.fits in
    let far : n ≤ j = target_far (kind_of t) n j all e inner in
    let target : target_len gs ≡ Some n =
    place_front (λ hs. first_is (class.Only 124) hs || begins (codes "]]") hs) (begins (codes "[[")) near_target (near_two 91 91) gs rest n e (omega (arith, far, end)) in
    let named : target_of (take n gs) ≡ Some t = ap target_of (sym (take-append-le n gs rest (omega (arith, far, end)))) ∙ i in
    record {
      n = n;
      target = target;
      fits = omega (arith, far, end);
      t = t;
      is = named;
      link =
          ap (λ (o : Option ℕ). link_by o gs) target
          ∙ ap (λ (o : Option Target). link_to o n gs) named
          ∙ ap (λ (o : Option ℕ). link_with t n o gs) c.inner
          ∙ ap (λ (v : Bool). if v && j == n + 1 then None else Some (link_shape (kind_of t) (head_len t.colon n gs) j gs))
          (sym (pipe_stays n gs rest (omega (arith, far, end))))
          ∙ ap (λ (v : Bool). if v then None else Some (link_shape (kind_of t) (head_len t.colon n gs) j gs)) m.0
          ∙ ap (λ (h : ℕ). Some (link_shape (kind_of t) h j gs)) (sym (head_stays t.colon n gs rest (omega (arith, far, end))))
          ∙ ap (λ (u : Shape). Some u) c.shape;
      tile = tile_is (kind_of t) (head_len t.colon n all) j gs w c.shape;
      alone = c.alone;
    }

by_title : (o : Option Target) (n : ℕ) (gs rest : List Glyph) (w : Shape) → target_len (gs ++ rest) ≡ Some n → target_of (take n (gs ++ rest)) ≡ o
    → link_to o n (gs ++ rest) ≡ Some w → size w ≡ 2 + length gs → LinkFront gs rest w
by_title None n gs rest w e i is whole = cc
by_title (Some t) n gs rest w e i is whole = by_inner t n gs rest w (inner_len (kind_of t) n (gs ++ rest)) e i refl is whole

by_target : (o : Option ℕ) (gs rest : List Glyph) (w : Shape) → target_len (gs ++ rest) ≡ o → link_by o (gs ++ rest) ≡ Some w → size w ≡ 2 + length gs
    → LinkFront gs rest w
by_target None gs rest w e is whole = cc
by_target (Some n) gs rest w e is whole = by_title (target_of (take n (gs ++ rest))) n gs rest w e refl is whole

pub in_front : (gs rest : List Glyph) (w : Shape) → link_in (gs ++ rest) ≡ Some w → size w ≡ 2 + length gs → LinkFront gs rest w
unfolding link_in
in_front gs rest w e whole = by_target (target_len (gs ++ rest)) gs rest w refl e whole
