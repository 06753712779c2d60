-- The tile of a link or of a category holds its target.
use Rattle.std.proofs.Common.{◌≡◌, ℕ, zero, suc, ◌+◌, ◌-◌, ◌≤◌, Bool, true, false, Option, Some, None, List, [], ◌∷◌, length, take, drop, map, refl, sym, ap, ◌∙◌, subst, arith}
use Rattle.std.specs.Prelude.{◌&&◌, ◌||◌, ◌==◌, if◌then◌else◌, option_map, nat_lt, codes, slice_index}
use Rattle.std.specs.Option.{option_or}
use Rattle.std.specs.Str.{is_utf8}
use Rattle.std.specs.List.{AllByRecursion, list_any}
use Rattle.std.proofs.lemmas.Str.{IsUtf8-from_is_utf8}
use Rattle.std.proofs.lemmas.List.{take-map, drop-map, drop-take}
use Rattle.wt_span.specs.Items.{Item}
use Rattle.wt_names.specs.declared.title.Title.{Title}
use Rattle.wt_names.specs.Good.{read_text}
use Rattle.wt_names.specs.Written.{read_bytes, link_to, read_link}
use Rattle.wt_names.proofs.Links.{links_back}
use Rattle.wt_tiles.specs.declared.context.Context.{Context}
use Rattle.wt_tiles.specs.declared.glyph.GlyphClass.TheVariants as class
use Rattle.wt_tiles.specs.declared.glyph.Glyph.{Glyph}
use Rattle.wt_tiles.specs.declared.glyph.Glyph.TheVariants as glyph
use Rattle.wt_tiles.specs.declared.shape.Shape.{Shape}
use Rattle.wt_tiles.specs.declared.shape.TileKind.{TileKind}
use Rattle.wt_tiles.specs.declared.shape.TileKind.TheVariants as kind
use Rattle.wt_tiles.specs.declared.tag.Name.{Name}
use Rattle.wt_tiles.specs.declared.tag.Name.TheVariants.{Paired, Break, Island}
use Rattle.wt_tiles.specs.declared.tag.TagShape.{TagShape}
use Rattle.wt_tiles.specs.declared.tag.TagShape.TheVariants.{Opening, Alone, Closing}
use Rattle.wt_tiles.specs.declared.tag.Tag.{Tag}
use Rattle.wt_tiles.specs.declared.target.LinkKind.{LinkKind}
use Rattle.wt_tiles.specs.declared.target.LinkKind.TheVariants.{Page, Category, Media}
use Rattle.wt_tiles.specs.declared.target.Target.{Target}
use Rattle.wt_tiles.specs.Glyphs.{glyph_of, first_is, begins, run_len}
use Rattle.wt_tiles.specs.Tags.{tag_at}
use Rattle.wt_tiles.specs.Links.{leaf, place, is_atom, target_text, aimed, target_in, target_of, kind_of, target_len, to_close, inner_len, has_pipe, head_len, link_shape, link_with, link_to as link_by_target, link_by, link_in, link_at}
use Rattle.wt_tiles.specs.Urls.{scheme_len, url_items, kept_len, text_len, ext_shape, ext_link_of, ext_link_at, bare_shape, bare_url_of, bare_url_at}
use Rattle.wt_tiles.specs.Tiles.{pair_or_island, closing_for, shape_of_tag, tag_tile, switch_names, switch_len, switch_at, outside, link_or_url, form_at, tile_with, size, shapes, parts, tiles}
use Rattle.wt_tiles.specs.Reading.{tile_at, StandsBy, AreTiles, is_word_at}
use Rattle.wt_tiles.proofs.Readings.{shapes_are}
use Rattle.wt_context.specs.Heads.{or_none, target_size, target}
use Rattle.wt_context.specs.Targets.{IsLed, HasTarget, HaveTargets}

-- ---- a target stands before these signs, and `]]` behind it

abbrev IsFound : List Glyph → ℕ → Type 0
IsFound gs m = (n : ℕ) × (t : Target) × (target_len (drop 2 gs) ≡ Some n) × (target_of (take n (drop 2 gs)) ≡ Some t) × (n + 4 ≤ m)

abbrev FoundBy : TileKind → List Glyph → ℕ → Type 0
FoundBy kind.Link gs m = IsFound gs m
FoundBy kind.Category gs m = IsFound gs m
FoundBy k gs m = Unit {0}

abbrev OptFound : List Glyph → Option Shape → Type 0
OptFound gs None = Unit {0}
OptFound gs (Some w) = FoundBy w.kind gs (size w)

or_found : (gs : List Glyph) (a b : Option Shape) → OptFound gs a → OptFound gs b → OptFound gs (option_or a b)
or_found gs None b f g = g
or_found gs (Some w) b f g = f

if_found : (gs : List Glyph) (t : Bool) (o : Option Shape) → OptFound gs o → OptFound gs (if t then o else None)
if_found gs true o f = f
if_found gs false o f = tt

unless_found : (gs : List Glyph) (t : Bool) (o : Option Shape) → OptFound gs o → OptFound gs (if t then None else o)
unless_found gs true o f = tt
unless_found gs false o f = f

mapped_found : (gs : List Glyph) (f : ℕ → Shape) (o : Option ℕ) → ((n : ℕ) → OptFound gs (Some (f n))) → OptFound gs (option_map f o)
mapped_found gs f None h = tt
mapped_found gs f (Some n) h = h n

-- ---- links

shape_found : (gs : List Glyph) (k : LinkKind) (head n m : ℕ) (t : Target) → target_len (drop 2 gs) ≡ Some n → target_of (take n (drop 2 gs)) ≡ Some t → n ≤ m
    → OptFound gs (Some (link_shape k head m (drop 2 gs)))
shape_found gs Page head n m t e f l = (n, t, e, f, omega (arith, l))
shape_found gs Category head n m t e f l = (n, t, e, f, omega (arith, l))
shape_found gs Media head n m t e f l = tt

with_found : (gs : List Glyph) (k : LinkKind) (head n : ℕ) (t : Target) (stop : Bool) (o : Option ℕ) → target_len (drop 2 gs) ≡ Some n
    → target_of (take n (drop 2 gs)) ≡ Some t
    → OptFound gs (if stop then None else Some (link_shape k head n (drop 2 gs)))
with_found gs k head n t stop o e f =
    unless_found gs stop (Some (link_shape k head n (drop 2 gs))) (shape_found gs k head n n t e f (omega arith))

close_found : (gs : List Glyph) (t : Target) (n : ℕ) (o : Option ℕ) → target_len (drop 2 gs) ≡ Some n → target_of (take n (drop 2 gs)) ≡ Some t
    → OptFound gs (link_with t n (option_map (λ k. n + k) o) (drop 2 gs))
close_found gs t n None e f = tt
close_found gs t n (Some k) e f =
    let hs = drop 2 gs in
    unless_found gs (has_pipe n hs && n + k == n + 1) (Some (link_shape (kind_of t) (head_len t.colon n hs) (n + k) hs))
    (shape_found gs (kind_of t) (head_len t.colon n hs) n (n + k) t e f (omega arith))

-- media holds no target in the sense of links
media_found : (gs : List Glyph) (t : Target) (n : ℕ) (o : Option ℕ) → kind_of t ≡ Media → OptFound gs (link_with t n o (drop 2 gs))
media_found gs t n None e = tt
media_found gs t n (Some k) e =
    let hs = drop 2 gs in
    let P : LinkKind → Type 0 = λ (m : LinkKind). OptFound gs (Some (link_shape m (head_len t.colon n hs) k hs)) in
    unless_found gs (has_pipe n hs && k == n + 1) (Some (link_shape (kind_of t) (head_len t.colon n hs) k hs)) (subst P (sym e) tt)

kind_found : (gs : List Glyph) (t : Target) (n : ℕ) (m : LinkKind) → kind_of t ≡ m → target_len (drop 2 gs) ≡ Some n → target_of (take n (drop 2 gs)) ≡ Some t
    → OptFound gs (link_with t n (inner_len m n (drop 2 gs)) (drop 2 gs))
kind_found gs t n Page i e f = close_found gs t n (to_close (drop n (drop 2 gs))) e f
kind_found gs t n Category i e f = close_found gs t n (to_close (drop n (drop 2 gs))) e f
kind_found gs t n Media i e f = media_found gs t n (inner_len Media n (drop 2 gs)) i

target_found : (gs : List Glyph) (n : ℕ) (o : Option Target) → target_len (drop 2 gs) ≡ Some n → target_of (take n (drop 2 gs)) ≡ o
    → OptFound gs (link_by_target o n (drop 2 gs))
target_found gs n None e f = tt
target_found gs n (Some t) e f = kind_found gs t n (kind_of t) refl e f

by_found : (gs : List Glyph) (o : Option ℕ) → target_len (drop 2 gs) ≡ o → OptFound gs (link_by o (drop 2 gs))
by_found gs None e = tt
by_found gs (Some n) e = target_found gs n (target_of (take n (drop 2 gs))) e refl

link_found : (gs : List Glyph) → OptFound gs (link_at gs)
unfolding link_at link_in
link_found gs = if_found gs (begins (codes "[[") gs) (link_by (target_len (drop 2 gs)) (drop 2 gs)) (by_found gs (target_len (drop 2 gs)) refl)

-- ---- other forms

ext_found : (gs : List Glyph) → OptFound gs (ext_link_at gs)
unfolding ext_link_at
ext_found gs =
    let s = scheme_len (drop 1 gs) in
    let m = length (url_items (drop 1 gs)) in
    let n = 1 + s + m in
    let k = n + run_len class.Blank (drop n gs) in
    if_found gs (first_is (class.Only 91) gs) (ext_link_of s m gs)
    (if_found gs (nat_lt 0 s && nat_lt 0 m) (option_map (ext_shape k) (text_len (drop k gs))) (mapped_found gs (ext_shape k) (text_len (drop k gs)) (λ i. tt)))

bare_found : (after : Bool) (gs : List Glyph) → OptFound gs (bare_url_at after gs)
unfolding bare_url_at
bare_found after gs =
    let s = scheme_len gs in
    let m = kept_len (url_items gs) in
    unless_found gs after (bare_url_of s m) (if_found gs (nat_lt 0 s && nat_lt 0 m) (Some (bare_shape (s + m))) tt)

pair_found : (gs : List Glyph) (n : ℕ) (o : Option (List Glyph)) (hs : List Glyph) → OptFound gs (Some (pair_or_island n o hs))
pair_found gs n None hs = tt
pair_found gs n (Some rest) hs = tt

named_found : (gs : List Glyph) (pairs : ℕ) (m : Name) (s : TagShape) (n : ℕ) → OptFound gs (Some (shape_of_tag pairs m s n gs))
named_found gs pairs (Paired m) Opening n = pair_found gs n (closing_for pairs m n gs) gs
named_found gs pairs (Paired m) Alone n = tt
named_found gs pairs (Paired m) Closing n = tt
named_found gs pairs Break Opening n = tt
named_found gs pairs Break Alone n = tt
named_found gs pairs Break Closing n = tt
named_found gs pairs Island s n = tt

tagged_found : (gs : List Glyph) (pairs : ℕ) (o : Option Tag) → OptFound gs (option_map (λ t. shape_of_tag pairs t.name t.shape t.len gs) o)
tagged_found gs pairs None = tt
tagged_found gs pairs (Some t) = named_found gs pairs t.name t.shape t.len

tag_found : (pairs : ℕ) (gs : List Glyph) → OptFound gs (tag_tile pairs gs)
unfolding tag_tile
tag_found pairs gs = tagged_found gs pairs (tag_at gs)

switch_found : (gs : List Glyph) → OptFound gs (switch_at gs)
unfolding switch_at
switch_found gs =
    let o = switch_len switch_names (drop 2 gs) in
    if_found gs (begins (codes "__") gs) (option_map (λ n. leaf kind.Switch (2 + n)) o) (mapped_found gs (λ n. leaf kind.Switch (2 + n)) o (λ n. tt))

outside_found : (gs : List Glyph) (t : Bool) (o : Option Shape) → OptFound gs o → OptFound gs (outside t o)
outside_found gs true o f = tt
outside_found gs false o f = f

links_found : (after : Bool) (gs : List Glyph) → OptFound gs (link_or_url after gs)
unfolding link_or_url
links_found after gs =
    or_found gs (link_at gs) (option_or (ext_link_at gs) (bare_url_at after gs)) (link_found gs)
    (or_found gs (ext_link_at gs) (bare_url_at after gs) (ext_found gs) (bare_found after gs))

form_found : (cx : Context) (after : Bool) (gs : List Glyph) → OptFound gs (form_at cx after gs)
unfolding form_at
form_found cx after gs =
    or_found gs (outside cx.in_link (link_or_url after gs)) (option_or (tag_tile cx.pairs gs) (switch_at gs))
    (outside_found gs cx.in_link (link_or_url after gs) (links_found after gs))
    (or_found gs (tag_tile cx.pairs gs) (switch_at gs) (tag_found cx.pairs gs) (switch_found gs))

one_found : (cx : Context) (after : Bool) (g : Glyph) (gs : List Glyph) → OptFound (g ∷ gs) (tile_with cx after g (g ∷ gs))
one_found cx after (glyph.Byte b) gs = form_found cx after (glyph.Byte b ∷ gs)
one_found cx after (glyph.Entity c) gs = tt
one_found cx after glyph.Atom gs = tt
one_found cx after glyph.Mark gs = tt

at_found : (cx : Context) (after : Bool) (gs : List Glyph) → OptFound gs (tile_at cx after gs)
at_found cx after [] = tt
at_found cx after (g ∷ gs) = one_found cx after g gs

stands_found : (k : TileKind) (cx : Context) (after : Bool) (w : Shape) (gs : List Glyph) → StandsBy k cx after w gs → FoundBy w.kind gs (size w)
stands_found kind.Chars cx after w gs h = let P : Shape → Type 0 = λ v. FoundBy v.kind gs (size v) in subst P (sym h.0) tt
stands_found k cx after w gs h = let P : Option Shape → Type 0 = λ o. OptFound gs o in subst P h (at_found cx after gs)

-- ---- places in what is cut

-- what two items tell
abbrev IsLocal : (List Glyph → Bool) → Type 0
IsLocal f = (m : ℕ) (gs : List Glyph) → f (take (suc (suc m)) gs) ≡ f gs

pipe_or_close : List Glyph → Bool
pipe_or_close hs = first_is (class.Only 124) hs || begins (codes "]]") hs

stop_local : IsLocal pipe_or_close
unfolding pipe_or_close
stop_local m [] = refl
stop_local m (g ∷ []) = refl
stop_local m (g ∷ h ∷ gs) = refl

bar_local : IsLocal (begins (codes "[["))
bar_local m [] = refl
bar_local m (g ∷ []) = refl
bar_local m (g ∷ h ∷ gs) = refl

place_step : (f b : List Glyph → Bool) (g : Glyph) (gs : List Glyph) (m n : ℕ) (s t : Bool) (o : Option ℕ) → IsLocal f → IsLocal b → f (g ∷ gs) ≡ s
    → b (g ∷ gs) ≡ t → n ≤ m
    → (if s then Some 0 else (if t then None else option_map (λ k. suc k) o)) ≡ Some n
    → ((j : ℕ) → o ≡ Some j → suc j ≡ n → place f b (take (suc m) gs) ≡ Some j) → place f b (take (suc (suc m)) (g ∷ gs)) ≡ Some n
place_step f b g gs m n true t o lf lb ef eb l e h = let a = lf m (g ∷ gs) ∙ ef in rw a e
place_step f b g gs m n false true o lf lb ef eb l e h = cc
place_step f b g gs m n false false None lf lb ef eb l e h = cc
place_step f b g gs m n false false (Some j) lf lb ef eb l e h =
    let a = lf m (g ∷ gs) ∙ ef in
    let c = lb m (g ∷ gs) ∙ eb in
    let i : suc j ≡ n = same (suc j) n e in
    rw (a, c) (ap (option_map (λ k. suc k)) (h j refl i) ∙ e)
  where
    same : (x y : ℕ) → Some x ≡ Some y → x ≡ y
    same x y k = cc

place_front : (f b : List Glyph → Bool) → IsLocal f → IsLocal b → (gs : List Glyph) (m n : ℕ) → place f b gs ≡ Some n → n + 2 ≤ m
    → place f b (take m gs) ≡ Some n
place_front f b lf lb [] m n e l = cc
place_front f b lf lb (g ∷ gs) zero n e l = absurd (omega (arith, l))
place_front f b lf lb (g ∷ gs) (suc zero) n e l = absurd (omega (arith, l))
place_front f b lf lb (g ∷ gs) (suc (suc m)) n e l =
    place_step f b g gs m n (f (g ∷ gs)) (b (g ∷ gs)) (place f b gs) lf lb refl refl (omega (arith, l)) e
    (λ j k i. place_front f b lf lb gs (suc m) j k (omega (arith, l, i)))

take_front : (n m : ℕ) (gs : List Glyph) → n ≤ m → take n (take m gs) ≡ take n gs
take_front zero m gs l = refl
take_front (suc n) zero gs l = absurd (omega (arith, l))
take_front (suc n) (suc m) [] l = refl
take_front (suc n) (suc m) (g ∷ gs) l = ap (λ hs. g ∷ hs) (take_front n m gs (omega (arith, l)))

target_front : (gs : List Glyph) (m : ℕ) (f : IsFound gs m) → target (take m gs) ≡ Some f.1
unfolding target target_size pipe_or_close
target_front gs m (n, t, e, f, l) =
    let k : 2 + (m - 2) ≡ m = omega (arith, l) in
    let cut : drop 2 (take m gs) ≡ take (m - 2) (drop 2 gs) = ap (λ i. drop 2 (take i gs)) (sym k) ∙ drop-take 2 (m - 2) gs in
    let len : target_len (drop 2 (take m gs)) ≡ Some n =
    ap target_len cut ∙ place_front pipe_or_close (begins (codes "[[")) stop_local bar_local (drop 2 gs) (m - 2) n e (omega (arith, l)) in
    ap (λ o. target_of (take (or_none o) (drop 2 (take m gs)))) len ∙ ap (λ hs. target_of (take n hs)) cut
    ∙ ap target_of (take_front n (m - 2) (drop 2 gs) (omega (arith, l))) ∙ f

-- ---- a target is a good title

bytes_lead : (bs : List ℕ) (v : Bool) (t : Title) → is_utf8 bs ≡ v → (if v then read_text bs else None) ≡ Some t → read_link (link_to t) ≡ Some t
bytes_lead bs true t u e = links_back bs t (IsUtf8-from_is_utf8 bs u) e
bytes_lead bs false t u e = cc

aimed_leads : (c : Bool) (bs : List ℕ) (o : Option Title) (t : Target) → read_bytes bs ≡ o → aimed c o ≡ Some t → read_link (link_to t.title) ≡ Some t.title
aimed_leads c bs None t r e = cc
aimed_leads c bs (Some u) t r e =
    let P : Target → Type 0 = λ (x : Target). read_link (link_to x.title) ≡ Some x.title in
    subst P (same (record { colon = c; title = u }) t e) (bytes_lead bs (is_utf8 bs) u refl r)
  where
    same : (x y : Target) → Some x ≡ Some y → x ≡ y
    same x y k = cc

in_leads : (bs : List ℕ) (v : Bool) (t : Target) → (if v then aimed true (read_bytes (drop 1 bs)) else aimed false (read_bytes bs)) ≡ Some t
    → read_link (link_to t.title) ≡ Some t.title
in_leads bs true t e = aimed_leads true (drop 1 bs) (read_bytes (drop 1 bs)) t refl e
in_leads bs false t e = aimed_leads false bs (read_bytes bs) t refl e

of_leads : (gs : List Glyph) (v : Bool) (t : Target) → (if v then None else target_in (target_text gs)) ≡ Some t → read_link (link_to t.title) ≡ Some t.title
of_leads gs true t e = cc
of_leads gs false t e = in_leads (target_text gs) (slice_index (target_text gs) 0 == 58) t e

target_leads : (gs : List Glyph) (t : Target) → target_of gs ≡ Some t → read_link (link_to t.title) ≡ Some t.title
unfolding target_of
target_leads gs t e = of_leads gs (list_any is_atom gs) t e

-- ---- the tiles of a context

found_led : (xs : List Item) (m : ℕ) → IsFound (map glyph_of xs) m → IsLed (take m xs)
found_led xs m f = (
  f.1,
  ap target (sym (take-map glyph_of m xs))
      ∙ target_front (map glyph_of xs) m f,
  target_leads (take f.0 (drop 2 (map glyph_of xs))) f.1 f.3,
)

has_target : (k : TileKind) (xs : List Item) (m : ℕ) → FoundBy k (map glyph_of xs) m → HasTarget k (take m xs)
has_target kind.Link xs m f = found_led xs m f
has_target kind.Category xs m f = found_led xs m f
has_target kind.Media xs m f = tt
has_target kind.ExtLink xs m f = tt
has_target kind.BareUrl xs m f = tt
has_target kind.Br xs m f = tt
has_target kind.Pair xs m f = tt
has_target kind.TagIsland xs m f = tt
has_target kind.Switch xs m f = tt
has_target kind.Atom xs m f = tt
has_target kind.Mark xs m f = tt
has_target kind.Chars xs m f = tt

parts_have : (cx : Context) (after : Bool) (ws : List Shape) (xs : List Item) → AreTiles cx after ws (map glyph_of xs)
    → AllByRecursion (λ p. HasTarget p.0.kind p.1) (parts ws xs)
parts_have cx after [] xs h = tt
parts_have cx after (w ∷ ws) xs (pos, le, stands, apart, rest) =
    let next = is_word_at (map glyph_of xs) (size w - 1) in
    let P : List Glyph → Type 0 = λ gs. AreTiles cx next ws gs in (
      has_target w.kind xs (size w) (stands_found w.kind cx after w (map glyph_of xs) stands),
      parts_have cx next ws (drop (size w) xs)
          (subst P (drop-map glyph_of (size w) xs) rest),
    )

pub have_targets : (cx : Context) (xs : List Item) → HaveTargets cx xs
unfolding tiles
have_targets cx xs = parts_have cx false (shapes cx (map glyph_of xs)) xs (shapes_are cx (map glyph_of xs))
