-- What each tile has: it lies within the items, and these may be cut at the ends of its parts. Links first.
use Rattle.std.proofs.Common.{◌≡◌, ℕ, zero, suc, ◌+◌, ◌-◌, ◌<◌, ◌≤◌, ◌==◌, Bool, true, false, Option, Some, None, List, [], ◌∷◌, length, take, drop, refl, sym, ap, ◌∙◌, arith, subst, codes, length-drop, drop-drop}
use Rattle.std.specs.Prelude.{◌&&◌, if◌then◌else◌, option_map}
use Rattle.std.specs.Option.{option_or}
use Rattle.std.proofs.lemmas.Bool.{eqb-true}
use Rattle.wt_tiles.specs.declared.glyph.Glyph.{Glyph}
use Rattle.wt_tiles.specs.declared.glyph.Glyph.TheVariants as glyph
use Rattle.wt_tiles.specs.declared.glyph.GlyphClass.TheVariants as class
use Rattle.wt_tiles.specs.declared.shape.Shape.{Shape}
use Rattle.wt_tiles.specs.declared.shape.TileKind.{TileKind}
use Rattle.wt_tiles.specs.declared.shape.TileKind.TheVariants as kind
use Rattle.wt_tiles.specs.declared.target.LinkKind.{LinkKind}
use Rattle.wt_tiles.specs.declared.target.LinkKind.TheVariants.{Page, Category, Media}
use Rattle.wt_tiles.specs.declared.target.Target.{Target}
use Rattle.wt_tiles.specs.Glyphs.{first_is, run_len, begins}
use Rattle.wt_tiles.specs.Partners.{DepthChange, Up, Down, Level, bracket_turn, by_bracket, balanced}
use Rattle.wt_tiles.specs.Links.{leaf, place, target_of, kind_of, target_len, to_close, inner_len, has_pipe, head_len, page_link, link_shape, link_with, link_to, link_by, link_in, link_at}
use Rattle.wt_tiles.specs.Searches.{IsHead}
use Rattle.wt_tiles.specs.Tiles.{size}
use Rattle.wt_tiles.specs.Reading.{IsForm}
use Rattle.wt_tiles.specs.Edges.{low_at, IsEdge, HasEdges}
use Rattle.wt_tiles.proofs.Words.{and_left, and_right, false_true, first_low, run_low, low_drop, begins_low, begins_len, edge_after, edge_at, edge_same}
use Rattle.wt_tiles.proofs.TagFits.{run_le}

pub record Fits (gs : List Glyph) (w : Shape) : Type 0 where
  pub some : 0 < size w
  pub within : size w ≤ length gs
  pub form : IsForm w.kind
  pub edges : HasEdges gs w

abbrev pub OptFits : List Glyph → Option Shape → Type 0
OptFits gs None = Unit {0}
OptFits gs (Some w) = Fits gs w

pub or_fits : (gs : List Glyph) (a b : Option Shape) → OptFits gs a → OptFits gs b → OptFits gs (option_or a b)
or_fits gs None b f g = g
or_fits gs (Some w) b f g = f

pub if_fits : (gs : List Glyph) (t : Bool) (o : Option Shape) → (t ≡ true → OptFits gs o) → OptFits gs (if t then o else None)
if_fits gs true o f = f refl
if_fits gs false o f = tt

-- a leaf that ends with a low item
pub leaf_fits : (gs : List Glyph) (k : TileKind) (n m : ℕ) → IsForm k → n ≡ suc m → n ≤ length gs → low_at gs 0 ≡ true → low_at gs m ≡ true → Fits gs (leaf k n)
leaf_fits gs k n m form e within first last =
    record {
      some = omega arith;
      within = omega arith;
      form = form;
      edges = record {
        start = first;
        opening = edge_after gs m n e last;
        inside =
            edge_after gs m (n + 0) (omega arith) last;
        closing = edge_after gs m (n + 0 + 0) (omega arith) last;
        trail =
            edge_after gs m (n + 0 + 0 + 0) (omega arith) last;
      };
    }

-- ---- places

-- the place that is found passes the test and lies within
abbrev pub OptPlace : (List Glyph → Bool) → List Glyph → Option ℕ → Type 0
OptPlace stop gs None = Unit {0}
OptPlace stop gs (Some n) = (stop (drop n gs) ≡ true) × (n < length gs)

place_later : (stop : List Glyph → Bool) (g : Glyph) (gs : List Glyph) (o : Option ℕ) → OptPlace stop gs o → OptPlace stop (g ∷ gs) (option_map (λ n. suc n) o)
place_later stop g gs None f = tt
place_later stop g gs (Some n) f = (f.0, omega (arith, f.1))

place_step : (stop : List Glyph → Bool) (g : Glyph) (gs : List Glyph) (s b : Bool) (o : Option ℕ) → (s ≡ true → stop (g ∷ gs) ≡ true) → OptPlace stop gs o
    → OptPlace stop (g ∷ gs) (if s then Some 0 else (if b then None else option_map (λ n. suc n) o))
place_step stop g gs true b o h f = (h refl, omega arith)
place_step stop g gs false true o h f = tt
place_step stop g gs false false o h f = place_later stop g gs o f

pub place_fits : (stop bar : List Glyph → Bool) (gs : List Glyph) → OptPlace stop gs (place stop bar gs)
place_fits stop bar [] = tt
place_fits stop bar (g ∷ gs) = place_step stop g gs (stop (g ∷ gs)) (bar (g ∷ gs)) (place stop bar gs) (λ e. e) (place_fits stop bar gs)

-- ---- brackets that balance

-- what is left begins with `]]`, and is an end of the items
abbrev pub OptRest : List Glyph → Option (List Glyph) → Type 0
OptRest gs None = Unit {0}
OptRest gs (Some rest) = (bracket_turn rest ≡ Down) × (k : ℕ) × (drop k gs ≡ rest) × (k < length gs)

rest_later : (g : Glyph) (gs : List Glyph) (o : Option (List Glyph)) → OptRest gs o → OptRest (g ∷ gs) o
rest_later g gs None f = tt
rest_later g gs (Some rest) (turn, k, e, below) = (turn, suc k, e, omega arith)

by_rest : (t : DepthChange) (d : ℕ) (g : Glyph) (gs : List Glyph) → bracket_turn (g ∷ gs) ≡ t
    → ((n e : ℕ) → OptRest gs (balanced n e gs)) → OptRest (g ∷ gs) (by_bracket t d (g ∷ gs) (λ n e. balanced n e gs))
by_rest Up d g gs e f = rest_later g gs _ (f 1 (suc d))
by_rest Level d g gs e f = rest_later g gs _ (f 0 d)
by_rest Down zero g gs e f = (e, 0, refl, omega arith)
by_rest Down (suc d) g gs e f = rest_later g gs _ (f 1 d)

pub balanced_fits : (n d : ℕ) (gs : List Glyph) → OptRest gs (balanced n d gs)
balanced_fits n d [] = tt
balanced_fits (suc n) d (g ∷ gs) = rest_later g gs _ (balanced_fits n d gs)
balanced_fits zero d (g ∷ gs) = by_rest (bracket_turn (g ∷ gs)) d g gs refl (λ n e. balanced_fits n e gs)

turn_number : DepthChange → ℕ
turn_number Up = 0
turn_number Level = 0
turn_number Down = 1

-- the test of a turn that is Down
down_is : (gs : List Glyph) → bracket_turn gs ≡ Down → begins (codes "]]") gs ≡ true
unfolding bracket_turn turn_number
down_is gs e = by (begins (codes "]]") gs) (begins (codes "[[") gs) (ap turn_number e)
  where
    by : (a b : Bool) → turn_number (if a then Down else (if b then Up else Level)) ≡ 1 → a ≡ true
    by true b h = refl
    by false true h = absurd (omega arith)
    by false false h = absurd (omega arith)

-- ---- links; the items are what follows the `[[`

-- the `]]` of a page's link stands behind the target
abbrev pub IsBehind : LinkKind → ℕ → ℕ → Type 0
IsBehind Page n k = n ≤ k
IsBehind Category n k = Unit {0}
IsBehind Media n k = Unit {0}

-- the `]]` stands there
abbrev pub OptInner : LinkKind → ℕ → List Glyph → Option ℕ → Type 0
OptInner kd n gs None = Unit {0}
OptInner kd n gs (Some k) = (begins (codes "]]") (drop k gs) ≡ true) × (k + 2 ≤ length gs) × IsBehind kd n k

closes : (gs : List Glyph) (k : ℕ) → begins (codes "]]") (drop k gs) ≡ true → k < length gs → k + 2 ≤ length gs
closes gs k e h = omega (arith, length-drop k gs, begins_len (codes "]]") (drop k gs) e)

behind : (kd : LinkKind) (n k : ℕ) → n ≤ k → IsBehind kd n k
behind Page n k le = le
behind Category n k le = tt
behind Media n k le = tt

close_inner : (kd : LinkKind) (n : ℕ) (gs : List Glyph) (o : Option ℕ) → OptPlace (begins (codes "]]")) (drop n gs) o
    → OptInner kd n gs (option_map (λ k. n + k) o)
close_inner kd n gs None f = tt
close_inner kd n gs (Some k) (e, h) =
    let P : List Glyph → Type 0 = λ hs. begins (codes "]]") hs ≡ true in
    let there : begins (codes "]]") (drop (n + k) gs) ≡ true = subst P (drop-drop k n gs) e in
    (there, closes gs (n + k) there (omega (arith, length-drop n gs)), behind kd n (n + k) (omega arith))

media_inner : (n : ℕ) (gs : List Glyph) (o : Option (List Glyph)) → OptRest gs o → OptInner Media n gs (option_map (λ rest. length gs - length rest) o)
media_inner n gs None f = tt
media_inner n gs (Some rest) (turn, k, e, below) =
    let z : length gs - length rest ≡ k = omega (arith, ap (λ (hs : List Glyph). length hs) e, length-drop k gs) in
    let P : ℕ → Type 0 = λ m. begins (codes "]]") (drop m gs) ≡ true in
    let Q : List Glyph → Type 0 = λ hs. begins (codes "]]") hs ≡ true in
    let there = subst Q (sym e) (down_is rest turn) in
    (subst P (sym z) there, omega (arith, closes gs k there below), tt)

inner_fits : (kd : LinkKind) (n : ℕ) (gs : List Glyph) → OptInner kd n gs (inner_len kd n gs)
inner_fits Page n gs = close_inner Page n gs (to_close (drop n gs)) (place_fits (begins (codes "]]")) (begins (codes "[[")) (drop n gs))
inner_fits Category n gs = close_inner Category n gs (to_close (drop n gs)) (place_fits (begins (codes "]]")) (begins (codes "[[")) (drop n gs))
inner_fits Media n gs = media_inner n gs (balanced 0 0 gs) (balanced_fits 0 0 gs)

-- no item is two characters
one_byte : (a : ℕ) (word : List ℕ) (b : ℕ) (gs : List Glyph) → first_is (class.Only a) gs ≡ true → begins (b ∷ word) gs ≡ true → a ≡ b
one_byte a word b [] e f = false_true e
one_byte a word b (glyph.Byte c ∷ gs) e f = omega (arith, eqb-true c a e, eqb-true c b (and_left (c == b) _ f))
one_byte a word b (glyph.Entity c ∷ gs) e f = false_true e
one_byte a word b (glyph.Atom ∷ gs) e f = false_true e
one_byte a word b (glyph.Mark ∷ gs) e f = false_true e

-- what stands before a text lies before the `]]`, and the items may be cut after it; `whole` is the items with the `[[`
abbrev pub HeadFits : List Glyph → ℕ → ℕ → Type 0
HeadFits whole k head = (head ≤ k) × IsEdge whole (2 + head)

pub record Opened (whole : List Glyph) (k : ℕ) : Type 0 where
  pub starts : begins (codes "[[") whole ≡ true
  pub closes : begins (codes "]]") (drop k (drop 2 whole)) ≡ true
  pub within : k + 2 ≤ length (drop 2 whole)

pipe_head : (whole : List Glyph) (n k : ℕ) → Opened whole k → n ≤ k → has_pipe n (drop 2 whole) ≡ true → HeadFits whole k (n + 1)
pipe_head whole n k o le e =
    let apart : n ≡ k → ⊥ = λ same.
    let P : ℕ → Type 0 = λ m. begins (codes "]]") (drop m (drop 2 whole)) ≡ true in
    let no = one_byte 124 (93 ∷ []) 93 (drop n (drop 2 whole)) e (subst P (sym same) o.closes) in absurd (omega arith) in
    let low : low_at (drop 2 whole) (n + 0) ≡ true = sym (low_drop n 0 (drop 2 whole)) ∙ first_low (class.Only 124) (drop n (drop 2 whole)) (omega arith) e in
    let low2 : low_at whole (2 + (n + 0)) ≡ true = sym (low_drop 2 (n + 0) whole) ∙ low in
    (omega arith, edge_after whole (2 + (n + 0)) (2 + (n + 1)) (omega arith) low2)

colon_head : (whole : List Glyph) (k : ℕ) → Opened whole k → first_is (class.Only 58) (drop 2 whole) ≡ true → HeadFits whole k 1
colon_head whole k o e =
    let apart : k ≡ 0 → ⊥ = λ same.
    let P : ℕ → Type 0 = λ m. begins (codes "]]") (drop m (drop 2 whole)) ≡ true in
    let no = one_byte 58 (93 ∷ []) 93 (drop 2 whole) e (subst P same o.closes) in absurd (omega arith) in
    let low : low_at whole (2 + 0) ≡ true = sym (low_drop 2 0 whole) ∙ first_low (class.Only 58) (drop 2 whole) (omega arith) e in
    (omega arith, edge_after whole (2 + 0) (2 + 1) (omega arith) low)

no_head : (whole : List Glyph) (k : ℕ) → Opened whole k → HeadFits whole k 0
no_head whole k o = (omega arith, edge_after whole 1 (2 + 0) (omega arith) (begins_low (codes "[[") whole 1 refl o.starts (omega arith)))

head_fits : (whole : List Glyph) (colon : Bool) (n k : ℕ) → Opened whole k → n ≤ k → HeadFits whole k (head_len colon n (drop 2 whole))
head_fits whole colon n k o le = by (has_pipe n (drop 2 whole)) (colon && first_is (class.Only 58) (drop 2 whole))
    (pipe_head whole n k o le) (λ e. colon_head whole k o (and_right colon _ e))
  where
    by : (p c : Bool) → (p ≡ true → HeadFits whole k (n + 1)) → (c ≡ true → HeadFits whole k 1) → HeadFits whole k (if p then n + 1 else (if c then 1 else 0))
    by true c f g = f refl
    by false true f g = g refl
    by false false f g = no_head whole k o

-- the letters that join a link
trail_edge : (whole : List Glyph) (k t : ℕ) → low_at whole (k + 3) ≡ true → ((i : ℕ) → i < t → low_at whole (k + 4 + i) ≡ true) → IsEdge whole (k + 4 + t)
trail_edge whole k zero low f = edge_after whole (k + 3) (k + 4 + 0) (omega arith) low
trail_edge whole k (suc t) low f = edge_after whole (k + 4 + t) (k + 4 + suc t) (omega arith) (f t (omega arith))

page_fits : (whole : List Glyph) (head k : ℕ) → Opened whole k → HeadFits whole k head → Fits whole (page_link head k (drop 2 whole))
page_fits whole head k o (le, edge) =
    let rest = drop (k + 2) (drop 2 whole) in
    let t = run_len class.Trail rest in
    let first : low_at whole 0 ≡ true = begins_low (codes "[[") whole 0 refl o.starts (omega arith) in
    let z : 2 + (k + 0) ≡ k + 2 = omega arith in
    let y : 2 + (k + 1) ≡ k + 3 = omega arith in
    let close : low_at whole (k + 2) ≡ true = ap (low_at whole) (sym z) ∙ sym (low_drop 2 (k + 0) whole)
    ∙ sym (low_drop k 0 (drop 2 whole)) ∙ begins_low (codes "]]") (drop k (drop 2 whole)) 0 refl o.closes (omega arith) in
    let last : low_at whole (k + 3) ≡ true = ap (low_at whole) (sym y) ∙ sym (low_drop 2 (k + 1) whole)
    ∙ sym (low_drop k 1 (drop 2 whole)) ∙ begins_low (codes "]]") (drop k (drop 2 whole)) 1 refl o.closes (omega arith) in
    let letters : (i : ℕ) → i < t → low_at whole (k + 4 + i) ≡ true = λ i below.
    let x : 2 + (k + 2 + i) ≡ k + 4 + i = omega arith in
    ap (low_at whole) (sym x) ∙ sym (low_drop 2 (k + 2 + i) whole) ∙ sym (low_drop (k + 2) i (drop 2 whole)) ∙ run_low class.Trail rest i tt below in
    record {
      some = omega arith;
      within = omega (arith, run_le class.Trail rest, length-drop (k + 2) (drop 2 whole), length-drop 2 whole, o.within);
      form = tt;
      edges = record {
        start = first;
        opening = edge;
        inside = edge_at whole (k + 2) (2 + head + (k - head)) (omega arith) close;
        closing = edge_after whole (k + 3) (2 + head + (k - head) + 2) (omega arith) last;
        trail = edge_same whole (k + 4 + t) (2 + head + (k - head) + 2 + t) (omega arith) (trail_edge whole k t last letters);
      };
    }

closed_leaf : (whole : List Glyph) (kd : TileKind) (k : ℕ) → IsForm kd → Opened whole k → Fits whole (leaf kd (k + 4))
closed_leaf whole kd k form o =
    let y : 2 + (k + 1) ≡ k + 3 = omega arith in
    let last : low_at whole (k + 3) ≡ true = ap (low_at whole) (sym y) ∙ sym (low_drop 2 (k + 1) whole)
    ∙ sym (low_drop k 1 (drop 2 whole)) ∙ begins_low (codes "]]") (drop k (drop 2 whole)) 1 refl o.closes (omega arith) in
    leaf_fits whole kd (k + 4) (k + 3) form (omega arith) (omega (arith, length-drop 2 whole, o.within))
    (begins_low (codes "[[") whole 0 refl o.starts (omega arith)) last

shape_fits : (whole : List Glyph) (kd : LinkKind) (colon : Bool) (n k : ℕ) → Opened whole k → IsBehind kd n k
    → Fits whole (link_shape kd (head_len colon n (drop 2 whole)) k (drop 2 whole))
shape_fits whole Page colon n k o le = page_fits whole (head_len colon n (drop 2 whole)) k o (head_fits whole colon n k o le)
shape_fits whole Category colon n k o le = closed_leaf whole kind.Category k tt o
shape_fits whole Media colon n k o le = closed_leaf whole kind.Media k tt o

with_fits : (whole : List Glyph) (t : Target) (n : ℕ) (o : Option ℕ) → begins (codes "[[") whole ≡ true
    → OptInner (kind_of t) n (drop 2 whole) o → OptFits whole (link_with t n o (drop 2 whole))
with_fits whole t n None starts f = tt
with_fits whole t n (Some k) starts (there, within, le) = by (has_pipe n (drop 2 whole) && k == n + 1)
  where
    by : (b : Bool) → OptFits whole (if b then None else Some (link_shape (kind_of t) (head_len t.colon n (drop 2 whole)) k (drop 2 whole)))
    by true = tt
    by false = shape_fits whole (kind_of t) t.colon n k (record { starts = starts; closes = there; within = within }) le

to_fits : (whole : List Glyph) (o : Option Target) (n : ℕ) → begins (codes "[[") whole ≡ true → OptFits whole (link_to o n (drop 2 whole))
to_fits whole None n starts = tt
to_fits whole (Some t) n starts = with_fits whole t n (inner_len (kind_of t) n (drop 2 whole)) starts (inner_fits (kind_of t) n (drop 2 whole))

by_fits : (whole : List Glyph) (o : Option ℕ) → begins (codes "[[") whole ≡ true → OptFits whole (link_by o (drop 2 whole))
by_fits whole None starts = tt
by_fits whole (Some n) starts = to_fits whole (target_of (take n (drop 2 whole))) n starts

pub link_fits : (gs : List Glyph) → OptFits gs (link_at gs)
unfolding link_at link_in
link_fits gs = if_fits gs (begins (codes "[[") gs) (link_by (target_len (drop 2 gs)) (drop 2 gs)) (λ e. by_fits gs (target_len (drop 2 gs)) e)

-- ---- for the code: the items are what follows the `[[`

inner_is : (kd : LinkKind) (n k : ℕ) (gs : List Glyph) (o : Option ℕ) → o ≡ inner_len kd n gs → o ≡ Some k → OptInner kd n gs (Some k)
inner_is kd n k gs o e is = let P : Option ℕ → Type 0 = λ p. OptInner kd n gs p in subst P (sym e ∙ is) (inner_fits kd n gs)

pub inner_within : (kd : LinkKind) (n k : ℕ) (gs : List Glyph) (o : Option ℕ) → o ≡ inner_len kd n gs → o ≡ Some k → k + 2 ≤ length gs
inner_within kd n k gs o e is = let f = inner_is kd n k gs o e is in f.1

head_is : (kd : LinkKind) (colon : Bool) (n k : ℕ) (gs : List Glyph) → OptInner kd n gs (Some k) → IsHead kd (head_len colon n gs) k
head_is Page colon n k gs (there, within, le) =
    let h = head_fits (glyph.Byte 91 ∷ glyph.Byte 91 ∷ gs) colon n k (record { starts = refl; closes = there; within = within }) le in h.0
head_is Category colon n k gs f = tt
head_is Media colon n k gs f = tt

pub head_within : (kd : LinkKind) (colon : Bool) (n k : ℕ) (gs : List Glyph) (o : Option ℕ) → o ≡ inner_len kd n gs → o ≡ Some k
    → IsHead kd (head_len colon n gs) k
head_within kd colon n k gs o e is = head_is kd colon n k gs (inner_is kd n k gs o e is)

-- what is left after some items is an end too
pub end_later : (whole gs : List Glyph) (m : ℕ) → gs ≡ drop (length whole - length gs) whole → length gs ≤ length whole
    → m ≤ length gs → drop m gs ≡ drop (length whole - length (drop m gs)) whole
end_later whole gs m e le within =
    let z : length whole - length gs + m ≡ length whole - length (drop m gs) = omega (arith, length-drop m gs) in
    ap (λ (hs : List Glyph). drop m hs) e ∙ drop-drop m (length whole - length gs) whole ∙ ap (λ i. drop i whole) z

map_suc : (at : ℕ) (o : Option ℕ) → option_map (λ n. at + 1 + n) o ≡ option_map (λ n. at + n) (option_map (λ n. suc n) o)
map_suc at None = refl
map_suc at (Some n) = let z : at + 1 + n ≡ at + suc n = omega arith in ap (λ (m : ℕ). Some m) z

place_if : (stop bar : List Glyph → Bool) (g : Glyph) (gs : List Glyph) (s b : Bool) → s ≡ false → b ≡ false
    → (if s then Some 0 else (if b then None else option_map (λ n. suc n) (place stop bar gs))) ≡ option_map (λ n. suc n) (place stop bar gs)
place_if stop bar g gs true b e f = false_true (sym e)
place_if stop bar g gs false true e f = false_true (sym f)
place_if stop bar g gs false false e f = refl

place_step_at : (stop bar : List Glyph → Bool) (gs : List Glyph) (at : ℕ) → at < length gs → stop (drop at gs) ≡ false → bar (drop at gs) ≡ false
    → place stop bar (drop at gs) ≡ option_map (λ n. suc n) (place stop bar (drop (at + 1) gs))
place_step_at stop bar [] at h e f = absurd (omega arith)
place_step_at stop bar (g ∷ gs) zero h e f = place_if stop bar g gs (stop (g ∷ gs)) (bar (g ∷ gs)) e f
place_step_at stop bar (g ∷ gs) (suc at) h e f =
    let z : suc (at + 1) ≡ suc at + 1 = omega arith in
    place_step_at stop bar gs at (omega arith) e f ∙ ap (λ m. option_map (λ n. suc n) (place stop bar (drop m (g ∷ gs)))) z

-- one item more, at which the search goes on
pub place_more : (stop bar : List Glyph → Bool) (gs : List Glyph) (at : ℕ) (whole : Option ℕ) → at < length gs
    → stop (drop at gs) ≡ false → bar (drop at gs) ≡ false
    → option_map (λ n. at + n) (place stop bar (drop at gs)) ≡ whole → option_map (λ n. at + 1 + n) (place stop bar (drop (at + 1) gs)) ≡ whole
place_more stop bar gs at whole h e f had =
    map_suc at (place stop bar (drop (at + 1) gs)) ∙ ap (λ (o : Option ℕ). option_map (λ n. at + n) o) (sym (place_step_at stop bar gs at h e f)) ∙ had
