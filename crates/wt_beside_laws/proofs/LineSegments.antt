-- The segments of a line, from one tile and one character to the next.
use Rattle.std.proofs.Common.{arith, ◌≡◌, ℕ, suc, ◌+◌, ◌-◌, ◌==◌, Bool, true, false, Option, Some, None, List, [], ◌∷◌, ◌++◌, length, take, drop, map, refl, sym, ap, ◌∙◌, subst, take_all}
use Rattle.std.specs.Prelude.{◌&&◌, ◌||◌, not, if◌then◌else◌}
use Rattle.std.specs.List.{flat_map}
use Rattle.std.proofs.lemmas.Bool.Decides.{nat_tests}
use Rattle.wt_span.specs.declared.form.ItemForm.{ItemForm}
use Rattle.wt_span.specs.declared.form.ItemForm.TheVariants as form
use Rattle.wt_span.specs.Items.{Item, char, whole}
use Rattle.wt_span.specs.Runs.{put, runs}
use Rattle.wt_inline.specs.declared.loose.Loose.TheVariants.{Text}
use Rattle.wt_inline.specs.Parts.{Part, part}
use Rattle.wt_tiles.specs.declared.context.Context.{Context}
use Rattle.wt_tiles.specs.declared.glyph.Glyph.{Glyph}
use Rattle.wt_tiles.specs.declared.glyph.Glyph.TheVariants as glyph
use Rattle.wt_tiles.specs.declared.shape.Shape.{Shape}
use Rattle.wt_tiles.specs.declared.shape.TileKind.{TileKind}
use Rattle.wt_tiles.specs.declared.shape.TileKind.TheVariants as kind
use Rattle.wt_tiles.specs.Contexts.{in_line}
use Rattle.wt_tiles.specs.Glyphs.{glyph_of, glyph_of_form}
use Rattle.wt_tiles.specs.Links.{leaf}
use Rattle.wt_tiles.specs.Tiles.{size, Cut, chars, closed, shapes, tile_with, cuts, parts as tile_parts}
use Rattle.wt_tiles.proofs.Joining.{tiles_are}
use Rattle.wt_quotes.specs.Forest.{forest_of}
use Rattle.wt_context.specs.Segments.{Segment, is_quote, one_stretch, loose_segment, loose_segments, segment_parts, tree_segment}
use Rattle.wt_context.specs.Chunks.{both_quotes, begins_with_quote, chunks_since, chunks}
use Rattle.wt_context.specs.RunCuts.{has_run}
use Rattle.wt_context.specs.Styled.{styled, with_styles}
use Rattle.wt_context.specs.Nodes.{Reading, tile_tree, segments_by, tile_segments, segments}
use Rattle.wt_context.specs.Line.{context_parts, line_parts}
use Rattle.wt_context.proofs.NestedContexts.{contexts_are}
use Rattle.wt_context.proofs.PlainNodes.{AreTexts, text_parts}
use Rattle.wt_text_edit_laws.proofs.Texts.StillLines.{HasNoRun, alone, apart_put, no_runs, no_styles}
use Rattle.wt_beside_laws.specs.Cuts.{add_tile, own_form}
use Rattle.wt_beside_laws.proofs.FormKinds.{HasTree, has_tree, form_is_node}

-- ---- segments among which no two apostrophes are side by side

pub run_first : (u : Segment) (us : List Segment) → has_run (u ∷ us) ≡ false → has_run us ≡ false
run_first u [] e = refl
run_first u (v ∷ us) e = later (both_quotes u v) (has_run (v ∷ us)) e
  where
    later : (a b : Bool) → (a || b) ≡ false → b ≡ false
    later true b f = cc
    later false b f = f

pub run_with : (u : Segment) (us : List Segment) → (u.quote && begins_with_quote us) ≡ false → has_run us ≡ false → has_run (u ∷ us) ≡ false
run_with u [] e f = refl
run_with u (v ∷ us) e f = neither (both_quotes u v) (has_run (v ∷ us)) e f
  where
    neither : (a b : Bool) → a ≡ false → b ≡ false → (a || b) ≡ false
    neither true b g h = g
    neither false b g h = h

runs_alone : (us : List Segment) → has_run us ≡ false → runs both_quotes us ≡ map alone us
runs_alone [] e = refl
runs_alone (u ∷ []) e = refl
runs_alone (u ∷ v ∷ us) e =
    ap (put both_quotes u) (runs_alone (v ∷ us) (run_first u (v ∷ us) e)) ∙ apart_put u v (map alone us) (first (both_quotes u v) (has_run (v ∷ us)) e)
  where
    first : (a b : Bool) → (a || b) ≡ false → a ≡ false
    first true b f = f
    first false b f = refl

pub no_run_chunks : (us : List Segment) → has_run us ≡ false → HasNoRun (chunks us)
unfolding chunks
no_run_chunks us e = subst (λ rs. HasNoRun (chunks_since [] rs)) (sym (runs_alone us e)) (no_runs [] us)

pub unstyled : (us : List Segment) → has_run us ≡ false → with_styles us ≡ segment_parts us
unfolding with_styles
unstyled us e =
    ap (λ ss. styled 0 (length us) (forest_of ss) us) (no_styles (chunks us) (no_run_chunks us e)) ∙ ap segment_parts (take_all (length us - 0) us (omega arith))

-- ---- the segments of a cut

abbrev pub cut_segments : Reading → Context → Cut → List Item → List Segment
cut_segments read cx c xs = loose_segments (take c.0 xs) ++ flat_map (tile_segments read cx) (tile_parts c.1 (drop c.0 xs))

closed_by : (t : Bool) (read : Reading) (cx : Context) (n : ℕ) (ws : List Shape) (xs : List Item) → (n == 0) ≡ t
    → flat_map (tile_segments read cx) (tile_parts (if t then ws else chars n ∷ ws) xs) ≡ cut_segments read cx (n, ws) xs
unfolding loose_segments
closed_by true read cx n ws xs e =
    let is : 0 ≡ n = grind (arith, nat_tests, e) in
    subst (λ (m : ℕ). flat_map (tile_segments read cx) (tile_parts ws xs) ≡ cut_segments read cx (m, ws) xs) is refl
closed_by false read cx n ws xs e =
    let all : size (chars n) ≡ n = omega arith in
    ap (λ (m : ℕ). map loose_segment (runs one_stretch (take m xs)) ++ flat_map (tile_segments read cx) (tile_parts ws (drop m xs))) all

closed_segments : (read : Reading) (cx : Context) (n : ℕ) (ws : List Shape) (xs : List Item)
    → flat_map (tile_segments read cx) (tile_parts (closed n ws) xs) ≡ cut_segments read cx (n, ws) xs
unfolding closed
closed_segments read cx n ws xs = closed_by (n == 0) read cx n ws xs refl

front_taken : (own xs : List Item) → take (length own) (own ++ xs) ≡ own
front_taken [] xs = refl
front_taken (x ∷ own) xs = ap (λ ys. x ∷ ys) (front_taken own xs)

front_dropped : (own xs : List Item) → drop (length own) (own ++ xs) ≡ xs
front_dropped [] xs = refl
front_dropped (x ∷ own) xs = front_dropped own xs

pub tile_first : (read : Reading) (cx : Context) (w : Shape) (c : Cut) (own xs : List Item) → size w ≡ length own
    → cut_segments read cx (add_tile w c) (own ++ xs) ≡ tile_segments read cx (w, own) ++ cut_segments read cx c xs
unfolding loose_segments
tile_first read cx w c own xs e =
    let ys : List Item = own ++ xs in
    ap (λ (m : ℕ). tile_segments read cx (w, take m ys) ++ flat_map (tile_segments read cx) (tile_parts (closed c.0 c.1) (drop m ys))) e
    ∙ ap (λ zs. tile_segments read cx (w, zs) ++ flat_map (tile_segments read cx) (tile_parts (closed c.0 c.1) (drop (length own) ys))) (front_taken own xs)
    ∙ ap (λ zs. tile_segments read cx (w, own) ++ flat_map (tile_segments read cx) (tile_parts (closed c.0 c.1) zs)) (front_dropped own xs)
    ∙ ap (λ us. tile_segments read cx (w, own) ++ us) (closed_segments read cx c.0 c.1 xs)

-- ---- a line is its segments

pub segments_are : (c : Cut) (xs : List Item) → cuts in_line false 0 (map glyph_of xs) ≡ c
    → segments context_parts in_line xs ≡ cut_segments context_parts in_line c xs
unfolding segments shapes
segments_are c xs e =
    ap (flat_map (tile_segments context_parts in_line)) (tiles_are in_line xs)
    ∙ ap (λ (d : Cut). flat_map (tile_segments context_parts in_line) (tile_parts (closed d.0 d.1) xs)) e
    ∙ closed_segments context_parts in_line c.0 c.1 xs

pub read_line : (c : Cut) (xs : List Item) (us : List Segment) → cuts in_line false 0 (map glyph_of xs) ≡ c → cut_segments context_parts in_line c xs ≡ us
    → has_run us ≡ false → line_parts xs ≡ segment_parts us
read_line c xs us e f g = contexts_are in_line xs (omega arith) ∙ ap with_styles (segments_are c xs e ∙ f) ∙ unstyled us g

-- ---- a node

pub record IsOneSegment (own : List Item) (w : Shape) : Type 0 where
  pub segment : Segment
  pub is : tile_segments context_parts in_line (w, own) ≡ segment ∷ []
  pub other : segment.quote ≡ false
  pub texts : AreTexts segment.parts

by_tree : (w : Shape) (own : List Item) → HasTree (tile_tree context_parts in_line w.kind w own) → IsOneSegment own w
by_tree w own h = record { segment = tree_segment own h.node; is = ap (λ o. segments_by o own) h.is; other = refl; texts = (tt, tt) }

-- what is read by one item that is no character
record IsItself (f : ItemForm) : Type 0 where
  kind_is : TileKind
  is : (gs : List Glyph) → tile_with in_line false (glyph_of_form f) gs ≡ Some (leaf kind_is 1)
  bare : (xs : List Item) → tile_tree context_parts in_line kind_is (leaf kind_is 1) xs ≡ None

atom : (f : ItemForm) → ((gs : List Glyph) → tile_with in_line false (glyph_of_form f) gs ≡ Some (leaf kind.Atom 1)) → IsItself f
atom f e = record { kind_is = kind.Atom; is = e; bare = λ xs. refl }

mark : (f : ItemForm) → ((gs : List Glyph) → tile_with in_line false (glyph_of_form f) gs ≡ Some (leaf kind.Mark 1)) → IsItself f
mark f e = record { kind_is = kind.Mark; is = e; bare = λ xs. refl }

itself : (f : ItemForm) → IsItself f
itself form.Chars = atom form.Chars (λ gs. refl)
itself (form.Entity c) = atom (form.Entity c) (λ gs. refl)
itself form.Nowiki = atom form.Nowiki (λ gs. refl)
itself form.Extension = atom form.Extension (λ gs. refl)
itself form.Function = atom form.Function (λ gs. refl)
itself form.Comment = mark form.Comment (λ gs. refl)
itself form.Include = mark form.Include (λ gs. refl)
itself form.Hidden = mark form.Hidden (λ gs. refl)
itself form.EmptyCall = mark form.EmptyCall (λ gs. refl)

same_shape : (v w : Shape) → Some v ≡ Some w → v ≡ w
same_shape v w e = cc

whole_segment : (f : ItemForm) (o : Option ℕ) (bs : List ℕ) (own : List Item) (w : Shape) → own_form in_line (glyph_of_form f ∷ map glyph_of own) ≡ Some w
    → size w ≡ 1 + length own → IsOneSegment (whole f o bs ∷ own) w
unfolding loose_segments
whole_segment f o bs [] w e l =
    let it = itself f in
    let is : leaf it.kind_is 1 ≡ w = same_shape (leaf it.kind_is 1) w (sym (it.is (glyph_of_form f ∷ [])) ∙ e) in
    subst (IsOneSegment (whole f o bs ∷ [])) is
    (record { segment = loose_segment (whole f o bs ∷ []); is = ap (λ t. segments_by t (whole f o bs ∷ [])) (it.bare (whole f o bs ∷ [])); other = refl; texts = text_parts (whole f o bs ∷ []) })
whole_segment f o bs (x ∷ own) w e l =
    let it = itself f in
    let is : leaf it.kind_is 1 ≡ w = same_shape (leaf it.kind_is 1) w (sym (it.is (glyph_of_form f ∷ glyph_of x ∷ map glyph_of own)) ∙ e) in
    let one : size (leaf it.kind_is 1) ≡ 1 + length (x ∷ own) = ap size is ∙ l in
    absurd (omega (arith, one))

pub one_segment : (own : List Item) (w : Shape) → own_form in_line (map glyph_of own) ≡ Some w → size w ≡ length own → IsOneSegment own w
one_segment [] w e l = cc
one_segment (char o b ∷ own) w e l =
    by_tree w (char o b ∷ own)
    (has_tree context_parts in_line w.kind w (char o b ∷ own) (form_is_node in_line false (glyph.Byte b ∷ map glyph_of own) w e))
one_segment (whole f o bs ∷ own) w e l = whole_segment f o bs own w e (omega (arith, l))

-- ---- step by step

-- What segments show, and that none of their apostrophes are side by side; `next` says whether one may be first.
pub record IsRead (us : List Segment) (next : Bool) (ps : List Part) : Type 0 where
  pub shows : segment_parts us ≡ ps
  pub apart : has_run us ≡ false
  pub first : next ≡ false → begins_with_quote us ≡ false

segment_read : (v : Segment) (us : List Segment) (next any : Bool) (ps : List Part) → v.quote ≡ false → IsRead us next ps → IsRead (v ∷ us) any (v.parts ++ ps)
segment_read v us next any ps e r = record {
  shows = ap (λ qs. v.parts ++ qs) r.shows;
  apart = run_with v us (ap (λ (t : Bool). t && begins_with_quote us) e) r.apart;
  first = λ z. e;
}

pub tile_read : (w : Shape) (c : Cut) (own xs : List Item) (next any : Bool) (ps : List Part) (s : IsOneSegment own w) → size w ≡ length own
    → IsRead (cut_segments context_parts in_line c xs) next ps
    → IsRead (cut_segments context_parts in_line (add_tile w c) (own ++ xs)) any (s.segment.parts ++ ps)
tile_read w c own xs next any ps s e r =
    subst (λ us. IsRead us any (s.segment.parts ++ ps))
    (sym (tile_first context_parts in_line w c own xs e ∙ ap (λ us. us ++ cut_segments context_parts in_line c xs) s.is))
    (segment_read s.segment (cut_segments context_parts in_line c xs) next any ps s.other r)

-- an item that is no character
pub atom_read : (x : Item) (c : Cut) (xs : List Item) (next any : Bool) (ps : List Part) → is_quote x ≡ false
    → IsRead (cut_segments context_parts in_line c xs) next ps
    → IsRead (cut_segments context_parts in_line (add_tile (leaf kind.Atom 1) c) (x ∷ xs)) any (part Text x ∷ ps)
unfolding loose_segments
atom_read x c xs next any ps q r =
    tile_read (leaf kind.Atom 1) c (x ∷ []) xs next any ps (record { segment = loose_segment (x ∷ []); is = refl; other = q; texts = text_parts (x ∷ []) }) refl r

pub none_read : (any : Bool) → IsRead (cut_segments context_parts in_line (0, []) []) any []
unfolding loose_segments
none_read any = record { shows = refl; apart = refl; first = λ z. refl }

-- one more character before a run of them
pub record IsCharRead (x : Item) (us vs : List Segment) : Type 0 where
  pub shows : segment_parts vs ≡ part Text x ∷ segment_parts us
  pub apart : has_run vs ≡ false
  pub first : begins_with_quote vs ≡ is_quote x

char_alone : (x : Item) (us : List Segment) → has_run us ≡ false → (is_quote x && begins_with_quote us) ≡ false → IsCharRead x us (loose_segment (x ∷ []) ∷ us)
char_alone x us a f = record { shows = refl; apart = run_with (loose_segment (x ∷ [])) us f a; first = refl }

join_none : (p q : Bool) → not (p || q) ≡ true → (p ≡ false) × (q ≡ false)
join_none true q e = cc
join_none false true e = cc
join_none false false e = (refl, refl)

-- no run is empty
abbrev pub HaveItems : List (List Item) → Type 0
HaveItems [] = Unit {0}
HaveItems ([] ∷ rs) = ⊥ × HaveItems rs
HaveItems ((x ∷ r) ∷ rs) = Unit {0} × HaveItems rs

put_has : (x : Item) (rs : List (List Item)) → HaveItems rs → HaveItems (put one_stretch x rs)
put_has x [] h = (tt, tt)
put_has x ([] ∷ rs) h = absurd h.0
put_has x ((y ∷ r) ∷ rs) h = by (one_stretch x y)
  where
    by : (t : Bool) → HaveItems (if t then (x ∷ y ∷ r) ∷ rs else (x ∷ []) ∷ (y ∷ r) ∷ rs)
    by true = (tt, h.1)
    by false = (tt, (tt, h.1))

pub runs_have : (xs : List Item) → HaveItems (runs one_stretch xs)
runs_have [] = tt
runs_have (x ∷ xs) = put_has x (runs one_stretch xs) (runs_have xs)

char_put : (x : Item) (rs : List (List Item)) (ts : List Segment) → HaveItems rs → has_run (map loose_segment rs ++ ts) ≡ false
    → (is_quote x && begins_with_quote (map loose_segment rs ++ ts)) ≡ false
    → IsCharRead x (map loose_segment rs ++ ts) (map loose_segment (put one_stretch x rs) ++ ts)
char_put x [] ts h a f = char_alone x ts a f
char_put x ([] ∷ rs) ts h a f = absurd h.0
char_put x ((y ∷ r) ∷ rs) ts h a f = by (one_stretch x y) refl
  where
    by : (t : Bool) → one_stretch x y ≡ t
        → IsCharRead x (map loose_segment ((y ∷ r) ∷ rs) ++ ts) (map loose_segment (if t then (x ∷ y ∷ r) ∷ rs else (x ∷ []) ∷ (y ∷ r) ∷ rs) ++ ts)
    by true e =
        let no = join_none (is_quote x) (is_quote y) e in
        record {
          shows = refl;
          apart = run_with (loose_segment (x ∷ y ∷ r)) (map loose_segment rs ++ ts)
              (ap (λ (t : Bool). t && begins_with_quote (map loose_segment rs ++ ts)) no.0) (run_first (loose_segment (y ∷ r)) (map loose_segment rs ++ ts) a);
          first = refl;
        }
    by false e = char_alone x (map loose_segment ((y ∷ r) ∷ rs) ++ ts) a f

pub char_read : (x : Item) (n : ℕ) (ws : List Shape) (xs : List Item) → has_run (cut_segments context_parts in_line (n, ws) xs) ≡ false
    → (is_quote x && begins_with_quote (cut_segments context_parts in_line (n, ws) xs)) ≡ false
    → IsCharRead x (cut_segments context_parts in_line (n, ws) xs) (cut_segments context_parts in_line (suc n, ws) (x ∷ xs))
unfolding loose_segments
char_read x n ws xs a f =
    char_put x (runs one_stretch (take n xs)) (flat_map (tile_segments context_parts in_line) (tile_parts ws (drop n xs))) (runs_have (take n xs)) a f
