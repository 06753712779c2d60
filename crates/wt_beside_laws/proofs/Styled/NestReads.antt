-- Segments that are put before others among which styles nest.
use Rattle.std.proofs.Common.{◌≡◌, ℕ, suc, Bool, true, false, not, List, [], ◌∷◌, ◌++◌, take, drop, map, refl, sym, ap, ◌∙◌, subst, append_assoc, append-nil, inl, inr, ◌⊎◌, Option}
use Rattle.std.specs.Prelude.{◌&&◌, ◌||◌, if◌then◌else◌}
use Rattle.std.specs.List.{flat_map}
use Rattle.wt_span.specs.Items.{Item}
use Rattle.wt_span.specs.Runs.{put, runs}
use Rattle.wt_inline.specs.declared.loose.Loose.TheVariants.{Text}
use Rattle.wt_inline.specs.Parts.{Part, node, part}
use Rattle.wt_tiles.specs.declared.shape.Shape.{Shape}
use Rattle.wt_tiles.specs.Contexts.{in_line}
use Rattle.wt_tiles.specs.Tiles.{parts as tile_parts}
use Rattle.wt_context.specs.Segments.{Segment, is_quote, one_stretch, loose_segment, loose_segments, segment_parts}
use Rattle.wt_context.specs.Chunks.{begins_with_quote}
use Rattle.wt_context.specs.Line.{context_parts}
use Rattle.wt_context.specs.Nodes.{tile_segments}
use Rattle.wt_context.specs.RunCuts.{ends_with_quote, has_run}
use Rattle.wt_beside_laws.specs.Nests.{Nest, stretch, enclosing, segments_of, nest_segments, style_of, nest_parts, of_style, IsNest}
use Rattle.wt_beside_laws.proofs.LineSegments.{cut_segments, run_first, run_with, HaveItems, runs_have}
use Rattle.wt_beside_laws.proofs.Styled.NestRuns.{marks_first}

-- ---- the first stretch of a nest, and what is behind it

abbrev first_of : Nest → List Segment
first_of (stretch us) = us
first_of (enclosing origin us kind inside after) = us

abbrev behind_first : Nest → List Segment → List Segment
behind_first (stretch us) vs = vs
behind_first (enclosing origin us kind inside after) vs = segments_of origin kind ++ nest_segments inside (segments_of origin kind ++ nest_segments after vs)

abbrev parts_behind : Nest → List Part
parts_behind (stretch us) = []
parts_behind (enclosing origin us kind inside after) = node (style_of origin kind (nest_parts inside)) ∷ nest_parts after

abbrev with_first : List Segment → Nest → Nest
with_first ws (stretch us) = stretch ws
with_first ws (enclosing origin us kind inside after) = enclosing origin ws kind inside after

segments_first : (n : Nest) (vs : List Segment) → nest_segments n vs ≡ first_of n ++ behind_first n vs
segments_first (stretch us) vs = refl
segments_first (enclosing origin us kind inside after) vs = refl

parts_first : (n : Nest) → nest_parts n ≡ segment_parts (first_of n) ++ parts_behind n
parts_first (stretch us) = sym (append-nil (segment_parts us))
parts_first (enclosing origin us kind inside after) = refl

with_segments : (ws : List Segment) (n : Nest) (vs : List Segment) → nest_segments (with_first ws n) vs ≡ ws ++ behind_first n vs
with_segments ws (stretch us) vs = refl
with_segments ws (enclosing origin us kind inside after) vs = refl

with_parts : (ws : List Segment) (n : Nest) → nest_parts (with_first ws n) ≡ segment_parts ws ++ parts_behind n
with_parts ws (stretch us) = sym (append-nil (segment_parts ws))
with_parts ws (enclosing origin us kind inside after) = refl

-- it may stand before what is behind it
record IsFirst (us vs : List Segment) : Type 0 where
  alone : has_run us ≡ false
  ends : begins_with_quote vs ≡ true → ends_with_quote us ≡ false

first_is : (bold italic : Bool) (n : Nest) (vs : List Segment) → IsNest bold italic n vs → IsFirst (first_of n) (behind_first n vs)
first_is bold italic (stretch us) vs h = record { alone = h.0; ends = h.1 }
first_is bold italic (enclosing origin us kind inside after) vs h = record { alone = h.0; ends = λ b. h.1 }

with_nested : (bold italic : Bool) (ws : List Segment) (n : Nest) (vs : List Segment) → IsNest bold italic n vs → IsFirst ws (behind_first n vs)
    → IsNest bold italic (with_first ws n) vs
with_nested bold italic ws (stretch us) vs h f = (f.alone, f.ends)
with_nested bold italic ws (enclosing origin us kind inside after) vs h f =
    (f.alone, f.ends (marks_first origin kind (nest_segments inside (segments_of origin kind ++ nest_segments after vs))), h.2, h.3, h.4, h.5, h.6)

-- nothing, or a delimiter
abbrev pub IsTail : List Segment → Type 0
IsTail vs = (vs ≡ []) ⊎ (begins_with_quote vs ≡ true)

behind_tail : (n : Nest) (vs : List Segment) → IsTail vs → IsTail (behind_first n vs)
behind_tail (stretch us) vs t = t
behind_tail (enclosing origin us kind inside after) vs t = inr (marks_first origin kind (nest_segments inside (segments_of origin kind ++ nest_segments after vs)))

-- ---- segments as a nest, before others; `next` says whether an apostrophe may be first

pub record NestRead (bold italic next : Bool) (us vs : List Segment) (ps : List Part) : Type 0 where
  pub nest : Nest
  pub is : us ≡ nest_segments nest vs
  pub nested : IsNest bold italic nest vs
  pub shows : nest_parts nest ≡ ps
  pub first : next ≡ false → begins_with_quote us ≡ false

pub nothing_read : (bold italic next : Bool) (vs : List Segment) → (next ≡ false → begins_with_quote vs ≡ false) → NestRead bold italic next vs vs []
nothing_read bold italic next vs f = record { nest = stretch []; is = refl; nested = (refl, λ b. refl); shows = refl; first = f }

-- another first stretch
replaced : (bold italic next any : Bool) (us vs news ws : List Segment) (ps qs : List Part) (r : NestRead bold italic next us vs ps)
    → news ≡ ws ++ behind_first r.nest vs → IsFirst ws (behind_first r.nest vs) → segment_parts ws ++ parts_behind r.nest ≡ qs
    → (any ≡ false → begins_with_quote news ≡ false) → NestRead bold italic any news vs qs
replaced bold italic next any us vs news ws ps qs r e f s g = record {
  nest = with_first ws r.nest;
  is = e ∙ sym (with_segments ws r.nest vs);
  nested = with_nested bold italic ws r.nest vs r.nested f;
  shows = with_parts ws r.nest ∙ s;
  first = g;
}

-- ---- a segment in front

first_part : (us vs : List Segment) → begins_with_quote (us ++ vs) ≡ false → begins_with_quote us ≡ false
first_part [] vs e = refl
first_part (u ∷ us) vs e = e

apart_if : (a b : Bool) → (a ≡ true → b ≡ false) → (a && b) ≡ false
apart_if true b f = f refl
apart_if false b f = refl

refuted : (a b : Bool) → (a ≡ true → b ≡ false) → b ≡ true → a ≡ false
refuted true b f e = let no : true ≡ false = sym e ∙ f refl in cc
refuted false b f e = refl

ends_by : (v : Segment) (us vs : List Segment) → (v.quote ≡ true → begins_with_quote (us ++ vs) ≡ false) → begins_with_quote vs ≡ true
    → ends_with_quote us ≡ false → ends_with_quote (v ∷ us) ≡ false
ends_by v [] vs f b e = refuted v.quote (begins_with_quote vs) f b
ends_by v (u ∷ us) vs f b e = e

pub pushed_read : (bold italic next any : Bool) (v : Segment) (us vs : List Segment) (ps : List Part) → (v.quote ≡ true → begins_with_quote us ≡ false)
    → (any ≡ false → v.quote ≡ false) → NestRead bold italic next us vs ps → NestRead bold italic any (v ∷ us) vs (v.parts ++ ps)
pushed_read bold italic next any v us vs ps f g r =
    let front : List Segment = first_of r.nest in
    let behind : List Segment = behind_first r.nest vs in
    let is : us ≡ front ++ behind = r.is ∙ segments_first r.nest vs in
    let own = first_is bold italic r.nest vs r.nested in
    let apart : v.quote ≡ true → begins_with_quote (front ++ behind) ≡ false = λ q. sym (ap begins_with_quote is) ∙ f q in
    replaced bold italic next any us vs (v ∷ us) (v ∷ front) ps (v.parts ++ ps) r (ap (λ ws. v ∷ ws) is)
    (record {
      alone = run_with v front (apart_if v.quote (begins_with_quote front) (λ q. first_part front behind (apart q))) own.alone;
      ends = λ b. ends_by v front behind apart b (own.ends b);
    })
    (append_assoc v.parts (segment_parts front) (parts_behind r.nest) ∙ ap (λ qs. v.parts ++ qs) (sym (parts_first r.nest) ∙ r.shows)) g

-- ---- a character in front, which may join a stretch

record IsJoined (x : Item) (us news : List Segment) : Type 0 where
  first : Item
  others : List Item
  rest : List Segment
  was : us ≡ loose_segment (first ∷ others) ∷ rest
  now : news ≡ loose_segment (x ∷ first ∷ others) ∷ rest
  one : one_stretch x first ≡ true

abbrev IsAdded : Item → List Segment → List Segment → Type 0
IsAdded x us news = (news ≡ loose_segment (x ∷ []) ∷ us) ⊎ IsJoined x us news

put_added : (x : Item) (rs : List (List Item)) (ts : List Segment) → HaveItems rs → IsAdded x (map loose_segment rs ++ ts) (map loose_segment (put one_stretch x rs) ++ ts)
put_added x [] ts h = inl refl
put_added x ([] ∷ rs) ts h = absurd h.0
put_added x ((y ∷ r) ∷ rs) ts h = by (one_stretch x y) refl
  where
    by : (t : Bool) → one_stretch x y ≡ t
        → IsAdded x (map loose_segment ((y ∷ r) ∷ rs) ++ ts) (map loose_segment (if t then (x ∷ y ∷ r) ∷ rs else (x ∷ []) ∷ (y ∷ r) ∷ rs) ++ ts)
    by true e = inr (record { first = y; others = r; rest = map loose_segment rs ++ ts; was = refl; now = refl; one = e })
    by false e = inl refl

char_added : (x : Item) (n : ℕ) (ws : List Shape) (xs : List Item)
    → IsAdded x (cut_segments context_parts in_line (n, ws) xs) (cut_segments context_parts in_line (suc n, ws) (x ∷ xs))
unfolding loose_segments
char_added x n ws xs =
    put_added x (runs one_stretch (take n xs)) (flat_map (tile_segments context_parts in_line) (tile_parts ws (drop n xs))) (runs_have (take n xs))

neither_of : (a b : Bool) → not (a || b) ≡ true → (a ≡ false) × (b ≡ false)
neither_of true b e = cc
neither_of false true e = cc
neither_of false false e = (refl, refl)

-- an apostrophe is a segment by itself
pub quote_added : (x : Item) (n : ℕ) (ws : List Shape) (xs : List Item) → is_quote x ≡ true
    → cut_segments context_parts in_line (suc n, ws) (x ∷ xs) ≡ loose_segment (x ∷ []) ∷ cut_segments context_parts in_line (n, ws) xs
quote_added x n ws xs q = elim (char_added x n ws xs) [
  | inl e ↦ e
  | inr j ↦ let no : true ≡ false = sym q ∙ (neither_of (is_quote x) (is_quote j.first) j.one).0 in cc
]

first_segment : Segment → List Segment → Segment
first_segment u [] = u
first_segment u (v ∷ vs) = v

later_segments : List Segment → List Segment
later_segments [] = []
later_segments (v ∷ vs) = vs

record Joins (x y : Item) (r : List Item) (rest us vs : List Segment) : Type 0 where
  front : List Segment
  is : loose_segment (x ∷ y ∷ r) ∷ rest ≡ front ++ vs
  own : IsFirst front vs
  parts_are : segment_parts front ≡ part Text x ∷ segment_parts us

ends_same : (v w : Segment) (us : List Segment) → v.quote ≡ false → ends_with_quote (w ∷ us) ≡ false → ends_with_quote (v ∷ us) ≡ false
ends_same v w [] q e = q
ends_same v w (u ∷ us) q e = e

joins : (x y : Item) (r : List Item) (rest us vs : List Segment) → loose_segment (y ∷ r) ∷ rest ≡ us ++ vs → IsTail vs → is_quote x ≡ false → is_quote y ≡ false
    → IsFirst us vs → Joins x y r rest us vs
unfolding first_segment later_segments
joins x y r rest [] vs e t p q f = elim t [
  | inl none ↦ let no : loose_segment (y ∷ r) ∷ rest ≡ [] = e ∙ none in cc
  | inr quoted ↦ let no : false ≡ true = sym q ∙ ap begins_with_quote e ∙ quoted in cc
]
joins x y r rest (u ∷ us) vs e t p q f =
    let v : Segment = loose_segment (x ∷ y ∷ r) in
    let own : loose_segment (y ∷ r) ≡ u = ap (first_segment u) e in
    let behind : rest ≡ us ++ vs = ap later_segments e in
    record {
      front = v ∷ us;
      is = ap (λ ws. v ∷ ws) behind;
      own = record {
        alone = run_with v us (ap (λ (b : Bool). b && begins_with_quote us) p) (run_first u us f.alone);
        ends = λ b. ends_same v u us p (f.ends b);
      };
      parts_are = ap (λ (w : Segment). part Text x ∷ (w.parts ++ segment_parts us)) own;
    }

joined_read : (bold italic next any : Bool) (x : Item) (us vs news : List Segment) (ps : List Part) → IsTail vs → IsJoined x us news
    → NestRead bold italic next us vs ps → NestRead bold italic any news vs (part Text x ∷ ps)
joined_read bold italic next any x us vs news ps t j r =
    let no = neither_of (is_quote x) (is_quote j.first) j.one in
    let a = joins x j.first j.others j.rest (first_of r.nest) (behind_first r.nest vs) (sym j.was ∙ r.is ∙ segments_first r.nest vs)
    (behind_tail r.nest vs t) no.0 no.1 (first_is bold italic r.nest vs r.nested) in
    replaced bold italic next any us vs news a.front ps (part Text x ∷ ps) r (j.now ∙ a.is) a.own
    (ap (λ qs. qs ++ parts_behind r.nest) a.parts_are ∙ ap (λ qs. part Text x ∷ qs) (sym (parts_first r.nest) ∙ r.shows))
    (λ z. ap begins_with_quote j.now ∙ no.0)

pub char_read : (bold italic next any : Bool) (x : Item) (n : ℕ) (ws : List Shape) (xs : List Item) (vs : List Segment) (ps : List Part) → IsTail vs
    → (is_quote x ≡ true → next ≡ false) → (any ≡ false → is_quote x ≡ false) → NestRead bold italic next (cut_segments context_parts in_line (n, ws) xs) vs ps
    → NestRead bold italic any (cut_segments context_parts in_line (suc n, ws) (x ∷ xs)) vs (part Text x ∷ ps)
char_read bold italic next any x n ws xs vs ps t f g r = elim (char_added x n ws xs) [
  | inl e ↦ subst (λ us. NestRead bold italic any us vs (part Text x ∷ ps)) (sym e)
      (pushed_read bold italic next any (loose_segment (x ∷ [])) (cut_segments context_parts in_line (n, ws) xs) vs ps (λ q. r.first (f q)) g r)
  | inr j ↦ joined_read bold italic next any x (cut_segments context_parts in_line (n, ws) xs) vs
      (cut_segments context_parts in_line (suc n, ws) (x ∷ xs)) ps t j r
]

-- ---- a style in front

pub enclosed_read : (origin : Option ℕ) (bold italic kind : Bool) (us ws vs : List Segment) (ps qs : List Part) (b : NestRead bold italic false ws vs qs) → of_style kind bold italic ≡ false
    → NestRead (kind || bold) (not kind || italic) false us (segments_of origin kind ++ nest_segments b.nest vs) ps
    → NestRead bold italic true (segments_of origin kind ++ us) vs (node (style_of origin kind ps) ∷ qs)
enclosed_read origin bold italic kind us ws vs ps qs b free a = record {
  nest = enclosing origin [] kind a.nest b.nest;
  is = ap (λ xs. segments_of origin kind ++ xs) a.is;
  nested = (refl, refl, free, sym (ap begins_with_quote a.is) ∙ a.first refl, a.nested, sym (ap begins_with_quote b.is) ∙ b.first refl, b.nested);
  shows = ap (λ (xs : List Part). node (style_of origin kind xs) ∷ nest_parts b.nest) a.shows ∙ ap (λ xs. node (style_of origin kind ps) ∷ xs) b.shows;
  first = λ z. cc;
}
