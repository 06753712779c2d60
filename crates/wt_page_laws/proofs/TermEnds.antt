-- A term ends at the first `:` among the characters of its line.
use Rattle.std.proofs.Common.{◌≡◌, ◌⊎◌, ◌<◌, ◌≤◌, ℕ, zero, suc, ◌+◌, Bool, true, false, Option, Some, None, List, [], ◌∷◌, ◌++◌, length, refl, sym, ap, ◌∙◌, inl, inr, arith, length-append, subst}
use Rattle.std.specs.Prelude.{◌==◌, not, nat_lt, replicate, if◌then◌else◌}
use Rattle.std.specs.List.{AllByRecursion, flat_map, prefix_len}
use Rattle.std.proofs.lemmas.Bool.{eqb-true}
use Rattle.std.proofs.lemmas.Bool.Decides.{nat_tests}
use Rattle.wt_span.specs.Items.{Item, sign}
use Rattle.wt_tiles.specs.declared.shape.Shape.{Shape}
use Rattle.wt_tiles.specs.declared.shape.TileKind.{TileKind}
use Rattle.wt_tiles.specs.declared.shape.TileKind.TheVariants as kind
use Rattle.wt_tiles.specs.Contexts.{in_line}
use Rattle.wt_tiles.specs.Tiles.{tiles}
use Rattle.wt_tiles.specs.Cutting.{joined}
use Rattle.wt_tiles.proofs.Joining.{tiles_join}
use Rattle.wt_page.specs.Rows.{signs}
use Rattle.wt_page.specs.Lists.{is_bare, seen_signs, colon_at, term_len}
use Rattle.wt_page_laws.specs.Terms.{HasNoColon, HidesColons, IsFirstColon}

abbrev goes_by : ℕ → Bool
goes_by s = not (s == 58)

abbrev Tile : Type 0
Tile = Shape × List Item

-- ---- in characters, before these signs

record StandsIn (xs : List Item) (ss : List ℕ) : Type 0 where
  front : List Item
  colon : Item
  back : List Item
  cut : xs ≡ front ++ colon ∷ back
  is_colon : sign colon ≡ 58
  none : HasNoColon front
  place : prefix_len goes_by (signs xs ++ ss) ≡ length front

scan : (xs : List Item) (ss : List ℕ)
    → StandsIn xs ss ⊎ (HasNoColon xs × (prefix_len goes_by (signs xs ++ ss) ≡ length xs + prefix_len goes_by ss))
scan [] ss = inr (tt, omega arith)
scan (x ∷ xs) ss = by (sign x == 58) refl (scan xs ss)
  where
    rest : ℕ
    rest = prefix_len goes_by (signs xs ++ ss)

    by : (b : Bool) → (sign x == 58) ≡ b → StandsIn xs ss ⊎ (HasNoColon xs × (prefix_len goes_by (signs xs ++ ss) ≡ length xs + prefix_len goes_by ss))
        → StandsIn (x ∷ xs) ss ⊎ (HasNoColon (x ∷ xs) × (prefix_len goes_by (signs (x ∷ xs) ++ ss) ≡ length (x ∷ xs) + prefix_len goes_by ss))
    by true e f = inl (record {
      front = [];
      colon = x;
      back = xs;
      cut = refl;
      is_colon = eqb-true _ _ e;
      none = tt;
      place = ap (λ c. if not c then 1 + rest else 0) e;
    })
    by false e f = elim f [
      | inl c ↦ inl (record {
        front = x ∷ c.front;
        colon = c.colon;
        back = c.back;
        cut = ap (λ ys. x ∷ ys) c.cut;
        is_colon = c.is_colon;
        none = (e, c.none);
        place = ap (λ b. if not b then 1 + rest else 0) e ∙ (let p = c.place in omega (arith, p));
      })
      | inr q ↦ inr ((e, q.0), ap (λ b. if not b then 1 + rest else 0) e ∙ (let p = q.1 in omega (arith, p)))
    ]

hidden : (n : ℕ) (ss : List ℕ) → prefix_len goes_by (replicate n 256 ++ ss) ≡ n + prefix_len goes_by ss
hidden zero ss = omega arith
hidden (suc n) ss = let e = hidden n ss in omega (arith, e)

-- ---- in tiles

found_behind : (t : Tile) (n : ℕ) (ts : List Tile) → HidesColons t → IsFirstColon n ts → IsFirstColon (length t.1 + n) (t ∷ ts)
found_behind t n ts h c = record {
  before = t ∷ c.before;
  shape = c.shape;
  front = c.front;
  colon = c.colon;
  back = c.back;
  after = c.after;
  cut = ap (λ us. t ∷ us) c.cut;
  characters = c.characters;
  is_colon = c.is_colon;
  none_in_front = c.none_in_front;
  none_before = (h, c.none_before);
  place = let p = c.place in let l = length-append t.1 (joined c.before) in omega (arith, p, l);
}

is_characters : (k : TileKind) → is_bare k ≡ true → k ≡ kind.Chars
is_characters kind.Chars e = refl
is_characters kind.Link e = cc
is_characters kind.Category e = cc
is_characters kind.Media e = cc
is_characters kind.ExtLink e = cc
is_characters kind.BareUrl e = cc
is_characters kind.Br e = cc
is_characters kind.Pair e = cc
is_characters kind.TagIsland e = cc
is_characters kind.Switch e = cc
is_characters kind.Atom e = cc
is_characters kind.Mark e = cc

no_characters : (k : TileKind) → is_bare k ≡ false → k ≡ kind.Chars → ⊥
no_characters k e f = let g : is_bare kind.Chars ≡ false = subst (λ j. is_bare j ≡ false) f e in cc

abbrev seen : List Tile → List ℕ
seen ts = flat_map seen_signs ts

abbrev Find : List Tile → ℕ → Type 0
Find ts n = (IsFirstColon n ts × (n < length (joined ts))) ⊎ (AllByRecursion HidesColons ts × (n ≡ length (joined ts)))

move : (t : Tile) (ts : List Tile) (n : ℕ) → HidesColons t → Find ts n → Find (t ∷ ts) (length t.1 + n)
move t ts n h (inl q) =
    inl (found_behind t n ts h q.0, let l = q.1 in let e = length-append t.1 (joined ts) in omega (arith, l, e))
move t ts n h (inr q) = inr ((h, q.0), let l = q.1 in let e = length-append t.1 (joined ts) in omega (arith, l, e))

in_chars : (w : Shape) (xs : List Item) (ts : List Tile) → w.kind ≡ kind.Chars → Find ts (prefix_len goes_by (seen ts))
    → Find ((w, xs) ∷ ts) (prefix_len goes_by (signs xs ++ seen ts))
in_chars w xs ts k f = elim (scan xs (seen ts)) [
  | inl c ↦ inl (
    record {
      before = [];
      shape = w;
      front = c.front;
      colon = c.colon;
      back = c.back;
      after = ts;
      cut = ap (λ ys. (w, ys) ∷ ts) c.cut;
      characters = k;
      is_colon = c.is_colon;
      none_in_front = c.none;
      none_before = tt;
      place = let p = c.place in omega (arith, p);
    },
    let p = c.place in
        let e : length xs ≡ length c.front + length (c.colon ∷ c.back) = ap length c.cut ∙ length-append c.front (c.colon ∷ c.back) in
        let l = length-append xs (joined ts) in omega (arith, p, e, l),
  )
  | inr q ↦ subst (Find ((w, xs) ∷ ts)) (sym q.1) (move (w, xs) ts (prefix_len goes_by (seen ts)) (λ e. q.0) f)
]

find : (ts : List Tile) → Find ts (prefix_len goes_by (seen ts))
find [] = inr (tt, refl)
find ((w, xs) ∷ ts) = by (is_bare w.kind) refl (find ts)
  where
    by : (b : Bool) → is_bare w.kind ≡ b → Find ts (prefix_len goes_by (seen ts))
        → Find ((w, xs) ∷ ts) (prefix_len goes_by ((if b then signs xs else replicate (length xs) 256) ++ seen ts))
    by true e f = in_chars w xs ts (is_characters w.kind e) f
    by false e f =
        subst (Find ((w, xs) ∷ ts)) (sym (hidden (length xs) (seen ts)))
        (move (w, xs) ts (prefix_len goes_by (seen ts)) (λ k. absurd (no_characters w.kind e k)) f)

-- ---- of a line

abbrev len_by : Bool → ℕ → Option ℕ
len_by b n = if b then Some n else None

of_line : (xs : List Item) → Find (tiles in_line xs) (colon_at xs)
unfolding colon_at
of_line xs = find (tiles in_line xs)

some_at : (b : Bool) (k n : ℕ) → len_by b k ≡ Some n → k ≡ n
some_at true k n e = grind arith
some_at false k n e = cc

none_at : (k m : ℕ) → len_by (nat_lt k m) k ≡ None → m ≤ k
none_at k m e = by (nat_lt k m) refl e
  where
    by : (b : Bool) → nat_lt k m ≡ b → len_by b k ≡ None → m ≤ k
    by true f e = cc
    by false f e = grind (arith, nat_tests)

some_below : (k m n : ℕ) → len_by (nat_lt k m) k ≡ Some n → k < m
some_below k m n e = by (nat_lt k m) refl e
  where
    by : (b : Bool) → nat_lt k m ≡ b → len_by b k ≡ Some n → k < m
    by true f e = grind (arith, nat_tests)
    by false f e = cc

pub term_first : (xs : List Item) (n : ℕ) → term_len 59 xs ≡ Some n → IsFirstColon n (tiles in_line xs)
term_first xs n e =
    let l : length (joined (tiles in_line xs)) ≡ length xs = ap length (tiles_join in_line xs) in
    let lt : colon_at xs < length xs = some_below (colon_at xs) (length xs) n e in
    elim (of_line xs) [
      | inl q ↦ subst (λ m. IsFirstColon m (tiles in_line xs)) (some_at (nat_lt (colon_at xs) (length xs)) (colon_at xs) n e) q.0
      | inr q ↦ absurd (let k = q.1 in omega (arith, k, l, lt))
    ]

pub term_none : (xs : List Item) → term_len 59 xs ≡ None → AllByRecursion HidesColons (tiles in_line xs)
term_none xs e =
    let l : length (joined (tiles in_line xs)) ≡ length xs = ap length (tiles_join in_line xs) in
    let le : length xs ≤ colon_at xs = none_at (colon_at xs) (length xs) e in
    elim (of_line xs) [
      | inl q ↦ absurd (let k = q.1 in omega (arith, k, l, le))
      | inr q ↦ q.0
    ]

pub term_others : (s : ℕ) (xs : List Item) → (s == 59) ≡ false → term_len s xs ≡ None
term_others s xs e = ap (λ b. if b then len_by (nat_lt (colon_at xs) (length xs)) (colon_at xs) else None) e
