-- Lists and their items are written wherever lists may stand.
use Rattle.std.proofs.Common.{◌≡◌, ℕ, zero, suc, ◌+◌, ◌-◌, ◌*◌, ◌<◌, ◌≤◌, Bool, true, false, min, Option, Some, None, List, [], ◌∷◌, ◌++◌, length, map, take, drop, get_or, nat_lt, codes, cond, inr, refl, sym, ap, ◌∙◌, subst, arith, append_assoc, append-nil, length-append, length-drop, length-take}
use Rattle.std.specs.Prelude.{◌==◌, ◌&&◌, ◌||◌, slice_index, if◌then◌else◌}
use Rattle.std.specs.List.{filter, prefix_len, list_all, AllByRecursion}
use Rattle.std.proofs.lemmas.Bool.{eqb-true, ltb-true, and_parts}
use Rattle.std.proofs.lemmas.Bool.Decides.{nat_tests}
use Rattle.std.proofs.Math.Seq.{get_or-append_seam}
use Rattle.wt_span.specs.Items.{Item}
use Rattle.wt_span.specs.Runs.{put, runs, IsRun, AreRuns}
use Rattle.wt_span.proofs.RunLaws.{runs_are}
use Rattle.wt_tree.specs.declared.kind.Kind.{Kind}
use Rattle.wt_tree.specs.declared.kind.Kind.TheVariants as kind
use Rattle.wt_tree.specs.declared.row.Placement.TheVariants.{List as ListClass, Item as ItemClass, Term, Inline, Character}
use Rattle.wt_tree.specs.declared.row.Holding.TheVariants.{Items, Terms, InlinesThenLists}
use Rattle.wt_tree.specs.declared.row.Texts.TheVariants.{Separators, Bordered}
use Rattle.wt_tree.specs.Kinds.{is_class, may_hold, shape, is_anywhere, spelling}
use Rattle.wt_lex.proofs.Begins.{begins_get}
use Rattle.wt_html_grammar.proofs.Steps.{if_true}
use Rattle.wt_span.specs.Bytes.{begins}
use Rattle.wt_lines.specs.Kinds.{is_list}
use Rattle.wt_blocks.specs.ListTree.{ListTree, forest as list_forest}
use Rattle.wt_blocks.specs.Nesting.{ListLine, numbered, is_definition, same_list, is_list_sign, sign_of, one_list, goes_on, one_item, without_sign, node_of, item_by as nested_item, items_by, list_by, lists as nested_lists, nested}
use Rattle.wt_inline.specs.ItemTree.{plain, forest}
use Rattle.wt_inline.specs.Parts.{Part, children}
use Rattle.wt_context.specs.Line.{line_parts}
use Rattle.wt_page.specs.Rows.{Row, unwritten_end, signs}
use Rattle.wt_page.specs.Stretches.{Stretch, gap, enclosed}
use Rattle.wt_page.specs.Lists.{prefix_of, with_blanks, item_opening_len, term_len, colon_at, item_kind, list_kind, term, item_by, line_item, begins_at, row_at, list_stretches, all_lists, prefixes, lists}
use Rattle.wt_page_round_trip.proofs.OfPage.{ArePageItems, no_page_items}
use Rattle.wt_page_round_trip.proofs.PageLines.{all_left, all_right, all_both}
use Rattle.wt_page_round_trip.proofs.BodyParts.{inline_held}
use Rattle.wt_page_round_trip.proofs.Boxes.{IsInside, IsBox, box_written}
use Rattle.wt_page_round_trip.proofs.Stretched.{StandsIn, IsPlaced, ArePlaced, IsHolder, holder_enclosed}
use Rattle.wt_page_round_trip.proofs.Separated.{IsNodeIn}
use Rattle.wt_page_round_trip.proofs.Contents.{IsBordered, line_inside, line_opened, blocks_enclosed}
use Rattle.wt_page_round_trip.proofs.GoodRows.{IsGap, IsGoodRow, AreGoodRows}
use Rattle.wt_page_round_trip.proofs.ListOpenings.{opening_cut, colon_sign, AreTermParts, term_parts}

-- ---- kinds

ul_holder : IsHolder kind.Ul
unfolding spelling
ul_holder = record {
  round = record { class = ListClass; holding = Items; texts = Separators; shape_is = refl; level = refl; shows = refl };
  holds = record { texts = refl; takes = record { kind = refl; stands = λ bs e. e } };
  block = refl;
}

ol_holder : IsHolder kind.Ol
unfolding spelling
ol_holder = record {
  round = record { class = ListClass; holding = Items; texts = Separators; shape_is = refl; level = refl; shows = refl };
  holds = record { texts = refl; takes = record { kind = refl; stands = λ bs e. e } };
  block = refl;
}

dl_holder : IsHolder kind.Dl
unfolding spelling
dl_holder = record {
  round = record { class = ListClass; holding = Terms; texts = Separators; shape_is = refl; level = refl; shows = refl };
  holds = record { texts = refl; takes = record { kind = refl; stands = λ bs e. e } };
  block = refl;
}

-- what inlines stand among, and lists
or_more : (a b c : Bool) → (a || b) ≡ true → (a || (b || c)) ≡ true
or_more true b c e = refl
or_more false true c e = refl
or_more false false c e = absurd cc

li_bordered : IsBordered kind.Li
unfolding spelling
li_bordered = record {
  round = record { class = ItemClass; holding = InlinesThenLists; texts = Bordered; shape_is = refl; level = refl; shows = refl };
  texts = refl;
  takes = record { kind = inr refl; stands = λ bs e. refl };
  parent = record {
    text = refl;
    elements = λ k h. inline_held (is_anywhere (shape k).class) _
        (or_more (is_class (shape k).class Inline) (is_class (shape k).class Character) (is_class (shape k).class ListClass) h);
  };
  block = refl;
}

dt_bordered : IsBordered kind.Dt
unfolding spelling
dt_bordered = record {
  round = record { class = Term; holding = InlinesThenLists; texts = Bordered; shape_is = refl; level = refl; shows = refl };
  texts = refl;
  takes = record { kind = inr refl; stands = λ bs e. refl };
  parent = record {
    text = refl;
    elements = λ k h. inline_held (is_anywhere (shape k).class) _
        (or_more (is_class (shape k).class Inline) (is_class (shape k).class Character) (is_class (shape k).class ListClass) h);
  };
  block = refl;
}

dd_bordered : IsBordered kind.Dd
unfolding spelling
dd_bordered = record {
  round = record { class = Term; holding = InlinesThenLists; texts = Bordered; shape_is = refl; level = refl; shows = refl };
  texts = refl;
  takes = record { kind = inr refl; stands = λ bs e. refl };
  parent = record {
    text = refl;
    elements = λ k h. inline_held (is_anywhere (shape k).class) _
        (or_more (is_class (shape k).class Inline) (is_class (shape k).class Character) (is_class (shape k).class ListClass) h);
  };
  block = refl;
}

-- a list where lists may stand
pub record HoldsLists (parent : Kind) : Type 0 where
  pub ul : StandsIn parent kind.Ul
  pub ol : StandsIn parent kind.Ol
  pub dl : StandsIn parent kind.Dl

-- ---- by signs

list_holder : (c : ℕ) → IsHolder (list_kind c)
list_holder c = by_test (c == 42) (c == 35)
  where
    by_test : (a b : Bool) → IsHolder (if a then kind.Ul else if b then kind.Ol else kind.Dl)
    by_test true b = ul_holder
    by_test false true = ol_holder
    by_test false false = dl_holder

list_box : (c : ℕ) → IsBox (list_kind c) [] [] []
unfolding spelling
list_box c = by_test (c == 42) (c == 35)
  where
    by_test : (a b : Bool) → IsBox (if a then kind.Ul else if b then kind.Ol else kind.Dl) [] [] []
    by_test true b = record { attrs = refl; opening = no_page_items; closing = no_page_items }
    by_test false true = record { attrs = refl; opening = no_page_items; closing = no_page_items }
    by_test false false = record { attrs = refl; opening = no_page_items; closing = no_page_items }

list_stands : (parent : Kind) → HoldsLists parent → (c : ℕ) → StandsIn parent (list_kind c)
list_stands parent h c = by_test (c == 42) (c == 35)
  where
    by_test : (a b : Bool) → StandsIn parent (if a then kind.Ul else if b then kind.Ol else kind.Dl)
    by_test true b = h.ul
    by_test false true = h.ol
    by_test false false = h.dl

item_bordered : (c : ℕ) → IsBordered (item_kind c)
item_bordered c = by_test (c == 59) (c == 58)
  where
    by_test : (a b : Bool) → IsBordered (if a then kind.Dt else if b then kind.Dd else kind.Li)
    by_test true b = dt_bordered
    by_test false true = dd_bordered
    by_test false false = li_bordered

item_box : (c : ℕ) (opening : List Item) → ArePageItems opening → IsBox (item_kind c) [] opening []
unfolding spelling
item_box c opening u = by_test (c == 59) (c == 58)
  where
    by_test : (a b : Bool) → IsBox (if a then kind.Dt else if b then kind.Dd else kind.Li) [] opening []
    by_test true b = record { attrs = refl; opening = u; closing = no_page_items }
    by_test false true = record { attrs = refl; opening = u; closing = no_page_items }
    by_test false false = record { attrs = refl; opening = u; closing = no_page_items }

item_lists : (c : ℕ) → HoldsLists (item_kind c)
item_lists c = by_test (c == 59) (c == 58)
  where
    by_test : (a b : Bool) → HoldsLists (if a then kind.Dt else if b then kind.Dd else kind.Li)
    by_test true b = record { ul = refl; ol = refl; dl = refl }
    by_test false true = record { ul = refl; ol = refl; dl = refl }
    by_test false false = record { ul = refl; ol = refl; dl = refl }

-- a list holds the items of its sign
fits : (c : ℕ) → is_list_sign c ≡ true → may_hold (list_kind c) (item_kind c) ≡ true
fits c e = by_test (c == 42) (c == 35) (c == 59) (c == 58) refl refl refl refl e
  where
    by_test : (a b d f : Bool) → (c == 42) ≡ a → (c == 35) ≡ b → (c == 59) ≡ d → (c == 58) ≡ f → (a || (b || (d || f))) ≡ true
        → may_hold (list_kind c) (item_kind c) ≡ true
    by_test true b d f g h i j e = subst (λ x. may_hold (list_kind x) (item_kind x) ≡ true) (sym (eqb-true c 42 g)) refl
    by_test false true d f g h i j e = subst (λ x. may_hold (list_kind x) (item_kind x) ≡ true) (sym (eqb-true c 35 h)) refl
    by_test false false true f g h i j e = subst (λ x. may_hold (list_kind x) (item_kind x) ≡ true) (sym (eqb-true c 59 i)) refl
    by_test false false false true g h i j e = subst (λ x. may_hold (list_kind x) (item_kind x) ≡ true) (sym (eqb-true c 58 j)) refl
    by_test false false false false g h i j e = absurd cc

item_stands : (c d : ℕ) → is_list_sign d ≡ true → list_kind d ≡ list_kind c → StandsIn (list_kind c) (item_kind d)
item_stands c d l e = subst (λ q. may_hold q (item_kind d) ≡ true) e (fits d l)

definition_kind : (c : ℕ) → is_definition c ≡ true → list_kind c ≡ kind.Dl
definition_kind c e = by_test (c == 59) (c == 58) refl refl e
  where
    by_test : (a b : Bool) → (c == 59) ≡ a → (c == 58) ≡ b → (a || b) ≡ true → list_kind c ≡ kind.Dl
    by_test true b f g e = ap list_kind (eqb-true c 59 f)
    by_test false true f g e = ap list_kind (eqb-true c 58 g)
    by_test false false f g e = absurd cc

same_kind : (c d : ℕ) → same_list c d ≡ true → list_kind d ≡ list_kind c
same_kind c d e = by_test (c == d) (is_definition c) (is_definition d) refl refl refl e
  where
    by_test : (a b f : Bool) → (c == d) ≡ a → is_definition c ≡ b → is_definition d ≡ f → (a || (b && f)) ≡ true → list_kind d ≡ list_kind c
    by_test true b f g h i e = ap list_kind (sym (eqb-true c d g))
    by_test false true true g h i e = definition_kind d i ∙ sym (definition_kind c h)
    by_test false true false g h i e = absurd cc
    by_test false false f g h i e = absurd cc

-- ---- an item with what stands on its line

-- a term ends at a `:`
some_term : (d n : ℕ) (xs : List Item) → term_len d xs ≡ Some n → (d ≡ 59) × (get_or (signs xs) n 0 ≡ 58)
some_term d n xs e = by_test (d == 59) (nat_lt (colon_at xs) (length xs)) refl refl e
  where
    by_test : (a b : Bool) → (d == 59) ≡ a → nat_lt (colon_at xs) (length xs) ≡ b → (if a then (if b then Some (colon_at xs) else None) else None) ≡ Some n
        → (d ≡ 59) × (get_or (signs xs) n 0 ≡ 58)
    by_test true true f g e =
        let z : colon_at xs ≡ n = cc in
        (eqb-true d 59 f, subst (λ m. get_or (signs xs) m 0 ≡ 58) z (colon_sign xs (ltb-true _ _ g)))
    by_test true false f g e = absurd cc
    by_test false b f g e = absurd cc

term_in : (k : ℕ) (parent : Kind) (opening xs : List Item) → ArePageItems opening → ArePageItems xs → k < 141 → StandsIn parent kind.Dt
    → IsNodeIn k parent (term opening xs)
term_in k parent opening xs o h small s =
    let inside : IsInside (suc k) kind.Dt (forest (children (line_parts xs))) =
    subst (λ (ps : List Part). IsInside (suc k) kind.Dt (forest (children ps))) (append-nil (line_parts xs))
    (line_inside (suc k) kind.Dt dt_bordered (omega (arith, small)) xs h [] tt) in (
      box_written k parent kind.Dt dt_bordered.round [] opening [] (item_box 59 opening o) (forest (children (line_parts xs))) (omega (arith, small)) s inside,
      refl,
    )

-- an item, by where its term ends, with lists behind its line
item_placed : (k : ℕ) (c d : ℕ) → is_list_sign d ≡ true → list_kind d ≡ list_kind c → (n : Option ℕ) (opening xs : List Item) → ArePageItems opening
    → ArePageItems xs → term_len d xs ≡ n → (e : List Item) → (ss : List Stretch) → IsGap e
    → ((q : Kind) → HoldsLists q → ArePlaced (suc k) q ss) → k < 141 → ArePlaced k (list_kind c) (item_by d n opening xs (gap e ∷ ss))
item_placed k c d l same None opening xs o h is e ss g a small =
    line_opened k (list_kind c) (item_kind d) (item_bordered d) [] opening (item_box d opening o) xs h (gap e ∷ ss)
    (g, a (item_kind d) (item_lists d)) small (item_stands c d l same)
item_placed k c d l same (Some n) opening xs o h is e ss g a small =
    let q : (d ≡ 59) × (get_or (signs xs) n 0 ≡ 58) = some_term d n xs is in
    let t : AreTermParts xs n = term_parts xs n h q.1 in
    let definitions : list_kind 59 ≡ list_kind c = subst (λ x. list_kind x ≡ list_kind c) q.0 same in
    let rest : List Item = drop n xs in
    let m : ℕ = with_blanks 1 rest in (
      term_in k (list_kind c) opening (take n xs) o t.term small (item_stands c 59 refl definitions),
      line_opened k (list_kind c) kind.Dd dd_bordered [] (take m rest) (item_box 58 (take m rest) t.colon) (drop m rest) t.rest (gap e ∷ ss)
          (g, a kind.Dd (item_lists 58)) small (item_stands c 58 refl definitions),
    )

line_placed : (k c d : ℕ) → is_list_sign d ≡ true → list_kind d ≡ list_kind c → (r : Row) → IsGoodRow r → (ss : List Stretch)
    → ((q : Kind) → HoldsLists q → ArePlaced (suc k) q ss) → k < 141 → ArePlaced k (list_kind c) (line_item d r ss)
unfolding line_item
line_placed k c d l same r g ss a small =
    let n : ℕ = item_opening_len r.items in
    let xs : List Item = drop n r.items in
    let cut : ArePageItems (take n r.items) × ArePageItems xs = opening_cut r.items g.items in (
      g.lead,
      item_placed k c d l same (term_len d xs) (take n r.items) xs cut.0 cut.1 refl r.ending ss g.ending a small,
    )

-- ---- lines of lists

-- a line by its number: its row, and signs of lists
pub record IsListLine (rs : List Row) (l : ListLine) : Type 0 where
  pub row : IsGoodRow (row_at rs l.number)
  pub some : 0 < length l.prefix
  pub signs : list_all is_list_sign l.prefix ≡ true

abbrev AreListLines : List Row → List ListLine → Type 0
AreListLines rs ls = AllByRecursion (IsListLine rs) ls

abbrev AreShort : ℕ → List ListLine → Type 0
AreShort n ls = AllByRecursion (λ l. length l.prefix ≤ n) ls

abbrev AllGoOn : List ListLine → Type 0
AllGoOn ls = AllByRecursion (λ l. goes_on l ≡ true) ls

run_goes_on : (l : ListLine) (ms others : List ListLine) → IsRun one_item (l ∷ ms) others → AllGoOn ms
run_goes_on l [] others h = tt
run_goes_on l (m ∷ ms) others h = (h.0, run_goes_on m ms others h.1)

all_stay : (ms : List ListLine) → AllGoOn ms → filter goes_on ms ≡ ms
all_stay [] h = refl
all_stay (m ∷ ms) h = rw h.0 (ap (λ ls. m ∷ ls) (all_stay ms h.1))

short_less : (n : ℕ) (l : ListLine) → goes_on l ≡ true → length l.prefix ≤ suc n → (length (drop 1 l.prefix) ≤ n) × (0 < n) × (0 < length (drop 1 l.prefix))
short_less n l e f =
    let more : 1 < length l.prefix = grind (arith, nat_tests) in
    let less : length (drop 1 l.prefix) ≡ length l.prefix - 1 = length-drop 1 l.prefix in
    (omega arith, omega arith, omega arith)

signs_less : (p : List ℕ) → list_all is_list_sign p ≡ true → list_all is_list_sign (drop 1 p) ≡ true
signs_less [] e = refl
signs_less (s ∷ p) e = none_less p (and_parts (is_list_sign s) (list_all is_list_sign p) e).1
  where
    none_less : (q : List ℕ) → list_all is_list_sign q ≡ true → list_all is_list_sign (drop 0 q) ≡ true
    none_less [] e = refl
    none_less (t ∷ q) e = e

short_inner : (n : ℕ) (ls : List ListLine) → AllGoOn ls → AreShort (suc n) ls → AreShort n (map without_sign ls)
short_inner n [] h f = tt
short_inner n (l ∷ ls) h f = ((short_less n l h.0 f.0).0, short_inner n ls h.1 f.1)

lines_inner : (rs : List Row) (n : ℕ) (ls : List ListLine) → AllGoOn ls → AreShort (suc n) ls → AreListLines rs ls → AreListLines rs (map without_sign ls)
lines_inner rs n [] h f a = tt
lines_inner rs n (l ∷ ls) h f a = (
  record { row = a.0.row; some = (short_less n l h.0 f.0).2; signs = signs_less l.prefix a.0.signs },
  lines_inner rs n ls h.1 f.1 a.1,
)

first_sign : (p : List ℕ) → 0 < length p → list_all is_list_sign p ≡ true → is_list_sign (slice_index p 0) ≡ true
first_sign [] some e = absurd (omega arith)
first_sign (s ∷ p) some e = (and_parts (is_list_sign s) (list_all is_list_sign p) e).0

-- which list begins at an item's line
first_is : (f : List ListLine → List ListTree) (x : ListLine) (rs : List (List ListLine)) (line : ℕ)
    → begins_at line (list_forest (map (list_by f) (put one_list x rs))) ≡ (x.number == line)
first_is f x [] line = refl
first_is f x ([] ∷ rs) line = refl
first_is f x ((y ∷ ys) ∷ rs) line = by (one_list x y)
  where
    by : (v : Bool) → begins_at line (list_forest (map (list_by f) (cond v ((x ∷ y ∷ ys) ∷ rs) ((x ∷ []) ∷ (y ∷ ys) ∷ rs)))) ≡ (x.number == line)
    by true = refl
    by false = refl

begins_here : (n : ℕ) (x : ListLine) (xs : List ListLine) → 0 < n → begins_at x.number (list_forest (nested_lists n (x ∷ xs))) ≡ true
begins_here zero x xs h = absurd (omega arith)
begins_here (suc n) x xs h = first_is (nested_lists n) x (runs one_list xs) x.number ∙ grind (arith, nat_tests)

-- ---- the nest

-- lines whose prefixes have at most so many signs make lists that are written
abbrev IsNest : List Row → ℕ → Type 0
IsNest rs n = (k : ℕ) (q : Kind) → HoldsLists q → k + 2 * n < 142 → (ls : List ListLine) → AreListLines rs ls → AreShort n ls
    → ArePlaced k q (all_lists rs (list_forest (nested_lists n ls)))

item_by_lines : (rs : List Row) (n : ℕ) → IsNest rs n → (k c : ℕ) → suc k + 2 * n < 142 → (l : ListLine) (ms : List ListLine) (v : Bool) → goes_on l ≡ v
    → AllGoOn ms → AreListLines rs (l ∷ ms) → AreShort (suc n) (l ∷ ms) → list_kind (sign_of l) ≡ list_kind c
    → ArePlaced k (list_kind c)
    (list_stretches rs (node_of true (l ∷ ms) (nested_lists n (map without_sign (cond v (l ∷ filter goes_on ms) (filter goes_on ms))))))
item_by_lines rs n h k c small l ms true e g a f same =
    let ls : List ListLine = map without_sign (l ∷ ms) in
    let sign : is_list_sign (sign_of l) ≡ true = first_sign l.prefix a.0.some a.0.signs in
    rw (all_stay ms g) (rw (begins_here n (without_sign l) (map without_sign ms) (short_less n l e f.0).1)
    (blocks_enclosed k (list_kind c) (item_kind (sign_of l)) (item_bordered (sign_of l)) (item_box (sign_of l) [] no_page_items)
    (all_lists rs (list_forest (nested_lists n ls)))
    (h (suc k) (item_kind (sign_of l)) (item_lists (sign_of l)) small ls (lines_inner rs n (l ∷ ms) (e, g) f a) (short_inner n (l ∷ ms) (e, g) f))
    (omega (arith, small)) (item_stands c (sign_of l) sign same)))
item_by_lines rs n h k c small l ms false e g a f same = rw (all_stay ms g)
    (by_test (begins_at l.number (list_forest (nested_lists n (map without_sign ms)))))
  where
    ls : List ListLine
    ls = map without_sign ms

    sign : is_list_sign (sign_of l) ≡ true
    sign = first_sign l.prefix a.0.some a.0.signs

    inner : (q : Kind) → HoldsLists q → ArePlaced (suc k) q (all_lists rs (list_forest (nested_lists n ls)))
    inner q i = h (suc k) q i small ls (lines_inner rs n ms g f.1 a.1) (short_inner n ms g f.1)

    by_test : (t : Bool) → ArePlaced k (list_kind c)
        (if t then enclosed (plain (item_kind (sign_of l))) (all_lists rs (list_forest (nested_lists n ls)))
        else line_item (sign_of l) (row_at rs l.number) (all_lists rs (list_forest (nested_lists n ls))))
    by_test true = blocks_enclosed k (list_kind c) (item_kind (sign_of l)) (item_bordered (sign_of l)) (item_box (sign_of l) [] no_page_items)
        (all_lists rs (list_forest (nested_lists n ls))) (inner (item_kind (sign_of l)) (item_lists (sign_of l)))
        (omega (arith, small)) (item_stands c (sign_of l) sign same)
    by_test false = line_placed k c (sign_of l) sign same (row_at rs l.number) a.0.row (all_lists rs (list_forest (nested_lists n ls))) inner
        (omega (arith, small))

abbrev OfKind : ℕ → List ListLine → Type 0
OfKind c ls = AllByRecursion (λ l. list_kind (sign_of l) ≡ list_kind c) ls

items_placed : (rs : List Row) (n : ℕ) → IsNest rs n → (k c : ℕ) → suc k + 2 * n < 142 → (qs : List (List ListLine)) (ls : List ListLine)
    → AreRuns one_item qs ls → AreListLines rs ls → AreShort (suc n) ls → OfKind c ls
    → ArePlaced k (list_kind c) (all_lists rs (list_forest (map (nested_item (nested_lists n)) qs)))
items_placed rs n h k c small [] ls r a f o = tt
items_placed rs n h k c small ([] ∷ qs) ls r a f o = absurd r.2
items_placed rs n h k c small ((l ∷ ms) ∷ qs) ls (others, e, run, rest) a f o =
    let lines : AreListLines rs ((l ∷ ms) ++ others) = subst (AreListLines rs) e a in
    let short : AreShort (suc n) ((l ∷ ms) ++ others) = subst (AreShort (suc n)) e f in
    let kinds : OfKind c ((l ∷ ms) ++ others) = subst (OfKind c) e o in
    all_both (IsPlaced k (list_kind c)) (list_stretches rs (nested_item (nested_lists n) (l ∷ ms)))
    (all_lists rs (list_forest (map (nested_item (nested_lists n)) qs)))
    (item_by_lines rs n h k c small l ms (goes_on l) refl (run_goes_on l ms others run) (all_left (IsListLine rs) (l ∷ ms) others lines)
    (all_left (λ x. length x.prefix ≤ suc n) (l ∷ ms) others short) kinds.0)
    (items_placed rs n h k c small qs others rest (all_right (IsListLine rs) (l ∷ ms) others lines)
    (all_right (λ x. length x.prefix ≤ suc n) (l ∷ ms) others short)
    (all_right (λ x. list_kind (sign_of x) ≡ list_kind c) (l ∷ ms) others kinds))

kinds_on : (c : ℕ) (l : ListLine) (ls others : List ListLine) → list_kind (sign_of l) ≡ list_kind c → IsRun one_list (l ∷ ls) others → OfKind c (l ∷ ls)
kinds_on c l [] others e h = (e, tt)
kinds_on c l (m ∷ ls) others e h = (e, kinds_on c m ls others (same_kind (sign_of l) (sign_of m) h.0 ∙ e) h.1)

lists_by_runs : (rs : List Row) (n : ℕ) → IsNest rs n → (k : ℕ) (q : Kind) → HoldsLists q → k + 2 * suc n < 142 → (gs : List (List ListLine))
    (ls : List ListLine) → AreRuns one_list gs ls → AreListLines rs ls → AreShort (suc n) ls
    → ArePlaced k q (all_lists rs (list_forest (map (list_by (nested_lists n)) gs)))
lists_by_runs rs n h k q i small [] ls r a f = tt
lists_by_runs rs n h k q i small ([] ∷ gs) ls r a f = absurd r.2
lists_by_runs rs n h k q i small ((l ∷ ms) ∷ gs) ls (others, e, run, rest) a f =
    let lines : AreListLines rs ((l ∷ ms) ++ others) = subst (AreListLines rs) e a in
    let short : AreShort (suc n) ((l ∷ ms) ++ others) = subst (AreShort (suc n)) e f in
    let c : ℕ = sign_of l in
    all_both (IsPlaced k q) (list_stretches rs (list_by (nested_lists n) (l ∷ ms))) (all_lists rs (list_forest (map (list_by (nested_lists n)) gs)))
    (holder_enclosed k q (list_kind c) (list_holder c) (list_box c) (all_lists rs (list_forest (items_by (nested_lists n) (l ∷ ms))))
    (omega (arith, small)) (list_stands q i c)
    (items_placed rs n h (suc k) c (omega (arith, small)) (runs one_item (l ∷ ms)) (l ∷ ms) (runs_are one_item (l ∷ ms))
    (all_left (IsListLine rs) (l ∷ ms) others lines) (all_left (λ x. length x.prefix ≤ suc n) (l ∷ ms) others short)
    (kinds_on c l ms others refl run)))
    (lists_by_runs rs n h k q i small gs others rest (all_right (IsListLine rs) (l ∷ ms) others lines)
    (all_right (λ x. length x.prefix ≤ suc n) (l ∷ ms) others short))

nest_placed : (rs : List Row) (n : ℕ) → IsNest rs n
nest_placed rs zero k q i small ls a f = tt
nest_placed rs (suc n) k q i small ls a f = lists_by_runs rs n (nest_placed rs n) k q i small (runs one_list ls) ls (runs_are one_list ls) a f

-- ---- all rows

-- the row of a list
abbrev pub IsListRow : Row → Type 0
IsListRow r = is_list (signs r.items) ≡ true

front_all : (p : ℕ → Bool) (n : ℕ) (ss : List ℕ) → n ≤ prefix_len p ss → list_all p (take n ss) ≡ true
front_all p zero ss le = refl
front_all p (suc n) [] le = refl
front_all p (suc n) (s ∷ ss) le = by_test (p s) refl le (λ few. front_all p n ss few)
  where
    by_test : (t : Bool) → p s ≡ t → suc n ≤ (if t then 1 + prefix_len p ss else 0) → (n ≤ prefix_len p ss → list_all p (take n ss) ≡ true)
        → (p s && list_all p (take n ss)) ≡ true
    by_test true e le more = ap (λ x. x && list_all p (take n ss)) e ∙ more (omega (arith, le))
    by_test false e le more = absurd (omega (arith, le))

list_first : (ss : List ℕ) → is_list ss ≡ true → is_list_sign (get_or ss 0 0) ≡ true
list_first ss e = by_test (begins (codes "*") ss) (begins (codes "#") ss) (begins (codes ":") ss) (begins (codes ";") ss) refl refl refl refl e
  where
    by_test : (a b c d : Bool) → begins (codes "*") ss ≡ a → begins (codes "#") ss ≡ b → begins (codes ":") ss ≡ c → begins (codes ";") ss ≡ d
        → (a || (b || (c || d))) ≡ true → is_list_sign (get_or ss 0 0) ≡ true
    by_test true b c d f g h i e = ap is_list_sign (begins_get (codes "*") ss f 0 (omega arith))
    by_test false true c d f g h i e = ap is_list_sign (begins_get (codes "#") ss g 0 (omega arith))
    by_test false false true d f g h i e = ap is_list_sign (begins_get (codes ":") ss h 0 (omega arith))
    by_test false false false true f g h i e = ap is_list_sign (begins_get (codes ";") ss i 0 (omega arith))
    by_test false false false false f g h i e = absurd cc

some_prefix : (ss : List ℕ) → is_list_sign (get_or ss 0 0) ≡ true → (0 < prefix_len is_list_sign ss) × (0 < length ss)
some_prefix [] e = absurd cc
some_prefix (s ∷ ss) e =
    let z : prefix_len is_list_sign (s ∷ ss) ≡ 1 + prefix_len is_list_sign ss = if_true (is_list_sign s) _ _ e in
    (omega (arith, z), omega arith)

list_prefix : (xs : List Item) → is_list (signs xs) ≡ true
    → (0 < length (prefix_of xs)) × (length (prefix_of xs) ≤ 32) × (list_all is_list_sign (prefix_of xs) ≡ true)
list_prefix xs e =
    let m : ℕ = min 32 (prefix_len is_list_sign (signs xs)) in
    let n : length (take m (signs xs)) ≡ min m (length (signs xs)) = length-take m (signs xs) in
    let some : (0 < prefix_len is_list_sign (signs xs)) × (0 < length (signs xs)) = some_prefix (signs xs) (list_first (signs xs) e) in
    let a = some.0 in
    let b = some.1 in
    (omega (arith, n, a, b), omega (arith, n), front_all is_list_sign m (signs xs) (omega arith))

lines_numbered : (before rs : List Row) → AreGoodRows rs → AllByRecursion IsListRow rs
    → AreListLines (before ++ rs) (numbered (length before) (prefixes rs)) × AreShort 32 (numbered (length before) (prefixes rs))
lines_numbered before [] g a = (tt, tt)
lines_numbered before (r ∷ rs) g a =
    let next : List Row = before ++ (r ∷ []) in
    let whole : next ++ rs ≡ before ++ r ∷ rs = append_assoc before (r ∷ []) rs in
    let len : length next ≡ suc (length before) = length-append before (r ∷ []) ∙ omega arith in
    let p = list_prefix r.items a.0 in
    let at : row_at (before ++ r ∷ rs) (length before) ≡ r = get_or-append_seam before r rs unwritten_end in
    let later = lines_numbered next rs g.1 a.1 in
    let lines : AreListLines (before ++ r ∷ rs) (numbered (suc (length before)) (prefixes rs)) =
    subst (λ (all : List Row). AreListLines all (numbered (suc (length before)) (prefixes rs))) whole
    (subst (λ n. AreListLines (next ++ rs) (numbered n (prefixes rs))) len later.0) in
    let short : AreShort 32 (numbered (suc (length before)) (prefixes rs)) = subst (λ n. AreShort 32 (numbered n (prefixes rs))) len later.1 in
    ((record { row = subst IsGoodRow (sym at) g.0; some = p.0; signs = p.2 }, lines), (p.1, short))

pub lists_placed : (k : ℕ) (q : Kind) → HoldsLists q → k < 78 → (rs : List Row) → AreGoodRows rs → AllByRecursion IsListRow rs
    → ArePlaced k q (lists rs)
unfolding lists nested
lists_placed k q i small rs g a =
    let h = lines_numbered [] rs g a in
    nest_placed rs 32 k q i (omega (arith, small)) (numbered 0 (prefixes rs)) h.0 h.1
