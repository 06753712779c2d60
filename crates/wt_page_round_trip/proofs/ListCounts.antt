-- How many numbers lists have: two for each sign of a prefix, one for a definition that begins on its term's line, and those of what
-- stands on the lines.
use Rattle.std.proofs.Common.{◌≡◌, ℕ, zero, suc, ◌+◌, ◌-◌, ◌*◌, ◌<◌, ◌≤◌, min, Bool, true, false, Option, Some, None, List, [], ◌∷◌, ◌++◌, length, take, drop, map, refl, sym, ap, ◌∙◌, subst, cond, arith, nat_lt, append_assoc, length-append, length-drop}
use Rattle.std.specs.Prelude.{◌==◌, if◌then◌else◌}
use Rattle.std.specs.List.{filter, prefix_len, AllByRecursion}
use Rattle.std.proofs.lemmas.List.{take-append-drop, length-take, length-map}
use Rattle.std.proofs.lemmas.Bool.Decides.{nat_tests}
use Rattle.std.proofs.Math.Seq.{get_or-append_seam}
use Rattle.wt_tree.specs.declared.kind.Kind.TheVariants as kind
use Rattle.wt_span.specs.Items.{Item, sign}
use Rattle.wt_span.specs.Runs.{runs, AreRuns}
use Rattle.wt_span.proofs.RunLaws.{runs_are}
use Rattle.wt_blocks.specs.ListTree.{forest as list_forest}
use Rattle.wt_blocks.specs.Nesting.{ListLine, numbered as numbered_lines, is_list_sign, sign_of, one_list, goes_on, one_item, without_sign, node_of, item_by as nested_item, items_by, list_by, lists as nested_lists, nested}
use Rattle.wt_inline.specs.ItemTree.{plain}
use Rattle.wt_context.specs.Line.{line_parts}
use Rattle.wt_page.specs.Rows.{Row, row_items, unwritten_end, signs}
use Rattle.wt_page.specs.Stretches.{Stretch, gap, block, opened_by, enclosed}
use Rattle.wt_page.specs.Lists.{prefix_of, with_blanks, item_opening_len, colon_at, term_len, item_kind, list_kind, term, item_by, line_item, begins_at, row_at, list_stretches, all_lists, prefixes, lists}
use Rattle.wt_page.specs.Body.{is_list_line}
use Rattle.wt_page.proofs.HeldLists.{Fits, fits_front, fits_back, AllGoOn, run_goes_on, all_stay, fits_inner, begins_here, fits_all}
use Rattle.wt_annotated.specs.Counted.{numbered}
use Rattle.wt_page_round_trip.specs.Numbers.{makes_all}
use Rattle.wt_page_round_trip.proofs.Makes.{makes_cut}
use Rattle.wt_page_round_trip.proofs.ContextCounts.{node_count, line_count}
use Rattle.wt_page_round_trip.proofs.Allowances.{own, own_list, allowed, allowed_all, IsFit, AreFit, row_makes, row_length}
use Rattle.wt_page_round_trip.proofs.StretchCounts.{total, total_append, of_gap, of_block, of_tree, of_opened, of_enclosed}

-- ---- an item with what stands on its line

term_count : (o xs : List Item) → numbered (term o xs) ≤ 1 + length xs + makes_all xs
term_count o xs = omega (arith, node_count (plain kind.Dt) o [] (line_parts xs), line_count xs)

rest_count : (n : ℕ) (xs : List Item) (ss : List Stretch) → total (block (line_parts (drop n xs)) ∷ ss) ≤ (length xs - n) + makes_all xs + total ss
rest_count n xs ss = omega (arith, of_block (line_parts (drop n xs)) ss, line_count (drop n xs), length-drop n xs, makes_cut n xs)

-- a term ends before the end of its line
abbrev Ends : Option ℕ → List Item → Type 0
Ends None xs = Unit {0}
Ends (Some n) xs = n < length xs

ends_by : (a b : Bool) (n : ℕ) (xs : List Item) → nat_lt n (length xs) ≡ b → Ends (if a then (if b then Some n else None) else None) xs
ends_by true true n xs e = grind (arith, nat_tests)
ends_by true false n xs e = tt
ends_by false b n xs e = tt

term_ends : (sign : ℕ) (xs : List Item) → Ends (term_len sign xs) xs
term_ends sign xs = ends_by (sign == 59) (nat_lt (colon_at xs) (length xs)) (colon_at xs) xs refl

item_by_count : (sign : ℕ) (n : Option ℕ) (o xs : List Item) (ss : List Stretch) → Ends n xs
    → total (item_by sign n o xs ss) ≤ 1 + length xs + makes_all xs + total ss
item_by_count sign None o xs ss e =
    omega (arith, of_opened (plain (item_kind sign)) o (block (line_parts xs) ∷ ss), of_block (line_parts xs) ss, line_count xs)
item_by_count sign (Some n) o xs ss e =
    let rest = drop n xs in
    let after = block (line_parts (drop (with_blanks 1 rest) rest)) ∷ ss in
    let definition = opened_by (plain kind.Dd) (take (with_blanks 1 rest) rest) after in
    let cut : length (take n xs) + length rest ≡ length xs = sym (length-append (take n xs) rest) ∙ ap length (take-append-drop n xs) in
    omega (
      arith,
      of_tree (term o (take n xs)) definition,
      term_count o (take n xs),
      of_opened (plain kind.Dd) (take (with_blanks 1 rest) rest) after,
      rest_count (with_blanks 1 rest) rest ss,
      makes_cut n xs,
      cut,
      length-drop n xs,
    )

-- what the line of an item has behind its prefix, and makes
abbrev tail : Row → ℕ
tail r = (length r.items - length (prefix_of r.items)) + makes_all (row_items r)

line_item_count : (sign : ℕ) (r : Row) (ss : List Stretch) → total (line_item sign r ss) ≤ 1 + tail r + total ss
unfolding line_item
line_item_count sign r ss =
    let n = item_opening_len r.items in
    let xs = drop n r.items in
    let more = gap r.ending ∷ ss in
    omega (
      arith,
      of_gap r.lead (item_by sign (term_len sign xs) (take n r.items) xs more),
      item_by_count sign (term_len sign xs) (take n r.items) xs more (term_ends sign xs),
      of_gap r.ending ss,
      length-drop n r.items,
      makes_cut n r.items,
      row_makes r,
    )

-- ---- lines of lists

-- a line begins one item at least
abbrev signs_len : List ℕ → ℕ
signs_len [] = 1
signs_len (s ∷ ss) = suc (length ss)

abbrev cost : List Row → ListLine → ℕ
cost rs l = 2 * signs_len l.prefix + tail (row_at rs l.number)

abbrev costs : List Row → List ListLine → ℕ
costs rs [] = 0
costs rs (l ∷ ls) = cost rs l + costs rs ls

costs_append : (rs : List Row) (ls ms : List ListLine) → costs rs (ls ++ ms) ≡ costs rs ls + costs rs ms
costs_append rs [] ms = omega arith
costs_append rs (l ∷ ls) ms = omega (arith, costs_append rs ls ms)

one_sign_less : (p : List ℕ) → nat_lt 1 (length p) ≡ true → signs_len p ≡ suc (signs_len (drop 1 p))
one_sign_less [] e = absurd cc
one_sign_less (s ∷ []) e = absurd cc
one_sign_less (s ∷ t ∷ ss) e = refl

some_sign : (p : List ℕ) → 1 ≤ signs_len p
some_sign [] = omega arith
some_sign (s ∷ ss) = omega arith

inner_costs : (rs : List Row) (ls : List ListLine) → AllGoOn ls → costs rs (map without_sign ls) ≤ costs rs ls
inner_costs rs [] h = omega arith
inner_costs rs (l ∷ ls) h = omega (arith, one_sign_less l.prefix h.0, inner_costs rs ls h.1)

-- ---- the nest

-- lists of lines whose prefixes have at most so many signs
abbrev Nest : List Row → ℕ → Type 0
Nest rs n = (ls : List ListLine) → Fits n ls → total (all_lists rs (list_forest (nested_lists n ls))) ≤ costs rs ls

-- an item, which leaves one number for its list, by whether its first line goes on
item_count : (rs : List Row) (n : ℕ) → Nest rs n → (l : ListLine) (ms : List ListLine) (v : Bool) → goes_on l ≡ v → AllGoOn ms → Fits (suc n) (l ∷ ms)
    → 1 + total (list_stretches rs (node_of true (l ∷ ms) (nested_lists n (map without_sign (cond v (l ∷ filter goes_on ms) (filter goes_on ms)))))) ≤ costs
    rs (l ∷ ms)
item_count rs n h l ms true e g f =
    let ls = map without_sign (l ∷ ms) in
    let fits = fits_inner n (l ∷ ms) (e, g) f in
    rw (all_stay ms g) (rw (begins_here n (without_sign l) (map without_sign ms) fits.1)
    (omega (
      arith,
      of_enclosed (plain (item_kind (sign_of l))) (all_lists rs (list_forest (nested_lists n ls))),
      h ls fits,
      one_sign_less l.prefix e,
      inner_costs rs ms g,
    )))
item_count rs n h l ms false e g f =
    let ls = map without_sign ms in
    rw (all_stay ms g)
    (begun_by (begins_at l.number (list_forest (nested_lists n ls))) (h ls (fits_inner n ms g f.2)))
  where
    begun_by : (v : Bool) → total (all_lists rs (list_forest (nested_lists n (map without_sign ms)))) ≤ costs rs (map without_sign ms)
        → 1 + total (if v then enclosed (plain (item_kind (sign_of l))) (all_lists rs (list_forest (nested_lists n (map without_sign ms))))
        else line_item (sign_of l) (row_at rs l.number) (all_lists rs (list_forest (nested_lists n (map without_sign ms))))) ≤ costs rs (l ∷ ms)
    begun_by true k =
        omega (
          arith,
          of_enclosed (plain (item_kind (sign_of l))) (all_lists rs (list_forest (nested_lists n (map without_sign ms)))),
          k,
          some_sign l.prefix,
          inner_costs rs ms g,
        )
    begun_by false k =
        omega (
          arith,
          line_item_count (sign_of l) (row_at rs l.number) (all_lists rs (list_forest (nested_lists n (map without_sign ms)))),
          k,
          some_sign l.prefix,
          inner_costs rs ms g,
        )

-- items leave one number for their list, if there are any
items_count : (rs : List Row) (n : ℕ) → Nest rs n → (qs : List (List ListLine)) (ls : List ListLine) → AreRuns one_item qs ls → Fits (suc n) ls
    → length qs + total (all_lists rs (list_forest (map (nested_item (nested_lists n)) qs))) ≤ costs rs ls
items_count rs n h [] ls r f = omega arith
items_count rs n h ([] ∷ qs) ls r f = absurd r.2
items_count rs n h ((l ∷ ms) ∷ qs) ls (others, e, run, rest) f =
    let fits = subst (Fits (suc n)) e f in
    omega (
      arith,
      total_append (list_stretches rs (nested_item (nested_lists n) (l ∷ ms))) (all_lists rs (list_forest (map (nested_item (nested_lists n)) qs))),
      item_count rs n h l ms (goes_on l) refl (run_goes_on l ms others run) (fits_front (suc n) (l ∷ ms) others fits),
      items_count rs n h qs others rest (fits_back (suc n) (l ∷ ms) others fits),
      ap (costs rs) e,
      costs_append rs (l ∷ ms) others,
    )

runs_some : {A : Type 0} (joins : A → A → Bool) (x : A) (xs : List A) (rs : List (List A)) → AreRuns joins rs (x ∷ xs) → 1 ≤ length rs
runs_some joins x xs [] h = absurd cc
runs_some joins x xs (r ∷ rs) h = omega arith

list_count : (rs : List Row) (n : ℕ) → Nest rs n → (ls : List ListLine) → 0 < length ls → Fits (suc n) ls
    → total (list_stretches rs (list_by (nested_lists n) ls)) ≤ costs rs ls
list_count rs n h [] s f = absurd (omega arith)
list_count rs n h (l ∷ ls) s f =
    let qs = runs one_item (l ∷ ls) in
    omega (
      arith,
      of_enclosed (plain (list_kind (sign_of l))) (all_lists rs (list_forest (items_by (nested_lists n) (l ∷ ls)))),
      items_count rs n h qs (l ∷ ls) (runs_are one_item (l ∷ ls)) f,
      runs_some one_item l ls qs (runs_are one_item (l ∷ ls)),
    )

lists_count : (rs : List Row) (n : ℕ) → Nest rs n → (qs : List (List ListLine)) (ls : List ListLine) → AreRuns one_list qs ls → Fits (suc n) ls
    → total (all_lists rs (list_forest (map (list_by (nested_lists n)) qs))) ≤ costs rs ls
lists_count rs n h [] ls r f = omega arith
lists_count rs n h ([] ∷ qs) ls r f = absurd r.2
lists_count rs n h ((l ∷ ms) ∷ qs) ls (others, e, run, rest) f =
    let fits = subst (Fits (suc n)) e f in
    omega (
      arith,
      total_append (list_stretches rs (list_by (nested_lists n) (l ∷ ms))) (all_lists rs (list_forest (map (list_by (nested_lists n)) qs))),
      list_count rs n h (l ∷ ms) (omega arith) (fits_front (suc n) (l ∷ ms) others fits),
      lists_count rs n h qs others rest (fits_back (suc n) (l ∷ ms) others fits),
      ap (costs rs) e,
      costs_append rs (l ∷ ms) others,
    )

nest_count : (rs : List Row) (n : ℕ) → Nest rs n
nest_count rs zero ls f = omega arith
nest_count rs (suc n) ls f = lists_count rs n (nest_count rs n) (runs one_list ls) ls (runs_are one_list ls) f

-- ---- all lines

-- rows of lists
abbrev pub AreLists : List Row → Type 0
AreLists rs = AllByRecursion (λ r. is_list_line r.kind ≡ true) rs

prefix_few : (xs : List Item) → length (prefix_of xs) ≤ length xs
prefix_few xs =
    let m = min 32 (prefix_len is_list_sign (signs xs)) in
    let e : length (take m (signs xs)) ≡ min m (length (signs xs)) = length-take m (signs xs) in
    let same : length (signs xs) ≡ length xs = length-map xs sign in
    omega arith

row_cost_by : (p : List ℕ) (k n owned makes all : ℕ) → length p ≤ k → k ≤ n → 2 ≤ length p + n → (0 < n → 2 * n ≤ owned) → owned + makes ≤ all
    → 2 * signs_len p + ((k - length p) + makes) ≤ all
row_cost_by [] k n owned makes all a b c d e = omega (arith, d (omega arith))
row_cost_by (s ∷ ss) k n owned makes all a b c d e = omega (arith, d (omega arith))

row_cost : (r : Row) → is_list_line r.kind ≡ true → IsFit r → 2 * signs_len (prefix_of r.items) + tail r ≤ allowed r
row_cost r e h =
    row_cost_by (prefix_of r.items) (length r.items) (length (row_items r)) (own r.kind (length (row_items r))) (makes_all (row_items r)) (allowed r)
    (prefix_few r.items) (omega (arith, row_length r)) (h.1 e) (own_list r.kind (length (row_items r)) e) (omega arith)

rows_cost : (before rs : List Row) → AreLists rs → AreFit rs → costs (before ++ rs) (numbered_lines (length before) (prefixes rs)) ≤ allowed_all rs
rows_cost before [] k f = omega arith
rows_cost before (r ∷ rs) k f =
    let next = before ++ (r ∷ []) in
    let ps = prefixes rs in
    let whole : before ++ r ∷ rs ≡ next ++ rs = sym (append_assoc before (r ∷ []) rs) in
    let len : length next ≡ suc (length before) = length-append before (r ∷ []) ∙ omega arith in
    let here : tail (row_at (before ++ r ∷ rs) (length before)) ≡ tail r = ap tail (get_or-append_seam before r rs unwritten_end) in
    let later : costs (before ++ r ∷ rs) (numbered_lines (suc (length before)) ps) ≡ costs (next ++ rs) (numbered_lines (length next) ps) =
    ap (λ all. costs all (numbered_lines (suc (length before)) ps)) whole ∙ ap (λ i. costs (next ++ rs) (numbered_lines i ps)) (sym len) in
    omega (arith, here, later, row_cost r k.0 f.0, rows_cost next rs k.1 f.1)

pub of_lists : (rs : List Row) → AreLists rs → AreFit rs → total (lists rs) ≤ allowed_all rs
unfolding lists nested
of_lists rs k f = omega (arith, nest_count rs 32 (numbered_lines 0 (prefixes rs)) (fits_all 0 rs), rows_cost [] rs k f)
