-- Lists hold their rows.
use Rattle.std.proofs.Common.{◌≡◌, ◌<◌, ◌≤◌, ℕ, zero, suc, ◌-◌, min, Bool, true, false, Option, Some, None, List, [], ◌∷◌, ◌++◌, length, take, drop, map, refl, sym, ap, ◌∙◌, subst, cond, arith, append_assoc, append-nil, length-append, length-drop}
use Rattle.std.specs.Prelude.{◌==◌}
use Rattle.std.specs.List.{flat_map, filter, prefix_len, AllByRecursion}
use Rattle.std.proofs.lemmas.List.{take-append-drop, length-take}
use Rattle.std.proofs.lemmas.Grind.{flat_map-append}
use Rattle.std.proofs.lemmas.Bool.Decides.{nat_tests}
use Rattle.std.proofs.Math.Seq.{get_or-append_seam}
use Rattle.wt_tree.specs.declared.kind.Kind.TheVariants as kind
use Rattle.wt_span.specs.Items.{Item}
use Rattle.wt_span.specs.Runs.{put, runs, IsRun, AreRuns}
use Rattle.wt_span.proofs.RunLaws.{runs_are}
use Rattle.wt_blocks.specs.ListTree.{ListTree, forest as list_forest}
use Rattle.wt_blocks.specs.Nesting.{ListLine, numbered, is_list_sign, sign_of, one_list, goes_on, one_item, without_sign, node_of, item_by as nested_item, items_by, list_by, lists as nested_lists, nested}
use Rattle.wt_inline.specs.Inside.{opened_all}
use Rattle.wt_inline.specs.ItemTree.{plain}
use Rattle.wt_inline.proofs.HeldLaws.{opened_append}
use Rattle.wt_context.specs.Line.{line_parts}
use Rattle.wt_page.specs.Rows.{Row, row_items, all_items, unwritten_end, signs}
use Rattle.wt_page.specs.Stretches.{Stretch, gap, block, opened_by}
use Rattle.wt_page.specs.Lists.{prefix_of, with_blanks, item_opening_len, term_len, item_kind, list_kind, term, item_by, line_item, begins_at, row_at, list_stretches, all_lists, prefixes, lists}
use Rattle.wt_context.proofs.LineHolding.{line_holds}
use Rattle.wt_page.proofs.Opened.{kept_parts}
use Rattle.wt_page.proofs.Held.{kept, kept_tree, kept_append, of_gap, of_block, of_tree, of_inner, of_opened, of_enclosed}
use Rattle.wt_page.proofs.HeldTexts.{opened_row}

-- ---- an item with what stands on its line

of_term : (o xs : List Item) → kept_tree (term o xs) ≡ opened_all o ++ opened_all xs
of_term o xs = of_inner (plain kind.Dt) o (line_parts xs) [] ∙ ap (λ ys. opened_all o ++ ys) (append-nil (kept_parts (line_parts xs)) ∙ line_holds xs)

of_item_by : (sign : ℕ) (n : Option ℕ) (o xs : List Item) (ss : List Stretch) → kept (item_by sign n o xs ss) ≡ opened_all o ++ (opened_all xs ++ kept ss)
of_item_by sign None o xs ss =
    of_opened (plain (item_kind sign)) o (block (line_parts xs) ∷ ss)
    ∙ ap (λ ys. opened_all o ++ ys) (of_block (line_parts xs) ss ∙ ap (λ ys. ys ++ kept ss) (line_holds xs))
of_item_by sign (Some n) o xs ss =
    let front = take n xs in
    let rest = drop n xs in
    let colon = take (with_blanks 1 rest) rest in
    let after = drop (with_blanks 1 rest) rest in
    of_tree (term o front) (opened_by (plain kind.Dd) colon (block (line_parts after) ∷ ss))
    ∙ ap (λ ys. ys ++ kept (opened_by (plain kind.Dd) colon (block (line_parts after) ∷ ss))) (of_term o front)
    ∙ ap (λ ys. (opened_all o ++ opened_all front) ++ ys) (of_opened (plain kind.Dd) colon (block (line_parts after) ∷ ss)
    ∙ ap (λ ys. opened_all colon ++ ys) (of_block (line_parts after) ss ∙ ap (λ ys. ys ++ kept ss) (line_holds after))
    ∙ sym (append_assoc (opened_all colon) (opened_all after) (kept ss))
    ∙ ap (λ ys. ys ++ kept ss) (sym (opened_append colon after) ∙ ap opened_all (take-append-drop (with_blanks 1 rest) rest)))
    ∙ append_assoc (opened_all o) (opened_all front) (opened_all rest ++ kept ss)
    ∙ ap (λ ys. opened_all o ++ ys) (sym (append_assoc (opened_all front) (opened_all rest) (kept ss))
    ∙ ap (λ ys. ys ++ kept ss) (sym (opened_append front rest) ∙ ap opened_all (take-append-drop n xs)))

of_line_item : (sign : ℕ) (r : Row) (ss : List Stretch) → kept (line_item sign r ss) ≡ opened_all (row_items r) ++ kept ss
unfolding line_item
of_line_item sign r ss =
    let n = item_opening_len r.items in
    let o = take n r.items in
    let xs = drop n r.items in
    let more = gap r.ending ∷ ss in
    of_gap r.lead (item_by sign (term_len sign xs) o xs more)
    ∙ ap (λ ys. opened_all r.lead ++ ys) (of_item_by sign (term_len sign xs) o xs more
    ∙ sym (append_assoc (opened_all o) (opened_all xs) (kept more))
    ∙ ap (λ ys. ys ++ kept more) (sym (opened_append o xs) ∙ ap opened_all (take-append-drop n r.items))
    ∙ ap (λ ys. opened_all r.items ++ ys) (of_gap r.ending ss))
    ∙ sym (ap (λ ys. ys ++ kept ss) (opened_row r) ∙ simp (append_assoc))

-- ---- lines of lists: their prefixes, and that their numbers rise

abbrev pub Fits : ℕ → List ListLine → Type 0
Fits n [] = Unit {0}
Fits n (l ∷ ls) = (length l.prefix ≤ n) × (0 < n) × Fits n ls

abbrev Climb : ℕ → List ListLine → Type 0
Climb k [] = Unit {0}
Climb k (l ∷ ls) = (k ≤ l.number) × Climb (suc l.number) ls

pub fits_front : (n : ℕ) (ls ms : List ListLine) → Fits n (ls ++ ms) → Fits n ls
fits_front n [] ms f = tt
fits_front n (l ∷ ls) ms f = (f.0, f.1, fits_front n ls ms f.2)

pub fits_back : (n : ℕ) (ls ms : List ListLine) → Fits n (ls ++ ms) → Fits n ms
fits_back n [] ms f = f
fits_back n (l ∷ ls) ms f = fits_back n ls ms f.2

climb_from : (j k : ℕ) (ls : List ListLine) → j ≤ k → Climb k ls → Climb j ls
climb_from j k [] h c = tt
climb_from j k (l ∷ ls) h c = let e = c.0 in (omega arith, c.1)

climb_front : (k : ℕ) (ls ms : List ListLine) → Climb k (ls ++ ms) → Climb k ls
climb_front k [] ms c = tt
climb_front k (l ∷ ls) ms c = (c.0, climb_front (suc l.number) ls ms c.1)

climb_back : (k : ℕ) (ls ms : List ListLine) → Climb k (ls ++ ms) → Climb k ms
climb_back k [] ms c = c
climb_back k (l ∷ ls) ms c = let e = c.0 in climb_from k (suc l.number) ms (omega arith) (climb_back (suc l.number) ls ms c.1)

abbrev pub AllGoOn : List ListLine → Type 0
AllGoOn ls = AllByRecursion (λ l. goes_on l ≡ true) ls

pub run_goes_on : (l : ListLine) (ms others : List ListLine) → IsRun one_item (l ∷ ms) others → AllGoOn ms
run_goes_on l [] others h = tt
run_goes_on l (m ∷ ms) others h = (h.0, run_goes_on m ms others h.1)

pub all_stay : (ms : List ListLine) → AllGoOn ms → filter goes_on ms ≡ ms
all_stay [] h = refl
all_stay (m ∷ ms) h = rw h.0 (ap (λ ls. m ∷ ls) (all_stay ms h.1))

-- a line that goes on, without its first sign
fits_less : (n : ℕ) (l : ListLine) → goes_on l ≡ true → length l.prefix ≤ suc n → (length (drop 1 l.prefix) ≤ n) × (0 < n)
fits_less n l e f =
    let more : 1 < length l.prefix = grind (arith, nat_tests) in
    let less : length (drop 1 l.prefix) ≡ length l.prefix - 1 = length-drop 1 l.prefix in
    (omega arith, omega arith)

pub fits_inner : (n : ℕ) (ls : List ListLine) → AllGoOn ls → Fits (suc n) ls → Fits n (map without_sign ls)
fits_inner n [] h f = tt
fits_inner n (l ∷ ls) h f = let e = fits_less n l h.0 f.0 in (e.0, e.1, fits_inner n ls h.1 f.2)

climb_inner : (k : ℕ) (ls : List ListLine) → Climb k ls → Climb k (map without_sign ls)
climb_inner k [] c = tt
climb_inner k (l ∷ ls) c = (c.0, climb_inner (suc l.number) ls c.1)

-- ---- the lines of lists, by their numbers

abbrev lines_items : List Row → List ListLine → List Item
lines_items rs ls = flat_map (λ l. row_items (row_at rs l.number)) ls

lines_append : (rs : List Row) (ls ms : List ListLine)
    → opened_all (lines_items rs (ls ++ ms)) ≡ opened_all (lines_items rs ls) ++ opened_all (lines_items rs ms)
lines_append rs ls ms = ap opened_all (flat_map-append (λ l. row_items (row_at rs l.number)) ls ms) ∙ opened_append (lines_items rs ls) (lines_items rs ms)

lines_inner : (rs : List Row) (ls : List ListLine) → lines_items rs (map without_sign ls) ≡ lines_items rs ls
lines_inner rs [] = refl
lines_inner rs (l ∷ ls) = ap (λ ys. row_items (row_at rs l.number) ++ ys) (lines_inner rs ls)

-- ---- which list begins at an item's line

first_is : (f : List ListLine → List ListTree) (x : ListLine) (rs : List (List ListLine)) (line : ℕ)
    → begins_at line (list_forest (map (list_by f) (put one_list x rs))) ≡ (x.number == line)
first_is f x [] line = refl
first_is f x ([] ∷ rs) line = refl
first_is f x ((y ∷ ys) ∷ rs) line = by (one_list x y)
  where
    by : (v : Bool) → begins_at line (list_forest (map (list_by f) (cond v ((x ∷ y ∷ ys) ∷ rs) ((x ∷ []) ∷ (y ∷ ys) ∷ rs)))) ≡ (x.number == line)
    by true = refl
    by false = refl

pub begins_here : (n : ℕ) (x : ListLine) (xs : List ListLine) → 0 < n → begins_at x.number (list_forest (nested_lists n (x ∷ xs))) ≡ true
begins_here zero x xs h = absurd (omega arith)
begins_here (suc n) x xs h = first_is (nested_lists n) x (runs one_list xs) x.number ∙ grind (arith, nat_tests)

begins_later : (n line : ℕ) (xs : List ListLine) → Climb (suc line) xs → begins_at line (list_forest (nested_lists n xs)) ≡ false
begins_later zero line xs c = refl
begins_later (suc n) line [] c = refl
begins_later (suc n) line (x ∷ xs) c =
    let e : suc line ≤ x.number = c.0 in
    let differs : (x.number == line) ≡ false = grind (arith, nat_tests) in
    first_is (nested_lists n) x (runs one_list xs) line ∙ differs

-- ---- the nest

-- lines whose prefixes have at most so many signs make lists that hold them
abbrev Nest : List Row → ℕ → Type 0
Nest rs n = (k : ℕ) (ls : List ListLine) → Fits n ls → Climb k ls → kept (all_lists rs (list_forest (nested_lists n ls))) ≡ opened_all (lines_items rs ls)

-- an item, by whether its first line goes on
item_held : (rs : List Row) (n : ℕ) → Nest rs n → (k : ℕ) (l : ListLine) (ms : List ListLine) (v : Bool) → goes_on l ≡ v → AllGoOn ms
    → Fits (suc n) (l ∷ ms) → Climb k (l ∷ ms)
    → kept (list_stretches rs (node_of true (l ∷ ms) (nested_lists n (map without_sign (cond v (l ∷ filter goes_on ms) (filter goes_on ms))))))
    ≡ opened_all (lines_items rs (l ∷ ms))
item_held rs n h k l ms true e g f c =
    let ls = map without_sign (l ∷ ms) in
    let fits = fits_inner n (l ∷ ms) (e, g) f in
    rw (all_stay ms g) (rw (begins_here n (without_sign l) (map without_sign ms) fits.1)
    (of_enclosed (plain (item_kind (sign_of l))) (all_lists rs (list_forest (nested_lists n ls)))
    ∙ h k ls fits (climb_inner k (l ∷ ms) c) ∙ ap opened_all (lines_inner rs (l ∷ ms))))
item_held rs n h k l ms false e g f c =
    let ls = map without_sign ms in
    let climbs = climb_inner (suc l.number) ms c.1 in
    rw (all_stay ms g) (rw (begins_later n l.number ls climbs)
    (of_line_item (sign_of l) (row_at rs l.number) (all_lists rs (list_forest (nested_lists n ls)))
    ∙ ap (λ ys. opened_all (row_items (row_at rs l.number)) ++ ys) (h (suc l.number) ls (fits_inner n ms g f.2) climbs ∙ ap opened_all (lines_inner rs ms))
    ∙ sym (opened_append (row_items (row_at rs l.number)) (lines_items rs ms))))

items_held : (rs : List Row) (n : ℕ) → Nest rs n → (qs : List (List ListLine)) (k : ℕ) (ls : List ListLine) → AreRuns one_item qs ls
    → Fits (suc n) ls → Climb k ls → kept (all_lists rs (list_forest (map (nested_item (nested_lists n)) qs))) ≡ opened_all (lines_items rs ls)
items_held rs n h [] k ls r f c = sym (ap (λ ms. opened_all (lines_items rs ms)) r)
items_held rs n h ([] ∷ qs) k ls r f c = absurd r.2
items_held rs n h ((l ∷ ms) ∷ qs) k ls (others, e, run, rest) f c =
    let fits = subst (Fits (suc n)) e f in
    let climbs = subst (Climb k) e c in
    kept_append (list_stretches rs (nested_item (nested_lists n) (l ∷ ms))) (all_lists rs (list_forest (map (nested_item (nested_lists n)) qs)))
    ∙ ap (λ ys. ys ++ kept (all_lists rs (list_forest (map (nested_item (nested_lists n)) qs))))
    (item_held rs n h k l ms (goes_on l) refl (run_goes_on l ms others run) (fits_front (suc n) (l ∷ ms) others fits) (climb_front k (l ∷ ms) others climbs))
    ∙ ap (λ ys. opened_all (lines_items rs (l ∷ ms)) ++ ys)
    (items_held rs n h qs k others rest (fits_back (suc n) (l ∷ ms) others fits) (climb_back k (l ∷ ms) others climbs))
    ∙ sym (lines_append rs (l ∷ ms) others) ∙ sym (ap (λ xs. opened_all (lines_items rs xs)) e)

list_held : (rs : List Row) (n : ℕ) → Nest rs n → (k : ℕ) (ls : List ListLine) → Fits (suc n) ls → Climb k ls
    → kept (list_stretches rs (list_by (nested_lists n) ls)) ≡ opened_all (lines_items rs ls)
list_held rs n h k [] f c = of_enclosed (plain (list_kind 0)) []
list_held rs n h k (l ∷ ls) f c =
    let items = all_lists rs (list_forest (items_by (nested_lists n) (l ∷ ls))) in
    of_enclosed (plain (list_kind (sign_of l))) items
    ∙ items_held rs n h (runs one_item (l ∷ ls)) k (l ∷ ls) (runs_are one_item (l ∷ ls)) f c

lists_held : (rs : List Row) (n : ℕ) → Nest rs n → (qs : List (List ListLine)) (k : ℕ) (ls : List ListLine) → AreRuns one_list qs ls
    → Fits (suc n) ls → Climb k ls → kept (all_lists rs (list_forest (map (list_by (nested_lists n)) qs))) ≡ opened_all (lines_items rs ls)
lists_held rs n h [] k ls r f c = sym (ap (λ ms. opened_all (lines_items rs ms)) r)
lists_held rs n h (q ∷ qs) k ls (others, e, run, rest) f c =
    let fits = subst (Fits (suc n)) e f in
    let climbs = subst (Climb k) e c in
    kept_append (list_stretches rs (list_by (nested_lists n) q)) (all_lists rs (list_forest (map (list_by (nested_lists n)) qs)))
    ∙ ap (λ ys. ys ++ kept (all_lists rs (list_forest (map (list_by (nested_lists n)) qs))))
    (list_held rs n h k q (fits_front (suc n) q others fits) (climb_front k q others climbs))
    ∙ ap (λ ys. opened_all (lines_items rs q) ++ ys) (lists_held rs n h qs k others rest (fits_back (suc n) q others fits) (climb_back k q others climbs))
    ∙ sym (lines_append rs q others) ∙ sym (ap (λ xs. opened_all (lines_items rs xs)) e)

nest_held : (rs : List Row) (n : ℕ) → Nest rs n
nest_held rs zero k [] f c = refl
nest_held rs zero k (l ∷ ls) f c = let e = f.1 in absurd (omega arith)
nest_held rs (suc n) k ls f c = lists_held rs n (nest_held rs n) (runs one_list ls) k ls (runs_are one_list ls) f c

-- ---- all lines

within_prefix : (xs : List Item) → length (prefix_of xs) ≤ 32
within_prefix xs =
    let m = min 32 (prefix_len is_list_sign (signs xs)) in
    let e : length (take m (signs xs)) ≡ min m (length (signs xs)) = length-take m (signs xs) in
    omega arith

pub fits_all : (k : ℕ) (rs : List Row) → Fits 32 (numbered k (prefixes rs))
fits_all k [] = tt
fits_all k (r ∷ rs) = (within_prefix r.items, omega arith, fits_all (suc k) rs)

climb_all : (k : ℕ) (ps : List (List ℕ)) → Climb k (numbered k ps)
climb_all k [] = tt
climb_all k (p ∷ ps) = (omega arith, climb_all (suc k) ps)

rows_numbered : (before rs : List Row) → lines_items (before ++ rs) (numbered (length before) (prefixes rs)) ≡ all_items rs
rows_numbered before [] = refl
rows_numbered before (r ∷ rs) =
    let next = before ++ (r ∷ []) in
    let whole : before ++ r ∷ rs ≡ next ++ rs = sym (append_assoc before (r ∷ []) rs) in
    let len : length next ≡ suc (length before) = length-append before (r ∷ []) ∙ omega arith in
    ap (λ s. row_items s ++ lines_items (before ++ r ∷ rs) (numbered (suc (length before)) (prefixes rs))) (get_or-append_seam before r rs unwritten_end)
    ∙ ap (λ ys. row_items r ++ ys) (ap (λ all. lines_items all (numbered (suc (length before)) (prefixes rs))) whole
    ∙ ap (λ k. lines_items (next ++ rs) (numbered k (prefixes rs))) (sym len) ∙ rows_numbered next rs)

pub of_lists : (rs : List Row) → kept (lists rs) ≡ opened_all (all_items rs)
unfolding lists nested
of_lists rs = nest_held rs 32 0 (numbered 0 (prefixes rs)) (fits_all 0 rs) (climb_all 0 (prefixes rs)) ∙ ap opened_all (rows_numbered [] rs)
