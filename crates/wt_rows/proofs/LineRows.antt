-- Rows by what stands on a line and what ends it.
use Rattle.std.proofs.Common.{◌≡◌, ◌≤◌, ℕ, zero, suc, ◌+◌, ◌-◌, Bool, true, false, List, [], ◌∷◌, ◌++◌, length, take, drop, refl, sym, ap, ◌∙◌, cond, arith, append-nil}
use Rattle.std.specs.Prelude.{if◌then◌else◌, ◌==◌}
use Rattle.std.specs.List.{prefix_len}
use Rattle.std.proofs.lemmas.Bool.Decides.{nat_tests}
use Rattle.std.proofs.lemmas.List.{drop_all, length-map}
use Rattle.std.proofs.lemmas.List.Sums.{prefix_len-le-length}
use Rattle.wt_span.proofs.Lists.{take_append}
use Rattle.wt_span.specs.Bytes.{is_break}
use Rattle.wt_span.specs.Items.{Item, char, whole, sign, is_mark}
use Rattle.wt_lines.specs.declared.kind.LineKind.{LineKind}
use Rattle.wt_lines.specs.declared.kind.LineKind.TheVariants as line
use Rattle.wt_lines.specs.Kinds.{is_idle, is_idle_all}
use Rattle.wt_lines.specs.Lines.{is_break_item, content}
use Rattle.wt_page.specs.Lines.{ending}
use Rattle.wt_page.proofs.Ends.{content_ending}
use Rattle.wt_page.specs.Rows.{Row, signs, marks_len, idle_len, dashes, whole_row, sign_rows}
use Rattle.wt_rows.specs.Building.{cut_row, signed_rows}

-- ---- a line from a place on

abbrev nothing : List Item
nothing = []

no_more : (n : ℕ) → drop n nothing ≡ nothing
no_more n = drop_all n nothing (omega arith)

content_one : (n : ℕ) (x : Item) (v : Bool) → content (drop n []) ≡ drop (suc n) (cond v [] (x ∷ []))
content_one n x true = ap content (no_more n)
content_one n x false = ap content (no_more n) ∙ sym (no_more n)

content_drop : (n : ℕ) (l : List Item) → content (drop n l) ≡ drop n (content l)
content_drop zero l = refl
content_drop (suc n) [] = refl
content_drop (suc n) (x ∷ []) = content_one n x (is_break_item x)
content_drop (suc n) (x ∷ y ∷ ys) = content_drop n (y ∷ ys)

ending_one : (n : ℕ) (x : Item) (v : Bool) → suc n ≤ length (cond v [] (x ∷ [])) → ending (drop n []) ≡ cond v (x ∷ []) []
ending_one n x true h = absurd (omega arith)
ending_one n x false h = ap ending (no_more n)

ending_drop : (n : ℕ) (l : List Item) → n ≤ length (content l) → ending (drop n l) ≡ ending l
ending_drop zero l h = refl
ending_drop (suc n) [] h = refl
ending_drop (suc n) (x ∷ []) h = ending_one n x (is_break_item x) h
ending_drop (suc n) (x ∷ y ∷ ys) h = ending_drop n (y ∷ ys) (omega (arith, h))

take_content : (n : ℕ) (l : List Item) → n ≤ length (content l) → take n l ≡ take n (content l)
take_content n l h =
    let z : n - length (content l) ≡ 0 = omega (arith, h) in
    ap (take n) (sym (content_ending l)) ∙ take_append n (content l) (ending l)
    ∙ ap (λ k. take n (content l) ++ take k (ending l)) z ∙ append-nil (take n (content l))

-- ---- what stops before the line break

prefix_one : (p : Item → Bool) (x : Item) (v : Bool) → is_break_item x ≡ v → ((y : Item) → is_break_item y ≡ true → p y ≡ false)
    → prefix_len p (x ∷ []) ≡ prefix_len p (cond v [] (x ∷ []))
prefix_one p x true e stops = let f = stops x e in rw f refl
prefix_one p x false e stops = refl

prefix_content : (p : Item → Bool) → ((y : Item) → is_break_item y ≡ true → p y ≡ false) → (l : List Item) → prefix_len p l ≡ prefix_len p (content l)
prefix_content p stops [] = refl
prefix_content p stops (x ∷ []) = prefix_one p x (is_break_item x) refl stops
prefix_content p stops (x ∷ y ∷ ys) = ap (λ n. cond (p x) (1 + n) 0) (prefix_content p stops (y ∷ ys))

prefix_signs : (test : ℕ → Bool) (xs : List Item) → prefix_len test (signs xs) ≡ prefix_len (λ x. test (sign x)) xs
prefix_signs test [] = refl
prefix_signs test (x ∷ xs) = ap (λ n. cond (test (sign x)) (1 + n) 0) (prefix_signs test xs)

sign_stops : (test : ℕ → Bool) → ((b : ℕ) → is_break b ≡ true → test b ≡ false) → (y : Item) → is_break_item y ≡ true → test (sign y) ≡ false
sign_stops test stops (char o b) e = stops b e
sign_stops test stops (whole f o bs) e = absurd cc

signs_content : (test : ℕ → Bool) → ((b : ℕ) → is_break b ≡ true → test b ≡ false) → (l : List Item)
    → prefix_len test (signs l) ≡ prefix_len test (signs (content l))
signs_content test stops l =
    prefix_signs test l ∙ prefix_content (λ x. test (sign x)) (sign_stops test stops) l ∙ sym (prefix_signs test (content l))

break_no_mark : (y : Item) → is_break_item y ≡ true → is_mark y ≡ false
break_no_mark (char o b) e = refl
break_no_mark (whole f o bs) e = absurd cc

break_not_idle : (b : ℕ) → is_break b ≡ true → is_idle b ≡ false
break_not_idle b e = grind (arith, nat_tests)

break_no_dash : (b : ℕ) → is_break b ≡ true → (b == 45) ≡ false
break_no_dash b e = grind (arith, nat_tests)

marks_content : (l : List Item) → marks_len l ≡ marks_len (content l)
marks_content l = prefix_content is_mark break_no_mark l

idle_content : (l : List Item) → idle_len l ≡ idle_len (content l)
idle_content l = signs_content is_idle break_not_idle l

dashes_content : (l : List Item) → dashes l ≡ dashes (content l)
dashes_content l = signs_content (λ s. s == 45) break_no_dash l

marks_within : (xs : List Item) → marks_len xs ≤ length xs
marks_within xs = prefix_len-le-length is_mark xs

pub idle_within : (xs : List Item) → idle_len xs ≤ length xs
idle_within xs = omega (arith, prefix_len-le-length is_idle (signs xs), length-map xs sign)

pub dashes_within : (xs : List Item) → dashes xs ≤ length xs
dashes_within xs = omega (arith, prefix_len-le-length (λ s. s == 45) (signs xs), length-map xs sign)

-- ---- rows of a line

abbrev row_by : LineKind → List Item → List Item → List Item → Row
row_by k lead own end = record { kind = k; lead = lead; items = own; ending = end }

whole_is : (k : LineKind) (n : ℕ) (l : List Item) → n ≤ length (content l) → cut_row k n (content l) (ending l) ≡ whole_row k n l
whole_is k n l h =
    ap (λ xs. row_by k xs (drop n (content l)) (ending l)) (sym (take_content n l h))
    ∙ ap (λ xs. row_by k (take n l) xs (ending l)) (sym (content_drop n l))
    ∙ ap (λ xs. row_by k (take n l) (content (drop n l)) xs) (sym (ending_drop n l h))

pub marked_row : (k : LineKind) (l : List Item) → cut_row k (marks_len (content l)) (content l) (ending l) ≡ whole_row k (marks_len l) l
marked_row k l = whole_is k (marks_len (content l)) l (marks_within (content l)) ∙ ap (λ n. whole_row k n l) (sym (marks_content l))

pub idle_row : (k : LineKind) (l : List Item) → cut_row k (idle_len (content l)) (content l) (ending l) ≡ whole_row k (idle_len l) l
idle_row k l = whole_is k (idle_len (content l)) l (idle_within (content l)) ∙ ap (λ n. whole_row k n l) (sym (idle_content l))

-- by what stands before the sign, the sign, what stands behind it without and with the end of the line, and the row of that
abbrev sign_by : LineKind → List Item → List Item → List Item → List Item → Row → List Row
sign_by k lead own seen rest text = if is_idle_all (signs seen) then row_by k lead own rest ∷ [] else row_by k lead own [] ∷ text ∷ []

signs_are : (k : LineKind) (n m : ℕ) (l : List Item) → n ≤ length (content l) → m ≤ length (drop n (content l))
    → signed_rows k (take n (content l)) m (drop n (content l)) (ending l) ≡ sign_rows k n m l
signs_are k n m l h i =
    let behind = drop n l in
    let rest = drop m behind in
    let seen = drop m (drop n (content l)) in
    let there : content behind ≡ drop n (content l) = content_drop n l in
    let within : m ≤ length (content behind) = omega (arith, i, ap length there) in
    let own : take m (drop n (content l)) ≡ take m behind = ap (take m) (sym there) ∙ sym (take_content m behind within) in
    let left : seen ≡ content rest = ap (drop m) (sym there) ∙ sym (content_drop m behind) in
    let end : ending l ≡ ending rest = sym (ending_drop n l h) ∙ sym (ending_drop m behind within) in
    let text : cut_row line.Text (marks_len seen) seen (ending l) ≡ whole_row line.Text (marks_len rest) rest =
    ap (λ xs. cut_row line.Text (marks_len xs) xs (ending l)) left ∙ ap (cut_row line.Text (marks_len (content rest)) (content rest)) end
    ∙ marked_row line.Text rest in
    ap (λ xs. sign_by k xs (take m (drop n (content l))) seen (seen ++ ending l) (cut_row line.Text (marks_len seen) seen (ending l)))
    (sym (take_content n l h))
    ∙ ap (λ xs. sign_by k (take n l) xs seen (seen ++ ending l) (cut_row line.Text (marks_len seen) seen (ending l))) own
    ∙ ap (λ t. sign_by k (take n l) (take m behind) seen (seen ++ ending l) t) text
    ∙ ap (λ xs. sign_by k (take n l) (take m behind) seen xs (whole_row line.Text (marks_len rest) rest))
    (ap (λ xs. xs ++ ending l) left ∙ ap (λ xs. content rest ++ xs) end ∙ content_ending rest)
    ∙ ap (λ xs. sign_by k (take n l) (take m behind) xs rest (whole_row line.Text (marks_len rest) rest)) left

pub end_rows : (l : List Item) → 2 ≤ length (drop (idle_len (content l)) (content l))
    → signed_rows line.TableEnd (take (idle_len (content l)) (content l)) 2 (drop (idle_len (content l)) (content l)) (ending l)
    ≡ sign_rows line.TableEnd (idle_len l) 2 l
end_rows l h = signs_are line.TableEnd (idle_len (content l)) 2 l (idle_within (content l)) h ∙ ap (λ n. sign_rows line.TableEnd n 2 l) (sym (idle_content l))

pub rule_rows : (l : List Item)
    → signed_rows line.Rule (take (marks_len (content l)) (content l)) (dashes (drop (marks_len (content l)) (content l)))
    (drop (marks_len (content l)) (content l)) (ending l)
    ≡ sign_rows line.Rule (marks_len l) (dashes (drop (marks_len l) l)) l
rule_rows l =
    let n = marks_len (content l) in
    let m = dashes (drop n (content l)) in
    let same : m ≡ dashes (drop n l) = ap dashes (sym (content_drop n l)) ∙ sym (dashes_content (drop n l)) in
    signs_are line.Rule n m l (marks_within (content l)) (dashes_within (drop n (content l)))
    ∙ ap (λ k. sign_rows line.Rule n k l) same
    ∙ ap (λ k. sign_rows line.Rule k (dashes (drop k l)) l) (sym (marks_content l))
