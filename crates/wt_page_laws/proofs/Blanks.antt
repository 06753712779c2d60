-- Open delimiters of items and cells take all blanks behind their signs.
use Rattle.std.proofs.Common.{◌≡◌, ℕ, zero, suc, ◌+◌, min, Bool, true, false, Option, Some, None, List, [], ◌∷◌, ◌++◌, length, map, take, drop, refl, sym, ap, ◌∙◌, subst, inl, inr, arith, drop-drop}
use Rattle.std.specs.Prelude.{if◌then◌else◌}
use Rattle.std.specs.List.{AllByRecursion, prefix_len}
use Rattle.std.proofs.Math.Seq.{take-add}
use Rattle.std.proofs.lemmas.List.{take-append-drop, take-map, drop-map}
use Rattle.wt_tree.specs.declared.kind.Kind.TheVariants as kind
use Rattle.wt_span.specs.Bytes.{is_blank}
use Rattle.wt_span.specs.Items.{Item, sign}
use Rattle.wt_tables.specs.Cells.{bar_at, past_bar, Cell, cell_of, cells_in, header_by, sign_len, parts as line_cuts, split_by, signs as cell_signs, cells_from}
use Rattle.wt_blocks.specs.declared.limits.TheConstants.{MOST_SIGNS}
use Rattle.wt_blocks.specs.Nesting.{is_list_sign}
use Rattle.wt_inline.specs.ItemTree.{inner, plain, forest}
use Rattle.wt_inline.specs.Parts.{children}
use Rattle.wt_context.specs.Line.{line_parts}
use Rattle.wt_page.specs.Rows.{Row, signs}
use Rattle.wt_page.specs.Stretches.{Stretch, gap, block, stretches_parts, opened_by}
use Rattle.wt_page.specs.Lists.{prefix_of, with_blanks, item_opening_len, term_len, item_kind, item_by, line_item}
use Rattle.wt_page_laws.specs.Roles.{is_of_list}
use Rattle.wt_page_laws.specs.Members.{of_each}
use Rattle.wt_page_laws.specs.Delimiters.{begins_blank, TakesBlanks, delimiter_of, AreDelimiters}
use Rattle.wt_page_laws.proofs.Told.{TellsNone, told_in, children_told, behind_gap, of_opened}
use Rattle.wt_page_laws.proofs.Named.{item_role}

-- ---- blanks

all_blank : (ss : List ℕ) → AllByRecursion (λ s. is_blank s ≡ true) (take (prefix_len is_blank ss) ss)
all_blank [] = tt
all_blank (s ∷ ss) = by (is_blank s) refl (all_blank ss)
  where
    by : (b : Bool) → is_blank s ≡ b → AllByRecursion (λ t. is_blank t ≡ true) (take (prefix_len is_blank ss) ss)
        → AllByRecursion (λ t. is_blank t ≡ true) (take (if b then 1 + prefix_len is_blank ss else 0) (s ∷ ss))
    by true e h =
        let z : 1 + prefix_len is_blank ss ≡ suc (prefix_len is_blank ss) = omega arith in
        subst (λ n. AllByRecursion (λ t. is_blank t ≡ true) (take n (s ∷ ss))) (sym z) (e, h)
    by false e h = tt

no_more : (ss : List ℕ) → begins_blank (drop (prefix_len is_blank ss) ss) ≡ false
no_more [] = refl
no_more (s ∷ ss) = by (is_blank s) refl (no_more ss)
  where
    by : (b : Bool) → is_blank s ≡ b → begins_blank (drop (prefix_len is_blank ss) ss) ≡ false
        → begins_blank (drop (if b then 1 + prefix_len is_blank ss else 0) (s ∷ ss)) ≡ false
    by true e h =
        let z : 1 + prefix_len is_blank ss ≡ suc (prefix_len is_blank ss) = omega arith in
        subst (λ n. begins_blank (drop n (s ∷ ss)) ≡ false) (sym z) h
    by false e h = e

behind : (n : ℕ) (xs : List Item) → begins_blank (map sign (drop (with_blanks n xs) xs)) ≡ false
behind n xs =
    let ss : List ℕ = drop n (signs xs) in
    let m = prefix_len is_blank ss in
    ap begins_blank (sym (drop-map sign (n + m) xs) ∙ sym (drop-drop m n (signs xs))) ∙ no_more ss

takes : (n : ℕ) (xs : List Item) → TakesBlanks (take n (map sign xs)) (take (with_blanks n xs) xs) xs
takes n xs =
    let ss : List ℕ = drop n (signs xs) in
    let m = prefix_len is_blank ss in
    record {
      blanks = take m ss;
      rest = drop (n + m) xs;
      cut = sym (take-append-drop (n + m) xs);
      signs = sym (take-map sign (n + m) xs) ∙ take-add n m (signs xs);
      all_blank = all_blank ss;
      no_more = behind n xs;
    }

-- ---- prefixes

take_length : (k : ℕ) (ss : List ℕ) → take (length (take k ss)) ss ≡ take k ss
take_length zero ss = refl
take_length (suc k) [] = refl
take_length (suc k) (s ∷ ss) = ap (λ ts. s ∷ ts) (take_length k ss)

prefix_taken : (xs : List Item) → TakesBlanks (prefix_of xs) (take (item_opening_len xs) xs) xs
prefix_taken xs =
    subst (λ first. TakesBlanks first (take (item_opening_len xs) xs) xs) (take_length (min MOST_SIGNS (prefix_len is_list_sign (signs xs))) (signs xs))
    (takes (length (prefix_of xs)) xs)

-- ---- items

abbrev told_by : Bool → List Item → List (List Item)
told_by b opening = if b then opening ∷ [] else []

none_told : TellsNone delimiter_of
none_told (inner h opening ts closing) (inl e) = ap (λ r. told_by (is_of_list r) opening) e
none_told (inner h opening ts closing) (inr e) = ap (λ r. told_by (is_of_list r) opening) e

opened_told : (s : ℕ) (opening : List Item) (ss : List Stretch) → told_in delimiter_of (opened_by (plain (item_kind s)) opening ss) ≡ opening ∷ []
opened_told s opening ss = of_opened delimiter_of none_told (plain (item_kind s)) opening ss ∙ ap (λ b. told_by b opening) (item_role s)

items_taken : (s : ℕ) (n : Option ℕ) (xs : List Item) (ss : List Stretch)
    → AreDelimiters (prefix_of xs) xs (told_in delimiter_of (item_by s n (take (item_opening_len xs) xs) (drop (item_opening_len xs) xs) ss))
items_taken s None xs ss =
    subst (AreDelimiters (prefix_of xs) xs)
    (sym (opened_told s (take (item_opening_len xs) xs) (block (line_parts (drop (item_opening_len xs) xs)) ∷ ss))) (prefix_taken xs)
items_taken s (Some n) xs ss =
    let k = item_opening_len xs in
    let line : List Item = drop k xs in
    let rest : List Item = drop n line in
    let colon = with_blanks 1 rest in
    let e : told_in delimiter_of (item_by s (Some n) (take k xs) line ss) ≡ take k xs ∷ take colon rest ∷ [] =
    ap (λ ds. take k xs ∷ ds) (of_opened delimiter_of none_told (plain kind.Dd) (take colon rest) (block (line_parts (drop colon rest)) ∷ ss)) in
    subst (AreDelimiters (prefix_of xs) xs) (sym e)
    (prefix_taken xs, take n line, rest, sym (ap (λ ys. take k xs ++ ys) (take-append-drop n line) ∙ take-append-drop k xs), takes 1 rest)

pub delimiters_taken : (s : ℕ) (r : Row) (ss : List Stretch)
    → AreDelimiters (prefix_of r.items) r.items (of_each delimiter_of (forest (children (stretches_parts (line_item s r ss)))))
unfolding line_item
delimiters_taken s r ss =
    let k = item_opening_len r.items in
    let xs = drop k r.items in
    let made = item_by s (term_len s xs) (take k r.items) xs (gap r.ending ∷ ss) in
    subst (AreDelimiters (prefix_of r.items) r.items)
    (sym (children_told delimiter_of none_told (stretches_parts (gap r.lead ∷ made)) ∙ behind_gap delimiter_of none_told r.lead made))
    (items_taken s (term_len s xs) r.items (gap r.ending ∷ ss))

-- ---- cells

abbrev pub BeginsBare : Cell → Type 0
BeginsBare c = begins_blank (map sign c.rest) ≡ false

cell_bare : (header : Bool) (n : ℕ) (p : List Item) → BeginsBare (cell_of header n p)
unfolding cell_of
cell_bare header n p = behind (n + past_bar (bar_at (drop n p))) p

more_bare : (header : Bool) (ps : List (List Item)) → AllByRecursion BeginsBare (map (cell_of header 2) ps)
more_bare header [] = tt
more_bare header (p ∷ ps) = (cell_bare header 2 p, more_bare header ps)

in_bare : (header : Bool) (n : ℕ) (ps : List (List Item)) → AllByRecursion BeginsBare (cells_in header n ps)
in_bare header n [] = tt
in_bare header n (p ∷ ps) = (cell_bare header n p, more_bare header ps)

pub cells_bare : (caption : Bool) (xs : List Item) → AllByRecursion (λ (c : Cell). begins_blank (map sign c.rest) ≡ false) (cells_from caption xs)
cells_bare caption xs =
    in_bare (header_by caption (cell_signs xs)) (sign_len caption) (line_cuts (split_by caption (cell_signs xs)) (sign_len caption) xs)
