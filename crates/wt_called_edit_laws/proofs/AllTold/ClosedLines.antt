-- What ends a block: whether a line break behind it is read as one, whether its lines show something, and how many items its node holds.
use Rattle.std.proofs.Common.{arith, ◌≡◌, ◌≤◌, ◌⊎◌, inl, inr, ℕ, ◌+◌, Bool, true, false, Option, None, List, [], ◌∷◌, ◌++◌, length, map, refl, sym, ap, ap₂, ◌∙◌, subst, append-nil, append_assoc, length-append}
use Rattle.std.specs.Prelude.{◌==◌, ◌&&◌, not, reverse, if◌then◌else◌}
use Rattle.std.specs.Option.{unwrap_or}
use Rattle.std.proofs.lemmas.Bool.Decides.{Decides-eqb}
use Rattle.std.proofs.lemmas.Grind.{flat_map-append}
use Rattle.wt_span.specs.Items.{Item, char, sign, source, sources}
use Rattle.wt_span.specs.Runs.{AreRuns}
use Rattle.wt_tree.specs.declared.kind.Ranges.{Ranges}
use Rattle.wt_inline.specs.Inside.{opened_all}
use Rattle.wt_inline.specs.ItemTree.{ItemTree, tree_items}
use Rattle.wt_expand.specs.PageItems.{page_items}
use Rattle.wt_expand.proofs.PageLaws.{page_sources}
use Rattle.wt_lines.specs.declared.kind.LineKind.TheVariants as line
use Rattle.wt_lines.specs.Kinds.{is_idle, past, is_mark_sign, first_of, rows as kind_rows, kind_of_signs}
use Rattle.wt_lines.specs.Lines.{is_break_item, goes_on, content}
use Rattle.wt_tables.specs.Parts.{joined}
use Rattle.wt_page.specs.Headings.{heading}
use Rattle.wt_page.specs.Lines.{kind_at, ending}
use Rattle.wt_page.specs.Rows.{row_items, all_items, first_lead, last_ending}
use Rattle.wt_page.specs.Texts.{para}
use Rattle.wt_page.proofs.Ends.{content_ending}
use Rattle.wt_page.proofs.Held.{kept_tree}
use Rattle.wt_page.proofs.HeldTexts.{of_around, of_para, of_heading}
use Rattle.wt_text_edit_laws.specs.PageCuts.{EndsClosed}
use Rattle.wt_text_edit_laws.specs.TypedHeadings.{NoBreaks}
use Rattle.wt_text_edit_laws.specs.Unclosed.{is_unclosed_item, last_of, reaches, holds_unclosed}
use Rattle.wt_text_edit_laws.proofs.Cuts.ItemCuts.{HaveBytes, front_alone}
use Rattle.wt_text_edit_laws.proofs.Paragraphs.LineBlocks.{OwnBreaks, page_breaks}
use Rattle.wt_beside_laws.specs.OpenEnds.{ShownLast}
use Rattle.wt_beside_laws.proofs.Own.OpenLast.{shown_behind}
use Rattle.wt_called_edit_laws.specs.RowBlocks.{text_row}
use Rattle.wt_called_edit_laws.proofs.Told.HeadItems.{line_unbroken}
use Rattle.wt_called_edit_laws.proofs.AllTold.Found.{size, tree_size, size_both}
use Rattle.wt_called_edit_laws.proofs.AllTold.LineKinds.{Lines, led_by, past_marks, led_whole}
use Rattle.wt_called_edit_laws.proofs.AllTold.OtherNodes.{opened_size}
use Rattle.wt_called_edit_laws.proofs.AllTold.Scans.{Decided}

-- ---- whether a line break behind a source is read as one

record LastIs (xs : List Item) : Type 0 where
  front : List Item
  last : Item
  is : xs ≡ front ++ last ∷ []

last_is : (x : Item) (xs : List Item) → LastIs (x ∷ xs)
last_is x [] = record { front = []; last = x; is = refl }
last_is x (y ∷ ys) = let r = last_is y ys in record { front = x ∷ r.front; last = r.last; is = ap (λ (zs : List Item). x ∷ zs) r.is }

last_or : Item → List Item → Item
last_or d [] = d
last_or d (x ∷ xs) = last_or x xs

last_got : (d : Item) (xs : List Item) (x : Item) → last_or d (xs ++ x ∷ []) ≡ x
unfolding last_or
last_got d [] x = refl
last_got d (y ∷ ys) x = last_got y ys x

cancel : (xs ys : List ℕ) (b : ℕ) → xs ++ b ∷ [] ≡ ys ++ b ∷ [] → xs ≡ ys
cancel xs ys b e = by xs ys (omega (arith, ap length e, length-append xs (b ∷ []), length-append ys (b ∷ []))) e
  where
    tail : List ℕ → List ℕ
    tail [] = []
    tail (c ∷ cs) = cs

    head : ℕ → List ℕ → ℕ
    head d [] = d
    head d (c ∷ cs) = c

    by : (us vs : List ℕ) → length us ≡ length vs → us ++ b ∷ [] ≡ vs ++ b ∷ [] → us ≡ vs
    by [] [] n f = refl
    by [] (v ∷ vs) n f = absurd (omega (arith, n))
    by (u ∷ us) [] n f = absurd (omega (arith, n))
    by (u ∷ us) (v ∷ vs) n f = ap₂ (λ (x : ℕ) (xs : List ℕ). x ∷ xs) (ap (head u) f) (by us vs (omega (arith, n)) (ap tail f))

breaks_behind : (xs : List Item) (y : Item) → OwnBreaks (xs ++ y ∷ []) → is_break_item y ≡ true → y ≡ char None 10
breaks_behind [] y h e = h.0 e
breaks_behind (x ∷ xs) y h e = breaks_behind xs y h.1 e

pub closed_decided : (line : List ℕ) → Decided (EndsClosed line [])
closed_decided line = by (page_items (line ++ 10 ∷ [])) refl
  where
    break : Item
    break = char None 10

    closed : (front : List Item) → page_items (line ++ 10 ∷ []) ≡ front ++ break ∷ [] → EndsClosed line []
    closed front e =
        let bytes : sources front ++ 10 ∷ [] ≡ line ++ 10 ∷ [] =
        sym (flat_map-append source front (break ∷ [])) ∙ sym (ap sources e) ∙ page_sources (line ++ 10 ∷ []) in
        let alone : page_items line ≡ front = front_alone line (10 ∷ []) front (break ∷ []) e (cancel (sources front) line 10 bytes) in
        e ∙ ap (λ (xs : List Item). xs ++ break ∷ []) (sym alone)

    ends : (front : List Item) (last : Item) → page_items (line ++ 10 ∷ []) ≡ front ++ last ∷ [] → (v : Bool) → is_break_item last ≡ v → Decided (EndsClosed line [])
    ends front last e true f =
        let is : last ≡ break = breaks_behind front last (subst OwnBreaks e (page_breaks (line ++ 10 ∷ []))) f in
        inl (closed front (e ∙ ap (λ (x : Item). front ++ x ∷ []) is))
    ends front last e false f = inr (λ c.
        let same : last ≡ break = sym (last_got break front last) ∙ ap (last_or break) (sym e ∙ c) ∙ last_got break (page_items line) break in
        let no : false ≡ true = sym f ∙ ap is_break_item same in
        absurd (cc))

    by : (xs : List Item) → page_items (line ++ 10 ∷ []) ≡ xs → Decided (EndsClosed line [])
    by [] e =
        let none : [] ≡ line ++ 10 ∷ [] = sym (ap sources e) ∙ page_sources (line ++ 10 ∷ []) in
        absurd (omega (arith, ap length none, length-append line (10 ∷ [])))
    by (x ∷ xs) e = let l = last_is x xs in ends l.front l.last (e ∙ l.is) (is_break_item l.last) refl

pub ends_any : (line bs : List ℕ) → EndsClosed line [] → EndsClosed line bs
ends_any line [] h = h
ends_any line (b ∷ bs) h = tt

-- ---- a line that isn't blank shows something

idle_or : (xs : List Item) → NoBreaks xs → ShownLast xs ⊎ (past is_idle (map sign xs) ≡ [])
idle_or [] h = inr refl
idle_or (x ∷ xs) h = by (is_idle (sign x)) refl (idle_or xs h.1)
  where
    by : (v : Bool) → is_idle (sign x) ≡ v → ShownLast xs ⊎ (past is_idle (map sign xs) ≡ []) → ShownLast (x ∷ xs) ⊎ (past is_idle (map sign (x ∷ xs)) ≡ [])
    by true e (inl s) = inl (inr s)
    by true e (inr f) = inr (ap (λ (t : Bool). if t then past is_idle (map sign xs) else sign x ∷ map sign xs) e ∙ f)
    by false e r = inl (inl (ap (λ (t : Bool). not t && not (is_break_item x)) e ∙ ap not h.0, h.1))

blank_line : (n : ℕ) (ss : List ℕ) → past is_idle ss ≡ [] → kind_of_signs n ss ≡ line.Blank
unfolding kind_of_signs
blank_line n ss e =
    ap (λ (ys : List ℕ). unwrap_or (first_of (kind_rows n ys (past is_mark_sign ss) (past is_idle (reverse ss)))) line.Text) e

pub line_shown : (n : ℕ) (l : List Item) → (kind_at n l ≡ line.Blank → ⊥) → NoBreaks (content l) → ShownLast (content l)
line_shown n l k h = elim (idle_or (content l) h) [
  | inl s ↦ s
  | inr e ↦ absurd (k (blank_line n (map sign (content l)) e))
]

-- none of these is blank
abbrev pub NoneBlank : ℕ → Lines → Type 0
NoneBlank n [] = Unit {0}
NoneBlank n (l ∷ ls) = (kind_at n l ≡ line.Blank → ⊥) × NoneBlank n ls

content_behind : (ms : List Item) (y : Item) (ys : List Item) → content (ms ++ y ∷ ys) ≡ ms ++ content (y ∷ ys)
content_behind [] y ys = refl
content_behind (m ∷ []) y ys = refl
content_behind (m ∷ n ∷ ms) y ys = ap (λ (xs : List Item). m ∷ xs) (content_behind (n ∷ ms) y ys)

pub lines_shown : (n : ℕ) (l : List Item) (ls : Lines) (xs : List Item) → AreRuns goes_on (l ∷ ls) xs → NoneBlank n (l ∷ ls) → ShownLast (content xs)
lines_shown n l [] xs r k =
    let all : xs ≡ l = r.1 ∙ ap (λ (ys : List Item). l ++ ys) r.3 ∙ append-nil l in
    subst (λ (ys : List Item). ShownLast (content ys)) (sym all) (line_shown n l k.0 (line_unbroken l r.0 r.2))
lines_shown n l (m ∷ ms) xs r k = by r.0 r.1 (lines_shown n m ms r.0 r.3 k.1)
  where
    by : (ys : List Item) → xs ≡ l ++ ys → ShownLast (content ys) → ShownLast (content xs)
    by [] e s = absurd s
    by (y ∷ ys) e s = subst (λ (zs : List Item). ShownLast (content zs)) (sym e) (subst ShownLast (sym (content_behind l y ys)) (shown_behind l (content (y ∷ ys)) s))

-- ---- where nothing is behind it

pub no_bytes : (xs : List Item) → HaveBytes xs → sources xs ≡ [] → xs ≡ []
no_bytes [] h e = refl
no_bytes (x ∷ xs) h e = absurd (omega (arith, h.0, length-append (source x) (sources xs), ap length e))

pub closed_by : (line bs : List ℕ) → (bs ≡ [] → EndsClosed line []) → EndsClosed line bs
closed_by line [] f = f refl
closed_by line (b ∷ bs) f = tt

-- ---- where its node ends

pub same_number : (m : ℕ) → (m == m) ≡ true
same_number m = (Decides-eqb m m).1 refl

pub unclosed_by : (items : List Item) (page : List ℕ) (r : Option Ranges) → holds_unclosed items page r ≡ false → reaches (length page) r ≡ true
    → is_unclosed_item (last_of items) ≡ false
unclosed_by items page r h e = by (is_unclosed_item (last_of items)) (sym (ap (λ (v : Bool). is_unclosed_item (last_of items) && v) e) ∙ h)
  where
    by : (u : Bool) → (u && true) ≡ false → u ≡ false
    by true f = absurd (cc)
    by false f = refl

pub heading_size : (xs : List Item) → tree_size (heading xs) ≡ size xs
heading_size xs = omega (arith, ap size (of_heading xs), opened_size (tree_items (heading xs)), opened_size xs)

row_is : (l : List Item) → row_items (text_row l) ≡ l
row_is l = ap (λ (xs : List Item). led_by l ++ xs) (content_ending (past_marks l)) ∙ led_whole l

rows_are : (ls : Lines) → all_items (map text_row ls) ≡ joined ls
rows_are [] = refl
rows_are (l ∷ ls) = ap₂ (λ (xs : List Item) (ys : List Item). xs ++ ys) (row_is l) (rows_are ls)

ending_behind : (xs : List Item) (y : Item) (ys : List Item) → ending (xs ++ y ∷ ys) ≡ ending (y ∷ ys)
ending_behind [] y ys = refl
ending_behind (x ∷ []) y ys = refl
ending_behind (x ∷ z ∷ xs) y ys = ending_behind (z ∷ xs) y ys

ending_past : (xs ys : List Item) → 1 ≤ length ys → ending (xs ++ ys) ≡ ending ys
ending_past xs [] some = absurd (omega (arith, some))
ending_past xs (y ∷ ys) some = ending_behind xs y ys

-- each has something behind the marks that begin it
abbrev pub AllPast : Lines → Type 0
AllPast [] = Unit {0}
AllPast (l ∷ ls) = (1 ≤ length (past_marks l)) × AllPast ls

last_row : (l : List Item) (ls : Lines) → AllPast (l ∷ ls) → last_ending (map text_row (l ∷ ls)) ≡ ending (joined (past_marks l ∷ ls))
last_row l [] h = ap ending (sym (append-nil (past_marks l)))
last_row l (m ∷ ms) h =
    let own : List Item = past_marks m ++ joined ms in
    let some : 1 ≤ length own = omega (arith, h.1.0, length-append (past_marks m) (joined ms)) in
    let whole_is : led_by m ++ own ≡ joined (m ∷ ms) =
    sym (append_assoc (led_by m) (past_marks m) (joined ms)) ∙ ap (λ (xs : List Item). xs ++ joined ms) (led_whole m) in
    let more : 1 ≤ length (joined (m ∷ ms)) = omega (arith, some, sym (ap length whole_is), length-append (led_by m) own) in
    last_row m ms h.1 ∙ sym (ending_past (led_by m) own some) ∙ ap ending whole_is ∙ sym (ending_past (past_marks l) (joined (m ∷ ms)) more)

pub para_size : (l : List Item) (ls : Lines) → AllPast (l ∷ ls) → tree_size (para (map text_row (l ∷ ls))) + size (ending (joined (past_marks l ∷ ls))) ≡ size (joined (past_marks l ∷ ls))
para_size l ls h =
    let rs = map text_row (l ∷ ls) in
    let lead : List Item = first_lead rs in
    let last : List Item = last_ending rs in
    let t : ItemTree = para rs in
    let own : List Item = past_marks l ++ joined ls in
    let all : size (opened_all lead ++ (kept_tree t ++ opened_all last)) ≡ size (opened_all (all_items rs)) = ap size (sym (of_around t rs) ∙ of_para rs) in
    let lines : size (all_items rs) ≡ size (led_by l) + size own =
    ap size (rows_are (l ∷ ls) ∙ ap (λ (xs : List Item). xs ++ joined ls) (sym (led_whole l)) ∙ append_assoc (led_by l) (past_marks l) (joined ls))
    ∙ size_both (led_by l) own in
    omega (
      arith,
      all,
      lines,
      size_both (opened_all lead) (kept_tree t ++ opened_all last),
      size_both (kept_tree t) (opened_all last),
      opened_size lead,
      opened_size (tree_items t),
      opened_size last,
      opened_size (all_items rs),
      ap size (last_row l ls h),
    )
