-- What the kind of a line tells of its first signs.
use Rattle.std.proofs.Common.{◌≡◌, ◌<◌, ◌≤◌, ℕ, ◌+◌, Bool, true, false, Option, Some, None, List, [], ◌∷◌, ◌++◌, length, drop, get_or, refl, sym, ap, ◌∙◌, subst, cond, arith, nat_lt}
use Rattle.std.specs.Prelude.{◌==◌, codes, reverse, if◌then◌else◌}
use Rattle.std.specs.Option.{unwrap_or}
use Rattle.std.specs.List.{prefix_len}
use Rattle.std.proofs.Math.Numerals.{one-add}
use Rattle.std.proofs.lemmas.Bool.Decides.{nat_tests}
use Rattle.std.proofs.lemmas.List.{drop-map}
use Rattle.wt_span.specs.Bytes.{begins}
use Rattle.wt_span.specs.declared.form.ItemForm.{ItemForm}
use Rattle.wt_span.specs.declared.form.ItemForm.TheVariants as form
use Rattle.wt_span.specs.Items.{Item, char, whole, sign, is_mark, is_mark_form, items, items_of, items_by}
use Rattle.wt_lines.specs.declared.kind.LineKind.{LineKind}
use Rattle.wt_lines.specs.declared.kind.LineKind.TheVariants as kind
use Rattle.wt_lines.specs.Kinds.{first_of, past, is_idle, is_mark_sign, is_list, table_rows, text_rows, line_kind, kind_of_signs}
use Rattle.wt_blocks.specs.Nesting.{is_list_sign}
use Rattle.std.proofs.lemmas.List.{drop_all, drop_more}
use Rattle.wt_span.specs.declared.form.Piece.{Piece}
use Rattle.wt_span.specs.Whole.{IsWhole}
use Rattle.wt_lines.specs.Lines.{content}
use Rattle.wt_lines.specs.Pieces.{is_chars, AreLeadingMarks}
use Rattle.wt_page.specs.Rows.{signs, idle_len, marks_len}
use Rattle.wt_rows.specs.Ready.{Begins}
use Rattle.wt_rows.specs.Building.{NoMark, IsSeen, IsSeenFirst, IsKindAt, IsTextLine, IsTableLine}

-- by what is left from the first sign on that is no blank, and by what is left from the first visible sign on
abbrev pub Tells : LineKind → List ℕ → List ℕ → Type 0
Tells kind.Blank s f = Unit {0}
Tells kind.TableOpen s f = begins (codes "{|") s ≡ true
Tells kind.TableEnd s f = begins (codes "|}") s ≡ true
Tells kind.Caption s f = begins (codes "|+") s ≡ true
Tells kind.Row s f = begins (codes "|-") s ≡ true
Tells kind.Cell s f = begins (codes "|") s ≡ true
Tells kind.Header s f = begins (codes "!") s ≡ true
Tells kind.Heading s f = Unit {0}
Tells kind.Rule s f = Unit {0}
Tells kind.List s f = is_list f ≡ true
Tells kind.Pre s f = begins (codes " ") f ≡ true
Tells kind.Text s f = Unit {0}

abbrev AllTell : List ℕ → List ℕ → List (Bool × LineKind) → Type 0
AllTell s f [] = Unit {0}
AllTell s f ((b, k) ∷ rows) = (b ≡ true → Tells k s f) × AllTell s f rows

found_by : (b : Bool) (j k : LineKind) (s f : List ℕ) (o : Option LineKind) → (b ≡ true → Tells j s f) → (o ≡ Some k → Tells k s f)
    → (if b then Some j else o) ≡ Some k → Tells k s f
found_by true j k s f o h go e = let same : j ≡ k = cc in subst (λ (i : LineKind). Tells i s f) same (h refl)
found_by false j k s f o h go e = go e

first_tells : (s f : List ℕ) (rows : List (Bool × LineKind)) (k : LineKind) → AllTell s f rows → first_of rows ≡ Some k → Tells k s f
first_tells s f [] k h e = absurd cc
first_tells s f ((b, j) ∷ rows) k h e = found_by b j k s f (first_of rows) h.0 (λ g. first_tells s f rows k h.1 g) e

kind_tells : (s f : List ℕ) (rows : List (Bool × LineKind)) (o : Option LineKind) (k : LineKind) → first_of rows ≡ o → AllTell s f rows
    → unwrap_or o kind.Text ≡ k → Tells k s f
kind_tells s f rows None k e h u = subst (λ (i : LineKind). Tells i s f) u tt
kind_tells s f rows (Some j) k e h u = first_tells s f rows k h (e ∙ ap (λ i. Some i) u)

text_tell : (s f b : List ℕ) → AllTell s f (text_rows f b)
text_tell s f b = ((λ e. tt), ((λ e. tt), ((λ e. e), ((λ e. e), tt))))

all_tell : (t few blank : Bool) (s f b : List ℕ)
    → AllTell s f ((blank, kind.Blank) ∷ (begins (codes "{|") s, if few then kind.TableOpen else kind.Text)
    ∷ ((if t then table_rows s else []) ++ text_rows f b))
all_tell true true blank s f b = ((λ e. tt), ((λ e. e), ((λ e. e), ((λ e. e), ((λ e. e), ((λ e. e), ((λ e. e), text_tell s f b)))))))
all_tell true false blank s f b = ((λ e. tt), ((λ e. tt), ((λ e. e), ((λ e. e), ((λ e. e), ((λ e. e), ((λ e. e), text_tell s f b)))))))
all_tell false true blank s f b = ((λ e. tt), ((λ e. e), text_tell s f b))
all_tell false false blank s f b = ((λ e. tt), ((λ e. tt), text_tell s f b))

pub line_tells : (n : ℕ) (xs : List Item) (k : LineKind) → k ≡ line_kind n xs → Tells k (past is_idle (signs xs)) (past is_mark_sign (signs xs))
unfolding kind_of_signs
line_tells n xs k e =
    let s = past is_idle (signs xs) in
    let f = past is_mark_sign (signs xs) in
    let b = past is_idle (reverse (signs xs)) in
    let rows = (length s == 0, kind.Blank) ∷ (begins (codes "{|") s, if nat_lt n 16 then kind.TableOpen else kind.Text)
    ∷ ((if nat_lt 0 n then table_rows s else []) ++ text_rows f b) in
    kind_tells s f rows (first_of rows) k refl (all_tell (nat_lt 0 n) (nat_lt n 16) (length s == 0) s f b) (sym e)

-- ---- past blanks and marks

past_by : (t : Bool) (test : ℕ → Bool) (s : ℕ) (ss : List ℕ) → past test ss ≡ drop (prefix_len test ss) ss
    → (if t then past test ss else s ∷ ss) ≡ drop (cond t (1 + prefix_len test ss) 0) (s ∷ ss)
past_by true test s ss h = rw one-add h
past_by false test s ss h = refl

past_is : (test : ℕ → Bool) (ss : List ℕ) → past test ss ≡ drop (prefix_len test ss) ss
past_is test [] = refl
past_is test (s ∷ ss) = past_by (test s) test s ss (past_is test ss)

pub past_idle : (xs : List Item) → past is_idle (signs xs) ≡ signs (drop (idle_len xs) xs)
past_idle xs = past_is is_idle (signs xs) ∙ drop-map sign (idle_len xs) xs

mark_gone : (f : ItemForm) (ss : List ℕ) → is_mark_form f ≡ true → past is_mark_sign ((if is_mark_form f then 257 else 256) ∷ ss) ≡ past is_mark_sign ss
mark_gone f ss e = rw e refl

marks_by : (x : Item) (xs : List Item) (v : Bool) → is_mark x ≡ v → past is_mark_sign (signs xs) ≡ past is_mark_sign (signs (drop (marks_len xs) xs))
    → past is_mark_sign (signs (x ∷ xs)) ≡ past is_mark_sign (signs (drop (cond v (1 + marks_len xs) 0) (x ∷ xs)))
marks_by x xs false e h = refl
marks_by (char o b) xs true e h = absurd cc
marks_by (whole f o bs) xs true e h = mark_gone f (signs xs) e ∙ rw one-add h

past_marks : (xs : List Item) → past is_mark_sign (signs xs) ≡ past is_mark_sign (signs (drop (marks_len xs) xs))
past_marks [] = refl
past_marks (x ∷ xs) = marks_by x xs (is_mark x) refl (past_marks xs)

seen_past : (xs : List Item) → IsSeen xs → past is_mark_sign (signs xs) ≡ signs xs
seen_past [] h = refl
seen_past (x ∷ xs) h = rw h refl

past_lead : (xs ys : List Item) → drop (marks_len xs) xs ≡ ys → IsSeen ys → past is_mark_sign (signs xs) ≡ signs ys
past_lead xs ys e h = past_marks xs ∙ ap (λ zs. past is_mark_sign (signs zs)) e ∙ seen_past ys h

no_mark_by : (x : Item) (xs : List Item) (v : Bool) → is_mark x ≡ v → NoMark (drop (marks_len xs) xs) → NoMark (drop (cond v (1 + marks_len xs) 0) (x ∷ xs))
no_mark_by x xs true e h = rw one-add h
no_mark_by x xs false e h = e

no_mark : (xs : List Item) → NoMark (drop (marks_len xs) xs)
no_mark [] = tt
no_mark (x ∷ xs) = no_mark_by x xs (is_mark x) refl (no_mark xs)

-- ---- the first piece behind marks

pub seen_chars : (f : ItemForm) (o : Option ℕ) (bs : List ℕ) → is_chars f ≡ true → IsWhole f bs → get_or bs 0 0 < 256 → IsSeenFirst (items_by f o bs)
seen_chars form.Chars o [] e w l rest h = absurd (omega arith)
seen_chars form.Chars o (b ∷ bs) e w l rest h = let k : b < 256 = l in grind (arith, nat_tests)
seen_chars (form.Entity c) o bs e w l rest h = absurd cc
seen_chars form.Nowiki o bs e w l rest h = absurd cc
seen_chars form.Extension o bs e w l rest h = absurd cc
seen_chars form.Function o bs e w l rest h = absurd cc
seen_chars form.Comment o bs e w l rest h = absurd cc
seen_chars form.Include o bs e w l rest h = absurd cc
seen_chars form.Hidden o bs e w l rest h = absurd cc
seen_chars form.EmptyCall o bs e w l rest h = absurd cc

pub seen_form : (f : ItemForm) (o : Option ℕ) (bs : List ℕ) → is_chars f ≡ false → IsSeenFirst (items_by f o bs)
seen_form form.Chars o bs e rest h = absurd cc
seen_form (form.Entity c) o bs e rest h = refl
seen_form form.Nowiki o bs e rest h = refl
seen_form form.Extension o bs e rest h = refl
seen_form form.Function o bs e rest h = refl
seen_form form.Comment o bs e rest h = absurd cc
seen_form form.Include o bs e rest h = absurd cc
seen_form form.Hidden o bs e rest h = absurd cc
seen_form form.EmptyCall o bs e rest h = absurd cc

pub some_behind : (ps : List Piece) (p : Piece) (n : ℕ) → n < length ps → p ≡ get_or ps n p → AreLeadingMarks ps n → IsSeenFirst (items_of p)
    → past is_mark_sign (signs (items ps)) ≡ signs (items (drop n ps))
some_behind ps p n l e m h =
    let here : drop n ps ≡ p ∷ drop (n + 1) ps = drop_more ps n p l ∙ ap (λ (q : Piece). q ∷ drop (n + 1) ps) (sym e) in
    let bare : NoMark (items (p ∷ drop (n + 1) ps)) = subst (λ (xs : List Item). NoMark xs) (m.1 ∙ ap items here) (no_mark (items ps)) in
    past_lead (items ps) (items (drop n ps)) m.1
    (subst (λ (qs : List Piece). IsSeen (items qs)) (sym here) (h (items (drop (n + 1) ps)) bare))

pub none_behind : (ps : List Piece) (n : ℕ) → length ps ≤ n → AreLeadingMarks ps n → past is_mark_sign (signs (items ps)) ≡ signs (items (drop n ps))
none_behind ps n l m =
    past_lead (items ps) (items (drop n ps)) m.1 (subst (λ (qs : List Piece). IsSeen (items qs)) (sym (drop_all n ps l)) tt)

-- ---- a line

pub told : (l xs : List Item) (k : LineKind) → xs ≡ content l → IsKindAt k l → Tells k (past is_idle (signs xs)) (past is_mark_sign (signs xs))
told l xs k e h =
    subst (λ (ys : List Item). Tells k (past is_idle (signs ys)) (past is_mark_sign (signs ys))) (sym e) (line_tells h.0 (content l) k h.1)

list_sign : (ss : List ℕ) → is_list ss ≡ true → 0 < prefix_len is_list_sign ss
list_sign [] e = absurd cc
list_sign (s ∷ ss) e = let t : is_list_sign s ≡ true = grind (arith, nat_tests) in
    subst (λ (v : Bool). 0 < cond v (1 + prefix_len is_list_sign ss) 0) (sym t) (omega arith)

-- lines of text begin so behind their marks
pub marked_begins : (k : LineKind) (s f : List ℕ) → IsTextLine k → Tells k s f → Begins k f
marked_begins kind.Blank s f i h = absurd i
marked_begins kind.TableOpen s f i h = absurd i
marked_begins kind.TableEnd s f i h = absurd i
marked_begins kind.Caption s f i h = absurd i
marked_begins kind.Row s f i h = absurd i
marked_begins kind.Cell s f i h = absurd i
marked_begins kind.Header s f i h = absurd i
marked_begins kind.Heading s f i h = tt
marked_begins kind.Rule s f i h = absurd i
marked_begins kind.List s f i h = list_sign f h
marked_begins kind.Pre s f i h = h
marked_begins kind.Text s f i h = tt

-- lines of tables so behind their blanks and marks
pub idle_tells : (k : LineKind) (s f : List ℕ) → IsTableLine k → Tells k s f → Begins k s
idle_tells kind.Blank s f i h = absurd i
idle_tells kind.TableOpen s f i h = h
idle_tells kind.TableEnd s f i h = absurd i
idle_tells kind.Caption s f i h = h
idle_tells kind.Row s f i h = h
idle_tells kind.Cell s f i h = h
idle_tells kind.Header s f i h = h
idle_tells kind.Heading s f i h = absurd i
idle_tells kind.Rule s f i h = absurd i
idle_tells kind.List s f i h = absurd i
idle_tells kind.Pre s f i h = absurd i
idle_tells kind.Text s f i h = absurd i
