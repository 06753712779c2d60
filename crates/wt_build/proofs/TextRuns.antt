-- Blocks of text grow by their lines.
use Rattle.std.proofs.Common.{◌≡◌, ◌<◌, ℕ, zero, suc, ◌+◌, ◌-◌, List, [], ◌∷◌, ◌++◌, length, take, drop, get_or}
use Rattle.std.proofs.Common.{refl, sym, ap, ◌∙◌, subst, arith, append_assoc, length-drop}
use Rattle.std.specs.Prelude.{codes, true}
use Rattle.std.proofs.lemmas.List.{drop_more}
use Rattle.wt_span.specs.Bytes.{begins}
use Rattle.wt_span.specs.declared.form.Piece.{Piece}
use Rattle.wt_span.specs.Items.{Item}
use Rattle.wt_lines.specs.declared.kind.LineKind.{LineKind}
use Rattle.wt_lines.specs.declared.kind.LineKind.TheVariants as line
use Rattle.wt_tree.specs.declared.kind.Kind.TheVariants as kind
use Rattle.wt_inline.specs.declared.loose.Loose.TheVariants.{Text}
use Rattle.wt_inline.specs.ItemTree.{ItemTree, plain, inner, forest}
use Rattle.wt_inline.specs.Parts.{Part, parts, children}
use Rattle.wt_inline.specs.Grown.{Grown, Grows, made}
use Rattle.wt_context.specs.Line.{line_parts}
use Rattle.wt_rows.specs.declared.row.RowAt.{RowAt}
use Rattle.wt_build.specs.declared.text.TextKind.{TextKind}
use Rattle.wt_build.specs.declared.text.TextKind.TheVariants as text
use Rattle.wt_page.specs.Rows.{Row, signs}
use Rattle.wt_page.specs.Texts.{para, pre}
use Rattle.wt_rows.specs.Views.{row_view, rows_view, IsRest}
use Rattle.wt_rows.specs.Ready.{Begins, IsReadyRow, AreInOrder}
use Rattle.wt_build.specs.Blocks.{later_of, later_from}
use Rattle.wt_rows.proofs.Growing.{rest_step}

pub pre_begins : (ps : List Piece) (r : RowAt) → IsReadyRow ps r → r.kind ≡ line.Pre → begins (codes " ") (signs (row_view ps r).items) ≡ true
pre_begins ps r h e = subst (λ (k : LineKind). Begins k (signs (row_view ps r).items)) e h.begins

pub grows_next : (k : TextKind) (end : List Item) (row : Row) (g h i : Grown) → Grows g (parts Text end) h → Grows h (later_of k row) i
    → Grows g (parts Text end ++ later_of k row) i
grows_next k end row g h i p q ps =
    q ps ∙ p (later_of k row ++ ps) ∙ ap (made g) (sym (append_assoc (parts Text end) (later_of k row) ps))

later_left : (k : TextKind) (ps : List Piece) (rs : List RowAt) (at : ℕ) (r s : RowAt) → 0 < at → at < length rs → r ≡ get_or rs (at - 1) r → s ≡ get_or rs at s
    → later_from k (rows_view ps (drop (at - 1) rs))
    ≡ (parts Text (row_view ps r).ending ++ later_of k (row_view ps s)) ++ later_from k (rows_view ps (drop at rs))
later_left k ps rs at r s pos l er es =
    let z : (at - 1) + 1 ≡ at = omega arith in
    let d : drop at rs ≡ s ∷ drop (at + 1) rs = drop_more rs at s l ∙ ap (λ (q : RowAt). q ∷ drop (at + 1) rs) (sym es) in
    let e : drop (at - 1) rs ≡ r ∷ drop at rs = drop_more rs (at - 1) r (omega arith) ∙ ap (λ (q : RowAt). q ∷ drop (at - 1 + 1) rs) (sym er)
    ∙ ap (λ n. r ∷ drop n rs) z in
    ap (λ qs. later_from k (rows_view ps qs)) (e ∙ ap (λ qs. r ∷ qs) d)
    ∙ sym (append_assoc (parts Text (row_view ps r).ending) (later_of k (row_view ps s)) (later_from k (rows_view ps (s ∷ drop (at + 1) rs))))
    ∙ ap (λ qs. (parts Text (row_view ps r).ending ++ later_of k (row_view ps s)) ++ later_from k (rows_view ps qs)) (sym d)

pub later_step : (k : TextKind) (ps : List Piece) (rs : List RowAt) (at : ℕ) (r s : RowAt) (g h i : Grown) (all : List Part) → 0 < at → at < length rs
    → r ≡ get_or rs (at - 1) r → s ≡ get_or rs at s → Grows h (parts Text (row_view ps r).ending ++ later_of k (row_view ps s)) i
    → IsRest g all h (later_from k (rows_view ps (drop (at - 1) rs))) → IsRest g all i (later_from k (rows_view ps (drop (at + 1 - 1) rs)))
later_step k ps rs at r s g h i all pos l er es grows rest =
    let z : at + 1 - 1 ≡ at = omega arith in
    let left = later_from k (rows_view ps (drop at rs)) in
    subst (λ (n : ℕ). IsRest g all i (later_from k (rows_view ps (drop n rs)))) (sym z)
    (rest_step g h i all (parts Text (row_view ps r).ending ++ later_of k (row_view ps s)) (later_from k (rows_view ps (drop (at - 1) rs))) left
    (later_left k ps rs at r s pos l er es) grows rest)

one_left : (k : TextKind) (ps : List Piece) (rs : List RowAt) → length rs ≡ 1 → later_from k (rows_view ps rs) ≡ []
one_left k ps [] e = absurd (omega arith)
one_left k ps (r ∷ []) e = refl
one_left k ps (r ∷ s ∷ rs) e = absurd (omega arith)

pub later_done : (k : TextKind) (ps : List Piece) (rs : List RowAt) (at : ℕ) (g h : Grown) (all : List Part) → 0 < at → at ≡ length rs
    → IsRest g all h (later_from k (rows_view ps (drop (at - 1) rs))) → Grows g all h
later_done k ps rs at g h all pos e rest qs =
    ap (λ xs. made h (xs ++ qs)) (sym (one_left k ps (drop (at - 1) rs) (omega (arith, length-drop (at - 1) rs)))) ∙ rest qs

pub para_is : (ps : List Piece) (rs : List RowAt) (r : RowAt) (xs : List Item) (ts : List ItemTree) → 0 < length rs → r ≡ get_or rs 0 r
    → xs ≡ (row_view ps r).items → ts ≡ children (line_parts xs ++ later_from text.Para (rows_view ps rs))
    → inner (plain kind.Para) [] (forest ts) [] ≡ para (rows_view ps rs)
unfolding para
para_is ps [] r xs ts s e ex et = absurd (omega arith)
para_is ps (q ∷ qs) r xs ts s e ex et =
    let rest = later_from text.Para (rows_view ps (q ∷ qs)) in
    ap (λ us. inner (plain kind.Para) [] (forest us) []) (et ∙ ap (λ ys. children (line_parts ys ++ rest)) (ex ∙ ap (λ (t : RowAt). (row_view ps t).items) e))

pub pre_is : (ps : List Piece) (rs : List RowAt) (r : RowAt) (all opening rest : List Item) (ts : List ItemTree) → 0 < length rs → r ≡ get_or rs 0 r
    → all ≡ (row_view ps r).items → opening ≡ take 1 all → rest ≡ drop 1 all
    → ts ≡ children (line_parts rest ++ later_from text.Pre (rows_view ps rs))
    → inner (plain kind.Pre) opening (forest ts) [] ≡ pre (rows_view ps rs)
unfolding pre
pre_is ps [] r all opening rest ts s e ea eo er et = absurd (omega arith)
pre_is ps (q ∷ qs) r all opening rest ts s e ea eo er et =
    let more = later_from text.Pre (rows_view ps (q ∷ qs)) in
    let first : all ≡ (row_view ps q).items = ea ∙ ap (λ (t : RowAt). (row_view ps t).items) e in
    ap (λ us. inner (plain kind.Pre) opening (forest us) []) (et ∙ ap (λ ys. children (line_parts ys ++ more)) (er ∙ ap (drop 1) first))
    ∙ ap (λ ys. inner (plain kind.Pre) ys (forest (children (line_parts (drop 1 (row_view ps q).items) ++ more))) []) (eo ∙ ap (take 1) first)

-- ---- rows by place

pub ready_at : (ps : List Piece) (rs : List RowAt) (i : ℕ) (d : RowAt) → AreInOrder ps rs → i < length rs → IsReadyRow ps (get_or rs i d)
ready_at ps [] i d h l = absurd (omega arith)
ready_at ps (s ∷ rs) zero d h l = h.0
ready_at ps (s ∷ rs) (suc i) d h l = ready_at ps rs i d h.2 (omega arith)

pub same_at : (rs : List RowAt) (i : ℕ) (d e : RowAt) → i < length rs → get_or rs i d ≡ get_or rs i e
same_at [] i d e l = absurd (omega arith)
same_at (s ∷ rs) zero d e l = refl
same_at (s ∷ rs) (suc i) d e l = same_at rs i d e (omega arith)
