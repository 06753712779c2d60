-- Lines before others, each with the parts that they make by themselves; and a node among the children of a body.
use Rattle.std.proofs.Common.{◌≡◌, false, List, [], ◌∷◌, ◌++◌, map, refl, sym, ap, ◌∙◌, subst, append-nil, append_assoc}
use Rattle.std.proofs.lemmas.List.{map-append}
use Rattle.wt_tree.specs.declared.kind.Kind.TheVariants as kind
use Rattle.wt_span.specs.Items.{Item}
use Rattle.wt_span.specs.Runs.{runs}
use Rattle.wt_span.proofs.RunLaws.{runs_alone}
use Rattle.wt_lines.specs.declared.kind.LineKind.{LineKind}
use Rattle.wt_lines.specs.declared.kind.LineKind.TheVariants as line
use Rattle.wt_tables.specs.Extents.{is_open}
use Rattle.wt_tables.specs.Parts.{units, unit_kind}
use Rattle.wt_inline.specs.declared.loose.Loose.TheVariants.{Sep}
use Rattle.wt_inline.specs.ItemTree.{plain, ItemTree, inner, forest}
use Rattle.wt_inline.specs.Parts.{Part, loose, node, one_leaf, child, children, parts}
use Rattle.wt_page.specs.Rows.{Row, kind_of, rows}
use Rattle.wt_page.specs.Body.{one_block, same_block, body_parts, meaning}
use Rattle.wt_rows.proofs.FirstUnits.{unit_one}
use Rattle.wt_text_edit_laws.specs.ParagraphBetween.{rows_of_lines, AreClosed, before_marks, EndApart, EndsApart, body_with}
use Rattle.wt_text_edit_laws.proofs.Paragraphs.Apart.{Apart, BeginsText, page_units, units_beside, parts_beside, before_text}
use Rattle.wt_text_edit_laws.proofs.Paragraphs.Joining.{rows_before, rows_alone}
use Rattle.wt_text_edit_laws.proofs.Paragraphs.Marks.{AreMarks, EndsInMarks, marks_end, with_lead, IsLed, rows_marks, parts_marks, blank_row, marks_alone, blank_parts}

abbrev pub parts_in : List Item → List Part
parts_in xs = body_parts (rows xs)

-- ---- a row that none joins

all_apart : (us : List (List Row)) (r : Row) (vs : List (List Row)) → ((k : LineKind) → one_block k r.kind ≡ false) → Apart same_block us ((r ∷ []) ∷ vs)
all_apart [] r vs f = tt
all_apart (u ∷ []) r vs f = f (unit_kind kind_of u)
all_apart (u ∷ w ∷ us) r vs f = all_apart (w ∷ us) r vs f

-- ---- lines before text

lines_before : (xs ys : List Item) → AreClosed xs → EndApart (rows_of_lines xs) → BeginsText (rows ys) → parts_in (xs ++ ys) ≡ parts_in xs ++ parts_in ys
lines_before xs ys h a e =
    let is : rows xs ≡ rows_of_lines xs = rows_alone xs h in
    ap body_parts (rows_before xs ys h ∙ ap (λ rs. rs ++ rows ys) (sym is))
    ∙ before_text (rows xs) (rows ys) (page_units xs) (page_units ys) (subst EndApart (sym is) a) e

-- ---- lines before a row that no row joins

pub row_beside : (xs ys : List Item) (r : Row) (rs : List Row) → AreClosed xs → rows ys ≡ r ∷ rs → is_open r.kind ≡ false
    → ((k : LineKind) → one_block k r.kind ≡ false) → parts_in (xs ++ ys) ≡ parts_in xs ++ parts_in ys
row_beside xs ys r rs h e o f =
    ap body_parts (rows_before xs ys h ∙ ap (λ (ss : List Row). ss ++ rows ys) (sym (rows_alone xs h)))
    ∙ parts_beside (rows xs) (rows ys) (units_beside (rows xs) (rows ys) (page_units xs) (page_units ys))
    (subst (λ us. Apart same_block (units kind_of (rows xs)) us) (sym (ap (units kind_of) e ∙ unit_one r rs o))
    (all_apart (units kind_of (rows xs)) r (units kind_of rs) f))

-- ---- with marks behind the lines

before_blank : (k : LineKind) → one_block k line.Blank ≡ false
before_blank line.Blank = refl
before_blank line.TableOpen = refl
before_blank line.TableEnd = refl
before_blank line.Caption = refl
before_blank line.Row = refl
before_blank line.Cell = refl
before_blank line.Header = refl
before_blank line.Heading = refl
before_blank line.Rule = refl
before_blank line.List = refl
before_blank line.Pre = refl
before_blank line.Text = refl

marks_behind : (xs ms : List Item) → AreClosed xs → AreMarks ms → parts_in (xs ++ ms) ≡ parts_in xs ++ parts Sep ms
marks_behind xs [] h g = ap parts_in (append-nil xs) ∙ sym (append-nil (parts_in xs))
marks_behind xs (m ∷ ms) h g =
    row_beside xs (m ∷ ms) (blank_row (m ∷ ms)) [] h (marks_alone m ms g) refl before_blank
    ∙ ap (λ (ps : List Part). parts_in xs ++ ps) (ap body_parts (marks_alone m ms g) ∙ blank_parts (m ∷ ms))

abbrev IsBeside : List Item → List Item → Type 0
IsBeside xs ys = parts_in (xs ++ ys) ≡ parts_in xs ++ parts_in ys

-- where the lines stand before what begins with the marks, all stands before what follows the marks
pub parts_above : (xs ys : List Item) (r : Row) (rs : List Row) → AreClosed (before_marks xs) → rows ys ≡ r ∷ rs → IsLed r.kind
    → ((ms : List Item) → rows (ms ++ ys) ≡ with_lead ms r ∷ rs → IsBeside (before_marks xs) (ms ++ ys)) → IsBeside xs ys
parts_above xs ys r rs h e i beside =
    let g : EndsInMarks xs = marks_end xs in
    let ls : List Item = before_marks xs in
    let ms : List Item = g.marks in
    ap (λ (zs : List Item). parts_in (zs ++ ys)) g.is
    ∙ ap parts_in (append_assoc ls ms ys)
    ∙ beside ms (rows_marks ms ys r rs g.are_marks e i)
    ∙ ap (λ (ps : List Part). parts_in ls ++ ps) (parts_marks ms ys r rs g.are_marks e i)
    ∙ sym (append_assoc (parts_in ls) (parts Sep ms) (parts_in ys))
    ∙ ap (λ (ps : List Part). ps ++ parts_in ys) (sym (marks_behind ls ms h g.are_marks))
    ∙ ap (λ (zs : List Item). parts_in zs ++ parts_in ys) (sym g.is)

text_led : (k : LineKind) → k ≡ line.Text → IsLed k
text_led k e = subst IsLed (sym e) tt

before_by : (xs ys : List Item) (ss : List Row) → EndsApart xs → rows ys ≡ ss → BeginsText ss → parts_in (xs ++ ys) ≡ parts_in xs ++ parts_in ys
before_by xs ys [] h e b = absurd b
before_by xs ys (r ∷ rs) h e b =
    parts_above xs ys r rs h.are_closed e (text_led r.kind b)
    (λ ms f. lines_before (before_marks xs) (ms ++ ys) h.are_closed h.apart (subst BeginsText (sym f) b))

pub parts_before : (xs ys : List Item) → EndsApart xs → BeginsText (rows ys) → parts_in (xs ++ ys) ≡ parts_in xs ++ parts_in ys
parts_before xs ys h b = before_by xs ys (rows ys) h refl b

-- ---- the children, round a node

node_last : (t : ItemTree) (p : Part) → one_leaf p (node t) ≡ false
node_last t (loose k o b) = refl
node_last t (node u) = refl

node_first : (t : ItemTree) (p : Part) → one_leaf (node t) p ≡ false
node_first t p = refl

pub round_node : (t : ItemTree) (ps qs : List Part) → children (ps ++ node t ∷ qs) ≡ children ps ++ t ∷ children qs
unfolding children
round_node t ps qs =
    ap (map child) (runs_alone one_leaf (node t) ps qs (node_last t) (node_first t))
    ∙ map-append child (runs one_leaf ps) ((node t ∷ []) ∷ runs one_leaf qs)

-- ---- the body

pub body_is : (xs : List Item) (ps : List Part) → parts_in xs ≡ ps → meaning xs ≡ body_with (children ps)
unfolding meaning
body_is xs ps e = ap (λ ps. inner (plain kind.Body) [] (forest (children ps)) []) e
