-- Where no call of a page gives a line break or a mark, no block of it is excepted for a call.
use Rattle.std.proofs.Common.{◌≡◌, inl, ℕ, Bool, true, false, None, List, [], ◌∷◌, ◌++◌, refl, sym, ap, ◌∙◌, subst}
use Rattle.std.specs.Prelude.{◌&&◌, if◌then◌else◌}
use Rattle.std.specs.List.{list_all, AllByRecursion}
use Rattle.wt_span.specs.Items.{Item, char, whole, is_mark, is_mark_form, call_of}
use Rattle.wt_span.specs.Origins.{Expanded}
use Rattle.wt_span.specs.Runs.{AreRuns}
use Rattle.wt_span.proofs.RunLaws.{runs_are}
use Rattle.wt_tree.specs.Tree.{Tree}
use Rattle.wt_annotated.specs.Seams.{last_of}
use Rattle.wt_expand.specs.PageCalls.{expanded_page}
use Rattle.wt_expand.specs.Work.{Pages}
use Rattle.wt_lines.specs.declared.kind.LineKind.TheVariants as line
use Rattle.wt_lines.specs.Lines.{goes_on, empty_end, full_lines, is_break_item}
use Rattle.wt_page.specs.Lines.{kind_at}
use Rattle.wt_page.specs.Rows.{is_unseen}
use Rattle.wt_tables.specs.Extents.{behind as tables_after}
use Rattle.wt_tables.specs.Parts.{joined}
use Rattle.wt_text_edit_laws.specs.ParagraphBetween.{tables_behind}
use Rattle.wt_text_edit_laws.specs.ParagraphParts.{break}
use Rattle.wt_called_edit_laws.specs.AllTold.{text_on_a_rule, a_brace_on_an_end}
use Rattle.wt_text_edit_laws.proofs.Cuts.TextLines.{whole_before}
use Rattle.wt_called_edit_laws.specs.CallingTold.{IsExceptedSigned, untold, text_on_an_end, IsBesideOwn, IsNoBreakOfCall, IsExceptedWithCalls, on_a_sign, broken_by_a_call, IsExceptedCalling}
use Rattle.wt_called_edit_laws.specs.LinedAmong.{IsNoFunction, AreOfPage}
use Rattle.wt_called_edit_laws.specs.PlacedLines.{LinedBlock, lead_of, all_lines}
use Rattle.wt_called_edit_laws.specs.RowBlocks.{opened_len, StandsIn, past_end, past_rule}
use Rattle.wt_called_edit_laws.specs.ToldLines.{Told, lined, AreTold}
use Rattle.wt_called_edit_laws.proofs.Cells.PlacedLines.{own_items}
use Rattle.wt_called_edit_laws.proofs.AllTold.OnLines.{line_front, line_whole}

-- ---- lines on which no text is behind a sign

abbrev pub IsUnsigned : ℕ → List Item → Type 0
IsUnsigned n l =
    (kind_at n l ≡ line.Rule → is_unseen (past_rule l) ≡ false → ⊥) × (kind_at n l ≡ line.TableEnd → is_unseen (past_end l) ≡ false → ⊥)

abbrev pub AreUnsigned : ℕ → List (List Item) → Type 0
AreUnsigned n [] = Unit {0}
AreUnsigned n (l ∷ ls) = IsUnsigned n l × AreUnsigned (tables_after n (kind_at n l)) ls

unsigned_at : (n : ℕ) (before : List (List Item)) (l : List Item) (ls : List (List Item)) → AreUnsigned n (before ++ l ∷ ls) → IsUnsigned (tables_behind n before) l
unsigned_at n [] l ls h = h.0
unsigned_at n (k ∷ before) l ls h = unsigned_at (tables_after n (kind_at n k)) before l ls h.1

pub none_signed_at : (ls : List (List Item)) (at : ℕ) → AreUnsigned 0 ls → IsExceptedSigned ls at → ⊥
none_signed_at ls at h (untold (text_on_a_rule before own after are k seen e)) = (unsigned_at 0 before own after (subst (AreUnsigned 0) are h)).0 k seen
none_signed_at ls at h (untold (a_brace_on_an_end before own others after are k seen f e)) =
    (unsigned_at 0 before own (others ++ after) (subst (AreUnsigned 0) are h)).1 k seen
none_signed_at ls at h (text_on_an_end before own others after are k seen e) =
    (unsigned_at 0 before own (others ++ after) (subst (AreUnsigned 0) are h)).1 k seen

-- ---- what no call gives

front_none : (xs ys : List Item) → AllByRecursion IsNoBreakOfCall (xs ++ ys) → AllByRecursion IsNoBreakOfCall xs
front_none [] ys h = tt
front_none (x ∷ xs) ys h = (h.0, front_none xs ys h.1)

behind_none : (xs ys : List Item) → AllByRecursion IsNoBreakOfCall (xs ++ ys) → AllByRecursion IsNoBreakOfCall ys
behind_none [] ys h = h
behind_none (x ∷ xs) ys h = behind_none xs ys h.1

and_first : (a b : Bool) → (a && b) ≡ true → a ≡ true
and_first true b e = refl
and_first false b e = absurd (cc)

and_rest : (a b : Bool) → (a && b) ≡ true → b ≡ true
and_rest true b e = e
and_rest false b e = absurd (cc)

no_function : (x : Item) → is_mark x ≡ true → IsNoFunction x
no_function (char o b) h = tt
no_function (whole f o bs) h = λ e. let no : false ≡ true = sym (ap is_mark_form e) ∙ h in absurd (cc)

marks_own : (ms : List Item) → AllByRecursion IsNoBreakOfCall ms → list_all is_mark ms ≡ true → AreOfPage ms
marks_own [] h e = tt
marks_own (m ∷ ms) h e =
    let first : is_mark m ≡ true = and_first (is_mark m) (list_all is_mark ms) e in
    (h.0.1 first, no_function m first, marks_own ms h.1 (and_rest (is_mark m) (list_all is_mark ms) e))

breaks_own : (xs : List Item) → AllByRecursion IsNoBreakOfCall xs → AllByRecursion (λ x. is_break_item x ≡ true → x ≡ break) xs
breaks_own [] h = tt
breaks_own (x ∷ xs) h = (h.0.0, breaks_own xs h.1)

-- what ends with a line break ends with the page's
ends_none : (xs : List Item) → AllByRecursion IsNoBreakOfCall xs → empty_end xs ≡ [] ∷ [] → last_of None xs ≡ None
ends_none [] h e = refl
ends_none (x ∷ []) h e = by (is_break_item x) refl
  where
    by : (v : Bool) → is_break_item x ≡ v → call_of x ≡ None
    by true w = ap call_of (h.0.0 w)
    by false w =
        let none : List (List Item) = [] in
        let one : List (List Item) = [] ∷ [] in
        let no : none ≡ one = sym (ap (λ (v : Bool). if v then one else none) w) ∙ e in
        absurd (cc)
ends_none (x ∷ y ∷ ys) h e = ends_none (y ∷ ys) h.1 e

pub beside_own : (pages : Pages) (page : List ℕ) (t : Told) (behind : List (List Item)) → AllByRecursion IsNoBreakOfCall (expanded_page pages page).items
    → full_lines (expanded_page pages page).items ≡ all_lines (lined t ∷ []) behind → AreTold (t ∷ []) behind → (lined t).sign ≡ [] → IsBesideOwn (expanded_page pages page) (joined (lined t).before) t
beside_own pages page t behind h are told unsigned =
    let items : List Item = (expanded_page pages page).items in
    let b : LinedBlock = lined t in
    let lead : lead_of b ≡ b.marks = ap (λ (xs : List Item). xs ++ b.marks) unsigned in
    let whole : items ≡ line_front b ++ (own_items b ++ joined behind) = line_whole pages page b behind are in
    let all : AllByRecursion IsNoBreakOfCall (line_front b ++ (own_items b ++ joined behind)) = subst (AllByRecursion IsNoBreakOfCall) whole h in
    let first : AllByRecursion IsNoBreakOfCall (line_front b) = front_none (line_front b) (own_items b ++ joined behind) all in
    let later : AllByRecursion IsNoBreakOfCall (own_items b ++ joined behind) = behind_none (line_front b) (own_items b ++ joined behind) all in
    let runs : AreRuns goes_on (all_lines (b ∷ []) behind) items = subst (λ (ks : List (List Item)). AreRuns goes_on ks items) are (runs_are goes_on items) in
    record {
      begun = inl (record {
        ends = ends_none (joined b.before) (front_none (joined b.before) (lead_of b) first) (whole_before b.before (lead_of b ++ b.first) (b.more ++ behind) items runs);
        marks = marks_own b.marks (subst (AllByRecursion IsNoBreakOfCall) lead (behind_none (joined b.before) (lead_of b) first)) told.0.are_marks;
      });
      breaks = breaks_own (own_items b) (front_none (own_items b) (joined behind) later);
    }

pub words_excepted : (pages : Pages) (page : List ℕ) (t : Tree) → AllByRecursion IsNoBreakOfCall (expanded_page pages page).items → IsExceptedCalling pages page t
    → (s : StandsIn pages page t) × IsExceptedSigned (full_lines (expanded_page pages page).items) (opened_len s.before)
words_excepted pages page t h x = (x.stands, by x.begins_so)
  where
    e : Expanded
    e = expanded_page pages page

    by : IsExceptedWithCalls e (opened_len x.stands.before) → IsExceptedSigned (full_lines e.items) (opened_len x.stands.before)
    by (on_a_sign l) = l
    by (broken_by_a_call o behind are told at unsigned f) = absurd (f (beside_own pages page o behind h are told unsigned))
