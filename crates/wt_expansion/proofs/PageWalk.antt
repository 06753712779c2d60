-- A walk over the whole page finds the expanded page.
use Rattle.std.proofs.Common.{◌≡◌, ◌<◌, ℕ, true, List, [], ◌++◌, length, drop, map, sym, ap, ◌∙◌, subst}
use Rattle.std.specs.Str.{IsUtf8}
use Rattle.wt_span.specs.declared.form.Mode.TheVariants as mode
use Rattle.wt_span.specs.declared.form.Piece.{Piece}
use Rattle.wt_span.specs.declared.form.Outer.{Outer}
use Rattle.wt_span.specs.declared.range.Range.{Range}
use Rattle.wt_span.specs.Items.{items}
use Rattle.wt_span.specs.Lexemes.{words}
use Rattle.wt_span.specs.Braces.{Member, members, reduced}
use Rattle.wt_span.specs.Origins.{AreItems, Expanded, OuterCall, Span, outer_call, span_of}
use Rattle.wt_expand.specs.Expansion.{Reading, joined, outputs_of, text_given, text_members}
use Rattle.wt_expand.specs.PageCalls.{all_stretches, expanded_page, outer_calls, page_stretches, text_spans}
use Rattle.wt_expand.specs.Work.{Pages}
use Rattle.wt_transclusion.specs.Steps.{IsStretchOf, given_from}
use Rattle.wt_transclusion.proofs.StretchCuts.{whole_stretch}
use Rattle.wt_template_stack.proofs.PageLaws.{reading_is}
use Rattle.wt_template_stack.proofs.StepLaws.{drop_none}
use Rattle.wt_expansion.specs.declared.found.Collected.{Collected}
use Rattle.wt_expansion.specs.Made.{AreAlike, Give, GiveKept}
use Rattle.wt_expansion.specs.Walks.{Finds, at_page}
use Rattle.wt_expansion.proofs.PieceLaws.{all_numbered, page_is_items, page_pieces}

-- the members of the page
abbrev pub page_members : List ℕ → List Member
page_members page = reduced (words mode.Page page)

pub page_stands : (page : List ℕ) → IsStretchOf mode.Page page 0 (length page) (page_members page)
page_stands page = whole_stretch mode.Page page

pub stretches_are : (pages : Pages) (page : List ℕ)
    → all_stretches (at_page pages) 0 true (drop 0 page) (members (page_members page)) ≡ page_stretches pages page
unfolding page_stretches text_members
stretches_are pages page =
    ap (λ bs. all_stretches (at_page pages) 0 true bs (members (page_members page))) (drop_none page)
    ∙ ap (λ (r : Reading). all_stretches r 0 true page (members (page_members page))) (reading_is pages)

pub work_is : (pages : Pages) (page : List ℕ)
    → (given_from (at_page pages) true page 0 (page_members page)).work ≡ (text_given (at_page pages) page).work
unfolding text_members
work_is pages page = ap (λ bs. (joined (outputs_of (at_page pages) true bs (members (page_members page)))).work) (drop_none page)

-- these pieces, calls and text calls are the expanded page
pub record ArePage (pages : Pages) (page : List ℕ) (ps : List Piece) (cs : List Outer) (ts : List Range) : Type 0 where
  pub owed : AreItems ps (map outer_call cs) (map span_of ts)
  pub same : record { items = items ps; outer = map outer_call cs; text_calls = map span_of ts } ≡ expanded_page pages page

pub page_found : (pages : Pages) (page : List ℕ) (old new : Collected) (to : ℕ) (ps : List Piece) (cs : List Outer) (ts : List Range) → IsUtf8 page
    → to < 4294967296 → old.pieces.items ≡ [] → old.outer.items ≡ [] → old.text_calls.items ≡ []
    → Finds old new 0 (all_stretches (at_page pages) 0 true (drop 0 page) (members (page_members page))) to
    → ps ≡ new.pieces.items → cs ≡ new.outer.items → ts ≡ new.text_calls.items → ArePage pages page ps cs ts
page_found pages page old new to ps cs ts utf8 short no_pieces no_outer no_texts f ps_is cs_is ts_is =
    let done = f.done in
    let alike : AreAlike done (page_stretches pages page) = subst (AreAlike done) (stretches_are pages page) f.alike in
    let give : Give 0 0 done f.adds.pieces to =
    all_numbered done f.adds.pieces to short (subst (λ (n : ℕ). GiveKept 0 n done f.adds.pieces to) (ap length no_outer) f.adds.give) in
    let same_ps : ps ≡ f.adds.pieces = ps_is ∙ f.adds.pieces_are ∙ ap (λ (xs : List Piece). xs ++ f.adds.pieces) no_pieces in
    let same_cs : map outer_call cs ≡ outer_calls done =
    ap (map outer_call) cs_is ∙ f.adds.outer_are ∙ ap (λ (xs : List Outer). map outer_call xs ++ outer_calls done) no_outer in
    let same_ts : map span_of ts ≡ text_spans done =
    ap (map span_of) ts_is ∙ f.adds.texts_are ∙ ap (λ (xs : List Range). map span_of xs ++ text_spans done) no_texts in
    record {
      owed = subst (λ (x : List Piece). AreItems x (map outer_call cs) (map span_of ts)) (sym same_ps)
          (subst (λ (x : List OuterCall). AreItems f.adds.pieces x (map span_of ts)) (sym same_cs)
          (subst (λ (x : List Span). AreItems f.adds.pieces (outer_calls done) x) (sym same_ts)
          (page_pieces pages page done f.adds.pieces to utf8 alike give)));
      same =
          ap (λ (x : List Piece). let r : Expanded = record { items = items x; outer = map outer_call cs; text_calls = map span_of ts } in r) same_ps
          ∙ ap (λ (x : List OuterCall). let r : Expanded = record { items = items f.adds.pieces; outer = x; text_calls = map span_of ts } in r) same_cs
          ∙ ap (λ (x : List Span). let r : Expanded = record { items = items f.adds.pieces; outer = outer_calls done; text_calls = x } in r) same_ts
          ∙ page_is_items pages page done f.adds.pieces to alike give;
    }
