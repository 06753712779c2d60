-- The page's own text is entered first; then its work is that of what it gives.
use Rattle.std.proofs.Common.{◌≡◌, ℕ, ◌+◌, Option, Some, None, option_map, List, [], ◌∷◌, ◌++◌, Ok, refl, sym, ap, ◌∙◌, subst, append-nil}
use Rattle.std.specs.Prelude.{Result}
use Rattle.std.specs.Option.{option_or}
use Rattle.wt_span.specs.declared.form.Mode.TheVariants as mode
use Rattle.wt_span.specs.declared.form.Piece.{Piece}
use Rattle.wt_span.specs.declared.list.List.{List as Listed}
use Rattle.wt_span.specs.Items.{items}
use Rattle.wt_expand.specs.Expansion.{Reading, most_templates, page_reading, page_work, text_given}
use Rattle.wt_expand.specs.Work.{Pages, Entry, Refused, braces_too_deep, deep_place, entered, fetches, first_refusal, firsts_after, names_asked, refusal_from}
use Rattle.wt_expand.specs.Fronts.{Front, NextRefuses}
use Rattle.wt_transclusion.specs.declared.refusal.ExpandRefusal.{ExpandRefusal}
use Rattle.wt_transclusion.specs.declared.refusal.ExpandRefusal.TheVariants as answer
use Rattle.wt_transclusion.specs.declared.store.Store.{Store}
use Rattle.wt_transclusion.specs.Stops.{Stops, told_with}
use Rattle.wt_transclusion.proofs.StopLaws.{stops_after, stops_there, told_none}
use Rattle.wt_template_stack.specs.Ledgers.{AnswersOutput, Comes, Ledger, Refuses, ledger, reading_of}
use Rattle.wt_template_stack.proofs.LedgerLaws.{comes_refused, memory_refused}

pub reading_is : (pages : Pages) → reading_of pages mode.Page [] 40 [] ≡ page_reading pages
unfolding most_templates
reading_is pages = refl

-- nothing is spent or known before
abbrev pub at_first : Option (List (List ℕ)) → Ledger
at_first answered = record { spent = 0; met = []; answered = answered }

work_is : (pages : Pages) (page : List ℕ) → page_work pages page ≡ entered None ∷ (text_given (page_reading pages) page).work
unfolding page_work
work_is pages page = refl

pub refusal_is : (pages : Pages) (page : List ℕ) (es : List Entry) → first_refusal pages page es ≡ refusal_from pages page 0 es
unfolding first_refusal
refusal_is pages page es = refl

asked_is : (es : List Entry) → names_asked es ≡ firsts_after [] (fetches es)
unfolding names_asked
asked_is es = refl

or_deep : (o : Option ℕ) (p : Option Refused) → o ≡ None → option_or (option_map (braces_too_deep None) o) p ≡ p
or_deep o p e = ap (λ x. option_or (option_map (braces_too_deep None) x) p) e

-- where the page isn't nested too deep, the first refusal is that of its text
pub entered_first : (pages : Pages) (page : List ℕ) → deep_place mode.Page page ≡ None
    → first_refusal pages page (page_work pages page) ≡ refusal_from pages page 0 (text_given (page_reading pages) page).work
entered_first pages page e =
    refusal_is pages page (page_work pages page) ∙ ap (refusal_from pages page 0) (work_is pages page)
    ∙ or_deep (deep_place mode.Page page) (refusal_from pages page (0 + 0) (text_given (page_reading pages) page).work) e

-- else it is refused for that
pub too_deep_first : (pages : Pages) (page : List ℕ) (place : ℕ) → deep_place mode.Page page ≡ Some place
    → first_refusal pages page (page_work pages page) ≡ Some (braces_too_deep None place)
too_deep_first pages page place e =
    refusal_is pages page (page_work pages page) ∙ ap (refusal_from pages page 0) (work_is pages page)
    ∙ ap (λ o. option_or (option_map (braces_too_deep None) o) (refusal_from pages page (0 + 0) (text_given (page_reading pages) page).work)) e

-- where it isn't nested too deep, it is entered, and the rest is its text's work
page_front : (pages : Pages) (page : List ℕ) → deep_place mode.Page page ≡ None
    → Front pages page 0 (page_work pages page) (entered None ∷ []) (text_given (page_reading pages) page).work
page_front pages page e = record { whole = work_is pages page; allowed = or_deep (deep_place mode.Page page) None e }

-- the page's work stops where its text's does
pub text_stops : (pages : Pages) (page : List ℕ) (met : List (List ℕ)) (before now : Option (List (List ℕ))) (e : ExpandRefusal)
    → deep_place mode.Page page ≡ None → Stops pages page 0 met (text_given (page_reading pages) page).work before now e
    → Stops pages page 0 met (page_work pages page) before now e
text_stops pages page met before now e d h =
    let w = (text_given (page_reading pages) page).work in
    stops_after pages page 0 met (page_work pages page) (entered None ∷ []) w before now e (page_front pages page d)
    (subst (λ (a : Option (List (List ℕ))). Stops pages page 0 met w a now e) (sym (told_none before)) h)

pub page_stopped : (pages : Pages) (page : List ℕ) (answered told : Option (List (List ℕ))) (x : ExpandRefusal) → deep_place mode.Page page ≡ None
    → Refuses pages page (at_first answered) (text_given (reading_of pages mode.Page [] 40 []) page).work told x
    → Stops pages page 0 [] (page_work pages page) answered told x
page_stopped pages page answered told x e h =
    text_stops pages page [] answered told x e
    (subst (λ (r : Reading). Refuses pages page (at_first answered) (text_given r page).work told x) (reading_is pages) h)

-- it stops at its first entry where the page is nested too deep
pub page_stops_deep : (pages : Pages) (page : List ℕ) (place : ℕ) (met : List (List ℕ)) (answered : Option (List (List ℕ)))
    → deep_place mode.Page page ≡ Some place
    → Stops pages page 0 met (page_work pages page) answered answered (answer.BracesTooDeep None place)
page_stops_deep pages page place met answered e =
    stops_there pages page 0 met (page_work pages page) answered (answer.BracesTooDeep None place)
    (subst (NextRefuses pages page 0 (braces_too_deep None place)) (sym (work_is pages page)) (ap (option_map (braces_too_deep None)) e))

-- memory is missing where all of its work is done
pub page_stops_end : (pages : Pages) (page : List ℕ) (answered told : Option (List (List ℕ))) (met : List (List ℕ)) (now : ℕ)
    → deep_place mode.Page page ≡ None
    → Comes pages page (at_first answered) (text_given (reading_of pages mode.Page [] 40 []) page).work (ledger now met told) []
    → Stops pages page 0 [] (page_work pages page) answered told answer.NoMemory
page_stops_end pages page answered told met now e h =
    page_stopped pages page answered told answer.NoMemory e
    (comes_refused pages page (at_first answered) (ledger now met told) (text_given (reading_of pages mode.Page [] 40 []) page).work [] told answer.NoMemory h
    (memory_refused pages page (ledger now met told) []))

-- the page's text is expanded, with nothing spent, known or being expanded before
pub begun_at_first : (pages : Pages) (page : List ℕ) (answered told : Option (List (List ℕ))) (spent now : ℕ)
    (names : List (List ℕ)) (store : Store)
    (x : Result (Listed Piece) ExpandRefusal) → spent ≡ 0 → names ≡ []
    → AnswersOutput pages page (ledger spent [] answered)
    (text_given (reading_of pages mode.Page [] 40 names) page) store now told x
    → AnswersOutput pages page (at_first answered) (text_given (reading_of pages mode.Page [] 40 []) page)
    store now told x
begun_at_first pages page answered told spent now names store x s n h =
    subst (λ (k : ℕ). AnswersOutput pages page (ledger k [] answered)
    (text_given (reading_of pages mode.Page [] 40 []) page) store now told x) s
    (subst (λ (ns : List (List ℕ)). AnswersOutput pages page (ledger spent [] answered)
    (text_given (reading_of pages mode.Page [] 40 ns) page) store now told x)
    n h)

-- the names of before with those that the page's work asks for are those of its text's work
asked_in_all : (pages : Pages) (page : List ℕ) (answered : Option (List (List ℕ)))
    → option_map (λ names. names ++ names_asked (page_work pages page)) answered ≡ told_with [] (text_given (page_reading pages) page).work answered
asked_in_all pages page answered =
    ap (λ es. option_map (λ ns. ns ++ es) answered)
    (asked_is (page_work pages page) ∙ ap (λ es. firsts_after [] (fetches es)) (work_is pages page))

-- the page's work is done
pub record IsWorked (pages : Pages) (page : List ℕ) (answered told : Option (List (List ℕ))) : Type 0 where
  pub allowed : first_refusal pages page (page_work pages page) ≡ None
  pub named : told ≡ option_map (λ names. names ++ names_asked (page_work pages page)) answered

pub page_worked : (pages : Pages) (page : List ℕ) (answered told : Option (List (List ℕ))) (met : List (List ℕ)) (now : ℕ) → deep_place mode.Page page ≡ None
    → Comes pages page (at_first answered) (text_given (reading_of pages mode.Page [] 40 []) page).work (ledger now met told) []
    → IsWorked pages page answered told
page_worked pages page answered told met now e given =
    let h = subst (λ (r : Reading). Comes pages page (at_first answered) (text_given r page).work (ledger now met told) []) (reading_is pages) given in
    let w = (text_given (page_reading pages) page).work in
    let all : w ≡ h.done = h.front.whole ∙ append-nil h.done in
    record {
      allowed = entered_first pages page e ∙ ap (refusal_from pages page 0) all ∙ h.front.allowed;
      named = ap (λ (l : Ledger). l.answered) h.now_is ∙ ap (λ es. told_with [] es answered) (sym all) ∙ sym (asked_in_all pages page answered);
    }

pub record Shows (pages : Pages) (page : List ℕ) (answered told : Option (List (List ℕ))) (ps : List Piece) : Type 0 where
  pub items_are : items ps ≡ (text_given (page_reading pages) page).items
  pub worked : IsWorked pages page answered told

pub page_shown : (pages : Pages) (page : List ℕ) (answered told : Option (List (List ℕ))) (store : Store) (now : ℕ) (ps : List Piece)
    → deep_place mode.Page page ≡ None
    → AnswersOutput pages page (at_first answered) (text_given (reading_of pages mode.Page [] 40 []) page) store now told (Ok ps)
    → Shows pages page answered told ps
page_shown pages page answered told store now ps e given = record {
  items_are = given.0 ∙ ap (λ (r : Reading). (text_given r page).items) (reading_is pages);
  worked = page_worked pages page answered told given.1 now e given.3;
}
