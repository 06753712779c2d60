-- A walk over the whole page, where some pages are known already.
use Rattle.std.proofs.Common.{◌≡◌, ◌^◌, ◌<◌, ℕ, Bool, true, false, Option, Some, None, option_map, List, [], ◌∷◌, ◌++◌, drop, length, refl, sym, ap, ◌∙◌, subst, append-nil, arith}
use Rattle.std.specs.Str.{IsUtf8}
use Rattle.wt_span.specs.declared.form.Mode.TheVariants as mode
use Rattle.wt_span.specs.declared.form.Piece.{Piece}
use Rattle.wt_span.specs.declared.form.Outer.{Outer}
use Rattle.wt_span.specs.declared.range.Range.{Range}
use Rattle.wt_span.specs.Braces.{members}
use Rattle.wt_span.specs.Items.{AreFew, items, sources}
use Rattle.wt_span.specs.Origins.{Expanded}
use Rattle.wt_expand.specs.Expansion.{Reading, page_reading, page_work, text_given}
use Rattle.wt_expand.specs.PageCalls.{all_stretches, expanded_page}
use Rattle.wt_expand.specs.Work.{Entry, Pages, deep_place, entered, fetches, first_refusal, firsts_after, is_among, names_asked, refusal_from}
use Rattle.wt_transclusion.specs.declared.refusal.ExpandRefusal.{ExpandRefusal}
use Rattle.std.specs.BTreeMap.{get_by_text}
use Rattle.wt_transclusion.specs.declared.read.ReadText.{ReadText}
use Rattle.wt_transclusion.specs.declared.store.Store.{Store}
use Rattle.wt_transclusion.specs.Answers.{IsFetched, IsRefused}
use Rattle.wt_expand.specs.Fronts.{known_after}
use Rattle.wt_transclusion.specs.Stops.{Stops, told_with}
use Rattle.wt_transclusion.specs.Steps.{given_from}
use Rattle.wt_transclusion.specs.Stores.{Agrees, IsKept, IsKnown, IsStore}
use Rattle.wt_expand.proofs.ExpandedWidth.{expanded_short}
use Rattle.wt_transclusion.proofs.GrowthLaws.{agrees_before}
use Rattle.wt_transclusion.proofs.StopLaws.{stops_page}
use Rattle.wt_template_stack.specs.declared.expansion.Expansion.{Expansion}
use Rattle.wt_template_stack.specs.Ledgers.{Comes, Ledger, Refuses, ledger}
use Rattle.wt_template_stack.proofs.LedgerLaws.{comes_refusal}
use Rattle.wt_template_stack.proofs.PageLaws.{entered_first, reading_is, text_stops}
use Rattle.wt_expansion.specs.declared.found.Collected.{Collected}
use Rattle.wt_expansion.specs.Known.{HoldsPages, KnowsMore}
use Rattle.wt_expansion.specs.Walks.{IsFree, Walked, at_page}
use Rattle.wt_expansion.proofs.PageWalk.{ArePage, page_found, page_members, work_is}

page_work_is : (pages : Pages) (page : List ℕ) → page_work pages page ≡ entered None ∷ (text_given (page_reading pages) page).work
unfolding page_work
page_work_is pages page = refl

-- the page is found, nothing refuses it, and what it asked for is known
pub record IsFound (pages : Pages) (page : List ℕ) (met : List (List ℕ)) (x : Expansion) (answered told : Option (List (List ℕ))) (ps : List Piece)
    (cs : List Outer) (ts : List Range) : Type 0 where
  pub found : ArePage pages page ps cs ts
  pub allowed : first_refusal pages page (page_work pages page) ≡ None
  pub more : KnowsMore pages met (page_work pages page) x answered told

-- what a walk over the whole page finds, where nothing was found before and nothing spent
abbrev pub WalkedFrom : Pages → List ℕ → List (List ℕ) → ℕ → Option (List (List ℕ)) → ℕ → Collected → Collected → Store → ℕ → Option (List (List ℕ)) → Type 0
WalkedFrom pages page met spent answered to old new store now told =
    Walked pages page (ledger spent met answered) (all_stretches (at_page pages) 0 true (drop 0 page) (members (page_members page)))
    (given_from (at_page pages) true page 0 (page_members page)).work 0 to old new store now told

-- all of some work is done
record IsWhole (met known : List (List ℕ)) (work : List Entry) (before now : Option (List (List ℕ))) : Type 0 where
  known_is : known ≡ known_after met (fetches work)
  told_is : now ≡ told_with met work before

whole_by : (pages : Pages) (page : List ℕ) (met known : List (List ℕ)) (work : List Entry) (before now : Option (List (List ℕ))) (spent : ℕ)
    → Comes pages page (ledger 0 met before) work (ledger spent known now) [] → IsWhole met known work before now
whole_by pages page met known work before now spent c =
    let all : c.done ≡ work = sym (c.front.whole ∙ append-nil c.done) in
    record {
      known_is = ap (λ (l : Ledger). l.met) c.now_is ∙ ap (λ (es : List Entry). known_after met (fetches es)) all;
      told_is = ap (λ (l : Ledger). l.answered) c.now_is ∙ ap (λ (es : List Entry). told_with met es before) all;
    }

pub page_is_found : (pages : Pages) (page : List ℕ) (met : List (List ℕ)) (spent : ℕ) (answered told : Option (List (List ℕ))) (to : ℕ)
    (old new : Collected) (x : Expansion) (ps : List Piece) (cs : List Outer) (ts : List Range) → IsUtf8 page
    → to < 4294967296 → deep_place mode.Page page ≡ None → spent ≡ 0 → old.pieces.items ≡ [] → old.outer.items ≡ [] → old.text_calls.items ≡ []
    → x.names ≡ [] → WalkedFrom pages page met spent answered to old new x.store x.spent told
    → ps ≡ new.pieces.items → cs ≡ new.outer.items → ts ≡ new.text_calls.items → IsFound pages page met x answered told ps cs ts
page_is_found pages page met spent answered told to old new x ps cs ts utf8 short fits free a b c names h p q r =
    let known = h.works.met in
    let walked = (given_from (at_page pages) true page 0 (page_members page)).work in
    let w = (text_given (page_reading pages) page).work in
    let comes = subst (λ (y : Reading). Comes pages page (ledger 0 met answered) (text_given y page).work (ledger x.spent known told) []) (reading_is pages)
    (subst (λ (es : List Entry). Comes pages page (ledger 0 met answered) es (ledger x.spent known told) []) (work_is pages page)
    (subst (λ (n : ℕ). Comes pages page (ledger n met answered) walked (ledger x.spent known told) []) free h.works.comes)) in
    let whole = whole_by pages page met known w answered told x.spent comes in
    let same : known ≡ known_after met (fetches (page_work pages page)) =
    whole.known_is ∙ ap (λ (es : List Entry). known_after met (fetches es)) (sym (page_work_is pages page)) in
    record {
      found = page_found pages page old new to ps cs ts utf8 short a b c h.finds p q r;
      allowed = entered_first pages page fits ∙ ap (refusal_from pages page 0) (sym (append-nil w))
          ∙ comes_refusal pages page (ledger 0 met answered) w (ledger x.spent known told) [] comes [];
      more = record {
        free = record { stored = subst (λ (ns : List (List ℕ)). IsStore pages ns x.store) same h.works.stored; names = names };
        told_is = whole.told_is ∙ ap (λ (es : List Entry). told_with met es answered) (sym (page_work_is pages page));
      };
    }

-- the items have at most as many bytes as the page and what an expansion may cost
pub few_found : (pages : Pages) (page : List ℕ) (met : List (List ℕ)) (x : Expansion) (answered told : Option (List (List ℕ))) (ps : List Piece)
    (cs : List Outer) (ts : List Range) → length page < 2 ^ 30 → IsFound pages page met x answered told ps cs ts → AreFew (items ps)
few_found pages page met x answered told ps cs ts short f =
    let same : length (sources (items ps)) ≡ length (sources (expanded_page pages page).items) =
    ap (λ (e : Expanded). length (sources e.items)) f.found.same in
    omega (arith, expanded_short pages page f.allowed, same, short)

-- what a walk over the whole page refuses
abbrev pub RefusesFrom : Pages → List ℕ → List (List ℕ) → ℕ → Option (List (List ℕ)) → Option (List (List ℕ))
    → ExpandRefusal → Type 0
RefusesFrom pages page met spent answered told e =
    Refuses pages page (ledger spent met answered)
    (given_from (at_page pages) true page 0 (page_members page)).work told e

-- where the walk stops the page's work does
pub found_stops : (pages : Pages) (page : List ℕ) (met : List (List ℕ)) (spent : ℕ)
    (answered told : Option (List (List ℕ))) (e : ExpandRefusal)
    → deep_place mode.Page page ≡ None → spent ≡ 0 → RefusesFrom pages page met spent answered told e
    → Stops pages page 0 met (page_work pages page) answered told e
found_stops pages page met spent answered told e fits free h =
    let work = (given_from (at_page pages) true page 0 (page_members page)).work in
    let own = subst (λ (es : List Entry). Stops pages page 0 met es answered told e) (work_is pages page)
    (subst (λ (n : ℕ). Stops pages page n met work answered told e) free h) in
    let text = subst (λ (y : Reading). Stops pages page 0 met (text_given y page).work answered told e) (reading_is pages) own in
    text_stops pages page met answered told e fits text

-- a refusal of the walk is the first one of the page
pub found_refused : (pages : Pages) (page : List ℕ) (met : List (List ℕ)) (spent : ℕ)
    (answered told : Option (List (List ℕ))) (e : ExpandRefusal)
    → deep_place mode.Page page ≡ None → spent ≡ 0 → RefusesFrom pages page met spent answered told e
    → IsRefused (first_refusal pages page (page_work pages page)) e
found_refused pages page met spent answered told e fits free h =
    stops_page pages page met (page_work pages page) answered told e (found_stops pages page met spent answered told e fits free h)

-- an expansion whose costs are counted anew
pub free_still : (pages : Pages) (met : List (List ℕ)) (old x : Expansion) → x.store ≡ old.store → x.names ≡ old.names → IsFree pages met old
    → IsFree pages met x
free_still pages met old x s n h = record { stored = subst (IsStore pages met) (sym s) h.stored; names = n ∙ h.names }

-- nothing is known at first
pub free_at_first : (pages : Pages) (x : Expansion) → ((ps : Pages) → IsStore ps [] x.store) → x.names ≡ [] → IsFree pages [] x
free_at_first pages x s n = record { stored = s pages; names = n }

pub holds_at_first : (x : Expansion) → ((ps : Pages) → IsStore ps [] x.store) → x.names ≡ [] → HoldsPages x
holds_at_first x s n = let none : Pages = λ _. None in (none, [], free_at_first none x s n)

known_anew : (pages others : Pages) (name : List ℕ) (b : Bool) (o : Option (Option ReadText)) → IsKnown others name b o
    → ((found : Option ReadText) → o ≡ Some found → IsFetched name (pages name) found) → IsKnown pages name b o
known_anew pages others name false o k a = k
known_anew pages others name true None k a = k
known_anew pages others name true (Some x) k a = a x refl

-- pages that agree with what is known have the same names known
pub store_of_agreeing : (pages others : Pages) (met : List (List ℕ)) (s : Store) → IsStore others met s → Agrees pages s → IsStore pages met s
store_of_agreeing pages others met s h a = λ name. known_anew pages others name (is_among name met) (get_by_text s.pages name) (h name) (a name)

-- pages that agree with all that is known in the end
pub free_by_agreeing : (pages others : Pages) (met : List (List ℕ)) (old new : Expansion) → IsFree others met old → IsKept old.store new.store
    → Agrees pages new.store → IsFree pages met old
free_by_agreeing pages others met old new h k a =
    record { stored = store_of_agreeing pages others met old.store h.stored (agrees_before pages old.store new.store k a); names = h.names }

-- ---- the names of a page's work

asked_are : (es : List Entry) → names_asked es ≡ firsts_after [] (fetches es)
unfolding names_asked
asked_are es = refl

-- where nothing was known before, the folder answered the names that the work asks for
pub asked_at_first : (pages : Pages) (work : List Entry) (x : Expansion) (answered told : Option (List (List ℕ)))
    → KnowsMore pages [] work x answered told → told ≡ option_map (λ ns. ns ++ names_asked work) answered
asked_at_first pages work x answered told h = h.told_is ∙ ap (λ es. option_map (λ ns. ns ++ es) answered) (sym (asked_are work))
