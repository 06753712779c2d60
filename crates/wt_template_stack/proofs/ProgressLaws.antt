-- How a text is expanded step by step, and what the pages that it calls do to what is spent and to the names that are known.
use Rattle.std.proofs.Common.{◌≡◌, ℕ, suc, ◌-◌, ◌≤◌, false, Option, List, [], ◌∷◌, ◌++◌, Ok, Err, refl, sym, ap, ◌∙◌, subst, arith, append-nil}
use Rattle.std.specs.Prelude.{Result}
use Rattle.wt_span.specs.declared.form.Mode.{Mode}
use Rattle.wt_span.specs.declared.form.Mode.TheVariants as mode
use Rattle.wt_span.specs.declared.form.Piece.{Piece}
use Rattle.wt_span.specs.declared.list.List.{List as Listed}
use Rattle.wt_span.specs.Items.{Item, items}
use Rattle.wt_names.specs.declared.title.Title.{Title}
use Rattle.wt_names.specs.Namespace.{full_name_of}
use Rattle.wt_expand.specs.Templates.{template_text}
use Rattle.wt_expand.specs.Work.{Pages, Entry, begun, is_among}
use Rattle.wt_expand.specs.Expansion.{Output, Reading, Frame, just, template_output, text_given}
use Rattle.wt_expand.proofs.FrontLaws.{front_before}
use Rattle.wt_transclusion.specs.declared.refusal.ExpandRefusal.{ExpandRefusal}
use Rattle.wt_transclusion.specs.declared.refusal.ExpandRefusal.TheVariants as answer
use Rattle.wt_transclusion.specs.declared.read.ReadText.{ReadText}
use Rattle.wt_transclusion.specs.declared.store.Store.{Store}
use Rattle.wt_transclusion.specs.declared.templates.PageLookup.{PageLookup}
use Rattle.wt_transclusion.specs.declared.templates.PageLookup.TheVariants as taken
use Rattle.wt_transclusion.specs.Answers.{IsNoFault, IsCountedErr}
use Rattle.wt_transclusion.specs.Reads.{IsRead}
use Rattle.wt_transclusion.specs.Cursors.{starts}
use Rattle.wt_transclusion.specs.Stores.{IsStore, met_with, named_with}
use Rattle.wt_transclusion.specs.Takings.{AnswersTaking, IsNamed}
use Rattle.wt_template_stack.specs.Accounts.{Account, Does, spent_of, undone}
use Rattle.wt_template_stack.specs.Ledgers.{Ledger, ledger, Comes, ComesBy, Refuses, reading_of, AnswersOutput, Progress, Calling, TakesStep}
use Rattle.wt_template_stack.specs.Rests.{with_work, after_page}
use Rattle.wt_template_stack.specs.Runs.{Spends, Holds, Calls, Returns, RefusesCost, Goes, TakesPart, TakesTurn}
use Rattle.wt_template_stack.specs.Stacks.{stack}
use Rattle.wt_template_stack.specs.declared.level.PendingCall.{PendingCall}
use Rattle.wt_template_stack.specs.declared.run.TextRun.{TextRun}
use Rattle.wt_template_stack.specs.declared.run.StepOutcome.{StepOutcome}
use Rattle.wt_template_stack.specs.declared.run.StepOutcome.TheVariants as turn
use Rattle.wt_template_stack.proofs.LevelLaws.{strip}
use Rattle.wt_template_stack.proofs.LedgerLaws.{Enters, by_none, by_refused, by_then, comes_spent, cost_refuses, enters, link_given, message_given, page_given, page_refused, refused_before, spent_all}

-- ---- a text is expanded, step by step

pub begins : (pages : Pages) (page t : List ℕ) (r : Reading) (l : Ledger) (all : Output) (run : TextRun) (store : Store) → IsStore pages l.met store
    → Holds r t run (stack run.levels) (undone l.spent all) → Progress pages page r t l all run store l.spent l.answered
begins pages page t r l all run store s h = record {
  total = undone l.spent all;
  met = l.met;
  stored = s;
  holding = h;
  items_are = refl;
  before_is = refl;
  comes = by_none pages page l all.work;
}

-- what is spent in all
pub progress_spent : (pages : Pages) (page t : List ℕ) (r : Reading) (l : Ledger) (all : Output) (run : TextRun) (store : Store) (spent : ℕ)
    (answered : Option (List (List ℕ))) → (p : Progress pages page r t l all run store spent answered) → spent ≡ spent_of p.total
progress_spent pages page t r l all run store spent answered p = spent_all pages page l all.work p.total spent p.met answered p.before_is p.comes

does_items : (all : Output) (work : List Entry) (total left : Account) → Does work total left → all.items ≡ total.left.items → all.items ≡ left.left.items
does_items all work total left d e = e ∙ ap (λ (o : Output). o.items) d.left_is

pub goes_on : (pages : Pages) (page t : List ℕ) (r : Reading) (l : Ledger) (all : Output) (run next : TextRun) (store : Store) (spent now : ℕ)
    (answered : Option (List (List ℕ))) → (p : Progress pages page r t l all run store spent answered) → Goes r t spent p.total next now
    → Progress pages page r t l all next store now answered
goes_on pages page t r l all run next store spent now answered p g = record {
  total = g.0;
  met = p.met;
  stored = p.stored;
  holding = g.2;
  items_are = does_items all g.1.done p.total g.0 g.1.does p.items_are;
  before_is = g.1.does.before_is ∙ p.before_is;
  comes = comes_spent pages page l all.work spent now p.met answered p.total g.0 p.before_is p.comes g.1;
}

pub step_refused : (pages : Pages) (page t : List ℕ) (r : Reading) (l : Ledger) (all : Output) (run : TextRun) (store : Store) (spent : ℕ)
    (answered : Option (List (List ℕ))) (e : ExpandRefusal) → (p : Progress pages page r t l all run store spent answered) → RefusesCost spent p.total e
    → Refuses pages page l all.work answered e
step_refused pages page t r l all run store spent answered e p h =
    cost_refuses pages page l all.work spent p.met answered p.total e p.before_is p.comes h

pub done : (pages : Pages) (page t : List ℕ) (r : Reading) (l : Ledger) (all : Output) (run : TextRun) (store : Store) (spent now : ℕ)
    (answered : Option (List (List ℕ)))
    (ps : List Piece) → (p : Progress pages page r t l all run store spent answered) → now ≡ spent → p.total.left ≡ just (items ps)
    → AnswersOutput pages page l all store now answered (Ok ps)
done pages page t r l all run store spent now answered ps p n e = (
  sym (p.items_are ∙ ap (λ (o : Output). o.items) e),
  p.met,
  p.stored,
  subst (λ (k : ℕ). Comes pages page l all.work (ledger k p.met answered) []) (sym n)
      (subst (λ (o : Output). Comes pages page l all.work (ledger spent p.met answered) o.work) e
      (record { done = p.total.done; front = p.comes.front; now_is = p.comes.now_is })),
)

-- what a step came to
pub step_taken : (pages : Pages) (page t : List ℕ) (r : Reading) (l : Ledger) (all : Output) (run next : TextRun) (store : Store) (spent now : ℕ)
    (answered : Option (List (List ℕ))) (k : StepOutcome) → (p : Progress pages page r t l all run store spent answered) → TakesTurn r t spent p.total next now k
    → TakesStep pages page r t l all next store now answered k
step_taken pages page t r l all run next store spent now answered turn.Went p h = goes_on pages page t r l all run next store spent now answered p h
step_taken pages page t r l all run next store spent now answered (turn.Done ps) p h = done pages page t r l all run store spent now answered ps p h.0 h.1
step_taken pages page t r l all run next store spent now answered (turn.Called a) p h = record {
  total = h.0;
  met = p.met;
  stored = p.stored;
  calls = h.2;
  items_are = does_items all h.1.done p.total h.0 h.1.does p.items_are;
  before_is = h.1.does.before_is ∙ p.before_is;
  comes = comes_spent pages page l all.work spent now p.met answered p.total h.0 p.before_is p.comes h.1;
}

-- a call whose target is read already has begun
abbrev pub page_begun : ℕ → Output → Account
page_begun spent o = record { before = spent; done = begun ∷ []; left = o }

pub page_does : (spent : ℕ) (all o : Output) → all ≡ with_work (begun ∷ []) o → Does (begun ∷ []) (undone spent all) (page_begun spent o)
page_does spent all o e = record { before_is = refl; done_is = refl; left_is = e }

-- behind its beginning
pub part_step : (pages : Pages) (page t : List ℕ) (r : Reading) (spent now : ℕ) (met : List (List ℕ)) (answered : Option (List (List ℕ))) (all : Output)
    (left : Account) (run : TextRun) (store : Store) (k : StepOutcome) → IsStore pages met store → Spends spent (undone spent all) now left → TakesPart r t left run k
    → TakesStep pages page r t (ledger spent met answered) all run store now answered k
part_step pages page t r spent now met answered all left run store turn.Went s z h = record {
  total = left;
  met = met;
  stored = s;
  holding = h;
  items_are = does_items all z.done (undone spent all) left z.does refl;
  before_is = z.does.before_is;
  comes = comes_spent pages page (ledger spent met answered) all.work spent now met answered (undone spent all) left refl
      (by_none pages page (ledger spent met answered) all.work) z;
}
part_step pages page t r spent now met answered all left run store (turn.Done ps) s z h = absurd h
part_step pages page t r spent now met answered all left run store (turn.Called a) s z h = record {
  total = left;
  met = met;
  stored = s;
  calls = h;
  items_are = does_items all z.done (undone spent all) left z.does refl;
  before_is = z.does.before_is;
  comes = comes_spent pages page (ledger spent met answered) all.work spent now met answered (undone spent all) left refl
      (by_none pages page (ledger spent met answered) all.work) z;
}

-- ---- a page that is called

-- what a called page gives comes first
record Stripped (r : Reading) (t : List ℕ) (run : TextRun) (h : PendingCall) (o : Output) (total : Account) : Type 0 where
  left : Account
  does : Does o.work total left
  returns : Returns r t run h.call.at.end (after_page h.at_start (just o.items)) left

stripped : (r : Reading) (t : List ℕ) (run : TextRun) (h : PendingCall) (total : Account) → (c : Calls r t run h total)
    → Stripped r t run h (r.template h.title c.frame) total
stripped r t run h total c =
    let o = r.template h.title c.frame in
    let to = h.call.at.end in
    let z = strip r t to (starts t to) o.work (after_page h.at_start (just o.items)) (stack run.levels) total c.resumes in
    record {
      left = z.0;
      does = z.1;
      returns = record { place = c.place; at_start = c.at_start; running = c.running; before = c.before; resumes = z.2 };
    }

-- a page that was called has given its pieces
pub record Paged (pages : Pages) (page : List ℕ) (r : Reading) (t : List ℕ) (before : Ledger) (all : Output) (run : TextRun) (store : Store) (spent : ℕ)
    (answered : Option (List (List ℕ))) (h : PendingCall) (ps : List Piece) : Type 0 where
  pub left : Account
  pub met : List (List ℕ)
  pub stored : IsStore pages met store
  pub returns : Returns r t run h.call.at.end (after_page h.at_start (just (items ps))) left
  pub items_are : all.items ≡ left.left.items
  pub before_is : left.before ≡ before.spent
  pub comes : ComesBy pages page before all.work left.done (ledger spent met answered) left.left.work

-- all of some work is done, behind which more is left
all_before : (pages : Pages) (page : List ℕ) (a b : Ledger) (w v : List Entry) → Comes pages page a w b [] → ComesBy pages page a (w ++ v) w b v
all_before pages page a b w v c =
    let is : w ≡ c.done = c.front.whole ∙ append-nil c.done in
    subst (λ (d : List Entry). ComesBy pages page a (w ++ v) d b v) (sym is)
    (record { front = front_before pages page a.spent w c.done [] v c.front; now_is = c.now_is })

page_comes : (pages : Pages) (page : List ℕ) (l b : Ledger) (w es : List Entry) (spent : ℕ) (met : List (List ℕ)) (answered : Option (List (List ℕ)))
    (total left : Account) → Does es total left → ComesBy pages page l w total.done (ledger spent met answered) total.left.work
    → Comes pages page (ledger spent met answered) es b [] → ComesBy pages page l w left.done b left.left.work
page_comes pages page l b w es spent met answered total left d c g =
    let now = ledger spent met answered in
    subst (λ (xs : List Entry). ComesBy pages page l w xs b left.left.work) (sym d.done_is)
    (by_then pages page l now b w (es ++ left.left.work) left.left.work total.done es
    (subst (λ (o : Output). ComesBy pages page l w total.done now o.work) d.left_is c)
    (all_before pages page now b es left.left.work g))

pub page_taken : (pages : Pages) (page t : List ℕ) (r : Reading) (l : Ledger) (all : Output) (run : TextRun) (store next : Store) (spent now : ℕ)
    (answered told : Option (List (List ℕ))) (h : PendingCall) (ps : List Piece) → (c : Calling pages page r t l all run store spent answered h)
    → AnswersOutput pages page (ledger spent c.met answered) (r.template h.title c.calls.frame) next now told (Ok ps)
    → Paged pages page r t l all run next now told h ps
page_taken pages page t r l all run store next spent now answered told h ps c g =
    let o = r.template h.title c.calls.frame in
    let s = stripped r t run h c.total c.calls in
    record {
      left = s.left;
      met = g.1;
      stored = g.2;
      returns = subst (λ (xs : List Item). Returns r t run h.call.at.end (after_page h.at_start (just xs)) s.left) (sym g.0) s.returns;
      items_are = does_items all o.work c.total s.left s.does c.items_are;
      before_is = s.does.before_is ∙ c.before_is;
      comes = page_comes pages page l (ledger now g.1 told) all.work o.work spent c.met answered c.total s.left s.does c.comes g.3;
    }

pub page_untaken : (pages : Pages) (page t : List ℕ) (r : Reading) (l : Ledger) (all : Output) (run : TextRun) (store : Store) (spent : ℕ)
    (answered told : Option (List (List ℕ))) (h : PendingCall) (e : ExpandRefusal)
    → (c : Calling pages page r t l all run store spent answered h)
    → Refuses pages page (ledger spent c.met answered) (r.template h.title c.calls.frame).work told e
    → Refuses pages page l all.work told e
page_untaken pages page t r l all run store spent answered told h e c g =
    let o = r.template h.title c.calls.frame in
    let s = stripped r t run h c.total c.calls in
    let now = ledger spent c.met answered in
    by_refused pages page l now all.work c.total.done c.total.left.work told e c.comes
    (subst (λ (x : Output). Refuses pages page now x.work told e) (sym s.does.left_is)
    (refused_before pages page now o.work s.left.left.work told e g))

pub paged_goes : (pages : Pages) (page t : List ℕ) (r : Reading) (l : Ledger) (all : Output) (run next : TextRun) (store : Store) (spent now : ℕ)
    (answered : Option (List (List ℕ))) (h : PendingCall) (ps : List Piece) → (p : Paged pages page r t l all run store spent answered h ps)
    → Goes r t spent p.left next now → Progress pages page r t l all next store now answered
paged_goes pages page t r l all run next store spent now answered h ps p g = record {
  total = g.0;
  met = p.met;
  stored = p.stored;
  holding = g.2;
  items_are = does_items all g.1.done p.left g.0 g.1.does p.items_are;
  before_is = g.1.does.before_is ∙ p.before_is;
  comes = comes_spent pages page l all.work spent now p.met answered p.left g.0 p.before_is p.comes g.1;
}

pub paged_refused : (pages : Pages) (page t : List ℕ) (r : Reading) (l : Ledger) (all : Output) (run : TextRun) (store : Store) (spent : ℕ)
    (answered : Option (List (List ℕ))) (h : PendingCall) (ps : List Piece) (e : ExpandRefusal) → (p : Paged pages page r t l all run store spent answered h ps)
    → RefusesCost spent p.left e → Refuses pages page l all.work answered e
paged_refused pages page t r l all run store spent answered h ps e p g =
    cost_refuses pages page l all.work spent p.met answered p.left e p.before_is p.comes g

-- ---- what the code hands on

pub no_fault_counted : (before now : ℕ) (e : ExpandRefusal) → IsNoFault e → now ≡ before → IsCountedErr before now e
no_fault_counted before now (answer.BracesTooDeep title place) h e = e
no_fault_counted before now answer.TooLarge h e = e
no_fault_counted before now answer.FolderFault h e = absurd h
no_fault_counted before now (answer.TemplateNotUtf8 title place) h e = e
no_fault_counted before now (answer.TemplateTooLong title) h e = e
no_fault_counted before now answer.NoMemory h e = e

-- a step, where the names of the pages that are being expanded are those of before
pub step_handed : (pages : Pages) (page t : List ℕ) (m : Mode) (frame : Frame) (left : ℕ) (names names_now : List (List ℕ)) → names_now ≡ names
    → (l : Ledger) (all : Output) (run next : TextRun) (store : Store) (spent now : ℕ) (answered : Option (List (List ℕ))) (k : StepOutcome)
    → (p : Progress pages page (reading_of pages m frame left names) t l all run store spent answered)
    → TakesTurn (reading_of pages m frame left names) t spent p.total next now k
    → TakesStep pages page (reading_of pages m frame left names_now) t l all next store now answered k
step_handed pages page t m frame left names names_now e l all run next store spent now answered k p h =
    subst (λ (ns : List (List ℕ)). TakesStep pages page (reading_of pages m frame left ns) t l all next store now answered k) (sym e)
    (step_taken pages page t (reading_of pages m frame left names) l all run next store spent now answered k p h)

pub one_less : (left less : ℕ) → 1 ≤ left → less ≡ left - 1 → left ≡ suc less
one_less left less l e = omega (arith, l, e)

pub message_done : (pages : Pages) (page : List ℕ) (spent : ℕ) (met : List (List ℕ)) (answered now : Option (List (List ℕ))) (left : ℕ)
    (open_titles names : List (List ℕ)) (title : Title) (frame : Frame) (k : PageLookup) (ps : List Piece) (store : Store) → open_titles ≡ names
    → k ≡ taken.Message ps
    → AnswersTaking pages met open_titles left title store (Ok k)
    → IsNamed left open_titles (full_name_of title) met answered now (Ok k)
    → AnswersOutput pages page (ledger spent met answered) (template_output pages left names title frame) store spent now (Ok ps)
message_done pages page spent met answered now left open_titles names title frame k ps store e is h n =
    let g = subst (λ (x : PageLookup). AnswersTaking pages met open_titles left title store (Ok x)) is h in
    let same = subst (λ (x : PageLookup). IsNamed left open_titles (full_name_of title) met answered now (Ok x))
    is n in
    subst (λ (ns : List (List ℕ)). AnswersOutput pages page (ledger spent met answered) (template_output pages left ns title frame) store spent now (Ok ps)) e
    (message_given pages page spent met answered now (template_output pages left open_titles title frame) store ps (g.0 frame) g.1 same)

pub link_done : (pages : Pages) (page : List ℕ) (spent : ℕ) (met : List (List ℕ)) (answered now : Option (List (List ℕ))) (left : ℕ)
    (open_titles names : List (List ℕ)) (title : Title) (frame : Frame) (k : PageLookup) (ps : List Piece) (store : Store) → open_titles ≡ names → k ≡ taken.Link ps
    → AnswersTaking pages met open_titles left title store (Ok k)
    → IsNamed left open_titles (full_name_of title) met answered now (Ok k)
    → AnswersOutput pages page (ledger spent met answered) (template_output pages left names title frame) store spent now (Ok ps)
link_done pages page spent met answered now left open_titles names title frame k ps store e is h n =
    let g = subst (λ (x : PageLookup). AnswersTaking pages met open_titles left title store (Ok x)) is h in
    let same = subst (λ (x : PageLookup). IsNamed left open_titles (full_name_of title) met answered now (Ok x))
    is n in
    subst (λ (ns : List (List ℕ)). AnswersOutput pages page (ledger spent met answered) (template_output pages left ns title frame) store spent now (Ok ps)) e
    (link_given pages page spent met answered now (full_name_of title) (template_output pages left open_titles title frame) store ps (g.0 frame) g.1 same)

-- the text of a page that is entered gives the rest
pub entered_done : (pages : Pages) (page : List ℕ) (spent now : ℕ) (met : List (List ℕ)) (answered told : Option (List (List ℕ))) (left : ℕ)
    (names : List (List ℕ)) (t : Title) (frame : Frame) (read : ReadText) (next : Store) (x : Result (Listed Piece) ExpandRefusal)
    → (n : Enters pages page spent met answered left names t frame read)
    → AnswersOutput pages page (ledger spent (met_with (full_name_of t) met) (named_with (full_name_of t) met answered))
    (text_given (reading_of pages mode.Template frame left (full_name_of t ∷ names)) (template_text n.bytes)) next now told x
    → AnswersOutput pages page (ledger spent met answered) (template_output pages (suc left) names t frame) next now told x
entered_done pages page spent now met answered told left names t frame read next (Ok ps) n h =
    page_given pages page spent met answered left names t frame read next now told ps n h
entered_done pages page spent now met answered told left names t frame read next (Err e) n h =
    page_refused pages page spent met answered told left names t frame read e n h

pub page_done : (pages : Pages) (page : List ℕ) (spent now : ℕ) (met : List (List ℕ)) (answered named told : Option (List (List ℕ))) (left less : ℕ)
    (open_titles names names_in : List (List ℕ)) (t : Title) (frame : Frame) (k : PageLookup) (read : ReadText) (run : TextRun) (store next : Store)
    (x : Result (Listed Piece) ExpandRefusal) → open_titles ≡ names → k ≡ taken.Page read → left ≡ suc less → names_in ≡ full_name_of t ∷ names
    → AnswersTaking pages met open_titles left t store (Ok k)
    → IsNamed left open_titles (full_name_of t) met answered named (Ok k)
    → ((r : Reading) (bs : List ℕ) (n : ℕ) → mode.Template ≡ r.mode → IsRead r.mode bs read → Holds r bs run (stack run.levels) (undone n (text_given r bs)))
    → ((bs : List ℕ) (before : Ledger) (all : Output)
    → Progress pages page (reading_of pages mode.Template frame less names_in) bs before all run store spent named
    → AnswersOutput pages page before all next now told x)
    → AnswersOutput pages page (ledger spent met answered) (template_output pages left names t frame) next now told x
page_done pages page spent now met answered named told left less open_titles names names_in t frame k read run store next x e is some inside h n holds on =
    let full = full_name_of t in
    let g = subst (λ (y : PageLookup). AnswersTaking pages met open_titles left t store (Ok y)) is h in
    let same = subst (λ (y : PageLookup). IsNamed left open_titles full met answered named (Ok y)) is n in
    let shut = subst (λ (ns : List (List ℕ)). is_among full ns ≡ false) e g.1 in
    let enter = enters pages page spent met answered less names t frame read shut g.2 in
    let r = reading_of pages mode.Template frame less names_in in
    let bs = template_text enter.bytes in
    let before = ledger spent (met_with full met) named in
    let given = on bs before (text_given r bs) (begins pages page bs r before (text_given r bs) run store g.3 (holds r bs spent refl enter.is_read)) in
    let there = subst (λ (ns : List (List ℕ)). AnswersOutput pages page (ledger spent (met_with full met) named)
    (text_given (reading_of pages mode.Template frame less ns) (template_text enter.bytes)) next now told x) inside given in
    let known = subst (λ (a : Option (List (List ℕ))). AnswersOutput pages page (ledger spent (met_with full met) a)
    (text_given (reading_of pages mode.Template frame less (full ∷ names)) (template_text enter.bytes)) next now told x) same there in
    subst (λ (j : ℕ). AnswersOutput pages page (ledger spent met answered) (template_output pages j names t frame) next now told x) (sym some)
    (entered_done pages page spent now met answered told less names t frame read next x enter known)
