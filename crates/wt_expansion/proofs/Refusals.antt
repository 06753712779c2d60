-- Where memory runs out: what a walk answers then of its refusal and of the names that are answered.
use Rattle.std.proofs.Common.{◌≡◌, ℕ, Option, List, [], Ok, Err, sym, subst}
use Rattle.std.specs.Prelude.{Result, OnErr}
use Rattle.wt_span.specs.declared.form.Mode.TheVariants as mode
use Rattle.wt_span.specs.declared.form.Piece.{Piece}
use Rattle.wt_span.specs.declared.list.List.{List as Listed}
use Rattle.wt_names.specs.declared.title.Title.{Title}
use Rattle.wt_expand.specs.Expansion.{Output}
use Rattle.wt_expand.specs.PageCalls.{Stretch}
use Rattle.wt_expand.specs.Work.{Pages, Entry}
use Rattle.wt_transclusion.specs.declared.read.Braces.{Braces}
use Rattle.wt_transclusion.specs.declared.refusal.ExpandRefusal.{ExpandRefusal}
use Rattle.wt_transclusion.specs.declared.refusal.ExpandRefusal.TheVariants as answer
use Rattle.wt_transclusion.specs.declared.store.Store.{Store}
use Rattle.wt_template_stack.specs.Calls.{IsCallOf}
use Rattle.wt_template_stack.specs.Ledgers.{AnswersOutput, Comes, Ledger, Refuses, ledger}
use Rattle.wt_template_stack.proofs.LedgerLaws.{comes_refused, memory_refused}
use Rattle.wt_expansion.specs.declared.found.Collected.{Collected}
use Rattle.wt_expansion.specs.Walks.{AnswersStep, AnswersTarget, AnswersWalk, target_output}

-- what holds in any case holds of an error
pub on_err : {T E P : Type 0} → (r : Result T E) → P → OnErr r P
on_err (Ok x) p = tt
on_err (Err e) p = p

-- memory runs out where some work is left
pub some_left : (pages : Pages) (page : List ℕ) (before now : Ledger) (w v : List Entry)
    → Comes pages page before w now v → Refuses pages page before w now.answered answer.NoMemory
some_left pages page before now w v f =
    comes_refused pages page before now w v now.answered answer.NoMemory f (memory_refused pages page now v)

-- memory runs out where a text is given
pub given_stops : (pages : Pages) (page : List ℕ) (l : Ledger) (o : Output) (store : Store) (spent : ℕ)
    (answered : Option (List (List ℕ))) (ps : Listed Piece)
    → AnswersOutput pages page l o store spent answered (Ok ps)
    → Refuses pages page l o.work answered answer.NoMemory
given_stops pages page l o store spent answered ps h =
    some_left pages page l (ledger spent h.1 answered) o.work [] h.3

-- ---- memory runs out before anything is done

pub none_walked : (pages : Pages) (page : List ℕ) (spent : ℕ) (met : List (List ℕ))
    (answered : Option (List (List ℕ))) (ss : List Stretch) (work : List Entry) (at to : ℕ) (old new : Collected)
    (store : Store) (now : ℕ) (r : Result Unit ExpandRefusal) → r ≡ Err answer.NoMemory
    → AnswersWalk pages page (ledger spent met answered) ss work at to old new store now answered r
none_walked pages page spent met answered ss work at to old new store now r e =
    let l = ledger spent met answered in
    subst (AnswersWalk pages page l ss work at to old new store now answered) (sym e)
    (memory_refused pages page l work)

pub none_stepped : (pages : Pages) (page : List ℕ) (spent : ℕ) (met : List (List ℕ))
    (answered : Option (List (List ℕ))) (ss : List Stretch) (work : List Entry) (at end : ℕ) (old new : Collected)
    (store : Store) (now : ℕ) (r : Result ℕ ExpandRefusal) → r ≡ Err answer.NoMemory
    → AnswersStep pages page (ledger spent met answered) ss work at end old new store now answered r
none_stepped pages page spent met answered ss work at end old new store now r e =
    let l = ledger spent met answered in
    subst (AnswersStep pages page l ss work at end old new store now answered) (sym e)
    (memory_refused pages page l work)

pub none_targeted : (pages : Pages) (page : List ℕ) (spent : ℕ) (met : List (List ℕ))
    (answered : Option (List (List ℕ))) (b : Braces) (c : IsCallOf mode.Page page b) (old new : Collected)
    (store : Store) (now : ℕ) (r : Result (Option Title) ExpandRefusal) → r ≡ Err answer.NoMemory
    → AnswersTarget pages page (ledger spent met answered) b c old new store now answered r
none_targeted pages page spent met answered b c old new store now r e =
    let l = ledger spent met answered in
    subst (AnswersTarget pages page l b c old new store now answered) (sym e)
    (memory_refused pages page l (target_output pages page b c).work)
