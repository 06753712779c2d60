-- From what an edit without marks answers, as one call, to the answer of the program.
use Rattle.std.proofs.Common.{◌≡◌, ℕ, List, Bool, refl, sym, ap, ◌∙◌, subst}
use Rattle.std.specs.Prelude.{Option, Some, None, IfErr, IsErrAnd, Result, Ok, Err}
use Rattle.wt_checks.specs.declared.refusal.TreeRefusal.{TreeRefusal}
use Rattle.wt_devices.specs.Device.{Rose}
use Rattle.wt_expand.specs.Work.{Pages}
use Rattle.wt_page_round_trip.specs.PageTree.{page_tree}
use Rattle.wt_selser.specs.declared.refusal.EditRefusal.{EditRefusal}
use Rattle.wt_visible.specs.Children.{shown_children, differing}
use Rattle.wt_visible.specs.Restored.{restored_from}
use Rattle.wt_span.specs.Origins.{Expanded}
use Rattle.wt_tree.specs.Tree.{Tree}
use Rattle.wt_edit.specs.declared.refusal.EditRefusal.{EditRefusal as WholeRefusal}
use Rattle.wt_edit.specs.Edits.{IsPage, new_answer as new_edit}
use Rattle.wt_edit.specs.declared.selser_refusal.SelserRefusal.{SelserRefusal}
use Rattle.wt_edit.specs.declared.selser_refusal.SelserRefusal.TheVariants as of_selser
use Rattle.wt_unmarked_edit.specs.Counts.{IsCountedErr}
use Rattle.wt_unmarked_edit.specs.Found.{FindsNew as FindsPage, FindsNone as FindsNoPage, IsCheck, ReadsBack, UnlessChecked}
use Rattle.wt_commands.specs.declared.output.Output.{Output}
use Rattle.wt_commands.specs.declared.output.Output.TheVariants.{Text}
use Rattle.wt_commands.specs.declared.refusal.Refusal.{Refusal}
use Rattle.wt_commands.specs.declared.refusal.Refusal.TheVariants.{Checked}
use Rattle.wt_commands.specs.Answers.{done, refused, edit_by, new_answer, new_expanded, nodes_answer, refusal_of_page, unspelled_answer}
use Rattle.wt_commands.specs.Causes.{IsKept, IsOfEdit, Refuses}
use Rattle.wt_commands.specs.Refusals.{refusal_of_selser, status_of}
use Rattle.wt_pagetool.specs.Selser.{FindsNew, FindsNone, OrFound}
use Rattle.wt_commands.proofs.EditLaws.{new_done, unspelled_done}
use Rattle.wt_commands.proofs.PageLaws.{text_of, title_made}
use Rattle.wt_commands.proofs.WholeEdits.{answer_as, as_new}

-- ---- a new page that reads back is the answer of an edit that makes it

pub reads_back : (pages : Pages) (t u : Tree) (new : List ℕ) → ReadsBack pages t u new → new_answer pages t u new ≡ done new
reads_back pages t u new h = as_new pages t u new h.page ∙ ap answer_as h.shows

as_done : (answer : Result (List ℕ) WholeRefusal) (new : List ℕ) → answer_as answer ≡ done new → answer ≡ Ok new
as_done (Ok bytes) new e = cc
as_done (Err r) new e = cc

pub back : (pages : Pages) (t u : Tree) (new : List ℕ) → new_answer pages t u new ≡ done new → ReadsBack pages t u new
back pages t u new e =
    let m = title_made new new (new_expanded pages t u) e in
    let its : IsPage new = record { text = text_of new m.text; within = m.within } in
    record { page = its; shows = as_done (new_edit pages t u new) new (sym (as_new pages t u new its) ∙ e) }

-- a new page that is answered is this one
done_is_new : (pages : Pages) (t u : Tree) (new given : List ℕ) → new_answer pages t u new ≡ done given → given ≡ new
done_is_new pages t u new given e =
    let m = title_made new given (new_expanded pages t u) e in
    let n = new_done (unspelled_answer pages t u new) given (refusal_of_page pages new) m.is in
    (unspelled_done new given (differing 1 (shown_children (page_tree pages new)) (shown_children (restored_from t u))) n.1).0

-- where `edit` is done, what it makes reads back
pub done_back : (pages : Pages) (t u : Tree) (answer : Result (List ℕ) EditRefusal) (new : List ℕ) → edit_by pages t u answer ≡ done new
    → (given : List ℕ) × ((answer ≡ Ok given) × ReadsBack pages t u given)
done_back pages t u (Err e) new d = absurd cc
done_back pages t u (Ok given) new d =
    (given, (refl, back pages t u given (subst (λ bs. new_answer pages t u given ≡ done bs) (done_is_new pages t u given new d) d)))

-- ---- what was found

-- a new page
pub page_found : (pages : Pages) (items : Expanded) (page : List ℕ) (t u : Tree) (same : Bool) (o : Option TreeRefusal) (new : List ℕ)
    → UnlessChecked o (FindsPage pages items page t u same (Ok new)) (Ok new)
    → OrFound (nodes_answer page o) (FindsNew pages items page t u same (Ok (Text new))) (Ok (Text new))
page_found pages items page t u same None new h = h
page_found pages items page t u same (Some c) new h = absurd h

-- none
none_named : (pages : Pages) (items : Expanded) (page : List ℕ) (t u : Tree) (same : Bool) (why : SelserRefusal)
    → FindsNoPage pages items page t u same why → FindsNone pages items page t u same (refusal_of_selser why) (status_of (refusal_of_selser why))
none_named pages items page t u same (of_selser.Check c) h = absurd h
none_named pages items page t u same (of_selser.BadContent n why) h = record { why = of_selser.BadContent n why; none = h; named = refl }
none_named pages items page t u same of_selser.NewPageTooLong h = record { why = of_selser.NewPageTooLong; none = h; named = refl }
none_named pages items page t u same of_selser.NewExpansion h = record { why = of_selser.NewExpansion; none = h; named = refl }
none_named pages items page t u same (of_selser.Unspelled k) h = record { why = of_selser.Unspelled k; none = h; named = refl }
none_named pages items page t u same of_selser.FolderFault h = tt
none_named pages items page t u same of_selser.NoMemory h = tt

-- a node of the edited tree is refused
check_named : (c : TreeRefusal) (why : SelserRefusal) → IsCheck c why → Refuses (refusal_of_selser why) (refused (Checked c))
check_named c (of_selser.Check found) h = ap (λ x. refused (Checked x)) (sym h)
check_named c (of_selser.BadContent n why) h = absurd h
check_named c of_selser.NewPageTooLong h = absurd h
check_named c of_selser.NewExpansion h = absurd h
check_named c (of_selser.Unspelled k) h = absurd h
check_named c of_selser.FolderFault h = tt
check_named c of_selser.NoMemory h = tt

abbrev named : SelserRefusal → Result Output Refusal
named why = Err (refusal_of_selser why)

refusal_named : (pages : Pages) (items : Expanded) (page : List ℕ) (t u : Tree) (same : Bool) (o : Option TreeRefusal) (why : SelserRefusal)
    → UnlessChecked o (FindsPage pages items page t u same (Err why)) (Err why)
    → OrFound (nodes_answer page o) (FindsNew pages items page t u same (named why)) (named why)
refusal_named pages items page t u same None why h = none_named pages items page t u same why h
refusal_named pages items page t u same (Some c) why h = check_named c why h

pub refusal_found : (pages : Pages) (items : Expanded) (page : List ℕ) (t u : Tree) (same : Bool) (o : Option TreeRefusal) (why : SelserRefusal)
    (result : Result Output Refusal) → UnlessChecked o (FindsPage pages items page t u same (Err why)) (Err why)
    → IsErrAnd result (λ r. r ≡ refusal_of_selser why)
    → OrFound (nodes_answer page o) (FindsNew pages items page t u same result) result
refusal_found pages items page t u same o why (Ok output) h is = absurd is
refusal_found pages items page t u same o why (Err r) h is =
    subst (λ (x : Refusal). OrFound (nodes_answer page o) (FindsNew pages items page t u same (Err x)) (Err x)) (sym is)
    (refusal_named pages items page t u same o why h)

-- ---- the folder's count

counted : (before after : ℕ) (why : SelserRefusal) → IsCountedErr before after why → IsOfEdit ⊥ (Rose before after) (refusal_of_selser why)
counted before after (of_selser.Check c) h = tt
counted before after (of_selser.BadContent n why) h = tt
counted before after of_selser.NewPageTooLong h = tt
counted before after of_selser.NewExpansion h = tt
counted before after (of_selser.Unspelled k) h = tt
counted before after of_selser.FolderFault h = h
counted before after of_selser.NoMemory h = tt

pub selser_counted : (before after : ℕ) (why : SelserRefusal) (result : Result Output Refusal) → IsErrAnd result (λ r. r ≡ refusal_of_selser why)
    → IsCountedErr before after why → IfErr result (IsOfEdit ⊥ (Rose before after))
selser_counted before after why (Ok output) is h = absurd is
selser_counted before after why (Err r) is h = subst (IsOfEdit ⊥ (Rose before after)) (sym is) (counted before after why h)

abbrev refused_as : Refusal → Result Output Refusal
refused_as r = Err r

kept : (before after : ℕ) (why : SelserRefusal) → IsCountedErr before after why → IsKept (named why) before after
kept before after (of_selser.Check c) h = λ _. h
kept before after (of_selser.BadContent n why) h = λ _. h
kept before after of_selser.NewPageTooLong h = λ _. h
kept before after of_selser.NewExpansion h = λ _. h
kept before after (of_selser.Unspelled k) h = λ _. h
kept before after of_selser.FolderFault h = λ a. absurd a
kept before after of_selser.NoMemory h = λ a. absurd a

pub selser_kept : (before after : ℕ) (why : SelserRefusal) (result : Result Output Refusal) → IsErrAnd result (λ r. r ≡ refusal_of_selser why)
    → IsCountedErr before after why → IsKept result before after
selser_kept before after why (Ok output) is h = absurd is
selser_kept before after why (Err r) is h =
    subst (λ x. IsKept (refused_as x) before after) (sym is) (kept before after why h)
