-- Work that is done one after another, with what is spent and the names that are known.
use Rattle.std.proofs.Common.{◌≡◌, ℕ, zero, suc, ◌+◌, ◌<◌, Bool, true, false, cond, Option, Some, None, option_map, List, [], ◌∷◌, ◌++◌, Ok, Err, refl, sym, ap, ◌∙◌, subst, ⊎_elim, arith}
use Rattle.std.specs.Prelude.{Result, if◌then◌else◌}
use Rattle.std.specs.Option.{option_or}
use Rattle.wt_span.specs.declared.form.Mode.TheVariants as mode
use Rattle.wt_span.specs.declared.form.Piece.{Piece}
use Rattle.wt_span.specs.declared.list.List.{List as Listed}
use Rattle.wt_span.specs.Items.{items}
use Rattle.wt_names.specs.declared.title.Title.{Title}
use Rattle.wt_names.specs.Namespace.{full_name_of}
use Rattle.wt_expand.specs.Templates.{template_text}
use Rattle.wt_expand.specs.Work.{Pages, Entry, Refused, braces_too_deep, too_large, not_utf8, too_long, entered, fetched, fetches, is_among, found_refusal, refusal_from}
use Rattle.wt_expand.specs.Fronts.{Front, NextRefuses, cost_of_all, known_after}
use Rattle.wt_expand.specs.Expansion.{Output, Frame, template_output, text_given, fetched_output}
use Rattle.wt_expand.proofs.Agreements.{fetches_append}
use Rattle.wt_expand.proofs.FrontLaws.{cost_append, front_before, front_none, front_refusal, front_then, known_append}
use Rattle.wt_transclusion.specs.declared.refusal.ExpandRefusal.{ExpandRefusal}
use Rattle.wt_transclusion.specs.declared.refusal.ExpandRefusal.TheVariants as answer
use Rattle.wt_transclusion.specs.declared.read.ReadText.{ReadText}
use Rattle.wt_transclusion.specs.declared.store.Store.{Store}
use Rattle.wt_transclusion.specs.declared.templates.PageLookup.{PageLookup}
use Rattle.wt_transclusion.specs.declared.templates.PageLookup.TheVariants as taken
use Rattle.wt_transclusion.specs.Answers.{IsFetched, IsRefused}
use Rattle.wt_transclusion.specs.Reads.{IsRead}
use Rattle.wt_transclusion.specs.Stops.{IsCause, told_with}
use Rattle.wt_transclusion.specs.Stores.{IsStore, met_with, named_with}
use Rattle.wt_transclusion.specs.Takings.{AnswersTaking, IsAsked, IsNamed, IsNamedErr, names_taking, taking_refusal}
use Rattle.wt_transclusion.proofs.StopLaws.{stops_after, stops_before, stops_memory, stops_there, told_none, told_then}
use Rattle.wt_template_stack.specs.Accounts.{Account, AreFetched, IsAllowed, spent_of}
use Rattle.wt_template_stack.specs.Ledgers.{Ledger, ledger, ledger_after, Comes, ComesBy, Refuses, reading_of, AnswersOutput}
use Rattle.wt_template_stack.specs.Runs.{Spends, IsTooLarge, RefusesCost}
use Rattle.wt_template_stack.proofs.AgainLaws.{NoneNew, fetched_none_new}

pub by_none : (pages : Pages) (page : List ℕ) (b : Ledger) (w : List Entry) → ComesBy pages page b w [] b w
by_none pages page b w = record {
  front = front_none pages page b.spent w;
  now_is =
      let z : b.spent ≡ b.spent + 0 = omega arith in
      ap (λ (n : ℕ). ledger n b.met b.answered) z ∙ ap (ledger (b.spent + 0) b.met) (sym (told_none b.answered));
}

pub comes_none : (pages : Pages) (page : List ℕ) (b : Ledger) (w : List Entry) → Comes pages page b w b w
comes_none pages page b w = let z = by_none pages page b w in record { done = []; front = z.front; now_is = z.now_is }

-- once more is done
ledger_then : (l : Ledger) (xs ys : List Entry) → ledger_after (ledger_after l xs) ys ≡ ledger_after l (xs ++ ys)
ledger_then l xs ys =
    let cost : (l.spent + cost_of_all xs) + cost_of_all ys ≡ l.spent + cost_of_all (xs ++ ys) = (let c = cost_append xs ys in omega (arith, c)) in
    let known : known_after (known_after l.met (fetches xs)) (fetches ys) ≡ known_after l.met (fetches (xs ++ ys)) =
    sym (ap (known_after l.met) (fetches_append xs ys) ∙ known_append l.met (fetches xs) (fetches ys)) in
    let told = told_then l.met xs ys l.answered in
    ap (λ (n : ℕ). ledger n (known_after (known_after l.met (fetches xs)) (fetches ys)) (told_with (known_after l.met (fetches xs)) ys (told_with l.met xs l.answered))) cost
    ∙ ap (λ (m : List (List ℕ)). ledger (l.spent + cost_of_all (xs ++ ys)) m (told_with (known_after l.met (fetches xs)) ys (told_with l.met xs l.answered))) known
    ∙ ap (ledger (l.spent + cost_of_all (xs ++ ys)) (known_after l.met (fetches (xs ++ ys)))) told

pub by_then : (pages : Pages) (page : List ℕ) (a b c : Ledger) (w v u d e : List Entry) → ComesBy pages page a w d b v → ComesBy pages page b v e c u
    → ComesBy pages page a w (d ++ e) c u
by_then pages page a b c w v u d e f g = record {
  front = front_then pages page a.spent w d v e u f.front (subst (λ (l : Ledger). Front pages page l.spent v e u) f.now_is g.front);
  now_is = g.now_is ∙ ap (λ (l : Ledger). ledger_after l e) f.now_is ∙ ledger_then a d e;
}

pub comes_then : (pages : Pages) (page : List ℕ) (a b c : Ledger) (w v u : List Entry) → Comes pages page a w b v → Comes pages page b v c u
    → Comes pages page a w c u
comes_then pages page a b c w v u f g =
    let z = by_then pages page a b c w v u f.done g.done (record { front = f.front; now_is = f.now_is }) (record { front = g.front; now_is = g.now_is }) in
    record { done = f.done ++ g.done; front = z.front; now_is = z.now_is }

-- what is spent, and the names that are known, where this is done
by_spent : (pages : Pages) (page : List ℕ) (b : Ledger) (w d v : List Entry) (spent : ℕ) (met : List (List ℕ)) (answered : Option (List (List ℕ)))
    → ComesBy pages page b w d (ledger spent met answered) v → spent ≡ b.spent + cost_of_all d
by_spent pages page b w d v spent met answered c = ap (λ (l : Ledger). l.spent) c.now_is

by_met : (pages : Pages) (page : List ℕ) (b : Ledger) (w d v : List Entry) (spent : ℕ) (met : List (List ℕ)) (answered : Option (List (List ℕ)))
    → ComesBy pages page b w d (ledger spent met answered) v → met ≡ known_after b.met (fetches d)
by_met pages page b w d v spent met answered c = ap (λ (l : Ledger). l.met) c.now_is

by_allowed : (pages : Pages) (page : List ℕ) (b : Ledger) (w : List Entry) (total : Account) (now : Ledger) → total.before ≡ b.spent
    → ComesBy pages page b w total.done now total.left.work → IsAllowed pages page total
by_allowed pages page b w total now e c = ap (λ n. refusal_from pages page n total.done) e ∙ c.front.allowed

pub spent_all : (pages : Pages) (page : List ℕ) (b : Ledger) (w : List Entry) (total : Account) (spent : ℕ) (met : List (List ℕ))
    (answered : Option (List (List ℕ))) → total.before ≡ b.spent → ComesBy pages page b w total.done (ledger spent met answered) total.left.work
    → spent ≡ spent_of total
spent_all pages page b w total spent met answered e c =
    by_spent pages page b w total.done total.left.work spent met answered c ∙ ap (λ n. n + cost_of_all total.done) (sym e)

-- work that fetches no page that wasn't fetched before
nothing_new : (pages : Pages) (page : List ℕ) (b : Ledger) (w d v done : List Entry) (spent : ℕ) (met : List (List ℕ)) (answered : Option (List (List ℕ)))
    → ComesBy pages page b w d (ledger spent met answered) v → AreFetched d done → NoneNew met (fetches done)
nothing_new pages page b w d v done spent met answered c f =
    subst (λ (ns : List (List ℕ)). NoneNew ns (fetches done)) (sym (by_met pages page b w d v spent met answered c)) (fetched_none_new b.met d done f)

nothing_told : (met : List (List ℕ)) (done : List Entry) (answered : Option (List (List ℕ))) → NoneNew met (fetches done) → answered ≡ told_with met done answered
nothing_told met done answered z = sym (told_none answered) ∙ ap (λ (ns : List (List ℕ)). option_map (λ xs. xs ++ ns) answered) (sym z.firsts)

by_step : (pages : Pages) (page : List ℕ) (b : Ledger) (w : List Entry) (spent now : ℕ) (met : List (List ℕ)) (answered : Option (List (List ℕ)))
    (total left : Account) → total.before ≡ b.spent → ComesBy pages page b w total.done (ledger spent met answered) total.left.work
    → (s : Spends spent total now left) → ComesBy pages page (ledger spent met answered) total.left.work s.done (ledger now met answered) left.left.work
by_step pages page b w spent now met answered total left e c s =
    let z = nothing_new pages page b w total.done total.left.work s.done spent met answered c s.fetched in
    record {
      front = record {
        whole = ap (λ (o : Output). o.work) s.does.left_is;
        allowed = s.allowed pages page (by_allowed pages page b w total (ledger spent met answered) e c);
      };
      now_is = ap (λ (n : ℕ). ledger n met answered) s.costs ∙ ap (λ (ns : List (List ℕ)). ledger (spent + cost_of_all s.done) ns answered) (sym z.known)
          ∙ ap (ledger (spent + cost_of_all s.done) (known_after met (fetches s.done))) (nothing_told met s.done answered z);
    }

-- what was done before a step and in it
pub comes_spent : (pages : Pages) (page : List ℕ) (b : Ledger) (w : List Entry) (spent now : ℕ) (met : List (List ℕ)) (answered : Option (List (List ℕ)))
    (total left : Account) → total.before ≡ b.spent → ComesBy pages page b w total.done (ledger spent met answered) total.left.work
    → Spends spent total now left → ComesBy pages page b w left.done (ledger now met answered) left.left.work
comes_spent pages page b w spent now met answered total left e c s =
    subst (λ (es : List Entry). ComesBy pages page b w es (ledger now met answered) left.left.work) (sym s.does.done_is)
    (by_then pages page b (ledger spent met answered) (ledger now met answered) w total.left.work left.left.work total.done s.done c
    (by_step pages page b w spent now met answered total left e c s))

-- what is done before more work comes to that work
pub comes_before : (pages : Pages) (page : List ℕ) (a b : Ledger) (w v : List Entry) → Comes pages page a w b [] → Comes pages page a (w ++ v) b v
comes_before pages page a b w v f = record {
  done = f.done;
  front = front_before pages page a.spent w f.done [] v f.front;
  now_is = f.now_is;
}

-- what is left comes to the same refusal as all of the work, whatever follows
pub comes_refusal : (pages : Pages) (page : List ℕ) (before : Ledger) (work : List Entry) (now : Ledger) (left : List Entry)
    → Comes pages page before work now left
    → (rest : List Entry) → refusal_from pages page before.spent (work ++ rest) ≡ refusal_from pages page now.spent (left ++ rest)
comes_refusal pages page before work now left f rest =
    front_refusal pages page before.spent (work ++ rest) f.done (left ++ rest)
    (front_before pages page before.spent work f.done left rest f.front)
    ∙ ap (λ (l : Ledger). refusal_from pages page l.spent (left ++ rest)) (sym f.now_is)

-- ---- work that is refused

-- memory may be missing anywhere
pub memory_refused : (pages : Pages) (page : List ℕ) (l : Ledger) (w : List Entry)
    → Refuses pages page l w l.answered answer.NoMemory
memory_refused pages page l w = stops_memory pages page l.spent l.met w l.answered

pub memory_answered : (pages : Pages) (page : List ℕ) (l : Ledger) (o : Output) (store : Store) (now : ℕ)
    (x : Result (Listed Piece) ExpandRefusal)
    → x ≡ Err answer.NoMemory → AnswersOutput pages page l o store now l.answered x
memory_answered pages page l o store now x e =
    subst (AnswersOutput pages page l o store now l.answered) (sym e) (memory_refused pages page l o.work)

-- work of which a front is done stops where the rest does
pub comes_refused : (pages : Pages) (page : List ℕ) (a b : Ledger) (w v : List Entry)
    (told : Option (List (List ℕ))) (e : ExpandRefusal)
    → Comes pages page a w b v → Refuses pages page b v told e → Refuses pages page a w told e
comes_refused pages page a b w v told e f h =
    stops_after pages page a.spent a.met w f.done v a.answered told e f.front
    (subst (λ (l : Ledger). Refuses pages page l v told e) f.now_is h)

pub by_refused : (pages : Pages) (page : List ℕ) (a b : Ledger) (w d v : List Entry) (told : Option (List (List ℕ))) (e : ExpandRefusal)
    → ComesBy pages page a w d b v → Refuses pages page b v told e → Refuses pages page a w told e
by_refused pages page a b w d v told e f h =
    comes_refused pages page a b w v told e (record { done = d; front = f.front; now_is = f.now_is }) h

-- work stops where what is done first of it does
pub refused_before : (pages : Pages) (page : List ℕ) (l : Ledger) (w v : List Entry)
    (told : Option (List (List ℕ))) (e : ExpandRefusal)
    → Refuses pages page l w told e → Refuses pages page l (w ++ v) told e
refused_before pages page l w v told e h = stops_before pages page l.spent l.met w v l.answered told e h

-- ---- a page is fetched

told_fetched : (full : List ℕ) (met : List (List ℕ)) (answered : Option (List (List ℕ))) → named_with full met answered ≡ told_with met (fetched full ∷ []) answered
told_fetched full met answered = by (is_among full met) answered
  where
    by : (b : Bool) (a : Option (List (List ℕ)))
        → (if b then a else option_map (λ names. names ++ full ∷ []) a) ≡ option_map (λ ns. ns ++ (if b then [] else full ∷ [])) a
    by true a = sym (told_none a)
    by false a = refl

pub comes_fetched : (pages : Pages) (page : List ℕ) (spent : ℕ) (met : List (List ℕ)) (answered : Option (List (List ℕ))) (full : List ℕ) (w : List Entry)
    → Comes pages page (record { spent = spent; met = met; answered = answered }) (fetched full ∷ w)
    (record { spent = spent; met = met_with full met; answered = named_with full met answered }) w
comes_fetched pages page spent met answered full w = record {
  done = fetched full ∷ [];
  front = record { whole = refl; allowed = refl };
  now_is =
      let z : spent ≡ spent + (0 + 0) = omega arith in
      ap (λ (n : ℕ). ledger n (met_with full met) (named_with full met answered)) z
      ∙ ap (ledger (spent + (0 + 0)) (met_with full met)) (told_fetched full met answered);
}

or_none : (o p : Option Refused) → o ≡ None → option_or o p ≡ p
or_none o p e = ap (λ x. option_or x p) e

pub comes_entered : (pages : Pages) (page : List ℕ) (l : Ledger) (full : List ℕ) (w : List Entry) → found_refusal full (pages full) ≡ None
    → Comes pages page l (entered (Some full) ∷ w) l w
comes_entered pages page l full w e = record {
  done = entered (Some full) ∷ [];
  front = record { whole = refl; allowed = or_none (found_refusal full (pages full)) None e };
  now_is =
      let z : l.spent ≡ l.spent + (0 + 0) = omega arith in
      ap (λ (n : ℕ). ledger n l.met l.answered) z ∙ ap (ledger (l.spent + (0 + 0)) l.met) (sym (told_none l.answered));
}

-- ---- what a page gives

by_false : (b : Bool) (x y : Output) → b ≡ false → cond b x y ≡ y
by_false b x y e = ap (λ t. cond t x y) e

-- a page that is there is fetched, entered and read
abbrev entered_output : List ℕ → Output → Output
entered_output full o = record { items = o.items; work = fetched full ∷ (entered (Some full) ∷ o.work) }

page_gives : (pages : Pages) (left : ℕ) (names : List (List ℕ)) (t : Title) (frame : Frame) (bytes : List ℕ) → is_among (full_name_of t) names ≡ false
    → pages (full_name_of t) ≡ Some bytes
    → template_output pages (suc left) names t frame
    ≡ entered_output (full_name_of t) (text_given (reading_of pages mode.Template frame left (full_name_of t ∷ names)) (template_text bytes))
page_gives pages left names t frame bytes e f =
    let full = full_name_of t in
    let read : List ℕ → Output = λ bs. text_given (reading_of pages mode.Template frame left (full ∷ names)) bs in
    by_false (is_among full names) _ (fetched_output full read (pages full)) e ∙ ap (fetched_output full read) f

-- ---- refusals

no_some : {A : Type 0} → (x : A) → None ≡ Some x → ⊥
no_some x e = cc

-- where the cost refuses
large_stops : (pages : Pages) (page : List ℕ) (l : Ledger) (total : Account) → IsTooLarge pages page l.spent total
    → ((done : List Entry) → AreFetched total.done done → NoneNew l.met (fetches done)) → Refuses pages page l total.left.work l.answered answer.TooLarge
large_stops pages page l total x f = record {
  done = x.done;
  left = x.left;
  front = x.front;
  cause = x.refused;
  told = nothing_told l.met x.done l.answered (f x.done x.fetched);
}

cost_stops : (pages : Pages) (page : List ℕ) (l : Ledger) (total : Account) (e : ExpandRefusal) → RefusesCost l.spent total e → IsAllowed pages page total
    → ((done : List Entry) → AreFetched total.done done → NoneNew l.met (fetches done)) → Refuses pages page l total.left.work l.answered e
cost_stops pages page l total (answer.BracesTooDeep title place) h a f = absurd h
cost_stops pages page l total answer.TooLarge h a f = large_stops pages page l total (h pages page a) f
cost_stops pages page l total answer.FolderFault h a f = absurd h
cost_stops pages page l total (answer.TemplateNotUtf8 title place) h a f = absurd h
cost_stops pages page l total (answer.TemplateTooLong title) h a f = absurd h
cost_stops pages page l total answer.NoMemory h a f = memory_refused pages page l total.left.work

pub cost_refuses : (pages : Pages) (page : List ℕ) (b : Ledger) (w : List Entry) (spent : ℕ) (met : List (List ℕ)) (answered : Option (List (List ℕ)))
    (total : Account) (e : ExpandRefusal) → total.before ≡ b.spent → ComesBy pages page b w total.done (ledger spent met answered) total.left.work
    → RefusesCost spent total e → Refuses pages page b w answered e
cost_refuses pages page b w spent met answered total e is c h =
    let now = ledger spent met answered in
    by_refused pages page b now w total.done total.left.work answered e c
    (cost_stops pages page now total e h (by_allowed pages page b w total now is c)
    (λ done f. nothing_new pages page b w total.done total.left.work done spent met answered c f))

output_fetched : (full : List ℕ) (read : List ℕ → Output) (found : Option (List ℕ))
    → (w : List Entry) × ((fetched_output full read found).work ≡ fetched full ∷ w)
output_fetched full read None = ([], refl)
output_fetched full read (Some bytes) = (entered (Some full) ∷ (read (template_text bytes)).work, refl)

-- the page of a title that isn't among those that are being expanded is fetched first
title_fetched : (pages : Pages) (left : ℕ) (names : List (List ℕ)) (t : Title) (frame : Frame)
    → is_among (full_name_of t) names ≡ false
    → (w : List Entry)
    × ((template_output pages (suc left) names t frame).work ≡ fetched (full_name_of t) ∷ w)
title_fetched pages left names t frame shut =
    let full = full_name_of t in
    let read : List ℕ → Output = λ bs. text_given (reading_of pages mode.Template frame left (full ∷ names))
    bs in
    let x = output_fetched full read (pages full) in (
      x.0,
      ap (λ (o : Output). o.work)
          (by_false (is_among full names) _ (fetched_output full read (pages full)) shut) ∙ x.1,
    )

-- a page that is refused is fetched and entered
title_entered : (pages : Pages) (left : ℕ) (names : List (List ℕ)) (t : Title) (frame : Frame) (r : Refused)
    → is_among (full_name_of t) names ≡ false → found_refusal (full_name_of t) (pages (full_name_of t)) ≡ Some r
    → (w : List Entry) × ((template_output pages (suc left) names t frame).work ≡ fetched (full_name_of t) ∷ (entered (Some (full_name_of t)) ∷ w))
title_entered pages left names t frame r shut h = by_page (pages (full_name_of t)) refl h
  where
    by_page : (found : Option (List ℕ)) → pages (full_name_of t) ≡ found → found_refusal (full_name_of t) found ≡ Some r
        → (w : List Entry) × ((template_output pages (suc left) names t frame).work ≡ fetched (full_name_of t) ∷ (entered (Some (full_name_of t)) ∷ w))
    by_page None is g = absurd (no_some _ g)
    by_page (Some bytes) is g =
        let full = full_name_of t in (
          (text_given (reading_of pages mode.Template frame left (full ∷ names)) (template_text bytes)).work,
          ap (λ (o : Output). o.work) (page_gives pages left names t frame bytes shut is),
        )

-- work whose first entry is the fetch of a page stops behind it
stops_fetched : (pages : Pages) (page : List ℕ) (l : Ledger) (full : List ℕ) (w : List Entry) (told : Option (List (List ℕ))) (e : ExpandRefusal)
    → told ≡ named_with full l.met l.answered
    → IsCause pages page l.spent (met_with full l.met) w e → Refuses pages page l (fetched full ∷ w) told e
stops_fetched pages page l full w told e n h =
    let now = ledger l.spent (met_with full l.met) (named_with full l.met l.answered) in
    subst (λ (a : Option (List (List ℕ))). Refuses pages page l (fetched full ∷ w) a e) (sym n)
    (comes_refused pages page l now (fetched full ∷ w) w now.answered e (comes_fetched pages page l.spent l.met l.answered full w)
    (stops_there pages page l.spent (met_with full l.met) w now.answered e h))

-- what `taking_refusal` says of a page that is asked for
asked_refusal : (left : ℕ) (b : Bool) (o : Option Refused) → 0 < left → b ≡ false → taking_refusal left b o ≡ o
asked_refusal zero b o l e = absurd (omega (arith, l))
asked_refusal (suc left) true o l e = cc
asked_refusal (suc left) false o l e = refl

-- a page that is refused
page_stops : (pages : Pages) (page : List ℕ) (l : Ledger) (left : ℕ) (names : List (List ℕ)) (t : Title) (frame : Frame) (told : Option (List (List ℕ)))
    (e : ExpandRefusal) (r : Refused) → IsAsked left names (full_name_of t) l.met → told ≡ named_with (full_name_of t) l.met l.answered
    → taking_refusal left (is_among (full_name_of t) names) (found_refusal (full_name_of t) (pages (full_name_of t))) ≡ Some r
    → ((met : List (List ℕ)) (w : List Entry) → NextRefuses pages page l.spent r w → IsCause pages page l.spent met w e)
    → Refuses pages page l (template_output pages left names t frame).work told e
page_stops pages page l zero names t frame told e r a n h cause = absurd (let z = a.more in omega (arith, z))
page_stops pages page l (suc left) names t frame told e r a n h cause =
    let full = full_name_of t in
    let found : found_refusal full (pages full) ≡ Some r =
    sym (asked_refusal (suc left) (is_among full names) (found_refusal full (pages full)) a.more a.shut) ∙ h in
    let x = title_entered pages left names t frame r a.shut found in
    subst (λ (es : List Entry). Refuses pages page l es told e) (sym x.1)
    (stops_fetched pages page l full (entered (Some full) ∷ x.0) told e n (cause (met_with full l.met) (entered (Some full) ∷ x.0) found))

-- the folder failed
fetch_stops : (pages : Pages) (page : List ℕ) (l : Ledger) (left : ℕ) (names : List (List ℕ)) (t : Title) (frame : Frame) (told : Option (List (List ℕ)))
    → IsAsked left names (full_name_of t) l.met → told ≡ l.answered
    → Refuses pages page l (template_output pages left names t frame).work told answer.FolderFault
fetch_stops pages page l zero names t frame told a n = absurd (let z = a.more in omega (arith, z))
fetch_stops pages page l (suc left) names t frame told a n =
    let full = full_name_of t in
    let x = title_fetched pages left names t frame a.shut in
    subst (λ (es : List Entry). Refuses pages page l es told answer.FolderFault) (sym x.1)
    (subst (λ (ns : Option (List (List ℕ))). Refuses pages page l (fetched full ∷ x.0) ns answer.FolderFault) (sym n)
    (stops_there pages page l.spent l.met (fetched full ∷ x.0) l.answered answer.FolderFault a.unmet))

-- memory is missing, behind the fetch of the page or before it
memory_stops : (pages : Pages) (page : List ℕ) (l : Ledger) (left : ℕ) (names : List (List ℕ)) (t : Title) (frame : Frame) (told : Option (List (List ℕ)))
    → told ≡ names_taking left (is_among (full_name_of t) names) (full_name_of t) l.met l.answered
    → Refuses pages page l (template_output pages left names t frame).work told answer.NoMemory
memory_stops pages page l zero names t frame told n =
    subst (λ (a : Option (List (List ℕ))). Refuses pages page l (template_output pages zero names t frame).work a answer.NoMemory) (sym n)
    (memory_refused pages page l (template_output pages zero names t frame).work)
memory_stops pages page l (suc left) names t frame told n = by_open (is_among (full_name_of t) names) refl n
  where
    by_open : (b : Bool) → is_among (full_name_of t) names ≡ b → told ≡ names_taking (suc left) b (full_name_of t) l.met l.answered
        → Refuses pages page l (template_output pages (suc left) names t frame).work told answer.NoMemory
    by_open true is m =
        subst (λ (a : Option (List (List ℕ))). Refuses pages page l (template_output pages (suc left) names t frame).work a answer.NoMemory) (sym m)
        (memory_refused pages page l (template_output pages (suc left) names t frame).work)
    by_open false is m =
        let x = title_fetched pages left names t frame is in
        subst (λ (es : List Entry). Refuses pages page l es told answer.NoMemory) (sym x.1)
        (stops_fetched pages page l (full_name_of t) x.0 told answer.NoMemory m tt)

title_stops : (pages : Pages) (page : List ℕ) (l : Ledger) (left : ℕ) (names : List (List ℕ)) (t : Title) (frame : Frame) (told : Option (List (List ℕ)))
    (e : ExpandRefusal)
    → IsRefused (taking_refusal left (is_among (full_name_of t) names) (found_refusal (full_name_of t) (pages (full_name_of t)))) e
    → IsNamedErr left names (full_name_of t) l.met l.answered told e
    → Refuses pages page l (template_output pages left names t frame).work told e
title_stops pages page l left names t frame told (answer.BracesTooDeep title place) h n =
    page_stops pages page l left names t frame told (answer.BracesTooDeep title place) (braces_too_deep title place) n.0 n.1 h (λ met w g. g)
title_stops pages page l left names t frame told answer.TooLarge h n =
    page_stops pages page l left names t frame told answer.TooLarge too_large n.0 n.1 h (λ met w g. g)
title_stops pages page l left names t frame told answer.FolderFault h n = fetch_stops pages page l left names t frame told n.0 n.1
title_stops pages page l left names t frame told (answer.TemplateNotUtf8 title place) h n =
    page_stops pages page l left names t frame told (answer.TemplateNotUtf8 title place) (not_utf8 title place) n.0 n.1 h (λ met w g. g)
title_stops pages page l left names t frame told (answer.TemplateTooLong title) h n =
    page_stops pages page l left names t frame told (answer.TemplateTooLong title) (too_long title) n.0 n.1 h (λ met w g. g)
title_stops pages page l left names t frame told answer.NoMemory h n =
    ⊎_elim
    (λ e. subst (λ (a : Option (List (List ℕ))). Refuses pages page l (template_output pages left names t frame).work a answer.NoMemory) (sym e)
    (memory_refused pages page l (template_output pages left names t frame).work))
    (memory_stops pages page l left names t frame told) n

-- the page of a title is refused
pub taking_refused : (pages : Pages) (page : List ℕ) (spent : ℕ) (met : List (List ℕ))
    (answered told : Option (List (List ℕ))) (left : ℕ)
    (open_titles names : List (List ℕ)) (t : Title) (frame : Frame) (e : ExpandRefusal) (store : Store)
    → open_titles ≡ names
    → AnswersTaking pages met open_titles left t store (Err e)
    → IsNamed left open_titles (full_name_of t) met answered told (Err e)
    → Refuses pages page (ledger spent met answered) (template_output pages left names t frame).work told e
taking_refused pages page spent met answered told left open_titles names t frame e store same h n =
    let l = ledger spent met answered in
    subst (λ (ns : List (List ℕ)). Refuses pages page l (template_output pages left ns t frame).work told e)
    same
    (title_stops pages page l left open_titles t frame told e h n)

taken_names : (left : ℕ) (b : Bool) (full : List ℕ) (met : List (List ℕ)) (answered : Option (List (List ℕ)))
    → 0 < left → b ≡ false
    → named_with full met answered ≡ names_taking left b full met answered
taken_names zero b full met answered l e = absurd (omega (arith, l))
taken_names (suc left) true full met answered l e = cc
taken_names (suc left) false full met answered l e = refl

-- memory is missing behind the fetch of a page
pub page_unread : (pages : Pages) (page : List ℕ) (spent : ℕ) (met : List (List ℕ))
    (answered told : Option (List (List ℕ))) (left : ℕ)
    (open_titles names : List (List ℕ)) (t : Title) (frame : Frame) (k : PageLookup) (read : ReadText)
    (store : Store) → open_titles ≡ names
    → k ≡ taken.Page read
    → AnswersTaking pages met open_titles left t store (Ok k)
    → IsNamed left open_titles (full_name_of t) met answered told (Ok k)
    → Refuses pages page (ledger spent met answered) (template_output pages left names t frame).work told
    answer.NoMemory
page_unread pages page spent met answered told left open_titles names t frame k read store same is h n =
    let full = full_name_of t in
    let l = ledger spent met answered in
    let g = subst (λ (x : PageLookup). AnswersTaking pages met open_titles left t store (Ok x)) is h in
    let told_is = subst (λ (x : PageLookup). IsNamed left open_titles full met answered told (Ok x)) is n in
    subst (λ (ns : List (List ℕ)). Refuses pages page l (template_output pages left ns t frame).work told
    answer.NoMemory) same
    (memory_stops pages page l left open_titles t frame told (told_is ∙ taken_names left (is_among full open_titles) full met answered g.0 g.1))

-- ---- the page of a title is expanded

pub message_given : (pages : Pages) (page : List ℕ) (spent : ℕ) (met : List (List ℕ)) (answered now : Option (List (List ℕ))) (o : Output) (store : Store)
    (ps : List Piece)
    → o ≡ record { items = items ps; work = [] } → IsStore pages met store → now ≡ answered
    → AnswersOutput pages page (record { spent = spent; met = met; answered = answered }) o store spent now (Ok ps)
message_given pages page spent met answered now o store ps e s n =
    subst (λ (x : Output). AnswersOutput pages page (record { spent = spent; met = met; answered = answered }) x store spent now (Ok ps)) (sym e) (
      refl,
      met,
      s,
      subst (λ (a : Option (List (List ℕ))). Comes pages page (record { spent = spent; met = met; answered = answered }) []
          (record { spent = spent; met = met; answered = a }) [])
          (sym n) (comes_none pages page (record { spent = spent; met = met; answered = answered }) []),
    )

pub link_given : (pages : Pages) (page : List ℕ) (spent : ℕ) (met : List (List ℕ)) (answered now : Option (List (List ℕ))) (full : List ℕ) (o : Output)
    (store : Store)
    (ps : List Piece) → o ≡ record { items = items ps; work = fetched full ∷ [] } → IsStore pages (met_with full met) store → now ≡ named_with full met answered
    → AnswersOutput pages page (record { spent = spent; met = met; answered = answered }) o store spent now (Ok ps)
link_given pages page spent met answered now full o store ps e s n =
    subst (λ (x : Output). AnswersOutput pages page (record { spent = spent; met = met; answered = answered }) x store spent now (Ok ps)) (sym e) (
      refl,
      met_with full met,
      s,
      subst (λ (a : Option (List (List ℕ))). Comes pages page (record { spent = spent; met = met; answered = answered }) (fetched full ∷ [])
          (record { spent = spent; met = met_with full met; answered = a }) []) (sym n) (comes_fetched pages page spent met answered full []),
    )

-- what is known where a page is entered
pub record Enters (pages : Pages) (page : List ℕ) (spent : ℕ) (met : List (List ℕ)) (answered : Option (List (List ℕ))) (left : ℕ) (names : List (List ℕ))
    (t : Title)
    (frame : Frame) (read : ReadText) : Type 0 where
  pub bytes : List ℕ
  pub is_read : IsRead mode.Template (template_text bytes) read
  pub gives : template_output pages (suc left) names t frame
      ≡ entered_output (full_name_of t) (text_given (reading_of pages mode.Template frame left (full_name_of t ∷ names)) (template_text bytes))
  pub comes : (w : List Entry) → Comes pages page (record { spent = spent; met = met; answered = answered })
      (fetched (full_name_of t) ∷ (entered (Some (full_name_of t)) ∷ w))
      (record { spent = spent; met = met_with (full_name_of t) met; answered = named_with (full_name_of t) met answered }) w

pub enters : (pages : Pages) (page : List ℕ) (spent : ℕ) (met : List (List ℕ)) (answered : Option (List (List ℕ))) (left : ℕ) (names : List (List ℕ))
    (t : Title)
    (frame : Frame) (read : ReadText) → is_among (full_name_of t) names ≡ false → IsFetched (full_name_of t) (pages (full_name_of t)) (Some read)
    → Enters pages page spent met answered left names t frame read
enters pages page spent met answered left names t frame read shut h = by_page (pages (full_name_of t)) refl h
  where
    by_page : (found : Option (List ℕ)) → pages (full_name_of t) ≡ found → IsFetched (full_name_of t) found (Some read)
        → Enters pages page spent met answered left names t frame read
    by_page None is g = absurd g
    by_page (Some bytes) is g =
        let full = full_name_of t in
        let now : Ledger = record { spent = spent; met = met_with full met; answered = named_with full met answered } in
        record {
          bytes = bytes;
          is_read = g.0;
          gives = page_gives pages left names t frame bytes shut is;
          comes = λ w.
              comes_then pages page (record { spent = spent; met = met; answered = answered }) now now (fetched full ∷ (entered (Some full) ∷ w))
              (entered (Some full) ∷ w) w
              (comes_fetched pages page spent met answered full (entered (Some full) ∷ w))
              (comes_entered pages page now full w (ap (found_refusal full) is ∙ g.1));
        }

pub page_given : (pages : Pages) (page : List ℕ) (spent : ℕ) (met : List (List ℕ)) (answered : Option (List (List ℕ))) (left : ℕ) (names : List (List ℕ))
    (t : Title)
    (frame : Frame) (read : ReadText) (store : Store) (now : ℕ) (told : Option (List (List ℕ))) (ps : List Piece)
    → (n : Enters pages page spent met answered left names t frame read)
    → AnswersOutput pages page (record { spent = spent; met = met_with (full_name_of t) met; answered = named_with (full_name_of t) met answered })
    (text_given (reading_of pages mode.Template frame left (full_name_of t ∷ names)) (template_text n.bytes)) store now told (Ok ps)
    → AnswersOutput pages page (record { spent = spent; met = met; answered = answered }) (template_output pages (suc left) names t frame) store now told
    (Ok ps)
page_given pages page spent met answered left names t frame read store now told ps n h =
    let full = full_name_of t in
    let o = text_given (reading_of pages mode.Template frame left (full ∷ names)) (template_text n.bytes) in
    subst (λ (x : Output). AnswersOutput pages page (record { spent = spent; met = met; answered = answered }) x store now told (Ok ps)) (sym n.gives) (
      h.0,
      h.1,
      h.2,
      comes_then pages page (record { spent = spent; met = met; answered = answered })
          (record { spent = spent; met = met_with full met; answered = named_with full met answered })
          (record { spent = now; met = h.1; answered = told }) (fetched full ∷ (entered (Some full) ∷ o.work)) o.work [] (n.comes o.work) h.3,
    )

pub page_refused : (pages : Pages) (page : List ℕ) (spent : ℕ) (met : List (List ℕ))
    (answered told : Option (List (List ℕ))) (left : ℕ)
    (names : List (List ℕ)) (t : Title) (frame : Frame) (read : ReadText) (e : ExpandRefusal)
    → (n : Enters pages page spent met answered left names t frame read)
    → Refuses pages page
    (ledger spent (met_with (full_name_of t) met) (named_with (full_name_of t) met answered))
    (text_given (reading_of pages mode.Template frame left (full_name_of t ∷ names))
    (template_text n.bytes)).work told e
    → Refuses pages page (ledger spent met answered) (template_output pages (suc left) names t frame).work
    told e
page_refused pages page spent met answered told left names t frame read e n h =
    let full = full_name_of t in
    let o = text_given (reading_of pages mode.Template frame left (full ∷ names)) (template_text n.bytes) in
    subst (λ (x : Output). Refuses pages page (ledger spent met answered) x.work told e) (sym n.gives)
    (comes_refused pages page (ledger spent met answered)
    (ledger spent (met_with full met) (named_with full met answered))
    (fetched full ∷ (entered (Some full) ∷ o.work)) o.work told e (n.comes o.work) h)
