-- Where work stops: behind more that is done, and before more that is left; what refuses it, and which names are told.
use Rattle.std.proofs.Common.{◌≡◌, ◌⊎◌, ℕ, zero, suc, ◌+◌, ◌<◌, Bool, true, false, cond, Option, Some, None, option_map, List, [], ◌∷◌, ◌++◌, refl, sym, ap, ◌∙◌, subst, ⊎_elim, arith, append_assoc, append-nil}
use Rattle.std.specs.Prelude.{if◌then◌else◌}
use Rattle.wt_expand.specs.Work.{Pages, Entry, Refused, braces_too_deep, too_large, not_utf8, too_long, entered, begun, fetched, ended, fetches, firsts_after, first_refusal, is_among, names_asked, refusal_from}
use Rattle.wt_expand.specs.Fronts.{Front, NextRefuses, NextFetches, allowed_from, allowed_work, cost_of_all, known_after, names_told}
use Rattle.wt_expand.proofs.Agreements.{fetches_append}
use Rattle.wt_expand.proofs.FrontLaws.{allowed_front, cost_append, fetch_then, firsts_append, front_before, front_ends, front_names, front_none, front_refused, front_then, known_append, next_then}
use Rattle.wt_transclusion.specs.declared.refusal.ExpandRefusal.{ExpandRefusal}
use Rattle.wt_transclusion.specs.declared.refusal.ExpandRefusal.TheVariants as answer
use Rattle.wt_transclusion.specs.Answers.{IsRefused}
use Rattle.wt_transclusion.specs.Asked.{AreFirst}
use Rattle.wt_transclusion.specs.Stops.{AnswersFewer, IsCause, IsOfPages, Stops, told_with}

-- ---- names

told_more : (met : List (List ℕ)) (xs ys : List Entry) (told : Option (List (List ℕ)))
    → told_with (known_after met (fetches xs)) ys (told_with met xs told)
    ≡ option_map (λ ns. ns ++ (firsts_after met (fetches xs) ++ firsts_after (known_after met (fetches xs)) (fetches ys))) told
told_more met xs ys None = refl
told_more met xs ys (Some ns) = ap Some (append_assoc ns (firsts_after met (fetches xs)) (firsts_after (known_after met (fetches xs)) (fetches ys)))

-- those of some work and then of more are those of both
pub told_then : (met : List (List ℕ)) (xs ys : List Entry) (told : Option (List (List ℕ)))
    → told_with (known_after met (fetches xs)) ys (told_with met xs told) ≡ told_with met (xs ++ ys) told
told_then met xs ys told =
    told_more met xs ys told
    ∙ ap (λ ns. option_map (λ ms. ms ++ ns) told) (sym (ap (firsts_after met) (fetches_append xs ys) ∙ firsts_append met (fetches xs) (fetches ys)))

pub told_none : (told : Option (List (List ℕ))) → option_map (λ ns. ns ++ []) told ≡ told
told_none None = refl
told_none (Some ns) = ap Some (append-nil ns)

-- ---- causes

cause_then : (pages : Pages) (page : List ℕ) (spent : ℕ) (met : List (List ℕ)) (left more : List Entry) (e : ExpandRefusal)
    → IsCause pages page spent met left e → IsCause pages page spent met (left ++ more) e
cause_then pages page spent met left more (answer.BracesTooDeep title place) h = next_then pages page spent (braces_too_deep title place) left more h
cause_then pages page spent met left more answer.TooLarge h = next_then pages page spent too_large left more h
cause_then pages page spent met left more answer.FolderFault h = fetch_then met left more h
cause_then pages page spent met left more (answer.TemplateNotUtf8 title place) h = next_then pages page spent (not_utf8 title place) left more h
cause_then pages page spent met left more (answer.TemplateTooLong title) h = next_then pages page spent (too_long title) left more h
cause_then pages page spent met left more answer.NoMemory h = tt

-- ---- work that stops

-- memory may be missing where nothing is done
pub stops_memory : (pages : Pages) (page : List ℕ) (spent : ℕ) (met : List (List ℕ)) (work : List Entry) (told : Option (List (List ℕ)))
    → Stops pages page spent met work told told answer.NoMemory
stops_memory pages page spent met work told = record {
  done = [];
  left = work;
  front = front_none pages page spent work;
  cause = tt;
  told = sym (told_none told);
}

-- its first entry is the cause
pub stops_there : (pages : Pages) (page : List ℕ) (spent : ℕ) (met : List (List ℕ)) (work : List Entry) (told : Option (List (List ℕ))) (e : ExpandRefusal)
    → IsCause pages page spent met work e → Stops pages page spent met work told told e
stops_there pages page spent met work told e h = record {
  done = [];
  left = work;
  front = front_none pages page spent work;
  cause = let z : spent ≡ spent + 0 = omega arith in subst (λ (n : ℕ). IsCause pages page n met work e) z h;
  told = sym (told_none told);
}

-- more work is left behind it
pub stops_before : (pages : Pages) (page : List ℕ) (spent : ℕ) (met : List (List ℕ)) (work more : List Entry) (before now : Option (List (List ℕ)))
    (e : ExpandRefusal) → Stops pages page spent met work before now e → Stops pages page spent met (work ++ more) before now e
stops_before pages page spent met work more before now e s = record {
  done = s.done;
  left = s.left ++ more;
  front = front_before pages page spent work s.done s.left more s.front;
  cause = cause_then pages page (spent + cost_of_all s.done) (known_after met (fetches s.done)) s.left more e s.cause;
  told = s.told;
}

-- some work was done before it
pub stops_after : (pages : Pages) (page : List ℕ) (spent : ℕ) (met : List (List ℕ)) (work done left : List Entry) (before now : Option (List (List ℕ)))
    (e : ExpandRefusal) → Front pages page spent work done left
    → Stops pages page (spent + cost_of_all done) (known_after met (fetches done)) left (told_with met done before) now e
    → Stops pages page spent met work before now e
stops_after pages page spent met work done left before now e f s =
    let cost : (spent + cost_of_all done) + cost_of_all s.done ≡ spent + cost_of_all (done ++ s.done) =
    (let c = cost_append done s.done in omega (arith, c)) in
    let known : known_after (known_after met (fetches done)) (fetches s.done) ≡ known_after met (fetches (done ++ s.done)) =
    sym (ap (known_after met) (fetches_append done s.done) ∙ known_append met (fetches done) (fetches s.done)) in
    record {
      done = done ++ s.done;
      left = s.left;
      front = front_then pages page spent work done left s.done s.left f s.front;
      cause = subst (λ (m : List (List ℕ)). IsCause pages page (spent + cost_of_all (done ++ s.done)) m s.left e) known
          (subst (λ (n : ℕ). IsCause pages page n (known_after (known_after met (fetches done)) (fetches s.done)) s.left e) cost s.cause);
      told = s.told ∙ told_then met done s.done before;
    }

-- ---- what follows of it

-- the work is refused so; that of which the folder fails or memory is missing may be refused or not
pub stops_refused : (pages : Pages) (page : List ℕ) (spent : ℕ) (met : List (List ℕ)) (work : List Entry) (before now : Option (List (List ℕ)))
    (e : ExpandRefusal) → Stops pages page spent met work before now e → IsRefused (refusal_from pages page spent work) e
stops_refused pages page spent met work before now (answer.BracesTooDeep title place) s =
    front_refused pages page spent work s.done s.left (braces_too_deep title place) s.front s.cause
stops_refused pages page spent met work before now answer.TooLarge s = front_refused pages page spent work s.done s.left too_large s.front s.cause
stops_refused pages page spent met work before now answer.FolderFault s = tt
stops_refused pages page spent met work before now (answer.TemplateNotUtf8 title place) s =
    front_refused pages page spent work s.done s.left (not_utf8 title place) s.front s.cause
stops_refused pages page spent met work before now (answer.TemplateTooLong title) s =
    front_refused pages page spent work s.done s.left (too_long title) s.front s.cause
stops_refused pages page spent met work before now answer.NoMemory s = tt

told_first : (names ms : List (List ℕ)) (told : Option (List (List ℕ)))
    → option_map (λ ns. ns ++ (names ++ ms)) told ≡ option_map (λ ns. ns ++ ms) (option_map (λ ns. ns ++ names) told)
told_first names ms None = refl
told_first names ms (Some ns) = ap Some (sym (append_assoc ns names ms))

-- the names told are the first of those that it asks for
pub stops_first : (pages : Pages) (page : List ℕ) (spent : ℕ) (met : List (List ℕ)) (work : List Entry) (before now : Option (List (List ℕ)))
    (e : ExpandRefusal) → Stops pages page spent met work before now e → AreFirst now (told_with met work before)
stops_first pages page spent met work before now e s =
    let more = firsts_after (known_after met (fetches s.done)) (fetches s.left) in (
      more,
      ap (λ ns. option_map (λ ms. ms ++ ns) before) (front_names pages page spent met work s.done s.left s.front)
          ∙ told_first (firsts_after met (fetches s.done)) more before
          ∙ ap (option_map (λ ns. ns ++ more)) (sym s.told),
    )

first_is : (pages : Pages) (page : List ℕ) (es : List Entry) → first_refusal pages page es ≡ refusal_from pages page 0 es
unfolding first_refusal
first_is pages page es = refl

-- of a whole expansion
pub stops_page : (pages : Pages) (page : List ℕ) (met : List (List ℕ)) (work : List Entry) (before now : Option (List (List ℕ)))
    (e : ExpandRefusal) → Stops pages page 0 met work before now e → IsRefused (first_refusal pages page work) e
stops_page pages page met work before now e s =
    subst (λ (o : Option Refused). IsRefused o e) (sym (first_is pages page work)) (stops_refused pages page 0 met work before now e s)

-- what is done before the first refusal asks for the names of the front first
allowed_names : (pages : Pages) (page : List ℕ) (met : List (List ℕ)) (work done left : List Entry) → Front pages page 0 work done left
    → firsts_after met (fetches (allowed_work pages page work))
    ≡ firsts_after met (fetches done) ++ firsts_after (known_after met (fetches done)) (fetches (allowed_from pages page (cost_of_all done) left))
allowed_names pages page met work done left f =
    let rest = allowed_from pages page (cost_of_all done) left in
    ap (λ es. firsts_after met (fetches es)) (allowed_front pages page work done left f)
    ∙ ap (firsts_after met) (fetches_append done rest) ∙ firsts_append met (fetches done) (fetches rest)

-- the names told are the first of those that are asked for before the first refusal
pub stops_within : (pages : Pages) (page : List ℕ) (met : List (List ℕ)) (work : List Entry) (before now : Option (List (List ℕ)))
    (e : ExpandRefusal) → Stops pages page 0 met work before now e → AreFirst now (told_with met (allowed_work pages page work) before)
stops_within pages page met work before now e s =
    let more = firsts_after (known_after met (fetches s.done)) (fetches (allowed_from pages page (cost_of_all s.done) s.left)) in (
      more,
      ap (λ ns. option_map (λ ms. ms ++ ns) before) (allowed_names pages page met work s.done s.left s.front)
          ∙ told_first (firsts_after met (fetches s.done)) more before
          ∙ ap (option_map (λ ns. ns ++ more)) (sym s.told),
    )

told_at : (pages : Pages) (page : List ℕ) (met : List (List ℕ)) (work : List Entry) (before now : Option (List (List ℕ))) (e : ExpandRefusal) (r : Refused)
    (s : Stops pages page 0 met work before now e) → NextRefuses pages page (0 + cost_of_all s.done) r s.left
    → now ≡ told_with met (allowed_work pages page work) before
told_at pages page met work before now e r s h =
    let z : 0 + cost_of_all s.done ≡ cost_of_all s.done = omega arith in
    let ends = front_ends pages page work s.done s.left r s.front (subst (λ (n : ℕ). NextRefuses pages page n r s.left) z h) in
    s.told ∙ ap (λ es. told_with met es before) (sym ends)

-- and all of these where the work is refused
pub stops_told : (pages : Pages) (page : List ℕ) (met : List (List ℕ)) (work : List Entry) (before now : Option (List (List ℕ)))
    (e : ExpandRefusal) → Stops pages page 0 met work before now e → IsOfPages e → now ≡ told_with met (allowed_work pages page work) before
stops_told pages page met work before now (answer.BracesTooDeep title place) s h =
    told_at pages page met work before now (answer.BracesTooDeep title place) (braces_too_deep title place) s s.cause
stops_told pages page met work before now answer.TooLarge s h = told_at pages page met work before now answer.TooLarge too_large s s.cause
stops_told pages page met work before now answer.FolderFault s h = absurd h
stops_told pages page met work before now (answer.TemplateNotUtf8 title place) s h =
    told_at pages page met work before now (answer.TemplateNotUtf8 title place) (not_utf8 title place) s s.cause
stops_told pages page met work before now (answer.TemplateTooLong title) s h =
    told_at pages page met work before now (answer.TemplateTooLong title) (too_long title) s s.cause
stops_told pages page met work before now answer.NoMemory s h = absurd h

new_name : (known ns : List (List ℕ)) (t : List ℕ) → is_among t known ≡ false → firsts_after known (t ∷ ns) ≡ t ∷ firsts_after (t ∷ known) ns
new_name known ns t e = ap (λ (b : Bool). if b then firsts_after known ns else t ∷ firsts_after (t ∷ known) ns) e

-- the entry of a fetch that failed is done where nothing before it is refused
fetch_allowed : (pages : Pages) (page : List ℕ) (spent : ℕ) (known : List (List ℕ)) (left : List Entry) → NextFetches known left
    → (title : List ℕ) × (more : List (List ℕ)) × (firsts_after known (fetches (allowed_from pages page spent left)) ≡ title ∷ more)
fetch_allowed pages page spent known [] h = absurd h
fetch_allowed pages page spent known (entered t ∷ es) h = absurd h
fetch_allowed pages page spent known (begun ∷ es) h = absurd h
fetch_allowed pages page spent known (fetched t ∷ es) h =
    let rest = fetches (allowed_from pages page (spent + 0) es) in (t, firsts_after (t ∷ known) rest, new_name known rest t h)
fetch_allowed pages page spent known (ended n ∷ es) h = absurd h

-- where the folder failed, the next name is one of these, too, and wasn't answered
pub stops_fetching : (pages : Pages) (page : List ℕ) (met : List (List ℕ)) (work : List Entry) (before now : Option (List (List ℕ)))
    → Stops pages page 0 met work before now answer.FolderFault → AnswersFewer (firsts_after met (fetches (allowed_work pages page work))) before now
stops_fetching pages page met work before now s =
    let known = known_after met (fetches s.done) in
    let x = fetch_allowed pages page (cost_of_all s.done) known s.left s.cause in
    record {
      told = firsts_after met (fetches s.done);
      title = x.0;
      more = x.1;
      now_is = s.told;
      names_are = allowed_names pages page met work s.done s.left s.front ∙ ap (λ ns. firsts_after met (fetches s.done) ++ ns) x.2;
    }

names_are : (pages : Pages) (page : List ℕ) (es : List Entry) → names_told pages page es ≡ firsts_after [] (fetches (allowed_work pages page es))
unfolding names_told names_asked
names_are pages page es = refl

-- ---- of an expansion before which nothing was known

pub page_told : (pages : Pages) (page : List ℕ) (work : List Entry) (before now : Option (List (List ℕ))) (e : ExpandRefusal)
    → Stops pages page 0 [] work before now e → IsOfPages e → now ≡ option_map (λ ns. ns ++ names_told pages page work) before
page_told pages page work before now e s h =
    stops_told pages page [] work before now e s h ∙ ap (λ ms. option_map (λ ns. ns ++ ms) before) (sym (names_are pages page work))

pub page_fails : (pages : Pages) (page : List ℕ) (work : List Entry) (before now : Option (List (List ℕ)))
    → Stops pages page 0 [] work before now answer.FolderFault → AnswersFewer (names_told pages page work) before now
page_fails pages page work before now s =
    subst (λ (ns : List (List ℕ)). AnswersFewer ns before now) (sym (names_are pages page work)) (stops_fetching pages page [] work before now s)

pub page_within : (pages : Pages) (page : List ℕ) (work : List Entry) (before now : Option (List (List ℕ))) (e : ExpandRefusal)
    → Stops pages page 0 [] work before now e → AreFirst now (option_map (λ ns. ns ++ names_told pages page work) before)
page_within pages page work before now e s =
    subst (λ (ms : List (List ℕ)). AreFirst now (option_map (λ ns. ns ++ ms) before)) (sym (names_are pages page work))
    (stops_within pages page [] work before now e s)

pub page_stops : (pages : Pages) (page : List ℕ) (work : List Entry) (before now : Option (List (List ℕ))) (e : ExpandRefusal)
    → Stops pages page 0 [] work before now e → IsRefused (first_refusal pages page work) e
page_stops pages page work before now e s = stops_page pages page [] work before now e s
