-- What titles give that aren't taken from a page.
use Rattle.std.proofs.Common.{◌≡◌, ℕ, zero, suc, ◌+◌, ◌<◌, ◌⊎◌, inl, inr, ⊎_elim, Bool, true, false, cond, Option, Some, None, List, [], ◌∷◌, ◌++◌, Ok, Err, length, get_or, drop, refl, sym, ap, ◌∙◌, subst, arith}
use Rattle.std.specs.Prelude.{Result, reverse}
use Rattle.std.specs.Str.{bytes_eq}
use Rattle.std.proofs.lemmas.List.{drop_more, reverse-append}
use Rattle.wt_span.specs.declared.form.Piece.{Piece}
use Rattle.wt_span.specs.Items.{items}
use Rattle.wt_names.specs.declared.title.Title.{Title}
use Rattle.wt_names.specs.Namespace.{full_name_of}
use Rattle.wt_expand.specs.Expansion.{absent_text, Output, Frame, just, chars, loop_text, depth_text, template_output}
use Rattle.wt_expand.specs.Work.{Pages, fetched, found_refusal, is_among}
use Rattle.wt_expand.proofs.Absent.{absent_page}
use Rattle.wt_transclusion.specs.declared.read.ReadText.{ReadText}
use Rattle.wt_transclusion.specs.declared.refusal.ExpandRefusal.{ExpandRefusal}
use Rattle.wt_transclusion.specs.declared.refusal.ExpandRefusal.TheVariants as answer
use Rattle.wt_transclusion.specs.declared.store.Store.{Store}
use Rattle.wt_transclusion.specs.declared.templates.PageLookup.{PageLookup}
use Rattle.wt_transclusion.specs.Answers.{IsFetched, IsRefused}
use Rattle.wt_transclusion.specs.Stores.{IsStore, AnswersTitle, TellsErr, met_with, named_with}
use Rattle.wt_transclusion.specs.Takings.{IsAsked, IsNamed, IsNamedErr, names_taking, taking_refusal}

-- ---- among names

among_append : (name : List ℕ) (xs ys : List (List ℕ)) → is_among name (xs ++ ys) ≡ cond (is_among name xs) true (is_among name ys)
among_append name [] ys = refl
among_append name (x ∷ xs) ys = by_test (bytes_eq x name) (is_among name (xs ++ ys)) (is_among name xs) (among_append name xs ys)
  where
    by_test : (t a b : Bool) → a ≡ cond b true (is_among name ys) → cond t true a ≡ cond (cond t true b) true (is_among name ys)
    by_test true a b e = refl
    by_test false a b e = e

swapped : (a b : Bool) → cond a true b ≡ cond b true a
swapped true true = refl
swapped true false = refl
swapped false true = refl
swapped false false = refl

single : (t : Bool) → cond t true false ≡ t
single true = refl
single false = refl

pub among_reverse : (name : List ℕ) (xs : List (List ℕ)) → is_among name (reverse xs) ≡ is_among name xs
among_reverse name [] = refl
among_reverse name (x ∷ xs) =
    ap (is_among name) (reverse-append (x ∷ []) xs) ∙ among_append name (reverse xs) (x ∷ [])
    ∙ ap (λ t. cond t true (is_among name (x ∷ []))) (among_reverse name xs) ∙ ap (λ t. cond (is_among name xs) true t) (single (bytes_eq x name))
    ∙ swapped (is_among name xs) (bytes_eq x name)

-- the first name of some is it, or isn't
pub among_here : (name : List ℕ) (xs : List (List ℕ)) (i : ℕ) (x : List ℕ) → i < length xs → x ≡ get_or xs i x → bytes_eq x name ≡ true
    → is_among name (drop i xs) ≡ true
among_here name xs i x l is e =
    ap (is_among name) (drop_more xs i x l) ∙ ap (λ y. cond (bytes_eq y name) true (is_among name (drop (i + 1) xs))) (sym is)
    ∙ ap (λ t. cond t true (is_among name (drop (i + 1) xs))) e

pub among_next : (name : List ℕ) (xs : List (List ℕ)) (i : ℕ) (x : List ℕ) → i < length xs → x ≡ get_or xs i x → bytes_eq x name ≡ false
    → is_among name (drop (i + 1) xs) ≡ is_among name (drop i xs)
among_next name xs i x l is e =
    sym (ap (is_among name) (drop_more xs i x l) ∙ ap (λ y. cond (bytes_eq y name) true (is_among name (drop (i + 1) xs))) (sym is)
    ∙ ap (λ t. cond t true (is_among name (drop (i + 1) xs))) e)

-- ---- what a title gives

by_true : (b : Bool) (x y : Output) → b ≡ true → cond b x y ≡ x
by_true true x y e = refl
by_true false x y e = cc

pub loop_given : (pages : Pages) (left : ℕ) (open_titles : List (List ℕ)) (t : Title) (frame : Frame) → is_among (full_name_of t) open_titles ≡ true
    → template_output pages left open_titles t frame ≡ just (chars (loop_text t))
loop_given pages zero open_titles t frame e = ap (λ b. just (chars (cond b (loop_text t) (depth_text t)))) e
loop_given pages (suc left) open_titles t frame e = by_true (is_among (full_name_of t) open_titles) _ _ e

pub depth_given : (pages : Pages) (left : ℕ) (open_titles : List (List ℕ)) (t : Title) (frame : Frame) → is_among (full_name_of t) open_titles ≡ false
    → left ≡ 0
    → template_output pages left open_titles t frame ≡ just (chars (depth_text t))
depth_given pages zero open_titles t frame e z = ap (λ b. just (chars (cond b (loop_text t) (depth_text t)))) e
depth_given pages (suc left) open_titles t frame e z = absurd (omega (arith, z))

-- ---- what the code takes

among_open : (names : List (List ℕ)) (t : Title) (full : List ℕ) (b : Bool) → full ≡ full_name_of t → is_among full names ≡ b
    → is_among (full_name_of t) (reverse names) ≡ b
among_open names t full b f e = among_reverse (full_name_of t) names ∙ ap (λ n. is_among n names) (sym f) ∙ e

pub loop_taken : (pages : Pages) (left : ℕ) (names : List (List ℕ)) (t : Title) (full : List ℕ)
    (ps : List Piece) → full ≡ full_name_of t
    → is_among full names ≡ true → items ps ≡ chars (loop_text t) → (frame : Frame)
    → template_output pages left (reverse names) t frame ≡ just (items ps)
loop_taken pages left names t full ps f e i =
    λ frame. loop_given pages left (reverse names) t frame (among_open names t full true f e)
    ∙ ap just (sym i)

pub depth_taken : (pages : Pages) (left : ℕ) (names : List (List ℕ)) (t : Title) (full : List ℕ)
    (ps : List Piece) → full ≡ full_name_of t
    → is_among full names ≡ false → left ≡ 0
    → items ps ≡ chars (depth_text t) → (frame : Frame)
    → template_output pages left (reverse names) t frame ≡ just (items ps)
depth_taken pages left names t full ps f e z i =
    λ frame. depth_given pages left (reverse names) t frame (among_open names t full false f e) z
    ∙ ap just (sym i)

fetched_none : (full : List ℕ) (page : Option (List ℕ)) → IsFetched full page None → page ≡ None
fetched_none full None h = refl
fetched_none full (Some bytes) h = absurd h

pub link_taken : (pages : Pages) (met names : List (List ℕ)) (left : ℕ) (t : Title) (full : List ℕ)
    (ps : List Piece) (o : Option ReadText)
    (new : Store) → full ≡ full_name_of t → is_among full names ≡ false
    → (left ≡ 0 → ⊥) → o ≡ None → AnswersTitle pages met full new (Ok o) → items ps ≡ chars (absent_text full)
    → ((frame : Frame) → template_output pages left (reverse names) t frame ≡ record { items = items ps; work = fetched (full_name_of t) ∷ [] }) × IsStore
    pages (met_with (full_name_of t) met) new
link_taken pages met names zero t full ps o new f e z n h i = absurd (z refl)
link_taken pages met names (suc left) t full ps o new f e z n h i =
    let none = fetched_none full (pages full) (subst (λ r. IsFetched full (pages full) r) n h.0) in
    let gone : pages (full_name_of t) ≡ None = ap pages (sym f) ∙ none in
    let same : chars (absent_text (full_name_of t)) ≡ items ps = ap (λ k. chars (absent_text k)) (sym f)
    ∙ sym i in (
      λ frame. absent_page pages left (reverse names) t frame (among_open names t full false f e) gone
          ∙ ap (λ xs. let r : Output = record { items = xs; work = fetched (full_name_of t) ∷ [] } in r) same,
      subst (λ k. IsStore pages (met_with k met) new) f h.1,
    )

pub page_taken : (pages : Pages) (met names : List (List ℕ)) (left : ℕ) (t : Title) (full : List ℕ) (o : Option ReadText) (read : ReadText) (new : Store)
    → full ≡ full_name_of t → is_among full names ≡ false
    → (left ≡ 0 → ⊥) → o ≡ Some read → AnswersTitle pages met full new (Ok o)
    → (0 < left) × (is_among (full_name_of t) (reverse names) ≡ false) × IsFetched (full_name_of t) (pages (full_name_of t)) (Some read) × IsStore pages
    (met_with (full_name_of t) met) new
page_taken pages met names zero t full o read new f e z n h = absurd (z refl)
page_taken pages met names (suc left) t full o read new f e z n h = (
  omega arith,
  among_open names t full false f e,
  subst (λ k. IsFetched k (pages k) (Some read)) f
      (subst (λ r. IsFetched full (pages full) r) n h.0),
  subst (λ k. IsStore pages (met_with k met) new) f h.1,
)

pub refused_taken : (pages : Pages) (names : List (List ℕ)) (left : ℕ) (t : Title) (full : List ℕ) (x : ExpandRefusal) → full ≡ full_name_of t
    → is_among full names ≡ false → (left ≡ 0 → ⊥) → IsRefused (found_refusal full (pages full)) x
    → IsRefused (taking_refusal left (is_among (full_name_of t) (reverse names)) (found_refusal (full_name_of t) (pages (full_name_of t)))) x
refused_taken pages names zero t full x f e z h = absurd (z refl)
refused_taken pages names (suc left) t full x f e z h =
    subst (λ (b : Bool). IsRefused (taking_refusal (suc left) b (found_refusal (full_name_of t) (pages (full_name_of t)))) x)
    (sym (among_open names t full false f e)) (subst (λ (k : List ℕ). IsRefused (found_refusal k (pages k)) x) f h)

-- ---- names answered

-- a title whose page is asked for
pub taking_named : (left : ℕ) (names : List (List ℕ)) (t : Title) (full : List ℕ) (met : List (List ℕ))
    (old : Option (List (List ℕ)))
    → full ≡ full_name_of t → is_among full names ≡ false → (left ≡ 0 → ⊥)
    → named_with full met old
    ≡ names_taking left (is_among (full_name_of t) (reverse names)) (full_name_of t) met old
taking_named zero names t full met old f e z = absurd (z refl)
taking_named (suc left) names t full met old f e z =
    ap (λ n. named_with n met old) f
    ∙ ap (λ b. names_taking (suc left) b (full_name_of t) met old) (sym (among_open names t full false f e))

-- where memory is missing, nothing or this name was told
pub memory_named : (left : ℕ) (open_titles : List (List ℕ)) (full : List ℕ) (met : List (List ℕ))
    (old new : Option (List (List ℕ))) (x : Result PageLookup ExpandRefusal) → x ≡ Err answer.NoMemory
    → (new ≡ old) ⊎ (new ≡ names_taking left (is_among full open_titles) full met old)
    → IsNamed left open_titles full met old new x
memory_named left open_titles full met old new x e h = subst (IsNamed left open_titles full met old new) (sym e) h

asked_named : (left : ℕ) (open_titles : List (List ℕ)) (full : List ℕ) (met : List (List ℕ))
    (old new : Option (List (List ℕ))) (e : ExpandRefusal) → IsAsked left open_titles full met
    → named_with full met old ≡ names_taking left (is_among full open_titles) full met old
    → TellsErr old (named_with full met old) new e → IsNamedErr left open_titles full met old new e
asked_named left open_titles full met old new (answer.BracesTooDeep title place) a n h = (a, h)
asked_named left open_titles full met old new answer.TooLarge a n h = (a, h)
asked_named left open_titles full met old new answer.FolderFault a n h = (a, h)
asked_named left open_titles full met old new (answer.TemplateNotUtf8 title place) a n h = (a, h)
asked_named left open_titles full met old new (answer.TemplateTooLong title) a n h = (a, h)
asked_named left open_titles full met old new answer.NoMemory a n h = ⊎_elim (λ e. inl e) (λ e. inr (e ∙ n)) h

over_zero : (n : ℕ) → (n ≡ 0 → ⊥) → 0 < n
over_zero zero h = absurd (h refl)
over_zero (suc n) h = omega arith

-- the page of a title is asked for and refused
pub title_named : (left : ℕ) (names : List (List ℕ)) (t : Title) (full : List ℕ) (met : List (List ℕ))
    (old new : Option (List (List ℕ))) (e : ExpandRefusal)
    → full ≡ full_name_of t → is_among full names ≡ false → (left ≡ 0 → ⊥) → is_among full met ≡ false
    → TellsErr old (named_with full met old) new e
    → IsNamedErr left (reverse names) (full_name_of t) met old new e
title_named left names t full met old new e f shut z u h =
    let asked : IsAsked left (reverse names) (full_name_of t) met = record {
      more = over_zero left z;
      shut = among_open names t full false f shut;
      unmet = ap (λ n. is_among n met) (sym f) ∙ u;
    } in
    asked_named left (reverse names) (full_name_of t) met old new e asked
    (ap (λ n. named_with n met old) (sym f) ∙ taking_named left names t full met old f shut z)
    (subst (λ (n : List ℕ). TellsErr old (named_with n met old) new e) f h)
