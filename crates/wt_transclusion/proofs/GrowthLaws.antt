-- What is known grows as pages are fetched; and the pages of which an answer speaks.
use Rattle.std.proofs.Common.{◌≡◌, ℕ, Bool, true, false, cond, Option, Some, None, List, ◌∷◌, Ok, Err, refl, sym, ap, ◌∙◌, subst}
use Rattle.std.specs.Prelude.{Result, OnOk}
use Rattle.std.specs.Str.{bytes_eq}
use Rattle.std.specs.BTreeMap.{get_by_text}
use Rattle.std.proofs.lemmas.Slice.Eq.{bytes_eq-Decides}
use Rattle.wt_expand.specs.Work.{Pages, is_among}
use Rattle.wt_transclusion.specs.declared.refusal.ExpandRefusal.{ExpandRefusal}
use Rattle.wt_transclusion.specs.declared.read.ReadText.{ReadText}
use Rattle.wt_transclusion.specs.declared.store.Store.{Store}
use Rattle.wt_transclusion.specs.Answers.{IsFetched}
use Rattle.wt_transclusion.specs.Stores.{Agrees, Concerns, Grows, HasPages, IsKept, IsKnown, IsStore, Keeps, met_with}
use Rattle.wt_transclusion.proofs.StoreLaws.{known_put}

-- ---- one call after another

pub grows_none : (told : Option Pages) (s : Store) → Grows told s s
grows_none told s = record { kept = λ name found e. e; agrees = λ pages e h. h; has = λ h. h }

pub grows_then : (told : Option Pages) (a b c : Store) → Grows told a b → Grows told b c → Grows told a c
grows_then told a b c f g = record {
  kept = λ name found e. g.kept name found (f.kept name found e);
  agrees = λ pages e h. g.agrees pages e (f.agrees pages e h);
  has = λ h. g.has (f.has h);
}

-- pages that agree with what is known agree with what was known
pub agrees_before : (pages : Pages) (old new : Store) → IsKept old new → Agrees pages new → Agrees pages old
agrees_before pages old new k h = λ name found e. h name found (k name found e)

-- the pages of which the last answer speaks agree with what was known before it
pub agrees_between : {A : Type 0} → (told : Option Pages) (pages : Pages) (old mid new : Store) (x : Result A ExpandRefusal) → Grows told old mid
    → OnOk x (Grows told mid new) → Agrees pages old → Concerns told pages new x → Agrees pages mid
agrees_between told pages old mid new (Ok a) f g h c = agrees_before pages mid new g.kept c
agrees_between told pages old mid new (Err e) f g h c = f.agrees pages c h

-- ---- what is known at first

some_is : (a b : Option ReadText) → Some a ≡ Some b → a ≡ b
some_is a b e = cc

known_agrees : (pages : Pages) (name : List ℕ) (b : Bool) (o : Option (Option ReadText)) (found : Option ReadText) → IsKnown pages name b o
    → o ≡ Some found → IsFetched name (pages name) found
known_agrees pages name false o found k e = absurd (let z : None ≡ Some found = sym k ∙ e in cc)
known_agrees pages name true None found k e = absurd k
known_agrees pages name true (Some x) found k e = subst (IsFetched name (pages name)) (some_is x found e) k

-- the pages of which it is known which of their names were fetched
pub agrees_known : (pages : Pages) (met : List (List ℕ)) (s : Store) → IsStore pages met s → Agrees pages s
agrees_known pages met s h = λ name found e. known_agrees pages name (is_among name met) (get_by_text s.pages name) found (h name) e

-- where pages of some names are known, there are pages that agree with them
pub has_known : (pages : Pages) (met : List (List ℕ)) (s : Store) → IsStore pages met s → HasPages s
has_known pages met s h = (pages, agrees_known pages met s h)

-- ---- one more page

pub put_known : (full : List ℕ) (found : Option ReadText) (old new : Store) → Keeps full found old new → get_by_text new.pages full ≡ Some found
put_known full found old new k =
    k full ∙ ap (λ b. cond b (Some found) (get_by_text old.pages full)) ((bytes_eq-Decides full full).1 refl)

unmet : (pages : Pages) (full : List ℕ) (b : Bool) (o : Option (Option ReadText)) → IsKnown pages full b o → o ≡ None → b ≡ false
unmet pages full false o k e = refl
unmet pages full true None k e = absurd k
unmet pages full true (Some x) k e = absurd (let z : Some x ≡ None = e in cc)

-- a page that wasn't known is kept, by pages that agree with it
pub title_kept : (pages : Pages) (met : List (List ℕ)) (full : List ℕ) (found : Option ReadText) (old new : Store) → get_by_text old.pages full ≡ None
    → Keeps full found old new → Agrees pages new → IsStore pages met old
    → IsFetched full (pages full) found × IsStore pages (met_with full met) new
title_kept pages met full found old new n k a s =
    let f = a full found (put_known full found old new k) in
    let shut = unmet pages full (is_among full met) (get_by_text old.pages full) (s full) n in
    let h : IsStore pages (full ∷ met) new =
    λ name. known_put pages met full found (get_by_text old.pages name) (get_by_text new.pages name) name (k name) f (s name) in
    (f, subst (λ (b : Bool). IsStore pages (cond b met (full ∷ met)) new) (sym shut) h)

kept_by : (full name : List ℕ) (b : Bool) (found x : Option ReadText) (old : Option (Option ReadText)) → (b ≡ true → old ≡ None) → old ≡ Some x
    → cond b (Some found) old ≡ Some x
kept_by full name true found x old n e = absurd (let z : None ≡ Some x = sym (n refl) ∙ e in cc)
kept_by full name false found x old n e = e

put_kept : (full : List ℕ) (found : Option ReadText) (old new : Store) → get_by_text old.pages full ≡ None → Keeps full found old new → IsKept old new
put_kept full found old new n k = λ name x e.
    k name ∙ kept_by full name (bytes_eq full name) found x (get_by_text old.pages name)
    (λ t. ap (get_by_text old.pages) (sym ((bytes_eq-Decides full name).0 t)) ∙ n) e

agrees_by : (pages : Pages) (full name : List ℕ) (b : Bool) (found x : Option ReadText) (old : Option (Option ReadText)) → (b ≡ true → full ≡ name)
    → IsFetched full (pages full) found → (old ≡ Some x → IsFetched name (pages name) x) → cond b (Some found) old ≡ Some x
    → IsFetched name (pages name) x
agrees_by pages full name true found x old same f h e =
    subst (IsFetched name (pages name)) (some_is found x e) (subst (λ n. IsFetched n (pages n) found) (same refl) f)
agrees_by pages full name false found x old same f h e = h e

put_agrees : (pages : Pages) (full : List ℕ) (found : Option ReadText) (old new : Store) → Keeps full found old new → IsFetched full (pages full) found
    → Agrees pages old → Agrees pages new
put_agrees pages full found old new k f h = λ name x e.
    agrees_by pages full name (bytes_eq full name) found x (get_by_text old.pages name) (bytes_eq-Decides full name).0 f (h name x) (sym (k name) ∙ e)

-- these pages, but for one name
abbrev with_page : List ℕ → Option (List ℕ) → Pages → Pages
with_page full page pages = λ name. cond (bytes_eq full name) page (pages name)

has_by : (pages : Pages) (full name : List ℕ) (page : Option (List ℕ)) (b : Bool) (found x : Option ReadText) (old : Option (Option ReadText))
    → (b ≡ true → full ≡ name) → IsFetched full page found → (old ≡ Some x → IsFetched name (pages name) x) → cond b (Some found) old ≡ Some x
    → IsFetched name (cond b page (pages name)) x
has_by pages full name page true found x old same f h e =
    subst (IsFetched name page) (some_is found x e) (subst (λ n. IsFetched n page found) (same refl) f)
has_by pages full name page false found x old same f h e = h e

put_has : (full : List ℕ) (found : Option ReadText) (old new : Store) (page : Option (List ℕ)) → Keeps full found old new → IsFetched full page found
    → HasPages old → HasPages new
put_has full found old new page k f h = (
  with_page full page h.0,
  λ name x e.
      has_by h.0 full name page (bytes_eq full name) found x (get_by_text old.pages name) (bytes_eq-Decides full name).0 f (h.1 name x) (sym (k name) ∙ e),
)

-- a page that wasn't known, that was read of some page, and of what the folder tells, is kept
pub put_grows : (told : Option Pages) (full : List ℕ) (found : Option ReadText) (old new : Store) → get_by_text old.pages full ≡ None
    → Keeps full found old new → (page : Option (List ℕ)) × IsFetched full page found
    → ((pages : Pages) → told ≡ Some pages → IsFetched full (pages full) found) → Grows told old new
put_grows told full found old new n k f g = record {
  kept = put_kept full found old new n k;
  agrees = λ pages e h. put_agrees pages full found old new k (g pages e) h;
  has = put_has full found old new f.0 k f.1;
}

-- where the last of two calls gives something, what is known grew by both
pub grows_through : {A : Type 0} → (told : Option Pages) (a b c : Store) (x : Result A ExpandRefusal) → Grows told a b → OnOk x (Grows told b c)
    → OnOk x (Grows told a c)
grows_through told a b c (Ok y) f g = grows_then told a b c f g
grows_through told a b c (Err e) f g = tt
