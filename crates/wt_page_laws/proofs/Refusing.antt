-- The first refused entry decides.
use Rattle.std.proofs.Common.{arith, ◌≡◌, ◌↔◌, ℕ, ◌+◌, ◌<◌, Bool, true, false, Option, Some, None, List, [], ◌∷◌, ◌++◌, length, refl, sym, ap, ◌∙◌, subst, inl, inr, nat_lt}
use Rattle.std.specs.Prelude.{if◌then◌else◌}
use Rattle.std.specs.Option.{option_map, option_or}
use Rattle.std.proofs.lemmas.Bool.Decides.{nat_tests}
use Rattle.wt_span.specs.declared.form.Mode.TheVariants as mode
use Rattle.wt_utf8.specs.Places.{not_utf8_place}
use Rattle.wt_expand.specs.Templates.{template_text}
use Rattle.wt_expand.specs.Fronts.{cost_of_all}
use Rattle.wt_expand.specs.Work.{Pages, Entry, entered, begun, fetched, ended, Refused, braces_too_deep, too_large, not_utf8, too_long, most_bytes, most_cost, deep_place, template_refusal, found_refusal, if_large, cost_of, entry_refusal, refusal_from, first_refusal}
use Rattle.wt_expand.proofs.FrontLaws.{refusal_append}
use Rattle.wt_page_laws.specs.Refusals.{spent, IsBadTemplate, IsRefusedAt, AreAllowed, IsFirstRefused}

-- ---- one entry

record Mapped (f : ℕ → Refused) (o : Option ℕ) (r : Refused) : Type 0 where
  place : ℕ
  found : o ≡ Some place
  is : r ≡ f place

mapped : (f : ℕ → Refused) (o : Option ℕ) (r : Refused) → option_map f o ≡ Some r → Mapped f o r
mapped f None r e = cc
mapped f (Some p) r e = record { place = p; found = refl; is = cc }

first_of : (title bytes : List ℕ) (r : Refused) (o q : Option ℕ) → nat_lt most_bytes (length bytes) ≡ false → not_utf8_place bytes ≡ o
    → deep_place mode.Template (template_text bytes) ≡ q
    → option_or (option_map (not_utf8 title) o) (option_map (braces_too_deep (Some title)) q) ≡ Some r → IsBadTemplate title bytes r
first_of title bytes r (Some p) q t i j e = inr (inl (grind (arith, nat_tests), p, i, cc))
first_of title bytes r None q t i j e =
    let m = mapped (braces_too_deep (Some title)) q r e in inr (inr (grind (arith, nat_tests), m.place, i, j ∙ m.found, m.is))

template_by : (title bytes : List ℕ) (r : Refused) (t : Bool) → nat_lt most_bytes (length bytes) ≡ t
    → (if t then Some (too_long title)
    else option_or (option_map (not_utf8 title) (not_utf8_place bytes))
    (option_map (braces_too_deep (Some title)) (deep_place mode.Template (template_text bytes)))) ≡ Some r
    → IsBadTemplate title bytes r
template_by title bytes r true t e = inl (grind (arith, nat_tests), cc)
template_by title bytes r false t e =
    first_of title bytes r (not_utf8_place bytes) (deep_place mode.Template (template_text bytes)) t refl refl e

template_is : (title bytes : List ℕ) (r : Refused) → template_refusal title bytes ≡ Some r → IsBadTemplate title bytes r
unfolding template_refusal
template_is title bytes r e = template_by title bytes r (nat_lt most_bytes (length bytes)) refl e

bad_is : (title bytes : List ℕ) (r : Refused) → IsBadTemplate title bytes r → template_refusal title bytes ≡ Some r
unfolding template_refusal
bad_is title bytes r (inl h) = let t : nat_lt most_bytes (length bytes) ≡ true = (let lt = h.0 in grind (arith, nat_tests)) in rw t (ap Some (sym h.1))
bad_is title bytes r (inr (inl h)) =
    let t : nat_lt most_bytes (length bytes) ≡ false = (let le = h.0 in grind (arith, nat_tests)) in
    rw (t, h.2) (ap Some (sym h.3))
bad_is title bytes r (inr (inr h)) =
    let t : nat_lt most_bytes (length bytes) ≡ false = (let le = h.0 in grind (arith, nat_tests)) in
    rw (t, h.2, h.3) (ap Some (sym h.4))

found_is : (title : List ℕ) (o : Option (List ℕ)) (r : Refused) → found_refusal title o ≡ Some r
    → (bytes : List ℕ) × (o ≡ Some bytes) × IsBadTemplate title bytes r
found_is title None r e = cc
found_is title (Some bytes) r e = (bytes, refl, template_is title bytes r e)

large_by : (cost : ℕ) (r : Refused) (t : Bool) → nat_lt most_cost cost ≡ t → (if t then Some too_large else None) ≡ Some r
    → (most_cost < cost) × (r ≡ too_large)
large_by cost r true t e = (grind (arith, nat_tests), cc)
large_by cost r false t e = cc

large_is : (cost : ℕ) (r : Refused) → if_large cost ≡ Some r → (most_cost < cost) × (r ≡ too_large)
large_is cost r e = large_by cost r (nat_lt most_cost cost) refl e

is_large : (cost : ℕ) (r : Refused) → (most_cost < cost) × (r ≡ too_large) → if_large cost ≡ Some r
is_large cost r h = let t : nat_lt most_cost cost ≡ true = (let lt = h.0 in grind (arith, nat_tests)) in rw t (ap Some (sym h.1))

refused_is : (pages : Pages) (page : List ℕ) (cost : ℕ) (e : Entry) (r : Refused) → entry_refusal pages page cost e ≡ Some r → IsRefusedAt pages page cost e r
refused_is pages page cost (entered None) r h =
    let m = mapped (braces_too_deep None) (deep_place mode.Page page) r h in (m.place, m.found, m.is)
refused_is pages page cost (entered (Some title)) r h = found_is title (pages title) r h
refused_is pages page cost begun r h = large_is cost r h
refused_is pages page cost (fetched title) r h = cc
refused_is pages page cost (ended n) r h = large_is cost r h

is_refused : (pages : Pages) (page : List ℕ) (cost : ℕ) (e : Entry) (r : Refused) → IsRefusedAt pages page cost e r → entry_refusal pages page cost e ≡ Some r
is_refused pages page cost (entered None) r h = ap (option_map (braces_too_deep None)) h.1 ∙ ap Some (sym h.2)
is_refused pages page cost (entered (Some title)) r h = ap (found_refusal title) h.1 ∙ bad_is title h.0 r h.2
is_refused pages page cost begun r h = is_large cost r h
is_refused pages page cost (fetched title) r h = absurd h
is_refused pages page cost (ended n) r h = is_large cost r h

-- ---- what is spent

spent_more : (e : Entry) (es : List Entry) → spent (e ∷ es) ≡ cost_of e + spent es
spent_more (entered title) es = omega arith
spent_more begun es = omega arith
spent_more (fetched title) es = omega arith
spent_more (ended n) es = omega arith

spent_all : (es : List Entry) → spent es ≡ cost_of_all es
spent_all [] = refl
spent_all (e ∷ es) = spent_more e es ∙ ap (λ (n : ℕ). cost_of e + n) (spent_all es)

-- ---- one after another, where so much was spent before

abbrev AllowedFrom : Pages → List ℕ → ℕ → List Entry → Type 0
AllowedFrom pages page s work =
    (before : List Entry) (e : Entry) (after : List Entry) (r : Refused) → work ≡ before ++ e ∷ after
    → IsRefusedAt pages page (s + (spent before + spent (e ∷ []))) e r
    → ⊥

record FirstFrom (pages : Pages) (page : List ℕ) (s : ℕ) (work : List Entry) (r : Refused) : Type 0 where
  before : List Entry
  entry : Entry
  after : List Entry
  whole : work ≡ before ++ entry ∷ after
  allowed : AllowedFrom pages page s before
  refused : IsRefusedAt pages page (s + (spent before + spent (entry ∷ []))) entry r

none_empty : (pages : Pages) (page : List ℕ) (s : ℕ) → AllowedFrom pages page s []
none_empty pages page s [] e after r is h = cc
none_empty pages page s (b ∷ bs) e after r is h = cc

one_cost : (s : ℕ) (e : Entry) → s + cost_of e ≡ s + (spent [] + spent (e ∷ []))
one_cost s e = let m = spent_more e [] in omega (arith, m)

more_cost : (s : ℕ) (b e : Entry) (bs : List Entry) → s + (spent (b ∷ bs) + spent (e ∷ [])) ≡ (s + cost_of b) + (spent bs + spent (e ∷ []))
more_cost s b e bs = let m = spent_more b bs in omega (arith, m)

allowed_more : (pages : Pages) (page : List ℕ) (s : ℕ) (x : Entry) (es : List Entry) → entry_refusal pages page (s + cost_of x) x ≡ None
    → AllowedFrom pages page (s + cost_of x) es → AllowedFrom pages page s (x ∷ es)
allowed_more pages page s x es n f [] e after r is h =
    let same : x ≡ e = cc in
    let k = subst (λ (m : ℕ). IsRefusedAt pages page m e r) (sym (one_cost s e)) h in
    let some = is_refused pages page (s + cost_of e) e r k in
    let none = subst (λ (y : Entry). entry_refusal pages page (s + cost_of y) y ≡ None) same n in
    let no : None ≡ Some r = sym none ∙ some in cc
allowed_more pages page s x es n f (b ∷ bs) e after r is h =
    let same : x ≡ b = cc in
    let rest : es ≡ bs ++ e ∷ after = cc in
    let k = subst (λ (m : ℕ). IsRefusedAt pages page m e r) (more_cost s b e bs) h in
    f bs e after r rest (subst (λ (y : Entry). IsRefusedAt pages page ((s + cost_of y) + (spent bs + spent (e ∷ []))) e r) (sym same) k)

allowed_rest : (pages : Pages) (page : List ℕ) (s : ℕ) (x : Entry) (es : List Entry) → AllowedFrom pages page s (x ∷ es)
    → AllowedFrom pages page (s + cost_of x) es
allowed_rest pages page s x es f before e after r is h =
    f (x ∷ before) e after r (ap (λ ys. x ∷ ys) is) (subst (λ (m : ℕ). IsRefusedAt pages page m e r) (sym (more_cost s x e before)) h)

allowed_first : (pages : Pages) (page : List ℕ) (s : ℕ) (x : Entry) (es : List Entry) (o : Option Refused) → entry_refusal pages page (s + cost_of x) x ≡ o
    → AllowedFrom pages page s (x ∷ es) → o ≡ None
allowed_first pages page s x es None i f = refl
allowed_first pages page s x es (Some r) i f =
    absurd (f [] x es r refl (subst (λ (m : ℕ). IsRefusedAt pages page m x r) (one_cost s x) (refused_is pages page (s + cost_of x) x r i)))

none_from : (pages : Pages) (page : List ℕ) (s : ℕ) (es : List Entry) → refusal_from pages page s es ≡ None → AllowedFrom pages page s es
none_from pages page s [] h = none_empty pages page s
none_from pages page s (x ∷ es) h =
    by (entry_refusal pages page (s + cost_of x) x) refl h (λ k. none_from pages page (s + cost_of x) es k)
  where
    by : (o : Option Refused) → entry_refusal pages page (s + cost_of x) x ≡ o → option_or o (refusal_from pages page (s + cost_of x) es) ≡ None
        → (refusal_from pages page (s + cost_of x) es ≡ None → AllowedFrom pages page (s + cost_of x) es)
        → AllowedFrom pages page s (x ∷ es)
    by None i k f = allowed_more pages page s x es i (f k)
    by (Some r) i k f = cc

allowed_none : (pages : Pages) (page : List ℕ) (s : ℕ) (es : List Entry) → AllowedFrom pages page s es → refusal_from pages page s es ≡ None
allowed_none pages page s [] f = refl
allowed_none pages page s (x ∷ es) f =
    ap (λ o. option_or o (refusal_from pages page (s + cost_of x) es))
    (allowed_first pages page s x es (entry_refusal pages page (s + cost_of x) x) refl f)
    ∙ allowed_none pages page (s + cost_of x) es (allowed_rest pages page s x es f)

first_more : (pages : Pages) (page : List ℕ) (s : ℕ) (x : Entry) (es : List Entry) (r : Refused) → entry_refusal pages page (s + cost_of x) x ≡ None
    → FirstFrom pages page (s + cost_of x) es r → FirstFrom pages page s (x ∷ es) r
first_more pages page s x es r n f = record {
  before = x ∷ f.before;
  entry = f.entry;
  after = f.after;
  whole = ap (λ ys. x ∷ ys) f.whole;
  allowed = allowed_more pages page s x f.before n f.allowed;
  refused = subst (λ (m : ℕ). IsRefusedAt pages page m f.entry r) (sym (more_cost s x f.entry f.before)) f.refused;
}

first_from : (pages : Pages) (page : List ℕ) (s : ℕ) (es : List Entry) (r : Refused) → refusal_from pages page s es ≡ Some r → FirstFrom pages page s es r
first_from pages page s [] r h = cc
first_from pages page s (x ∷ es) r h =
    by (entry_refusal pages page (s + cost_of x) x) refl h (λ k. first_from pages page (s + cost_of x) es r k)
  where
    by : (o : Option Refused) → entry_refusal pages page (s + cost_of x) x ≡ o → option_or o (refusal_from pages page (s + cost_of x) es) ≡ Some r
        → (refusal_from pages page (s + cost_of x) es ≡ Some r → FirstFrom pages page (s + cost_of x) es r)
        → FirstFrom pages page s (x ∷ es) r
    by None i k f = first_more pages page s x es r i (f k)
    by (Some q) i k f =
        let same : q ≡ r = cc in
        record {
          before = [];
          entry = x;
          after = es;
          whole = refl;
          allowed = none_empty pages page s;
          refused = subst (λ (m : ℕ). IsRefusedAt pages page m x r) (one_cost s x) (refused_is pages page (s + cost_of x) x r (i ∙ ap Some same));
        }

first_back : (pages : Pages) (page : List ℕ) (s : ℕ) (es : List Entry) (r : Refused) → FirstFrom pages page s es r → refusal_from pages page s es ≡ Some r
first_back pages page s es r f =
    let now = s + cost_of_all f.before in
    let z : s + (spent f.before + spent (f.entry ∷ [])) ≡ now + cost_of f.entry =
    (let a = spent_all f.before in let m = spent_more f.entry [] in omega (arith, a, m)) in
    let k = subst (λ (m : ℕ). IsRefusedAt pages page m f.entry r) z f.refused in
    ap (refusal_from pages page s) f.whole
    ∙ refusal_append pages page s f.before (f.entry ∷ f.after) (allowed_none pages page s f.before f.allowed)
    ∙ ap (λ o. option_or o (refusal_from pages page (now + cost_of f.entry) f.after)) (is_refused pages page (now + cost_of f.entry) f.entry r k)

-- ---- the whole work

nothing_before : (n : ℕ) → 0 + n ≡ n
nothing_before n = omega arith

allowed_at : (pages : Pages) (page : List ℕ) (work : List Entry) → AllowedFrom pages page 0 work → AreAllowed pages page work
allowed_at pages page work f before e after r is h =
    f before e after r is (subst (λ (m : ℕ). IsRefusedAt pages page m e r) (sym (nothing_before (spent before + spent (e ∷ [])))) h)

at_allowed : (pages : Pages) (page : List ℕ) (work : List Entry) → AreAllowed pages page work → AllowedFrom pages page 0 work
at_allowed pages page work f before e after r is h =
    f before e after r is (subst (λ (m : ℕ). IsRefusedAt pages page m e r) (nothing_before (spent before + spent (e ∷ []))) h)

pub refused_first : (pages : Pages) (page : List ℕ) (work : List Entry) (r : Refused) → (first_refusal pages page work ≡ Some r) ↔ IsFirstRefused pages page work r
unfolding first_refusal
refused_first pages page work r = (
  λ e.
      let f = first_from pages page 0 work r e in
      record {
        before = f.before;
        entry = f.entry;
        after = f.after;
        whole = f.whole;
        allowed = allowed_at pages page f.before f.allowed;
        refused = subst (λ (m : ℕ). IsRefusedAt pages page m f.entry r) (nothing_before (spent f.before + spent (f.entry ∷ []))) f.refused;
      },
  λ f. first_back pages page 0 work r (record {
    before = f.before;
    entry = f.entry;
    after = f.after;
    whole = f.whole;
    allowed = at_allowed pages page f.before f.allowed;
    refused = subst (λ (m : ℕ). IsRefusedAt pages page m f.entry r) (sym (nothing_before (spent f.before + spent (f.entry ∷ [])))) f.refused;
  }),
)

pub refused_never : (pages : Pages) (page : List ℕ) (work : List Entry) → (first_refusal pages page work ≡ None) ↔ AreAllowed pages page work
unfolding first_refusal
refused_never pages page work =
    (λ e. allowed_at pages page work (none_from pages page 0 work e), λ f. allowed_none pages page 0 work (at_allowed pages page work f))
