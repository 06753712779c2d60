-- What is known of the pages that were fetched.
use Rattle.std.proofs.Common.{◌≡◌, ℕ, ◌<◌, ◌≤◌, ◌⊎◌, inl, inr, Bool, true, false, cond, Option, Some, None, option_map, List, ◌∷◌, Ok, Err, length, take, refl, sym, ap, ◌∙◌, subst, arith}
use Rattle.std.specs.Str.{bytes_eq}
use Rattle.std.proofs.lemmas.Bool.{cases_lt}
use Rattle.std.proofs.lemmas.List.{take_all}
use Rattle.std.proofs.lemmas.Slice.Eq.{bytes_eq-Decides}
use Rattle.wt_span.specs.declared.form.Mode.TheVariants as mode
use Rattle.wt_devices.specs.declared.device.Fetched.{Fetched}
use Rattle.wt_devices.specs.Device.{Gives, page_of}
use Rattle.wt_expand.specs.Templates.{template_text}
use Rattle.wt_expand.specs.Work.{Pages, Refused, most_bytes, template_refusal, found_refusal, is_among}
use Rattle.wt_expand.proofs.TextLaws.{cut_page_refused}
use Rattle.wt_transclusion.specs.declared.refusal.ExpandRefusal.{ExpandRefusal}
use Rattle.wt_transclusion.specs.declared.refusal.ExpandRefusal.TheVariants as answer
use Rattle.wt_transclusion.specs.declared.read.ReadText.{ReadText}
use Rattle.wt_transclusion.specs.Reads.{IsRead}
use Rattle.wt_transclusion.specs.Answers.{IsRefused, IsNoFault, AnswersTemplate, IsFetched}
use Rattle.wt_transclusion.specs.Stores.{IsKnown, TellsErr}
use Rattle.wt_transclusion.proofs.TemplateReads.{long_refused}

-- ---- a page that was cut

cut_same : (title bs : List ℕ) → template_refusal title (take 2097153 bs) ≡ template_refusal title bs
unfolding most_bytes
cut_same title bs = cut_page_refused title bs

some_is : (a b : List ℕ) → Some a ≡ Some b → a ≡ b
some_is a b e = cc

short : (title bs : List ℕ) → template_refusal title bs ≡ None → length bs ≤ 2097152
short title bs e = by_length (cases_lt 2097152 (length bs))
  where
    by_length : (2097152 < length bs) ⊎ (length bs ≤ 2097152) → length bs ≤ 2097152
    by_length (inl l) = let z = sym (long_refused title title bs refl l) ∙ e in absurd cc
    by_length (inr l) = l

pub given_page : (told : Option Pages) (pages : Pages) (title : List ℕ) (most : ℕ) (f g : Fetched) → told ≡ Some pages → f ≡ g → Gives told title most f
    → page_of g ≡ option_map (take most) (pages title)
given_page told pages title most f g e s h = ap page_of (sym s) ∙ subst (λ t. Gives t title most f) e h

pub found_read : (title cut slice : List ℕ) (page : Option (List ℕ)) (r : ReadText) → Some cut ≡ option_map (take 2097153) page → slice ≡ cut
    → AnswersTemplate title slice (Ok r)
    → IsFetched title page (Some r)
found_read title cut slice None r e s h = absurd (let z : Some cut ≡ None = e in cc)
found_read title cut slice (Some bs) r e s h =
    let same : slice ≡ take 2097153 bs = s ∙ some_is cut (take 2097153 bs) e in
    let none = sym (cut_same title bs) ∙ ap (template_refusal title) (sym same) ∙ h.1 in
    let whole : slice ≡ bs = same ∙ take_all 2097153 bs (let l = short title bs none in omega (arith, l)) in
    (subst (λ ts. IsRead mode.Template (template_text ts) r) whole h.0, none)

pub found_refused : (title cut slice : List ℕ) (page : Option (List ℕ)) (x : ExpandRefusal) → Some cut ≡ option_map (take 2097153) page → slice ≡ cut
    → AnswersTemplate title slice (Err x)
    → IsRefused (found_refusal title page) x
found_refused title cut slice None x e s h = absurd (let z : Some cut ≡ None = e in cc)
found_refused title cut slice (Some bs) x e s h =
    let same : slice ≡ take 2097153 bs = s ∙ some_is cut (take 2097153 bs) e in
    let o = ap (template_refusal title) same ∙ cut_same title bs in
    subst (λ (r : Option Refused). IsRefused r x) o h.0

pub absent_read : (title : List ℕ) (page : Option (List ℕ)) → None ≡ option_map (take 2097153) page → IsFetched title page None
absent_read title None e = tt
absent_read title (Some bs) e = absurd (let z : None ≡ Some (take 2097153 bs) = e in cc)

-- the name of a page that is refused was told
pub told_refused : (before all now : Option (List (List ℕ))) (e : ExpandRefusal) → IsNoFault e → now ≡ all → TellsErr before all now e
told_refused before all now (answer.BracesTooDeep title place) h e = e
told_refused before all now answer.TooLarge h e = e
told_refused before all now answer.FolderFault h e = absurd h
told_refused before all now (answer.TemplateNotUtf8 title place) h e = e
told_refused before all now (answer.TemplateTooLong title) h e = e
told_refused before all now answer.NoMemory h e = inr e

-- ---- one more page

pub known_put : (pages : Pages) (met : List (List ℕ)) (full : List ℕ) (found : Option ReadText) (old new : Option (Option ReadText)) (name : List ℕ)
    → new ≡ cond (bytes_eq full name) (Some found) old
    → IsFetched full (pages full) found → IsKnown pages name (is_among name met) old → IsKnown pages name (is_among name (full ∷ met)) new
known_put pages met full found old new name e f h = subst (IsKnown pages name (is_among name (full ∷ met))) (sym e)
    (by_name (bytes_eq full name) (bytes_eq-Decides full name).0)
  where
    by_name : (t : Bool) → (t ≡ true → full ≡ name) → IsKnown pages name (cond t true (is_among name met)) (cond t (Some found) old)
    by_name true same = subst (λ n. IsFetched n (pages n) found) (same refl) f
    by_name false same = h
