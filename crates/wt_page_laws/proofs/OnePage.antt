-- What answers of pages exclude.
use Rattle.std.proofs.Common.{◌≡◌, ◌↔◌, ◌⊎◌, inl, inr, ℕ, List, ◌++◌, Option, Some, None, Ok, refl, sym, ◌∙◌, subst}
use Rattle.wt_tree.specs.Tree.{Tree}
use Rattle.wt_html_grammar.specs.declared.why.HtmlWhy.{HtmlWhy}
use Rattle.wt_html_reasons.specs.declared.refusal.HtmlRefusal.{HtmlRefusal as ElementsRefusal}
use Rattle.wt_schema.specs.Read.{IsRead, page, ill, misfit, read}
use Rattle.wt_schema.proofs.OneReading.{one_read, reads}
use Rattle.wt_html_in.specs.Answers.{Answers, RefusedFor, body_of, unsourced_of}
use Rattle.wt_html_in.specs.Feeding.{IsFed, IsIll, failed_of, failure_told}
use Rattle.wt_html_in.specs.declared.edited.Edited.{Edited}
use Rattle.wt_html_in.specs.declared.reader.Reader.{Reader}
use Rattle.wt_html_in.specs.declared.refusal.HtmlRefusal.{HtmlRefusal}
use Rattle.wt_html_in.specs.declared.refusal.HtmlRefusal.TheVariants as refusals
use Rattle.wt_page_laws.specs.Pieces.{GoOnAlike}
use Rattle.wt_page_laws.proofs.OneAnswer.{well_of, go_on_alike}

pages_same : (t t' : Tree) (u u' : Option ℕ) → page t u ≡ page t' u' → (t ≡ t') × (u ≡ u')
pages_same t t' u u' e = (cc, cc)

ills_same : (m n : ℕ) (v w : HtmlWhy) → ill m v ≡ ill n w → refusals.Html m v ≡ refusals.Html n w
ills_same m n v w e = cc

pub one_page : (bytes : List ℕ) → (a b : Edited) → Answers (Ok a) bytes → Answers (Ok b) bytes → (body_of a ≡ body_of b) × (unsourced_of a ≡ unsourced_of b)
one_page bytes a b h g = pages_same (body_of a) (body_of b) (unsourced_of a) (unsourced_of b) (sym h ∙ g)

pub no_refusal : (bytes : List ℕ) → (a : Edited) → (r : HtmlRefusal) → Answers (Ok a) bytes → RefusedFor bytes r → r ≡ refusals.NoMemory
no_refusal bytes a (refusals.Html place w) h r = let e : page (body_of a) (unsourced_of a) ≡ ill place w = sym h ∙ r in cc
no_refusal bytes a (refusals.Unfit n w) h r = let e : page (body_of a) (unsourced_of a) ≡ misfit n w = sym h ∙ r in cc
no_refusal bytes a refusals.NoMemory h r = refl

pub one_way : (bytes : List ℕ) → (r s : HtmlRefusal) → RefusedFor bytes r → RefusedFor bytes s → (r ≡ refusals.NoMemory) ⊎ ((s ≡ refusals.NoMemory) ⊎ (r ≡ s))
one_way bytes refusals.NoMemory s h g = inl refl
one_way bytes (refusals.Html m v) refusals.NoMemory h g = inr (inl refl)
one_way bytes (refusals.Html m v) (refusals.Html n w) h g = inr (inr (let e : ill m v ≡ ill n w = sym h ∙ g in cc))
one_way bytes (refusals.Html m v) (refusals.Unfit n w) h g = let e : ill m v ≡ misfit n w = sym h ∙ g in cc
one_way bytes (refusals.Unfit m v) refusals.NoMemory h g = inr (inl refl)
one_way bytes (refusals.Unfit m v) (refusals.Html n w) h g = let e : misfit m v ≡ ill n w = sym h ∙ g in cc
one_way bytes (refusals.Unfit m v) (refusals.Unfit n w) h g = inr (inr (let e : misfit m v ≡ misfit n w = sym h ∙ g in cc))

is_page : (bytes : List ℕ) (t : Tree) (u : Option ℕ) → read bytes ≡ page t u → IsRead bytes (page t u)
is_page bytes t u e = subst (IsRead bytes) e (reads bytes)

pub by_grammar : (bytes : List ℕ) → (a : Edited) → (Answers (Ok a) bytes) ↔ (IsRead bytes (page (body_of a) (unsourced_of a)))
by_grammar bytes a = (is_page bytes (body_of a) (unsourced_of a), one_read bytes (page (body_of a) (unsourced_of a)))

pub ill_for_good : (bytes more : List ℕ) → (place : ℕ) → (w : HtmlWhy) → (t : Tree) → (u : Option ℕ) → IsIll bytes (refusals.Html place w) → read (bytes ++ more) ≡ page t u → ⊥
ill_for_good bytes more place w t u i e = let p = is_page (bytes ++ more) t u e in i.0 (more, well_of (bytes ++ more) p.0 p.1)

none_told : (o : Option ElementsRefusal) → failure_told o ≡ None → o ≡ None
none_told None e = refl
none_told (Some r) e = cc

pub pages_alike : (r : Reader) → (bytes others : List ℕ) → failed_of r ≡ None → IsFed r bytes → IsFed r others → GoOnAlike bytes others
unfolding IsFed failed_of
pages_alike r bytes others e h g = go_on_alike r.elements bytes others (none_told r.elements.failed e) h g
