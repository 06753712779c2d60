-- What the reader of pages answers, by what the reader of elements does.
use Rattle.std.proofs.Common.{◌≡◌, ℕ, ◌+◌, ◌<◌, ◌^◌, ◌++◌, true, Option, Some, None, Result, Ok, Err, List, length, refl, sym, ap, ◌∙◌, arith, subst}
use Rattle.std.specs.Prelude.{IfSome}
use Rattle.std.specs.Coded.{le_prop}
use Rattle.std.proofs.Math.Logic.{∥∥₁_elim}
use Rattle.std.proofs.Props.{props}
use Rattle.wt_html_grammar.specs.Markup.{Markup, Stands}
use Rattle.wt_html_elements.specs.declared.content.Content.{Content}
use Rattle.wt_html_reasons.specs.declared.refusal.HtmlRefusal.{HtmlRefusal as ElementsRefusal}
use Rattle.wt_html_reasons.specs.declared.refusal.HtmlRefusal.TheVariants as elements_refusals
use Rattle.wt_html_elements.specs.declared.reader.Reader.{Reader as ElementsReader}
use Rattle.wt_html_elements.specs.Built.{view_content}
use Rattle.wt_html_elements.specs.Fed.{FedAs}
use Rattle.wt_html_elements.specs.Answer.{IsFed as IsFedElements, IsIll as IsIllElements, IsAtLeast as IsAtLeastElements, answer_of, RefusedFor as ElementsRefusedFor}
use Rattle.wt_schema.specs.declared.why.FitWhy.{FitWhy}
use Rattle.wt_schema.specs.Fit.{elements, body_of}
use Rattle.wt_schema.specs.Read.{page, ill, misfit, read}
use Rattle.wt_schema.proofs.OneReading.{in_words, one_read}
use Rattle.wt_html_nodes.specs.Texts.{is_utf8_markup}
use Rattle.wt_html_in.specs.declared.edited.Edited.{Edited}
use Rattle.wt_html_nodes.specs.declared.fault.FitFault.TheVariants as faults
use Rattle.wt_html_in.specs.declared.refusal.HtmlRefusal.{HtmlRefusal}
use Rattle.wt_html_in.specs.Answers.{body_of as body_told, unsourced_of, RefusedFor}
use Rattle.wt_html_in.specs.Feeding.{refusal_told, failure_told, IsIll, IsAtLeast}
use Rattle.wt_html_in.specs.Frame.{FitsBody}
use Rattle.wt_html_in.proofs.Standing.{stands_few, stands_utf8}

pub page_answer : (m : Markup) (e : Edited) → FitsBody (body_of m) (Ok e) → (bytes : List ℕ) → Stands bytes m → read bytes ≡ page (body_told e) (unsourced_of e)
page_answer m e h bytes s = one_read bytes (page (body_told e) (unsourced_of e)) (m, s, h.0, h.1)

pub misfit_answer : (m : Markup) (n : ℕ) (w : FitWhy) → FitsBody (body_of m) (Err (faults.Unfit n w)) → (bytes : List ℕ)
    → Stands bytes m → read bytes ≡ misfit n w
misfit_answer m n w h bytes s = one_read bytes (misfit n w) (m, s, h)

pub ill_answer : (bytes : List ℕ) (e : ElementsRefusal) → ElementsRefusedFor bytes e → RefusedFor bytes (refusal_told e)
ill_answer bytes (elements_refusals.Html place w) h = one_read bytes (ill place w) (in_words bytes place w h)
ill_answer bytes elements_refusals.NoMemory h = tt

fed_count : (r : ElementsReader) (bytes : List ℕ) → r.failed ≡ None → IsFedElements r bytes → r.taken ≡ length bytes
fed_count r bytes e h = let P : Option ElementsRefusal → Type 0 = λ o. FedAs o r.reading r.taken r.token_at bytes in let q : FedAs None r.reading r.taken r.token_at bytes = subst P e h in q.1

pub root_few : (r : ElementsReader) (root : Content) → ∥ ((bytes : List ℕ) × IsFedElements r bytes) ∥₁
    → ((bytes : List ℕ) → IsFedElements r bytes → Stands bytes (view_content root))
    → r.failed ≡ None → r.taken < 2 ^ 32 → elements (view_content root) + 1 < 2 ^ 32
root_few r root h f e l =
    ∥∥₁_elim h le_prop (λ (bytes, g). few bytes g)
  where
    few : (bytes : List ℕ) → IsFedElements r bytes → elements (view_content root) + 1 < 2 ^ 32
    few bytes g = omega (arith, stands_few bytes (view_content root) (f bytes g), fed_count r bytes e g, l)

pub root_utf8 : (r : ElementsReader) (root : Content) → ∥ ((bytes : List ℕ) × IsFedElements r bytes) ∥₁
    → ((bytes : List ℕ) → IsFedElements r bytes → Stands bytes (view_content root))
    → is_utf8_markup (view_content root) ≡ true
root_utf8 r root h f = ∥∥₁_elim h (Prim.hlevel props) (λ (bytes, g). stands_utf8 bytes (view_content root) (f bytes g))

-- what a reader of elements was fed, after one more piece
pub fed_more : (r q : ElementsReader) (piece : List ℕ) → ∥ ((bytes : List ℕ) × IsFedElements r bytes) ∥₁
    → ((bytes : List ℕ) → IsFedElements r bytes → IsFedElements q (bytes ++ piece)) → ∥ ((bytes : List ℕ) × IsFedElements q bytes) ∥₁
fed_more r q piece h f = ∥∥₁_elim h squash₁ (λ (bytes, g). ∣ (bytes ++ piece, f bytes g) ∣₁)

pub refused_at : (bytes : List ℕ) (e : ElementsRefusal) (r : HtmlRefusal) → r ≡ refusal_told e → ElementsRefusedFor bytes e → RefusedFor bytes r
refused_at bytes e r d h = let P : HtmlRefusal → Type 0 = RefusedFor bytes in subst P (sym d) (ill_answer bytes e h)

pub ill_at : (bytes : List ℕ) (e : ElementsRefusal) (r : HtmlRefusal) → r ≡ refusal_told e → IsIllElements bytes e → IsIll bytes r
ill_at bytes e r d h = let P : HtmlRefusal → Type 0 = IsIll bytes in subst P (sym d) (told e h)
  where
    told : (e : ElementsRefusal) → IsIllElements bytes e → IsIll bytes (refusal_told e)
    told (elements_refusals.Html place w) h = h
    told elements_refusals.NoMemory h = tt

pub place_at : (k : ℕ) (e : ElementsRefusal) (r : HtmlRefusal) → r ≡ refusal_told e → IsAtLeastElements k e → IsAtLeast k r
place_at k e r d h = let P : HtmlRefusal → Type 0 = IsAtLeast k in subst P (sym d) (told e h)
  where
    told : (e : ElementsRefusal) → IsAtLeastElements k e → IsAtLeast k (refusal_told e)
    told (elements_refusals.Html place w) h = h
    told elements_refusals.NoMemory h = tt

-- a reader that hasn't failed, and one that has
pub none_told : (o : Option ElementsRefusal) → failure_told o ≡ None → o ≡ None
none_told None e = refl
none_told (Some r) e = absurd cc

pub going_told : (o : Option ElementsRefusal) (u : Unit {0}) → Ok u ≡ answer_of o → failure_told o ≡ None
going_told None u e = refl
going_told (Some r) u e = absurd cc

pub nothing_told : (o : Option ElementsRefusal) (k : ℕ) → IfSome o (λ _. k ≡ 0) → IfSome (failure_told o) (λ _. k ≡ 0)
nothing_told None k h = tt
nothing_told (Some r) k h = h

pub again_ok : (o : Option ElementsRefusal) (r : Result Edited HtmlRefusal) → o ≡ None → IfSome (failure_told o) (λ e. r ≡ Err e)
again_ok None r e = tt
again_ok (Some f) r e = absurd cc

pub again_err : (o : Option ElementsRefusal) (e : ElementsRefusal) (r : HtmlRefusal) (was : Result Content ElementsRefusal) (now : Result Edited HtmlRefusal)
    → was ≡ Err e → now ≡ Err r → r ≡ refusal_told e → IfSome o (λ f. was ≡ Err f) → IfSome (failure_told o) (λ f. now ≡ Err f)
again_err None e r was now w n d h = tt
again_err (Some f) e r was now w n d h =
    let same : e ≡ f = err_same e f (sym w ∙ h) in n ∙ ap Err (d ∙ ap refusal_told same)
  where
    err_same : (e f : ElementsRefusal) → (let was : Result Content ElementsRefusal = Err e in was ≡ Err f) → e ≡ f
    err_same e f h = cc
