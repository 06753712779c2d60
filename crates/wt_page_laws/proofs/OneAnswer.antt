-- What answers exclude, and what a reader knows.
use Rattle.std.proofs.Common.{◌≡◌, ℕ, List, ◌++◌, length, Option, Some, None, Ok, Err, refl, sym, ap, ◌∙◌, subst}
use Rattle.wt_html_grammar.specs.Grammar.{Well}
use Rattle.wt_html_grammar.specs.Machine.{State, start, run, onward}
use Rattle.wt_html_grammar.specs.Markup.{Markup, Stands}
use Rattle.wt_html_grammar.specs.Places.{Refused, taken}
use Rattle.wt_html_grammar.specs.declared.why.HtmlWhy.{HtmlWhy}
use Rattle.wt_html_grammar.proofs.Places.{refused, run_err, taken_err}
use Rattle.wt_html_grammar.proofs.Reading.{well_read}
use Rattle.wt_html_grammar.proofs.Spaces.{one_place}
use Rattle.wt_html_grammar.proofs.Steps.{run_append}
use Rattle.wt_html_grammar.proofs.Telling.{one_tree}
use Rattle.wt_html_grammar.proofs.Whole.{read_well}
use Rattle.wt_html_elements.specs.Answer.{Answers, IsFed, IsIll, RefusedFor}
use Rattle.wt_html_elements.specs.Built.{view_content}
use Rattle.wt_html_elements.specs.Fed.{FedAs}
use Rattle.wt_html_elements.specs.Reads.{state_of}
use Rattle.wt_html_elements.specs.declared.content.Content.{Content}
use Rattle.wt_html_reasons.specs.declared.refusal.HtmlRefusal.{HtmlRefusal}
use Rattle.wt_html_reasons.specs.declared.refusal.HtmlRefusal.TheVariants as refusals
use Rattle.wt_html_elements.specs.declared.reader.Reader.{Reader}
use Rattle.wt_html_elements.specs.declared.reading.Reading.{Reading}
use Rattle.wt_page_laws.specs.Pieces.{GoOnAlike}

pub well_of : (bytes : List ℕ) (t : Markup) → Stands bytes t → Well bytes
well_of bytes t s = (s.0, s.1, s.2)

pub one_content : (bytes : List ℕ) → (a b : Content) → Answers (Ok a) bytes → Answers (Ok b) bytes → view_content a ≡ view_content b
one_content bytes a b h g = one_tree bytes (view_content a) (view_content b) h g

pub not_refused : (bytes : List ℕ) → (a : Content) → (r : HtmlRefusal) → Answers (Ok a) bytes → RefusedFor bytes r → r ≡ refusals.NoMemory
not_refused bytes a (refusals.Html place w) h r = absurd (r.0.ill (well_of bytes (view_content a) h))
not_refused bytes a refusals.NoMemory h r = refl

pub one_refusal : (bytes : List ℕ) → (m n : ℕ) → (v w : HtmlWhy) → RefusedFor bytes (refusals.Html m v) → RefusedFor bytes (refusals.Html n w) → (m ≡ n) × (v ≡ w)
one_refusal bytes m n v w r s = (one_place bytes m n r.0 s.0, r.1 ∙ sym s.1)

pub stays_ill : (bytes more : List ℕ) → (place : ℕ) → (w : HtmlWhy) → IsIll bytes (refusals.Html place w) → Well (bytes ++ more) → ⊥
stays_ill bytes more place w i h = i.0 (more, h)

-- ---- bytes that were fed

counted : (f : Option HtmlRefusal) (g : Reading) (count at : ℕ) (bytes : List ℕ) → f ≡ None → FedAs f g count at bytes → count ≡ length bytes
counted None g count at bytes e h = h.1
counted (Some r) g count at bytes e h = cc

stood : (f : Option HtmlRefusal) (g : Reading) (count at : ℕ) (bytes : List ℕ) → f ≡ None → FedAs f g count at bytes → run start bytes ≡ Ok (state_of g)
stood None g count at bytes e h = h.0.0
stood (Some r) g count at bytes e h = cc

pub counts : (r : Reader) → (bytes : List ℕ) → r.failed ≡ None → IsFed r bytes → r.taken ≡ length bytes
counts r bytes e h = counted r.failed r.reading r.taken r.token_at bytes e h

goes_on : (bytes more : List ℕ) (s : State) → run start bytes ≡ Ok s → run start (bytes ++ more) ≡ run s more
goes_on bytes more s e = run_append start bytes more ∙ ap (onward (λ (t : State). run t more)) e

pub same_state : (bytes others : List ℕ) (s : State) → run start bytes ≡ Ok s → run start others ≡ Ok s → GoOnAlike bytes others
same_state bytes others s e f more = (
  λ h. read_well (others ++ more) (goes_on others more s f ∙ sym (goes_on bytes more s e) ∙ well_read (bytes ++ more) h),
  λ h. read_well (bytes ++ more) (goes_on bytes more s e ∙ sym (goes_on others more s f) ∙ well_read (others ++ more) h),
)

pub go_on_alike : (r : Reader) → (bytes others : List ℕ) → r.failed ≡ None → IsFed r bytes → IsFed r others → GoOnAlike bytes others
go_on_alike r bytes others e h g =
    same_state bytes others (state_of r.reading) (stood r.failed r.reading r.taken r.token_at bytes e h) (stood r.failed r.reading r.taken r.token_at others e g)

failed_as : (f : Option HtmlRefusal) (g : Reading) (count at : ℕ) (bytes : List ℕ) (place : ℕ) (w : HtmlWhy) → f ≡ Some (refusals.Html place w)
    → FedAs f g count at bytes → (run start bytes ≡ Err w) × (taken start bytes ≡ place)
failed_as f g count at bytes place w e h =
    let k = subst (λ (x : Option HtmlRefusal). FedAs x g count at bytes) e h in (k.0, k.1)

pub stays_failed : (r : Reader) → (bytes more : List ℕ) → (place : ℕ) → (w : HtmlWhy) → r.failed ≡ Some (refusals.Html place w) → IsFed r bytes
    → RefusedFor (bytes ++ more) (refusals.Html place w)
stays_failed r bytes more place w e h =
    let k = failed_as r.failed r.reading r.taken r.token_at bytes place w e h in
    subst (λ (n : ℕ). Refused (bytes ++ more) n w) (taken_err bytes more start w k.0 ∙ k.1) (refused (bytes ++ more) w (run_err bytes more start w k.0))
