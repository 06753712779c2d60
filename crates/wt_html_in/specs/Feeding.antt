-- What a reader of pages was fed.
use Rattle.std.specs.Prelude.{◌≡◌, ℕ, ◌≤◌, Option, Some, None, List}
use Rattle.wt_html_grammar.specs.Grammar.{Front}
use Rattle.wt_html_grammar.specs.declared.why.HtmlWhy.TheVariants.{End}
use Rattle.wt_html_elements.specs.Answer.{IsFed as IsFedElements, held_len}
use Rattle.wt_html_reasons.specs.declared.refusal.HtmlRefusal.{HtmlRefusal as ElementsRefusal}
use Rattle.wt_html_reasons.specs.declared.refusal.HtmlRefusal.TheVariants as elements
use Rattle.wt_html_in.specs.declared.reader.Reader.{Reader}
use Rattle.wt_html_in.specs.declared.refusal.HtmlRefusal.{HtmlRefusal}
use Rattle.wt_html_in.specs.declared.refusal.HtmlRefusal.TheVariants as refusals

-- these bytes were fed
unfoldable pub IsFed : Reader → List ℕ → Type 0
IsFed r bytes = IsFedElements r.elements bytes

-- how many bytes were taken
unfoldable pub taken_of : Reader → ℕ
taken_of r = r.elements.taken

-- how many bytes it holds of the start tag that is read: of its name and its attributes
unfoldable pub held_of : Reader → ℕ
held_of r = held_len r.elements

abbrev pub refusal_told : ElementsRefusal → HtmlRefusal
refusal_told (elements.Html place w) = refusals.Html place w
refusal_told elements.NoMemory = refusals.NoMemory

abbrev pub failure_told : Option ElementsRefusal → Option HtmlRefusal
failure_told None = None
failure_told (Some e) = Some (refusal_told e)

-- the refusal with which it has failed
unfoldable pub failed_of : Reader → Option HtmlRefusal
failed_of r = failure_told r.elements.failed

-- no well-formed input begins with these bytes, and that isn't for want of an end
abbrev pub IsIll : List ℕ → HtmlRefusal → Type 0
IsIll bytes (refusals.Html place w) = (Front bytes → ⊥) × (w ≡ End → ⊥)
IsIll bytes (refusals.Unfit n w) = ⊥
IsIll bytes refusals.NoMemory = Unit {0}

-- the place isn't before the bytes that were fed earlier
abbrev pub IsAtLeast : ℕ → HtmlRefusal → Type 0
IsAtLeast k (refusals.Html place w) = k ≤ place
IsAtLeast k (refusals.Unfit n w) = Unit {0}
IsAtLeast k refusals.NoMemory = Unit {0}
