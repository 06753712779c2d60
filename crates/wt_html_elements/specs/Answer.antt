-- What a reader answers.
use Rattle.std.specs.Prelude.{◌≡◌, ℕ, ◌≤◌, Option, Some, None, Result, Ok, Err, List}
use Rattle.wt_html_grammar.specs.declared.why.HtmlWhy.TheVariants.{End}
use Rattle.wt_html_grammar.specs.Grammar.{Front}
use Rattle.wt_html_grammar.specs.Places.{Refused}
use Rattle.wt_html_grammar.specs.Markup.{Stands}
use Rattle.wt_html_reasons.specs.declared.refusal.HtmlRefusal.{HtmlRefusal}
use Rattle.wt_html_reasons.specs.declared.refusal.HtmlRefusal.TheVariants as refusals
use Rattle.wt_html_elements.specs.declared.content.Content.{Content}
use Rattle.wt_html_elements.specs.declared.reader.Reader.{Reader}
use Rattle.wt_html_elements.specs.Reads.{tag_held}
use Rattle.wt_html_elements.specs.Fed.{FedAs}
use Rattle.wt_html_elements.specs.Built.{view_content}

-- these bytes are refused so
abbrev pub RefusedFor : List ℕ → HtmlRefusal → Type 0
RefusedFor bytes (refusals.Html place w) = Refused bytes place w
RefusedFor bytes refusals.NoMemory = Unit {0}

-- what is read of these bytes: the tree that they stand for, or where and why they are no HTML
abbrev pub Answers : Result Content HtmlRefusal → List ℕ → Type 0
Answers (Ok c) bytes = Stands bytes (view_content c)
Answers (Err e) bytes = RefusedFor bytes e

abbrev pub IsFed : Reader → List ℕ → Type 0
IsFed r bytes = FedAs r.failed r.reading r.taken r.token_at bytes

-- how many bytes the reader holds of the start tag that is read: of its name and its attributes
abbrev pub held_len : Reader → ℕ
held_len r = tag_held r.reading

abbrev pub answer_of : Option HtmlRefusal → Result Unit HtmlRefusal
answer_of None = Ok tt
answer_of (Some e) = Err e

-- the place isn't before the bytes that were fed earlier
abbrev pub IsAtLeast : ℕ → HtmlRefusal → Type 0
IsAtLeast k (refusals.Html place w) = k ≤ place
IsAtLeast k refusals.NoMemory = Unit {0}

-- no well-formed input begins with these bytes, and that isn't for want of an end
abbrev pub IsIll : List ℕ → HtmlRefusal → Type 0
IsIll bytes (refusals.Html place w) = (Front bytes → ⊥) × (w ≡ End → ⊥)
IsIll bytes refusals.NoMemory = Unit {0}
