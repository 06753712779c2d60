-- What is answered where a byte isn't taken.
use Rattle.std.specs.Prelude.{ℕ, ◌==◌, Result, Ok, Err, if◌then◌else◌}
use Rattle.wt_html_grammar.specs.declared.why.HtmlWhy.{HtmlWhy}
use Rattle.wt_html_grammar.specs.declared.why.HtmlWhy.TheVariants as why
use Rattle.wt_html_reasons.specs.declared.refusal.Fault.{Fault}
use Rattle.wt_html_reasons.specs.declared.refusal.Fault.TheVariants as faults
use Rattle.wt_html_reasons.specs.declared.refusal.HtmlRefusal.{HtmlRefusal}
use Rattle.wt_html_reasons.specs.declared.refusal.HtmlRefusal.TheVariants as refusals

-- a fault in the HTML is answered with its place; no memory has none
abbrev pub refusal_of : ℕ → Fault → HtmlRefusal
refusal_of place (faults.Html w) = refusals.Html place w
refusal_of place faults.NoMemory = refusals.NoMemory

-- an end tag goes on with the next letter of the name of the element that is open, and with no other
abbrev pub goes_on : ℕ → ℕ → Result Unit HtmlWhy
goes_on letter byte = if byte == letter then Ok tt else Err why.EndTag
