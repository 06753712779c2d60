-- What a reader was fed. Its type keeps that there are such bytes.
use Rattle.std.specs.Prelude.{◌≡◌, ℕ, ◌-◌, ◌≤◌, Option, Some, None, Err, List, length}
use Rattle.wt_html_grammar.specs.Machine.{start, run}
use Rattle.wt_html_grammar.specs.Places.{taken}
use Rattle.wt_html_reasons.specs.declared.refusal.HtmlRefusal.{HtmlRefusal}
use Rattle.wt_html_reasons.specs.declared.refusal.HtmlRefusal.TheVariants as refusals
use Rattle.wt_html_elements.specs.declared.reading.Reading.{Reading}
use Rattle.wt_html_elements.specs.Reads.{Reads, tag_held}

-- these bytes were fed, so many in all, where what is held begins at this place; or it has failed, and holds
-- nothing of a tag
abbrev pub FedAs : Option HtmlRefusal → Reading → ℕ → ℕ → List ℕ → Type 0
FedAs None g count token_at bytes = Reads g bytes (count - token_at) × (count ≡ length bytes) × (token_at ≤ count)
FedAs (Some (refusals.Html place w)) g count token_at bytes = (run start bytes ≡ Err w) × (taken start bytes ≡ place) × (tag_held g ≡ 0)
FedAs (Some refusals.NoMemory) g count token_at bytes = tag_held g ≡ 0
