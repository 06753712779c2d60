-- From reading back to `run`: what `wikitext` answers for the HTML of a page.
use Rattle.std.proofs.Common.{◌≡◌, ℕ, ◌≤◌, List, length, true, false, Bool, cond, refl, sym, ap, ◌∙◌, subst, arith, inl, inr}
use Rattle.std.specs.Prelude.{IsUtf8, nat_lt, Option, Some, None, option_map, IfSome, Result, Ok, Err}
use Rattle.std.specs.Io.KnownBytes.{Appends}
use Rattle.std.proofs.lemmas.Bool.Decides.{nat_tests}
use Rattle.wt_devices.specs.Device.{Pages}
use Rattle.wt_tree.specs.Opened.{without_sections}
use Rattle.wt_schema.specs.Html.{html_text}
use Rattle.wt_schema.specs.Read.{read}
use Rattle.wt_commands.specs.declared.output.Output.{Output}
use Rattle.wt_commands.specs.declared.status.Status.{Status}
use Rattle.wt_commands.specs.declared.refusal.Refusal.{Refusal}
use Rattle.wt_commands.specs.declared.refusal.Refusal.TheVariants.{HtmlTooLong}
use Rattle.wt_commands.specs.declared.command.Command.TheVariants.{Wikitext}
use Rattle.wt_commands.specs.declared.command.PageCommand.TheVariants.{Html}
use Rattle.wt_commands.specs.Outputs.{output_bytes}
use Rattle.wt_commands.specs.Statuses.{code}
use Rattle.wt_commands.specs.Refusals.{status_of}
use Rattle.wt_page_round_trip.specs.PageTree.{page_tree}
use Rattle.wt_commands.specs.Words.{command_of}
use Rattle.wt_commands.specs.Answers.{done, refused, refusal_of_page, made_of_tree, html_answer, source_answer, wikitext_answer, answer_told}
use Rattle.wt_commands.specs.Causes.{Answered}
use Rattle.wt_commands.specs.Devices.{SinkUse}
use Rattle.wt_commands.specs.Reports.{Reported}
use Rattle.wt_commands.specs.GivenBack.{IsReadBack, IsGivenBack, GaveBack}
use Rattle.wt_commands.proofs.PageLaws.{expanded_made}
use Rattle.wt_commands.proofs.AnswerLaws.{input_within}
use Rattle.wt_commands.proofs.WikitextLaws.{source_sourced, told_wikitext}
use Rattle.wt_commands.proofs.StatusLaws.{IsUnansweredBy, unanswered, no_refusal}
use Rattle.wt_page_round_trip.proofs.Pages.{page_is_read, same_page}
use Rattle.wt_schema.specs.Written.{unranged}

-- what an answer that is HTML says of the page
pub record Written (pages : Pages) (page bytes : List ℕ) : Type 0 where
  pub within : length page ≤ 2097152
  pub text : IsUtf8 page
  pub unrefused : refusal_of_page pages page ≡ None
  pub is : bytes ≡ html_text (page_tree pages page)
  pub few : length bytes ≤ 67108864

abbrev IsFew : List ℕ → List ℕ → Type 0
IsFew html bytes = (bytes ≡ html) × (length bytes ≤ 67108864)

few_html : (html bytes : List ℕ) (v : Bool) → nat_lt 67108864 (length html) ≡ v → cond v (refused HtmlTooLong) (done html) ≡ done bytes → IsFew html bytes
few_html html bytes true is e = cc
few_html html bytes false is e =
    let same : bytes ≡ html = cc in
    let few : length html ≤ 67108864 = grind (arith, nat_tests) in
    (same, subst (λ bs. length bs ≤ 67108864) (sym same) few)

-- the page that is expanded is the one that stands
stands_there : (page other : List ℕ) → Some page ≡ Some other → other ≡ page
stands_there page other e = cc

pub written : (pages : Pages) (page bytes : List ℕ) → html_answer pages (Some page) ≡ done bytes → Written pages page bytes
written pages page bytes e =
    let m = expanded_made pages (Some page) (λ bs. made_of_tree Html bs (page_tree pages bs)) bytes e in
    let html = html_text (page_tree pages m.page) in
    let few = few_html html bytes (nat_lt 67108864 (length html)) refl m.is in
    subst (λ bs. Written pages bs bytes) (stands_there page m.page m.found)
    (record { within = m.within; text = m.text; unrefused = m.unrefused; is = few.0; few = few.1 })

-- a page whose HTML is read back is given back
given_back : (pages : Pages) (page : List ℕ)
    → (IsUtf8 page → length page ≤ 2097152 → refusal_of_page pages page ≡ None → IsReadBack pages page) → IsGivenBack pages page
given_back pages page back bytes e =
    let w = written pages page bytes e in
    let b = back w.text w.within w.unrefused in
    input_within source_answer bytes w.few ∙ ap source_answer (ap read w.is ∙ b.reads) ∙ source_sourced b.tree None page refl (sym b.source)

pub read_back : (pages : Pages) (page : List ℕ) → IsUtf8 page → length page ≤ 2097152 → refusal_of_page pages page ≡ None → IsReadBack pages page
read_back pages page text within unrefused = record {
  tree = unranged (without_sections (page_tree pages page));
  reads = page_is_read pages page text (omega (arith, within)) unrefused;
  source = same_page pages page text unrefused;
}

pub all_given_back : (pages : Pages) (page : List ℕ) → IsGivenBack pages page
all_given_back pages page = given_back pages page (read_back pages page)

-- ---- the clause

pub gave_step : (page : List ℕ) (found : Result Output Refusal) (s : Status) (ended : ℕ) (o e : SinkUse) → ended ≡ code s
    → Answered (done page) found → Reported found s o e → GaveBack page ended o.taken_before o.taken_after
gave_step page (Ok output) s ended o e is a (inl r) =
    let same : page ≡ output_bytes output = cc in
    inl (is ∙ ap code r.0, subst (Appends o.taken_before o.taken_after) (sym same) r.1.taken)
gave_step page (Ok output) s ended o e is a (inr r) = inr (unanswered s ended is (subst IsUnansweredBy (sym r.0) tt))
gave_step page (Err refusal) s ended o e is a (u, inl (inl t)) =
    inr (unanswered s ended is (subst IsUnansweredBy (sym t.0) (no_refusal page refusal (status_of refusal) a)))
gave_step page (Err refusal) s ended o e is a (u, inl (inr t)) = inr (unanswered s ended is (subst IsUnansweredBy (sym t.0) tt))
gave_step page (Err refusal) s ended o e is a (u, inr (inl t)) = inr (unanswered s ended is (subst IsUnansweredBy (sym t.0) tt))
gave_step page (Err refusal) s ended o e is a (u, inr (inr t)) = inr (unanswered s ended is (subst IsUnansweredBy (sym t.0) tt))

gave_told : (input : Option (List ℕ)) (found : Result Output Refusal) (s : Status) (ended : ℕ) (o e : SinkUse) → ended ≡ code s
    → IfSome (option_map wikitext_answer input) (λ a. Answered a found) → Reported found s o e
    → IfSome input (λ bytes. (pages : Pages) → (page : List ℕ) → html_answer pages (Some page) ≡ done bytes → GaveBack page ended o.taken_before o.taken_after)
gave_told None found s ended o e is a r = tt
gave_told (Some bytes) found s ended o e is a r = λ pages page h. gave_step page found s ended o e is
    (subst (λ x. Answered x found) (all_given_back pages page bytes h) a) r

pub run_gives_back : (pages : Option Pages) (input : Option (List ℕ)) (words : List (List ℕ)) (found : Result Output Refusal)
    (s : Status) (ended : ℕ) (o e : SinkUse) → ended ≡ code s → command_of words ≡ Some Wikitext
    → IfSome (answer_told pages input words) (λ a. Answered a found) → Reported found s o e
    → IfSome input (λ bytes. (pages : Pages) → (page : List ℕ) → html_answer pages (Some page) ≡ done bytes → GaveBack page ended o.taken_before o.taken_after)
run_gives_back pages input words found s ended o e is w a r =
    gave_told input found s ended o e is (subst (λ x. IfSome x (λ y. Answered y found)) (told_wikitext pages input words w) a) r
