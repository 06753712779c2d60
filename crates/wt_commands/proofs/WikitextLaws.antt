-- The answer to `wikitext`, from what the reader of HTML gave.
use Rattle.std.proofs.Common.{◌≡◌, ℕ, ◌-◌, ◌<◌, ◌≤◌, List, ◌++◌, length, refl, sym, subst, arith, length-append}
use Rattle.std.specs.Prelude.{Option, Some, None, option_map, IfSome, IfErr, IsErrAnd, Result, Ok, Err}
use Rattle.std.specs.Io.KnownBytes.{Consumes}
use Rattle.std.proofs.KnownBytes.{Consumes-trans}
use Rattle.wt_expand.specs.Work.{Pages}
use Rattle.wt_tree.specs.Tree.{Tree}
use Rattle.wt_tree.specs.Source.{flat}
use Rattle.wt_schema.specs.Read.{Read, page as as_page, read}
use Rattle.wt_html_in.specs.Answers.{body_of, unsourced_of, Answers}
use Rattle.wt_html_in.specs.Feeding.{IsFed}
use Rattle.wt_html_in.specs.declared.edited.Edited.{Edited}
use Rattle.wt_html_in.specs.declared.reader.Reader.{Reader}
use Rattle.wt_html_in.specs.declared.refusal.HtmlRefusal.{HtmlRefusal}
use Rattle.wt_html_in.specs.declared.refusal.HtmlRefusal.TheVariants as refusals
use Rattle.wt_commands.specs.declared.output.Output.{Output}
use Rattle.wt_span.specs.declared.limits.TheConstants.{HTML_BYTES}
use Rattle.wt_commands.specs.declared.refusal.Refusal.{Refusal}
use Rattle.wt_commands.specs.declared.refusal.Refusal.TheVariants.{Unsourced, InputTooLong, NoMemory}
use Rattle.wt_commands.specs.Answers.{Answer, done, refused, source_answer, input_answer, wikitext_answer, answer_told}
use Rattle.wt_commands.specs.declared.command.Command.TheVariants.{Wikitext}
use Rattle.wt_commands.specs.Words.{command_of}
use Rattle.wt_commands.specs.Inputs.{FedWhole}
use Rattle.wt_commands.specs.Causes.{Answered, Refuses, RefusesInput, refusal_of}
use Rattle.wt_commands.proofs.AnswerLaws.{too_long_given, answered_by}

-- ---- reading

-- a piece that would pass the limit
pub past_most : (old mid new : Option (List ℕ)) (bytes piece : List ℕ) → Consumes old mid bytes → Consumes mid new piece
    → length bytes ≤ HTML_BYTES → HTML_BYTES - length bytes < length piece
    → IfSome old (λ all. RefusesInput all InputTooLong)
past_most old mid new bytes piece first second within past =
    too_long_given old new (bytes ++ piece) (Consumes-trans old mid new bytes piece first second) (simp length-append (omega arith))

-- ---- what was read

pub source_unsourced : (t : Tree) (o : Option ℕ) (n : ℕ) → o ≡ Some n → source_answer (as_page t o) ≡ refused (Unsourced n)
unfolding source_answer
source_unsourced t o n e = rw e refl

pub source_sourced : (t : Tree) (o : Option ℕ) (text : List ℕ) → o ≡ None → text ≡ flat t → source_answer (as_page t o) ≡ done text
unfolding source_answer
source_sourced t o text none is = rw (none, is) refl

pub answered_read : (edited : Edited) (bytes : List ℕ) (result : Result Output Refusal) → Answers (Ok edited) bytes
    → Answered (source_answer (as_page (body_of edited) (unsourced_of edited))) result
    → Answered (source_answer (read bytes)) result
answered_read edited bytes result reads answered = subst (λ r. Answered (source_answer r) result) (sym reads) answered

refused_read : (refusal : HtmlRefusal) (bytes : List ℕ) → Answers (Err refusal) bytes → Refuses (refusal_of refusal) (source_answer (read bytes))
unfolding source_answer
refused_read (refusals.Html place why) bytes reads = rw reads refl
refused_read (refusals.Unfit n why) bytes reads = rw reads refl
refused_read refusals.NoMemory bytes reads = tt

pub refused_from : (refusal : HtmlRefusal) (bytes : List ℕ) (result : Result Output Refusal) → Answers (Err refusal) bytes
    → IsErrAnd result (λ r. r ≡ refusal_of refusal) → Answered (source_answer (read bytes)) result
refused_from refusal bytes (Ok output) reads is = absurd is
refused_from refusal bytes (Err r) reads is = subst (λ x. Refuses x (source_answer (read bytes))) (sym is) (refused_read refusal bytes reads)

-- all of the input was fed, so what was fed decides the answer
pub answered_whole : (made : Read → Answer) (reader : Reader) (old new : Option (List ℕ)) (result : Result Output Refusal)
    → FedWhole reader old new → ((bytes : List ℕ) → IsFed reader bytes → Answered (made (read bytes)) result)
    → IfSome old (λ all. Answered (input_answer made all) result)
answered_whole made reader old new result whole answered =
    answered_by made old whole.bytes result whole.whole whole.within (answered whole.bytes whole.fed)

-- memory ran out
pub memory_refused : {T : Type 0} (old : Option (List ℕ)) (result : Result T Refusal) → IsErrAnd result (λ r. r ≡ NoMemory)
    → IfErr result (λ r. IfSome old (λ bytes. RefusesInput bytes r))
memory_refused old (Ok value) is = tt
memory_refused None (Err r) is = tt
memory_refused (Some bytes) (Err r) is = λ made. subst (λ x. Refuses x (input_answer made bytes)) (sym is) tt

-- ---- the answer to the words

pub told_wikitext : (pages : Option Pages) (input : Option (List ℕ)) (words : List (List ℕ)) → command_of words ≡ Some Wikitext
    → answer_told pages input words ≡ option_map wikitext_answer input
unfolding answer_told
told_wikitext pages input words e = rw e refl
