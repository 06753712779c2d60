-- What a call answers that sends an edited tree of a page, and how it ends: where `edit` answers a page, it has written this page.
use Rattle.std.proofs.Common.{◌≡◌, ℕ, ◌≤◌, Bool, Option, Some, List, length, ap, ◌∙◌, subst}
use Rattle.std.specs.Prelude.{◌⊎◌, if◌then◌else◌, IfSome}
use Rattle.std.specs.Str.{IsUtf8}
use Rattle.wt_span.specs.declared.limits.TheConstants.{HTML_BYTES, PAGE_BYTES}
use Rattle.wt_devices.specs.Device.{Pages}
use Rattle.wt_tree.specs.Tree.{Label, Tree}
use Rattle.wt_utf8.specs.Places.{not_utf8_place}
use Rattle.wt_utf8.proofs.PlaceLaws.{no_place}
use Rattle.wt_schema.specs.Read.{page as as_page, read}
use Rattle.wt_commands.specs.declared.refusal.Refusal.TheVariants.{TooLong, InputTooLong}
use Rattle.wt_commands.specs.declared.command.Command.TheVariants.{Edit, Selser}
use Rattle.wt_commands.specs.Answers.{Answer, done, refused, text_answer, title_answer, edited_answer, input_answer, edit_of, edit_to, answer_to, answer_told}
use Rattle.wt_commands.specs.Calls.{Call, known_answer}
use Rattle.wt_commands.specs.declared.status.Status.TheVariants as status
use Rattle.wt_pagetool.specs.Promises.{EndsAsEdit}
use Rattle.wt_commands.specs.UnmarkedEdits.{DoneByEdit}
use Rattle.wt_commands.specs.Statuses.{code, IsFaultOrNoMemory}
use Rattle.wt_text_edit_laws.proofs.Prose.ProseTakes.{not_longer}
use Rattle.wt_program.specs.AnyCalls.{SendsFor}

-- of what is under a title, to an input
edit_is : (pages : Pages) (page new input : List ℕ) (u : Tree) (unsourced : Option ℕ) → IsUtf8 page → length page ≤ PAGE_BYTES → length input ≤ HTML_BYTES
    → read input ≡ as_page u unsourced → edit_to pages page u ≡ done new → edit_of pages (Some page) input ≡ done new
unfolding title_answer input_answer edited_answer
edit_is pages page new input u unsourced utf8 short small is made =
    let at : List ℕ → Answer = λ page. input_answer (edited_answer pages page) input in
    ap (λ (v : Bool). if v then refused TooLong else text_answer page at (not_utf8_place page)) (not_longer (length page) PAGE_BYTES short)
    ∙ ap (text_answer page at) (no_place page utf8)
    ∙ ap (λ (v : Bool). if v then refused InputTooLong else edited_answer pages page (read input)) (not_longer (length input) HTML_BYTES small)
    ∙ ap (edited_answer pages page) is
    ∙ made

pub answer_is : (c : Call) (page new : List ℕ) (sent : Label → Tree) → IsUtf8 page → (s : SendsFor c Edit page new sent) → edit_to s.pages page (sent s.body) ≡ done new
    → known_answer c ≡ Some (done new)
unfolding answer_told
answer_is c page new sent utf8 s made =
    ap (λ (told : Option Pages). answer_told told c.input.left_before c.words) s.told
    ∙ ap (λ (given : Option (List ℕ)). answer_told (Some s.pages) given c.words) s.given
    ∙ ap (answer_to (Some s.pages) (Some s.input)) s.words
    ∙ ap (λ (stands : Option (List ℕ)). Some (edit_of s.pages stands s.input)) s.found
    ∙ ap (λ (a : Answer). Some a) (edit_is s.pages page new s.input (sent s.body) s.unsourced utf8 s.old_within s.within s.reads made)

pub selser_ends : (c : Call) (ended : ℕ) (page new : List ℕ) (sent : Label → Tree) (s : SendsFor c Selser page new sent)
    → DoneByEdit s.pages (s.pages s.title) s.input → EndsAsEdit c ended → (ended ≡ code status.Done) ⊎ IsFaultOrNoMemory ended
selser_ends c ended page new sent s made ends =
    let P : Pages → List ℕ → Type 0 = λ pages bytes. DoneByEdit pages (pages s.title) bytes → (ended ≡ code status.Done) ⊎ IsFaultOrNoMemory ended in
    let over = subst (λ (told : Option Pages). IfSome told (λ pages. IfSome c.input.left_before (λ bytes. P pages bytes))) s.told
    (ends.selser_as_edit s.title s.words) in
    let both : P s.pages s.input = subst (λ (given : Option (List ℕ)). IfSome given (λ bytes. P s.pages bytes)) s.given over in
    both made
