-- `gen`: from what is counted and what comes back to the answer of the program.
use Rattle.std.proofs.Common.{◌≡◌, ℕ, ◌<◌, ◌≤◌, Bool, true, false, List, [], ◌∷◌, length, cond, refl, sym, ap, ◌∙◌, subst, arith}
use Rattle.std.specs.Prelude.{◌≢◌, AllPairs, codes, nat_lt, nat_le, Option, Some, None, option_map, option_and_then, Result, Ok, ⊤}
use Rattle.std.specs.Str.{bytes_eq}
use Rattle.std.specs.Io.KnownBytes.{Appends}
use Rattle.std.proofs.lemmas.Bool.Decides.{nat_tests}
use Rattle.wt_tree.specs.Source.{flat}
use Rattle.wt_tree.specs.Tree.{Tree}
use Rattle.wt_expand.specs.Work.{Pages, Refused}
use Rattle.wt_schema.specs.Attributes.{decimal_of}
use Rattle.wt_schema.specs.Read.{read}
use Rattle.wt_html_in.specs.Answers.{body_of, Answers, RefusedFor}
use Rattle.wt_html_in.specs.declared.edited.Edited.{Edited}
use Rattle.wt_html_in.specs.declared.refusal.HtmlRefusal.TheVariants as refusals
use Rattle.wt_html_grammar.specs.declared.why.HtmlWhy.{HtmlWhy}
use Rattle.wt_schema.specs.declared.why.FitWhy.{FitWhy}
use Rattle.wt_schema.specs.Html.{html_text}
use Rattle.wt_page_round_trip.specs.PageTree.{page_tree}
use Rattle.wt_commands.specs.declared.output.Output.{Output}
use Rattle.wt_commands.specs.declared.refusal.Refusal.{Refusal}
use Rattle.wt_commands.specs.declared.refusal.Refusal.TheVariants.{HtmlTooLong}
use Rattle.wt_commands.specs.declared.status.Status.{Status}
use Rattle.wt_commands.specs.declared.status.Status.TheVariants as status
use Rattle.wt_commands.specs.declared.command.PageCommand.{PageCommand}
use Rattle.wt_commands.specs.declared.command.PageCommand.TheVariants.{Html, Ranges, Lint}
use Rattle.wt_commands.specs.declared.command.Command.{Command}
use Rattle.wt_commands.specs.declared.command.Command.TheVariants.{Page, Expand, Edit, Selser, Gen, Wikitext}
use Rattle.wt_commands.specs.Answers.{done, refused, expanded_by, told_of_tree, gen_of, gen_answer, title_answer, answer_told, IsText}
use Rattle.wt_commands.specs.Causes.{Answered, IsOfPage, IsOfTitle, IsPageStatus, IsTitleStatus}
use Rattle.wt_commands.specs.Gen.{back, gen_line, gen_page, gen_pages}
use Rattle.wt_commands.specs.Refusals.{status_of}
use Rattle.wt_commands.specs.Reports.{WroteCounts}
use Rattle.wt_commands.specs.Words.{command_of, page_command, page_name, section_count, at_most}
use Rattle.wt_commands.proofs.GivenBackLaws.{read_back}
use Rattle.wt_commands.proofs.PageLaws.{expanded_made}

-- ---- the folder

-- no two of one page have the same name
pub one_apart : (x : List ℕ × List ℕ) (xs : List (List ℕ × List ℕ)) → xs ≡ x ∷ [] → AllPairs (λ a b. a.0 ≢ b.0) xs
one_apart x xs e =
    let one : length xs ≡ 1 = ap length e in
    λ i j d before within. absurd (omega (arith, before, within, one))

-- ---- the number of sections

-- a command that makes a page has at most so many sections
abbrev pub HasFewSections : Option Command → Type 0
HasFewSections None = ⊤
HasFewSections (Some (Page command name)) = ⊤
HasFewSections (Some (Expand name)) = ⊤
HasFewSections (Some (Edit name)) = ⊤
HasFewSections (Some (Selser name)) = ⊤
HasFewSections (Some (Gen n)) = n ≤ 10000
HasFewSections (Some Wikitext) = ⊤

few_page : (command : PageCommand) (name : Option (List ℕ)) → HasFewSections (option_map (λ title. Page command title) name)
few_page command None = tt
few_page command (Some title) = tt

few_expand : (name : Option (List ℕ)) → HasFewSections (option_map (λ title. Expand title) name)
few_expand None = tt
few_expand (Some title) = tt

few_edit : (name : Option (List ℕ)) → HasFewSections (option_map (λ title. Edit title) name)
few_edit None = tt
few_edit (Some title) = tt

few_selser : (name : Option (List ℕ)) → HasFewSections (option_map (λ title. Selser title) name)
few_selser None = tt
few_selser (Some title) = tt

few_within : (n : ℕ) (v : Bool) → nat_le n 10000 ≡ v → HasFewSections (option_map (λ count. Gen count) (cond v (Some n) None))
few_within n true e = grind (arith, nat_tests)
few_within n false e = tt

few_counted : (count : Option ℕ) → HasFewSections (option_map (λ n. Gen n) (option_and_then at_most count))
few_counted None = tt
few_counted (Some n) = few_within n (nat_le n 10000) refl

few_gen : (word : List ℕ) → HasFewSections (option_map (λ n. Gen n) (section_count word))
unfolding section_count
few_gen word = few_counted (decimal_of word)

either : (v : Bool) (x y : Option Command) → HasFewSections x → HasFewSections y → HasFewSections (cond v x y)
either true x y few other = few
either false x y few other = other

few_two : (word title : List ℕ) → HasFewSections (page_command word title)
few_two word title =
    let name = page_name title in
    let selser = either (bytes_eq word (codes "selser")) (option_map (λ name. Selser name) name) None (few_selser name) tt in
    let lint = either (bytes_eq word (codes "lint")) (option_map (λ name. Page Lint name) name) _ (few_page Lint name) selser in
    let gen = either (bytes_eq word (codes "gen")) (option_map (λ n. Gen n) (section_count title)) _ (few_gen title) lint in
    let edit = either (bytes_eq word (codes "edit")) (option_map (λ name. Edit name) name) _ (few_edit name) gen in
    let expand = either (bytes_eq word (codes "expand")) (option_map (λ name. Expand name) name) _ (few_expand name) edit in
    let ranges = either (bytes_eq word (codes "ranges")) (option_map (λ name. Page Ranges name) name) _ (few_page Ranges name) expand in
    either (bytes_eq word (codes "html")) (option_map (λ name. Page Html name) name) _ (few_page Html name) ranges

few_command : (words : List (List ℕ)) → HasFewSections (command_of words)
unfolding command_of
few_command [] = tt
few_command (word ∷ []) = either (bytes_eq word (codes "wikitext")) (Some Wikitext) None tt tt
few_command (word ∷ title ∷ []) = few_two word title
few_command (word ∷ title ∷ more ∷ rest) = tt

pub few_sections : (words : List (List ℕ)) (n : ℕ) → command_of words ≡ Some (Gen n) → n ≤ 10000
few_sections words n is = subst HasFewSections is (few_command words)

-- ---- what comes back

pub back_read : (html : List ℕ) (edited : Edited) → Answers (Ok edited) html → back (read html) ≡ length (flat (body_of edited))
back_read html edited answers = ap back answers

pub back_ill : (html : List ℕ) (place : ℕ) (why : HtmlWhy) → RefusedFor html (refusals.Html place why) → back (read html) ≡ 0
back_ill html place why is = ap back is

pub back_unfit : (html : List ℕ) (n : ℕ) (why : FitWhy) → RefusedFor html (refusals.Unfit n why) → back (read html) ≡ 0
back_unfit html n why is = ap back is

-- ---- an answer

pub told_within : (n : ℕ) (t : Tree) (html text : List ℕ) → html ≡ html_text t → length html ≤ 67108864 → text ≡ gen_line n t → told_of_tree n t ≡ done text
told_within n t html text same few is =
    let within : length (html_text t) ≤ 67108864 = subst (λ bs. length bs ≤ 67108864) same few in
    let e : nat_lt 67108864 (length (html_text t)) ≡ false = grind (arith, nat_tests) in
    ap (λ v. cond v (refused HtmlTooLong) (done (gen_line n t))) e ∙ ap done (sym is)

pub told_long : (n : ℕ) (t : Tree) → 67108864 < length (html_text t) → told_of_tree n t ≡ refused HtmlTooLong
told_long n t long =
    let e : nat_lt 67108864 (length (html_text t)) ≡ true = grind (arith, nat_tests) in
    ap (λ v. cond v (refused HtmlTooLong) (done (gen_line n t))) e

pub gen_expanded : (n : ℕ) (t u : Tree) (o : Option Refused) (result : Result Output Refusal) → o ≡ None → t ≡ u
    → Answered (told_of_tree n t) result → Answered (expanded_by (told_of_tree n u) o) result
gen_expanded n t u o result none is a =
    subst (λ x. Answered x result) (ap (told_of_tree n) is ∙ sym (ap (expanded_by (told_of_tree n u)) none)) a

-- the page that is made is text
pub gen_made : (n : ℕ) (bytes text : List ℕ) (result : Result Output Refusal) → bytes ≡ gen_page n → text ≡ bytes → IsText bytes
    → Answered (gen_of text) result → Answered (gen_answer n) result
gen_made n bytes text result page same is a =
    let e : gen_answer n ≡ gen_of (gen_page n) = subst (λ bs. title_answer (Some bs) gen_of ≡ gen_of bs) page (is gen_of) in
    subst (λ x. Answered x result) (ap gen_of (same ∙ page) ∙ sym e) a

-- where no folder can fail, a refusal lies with the page
page_status : (s : Status) → IsTitleStatus 0 0 s → IsPageStatus s
page_status status.Done h = h
page_status status.Usage h = h
page_status status.PageRefused h = h
page_status status.HtmlRefused h = h
page_status status.EditRefused h = h
page_status status.ReadFault h = h
page_status status.FolderFault h = absurd (omega (arith, h))
page_status status.WriteFault h = h
page_status status.NoMemory h = h

pub of_page_alone : (r : Refusal) → IsOfTitle 0 0 r → IsOfPage r
of_page_alone r h = page_status (status_of r) h

-- ---- the clause

told_is : (n : ℕ) (t : Tree) (bytes : List ℕ) (v : Bool) → cond v (refused HtmlTooLong) (done (gen_line n t)) ≡ done bytes → bytes ≡ gen_line n t
told_is n t bytes true e = cc
told_is n t bytes false e = cc

same_page : (page other : List ℕ) → Some page ≡ Some other → other ≡ page
same_page page other e = cc

pub wrote_counts : (n : ℕ) (bytes : List ℕ) (old new : Option (List ℕ)) → gen_answer n ≡ done bytes → Appends old new bytes → WroteCounts n old new
wrote_counts n bytes old new e wrote =
    let page = gen_page n in
    let m = expanded_made gen_pages (Some page) (λ bs. told_of_tree (length bs) (page_tree gen_pages bs)) bytes e in
    let same : m.page ≡ page = same_page page m.page m.found in
    let is : bytes ≡ gen_line (length m.page) (page_tree gen_pages m.page) =
    told_is (length m.page) (page_tree gen_pages m.page) bytes (nat_lt 67108864 (length (html_text (page_tree gen_pages m.page)))) m.is in
    let r = read_back gen_pages m.page m.text m.within m.unrefused in
    let b : back (read (html_text (page_tree gen_pages m.page))) ≡ length m.page = ap back r.reads ∙ ap length r.source in
    record {
      wrote = subst (λ bs. Appends old new (gen_line (length bs) (page_tree gen_pages bs))) same (subst (Appends old new) is wrote);
      comes_back = subst (λ bs. back (read (html_text (page_tree gen_pages bs))) ≡ length bs) same b;
    }

pub told_counts : (pages : Option Pages) (input : Option (List ℕ)) (words : List (List ℕ)) (n : ℕ) → command_of words ≡ Some (Gen n)
    → answer_told pages input words ≡ Some (gen_answer n)
unfolding answer_told
told_counts pages input words n e = rw e refl
