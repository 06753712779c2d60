-- An edit of a page whose expansion is refused.
use Rattle.std.proofs.Common.{◌≡◌, ℕ, List, ap, sym, subst}
use Rattle.std.specs.Prelude.{Option, IsErrAnd, Result, Ok, Err}
use Rattle.wt_devices.specs.Device.{Pages}
use Rattle.wt_tree.specs.Tree.{Tree}
use Rattle.wt_expand.specs.Work.{Refused}
use Rattle.wt_transclusion.specs.declared.refusal.ExpandRefusal.{ExpandRefusal}
use Rattle.wt_transclusion.specs.declared.refusal.ExpandRefusal.TheVariants as of_expansion
use Rattle.wt_transclusion.specs.Answers.{IsRefused}
use Rattle.wt_commands.specs.declared.output.Output.{Output}
use Rattle.wt_commands.specs.declared.refusal.Refusal.{Refusal}
use Rattle.wt_commands.specs.Answers.{Answer, refusal_of_page, expanded_by, edit_from, edit_to}
use Rattle.wt_commands.specs.Causes.{Answered, Refuses, refusal_of_expansion}

-- whatever is made of the expanded page, its refusal is the answer
expansion_refuses : (answer : Answer) (o : Option Refused) (e : ExpandRefusal) → IsRefused o e
    → Refuses (refusal_of_expansion e) (expanded_by answer o)
expansion_refuses answer o (of_expansion.BracesTooDeep title place) is = ap (expanded_by answer) is
expansion_refuses answer o of_expansion.TooLarge is = ap (expanded_by answer) is
expansion_refuses answer o of_expansion.FolderFault is = tt
expansion_refuses answer o (of_expansion.TemplateNotUtf8 title place) is = ap (expanded_by answer) is
expansion_refuses answer o (of_expansion.TemplateTooLong title) is = ap (expanded_by answer) is
expansion_refuses answer o of_expansion.NoMemory is = tt

pub edit_unexpanded : (pages : Pages) (page : List ℕ) (edited : Tree) (e : ExpandRefusal) (result : Result Output Refusal)
    → IsRefused (refusal_of_page pages page) e → IsErrAnd result (λ r. r ≡ refusal_of_expansion e)
    → Answered (edit_to pages page edited) result
edit_unexpanded pages page edited e (Ok output) is handed = absurd handed
edit_unexpanded pages page edited e (Err r) is handed =
    subst (λ x. Refuses x (edit_to pages page edited)) (sym handed)
    (expansion_refuses (edit_from pages page edited) (refusal_of_page pages page) e is)
