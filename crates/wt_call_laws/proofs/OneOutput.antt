-- What is written is one.
use Rattle.std.proofs.Common.{◌≡◌, ℕ, List, ◌++◌, Option, Some, None, sym, ap, ap₂, ◌∙◌}
use Rattle.wt_devices.specs.Device.{Pages}
use Rattle.wt_tree.specs.Source.{flat}
use Rattle.wt_tree.specs.Tree.{Tree}
use Rattle.wt_schema.specs.Read.{page as as_page}
use Rattle.wt_page_round_trip.specs.PageTree.{page_tree}
use Rattle.wt_commands.specs.Answers.{page_output}
use Rattle.wt_commands.specs.Reports.{WroteEdit, WrotePage, WroteSource, new_page}
use Rattle.wt_commands.specs.declared.command.PageCommand.{PageCommand}

one_some : (o : Option (List ℕ)) (x y : List ℕ) → o ≡ Some x → o ≡ Some y → x ≡ y
one_some None x y e f = cc
one_some (Some z) x y e f = cc

trees_same : (t t' : Tree) (u u' : Option ℕ) → as_page t u ≡ as_page t' u' → t ≡ t'
trees_same t t' u u' e = cc

pub one_page_written : (of : PageCommand) → (pages : Pages) → (title old new other : List ℕ) → WrotePage of pages title (Some old) (Some new)
    → WrotePage of pages title (Some old) (Some other) → new ≡ other
one_page_written of pages title old new other f g =
    let p = one_some (pages title) f.page g.page f.found g.found in
    f.wrote ∙ ap (λ (x : List ℕ). old ++ page_output of x (page_tree pages x)) p ∙ sym g.wrote

pub one_source_written : (input old new other : List ℕ) → (left : Option (List ℕ)) → WroteSource input left (Some old) (Some new)
    → WroteSource input left (Some old) (Some other) → new ≡ other
one_source_written input old new other left f g =
    let t = trees_same f.tree g.tree None None (sym f.reads ∙ g.reads) in
    f.wrote ∙ ap (λ (x : Tree). old ++ flat x) t ∙ sym g.wrote

pub one_edit_written : (pages : Pages) → (title input old new other : List ℕ) → (left : Option (List ℕ)) → WroteEdit pages title input left (Some old) (Some new)
    → WroteEdit pages title input left (Some old) (Some other) → new ≡ other
one_edit_written pages title input old new other left f g =
    let p = one_some (pages title) f.page g.page f.found g.found in
    let t = trees_same f.edited g.edited f.unsourced g.unsourced (sym f.reads ∙ g.reads) in
    f.wrote ∙ ap₂ (λ (x : List ℕ) (y : Tree). old ++ new_page pages x y) p t ∙ sym g.wrote
