-- The HTML of a node by one level.
use Rattle.std.proofs.Common.{◌≡◌, ℕ, suc, Bool, false, ◌++◌, ap, ◌∙◌}
use Rattle.std.specs.Prelude.{if◌then◌else◌}
use Rattle.wt_tree.specs.declared.row.Writing.TheVariants.{AsSection, RoundCharacter, RoundChildren}
use Rattle.wt_tree.specs.Kinds.{writing}
use Rattle.wt_tree.specs.Plain.{ended, plains_before}
use Rattle.wt_tree.specs.Tiling.{is_group}
use Rattle.wt_schema.specs.Html.{start_tag, section_start, end_tag, round_character, written, group_html, html, html_of_all}
use Rattle.wt_tree.specs.declared.node.Node.{Node, out-Node}
use Rattle.wt_tree.specs.View.{label_of, view, views}
use Rattle.wt_tree.proofs.Views.{view_out}

html_level : (k : ℕ) (n : Node) → html k (view n)
    ≡ (if is_group (out-Node n).kind then group_html (suc k) (label_of (out-Node n)) (plains_before (views (out-Node n).children) ended)
    else written (writing (out-Node n).kind) (label_of (out-Node n)) (html_of_all k (views (out-Node n).children)))
html_level k n = rw (view_out n)

-- a node that is no group
other_html : (k : ℕ) (n : Node) → is_group (out-Node n).kind ≡ false
    → html k (view n) ≡ written (writing (out-Node n).kind) (label_of (out-Node n)) (html_of_all k (views (out-Node n).children))
other_html k n e =
    html_level k n
    ∙ ap (λ (b : Bool). if b then group_html (suc k) (label_of (out-Node n)) (plains_before (views (out-Node n).children) ended)
    else written (writing (out-Node n).kind) (label_of (out-Node n)) (html_of_all k (views (out-Node n).children))) e

pub html_children : (k : ℕ) (n : Node) → is_group (out-Node n).kind ≡ false → writing (out-Node n).kind ≡ RoundChildren
    → html k (view n) ≡ start_tag (label_of (out-Node n)) ++ (html_of_all k (views (out-Node n).children) ++ end_tag (label_of (out-Node n)))
html_children k n e f = other_html k n e ∙ ap (λ w. written w (label_of (out-Node n)) (html_of_all k (views (out-Node n).children))) f

pub html_character : (k : ℕ) (n : Node) → is_group (out-Node n).kind ≡ false → writing (out-Node n).kind ≡ RoundCharacter
    → html k (view n) ≡ round_character (label_of (out-Node n))
html_character k n e f = other_html k n e ∙ ap (λ w. written w (label_of (out-Node n)) (html_of_all k (views (out-Node n).children))) f

pub html_section : (k m : ℕ) (n : Node) → is_group (out-Node n).kind ≡ false → writing (out-Node n).kind ≡ AsSection m
    → html k (view n) ≡ section_start m ++ (html_of_all k (views (out-Node n).children) ++ end_tag (label_of (out-Node n)))
html_section k m n e f = other_html k n e ∙ ap (λ w. written w (label_of (out-Node n)) (html_of_all k (views (out-Node n).children))) f
