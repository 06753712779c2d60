-- What the worked cases share whose paragraph begins or ends with a call.
use Rattle.std.proofs.Common.{arith, ◌≡◌, ◌<◌, ◌≤◌, ℕ, None, [], ◌∷◌, refl, ◌+◌, zero, suc, false}
use Rattle.wt_span.specs.Lexemes.{closed, words}
use Rattle.wt_span.specs.Braces.{reduced}
use Rattle.wt_expand.specs.Expansion.{text_members}
use Rattle.wt_expand.specs.PageCalls.{page_stretches}
use Rattle.wt_part_laws.specs.Expanded.{part_items}
use Rattle.wt_beside_laws.proofs.Groups.Cases.{a_word}
use Rattle.std.specs.Prelude.{codes}
use Rattle.wt_span.specs.Origins.{OuterCall}
use Rattle.wt_tree.specs.declared.kind.Kind.TheVariants as kind
use Rattle.wt_tree.specs.declared.kind.Mark.TheVariants as marks
use Rattle.wt_tree.specs.Tree.{Label, Tree, tree, Trees, none, more}

pub nothing : (i : ℕ) → part_items a_word i [] ≡ []
unfolding words closed text_members page_stretches reduced
nothing i = refl

-- the call from this byte on
abbrev pub called_at : ℕ → OuterCall
called_at at = record { start = at; source = codes "{{t}}"; argument = false; parts = (at + 2, at + 3) ∷ []; equals = None ∷ []; href = None }

abbrev pub a_label : Label
a_label = record { id = 0; kind = kind.Text; attrs = []; mw = None; shown = []; mark = marks.Nothing; ranges = None; opening = []; closing = []; own = []; origin = None }

abbrev pub nth : ℕ → Trees → Tree
nth n none = tree a_label none
nth zero (more t us) = t
nth (suc n) (more t us) = nth n us

pub none_behind : 5 ≤ 5
none_behind = omega arith

pub first_before : 0 < 2
first_before = omega arith

pub next_before : 5 < 6
next_before = omega arith
