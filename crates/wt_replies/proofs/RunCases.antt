-- Worked cases of words, and of what the clauses of `run` exclude.
use Rattle.std.proofs.Common.{arith, ◌≡◌, ℕ, ◌≤◌, List, [], ◌∷◌, Some, None, refl, sym, ◌∙◌}
use Rattle.std.specs.Prelude.{codes, Option, ◌≢◌}
use Rattle.wt_commands.specs.Calls.{Call}
use Rattle.wt_commands.specs.Statuses.{code}
use Rattle.wt_commands.specs.declared.status.Status.{Status}
use Rattle.wt_commands.specs.declared.status.Status.TheVariants.{Done, Usage, PageRefused, HtmlRefused, EditRefused, ReadFault, FolderFault, WriteFault, NoMemory}
use Rattle.wt_replies.specs.Runs.{Ran}
use Rattle.wt_replies.specs.Words.{word_by}

-- a word that is UTF-8 is itself, and one that isn't is the empty one
is_itself : word_by (codes "html") None ≡ codes "html"
is_itself = refl

is_empty : word_by (104 ∷ 255 ∷ []) (Some 1) ≡ []
is_empty = refl

-- no status has a number past 8
no_more : (s : Status) → 9 ≡ code s → ⊥
no_more Done e = cc
no_more Usage e = cc
no_more PageRefused e = cc
no_more HtmlRefused e = cc
no_more EditRefused e = cc
no_more ReadFault e = cc
no_more FolderFault e = cc
no_more WriteFault e = cc
no_more NoMemory e = cc

-- so no call ends with 9
never_nine : (c : Call) (before after : Option (List (List ℕ))) → Ran c 9 before after → ⊥
never_nine c before after r = no_more _ (r.ends.refused (λ e. no_more Done e) (λ e. no_more WriteFault e)).named
