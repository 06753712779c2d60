-- Paragraphs that come into prose and go from it, without marks, as a browser sends it.
use Rattle.std.specs.Prelude.{◌⊎◌, ℕ, None, List, [], ◌∷◌}
use Rattle.wt_tree.specs.declared.kind.Kind.TheVariants as kind
use Rattle.wt_tree.specs.Tree.{Label, Tree, tree, Trees, none, more}
use Rattle.wt_checks.specs.Kept.{children}
use Rattle.wt_difference.specs.Unedited.{IsUnedited}
use Rattle.wt_text_edit_laws.specs.ProseTrees.{prose_body}
use Rattle.wt_text_edit_laws.specs.ProseChanges.{PassageChange, stays, goes, ProseChange, passages_before, sent_before, sent_passages, new_texts, after_breaks, IsProseChange}

-- the edited tree: whatever mark is on the body
abbrev pub unmarked_change : Label → ProseChange → Tree
unmarked_change b c = tree (record b { kind = kind.Body; id = 0; attrs = []; mw = None }) (sent_before c.first (sent_passages c.changes))

-- what stays is the page's own in all that the difference looks at
abbrev pub AreOwn : List PassageChange → Trees → Type 0
AreOwn [] ts = Unit {0}
AreOwn (c ∷ cs) none = Unit {0}
AreOwn (stays p u xs ∷ cs) (more t ts) = IsUnedited t u × AreOwn cs (after_breaks p.breaks ts)
AreOwn (goes p ∷ cs) (more t ts) = AreOwn cs (after_breaks p.breaks ts)

-- there is a new one
abbrev pub SomeComes : List (List ℕ) → Type 0
SomeComes [] = ⊥
SomeComes (text ∷ texts) = Unit {0}

-- a new one comes after one that stays, or one goes
abbrev pub SomeChanges : List PassageChange → Type 0
SomeChanges [] = ⊥
SomeChanges (stays p u xs ∷ cs) = SomeComes (new_texts xs) ⊎ SomeChanges cs
SomeChanges (goes p ∷ cs) = Unit {0}

-- Such a change, in which something comes or goes.
pub record IsUnmarkedChange (c : ProseChange) : Type 0 where
  pub change : IsProseChange c
  pub own : AreOwn c.changes (children (prose_body (passages_before c.changes)))
  pub some : SomeComes (new_texts c.first) ⊎ SomeChanges c.changes
