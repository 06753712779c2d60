-- What is asked of the nodes of a paragraph or a heading beside what its page says of it.
use Rattle.std.specs.Prelude.{ℕ, List, [], ◌∷◌}
use Rattle.wt_guards.specs.Content.{ContentSign, letter, thing}
use Rattle.wt_text_edit_laws.specs.TextBetween.{HasEnds}

-- In the source of each node each comment that begins ends, and so does each tag of an extension, `<nowiki>` and `<includeonly>`.
abbrev pub AreEndedNodes : List ContentSign → Type 0
AreEndedNodes [] = Unit {0}
AreEndedNodes (letter c ∷ after) = AreEndedNodes after
AreEndedNodes (thing t ∷ after) = HasEnds t.source × AreEndedNodes after
