-- What parts hold, when each `nowiki` is opened.
use Rattle.std.proofs.Common.{◌≡◌, List, ◌++◌, ap, ◌∙◌}
use Rattle.wt_span.specs.Items.{Item}
use Rattle.wt_inline.specs.declared.loose.Loose.{Loose}
use Rattle.wt_inline.specs.Inside.{opened_all}
use Rattle.wt_inline.specs.Parts.{Part, held_parts, parts}
use Rattle.wt_inline.proofs.HeldLaws.{held_of_parts, held_append, opened_append}
use Rattle.wt_context.proofs.Opening.{opened_twice}

-- the items that parts hold, opened
abbrev pub kept_parts : List Part → List Item
kept_parts ps = opened_all (held_parts ps)

pub parts_append : (ps qs : List Part) → kept_parts (ps ++ qs) ≡ kept_parts ps ++ kept_parts qs
parts_append ps qs = ap opened_all (held_append ps qs) ∙ opened_append (held_parts ps) (held_parts qs)

pub parts_of : (k : Loose) (xs : List Item) → kept_parts (parts k xs) ≡ opened_all xs
parts_of k xs = ap opened_all (held_of_parts k xs) ∙ opened_twice xs
