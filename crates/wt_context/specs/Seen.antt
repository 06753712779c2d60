-- The last two visible items as they are carried from item to item.
use Rattle.std.specs.Prelude.{ℕ, Option, Some, None, List, [], ◌∷◌, if◌then◌else◌}
use Rattle.wt_span.specs.Items.{Item, is_mark}
use Rattle.wt_context.specs.declared.seen.Seen.{Seen}
use Rattle.wt_context.specs.Chunks.{letter}

abbrev pub nothing_seen : Seen
nothing_seen = record { last = None; before = None }

abbrev pub seen_letter : Seen → Option ℕ → Seen
seen_letter s c = record { last = c; before = s.last }

-- one more item; a mark is none
abbrev pub after_item : Seen → Item → Seen
after_item s x = if is_mark x then s else seen_letter s (letter (Some x))

abbrev pub after_items : Seen → List Item → Seen
after_items s [] = s
after_items s (x ∷ xs) = after_items (after_item s x) xs

abbrev pub after_bytes : Seen → List ℕ → Seen
after_bytes s [] = s
after_bytes s (b ∷ bs) = after_bytes (seen_letter s (Some b)) bs
