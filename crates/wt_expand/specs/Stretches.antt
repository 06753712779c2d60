-- What the stretches of a page give, without where it comes from, and what they are made of.
use Rattle.std.specs.Prelude.{ℕ, List, [], ◌∷◌, ◌++◌}
use Rattle.wt_span.specs.Items.{Item, sources}
use Rattle.wt_expand.specs.PageCalls.{Stretch, own, outer, text_call}

-- the items, without their calls
abbrev pub given_items : List Stretch → List Item
given_items [] = []
given_items (own xs ∷ ss) = xs ++ given_items ss
given_items (outer c xs ∷ ss) = xs ++ given_items ss
given_items (text_call s ∷ ss) = given_items ss

-- what is on the page for them
abbrev pub page_bytes : List Stretch → List ℕ
page_bytes [] = []
page_bytes (own xs ∷ ss) = sources xs ++ page_bytes ss
page_bytes (outer c xs ∷ ss) = c.source ++ page_bytes ss
page_bytes (text_call s ∷ ss) = page_bytes ss
