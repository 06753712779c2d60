-- A worked case of a group: `{{a}}x{{b}}`, where the first call gives two characters and the second one.
use Rattle.std.proofs.Common.{◌≡◌, refl, ℕ, false, List, [], ◌∷◌, Some, None}
use Rattle.std.specs.Prelude.{codes}
use Rattle.std.specs.List.{flat_map}
use Rattle.wt_span.specs.Items.{Item, char}
use Rattle.wt_span.specs.Origins.{OuterCall}
use Rattle.wt_span.specs.Cuts.{text_between}
use Rattle.wt_annotated.specs.GroupParts.{called, between, parts}
use Rattle.wt_page_laws.specs.GroupTexts.{page_text, calls_among}

abbrev call : ℕ → List ℕ → OuterCall
call start source = record { start = start; source = source; argument = false; parts = []; equals = []; href = None }

abbrev page_calls : List OuterCall
page_calls = call 0 (codes "{{a}}") ∷ call 6 (codes "{{b}}") ∷ []

abbrev items : List Item
items = char (Some 0) 112 ∷ char (Some 0) 113 ∷ char None 120 ∷ char (Some 1) 114 ∷ []

two_calls : parts page_calls items 0 4 ≡ called 0 ∷ between (codes "x") ∷ called 1 ∷ []
two_calls = refl

its_text : flat_map (page_text page_calls) (parts page_calls items 0 4) ≡ codes "{{a}}x{{b}}"
its_text = refl

on_page : text_between page_calls items 0 4 ≡ codes "{{a}}x{{b}}"
on_page = refl

-- behind the first call's first item no call begins up to the second
rest_alone : calls_among (parts page_calls items 1 3) ≡ 1 ∷ []
rest_alone = refl
