-- What a piece adds to the text of a target, and what the title is that it says.
use Rattle.std.specs.Prelude.{◌≡◌, ℕ, Bool, true, false, None, Some, List, ◌&&◌, not, is_some}
use Rattle.std.specs.Str.{bytes_eq}
use Rattle.wt_names.specs.declared.title.Title.{Title}
use Rattle.wt_span.specs.declared.form.Piece.{Piece}
use Rattle.wt_span.specs.Items.{items_of}
use Rattle.wt_expand.specs.Texts.{target_text, both}
use Rattle.wt_expand.specs.Targets.{is_template}

-- what it says is appended; or it can't be in a target
abbrev pub PushesTarget : Piece → List ℕ → List ℕ → Bool → Type 0
PushesTarget p old new true = both (Some old) (target_text (items_of p)) ≡ Some new
PushesTarget p old new false = target_text (items_of p) ≡ None

-- the title is that of the template of this name, without a fragment
abbrev pub is_that_template : Title → List ℕ → Bool
is_that_template t name = is_template t.ns && (bytes_eq t.name name && not (is_some t.fragment))
